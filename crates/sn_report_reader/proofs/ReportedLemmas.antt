-- What a call does to a file whose contents are known.
use Rattle.std.proofs.Common.{◌≡◌, ℕ, zero, suc, inl, inr, ◌+◌, ◌-◌, ◌<◌, ◌≤◌, ◌^◌, ◌↔◌, nat_lt, Bool, true, false, List, ◌++◌, Option, None, Some, IfSome, length, take, drop, min, refl, ap, sym, ◌∙◌, arith, append_assoc}
use Rattle.std.proofs.lemmas.Bool.{cases_lt, true≢false, ltb-true, lt-ltb}
use Rattle.std.proofs.lemmas.List.{drop-drop, drop-take, length-append, length-drop, length-take, take-append-drop, take-take}
use Rattle.sn_report_reader.specs.Within.{within}
use Rattle.sn_report_reader.specs.Reading.{Follows, ReaderState, place_of}

long_within : (file : List ℕ) → length (within file) ≡ min (2 ^ 30) (length file)
long_within file = length-take (2 ^ 30) file

-- whether a byte was read past those that are
pub past_is : (reported : Option (List ℕ)) (count : ℕ) → IfSome reported (λ file. (count ≡ 0) ↔ (length file ≤ 2 ^ 30)) → IfSome reported (λ file. (nat_lt 0 count ≡ true) ↔ (2 ^ 30 < length file))
past_is None count none = tt
past_is (Some file) count none = (
  λ some. let n = ltb-true 0 count some in past n (λ few. omega (arith, none.1 few, n)),
  λ large. lt-ltb 0 count (least count (λ zero. omega (arith, none.0 zero, large))),
)
  where
    past : 0 < count → (length file ≤ 2 ^ 30 → ⊥) → 2 ^ 30 < length file
    past n large = elim (cases_lt (2 ^ 30) (length file)) [
      | inl is ↦ is
      | inr few ↦ absurd (large few)
    ]

    least : (n : ℕ) → (n ≡ 0 → ⊥) → 0 < n
    least zero some = absurd (some refl)
    least (suc n) some = omega arith

module _ (reported : Option (List ℕ)) (s : ReaderState) where
  -- the file has no byte past those that are read, and all of them are held
  pub ends_full : (past : Bool) → place_of s ≡ 2 ^ 30 → past ≡ false → IfSome reported (λ file. (past ≡ true) ↔ (2 ^ 30 < length file))
      → IfSome reported (λ file. Follows file s → (place_of s ≡ length file) × (length file ≤ 2 ^ 30))
  ends_full past full none is = of reported is
    where
      few : (file : List ℕ) → (2 ^ 30 < length file → past ≡ true) → length file ≤ 2 ^ 30
      few file large = elim (cases_lt (2 ^ 30) (length file)) [
        | inl more ↦ absurd (true≢false (sym (large more) ∙ none))
        | inr is ↦ is
      ]

      of : (reported : Option (List ℕ)) → IfSome reported (λ file. (past ≡ true) ↔ (2 ^ 30 < length file)) → IfSome reported (λ file. Follows file s → (place_of s ≡ length file) × (length file ≤ 2 ^ 30))
      of None is = tt
      of (Some file) is = λ f. let most = few file is.1 in let within_file = f.within_file in (omega (arith, within_file, full, most, long_within file), most)

  -- it has one
  pub goes_on_past : (past : Bool) → place_of s ≡ 2 ^ 30 → past ≡ true → IfSome reported (λ file. (past ≡ true) ↔ (2 ^ 30 < length file))
      → IfSome reported (λ file. Follows file s → (place_of s ≡ 2 ^ 30) × (2 ^ 30 < length file))
  goes_on_past past full more is = of reported is
    where
      of : (reported : Option (List ℕ)) → IfSome reported (λ file. (past ≡ true) ↔ (2 ^ 30 < length file)) → IfSome reported (λ file. Follows file s → (place_of s ≡ 2 ^ 30) × (2 ^ 30 < length file))
      of None is = tt
      of (Some file) is = λ f. (full, is.0 more)

  -- no byte stands after those that are held
  pub ends_here : (count place : ℕ) → place ≡ place_of s → place < 2 ^ 30 → count ≡ 0 → IfSome reported (λ file. (count ≡ 0) ↔ (length file ≤ place))
      → IfSome reported (λ file. Follows file s → (place_of s ≡ length file) × (length file ≤ 2 ^ 30))
  ends_here count place at lt nothing none = of reported none
    where
      of : (reported : Option (List ℕ)) → IfSome reported (λ file. (count ≡ 0) ↔ (length file ≤ place)) → IfSome reported (λ file. Follows file s → (place_of s ≡ length file) × (length file ≤ 2 ^ 30))
      of None none = tt
      of (Some file) none = λ f. let few = none.0 nothing in let within_file = f.within_file in (omega (arith, within_file, few, at, lt, long_within file), omega (arith, few, lt))

  -- more of the file is held
  pub follows_more : (count place : ℕ) (read more : List ℕ) → place ≡ place_of s → place + count ≤ 2 ^ 30 → more ≡ s.held ++ read → IfSome reported (λ file. read ≡ take count (drop place file)) → IfSome reported (λ file. count ≤ length file - place)
      → IfSome reported (λ file. Follows file s → Follows file (record { offset = s.offset; held = more }))
  follows_more count place read more at most is bytes stand = of reported bytes stand
    where
      of : (reported : Option (List ℕ)) → IfSome reported (λ file. read ≡ take count (drop place file)) → IfSome reported (λ file. count ≤ length file - place) → IfSome reported (λ file. Follows file s → Follows file (record { offset = s.offset; held = more }))
      of None bytes stand = tt
      of (Some file) bytes stand =
          λ f.
          let rest : List ℕ = drop (place_of s) (within file) in
          let split : rest ≡ take (2 ^ 30 - place_of s) (drop (place_of s) file) =
          ap (λ (n : ℕ). drop (place_of s) (take n file)) (let e : 2 ^ 30 ≡ place_of s + (2 ^ 30 - place_of s) = omega (arith, at, most) in e) ∙ drop-take (place_of s) (2 ^ 30 - place_of s) file in
          let front : take count rest ≡ read =
          ap (take count) split ∙ take-take count (2 ^ 30 - place_of s) (drop (place_of s) file) (omega (arith, at, most)) ∙ ap (λ (n : ℕ). take count (drop n file)) (sym at) ∙ sym bytes in
          let long : length read ≡ count = ap length bytes ∙ length-take count (drop place file) ∙ (let e : min count (length (drop place file)) ≡ count = omega (arith, stand, length-drop place file) in e) in
          let longer : length more ≡ length s.held + count = ap length is ∙ length-append s.held read ∙ ap (λ (n : ℕ). length s.held + n) long in
          record {
            within_file = omega (arith, longer, at, most, stand, long_within file);
            held = f.held ∙ ap (λ (xs : List ℕ). s.held ++ xs) (sym (take-append-drop count rest)) ∙ sym (append_assoc s.held (take count rest) (drop count rest))
                ∙ ap (λ (xs : List ℕ). (s.held ++ xs) ++ drop count rest) front
                ∙ ap (λ (xs : List ℕ). xs ++ drop count rest) (sym is)
                ∙ ap (λ (xs : List ℕ). more ++ xs) (drop-drop count (place_of s) (within file) ∙ ap (λ (n : ℕ). drop n (within file)) (let e : place_of s + count ≡ s.offset + length more = omega (arith, longer) in e));
          }
