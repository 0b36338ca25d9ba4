-- Lines, and what is left of a text without its lines of events.
use Rattle.std.proofs.Common.{◌≡◌, ℕ, zero, suc, ◌+◌, ◌<◌, ◌/◌, ◌%◌, Bool, true, false, cond, not, ◌&&◌, ◌==◌, List, [], ◌∷◌, ◌++◌, refl, ap, sym, ◌∙◌, append_assoc, append-nil, arith}
use Rattle.std.specs.Fmt.{decimal, digit_glyph, digits, digits_onto}
use Rattle.std.specs.List.{flat_map, list_all}
use Rattle.std.proofs.lemmas.Bool.{lt-ltb, ne_eqb}
use Rattle.sn_base.proofs.Lists.{by_test, and_parts}
use Rattle.sn_top_laws.specs.Events.{is_event, lines_in, unless_event, without_events}
use Rattle.sn_text_rules.proofs.Choices.{is_no}

-- ---- tests of characters

abbrev pub no_feed : ℕ → Bool
no_feed c = not (c == 10)

-- `v`, the second letter of a line of an event; its first one is a hexadecimal digit too
abbrev pub no_start : ℕ → Bool
no_start c = not (118 == c)

pub all_both : (test : ℕ → Bool) (xs ys : List ℕ) → list_all test xs ≡ true → list_all test ys ≡ true → list_all test (xs ++ ys) ≡ true
all_both test [] ys e f = f
all_both test (x ∷ xs) ys e f = let k = and_parts (test x) (list_all test xs) e in rw k.0 (all_both test xs ys k.1 f)

-- ---- the digits of a number

module _ (test : ℕ → Bool) (passes : (d : ℕ) → d < 10 → test (48 + d) ≡ true) where
  digit_passes : (d : ℕ) → d < 10 → test (digit_glyph false d) ≡ true
  digit_passes d few = rw (lt-ltb d 10 few) (passes d few)

  last_passes : (n : ℕ) → test (digit_glyph false (n % 10)) ≡ true
  last_passes n = digit_passes (n % 10) (omega arith)

  onto_passes : (k n : ℕ) (acc : List ℕ) → list_all test acc ≡ true → list_all test (digits_onto k 10 false n acc) ≡ true
  onto_passes zero n acc e = e
  onto_passes (suc k) n acc e =
      by_test (n / 10 == 0)
      (λ is. rw (is, last_passes n) e)
      (λ isnt. rw isnt (onto_passes k (n / 10) (digit_glyph false (n % 10) ∷ acc) (rw (last_passes n) e)))

  pub decimal_passes : (n : ℕ) → list_all test (decimal n) ≡ true
  unfolding digits
  decimal_passes n = onto_passes 64 n [] refl

pub digit_feeds : (d : ℕ) → d < 10 → no_feed (48 + d) ≡ true
digit_feeds d few = ap not (ne_eqb (48 + d) 10 (λ e. omega arith))

pub digit_starts : (d : ℕ) → d < 10 → no_start (48 + d) ≡ true
digit_starts d few = ap not (ne_eqb 118 (48 + d) (λ e. omega arith))

-- ---- one line

abbrev pub starts_plain : List ℕ → Bool
starts_plain [] = true
starts_plain (c ∷ []) = true
starts_plain (c ∷ d ∷ ds) = no_start d

lines_line : (xs rest : List ℕ) → list_all no_feed xs ≡ true → lines_in (xs ++ 10 ∷ rest) ≡ (xs ++ 10 ∷ []) ∷ lines_in rest
lines_line [] rest e = refl
lines_line (c ∷ xs) rest e =
    let k = and_parts (no_feed c) (list_all no_feed xs) e in
    rw (is_no (c == 10) k.0, lines_line xs rest k.1) refl

none_after : (b : Bool) → (b && false) ≡ false
none_after true = refl
none_after false = refl

not_event : (xs : List ℕ) → starts_plain xs ≡ true → is_event (xs ++ 10 ∷ []) ≡ false
not_event [] e = refl
not_event (c ∷ []) e = none_after (101 == c)
not_event (c ∷ d ∷ ds) e = rw (is_no (118 == d) e) (none_after (101 == c))

-- ---- parts of texts

-- what is left of a part, whatever follows it
abbrev pub Leaves : List ℕ → List ℕ → Type 0
Leaves part left = (rest : List ℕ) → without_events (part ++ rest) ≡ left ++ without_events rest

-- all of it is left
abbrev pub Stays : List ℕ → Type 0
Stays part = Leaves part part

pub line_stays : (xs : List ℕ) → list_all no_feed xs ≡ true → starts_plain xs ≡ true → Stays (xs ++ 10 ∷ [])
line_stays xs e s rest =
    ap without_events (append_assoc xs (10 ∷ []) rest)
    ∙ ap (λ (lines : List (List ℕ)). flat_map unless_event lines) (lines_line xs rest e)
    ∙ ap (λ b. cond b [] (xs ++ 10 ∷ []) ++ without_events rest) (not_event xs s)

pub line_goes : (xs : List ℕ) → list_all no_feed xs ≡ true → is_event (xs ++ 10 ∷ []) ≡ true → Leaves (xs ++ 10 ∷ []) []
line_goes xs e s rest =
    ap without_events (append_assoc xs (10 ∷ []) rest)
    ∙ ap (λ (lines : List (List ℕ)). flat_map unless_event lines) (lines_line xs rest e)
    ∙ ap (λ b. cond b [] (xs ++ 10 ∷ []) ++ without_events rest) s

pub none_leaves : Leaves [] []
none_leaves rest = refl

pub both_leave : (a b c d : List ℕ) → Leaves a b → Leaves c d → Leaves (a ++ c) (b ++ d)
both_leave a b c d f g rest =
    ap without_events (append_assoc a c rest) ∙ f (c ++ rest) ∙ ap (λ (ts : List ℕ). b ++ ts) (g rest) ∙ sym (append_assoc b d (without_events rest))

pub both_stay : (a b : List ℕ) → Stays a → Stays b → Stays (a ++ b)
both_stay a b f g = both_leave a a b b f g

pub each_leaves : {X : Type 0} (f g : X → List ℕ) → ((x : X) → Leaves (f x) (g x)) → (xs : List X) → Leaves (flat_map f xs) (flat_map g xs)
each_leaves f g h [] = none_leaves
each_leaves f g h (x ∷ xs) = both_leave (f x) (g x) (flat_map f xs) (flat_map g xs) (h x) (each_leaves f g h xs)

pub each_goes : {X : Type 0} (f : X → List ℕ) → ((x : X) → Leaves (f x) []) → (xs : List X) → Leaves (flat_map f xs) []
each_goes f h [] = none_leaves
each_goes f h (x ∷ xs) = both_leave (f x) [] (flat_map f xs) [] (h x) (each_goes f h xs)

pub whole_leaves : (a b : List ℕ) → Leaves a b → without_events a ≡ b
whole_leaves a b h = ap without_events (sym (append-nil a)) ∙ h [] ∙ append-nil b
