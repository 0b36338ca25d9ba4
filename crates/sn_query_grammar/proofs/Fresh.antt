-- A name that is none of those seen, and keeps the limits on names.
use Rattle.std.proofs.Common.{◌≡◌, ℕ, zero, suc, ◌≤◌, Bool, true, false, cond, List, [], ◌∷◌, length, Option, Some, None, refl, ap, arith, inl, inr}
use Rattle.std.specs.Prelude.{nat_lt, ◌==◌, ◌||◌, ◌&&◌}
use Rattle.std.specs.List.{list_any}
use Rattle.std.proofs.lemmas.Bool.{eqb-true}
use Rattle.std.proofs.lemmas.Bool.Decides.{nat_tests}
use Rattle.sn_text_rules.specs.declared.Flaw.{Flaw}
use Rattle.sn_text_rules.specs.declared.Flaw.TheVariants.{Expected, TooMany, Twice}
use Rattle.sn_text_rules.specs.Tokens.{word}
use Rattle.sn_text_rules.specs.Words.{same, word_in}
use Rattle.sn_text_rules.proofs.Common.{either_way}
use Rattle.sn_text_rules.proofs.Starts.{Able, leaf_able}
use Rattle.sn_query_grammar.specs.Names.{is_keyword, name_test, name_not}
use Rattle.sn_base.proofs.Tests.{and_false_right, and_false_left}

-- ---- a word apart from others

-- of the letters x and y one that doesn't begin the word
other : List ℕ → ℕ
other [] = 120
other (b ∷ w) = cond (b == 120) 121 120

after_first : List ℕ → List ℕ
after_first [] = []
after_first (b ∷ w) = w

following : ℕ → List ℕ → List ℕ
following zero w = w
following (suc n) w = after_first (following n w)

-- At each place stands another letter than in the word at that place of the list. The places are counted from n.
apart : ℕ → List (List ℕ) → List ℕ
apart n [] = []
apart n (w ∷ ws) = other (following n w) ∷ apart (suc n) ws

other_letter : (b : ℕ) (c : Bool) → (b == 120) ≡ c → (cond c 121 120 == b) ≡ false
other_letter b true e = let h : b ≡ 120 = eqb-true b 120 e in rw h refl
other_letter b false e = elim (either_way (120 == b)) [
  | inl h ↦ (let k : 120 ≡ b = eqb-true 120 b h in let j : false ≡ true = rw (← e, ← k) refl in absurd cc)
  | inr h ↦ h
]

other_differs : (v d : List ℕ) → same (other v ∷ d) v ≡ false
unfolding other
other_differs [] d = refl
other_differs (b ∷ v) d = and_false_left (cond (b == 120) 121 120 == b) (same d v) (other_letter b (b == 120) refl)

tail_differs : (x : ℕ) (d v : List ℕ) → same d (after_first v) ≡ false → same (x ∷ d) v ≡ false
unfolding after_first
tail_differs x d [] h = refl
tail_differs x d (b ∷ v) h = and_false_right (x == b) (same d v) h

none_longer : (x : ℕ) (d : List ℕ) (n : ℕ) (ws : List (List ℕ)) → list_any (λ w. same d (following (suc n) w)) ws ≡ false → list_any (λ w. same (x ∷ d) (following n w)) ws ≡ false
unfolding following
none_longer x d n [] h = refl
none_longer x d n (w ∷ ws) h =
    let k = or_false (same d (after_first (following n w))) (list_any (λ w. same d (following (suc n) w)) ws) h in
    rw (tail_differs x d (following n w) k.0, none_longer x d n ws k.1) refl
  where
    or_false : (a b : Bool) → (a || b) ≡ false → (a ≡ false) × (b ≡ false)
    or_false true b e = absurd cc
    or_false false b e = (refl, e)

none_same : (n : ℕ) (ws : List (List ℕ)) → list_any (λ w. same (apart n ws) (following n w)) ws ≡ false
unfolding apart
none_same n [] = refl
none_same n (w ∷ ws) = rw (other_differs (following n w) (apart (suc n) ws), none_longer (other (following n w)) (apart (suc n) ws) n ws (none_same (suc n) ws)) refl

apart_length : (n : ℕ) (ws : List (List ℕ)) → length (apart n ws) ≡ length ws
unfolding apart
apart_length n [] = refl
apart_length n (w ∷ ws) = ap (λ (k : ℕ). suc k) (apart_length (suc n) ws)

-- ---- a name

abbrev fresh : List (List ℕ) → List ℕ
fresh seen = 120 ∷ apart 1 seen

not_seen : (seen : List (List ℕ)) → list_any (same (fresh seen)) seen ≡ false
unfolding apart following other
not_seen seen = none_same 0 ([] ∷ seen)

abbrev some_flaw : Flaw → Option Flaw
some_flaw x = Some x

abbrev no_flaw : Option Flaw
no_flaw = None

passes : (k m n : Bool) → k ≡ false → m ≡ false → n ≡ false → cond k (some_flaw Expected) (cond m (some_flaw TooMany) (cond n (some_flaw Twice) no_flaw)) ≡ None
passes k m n e f g = rw (e, f, g) refl

not_empty : (n : ℕ) → (suc n == 0) ≡ false
not_empty n = elim (either_way (suc n == 0)) [
  | inl h ↦ absurd (omega (arith, eqb-true (suc n) 0 h))
  | inr h ↦ h
]

is_name : (d : List ℕ) → (is_keyword (120 ∷ d) || (length (120 ∷ d) == 0)) ≡ false
is_name d = not_empty (length d)

short_name : (n : ℕ) → n ≤ 31 → nat_lt 32 (suc n) ≡ false
short_name n h = grind (arith, nat_tests)

fresh_passes : (seen : List (List ℕ)) → length seen ≤ 31 → name_test seen (fresh seen) ≡ None
fresh_passes seen h = passes (is_keyword (fresh seen) || (length (fresh seen) == 0)) (nat_lt 32 (length (fresh seen))) (list_any (same (fresh seen)) seen) (is_name (apart 1 seen)) (short_name (length (apart 1 seen)) (omega (arith, apart_length 1 seen))) (not_seen seen)

-- as there are few names in a list, one more that is apart from them exists
pub name_able : (seen : List (List ℕ)) → length seen ≤ 31 → Able (name_not seen)
name_able seen h = leaf_able word word_in (name_test seen) (fresh seen) (fresh_passes seen h)
