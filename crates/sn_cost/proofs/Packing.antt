-- The tuples of a window that are alike, branch by branch.
use Rattle.std.proofs.Common.{◌≡◌, ℕ, zero, suc, ◌+◌, ◌<◌, List, [], ◌∷◌, ◌++◌, length, get_or, slice_get, Option, Some, ap, sym, subst, ◌∙◌, arith}
use Rattle.std.proofs.lemmas.List.{length-append}
use Rattle.sn_base.proofs.Lists.{none_some, some_same}
use Rattle.sn_cost_counts.specs.Standing.{ArePacked, IsPacked}
use Rattle.sn_cost_tally.specs.declared.firsts.Firsts.{Firsts}
use Rattle.sn_types.specs.declared.typed_query.TypedQuery.{TypedQuery}

-- what is read at a place is there
pub read_at : {X : Type 0} (xs : List X) (i : ℕ) (x : X) → i < length xs → x ≡ get_or xs i x → slice_get xs i ≡ Some x
read_at [] i x lt is = absurd (omega (arith, lt))
read_at (y ∷ ys) zero x lt is = ap Some (sym is)
read_at (y ∷ ys) (suc i) x lt is = read_at ys i x (omega (arith, lt)) is

-- the first branches have theirs
pub record ArePackedSoFar (query : TypedQuery) (tuples : List (List ℕ)) (n : ℕ) (packed : List (Option Firsts)) : Type 0 where
  pub long : length packed ≡ n
  pub each : (b : ℕ) (p : Option Firsts) → slice_get packed b ≡ Some p → IsPacked query b tuples p

pub none_packed : (query : TypedQuery) (tuples : List (List ℕ)) (packed : List (Option Firsts)) → packed ≡ [] → ArePackedSoFar query tuples 0 packed
none_packed query tuples packed none = record { long = ap length none; each = λ b p is. absurd (none_some (sym (ap (λ (ps : List (Option Firsts)). slice_get ps b) none) ∙ is)) }

last_or_before : (query : TypedQuery) (tuples : List (List ℕ)) (packed : List (Option Firsts)) (n m : ℕ) (new : Option Firsts) → n ≡ m + length packed → IsPacked query n tuples new
    → ((b : ℕ) (p : Option Firsts) → slice_get packed b ≡ Some p → IsPacked query (m + b) tuples p) → (b : ℕ) (p : Option Firsts) → slice_get (packed ++ new ∷ []) b ≡ Some p → IsPacked query (m + b) tuples p
last_or_before query tuples [] n m new at is each zero p found =
    let e : n ≡ m + 0 = omega (arith, at) in
    subst (λ (x : Option Firsts). IsPacked query (m + 0) tuples x) (some_same new p found) (subst (λ k. IsPacked query k tuples new) e is)
last_or_before query tuples [] n m new at is each (suc b) p found = absurd (none_some found)
last_or_before query tuples (q ∷ packed) n m new at is each zero p found = each zero p found
last_or_before query tuples (q ∷ packed) n m new at is each (suc b) p found =
    let e : (k : ℕ) → suc m + k ≡ m + suc k = λ k. omega arith in
    subst (λ k. IsPacked query k tuples p) (e b)
    (last_or_before query tuples packed n (suc m) new (omega (arith, at)) is (λ k x found. subst (λ j. IsPacked query j tuples x) (sym (e k)) (each (suc k) x found)) b p found)

pub one_packed : (query : TypedQuery) (tuples : List (List ℕ)) (n : ℕ) (packed more : List (Option Firsts)) (new : Option Firsts) → ArePackedSoFar query tuples n packed → IsPacked query n tuples new → more ≡ packed ++ new ∷ [] → ArePackedSoFar query tuples (n + 1) more
one_packed query tuples n packed more new h is grown =
    let long = h.long in
    let all : (b : ℕ) (p : Option Firsts) → slice_get (packed ++ new ∷ []) b ≡ Some p → IsPacked query (0 + b) tuples p =
    last_or_before query tuples packed n 0 new (omega (arith, long)) is (λ b p found. let e : b ≡ 0 + b = omega arith in subst (λ k. IsPacked query k tuples p) e (h.each b p found)) in
    subst (ArePackedSoFar query tuples (n + 1)) (sym grown)
    (record {
      long = let a = length-append packed (new ∷ []) in omega (arith, a, long);
      each = λ b p found. let e : 0 + b ≡ b = omega arith in subst (λ k. IsPacked query k tuples p) e (all b p found);
    })

pub all_packed : (query : TypedQuery) (tuples : List (List ℕ)) (n : ℕ) (packed : List (Option Firsts)) → n ≡ length query.branches → ArePackedSoFar query tuples n packed → ArePacked query tuples packed
all_packed query tuples n packed is h = record { long = h.long ∙ is; each = h.each }
