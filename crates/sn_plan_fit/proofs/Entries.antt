-- Entries are those of the queries exactly where no path is at fault.
use Rattle.std.proofs.Common.{◌≡◌, ℕ, ◌+◌, ◌<◌, List, [], ◌∷◌, map, Bool, true, false, ◌&&◌, nat_lt, cond, Option, Some, None, refl, ap, sym, ◌∙◌, arith}
use Rattle.std.specs.Prelude.{◌↔◌, ◌==◌}
use Rattle.std.specs.List.{AllByRecursion, list_all}
use Rattle.sn_base.proofs.FoldedLemmas.{same_row_exact}
use Rattle.sn_base.proofs.GroupLemmas.{same_self}
use Rattle.sn_base.proofs.Lists.{all_weaker}
use Rattle.sn_plan_grammar.specs.declared.plan.Entry.{Entry}
use Rattle.sn_plan_grammar.specs.declared.plan.Piece.{Piece}
use Rattle.sn_types.specs.declared.typed_query.TypedQuery.{TypedQuery}
use Rattle.sn_types_faults.specs.Names.{same_name}
use Rattle.sn_plan_fit.specs.declared.misfit.Misfit.{Misfit}
use Rattle.sn_base.specs.Rising.{IsRising}
use Rattle.sn_plan_fit.specs.Paths.{rises, rises_from, is_among, last_of, same_level, is_path, Place, piece_place, places, is_at, are_at, is_entry, wrong_entry, path_misfit}
use Rattle.sn_plan_fit.specs.Fits.{IsPath, IsEntryOf, AreEntriesOf}
use Rattle.sn_plan_fit.proofs.Tests.{both, then, and_true, all_true, is_below, is_equal}

-- ---- the path

above : (n m : ℕ) (ms : List ℕ) → n < m → AllByRecursion (λ q. m < q) ms → AllByRecursion (λ q. n < q) ms
above n m ms l h = all_weaker (λ (q : ℕ). m < q) (λ q. n < q) (λ q k. omega (arith, l, k)) ms h

rising_from : (n : ℕ) (ms : List ℕ) → rises_from n ms ≡ true → AllByRecursion (λ q. n < q) ms × IsRising ms
rising_from n [] e = (tt, tt)
rising_from n (m ∷ ms) e =
    let parts = (and_true (nat_lt n m) (rises_from m ms)).0 e in
    let here = (is_below n m).0 parts.0 in
    let rest = rising_from m ms parts.1 in
    ((here, above n m ms here rest.0), rest)

from_rising : (n : ℕ) (ms : List ℕ) → AllByRecursion (λ q. n < q) ms → IsRising ms → rises_from n ms ≡ true
from_rising n [] a h = refl
from_rising n (m ∷ ms) a h = (and_true (nat_lt n m) (rises_from m ms)).1 ((is_below n m).1 a.0, from_rising m ms h.0 h.1)

rising_is : (ns : List ℕ) → (rises ns ≡ true) ↔ IsRising ns
rising_is [] = (λ e. tt, λ h. refl)
rising_is (n ∷ ns) = (λ e. rising_from n ns e, λ h. from_rising n ns h.0 h.1)

level_is : (a b : Option ℕ) → (same_level a b ≡ true) ↔ ((level : ℕ) × (a ≡ Some level) × (b ≡ Some level))
level_is None b = (λ e. cc, λ h. let k : None ≡ Some h.0 = h.1 in cc)
level_is (Some n) None = (λ e. cc, λ h. let k : None ≡ Some h.0 = h.2 in cc)
level_is (Some n) (Some m) = (λ e. (m, ap (λ (k : ℕ). Some k) ((is_equal n m).0 e), refl), λ h. (is_equal n m).1 (same h.0 h.1 h.2))
  where
    same : (level : ℕ) → Some n ≡ Some level → Some m ≡ Some level → n ≡ m
    same level a b = cc

path_is : (levels path : List ℕ) → (is_path levels path ≡ true) ↔ IsPath levels path
path_is levels path = (
  λ e. let a = (and_true (rises path && list_all (is_among levels) path) (same_level (last_of path) (last_of levels))).0 e in
      let b = (and_true (rises path) (list_all (is_among levels) path)).0 a.0 in
      record { rising = (rising_is path).0 b.0; known = (all_true (is_among levels) path).0 b.1; finest = (level_is (last_of path) (last_of levels)).0 a.1 },
  λ h. (and_true (rises path && list_all (is_among levels) path) (same_level (last_of path) (last_of levels))).1
      ((and_true (rises path) (list_all (is_among levels) path)).1 ((rising_is path).1 h.rising, (all_true (is_among levels) path).1 h.known), (level_is (last_of path) (last_of levels)).1 h.finest),
)

-- ---- the pieces

place_is : (x : Place) (p : Piece) → (is_at x p ≡ true) ↔ (piece_place p ≡ x)
place_is x p = (
  λ e. let parts = (and_true (p.level == x.0) (p.branch == x.1)).0 e in
      let a : p.level ≡ x.0 = (is_equal p.level x.0).0 parts.0 in
      let b : p.branch ≡ x.1 = (is_equal p.branch x.1).0 parts.1 in
      rw (a, b) refl,
  λ e. (and_true (p.level == x.0) (p.branch == x.1)).1 ((is_equal p.level x.0).1 (ap (λ (y : Place). y.0) e), (is_equal p.branch x.1).1 (ap (λ (y : Place). y.1) e)),
)

cons_same : {X : Type 0} (x y : X) (xs ys : List X) → x ∷ xs ≡ y ∷ ys → (x ≡ y) × (xs ≡ ys)
cons_same x y xs ys e = (cc, cc)

pieces_are : (xs : List Place) (ps : List Piece) → (are_at xs ps ≡ true) ↔ (map piece_place ps ≡ xs)
pieces_are [] [] = (λ e. refl, λ e. refl)
pieces_are [] (p ∷ ps) = (λ e. cc, λ e. cc)
pieces_are (x ∷ xs) [] = (λ e. cc, λ e. cc)
pieces_are (x ∷ xs) (p ∷ ps) = (
  λ e. let parts = (and_true (is_at x p) (are_at xs ps)).0 e in
      let a : piece_place p ≡ x = (place_is x p).0 parts.0 in
      let b : map piece_place ps ≡ xs = (pieces_are xs ps).0 parts.1 in
      rw (a, b) refl,
  λ e. let parts = cons_same (piece_place p) x (map piece_place ps) xs e in
      (and_true (is_at x p) (are_at xs ps)).1 ((place_is x p).1 parts.0, (pieces_are xs ps).1 parts.1),
)

-- ---- entries

name_is : (a b : List ℕ) → (same_name a b ≡ true) ↔ (a ≡ b)
name_is a b = (λ e. same_row_exact a b e, λ e. ap (same_name a) (sym e) ∙ same_self a)

pub entry_is : (q : TypedQuery) (e : Entry) → (is_entry q e ≡ true) ↔ IsEntryOf q e
entry_is q e = (
  λ h. let a = (and_true (same_name e.name q.name && is_path q.levels e.levels) (are_at (places q.branches e.levels) e.pieces)).0 h in
      let b = (and_true (same_name e.name q.name) (is_path q.levels e.levels)).0 a.0 in
      record { name = (name_is e.name q.name).0 b.0; path = (path_is q.levels e.levels).0 b.1; pieces = (pieces_are (places q.branches e.levels) e.pieces).0 a.1 },
  λ h. (and_true (same_name e.name q.name && is_path q.levels e.levels) (are_at (places q.branches e.levels) e.pieces)).1
      ((and_true (same_name e.name q.name) (is_path q.levels e.levels)).1 ((name_is e.name q.name).1 h.name, (path_is q.levels e.levels).1 h.path), (pieces_are (places q.branches e.levels) e.pieces).1 h.pieces),
)

next_entry : (b : Bool) (n : ℕ) (following : Option Misfit) → (cond b following (wrong_entry n) ≡ None) ↔ ((b ≡ true) × (following ≡ None))
next_entry true n following = (λ e. (refl, e), λ e. e.1)
next_entry false n following = (λ e. cc, λ e. cc)

pub entries_are : (n : ℕ) (qs : List TypedQuery) (es : List Entry) → (path_misfit n qs es ≡ None) ↔ AreEntriesOf qs es
entries_are n [] [] = (λ e. tt, λ h. refl)
entries_are n [] (e ∷ es) = (λ h. cc, λ h. absurd h)
entries_are n (q ∷ qs) [] = (λ h. cc, λ h. absurd h)
entries_are n (q ∷ qs) (e ∷ es) = then (next_entry (is_entry q e) n (path_misfit (n + 1) qs es)) (both (entry_is q e) (entries_are (n + 1) qs es))
