-- Rows that stand for several each, at the first distinct or reduce.
use Rattle.std.proofs.Common.{◌≡◌, ℕ, zero, suc, ◌≤◌, ◌<◌, List, [], ◌∷◌, drop, length, replicate, nat_lt, true, cond, refl, ap, sym, ◌∙◌, arith}
use Rattle.std.specs.List.{AllByRecursion, list_any}
use Rattle.std.proofs.lemmas.Bool.{false≢true}
use Rattle.sn_base.proofs.Lists.{all_front, all_rest, by_test}
use Rattle.sn_cost_tally.specs.Weighed.{repeated}
use Rattle.sn_types.specs.declared.typed_op.TOp.{TOp}
use Rattle.sn_types.specs.declared.typed_op.TOp.TheVariants as ops
use Rattle.sn_types.specs.Cuts.{is_stateful, stateful}
use Rattle.sn_cost_counts.specs.AnyFlow.{Flow}
use Rattle.sn_cost_counts.specs.Coming.{ahead}
use Rattle.sn_cost_counts.specs.Flows.{wider}
use Rattle.sn_cost_counts.proofs.Going.{wide_sizes}

-- ---- each of these is one of those for which it stands

all_of_one : {X : Type 0} (P : X → Type 0) (x : X) (n : ℕ) → 1 ≤ n → AllByRecursion P (replicate n x) → P x
all_of_one P x zero le h = absurd (omega (arith, le))
all_of_one P x (suc n) le h = h.0

pub all_stand : {X : Type 0} (P : X → Type 0) (xs : List X) (ns : List ℕ) → length ns ≡ length xs → AllByRecursion (λ n. 1 ≤ n) ns → AllByRecursion P (repeated xs ns) → AllByRecursion P xs
all_stand P [] ns long some h = tt
all_stand P (x ∷ xs) [] long some h = absurd (omega (arith, long))
all_stand P (x ∷ xs) (n ∷ ns) long some h =
    (all_of_one P x n some.0 (all_front P (replicate n x) (repeated xs ns) h), all_stand P xs ns (omega (arith, long)) some.1 (all_rest P (replicate n x) (repeated xs ns) h))

-- ---- the first distinct or reduce

-- the first operator is one where none is before it
pub none_ahead : (op : TOp) (os : List TOp) → ahead (op ∷ os) ≡ 0 → is_stateful op ≡ true
none_ahead op os is =
    by_test (is_stateful op) (λ yes. yes)
    (λ no. let e : suc (ahead os) ≡ 0 = sym (ap (λ b. cond b 0 (suc (ahead os))) no) ∙ is in absurd (omega (arith, e)))

-- where there is one, those from the first on begin with it
pub some_after : (os : List TOp) → nat_lt 0 (stateful os) ≡ true → (0 < length (drop (ahead os) os)) × (ahead (drop (ahead os) os) ≡ 0)
some_after [] some = absurd (false≢true some)
some_after (ops.Filter conds ∷ os) some = some_after os some
some_after (ops.Map exprs ∷ os) some = some_after os some
some_after (ops.Distinct ∷ os) some = (omega arith, refl)
some_after (ops.Reduce r ∷ os) some = (omega arith, refl)

pub any_stateful : (os : List TOp) → nat_lt 0 (stateful os) ≡ true → list_any is_stateful os ≡ true
any_stateful [] some = absurd (false≢true some)
any_stateful (ops.Filter conds ∷ os) some = any_stateful os some
any_stateful (ops.Map exprs ∷ os) some = any_stateful os some
any_stateful (ops.Distinct ∷ os) some = refl
any_stateful (ops.Reduce r ∷ os) some = refl

-- it's the same at all levels
pub wide_first : (depth level : ℕ) (slots : List ℕ) (op : TOp) (fs : List Flow) → is_stateful op ≡ true → wider depth 0 slots op fs ≡ wider depth level slots op fs
wide_first depth level slots op fs is = sym (wide_sizes depth 0 slots op fs is) ∙ wide_sizes depth level slots op fs is
