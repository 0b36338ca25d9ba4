-- What the operators give in the end.
use Rattle.std.proofs.Common.{◌≡◌, ℕ, ◌<◌, List, [], ◌∷◌, ◌++◌, All, map, length, Result, Ok, Err, IfOk, ap, sym, ◌∙◌, subst}
use Rattle.sn_base.specs.AnyFold.{any_step, any_unit}
use Rattle.sn_base.specs.Groups.{Row}
use Rattle.sn_base.specs.Operators.{Grouping, apply, pair_of, through}
use Rattle.sn_base.proofs.FoldedLemmas.{groups_short}
use Rattle.sn_types.specs.declared.typed_op.TOp.{TOp}
use Rattle.sn_types.specs.declared.typed_op.TOp.TheVariants.{Reduce}
use Rattle.sn_types.specs.declared.typed_op.TReduce.{TReduce}
use Rattle.sn_types.specs.Values.{op_at}
use Rattle.sn_ops.specs.Flow.{AllFit}
use Rattle.sn_ops.proofs.GroupSteps.{rows_of_groups}
use Rattle.sn_ops.specs.SeenStates.{SeenState}
use Rattle.sn_ops.specs.Standing.{Stands}

-- a group as a row
abbrev pub group_row : Row × ℕ → Row
group_row e = e.0 ++ e.1 ∷ []

-- the groups of a reduce that comes first, as rows
pub groups_give : (level : ℕ) (r : TReduce) (ops : List TOp) (s : SeenState) (seen : List SeenState) (rows out : List Row) → Stands level (Reduce r ∷ ops) (s ∷ seen) rows out
    → map group_row s.groups.entries ≡ apply (op_at level (Reduce r)) rows
groups_give level r ops s seen rows out h =
    let g : Grouping = record { places = r.keys; value = r.value; by = r.fold } in
    rows_of_groups g (map (pair_of g) rows) s.groups.entries h.0

-- where the operators stand at some rows, at which they can be evaluated
abbrev pub Ready : ℕ → List TOp → List SeenState → List Row → Type 0
Ready level ops seen out = (rows : List Row) × Stands level ops seen rows out × AllFit level ops rows

pub keys_fit : (level : ℕ) (r : TReduce) (ops : List TOp) (s : SeenState) (seen : List SeenState) (out : List Row) → Ready level (Reduce r ∷ ops) (s ∷ seen) out → All (λ (g : Row × ℕ). length g.0 < 8) s.groups.entries
keys_fit level r ops s seen out h =
    subst (All (λ (g : Row × ℕ). length g.0 < 8)) (sym h.1.0) (groups_short (any_step r.fold) (any_unit r.fold) r.keys r.value h.0 h.2.0.few)

pub after_fit : (level : ℕ) (r : TReduce) (ops : List TOp) (s : SeenState) (seen : List SeenState) (out rows : List Row) → Ready level (Reduce r ∷ ops) (s ∷ seen) out → rows ≡ map group_row s.groups.entries → AllFit level ops rows
after_fit level r ops s seen out rows h is = subst (AllFit level ops) (sym (is ∙ groups_give level r ops s seen h.0 out h.1)) h.2.1

pub run_gives : {Y : Type 0} (level : ℕ) (r : TReduce) (ops : List TOp) (s : SeenState) (seen : List SeenState) (out given : List Row) (result : Result (List Row) Y) → given ≡ map group_row s.groups.entries
    → IfOk result (λ found. found ≡ through (map (op_at level) ops) given) → IfOk result (λ found. (rows : List Row) → Stands level (Reduce r ∷ ops) (s ∷ seen) rows out → found ≡ through (map (op_at level) (Reduce r ∷ ops)) rows)
run_gives level r ops s seen out given (Ok found) is h = λ rows stands. h ∙ ap (through (map (op_at level) ops)) (is ∙ groups_give level r ops s seen rows out stands)
run_gives level r ops s seen out given (Err e) is h = tt
