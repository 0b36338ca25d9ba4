-- The operators of a branch up to the first that has registers.
use Rattle.std.proofs.Common.{◌≡◌, ℕ, zero, suc, ◌≤◌, List, [], ◌∷◌, map, filter, take, refl, ap, sym, ◌∙◌, arith}
use Rattle.sn_base.proofs.Lists.{map_front}
use Rattle.sn_base.specs.Groups.{Row}
use Rattle.sn_base.specs.Operators.{Op}
use Rattle.sn_base.specs.Operators.Op.{Filter as Passing, Map as Mapping, Distinct as Once, Reduce as Grouped}
use Rattle.sn_engine_many.specs.Shorts.{up_to_stateful}
use Rattle.sn_engine.specs.Turns.{held_tag, turn}
use Rattle.sn_multi.specs.Switches.{switch_items}
use Rattle.sn_multi.specs.Turned.{short, turned}
use Rattle.sn_report.specs.Items.{Item}
use Rattle.sn_types.specs.Cuts.{stateful}
use Rattle.sn_types.specs.Values.{op_at}
use Rattle.sn_types.specs.declared.typed_op.TOp.{TOp}
use Rattle.sn_types.specs.declared.typed_op.TOp.TheVariants.{Filter, Map, Distinct, Reduce as Reduced}

front_short : (level : ℕ) (ops : List TOp) → map (op_at level) (take (up_to_stateful ops) ops) ≡ short (map (op_at level) ops)
front_short level [] = refl
front_short level (Filter conds ∷ ops) = ap (λ os. op_at level (Filter conds) ∷ os) (front_short level ops)
front_short level (Map exprs ∷ ops) = ap (λ os. op_at level (Map exprs) ∷ os) (front_short level ops)
front_short level (Distinct ∷ ops) = refl
front_short level (Reduced r ∷ ops) = refl

pub up_to_within : (n : ℕ) (ops : List TOp) → up_to_stateful (take n ops) ≤ n
up_to_within zero ops = omega arith
up_to_within (suc n) [] = omega arith
up_to_within (suc n) (Filter conds ∷ ops) = let rest = up_to_within n ops in omega (arith, rest)
up_to_within (suc n) (Map exprs ∷ ops) = let rest = up_to_within n ops in omega (arith, rest)
up_to_within (suc n) (Distinct ∷ ops) = omega arith
up_to_within (suc n) (Reduced r ∷ ops) = omega arith

take_front : (n : ℕ) (ops : List TOp) → take (up_to_stateful (take n ops)) ops ≡ take (up_to_stateful (take n ops)) (take n ops)
take_front zero ops = refl
take_front (suc n) [] = refl
take_front (suc n) (Filter conds ∷ ops) = ap (λ os. Filter conds ∷ os) (take_front n ops)
take_front (suc n) (Map exprs ∷ ops) = ap (λ os. Map exprs ∷ os) (take_front n ops)
take_front (suc n) (Distinct ∷ ops) = refl
take_front (suc n) (Reduced r ∷ ops) = refl

-- no more of them have registers
pub fewer_stateful : (n : ℕ) (ops : List TOp) → stateful (take (up_to_stateful (take n ops)) ops) ≤ stateful (take n ops)
fewer_stateful zero ops = omega arith
fewer_stateful (suc n) [] = omega arith
fewer_stateful (suc n) (Filter conds ∷ ops) = fewer_stateful n ops
fewer_stateful (suc n) (Map exprs ∷ ops) = fewer_stateful n ops
fewer_stateful (suc n) (Distinct ∷ ops) = omega arith
fewer_stateful (suc n) (Reduced r ∷ ops) = omega arith

short_again : (ops : List Op) → short (short ops) ≡ short ops
short_again [] = refl
short_again (Passing t ∷ ops) = ap (λ os. Passing t ∷ os) (short_again ops)
short_again (Mapping f ∷ ops) = ap (λ os. Mapping f ∷ os) (short_again ops)
short_again (Once ∷ ops) = refl
short_again (Grouped g ∷ ops) = refl

module _ (level n : ℕ) (ops : List TOp) where
  abbrev cut : ℕ
  cut = up_to_stateful (take n ops)

  -- a branch cut there is its prefix up to there
  pub cut_is : take cut (map (op_at level) ops) ≡ short (take n (map (op_at level) ops))
  cut_is =
      sym (map_front (op_at level) cut ops) ∙ ap (map (op_at level)) (take_front n ops) ∙ front_short level (take n ops)
      ∙ ap short (map_front (op_at level) n ops)

  pub cut_short : take cut (map (op_at level) ops) ≡ short (take cut (map (op_at level) ops))
  cut_short = cut_is ∙ sym (short_again (take n (map (op_at level) ops))) ∙ ap short (sym cut_is)

turn_from : (level i : ℕ) (ops : List TOp) (item : Item) → turn (held_tag i ops) item ≡ turned i (map (op_at level) ops) item
turn_from level i [] item = refl
turn_from level i (Filter conds ∷ ops) item = turn_from level (suc i) ops item
turn_from level i (Map exprs ∷ ops) item = turn_from level (suc i) ops item
turn_from level i (Distinct ∷ ops) item = refl
turn_from level i (Reduced r ∷ ops) item = refl

-- the tags of many switches
pub turn_is : (level cut : ℕ) (ops : List TOp) (item : Item) → turn (held_tag 0 (take cut ops)) item ≡ turned 0 (take cut (map (op_at level) ops)) item
turn_is level cut ops item = turn_from level 0 (take cut ops) item ∙ ap (λ os. turned 0 os item) (map_front (op_at level) cut ops)

-- a switch runs nothing after the first operator with registers
pub switch_short : (depth : ℕ) (size : ℕ → ℕ) (i : ℕ) (ops : List Op) (flow : List Row) → switch_items depth size i (short ops) flow ≡ switch_items depth size i ops flow
switch_short depth size i [] flow = refl
switch_short depth size i (Passing t ∷ ops) flow = switch_short depth size (suc i) ops (filter t flow)
switch_short depth size i (Mapping f ∷ ops) flow = switch_short depth size (suc i) ops (map f flow)
switch_short depth size i (Once ∷ ops) flow = refl
switch_short depth size i (Grouped g ∷ ops) flow = refl
