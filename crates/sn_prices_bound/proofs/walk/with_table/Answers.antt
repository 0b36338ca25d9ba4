use Rattle.std.proofs.Common.{◌∷◌, sym, subst}
use Rattle.sn_plan_space.specs.declared.known.Slot.{Slot}
use Rattle.sn_prices_bound.specs.Walks.{IsWalk}
use Rattle.sn_prices_bound.proofs.walk.with_table.Goals as goal

pub returns-in-Plain : goal.returns-in-Plain
returns-in-Plain c = λ slots is. subst (λ (slot : Slot). IsWalk c.args.s.now c.args.p.now (slot ∷ slots) c.with_plain.result) (sym c.in-Plain.is) (c.with_plain.ensures slots is)

pub returns-in-Keyed : goal.returns-in-Keyed
returns-in-Keyed c = λ slots is. subst (λ (slot : Slot). IsWalk c.args.s.now c.args.p.now (slot ∷ slots) c.with_register.result) (sym c.in-Keyed.is) (c.with_register.ensures slots is)
