use Rattle.std.proofs.Common.{◌≡◌, ◌++◌, ◌∙◌, sym, subst}
use Rattle.std.specs.Prelude.{OnOk}
use Rattle.sn_plan_space.proofs.Tables.{chain_table}
use Rattle.sn_plan_space.proofs.slots.add_op.Goals as goal

pub returns-then-is_stateful : goal.returns-then-is_stateful
returns-then-is_stateful c =
    subst (λ l. OnOk c.add_chain.result (c.add_chain.new.slots ≡ c.args.slots.now ++ l))
    (chain_table c.args.depth c.args.columns.now c.args.op.now c.args.size c.register_bits.result (sym c.is_stateful.ensures ∙ c.if-is_stateful.true) c.register_bits.ensures) c.add_chain.ensures
