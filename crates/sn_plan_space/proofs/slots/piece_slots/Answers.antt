use Rattle.std.proofs.Common.{refl, ◌∙◌, take}
use Rattle.sn_plan_space.proofs.Tables.{few_slots, slots_are}
use Rattle.sn_plan_space.proofs.slots.piece_slots.Goals as goal

pub new-requires : goal.new-requires
new-requires c =
    few_slots c.args.s.now.chain c.args.setting.now.cut c.args.is_first c.as_slice.result.now c.args.branch.now.ops c.prefix-ops.result.now (take c.args.setting.now.used c.args.setting.now.sizes)
    c.in_ok-slots.slots c.add_ops.new.slots c.requires.switch.chain.0 c.requires.switch.chain.1 c.requires.cut c.prefix-ops.ensures.value c.in_ok-slots.ensures c.in_ok-add_ops.ensures

pub returns : goal.returns
returns c = λ o e.
    c.new.ensures
    ∙ slots_are c.args.s.now c.args.is_first c.args.branch.now c.args.setting.now o c.prefix-ops.result.now c.as_slice.result.now (take c.args.setting.now.used c.args.setting.now.sizes)
    c.in_ok-slots.slots c.add_ops.new.slots c.requires.few e c.prefix-ops.ensures.value c.as_slice.ensures refl c.in_ok-slots.ensures c.in_ok-add_ops.ensures
