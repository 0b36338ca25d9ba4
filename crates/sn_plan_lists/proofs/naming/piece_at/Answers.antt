use Rattle.std.proofs.Common.{◌∙◌}
use Rattle.sn_plan_lists.specs.Chosen.{seat_at}
use Rattle.sn_plan_lists.proofs.NamedPieces.{piece_is}
use Rattle.sn_plan_lists.proofs.naming.piece_at.Goals as goal

pub returns-clause-piece : goal.returns-clause-piece
returns-clause-piece c =
    piece_is c.args.s.now (seat_at c.args.level c.args.number c.args.branch.now) c.args.choices.now c.first.result c.stateful.result c.branch_option-option.result c.prefix.result.now
    c.sizes_of.result c.short.result c.split.result.1.now c.first.ensures c.branch_option-option.ensures.value c.branch_option-option.ensures.few c.prefix.ensures.value c.stateful.ensures
    c.split.ensures.following (c.short.ensures ∙ c.split-2.ensures.front) c.sizes_of.ensures
