use Rattle.std.proofs.Common.{sym, ap, ◌∙◌, replicate, true}
use Rattle.sn_cost_tally.proofs.Keeping.{all_stay, none_over}
use Rattle.sn_cost_tally.proofs.room.Room.homes.Goals as goal

pub returns-then-are_alone-clause-over : goal.returns-then-are_alone-clause-over
returns-then-are_alone-clause-over g c = c.new.ensures.over ∙ none_over c.args.depth c.args.slots c.args.tally.now.keys c.args.tally.now.times.items (sym c.are_alone.ensures ∙ c.if-are_alone.true)

pub returns-then-are_alone-clause-marks : goal.returns-then-are_alone-clause-marks
returns-then-are_alone-clause-marks g c =
    c.new.ensures.marks ∙ c.in_ok-marks.ensures.items_if_clones_equal (λ y e. e) ∙ ap (λ n. replicate n true) c.len.ensures ∙ all_stay c.args.depth c.args.slots c.args.tally.now.keys (sym c.are_alone.ensures ∙ c.if-are_alone.true)
