use Rattle.std.proofs.Common.{◌≡◌, ℕ, ◌%◌, List, ap, sym, ◌∙◌, slice_index_or}
use Rattle.sn_base.specs.Groups.{Row}
use Rattle.sn_base.specs.Slot.{slot}
use Rattle.sn_chain.specs.Limits.{largest_register}
use Rattle.sn_base.proofs.Lists.{nat_same}
use Rattle.sn_cost_tally.proofs.Smaller.{smaller}
use Rattle.sn_cost_tally.proofs.largest.slot_in.Goals as goal

pub returns-in-0 : goal.returns-in-0
returns-in-0 g c =
    let key : Row = g.R.Columns.columns c.args.key.now in
    let even : largest_register % c.args.slots ≡ 0 = nat_same (largest_register % c.args.slots) 0 (sym c.requires.even ∙ c.if-not-even.false) in
    let known : c.from.result ≡ slot 0 key largest_register = c.from.ensures ∙ ap (λ (xs : List ℕ). slice_index_or xs 0 0) c.requires.known in
    smaller 0 c.args.slots key c.from.result c.remainder.result known even c.remainder.ensures ∙ ap (λ r. slot r key c.args.slots) (sym c.in-0.is)

pub returns-in-1 : goal.returns-in-1
returns-in-1 g c =
    let key : Row = g.R.Columns.columns c.args.key.now in
    let even : largest_register % c.args.slots ≡ 0 = nat_same (largest_register % c.args.slots) 0 (sym c.requires.even ∙ c.if-not-even.false) in
    let known : c.from-in-1.result ≡ slot 1 key largest_register = c.from-in-1.ensures ∙ ap (λ (xs : List ℕ). slice_index_or xs 1 0) c.requires.known in
    smaller 1 c.args.slots key c.from-in-1.result c.remainder-in-1.result known even c.remainder-in-1.ensures ∙ ap (λ r. slot r key c.args.slots) (sym c.in-1.is)
