use Rattle.std.proofs.Common.{◌≡◌, ◌≤◌, ℕ, List, [], ◌∷◌, ◌++◌, length, ap, ◌∙◌, arith, ◌<◌, subst, sym}
use Rattle.sn_base.specs.Groups.{Row}
use Rattle.sn_cost_tally.specs.Weighed.{repeated}
use Rattle.sn_types.specs.declared.typed_op.TOp.{TOp}
use Rattle.sn_cost_counts.specs.declared.branch_at.BranchAt.{BranchAt}
use Rattle.sn_cost_counts.specs.BranchAt.{asked_branch, packets_of, prefix_of, query_of}
use Rattle.sn_cost_counts.specs.Coming.{ahead, coming_to}
use Rattle.sn_cost_counts.specs.Flows.{counts_from, starting}
use Rattle.sn_cost_counts.specs.Standing.{stood_for}
use Rattle.sn_cost_counts.proofs.Arrivals.{few_packets, on_any}
use Rattle.sn_cost_counts.proofs.Going.{if_ok}
use Rattle.sn_cost_counts.proofs.Parts.{fits_none, fits_rows, few_rows, shape_rest, short_front, short_rest, small_counts, stateless, takes_one, takes_rows, whole_counts, whole_given}
use Rattle.sn_cost_counts.proofs.Unsplit.{given}
use Rattle.sn_cost_counts.proofs.Weighing.{some_after}
use Rattle.sn_windows.specs.Blocks.{most_records}
use Rattle.sn_cost_counts.proofs.branch.along_packed.Goals as goal

pub come_weighed-requires-clause-short : goal.come_weighed-requires-clause-short
come_weighed-requires-clause-short g c = short_front c.args.at.now c.parts_of.result.0.now c.parts_of.result.1.now c.parts_of.ensures

pub come_weighed-requires-clause-stateless : goal.come_weighed-requires-clause-stateless
come_weighed-requires-clause-stateless g c = stateless c.args.at.now c.parts_of.result.0.now c.parts_of.result.1.now c.parts_of.ensures

pub come_weighed-requires-clause-takes : goal.come_weighed-requires-clause-takes
come_weighed-requires-clause-takes g c = takes_one c.args.at.now c.parts_of.result.0.now c.parts_of.result.1.now c.parts_of.ensures

pub add_counts-requires-clause-short : goal.add_counts-requires-clause-short
add_counts-requires-clause-short g c = short_front c.args.at.now c.parts_of.result.0.now c.parts_of.result.1.now c.parts_of.ensures

pub counts_weighed-requires-clause-can : goal.counts_weighed-requires-clause-can
counts_weighed-requires-clause-can g c =
    let a = c.args in
    let at : BranchAt = a.at.now in
    let packets : List Row = packets_of at (stood_for at.tuples.now a.firsts.now) in
    let rows : List Row = repeated c.in_ok-found.found.rows c.in_ok-found.found.weights.items in
    let few : length packets ≤ most_records = omega (arith, few_packets (query_of at) at.b at.level at.kept (stood_for at.tuples.now a.firsts.now), a.at.now.few, c.requires.firsts.stand.few) in
    record {
      short = short_rest at c.parts_of.result.0.now c.parts_of.result.1.now c.parts_of.ensures;
      shape = shape_rest at c.parts_of.result.0.now c.parts_of.result.1.now c.parts_of.ensures;
      few = few_rows at c.parts_of.result.0.now c.parts_of.result.1.now c.parts_of.ensures packets rows few c.in_ok-found.ensures.columns c.in_ok-found.ensures.come.come.come;
      takes = takes_rows at c.parts_of.result.0.now c.parts_of.result.1.now c.parts_of.ensures packets rows few c.in_ok-found.ensures.columns c.in_ok-found.ensures.come.come.come;
      fits = fits_none at c.parts_of.result.0.now c.parts_of.result.1.now c.parts_of.ensures packets rows few c.in_ok-found.ensures.columns c.in_ok-found.ensures.come.come.come;
      fits_all = fits_rows at c.parts_of.result.0.now c.parts_of.result.1.now c.parts_of.ensures packets rows few c.in_ok-found.ensures.columns c.in_ok-found.ensures.come.come.come;
    }

pub returns-clause-counts : goal.returns-clause-counts
returns-clause-counts g c =
    let a = c.args in
    let at : BranchAt = a.at.now in
    let packets : List Row = packets_of at (stood_for at.tuples.now a.firsts.now) in
    let rows : List Row = repeated c.in_ok-found.found.rows c.in_ok-found.found.weights.items in
    let few : length packets ≤ most_records = omega (arith, few_packets (query_of at) at.b at.level at.kept (stood_for at.tuples.now a.firsts.now), a.at.now.few, c.requires.firsts.stand.few) in
    let before : List ℕ = c.add_counts.new.counts in
    let first : before ≡ coming_to at.level c.parts_of.result.0.now packets = c.in_ok-together.ensures.counts at.level packets rows c.in_ok-found.ensures.come.come ∙ ap (λ ns. ns ++ coming_to at.level c.parts_of.result.0.now packets) (c.from_vec-counts.ensures ∙ c.in_ok-with_capacity.ensures.items) in
    if_ok c.counts_weighed.result (λ along. along.counts ≡ before ++ counts_from a.registers.now.chain at.level a.registers.now.sizes.now c.parts_of.result.1.now (starting rows ∷ [])) _
    (λ along is. whole_counts at c.parts_of.result.0.now c.parts_of.result.1.now c.parts_of.ensures packets rows few c.in_ok-found.ensures.columns c.in_ok-found.ensures.come.come.come a.registers.now.chain a.registers.now.sizes.now before along.counts first is) c.counts_weighed.ensures.counts

pub returns-clause-small : goal.returns-clause-small
returns-clause-small g c =
    let a = c.args in
    let at : BranchAt = a.at.now in
    let packets : List Row = packets_of at (stood_for at.tuples.now a.firsts.now) in
    let rows : List Row = repeated c.in_ok-found.found.rows c.in_ok-found.found.weights.items in
    let few : length packets ≤ most_records = omega (arith, few_packets (query_of at) at.b at.level at.kept (stood_for at.tuples.now a.firsts.now), a.at.now.few, c.requires.firsts.stand.few) in
    let before : List ℕ = c.add_counts.new.counts in
    let first : before ≡ coming_to at.level c.parts_of.result.0.now packets = c.in_ok-together.ensures.counts at.level packets rows c.in_ok-found.ensures.come.come ∙ ap (λ ns. ns ++ coming_to at.level c.parts_of.result.0.now packets) (c.from_vec-counts.ensures ∙ c.in_ok-with_capacity.ensures.items) in
    if_ok c.counts_weighed.result (λ along. along.counts ≡ before ++ counts_from a.registers.now.chain at.level a.registers.now.sizes.now c.parts_of.result.1.now (starting rows ∷ [])) _
    (λ along is. small_counts at c.parts_of.result.0.now c.parts_of.result.1.now c.parts_of.ensures packets rows few c.in_ok-found.ensures.columns c.in_ok-found.ensures.come.come.come a.registers.now.chain a.registers.now.sizes.now before along.counts first is) c.counts_weighed.ensures.counts

pub returns-clause-unsplit : goal.returns-clause-unsplit
returns-clause-unsplit g c =
    let a = c.args in
    let at : BranchAt = a.at.now in
    let packets : List Row = packets_of at (stood_for at.tuples.now a.firsts.now) in
    let rows : List Row = repeated c.in_ok-found.found.rows c.in_ok-found.found.weights.items in
    let few : length packets ≤ most_records = omega (arith, few_packets (query_of at) at.b at.level at.kept (stood_for at.tuples.now a.firsts.now), a.at.now.few, c.requires.firsts.stand.few) in
    if_ok c.counts_weighed.result (λ along. along.unsplit ≡ given a.asked at.level c.parts_of.result.1.now rows) _ (λ along is. is ∙ whole_given at c.parts_of.result.0.now c.parts_of.result.1.now c.parts_of.ensures packets rows few c.in_ok-found.ensures.columns c.in_ok-found.ensures.come.come.come a.asked) c.counts_weighed.ensures.unsplit

pub returns-clause-columns : goal.returns-clause-columns
returns-clause-columns g c = on_any _ c.counts_weighed.result c.in_ok-found.ensures.columns

pub counts_weighed-requires-clause-first : goal.counts_weighed-requires-clause-first
counts_weighed-requires-clause-first g c =
    let os : List TOp = prefix_of (asked_branch c.args.at.now) in
    subst (λ (xs : List TOp). (0 < length xs) × (ahead xs ≡ 0)) (sym c.parts_of.ensures.rest_is) (some_after os c.requires.firsts.registers)

pub counts_weighed-requires-clause-together : goal.counts_weighed-requires-clause-together
counts_weighed-requires-clause-together g c =
    let at : BranchAt = c.args.at.now in
    c.in_ok-together.ensures.left at.level (packets_of at (stood_for at.tuples.now c.args.firsts.now)) (repeated c.in_ok-found.found.rows c.in_ok-found.found.weights.items) c.in_ok-found.ensures.come.come
