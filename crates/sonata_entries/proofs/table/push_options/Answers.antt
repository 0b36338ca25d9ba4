use Rattle.std.proofs.Common.{◌++◌, ap, sym, subst, ◌∙◌, length, take, arith}
use Rattle.sn_plan_choices.specs.Costs.{entry_in}
use Rattle.sn_plan_choices.specs.Options.{option_at, options}
use Rattle.sn_plan_choices.specs.Settings.{IsNarrow, written}
use Rattle.sn_plan_choices.proofs.Narrow.{typed_narrow}
use Rattle.sn_types.specs.declared.typed_query.TypedBranch.{TypedBranch}
use Rattle.sn_types.specs.Typed.{branch_at, query_at}
use Rattle.sn_types.proofs.Facts.{few_branches}
use Rattle.sn_cost.specs.Entries.{front_of}
use Rattle.sonata_entries.specs.Table.{entry_text, option_text, options_text}
use Rattle.sonata_entries.proofs.TextLemmas.{option_back, part_written, same_entry}
use Rattle.sonata_entries.proofs.table.push_options.Goals as goal

pub branch_option-option-requires-clause-narrow : goal.branch_option-option-requires-clause-narrow
branch_option-option-requires-clause-narrow c =
    subst IsNarrow (sym c.branch-t.ensures) (typed_narrow c.args.t.now.window_us c.args.t.now.queries c.args.q c.args.b c.args.t.now.typed c.requires.query c.requires.branch)

pub entry-cost-requires : goal.entry-cost-requires
entry-cost-requires c =
    let t = c.args.t.now in
    let few = few_branches t.window_us t.queries c.args.q t.typed c.requires.query in
    record {
      of_query = c.requires.places;
      of_prefix = c.requires.front;
      of_branch = omega (arith, c.requires.branch, few);
      of_option = omega (arith, c.loop-n-test.true, c.options-n-end.ensures.most);
    }

pub loop-n-preserved : goal.loop-n-preserved
loop-n-preserved c =
    let a = c.args in
    let s = a.s.now in
    let queries = a.t.now.queries in
    let entry = entry_in a.table.now in
    let query = query_at queries a.q in
    let n = c.loop-n.n in
    let w = c.branch_option-option.result in
    let chosen = option_at s (branch_at queries a.q a.b) n in
    let is = c.branch_option-option.ensures.value ∙ ap (λ (branch : TypedBranch). written (option_at s branch n)) c.branch-t.ensures in
    part_written (option_text s entry queries a.q a.front a.b) (a.text.now.items ++ options_text s entry queries a.q a.front a.b) c.loop-n.text.items c.push_entry.new.text.items
    (entry_text c.as_bytes.result.now a.levels.now a.b (w.cut, take w.used w.sizes) c.entry-cost.result) n (length (options s (branch_at queries a.q a.b))) c.options-n-end.result c.loop-n-test.true
    c.options-n-end.ensures.count c.loop-n.invariant c.in_ok-push_entry.ensures
    (same_entry c.as_bytes.result.now query.name a.levels.now (front_of a.front query.levels) a.b (w.cut, take w.used w.sizes) chosen c.entry-cost.result (entry a.q a.front a.b n)
    (c.as_bytes.ensures.value ∙ c.name-name.ensures) c.requires.levels (option_back chosen w is c.branch_option-option.ensures.few) c.entry-cost.ensures.value)
