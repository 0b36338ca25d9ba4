use Rattle.std.proofs.Common.{◌≡◌, ◌∷◌, List, length, ap, ◌∙◌, arith}
use Rattle.sn_types.specs.declared.typed_op.TOp.{TOp}
use Rattle.sn_types.specs.declared.typed_op.TOp.TheVariants as ops
use Rattle.sn_cost_counts.proofs.OneRow.{cond_reads, expr_reads, filter_come, filter_reach, filter_stays, map_come, map_reach}
use Rattle.sn_cost_counts.proofs.coming.+go.Goals as goal

pub passes-requires : goal.passes-requires
passes-requires g t c =
    let after : List TOp = c.in-Some.after.now in
    let is : c.args.ops.now ≡ ops.Filter c.in-Filter.conds ∷ after = c.in-Some.ensures.cases.0 ∙ ap (λ (op : TOp). op ∷ after) c.in-Filter.is in
    cond_reads c.args.level (g.R.Columns.columns c.args.row.now) after c.args.ops.now c.in-Filter.conds c.as_slice.result.now is c.as_slice.ensures c.requires.takes

pub map_into-requires-clause-reads : goal.map_into-requires-clause-reads
map_into-requires-clause-reads g t c =
    let after : List TOp = c.in-Some.after.now in
    let is : c.args.ops.now ≡ ops.Map c.in-Map.exprs ∷ after = c.in-Some.ensures.cases.0 ∙ ap (λ (op : TOp). op ∷ after) c.in-Map.is in
    expr_reads c.args.level (g.R.Columns.columns c.args.row.now) after c.args.ops.now c.in-Map.exprs c.as_slice-in-Map.result.now is c.as_slice-in-Map.ensures c.requires.takes

pub returns-then-passes-clause-reach : goal.returns-then-passes-clause-reach
returns-then-passes-clause-reach g t c =
    let after : List TOp = c.in-Some.after.now in
    let is : c.args.ops.now ≡ ops.Filter c.in-Filter.conds ∷ after = c.in-Some.ensures.cases.0 ∙ ap (λ (op : TOp). op ∷ after) c.in-Filter.is in
    filter_reach c.args.level (g.R.Columns.columns c.args.row.now) after c.args.ops.now c.in-Filter.conds c.as_slice.result.now c.passes.result c.go.result is c.as_slice.ensures c.passes.ensures c.if-passes.true c.go.ensures.reach

pub returns-then-passes-clause-come : goal.returns-then-passes-clause-come
returns-then-passes-clause-come g t c =
    let after : List TOp = c.in-Some.after.now in
    let is : c.args.ops.now ≡ ops.Filter c.in-Filter.conds ∷ after = c.in-Some.ensures.cases.0 ∙ ap (λ (op : TOp). op ∷ after) c.in-Filter.is in
    λ all.
    let long = ap length is in
    filter_come c.args.level (g.R.Columns.columns c.args.row.now) after c.args.ops.now c.in-Filter.conds c.as_slice.result.now c.passes.result (g.R.Columns.columns c.go.new.row) is c.as_slice.ensures c.passes.ensures c.if-passes.true
    (c.go.ensures.come (omega (arith, all, long)))

pub returns-else-passes-clause-reach : goal.returns-else-passes-clause-reach
returns-else-passes-clause-reach g t c =
    let after : List TOp = c.in-Some.after.now in
    let is : c.args.ops.now ≡ ops.Filter c.in-Filter.conds ∷ after = c.in-Some.ensures.cases.0 ∙ ap (λ (op : TOp). op ∷ after) c.in-Filter.is in
    filter_stays c.args.level (g.R.Columns.columns c.args.row.now) after c.args.ops.now c.in-Filter.conds c.as_slice.result.now c.passes.result is c.as_slice.ensures c.passes.ensures c.if-passes.false

pub returns-in-Map-clause-reach : goal.returns-in-Map-clause-reach
returns-in-Map-clause-reach g t c =
    let after : List TOp = c.in-Some.after.now in
    let is : c.args.ops.now ≡ ops.Map c.in-Map.exprs ∷ after = c.in-Some.ensures.cases.0 ∙ ap (λ (op : TOp). op ∷ after) c.in-Map.is in
    map_reach c.args.level (g.R.Columns.columns c.args.row.now) after c.args.ops.now c.in-Map.exprs c.as_slice-in-Map.result.now (g.R.Columns.columns c.map_into.new.out) c.go-in-Map.result is c.as_slice-in-Map.ensures c.map_into.ensures c.go-in-Map.ensures.reach

pub returns-in-Map-clause-come : goal.returns-in-Map-clause-come
returns-in-Map-clause-come g t c =
    let after : List TOp = c.in-Some.after.now in
    let is : c.args.ops.now ≡ ops.Map c.in-Map.exprs ∷ after = c.in-Some.ensures.cases.0 ∙ ap (λ (op : TOp). op ∷ after) c.in-Map.is in
    λ all.
    let long = ap length is in
    map_come c.args.level (g.R.Columns.columns c.args.row.now) after c.args.ops.now c.in-Map.exprs c.as_slice-in-Map.result.now (g.R.Columns.columns c.map_into.new.out) (g.R.Columns.columns c.go-in-Map.new.row) is c.as_slice-in-Map.ensures c.map_into.ensures
    (c.go-in-Map.ensures.come (omega (arith, all, long)))
