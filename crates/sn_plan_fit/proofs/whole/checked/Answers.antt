use Rattle.sn_plan_fit.proofs.Bounds.{sums_small, metadata_small}
use Rattle.sn_plan_fit.proofs.whole.checked.Goals as goal

pub stages_fit-requires : goal.stages_fit-requires
stages_fit-requires c = record {
  few = c.requires.stages.1;
  small = sums_small c.args.t.now.window_us c.args.s.now c.args.t.now.queries c.as_slice-queries.result.now c.as_slice-entries.result.now
      c.args.t.now.typed c.requires c.as_slice-queries.ensures c.in_ok-paths.ensures c.in_ok-plan_pieces.ensures;
}

pub metadata_fits-requires : goal.metadata_fits-requires
metadata_fits-requires c =
    metadata_small c.args.t.now.window_us c.args.s.now c.args.t.now.queries c.as_slice-queries.result.now c.as_slice-entries.result.now
    c.args.t.now.typed c.requires c.as_slice-queries.ensures c.in_ok-paths.ensures c.in_ok-plan_pieces.ensures
