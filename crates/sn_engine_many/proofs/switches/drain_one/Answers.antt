use Rattle.std.proofs.Common.{◌≡◌, List, map, fold, ap, ◌∙◌}
use Rattle.std.specs.List.{flat_map}
use Rattle.sn_engine.specs.Intakes.{after_frame, emptied}
use Rattle.sn_engine.specs.declared.intake.Intake.{Intake}
use Rattle.sn_engine_lockstep.proofs.Beginning.{done_emptied}
use Rattle.sn_engine_lockstep.specs.Work.{done}
use Rattle.sn_engine_many.proofs.Switching.{still_begins}
use Rattle.sn_engine_many.specs.Frames.{frames_of}
use Rattle.sn_types.specs.declared.typed_query.TypedQuery.{TypedQuery}
use Rattle.sn_engine_many.proofs.switches.drain_one.Goals as goal

pub returns-clause-can : goal.returns-clause-can
returns-clause-can c =
    let s = c.args.switch.now in
    let e = c.in_ok-drain.ensures in
    still_begins s (record c.drain.new.self { engine = c.gather.new.switch }) e.sources e.count (c.in_ok-gather.ensures.switch_queries ∙ e.queries) c.requires

pub returns-clause-work : goal.returns-clause-work
returns-clause-work c = λ typed_for tables queries pieces kept tuples t can widths w.
    let s = c.args.switch.now in
    let e = c.in_ok-drain.ensures in
    let read = c.drain.new.self.engine in
    let before = c.args.engine.now.lanes.items in
    let are : read.lanes.items ≡ map (done queries tables kept tuples c.args.window) pieces =
    e.items typed_for tables queries pieces kept tuples t can widths w.work in (
      record {
        queries_are = c.in_ok-gather.ensures.switch_queries ∙ e.queries ∙ w.queries_are;
        sources = e.sources ∙ w.sources;
        idle = record {
          apart = w.work.apart;
          lanes = e.lanes queries tables pieces w.lanes;
          empty = c.in_ok-gather.ensures.switch_emptied ∙ ap (map emptied) are ∙ done_emptied queries tables c.args.window kept tuples pieces;
        };
      },
      c.in_ok-gather.ensures.taken
          ∙ ap (λ (qs : List TypedQuery). fold after_frame before (flat_map (frames_of qs) read.lanes.items)) (e.queries ∙ w.queries_are)
          ∙ ap (λ (ls : List Intake). fold after_frame before (flat_map (frames_of queries) ls)) are,
    )
