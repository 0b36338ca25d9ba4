-- The pipes of a plan are lawful.
use Rattle.std.proofs.Common.{List, map, false, refl}
use Rattle.sn_core.specs.Workings.{AreLawful}
use Rattle.sn_emit.specs.Plans.{pieces_from}
use Rattle.sn_engine.specs.declared.intake.Intake.{Intake}
use Rattle.sn_plan_grammar.specs.declared.plan.Entry.{Entry}
use Rattle.sn_types.specs.declared.typed_query.TypedQuery.{TypedQuery}
use Rattle.sn_pipe.proofs.Starts.{forgets, starts_again}
use Rattle.sn_engine_lockstep.specs.declared.source.Source.{Source}
use Rattle.sn_engine_lockstep.specs.Sources.{source_of}
use Rattle.sn_engine_lockstep.specs.Work.{intake_of}
use Rattle.sn_core_net.proofs.Adds.{cleared_hold_none, tuples_add_one}
use Rattle.sn_core_net.proofs.ReadOuts.{fewer_held, left_after}
use Rattle.sn_core_net.specs.PlanWorkings.{workings, workings_of}

-- whatever the lanes of the engine and the sources are
pub lawful_of : (queries : List TypedQuery) (intakes : List Intake) (sources : List Source) → AreLawful (workings_of queries intakes sources)
lawful_of queries intakes sources = record {
  reads = λ pipe. left_after pipe.prefix.level 0 false pipe.prefix.place pipe.prefix.stages;
  forgets_tuples = λ pipe tuple kept. forgets pipe kept tuple;
  forgets_reading = λ pipe kept. refl;
  starts_again = λ pipe before kept. starts_again pipe before kept;
  start_is_unread = λ pipe kept. refl;
  tuples_are_unread = λ pipe tuple h. h;
  adds_one = tuples_add_one;
  walks_one = λ pipe item items e. fewer_held pipe.prefix.level 0 false pipe.prefix.place pipe.prefix.stages item items e;
  start_holds_none = λ pipe kept. cleared_hold_none pipe.prefix.stages;
}

pub lawful : (queries : List TypedQuery) (entries : List Entry) → AreLawful (workings queries entries)
lawful queries entries = lawful_of queries (map intake_of (pieces_from 0 entries)) (map source_of (pieces_from 0 entries))
