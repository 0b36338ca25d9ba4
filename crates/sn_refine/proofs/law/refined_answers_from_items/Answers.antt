use Rattle.std.proofs.Common.{slice_index, ◌∙◌}
use Rattle.sn_engine_split.proofs.Queries.{query_split}
use Rattle.sn_types.specs.Typed.{query_at}
use Rattle.sn_refine.proofs.Levels.{sees_refined}
use Rattle.sn_refine.proofs.law.refined_answers_from_items.Goals as goal

pub returns : goal.returns
returns c = λ window q j w queries windows path kept tuples left right t lt is widths sees l r.
    query_split window queries q (slice_index path j) kept tuples left right t lt widths l r
    ∙ sees_refined (query_at queries q) windows path j w kept tuples is sees
