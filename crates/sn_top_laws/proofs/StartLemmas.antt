-- Pipes as they are made.
use Rattle.std.proofs.Common.{◌≡◌, ℕ, List, Option, sym, ap, ◌∙◌}
use Rattle.std.specs.FinSet as set
use Rattle.std.specs.Ordering.{nat_cmp}
use Rattle.sn_pipe.specs.Pipes.{IsNewPipe, PipeState, at_start}
use Rattle.sn_pipe.specs.AnyStage.{Stage}
use Rattle.sn_pipe.specs.declared.gate.Gate.{Gate}
use Rattle.sn_types.specs.declared.typed_op.TOp.{TOp}
use Rattle.sn_types.specs.declared.typed_query.TypedQuery.{TypedQuery}

pub start_of_new : (query : TypedQuery) (branch level : ℕ) (coarser : Option Gate) (ops : List TOp) (depth : ℕ) (sizes : List ℕ) (pipe : PipeState) → IsNewPipe query branch level coarser ops depth sizes pipe → at_start pipe set.empty ≡ pipe
start_of_new query branch level coarser ops depth sizes pipe new =
    ap (λ (ss : List Stage). record pipe { members = set.empty; prefix = record pipe.prefix { stages = ss; place = 0 } }) new.stages.fresh
    ∙ ap (λ (n : ℕ). record pipe { members = set.empty; prefix = record pipe.prefix { place = n } }) (sym new.unread)
    ∙ ap (λ (m : set.FinSet nat_cmp). record pipe { members = m }) (sym new.no_member)
