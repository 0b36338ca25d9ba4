use Rattle.std.proofs.Common.{◌≡◌, ◌∙◌, ap, sym, not, nat_eq, is_none, ℕ, arith}
use Rattle.std.proofs.lemmas.List.{length-map}
use Rattle.sn_core.specs.Needs.{first_need_that_fails, is_empty, passes}
use Rattle.sn_core.specs.declared.event.Event.TheVariants as event
use Rattle.sn_core.specs.declared.event.Why.TheVariants.{Empty}
use Rattle.sn_core_net.specs.Marks.{bit_of, holds_frame, passes_at}
use Rattle.sn_core_net.specs.Nets.{state}
use Rattle.sn_core_net.specs.Reports.{frame_of}
use Rattle.sn_core_net.specs.declared.net.Net.{Net}
use Rattle.sn_core_net.proofs.MarkLemmas.{marks_tell, one_need, passes_same}
use Rattle.sn_core_net.proofs.net.Net.deliveries.Goals as goal

may : (net : Net) (lane : ℕ) → is_none (first_need_that_fails (state net) (event.Deliver lane)) ≡ passes_at holds_frame net.lanes.items lane
may net lane =
    one_need (passes (λ x. not (is_empty x)) (state net).lanes lane) (Empty lane)
    ∙ passes_same holds_frame (λ x. not (is_empty x)) (λ h x. ap (λ m. not (nat_eq m 0)) (length-map h.ring.items frame_of)) net.lanes.items net.engine.lanes.items lane net.matched

pub returns : goal.returns
returns c = λ lane.
    let net : Net = c.args.self.now in
    marks_tell holds_frame net.marks.holding net.lanes.items net.few net.marked.holding (omega arith) lane ∙ ap bit_of (sym (may net lane))
