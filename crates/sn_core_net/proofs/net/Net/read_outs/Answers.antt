use Rattle.std.proofs.Common.{◌≡◌, ◌∙◌, ◌&&◌, ap, ap₂, sym, not, nat_lt, is_none, length, ℕ, true, false, None, refl, arith}
use Rattle.std.proofs.lemmas.List.{length-map}
use Rattle.std.proofs.lemmas.Nat.Bits.{bit_at-zero}
use Rattle.sn_core.specs.Needs.{first_need_that_fails, has_room, is_begun_with, is_over, needs, passes}
use Rattle.sn_core.specs.declared.event.Event.TheVariants as event
use Rattle.sn_core.specs.declared.event.Why.TheVariants.{Ended, Full, NotReading}
use Rattle.sn_core_net.specs.Marks.{bit_of, may_read, passes_at}
use Rattle.sn_core_net.specs.Nets.{state}
use Rattle.sn_core_net.specs.Reports.{frame_of}
use Rattle.sn_core_net.specs.declared.net.Net.{Net}
use Rattle.sn_core_net.proofs.MarkLemmas.{marks_tell, passes_both, passes_same, two_needs}
use Rattle.sn_core_net.proofs.net.Net.read_outs.Goals as goal

-- where a window is over, these may be read out
may : (net : Net) (lane : ℕ) → is_begun_with (λ number. is_over number net.held) net.window ≡ true → is_none (first_need_that_fails (state net) (event.ReadOut lane)) ≡ passes_at (may_read net.room) net.lanes.items lane
may net lane over =
    let runs = passes (λ x. not x.ended) (state net).lanes lane in
    let free = passes (has_room net.room) (state net).lanes lane in
    ap (λ b. is_none (needs b NotReading (needs runs (Ended lane) (needs free (Full lane) None)))) over
    ∙ two_needs runs free (Ended lane) (Full lane)
    ∙ ap₂ (λ a b. a && b) (passes_same (λ h. not h.sender.ended) (λ x. not x.ended) (λ h x. refl) net.lanes.items net.engine.lanes.items lane net.matched)
    (passes_same (λ h. nat_lt (length h.ring.items) net.room) (has_room net.room) (λ h x. ap (λ m. nat_lt m net.room) (length-map h.ring.items frame_of)) net.lanes.items net.engine.lanes.items lane net.matched)
    ∙ sym (passes_both (λ h. not h.sender.ended) (λ h. nat_lt (length h.ring.items) net.room) net.lanes.items lane)

-- and else none
may_not : (net : Net) (lane : ℕ) → is_begun_with (λ number. is_over number net.held) net.window ≡ false → is_none (first_need_that_fails (state net) (event.ReadOut lane)) ≡ false
may_not net lane open_window =
    ap (λ b. is_none (needs b NotReading (needs (passes (λ x. not x.ended) (state net).lanes lane) (Ended lane) (needs (passes (has_room net.room) (state net).lanes lane) (Full lane) None)))) open_window

pub returns-then-is_over : goal.returns-then-is_over
returns-then-is_over c = λ lane.
    let net : Net = c.args.self.now in
    marks_tell (may_read net.room) net.marks.readable net.lanes.items net.few net.marked.readable (omega arith) lane ∙ ap bit_of (sym (may net lane (sym c.is_over.ensures ∙ c.if-is_over.true)))

pub returns-else-is_over : goal.returns-else-is_over
returns-else-is_over c = λ lane.
    let net : Net = c.args.self.now in
    bit_at-zero lane ∙ ap bit_of (sym (may_not net lane (sym c.is_over.ensures ∙ c.if-is_over.false)))
