use Rattle.std.proofs.Common.{◌≡◌, ℕ, ◌<◌, ◌^◌, List, length, Some, None, position, inr, refl, ap, sym, ◌∙◌, subst}
use Rattle.std.proofs.lemmas.Result.{err_from_is_err_and}
use Rattle.sn_report.specs.declared.frame.Frame.TheVariants as frames
use Rattle.sn_engine.specs.declared.intake.Intake.{Intake}
use Rattle.sn_engine.specs.Intakes.{is_lane, with_end, total, AreIntakes, EndsAgree}
use Rattle.sn_engine.specs.Taking.{take_fault}
use Rattle.sn_engine.proofs.Ends.{end_agrees, end_taken}
use Rattle.sn_engine.proofs.Firsts.{length_changed, sum_same}
use Rattle.sn_engine.proofs.Lanes.{end_sound}
use Rattle.sn_engine.proofs.engine.Engine.take_end.Goals as goal

pub returns-in_err-at-clause-fault : goal.returns-in_err-at-clause-fault
returns-in_err-at-clause-fault c =
    let s = c.args.self.now in
    let p = err_from_is_err_and c.from_residual.result c.from_residual.ensures.1 in
    rw (p.1, p.2) (inr (subst (λ (ls : List Intake). take_fault s.t.queries ls s.closed (frames.End c.args.lane c.args.window) ≡ Some c.in_err-at.field-0.0) c.deref.ensures.value (c.in_err-at.ensures s.t.queries)))

pub put_end-requires : goal.put_end-requires
put_end-requires c =
    let s = c.args.self.now in
    subst (λ (ls : List Intake). position (is_lane c.args.lane) ls ≡ Some c.in_ok-at.at) c.deref.ensures.value (c.in_ok-at.ensures s.t.queries).0

pub invariant_of-self : goal.invariant_of-self
invariant_of-self c =
    let s = c.args.self.now in
    let none : take_fault s.t.queries s.lanes.items s.closed (frames.End c.args.lane c.args.window) ≡ None =
    subst (λ (ls : List Intake). take_fault s.t.queries ls s.closed (frames.End c.args.lane c.args.window) ≡ None) c.deref.ensures.value (c.in_ok-at.ensures s.t.queries).1 in
    record {
      counted = s.counted ∙ sym (sum_same (λ (x : Intake). length x.items) (is_lane c.args.lane) (with_end c.args.window) (λ x. refl) s.lanes.items) ∙ ap total (sym c.put_end.ensures);
      few = subst (λ (n : ℕ). n < 2 ^ 32) (sym (ap length c.put_end.ensures ∙ length_changed (is_lane c.args.lane) (with_end c.args.window) s.lanes.items)) s.few;
      agreed = subst EndsAgree (sym c.put_end.ensures) (end_agrees (is_lane c.args.lane) c.args.window s.lanes.items (end_taken s.t.queries s.lanes.items s.closed c.args.lane c.args.window none));
      sound = subst (AreIntakes s.t.queries) (sym c.put_end.ensures) (end_sound s.t.queries s.lanes.items c.args.lane c.args.window s.sound);
    }

pub returns-clause-fault : goal.returns-clause-fault
returns-clause-fault c =
    let s = c.args.self.now in
    subst (λ (ls : List Intake). take_fault s.t.queries ls s.closed (frames.End c.args.lane c.args.window) ≡ None) c.deref.ensures.value (c.in_ok-at.ensures s.t.queries).1
