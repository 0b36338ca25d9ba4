use Rattle.std.proofs.Common.{◌≡◌, ℕ, ◌+◌, ◌<◌, ◌^◌, List, length, Some, None, Result, Err, position, inl, inr, refl, ap, sym, ◌∙◌, subst}
use Rattle.std.proofs.lemmas.Result.{err_from_is_err_and}
use Rattle.sn_report.specs.Items.{item_by}
use Rattle.sn_report.specs.declared.frame.Frame.TheVariants as frames
use Rattle.sn_engine.specs.declared.intake.Intake.{Intake}
use Rattle.sn_engine.specs.Intakes.{is_lane, total, with_item, AreIntakes, EndsAgree}
use Rattle.sn_engine.specs.declared.fault.TakeFault.{TakeFault}
use Rattle.sn_engine.specs.declared.fault.TakeFault.TheVariants.{Memory}
use Rattle.sn_engine.specs.Taking.{take_fault}
use Rattle.sn_engine.proofs.Ends.{item_agrees}
use Rattle.sn_engine.proofs.Firsts.{length_changed}
use Rattle.sn_engine.proofs.Lanes.{item_counted, item_sound}
use Rattle.sn_engine.proofs.engine.Engine.take_item.Goals as goal

abbrev failed : TakeFault → Result (Unit {0}) TakeFault
failed f = Err f

same_err : (a b : TakeFault) → failed a ≡ failed b → a ≡ b
same_err a b e = cc

pub returns-in_err-at-clause-fault : goal.returns-in_err-at-clause-fault
returns-in_err-at-clause-fault g c =
    let s = c.args.self.now in
    let p = err_from_is_err_and c.from_residual.result c.from_residual.ensures.1 in
    rw (p.1, p.2) (inr (subst (λ (ls : List Intake). take_fault s.t.queries ls s.closed (frames.Row c.args.lane (item_by g.R.Columns.columns c.args.item.now)) ≡ Some c.in_err-at.field-0.0) c.deref.ensures.value (c.in_err-at.ensures s.closed)))

pub push_item-requires : goal.push_item-requires
push_item-requires g c =
    let s = c.args.self.now in
    subst (λ (ls : List Intake). position (is_lane c.args.lane) ls ≡ Some c.in_ok-at.at) c.deref.ensures.value (c.in_ok-at.ensures s.closed).0

pub invariant_of-self-2 : goal.invariant_of-self-2
invariant_of-self-2 g c =
    let s = c.args.self.now in
    let none : take_fault s.t.queries s.lanes.items s.closed (frames.Row c.args.lane (item_by g.R.Columns.columns c.args.item.now)) ≡ None =
    subst (λ (ls : List Intake). take_fault s.t.queries ls s.closed (frames.Row c.args.lane (item_by g.R.Columns.columns c.args.item.now)) ≡ None) c.deref.ensures.value (c.in_ok-at.ensures s.closed).1 in
    record {
      counted = ap (λ (n : ℕ). n + 1) s.counted ∙ sym (item_counted s.t.queries s.lanes.items s.closed c.args.lane (item_by g.R.Columns.columns c.args.item.now) none) ∙ ap total (sym c.in_ok-push_item.ensures.ok);
      few = subst (λ (n : ℕ). n < 2 ^ 32) (sym (ap length c.in_ok-push_item.ensures.ok ∙ length_changed (is_lane c.args.lane) (with_item (item_by g.R.Columns.columns c.args.item.now)) s.lanes.items)) s.few;
      agreed = subst EndsAgree (sym c.in_ok-push_item.ensures.ok) (item_agrees (is_lane c.args.lane) (item_by g.R.Columns.columns c.args.item.now) s.lanes.items s.agreed);
      sound = subst (AreIntakes s.t.queries) (sym c.in_ok-push_item.ensures.ok) (item_sound s.t.queries s.lanes.items s.closed c.args.lane (item_by g.R.Columns.columns c.args.item.now) none s.sound);
    }

pub returns-then-self-clause-fault : goal.returns-then-self-clause-fault
returns-then-self-clause-fault g c =
    let s = c.args.self.now in
    inl (refl, subst (λ (ls : List Intake). take_fault s.t.queries ls s.closed (frames.Row c.args.lane (item_by g.R.Columns.columns c.args.item.now)) ≡ None) c.deref.ensures.value (c.in_ok-at.ensures s.closed).1)

pub returns-in_err-push_item-clause-fault : goal.returns-in_err-push_item-clause-fault
returns-in_err-push_item-clause-fault g c =
    let s = c.args.self.now in
    let none : take_fault s.t.queries s.lanes.items s.closed (frames.Row c.args.lane (item_by g.R.Columns.columns c.args.item.now)) ≡ None =
    subst (λ (ls : List Intake). take_fault s.t.queries ls s.closed (frames.Row c.args.lane (item_by g.R.Columns.columns c.args.item.now)) ≡ None) c.deref.ensures.value (c.in_ok-at.ensures s.closed).1 in
    let is : c.in_err-push_item.field-0.0 ≡ Memory = same_err c.in_err-push_item.field-0.0 Memory c.in_err-push_item.ensures.fault in
    let p = err_from_is_err_and c.from_residual-in_err-push_item.result c.from_residual-in_err-push_item.ensures.1 in
    rw (p.1, p.2) (inl (is, none))

pub returns-clause-fault : goal.returns-clause-fault
returns-clause-fault g c =
    let s = c.args.self.now in
    subst (λ (ls : List Intake). take_fault s.t.queries ls s.closed (frames.Row c.args.lane (item_by g.R.Columns.columns c.args.item.now)) ≡ None) c.deref.ensures.value (c.in_ok-at.ensures s.closed).1
