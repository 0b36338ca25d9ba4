use Rattle.std.proofs.Common.{◌≡◌, None, Ok, Err, is_some, true, refl}
use Rattle.std.specs.FinMap.{get}
use Rattle.sn_command.specs.declared.fault.Fault.TheVariants as faults
use Rattle.sn_command.specs.declared.refusal.Refusal.TheVariants.{Missing, Refused}
use Rattle.sn_command.specs.Desks.{world}
use Rattle.sn_command.proofs.FileLemmas.{none_other, some_if}
use Rattle.sn_pcap.proofs.ReportedLemmas.{not_err}
use Rattle.sn_command_capture.specs.Capture.{Head}
use Rattle.sn_command_capture.proofs.StreamLemmas.{head_may, runs_read, read_follows, head_due, head_missing}
use Rattle.sn_command_capture.proofs.capture.read_header.Goals as goal

pub returns-in-Ok-Ok-clause-runs : goal.returns-in-Ok-Ok-clause-runs
returns-in-Ok-Ok-clause-runs g c =
    let I = g.I.Inputs in
    let name = c.args.capture.now in
    let files = c.args.desk.now.files.now in
    let e = c.read_head.ensures in
    let known : is_some (get (I.faults files) name) ≡ true = some_if (get (I.faults files) name) (λ none. not_err (c.in-Ok-Ok.ensures.missing.1 none)) in
    runs_read name (Head name) (Ok c.in-Ok-Ok.header) (world I g.O.Sink c.args.desk.now) _ (read_follows name (world I g.O.Sink c.args.desk.now) _ e.reported e.faults refl refl) (none_other name _ _ e.faults) refl
    (λ e. absurd cc) (λ e. absurd cc) (λ e. absurd cc) (λ e. absurd cc) (λ fault e. absurd cc)
    (head_due (I.reported files) (I.faults files) name (Ok c.in-Ok-Ok.header) known (g.met.I.Inputs.same_names files) (rw c.in-Ok-Ok.field-0-is at c.in-Ok-Ok.ensures).head)

pub returns-in-Ok-Err-clause-runs : goal.returns-in-Ok-Err-clause-runs
returns-in-Ok-Err-clause-runs g c =
    let I = g.I.Inputs in
    let name = c.args.capture.now in
    let files = c.args.desk.now.files.now in
    let e = c.read_head.ensures in
    let known : is_some (get (I.faults files) name) ≡ true = some_if (get (I.faults files) name) (λ none. not_err (c.in-Ok-Err.ensures.missing.1 none)) in
    runs_read name (Head name) (Err (Refused (faults.Head c.in-Ok-Err.fault))) (world I g.O.Sink c.args.desk.now) _ (read_follows name (world I g.O.Sink c.args.desk.now) _ e.reported e.faults refl refl) (none_other name _ _ e.faults) refl
    (λ e. absurd cc) (λ e. absurd cc) (λ e. absurd cc) (λ e. absurd cc) (head_may c.in-Ok-Err.fault)
    (head_due (I.reported files) (I.faults files) name (Err c.in-Ok-Err.fault) known (g.met.I.Inputs.same_names files) (rw c.in-Ok-Err.field-0-is at c.in-Ok-Err.ensures).head)

pub returns-in-Err-Missing-clause-runs : goal.returns-in-Err-Missing-clause-runs
returns-in-Err-Missing-clause-runs g c =
    let I = g.I.Inputs in
    let name = c.args.capture.now in
    let files = c.args.desk.now.files.now in
    let e = c.read_head.ensures in
    let none : get (I.faults files) name ≡ None = (rw c.in-Err-Missing.field-0-is at c.in-Err-Missing.ensures).missing.0 refl in
    runs_read name (Head name) (Err Missing) (world I g.O.Sink c.args.desk.now) _ (read_follows name (world I g.O.Sink c.args.desk.now) _ e.reported e.faults refl refl) (none_other name _ _ e.faults) refl
    (λ e. absurd cc) (λ e. absurd cc) (λ e. none) (λ e. absurd cc) (λ fault e. absurd cc)
    (head_missing (I.reported files) (I.faults files) name none (g.met.I.Inputs.same_names files))
