use Rattle.std.proofs.Common.{◌≡◌, None, refl}
use Rattle.std.specs.FinMap.{get}
use Rattle.sn_io.specs.Inputs.{stated_file}
use Rattle.sn_command.specs.Desks.{world}
use Rattle.sn_command.specs.Stages.{Text, most_text}
use Rattle.sn_command.specs.declared.refusal.Refusal.TheVariants.{Missing, ReadFault, Usage, WriteFault}
use Rattle.sn_command.proofs.FileLemmas.{works_unread}
use Rattle.sn_command.proofs.StageLemmas.{text_refused}
use Rattle.sn_command_training.specs.Training.{TrainingIn}
use Rattle.sn_command_training.proofs.ReadLemmas.{if_some_map, judged_due, never_so, same_error, training_late, works_streamed}
use Rattle.sn_command_training.proofs.TrainingLemmas.{training_once}
use Rattle.sn_command_training.proofs.read.read_training.Goals as goal

pub returns-in-Ok-clause-works : goal.returns-in-Ok-clause-works
returns-in-Ok-clause-works g c =
    let I = g.I.Inputs in
    let name = c.args.name.now in
    let files = c.args.desk.now.files.now in
    let judged = TrainingIn c.args.window_ns in
    let law = g.met.I.Inputs.same_names files in
    let e = c.take_file.ensures in
    let of = c.finish.ensures.kind in
    let known : get (I.faults files) name ≡ None → ⊥ = λ none. let wrong = c.in-Ok.ensures.missing.1 none in cc in
    works_streamed name (Text name judged) c.finish.result (world I g.O.Sink c.args.desk.now) _ e.reported e.faults refl refl (λ none. absurd (known none)) (λ x. absurd (never_so c.finish.result Missing of (λ h. h) x)) (λ x. absurd (never_so c.finish.result ReadFault of (λ h. h) x))
    (never_so c.finish.result Usage of (λ h. h)) (never_so c.finish.result WriteFault of (λ h. h)) (training_late c.finish.result of)
    (judged_due (I.reported files) (I.faults files) name judged c.finish.result known law (training_once c.args.window_ns) c.in-Ok.ensures.most
    (if_some_map (stated_file (I.reported files) name) c.in-Ok.ensures.taken (λ file taken. c.finish.ensures.judged c.args.window_ns file (taken c.args.window_ns (c.new-taking.ensures.taken file)))))

pub returns-in-Err-clause-works : goal.returns-in-Err-clause-works
returns-in-Err-clause-works g c =
    let name = c.args.name.now in
    let e = c.take_file.ensures in
    let failed = c.in-Err.ensures in
    rw c.read_refusal.ensures (text_refused (works_unread most_text name (world g.I.Inputs g.O.Sink c.args.desk.now) _ e.reported e.faults refl refl c.in-Err.error (λ x. failed.missing.0 (same_error x)) (λ x. same_error (failed.missing.1 x)) (λ x. failed.fault (same_error x)) (λ x. failed.large (same_error x))
    (λ held same. g.met.I.Inputs.same_names c.args.desk.now.files.now held name same)))
