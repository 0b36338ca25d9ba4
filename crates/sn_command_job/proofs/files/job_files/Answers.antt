use Rattle.std.proofs.Common.{ap, ◌∙◌}
use Rattle.std.specs.Prelude.{codes}
use Rattle.sn_io.specs.MemInputs.{files_put, held_by}
use Rattle.sn_command_job.proofs.FileLemmas.{files_are}
use Rattle.sn_command_job.proofs.files.job_files.Goals as goal

pub returns : goal.returns
returns c =
    let one = c.in_ok-put.ensures ∙ ap (files_put (codes "switch") c.in_ok-from_slice.field-0) c.new-files.ensures in
    let two = c.in_ok-put-2.ensures ∙ ap (files_put (codes "queries") c.in_ok-from_slice-2.field-0) one in
    let three = c.in_ok-put-3.ensures ∙ ap (files_put (codes "training") c.in_ok-capture.field-0) two in
    let four = c.in_ok-put-4.ensures ∙ ap (files_put (codes "capture") c.in_ok-capture-2.field-0) three in
    ap held_by four
    ∙ files_are c.in_ok-from_slice.field-0 c.in_ok-from_slice-2.field-0 c.in_ok-capture.field-0 c.in_ok-capture-2.field-0 c.args.number
    (c.in_ok-from_slice.ensures ∙ c.job_switch.ensures) (c.in_ok-from_slice-2.ensures ∙ c.job_queries.ensures) c.in_ok-capture.ensures.bytes c.in_ok-capture-2.ensures.bytes
