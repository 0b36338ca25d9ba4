use Rattle.std.proofs.Common.{◌≡◌, rules}
use Rattle.sn_command.proofs.EndLemmas.{command_run}
use Rattle.sonata_entries.proofs.run.run.Goals as goal

pub returns-clause-entries : goal.returns-clause-entries
returns-clause-entries g c = λ three.
    let files : c.files-1.given.0 ≡ c.work-answer.new.desk.files.now = search rules in
    let out : c.out-1.given.0 ≡ c.work-answer.new.desk.out.now = search rules in
    rw (c.end_status.ensures, files, out) (command_run _ _ c.work-answer.result _ _ _ _ (c.work-answer.ensures.works three) c.tell.ensures)
