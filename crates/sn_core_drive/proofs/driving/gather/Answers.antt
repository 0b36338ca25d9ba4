use Rattle.sn_core_drive.proofs.Running.{none_leads}
use Rattle.sn_core_drive.proofs.driving.gather.Goals as goal

pub returns-in-None-clause-notes : goal.returns-in-None-clause-notes
returns-in-None-clause-notes g c = λ x y s leads.
    let m = c.args.machine.now in
    none_leads (g.M.Machine.works m) g.M.Machine.reported x y s (g.M.Machine.state m) (g.M.Machine.state c.take_answers.new.self) c.args.notes.now leads c.in-None.ensures.answers c.take_answers.ensures.rest
