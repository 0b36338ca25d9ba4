use Rattle.std.proofs.Common.{◌≡◌, ℕ, ◌↔◌, List, None, Err, Result, length, sym, subst}
use Rattle.std.specs.FinMap.{get}
use Rattle.sn_io.specs.declared.inputs.InputFault.{InputFault}
use Rattle.sn_io.specs.declared.inputs.InputFault.TheVariants.{Missing}
use Rattle.sn_io.specs.MemInputs.{FileState}
use Rattle.sn_command_job.specs.Made.{no_faults}
use Rattle.sn_command_job.proofs.MadeLemmas.{missing_where}
use Rattle.sn_command_job.proofs.made.MadeFilesInputs.read_at.Goals as goal

pub returns-clause-missing : goal.returns-clause-missing
returns-clause-missing c =
    let s = c.self.inside.files in
    let name = c.args.name.now in
    let where_is = subst (λ (r : Result ℕ InputFault). (r ≡ Err Missing) ↔ (get (no_faults s.files) name ≡ None)) (sym c.read_at.ensures.answer) (missing_where s name c.args.at (length c.args.into.now)) in
    subst (λ (files : List FileState). (c.read_at.result ≡ Err Missing) ↔ (get (no_faults files) name ≡ None)) c.self.view_is where_is
