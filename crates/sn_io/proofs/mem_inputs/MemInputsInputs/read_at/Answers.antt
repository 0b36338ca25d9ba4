use Rattle.std.proofs.Common.{◌≡◌, ℕ, ◌↔◌, None, Some, Err, Result, ap, sym, subst, ◌∙◌}
use Rattle.std.specs.FinMap.{get}
use Rattle.sn_io.specs.declared.inputs.InputFault.{InputFault}
use Rattle.sn_io.specs.declared.inputs.InputFault.TheVariants.{Missing}
use Rattle.sn_io.specs.Counts.{OnlyRises, RoseAt}
use Rattle.sn_io.specs.MemInputs.{MemInputsState, held_by, faults_of}
use Rattle.sn_io.proofs.FileLemmas.{after_held, after_rises, answer_missing, failed_rose}
use Rattle.sn_io.proofs.mem_inputs.MemInputsInputs.read_at.Goals as goal

pub returns-clause-reported : goal.returns-clause-reported
returns-clause-reported c = ap (λ (s : MemInputsState). Some (held_by s.files)) c.read.ensures.after ∙ ap (λ m. Some m) (after_held c.args.self.now c.args.name.now)

pub returns-clause-faults : goal.returns-clause-faults
returns-clause-faults c =
    let s = c.args.self.now in
    let name = c.args.name.now in
    subst (λ (t : MemInputsState). OnlyRises name (faults_of s.files) (faults_of t.files)) (sym c.read.ensures.after) (after_rises s name)

pub returns-clause-missing : goal.returns-clause-missing
returns-clause-missing c =
    let s = c.args.self.now in
    let name = c.args.name.now in
    subst (λ (r : Result ℕ InputFault). (r ≡ Err Missing) ↔ (get (faults_of s.files) name ≡ None)) (sym c.read.ensures.answer) (answer_missing s name _ _)

pub returns-clause-failed : goal.returns-clause-failed
returns-clause-failed c is =
    let s = c.args.self.now in
    let name = c.args.name.now in
    subst (λ (t : MemInputsState). RoseAt name (faults_of s.files) (faults_of t.files)) (sym c.read.ensures.after) (failed_rose s name _ _ (sym c.read.ensures.answer ∙ is))
