use Rattle.std.proofs.Common.{◌≡◌, ℕ, List, None, Ok, true, is_some, ◌∙◌, refl}
use Rattle.std.specs.FinMap.{get}
use Rattle.sn_command.specs.Desks.{world}
use Rattle.sn_command.proofs.FileLemmas.{known_file, file_ok, some_if, none_other, known_still, none_fell, works_bytes, works_unread}
use Rattle.sn_command.proofs.files.read_file.Goals as goal

pub returns-in-Ok-clause-works : goal.returns-in-Ok-clause-works
returns-in-Ok-clause-works g c =
    let name = c.args.name.now in
    let files = c.args.desk.now.files.now in
    let reported = g.I.Inputs.reported files in
    let unknown : get (g.I.Inputs.faults files) name ≡ None → ⊥ = λ unknown. let no = c.in-Ok.ensures.missing.1 unknown in cc in
    works_bytes c.args.most name (Ok c.in-Ok.bytes) _ _ unknown refl (λ e. absurd cc) (λ e. absurd cc) (λ fault other e. absurd cc) c.in-Ok.ensures.reported (known_still name _ _ c.in-Ok.ensures.faults) (none_fell name _ _ c.in-Ok.ensures.faults) (none_other name _ _ c.in-Ok.ensures.faults) refl refl
    (λ held same.
    let known : is_some (get held name) ≡ true = g.met.I.Inputs.same_names files held name same ∙ some_if (get (g.I.Inputs.faults files) name) unknown in
    let found = known_file held reported name (λ (file : List ℕ). c.in-Ok.bytes ≡ file) same known c.in-Ok.ensures.bytes in
    file_ok c.args.most held name c.in-Ok.bytes found.0 found.1 found.2 c.in-Ok.ensures.most)

pub returns-in-Err-clause-works : goal.returns-in-Err-clause-works
returns-in-Err-clause-works g c =
    let name = c.args.name.now in
    let files = c.args.desk.now.files.now in
    let e = c.in-Err.ensures in
    rw c.read_refusal.ensures (works_unread c.args.most name (world g.I.Inputs g.O.Sink c.args.desk.now) _ e.reported e.faults refl refl c.in-Err.error e.missing.0 e.missing.1 e.fault e.large
    (λ held same. g.met.I.Inputs.same_names files held name same))
