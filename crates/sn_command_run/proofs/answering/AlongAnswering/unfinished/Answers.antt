use Rattle.std.proofs.Common.{◌≡◌, ℕ, List, [], refl, ◌∙◌}
use Rattle.sn_windows.specs.Rising.{Window}
use Rattle.sn_command_run.specs.Along.{plan_of}
use Rattle.sn_command_run.specs.declared.form.Form.{Form}
use Rattle.sn_command_run.specs.declared.form.Form.TheVariants as forms
use Rattle.sn_command_run.specs.Planned.{Planned, Telling, wording_in}
use Rattle.sn_command_run.proofs.answering.AlongAnswering.unfinished.Goals as goal

-- in neither form anything stands of a window that isn't over
nothing : (form : Form) (reported : Telling) (p : Planned) (closed : List Window) (number : ℕ) (tuples : List (List ℕ)) → [] ≡ (wording_in form reported p).unfinished closed number tuples
nothing forms.Blocks reported p closed number tuples = refl
nothing forms.Records reported p closed number tuples = refl

pub returns : goal.returns
returns g c = λ closed tuples h. c.new.ensures ∙ nothing c.args.self.now.form g.M.Machine.reported (plan_of c.args.self.now) closed _ tuples
