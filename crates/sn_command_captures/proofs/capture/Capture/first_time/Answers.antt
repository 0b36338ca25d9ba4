use Rattle.std.proofs.Common.{List, ℕ, ap, sym, ◌∙◌}
use Rattle.sn_command_captures.proofs.WalkLemmas.{first_is, first_none}
use Rattle.sn_command_captures.specs.Walks.{recorded}
use Rattle.sn_command_captures.specs.Windows.{first_time}
use Rattle.sn_command_captures.proofs.capture.Capture.first_time.Goals as goal

pub returns-in-Ok-clause-some : goal.returns-in-Ok-clause-some
returns-in-Ok-clause-some c =
    let same = ap (λ (bytes : List ℕ). recorded c.self.inside.header bytes) c.as_slice.ensures ∙ c.self.view_is in
    ap first_time (sym same) ∙ first_is c.self.inside.header c.as_slice.result.now c.in-Ok.packet c.in-Ok.ensures.whole c.in-Ok.ensures.packet

pub returns-in-Err-clause-none : goal.returns-in-Err-clause-none
returns-in-Err-clause-none c _ =
    let same = ap (λ (bytes : List ℕ). recorded c.self.inside.header bytes) c.as_slice.ensures ∙ c.self.view_is in
    ap first_time (sym same) ∙ first_none c.self.inside.header c.as_slice.result.now c.in-Err.field-0 c.in-Err.ensures.ending
