use Rattle.std.proofs.Common.{◌≡◌, ◌∷◌, ◌+◌, List, ℕ, ap, length, subst, sym, ◌∙◌}
use Rattle.std.proofs.lemmas.Result.{err_from_is_err_and}
use Rattle.sn_cli.specs.Words.{texts}
use Rattle.sn_command.specs.Desks.{world}
use Rattle.sn_command.specs.Runs.{Runs}
use Rattle.sn_command_captures.proofs.CaptureLemmas.{next_memory, next_stops, next_then}
use Rattle.sn_command_captures.specs.Captures.{CapturesAfter}
use Rattle.sn_command_captures.specs.declared.capture.Capture.{Capture}
use Rattle.sn_command_captures.proofs.read.+read_after.Goals as goal

pub returns-in_err-capture-clause-runs : goal.returns-in_err-capture-clause-runs
returns-in_err-capture-clause-runs g t c =
    let p = err_from_is_err_and c.from_residual.result c.from_residual.ensures.1 in
    let parts : texts c.args.names.now ≡ c.as_str.result.now ∷ texts c.in-Some.rest.now = ap texts c.in-Some.ensures.cases.0 ∙ ap (λ (name : List ℕ). name ∷ texts c.in-Some.rest.now) (sym c.as_str.ensures.value) in
    rw (p.1, p.2) (next_stops c.args.before (texts c.args.names.now) (texts c.in-Some.rest.now) parts (ap (λ (cs : List Capture). length cs + 1) c.as_slice.ensures) c.requires c.in_err-capture.ensures.works.runs)

pub returns-in_err-push-clause-runs : goal.returns-in_err-push-clause-runs
returns-in_err-push-clause-runs g t c =
    let p = err_from_is_err_and c.from_residual-in_err-push.result c.from_residual-in_err-push.ensures.1 in
    let parts : texts c.args.names.now ≡ c.as_str.result.now ∷ texts c.in-Some.rest.now = ap texts c.in-Some.ensures.cases.0 ∙ ap (λ (name : List ℕ). name ∷ texts c.in-Some.rest.now) (sym c.as_str.ensures.value) in
    rw (p.1, p.2) (next_memory c.args.before (texts c.args.names.now) (texts c.in-Some.rest.now) parts (ap (λ (cs : List Capture). length cs + 1) c.as_slice.ensures) c.requires c.in_ok-capture.ensures.works.runs)

pub returns-clause-runs : goal.returns-clause-runs
returns-clause-runs g t c =
    let parts : texts c.args.names.now ≡ c.as_str.result.now ∷ texts c.in-Some.rest.now = ap texts c.in-Some.ensures.cases.0 ∙ ap (λ (name : List ℕ). name ∷ texts c.in-Some.rest.now) (sym c.as_str.ensures.value) in
    let rest = texts c.in-Some.rest.now in
    let others =
    subst (λ (cs : List Capture). Runs rest (CapturesAfter cs rest) (world g.I.Inputs g.O.Sink c.read_capture.new.desk) c.read_after.result (world g.I.Inputs g.O.Sink c.read_after.new.desk)) c.in_ok-push.ensures.ok c.read_after.ensures.runs in
    next_then c.args.before (texts c.args.names.now) rest parts (ap (λ (cs : List Capture). length cs + 1) c.as_slice.ensures) c.requires c.in_ok-capture.ensures.works.runs others
