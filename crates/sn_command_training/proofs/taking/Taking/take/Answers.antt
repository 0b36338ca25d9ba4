use Rattle.std.proofs.Common.{◌+◌, ℕ, List, length, sym, subst}
use Rattle.sn_command_training.specs.declared.taking.Found.{Found}
use Rattle.sn_command_training.specs.Taking.{IsTakenAs, TakesRecords}
use Rattle.sn_command_training.proofs.TakeLemmas.{more_taken, on_ok_map}
use Rattle.sn_command_training.proofs.taking.Taking.take.Goals as goal

pub returns-in_ok-push_bytes-in-Header-clause-taken : goal.returns-in_ok-push_bytes-in-Header-clause-taken
returns-in_ok-push_bytes-in-Header-clause-taken c =
    let held : List ℕ = c.args.self.now.held.items in
    let more = c.args.piece.now in
    on_ok_map c.take_records.result c.take_records.ensures.taken (λ goes window file place taken next.
    let t = subst (λ (f : Found). IsTakenAs window file place f held c.args.self.now.collected) c.in-Header.is taken in
    goes window file (place + length more)
    (subst (λ (xs : List ℕ). TakesRecords window file (place + length more) c.in-Header.header xs c.args.self.now.collected) (sym c.in_ok-push_bytes-in-Header.ensures)
    (more_taken window file place c.in-Header.header held more c.args.self.now.collected t.0 next)))
