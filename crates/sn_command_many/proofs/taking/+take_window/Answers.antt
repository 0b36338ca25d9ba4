use Rattle.std.proofs.Common.{◌≡◌, ◌+◌, ℕ, suc, List, arith, map, subst, sym}
use Rattle.sn_command_captures.specs.Counted.{left_of}
use Rattle.sn_command_captures.specs.declared.share.Share.{Share}
use Rattle.sn_command_many.proofs.GiveLemmas.{taken_then}
use Rattle.sn_command_many.specs.Giving.{HasTaken, given_all, given_each}
use Rattle.sn_windows.specs.Windows.{in_window}
use Rattle.sn_command_many.proofs.taking.+take_window.Goals as goal

pub returns-in_ok-take_window-clause-taken : goal.returns-in_ok-take_window-clause-taken
returns-in_ok-take_window-clause-taken t c =
    let switch = c.args.switch in
    let first : Share = c.in-Some.first.now in
    let rest : List Share = c.in-Some.rest.now in
    let mine : List (List ℕ) = in_window c.args.number (left_of first) in
    let others : List (List (List ℕ)) = map (in_window c.args.number) (map left_of rest) in
    let next : switch + 1 ≡ suc switch = omega arith in
    subst (λ (shares : List Share). HasTaken (given_each switch (map (in_window c.args.number) (map left_of shares))) c.args.many.now c.take_window.new.many) (sym c.in-Some.ensures.cases.0)
    (subst (λ (n : ℕ). HasTaken (λ captures. given_each n others (given_all switch mine captures)) c.args.many.now c.take_window.new.many) next
    (taken_then c.in_ok-take_share.ensures.taken c.in_ok-take_window.ensures.taken))
