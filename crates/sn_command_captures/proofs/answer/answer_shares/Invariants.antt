use Rattle.std.proofs.Common.{◌≡◌, List, [], length, map}
use Rattle.std.specs.List.{AllByRecursion}
use Rattle.sn_command.specs.Desks.{world}
use Rattle.sn_command.specs.Runs.{Leads}
use Rattle.sn_command_captures.specs.Answered.{Answered, Shared, ending_of, windows_in}
use Rattle.sn_command_captures.specs.Counted.{left_of}
use Rattle.sn_command_captures.specs.Shares.{IsSound}
use Rattle.sn_command_captures.proofs.AnswerLemmas.{IsBetween, Left}
use Rattle.sn_windows_together.proofs.MergeLemmas.{all_of}
use Rattle.sn_command_captures.proofs.answer.answer_shares.Given as goal

-- the first windows were answered, and their blocks written
abbrev pub invariant-windows : goal.invariant-windows
invariant-windows g l = record {
  sound : AllByRecursion IsSound l.shares;
  endings : map ending_of l.shares ≡ map ending_of l.fn.shares;
  wording : g.T.Team.wording l.team ≡ g.T.Team.wording l.fn.team;
  between : IsBetween (λ (done : List Shared). g.T.Team.answered l.team (windows_in l.fn.shares) done) (windows_in l.fn.shares) (windows_in l.shares) l.windows;
  leads : Leads [] (Left (g.T.Team.wording l.fn.team) (windows_in l.fn.shares) (map ending_of l.fn.shares) (windows_in l.shares)) (Answered (g.T.Team.wording l.fn.team) l.fn.shares)
      (world g.I.Inputs g.O.Sink l.fn.desk) (world g.I.Inputs g.O.Sink l.desk);
}

-- each turn takes a record
abbrev pub decreases-windows : goal.decreases-windows
decreases-windows g l = length (all_of (map left_of l.shares))
