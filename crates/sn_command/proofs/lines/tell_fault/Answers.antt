use Rattle.std.proofs.Common.{List, [], ◌∷◌, ◌++◌, codes, ℕ, subst}
use Rattle.std.specs.Fmt.{decimal}
use Rattle.sn_command.specs.Desks.{sunk}
use Rattle.sn_command.specs.Reported.{Tells}
use Rattle.sn_command.proofs.lines.tell_fault.Goals as goal

pub returns-in-Queries : goal.returns-in-Queries
returns-in-Queries g c = rw c.in-Queries.is c.tell_queries.ensures

pub returns-in-Switch : goal.returns-in-Switch
returns-in-Switch g c = rw c.in-Switch.is c.tell_text_fault.ensures

pub returns-in-Head : goal.returns-in-Head
returns-in-Head g c =
    rw c.in-Head.is (subst (λ (words : List ℕ). Tells (words ++ 10 ∷ []) c.tell_words.result (sunk g.E.Sink c.args.err.now) (sunk g.E.Sink c.tell_words.new.err)) c.head_words.ensures c.tell_words.ensures)

pub returns-in-Cut : goal.returns-in-Cut
returns-in-Cut g c = rw c.in-Cut.is c.tell_byte.ensures

pub returns-in-Bad : goal.returns-in-Bad
returns-in-Bad g c = rw c.in-Bad.is c.tell_byte-in-Bad.ensures

pub returns-in-HeadOf : goal.returns-in-HeadOf
returns-in-HeadOf g c =
    rw c.in-HeadOf.is (subst (λ (words : List ℕ). Tells (words ++ codes " file " ++ decimal c.in-HeadOf.file ++ 10 ∷ []) c.tell_file.result (sunk g.E.Sink c.args.err.now) (sunk g.E.Sink c.tell_file.new.err)) c.head_words-in-HeadOf.ensures c.tell_file.ensures)

pub returns-in-CutOf : goal.returns-in-CutOf
returns-in-CutOf g c = rw c.in-CutOf.is c.tell_byte_of.ensures

pub returns-in-BadOf : goal.returns-in-BadOf
returns-in-BadOf g c = rw c.in-BadOf.is c.tell_byte_of-in-BadOf.ensures

pub returns-in-Plan : goal.returns-in-Plan
returns-in-Plan g c = rw c.in-Plan.is c.tell_text_fault-in-Plan.ensures

pub returns-in-Misfit : goal.returns-in-Misfit
returns-in-Misfit g c = rw c.in-Misfit.is c.tell_misfit.ensures

pub returns-in-Tree : goal.returns-in-Tree
returns-in-Tree g c = rw c.in-Tree.is c.tell_text_fault-in-Tree.ensures

pub returns-in-Unshown : goal.returns-in-Unshown
returns-in-Unshown g c = rw c.in-Unshown.is c.tell_flaw.ensures

pub returns-in-Budget : goal.returns-in-Budget
returns-in-Budget g c = rw c.in-Budget.is c.tell_spent.ensures

pub returns-in-Reports : goal.returns-in-Reports
returns-in-Reports g c = rw c.in-Reports.is c.tell_reports.ensures

pub returns-in-TooLarge : goal.returns-in-TooLarge
returns-in-TooLarge g c = rw c.in-TooLarge.is c.tell_text.ensures
