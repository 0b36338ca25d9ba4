use Rattle.std.proofs.Common.{◌≡◌, ap, sym, ◌∙◌}
use Rattle.sn_text_rules.specs.Tokens.{fails}
use Rattle.sn_text_rules.specs.Rules.{kept}
use Rattle.sn_text_rules.proofs.Faults.{found_of, only_of, none_of, fault_of}
use Rattle.sn_text_rules.proofs.Bounded.{whole_ok}
use Rattle.sn_text.proofs.Ends.{tokens_ended}
use Rattle.sn_text.specs.Lexing.{left, token_of}
use Rattle.sn_text.specs.Cutting.{tokens_of}
use Rattle.sn_query_grammar.specs.Grammar.{file_rule}
use Rattle.sn_query_grammar.proofs.Queries.{file_good, file_ends}
use Rattle.sn_query_grammar.proofs.Starts.{file_starts}
use Rattle.sn_query_grammar.proofs.Bounded.{file_whole}
use Rattle.sn_query_grammar.proofs.FileLimits.{accepted_keeps_limits}
use Rattle.sn_query.proofs.Files.{fault_is}
use Rattle.sn_query.proofs.parse.parse.Goals as goal

pub returns-in-Ok-clause-found : goal.returns-in-Ok-clause-found
returns-in-Ok-clause-found c = found_of file_rule file_good (tokens_of c.args.text.now) c.in-Ok.file (ap (file_rule.read kept) (sym c.new.ensures) ∙ c.in-Ok.ensures)

pub returns-in-Ok-clause-limits : goal.returns-in-Ok-clause-limits
returns-in-Ok-clause-limits c = accepted_keeps_limits (tokens_of c.args.text.now) c.in-Ok.file (found_of file_rule file_good (tokens_of c.args.text.now) c.in-Ok.file (ap (file_rule.read kept) (sym c.new.ensures) ∙ c.in-Ok.ensures))

pub returns-in-Ok-clause-only : goal.returns-in-Ok-clause-only
returns-in-Ok-clause-only c = λ file h. only_of file_rule file_good file_ends (tokens_of c.args.text.now) c.in-Ok.file file (ap (file_rule.read kept) (sym c.new.ensures) ∙ c.in-Ok.ensures) h

pub returns-in-Err-Fault-clause-only : goal.returns-in-Err-Fault-clause-only
returns-in-Err-Fault-clause-only c = λ file h.
    let e : file_rule.read kept (left c.new.result) ≡ fails c.in-Err-Fault.flaw (left c.in-Err-Fault.at) = rw c.in-Err-Fault.field-0-is at c.in-Err-Fault.ensures in
    absurd (none_of file_rule file_good file_ends (tokens_of c.args.text.now) (left c.in-Err-Fault.at) c.in-Err-Fault.flaw file (ap (file_rule.read kept) (sym c.new.ensures) ∙ e) h)

pub returns-in-Err-Fault-clause-fault : goal.returns-in-Err-Fault-clause-fault
returns-in-Err-Fault-clause-fault c =
    let e : file_rule.read kept (left c.new.result) ≡ fails c.in-Err-Fault.flaw (left c.in-Err-Fault.at) = rw c.in-Err-Fault.field-0-is at c.in-Err-Fault.ensures in
    fault_is (tokens_of c.args.text.now) c.fault_of.result c.in-Err-Fault.flaw c.scan.result.0.line c.scan.result.0.column c.fault_of.ensures (whole_ok file_whole (tokens_of c.args.text.now) (left c.in-Err-Fault.at) c.in-Err-Fault.flaw (tokens_ended c.args.text.now) (ap (file_rule.read kept) (sym c.new.ensures) ∙ e))
    (fault_of file_rule file_good file_starts file_ends (tokens_of c.args.text.now) (left c.in-Err-Fault.at) _ (token_of c.scan.result.0) c.in-Err-Fault.flaw (ap (file_rule.read kept) (sym c.new.ensures) ∙ e) c.scan.ensures)
