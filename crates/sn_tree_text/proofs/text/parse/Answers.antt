use Rattle.sn_text.specs.Cutting.{tokens_of}
use Rattle.sn_text.proofs.Ends.{tokens_ended}
use Rattle.sn_tree_text.specs.Places.{from_byte}
use Rattle.sn_tree_text.proofs.Places.{ended_from}
use Rattle.sn_tree_text.proofs.Trees.{found_so, only_so, none_so, fault_so}
use Rattle.sn_tree_text.proofs.text.parse.Goals as goal

pub returns-in-Ok-clause-found : goal.returns-in-Ok-clause-found
returns-in-Ok-clause-found c = found_so _ _ _ _ c.lexer_at.ensures c.in-Ok.ensures

pub returns-in-Ok-clause-only : goal.returns-in-Ok-clause-only
returns-in-Ok-clause-only c cost nodes s = only_so _ _ _ _ _ _ c.lexer_at.ensures c.in-Ok.ensures s

pub returns-in-Err-clause-only : goal.returns-in-Err-clause-only
returns-in-Err-clause-only c cost nodes s = none_so _ _ _ _ cost nodes c.lexer_at.ensures c.in-Err.ensures c.answer.ensures s

pub returns-in-Err-clause-fault : goal.returns-in-Err-clause-fault
returns-in-Err-clause-fault c = fault_so (from_byte c.args.from (tokens_of c.args.text.now)) _ _ _ (ended_from c.args.from (tokens_of c.args.text.now) (tokens_ended c.args.text.now)) c.lexer_at.ensures c.in-Err.ensures c.answer.ensures
