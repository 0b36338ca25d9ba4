use Rattle.sn_text.specs.Cutting.{tokens_of}
use Rattle.sn_text.proofs.Ends.{tokens_ended}
use Rattle.sn_tree_text.specs.Places.{from_byte}
use Rattle.sn_tree_text.proofs.Places.{ended_from}
use Rattle.sn_prices_text.proofs.Shows.{found_so, few_so, only_so, none_so, fault_so}
use Rattle.sn_prices_text.proofs.text.parse.Goals as goal

pub returns-in-Ok-clause-found : goal.returns-in-Ok-clause-found
returns-in-Ok-clause-found c = found_so _ _ _ c.lexer_at.ensures c.in-Ok.ensures

pub returns-in-Ok-clause-few : goal.returns-in-Ok-clause-few
returns-in-Ok-clause-few c = few_so _ _ _ c.lexer_at.ensures c.in-Ok.ensures

pub returns-in-Ok-clause-only : goal.returns-in-Ok-clause-only
returns-in-Ok-clause-only c x s = only_so _ _ _ _ c.lexer_at.ensures c.in-Ok.ensures s

pub returns-in-Err-clause-only : goal.returns-in-Err-clause-only
returns-in-Err-clause-only c x s = none_so _ _ _ _ x c.lexer_at.ensures c.in-Err.ensures c.answer.ensures s

pub returns-in-Err-clause-fault : goal.returns-in-Err-clause-fault
returns-in-Err-clause-fault c = fault_so (from_byte c.args.from (tokens_of c.args.text.now)) _ _ _ (ended_from c.args.from (tokens_of c.args.text.now) (tokens_ended c.args.text.now)) c.lexer_at.ensures c.in-Err.ensures c.answer.ensures
