use Rattle.std.proofs.Common.{sym, ◌∙◌}
use Rattle.sn_text.specs.Lexing.{left}
use Rattle.sn_query_grammar.specs.Grammar.{query_names}
use Rattle.sn_query.proofs.Leaves.{fresh_halts, query_gives, query_twice}
use Rattle.sn_query.proofs.words.new_query_name.Goals as goal

pub returns-in-Err : goal.returns-in-Err
returns-in-Err c = fresh_halts (query_names c.args.taken.now) (left c.args.at) c.in-Err.stop c.in-Err.ensures

pub returns-then-is_query : goal.returns-then-is_query
returns-then-is_query c = query_twice c.args.taken.now (left c.args.at) (left c.in-Ok.found.1) c.in-Ok.found.0 c.in-Ok.ensures (sym c.if-is_query.true ∙ c.is_query.ensures)

pub returns : goal.returns
returns c = query_gives c.args.taken.now (left c.args.at) (left c.in-Ok.found.1) c.in-Ok.found.0 c.in-Ok.ensures (sym c.if-is_query.false ∙ c.is_query.ensures)
