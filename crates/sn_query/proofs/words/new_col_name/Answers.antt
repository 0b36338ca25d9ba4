use Rattle.std.proofs.Common.{sym, ◌∙◌}
use Rattle.sn_text.specs.Lexing.{left}
use Rattle.sn_query_grammar.specs.Grammar.{col_names}
use Rattle.sn_query.proofs.Leaves.{fresh_halts, col_gives, col_twice}
use Rattle.sn_query.proofs.words.new_col_name.Goals as goal

pub returns-in-Err : goal.returns-in-Err
returns-in-Err c = fresh_halts (col_names c.args.taken.now) (left c.args.at) c.in-Err.stop c.in-Err.ensures

pub returns-then-is_column : goal.returns-then-is_column
returns-then-is_column c = col_twice c.args.taken.now (left c.args.at) (left c.in-Ok.found.1) c.in-Ok.found.0 c.in-Ok.ensures (sym c.if-is_column.true ∙ c.is_column.ensures)

pub returns : goal.returns
returns c = col_gives c.args.taken.now (left c.args.at) (left c.in-Ok.found.1) c.in-Ok.found.0 c.in-Ok.ensures (sym c.if-is_column.false ∙ c.is_column.ensures)
