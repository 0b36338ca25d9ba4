use Rattle.sn_text.specs.Lexing.{left}
use Rattle.sn_query.proofs.Leaves.{fresh_halts}
use Rattle.sn_query.proofs.words.new_name.Goals as goal

pub returns-in-Err : goal.returns-in-Err
returns-in-Err c = fresh_halts c.args.taken.now (left c.args.at) c.in-Err.stop c.in-Err.ensures
