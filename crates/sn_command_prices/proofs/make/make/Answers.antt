use Rattle.std.proofs.Common.{Result, Ok, Err, IfOk}
use Rattle.sn_cost.specs.Entries.{trained}
use Rattle.sn_command_prices.proofs.make.make.Goals as goal

if_ok : {A E : Type 0} {P Q : A → Type 0} (r : Result A E) → ((x : A) → P x → Q x) → IfOk r P → IfOk r Q
if_ok (Ok x) f h = f x h
if_ok (Err e) f h = tt

pub returns : goal.returns
returns c = if_ok c.priced.result (λ p h. h (trained c.args.training.now.numbers c.args.training.now.tuples) c.in_ok-table.ensures.entries) c.priced.ensures
