-- Where calls went well.
use Rattle.std.proofs.Common.{Result, Ok, Err}
use Rattle.std.specs.Result.{OnOk}

module _ {X Y : Type 0} {P Q R S T : Type 0} where
  pub on_four : (r : Result X Y) → OnOk r P → OnOk r Q → OnOk r R → OnOk r S → (P → Q → R → S → T) → OnOk r T
  on_four (Ok x) one two three four f = f one two three four
  on_four (Err e) one two three four f = tt
