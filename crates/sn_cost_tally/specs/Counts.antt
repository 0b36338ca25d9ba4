-- serves proofs
-- How often each key comes.
use Rattle.std.specs.Prelude.{ℕ, List, map}
use Rattle.sn_base.specs.Folds.{capped_sum}
use Rattle.sn_base.specs.Groups.{Row, folded, same_row}

-- a key beside a 1
abbrev pub one : Row → Row × ℕ
one key = (key, 1)

-- the distinct keys, each with the sum of its ones
abbrev pub counted : List Row → List (Row × ℕ)
counted keys = folded same_row (capped_sum 64) 0 (map one keys)
