use Rattle.std.proofs.Common.{ℕ, ◌≤◌, List, ◌++◌, length, drop, replicate, arith, length-append}
use Rattle.std.proofs.lemmas.List.{drop-replicate, length-replicate}
use Rattle.std.proofs.Math.Seq.{take-append_seam}
use Rattle.sn_base.specs.Rows.{IsFilledTo}

-- cells of zeros with a list copied into their front
pub filled_front : (room : ℕ) (xs : List ℕ) → length xs ≤ room → IsFilledTo room (xs ++ drop (length xs) (replicate room 0)) (length xs)
filled_front room xs fits = record {
  long = simp (length-append, drop-replicate, length-replicate) (omega arith);
  fits = fits;
  zeros = rw (take-append_seam, drop-replicate);
}
