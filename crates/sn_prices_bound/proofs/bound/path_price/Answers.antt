use Rattle.std.proofs.Common.{◌+◌, ap, arith}
use Rattle.std.specs.List.{sum_by}
use Rattle.sn_plan_space.specs.Known.{known_piece}
use Rattle.sn_prices.specs.Least.{least_piece}
use Rattle.sn_prices_bound.proofs.Sums.{mapped_at, sum_more}
use Rattle.sn_prices_bound.proofs.bound.path_price.Goals as goal

pub loop-piece-preserved : goal.loop-piece-preserved
loop-piece-preserved c = record {
  value = λ entry ts e.
      let k = mapped_at (known_piece c.args.s.now entry) ts c.args.pieces.now c.loop-piece.piece-index c.piece-item.result e c.loop-piece-test.true c.piece-item.is in
      sum_more (least_piece c.args.s.now entry c.args.p.now) ts c.loop-piece.piece-index c.loop-piece.total (c.loop-piece.total + c.piece_price-total.result)
      (sum_by (least_piece c.args.s.now entry c.args.p.now) ts) k.0 k.2 (ap (λ n. c.loop-piece.total + n) (c.piece_price-total.ensures.value entry k.0 k.1))
      (c.loop-piece.invariant.value entry ts e);
  most = (let a = c.loop-piece.invariant.most in let b = c.piece_price-total.ensures.most in omega arith);
}
