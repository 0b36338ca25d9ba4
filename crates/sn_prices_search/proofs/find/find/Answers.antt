use Rattle.std.proofs.Common.{◌≤◌, length, sym, subst}
use Rattle.sn_types.proofs.Facts.{few_queries}
use Rattle.sn_plan_space.specs.Readable.{AreReadable}
use Rattle.sn_plan_space.proofs.Typing.{typed_readable}
use Rattle.sn_prices_search.proofs.find.find.Goals as goal

pub queries_of-requires-clause-readable : goal.queries_of-requires-clause-readable
queries_of-requires-clause-readable c = subst AreReadable (sym c.as_slice.ensures) (typed_readable c.args.t.now.window_us c.args.t.now.queries c.args.t.now.typed)

pub queries_of-requires-clause-few : goal.queries_of-requires-clause-few
queries_of-requires-clause-few c = subst (λ l. length l ≤ 8) (sym c.as_slice.ensures) (few_queries c.args.t.now.window_us c.args.t.now.queries c.args.t.now.typed)
