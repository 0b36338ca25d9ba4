use Rattle.std.proofs.Common.{◌≤◌, length, map, ap, sym, subst, ◌∙◌, arith}
use Rattle.sn_types.proofs.Facts.{few_queries}
use Rattle.sn_plan_choices.specs.Costs.{entry_in}
use Rattle.sn_plan_space.specs.Known.{known_query, numbered}
use Rattle.sn_plan_space.specs.Readable.{AreReadable}
use Rattle.sn_plan_space.proofs.Typing.{typed_readable}
use Rattle.sn_plan_lists.specs.Costs.{plan_cost}
use Rattle.sn_prices_bound.specs.Few.{HaveFewPieces}
use Rattle.sn_prices_bound.proofs.Having.{shown_so}
use Rattle.sn_prices_bound.proofs.Knowing.{all_few}
use Rattle.sn_prices_bound.proofs.Sums.{as_many}
use Rattle.sn_prices_bound.proofs.bound.bound.Goals as goal

pub queries_of-requires-clause-readable : goal.queries_of-requires-clause-readable
queries_of-requires-clause-readable c = subst AreReadable (sym c.as_slice.ensures) (typed_readable c.args.t.now.window_us c.args.t.now.queries c.args.t.now.typed)

pub queries_of-requires-clause-few : goal.queries_of-requires-clause-few
queries_of-requires-clause-few c = subst (λ l. length l ≤ 8) (sym c.as_slice.ensures) (few_queries c.args.t.now.window_us c.args.t.now.queries c.args.t.now.typed)

pub queries_price-have-requires-clause-pieces : goal.queries_price-have-requires-clause-pieces
queries_price-have-requires-clause-pieces c =
    subst HaveFewPieces (sym (c.as_slice-2.ensures ∙ c.in_ok-known.ensures ∙ ap (λ l. map (known_query c.args.s.now (entry_in c.args.c.now)) (numbered 0 l)) c.as_slice.ensures))
    (all_few c.args.s.now (entry_in c.args.c.now) 0 c.args.t.now.queries (typed_readable c.args.t.now.window_us c.args.t.now.queries c.args.t.now.typed))

pub queries_price-have-requires-clause-queries : goal.queries_price-have-requires-clause-queries
queries_price-have-requires-clause-queries c =
    let few = few_queries c.args.t.now.window_us c.args.t.now.queries c.args.t.now.typed in
    let long = as_many (known_query c.args.s.now (entry_in c.args.c.now)) c.as_slice.result.now c.as_slice-2.result.now (c.as_slice-2.ensures ∙ c.in_ok-known.ensures) in
    let same = ap length c.as_slice.ensures in omega arith

pub returns-clause-none_cheaper : goal.returns-clause-none_cheaper
returns-clause-none_cheaper c = λ entries fits.
    let s = c.args.s.now in
    let entry = entry_in c.args.c.now in
    let queries = c.args.t.now.queries in
    let have = c.queries_price-have.ensures.value entry queries (c.as_slice-2.ensures ∙ c.in_ok-known.ensures ∙ ap (λ l. map (known_query s entry) (numbered 0 l)) c.as_slice.ensures) in
    let shown = shown_so s entry c.args.p.now queries c.queries_price-have.result c.worth.result c.saturating_sub.result c.rounded_up.result have c.worth.ensures.value c.saturating_sub.ensures c.rounded_up.ensures in
    let rising = c.typed_queries_and_switches_rise.ensures s c.args.t.now.window_us queries c.args.t.now.typed c.requires.switch in
    subst (λ n. n ≤ plan_cost s entry 0 queries entries) (sym shown) (c.prices_bound_costs.ensures s entry c.args.p.now queries entries rising fits)
