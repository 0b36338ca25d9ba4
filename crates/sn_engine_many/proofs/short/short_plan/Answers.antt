use Rattle.std.proofs.Common.{◌≡◌, ℕ, ◌+◌, ◌<◌, ◌++◌, ◌∷◌, [], List, length, take, get_or, ap, sym, subst, ◌∙◌, arith}
use Rattle.std.specs.List.{AllByRecursion}
use Rattle.std.proofs.lemmas.List.{length-take, take_more}
use Rattle.sn_base.proofs.Lists.{all_weaker}
use Rattle.sn_emit.proofs.PlanLanes.{entry_all}
use Rattle.sn_emit.specs.Making.{CanMake}
use Rattle.sn_emit.specs.Plans.{pieces_from, placed}
use Rattle.sn_engine_many.proofs.Plans.{short_more}
use Rattle.sn_engine_many.specs.Shorts.{short_entries, short_entry}
use Rattle.sn_plan_grammar.specs.declared.plan.Entry.{Entry}
use Rattle.sn_plan_grammar.specs.declared.plan.Piece.{Piece}
use Rattle.sn_types.proofs.Facts.{few_queries}
use Rattle.sn_types.specs.Typed.{query_at}
use Rattle.sn_types.specs.declared.typed_query.TypedQuery.{TypedQuery}
use Rattle.sn_engine_many.proofs.short.short_plan.Goals as goal

pub short_entry-requires-clause-branches : goal.short_entry-requires-clause-branches
short_entry-requires-clause-branches c =
    let queries : List TypedQuery = c.args.t.now.queries in
    let i = c.loop-entry.entry-index in
    let e : Entry = c.entry-item.result in
    let same = c.as_slice-entry-items.ensures in
    let all = subst (λ (es : List Entry). AllByRecursion (CanMake queries) (pieces_from 0 es)) (sym same) c.requires.can in
    let can = entry_all (CanMake queries) 0 c.as_slice-entry-items.result.now i e c.loop-entry-test.true c.entry-item.is all in
    subst (λ (n : ℕ). AllByRecursion (λ (p : Piece). p.branch < length (query_at queries n).branches) e.pieces) (from i ∙ sym c.loop-entry.invariant.counted)
    (all_weaker (λ (p : Piece). CanMake queries (placed (0 + i) e.levels p)) (λ (p : Piece). p.branch < length (query_at queries (0 + i)).branches) (λ p made. made.branch) e.pieces can)
  where
    from : (i : ℕ) → 0 + i ≡ i
    from i = omega arith

pub overflow_add-q : goal.overflow_add-q
overflow_add-q c =
    let t = c.args.t.now in
    let few = few_queries t.window_us t.queries t.typed in
    let most = c.requires.few in
    let lt = c.loop-entry-test.true in
    omega (arith, few, most, lt, ap length c.as_slice-entry-items.ensures, c.loop-entry.invariant.counted)

pub loop-entry-preserved : goal.loop-entry-preserved
loop-entry-preserved c =
    let queries : List TypedQuery = c.args.t.now.queries in
    let es : List Entry = c.args.plan.now.entries in
    let i = c.loop-entry.entry-index in
    let e : Entry = c.entry-item.result in
    let same = c.as_slice-entry-items.ensures in
    let lt : i < length es = subst (λ (xs : List Entry). i < length xs) same c.loop-entry-test.true in
    let at : e ≡ get_or es i e = subst (λ (xs : List Entry). e ≡ get_or xs i e) same c.entry-item.is in
    let count : length (take i es) ≡ i = omega (arith, lt, length-take i es) in
    let before : List Entry = short_entries queries 0 (take i es) in
    record {
      counted = ap (λ (n : ℕ). n + 1) c.loop-entry.invariant.counted;
      made = c.in_ok-push.ensures.ok
          ∙ ap (λ (xs : List Entry). xs ++ c.in_ok-short_entry.field-0 ∷ []) c.loop-entry.invariant.made
          ∙ ap (λ (s : Entry). before ++ s ∷ []) (c.in_ok-short_entry.ensures ∙ ap (λ (n : ℕ). short_entry (query_at queries n) e) c.loop-entry.invariant.counted)
          ∙ sym (short_more queries (take i es) (take (i + 1) es) i e count (take_more es i e lt ∙ ap (λ (o : Entry). take i es ++ o ∷ []) (sym at)));
    }
