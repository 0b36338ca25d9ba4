use Rattle.std.proofs.Common.{◌≡◌, ℕ, ◌+◌, ◌<◌, ◌≤◌, ◌++◌, List, length, map, take, get_or, ap, sym, subst, ◌∙◌, arith}
use Rattle.std.specs.List.{AllByRecursion}
use Rattle.std.proofs.lemmas.List.{length-take, take_all}
use Rattle.sn_plan_grammar.specs.declared.plan.Entry.{Entry}
use Rattle.sn_plan_grammar.specs.declared.plan.Piece.{Piece}
use Rattle.sn_types.specs.declared.typed_query.TypedQuery.{TypedQuery}
use Rattle.sn_emit.specs.declared.sender.Sender.{Sender}
use Rattle.sn_emit.specs.Making.{CanMake}
use Rattle.sn_emit.specs.Plans.{AreNewLanes, Placed, pieces_from, placed}
use Rattle.sn_emit.proofs.PlanLanes.{entry_all, pieces_more}
use Rattle.sn_emit.proofs.making.senders_of.Goals as goal

pub push_senders-requires-clause-can : goal.push_senders-requires-clause-can
push_senders-requires-clause-can c =
    let queries : List TypedQuery = c.args.t.now.queries in
    let e : Entry = c.entry-item.result in
    let same = c.as_slice-entry-items.ensures in
    let all = subst (λ (es : List Entry). AllByRecursion (CanMake queries) (pieces_from 0 es)) (sym same) c.requires.can in
    let can = entry_all (CanMake queries) 0 c.as_slice-entry-items.result.now c.loop-entry.entry-index e c.loop-entry-test.true c.entry-item.is all in
    subst (λ (ps : List Piece). AllByRecursion (λ p. CanMake queries (placed c.loop-entry.q c.as_slice-path.result.now p)) ps) (sym c.as_slice.ensures)
    (subst (λ (path : List ℕ). AllByRecursion (λ p. CanMake queries (placed c.loop-entry.q path p)) e.pieces) (sym c.as_slice-path.ensures.value)
    (subst (λ (n : ℕ). AllByRecursion (λ p. CanMake queries (placed n e.levels p)) e.pieces) (from c.loop-entry.entry-index ∙ sym c.loop-entry.invariant.counted) can))
  where
    from : (i : ℕ) → 0 + i ≡ i
    from i = omega arith

pub overflow_add-q : goal.overflow_add-q
overflow_add-q c =
    let few = c.requires.few in
    let lt = c.loop-entry-test.true in
    omega (arith, few, lt, ap length c.as_slice-entry-items.ensures, c.loop-entry.invariant.counted)

pub loop-entry-preserved : goal.loop-entry-preserved
loop-entry-preserved c =
    let queries : List TypedQuery = c.args.t.now.queries in
    let tables = c.args.tables in
    let es : List Entry = c.args.plan.now.entries in
    let i = c.loop-entry.entry-index in
    let e : Entry = c.entry-item.result in
    let same = c.as_slice-entry-items.ensures in
    let lt : i < length es = subst (λ (xs : List Entry). i < length xs) same c.loop-entry-test.true in
    let at : e ≡ get_or es i e = subst (λ (xs : List Entry). e ≡ get_or xs i e) same c.entry-item.is in
    let count : length (take i es) ≡ i = omega (arith, lt, length-take i es) in
    let path = c.as_slice-path.result.now in
    let pieces = c.as_slice.result.now in
    let before : List Placed = pieces_from 0 (take i es) in
    let own : map (placed c.loop-entry.q path) pieces ≡ map (placed i e.levels) e.pieces =
    ap (λ (n : ℕ). map (placed n path) pieces) c.loop-entry.invariant.counted
    ∙ ap (λ (p : List ℕ). map (placed i p) pieces) c.as_slice-path.ensures.value
    ∙ ap (map (placed i e.levels)) c.as_slice.ensures in
    record {
      counted = ap (λ (n : ℕ). n + 1) c.loop-entry.invariant.counted;
      lanes = subst (λ (xs : List Placed). AreNewLanes queries tables xs c.push_senders.new.lanes) (ap (λ (xs : List Placed). before ++ xs) own ∙ pieces_more es i e lt at count)
          (c.in_ok-push_senders.ensures before c.loop-entry.invariant.lanes);
    }

pub returns : goal.returns
returns c =
    let t = c.args.t.now in
    let es : List Entry = c.args.plan.now.entries in
    let i = c.loop-entry.entry-index in
    let end : length es ≤ i = subst (λ (xs : List Entry). length xs ≤ i) c.as_slice-entry-items.ensures c.loop-entry-test.false in
    let whole = take_all i es end in
    subst (λ (ss : List Sender). AreNewLanes t.queries c.args.tables (pieces_from 0 es) ss) (sym c.into_vec.ensures)
    (subst (λ (xs : List Entry). AreNewLanes t.queries c.args.tables (pieces_from 0 xs) c.loop-entry.lanes) whole c.loop-entry.invariant.lanes)
