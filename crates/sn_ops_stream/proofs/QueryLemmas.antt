-- Queries to which tuples come.
use Rattle.std.proofs.Common.{◌≡◌, ℕ, ◌+◌, ◌<◌, zero, suc, List, [], ◌∷◌, ◌++◌, map, drop, get_or, length, Bool, cond, Option, None, Some, Result, Ok, Err, IfOk, drop-cons, refl, ap, sym, ◌∙◌, subst, arith}
use Rattle.std.specs.Prelude.{◌==◌}
use Rattle.std.proofs.lemmas.Bool.{eqb-true}
use Rattle.sn_base.specs.Groups.{Row}
use Rattle.sn_base.specs.Operators.{through}
use Rattle.sn_base.proofs.Lists.{not_true}
use Rattle.sn_types.specs.declared.typed_query.TypedQuery.{TypedQuery}
use Rattle.sn_types.specs.Typed.{IsTyped, final_columns, finest_level, query_at}
use Rattle.sn_types.specs.Values.{op_at}
use Rattle.sn_types.proofs.RowsAfter.{AreOf}
use Rattle.sn_ops.specs.Joins.{joined}
use Rattle.sn_ops.specs.Plain.{branch_rows, joined_rows, query_rows}
use Rattle.sn_ops.proofs.Queries.{query_one}
use Rattle.sn_ops_stream.specs.Streams.{AllHaveTaken, GivesRows, HasTaken, HasTakenMore, HaveTaken, QueryGivesRows, QueryHasTaken, QueryHasTakenMore, SecondHasTaken, branch_in}
use Rattle.sn_ops_stream.specs.declared.any_branch.AnyBranch.{AnyBranch}
use Rattle.sn_ops_stream.specs.declared.query.QueryStream.{QueryStream}

-- what holds of a result by two clauses
pub both_ok : {X Y : Type 0} (P Q : X → Type 0) (r : Result X Y) → IfOk r P → IfOk r Q → IfOk r (λ x. P x × Q x)
both_ok P Q (Ok x) p q = (p, q)
both_ok P Q (Err e) p q = tt

-- ---- one query

-- the second branch, where there is one
pub second_taken : (queries : List TypedQuery) (q level : ℕ) (tuples : List (List ℕ)) (held : Option AnyBranch) (second : AnyBranch) → held ≡ Some second → SecondHasTaken queries q level tuples held
    → (length (query_at queries q).branches ≡ 2) × HasTaken queries q 1 level tuples (branch_in second)
second_taken queries q level tuples held second is h = subst (SecondHasTaken queries q level tuples) is h

pub both_taken : (more : List (List ℕ)) (old : QueryStream) (first second second' : AnyBranch) → HasTakenMore more (branch_in old.first) (branch_in first) → old.second ≡ Some second → HasTakenMore more (branch_in second) (branch_in second')
    → QueryHasTakenMore more old (record { q = old.q; level = old.level; first = first; second = Some second' })
both_taken more old first second second' one is two =
    record {
      same_query = refl;
      same_level = refl;
      taken = λ queries tuples h.
          let had = second_taken queries old.q old.level tuples old.second second is h.1 in
          (one queries old.q 0 old.level tuples h.0, (had.0, two queries old.q 1 old.level tuples had.1));
    }

pub one_taken : (more : List (List ℕ)) (old : QueryStream) (first : AnyBranch) → HasTakenMore more (branch_in old.first) (branch_in first) → old.second ≡ None
    → QueryHasTakenMore more old (record { q = old.q; level = old.level; first = first; second = old.second })
one_taken more old first one is =
    record {
      same_query = refl;
      same_level = refl;
      taken = λ queries tuples h.
          let had : SecondHasTaken queries old.q old.level tuples None = subst (SecondHasTaken queries old.q old.level tuples) is h.1 in
          (one queries old.q 0 old.level tuples h.0, subst (SecondHasTaken queries old.q old.level (tuples ++ more)) (sym is) had);
    }

-- the rows of a query with two branches
pub joined_given : (queries : List TypedQuery) (s : QueryStream) (second : AnyBranch) (left right found : List Row) → s.second ≡ Some second → GivesRows (branch_in s.first) left → GivesRows (branch_in second) right
    → found ≡ through (map (op_at s.level) (query_at queries s.q).posts) (joined (query_at queries s.q).keys left right) → AreOf (final_columns (query_at queries s.q)) found → QueryGivesRows queries s found
joined_given queries s second left right found is one two rows columns tuples h =
    let query : TypedQuery = query_at queries s.q in
    let had = second_taken queries s.q s.level tuples s.second second is h.1 in
    let following : List Row → List Row → List Row = λ ls rs. through (map (op_at s.level) query.posts) (joined query.keys ls rs) in
    let whole : List Row = following (branch_rows query 0 s.level None tuples) (branch_rows query 1 s.level None tuples) in
    let chosen : whole ≡ query_rows query s.level None tuples = sym (ap (λ (n : ℕ). cond (n == 2) whole (branch_rows query 0 s.level None tuples)) had.0) in (
      rows ∙ ap (λ (ls : List Row). following ls right) (one queries s.q 0 s.level tuples h.0).0
          ∙ ap (following (branch_rows query 0 s.level None tuples)) (two queries s.q 1 s.level tuples had.1).0 ∙ chosen,
      columns,
    )

-- and of one with one branch
pub one_given : (window : ℕ) (queries : List TypedQuery) (s : QueryStream) (found : List Row) → ∥ IsTyped window queries ∥₁ → s.second ≡ None → GivesRows (branch_in s.first) found → QueryGivesRows queries s found
one_given window queries s found typed is one tuples h =
    let query : TypedQuery = query_at queries s.q in
    let alone : SecondHasTaken queries s.q s.level tuples None = subst (SecondHasTaken queries s.q s.level tuples) is h.1 in
    let given = one queries s.q 0 s.level tuples h.0 in
    let two : List Row = through (map (op_at s.level) query.posts) (joined_rows query s.level None tuples) in
    let chosen : branch_rows query 0 s.level None tuples ≡ query_rows query s.level None tuples =
    sym (ap (λ (b : Bool). cond b two (branch_rows query 0 s.level None tuples)) (not_true (length query.branches == 2) (λ e. alone (eqb-true (length query.branches) 2 e)))) in
    (given.0 ∙ chosen, query_one window queries s.q found typed h.0.query alone given.1)

-- ---- all queries

-- one query more
pub one_more : (queries : List TypedQuery) (tuples : List (List ℕ)) (from stop : ℕ) (streams : List QueryStream) (s : QueryStream) → HaveTaken queries tuples from stop streams
    → s.q ≡ stop → s.level ≡ finest_level (query_at queries stop) → QueryHasTaken queries tuples s → HaveTaken queries tuples from (stop + 1) (streams ++ s ∷ [])
one_more queries tuples from stop [] s h number level taken =
    (number ∙ sym h, subst (λ (n : ℕ). s.level ≡ finest_level (query_at queries n)) (sym h) level, taken, ap (λ (n : ℕ). n + 1) h)
one_more queries tuples from stop (x ∷ streams) s h number level taken = (h.0, h.1, h.2, one_more queries tuples (from + 1) stop streams s h.3 number level taken)

-- how many they are
pub count : (queries : List TypedQuery) (tuples : List (List ℕ)) (from stop : ℕ) (streams : List QueryStream) → HaveTaken queries tuples from stop streams → from + length streams ≡ stop
count queries tuples from stop [] h = omega (arith, h)
count queries tuples from stop (s ∷ streams) h = let rest = count queries tuples (from + 1) stop streams h.3 in omega (arith, rest)

-- the one at a place
pub record StandsAt (queries : List TypedQuery) (tuples : List (List ℕ)) (number : ℕ) (s : QueryStream) : Type 0 where
  pub number_is : s.q ≡ number
  pub level_is : s.level ≡ finest_level (query_at queries number)
  pub taken : QueryHasTaken queries tuples s

pub at_place : (queries : List TypedQuery) (tuples : List (List ℕ)) (from stop i : ℕ) (streams later : List QueryStream) (s : QueryStream) → HaveTaken queries tuples from stop streams → drop i streams ≡ s ∷ later
    → StandsAt queries tuples (from + i) s
at_place queries tuples from stop i [] later s h is = absurd (nothing i is)
  where
    nothing : (i : ℕ) → drop i [] ≡ s ∷ later → ⊥
    nothing zero e = cc
    nothing (suc i) e = cc
at_place queries tuples from stop zero (x ∷ streams) later s h is =
    let same : x ≡ s = ap (λ (xs : List QueryStream). get_or xs 0 s) is in
    subst (λ (n : ℕ). StandsAt queries tuples n s) (omega arith) (subst (StandsAt queries tuples from) same (record { number_is = h.0; level_is = h.1; taken = h.2 }))
at_place queries tuples from stop (suc i) (x ∷ streams) later s h is =
    subst (λ (n : ℕ). StandsAt queries tuples n s) (omega arith) (at_place queries tuples (from + 1) stop i streams later s h.3 is)

-- and of all, the one that a loop comes to, where those before it have changed
pub at_hand : (queries : List TypedQuery) (tuples : List (List ℕ)) (streams streams' : List QueryStream) (i : ℕ) (d : QueryStream) → AllHaveTaken queries tuples streams → i < length streams' → drop i streams' ≡ drop i streams
    → StandsAt queries tuples i (get_or streams' i d)
at_hand queries tuples streams streams' i d h within same =
    subst (λ (n : ℕ). StandsAt queries tuples n (get_or streams' i d)) (omega arith)
    (at_place queries tuples 0 (length queries) i streams (drop (suc i) streams') (get_or streams' i d) h (sym same ∙ drop-cons streams' i d within))
