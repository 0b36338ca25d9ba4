-- The operators on a list with one more row at its end are what they were, and what that row adds.
use Rattle.std.proofs.Common.{◌≡◌, ℕ, ◌<◌, List, [], ◌∷◌, ◌++◌, All, map, filter, length, Bool, true, false, cond, Option, Some, None, Result, Ok, Err, OnOk, slice_index, unwrap_or, refl, ap, sym, ◌∙◌, subst, append-nil}
use Rattle.std.specs.List.{list_all, list_any, AllByRecursion}
use Rattle.std.specs.Map.{lookup}
use Rattle.std.specs.Cmp.Lexicographic.{nat_list_eq_equiv}
use Rattle.std.proofs.lemmas.List.{map-append}
use Rattle.std.proofs.lemmas.List.Elements.{filter-append, recursion_from_All, All-from_recursion}
use Rattle.indexmap.specs.IndexSet.{insert_key}
use Rattle.sn_base.specs.AnyFold.{any_has, any_laws, any_step, any_unit}
use Rattle.sn_base.specs.Groups.{Row, columns_at, once, put_entry, same_row}
use Rattle.sn_base.specs.Operators.{apply}
use Rattle.sn_base.proofs.OnceLemmas.{any_once, once_push}
use Rattle.sn_base.proofs.FoldedLemmas.{group_had, reduced_row, same_row_exact}
use Rattle.sn_types.specs.declared.typed_op.TOp.{TOp}
use Rattle.sn_types.specs.declared.typed_op.TOp.TheVariants.{Filter, Map, Distinct, Reduce}
use Rattle.sn_types.specs.Values.{ReadsWithin, holds, op_at, value_of}
use Rattle.sn_ops.proofs.Steps.{insert_is_put}
use Rattle.sn_ops.specs.Flow.{AllFit, Fits}
use Rattle.sn_ops.specs.SeenStates.{SeenState}
use Rattle.sn_ops.specs.Passing.{CanMeet, CanTake, flows}
use Rattle.sn_ops.specs.Standing.{HasSeen, Stands, groups_after, is_reduce, rows_after}
use Rattle.sn_base.proofs.Lists.{all_front}

-- ---- the law

-- what a row adds: the row that goes on, if one does
abbrev pub as_list : Option Row → List Row
as_list (Some row) = row ∷ []
as_list None = []

kept_if : (b : Bool) (row : Row) → cond b (row ∷ []) [] ≡ as_list (cond b (Some row) None)
kept_if true row = refl
kept_if false row = refl

added_unless : (b : Bool) (xs : List Row) (row : Row) → cond b xs (xs ++ row ∷ []) ≡ xs ++ as_list (cond b None (Some row))
added_unless true xs row = sym (append-nil xs)
added_unless false xs row = refl

-- an operator that isn't a reduce gives what it gave, and what the row adds
pub apply_push : (level : ℕ) (op : TOp) (seen : List Row) (groups : List (Row × ℕ)) (rows : List Row) (row : Row) → HasSeen op seen groups rows → is_reduce op ≡ false
    → apply (op_at level op) (rows ++ row ∷ []) ≡ apply (op_at level op) rows ++ as_list (flows level op seen row)
apply_push level (Filter conds) seen groups rows row h other =
    let t : Row → Bool = λ x. list_all (λ c. holds level c x) conds in
    filter-append t rows (row ∷ []) ∙ ap (λ ys. filter t rows ++ ys) (kept_if (t row) row)
apply_push level (Map exprs) seen groups rows row h other = map-append (λ x. map (λ e. value_of e x) exprs) rows (row ∷ [])
apply_push level Distinct seen groups rows row h other =
    let o : List Row = once same_row rows in
    let same : list_any (same_row row) rows ≡ list_any (same_row row) seen = sym (ap (list_any (same_row row)) h ∙ any_once nat_list_eq_equiv same_row_exact row rows) in
    once_push nat_list_eq_equiv rows row ∙ ap (λ b. cond b o (o ++ row ∷ [])) same ∙ added_unless (list_any (same_row row) seen) o row
apply_push level (Reduce r) seen groups rows row h other = cc

-- and an operator has seen one row more
pub seen_push : (op : TOp) (seen : List Row) (groups : List (Row × ℕ)) (rows : List Row) (row : Row) → HasSeen op seen groups rows → HasSeen op (rows_after op seen row) (groups_after op groups row) (rows ++ row ∷ [])
seen_push (Filter conds) seen groups rows row h = tt
seen_push (Map exprs) seen groups rows row h = tt
seen_push Distinct seen groups rows row h =
    let o : List Row = once same_row rows in
    ap (λ ks. insert_key same_row ks row) h ∙ ap (λ b. cond b o (o ++ row ∷ [])) (any_once nat_list_eq_equiv same_row_exact row rows) ∙ sym (once_push nat_list_eq_equiv rows row)
seen_push (Reduce r) seen groups rows row h =
    let key : Row = columns_at r.keys row in
    let f : List (Row × ℕ) → List (Row × ℕ) = λ es. put_entry same_row es key (any_step r.fold (unwrap_or (lookup (same_row key) es) (any_unit r.fold)) (slice_index row r.value)) in
    insert_is_put groups key (any_step r.fold (unwrap_or (lookup (same_row key) groups) (any_unit r.fold)) (slice_index row r.value))
    ∙ ap f h ∙ sym (reduced_row (any_step r.fold) (any_unit r.fold) r.keys r.value rows row)

-- ---- all operators

flows_on : (level : ℕ) (op : TOp) (seen : List Row) (row next : Row) → flows level op seen row ≡ Some next → is_reduce op ≡ false
flows_on level (Filter conds) seen row next e = refl
flows_on level (Map exprs) seen row next e = refl
flows_on level Distinct seen row next e = refl
flows_on level (Reduce r) seen row next e = cc

-- the operator has seen one row more
has_one_more : (op : TOp) (s s' : SeenState) (rows : List Row) (row : Row) → s'.rows.keys ≡ rows_after op s.rows.keys row → s'.groups.entries ≡ groups_after op s.groups.entries row
    → HasSeen op s.rows.keys s.groups.entries rows → HasSeen op s'.rows.keys s'.groups.entries (rows ++ row ∷ [])
has_one_more op s s' rows row e g h =
    subst (λ (ks : List Row). HasSeen op ks s'.groups.entries (rows ++ row ∷ [])) (sym e)
    (subst (λ (es : List (Row × ℕ)). HasSeen op (rows_after op s.rows.keys row) es (rows ++ row ∷ [])) (sym g) (seen_push op s.rows.keys s.groups.entries rows row h))

-- a row that the first operator passes on
pub stands_on : (level : ℕ) (op : TOp) (ops : List TOp) (s s' : SeenState) (seen seen' : List SeenState) (rows : List Row) (row next : Row) (out out' : List Row)
    → s'.rows.keys ≡ rows_after op s.rows.keys row → s'.groups.entries ≡ groups_after op s.groups.entries row → flows level op s.rows.keys row ≡ Some next
    → ((rs : List Row) → Stands level ops seen rs out → Stands level ops seen' (rs ++ next ∷ []) out')
    → Stands level (op ∷ ops) (s ∷ seen) rows out → Stands level (op ∷ ops) (s' ∷ seen') (rows ++ row ∷ []) out'
stands_on level op ops s s' seen seen' rows row next out out' e g flow following h = (
  has_one_more op s s' rows row e g h.0,
  λ other. subst (λ (rs : List Row). Stands level ops seen' rs out')
      (sym (apply_push level op s.rows.keys s.groups.entries rows row h.0 other ∙ ap (λ o. apply (op_at level op) rows ++ as_list o) flow))
      (following (apply (op_at level op) rows) (h.1 other)),
)

-- a row that stays at the first operator
pub stands_still : (level : ℕ) (op : TOp) (ops : List TOp) (s s' : SeenState) (seen : List SeenState) (rows : List Row) (row : Row) (out : List Row)
    → s'.rows.keys ≡ rows_after op s.rows.keys row → s'.groups.entries ≡ groups_after op s.groups.entries row → flows level op s.rows.keys row ≡ None
    → Stands level (op ∷ ops) (s ∷ seen) rows out → Stands level (op ∷ ops) (s' ∷ seen) (rows ++ row ∷ []) out
stands_still level op ops s s' seen rows row out e g flow h = (
  has_one_more op s s' rows row e g h.0,
  λ other. subst (λ (rs : List Row). Stands level ops seen rs out)
      (sym (apply_push level op s.rows.keys s.groups.entries rows row h.0 other ∙ ap (λ o. apply (op_at level op) rows ++ as_list o) flow ∙ append-nil (apply (op_at level op) rows)))
      (h.1 other),
)

-- ---- where a row can be taken

last_of : {X : Type 0} (P : X → Type 0) (xs : List X) (x : X) → AllByRecursion P (xs ++ x ∷ []) → P x
last_of P [] x h = h.0
last_of P (y ∷ xs) x h = last_of P xs x h.1

at_last : (P : Row → Type 0) (rows : List Row) (row : Row) → All P (rows ++ row ∷ []) → P row
at_last P rows row h = last_of P rows row (recursion_from_All P (rows ++ row ∷ []) h)

can_meet : (op : TOp) (seen : List Row) (groups : List (Row × ℕ)) (rows : List Row) (row : Row) → HasSeen op seen groups rows → Fits op (rows ++ row ∷ []) → CanMeet op groups row
can_meet (Filter conds) seen groups rows row h f = at_last (λ (x : Row). All (λ c. c.col < length x) conds) rows row f
can_meet (Map exprs) seen groups rows row h f = (f.few, at_last (λ (x : Row). All (λ e. ReadsWithin (length x) e) exprs) rows row f.reads)
can_meet Distinct seen groups rows row h f = tt
can_meet (Reduce r) seen groups rows row h f =
    let key : Row = columns_at r.keys row in
    let has : Row → Type 0 = λ x. any_has r.fold (slice_index x r.value) in
    let all : All has rows = All-from_recursion has rows (all_front has rows (row ∷ []) (recursion_from_All has (rows ++ row ∷ []) f.had)) in
    record {
      few = f.few;
      places = at_last (λ (x : Row). All (λ place. place < length x) r.keys) rows row f.places;
      value = at_last (λ (x : Row). r.value < length x) rows row f.value;
      had = at_last has rows row f.had;
      so_far = subst (λ (es : List (Row × ℕ)). any_has r.fold (unwrap_or (lookup (same_row key) es) (any_unit r.fold))) (sym h) (group_had (any_laws r.fold) r.keys r.value rows key all);
    }

-- where all operators can be evaluated at the rows with one more, that one can be taken
pub can_take : (level : ℕ) (ops : List TOp) (seen : List SeenState) (rows : List Row) (row : Row) (out : List Row) → Stands level ops seen rows out → AllFit level ops (rows ++ row ∷ []) → CanTake level ops seen row
can_take level [] seen rows row out h f = tt
can_take level (op ∷ ops) [] rows row out h f = h
can_take level (op ∷ ops) (s ∷ seen) rows row out h f = (
  can_meet op s.rows.keys s.groups.entries rows row h.0 f.0,
  λ next flow. let other = flows_on level op s.rows.keys row next flow in
      can_take level ops seen (apply (op_at level op) rows) next out (h.1 other)
      (subst (AllFit level ops) (apply_push level op s.rows.keys s.groups.entries rows row h.0 other ∙ ap (λ o. apply (op_at level op) rows ++ as_list o) flow) f.1),
)

-- ---- results

pub on_ok_weaker : {X Y : Type 0} (P Q : Type 0) → (P → Q) → (r : Result X Y) → OnOk r P → OnOk r Q
on_ok_weaker P Q w (Ok x) h = w h
on_ok_weaker P Q w (Err e) h = tt
