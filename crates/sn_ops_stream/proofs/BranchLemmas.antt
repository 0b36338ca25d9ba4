-- A branch to which tuples come.
use Rattle.std.proofs.Common.{◌≡◌, ℕ, ◌+◌, ◌<◌, List, [], ◌∷◌, ◌++◌, map, filter, get_or, length, take, Bool, None, append-nil, append_assoc, ap, sym, ◌∙◌, subst}
use Rattle.std.proofs.lemmas.List.{map-append, take_more}
use Rattle.std.proofs.lemmas.List.Elements.{filter-append}
use Rattle.sn_base.specs.Columns.{IsOf}
use Rattle.sn_base.specs.Groups.{Row}
use Rattle.sn_base.specs.Operators.{through}
use Rattle.sn_base.specs.declared.column.Column.{Column}
use Rattle.sn_types.specs.declared.typed_op.TOp.{TOp}
use Rattle.sn_types.specs.declared.typed_query.TypedQuery.{TypedQuery}
use Rattle.sn_types.specs.Typed.{IsTyped, branch_at, branch_of, end_columns, first_columns, packet_row, query_at}
use Rattle.sn_types.specs.Values.{op_at}
use Rattle.sn_types.proofs.RowsAfter.{AreOf}
use Rattle.sn_types.proofs.TypedRows.{of_fields, same_packet_row}
use Rattle.sn_types_faults.specs.Columns.{field_column}
use Rattle.sn_ops.specs.Flow.{AllFit}
use Rattle.sn_ops.specs.Packets.{is_kept, packet_rows}
use Rattle.sn_ops.specs.Passing.{CanTake}
use Rattle.sn_ops.specs.Plain.{branch_rows}
use Rattle.sn_ops.specs.Standing.{Stands}
use Rattle.sn_ops.proofs.Branches.{branch_fit, branch_of_end}
use Rattle.sn_ops.proofs.Ends.{Ready}
use Rattle.sn_ops.proofs.OneMore.{can_take}
use Rattle.sn_ops.proofs.OneTuple.{one_more_of}
use Rattle.sn_ops_stream.specs.States.{BranchState}
use Rattle.sn_ops_stream.specs.Streams.{GivesRows, HasTaken, HasTakenMore}

-- all tuples are kept, and each one makes a row
rows_more : (query : TypedQuery) (b level : ℕ) (tuples : List (List ℕ)) (tuple : List ℕ) (row : Row) → row ≡ packet_row query.field level (branch_of query b).fields tuple
    → packet_rows query b level None (tuples ++ tuple ∷ []) ≡ packet_rows query b level None tuples ++ row ∷ []
rows_more query b level tuples tuple row is =
    let made : List ℕ → Row = packet_row query.field level (branch_of query b).fields in
    let keeps : List ℕ → Bool = is_kept query.field None in
    ap (map made) (filter-append keeps tuples (tuple ∷ []))
    ∙ map-append made (filter keeps tuples) (tuple ∷ [])
    ∙ ap (λ (r : Row). map made (filter keeps tuples) ++ r ∷ []) (sym is)

-- what is said of a branch's level and operators is said of the state's
at_state : (P : ℕ → List TOp → Type 0) (queries : List TypedQuery) (q b level : ℕ) (tuples : List (List ℕ)) (s : BranchState) → HasTaken queries q b level tuples s → P level (branch_at queries q b).ops → P s.level s.ops
at_state P queries q b level tuples s h p =
    subst (λ (l : ℕ). P l s.ops) (sym h.same_level) (subst (P level) (sym h.same_ops) p)

at_branch : (P : ℕ → List TOp → Type 0) (queries : List TypedQuery) (q b level : ℕ) (tuples : List (List ℕ)) (s : BranchState) → HasTaken queries q b level tuples s → P s.level s.ops → P level (branch_at queries q b).ops
at_branch P queries q b level tuples s h p =
    subst (λ (l : ℕ). P l (branch_at queries q b).ops) h.same_level (subst (P s.level) h.same_ops p)

columns_more : (queries : List TypedQuery) (q b level : ℕ) (tuples : List (List ℕ)) (row : Row) (s : BranchState) → HasTaken queries q b level tuples s → IsOf (map field_column s.fields) row
    → AreOf (first_columns (branch_at queries q b)) (packet_rows (query_at queries q) b level None tuples ++ row ∷ [])
columns_more queries q b level tuples row s h of =
    one_more_of (first_columns (branch_at queries q b)) (packet_rows (query_at queries q) b level None tuples) row h.columns
    (of_fields h.typed.0 queries q b s.fields row h.typed.1 h.query h.branch h.same_fields of)

-- the operators can take the row of one tuple more
pub can_take_one : (queries : List TypedQuery) (q b level : ℕ) (tuples : List (List ℕ)) (row : Row) (s : BranchState) → HasTaken queries q b level tuples s → IsOf (map field_column s.fields) row → CanTake s.level s.ops s.seen row
can_take_one queries q b level tuples row s h of =
    let rows : List Row = packet_rows (query_at queries q) b level None tuples in
    at_state (λ l ops. CanTake l ops s.seen row) queries q b level tuples s h
    (can_take level (branch_at queries q b).ops s.seen rows row s.out h.stands
    (branch_fit h.typed.0 queries q b level (rows ++ row ∷ []) h.typed.1 h.query h.branch (columns_more queries q b level tuples row s h of)))

-- and when they have taken it, the tuple has come
pub taken_one : (queries : List TypedQuery) (q b level : ℕ) (tuples : List (List ℕ)) (tuple : List ℕ) (row : Row) (s s' : BranchState) → HasTaken queries q b level tuples s
    → s'.refined ≡ s.refined → s'.level ≡ s.level → s'.fields ≡ s.fields → s'.ops ≡ s.ops → row ≡ packet_row s.refined s.level s.fields tuple → IsOf (map field_column s.fields) row
    → ((rows : List Row) → Stands s.level s.ops s.seen rows s.out → Stands s.level s.ops s'.seen (rows ++ row ∷ []) s'.out) → HasTaken queries q b level (tuples ++ tuple ∷ []) s'
taken_one queries q b level tuples tuple row s s' h refined level_is fields ops row_is of step =
    let query : TypedQuery = query_at queries q in
    let rows : List Row = packet_rows query b level None tuples in
    let is = row_is ∙ same_packet_row s.refined query.field s.level level s.fields (branch_at queries q b).fields tuple h.same_refined h.same_level h.same_fields in
    let more = sym (rows_more query b level tuples tuple row is) in
    record {
      typed = h.typed;
      query = h.query;
      branch = h.branch;
      same_refined = refined ∙ h.same_refined;
      same_level = level_is ∙ h.same_level;
      same_fields = fields ∙ h.same_fields;
      same_ops = ops ∙ h.same_ops;
      stands = subst (λ (rs : List Row). Stands level (branch_at queries q b).ops s'.seen rs s'.out) more
          (at_branch (λ l os. Stands l os s.seen rows s.out → Stands l os s'.seen (rows ++ row ∷ []) s'.out) queries q b level tuples s h (step rows) h.stands);
      columns = subst (AreOf (first_columns (branch_at queries q b))) more (columns_more queries q b level tuples row s h of);
    }

-- no tuple more
pub none_taken : (s : BranchState) → HasTakenMore [] s s
none_taken s queries q b level tuples h = subst (λ (ts : List (List ℕ)). HasTaken queries q b level ts s) (sym (append-nil tuples)) h

-- and one tuple after those of a list that have come
pub more_taken : (more : List (List ℕ)) (i : ℕ) (tuple : List ℕ) (old s s' : BranchState) → i < length more → tuple ≡ get_or more i tuple → HasTakenMore (take i more) old s → HasTakenMore (tuple ∷ []) s s' → HasTakenMore (take (i + 1) more) old s'
more_taken more i tuple old s s' within is before one queries q b level tuples h =
    let longer : (tuples ++ take i more) ++ tuple ∷ [] ≡ tuples ++ take (i + 1) more =
    append_assoc tuples (take i more) (tuple ∷ [])
    ∙ ap (λ (t : List ℕ). tuples ++ (take i more ++ t ∷ [])) is
    ∙ ap (λ (ts : List (List ℕ)). tuples ++ ts) (sym (take_more more i tuple within)) in
    subst (λ (ts : List (List ℕ)). HasTaken queries q b level ts s') longer (one queries q b level (tuples ++ take i more) (before queries q b level tuples h))

-- a branch to which no tuple has come
pub begun : (window : ℕ) (queries : List TypedQuery) (q b level : ℕ) (s : BranchState) → ∥ IsTyped window queries ∥₁ → q < length queries → b < length (query_at queries q).branches
    → s.refined ≡ (query_at queries q).field → s.level ≡ level → s.fields ≡ (branch_at queries q b).fields → s.ops ≡ (branch_at queries q b).ops → Stands level s.ops s.seen [] s.out → HasTaken queries q b level [] s
begun window queries q b level s typed query branch refined level_is fields ops stands =
    record {
      typed = (window, typed);
      query = query;
      branch = branch;
      same_refined = refined;
      same_level = level_is;
      same_fields = fields;
      same_ops = ops;
      stands = subst (λ (os : List TOp). Stands level os s.seen [] s.out) ops stands;
      columns = tt;
    }

-- ---- the end

pub ready : (queries : List TypedQuery) (q b level : ℕ) (tuples : List (List ℕ)) (s : BranchState) → HasTaken queries q b level tuples s → Ready s.level s.ops s.seen s.out
ready queries q b level tuples s h =
    let rows : List Row = packet_rows (query_at queries q) b level None tuples in (
      rows,
      at_state (λ l ops. Stands l ops s.seen rows s.out) queries q b level tuples s h h.stands,
      at_state (λ l ops. AllFit l ops rows) queries q b level tuples s h (branch_fit h.typed.0 queries q b level rows h.typed.1 h.query h.branch h.columns),
    )

-- what the operators give is what the branch gives
pub gives : (s : BranchState) (found : List Row) → ((rows : List Row) → Stands s.level s.ops s.seen rows s.out → found ≡ through (map (op_at s.level) s.ops) rows) → GivesRows s found
gives s found given queries q b level tuples h =
    let rows : List Row = packet_rows (query_at queries q) b level None tuples in
    let columns : List Column = end_columns (branch_at queries q b) in
    let is : found ≡ branch_rows (query_at queries q) b level None tuples =
    at_branch (λ l ops. Stands l ops s.seen rows s.out → found ≡ through (map (op_at l) ops) rows) queries q b level tuples s h (given rows) h.stands in (
      is,
      subst (AreOf columns) (sym is) (branch_of_end h.typed.0 queries q b level rows h.typed.1 h.query h.branch h.columns),
    )
