-- The filters at the front of a branch.
use Rattle.std.proofs.Common.{◌≡◌, ℕ, zero, suc, ◌+◌, ◌-◌, ◌<◌, ◌≤◌, List, [], ◌∷◌, ◌++◌, map, get_or, length, Bool, true, false, not, ◌&&◌, cond, Option, None, Some, slice_index, add-one, refl, ap, sym, ◌∙◌, subst, arith}
use Rattle.std.specs.List.{list_all}
use Rattle.std.specs.Prelude.{◌==◌, slice_get}
use Rattle.std.proofs.lemmas.Bool.{false≢true}
use Rattle.sn_base.specs.Groups.{Row}
use Rattle.sn_base.specs.Mask.{masked}
use Rattle.sn_base.proofs.Lists.{by_test}
use Rattle.sn_fields.specs.Fields.{number_of, width_of}
use Rattle.sn_fields.specs.declared.field.Field.{Field}
use Rattle.sn_types.specs.declared.typed_op.TOp.{TOp}
use Rattle.sn_types.specs.declared.typed_op.TOp.TheVariants.{Filter, Map, Distinct, Reduce}
use Rattle.sn_types.specs.declared.typed_op.TCond.{TCond}
use Rattle.sn_types.specs.Typed.{is_field, packet_row, read_at}
use Rattle.sn_types.specs.Values.{holds}
use Rattle.sn_ops.proofs.OneMore.{stands_on, stands_still}
use Rattle.sn_ops.specs.Passing.{CanTake, flows}
use Rattle.sn_ops.specs.SeenStates.{SeenState}
use Rattle.sn_ops.specs.Standing.{Stands, groups_after, rows_after}
use Rattle.sn_lanes_narrow.specs.Marks.{asks_all}
use Rattle.sn_lanes_narrow.specs.declared.condition.Condition.{Condition}
use Rattle.sn_ops_stream.specs.Fronts.{AreFilters, IsFilter, IsFront, filter_admits, admits}
use Rattle.sn_lanes_narrow.specs.Marks.{mark}
use Rattle.sn_ops_stream.specs.States.{BranchState}
use Rattle.sn_ops_stream.specs.Streams.{IsSameBranch, admits_tuple}

-- ---- a filter

-- what admits a row is a filter that passes it on and has seen nothing
pub admitted_flow : (level : ℕ) (op : TOp) (seen : List Row) (row : Row) → filter_admits level op row ≡ true → flows level op seen row ≡ Some row
admitted_flow level (Filter conds) seen row h = ap (λ (b : Bool). cond b (Some row) None) h
admitted_flow level (Map exprs) seen row h = absurd (false≢true h)
admitted_flow level Distinct seen row h = absurd (false≢true h)
admitted_flow level (Reduce r) seen row h = absurd (false≢true h)

pub admitted_rows : (level : ℕ) (op : TOp) (keys : List Row) (row : Row) → filter_admits level op row ≡ true → keys ≡ rows_after op keys row
admitted_rows level (Filter conds) keys row h = refl
admitted_rows level (Map exprs) keys row h = absurd (false≢true h)
admitted_rows level Distinct keys row h = absurd (false≢true h)
admitted_rows level (Reduce r) keys row h = absurd (false≢true h)

pub admitted_groups : (level : ℕ) (op : TOp) (groups : List (Row × ℕ)) (row : Row) → filter_admits level op row ≡ true → groups ≡ groups_after op groups row
admitted_groups level (Filter conds) groups row h = refl
admitted_groups level (Map exprs) groups row h = absurd (false≢true h)
admitted_groups level Distinct groups row h = absurd (false≢true h)
admitted_groups level (Reduce r) groups row h = absurd (false≢true h)

first_of : (a b : Bool) → (a && b) ≡ true → a ≡ true
first_of true b h = refl
first_of false b h = h

second_of : (a b : Bool) → (a && b) ≡ true → b ≡ true
second_of true b h = h
second_of false b h = absurd (false≢true h)

-- ---- a row that goes past the front

pub record Passed (level front : ℕ) (op : TOp) (following : List TOp) (row : Row) : Type 0 where
  pub first : filter_admits level op row ≡ true
  pub later : admits level (front - 1) following row ≡ true

pub passed_first : (level front : ℕ) (ops following : List TOp) (op : TOp) (row : Row) → ops ≡ op ∷ following → 0 < front → admits level front ops row ≡ true → Passed level front op following row
passed_first level zero ops following op row is some h = absurd (omega arith)
passed_first level (suc front) ops following op row is some h =
    let h' : (filter_admits level op row && admits level front following row) ≡ true = subst (λ (os : List TOp). admits level (suc front) os row ≡ true) is h in
    let less : front ≡ suc front - 1 = omega arith in
    record {
      first = first_of (filter_admits level op row) (admits level front following row) h';
      later = subst (λ (n : ℕ). admits level n following row ≡ true) less (second_of (filter_admits level op row) (admits level front following row) h');
    }

-- no row goes past a front of which nothing is left
pub no_front : (level front : ℕ) (ops : List TOp) (row : Row) → ops ≡ [] → 0 < front → admits level front ops row ≡ true → ⊥
no_front level zero ops row is some h = omega arith
no_front level (suc front) ops row is some h = false≢true (subst (λ (os : List TOp). admits level (suc front) os row ≡ true) is h)

pub no_seen : (level : ℕ) (ops following : List TOp) (op : TOp) (seen : List SeenState) (row : Row) → ops ≡ op ∷ following → seen ≡ [] → CanTake level ops seen row → ⊥
no_seen level ops following op seen row is none h = subst (λ (ss : List SeenState). CanTake level (op ∷ following) ss row) none (subst (λ (os : List TOp). CanTake level os seen row) is h)

pub can_later : (level : ℕ) (ops following : List TOp) (op : TOp) (seen later : List SeenState) (s : SeenState) (row : Row) → ops ≡ op ∷ following → seen ≡ s ∷ later → filter_admits level op row ≡ true → CanTake level ops seen row → CanTake level following later row
can_later level ops following op seen later s row is was passes h =
    let h' = subst (λ (ss : List SeenState). CanTake level (op ∷ following) ss row) was (subst (λ (os : List TOp). CanTake level os seen row) is h) in
    h'.1 row (admitted_flow level op s.rows.keys row passes)

-- ---- a row that stays at the front

pub stays : (level front : ℕ) (ops : List TOp) (seen : List SeenState) (rows : List Row) (row : Row) (out : List Row) → AreFilters front ops → admits level front ops row ≡ false → Stands level ops seen rows out → Stands level ops seen (rows ++ row ∷ []) out
stays level zero ops seen rows row out filters not_in h = absurd (false≢true (sym not_in))
stays level (suc front) [] seen rows row out filters not_in h = absurd filters
stays level (suc front) (Filter conds ∷ ops) [] rows row out filters not_in h = h
stays level (suc front) (Filter conds ∷ ops) (s ∷ seen) rows row out filters not_in h =
    let passes : Bool = list_all (λ c. holds level c row) conds in
    by_test passes
    (λ yes. stands_on level (Filter conds) ops s s seen seen rows row row out out refl refl (ap (λ (b : Bool). cond b (Some row) None) yes)
    (λ rs. stays level front ops seen rs row out filters.1 (sym (ap (λ (b : Bool). b && admits level front ops row) yes) ∙ not_in)) h)
    (λ not_so. stands_still level (Filter conds) ops s s seen rows row out refl refl (ap (λ (b : Bool). cond b (Some row) None) not_so) h)
stays level (suc front) (Map exprs ∷ ops) seen rows row out filters not_in h = absurd filters.0
stays level (suc front) (Distinct ∷ ops) seen rows row out filters not_in h = absurd filters.0
stays level (suc front) (Reduce r ∷ ops) seen rows row out filters not_in h = absurd filters.0

-- ---- one filter more

more_filters : (front : ℕ) (ops : List TOp) (op : TOp) → front < length ops → op ≡ get_or ops front op → IsFilter op → AreFilters front ops → AreFilters (suc front) ops
more_filters front [] op within is filter h = absurd (omega arith)
more_filters zero (o ∷ ops) op within is filter h = (subst IsFilter is filter, tt)
more_filters (suc front) (o ∷ ops) op within is filter h = (h.0, more_filters front ops op (omega arith) is filter h.1)

and_true : (b : Bool) → (b && true) ≡ b
and_true true = refl
and_true false = refl

and_assoc : (a b c : Bool) → (a && (b && c)) ≡ ((a && b) && c)
and_assoc true b c = refl
and_assoc false b c = refl

one_filter_more : (level front : ℕ) (ops : List TOp) (op : TOp) (row : Row) → front < length ops → op ≡ get_or ops front op → admits level (suc front) ops row ≡ (admits level front ops row && filter_admits level op row)
one_filter_more level front [] op row within is = absurd (omega arith)
one_filter_more level zero (o ∷ ops) op row within is = and_true (filter_admits level o row) ∙ ap (λ (p : TOp). filter_admits level p row) (sym is)
one_filter_more level (suc front) (o ∷ ops) op row within is =
    ap (λ (b : Bool). filter_admits level o row && b) (one_filter_more level front ops op row (omega arith) is)
    ∙ and_assoc (filter_admits level o row) (admits level front ops row) (filter_admits level op row)

-- no operator
pub no_filter : (refined : Option Field) (level : ℕ) (fields : List Field) (ops : List TOp) (conditions : List Condition) → conditions ≡ [] → IsFront refined level fields ops 0 conditions
no_filter refined level fields ops conditions none = record { filters = tt; same = λ tuple. sym (ap (λ (cs : List Condition). asks_all cs tuple) none) }

pub front_more : (refined : Option Field) (level : ℕ) (fields : List Field) (ops : List TOp) (front : ℕ) (op : TOp) (conds : List TCond) (conditions more : List Condition) → front < length ops → op ≡ get_or ops front op → op ≡ Filter conds
    → ((tuple : List ℕ) → asks_all more tuple ≡ (asks_all conditions tuple && list_all (λ c. holds level c (packet_row refined level fields tuple)) conds)) → IsFront refined level fields ops front conditions → IsFront refined level fields ops (front + 1) more
front_more refined level fields ops front op conds conditions more within is filter step h =
    let filtering : IsFilter op = subst IsFilter (sym filter) tt in
    record {
      filters = subst (λ (n : ℕ). AreFilters n ops) (sym (add-one front)) (more_filters front ops op within is filtering h.filters);
      same = λ tuple. let row : Row = packet_row refined level fields tuple in
          ap (λ (n : ℕ). admits level n ops row) (add-one front)
          ∙ one_filter_more level front ops op row within is
          ∙ ap (λ (b : Bool). b && filter_admits level op row) (h.same tuple)
          ∙ ap (λ (o : TOp). asks_all conditions tuple && filter_admits level o row) filter
          ∙ sym (step tuple);
    }

-- ---- a condition on a field as it stands

at_map : (f : Field → ℕ) (fields : List Field) (col : ℕ) (field : Field) → slice_get fields col ≡ Some field → slice_index (map f fields) col ≡ f field
at_map f [] col field is = cc
at_map f (g ∷ fields) zero field is = ap f (some_one g field is)
  where
    some_one : (a b : Field) → Some a ≡ Some b → a ≡ b
    some_one a b e = cc
at_map f (g ∷ fields) (suc col) field is = at_map f fields col field is

pub column_is : (refined : Option Field) (masking level : ℕ) (fields : List Field) (col : ℕ) (field : Field) (tuple : List ℕ) → slice_get fields col ≡ Some field → (not (masking == 0) && is_field refined field) ≡ false
    → packet_row refined masking fields tuple ≡ packet_row refined level fields tuple → slice_index (packet_row refined level fields tuple) col ≡ slice_index tuple (number_of field)
column_is refined masking level fields col field tuple is plain same =
    ap (λ (row : Row). slice_index row col) (sym same)
    ∙ at_map (read_at refined masking tuple) fields col field is
    ∙ ap (λ (b : Bool). cond b (masked (width_of field) masking (slice_index tuple (number_of field))) (slice_index tuple (number_of field))) plain

-- ---- marks

marked_so : (b : Bool) (m : ℕ) → m ≡ mark b → (m ≡ 0 → ⊥) → b ≡ true
marked_so true m is some = refl
marked_so false m is some = absurd (some is)

unmarked_so : (b : Bool) (m : ℕ) → m ≡ mark b → m ≡ 0 → b ≡ false
unmarked_so true m is none = absurd (omega (arith, is, none))
unmarked_so false m is none = refl

-- a mark tells whether a tuple's row goes past the front
pub goes_past : (s : BranchState) (front marked : ℕ) (tuple : List ℕ) (row : Row) → row ≡ packet_row s.refined s.level s.fields tuple → marked ≡ mark (admits_tuple s front tuple) → (marked ≡ 0 → ⊥) → admits s.level front s.ops row ≡ true
goes_past s front marked tuple row is marks some = ap (λ (r : Row). admits s.level front s.ops r) is ∙ marked_so (admits_tuple s front tuple) marked marks some

pub stays_there : (s : BranchState) (front marked : ℕ) (tuple : List ℕ) (row : Row) → row ≡ packet_row s.refined s.level s.fields tuple → marked ≡ mark (admits_tuple s front tuple) → marked ≡ 0 → admits s.level front s.ops row ≡ false
stays_there s front marked tuple row is marks none = ap (λ (r : Row). admits s.level front s.ops r) is ∙ unmarked_so (admits_tuple s front tuple) marked marks none

-- the mark at a place
pub mark_at : (f : List ℕ → ℕ) (tuples : List (List ℕ)) (marks : List ℕ) (i : ℕ) (tuple : List ℕ) → marks ≡ map f tuples → i < length tuples → tuple ≡ get_or tuples i tuple → get_or marks i 0 ≡ f tuple
mark_at f tuples marks i tuple is within at = ap (λ (ms : List ℕ). get_or ms i 0) is ∙ here tuples i tuple within at
  where
    here : (ts : List (List ℕ)) (i : ℕ) (t : List ℕ) → i < length ts → t ≡ get_or ts i t → get_or (map f ts) i 0 ≡ f t
    here [] i t within at = absurd (omega arith)
    here (u ∷ ts) zero t within at = ap f (sym at)
    here (u ∷ ts) (suc i) t within at = here ts i t (omega arith) at

long_as : (f : List ℕ → ℕ) (tuples : List (List ℕ)) → length (map f tuples) ≡ length tuples
long_as f [] = refl
long_as f (t ∷ tuples) = ap suc (long_as f tuples)

-- marks are as many as tuples
pub at_tuple : (tuples : List (List ℕ)) (marks : List ℕ) (i : ℕ) (f : List ℕ → ℕ) → marks ≡ map f tuples → i < length marks → i < length tuples
at_tuple tuples marks i f is within = let long : length marks ≡ length tuples = ap length is ∙ long_as f tuples in omega (arith, long, within)

pub past_tuples : (tuples : List (List ℕ)) (marks : List ℕ) (i : ℕ) (f : List ℕ → ℕ) → marks ≡ map f tuples → length marks ≤ i → length tuples ≤ i
past_tuples tuples marks i f is past = let long : length marks ≡ length tuples = ap length is ∙ long_as f tuples in omega (arith, long, past)

-- of the same branch
pub same_admits : (s s' : BranchState) (front : ℕ) (tuple : List ℕ) → IsSameBranch s s' → admits_tuple s front tuple ≡ admits_tuple s' front tuple
same_admits s s' front tuple same =
    sym (ap (λ (l : ℕ). admits l front s'.ops (packet_row s'.refined l s'.fields tuple)) same.same_level
    ∙ ap (λ (ops : List TOp). admits s.level front ops (packet_row s'.refined s.level s'.fields tuple)) same.same_ops
    ∙ ap (λ (r : Option Field). admits s.level front s.ops (packet_row r s.level s'.fields tuple)) same.same_refined
    ∙ ap (λ (fs : List Field). admits s.level front s.ops (packet_row s.refined s.level fs tuple)) same.same_fields)

pub same_on : (s s' s'' : BranchState) → IsSameBranch s s' → IsSameBranch s' s'' → IsSameBranch s s''
same_on s s' s'' a b = record {
  same_refined = b.same_refined ∙ a.same_refined;
  same_level = b.same_level ∙ a.same_level;
  same_fields = b.same_fields ∙ a.same_fields;
  same_ops = b.same_ops ∙ a.same_ops;
}
