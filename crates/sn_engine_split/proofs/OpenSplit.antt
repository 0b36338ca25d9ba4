-- The split law where items of other prefixes are dropped, and tables may stay open.
use Rattle.std.proofs.Common.{◌≡◌, ℕ, suc, ◌+◌, ◌-◌, ◌*◌, ◌/◌, ◌^◌, ◌<◌, ◌≤◌, List, [], ◌∷◌, map, filter, length, Bool, true, false, not, ◌||◌, ◌&&◌, ◌==◌, cond, slice_get, slice_index, Option, None, Some, refl, ap, sym, ◌∙◌, subst, arith, zero-add}
use Rattle.std.proofs.Math.Bool.{Bool-set}
use Rattle.std.proofs.Math.Logic.{∥∥₁_elim}
use Rattle.std.proofs.Math.Nat.{div-div-eq-div-mul, mul-div_cancel}
use Rattle.std.proofs.Math.Pow.{pow_pos}
use Rattle.std.proofs.lemmas.Bool.{false≢true}
use Rattle.std.proofs.lemmas.Nat.{pow-add}
use Rattle.std.proofs.lemmas.List.Elements.{filter_agree}
use Rattle.std.specs.List.{AllByRecursion, list_any, position_or_len}
use Rattle.std.specs.FinSet as set
use Rattle.sn_base.specs.Bags.{SameBag}
use Rattle.sn_base.specs.Groups.{Row}
use Rattle.sn_base.specs.Mask.{masked}
use Rattle.sn_base.specs.Operators.{Op as Acting, through}
use Rattle.sn_base.specs.declared.column.Column.{Column}
use Rattle.sn_base.proofs.BagLemmas.{bag_filter, bag_same, bag_then}
use Rattle.sn_base.proofs.FoldedLemmas.{same_row_exact}
use Rattle.sn_base.proofs.Lists.{all_filter, by_test, filter_map, filter_within, find_is, nat_same, nat_self, none_some, not_true, or_left, or_right, some_same}
use Rattle.sn_fields.specs.declared.field.Field.{Field}
use Rattle.sn_fields.specs.declared.field.Field.TheVariants.{PacketLength}
use Rattle.sn_fields.specs.Fields.{fields as all_fields, name_of, number_of, width_of, with_name}
use Rattle.sn_fields.proofs.Naming.{with_name_all}
use Rattle.sn_query_grammar.specs.declared.ast.Op.{Op}
use Rattle.sn_query_grammar.specs.declared.ast.Refine.{Refine}
use Rattle.sn_query_grammar.specs.Limits.{BranchOp}
use Rattle.sn_types_faults.specs.Columns.{field_column, has_column, packet_columns}
use Rattle.sn_types_faults.specs.Names.{Name, packet_fields, same_name}
use Rattle.sn_types_faults.specs.Walk.{branch_places, first_fault, refine_levels, scope_before}
use Rattle.sn_types.specs.Typed.{HasWidths, IsTyped, branch_at, branch_of, is_field, packet_row, query_at, read_at}
use Rattle.sn_types.specs.Typing.{field_of, typed_branch, typed_ops}
use Rattle.sn_types.specs.Cuts.{size_at}
use Rattle.sn_types.specs.Values.{op_at}
use Rattle.sn_types.specs.declared.typed_query.TypedBranch.{TypedBranch}
use Rattle.sn_types.specs.declared.typed_query.TypedQuery.{TypedQuery}
use Rattle.sn_types.proofs.Facts.{branch_source_of, few_packet_fields}
use Rattle.sn_types.proofs.Known.{IsKnown, same_row_self}
use Rattle.sn_types.proofs.RowLemmas.{place_is}
use Rattle.sn_types.proofs.Schemas.{packet_schema, packet_whole}
use Rattle.sn_types.proofs.Sound.{AreSound, sound_branch}
use Rattle.sn_ops.specs.Packets.{is_kept, packet_rows}
use Rattle.sn_ops.specs.Plain.{branch_rows}
use Rattle.sn_ops.proofs.Branches.{packets_of}
use Rattle.sn_report.specs.Items.{Item}
use Rattle.sn_pipe_items.specs.Value.{value}
use Rattle.sn_pipe_items.proofs.OrderLemmas.{items_bag}
use Rattle.sn_engine_split.specs.Branches.{branch_items}
use Rattle.sn_engine_split.proofs.Cuts.{cut_within}
use Rattle.sn_engine_split.proofs.Typed.{cut_of, rows_had}
use Rattle.sn_pipe_items.proofs.LeftLaw.{Carries, end_of, split_left, through_left, value_left}
use Rattle.sn_pipe_items.proofs.ValueBag.{ItemsHad}
use Rattle.sn_types.proofs.CarriedPlaces.{at_name, here, later}
use Rattle.sn_engine_split.proofs.Carry.{carry, constant, number_found}
use Rattle.sn_types.proofs.Following.{AllHold, all_hold_prop, along}
use Rattle.sn_types.proofs.NotLost.{known_first}
use Rattle.sn_engine_split.specs.Opened.{IsWithinLevel, Prefixes, has_prefix, is_open, keeps_in, left_in, tuples_admitted, admits, tabled}
use Rattle.sn_types.specs.Places.{field_place}

-- ---- fields by their numbers

at_number : (f : Field) → slice_get all_fields (number_of f) ≡ Some f
at_number PacketLength = refl
at_number _ = refl

pub number_same : (f g : Field) → number_of f ≡ number_of g → f ≡ g
number_same f g e = some_same f g (sym (at_number f) ∙ ap (slice_get all_fields) e ∙ at_number g)

own_name : (name : Name) (f : Field) → with_name name ≡ Some f → name_of f ≡ name
own_name name f e = same_row_exact (name_of f) name (find_is (λ (g : Field). same_name (name_of g) name) all_fields f e)

-- the field of a name is that of its number
test_field : (f g : Field) (name : Name) → with_name name ≡ Some f → (number_of g == number_of f) ≡ same_name (name_of g) name
test_field f g name e =
    by_test (same_name (name_of g) name)
    (λ is. let same : f ≡ g = some_same f g (with_name_all name (Some f) (sym e) g (same_row_exact (name_of g) name is)) in
    ap (λ (h : Field). number_of g == number_of h) same ∙ nat_self (number_of g) ∙ sym is)
    (λ isnt. not_true (number_of g == number_of f) (λ s.
    let one : g ≡ f = number_same g f (nat_same (number_of g) (number_of f) s) in
    false≢true (sym isnt ∙ ap (λ (h : Field). same_name (name_of h) name) one ∙ ap (λ m. same_name m name) (own_name name f e) ∙ same_row_self name)) ∙ sym isnt)

field_holds : (f : Field) (name : Name) → with_name name ≡ Some f → (fs : List Field) → IsKnown (map field_column fs) name → list_any (λ g. number_of g == number_of f) fs ≡ true
field_holds f name e [] known = absurd (false≢true known)
field_holds f name e (g ∷ fs) known =
    let rest = list_any (λ h. number_of h == number_of f) fs in
    by_test (same_name (name_of g) name)
    (λ is. or_left (number_of g == number_of f) rest (test_field f g name e ∙ is))
    (λ isnt. or_right (number_of g == number_of f) rest (field_holds f name e fs (sym (ap (λ b. b || has_column (map field_column fs) name) isnt) ∙ known)))

field_at : (f : Field) (name : Name) → with_name name ≡ Some f → (fs : List Field) → IsKnown (map field_column fs) name → position_or_len (λ g. number_of g == number_of f) fs ≡ at_name (map field_column fs) name
field_at f name e [] known = absurd (false≢true known)
field_at f name e (g ∷ fs) known =
    let rest : ℕ = position_or_len (λ h. number_of h == number_of f) fs in
    let cs : List Column = map field_column fs in
    by_test (same_name (name_of g) name)
    (λ is. ap (λ b. cond (not b) (1 + rest) 0) (test_field f g name e ∙ is) ∙ sym (here name (field_column g) cs is))
    (λ isnt.
    let one : 1 + rest ≡ suc (at_name cs name) = let s = field_at f name e fs (sym (ap (λ b. b || has_column cs name) isnt) ∙ known) in omega (arith, s) in
    ap (λ b. cond (not b) (1 + rest) 0) (test_field f g name e ∙ isnt) ∙ one ∙ sym (later name (field_column g) cs isnt))

-- ---- typed branches carry the refinement field

record Followed (f : Field) (branch : TypedBranch) : Type 0 where
  among : list_any (λ g. number_of g == number_of f) branch.fields ≡ true
  holds : AllHold branch.ops (field_place f branch.fields)

followed_prop : (f : Field) (branch : TypedBranch) → IsProp (Followed f branch)
followed_prop f branch = hlevel (Bool-set, all_hold_prop branch.ops (field_place f branch.fields))

first_known : (r : Refine) (os : List Op) → 0 < length os → first_fault (branch_places (Some r) os) ≡ None → AreSound (packet_columns os) os → IsKnown (packet_columns os) r.field
first_known r [] some clean s = absurd (omega (arith, some))
first_known r (op ∷ os) some clean s = known_first (refine_levels (Some r)) (scope_before (Some r) (op ∷ os)) op os r.field refl refl clean s

followed_ops : (f : Field) (refine : Option Refine) (os : List Op) → field_of refine ≡ Some f → 0 < length os → AllByRecursion (λ op. BranchOp op.what) os → first_fault (branch_places refine os) ≡ None → Followed f (typed_branch os)
followed_ops f None os is some each none = absurd (none_some is)
followed_ops f (Some r) os is some each none =
    let few = few_packet_fields (Some r) os none in
    let sound = sound_branch (Some r) os each none in
    let whole = packet_whole os few in
    let known : IsKnown (packet_columns os) r.field = first_known r os some none sound in
    let known_here : IsKnown (map field_column (packet_fields os)) r.field = subst (λ (cs : List Column). IsKnown cs r.field) whole known in
    let among = field_holds f r.field is (packet_fields os) known_here in
    let place : field_place f (packet_fields os) ≡ at_name (packet_columns os) r.field =
    place_is (λ (g : Field). number_of g == number_of f) (packet_fields os) among ∙ field_at f r.field is (packet_fields os) known_here ∙ ap (λ (cs : List Column). at_name cs r.field) (sym whole) in
    record {
      among = among;
      holds = subst (AllHold (typed_ops (packet_columns os) os)) (sym place) (along (refine_levels (Some r)) (scope_before (Some r) os) os r.field refl none (packet_schema os few) sound known);
    }

followed : (window : ℕ) (queries : List TypedQuery) (q b : ℕ) (f : Field) → ∥ IsTyped window queries ∥₁ → q < length queries → b < length (query_at queries q).branches → (query_at queries q).field ≡ Some f → Followed f (branch_at queries q b)
followed window queries q b f t lt within is =
    ∥∥₁_elim t (followed_prop f (branch_at queries q b)) (λ t.
    let s = branch_source_of window queries q b t lt within in
    let some = s.count.from_least in
    subst (Followed f) (sym s.is) (followed_ops f s.refine s.ops (sym s.field ∙ is) (omega (arith, some)) s.each s.no_fault))

carries_where : (level : ℕ) (branch : TypedBranch) (field : Option Field) (ps : Option Prefixes) → ((f : Field) → field ≡ Some f → Followed f branch) → Carries (keeps_in field branch ps) 0 (map (op_at level) branch.ops)
carries_where level branch field None h = constant true level 0 branch.ops (keeps_in field branch None) (λ j row. refl)
carries_where level branch None (Some ps) h = constant false level 0 branch.ops (keeps_in None branch (Some ps)) (λ j row. refl)
carries_where level branch (Some f) (Some ps) h =
    let keeps : ℕ → Row → Bool = keeps_in (Some f) branch (Some ps) in
    carry (has_prefix f ps) level branch.ops (field_place f branch.fields) 0 keeps (h f refl).holds (λ j row. ap (λ (n : ℕ). keeps n row) (zero-add j))

-- ---- packet rows

masked_again : (w bits level x : ℕ) → bits ≤ level → masked w bits (masked w level x) ≡ masked w bits x
masked_again w bits level x le =
    let a : ℕ = 2 ^ (w - level) in
    let d : ℕ = (w - bits) - (w - level) in
    let whole : w - bits ≡ (w - level) + d = omega (arith, le) in
    let split : 2 ^ (w - bits) ≡ a * 2 ^ d = ap (λ (n : ℕ). 2 ^ n) whole ∙ pow-add 2 (w - level) d in
    let inner : (x / a * a) / (a * 2 ^ d) ≡ x / (a * 2 ^ d) =
    sym (div-div-eq-div-mul (x / a * a) a (2 ^ d)) ∙ ap (λ (n : ℕ). n / 2 ^ d) (mul-div_cancel (x / a) (pow_pos (w - level))) ∙ div-div-eq-div-mul x a (2 ^ d) in
    ap (λ (n : ℕ). (x / a * a) / n * n) split ∙ ap (λ (n : ℕ). n * (a * 2 ^ d)) inner ∙ sym (ap (λ (n : ℕ). x / n * n) split)

-- the refinement field of a packet row, masked to the bits of a coarser level, is that of the tuple
read_again : (f : Field) (level bits : ℕ) (tuple : List ℕ) → bits ≤ level → masked (width_of f) bits (read_at (Some f) level tuple f) ≡ masked (width_of f) bits (slice_index tuple (number_of f))
read_again f level bits tuple le =
    let x : ℕ = slice_index tuple (number_of f) in
    (elim (not (level == 0) && is_field (Some f) f) as (λ b. masked (width_of f) bits (cond b (masked (width_of f) level x) x) ≡ masked (width_of f) bits x) [
      | true ↦ masked_again (width_of f) bits level x le
      | false ↦ refl
    ])

passes : (level : ℕ) (branch : TypedBranch) (field : Option Field) (ps : Option Prefixes) → ((f : Field) → field ≡ Some f → Followed f branch) → IsWithinLevel level ps → (tuple : List ℕ) →
    keeps_in field branch ps 0 (packet_row field level branch.fields tuple) ≡ admits field ps tuple
passes level branch field None h low tuple = refl
passes level branch None (Some ps) h low tuple = refl
passes level branch (Some f) (Some ps) h low tuple =
    let found : slice_index (packet_row (Some f) level branch.fields tuple) (field_place f branch.fields) ≡ read_at (Some f) level tuple f =
    number_found (λ (g : Field). number_of g == number_of f) (read_at (Some f) level tuple) (read_at (Some f) level tuple f)
    (λ g is. ap (read_at (Some f) level tuple) (number_same g f (nat_same (number_of g) (number_of f) is))) branch.fields (h f refl).among in
    ap (has_prefix f ps) found ∙ ap (set.contains ps.1) (read_again f level ps.0 tuple low)

tabled_passes : (entries : Option ℕ) (field : Option Field) (ps : Option Prefixes) (tuple : List ℕ) → admits field ps tuple ≡ true → admits field (tabled entries ps) tuple ≡ true
tabled_passes entries field None tuple is = is
tabled_passes entries field (Some ps) tuple is = (elim (is_open entries ps.1) as (λ b. admits field (cond b None (Some ps)) tuple ≡ true) [ true ↦ refl | false ↦ is ])

-- all tuples are kept where no prefixes are named
all_kept : (field : Option Field) (tuples : List (List ℕ)) → filter (is_kept field None) tuples ≡ tuples
all_kept field [] = refl
all_kept field (tuple ∷ tuples) = ap (λ ts. tuple ∷ ts) (all_kept field tuples)

-- of the rows that were let in, those that pass are the rows of the tuples with these prefixes
rows_pass : (query : TypedQuery) (b level : ℕ) (entries : Option ℕ) (ps : Option Prefixes) (tuples : List (List ℕ)) → ((f : Field) → query.field ≡ Some f → Followed f (branch_of query b)) → IsWithinLevel level ps →
    filter (keeps_in query.field (branch_of query b) ps 0) (packet_rows query b level None (tuples_admitted query (tabled entries ps) tuples)) ≡ packet_rows query b level None (tuples_admitted query ps tuples)
rows_pass query b level entries ps tuples h low =
    let branch : TypedBranch = branch_of query b in
    let row : List ℕ → Row = packet_row query.field level branch.fields in
    let keeps : Row → Bool = keeps_in query.field branch ps 0 in
    let wide : List (List ℕ) = tuples_admitted query (tabled entries ps) tuples in
    ap (λ ts. filter keeps (map row ts)) (all_kept query.field wide)
    ∙ sym (filter_map row keeps wide)
    ∙ ap (map row) (filter_agree (λ tuple. keeps (row tuple)) (admits query.field ps) (passes level branch query.field ps h low) wide
    ∙ filter_within (admits query.field ps) (admits query.field (tabled entries ps)) (tabled_passes entries query.field ps) tuples
    ∙ sym (all_kept query.field (tuples_admitted query ps tuples)))

-- ---- the law

abbrev branch_on : ℕ → TypedQuery → ℕ → List Row → List Row
branch_on level query b rows = through (map (op_at level) (branch_of query b).ops) rows

-- of any items whose value is the branch on the tuples that were let in: the value of those that are left is the branch on the tuples with
-- these prefixes
pub open_value : (window q b level : ℕ) (queries : List TypedQuery) (entries : Option ℕ) (ps : Option Prefixes) (tuples : List (List ℕ)) (found : List Item) → ∥ IsTyped window queries ∥₁ → q < length queries → b < length (query_at queries q).branches
    → IsWithinLevel level ps → ItemsHad 0 (map (op_at level) (branch_at queries q b).ops) found
    → SameBag (value (map (op_at level) (branch_at queries q b).ops) found) (branch_rows (query_at queries q) b level None (tuples_admitted (query_at queries q) (tabled entries ps) tuples))
    → SameBag (value (map (op_at level) (branch_at queries q b).ops) (left_in (query_at queries q) b ps found)) (branch_rows (query_at queries q) b level None (tuples_admitted (query_at queries q) ps tuples))
open_value window q b level queries entries ps tuples found t lt within low had bag =
    let query : TypedQuery = query_at queries q in
    let ops : List Acting = map (op_at level) (branch_of query b).ops in
    let keeps : ℕ → Row → Bool = keeps_in query.field (branch_of query b) ps in
    let rows : List Row = packet_rows query b level None (tuples_admitted query (tabled entries ps) tuples) in
    let follows : (f : Field) → query.field ≡ Some f → Followed f (branch_of query b) = λ f is. followed window queries q b f t lt within is in
    let carries = carries_where level (branch_of query b) query.field ps follows in
    bag_then
    (bag_same (value_left keeps ops carries found had))
    (bag_then
    (bag_filter (keeps (end_of 0 ops)) (value ops found) (through ops rows) bag)
    (bag_same (through_left keeps ops carries rows ∙ ap (branch_on level query b) (rows_pass query b level entries ps tuples follows low))))

pub open_split : (window q b level cut depth : ℕ) (sizes : List ℕ) (queries : List TypedQuery) (entries : Option ℕ) (ps : Option Prefixes) (tuples : List (List ℕ)) (found : List Item) → ∥ IsTyped window queries ∥₁ → q < length queries → b < length (query_at queries q).branches
    → AllByRecursion HasWidths tuples → cut ≤ (branch_at queries q b).max_cut → IsWithinLevel level ps → SameBag (branch_items (query_at queries q) b level None cut depth sizes (tuples_admitted (query_at queries q) (tabled entries ps) tuples)) found
    → SameBag (value (map (op_at level) (branch_at queries q b).ops) (left_in (query_at queries q) b ps found)) (branch_rows (query_at queries q) b level None (tuples_admitted (query_at queries q) ps tuples))
open_split window q b level cut depth sizes queries entries ps tuples found t lt within widths le low bag =
    let query : TypedQuery = query_at queries q in
    let os = (branch_at queries q b).ops in
    let size : ℕ → ℕ = size_at os sizes in
    let wide : List (List ℕ) = tuples_admitted query (tabled entries ps) tuples in
    let rows : List Row = packet_rows query b level None wide in
    let is_cut = cut_within level cut os (cut_of window queries q b cut t lt within le) in
    let follows : (f : Field) → query.field ≡ Some f → Followed f (branch_of query b) = λ f is. followed window queries q b f t lt within is in
    bag_then
    (split_left (keeps_in query.field (branch_of query b) ps) depth size (map (op_at level) os) cut rows found is_cut
    (carries_where level (branch_of query b) query.field ps follows)
    (rows_had window queries q b level rows t lt within (packets_of window queries q b level None wide t lt within (all_filter HasWidths (admits query.field (tabled entries ps)) tuples widths)))
    (bag_then (items_bag depth size cut (map (op_at level) os) rows is_cut) bag))
    (bag_same (ap (branch_on level query b) (rows_pass query b level entries ps tuples follows low)))
