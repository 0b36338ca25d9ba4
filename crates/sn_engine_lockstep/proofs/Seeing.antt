-- What the lane of a piece admits is what the level of the piece sees, or all tuples where its table stays open.
use Rattle.std.proofs.Common.{◌≡◌, ℕ, zero, suc, ◌-◌, List, ◌==◌, map, filter, Bool, true, false, cond, Option, Some, None, slice_index, refl, ap, ◌∙◌, arith}
use Rattle.std.specs.Option.{option_map}
use Rattle.sn_base.proofs.Lists.{nat_same, not_true}
use Rattle.sn_emit.specs.Plans.{gate_before, gate_of, items_of, placed}
use Rattle.sn_emit.specs.declared.tables.Tables.{Tables}
use Rattle.sn_fields.specs.declared.field.Field.{Field}
use Rattle.sn_plan_fit.specs.Paths.{level_before, place_in}
use Rattle.sn_pipe_items.specs.Items.{items}
use Rattle.sn_ops.specs.Packets.{packet_rows}
use Rattle.sn_pipe.specs.Pipes.{passing, rows_admitted}
use Rattle.sn_pipe.proofs.KeptLaw.{all_pass, passing_kept, same_filter}
use Rattle.sn_plan_grammar.specs.declared.plan.Piece.{Piece}
use Rattle.sn_refine.specs.Steps.{Set, is_held, rows_at}
use Rattle.sn_refine.specs.Refined.{level_rows}
use Rattle.sn_engine_split.specs.Branches.{branch_items}
use Rattle.sn_engine_split.specs.Opened.{is_open, tuples_admitted, admits, tabled}
use Rattle.sn_types.specs.Cuts.{size_at}
use Rattle.sn_types.specs.declared.typed_query.TypedQuery.{TypedQuery}
use Rattle.sn_types.specs.Typed.{branch_of, query_at}
use Rattle.sn_types.specs.Values.{op_at}
use Rattle.sn_engine_lockstep.specs.declared.source.Source.{Source}
use Rattle.sn_engine_lockstep.specs.Sources.{source_at}
use Rattle.sn_engine.specs.Keeping.{with_bits}

-- the tuples that a place of a path sees, with these prefixes of the places before
abbrev pub seen_by : TypedQuery → List ℕ → (ℕ → Set) → List (List ℕ) → ℕ → List (List ℕ)
seen_by query path kept tuples zero = tuples
seen_by query path kept tuples (suc j) = filter (is_held query.field (slice_index path j) (kept j)) tuples

-- the tuples that come to it, where a table has at most so many entries
abbrev pub passed_by : TypedQuery → Option ℕ → List ℕ → (ℕ → Set) → List (List ℕ) → ℕ → List (List ℕ)
passed_by query entries path kept tuples zero = tuples
passed_by query entries path kept tuples (suc j) = cond (is_open entries (kept j)) tuples (seen_by query path kept tuples (suc j))

pub rows_seen : (query : TypedQuery) (path : List ℕ) (kept : ℕ → Set) (tuples : List (List ℕ)) (place : ℕ) → rows_at query path kept tuples place ≡ level_rows query (slice_index path place) (Some (seen_by query path kept tuples place))
rows_seen query path kept tuples zero = refl
rows_seen query path kept tuples (suc j) = refl

-- ---- the level before a level of a path

pub before_first : (path : List ℕ) (level : ℕ) → place_in path level ≡ 0 → level_before path level ≡ None
before_first path level e = ap (λ n. cond (n == 0) None (Some (slice_index path (n - 1)))) e

pub before_next : (path : List ℕ) (level j : ℕ) → place_in path level ≡ suc j → level_before path level ≡ Some (slice_index path j)
before_next path level j e =
    ap (λ n. cond (n == 0) None (Some (slice_index path (n - 1)))) e ∙ ap (λ b. cond b None (Some (slice_index path (suc j - 1)))) some ∙ ap (λ n. Some (slice_index path n)) back
  where
    back : suc j - 1 ≡ j
    back = omega arith

    some : (suc j == 0) ≡ false
    some = not_true (suc j == 0) (λ is. let same = nat_same (suc j) 0 is in absurd (omega (arith, same)))

-- ---- the tuples of a window

all_in : (query : TypedQuery) (tuples : List (List ℕ)) → tuples_admitted query None tuples ≡ tuples
all_in query tuples = same_filter (admits query.field None) (λ x. true) (λ x. refl) tuples ∙ all_pass tuples

held_in : (field : Option Field) (bits : ℕ) (members : Set) (x : List ℕ) → admits field (Some (bits, members)) x ≡ is_held field bits members x
held_in None bits members x = refl
held_in (Some f) bits members x = refl

module _ (query : TypedQuery) (q : ℕ) (path : List ℕ) (kept : Source → Set) (tuples : List (List ℕ)) where
  abbrev kept_at_place : ℕ → Set
  kept_at_place j = kept (source_at q (Some (slice_index path j)))

  held : (j : ℕ) → tuples_admitted query (Some (slice_index path j, kept_at_place j)) tuples ≡ seen_by query path kept_at_place tuples (suc j)
  held j =
      same_filter (admits query.field (Some (slice_index path j, kept_at_place j))) (is_held query.field (slice_index path j) (kept_at_place j)) (held_in query.field (slice_index path j) (kept_at_place j)) tuples

  seen_at_place : (level m : ℕ) → place_in path level ≡ m → tuples_admitted query (with_bits (level_before path level) (kept (source_at q (level_before path level)))) tuples ≡ seen_by query path kept_at_place tuples m
  seen_at_place level zero e = ap (λ o. tuples_admitted query (with_bits o (kept (source_at q o))) tuples) (before_first path level e) ∙ all_in query tuples
  seen_at_place level (suc j) e = ap (λ o. tuples_admitted query (with_bits o (kept (source_at q o))) tuples) (before_next path level j e) ∙ held j

  -- the tuples with the prefixes of the level before are those that the level sees
  pub prefixes_seen : (level : ℕ) → tuples_admitted query (with_bits (level_before path level) (kept (source_at q (level_before path level)))) tuples ≡ seen_by query path kept_at_place tuples (place_in path level)
  prefixes_seen level = seen_at_place level (place_in path level) refl

  module _ (entries : Option ℕ) where
    by_open : (j : ℕ) (b : Bool) → tuples_admitted query (cond b None (Some (slice_index path j, kept_at_place j))) tuples ≡ cond b tuples (seen_by query path kept_at_place tuples (suc j))
    by_open j true = all_in query tuples
    by_open j false = held j

    passed_at_place : (level m : ℕ) → place_in path level ≡ m → tuples_admitted query (passing (gate_before entries path level) (kept (source_at q (level_before path level)))) tuples ≡ passed_by query entries path kept_at_place tuples m
    passed_at_place level zero e = ap (λ o. tuples_admitted query (passing (option_map (gate_of entries) o) (kept (source_at q o))) tuples) (before_first path level e) ∙ all_in query tuples
    passed_at_place level (suc j) e =
        ap (λ o. tuples_admitted query (passing (option_map (gate_of entries) o) (kept (source_at q o))) tuples) (before_next path level j e) ∙ by_open j (is_open entries (kept_at_place j))

    -- the tuples that the lane of a piece admits
    pub prefixes_passed : (level : ℕ) → tuples_admitted query (passing (gate_before entries path level) (kept (source_at q (level_before path level)))) tuples ≡ passed_by query entries path kept_at_place tuples (place_in path level)
    prefixes_passed level = passed_at_place level (place_in path level) refl

-- the rows that the lane of a piece admits are the packet rows of what comes to it
pub rows_let_passed : (query : TypedQuery) (q : ℕ) (path : List ℕ) (kept : Source → Set) (tuples : List (List ℕ)) (entries : Option ℕ) (b level : ℕ)
    → rows_admitted query b level (gate_before entries path level) (kept (source_at q (level_before path level))) tuples
    ≡ packet_rows query b level None (passed_by query entries path (λ j. kept (source_at q (Some (slice_index path j)))) tuples (place_in path level))
rows_let_passed query q path kept tuples entries b level =
    passing_kept query b level (gate_before entries path level) (kept (source_at q (level_before path level))) tuples
    ∙ ap (packet_rows query b level None) (prefixes_passed query q path kept tuples entries level)

-- ---- the items of a piece

-- those of its branch on the tuples that come to it
pub items_passed : (queries : List TypedQuery) (tables : Tables) (q : ℕ) (path : List ℕ) (p : Piece) (kept : Source → Set) (tuples : List (List ℕ))
    → items_of queries tables (placed q path p) (kept (source_at q (level_before path p.level))) tuples
    ≡ branch_items (query_at queries q) p.branch p.level None p.cut tables.depth p.slots (passed_by (query_at queries q) tables.entries path (λ j. kept (source_at q (Some (slice_index path j)))) tuples (place_in path p.level))
items_passed queries tables q path p kept tuples =
    let query = query_at queries q in
    ap (items tables.depth (size_at (branch_of query p.branch).ops p.slots) p.cut (map (op_at p.level) (branch_of query p.branch).ops))
    (rows_let_passed query q path kept tuples tables.entries p.branch p.level)

tabled_by : (entries before : Option ℕ) (members : Set) → passing (option_map (gate_of entries) before) members ≡ tabled entries (with_bits before members)
tabled_by entries None members = refl
tabled_by entries (Some bits) members = refl

-- the rows that its lane admits are the packet rows of the tuples that a table of the prefixes of the level before admits
pub rows_let_tabled : (query : TypedQuery) (entries : Option ℕ) (path : List ℕ) (b level : ℕ) (members : Set) (tuples : List (List ℕ))
    → rows_admitted query b level (gate_before entries path level) members tuples ≡ packet_rows query b level None (tuples_admitted query (tabled entries (with_bits (level_before path level) members)) tuples)
rows_let_tabled query entries path b level members tuples =
    passing_kept query b level (gate_before entries path level) members tuples
    ∙ ap (λ ps. packet_rows query b level None (tuples_admitted query ps tuples)) (tabled_by entries (level_before path level) members)

-- those of its branch on the tuples that such a table admits
pub items_tabled : (queries : List TypedQuery) (tables : Tables) (q : ℕ) (path : List ℕ) (p : Piece) (members : Set) (tuples : List (List ℕ))
    → items_of queries tables (placed q path p) members tuples
    ≡ branch_items (query_at queries q) p.branch p.level None p.cut tables.depth p.slots (tuples_admitted (query_at queries q) (tabled tables.entries (with_bits (level_before path p.level) members)) tuples)
items_tabled queries tables q path p members tuples =
    let query = query_at queries q in
    ap (items tables.depth (size_at (branch_of query p.branch).ops p.slots) p.cut (map (op_at p.level) (branch_of query p.branch).ops))
    (rows_let_tabled query tables.entries path p.branch p.level members tuples)
