-- What the switches of several send of a piece, and what the engine makes of it.
use Rattle.std.proofs.Common.{◌≡◌, ℕ, suc, ◌+◌, ◌<◌, List, [], ◌∷◌, ◌++◌, map, take, length, true, Option, None, Some, slice_index, refl, ap, sym, ◌∙◌, length-append}
use Rattle.std.specs.List.{AllByRecursion, flat_map}
use Rattle.sn_base.proofs.BagLemmas.{bag_after, bag_back, bag_before, bag_same, bag_then}
use Rattle.sn_base.proofs.Lists.{map_agree}
use Rattle.sn_base.specs.Bags.{SameBag}
use Rattle.sn_base.specs.Bags.SameBag.{stays, following, turned as swapped, joined}
use Rattle.sn_base.specs.Groups.{Row}
use Rattle.sn_base.specs.Operators.{Op}
use Rattle.sn_base.specs.Sorted.{sorted_rows}
use Rattle.sn_emit.specs.Plans.{Placed, gate_before, items_of, placed}
use Rattle.sn_emit.specs.declared.tables.Tables.{Tables}
use Rattle.sn_base.specs.Rising.{IsRising}
use Rattle.sn_engine.specs.Keeping.{with_bits}
use Rattle.sn_engine_lockstep.proofs.Parts.{before_low}
use Rattle.sn_engine_lockstep.proofs.Seeing.{prefixes_seen, rows_let_tabled, seen_by}
use Rattle.sn_engine_lockstep.specs.Sources.{source_at, source_of}
use Rattle.sn_engine_lockstep.specs.declared.source.Source.{Source}
use Rattle.sn_engine_many.proofs.Cutting.{cut_is, cut_short, switch_short, turn_is}
use Rattle.sn_engine_many.specs.Answers.{shared_items}
use Rattle.sn_engine_many.specs.Shorts.{short_placed, up_to_stateful}
use Rattle.sn_engine.specs.Turns.{held_tag, turn}
use Rattle.sn_engine_split.specs.Branches.{query_value}
use Rattle.sn_engine_split.specs.Opened.{Prefixes, left_in, tuples_admitted, tabled}
use Rattle.sn_multi.proofs.Pipes.{pipe_turned}
use Rattle.sn_multi.proofs.Typed.{queries_left}
use Rattle.sn_multi.specs.Branches.{AreLeftOfSwitches, together}
use Rattle.sn_multi.specs.Switches.{switch_items}
use Rattle.sn_multi.specs.Turned.{turned}
use Rattle.sn_ops.specs.Packets.{packet_rows}
use Rattle.sn_pipe.specs.Pipes.{rows_admitted}
use Rattle.sn_pipe_items.specs.Items.{items}
use Rattle.sn_plan_fit.specs.Paths.{is_among, level_before, place_in}
use Rattle.sn_plan_grammar.specs.declared.plan.Piece.{Piece}
use Rattle.sn_refine.specs.Refined.{level_rows}
use Rattle.sn_refine.specs.Steps.{Set}
use Rattle.sn_report.specs.Items.{Item}
use Rattle.sn_types.specs.Cuts.{size_at}
use Rattle.sn_types.specs.Typed.{HasWidths, IsTyped, branch_at, query_at}
use Rattle.sn_types.specs.Values.{op_at}
use Rattle.sn_types.specs.declared.typed_op.TOp.{TOp}
use Rattle.sn_types.specs.declared.typed_query.TypedQuery.{TypedQuery}

bag_length : {A : Type 0} (xs ys : List A) → SameBag xs ys → length xs ≡ length ys
bag_length _ _ (stays xs) = refl
bag_length _ _ (following x xs ys b) = ap suc (bag_length xs ys b)
bag_length _ _ (swapped x y xs) = refl
bag_length _ _ (joined xs ys zs a b) = bag_length xs ys a ∙ bag_length ys zs b

bag_both : {A : Type 0} (xs ys vs ws : List A) → SameBag xs ys → SameBag vs ws → SameBag (xs ++ vs) (ys ++ ws)
bag_both xs ys vs ws a b = bag_then (bag_after vs xs ys a) (bag_before ys vs ws b)

module _ (queries : List TypedQuery) (tables : Tables) (kept : Source → Set) where
  abbrev ops_of : Placed → List TOp
  ops_of x = (branch_at queries x.query x.piece.branch).ops

  abbrev plain_of : Placed → List Op
  plain_of x = map (op_at x.piece.level) (ops_of x)

  abbrev cut_of : Placed → ℕ
  cut_of x = up_to_stateful (take x.piece.cut (ops_of x))

  abbrev rows_of : Placed → List (List ℕ) → List Row
  rows_of x tuples = rows_admitted (query_at queries x.query) x.piece.branch x.piece.level (gate_before tables.entries x.path x.piece.level) (kept (source_of x)) tuples

  -- what a switch sends of a piece, with its tags among several switches
  abbrev pub own_items : Placed → List (List ℕ) → List Item
  own_items x tuples = map (turn (held_tag 0 (take (cut_of x) (ops_of x)))) (items_of queries tables (short_placed queries x) (kept (source_of x)) tuples)

  -- what all switches send of a piece, switch by switch
  abbrev pub gathered : List (List (List ℕ)) → Placed → List Item
  gathered captures x = flat_map (own_items x) captures

  one_switch : (x : Placed) (tuples : List (List ℕ)) → SameBag (switch_items tables.depth (size_at (ops_of x) x.piece.slots) 0 (take (cut_of x) (plain_of x)) (rows_of x tuples)) (own_items x tuples)
  one_switch x tuples =
      let size = size_at (ops_of x) x.piece.slots in
      let front = take (cut_of x) (plain_of x) in
      let sent = items tables.depth size (cut_of x) (plain_of x) (rows_of x tuples) in
      bag_then (bag_back (map (turned 0 front) sent) (switch_items tables.depth size 0 front (rows_of x tuples)) (pipe_turned tables.depth size (cut_of x) (plain_of x) (rows_of x tuples) (cut_short x.piece.level x.piece.cut (ops_of x))))
      (bag_same (map_agree (turned 0 front) (turn (held_tag 0 (take (cut_of x) (ops_of x)))) (λ item. sym (turn_is x.piece.level (cut_of x) (ops_of x) item)) sent))

  -- ---- the number

  one_sent : (x : Placed) (tuples : List (List ℕ)) → length (own_items x tuples) ≡ length (switch_items tables.depth (size_at (ops_of x) x.piece.slots) 0 (take x.piece.cut (plain_of x)) (rows_of x tuples))
  one_sent x tuples =
      let size = size_at (ops_of x) x.piece.slots in
      sym (bag_length (switch_items tables.depth size 0 (take (cut_of x) (plain_of x)) (rows_of x tuples)) (own_items x tuples) (one_switch x tuples))
      ∙ ap (λ os. length (switch_items tables.depth size 0 os (rows_of x tuples))) (cut_is x.piece.level x.piece.cut (ops_of x))
      ∙ ap length (switch_short tables.depth size 0 (take x.piece.cut (plain_of x)) (rows_of x tuples))

  pub all_sent : (x : Placed) (captures : List (List (List ℕ))) → length (gathered captures x) ≡ length (shared_items queries tables x (kept (source_of x)) captures)
  all_sent x [] = refl
  all_sent x (tuples ∷ captures) =
      let first = switch_items tables.depth (size_at (ops_of x) x.piece.slots) 0 (take x.piece.cut (plain_of x)) (rows_of x tuples) in
      length-append (own_items x tuples) (gathered captures x)
      ∙ ap (λ n. n + length (gathered captures x)) (one_sent x tuples)
      ∙ ap (λ n. length first + n) (all_sent x captures)
      ∙ sym (length-append first (shared_items queries tables x (kept (source_of x)) captures))

  -- ---- the answers

  -- the prefixes of the level before, that the lane of a piece admits
  abbrev prefixes : ℕ → List ℕ → ℕ → Option Prefixes
  prefixes q path level = with_bits (level_before path level) (kept (source_at q (level_before path level)))

  -- what is left of these where the items of other prefixes are dropped
  abbrev pub left_gathered : List (List (List ℕ)) → Placed → List Item
  left_gathered captures x = left_in (query_at queries x.query) x.piece.branch (with_bits (level_before x.path x.piece.level) (kept (source_of x))) (gathered captures x)

  -- the items are what is left of those of several switches at a query's branch and level
  abbrev pub Left : List (List (List ℕ)) → ℕ → List ℕ → ℕ → ℕ → List Item → Type 0
  Left captures q path level b found = AreLeftOfSwitches queries q b level (prefixes q path level) captures found

  sent_same : (q : ℕ) (path : List ℕ) (p : Piece) (captures : List (List (List ℕ)))
      → SameBag (flat_map (switch_items tables.depth (size_at (ops_of (placed q path p)) p.slots) 0 (take (cut_of (placed q path p)) (plain_of (placed q path p))))
      (map (packet_rows (query_at queries q) p.branch p.level None) (map (tuples_admitted (query_at queries q) (tabled tables.entries (prefixes q path p.level))) captures)))
      (gathered captures (placed q path p))
  sent_same q path p [] = bag_same refl
  sent_same q path p (tuples ∷ captures) =
      let x = placed q path p in
      let query = query_at queries q in
      let sends = switch_items tables.depth (size_at (ops_of x) p.slots) 0 (take (cut_of x) (plain_of x)) in
      let admitted : List (List ℕ) → List (List ℕ) = tuples_admitted query (tabled tables.entries (prefixes q path p.level)) in
      let rest = flat_map sends (map (packet_rows query p.branch p.level None) (map admitted captures)) in
      bag_both (sends (packet_rows query p.branch p.level None (admitted tuples))) (own_items x tuples) rest (gathered captures x)
      (bag_then (bag_same (ap sends (sym (rows_let_tabled query tables.entries path p.branch p.level (kept (source_of x)) tuples)))) (one_switch x tuples))
      (sent_same q path p captures)

  pub left_own : (captures : List (List (List ℕ))) (q : ℕ) (path : List ℕ) (p : Piece) → IsRising path → is_among path p.level ≡ true → Left captures q path p.level p.branch (left_gathered captures (placed q path p))
  left_own captures q path p rising known = record {
    cut = cut_of (placed q path p);
    depth = tables.depth;
    sizes = p.slots;
    entries = tables.entries;
    sent = gathered captures (placed q path p);
    low = before_low path p.level (kept (source_of (placed q path p))) rising known;
    same = sent_same q path p captures;
    is = refl;
  }

  -- their value is that of the query on what the level sees of all captures
  pub left_value : (typed_for : ℕ) (captures : List (List (List ℕ))) → ∥ IsTyped typed_for queries ∥₁ → AllByRecursion HasWidths (together captures)
      → (q : ℕ) (path : List ℕ) (level : ℕ) (left right : List Item) → q < length queries → Left captures q path level 0 left → (length (query_at queries q).branches ≡ 2 → Left captures q path level 1 right)
      → sorted_rows (query_value (query_at queries q) level left right)
      ≡ level_rows (query_at queries q) level (Some (seen_by (query_at queries q) path (λ j. kept (source_at q (Some (slice_index path j)))) (together captures) (place_in path level)))
  left_value typed_for captures typed widths q path level left right lt l r =
      queries_left typed_for q level queries (prefixes q path level) captures left right typed lt widths l r
      ∙ ap (λ ts. level_rows (query_at queries q) level (Some ts)) (prefixes_seen (query_at queries q) q path kept (together captures) level)
