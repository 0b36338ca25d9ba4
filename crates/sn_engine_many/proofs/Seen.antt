-- What the switches send with the prefixes that their lanes admit is what they send of the tuples that the levels see.
use Rattle.std.proofs.Common.{◌≡◌, ℕ, zero, suc, ◌+◌, ◌<◌, List, [], ◌∷◌, ◌++◌, map, length, sum, cond, true, Option, None, Some, slice_get, slice_index, refl, ap, sym, ◌∙◌, subst, arith}
use Rattle.std.specs.List.{AllByRecursion}
use Rattle.std.proofs.lemmas.List.{map-append}
use Rattle.sn_base.specs.Rising.{IsRising}
use Rattle.sn_emit.specs.Plans.{Placed, gate_before, pieces_from, placed}
use Rattle.sn_emit.specs.declared.tables.Tables.{Tables}
use Rattle.sn_engine_lockstep.proofs.Along.{entries_known, entries_rise, kept_right}
use Rattle.sn_engine_lockstep.proofs.Apart.{place_is}
use Rattle.sn_engine_lockstep.proofs.Changes.{all_get}
use Rattle.sn_engine_lockstep.proofs.Seeing.{passed_by, rows_let_passed, seen_by}
use Rattle.sn_engine_lockstep.specs.Sources.{kept_in, source_at, source_of}
use Rattle.sn_engine_lockstep.specs.Windows.{Follows, Remembers}
use Rattle.sn_engine_lockstep.specs.declared.source.Source.{Source}
use Rattle.sn_engine_many.specs.Answers.{many_sent, passed_of, shared_items, shared_sent}
use Rattle.sn_engine_split.specs.Opened.{is_open}
use Rattle.sn_multi.specs.Switches.{all_items}
use Rattle.sn_ops.specs.Packets.{packet_rows}
use Rattle.sn_pipe.specs.Pipes.{rows_admitted}
use Rattle.sn_plan_fit.specs.Fits.{AreEntriesOf}
use Rattle.sn_plan_fit.specs.Paths.{is_among, level_before, place_in}
use Rattle.sn_plan_grammar.specs.declared.plan.Entry.{Entry}
use Rattle.sn_plan_grammar.specs.declared.plan.Piece.{Piece}
use Rattle.sn_refine.proofs.Held.{held_answered}
use Rattle.sn_refine.specs.Refined.{Windows, answered, before, refined_rows}
use Rattle.sn_refine.specs.Steps.{Set, prefixes_of}
use Rattle.sn_types.specs.Cuts.{size_at}
use Rattle.sn_types.specs.Typed.{branch_of, query_at}
use Rattle.sn_types.specs.Values.{op_at}
use Rattle.sn_types.specs.declared.answers.Answers.{Answers}
use Rattle.sn_types.specs.declared.typed_query.TypedQuery.{TypedQuery}

abbrev Captures : Type 0
Captures = List (List (List ℕ))

module _ (queries : List TypedQuery) (tables : Tables) (windows : Windows) (w : ℕ) (kept : Source → Set) where
  abbrev kept_before : ℕ → List ℕ → ℕ → Set
  kept_before q path j = kept (source_at q (Some (slice_index path j)))

  -- the prefixes that come from the places of a path are those of the window before
  abbrev IsRight : ℕ → List ℕ → Type 0
  IsRight q path = (j : ℕ) → j < length path → kept_before q path j ≡ prefixes_of (query_at queries q) (before (refined_rows (query_at queries q) windows path j) w)

  seen_right : (q : ℕ) (path : List ℕ) (tuples : List (List ℕ)) (j : ℕ) → IsRight q path → suc j < length path
      → seen_by (query_at queries q) path (kept_before q path) tuples (suc j) ≡ answered (query_at queries q) (slice_index path j) (before (refined_rows (query_at queries q) windows path j) w) tuples
  seen_right q path tuples j right lt =
      held_answered (query_at queries q) (slice_index path j) (before (refined_rows (query_at queries q) windows path j) w) (kept_before q path j) tuples (right j (omega (arith, lt)))

  passed_right : (q : ℕ) (path : List ℕ) (tuples : List (List ℕ)) (place : ℕ) → IsRight q path → place < length path
      → passed_by (query_at queries q) tables.entries path (kept_before q path) tuples place ≡ passed_of (query_at queries q) tables.entries windows path place w tuples
  passed_right q path tuples zero right lt = refl
  passed_right q path tuples (suc j) right lt =
      ap (λ ts. cond (is_open tables.entries (kept_before q path j)) tuples ts) (seen_right q path tuples j right lt)
      ∙ ap (λ s. cond (is_open tables.entries s) tuples (answered (query_at queries q) (slice_index path j) (before (refined_rows (query_at queries q) windows path j) w) tuples)) (right j (omega (arith, lt)))

  rows_right : (q : ℕ) (path : List ℕ) (b level : ℕ) → IsRight q path → place_in path level < length path → (captures : Captures)
      → map (rows_admitted (query_at queries q) b level (gate_before tables.entries path level) (kept (source_at q (level_before path level)))) captures
      ≡ map (packet_rows (query_at queries q) b level None) (map (passed_of (query_at queries q) tables.entries windows path (place_in path level) w) captures)
  rows_right q path b level right lt [] = refl
  rows_right q path b level right lt (tuples ∷ captures) =
      let query : TypedQuery = query_at queries q in
      let tuples_admitted : List (List ℕ) → List (List ℕ) = rows_admitted query b level (gate_before tables.entries path level) (kept (source_at q (level_before path level))) in
      let passed : List (List ℕ) → List (List ℕ) = passed_of query tables.entries windows path (place_in path level) w in
      ap (λ (rows : List (List ℕ)). rows ∷ map tuples_admitted captures)
      (rows_let_passed query q path kept tuples tables.entries b level ∙ ap (packet_rows query b level None) (passed_right q path tuples (place_in path level) right lt))
      ∙ ap (λ (others : Captures). packet_rows query b level None (passed tuples) ∷ others) (rows_right q path b level right lt captures)

  module _ (captures : Captures) where
    -- how many items are sent of a piece with the prefixes that its lane admits
    abbrev sent : Placed → ℕ
    sent x = length (shared_items queries tables x (kept (source_of x)) captures)

    abbrev due : Placed → ℕ
    due = many_sent queries tables windows w captures

    piece_right : (q : ℕ) (path : List ℕ) (p : Piece) → IsRight q path → is_among path p.level ≡ true → sent (placed q path p) ≡ due (placed q path p)
    piece_right q path p right known =
        let query : TypedQuery = query_at queries q in
        ap (λ (flows : Captures). length (all_items tables.depth (size_at (branch_of query p.branch).ops p.slots) p.cut (map (op_at p.level) (branch_of query p.branch).ops) flows))
        (rows_right q path p.branch p.level right (place_is path p.level known).within captures)

    pieces_right : (q : ℕ) (path : List ℕ) (ps : List Piece) → IsRight q path → AllByRecursion (λ (p : Piece). is_among path p.level ≡ true) ps
        → map sent (map (placed q path) ps) ≡ map due (map (placed q path) ps)
    pieces_right q path [] right known = refl
    pieces_right q path (p ∷ ps) right known =
        ap (λ n. n ∷ map sent (map (placed q path) ps)) (piece_right q path p right known.0)
        ∙ ap (λ ns. due (placed q path p) ∷ ns) (pieces_right q path ps right known.1)

    -- the entries from a number on
    entries_right : (n : ℕ) (es : List Entry) → ((i : ℕ) (e : Entry) → slice_get es i ≡ Some e → IsRight (n + i) e.levels)
        → AllByRecursion (λ (e : Entry). AllByRecursion (λ (p : Piece). is_among e.levels p.level ≡ true) e.pieces) es → map sent (pieces_from n es) ≡ map due (pieces_from n es)
    entries_right n [] right known = refl
    entries_right n (e ∷ es) right known =
        let here : IsRight n e.levels = subst (λ m. IsRight m e.levels) none_more (right 0 e refl) in
        let others = entries_right (suc n) es (λ i f at. subst (λ m. IsRight m f.levels) (moved i) (right (suc i) f at)) known.1 in
        let own = map (placed n e.levels) e.pieces in
        map-append sent own (pieces_from (suc n) es)
        ∙ ap (λ ns. ns ++ map sent (pieces_from (suc n) es)) (pieces_right n e.levels e.pieces here known.0)
        ∙ ap (λ ns. map due own ++ ns) others
        ∙ sym (map-append due own (pieces_from (suc n) es))
      where
        none_more : n + 0 ≡ n
        none_more = omega arith

        moved : (i : ℕ) → n + suc i ≡ suc n + i
        moved i = omega arith

-- in a window that follows, where the answers before it were those along the plan
pub sent_right : (queries : List TypedQuery) (tables : Tables) (es : List Entry) (windows : Windows) (last : Option Answers) (w : ℕ) (captures : Captures) → AreEntriesOf queries es → Follows windows last w
    → Remembers queries es windows last → shared_sent queries tables (pieces_from 0 es) (kept_in queries last w) captures ≡ sum (map (many_sent queries tables windows w captures) (pieces_from 0 es))
sent_right queries tables es windows last w captures h f r =
    let rise = entries_rise queries es h in
    ap sum (entries_right queries tables windows w (kept_in queries last w) captures 0 es
    (λ i e at j lt. ap (λ n. kept_in queries last w (source_at n (Some (slice_index e.levels j)))) (from i)
    ∙ kept_right queries windows es i e at (all_get (λ (e : Entry). IsRising e.levels) es i e rise at) last w j lt f r
    ∙ ap (λ n. prefixes_of (query_at queries n) (before (refined_rows (query_at queries n) windows e.levels j) w)) (sym (from i)))
    (entries_known queries es h))
  where
    from : (i : ℕ) → 0 + i ≡ i
    from i = omega arith
