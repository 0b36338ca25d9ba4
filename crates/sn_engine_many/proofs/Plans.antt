-- What a switch of several runs of a plan can be made, and has the shape of the queries.
use Rattle.std.proofs.Common.{◌≡◌, ℕ, suc, ◌+◌, ◌≤◌, List, [], ◌∷◌, ◌++◌, map, length, Option, None, Some, refl, ap, sym, ◌∙◌, arith}
use Rattle.std.specs.List.{AllByRecursion}
use Rattle.std.proofs.lemmas.List.{map-append}
use Rattle.sn_base.proofs.Lists.{all_map, all_weaker, map_both}
use Rattle.sn_emit.specs.Making.{CanMake}
use Rattle.sn_emit.specs.Plans.{Placed, pieces_from, placed}
use Rattle.sn_engine_many.specs.Shorts.{short_entries, short_entry, short_piece, short_placed}
use Rattle.sn_engine_many.proofs.Cutting.{fewer_stateful, up_to_within}
use Rattle.sn_plan_fit.specs.Fits.{AreEntriesOf, HasShape, IsEntryOf, OnBranch, PiecesFit}
use Rattle.sn_plan_fit.specs.Paths.{piece_place}
use Rattle.sn_plan_fit.specs.Pieces.{piece_branch}
use Rattle.sn_plan_grammar.specs.declared.plan.Entry.{Entry}
use Rattle.sn_plan_grammar.specs.declared.plan.Piece.{Piece}
use Rattle.sn_types.specs.Typed.{branch_of, query_at}
use Rattle.sn_types.specs.declared.typed_query.TypedBranch.{TypedBranch}
use Rattle.sn_types.specs.declared.typed_query.TypedQuery.{TypedQuery}

-- ---- the pieces

pub pieces_short : (queries : List TypedQuery) (n : ℕ) (es : List Entry) → pieces_from n (short_entries queries n es) ≡ map (short_placed queries) (pieces_from n es)
pieces_short queries n [] = refl
pieces_short queries n (e ∷ es) =
    ap (λ ps. ps ++ pieces_from (suc n) (short_entries queries (suc n) es))
    (map_both (short_piece (query_at queries n)) (placed n e.levels) e.pieces ∙ sym (map_both (placed n e.levels) (short_placed queries) e.pieces))
    ∙ ap (λ ps. map (short_placed queries) (map (placed n e.levels) e.pieces) ++ ps) (pieces_short queries (suc n) es)
    ∙ sym (map-append (short_placed queries) (map (placed n e.levels) e.pieces) (pieces_from (suc n) es))

short_can : (queries : List TypedQuery) (x : Placed) → CanMake queries x → CanMake queries (short_placed queries x)
short_can queries x can =
    let ops = (branch_of (query_at queries x.query) x.piece.branch).ops in
    let below = up_to_within x.piece.cut ops in
    let fewer = fewer_stateful x.piece.cut ops in
    let cut = can.cut in
    let enough = can.enough in
    record {
      query = can.query;
      branch = can.branch;
      level = can.level;
      before = can.before;
      cut = omega (arith, below, cut);
      sizes = can.sizes;
      enough = omega (arith, fewer, enough);
      few = can.few;
      short = can.short;
      sides = can.sides;
    }

pub shorts_can : (queries : List TypedQuery) (xs : List Placed) → AllByRecursion (CanMake queries) xs → AllByRecursion (CanMake queries) (map (short_placed queries) xs)
shorts_can queries xs can = all_map (CanMake queries) (short_placed queries) xs (all_weaker (CanMake queries) (λ x. CanMake queries (short_placed queries x)) (short_can queries) xs can)

-- ---- the shape

entry_short : (query other : TypedQuery) (e : Entry) → IsEntryOf query e → IsEntryOf query (short_entry other e)
entry_short query other e h = record { name = h.name; path = h.path; pieces = map_both (short_piece other) piece_place e.pieces ∙ h.pieces }

pub entries_short : (queries rest : List TypedQuery) (n : ℕ) (es : List Entry) → AreEntriesOf rest es → AreEntriesOf rest (short_entries queries n es)
entries_short queries [] n [] h = tt
entries_short queries [] n (e ∷ es) h = absurd h
entries_short queries (q ∷ rest) n [] h = absurd h
entries_short queries (q ∷ rest) n (e ∷ es) h = (entry_short q (query_at queries n) e h.0, entries_short queries rest (suc n) es h.1)

-- of the branch of a query that is there, the short cut is no greater
on_short : (q : TypedQuery) (p : Piece) (o : Option TypedBranch) → OnBranch (λ b. p.cut ≤ b.max_cut) o → OnBranch (λ b. (short_piece q p).cut ≤ b.max_cut) o
on_short q p None h = tt
on_short q p (Some b) h = let below = up_to_within p.cut (branch_of q p.branch).ops in omega (arith, below, h)

cuts_short : (queries rest : List TypedQuery) (n : ℕ) (es : List Entry) → PiecesFit (λ path b p. p.cut ≤ b.max_cut) rest es → PiecesFit (λ path b p. p.cut ≤ b.max_cut) rest (short_entries queries n es)
cuts_short queries [] n es h = tt
cuts_short queries (q ∷ rest) n [] h = tt
cuts_short queries (q ∷ rest) n (e ∷ es) h = (
  all_map (λ (p : Piece). OnBranch (λ b. p.cut ≤ b.max_cut) (piece_branch q p)) (short_piece (query_at queries n)) e.pieces
      (all_weaker (λ (p : Piece). OnBranch (λ b. p.cut ≤ b.max_cut) (piece_branch q p)) (λ (p : Piece). OnBranch (λ b. (short_piece (query_at queries n) p).cut ≤ b.max_cut) (piece_branch q p))
      (λ p on. on_short (query_at queries n) p (piece_branch q p) on) e.pieces h.0),
  cuts_short queries rest (suc n) es h.1,
)

pub shape_short : (queries : List TypedQuery) (es : List Entry) → HasShape queries es → HasShape queries (short_entries queries 0 es)
shape_short queries es h = record { paths = entries_short queries queries 0 es h.paths; cuts = cuts_short queries queries 0 es h.cuts }

-- ---- entry by entry

short_append : (queries : List TypedQuery) (n : ℕ) (xs : List Entry) (e : Entry) → short_entries queries n (xs ++ e ∷ []) ≡ short_entries queries n xs ++ short_entry (query_at queries (n + length xs)) e ∷ []
short_append queries n [] e = ap (λ m. short_entry (query_at queries m) e ∷ []) none_more
  where
    none_more : n ≡ n + 0
    none_more = omega arith
short_append queries n (x ∷ xs) e =
    ap (λ es. short_entry (query_at queries n) x ∷ es) (short_append queries (suc n) xs e)
    ∙ ap (λ m. short_entry (query_at queries n) x ∷ (short_entries queries (suc n) xs ++ short_entry (query_at queries m) e ∷ [])) moved
  where
    moved : suc n + length xs ≡ n + suc (length xs)
    moved = omega arith

pub short_more : (queries : List TypedQuery) (xs ys : List Entry) (q : ℕ) (e : Entry) → length xs ≡ q → ys ≡ xs ++ e ∷ [] → short_entries queries 0 ys ≡ short_entries queries 0 xs ++ short_entry (query_at queries q) e ∷ []
short_more queries xs ys q e count are =
    ap (short_entries queries 0) are ∙ short_append queries 0 xs e ∙ ap (λ m. short_entries queries 0 xs ++ short_entry (query_at queries m) e ∷ []) (from ∙ count)
  where
    from : 0 + length xs ≡ length xs
    from = omega arith
