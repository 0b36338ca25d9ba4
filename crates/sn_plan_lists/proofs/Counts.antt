-- The pieces of plans that fit: each is of a branch of its query, and there are few.
use Rattle.std.proofs.Common.{◌≡◌, ℕ, suc, ◌+◌, ◌*◌, ◌<◌, ◌≤◌, List, [], ◌∷◌, drop, get_or, length, length-append, Bool, true, false, refl, ap, sym, ◌∙◌, subst, arith}
use Rattle.std.specs.List.{AllByRecursion}
use Rattle.std.specs.Prelude.{◌/◌, ◌%◌, ◌==◌, if◌then◌else◌}
use Rattle.std.proofs.Math.Seq.{drop-cons}
use Rattle.std.proofs.lemmas.List.{length-map}
use Rattle.std.proofs.lemmas.Option.{slice_get_within}
use Rattle.sn_plan_grammar.specs.declared.plan.Entry.{Entry}
use Rattle.sn_switch.specs.declared.switch.Switch.{Switch}
use Rattle.sn_types.specs.declared.typed_query.TypedQuery.{TypedQuery}
use Rattle.sn_types.specs.Typed.{branch_of}
use Rattle.sn_plan_fit.specs.Fits.{IsEntryOf, AreEntriesOf, PieceFits, PiecesFit}
use Rattle.sn_types.specs.declared.typed_query.TypedBranch.{TypedBranch}
use Rattle.sn_plan_choices.specs.Options.{path_of}
use Rattle.sn_plan_lists.specs.Numbers.{path_number}
use Rattle.sn_plan_lists.specs.Bounds.{HasBounds}
use Rattle.sn_plan_lists.specs.Chosen.{level_seats, path_seats}
use Rattle.sn_plan_lists.proofs.PathNumbers.{path_of_number}
use Rattle.sn_plan_lists.proofs.Pieces.{seat_of, GoodPiece}
use Rattle.sn_plan_lists.proofs.Readings.{GoodEntry, good_entry}
use Rattle.sn_base.proofs.Lists.{all_weaker as all_each}

-- ---- few pieces

path_short : (m : ℕ) (ls : List ℕ) → length (path_of m ls) ≤ length ls
path_short m [] = omega arith
path_short m (l ∷ []) = omega arith
path_short m (l ∷ k ∷ ls) = by_bit (m % 2 == 1) (path_short (m / 2) (k ∷ ls))
  where
    by_bit : (b : Bool) → length (path_of (m / 2) (k ∷ ls)) ≤ length (k ∷ ls) → length (if b then l ∷ path_of (m / 2) (k ∷ ls) else path_of (m / 2) (k ∷ ls)) ≤ length (l ∷ k ∷ ls)
    by_bit true h = omega arith
    by_bit false h = omega arith

level_count : (level n : ℕ) (bs : List TypedBranch) → length (level_seats level n bs) ≡ length bs
level_count level n [] = refl
level_count level n (b ∷ bs) = let e = level_count level (n + 1) bs in omega arith

path_count : (bs : List TypedBranch) (path : List ℕ) → length bs ≤ 2 → length (path_seats bs path) ≤ length path * 2
path_count bs [] h = omega arith
path_count bs (l ∷ path) h =
    let one = level_count l 0 bs in
    let more = path_count bs path h in
    let all = length-append (level_seats l 0 bs) (path_seats bs path) in omega arith

few_pieces : (s : Switch) (q : TypedQuery) (e : Entry) → HasBounds q → IsEntryOf q e → GoodEntry s q e → length e.pieces ≤ 8
few_pieces s q e h is g =
    let seats = sym (length-map e.pieces (seat_of q)) ∙ ap length g.seats in
    let count = path_count q.branches e.levels h.branches in
    let path = ap length (path_of_number q.levels e.levels h.levels.rising is.path) in
    let short = path_short (path_number q.levels e.levels) q.levels in
    omega (arith, seats, count, path, short, h.few)

-- ---- plans

-- at most eight pieces, each of a branch of its query
pub record HasPieces (q : TypedQuery) (e : Entry) : Type 0 where
  pub known : AllByRecursion (λ p. p.branch < length q.branches) e.pieces
  pub few : length e.pieces ≤ 8

abbrev pub HavePieces : List TypedQuery → List Entry → Type 0
HavePieces [] es = Unit {0}
HavePieces (q ∷ qs) [] = Unit {0}
HavePieces (q ∷ qs) (e ∷ es) = HasPieces q e × HavePieces qs es

pub have_pieces : (s : Switch) (qs : List TypedQuery) (es : List Entry) → AllByRecursion HasBounds qs → AreEntriesOf qs es → PiecesFit (PieceFits s) qs es → HavePieces qs es
have_pieces s [] es h is fits = tt
have_pieces s (q ∷ qs) [] h is fits = tt
have_pieces s (q ∷ qs) (e ∷ es) h is fits =
    let g = good_entry s q e is.0 fits.0 in (
      record {
        known = all_each (GoodPiece s q e.levels) (λ p. p.branch < length q.branches) (λ p k. slice_get_within q.branches p.branch (branch_of q p.branch) k.known) e.pieces g.good;
        few = few_pieces s q e h.0 is.0 g;
      },
      have_pieces s qs es h.1 is.1 fits.1,
    )

-- the pieces of the current entry
pub here_pieces : (items qs : List TypedQuery) (es after : List Entry) (i : ℕ) (q : TypedQuery) (e : Entry) → items ≡ qs → i < length items → q ≡ get_or items i q → es ≡ e ∷ after
    → HavePieces (drop i qs) es → HasPieces q e
here_pieces items qs es after i q e same lt here split h =
    let mine : HavePieces (drop i items) es = subst (λ l. HavePieces (drop i l) es) (sym same) h in
    (subst (λ l. HavePieces l (e ∷ after)) (drop-cons items i q lt ∙ ap (λ x. x ∷ drop (suc i) items) (sym here)) (subst (HavePieces (drop i items)) split mine)).0
