-- The plan that a fitting plan's choices name is that plan.
use Rattle.std.proofs.Common.{◌≡◌, ℕ, zero, suc, ◌+◌, List, [], ◌∷◌, ◌++◌, map, take, drop, length, Some, refl, ap, sym, ◌∙◌, subst, arith, append_assoc}
use Rattle.std.specs.Prelude.{slice_get, unwrap_or}
use Rattle.std.specs.List.{AllByRecursion, flat_map}
use Rattle.std.proofs.lemmas.List.{map-append}
use Rattle.sn_plan_grammar.specs.declared.plan.Entry.{Entry}
use Rattle.sn_plan_grammar.specs.declared.plan.Piece.{Piece}
use Rattle.sn_switch.specs.declared.switch.Switch.{Switch}
use Rattle.sn_types.specs.declared.typed_query.TypedQuery.{TypedQuery}
use Rattle.sn_types.specs.declared.typed_query.TypedBranch.{TypedBranch}
use Rattle.sn_types.specs.Typed.{branch_of, blank_branch}
use Rattle.sn_plan_fit.specs.Paths.{Place, at_place, piece_place, level_places, places}
use Rattle.sn_plan_fit.specs.Pieces.{piece_branch}
use Rattle.sn_plan_fit.specs.Fits.{IsEntryOf, AreEntriesOf, PieceFits, OnBranch, PiecesFit}
use Rattle.sn_plan_lists.specs.Chosen.{Seat, level_seats, path_seats, registers_with, piece_with, piece_at, after_piece, pieces_at, after_pieces, entry_at, after_entry, plan_at, option_of, piece_choices, entry_choices, plan_choices, HasLevels}
use Rattle.sn_plan_lists.proofs.OptionNumbers.{number_of_option}
use Rattle.sn_plan_lists.proofs.PathNumbers.{path_of_number}
use Rattle.sn_plan_lists.proofs.Seats.{seat_place}
use Rattle.sn_plan_lists.proofs.Pieces.{seat_of, GoodPiece, is_option, IsKnown}
use Rattle.sn_base.proofs.Tests.{zero_plus}
use Rattle.sn_base.proofs.Lists.{all_append}

-- ---- the seats of a query

level_known : (all : List TypedBranch) (level n : ℕ) (bs : List TypedBranch) → ((i : ℕ) → slice_get all (n + i) ≡ slice_get bs i)
    → AllByRecursion (λ seat. slice_get all seat.number ≡ Some seat.branch) (level_seats level n bs)
level_known all level n [] h = tt
level_known all level n (b ∷ bs) h = (
  ap (slice_get all) (let e : n ≡ n + 0 = omega arith in e) ∙ h 0,
  level_known all level (n + 1) bs (λ i. ap (slice_get all) (let e : n + 1 + i ≡ n + suc i = omega arith in e) ∙ h (suc i)),
)

pub seats_known : (q : TypedQuery) (path : List ℕ) → AllByRecursion (IsKnown q) (path_seats q.branches path)
seats_known q [] = tt
seats_known q (l ∷ path) =
    all_append (IsKnown q) (level_seats l 0 q.branches) (path_seats q.branches path) (level_known q.branches l 0 q.branches (λ i. ap (slice_get q.branches) (zero_plus i))) (seats_known q path)

level_placed : (level n : ℕ) (bs : List TypedBranch) → map seat_place (level_seats level n bs) ≡ level_places level n bs
level_placed level n [] = refl
level_placed level n (b ∷ bs) = ap (λ l. at_place level n ∷ l) (level_placed level (n + 1) bs)

-- they stand at its places
pub seats_placed : (bs : List TypedBranch) (path : List ℕ) → map seat_place (path_seats bs path) ≡ places bs path
seats_placed bs [] = refl
seats_placed bs (l ∷ path) =
    map-append seat_place (level_seats l 0 bs) (path_seats bs path) ∙ ap (λ x. x ++ map seat_place (path_seats bs path)) (level_placed l 0 bs) ∙ ap (λ x. level_places l 0 bs ++ x) (seats_placed bs path)

-- ---- pieces at seats

abbrev first_place : List Place → Place
first_place [] = (0, 0)
first_place (x ∷ xs) = x

abbrev other_places : List Place → List Place
other_places [] = []
other_places (x ∷ xs) = xs

no_more : {A : Type 0} (x : A) (xs : List A) → x ∷ xs ≡ [] → ⊥
no_more x xs e = cc

no_fewer : {A : Type 0} (x : A) (xs : List A) → [] ≡ x ∷ xs → ⊥
no_fewer x xs e = cc

record AtSeats (q : TypedQuery) (ps : List Piece) (seats : List Seat) : Type 0 where
  seats_are : map (seat_of q) ps ≡ seats
  known : AllByRecursion (λ p. piece_branch q p ≡ Some (branch_of q p.branch)) ps

at_seats : (q : TypedQuery) (ps : List Piece) (seats : List Seat) → map piece_place ps ≡ map seat_place seats → AllByRecursion (IsKnown q) seats → AtSeats q ps seats
at_seats q [] [] e k = record { seats_are = refl; known = tt }
at_seats q [] (seat ∷ seats) e k = absurd (no_fewer (seat_place seat) (map seat_place seats) e)
at_seats q (p ∷ ps) [] e k = absurd (no_more (piece_place p) (map piece_place ps) e)
at_seats q (p ∷ ps) (seat ∷ seats) e k =
    let rest = at_seats q ps seats (ap other_places e) k.1 in
    let level : p.level ≡ seat.level = ap (λ l. (first_place l).0) e in
    let number : p.branch ≡ seat.number = ap (λ l. (first_place l).1) e in
    let there : piece_branch q p ≡ Some seat.branch = ap (slice_get q.branches) number ∙ k.0 in
    let branch : branch_of q p.branch ≡ seat.branch = ap (λ b. unwrap_or b blank_branch) there in
    let one : seat_of q p ≡ seat =
    ap (λ (l : ℕ). record { level = l; number = p.branch; branch = branch_of q p.branch }) level ∙ ap (λ (n : ℕ). record { level = seat.level; number = n; branch = branch_of q p.branch }) number
    ∙ ap (λ b. record { level = seat.level; number = seat.number; branch = b }) branch in
    record {
      seats_are = ap (λ x. x ∷ map (seat_of q) ps) one ∙ ap (λ l. seat ∷ l) rest.seats_are;
      known = (there ∙ ap Some (sym branch), rest.known);
    }

good_each : (s : Switch) (q : TypedQuery) (path : List ℕ) (ps : List Piece) → AllByRecursion (λ p. piece_branch q p ≡ Some (branch_of q p.branch)) ps
    → AllByRecursion (λ p. OnBranch (λ b. PieceFits s path b p) (piece_branch q p)) ps → AllByRecursion (GoodPiece s q path) ps
good_each s q path [] k f = tt
good_each s q path (p ∷ ps) k f = (record { known = k.0; fits = subst (OnBranch (λ b. PieceFits s path b p)) k.0 f.0 }, good_each s q path ps k.1 f.1)

-- the pieces of an entry stand at the seats of its path, and fit
pub record GoodEntry (s : Switch) (q : TypedQuery) (e : Entry) : Type 0 where
  pub seats : map (seat_of q) e.pieces ≡ path_seats q.branches e.levels
  pub good : AllByRecursion (GoodPiece s q e.levels) e.pieces

pub good_entry : (s : Switch) (q : TypedQuery) (e : Entry) → IsEntryOf q e → AllByRecursion (λ p. OnBranch (λ b. PieceFits s e.levels b p) (piece_branch q p)) e.pieces → GoodEntry s q e
good_entry s q e is fits =
    let at = at_seats q e.pieces (path_seats q.branches e.levels) (is.pieces ∙ sym (seats_placed q.branches e.levels)) (seats_known q e.levels) in
    record { seats = at.seats_are; good = good_each s q e.levels e.pieces at.known fits }

-- ---- reading back

take_front : (n : ℕ) (xs ys : List ℕ) → length xs ≡ n → take n (xs ++ ys) ≡ xs
take_front zero [] ys e = refl
take_front zero (x ∷ xs) ys e = absurd (omega arith)
take_front (suc n) [] ys e = absurd (omega arith)
take_front (suc n) (x ∷ xs) ys e = ap (λ l. x ∷ l) (take_front n xs ys (omega arith))

drop_front : (n : ℕ) (xs ys : List ℕ) → length xs ≡ n → drop n (xs ++ ys) ≡ ys
drop_front zero [] ys e = refl
drop_front zero (x ∷ xs) ys e = absurd (omega arith)
drop_front (suc n) [] ys e = absurd (omega arith)
drop_front (suc n) (x ∷ xs) ys e = drop_front n xs ys (omega arith)

module _ (s : Switch) (q : TypedQuery) (path : List ℕ) where
  piece_read : (p : Piece) (rest : List ℕ) → GoodPiece s q path p → piece_at s (seat_of q p) (option_of s q p ∷ (p.stages ++ rest)) ≡ p
  piece_read p rest g =
      let b = branch_of q p.branch in
      let option = (number_of_option s b (p.cut, p.slots) (is_option s q path p g)).1 in
      ap (λ o. piece_with (seat_of q p) o (take (registers_with s b o) (p.stages ++ rest))) option
      ∙ ap (λ ss. piece_with (seat_of q p) (p.cut, p.slots) ss) (take_front (registers_with s b (p.cut, p.slots)) p.stages rest g.fits.stages)

  after_read : (p : Piece) (rest : List ℕ) → GoodPiece s q path p → after_piece s (seat_of q p) (option_of s q p ∷ (p.stages ++ rest)) ≡ rest
  after_read p rest g =
      let b = branch_of q p.branch in
      let option = (number_of_option s b (p.cut, p.slots) (is_option s q path p g)).1 in
      ap (λ o. drop (registers_with s b o) (p.stages ++ rest)) option ∙ drop_front (registers_with s b (p.cut, p.slots)) p.stages rest g.fits.stages

  open_choices : (p : Piece) (ps : List Piece) (rest : List ℕ) → flat_map (piece_choices s q) (p ∷ ps) ++ rest ≡ option_of s q p ∷ (p.stages ++ (flat_map (piece_choices s q) ps ++ rest))
  open_choices p ps rest = ap (λ l. option_of s q p ∷ l) (append_assoc p.stages (flat_map (piece_choices s q) ps) rest)

  pieces_read : (ps : List Piece) (rest : List ℕ) → AllByRecursion (GoodPiece s q path) ps → pieces_at s (map (seat_of q) ps) (flat_map (piece_choices s q) ps ++ rest) ≡ ps
  pieces_read [] rest g = refl
  pieces_read (p ∷ ps) rest g =
      ap (pieces_at s (map (seat_of q) (p ∷ ps))) (open_choices p ps rest)
      ∙ ap (λ x. x ∷ pieces_at s (map (seat_of q) ps) (after_piece s (seat_of q p) (option_of s q p ∷ (p.stages ++ (flat_map (piece_choices s q) ps ++ rest))))) (piece_read p (flat_map (piece_choices s q) ps ++ rest) g.0)
      ∙ ap (λ l. p ∷ pieces_at s (map (seat_of q) ps) l) (after_read p (flat_map (piece_choices s q) ps ++ rest) g.0)
      ∙ ap (λ l. p ∷ l) (pieces_read ps rest g.1)

  pieces_after : (ps : List Piece) (rest : List ℕ) → AllByRecursion (GoodPiece s q path) ps → after_pieces s (map (seat_of q) ps) (flat_map (piece_choices s q) ps ++ rest) ≡ rest
  pieces_after [] rest g = refl
  pieces_after (p ∷ ps) rest g =
      ap (after_pieces s (map (seat_of q) (p ∷ ps))) (open_choices p ps rest)
      ∙ ap (after_pieces s (map (seat_of q) ps)) (after_read p (flat_map (piece_choices s q) ps ++ rest) g.0)
      ∙ pieces_after ps rest g.1

entry_read : (s : Switch) (q : TypedQuery) (e : Entry) (rest : List ℕ) → HasLevels q → IsEntryOf q e → GoodEntry s q e → entry_at s q (entry_choices s q e ++ rest) ≡ e
entry_read s q e rest h is g =
    let path = path_of_number q.levels e.levels h.rising is.path in
    ap (λ l. record { name = q.name; levels = l; pieces = pieces_at s (path_seats q.branches l) (flat_map (piece_choices s q) e.pieces ++ rest) }) path
    ∙ ap (λ seats. record { name = q.name; levels = e.levels; pieces = pieces_at s seats (flat_map (piece_choices s q) e.pieces ++ rest) }) (sym g.seats)
    ∙ ap (λ ps. record { name = q.name; levels = e.levels; pieces = ps }) (pieces_read s q e.levels e.pieces rest g.good)
    ∙ ap (λ n. record { name = n; levels = e.levels; pieces = e.pieces }) (sym is.name)

entry_after : (s : Switch) (q : TypedQuery) (e : Entry) (rest : List ℕ) → HasLevels q → IsEntryOf q e → GoodEntry s q e → after_entry s q (entry_choices s q e ++ rest) ≡ rest
entry_after s q e rest h is g =
    let path = path_of_number q.levels e.levels h.rising is.path in
    ap (λ l. after_pieces s (path_seats q.branches l) (flat_map (piece_choices s q) e.pieces ++ rest)) path
    ∙ ap (λ seats. after_pieces s seats (flat_map (piece_choices s q) e.pieces ++ rest)) (sym g.seats)
    ∙ pieces_after s q e.levels e.pieces rest g.good

pub plan_read : (s : Switch) (qs : List TypedQuery) (es : List Entry) → AllByRecursion HasLevels qs → AreEntriesOf qs es → PiecesFit (PieceFits s) qs es → plan_at s qs (plan_choices s qs es) ≡ es
plan_read s [] [] h is fits = refl
plan_read s [] (e ∷ es) h is fits = absurd is
plan_read s (q ∷ qs) [] h is fits = absurd is
plan_read s (q ∷ qs) (e ∷ es) h is fits =
    let g = good_entry s q e is.0 fits.0 in
    ap (λ x. x ∷ plan_at s qs (after_entry s q (entry_choices s q e ++ plan_choices s qs es))) (entry_read s q e (plan_choices s qs es) h.0 is.0 g)
    ∙ ap (λ l. e ∷ plan_at s qs l) (entry_after s q e (plan_choices s qs es) h.0 is.0 g)
    ∙ ap (λ l. e ∷ l) (plan_read s qs es h.1 is.1 fits.1)
