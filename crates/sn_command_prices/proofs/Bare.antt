-- The plan that asks each query at its finest level alone, with nothing in the switch, fits.
use Rattle.std.proofs.Common.{◌≡◌, ℕ, zero, suc, ◌==◌, ◌+◌, ◌*◌, ◌≤◌, ◌<◌, List, [], ◌∷◌, ◌++◌, map, length, take, drop, Bool, true, cond, Option, None, Some, Ok, refl, ap, sym, ◌∙◌, subst, arith, add-one}
use Rattle.std.specs.Prelude.{slice_get, unwrap_or}
use Rattle.std.specs.List.{AllByRecursion, flat_map, range_with_len}
use Rattle.std.proofs.lemmas.Bool.{le-ltb}
use Rattle.std.proofs.lemmas.List.Elements.{All-nil}
use Rattle.sn_base.specs.Rising.{IsRising}
use Rattle.sn_plan_choices.specs.Options.{Setting, option_at, options, path_of, size_lists}
use Rattle.sn_plan_fit.specs.Fits.{AreEntriesOf, Fits, IsEntryOf, IsPath, OnBranch, PieceFits, PiecesFit, StageFits}
use Rattle.sn_plan_fit.specs.Paths.{at_place, level_places, piece_place, places}
use Rattle.sn_plan_fit.specs.Pieces.{all_metadata, all_registers, entry_metadata, entry_registers, metadata_of, on_branch, registers_of}
use Rattle.sn_plan_fit.specs.Placing.{HasPlacing, Table, stateless}
use Rattle.sn_plan_fit.specs.Registers.{Register}
use Rattle.sn_plan_grammar.specs.declared.plan.Entry.{Entry}
use Rattle.sn_plan_grammar.specs.declared.plan.Piece.{Piece}
use Rattle.sn_plan_grammar.specs.declared.plan.Plan.{Plan}
use Rattle.sn_plan_lists.proofs.PathNumbers.{path_of_fits}
use Rattle.sn_plan_lists.specs.Chosen.{HasLevels, Seat, after_piece, after_pieces, after_entry, entry_at, first_option, level_seats, path_seats, piece_at, piece_with, pieces_at, plan_at, registers_with, seat_at}
use Rattle.sn_plan_lists.specs.Theorems.{HaveRisingNumbers}
use Rattle.sn_prices_grammar.specs.declared.prices.Limit.{Limit}
use Rattle.sn_prices_grammar.specs.declared.prices.Prices.{Prices}
use Rattle.sn_prices_search.specs.Writable.{IsWritable}
use Rattle.sn_switch.specs.declared.switch.Switch.{Switch}
use Rattle.sn_types.specs.Cuts.{stateful}
use Rattle.sn_types.specs.declared.typed_query.TypedBranch.{TypedBranch}
use Rattle.sn_types.specs.declared.typed_query.TypedQuery.{TypedQuery}
use Rattle.sn_windows.specs.Rising.{Window}
use Rattle.sn_command_prices.specs.Made.{IsPricedPlan}
use Rattle.sn_command_prices.specs.Priced.{price_verdict, priced_cost, priced_least}
use Rattle.sn_command_prices.specs.declared.make.PricedPlan.{PricedPlan}
use Rattle.sn_command_prices.proofs.Makes.{equal_is}

-- ---- what no choices name

take_none : {A : Type 0} (n : ℕ) → ◌≡◌ {A = List A} (take n []) []
take_none zero = refl
take_none (suc n) = refl

drop_none : {A : Type 0} (n : ℕ) → ◌≡◌ {A = List A} (drop n []) []
drop_none zero = refl
drop_none (suc n) = refl

settings_ahead : (s : Switch) (b : TypedBranch) → options s b ≡ (0, []) ∷ flat_map (λ cut. map (λ sizes. (cut, sizes)) (size_lists s.slots (stateful (take cut b.ops)))) (range_with_len (0 + 1) b.max_cut)
settings_ahead s b = ap (λ n. flat_map (λ cut. map (λ sizes. (cut, sizes)) (size_lists s.slots (stateful (take cut b.ops)))) (range_with_len 0 n)) (add-one b.max_cut)

bare_option : (s : Switch) (b : TypedBranch) → option_at s b 0 ≡ (0, [])
bare_option s b = ap (λ (l : List Setting). unwrap_or (slice_get l 0) (0, [])) (settings_ahead s b)

abbrev bare_piece : Seat → Piece
bare_piece seat = piece_with seat (0, []) []

piece_is : (s : Switch) (seat : Seat) → piece_at s seat [] ≡ bare_piece seat
piece_is s seat =
    ap (λ (o : Setting). piece_with seat o (take (registers_with s seat.branch o) [])) (bare_option s seat.branch)
    ∙ ap (λ (l : List ℕ). piece_with seat (0, []) l) (take_none (registers_with s seat.branch (0, [])))

after_is : (s : Switch) (seat : Seat) → after_piece s seat [] ≡ []
after_is s seat = drop_none (registers_with s seat.branch (first_option s seat []))

pieces_are : (s : Switch) (seats : List Seat) → pieces_at s seats [] ≡ map bare_piece seats
pieces_are s [] = refl
pieces_are s (seat ∷ seats) =
    ap (λ (p : Piece). p ∷ pieces_at s seats (after_piece s seat [])) (piece_is s seat)
    ∙ ap (λ (cs : List ℕ). bare_piece seat ∷ pieces_at s seats cs) (after_is s seat)
    ∙ ap (λ (ps : List Piece). bare_piece seat ∷ ps) (pieces_are s seats)

none_left : (s : Switch) (seats : List Seat) → after_pieces s seats [] ≡ []
none_left s [] = refl
none_left s (seat ∷ seats) = ap (after_pieces s seats) (after_is s seat) ∙ none_left s seats

abbrev bare_seats : TypedQuery → List Seat
bare_seats q = path_seats q.branches (path_of 0 q.levels)

abbrev bare_entry : TypedQuery → Entry
bare_entry q = record { name = q.name; levels = path_of 0 q.levels; pieces = map bare_piece (bare_seats q) }

abbrev entry_with : TypedQuery → List Piece → Entry
entry_with q pieces = record { name = q.name; levels = path_of 0 q.levels; pieces = pieces }

entries_are : (s : Switch) (qs : List TypedQuery) → plan_at s qs [] ≡ map bare_entry qs
entries_are s [] = refl
entries_are s (q ∷ qs) =
    ap (λ (ps : List Piece). entry_with q ps ∷ plan_at s qs (after_entry s q [])) (pieces_are s (bare_seats q))
    ∙ ap (λ (cs : List ℕ). bare_entry q ∷ plan_at s qs cs) (none_left s (bare_seats q))
    ∙ ap (λ (es : List Entry). bare_entry q ∷ es) (entries_are s qs)

-- ---- the path is the finest level

one_level : (l : ℕ) (ls : List ℕ) → (finest : ℕ) × (path_of 0 (l ∷ ls) ≡ finest ∷ [])
one_level l [] = (l, refl)
one_level l (k ∷ ls) = one_level k ls

finest_alone : (ls : List ℕ) → 1 ≤ length ls → (finest : ℕ) × (path_of 0 ls ≡ finest ∷ [])
finest_alone [] some = absurd (omega arith)
finest_alone (l ∷ ls) some = one_level l ls

is_path : (ls : List ℕ) → 1 ≤ length ls → IsRising ls → IsPath ls (path_of 0 ls)
is_path [] some rising = absurd (omega arith)
is_path (l ∷ ls) some rising = path_of_fits 0 l ls rising

-- ---- pieces that take nothing into the switch

module _ (s : Switch) (q : TypedQuery) (finest : ℕ) where
  tables_none : cond (finest == finest) [] (stateless ∷ []) ++ [] ≡ []
  tables_none = ap (λ (b : Bool). cond b [] (stateless ∷ []) ++ []) (equal_is finest)

  placed : HasPlacing s.stages (cond (finest == finest) [] (stateless ∷ []) ++ [])
  placed = subst (HasPlacing s.stages) (sym tables_none) ([], record { stand = tt; rising = tt; below = tt })

  on_branch_fits : (n : ℕ) (branch : TypedBranch) (o : Option TypedBranch) → OnBranch (λ b. PieceFits s (finest ∷ []) b (bare_piece (seat_at finest n branch))) o
  on_branch_fits n branch None = tt
  on_branch_fits n branch (Some b) = record { cut = omega arith; sizes = refl; listed = tt; stages = omega arith; placing = placed }

  pieces_fit : (n : ℕ) (bs : List TypedBranch) → AllByRecursion (λ p. OnBranch (λ b. PieceFits s (finest ∷ []) b p) (slice_get q.branches p.branch)) (map bare_piece (level_seats finest n bs ++ []))
  pieces_fit n [] = tt
  pieces_fit n (b ∷ bs) = (on_branch_fits n b (slice_get q.branches n), pieces_fit (n + 1) bs)

  places_are : (n : ℕ) (bs : List TypedBranch) → map piece_place (map bare_piece (level_seats finest n bs ++ [])) ≡ level_places finest n bs ++ []
  places_are n [] = refl
  places_are n (b ∷ bs) = ap (λ ps. at_place finest n ∷ ps) (places_are (n + 1) bs)

none_registered : (d : ℕ) (seat : Seat) (o : Option TypedBranch) → on_branch [] (λ b. registers_of d b (bare_piece seat)) o ≡ []
none_registered d seat None = refl
none_registered d seat (Some b) = refl

none_carried : (seat : Seat) (o : Option TypedBranch) → on_branch 0 (λ b. metadata_of b (bare_piece seat)) o ≡ 0
none_carried seat None = refl
none_carried seat (Some b) = refl

entry_takes_none : (d : ℕ) (q : TypedQuery) (seats : List Seat) → entry_registers d q (map bare_piece seats) ≡ []
entry_takes_none d q [] = refl
entry_takes_none d q (seat ∷ seats) =
    ap (λ (rs : List Register). rs ++ entry_registers d q (map bare_piece seats)) (none_registered d seat (slice_get q.branches seat.number)) ∙ entry_takes_none d q seats

entry_carries_none : (q : TypedQuery) (seats : List Seat) → entry_metadata q (map bare_piece seats) ≡ 0
entry_carries_none q [] = refl
entry_carries_none q (seat ∷ seats) =
    ap (λ (n : ℕ). n + entry_metadata q (map bare_piece seats)) (none_carried seat (slice_get q.branches seat.number)) ∙ omega (arith, entry_carries_none q seats)

takes_none : (d : ℕ) (qs : List TypedQuery) → all_registers d qs (map bare_entry qs) ≡ []
takes_none d [] = refl
takes_none d (q ∷ qs) = ap (λ (rs : List Register). rs ++ all_registers d qs (map bare_entry qs)) (entry_takes_none d q (bare_seats q)) ∙ takes_none d qs

carries_none : (qs : List TypedQuery) → all_metadata qs (map bare_entry qs) ≡ 0
carries_none [] = refl
carries_none (q ∷ qs) = ap (λ (n : ℕ). n + all_metadata qs (map bare_entry qs)) (entry_carries_none q (bare_seats q)) ∙ omega (arith, carries_none qs)

-- ---- the plan

module _ (s : Switch) where
  abbrev Pieced : TypedQuery → List ℕ → Type 0
  Pieced q path = AllByRecursion (λ p. OnBranch (λ b. PieceFits s path b p) (slice_get q.branches p.branch)) (map bare_piece (path_seats q.branches path))

  abbrev Placed : TypedQuery → List ℕ → Type 0
  Placed q path = map piece_place (map bare_piece (path_seats q.branches path)) ≡ places q.branches path

  is_entry : (q : TypedQuery) → HasLevels q → IsEntryOf q (bare_entry q)
  is_entry q h =
      let alone = finest_alone q.levels h.some in
      record { name = refl; path = is_path q.levels h.some h.rising; pieces = subst (Placed q) (sym alone.1) (places_are s q alone.0 0 q.branches) }

  entry_fits : (q : TypedQuery) → HasLevels q → Pieced q (path_of 0 q.levels)
  entry_fits q h = let alone = finest_alone q.levels h.some in subst (Pieced q) (sym alone.1) (pieces_fit s q alone.0 0 q.branches)

  are_entries : (qs : List TypedQuery) → AllByRecursion HasLevels qs → AreEntriesOf qs (map bare_entry qs)
  are_entries [] h = tt
  are_entries (q ∷ qs) h = (is_entry q h.0, are_entries qs h.1)

  all_fit : (qs : List TypedQuery) → AllByRecursion HasLevels qs → PiecesFit (PieceFits s) qs (map bare_entry qs)
  all_fit [] h = tt
  all_fit (q ∷ qs) h = (entry_fits q h.0, all_fit qs h.1)

  entries_fit : (qs : List TypedQuery) → AllByRecursion HasLevels qs → Fits qs s (map bare_entry qs)
  entries_fit qs h = record {
    paths = are_entries qs h;
    pieces = all_fit qs h;
    loads = λ stage k. subst (λ (rs : List Register). StageFits s rs stage) (sym (takes_none s.chain qs)) (record { actions = omega arith; bits = omega arith });
    meta = subst (λ (n : ℕ). n ≤ s.meta) (sym (carries_none qs)) (omega arith);
  }

  pub bare_fits : (qs : List TypedQuery) → HaveRisingNumbers s qs → Fits qs s (plan_at s qs [])
  bare_fits qs rising = subst (Fits qs s) (sym (entries_are s qs)) (entries_fit qs rising.levels)

-- ---- with its cost, and no prices

abbrev no_prices : Prices
no_prices = record { scale = 1; limits = [] }

abbrev pub bare : Switch → List TypedQuery → List Window → PricedPlan
bare s queries given = record {
  plan = record { entries = plan_at s queries [] };
  shown = record { cost = priced_cost s queries given (record { entries = plan_at s queries [] }); prices = no_prices; least = 0 };
}

shows_nothing : (cost least : ℕ) → Ok tt ≡ price_verdict cost least cost 0
shows_nothing cost least = rw (equal_is cost, le-ltb least 0 (omega arith)) refl

-- so there is a plan with prices for whatever is asked
pub bare_is : (s : Switch) (queries : List TypedQuery) (given : List Window) → HaveRisingNumbers s queries → IsPricedPlan s queries given (bare s queries given)
bare_is s queries given rising = record {
  fits = bare_fits s queries rising;
  shows = shows_nothing (priced_cost s queries given (record { entries = plan_at s queries [] })) (priced_least s queries given no_prices);
  reported = record { scale = omega arith; few = omega arith; limits = All-nil IsWritable };
}
