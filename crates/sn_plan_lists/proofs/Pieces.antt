-- Pieces fit exactly where choices do their tasks and nothing goes past the last stage.
use Rattle.std.proofs.Common.{◌≡◌, ℕ, ◌+◌, ◌*◌, ◌<◌, List, [], ◌∷◌, ◌++◌, map, take, length, Bool, true, false, Some, refl, ap, sym, ◌∙◌, subst, arith, append_assoc}
use Rattle.std.specs.Prelude.{◌↔◌, slice_get, unwrap_or, if◌then◌else◌}
use Rattle.std.specs.List.{AllByRecursion, flat_map, list_any, sum_by}
use Rattle.std.proofs.lemmas.List.Sums.{sum_by-cons}
use Rattle.sn_plan_grammar.specs.declared.plan.Piece.{Piece}
use Rattle.sn_switch.specs.declared.switch.Switch.{Switch}
use Rattle.sn_types.specs.declared.typed_query.TypedQuery.{TypedQuery}
use Rattle.sn_types.specs.declared.typed_query.TypedBranch.{TypedBranch}
use Rattle.sn_types.specs.Cuts.{stateful}
use Rattle.sn_types.specs.Typed.{branch_of, blank_branch}
use Rattle.sn_plan_fit.specs.Paths.{Place, piece_place}
use Rattle.sn_plan_fit.specs.Placing.{Table, stateless, HasPlacing, HasGaps}
use Rattle.sn_base.specs.Rising.{IsRising}
use Rattle.sn_plan_fit.specs.Tables.{is_first, op_tables}
use Rattle.sn_plan_fit.specs.Registers.{Register, metadata, op_registers}
use Rattle.sn_plan_fit.specs.Pieces.{tables_of, registers_of, metadata_of, on_branch, piece_branch, entry_registers, entry_metadata}
use Rattle.sn_plan_fit.specs.Fits.{PieceFits, OnBranch}
use Rattle.sn_plan_choices.specs.Options.{Setting, options, option_at, piece_slots, registers_among}
use Rattle.sn_plan_choices.specs.Planning.{in_metadata, is_past, metadata_of as taken_metadata, Task, for_piece, for_stage, next_stage, past_by, planning}
use Rattle.sn_plan_lists.specs.Chosen.{Seat, piece_with, option_of, piece_choices}
use Rattle.sn_plan_lists.specs.Numbers.{option_number}
use Rattle.sn_plan_lists.specs.Costs.{piece_cost}
use Rattle.sn_plan_lists.proofs.OptionNumbers.{IsOption, number_of_option, option_at_is, number_of_option_at}
use Rattle.sn_plan_lists.proofs.Runs.{Does, taken_by}
use Rattle.sn_plan_lists.proofs.Seats.{seat_place, task_at}
use Rattle.sn_plan_lists.proofs.Slots.{fill, stand, op_count, op_fill, op_stand, Runs, stages_run, stages_split}

-- ---- the slots of a piece

module _ (s : Switch) (b : TypedBranch) (o : Setting) where
  slots_count : (first : Bool) → registers_among (piece_slots s first b o) ≡ s.chain * stateful (take o.0 b.ops)
  slots_count true = op_count s.chain b.schemas 0 (take o.0 b.ops) o.1
  slots_count false = op_count s.chain b.schemas 0 (take o.0 b.ops) o.1

  slots_fill : (first : Bool) (ss : List ℕ) → length ss ≡ s.chain * stateful (take o.0 b.ops)
      → fill (piece_slots s first b o) ss ≡ (if first then [] else stateless ∷ []) ++ op_tables s.chain (take o.0 b.ops) ss
  slots_fill true ss e = op_fill s.chain b.schemas 0 (take o.0 b.ops) o.1 ss e
  slots_fill false ss e = ap (λ l. stateless ∷ l) (op_fill s.chain b.schemas 0 (take o.0 b.ops) o.1 ss e)

  slots_stand : (first : Bool) (ss : List ℕ) → length ss ≡ s.chain * stateful (take o.0 b.ops)
      → stand (piece_slots s first b o) ss ≡ op_registers s.chain b.schemas 0 (take o.0 b.ops) o.1 ss
  slots_stand true ss e = op_stand s.chain b.schemas 0 (take o.0 b.ops) o.1 ss e
  slots_stand false ss e = op_stand s.chain b.schemas 0 (take o.0 b.ops) o.1 ss e

-- ---- a piece

abbrev pub seat_of : TypedQuery → Piece → Seat
seat_of q p = record { level = p.level; number = p.branch; branch = branch_of q p.branch }

-- a piece of a branch that there is, and that fits
pub record GoodPiece (s : Switch) (q : TypedQuery) (path : List ℕ) (p : Piece) : Type 0 where
  pub known : piece_branch q p ≡ Some (branch_of q p.branch)
  pub fits : PieceFits s path (branch_of q p.branch) p

pub is_option : (s : Switch) (q : TypedQuery) (path : List ℕ) (p : Piece) → GoodPiece s q path p → IsOption s (branch_of q p.branch) (p.cut, p.slots)
is_option s q path p g = record { cut = g.fits.cut; sizes = g.fits.sizes; listed = g.fits.listed }

-- the branch of a seat is the query's
abbrev pub IsKnown : TypedQuery → Seat → Type 0
IsKnown q seat = slice_get q.branches seat.number ≡ Some seat.branch

-- the law of placings, which is given to each proof here
abbrev pub ByGaps : Type 0
ByGaps = (stages : ℕ) (tables : List Table) → HasPlacing stages tables ↔ HasGaps stages 0 tables

module _ (s : Switch) (entry : ℕ → ℕ → ℕ → ℕ → ℕ) (by_gaps : ByGaps) where
  pub retype : (ts : List Task) (cs cs' : List ℕ) (cost cost' : ℕ) (registers registers' : List Register) (bits bits' : ℕ) → cs ≡ cs' → cost ≡ cost' → registers ≡ registers' → bits ≡ bits'
      → Runs s entry [] ts cs cost registers bits → Runs s entry [] ts cs' cost' registers' bits'
  retype ts cs cs' cost cost' registers registers' bits bits' c e f g r =
      subst (λ l. Runs s entry [] ts l cost' registers' bits') c
      (record { does = r.does; spent = r.spent ∙ e; past = r.past; standing = r.standing ∙ f; metadata = r.metadata ∙ g })

  -- a piece that fits is chosen
  piece_run : (n : ℕ) (q : TypedQuery) (path : List ℕ) (p : Piece) (ts : List Task) (rest : List ℕ) (cost : ℕ) (registers : List Register) (bits : ℕ) → GoodPiece s q path p
      → Runs s entry [] ts rest cost registers bits
      → Runs s entry [] (for_piece (task_at n q path (seat_of q p)) ∷ ts) (option_of s q p ∷ (p.stages ++ rest)) (piece_cost s entry n q path p + cost)
      (registers_of s.chain (branch_of q p.branch) p ++ registers) (metadata_of (branch_of q p.branch) p + bits)
  piece_run n q path p ts rest cost registers bits g r =
      let b = branch_of q p.branch in
      let x = option_of s q p in
      let first = is_first p.level path in
      let option = number_of_option s b (p.cut, p.slots) (is_option s q path p g) in
      let back : (p.cut, p.slots) ≡ option_at s b x = sym option.1 in
      let slots = piece_slots s first b (option_at s b x) in
      let count : length p.stages ≡ registers_among slots =
      g.fits.stages ∙ sym (slots_count s b (p.cut, p.slots) first) ∙ ap (λ o. registers_among (piece_slots s first b o)) back in
      let gaps : HasGaps s.stages 0 (fill slots p.stages) =
      subst (λ o. HasGaps s.stages 0 (fill (piece_slots s first b o) p.stages)) back
      (subst (HasGaps s.stages 0) (sym (slots_fill s b (p.cut, p.slots) first p.stages g.fits.stages)) ((by_gaps s.stages (tables_of s.chain path b p)).0 g.fits.placing)) in
      let next = stages_run s entry 0 slots p.stages rest ts cost registers bits count gaps r in
      let registers_are : stand slots p.stages ≡ registers_of s.chain b p =
      ap (λ o. stand (piece_slots s first b o) p.stages) option.1 ∙ slots_stand s b (p.cut, p.slots) first p.stages g.fits.stages in
      record {
        does = ((omega arith, let h = option.0 in omega arith), next.does);
        spent = ap (λ (c : ℕ). piece_cost s entry n q path p + c) next.spent;
        past = next.past;
        standing = next.standing ∙ ap (λ l. l ++ registers) registers_are;
        metadata = sum_by-cons taken_metadata (in_metadata (metadata b.schemas false 0 (take (option_at s b x).0 b.ops))) (past_by s.stages 0 slots ++ taken_by (planning s entry) (map for_stage (next_stage 0 slots) ++ ts) (p.stages ++ rest))
            ∙ ap (λ (m : ℕ). metadata b.schemas false 0 (take (option_at s b x).0 b.ops) + m) next.metadata
            ∙ ap (λ (o : Setting). metadata b.schemas false 0 (take o.0 b.ops) + bits) option.1;
      }

  pub pieces_run : (n : ℕ) (q : TypedQuery) (path : List ℕ) (ps : List Piece) (ts : List Task) (rest : List ℕ) (cost : ℕ) (registers : List Register) (bits : ℕ) → AllByRecursion (GoodPiece s q path) ps
      → Runs s entry [] ts rest cost registers bits
      → Runs s entry [] (map for_piece (map (task_at n q path) (map (seat_of q) ps)) ++ ts) (flat_map (piece_choices s q) ps ++ rest) (sum_by (piece_cost s entry n q path) ps + cost)
      (entry_registers s.chain q ps ++ registers) (entry_metadata q ps + bits)
  pieces_run n q path [] ts rest cost registers bits g r =
      retype ts rest rest cost (0 + cost) registers registers bits (0 + bits) refl (omega arith) refl (omega arith) r
  pieces_run n q path (p ∷ ps) ts rest cost registers bits g r =
      let next = pieces_run n q path ps ts rest cost registers bits g.1 r in
      let here =
      piece_run n q path p (map for_piece (map (task_at n q path) (map (seat_of q) ps)) ++ ts) (flat_map (piece_choices s q) ps ++ rest) (sum_by (piece_cost s entry n q path) ps + cost)
      (entry_registers s.chain q ps ++ registers) (entry_metadata q ps + bits) g.0 next in
      let one = sum_by-cons (piece_cost s entry n q path) p ps in
      let same : metadata_of (branch_of q p.branch) p ≡ on_branch 0 (λ b. metadata_of b p) (piece_branch q p) = ap (on_branch 0 (λ b. metadata_of b p)) (sym g.0.known) in
      retype (map for_piece (map (task_at n q path) (map (seat_of q) (p ∷ ps))) ++ ts) (option_of s q p ∷ (p.stages ++ (flat_map (piece_choices s q) ps ++ rest))) (flat_map (piece_choices s q) (p ∷ ps) ++ rest)
      (piece_cost s entry n q path p + (sum_by (piece_cost s entry n q path) ps + cost)) (sum_by (piece_cost s entry n q path) (p ∷ ps) + cost)
      (registers_of s.chain (branch_of q p.branch) p ++ (entry_registers s.chain q ps ++ registers)) (entry_registers s.chain q (p ∷ ps) ++ registers)
      (metadata_of (branch_of q p.branch) p + (entry_metadata q ps + bits)) (entry_metadata q (p ∷ ps) + bits)
      (ap (λ l. option_of s q p ∷ l) (sym (append_assoc p.stages (flat_map (piece_choices s q) ps) rest)))
      (omega arith)
      (sym (append_assoc (registers_of s.chain (branch_of q p.branch) p) (entry_registers s.chain q ps) registers)
      ∙ ap (λ l. (l ++ entry_registers s.chain q ps) ++ registers) (ap (on_branch [] (λ b. registers_of s.chain b p)) (sym g.0.known)))
      (omega arith) here

  -- ---- choices name pieces

  -- choices split after those of a piece, which fits
  record PieceSplit (q : TypedQuery) (path : List ℕ) (seat : Seat) (ts : List Task) (cs : List ℕ) : Type 0 where
    piece : Piece
    rest : List ℕ
    is : cs ≡ piece_choices s q piece ++ rest
    place : piece_place piece ≡ seat_place seat
    fits : PieceFits s path seat.branch piece
    does : Does (planning s entry) ts rest
    past : list_any is_past (taken_by (planning s entry) ts rest) ≡ false

  piece_split : (n : ℕ) (q : TypedQuery) (path : List ℕ) (seat : Seat) (ts : List Task) (cs : List ℕ) → IsRising s.slots → IsKnown q seat
      → Does (planning s entry) (for_piece (task_at n q path seat) ∷ ts) cs → list_any is_past (taken_by (planning s entry) (for_piece (task_at n q path seat) ∷ ts) cs) ≡ false
      → PieceSplit q path seat ts cs
  piece_split n q path seat ts [] z k d p = absurd d
  piece_split n q path seat ts (x ∷ cs) z k d p =
      let b = seat.branch in
      let first = is_first seat.level path in
      let o = option_at s b x in
      let below : x < length (options s b) = (let h = d.0.1 in omega arith) in
      let option = option_at_is s b x below in
      let more = stages_split s entry 0 (piece_slots s first b (option_at s b x)) cs ts d.1 p in
      let count : length more.stages ≡ s.chain * stateful (take (option_at s b x).0 b.ops) = more.count ∙ slots_count s b (option_at s b x) first in
      let number : x ≡ option_of s q (piece_with seat (option_at s b x) more.stages) =
      sym (ap (λ c. option_number s c (option_at s b x)) (ap (λ c. unwrap_or c blank_branch) k) ∙ number_of_option_at s b x z below) in
      record {
        piece = piece_with seat (option_at s b x) more.stages;
        rest = more.rest;
        is = ap (λ (y : ℕ). y ∷ cs) number ∙ ap (λ l. option_of s q (piece_with seat (option_at s b x) more.stages) ∷ l) more.is;
        place = refl;
        fits = record {
          cut = option.cut;
          sizes = option.sizes;
          listed = option.listed;
          stages = count;
          placing = (by_gaps s.stages (tables_of s.chain path b (piece_with seat (option_at s b x) more.stages))).1 (subst (HasGaps s.stages 0) (slots_fill s b (option_at s b x) first more.stages count) more.gaps);
        };
        does = more.does;
        past = more.past;
      }

  -- choices split after those of pieces at these seats, which fit
  pub record PiecesSplit (q : TypedQuery) (path : List ℕ) (seats : List Seat) (ts : List Task) (cs : List ℕ) : Type 0 where
    pub pieces : List Piece
    pub rest : List ℕ
    pub is : cs ≡ flat_map (piece_choices s q) pieces ++ rest
    pub places : map piece_place pieces ≡ map seat_place seats
    pub fits : AllByRecursion (λ p. OnBranch (λ b. PieceFits s path b p) (piece_branch q p)) pieces
    pub does : Does (planning s entry) ts rest
    pub past : list_any is_past (taken_by (planning s entry) ts rest) ≡ false

  pub pieces_split : (n : ℕ) (q : TypedQuery) (path : List ℕ) (seats : List Seat) (ts : List Task) (cs : List ℕ) → IsRising s.slots → AllByRecursion (IsKnown q) seats
      → Does (planning s entry) (map for_piece (map (task_at n q path) seats) ++ ts) cs → list_any is_past (taken_by (planning s entry) (map for_piece (map (task_at n q path) seats) ++ ts) cs) ≡ false
      → PiecesSplit q path seats ts cs
  pieces_split n q path [] ts cs z k d p = record { pieces = []; rest = cs; is = refl; places = refl; fits = tt; does = d; past = p }
  pieces_split n q path (seat ∷ seats) ts cs z k d p =
      let one = piece_split n q path seat (map for_piece (map (task_at n q path) seats) ++ ts) cs z k.0 d p in
      let more = pieces_split n q path seats ts one.rest z k.1 one.does one.past in
      let number : one.piece.branch ≡ seat.number = ap (λ (x : Place). x.1) one.place in
      let known : piece_branch q one.piece ≡ Some seat.branch = ap (slice_get q.branches) number ∙ k.0 in
      record {
        pieces = one.piece ∷ more.pieces;
        rest = more.rest;
        is = one.is ∙ ap (λ l. piece_choices s q one.piece ++ l) more.is ∙ sym (append_assoc (piece_choices s q one.piece) (flat_map (piece_choices s q) more.pieces) more.rest);
        places = ap (λ x. x ∷ map piece_place more.pieces) one.place ∙ ap (λ l. seat_place seat ∷ l) more.places;
        fits = (subst (OnBranch (λ b. PieceFits s path b one.piece)) (sym known) one.fits, more.fits);
        does = more.does;
        past = more.past;
      }
