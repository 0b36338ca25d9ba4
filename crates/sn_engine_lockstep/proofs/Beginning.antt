-- Windows that lanes begin.
use Rattle.std.proofs.Common.{◌≡◌, ℕ, zero, suc, ◌+◌, ◌<◌, ◌≤◌, List, [], ◌∷◌, ◌++◌, map, length, Option, Some, None, IfSome, slice_get, slice_set, refl, ap, sym, ◌∙◌, subst, arith}
use Rattle.std.specs.List.{AllByRecursion}
use Rattle.std.proofs.lemmas.List.{map-append}
use Rattle.sn_base.proofs.Lists.{all_weaker, map_both, some_same, none_some, index_within as within}
use Rattle.sn_emit.specs.declared.sender.Sender.{Sender}
use Rattle.sn_emit.specs.Plans.{AreLanesOf, IsLaneOf, Placed, pieces_from, placed}
use Rattle.sn_emit.specs.Senders.{sender_next, sender_start}
use Rattle.sn_emit.specs.declared.tables.Tables.{Tables}
use Rattle.sn_engine.specs.declared.intake.Intake.{Intake}
use Rattle.sn_engine.specs.Intakes.{emptied}
use Rattle.sn_plan_fit.specs.Fits.{Fits, HasShape, OnBranch, PieceFits, PiecesFit}
use Rattle.sn_plan_fit.specs.Pieces.{piece_branch}
use Rattle.sn_plan_grammar.specs.declared.plan.Entry.{Entry}
use Rattle.sn_plan_grammar.specs.declared.plan.Piece.{Piece}
use Rattle.sn_switch.specs.declared.switch.Switch.{Switch}
use Rattle.sn_types.specs.declared.typed_query.TypedBranch.{TypedBranch}
use Rattle.sn_refine.specs.Steps.{Set}
use Rattle.sn_types.specs.declared.typed_query.TypedQuery.{TypedQuery}
use Rattle.sn_engine_lockstep.specs.declared.source.Source.{Source}
use Rattle.sn_engine_lockstep.specs.Sources.{source_of, sources_of}
use Rattle.sn_engine_lockstep.specs.Work.{AreAtWork, AreIdle, AreUnread, Begins, done, intake_of}
use Rattle.sn_engine_lockstep.proofs.Changes.{all_get, set_here, set_length, set_there}
use Rattle.sn_engine_lockstep.proofs.Draining.{Holds, holds}
use Rattle.sn_engine_lockstep.proofs.Finding.{get_map}
use Rattle.sn_engine_lockstep.proofs.Giving.{by_same, of_some}
use Rattle.sn_base.proofs.Tests.{by_order}

-- ---- one lane more

pub begin_none : (kept : Source → Set) (sources : List Source) (before : List Sender) → Begins kept sources 0 before before
begin_none kept sources before = record { count = refl; begun = λ j source s lt. absurd (omega (arith, lt)); left = λ j le. refl }

pub begin_one : (kept : Source → Set) (sources : List Source) (i : ℕ) (before now after : List Sender) (source : Source) (members : Set) → slice_get sources i ≡ Some source → i < length now
    → IfSome (slice_get now i) (λ s. after ≡ slice_set now i (sender_start s members)) → members ≡ kept source → Begins kept sources i before now → Begins kept sources (i + 1) before after
begin_one kept sources i before now after source members at lt changed are h =
    let hs : Holds now i = holds now i lt in
    let s = hs.at in
    let new = sender_start s members in
    let after_is : after ≡ slice_set now i new = of_some (λ r. after ≡ slice_set now i (sender_start r members)) (slice_get now i) s hs.is changed in
    record {
      count = ap length after_is ∙ set_length now i new ∙ h.count;
      begun = λ j other r less p q.
          by_same j i
          (λ same.
          let source_is : source ≡ other = some_same source other (sym at ∙ sym (ap (slice_get sources) same) ∙ p) in
          let r_is : s ≡ r = some_same s r (sym hs.is ∙ sym (ap (slice_get now) same) ∙ h.left j (omega (arith, same)) ∙ q) in
          ap (λ zs. slice_get zs j) after_is ∙ ap (slice_get (slice_set now i new)) same ∙ set_here now i s new hs.is
          ∙ ap (λ z. Some (sender_start z members)) r_is ∙ ap (λ m. Some (sender_start r m)) (are ∙ ap kept source_is))
          (λ differs. ap (λ zs. slice_get zs j) after_is ∙ set_there now i j new differs ∙ h.begun j other r (below j differs less) p q);
      left = λ j le. ap (λ zs. slice_get zs j) after_is ∙ set_there now i j new (λ same. absurd (omega (arith, same, le))) ∙ h.left j (omega (arith, le));
    }
  where
    below : (j : ℕ) → (j ≡ i → ⊥) → j < i + 1 → j < i
    below j other less = by_order j i (λ lt. lt) (λ le. absurd (other (omega (arith, le, less))))

-- ---- all lanes

all_of : (P : Sender → Type 0) (ss : List Sender) → ((j : ℕ) (s : Sender) → slice_get ss j ≡ Some s → P s) → AllByRecursion P ss
all_of P [] h = tt
all_of P (s ∷ ss) h = (h 0 s refl, all_of P ss (λ j t e. h (suc j) t e))

pub begun_unread : (kept : Source → Set) (sources : List Source) (before now : List Sender) → length sources ≡ length before → Begins kept sources (length sources) before now → AreUnread now
begun_unread kept sources before now many h =
    all_of (λ s. s.pipe.prefix.place ≡ 0) now (λ j s at.
    let w = within now j s at in
    let c = h.count in
    let lt : j < length before = omega (arith, w, c) in
    let hb : Holds before j = holds before j lt in
    let hs : Holds sources j = holds sources j (omega (arith, lt, many)) in
    let is : sender_start hb.at (kept hs.at) ≡ s = some_same (sender_start hb.at (kept hs.at)) s (sym (h.begun j hs.at hb.at (omega (arith, lt, many)) hs.is hb.is) ∙ at) in
    subst (λ (r : Sender). r.pipe.prefix.place ≡ 0) is refl)

lane_at_place : (queries : List TypedQuery) (tables : Tables) (xs : List Placed) (ss : List Sender) (j : ℕ) (x : Placed) (s : Sender) → AreLanesOf queries tables xs ss → slice_get xs j ≡ Some x → slice_get ss j ≡ Some s → IsLaneOf queries tables x s
lane_at_place queries tables [] ss j x s h p q = absurd (none_some p)
lane_at_place queries tables (y ∷ xs) [] j x s h p q = absurd h
lane_at_place queries tables (y ∷ xs) (t ∷ ss) zero x s h p q = subst (λ z. IsLaneOf queries tables z s) (some_same y x p) (subst (IsLaneOf queries tables y) (some_same t s q) h.0)
lane_at_place queries tables (y ∷ xs) (t ∷ ss) (suc j) x s h p q = lane_at_place queries tables xs ss j x s h.1 p q

lanes_many : (queries : List TypedQuery) (tables : Tables) (xs : List Placed) (ss : List Sender) → AreLanesOf queries tables xs ss → length ss ≡ length xs
lanes_many queries tables [] [] h = refl
lanes_many queries tables [] (s ∷ ss) h = absurd h
lanes_many queries tables (x ∷ xs) [] h = absurd h
lanes_many queries tables (x ∷ xs) (s ∷ ss) h = ap suc (lanes_many queries tables xs ss h.1)

pub map_length : {X Y : Type 0} (f : X → Y) (xs : List X) → length (map f xs) ≡ length xs
map_length f [] = refl
map_length f (x ∷ xs) = ap suc (map_length f xs)

pub begun_work : (queries : List TypedQuery) (tables : Tables) (pieces : List Placed) (kept : Source → Set) (sources : List Source) (before now : List Sender) (intakes : List Intake) → sources ≡ map source_of pieces
    → Begins kept sources (length sources) before now → AreIdle queries tables pieces before intakes → AreAtWork queries tables pieces kept [] now intakes
begun_work queries tables pieces kept sources before now intakes are h idle =
    let many = lanes_many queries tables pieces before idle.lanes in
    let count : length sources ≡ length pieces = ap length are ∙ map_length source_of pieces in
    record {
      apart = idle.apart;
      given = h.count ∙ many;
      taken = ap length idle.empty ∙ map_length intake_of pieces;
      each = λ j x s l p q r.
          let w = within pieces j x p in
          let hb : Holds before j = holds before j (omega (arith, w, many)) in
          let source : slice_get sources j ≡ Some (source_of x) = ap (λ zs. slice_get zs j) are ∙ get_map source_of pieces j x p in
          record {
            base = hb.at;
            lane = lane_at_place queries tables pieces before j x hb.at idle.lanes p hb.is;
            sender = some_same s (sender_start hb.at (kept (source_of x))) (sym q ∙ h.begun j (source_of x) hb.at (omega (arith, w, count)) source hb.is);
            intake = some_same l (intake_of x) (sym r ∙ ap (λ zs. slice_get zs j) idle.empty ∙ get_map intake_of pieces j x p);
          };
    }

-- ---- a tuple leaves the lanes unread

set_all : (P : Sender → Type 0) (ss : List Sender) (i : ℕ) (t : Sender) → P t → AllByRecursion P ss → AllByRecursion P (slice_set ss i t)
set_all P [] i t new h = tt
set_all P (s ∷ ss) zero t new h = (new, h.1)
set_all P (s ∷ ss) (suc i) t new h = (h.0, set_all P ss i t new h.1)

pub next_unread : (ss ts : List Sender) (i : ℕ) (tuple : List ℕ) → i < length ss → IfSome (slice_get ss i) (λ s. ts ≡ slice_set ss i (sender_next s tuple)) → AreUnread ss → AreUnread ts
next_unread ss ts i tuple lt changed h =
    let hs : Holds ss i = holds ss i lt in
    let is : ts ≡ slice_set ss i (sender_next hs.at tuple) = of_some (λ r. ts ≡ slice_set ss i (sender_next r tuple)) (slice_get ss i) hs.at hs.is changed in
    subst AreUnread (sym is) (set_all (λ s. s.pipe.prefix.place ≡ 0) ss i (sender_next hs.at tuple) (all_get (λ s. s.pipe.prefix.place ≡ 0) ss i hs.at h hs.is) h)

pub unread_at : (ss : List Sender) (i : ℕ) → AreUnread ss → IfSome (slice_get ss i) (λ s. s.pipe.prefix.place ≡ 0)
unread_at [] i h = tt
unread_at (s ∷ ss) zero h = h.0
unread_at (s ∷ ss) (suc i) h = unread_at ss i h.1

pub set_many : (ss ts : List Sender) (i : ℕ) (change : Sender → Sender) → i < length ss → IfSome (slice_get ss i) (λ s. ts ≡ slice_set ss i (change s)) → length ts ≡ length ss
set_many ss ts i change lt changed =
    let hs : Holds ss i = holds ss i lt in
    ap length (of_some (λ r. ts ≡ slice_set ss i (change r)) (slice_get ss i) hs.at hs.is changed) ∙ set_length ss i (change hs.at)

-- ---- the lanes of the engine, emptied

pub done_emptied : (queries : List TypedQuery) (tables : Tables) (window : ℕ) (kept : Source → Set) (tuples : List (List ℕ)) (pieces : List Placed) → map emptied (map (done queries tables kept tuples window) pieces) ≡ map intake_of pieces
done_emptied queries tables window kept tuples [] = refl
done_emptied queries tables window kept tuples (x ∷ xs) = ap (λ ls. intake_of x ∷ ls) (done_emptied queries tables window kept tuples xs)

-- ---- the sources of a plan

pub sources_are : (q : ℕ) (es : List Entry) → sources_of q es ≡ map source_of (pieces_from q es)
sources_are q [] = refl
sources_are q (e ∷ es) =
    ap (λ ss. ss ++ sources_of (q + 1) es) (sym (map_both (placed q e.levels) source_of e.pieces))
    ∙ ap (λ ss. map source_of (map (placed q e.levels) e.pieces) ++ ss) (ap (λ n. sources_of n es) next ∙ sources_are (suc q) es)
    ∙ sym (map-append source_of (map (placed q e.levels) e.pieces) (pieces_from (suc q) es))
  where
    next : q + 1 ≡ suc q
    next = omega arith

-- ---- a plan that fits has the shape of the queries

on_weaker : (P Q : TypedBranch → Type 0) → ((b : TypedBranch) → P b → Q b) → (o : Option TypedBranch) → OnBranch P o → OnBranch Q o
on_weaker P Q f None h = tt
on_weaker P Q f (Some b) h = f b h

pieces_weaker : (P Q : List ℕ → TypedBranch → Piece → Type 0) → ((path : List ℕ) (b : TypedBranch) (p : Piece) → P path b p → Q path b p) → (qs : List TypedQuery) (es : List Entry) → PiecesFit P qs es → PiecesFit Q qs es
pieces_weaker P Q f [] es h = tt
pieces_weaker P Q f (q ∷ qs) [] h = tt
pieces_weaker P Q f (q ∷ qs) (e ∷ es) h = (
  all_weaker (λ (p : Piece). OnBranch (λ b. P e.levels b p) (piece_branch q p)) (λ (p : Piece). OnBranch (λ b. Q e.levels b p) (piece_branch q p))
      (λ p on. on_weaker (λ b. P e.levels b p) (λ b. Q e.levels b p) (λ b. f e.levels b p) (piece_branch q p) on) e.pieces h.0,
  pieces_weaker P Q f qs es h.1,
)

pub has_shape : (queries : List TypedQuery) (s : Switch) (es : List Entry) → Fits queries s es → HasShape queries es
has_shape queries s es h = record { paths = h.paths; cuts = pieces_weaker (PieceFits s) (λ path b p. p.cut ≤ b.max_cut) (λ path b p fit. fit.cut) queries es h.pieces }
