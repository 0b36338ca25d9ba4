-- The lanes of a plan: as they are made, and as they stay.
use Rattle.std.proofs.Common.{◌≡◌, ℕ, zero, suc, ◌+◌, ◌<◌, List, [], ◌∷◌, ◌++◌, map, take, length, Bool, false, Option, get_or, slice_set, refl, ap, sym, subst, ◌∙◌, append-nil, append_assoc, arith}
use Rattle.std.specs.FinSet as set
use Rattle.std.specs.List.{AllByRecursion}
use Rattle.std.specs.Ordering.{nat_cmp}
use Rattle.std.proofs.lemmas.List.{map-append, take_more}
use Rattle.sn_base.proofs.Lists.{all_front, all_rest, all_unmap}
use Rattle.sn_plan_grammar.specs.declared.plan.Entry.{Entry}
use Rattle.sn_plan_grammar.specs.declared.plan.Piece.{Piece}
use Rattle.sn_pipe.specs.Pipes.{IsNewPipe, PipeState, at_start}
use Rattle.sn_pipe.specs.AnyStage.{Stage}
use Rattle.sn_pipe.specs.declared.gate.Gate.{Gate}
use Rattle.sn_types.specs.declared.typed_op.TOp.{TOp}
use Rattle.sn_types.specs.declared.typed_query.TypedQuery.{TypedQuery}
use Rattle.sn_emit.specs.declared.sender.Sender.{Sender}
use Rattle.sn_emit.specs.declared.tables.Tables.{Tables}
use Rattle.sn_emit.specs.Making.{CanMake, InRange}
use Rattle.sn_emit.specs.Plans.{AreLanesOf, AreNewLanes, IsLaneOf, IsNewLane, IsNewPipeOf, Placed, pieces_from, placed}
use Rattle.sn_emit.specs.Senders.{sender_next, sender_start}
use Rattle.sn_pipe.proofs.Starts.{forgets, starts_again}

-- a call leaves a lane's name, and what its pipe is at the start of a window
pub record Stays (s t : Sender) : Type 0 where
  pub lane : t.lane ≡ s.lane
  pub pipe : at_start t.pipe set.empty ≡ at_start s.pipe set.empty

-- ---- the pieces of entries

pieces_append : (q : ℕ) (xs ys : List Entry) → pieces_from q (xs ++ ys) ≡ pieces_from q xs ++ pieces_from (q + length xs) ys
pieces_append q [] ys = let same : q ≡ q + 0 = omega arith in ap (λ n. pieces_from n ys) same
pieces_append q (e ∷ xs) ys =
    let own = map (placed q e.levels) e.pieces in
    let next : suc q + length xs ≡ q + suc (length xs) = omega arith in
    ap (λ zs. own ++ zs) (pieces_append (suc q) xs ys) ∙ sym (append_assoc own (pieces_from (suc q) xs) (pieces_from (suc q + length xs) ys))
    ∙ ap (λ n. (own ++ pieces_from (suc q) xs) ++ pieces_from n ys) next

pub pieces_more : (es : List Entry) (i : ℕ) (e : Entry) → i < length es → e ≡ get_or es i e → length (take i es) ≡ i → pieces_from 0 (take i es) ++ map (placed i e.levels) e.pieces ≡ pieces_from 0 (take (i + 1) es)
pieces_more es i e lt at count =
    let own : 0 + length (take i es) ≡ i = omega (arith, count) in
    sym (ap (λ xs. pieces_from 0 xs) (take_more es i e lt ∙ ap (λ o. take i es ++ o ∷ []) (sym at))
    ∙ pieces_append 0 (take i es) (e ∷ [])
    ∙ ap (λ n. pieces_from 0 (take i es) ++ pieces_from n (e ∷ [])) own
    ∙ ap (λ xs. pieces_from 0 (take i es) ++ xs) (append-nil (map (placed i e.levels) e.pieces)))

pub one_piece_more : (done : List Placed) (f : Piece → Placed) (pieces : List Piece) (i : ℕ) (p : Piece) → i < length pieces → p ≡ get_or pieces i p → (done ++ map f (take i pieces)) ++ f p ∷ [] ≡ done ++ map f (take (i + 1) pieces)
one_piece_more done f pieces i p lt at =
    let upto : take (i + 1) pieces ≡ take i pieces ++ p ∷ [] = take_more pieces i p lt ∙ ap (λ o. take i pieces ++ o ∷ []) (sym at) in
    append_assoc done (map f (take i pieces)) (f p ∷ []) ∙ ap (λ ys. done ++ ys) (sym (map-append f (take i pieces) (p ∷ [])) ∙ ap (map f) (sym upto))

-- what holds of all pieces holds of those of an entry
pub entry_all : (P : Placed → Type 0) (n : ℕ) (es : List Entry) (i : ℕ) (e : Entry) → i < length es → e ≡ get_or es i e → AllByRecursion P (pieces_from n es) → AllByRecursion (λ (p : Piece). P (placed (n + i) e.levels p)) e.pieces
entry_all P n [] i e lt at h = absurd (omega (arith, lt))
entry_all P n (f ∷ es) zero e lt at h =
    subst (λ (g : Entry). AllByRecursion (λ (p : Piece). P (placed (n + 0) g.levels p)) g.pieces) (sym at)
    (subst (λ (m : ℕ). AllByRecursion (λ (p : Piece). P (placed m f.levels p)) f.pieces) none_more
    (all_unmap P (placed n f.levels) f.pieces (all_front P (map (placed n f.levels) f.pieces) (pieces_from (suc n) es) h)))
  where
    none_more : n ≡ n + 0
    none_more = omega arith
entry_all P n (f ∷ es) (suc i) e lt at h =
    subst (λ (m : ℕ). AllByRecursion (λ (p : Piece). P (placed m e.levels p)) e.pieces) moved
    (entry_all P (suc n) es i e (omega (arith, lt)) at (all_rest P (map (placed n f.levels) f.pieces) (pieces_from (suc n) es) h))
  where
    moved : suc n + i ≡ n + suc i
    moved = omega arith

-- ---- lanes as they are made

module _ (queries : List TypedQuery) (tables : Tables) where
  pub lanes_push : (xs : List Placed) (x : Placed) (ss : List Sender) (s : Sender) → AreNewLanes queries tables xs ss → IsNewLane queries tables x s → AreNewLanes queries tables (xs ++ x ∷ []) (ss ++ s ∷ [])
  lanes_push [] x [] s h new = (new, tt)
  lanes_push [] x (r ∷ ss) s h new = absurd h
  lanes_push (y ∷ xs) x [] s h new = absurd h
  lanes_push (y ∷ xs) x (r ∷ ss) s h new = (h.0, lanes_push xs x ss s h.1 new)

  pub lanes_count : (xs : List Placed) (ss : List Sender) → AreNewLanes queries tables xs ss → length ss ≡ length xs
  lanes_count [] [] h = refl
  lanes_count [] (s ∷ ss) h = absurd h
  lanes_count (x ∷ xs) [] h = absurd h
  lanes_count (x ∷ xs) (s ∷ ss) h = ap suc (lanes_count xs ss h.1)

  lane_in_range : (x : Placed) (s : Sender) → CanMake queries x → IsNewLane queries tables x s → InRange s.lane
  lane_in_range x s can new = subst InRange (sym new.lane) (record { query = can.few; level = can.short; branch = can.sides })

  pub lanes_in_range : (xs : List Placed) (ss : List Sender) → AllByRecursion (CanMake queries) xs → AreNewLanes queries tables xs ss → AllByRecursion (λ (s : Sender). InRange s.lane) ss
  lanes_in_range [] [] can h = tt
  lanes_in_range [] (s ∷ ss) can h = absurd h
  lanes_in_range (x ∷ xs) [] can h = tt
  lanes_in_range (x ∷ xs) (s ∷ ss) can h = (lane_in_range x s can.0 h.0, lanes_in_range xs ss can.1 h.1)

  -- ---- at the start of a window

  start_of_new : (query : TypedQuery) (b level : ℕ) (coarser : Option Gate) (ops : List TOp) (sizes : List ℕ) (p : PipeState) → IsNewPipe query b level coarser ops tables.depth sizes p → at_start p set.empty ≡ p
  start_of_new query b level coarser ops sizes p new =
      ap (λ (ss : List Stage). record p { members = set.empty; prefix = record p.prefix { stages = ss; place = 0 } }) new.stages.fresh
      ∙ ap (λ (n : ℕ). record p { members = set.empty; prefix = record p.prefix { place = n } }) (sym new.unread)
      ∙ ap (λ (m : set.FinSet nat_cmp). record p { members = m }) (sym new.no_member)

  pub pipe_start : (x : Placed) (s : Sender) → IsNewLane queries tables x s → at_start s.pipe set.empty ≡ s.pipe
  pipe_start x s new = start_of_new _ _ _ _ _ _ s.pipe new.pipe

  lane_of_new : (x : Placed) (s : Sender) → IsNewLane queries tables x s → IsLaneOf queries tables x s
  lane_of_new x s new = record {
    lane = new.lane;
    pipe = subst (IsNewPipeOf queries tables x) (sym (pipe_start x s new)) new.pipe;
  }

  pub lanes_of_new : (xs : List Placed) (ss : List Sender) → AreNewLanes queries tables xs ss → AreLanesOf queries tables xs ss
  lanes_of_new [] [] h = tt
  lanes_of_new [] (s ∷ ss) h = absurd h
  lanes_of_new (x ∷ xs) [] h = absurd h
  lanes_of_new (x ∷ xs) (s ∷ ss) h = (lane_of_new x s h.0, lanes_of_new xs ss h.1)

  start_same : (x : Placed) (s : Sender) → IsNewLane queries tables x s → sender_start s set.empty ≡ s
  start_same x s new =
      ap (λ (p : PipeState). record s { pipe = p; given = 0; ended = false }) (pipe_start x s new)
      ∙ ap (λ (n : ℕ). record s { given = n; ended = false }) (sym new.none_given)
      ∙ ap (λ (b : Bool). record s { ended = b }) (sym new.no_end)

  pub starts_same : (xs : List Placed) (ss : List Sender) → AreNewLanes queries tables xs ss → map (λ s. sender_start s set.empty) ss ≡ ss
  starts_same [] [] h = refl
  starts_same [] (s ∷ ss) h = absurd h
  starts_same (x ∷ xs) [] h = absurd h
  starts_same (x ∷ xs) (s ∷ ss) h = ap (λ y. y ∷ map (λ r. sender_start r set.empty) ss) (start_same x s h.0) ∙ ap (λ ys. s ∷ ys) (starts_same xs ss h.1)

  -- ---- lanes stay those of their pieces

  lane_stays : (x : Placed) (s t : Sender) → Stays s t → IsLaneOf queries tables x s → IsLaneOf queries tables x t
  lane_stays x s t same h = record {
    lane = same.lane ∙ h.lane;
    pipe = subst (IsNewPipeOf queries tables x) (sym same.pipe) h.pipe;
  }

  -- a lane changed in place
  pub lanes_stay : (xs : List Placed) (ss : List Sender) (i : ℕ) (d s t : Sender) → s ≡ get_or ss i d → Stays s t → AreLanesOf queries tables xs ss → AreLanesOf queries tables xs (slice_set ss i t)
  lanes_stay [] [] i d s t at same h = tt
  lanes_stay [] (r ∷ ss) i d s t at same h = absurd h
  lanes_stay (x ∷ xs) [] i d s t at same h = absurd h
  lanes_stay (x ∷ xs) (r ∷ ss) zero d s t at same h = (lane_stays x r t (subst (λ y. Stays y t) at same) h.0, h.1)
  lanes_stay (x ∷ xs) (r ∷ ss) (suc i) d s t at same h = (h.0, lanes_stay xs ss i d s t at same h.1)

-- a packet leaves them
pub packet_stays : (s t : Sender) (tuple : List ℕ) → t ≡ sender_next s tuple → Stays s t
packet_stays s t tuple is = record {
  lane = ap (λ (r : Sender). r.lane) is;
  pipe = ap (λ (r : Sender). at_start r.pipe set.empty) is ∙ forgets s.pipe set.empty tuple;
}

-- so does the start of a window
pub start_stays : (s t : Sender) (kept : set.FinSet nat_cmp) → t ≡ sender_start s kept → Stays s t
start_stays s t kept is = record {
  lane = ap (λ (r : Sender). r.lane) is;
  pipe = ap (λ (r : Sender). at_start r.pipe set.empty) is ∙ starts_again s.pipe kept set.empty;
}
