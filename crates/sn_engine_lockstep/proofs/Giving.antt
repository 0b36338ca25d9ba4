-- All lanes of a window, one of them after a tuple or at its end.
use Rattle.std.proofs.Common.{◌≡◌, ◌≢◌, ℕ, suc, ◌+◌, ◌<◌, ◌≤◌, List, [], ◌∷◌, ◌++◌, ◌==◌, map, fold, length, Option, Some, IfSome, slice_get, slice_set, refl, ap, sym, ◌∙◌, subst, arith, eq-eqb}
use Rattle.std.specs.List.{AllByRecursion}
use Rattle.std.specs.Option.{option_map, option_to_list}
use Rattle.std.proofs.lemmas.Bool.{false≢true}
use Rattle.sn_base.proofs.Lists.{by_test, nat_same, some_same, index_within}
use Rattle.sn_base.specs.declared.lane.Lane.{Lane}
use Rattle.sn_emit.specs.declared.sender.Sender.{Sender}
use Rattle.sn_emit.specs.Making.{CanMake}
use Rattle.sn_emit.specs.Plans.{Placed}
use Rattle.sn_emit.specs.Senders.{packet_frames, row_frame, sender_next, sender_start}
use Rattle.sn_emit.specs.declared.tables.Tables.{Tables}
use Rattle.sn_engine.specs.declared.intake.Intake.{Intake}
use Rattle.sn_engine.specs.Intakes.{after_frame, is_lane}
use Rattle.sn_pipe.specs.Pipes.{item_of}
use Rattle.sn_types.specs.declared.typed_query.TypedQuery.{TypedQuery}
use Rattle.sn_types.specs.Typed.{HasWidths, IsTyped}
use Rattle.sn_engine_lockstep.specs.declared.source.Source.{Source}
use Rattle.sn_refine.specs.Steps.{Set as Prefixes}
use Rattle.sn_engine_lockstep.specs.Sources.{source_of}
use Rattle.sn_engine_lockstep.specs.Work.{Each, IsAtWork, IsReadInto, done, intake_of, taken}
use Rattle.sn_engine_lockstep.proofs.Changes.{AreNamed, all_get, frames_at, same_names, set_here, set_length, set_there}
use Rattle.sn_engine_lockstep.proofs.Draining.{Holds, holds, of_both}
use Rattle.sn_engine_lockstep.proofs.OneLane.{more_own, read_own, work_done, work_more}
use Rattle.sn_base.proofs.Tests.{by_order}

abbrev pub AtWork : List TypedQuery → Tables → (Source → Prefixes) → List (List ℕ) → Placed → Sender → Intake → Type 0
AtWork queries tables kept tuples x s l = IsAtWork queries tables x (kept (source_of x)) tuples s l

-- the lanes before this number had the tuple
abbrev pub Given : List TypedQuery → Tables → (Source → Prefixes) → List (List ℕ) → List ℕ → ℕ → ℕ → Placed → Sender → Intake → Type 0
Given queries tables kept tuples tuple i j x s l = (j < i → AtWork queries tables kept (tuples ++ tuple ∷ []) x s l) × (i ≤ j → AtWork queries tables kept tuples x s l)

-- the lanes before this number have ended the window
abbrev pub Ended : List TypedQuery → Tables → (Source → Prefixes) → List (List ℕ) → ℕ → ℕ → ℕ → Placed → Sender → Intake → Type 0
Ended queries tables kept tuples window i j x s l = (j < i → l ≡ done queries tables kept tuples window x) × (i ≤ j → AtWork queries tables kept tuples x s l)

-- the engine's lanes have the names of the pieces
named_by : (P : ℕ → Placed → Sender → Intake → Type 0) (pieces : List Placed) (senders : List Sender) (intakes : List Intake) (from : ℕ) → length senders ≡ length pieces → length intakes ≡ length pieces
    → ((j : ℕ) (x : Placed) (s : Sender) (l : Intake) → slice_get pieces j ≡ Some x → slice_get senders j ≡ Some s → slice_get intakes j ≡ Some l → P (from + j) x s l)
    → ((j : ℕ) (x : Placed) (s : Sender) (l : Intake) → P j x s l → (n : Lane) → is_lane n l ≡ is_lane n (intake_of x)) → AreNamed pieces intakes
named_by P [] [] [] from a b each names = tt
named_by P [] (s ∷ ss) ls from a b each names = absurd (omega (arith, a))
named_by P [] [] (l ∷ ls) from a b each names = absurd (omega (arith, b))
named_by P (x ∷ xs) [] ls from a b each names = absurd (omega (arith, a))
named_by P (x ∷ xs) (s ∷ ss) [] from a b each names = absurd (omega (arith, b))
named_by P (x ∷ xs) (s ∷ ss) (l ∷ ls) from a b each names = (
  names (from + 0) x s l (each 0 x s l refl refl refl),
  named_by P xs ss ls (from + 1) (omega (arith, a)) (omega (arith, b)) (λ j y t m p q r. subst (λ k. P k y t m) (moved j) (each (suc j) y t m p q r)) names,
)
  where
    moved : (j : ℕ) → from + suc j ≡ from + 1 + j
    moved j = omega arith

pub each_named : (P : ℕ → Placed → Sender → Intake → Type 0) (pieces : List Placed) (senders : List Sender) (intakes : List Intake) → Each P pieces senders intakes
    → ((j : ℕ) (x : Placed) (s : Sender) (l : Intake) → P j x s l → (n : Lane) → is_lane n l ≡ is_lane n (intake_of x)) → AreNamed pieces intakes
each_named P pieces senders intakes e names = named_by P pieces senders intakes 0 e.given e.taken (λ j x s l p q r. subst (λ k. P k x s l) (from_none j) (e.each j x s l p q r)) names
  where
    from_none : (j : ℕ) → j ≡ 0 + j
    from_none j = omega arith

work_named : (queries : List TypedQuery) (tables : Tables) (kept : Source → Prefixes) (tuples : List (List ℕ)) (x : Placed) (s : Sender) (l : Intake) → AtWork queries tables kept tuples x s l → (n : Lane) → is_lane n l ≡ is_lane n (intake_of x)
work_named queries tables kept tuples x s l w n =
    ap (is_lane n) w.intake ∙ same_names n (intake_of x) (packet_frames (sender_start w.base (kept (source_of x))) tuples)

given_named : (queries : List TypedQuery) (tables : Tables) (kept : Source → Prefixes) (tuples : List (List ℕ)) (tuple : List ℕ) (i j : ℕ) (x : Placed) (s : Sender) (l : Intake) → Given queries tables kept tuples tuple i j x s l
    → (n : Lane) → is_lane n l ≡ is_lane n (intake_of x)
given_named queries tables kept tuples tuple i j x s l g n =
    by_order j i (λ lt. work_named queries tables kept (tuples ++ tuple ∷ []) x s l (g.0 lt) n) (λ le. work_named queries tables kept tuples x s l (g.1 le) n)

ended_named : (queries : List TypedQuery) (tables : Tables) (kept : Source → Prefixes) (tuples : List (List ℕ)) (window i j : ℕ) (x : Placed) (s : Sender) (l : Intake) → Ended queries tables kept tuples window i j x s l
    → (n : Lane) → is_lane n l ≡ is_lane n (intake_of x)
ended_named queries tables kept tuples window i j x s l g n =
    by_order j i (λ lt. ap (is_lane n) (g.0 lt)) (λ le. work_named queries tables kept tuples x s l (g.1 le) n)

pub by_same : {G : Type 0} (j i : ℕ) → (j ≡ i → G) → ((j ≡ i → ⊥) → G) → G
by_same j i same other = by_test (j == i) (λ is. same (nat_same j i is)) (λ isnt. other (λ e. false≢true (sym isnt ∙ eq-eqb j i e)))

pub of_some : {X : Type 0} (P : X → Type 0) (o : Option X) (x : X) → o ≡ Some x → IfSome o P → P x
of_some P o x e h = subst (λ y. IfSome y P) e h

-- a tuple is given to one lane more
pub give_one : (queries : List TypedQuery) (tables : Tables) (pieces : List Placed) (kept : Source → Prefixes) (tuples : List (List ℕ)) (tuple : List ℕ) (i : ℕ) (ss ts : List Sender) (ls ms : List Intake) → i < length ss
    → IfSome (slice_get ss i) (λ s. ts ≡ slice_set ss i (sender_next s tuple))
    → IfSome (slice_get ss i) (λ s. ms ≡ fold after_frame ls (option_to_list (option_map (row_frame s.lane) (item_of s.pipe tuple))))
    → Each (Given queries tables kept tuples tuple i) pieces ss ls → Each (Given queries tables kept tuples tuple (i + 1)) pieces ts ms
give_one queries tables pieces kept tuples tuple i ss ts ls ms lt sent came e =
    let hs : Holds ss i = holds ss i lt in
    let hx : Holds pieces i = holds pieces i (omega (arith, lt, e.given)) in
    let hl : Holds ls i = holds ls i (omega (arith, lt, e.given, e.taken)) in
    let s = hs.at in
    let x = hx.at in
    let l = hl.at in
    let frames = option_to_list (option_map (row_frame s.lane) (item_of s.pipe tuple)) in
    let work : AtWork queries tables kept tuples x s l = (e.each i x s l hx.is hs.is hl.is).1 (omega arith) in
    let named = each_named (Given queries tables kept tuples tuple i) pieces ss ls e (given_named queries tables kept tuples tuple i) in
    let ts_are : ts ≡ slice_set ss i (sender_next s tuple) = of_some (λ r. ts ≡ slice_set ss i (sender_next r tuple)) (slice_get ss i) s hs.is sent in
    let ms_are : ms ≡ slice_set ls i (fold taken l frames) =
    of_some (λ r. ms ≡ fold after_frame ls (option_to_list (option_map (row_frame r.lane) (item_of r.pipe tuple)))) (slice_get ss i) s hs.is came
    ∙ frames_at pieces ls i x l frames e.apart named hx.is hl.is (more_own queries tables x (kept (source_of x)) tuples s l work tuple) in
    let here : AtWork queries tables kept (tuples ++ tuple ∷ []) x (sender_next s tuple) (fold taken l frames) = work_more queries tables x (kept (source_of x)) tuples s l work tuple in
    record {
      apart = e.apart;
      given = ap length ts_are ∙ set_length ss i (sender_next s tuple) ∙ e.given;
      taken = ap length ms_are ∙ set_length ls i (fold taken l frames) ∙ e.taken;
      each = λ j y t m p q r.
          by_same j i
          (λ same.
          let y_is : x ≡ y = some_same x y (sym hx.is ∙ sym (ap (slice_get pieces) same) ∙ p) in
          let t_is : sender_next s tuple ≡ t = some_same (sender_next s tuple) t (sym (set_here ss i s (sender_next s tuple) hs.is) ∙ sym (ap (slice_get (slice_set ss i (sender_next s tuple))) same) ∙ ap (λ zs. slice_get zs j) (sym ts_are) ∙ q) in
          let m_is : fold taken l frames ≡ m = some_same (fold taken l frames) m (sym (set_here ls i l (fold taken l frames) hl.is) ∙ sym (ap (slice_get (slice_set ls i (fold taken l frames))) same) ∙ ap (λ zs. slice_get zs j) (sym ms_are) ∙ r) in (
            λ less. subst (λ z. AtWork queries tables kept (tuples ++ tuple ∷ []) z t m) y_is (subst (λ z. AtWork queries tables kept (tuples ++ tuple ∷ []) x z m) t_is (subst (λ z. AtWork queries tables kept (tuples ++ tuple ∷ []) x (sender_next s tuple) z) m_is here)),
            λ more. absurd (omega (arith, same, more)),
          ))
          (λ other.
          let old = e.each j y t m p (sym (set_there ss i j (sender_next s tuple) other) ∙ ap (λ zs. slice_get zs j) (sym ts_are) ∙ q) (sym (set_there ls i j (fold taken l frames) other) ∙ ap (λ zs. slice_get zs j) (sym ms_are) ∙ r) in
          (λ less. old.0 (below j other less), λ more. old.1 (omega (arith, more))));
    }
  where
    below : (j : ℕ) → (j ≡ i → ⊥) → j < i + 1 → j < i
    below j other less = by_order j i (λ lt. lt) (λ le. absurd (other (omega (arith, le, less))))

-- one lane more ends the window
module _ (typed_for : ℕ) (tables : Tables) (window : ℕ) (queries : List TypedQuery) (pieces : List Placed) (kept : Source → Prefixes) (tuples : List (List ℕ)) (i : ℕ) (ss ts : List Sender) (ls ms : List Intake)
    (typed : ∥ IsTyped typed_for queries ∥₁) (can : AllByRecursion (CanMake queries) pieces) (widths : AllByRecursion HasWidths tuples) (lt : i < length ss) (many : length ts ≡ length ss)
    (read : IfSome (slice_get ss i) (λ s. IfSome (slice_get ts i) (λ t. IsReadInto window s t ls ms))) (others : (j : ℕ) → j ≢ i → slice_get ts j ≡ slice_get ss j)
    (e : Each (Ended queries tables kept tuples window i) pieces ss ls) where
  pub end_one : Each (Ended queries tables kept tuples window (i + 1)) pieces ts ms
  end_one =
      let hs : Holds ss i = holds ss i lt in
      let ht : Holds ts i = holds ts i (omega (arith, lt, many)) in
      let hx : Holds pieces i = holds pieces i (omega (arith, lt, e.given)) in
      let hl : Holds ls i = holds ls i (omega (arith, lt, e.given, e.taken)) in
      let s = hs.at in
      let x = hx.at in
      let l = hl.at in
      let work : AtWork queries tables kept tuples x s l = (e.each i x s l hx.is hs.is hl.is).1 (omega arith) in
      let named = each_named (Ended queries tables kept tuples window i) pieces ss ls e (ended_named queries tables kept tuples window i) in
      let run : IsReadInto window s ht.at ls ms = of_both (λ s t. IsReadInto window s t ls ms) (slice_get ss i) (slice_get ts i) s ht.at hs.is ht.is read in
      let mine = all_get (CanMake queries) pieces i x can hx.is in
      let ms_are : ms ≡ slice_set ls i (fold taken l run.frames) =
      run.came ∙ frames_at pieces ls i x l run.frames e.apart named hx.is hl.is (read_own typed_for window tables queries x kept tuples s ht.at l run.frames typed mine widths work run.read) in
      let here : fold taken l run.frames ≡ done queries tables kept tuples window x = work_done typed_for window tables queries x kept tuples s ht.at l run.frames typed mine widths work run.read in
      record {
        apart = e.apart;
        given = many ∙ e.given;
        taken = ap length ms_are ∙ set_length ls i (fold taken l run.frames) ∙ e.taken;
        each = λ j y t m p q r.
            by_same j i
            (λ same.
            let y_is : x ≡ y = some_same x y (sym hx.is ∙ sym (ap (slice_get pieces) same) ∙ p) in
            let m_is : fold taken l run.frames ≡ m = some_same (fold taken l run.frames) m (sym (set_here ls i l (fold taken l run.frames) hl.is) ∙ sym (ap (slice_get (slice_set ls i (fold taken l run.frames))) same) ∙ ap (λ zs. slice_get zs j) (sym ms_are) ∙ r) in
            (λ less. sym m_is ∙ here ∙ ap (done queries tables kept tuples window) y_is, λ more. absurd (omega (arith, same, more))))
            (λ other.
            let old = e.each j y t m p (sym (others j other) ∙ q) (sym (set_there ls i j (fold taken l run.frames) other) ∙ ap (λ zs. slice_get zs j) (sym ms_are) ∙ r) in
            (λ less. old.0 (below j other less), λ more. old.1 (omega (arith, more))));
      }
    where
      below : (j : ℕ) → (j ≡ i → ⊥) → j < i + 1 → j < i
      below j other less = by_order j i (λ lt. lt) (λ le. absurd (other (omega (arith, le, less))))

-- ---- all lanes at the end

all_done : (f : Placed → Intake) (xs : List Placed) (ss : List Sender) (ls : List Intake) → length ss ≡ length xs → length ls ≡ length xs
    → ((j : ℕ) (x : Placed) (s : Sender) (l : Intake) → slice_get xs j ≡ Some x → slice_get ss j ≡ Some s → slice_get ls j ≡ Some l → l ≡ f x) → ls ≡ map f xs
all_done f [] [] [] a b each = refl
all_done f [] (s ∷ ss) ls a b each = absurd (omega (arith, a))
all_done f [] [] (l ∷ ls) a b each = absurd (omega (arith, b))
all_done f (x ∷ xs) [] ls a b each = absurd (omega (arith, a))
all_done f (x ∷ xs) (s ∷ ss) [] a b each = absurd (omega (arith, b))
all_done f (x ∷ xs) (s ∷ ss) (l ∷ ls) a b each =
    ap (λ m. m ∷ ls) (each 0 x s l refl refl refl)
    ∙ ap (λ ms. f x ∷ ms) (all_done f xs ss ls (omega (arith, a)) (omega (arith, b)) (λ j y t m p q r. each (suc j) y t m p q r))

pub ended_all : (queries : List TypedQuery) (tables : Tables) (window : ℕ) (pieces : List Placed) (kept : Source → Prefixes) (tuples : List (List ℕ)) (i : ℕ) (ss : List Sender) (ls : List Intake) → length ss ≤ i
    → Each (Ended queries tables kept tuples window i) pieces ss ls → ls ≡ map (done queries tables kept tuples window) pieces
ended_all queries tables window pieces kept tuples i ss ls all e =
    all_done (done queries tables kept tuples window) pieces ss ls e.given e.taken (λ j x s l p q r. (e.each j x s l p q r).0 (let w = index_within ss j s q in omega (arith, w, all)))

pub given_all : (queries : List TypedQuery) (tables : Tables) (pieces : List Placed) (kept : Source → Prefixes) (tuples : List (List ℕ)) (tuple : List ℕ) (i : ℕ) (ss : List Sender) (ls : List Intake) → length ss ≤ i
    → Each (Given queries tables kept tuples tuple i) pieces ss ls → Each (λ j. AtWork queries tables kept (tuples ++ tuple ∷ [])) pieces ss ls
given_all queries tables pieces kept tuples tuple i ss ls all e = record {
  apart = e.apart;
  given = e.given;
  taken = e.taken;
  each = λ j x s l p q r. (e.each j x s l p q r).0 (let w = index_within ss j s q in omega (arith, w, all));
}

pub given_none : (queries : List TypedQuery) (tables : Tables) (pieces : List Placed) (kept : Source → Prefixes) (tuples : List (List ℕ)) (tuple : List ℕ) (ss : List Sender) (ls : List Intake)
    → Each (λ j. AtWork queries tables kept tuples) pieces ss ls → Each (Given queries tables kept tuples tuple 0) pieces ss ls
given_none queries tables pieces kept tuples tuple ss ls e = record {
  apart = e.apart;
  given = e.given;
  taken = e.taken;
  each = λ j x s l p q r. (λ less. absurd (omega (arith, less)), λ more. e.each j x s l p q r);
}

pub ended_none : (queries : List TypedQuery) (tables : Tables) (window : ℕ) (pieces : List Placed) (kept : Source → Prefixes) (tuples : List (List ℕ)) (ss : List Sender) (ls : List Intake)
    → Each (λ j. AtWork queries tables kept tuples) pieces ss ls → Each (Ended queries tables kept tuples window 0) pieces ss ls
ended_none queries tables window pieces kept tuples ss ls e = record {
  apart = e.apart;
  given = e.given;
  taken = e.taken;
  each = λ j x s l p q r. (λ less. absurd (omega (arith, less)), λ more. e.each j x s l p q r);
}
