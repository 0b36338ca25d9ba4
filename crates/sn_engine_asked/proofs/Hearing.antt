-- Lanes at work, one of them after a tuple or at its end, where the engine takes the rows of those alone that a later level asks for.
use Rattle.std.proofs.Common.{◌≡◌, ◌≢◌, ℕ, suc, ◌+◌, ◌<◌, ◌≤◌, List, [], ◌∷◌, ◌++◌, map, fold, length, Bool, true, false, cond, Option, Some, None, IfSome, slice_get, slice_set, refl, ap, sym, ◌∙◌, subst, append_assoc, append-nil, arith}
use Rattle.std.specs.List.{AllByRecursion}
use Rattle.std.specs.Option.{option_map_or}
use Rattle.sn_base.proofs.Lists.{index_within, map_both}
use Rattle.sn_emit.specs.Making.{CanMake}
use Rattle.sn_emit.specs.Plans.{Placed}
use Rattle.sn_emit.specs.Runs.{IsReadOut, ReadsOut}
use Rattle.sn_emit.specs.Senders.{frames_left, sender_next}
use Rattle.sn_emit.specs.declared.sender.Sender.{Sender}
use Rattle.sn_emit.specs.declared.tables.Tables.{Tables}
use Rattle.sn_engine.specs.Intakes.{after_frame}
use Rattle.sn_engine.specs.declared.intake.Intake.{Intake}
use Rattle.sn_engine_asked.specs.Asked.{AreHeard, AreHeardOf, IsHeardInto, after_heard, heard, is_asked}
use Rattle.sn_engine_asked.proofs.Heard.{heard_frames}
use Rattle.sn_engine_lockstep.proofs.Changes.{all_get}
use Rattle.sn_engine_lockstep.proofs.Draining.{HasRead, Holds, holds, less_left, of_both, to_both}
use Rattle.sn_engine_lockstep.proofs.Giving.{Ended, Given, end_one, ended_all, ended_none, give_one, given_all, given_none, of_some}
use Rattle.sn_engine_lockstep.specs.Work.{AreAtWork, Each, IsAtWork, IsReadInto, done, frames_given, intake_of, name_of}
use Rattle.sn_engine_lockstep.specs.Sources.{source_of}
use Rattle.sn_engine_lockstep.specs.declared.source.Source.{Source}
use Rattle.sn_plan_grammar.specs.declared.plan.Entry.{Entry}
use Rattle.sn_refine.specs.Steps.{Set}
use Rattle.sn_report.specs.Items.{Frame, Item}
use Rattle.sn_types.specs.Typed.{HasWidths, IsTyped}
use Rattle.sn_types.specs.declared.typed_query.TypedQuery.{TypedQuery}

-- ---- one lane that is read out

-- these frames have been read out, and the engine took of them what it is to
pub record HasHeard (entries : List Entry) (window lane : ℕ) (before now : List Sender) (lanes_before lanes_now : List Intake) : Type 0 where
  pub from : Sender
  pub to : Sender
  pub was : slice_get before lane ≡ Some from
  pub is : slice_get now lane ≡ Some to
  pub frames : List Frame
  pub goes : (rest : List Frame) (end : Sender) → ReadsOut window to rest end → ReadsOut window from (frames ++ rest) end
  pub came : lanes_now ≡ fold (after_heard entries) lanes_before frames

fold_end : (entries : List Entry) (lanes : List Intake) (frames : List Frame) (frame : Frame) → fold (after_heard entries) lanes (frames ++ frame ∷ []) ≡ after_heard entries (fold (after_heard entries) lanes frames) frame
fold_end entries lanes [] frame = refl
fold_end entries lanes (f ∷ frames) frame = fold_end entries (after_heard entries lanes f) frames frame

pub heard_none : (entries : List Entry) (window lane : ℕ) (senders : List Sender) (lanes : List Intake) → lane < length senders → HasHeard entries window lane senders senders lanes lanes
heard_none entries window lane senders lanes lt =
    let h = holds senders lane lt in
    record { from = h.at; to = h.at; was = h.is; is = h.is; frames = []; goes = λ rest end r. r; came = refl }

module _ (entries : List Entry) (window lane : ℕ) (before now after : List Sender) (lanes_before lanes_now : List Intake) (h : HasHeard entries window lane before now lanes_before lanes_now) where
  -- one frame more
  pub heard_more : (lanes_after : List Intake) (frame : Frame) → length after ≡ length now → lane < length now → IfSome (slice_get now lane) (λ s. IfSome (slice_get after lane) (λ t. IsReadOut window s (Some frame) t))
      → lanes_after ≡ after_heard entries lanes_now frame → HasHeard entries window lane before after lanes_before lanes_after
  heard_more lanes_after frame many lt read took =
      let next = holds after lane (omega (arith, many, lt)) in
      let step : IsReadOut window h.to (Some frame) next.at = of_both (λ s t. IsReadOut window s (Some frame) t) (slice_get now lane) (slice_get after lane) h.to next.at h.is next.is read in
      record {
        from = h.from;
        to = next.at;
        was = h.was;
        is = next.is;
        frames = h.frames ++ frame ∷ [];
        goes = λ rest end r. subst (λ fs. ReadsOut window h.from fs end) (sym (append_assoc h.frames (frame ∷ []) rest)) (h.goes (frame ∷ rest) end (next.at, step, r));
        came = took ∙ ap (λ ls. after_heard entries ls frame) h.came ∙ sym (fold_end entries lanes_before h.frames frame);
      }

  -- the last call gave none
  pub heard_all : length after ≡ length now → lane < length now → IfSome (slice_get now lane) (λ s. IfSome (slice_get after lane) (λ t. IsReadOut window s None t))
      → IfSome (slice_get before lane) (λ s. IfSome (slice_get after lane) (λ t. IsHeardInto entries window s t lanes_before lanes_now))
  heard_all many lt read =
      let next = holds after lane (omega (arith, many, lt)) in
      let step : IsReadOut window h.to None next.at = of_both (λ s t. IsReadOut window s None t) (slice_get now lane) (slice_get after lane) h.to next.at h.is next.is read in
      to_both (λ s t. IsHeardInto entries window s t lanes_before lanes_now) (slice_get before lane) (slice_get after lane) h.from next.at h.was next.is (record {
        frames = h.frames ++ [];
        read = h.goes [] next.at step;
        came = h.came ∙ ap (fold (after_heard entries) lanes_before) (sym (append-nil h.frames));
      })

  -- less is left after a frame
  pub less_after : (frame : Frame) → length after ≡ length now → lane < length now → IfSome (slice_get now lane) (λ s. IfSome (slice_get after lane) (λ t. IsReadOut window s (Some frame) t))
      → option_map_or (λ s. length (frames_left s window)) (slice_get after lane) 0 < option_map_or (λ s. length (frames_left s window)) (slice_get now lane) 0
  less_after frame many lt read = less_left window lane before now after lanes_before (fold after_frame lanes_before h.frames) lanes_now run frame many lt read
    where
      run : HasRead window lane before now lanes_before (fold after_frame lanes_before h.frames)
      run = record { from = h.from; to = h.to; was = h.was; is = h.is; frames = h.frames; goes = h.goes; came = refl }

-- ---- one lane more

abbrev pub HeardGiven : List Entry → List TypedQuery → Tables → List Placed → (Source → Set) → List (List ℕ) → List ℕ → ℕ → List Sender → List Intake → Type 0
HeardGiven entries queries tables pieces kept tuples tuple i senders intakes = AreHeardOf entries (Each (Given queries tables kept tuples tuple i) pieces senders) intakes

abbrev pub HeardEnded : List Entry → List TypedQuery → Tables → List Placed → (Source → Set) → List (List ℕ) → ℕ → ℕ → List Sender → List Intake → Type 0
HeardEnded entries queries tables pieces kept tuples window i senders intakes = AreHeardOf entries (Each (Ended queries tables kept tuples window i) pieces senders) intakes

to_some : {X : Type 0} (P : X → Type 0) (o : Option X) (x : X) → o ≡ Some x → P x → IfSome o P
to_some P o x e h = subst (λ y. IfSome y P) (sym e) h

-- has the tuple
pub hear_one : (entries : List Entry) (queries : List TypedQuery) (tables : Tables) (pieces : List Placed) (kept : Source → Set) (tuples : List (List ℕ)) (tuple : List ℕ) (i : ℕ) (ss ts : List Sender) (ls ms : List Intake) → i < length ss
    → IfSome (slice_get ss i) (λ s. ts ≡ slice_set ss i (sender_next s tuple))
    → IfSome (slice_get ss i) (λ s. ms ≡ fold (after_heard entries) ls (frames_given tuple s))
    → HeardGiven entries queries tables pieces kept tuples tuple i ss ls → HeardGiven entries queries tables pieces kept tuples tuple (i + 1) ts ms
hear_one entries queries tables pieces kept tuples tuple i ss ts ls ms lt sent came h =
    let hs : Holds ss i = holds ss i lt in
    let fs : List Frame = frames_given tuple hs.at in
    let all : List Intake = fold after_frame h.whole fs in
    record {
      whole = all;
      is = give_one queries tables pieces kept tuples tuple i ss ts h.whole all lt sent (to_some (λ s. all ≡ fold after_frame h.whole (frames_given tuple s)) (slice_get ss i) hs.at hs.is refl) h.is;
      heard = of_some (λ s. ms ≡ fold (after_heard entries) ls (frames_given tuple s)) (slice_get ss i) hs.at hs.is came
          ∙ ap (λ zs. fold (after_heard entries) zs fs) h.heard ∙ sym (heard_frames entries h.whole fs);
    }

-- ends the window
module _ (entries : List Entry) (typed_for : ℕ) (tables : Tables) (window : ℕ) (queries : List TypedQuery) (pieces : List Placed) (kept : Source → Set) (tuples : List (List ℕ)) (i : ℕ) (ss ts : List Sender) (ls ms : List Intake)
    (typed : ∥ IsTyped typed_for queries ∥₁) (can : AllByRecursion (CanMake queries) pieces) (widths : AllByRecursion HasWidths tuples) (lt : i < length ss) (many : length ts ≡ length ss)
    (read : IfSome (slice_get ss i) (λ s. IfSome (slice_get ts i) (λ t. IsHeardInto entries window s t ls ms))) (others : (j : ℕ) → j ≢ i → slice_get ts j ≡ slice_get ss j)
    (h : HeardEnded entries queries tables pieces kept tuples window i ss ls) where
  pub hear_end : HeardEnded entries queries tables pieces kept tuples window (i + 1) ts ms
  hear_end =
      let hs : Holds ss i = holds ss i lt in
      let ht : Holds ts i = holds ts i (omega (arith, lt, many)) in
      let run : IsHeardInto entries window hs.at ht.at ls ms = of_both (λ s t. IsHeardInto entries window s t ls ms) (slice_get ss i) (slice_get ts i) hs.at ht.at hs.is ht.is read in
      let all : List Intake = fold after_frame h.whole run.frames in
      record {
        whole = all;
        is = end_one typed_for tables window queries pieces kept tuples i ss ts h.whole all typed can widths lt many
            (to_both (λ s t. IsReadInto window s t h.whole all) (slice_get ss i) (slice_get ts i) hs.at ht.at hs.is ht.is (record { frames = run.frames; read = run.read; came = refl })) others h.is;
        heard = run.came ∙ ap (λ zs. fold (after_heard entries) zs run.frames) h.heard ∙ sym (heard_frames entries h.whole run.frames);
      }

-- ---- all lanes

pub hear_first : (entries : List Entry) (queries : List TypedQuery) (tables : Tables) (pieces : List Placed) (kept : Source → Set) (tuples : List (List ℕ)) (tuple : List ℕ) (ss : List Sender) (ls : List Intake)
    → AreHeard entries queries tables pieces kept tuples ss ls → HeardGiven entries queries tables pieces kept tuples tuple 0 ss ls
hear_first entries queries tables pieces kept tuples tuple ss ls h = record { whole = h.whole; is = given_none queries tables pieces kept tuples tuple ss h.whole h.is; heard = h.heard }

pub hear_last : (entries : List Entry) (queries : List TypedQuery) (tables : Tables) (pieces : List Placed) (kept : Source → Set) (tuples : List (List ℕ)) (tuple : List ℕ) (i : ℕ) (ss : List Sender) (ls : List Intake) → length ss ≤ i
    → HeardGiven entries queries tables pieces kept tuples tuple i ss ls → AreHeard entries queries tables pieces kept (tuples ++ tuple ∷ []) ss ls
hear_last entries queries tables pieces kept tuples tuple i ss ls all h = record { whole = h.whole; is = given_all queries tables pieces kept tuples tuple i ss h.whole all h.is; heard = h.heard }

pub end_first : (entries : List Entry) (queries : List TypedQuery) (tables : Tables) (window : ℕ) (pieces : List Placed) (kept : Source → Set) (tuples : List (List ℕ)) (ss : List Sender) (ls : List Intake)
    → AreHeard entries queries tables pieces kept tuples ss ls → HeardEnded entries queries tables pieces kept tuples window 0 ss ls
end_first entries queries tables window pieces kept tuples ss ls h = record { whole = h.whole; is = ended_none queries tables window pieces kept tuples ss h.whole h.is; heard = h.heard }

pub end_last : (entries : List Entry) (queries : List TypedQuery) (tables : Tables) (window : ℕ) (pieces : List Placed) (kept : Source → Set) (tuples : List (List ℕ)) (i : ℕ) (ss : List Sender) (ls : List Intake) → length ss ≤ i
    → HeardEnded entries queries tables pieces kept tuples window i ss ls → ls ≡ map (λ x. heard entries (done queries tables kept tuples window x)) pieces
end_last entries queries tables window pieces kept tuples i ss ls all h =
    h.heard ∙ ap (map (heard entries)) (ended_all queries tables window pieces kept tuples i ss h.whole all h.is) ∙ map_both (done queries tables kept tuples window) (heard entries) pieces

-- ---- before the first tuple

-- lanes that admit the same are at work alike
pub work_alike : (queries : List TypedQuery) (tables : Tables) (pieces : List Placed) (kept other : Source → Set) (tuples : List (List ℕ)) (ss : List Sender) (ls : List Intake) → AllByRecursion (λ (x : Placed). kept (source_of x) ≡ other (source_of x)) pieces
    → AreAtWork queries tables pieces kept tuples ss ls → AreAtWork queries tables pieces other tuples ss ls
work_alike queries tables pieces kept other tuples ss ls same w = record {
  apart = w.apart;
  given = w.given;
  taken = w.taken;
  each = λ j x s l p q r. subst (λ (members : Set). IsAtWork queries tables x members tuples s l) (all_get (λ (y : Placed). kept (source_of y) ≡ other (source_of y)) pieces j x same p) (w.each j x s l p q r);
}

both : {X : Type 0} (b : Bool) (x : X) → cond b x x ≡ x
both true x = refl
both false x = refl

all_held : (entries : List Entry) (ls : List Intake) → ((j : ℕ) (l : Intake) → slice_get ls j ≡ Some l → heard entries l ≡ l) → ls ≡ map (heard entries) ls
all_held entries [] h = refl
all_held entries (l ∷ ls) h = ap (λ m. m ∷ ls) (sym (h 0 l refl)) ∙ ap (λ ms. heard entries l ∷ ms) (all_held entries ls (λ j m at. h (suc j) m at))

-- of lanes that are empty nothing is left out
pub first_heard : (entries : List Entry) (queries : List TypedQuery) (tables : Tables) (pieces : List Placed) (kept : Source → Set) (ss : List Sender) (ls : List Intake) → AreAtWork queries tables pieces kept [] ss ls → AreHeard entries queries tables pieces kept [] ss ls
first_heard entries queries tables pieces kept ss ls w = record { whole = ls; is = w; heard = all_held entries ls held }
  where
    held : (j : ℕ) (l : Intake) → slice_get ls j ≡ Some l → heard entries l ≡ l
    held j l at =
        let within : j < length ls = index_within ls j l at in
        let hx : Holds pieces j = holds pieces j (omega (arith, within, w.taken)) in
        let hs : Holds ss j = holds ss j (omega (arith, within, w.taken, w.given)) in
        let is : l ≡ intake_of hx.at = (w.each j hx.at hs.at l hx.is hs.is at).intake in
        subst (λ (m : Intake). heard entries m ≡ m) (sym is) (ap (λ (items : List Item). record (intake_of hx.at) { items = items }) (both (is_asked entries (name_of hx.at)) []))
