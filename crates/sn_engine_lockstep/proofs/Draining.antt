-- A lane that is read out frame by frame.
use Rattle.std.proofs.Common.{◌≡◌, ℕ, zero, suc, ◌<◌, List, [], ◌∷◌, ◌++◌, drop, fold, length, Option, Some, None, slice_get, IfSome, refl, ap, sym, ◌∙◌, subst, append_assoc, arith}
use Rattle.std.specs.Option.{option_map_or}
use Rattle.sn_emit.specs.declared.sender.Sender.{Sender}
use Rattle.sn_emit.specs.Runs.{IsReadOut, ReadsOut}
use Rattle.sn_emit.specs.Senders.{frames_left}
use Rattle.sn_engine.specs.declared.intake.Intake.{Intake}
use Rattle.sn_engine.specs.Intakes.{after_frame}
use Rattle.sn_report.specs.Items.{Frame}
use Rattle.sn_engine_lockstep.specs.Work.{IsReadInto}
use Rattle.sn_base.proofs.Lists.{none_some}

-- these frames have been read out, and the engine took them
pub record HasRead (window lane : ℕ) (before now : List Sender) (lanes_before lanes_now : List Intake) : Type 0 where
  pub from : Sender
  pub to : Sender
  pub was : slice_get before lane ≡ Some from
  pub is : slice_get now lane ≡ Some to
  pub frames : List Frame
  pub goes : (rest : List Frame) (end : Sender) → ReadsOut window to rest end → ReadsOut window from (frames ++ rest) end
  pub came : lanes_now ≡ fold after_frame lanes_before frames

some_same : {X : Type 0} {a b : X} → Some a ≡ Some b → a ≡ b
some_same e = cc

fold_end : (lanes : List Intake) (frames : List Frame) (frame : Frame) → fold after_frame lanes (frames ++ frame ∷ []) ≡ after_frame (fold after_frame lanes frames) frame
fold_end lanes [] frame = refl
fold_end lanes (f ∷ frames) frame = fold_end (after_frame lanes f) frames frame

-- a place within a list holds something
pub record Holds {X : Type 0} (xs : List X) (i : ℕ) : Type 0 where
  pub at : X
  pub is : slice_get xs i ≡ Some at

pub holds : {X : Type 0} (xs : List X) (i : ℕ) → i < length xs → Holds xs i
holds [] i lt = absurd (omega (arith, lt))
holds (x ∷ xs) zero lt = record { at = x; is = refl }
holds (x ∷ xs) (suc i) lt = let h = holds xs i (omega (arith, lt)) in record { at = h.at; is = h.is }

pub begun : (window lane : ℕ) (senders : List Sender) (lanes : List Intake) → lane < length senders → HasRead window lane senders senders lanes lanes
begun window lane senders lanes lt =
    let h = holds senders lane lt in
    record { from = h.at; to = h.at; was = h.is; is = h.is; frames = []; goes = λ rest end h. h; came = refl }

-- what a clause says of two places that hold something
pub of_both : (P : Sender → Sender → Type 0) (a b : Option Sender) (s t : Sender) → a ≡ Some s → b ≡ Some t → IfSome a (λ s. IfSome b (λ t. P s t)) → P s t
of_both P None b s t e f h = absurd (none_some e)
of_both P (Some x) None s t e f h = absurd (none_some f)
of_both P (Some x) (Some y) s t e f h = subst (λ z. P z t) (some_same e) (subst (P x) (some_same f) h)

pub to_both : (P : Sender → Sender → Type 0) (a b : Option Sender) (s t : Sender) → a ≡ Some s → b ≡ Some t → P s t → IfSome a (λ s. IfSome b (λ t. P s t))
to_both P a b s t e f h = subst (λ x. IfSome x (λ s. IfSome b (λ t. P s t))) (sym e) (subst (λ y. IfSome y (λ t. P s t)) (sym f) h)

module _ (window lane : ℕ) (before now after : List Sender) (lanes_before lanes_now lanes_after : List Intake) (h : HasRead window lane before now lanes_before lanes_now) where
  -- one frame more
  pub read_more : (frame : Frame) → length after ≡ length now → lane < length now → IfSome (slice_get now lane) (λ s. IfSome (slice_get after lane) (λ t. IsReadOut window s (Some frame) t))
      → lanes_after ≡ after_frame lanes_now frame → HasRead window lane before after lanes_before lanes_after
  read_more frame many lt read took =
      let next = holds after lane (omega (arith, many, lt)) in
      let step : IsReadOut window h.to (Some frame) next.at = of_both (λ s t. IsReadOut window s (Some frame) t) (slice_get now lane) (slice_get after lane) h.to next.at h.is next.is read in
      record {
        from = h.from;
        to = next.at;
        was = h.was;
        is = next.is;
        frames = h.frames ++ frame ∷ [];
        goes = λ rest end r. subst (λ fs. ReadsOut window h.from fs end) (sym (append_assoc h.frames (frame ∷ []) rest)) (h.goes (frame ∷ rest) end (next.at, step, r));
        came = took ∙ ap (λ ls. after_frame ls frame) h.came ∙ sym (fold_end lanes_before h.frames frame);
      }

  -- the last call gave none
  pub read_all : length after ≡ length now → lane < length now → IfSome (slice_get now lane) (λ s. IfSome (slice_get after lane) (λ t. IsReadOut window s None t))
      → lanes_after ≡ lanes_now → IfSome (slice_get before lane) (λ s. IfSome (slice_get after lane) (λ t. IsReadInto window s t lanes_before lanes_after))
  read_all many lt read same =
      let next = holds after lane (omega (arith, many, lt)) in
      let step : IsReadOut window h.to None next.at = of_both (λ s t. IsReadOut window s None t) (slice_get now lane) (slice_get after lane) h.to next.at h.is next.is read in
      to_both (λ s t. IsReadInto window s t lanes_before lanes_after) (slice_get before lane) (slice_get after lane) h.from next.at h.was next.is (record {
        frames = h.frames ++ [];
        read = h.goes [] next.at step;
        came = same ∙ h.came ∙ ap (fold after_frame lanes_before) (sym (no_more h.frames));
      })
    where
      no_more : (frames : List Frame) → frames ++ [] ≡ frames
      no_more [] = refl
      no_more (f ∷ frames) = ap (λ fs. f ∷ fs) (no_more frames)

  -- less is left after a frame
  pub less_left : (frame : Frame) → length after ≡ length now → lane < length now → IfSome (slice_get now lane) (λ s. IfSome (slice_get after lane) (λ t. IsReadOut window s (Some frame) t))
      → option_map_or (λ s. length (frames_left s window)) (slice_get after lane) 0 < option_map_or (λ s. length (frames_left s window)) (slice_get now lane) 0
  less_left frame many lt read =
      let next = holds after lane (omega (arith, many, lt)) in
      let step : IsReadOut window h.to (Some frame) next.at = of_both (λ s t. IsReadOut window s (Some frame) t) (slice_get now lane) (slice_get after lane) h.to next.at h.is next.is read in
      let left = λ (o : Option Sender). option_map_or (λ s. length (frames_left s window)) o 0 in
      let shorter : length (frames_left next.at window) < length (frames_left h.to window) = dropped (frames_left h.to window) (frames_left next.at window) step.first step.others in
      subst (λ n. n < left (slice_get now lane)) (sym (ap left next.is)) (subst (λ n. length (frames_left next.at window) < n) (sym (ap left h.is)) shorter)
    where
      dropped : (xs ys : List Frame) → Some frame ≡ slice_get xs 0 → ys ≡ drop 1 xs → length ys < length xs
      dropped [] ys e d = absurd (none_some (sym e))
      dropped (x ∷ xs) ys e d = subst (λ zs. length zs < length (x ∷ xs)) (sym d) (omega arith)
