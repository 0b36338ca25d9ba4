-- What is reported of frames that are sent lane by lane.
use Rattle.std.proofs.Common.{◌≡◌, ◌≢◌, ℕ, ◌+◌, ◌<◌, ◌≤◌, List, [], ◌∷◌, ◌++◌, take, drop, length, Some, None, slice_get, slice_set, IfSome, refl, ap, sym, ◌∙◌, append_assoc, append-nil, subst, arith}
use Rattle.std.specs.List.{flat_map}
use Rattle.std.proofs.lemmas.Grind.{flat_map-append}
use Rattle.std.proofs.lemmas.List.{take_all}
use Rattle.sn_base.proofs.Lists.{none_some, some_same, take_one}
use Rattle.sn_engine_lockstep.proofs.Changes.{set_there}
use Rattle.sn_engine_lockstep.proofs.Draining.{Holds, holds, of_both}
use Rattle.sn_engine_lockstep.proofs.Giving.{of_some}
use Rattle.sn_emit.specs.declared.sender.Sender.{Sender}
use Rattle.sn_emit.specs.Runs.{IsReadOut}
use Rattle.sn_emit.specs.Senders.{frames_left}
use Rattle.sn_report.specs.Items.{Frame}

-- ---- one more

-- what is reported of what one more gives stands after what is reported of the others
pub one_after : {X : Type 0} (word : Frame → List ℕ) (f : X → List Frame) (xs : List X) (x : X) → flat_map word (flat_map f (xs ++ x ∷ [])) ≡ flat_map word (flat_map f xs) ++ flat_map word (f x)
one_after word f xs x =
    ap (flat_map word) (flat_map-append f xs (x ∷ []) ∙ ap (λ fs. flat_map f xs ++ fs) (append-nil (f x)))
    ∙ flat_map-append word (flat_map f xs) (f x)

module _ (word : Frame → List ℕ) (f : Sender → List Frame) (all : List Sender) where
  abbrev sent_by : ℕ → List ℕ
  sent_by i = flat_map word (flat_map f (take i all))

  -- one lane more has sent
  pub sent_more : (now : List Sender) (i : ℕ) (start before after : List ℕ) → i < length all → slice_get now i ≡ slice_get all i → before ≡ start ++ sent_by i
      → IfSome (slice_get now i) (λ s. after ≡ before ++ flat_map word (f s)) → after ≡ start ++ sent_by (i + 1)
  sent_more now i start before after lt same h sent =
      let hs : Holds all i = holds all i lt in
      of_some (λ s. after ≡ before ++ flat_map word (f s)) (slice_get now i) hs.at (same ∙ hs.is) sent
      ∙ ap (λ reported. reported ++ flat_map word (f hs.at)) h
      ∙ append_assoc start (sent_by i) (flat_map word (f hs.at))
      ∙ ap (λ reported. start ++ reported) (sym (one_after word f (take i all) hs.at) ∙ ap (λ ss. flat_map word (flat_map f ss)) (sym (take_one all i hs.at hs.is)))

  -- all lanes have sent
  pub sent_all : (i : ℕ) (start before : List ℕ) → length all ≤ i → before ≡ start ++ sent_by i → before ≡ start ++ flat_map word (flat_map f all)
  sent_all i start before le h = h ∙ ap (λ ss. start ++ flat_map word (flat_map f ss)) (take_all i all le)

-- the later lanes are as they were
pub left_more : (all now after : List Sender) (i : ℕ) (change : Sender → Sender) → i < length now → IfSome (slice_get now i) (λ s. after ≡ slice_set now i (change s)) → ((j : ℕ) → i ≤ j → slice_get now j ≡ slice_get all j)
    → (j : ℕ) → i + 1 ≤ j → slice_get after j ≡ slice_get all j
left_more all now after i change lt changed h j le =
    let hs : Holds now i = holds now i lt in
    ap (λ ss. slice_get ss j) (of_some (λ s. after ≡ slice_set now i (change s)) (slice_get now i) hs.at hs.is changed)
    ∙ set_there now i j (change hs.at) (λ same. absurd (omega (arith, same, le))) ∙ h j (omega (arith, le))

pub left_others : (all now after : List Sender) (i : ℕ) → ((j : ℕ) → j ≢ i → slice_get after j ≡ slice_get now j) → ((j : ℕ) → i ≤ j → slice_get now j ≡ slice_get all j) → (j : ℕ) → i + 1 ≤ j → slice_get after j ≡ slice_get all j
left_others all now after i others h j le = others j (λ same. absurd (omega (arith, same, le))) ∙ h j (omega (arith, le))

-- ---- one lane that is read out

-- what was reported and what is left to tell are what was reported before and what was left then
pub record HasSent (word : Frame → List ℕ) (window lane : ℕ) (before now : List Sender) (reported_before reported_now : List ℕ) : Type 0 where
  pub from : Sender
  pub to : Sender
  pub was : slice_get before lane ≡ Some from
  pub is : slice_get now lane ≡ Some to
  pub left : reported_now ++ flat_map word (frames_left to window) ≡ reported_before ++ flat_map word (frames_left from window)

pub sent_none : (word : Frame → List ℕ) (window lane : ℕ) (senders : List Sender) (reported : List ℕ) → lane < length senders → HasSent word window lane senders senders reported reported
sent_none word window lane senders reported lt = let h = holds senders lane lt in record { from = h.at; to = h.at; was = h.is; is = h.is; left = refl }

module _ (word : Frame → List ℕ) (window lane : ℕ) (before now after : List Sender) (reported_before reported_now reported_after : List ℕ) (h : HasSent word window lane before now reported_before reported_now) where
  -- one frame more
  pub sent_frame : (frame : Frame) → length after ≡ length now → lane < length now → IfSome (slice_get now lane) (λ s. IfSome (slice_get after lane) (λ t. IsReadOut window s (Some frame) t))
      → reported_after ≡ reported_now ++ word frame → HasSent word window lane before after reported_before reported_after
  sent_frame frame many lt read sent =
      let next : Holds after lane = holds after lane (omega (arith, many, lt)) in
      let step : IsReadOut window h.to (Some frame) next.at = of_both (λ s t. IsReadOut window s (Some frame) t) (slice_get now lane) (slice_get after lane) h.to next.at h.is next.is read in
      record {
        from = h.from;
        to = next.at;
        was = h.was;
        is = next.is;
        left = ap (λ reported. reported ++ flat_map word (frames_left next.at window)) sent
            ∙ append_assoc reported_now (word frame) (flat_map word (frames_left next.at window))
            ∙ ap (λ fs. reported_now ++ flat_map word fs) (sym (first_left (frames_left h.to window) (frames_left next.at window) step.first step.others))
            ∙ h.left;
      }
    where
      first_left : (xs ys : List Frame) → Some frame ≡ slice_get xs 0 → ys ≡ drop 1 xs → xs ≡ frame ∷ ys
      first_left [] ys e d = absurd (none_some (sym e))
      first_left (x ∷ xs) ys e d = ap (λ y. y ∷ xs) (sym (some_same frame x e)) ∙ ap (λ zs. frame ∷ zs) (sym d)

  -- the last call gave none
  pub sent_last : length after ≡ length now → lane < length now → IfSome (slice_get now lane) (λ s. IfSome (slice_get after lane) (λ t. IsReadOut window s None t))
      → IfSome (slice_get before lane) (λ s. reported_now ≡ reported_before ++ flat_map word (frames_left s window))
  sent_last many lt read =
      let next : Holds after lane = holds after lane (omega (arith, many, lt)) in
      let step : IsReadOut window h.to None next.at = of_both (λ s t. IsReadOut window s None t) (slice_get now lane) (slice_get after lane) h.to next.at h.is next.is read in
      subst (λ o. IfSome o (λ s. reported_now ≡ reported_before ++ flat_map word (frames_left s window))) (sym h.was)
      (sym (append-nil reported_now) ∙ ap (λ fs. reported_now ++ flat_map word fs) (none_left (frames_left h.to window) step.first) ∙ h.left)
    where
      none_left : (xs : List Frame) → None ≡ slice_get xs 0 → [] ≡ xs
      none_left [] e = refl
      none_left (x ∷ xs) e = absurd (none_some e)
