-- What a lane gives over a window.
use Rattle.std.proofs.Common.{◌≡◌, ℕ, ◌+◌, List, [], ◌∷◌, ◌++◌, map, drop, length, false, cond, Option, Some, None, slice_get, refl, ap, sym, ◌∙◌, append_assoc, arith}
use Rattle.std.specs.Option.{option_map, option_to_list}
use Rattle.std.proofs.lemmas.List.{length-append, map-append}
use Rattle.sn_base.specs.declared.lane.Lane.{Lane}
use Rattle.sn_report.specs.Items.{Frame}
use Rattle.sn_report.specs.declared.frame.Frame.TheVariants.{End}
use Rattle.sn_report.specs.Items.{Item}
use Rattle.sn_pipe.specs.Pipes.{PipeState, after_packet, after_packets, item_of, packets_give}
use Rattle.sn_pipe.specs.Prefixes.{left_in}
use Rattle.sn_plan_fit.specs.Capped.{capped}
use Rattle.sn_emit.specs.declared.sender.Sender.{Sender}
use Rattle.sn_emit.specs.Runs.{ReadsOut}
use Rattle.sn_emit.specs.Senders.{counted, frames_left, packet_frames, row_frame, sender_after, sender_next}

one_frame : (lane : Lane) (o : Option Item) (items : List Item) → option_to_list (option_map (row_frame lane) o) ++ map (row_frame lane) items ≡ map (row_frame lane) (option_to_list o ++ items)
one_frame lane None items = refl
one_frame lane (Some item) items = refl

frames_are : (s : Sender) (tuples : List (List ℕ)) → packet_frames s tuples ≡ map (row_frame s.lane) (packets_give s.pipe tuples)
frames_are s [] = refl
frames_are s (tuple ∷ tuples) =
    ap (λ xs. option_to_list (option_map (row_frame s.lane) (item_of s.pipe tuple)) ++ xs) (frames_are (sender_next s tuple) tuples)
    ∙ one_frame s.lane (item_of s.pipe tuple) (packets_give (after_packet s.pipe tuple) tuples)

pub same_lane : (s : Sender) (tuples : List (List ℕ)) → (sender_after s tuples).lane ≡ s.lane
same_lane s [] = refl
same_lane s (tuple ∷ tuples) = same_lane (sender_next s tuple) tuples

pub same_end : (s : Sender) (tuples : List (List ℕ)) → (sender_after s tuples).ended ≡ s.ended
same_end s [] = refl
same_end s (tuple ∷ tuples) = same_end (sender_next s tuple) tuples

pub pipe_after : (s : Sender) (tuples : List (List ℕ)) → (sender_after s tuples).pipe ≡ after_packets s.pipe tuples
pipe_after s [] = refl
pipe_after s (tuple ∷ tuples) = pipe_after (sender_next s tuple) tuples

-- ---- frames

-- what is read out is what was left
read_frames : (window : ℕ) (s t : Sender) (frames : List Frame) → ReadsOut window s frames t → frames ≡ frames_left s window
read_frames window s t [] h = none_left (frames_left s window) h.first
  where
    none_left : (xs : List Frame) → None ≡ slice_get xs 0 → [] ≡ xs
    none_left [] e = refl
    none_left (x ∷ xs) e = cc
read_frames window s t (frame ∷ frames) h =
    first_left (frames_left s window) h.1.first (read_frames window h.0 t frames h.2 ∙ h.1.others)
  where
    first_left : (xs : List Frame) → Some frame ≡ slice_get xs 0 → frames ≡ drop 1 xs → frame ∷ frames ≡ xs
    first_left [] e d = cc
    first_left (x ∷ xs) e d = let same : frame ≡ x = cc in ap (λ y. y ∷ frames) same ∙ ap (λ ys. x ∷ ys) d

left_after : (s : Sender) (window : ℕ) (tuples : List (List ℕ)) → s.ended ≡ false →
    frames_left (sender_after s tuples) window ≡ map (row_frame s.lane) (left_in (after_packets s.pipe tuples).prefix) ++ End s.lane window ∷ []
left_after s window tuples open_end =
    ap (λ (lane : Lane). map (row_frame lane) (left_in (sender_after s tuples).pipe.prefix) ++ cond (sender_after s tuples).ended [] (End lane window ∷ [])) (same_lane s tuples)
    ∙ ap (λ (p : PipeState). map (row_frame s.lane) (left_in p.prefix) ++ cond (sender_after s tuples).ended [] (End s.lane window ∷ [])) (pipe_after s tuples)
    ∙ ap (λ b. map (row_frame s.lane) (left_in (after_packets s.pipe tuples).prefix) ++ cond b [] (End s.lane window ∷ [])) (same_end s tuples ∙ open_end)

-- the frames of a window are those of its items and one End
pub window_frames : (window : ℕ) (s t : Sender) (tuples : List (List ℕ)) (frames : List Frame) → s.ended ≡ false → ReadsOut window (sender_after s tuples) frames t →
    packet_frames s tuples ++ frames ≡ map (row_frame s.lane) (packets_give s.pipe tuples ++ left_in (after_packets s.pipe tuples).prefix) ++ End s.lane window ∷ []
window_frames window s t tuples frames open_end h =
    let given : List Item = packets_give s.pipe tuples in
    let left : List Item = left_in (after_packets s.pipe tuples).prefix in
    ap (λ xs. xs ++ frames) (frames_are s tuples)
    ∙ ap (λ xs. map (row_frame s.lane) given ++ xs) (read_frames window (sender_after s tuples) t frames h ∙ left_after s window tuples open_end)
    ∙ sym (append_assoc (map (row_frame s.lane) given) (map (row_frame s.lane) left) (End s.lane window ∷ []))
    ∙ ap (λ xs. xs ++ End s.lane window ∷ []) (sym (map-append (row_frame s.lane) given left))

-- ---- counts

-- one more, or none
more : (given n : ℕ) (o : Option Item) → given ≡ capped n → counted given o ≡ capped (n + length (option_to_list o))
more given n None h = h ∙ ap capped (omega arith)
more given n (Some item) h = omega (arith, h)

count_after : (s : Sender) (n : ℕ) (tuples : List (List ℕ)) → s.given ≡ capped n → (sender_after s tuples).given ≡ capped (n + length (packets_give s.pipe tuples))
count_after s n [] h = h ∙ ap capped (omega arith)
count_after s n (tuple ∷ tuples) h =
    let first = option_to_list (item_of s.pipe tuple) in
    let rest = packets_give (after_packet s.pipe tuple) tuples in
    let both = length-append first rest in
    count_after (sender_next s tuple) (n + length first) tuples (more s.given n (item_of s.pipe tuple) h) ∙ ap capped (omega (arith, both))

count_read : (window : ℕ) (s t : Sender) (n : ℕ) (frames : List Frame) → ReadsOut window s frames t → s.given ≡ capped n → t.given ≡ capped (n + length (left_in s.pipe.prefix))
count_read window s t n [] h e =
    h.counts ∙ no_row (left_in s.pipe.prefix) (frames_none (left_in s.pipe.prefix) h.first)
  where
    frames_none : (xs : List Item) → None ≡ slice_get (map (row_frame s.lane) xs ++ cond s.ended [] (End s.lane window ∷ [])) 0 → xs ≡ []
    frames_none [] e = refl
    frames_none (x ∷ xs) e = cc

    no_row : (xs : List Item) → xs ≡ [] → counted s.given (slice_get xs 0) ≡ capped (n + length xs)
    no_row [] is = e ∙ ap capped (omega arith)
    no_row (x ∷ xs) is = cc
count_read window s t n (frame ∷ frames) h e =
    let items : List Item = left_in s.pipe.prefix in
    let step : h.0.given ≡ capped (n + length (option_to_list (slice_get items 0))) = h.1.counts ∙ more s.given n (slice_get items 0) e in
    count_read window h.0 t (n + length (option_to_list (slice_get items 0))) frames h.2 step
    ∙ ap (λ (xs : List Item). capped (n + length (option_to_list (slice_get items 0)) + length xs)) h.1.rows
    ∙ ap capped (one_less items)
  where
    one_less : (xs : List Item) → n + length (option_to_list (slice_get xs 0)) + length (drop 1 xs) ≡ n + length xs
    one_less [] = omega arith
    one_less (x ∷ xs) = omega arith

pub window_count : (window : ℕ) (s t : Sender) (tuples : List (List ℕ)) (frames : List Frame) → s.given ≡ 0 → ReadsOut window (sender_after s tuples) frames t →
    t.given ≡ capped (length (packets_give s.pipe tuples ++ left_in (after_packets s.pipe tuples).prefix))
window_count window s t tuples frames none h =
    let given : List Item = packets_give s.pipe tuples in
    let left : List Item = left_in (after_packets s.pipe tuples).prefix in
    let start : s.given ≡ capped 0 = omega (arith, none) in
    let both = length-append given left in
    count_read window (sender_after s tuples) t (0 + length given) frames h (count_after s 0 tuples start)
    ∙ ap (λ (p : PipeState). capped (0 + length given + length (left_in p.prefix))) (pipe_after s tuples)
    ∙ ap capped (omega (arith, both))
