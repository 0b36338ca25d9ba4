-- A file is judged in one way as a capture, and captures are read in one way.
use Rattle.std.proofs.Common.{◌≡◌, ℕ, ◌+◌, ◌-◌, List, [], ◌∷◌, ◌++◌, length, Result, Ok, Err, refl, ap, sym, ◌∙◌, subst}
use Rattle.sn_command.proofs.OneLemmas.{one_bytes, one_does, one_judges, one_then}
use Rattle.sn_command.proofs.StageLemmas.{MayCome, file_stops, file_then}
use Rattle.sn_command.specs.declared.fault.Fault.{Fault}
use Rattle.sn_command.specs.declared.fault.Fault.TheVariants as faults
use Rattle.sn_command.specs.Outcomes.{HasOne, silent}
use Rattle.sn_command.specs.Runs.{Runs}
use Rattle.sn_command.specs.Stages.{HasVerdict, most_text}
use Rattle.sn_command.specs.Worlds.{World}
use Rattle.sn_command.specs.declared.refusal.Refusal.{Refusal}
use Rattle.sn_command.specs.declared.refusal.Refusal.TheVariants.{Memory}
use Rattle.sn_command_capture.proofs.StreamLemmas.{runs_memory}
use Rattle.sn_command_captures.specs.Captures.{CaptureIn, Captures, CapturesAfter, JudgedAs, NextCapture, bytes_in}
use Rattle.sn_command_captures.proofs.WalkLemmas.{found_records}
use Rattle.sn_command_captures.specs.Walks.{ending_from, packets_from, recorded}
use Rattle.sn_command_captures.specs.declared.capture.Capture.{Capture}
use Rattle.sn_pcap.proofs.OneCapture.{records_once, records_some}
use Rattle.sn_pcap.specs.Capture.{head_of}
use Rattle.sn_pcap.specs.declared.header.Header.{Header}
use Rattle.sn_pcap.specs.declared.header.HeadFault.{HeadFault}
use Rattle.sn_pcap.specs.declared.packet.Ending.{Ending}
use Rattle.sn_pcap.specs.declared.packet.Packet.{Packet}

module _ (number : ℕ) (file : List ℕ) where
  judged_once : (head : Result Header HeadFault) (first second : Result Capture Fault) → JudgedAs number file head first → JudgedAs number file head second → first ≡ second
  judged_once (Ok header) first second a b =
      let same = records_once a.are b.are in
      a.same ∙ ap (λ (ps : List Packet). Ok (record { link = header.link; file = file; packets = ps; ending = a.ending })) same.0
      ∙ ap (λ (e : Ending). Ok (record { link = header.link; file = file; packets = b.packets; ending = e })) same.1 ∙ sym b.same
  judged_once (Err fault) first second a b = a ∙ sym b

  judged_some : (head : Result Header HeadFault) → HasVerdict (JudgedAs number file head)
  judged_some (Ok header) =
      let h = records_some header file 24 in
      record {
        verdict = Ok (record { link = header.link; file = file; packets = h.packets; ending = h.ending });
        is = record { packets = h.packets; ending = h.ending; are = h.are; same = refl };
        once = judged_once (Ok header);
      }
  judged_some (Err fault) = record { verdict = Err (faults.HeadOf fault number); is = refl; once = judged_once (Err fault) }

  -- a file with a header
  pub judged_whole : (header : Header) (bytes : List ℕ) (capture : Capture) → bytes ≡ file → Ok header ≡ head_of bytes → capture ≡ recorded header file → CaptureIn number file (Ok capture)
  judged_whole header bytes capture same first is =
      subst (λ (h : Result Header HeadFault). JudgedAs number file h (Ok capture)) (first ∙ ap head_of same)
      (record { packets = packets_from header file 24; ending = ending_from header file 24; are = found_records header file 24; same = ap (λ (c : Capture). Ok c) is })

  pub capture_once : (first second : Result Capture Fault) → CaptureIn number file first → CaptureIn number file second → first ≡ second
  capture_once = judged_once (head_of file)

  judged_may : (head : Result Header HeadFault) (verdict : Result Capture Fault) → JudgedAs number file head verdict → MayCome 0 verdict
  judged_may (Ok header) verdict j = subst (λ (v : Result Capture Fault). MayCome 0 v) (sym j.same) tt
  judged_may (Err fault) verdict is = subst (λ (v : Result Capture Fault). MayCome 0 v) (sym is) tt

  -- a capture is never refused as queries or as a switch
  pub capture_may : (verdict : Result Capture Fault) → CaptureIn number file verdict → MayCome 0 verdict
  capture_may = judged_may (head_of file)

  pub one_capture : HasVerdict (CaptureIn number file)
  one_capture = judged_some (head_of file)

one_next : (number most : ℕ) (name : List ℕ) → HasOne (NextCapture number most name)
one_next number most name = one_then (one_bytes most name) (λ bytes. one_judges (one_capture number bytes))

one_after : (names : List (List ℕ)) (before : List Capture) → HasOne (CapturesAfter before names)
one_after [] before = one_does (silent (Ok before))
one_after (name ∷ names) before = one_then (one_next (length before + 1) (most_text - bytes_in before) name) (λ capture. one_after names (before ++ capture ∷ []))

pub one_captures : (names : List (List ℕ)) → HasOne (Captures names)
one_captures names = one_after names []

-- ---- one capture more

module _ {number most : ℕ} {name : List ℕ} {world later : World} (before : List Capture) (names rest : List (List ℕ)) (parts : names ≡ name ∷ rest) (number_is : number ≡ length before + 1)
    (most_is : most ≡ most_text - bytes_in before) where
  next_run : (answer : Result Capture Refusal) → Runs (name ∷ []) (NextCapture number most name) world answer later → Runs (name ∷ []) (NextCapture (length before + 1) (most_text - bytes_in before) name) world answer later
  next_run answer r =
      subst (λ (n : ℕ). Runs (name ∷ []) (NextCapture n (most_text - bytes_in before) name) world answer later) number_is
      (subst (λ (m : ℕ). Runs (name ∷ []) (NextCapture number m name) world answer later) most_is r)

  -- it is refused, or memory runs out after it, or the others are read
  pub next_stops : {refusal : Refusal} → Runs (name ∷ []) (NextCapture number most name) world (Err refusal) later → Runs names (CapturesAfter before names) world (Err refusal) later
  next_stops {refusal} r =
      subst (λ (ns : List (List ℕ)). Runs ns (CapturesAfter before ns) world (Err refusal) later) (sym parts) (file_stops (next_run (Err refusal) r))

  pub next_then : {capture : Capture} {answer : Result (List Capture) Refusal} {last : World} → Runs (name ∷ []) (NextCapture number most name) world (Ok capture) later
      → Runs rest (CapturesAfter (before ++ capture ∷ []) rest) later answer last → Runs names (CapturesAfter before names) world answer last
  next_then {capture} {answer} {last} r others =
      subst (λ (ns : List (List ℕ)). Runs ns (CapturesAfter before ns) world answer last) (sym parts) (file_then (next_run (Ok capture) r) others)

  pub next_memory : {capture : Capture} → Runs (name ∷ []) (NextCapture number most name) world (Ok capture) later → Runs names (CapturesAfter before names) world (Err Memory) later
  next_memory {capture} r = next_then r (runs_memory rest (CapturesAfter (before ++ capture ∷ []) rest) later)
