-- The stages of an answered capture have one outcome each.
use Rattle.std.proofs.Common.{◌≡◌, ℕ, List, Result, Ok, Err, refl, ap, sym, ◌∙◌}
use Rattle.sn_pcap.specs.declared.header.Header.{Header}
use Rattle.sn_pcap.specs.declared.packet.Packet.{Packet}
use Rattle.sn_pcap.specs.declared.packet.Ending.{Ending}
use Rattle.sn_pcap.proofs.OneCapture.{records_some, records_once}
use Rattle.sn_pcap.specs.Reading.{within}
use Rattle.sn_command.specs.declared.fault.Fault.{Fault}
use Rattle.sn_command.specs.Outcomes.{HasOne}
use Rattle.sn_command.specs.Stages.{HasVerdict}
use Rattle.sn_command.proofs.OneLemmas.{one_does, one_judges, one_then}
use Rattle.sn_command_capture.specs.Capture.{Whole, Found, RecordsIn, WindowsOf, LastLines, Answered}
use Rattle.sn_command_capture.specs.Wording.{Wording}
use Rattle.sn_windows.specs.Rising.{Window}

found_is : (a b : Found) → a.packets ≡ b.packets → a.ending ≡ b.ending → a ≡ b
found_is a b e f = made a.packets b.packets a.ending b.ending e f
  where
    made : (ps qs : List Packet) (e f : Ending) → ps ≡ qs → e ≡ f → ◌≡◌ {A = Found} (record { packets = ps; ending = e }) (record { packets = qs; ending = f })
    made ps qs e f same also = rw (same, also) refl

module _ (header : Header) (file : List ℕ) where
  pub found_once : (first second : Result Found Fault) → RecordsIn header file first → RecordsIn header file second → first ≡ second
  found_once (Ok a) (Ok b) are also = let same = records_once {header = header} {file = file} {n = 24} are also in ap Ok (found_is a b same.0 same.1)
  found_once (Ok a) (Err fault) are also = absurd also
  found_once (Err fault) second are also = absurd are

  pub one_found : HasVerdict (RecordsIn header file)
  one_found = let h = records_some header file 24 in record { verdict = Ok (record { packets = h.packets; ending = h.ending }); is = h.are; once = found_once }

one_whole : (name : List ℕ) → HasOne (Whole name)
one_whole name = record { some = λ files. record { outcome = _; is = refl }; once = λ files first second a b. a ∙ sym b }

one_last : (wording : Wording) (windows : List Window) (ending : Ending) → HasOne (LastLines wording windows ending)
one_last wording windows ending = one_then (one_does _) (λ _. one_does _)

one_windows : (wording : Wording) (window : ℕ) (capture : List ℕ) (header : Header) → HasOne (WindowsOf wording window capture header)
one_windows wording window capture header = one_then (one_whole capture) (λ file. one_then (one_judges (one_found header (within file))) (λ found. one_does _))

pub one_answered : (wording : Wording) (window : ℕ) (capture : List ℕ) → HasOne (Answered wording window capture)
one_answered wording window capture = one_then (one_then (one_whole capture) (λ file. one_does _)) (λ header. one_then (one_does _) (λ _. one_then (one_windows wording window capture header) (λ closed. one_last wording closed.0 closed.1)))
