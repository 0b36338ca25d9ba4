-- What an answered capture adds, by the bytes of its file.
use Rattle.std.proofs.Common.{◌≡◌, ℕ, ◌⊎◌, List, [], ◌++◌, Bool, true, false, cond, Option, None, Some, Result, Ok, Err, refl, ap, ◌∙◌, append-nil, inl, inr}
use Rattle.std.specs.FinMap.{get}
use Rattle.sn_command_capture.specs.Capture.{AfterHead, Answered, Found, Head, LastLines, RecordsIn, Whole, WindowsOf, blocks_in, ending_verdict, known_bytes, packet_tuple, time_of, windows_in, windows_refused, windows_whole}
use Rattle.sn_command_capture.specs.Wording.{NeverStops, Wording}
use Rattle.sn_command_capture.proofs.AnsweredLemmas.{found_once}
use Rattle.sn_command_capture.proofs.UnstoppedLemmas.{unstopped}
use Rattle.sn_command_finish.specs.Taken.{followed}
use Rattle.sn_io.specs.Counts.{ByName}
use Rattle.sn_pcap.specs.declared.header.Header.{Header}
use Rattle.sn_pcap.specs.declared.header.HeadFault.{HeadFault}
use Rattle.sn_pcap.specs.declared.packet.Packet.{Packet}
use Rattle.sn_pcap.specs.declared.packet.Ending.{Ending}
use Rattle.sn_pcap.specs.declared.seen.Last.{Last}
use Rattle.sn_pcap.specs.declared.seen.Last.TheVariants as last
use Rattle.sn_pcap.specs.Capture.{head_of}
use Rattle.sn_pcap.specs.Reading.{last_of, within}
use Rattle.sn_pcap.proofs.OneCapture.{records_some}
use Rattle.sn_command.specs.declared.fault.Fault.{Fault}
use Rattle.sn_command.specs.declared.fault.Fault.TheVariants as faults
use Rattle.sn_command.specs.declared.refusal.Refusal.TheVariants.{Missing, Refused}
use Rattle.sn_command.specs.Ends.{end_status}
use Rattle.sn_command.specs.Outcomes.{Outcome, silent}
use Rattle.sn_command.specs.Refusals.{refusing}
use Rattle.sn_command.specs.Stages.{Judges, named}
use Rattle.sn_windows.specs.Blocks.{all_few}
use Rattle.sn_windows.specs.Windows.{numbered}
use Rattle.sn_top_laws.specs.Replayed.{IsWritten}
use Rattle.sn_top_laws.proofs.PeelLemmas.{followed_is, goes_after, goes_silent, not_nine, not_twelve, stops_after}
use Rattle.sn_windows.specs.Rising.{Window}

-- ---- what is due

-- the records after a header, and how they end
abbrev pub found_in : Header → List ℕ → Found
found_in header file = record { packets = (records_some header (within file) 24).packets; ending = (records_some header (within file) 24).ending }

abbrev pub shown_in : Header → List ℕ → Packet → List ℕ
shown_in header file = packet_tuple header.link (within file)

-- the packets after a header, each with the number of its window
abbrev pub packets_in : ℕ → Header → List ℕ → List (ℕ × Packet)
packets_in window header file = numbered time_of window (found_in header file).packets

-- after the blocks of these windows
abbrev pub following : Wording → List Window × Ending → Outcome (Unit {0})
following wording closed = record { text = wording.last closed.0 closed.1; end = refusing (ending_verdict closed.1) }

-- in front of the blocks
abbrev headed : Wording → Outcome (Unit {0}) → Outcome (Unit {0})
headed wording rest = record { text = wording.first ++ rest.text; end = rest.end }

-- where the records end so
abbrev pub ended_due : Wording → ℕ → List ℕ → Header → Last → Outcome (Unit {0})
ended_due wording window file header end = headed wording (followed (windows_whole wording (shown_in header file) (packets_in window header file) end) (following wording))

abbrev pub head_due : Wording → ℕ → List ℕ → Result Header HeadFault → Outcome (Unit {0})
head_due wording window file (Err fault) = silent (Err (Refused (faults.Head fault)))
head_due wording window file (Ok header) = ended_due wording window file header (last_of file (found_in header file).ending)

-- a capture with these bytes, if its name is known
abbrev pub capture_due : Wording → ℕ → Option (List ℕ) → Outcome (Unit {0})
capture_due wording window None = silent (Err Missing)
capture_due wording window (Some file) = head_due wording window file (head_of file)

module _ (wording : Wording) (never : NeverStops wording) (window : ℕ) (capture : List ℕ) (files : ByName (List ℕ)) where
  whole_is : (held : Option (List ℕ)) → get files capture ≡ held → (begun : Outcome (List ℕ)) → Whole capture files begun → begun ≡ silent (known_bytes held)
  whole_is held e begun is = is ∙ ap (λ o. silent (known_bytes o)) e

  head_is : (file : List ℕ) → get files capture ≡ Some file → (begun : Outcome Header) → Head capture files begun → begun ≡ silent (refusing (named faults.Head (head_of file)))
  head_is file e begun head = goes_silent file (whole_is (Some file) e) head

  module _ (file : List ℕ) (e : get files capture ≡ Some file) (header : Header) where
    records_are : (begun : Outcome Found) → Judges (RecordsIn header (within file)) files begun → begun ≡ silent (Ok (found_in header file))
    records_are begun judged =
        judged.same ∙ ap (λ (v : Result Found Fault). silent (refusing v)) (found_once header (within file) judged.verdict (Ok (found_in header file)) judged.is (records_some header (within file) 24).are)

    windows_are : (begun : Outcome (List Window × Ending)) → WindowsOf wording window capture header files begun
        → begun ≡ windows_whole wording (shown_in header file) (packets_in window header file) (last_of file (found_in header file).ending)
    windows_are begun both =
        goes_silent (found_in header file) records_are (goes_silent file (whole_is (Some file) e) both)
        ∙ unstopped wording never (shown_in header file) (packets_in window header file) (last_of file (found_in header file).ending)

    lines_are : (closed : List Window × Ending) (rest : Outcome (Unit {0})) → LastLines wording closed.0 closed.1 files rest → rest ≡ following wording closed
    lines_are closed rest both =
        let lines : List ℕ = wording.last closed.0 closed.1 in
        let after = goes_after lines tt (λ begun is. is) both in
        after.2
        ∙ ap (λ (o : Outcome (Unit {0})). record { text = lines ++ o.text; end = o.end }) after.1
        ∙ ap (λ (ts : List ℕ). record { text = ts; end = refusing (ending_verdict closed.1) }) (append-nil lines)

    after_head : (outcome : Outcome (Unit {0})) → AfterHead wording window capture header files outcome → outcome ≡ head_due wording window file (Ok header)
    after_head outcome both =
        let after = goes_after wording.first tt (λ begun is. is) both in
        after.2
        ∙ ap (headed wording)
        (followed_is (windows_whole wording (shown_in header file) (packets_in window header file) (last_of file (found_in header file).ending)) (following wording) windows_are lines_are after.1)

  -- an answered capture has the outcome that is due
  pub capture_is : (outcome : Outcome (Unit {0})) → Answered wording window capture files outcome → outcome ≡ capture_due wording window (get files capture)
  capture_is outcome both = by_held (get files capture) refl
    where
      by_head : (file : List ℕ) → get files capture ≡ Some file → (head : Result Header HeadFault) → head_of file ≡ head → outcome ≡ head_due wording window file head
      by_head file e (Err fault) is = stops_after [] (Refused (faults.Head fault)) (λ begun h. head_is file e begun h ∙ ap (λ r. silent (refusing (named faults.Head r))) is) both
      by_head file e (Ok header) is =
          after_head file e header outcome (goes_silent header (λ begun h. head_is file e begun h ∙ ap (λ r. silent (refusing (named faults.Head r))) is) both)

      by_held : (held : Option (List ℕ)) → get files capture ≡ held → outcome ≡ capture_due wording window held
      by_held None e = stops_after [] Missing (λ begun h. stops_after [] Missing (whole_is None e) h) both
      by_held (Some file) e = by_head file e (head_of file) refl

-- ---- two ways to end with all that is due written

module _ (window : ℕ) (held : Option (List ℕ)) where
  -- the header is refused
  pub record HasNoHead : Type 0 where
    pub fault : HeadFault
    pub due : (wording : Wording) → capture_due wording window held ≡ silent (Err (Refused (faults.Head fault)))

  -- the records end, and no window has too many
  pub record HasWindows : Type 0 where
    pub file : List ℕ
    pub is : held ≡ Some file
    pub header : Header
    pub ending : Ending
    pub few : all_few (packets_in window header file) ≡ true
    pub due : (wording : Wording) → capture_due wording window held ≡ record {
      text = wording.first ++ (blocks_in wording (shown_in header file) (packets_in window header file) ++ wording.last (windows_in (shown_in header file) (packets_in window header file)) ending);
      end = refusing (ending_verdict ending);
    }

module _ (wording : Wording) (window : ℕ) where
  abbrev MeansTo : Outcome (Unit {0}) → Type 0
  MeansTo outcome = IsWritten (end_status outcome.end)

  module _ (file : List ℕ) where
    abbrev Ways : Type 0
    Ways = HasNoHead window (Some file) ⊎ HasWindows window (Some file)

    module _ (header : Header) where
      abbrev cut_off : Wording → Ending → Bool → Outcome (List Window × Ending)
      cut_off w ending few =
          let text : List ℕ = blocks_in w (shown_in header file) (packets_in window header file) in
          let windows : List Window = windows_in (shown_in header file) (packets_in window header file) in
          cond few (record { text = text; end = Ok (windows, ending) }) (windows_refused w (last.Ended ending) text windows)

      by_few : (ending : Ending) (few : Bool) → all_few (packets_in window header file) ≡ few → ((w : Wording) → capture_due w window (Some file) ≡ headed w (followed (cut_off w ending few) (following w)))
          → MeansTo (headed wording (followed (cut_off wording ending few) (following wording))) → Ways
      by_few ending false e due written = absurd (not_twelve written)
      by_few ending true e due written = inr (record { file = file; is = refl; header = header; ending = ending; few = e; due = due })

      by_last : (end : Last) → ((w : Wording) → capture_due w window (Some file) ≡ ended_due w window file header end) → MeansTo (ended_due wording window file header end) → Ways
      by_last last.TooLarge due written = absurd (not_twelve written)
      by_last (last.Ended ending) due written = by_few ending (all_few (packets_in window header file)) refl due written

    by_head : (head : Result Header HeadFault) → ((w : Wording) → capture_due w window (Some file) ≡ head_due w window file head) → MeansTo (head_due wording window file head) → Ways
    by_head (Err fault) due written = inl (record { fault = fault; due = due })
    by_head (Ok header) due written = by_last header (last_of file (found_in header file).ending) due written

  pub capture_ways : (held : Option (List ℕ)) → IsWritten (end_status (capture_due wording window held).end) → HasNoHead window held ⊎ HasWindows window held
  capture_ways None written = absurd (not_nine written)
  capture_ways (Some file) written = by_head file (head_of file) (λ w. refl) written
