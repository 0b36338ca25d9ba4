-- to be believed
-- Several captures, each read whole.
use Rattle.std.specs.Prelude.{◌≡◌, ℕ, ◌+◌, ◌-◌, List, [], ◌∷◌, ◌++◌, map, sum, length, Result, Ok, Err}
use Rattle.sn_pcap.specs.Capture.{head_of, Records}
use Rattle.sn_pcap.specs.declared.header.Header.{Header}
use Rattle.sn_pcap.specs.declared.header.HeadFault.{HeadFault}
use Rattle.sn_pcap.specs.declared.packet.Packet.{Packet}
use Rattle.sn_pcap.specs.declared.packet.Ending.{Ending}
use Rattle.sn_command.specs.declared.fault.Fault.{Fault}
use Rattle.sn_command.specs.declared.fault.Fault.TheVariants as faults
use Rattle.sn_command.specs.Outcomes.{Stage}
use Rattle.sn_command.specs.Stages.{Bytes, Gives, Judges, Then, most_text}
use Rattle.sn_command_captures.specs.declared.capture.Capture.{Capture}

-- after a header: the whole records count, however they end
pub record JudgedAfter (header : Header) (file : List ℕ) (verdict : Result Capture Fault) : Type 0 where
  pub packets : List Packet
  pub ending : Ending
  pub are : Records header file 24 packets ending
  pub same : verdict ≡ Ok (record { link = header.link; file = file; packets = packets; ending = ending })

abbrev pub JudgedAs : ℕ → List ℕ → Result Header HeadFault → Result Capture Fault → Type 0
JudgedAs number file (Ok header) verdict = JudgedAfter header file verdict
JudgedAs number file (Err fault) verdict = verdict ≡ Err (faults.HeadOf fault number)

-- what a file is judged to be, as the capture of this number
abbrev pub CaptureIn : ℕ → List ℕ → Result Capture Fault → Type 0
CaptureIn number file = JudgedAs number file (head_of file)

-- how many bytes captures have together
abbrev pub bytes_in : List Capture → ℕ
bytes_in captures = sum (map (λ (c : Capture). length c.file) captures)

-- the capture of this number, which may have this many bytes
abbrev pub NextCapture : ℕ → ℕ → List ℕ → Stage Capture
NextCapture number most name = Then (Bytes most name) (λ file. Judges (CaptureIn number file))

-- The captures of these names are read after others: their numbers go on from theirs, and all of them have no more bytes
-- together than a text may have.
abbrev pub CapturesAfter : List Capture → List (List ℕ) → Stage (List Capture)
CapturesAfter before [] = Gives (Ok before)
CapturesAfter before (name ∷ names) =
    Then (NextCapture (length before + 1) (most_text - bytes_in before) name) (λ capture. CapturesAfter (before ++ capture ∷ []) names)

-- the captures of these names, one after another
abbrev pub Captures : List (List ℕ) → Stage (List Capture)
Captures names = CapturesAfter [] names
