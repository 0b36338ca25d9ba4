-- The turns of the loop that reads a capture and writes its windows, over plain values.
use Rattle.std.proofs.Common.{◌≡◌, ◌≢◌, ◌≤◌, ◌^◌, ℕ, List, [], ◌∷◌, Option, Some, None, Result, Ok, Err, true, IfSome, is_some, IsErrOf, inl, refl, ap, sym, ◌∙◌, take}
use Rattle.std.specs.FinMap.{get}
use Rattle.sn_base.specs.declared.link.Link.{Link}
use Rattle.sn_fields.specs.Tuples.{tuple}
use Rattle.std.proofs.lemmas.Bool.{false≢true}
use Rattle.sn_io.specs.Counts.{ByName, OnlyRises, RoseAt}
use Rattle.sn_io.specs.Inputs.{stated_file}
use Rattle.sn_io.specs.declared.inputs.ReadError.{ReadError}
use Rattle.sn_io.specs.declared.inputs.ReadError.TheVariants as errors
use Rattle.sn_pcap.specs.declared.header.Header.{Header}
use Rattle.sn_pcap.specs.declared.packet.Packet.{Packet}
use Rattle.sn_pcap.specs.declared.packet.Ending.{Ending}
use Rattle.sn_pcap.specs.declared.seen.Seen.{Seen}
use Rattle.sn_pcap.specs.declared.seen.Next.{Next}
use Rattle.sn_pcap.specs.declared.seen.Last.{Last}
use Rattle.sn_pcap.specs.Reading.{ReaderState, made, Follows as ReaderFollows, Left, Takes}
use Rattle.sn_command.specs.declared.refusal.Refusal.{Refusal}
use Rattle.sn_command.specs.declared.refusal.Refusal.TheVariants.{ReadFault}
use Rattle.sn_command.specs.Outcomes.{Outcome, Stage}
use Rattle.sn_command.specs.Refusals.{read_refusal}
use Rattle.sn_command.specs.Runs.{Runs, Leads}
use Rattle.sn_command.specs.Stages.{Does}
use Rattle.sn_command.specs.Worlds.{Files, World, Spares, Follows}
use Rattle.sn_command.proofs.FileLemmas.{none_other}
use Rattle.sn_command.proofs.OutcomeLemmas.{chance_keeps}
use Rattle.sn_command_capture.specs.Wording.{IsCausal, StopsInTime, Wording}
use Rattle.sn_command_capture.specs.Capture.{WindowsOf}
use Rattle.sn_command_capture.specs.declared.gathered.Gathered.{Gathered}
use Rattle.sn_command_capture.specs.Gathering.{Gathering, none_gathered, refused, Stands, Stops, taken, closing}
use Rattle.sn_command_capture.proofs.StreamLemmas.{LeftOver, refused_elsewhere, runs_reported, read_follows, file_known, left_begin, packet_answer, end_answer, large_answer, left_packet, left_end, left_large, turn_goes, turn_stops, turn_ends}
use Rattle.sn_windows.specs.Rising.{Window}

if_all : (reported : Option (List ℕ)) (P : List ℕ → Type 0) → ((file : List ℕ) → P file) → IfSome reported P
if_all None P all = tt
if_all (Some file) P all = all file

-- a capture that can't be read on is refused, with no more text, where it hasn't too many bytes
pub stops_unread : (hand : List Window → ℕ → List (List ℕ) → Type 0) (wording : Wording) (kept : Gathered) (error : ReadError) (refusal : Refusal) (w : World) → (error ≡ errors.TooLarge → ⊥) → refusal ≡ read_refusal error → Stops hand wording kept error w refusal w
stops_unread hand wording kept errors.Missing refusal w other is = (is, refl)
stops_unread hand wording kept errors.ReadFault refusal w other is = (is, refl)
stops_unread hand wording kept errors.TooLarge refusal w other is = absurd (other refl)
stops_unread hand wording kept errors.Memory refusal w other is = (is, refl)

-- before any record
module _ (wording : Wording) (causal : IsCausal wording) (in_time : StopsInTime wording) (window : ℕ) (header : Header) (capture : List ℕ) (reader : ReaderState) (g : Gathering) (before : World) (made_is : reader ≡ made header) (none_is : g ≡ none_gathered window) where
  pub leads_first : ((files : ByName (List ℕ)) (name : List ℕ) → before.files.reported ≡ Some files → is_some (get files name) ≡ is_some (get before.files.faults name)) → is_some (get before.files.faults capture) ≡ true
      → Leads (capture ∷ []) (LeftOver wording header.link capture reader g) (WindowsOf wording window capture header) before before
  leads_first law known = λ answer later r. runs_reported
      (λ files same outcome t.
      let file = file_known files before.files.faults capture (law files capture same) known in
      rw (made_is, none_is) (left_begin wording causal in_time window header capture files outcome file.0 file.1 t)) r

  pub follows_first : IfSome (stated_file before.files.reported capture) (λ file. ReaderFollows file reader)
  follows_first = rw made_is (if_all (stated_file before.files.reported capture) (λ file. ReaderFollows file (made header)) (λ file. refl))

-- only files were read
abbrev pub read_on : World → Files → World
read_on before files = record { files = files; out = before.out; places = before.places }

-- one call of the reader
module _ (wording : Wording) (link : Link) (capture : List ℕ) (reader after : ReaderState) (seen : Seen) (g : Gathering) (whole : Stage (List Window × Ending)) (first before : World) (files : Files) (reported : files.reported ≡ before.files.reported) (rises : OnlyRises capture before.files.faults files.faults)
    (leads : Leads (capture ∷ []) (LeftOver wording link capture reader g) whole first before) where
  abbrev TakesHere : Result Next ReadError → Type 0
  TakesHere answer = IfSome (stated_file before.files.reported capture) (λ file. (packets : List Packet) (e : Last) → Left file reader packets e → answer ≢ Err errors.ReadFault → Takes file packets e answer seen after)

  abbrev taking : Outcome Gathering
  taking = taken wording g seen.time (tuple link seen.wire (take seen.len seen.front))

  follows : Follows before (read_on before files)
  follows = read_follows capture before (read_on before files) reported rises refl refl

  spares : Spares (capture ∷ []) before.files files
  spares = none_other capture before.files.faults files.faults rises

  -- a packet is taken, and the capture goes on
  pub packet_goes : (later : Gathering) (now : World) → TakesHere packet_answer → Runs [] (Does taking) (read_on before files) (Ok later) now → Leads (capture ∷ []) (LeftOver wording link capture after later) whole first now
  packet_goes later now takes r = turn_goes follows spares refl (λ held same outcome l. left_packet wording link capture reader after seen g before.files.reported held outcome same l takes) leads r

  -- a packet is taken, and that is refused
  pub packet_stops : (refusal : Refusal) (now : World) → TakesHere packet_answer → Runs [] (Does taking) (read_on before files) (Err refusal) now → Runs (capture ∷ []) whole first (Err refusal) now
  packet_stops refusal now takes r = turn_stops follows spares refl (λ held same outcome l. left_packet wording link capture reader after seen g before.files.reported held outcome same l takes) leads r

  -- the records end
  pub end_stops : (ending : Ending) (answer : Result (List Window × Ending) Refusal) (now : World) → TakesHere (end_answer ending) → Runs [] (Does (closing wording g ending)) (read_on before files) answer now → Runs (capture ∷ []) whole first answer now
  end_stops ending answer now takes r = turn_ends follows spares refl (λ held same outcome l. left_end wording link capture reader after seen g before.files.reported held outcome same l ending takes) leads r

  -- the capture has too many bytes
  large_stops : (refusal : Refusal) (now : World) → TakesHere large_answer → Runs [] (Does (refused {A = Gathering} wording g)) (read_on before files) (Err refusal) now → Runs (capture ∷ []) whole first (Err refusal) now
  large_stops refusal now takes r =
      turn_ends {due = refused wording g} follows spares refl (λ held same outcome l. left_large wording link capture reader after seen g before.files.reported held outcome same l takes) leads (refused_elsewhere r)

  -- a read failed
  fault_stops : RoseAt capture before.files.faults files.faults → Runs (capture ∷ []) whole first (Err ReadFault) (read_on before files)
  fault_stops rose = leads (Err ReadFault) (read_on before files) (record {
    keeps = λ held same outcome is. chance_keeps outcome ReadFault before.out.written refl;
    missing = λ e. absurd cc;
    read_fault = λ e. inl rose;
    write_fault = λ e. absurd cc;
    words = λ e. absurd cc;
    others = spares;
    queries = λ fault e. absurd cc;
    switch = λ fault e. absurd cc;
    follows = follows;
  })

  -- the reader gives no record and no end
  pub error_stops : (hand : List Window → ℕ → List (List ℕ) → Type 0) (kept : Gathered) → Stands hand kept g → (error : ReadError) (refusal : Refusal) (now : World) → is_some (get before.files.faults capture) ≡ true → (IsErrOf {T = Next} (Err error) errors.Missing → get before.files.faults capture ≡ None) → (IsErrOf {T = Next} (Err error) errors.ReadFault → RoseAt capture before.files.faults files.faults)
      → (IsErrOf {T = Next} (Err error) errors.Memory → ⊥) → TakesHere (Err error) → Stops hand wording kept error (read_on before files) refusal now → Runs (capture ∷ []) whole first (Err refusal) now
  error_stops hand kept s errors.Missing refusal now known missing fault memory takes stops = absurd (false≢true (sym (ap is_some (missing refl)) ∙ known))
  error_stops hand kept s errors.ReadFault refusal now known missing fault memory takes stops = rw (stops.0, stops.1) (fault_stops (fault refl))
  error_stops hand kept s errors.TooLarge refusal now known missing fault memory takes stops = large_stops refusal now takes (stops g s)
  error_stops hand kept s errors.Memory refusal now known missing fault memory takes stops = absurd (memory refl)

-- ---- the loop

-- on the way through a capture: what is kept stands for what is gathered, and what is left leads to the whole
pub record Midway (hand : List Window → ℕ → List (List ℕ) → Type 0) (wording now_wording : Wording) (window : ℕ) (header : Header) (capture : List ℕ) (reader : ReaderState) (kept : Gathered) (first now : World) : Type 0 where
  pub state : Gathering
  pub stands : Stands hand kept state
  pub leads : Leads (capture ∷ []) (LeftOver wording header.link capture reader state) (WindowsOf wording window capture header) first now
  pub same : now_wording ≡ wording
  pub follows : IfSome (stated_file now.files.reported capture) (λ file. ReaderFollows file reader)
  pub known : is_some (get now.files.faults capture) ≡ true
  pub counted : kept.closed ≤ reader.offset
  pub most : reader.offset ≤ 2 ^ 40
