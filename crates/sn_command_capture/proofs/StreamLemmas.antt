-- A capture that is read while its windows are written, over plain values.
use Rattle.std.proofs.Common.{◌≡◌, ◌≢◌, ℕ, ◌<◌, ◌≤◌, List, [], ◌∷◌, ◌++◌, Bool, true, false, min, Option, Some, None, Result, Ok, Err, is_some, length, take, drop, IfSome, inl, inr, refl, ap, sym, subst, ◌∙◌, arith, append-nil, length-take}
use Rattle.std.specs.FinMap.{get}
use Rattle.std.proofs.lemmas.List.{take_all}
use Rattle.std.specs.Prelude.{◌==◌, if◌then◌else◌}
use Rattle.std.proofs.lemmas.Bool.{false≢true, eq-eqb, ne_eqb, lt-leb, le-leb}
use Rattle.sn_base.specs.declared.link.Link.{Link}
use Rattle.sn_fields.specs.Tuples.{tuple}
use Rattle.sn_fields.proofs.Fronts.{tuple_front}
use Rattle.sn_io.specs.Counts.{ByName, OnlyRises, RoseAt}
use Rattle.sn_command.proofs.FileLemmas.{known_still, none_fell}
use Rattle.sn_io.specs.Inputs.{stated_file}
use Rattle.sn_io.specs.declared.inputs.ReadError.{ReadError}
use Rattle.sn_io.specs.declared.inputs.ReadError.TheVariants as errors
use Rattle.sn_pcap.specs.declared.header.Header.{Header}
use Rattle.sn_pcap.specs.declared.header.HeadFault.{HeadFault}
use Rattle.sn_pcap.specs.declared.packet.Packet.{Packet}
use Rattle.sn_pcap.specs.declared.packet.Ending.{Ending}
use Rattle.sn_pcap.specs.declared.packet.Ending.TheVariants as endings
use Rattle.sn_pcap.specs.declared.seen.Seen.{Seen}
use Rattle.sn_pcap.specs.declared.seen.Next.{Next}
use Rattle.sn_pcap.specs.declared.seen.Next.TheVariants as next
use Rattle.sn_pcap.specs.declared.seen.Last.{Last}
use Rattle.sn_pcap.specs.declared.seen.Last.TheVariants as last
use Rattle.sn_pcap.specs.Capture.{head_of, bytes_of}
use Rattle.sn_pcap.specs.Reading.{within, last_of, IsSeen, ReaderState, made, answer_of, Left, records, Takes}
use Rattle.sn_command.specs.declared.fault.Fault.{Fault}
use Rattle.sn_command.specs.declared.fault.Fault.TheVariants as faults
use Rattle.sn_command.specs.declared.refusal.Refusal.{Refusal}
use Rattle.sn_command.specs.declared.refusal.Refusal.TheVariants.{Memory, Usage, Missing, ReadFault, WriteFault, Refused}
use Rattle.sn_command.specs.Refusals.{refusing, seen_as}
use Rattle.sn_command.specs.Outcomes.{Outcome, silent, Stage, Keeps}
use Rattle.sn_command.specs.Runs.{Runs, Leads}
use Rattle.sn_command.specs.Stages.{Does, Adds, Gives, GoesOn, named, Then}
use Rattle.sn_command.specs.Worlds.{World, Sunk, AnyUnknown, AnyRose, Spares, Follows}
use Rattle.sn_command.proofs.OutcomeLemmas.{silent_keeps, chance_keeps}
use Rattle.sn_command.proofs.StageLemmas.{MayCome, runs_chance, runs_gives, runs_stops, runs_then, runs_earlier, text_stops, text_then, err_err}
use Rattle.sn_command.proofs.WorldLemmas.{follows_self, spares_none, spares_self}
use Rattle.sn_windows.specs.Numbering.{next_number, next_count}
use Rattle.sn_windows.specs.Windows.{numbered}
use Rattle.sn_command_capture.specs.Wording.{IsCausal, IsLate, StopsInTime, Wording}
use Rattle.sn_command_capture.specs.Stopping.{IsDue, refusal_of}
use Rattle.sn_command_capture.specs.declared.stop.Stop.{Stop}
use Rattle.sn_command_capture.specs.declared.stop.Stop.TheVariants as stops
use Rattle.sn_command_capture.specs.Capture.{known_bytes, Whole, Head, Found, RecordsIn, packet_tuple, time_of, ending_verdict, windows_outcome, WindowsIn, WindowsOf}
use Rattle.sn_command_capture.specs.Gathering.{Gathering, after, all_of, begins, closed_as, closing, closing_of, hand_stop, hand_text, joined, none_gathered, refused, taken}
use Rattle.sn_pcap.proofs.ReportedLemmas.{at_reported}
use Rattle.sn_command_capture.proofs.GatherLemmas.{left_of, followed_by, gathered_all}
use Rattle.sn_windows.specs.Rising.{Window}
use Rattle.sn_base.proofs.Tests.{by_order as below_or_not}
use Rattle.sn_windows.specs.Blocks.{most_records}

-- a run of a stage is one of another that allows no more over the files that are known
pub runs_reported : {A : Type 0} {names : List (List ℕ)} {from to : Stage A} {before now : World} {answer : Result A Refusal}
    → ((files : ByName (List ℕ)) → before.files.reported ≡ Some files → (outcome : Outcome A) → to files outcome → from files outcome) → Runs names from before answer now → Runs names to before answer now
runs_reported within r = record {
  keeps = λ files reported outcome is. r.keeps files reported outcome (within files reported outcome is);
  missing = r.missing;
  read_fault = r.read_fault;
  write_fault = r.write_fault;
  words = r.words;
  others = r.others;
  queries = r.queries;
  switch = r.switch;
  follows = r.follows;
}

-- one file was read, nothing was written, and the answer is what is due, or a chance
module _ {A : Type 0} (name : List ℕ) (stage : Stage A) (answer : Result A Refusal) (before now : World) (follows : Follows before now) (spares : Spares (name ∷ []) before.files now.files) (out : now.out ≡ before.out)
    (no_usage : answer ≡ Err Usage → ⊥) (no_write : answer ≡ Err WriteFault → ⊥) (missing : answer ≡ Err Missing → get before.files.faults name ≡ None) (fault : answer ≡ Err ReadFault → RoseAt name before.files.faults now.files.faults) (late : (fault : Fault) → answer ≡ Err (Refused fault) → MayCome {A = A} 0 (Err fault)) where
  kept : Keeps (silent answer) answer before.out.written now.out.written
  kept = subst (λ (o : Sunk). Keeps (silent answer) answer before.out.written o.written) (sym out) (silent_keeps answer before.out.written)

  pub runs_read : ((files : ByName (List ℕ)) → before.files.reported ≡ Some files → (outcome : Outcome A) → stage files outcome → outcome ≡ silent answer) → Runs (name ∷ []) stage before answer now
  runs_read due = record {
    keeps = λ files reported outcome is. subst (λ (o : Outcome A). Keeps o answer before.out.written now.out.written) (sym (due files reported outcome is)) kept;
    missing = λ e. inl (missing e);
    read_fault = λ e. inl (fault e);
    write_fault = λ e. absurd (no_write e);
    words = no_usage;
    others = spares;
    queries = λ fault e. absurd (let no : 0 ≡ 2 = late (faults.Queries fault) e in omega arith);
    switch = λ fault e. absurd (let no : 1 ≤ 0 = late (faults.Switch fault) e in omega arith);
    follows = follows;
  }

-- a refused header refuses neither the queries nor the switch
pub head_may : (found : HeadFault) (fault : Fault) → ◌≡◌ {A = Result Header Refusal} (Err (Refused (faults.Head found))) (Err (Refused fault)) → MayCome {A = Header} 0 (Err fault)
head_may found fault e = subst (λ (f : Fault). MayCome {A = Header} 0 (Err f)) (let same : faults.Head found ≡ fault = cc in same) tt

-- a read of one file leaves all else
pub read_follows : (name : List ℕ) (before now : World) → now.files.reported ≡ before.files.reported → OnlyRises name before.files.faults now.files.faults → now.out ≡ before.out → now.places ≡ before.places → Follows before now
read_follows name before now reported rises out places = record {
  reported = reported;
  known = known_still name before.files.faults now.files.faults rises;
  faults = none_fell name before.files.faults now.files.faults rises;
  write_faults = let e = ap (λ (s : Sunk). s.faults) out in omega arith;
  empty_takes = let e = ap (λ (s : Sunk). s.empty_takes) out in omega arith;
  places = places;
}

-- over files with known contents, a known name has a file
pub file_known : (files : ByName (List ℕ)) (counts : ByName ℕ) (name : List ℕ) → is_some (get files name) ≡ is_some (get counts name) → is_some (get counts name) ≡ true → (file : List ℕ) × (get files name ≡ Some file)
file_known files counts name law known = of (get files name) refl (law ∙ known)
  where
    of : (o : Option (List ℕ)) → get files name ≡ o → is_some o ≡ true → (file : List ℕ) × (get files name ≡ Some file)
    of None e k = absurd (false≢true k)
    of (Some file) e k = (file, e)

-- out of memory, before anything was read or written
pub runs_memory : {A : Type 0} (names : List (List ℕ)) (stage : Stage A) (w : World) → Runs names stage w (Err Memory) w
runs_memory names stage w = record {
  keeps = λ files reported outcome is. chance_keeps outcome Memory w.out.written refl;
  missing = λ e. absurd cc;
  read_fault = λ e. absurd cc;
  write_fault = λ e. absurd cc;
  words = λ e. absurd cc;
  others = spares_self names w.files;
  queries = λ fault e. absurd cc;
  switch = λ fault e. absurd cc;
  follows = follows_self w;
}

-- ---- a file that is known

record Goes {B : Type 0} (second : List ℕ → Stage B) (files : ByName (List ℕ)) (file : List ℕ) (outcome : Outcome B) : Type 0 where
  rest : Outcome B
  is : second file files rest
  same : outcome ≡ rest

-- over a known file, a stage goes on from its bytes
goes_whole : {B : Type 0} (second : List ℕ → Stage B) (files : ByName (List ℕ)) (name file : List ℕ) (outcome : Outcome B) → get files name ≡ Some file → Then (Whole name) second files outcome → Goes second files file outcome
goes_whole {B} second files name file outcome held t =
    let begun : t.begun ≡ silent (Ok file) = t.begins ∙ ap (λ (o : Option (List ℕ)). silent (known_bytes o)) held in
    let goes : GoesOn second files [] (Ok file) outcome = subst (λ (o : Outcome (List ℕ)). GoesOn second files o.text o.end outcome) begun t.goes_on in
    record { rest = goes.0; is = goes.1; same = goes.2 }

-- the header of a known file
pub head_outcome : (name : List ℕ) (files : ByName (List ℕ)) (file : List ℕ) (outcome : Outcome Header) → get files name ≡ Some file → Head name files outcome → outcome ≡ silent (refusing (named faults.Head (head_of file)))
head_outcome name files file outcome held t =
    let goes = goes_whole (λ bytes. Gives (named faults.Head (head_of bytes))) files name file outcome held t in
    goes.same ∙ goes.is

-- the header of a file with known contents
pub head_due : (reported : Option (ByName (List ℕ))) (counts : ByName ℕ) (name : List ℕ) (found : Result Header HeadFault) → is_some (get counts name) ≡ true → ((held : ByName (List ℕ)) (other : List ℕ) → reported ≡ Some held → is_some (get held other) ≡ is_some (get counts other))
    → IfSome (stated_file reported name) (λ file. found ≡ head_of file) → (files : ByName (List ℕ)) → reported ≡ Some files → (outcome : Outcome Header) → Head name files outcome → outcome ≡ silent (refusing (named faults.Head found))
head_due reported counts name found known law head files same outcome is =
    let file = file_known files counts name (law files name same) known in
    let found_is : found ≡ head_of file.0 = at_reported (λ f. found ≡ head_of f) (stated_file reported name) file.0 (ap (λ (t : Option (ByName (List ℕ))). stated_file t name) same ∙ file.1) head in
    head_outcome name files file.0 outcome file.1 is ∙ ap (λ (h : Result Header HeadFault). silent (refusing (named faults.Head h))) (sym found_is)

none_like : {X Y : Type 0} (a : Option X) (b : Option Y) → is_some a ≡ is_some b → a ≡ None → b ≡ None
none_like a None same e = refl
none_like a (Some y) same e = absurd (false≢true (sym (ap is_some e) ∙ same))

-- the header of a file that isn't known
pub head_missing : (reported : Option (ByName (List ℕ))) (counts : ByName ℕ) (name : List ℕ) → get counts name ≡ None → ((held : ByName (List ℕ)) (other : List ℕ) → reported ≡ Some held → is_some (get held other) ≡ is_some (get counts other))
    → (files : ByName (List ℕ)) → reported ≡ Some files → (outcome : Outcome Header) → Head name files outcome → outcome ≡ silent (Err Missing)
head_missing reported counts name unknown law files same outcome t =
    let none : get files name ≡ None = none_like (get counts name) (get files name) (sym (law files name same)) unknown in
    let begun : t.begun ≡ silent (Err Missing) = t.begins ∙ ap (λ (o : Option (List ℕ)). silent (known_bytes o)) none in
    subst (λ (o : Outcome (List ℕ)). GoesOn (λ bytes. Gives (named faults.Head (head_of bytes))) files o.text o.end outcome) begun t.goes_on

-- what a reader and what is gathered leave of the windows of a capture
pub record LeftOver (wording : Wording) (link : Link) (capture : List ℕ) (reader : ReaderState) (g : Gathering) (files : ByName (List ℕ)) (outcome : Outcome (List Window × Ending)) : Type 0 where
  pub file : List ℕ
  pub held : get files capture ≡ Some file
  pub packets : List Packet
  pub end : Last
  pub left : Left file reader packets end
  pub is : outcome ≡ left_of wording (packet_tuple link (within file)) g packets end

-- a reader that was made leaves all of a known capture
left_all : (wording : Wording) (causal : IsCausal wording) (in_time : StopsInTime wording) (window : ℕ) (header : Header) (capture : List ℕ) (files : ByName (List ℕ)) (file : List ℕ) (outcome rest : Outcome (List Window × Ending)) (verdict : Result Found Fault) → get files capture ≡ Some file → outcome ≡ rest
    → RecordsIn header (within file) verdict → GoesOn (λ found. Does (windows_outcome wording (packet_tuple header.link (within file)) (numbered time_of window found.packets) (last_of file found.ending))) files [] (refusing verdict) rest
    → LeftOver wording header.link capture (made header) (none_gathered window) files outcome
left_all wording causal in_time window header capture files file outcome rest (Ok found) held same are goes = record {
  file = file;
  held = held;
  packets = found.packets;
  end = last_of file found.ending;
  left = records found.packets found.ending (last_of file found.ending) refl are refl;
  is = same ∙ goes.2 ∙ goes.1 ∙ sym (gathered_all wording (packet_tuple header.link (within file)) causal in_time window found.packets (last_of file found.ending));
}
left_all wording causal in_time window header capture files file outcome rest (Err fault) held same are goes = absurd are

pub left_begin : (wording : Wording) (causal : IsCausal wording) (in_time : StopsInTime wording) (window : ℕ) (header : Header) (capture : List ℕ) (files : ByName (List ℕ)) (outcome : Outcome (List Window × Ending)) (file : List ℕ) → get files capture ≡ Some file → WindowsOf wording window capture header files outcome
    → LeftOver wording header.link capture (made header) (none_gathered window) files outcome
left_begin wording causal in_time window header capture files outcome file held t =
    let whole = goes_whole (WindowsIn wording window header) files capture file outcome held t in
    let judged = whole.is in
    let begun : judged.begun ≡ silent (refusing judged.begins.verdict) = judged.begins.same in
    let second : Found → Stage (List Window × Ending) = λ found. Does (windows_outcome wording (packet_tuple header.link (within file)) (numbered time_of window found.packets) (last_of file found.ending)) in
    left_all wording causal in_time window header capture files file outcome whole.rest judged.begins.verdict held whole.same judged.begins.is
    (subst (λ (o : Outcome Found). GoesOn second files o.text o.end whole.rest) begun judged.goes_on)

-- ---- one packet

front_bytes : (bytes : List ℕ) (cap len : ℕ) → len ≡ min cap 128 → take len (take cap bytes) ≡ take 128 (take cap bytes)
front_bytes bytes cap len is =
    below_or_not 128 cap
    (λ more. ap (λ (k : ℕ). take k (take cap bytes)) (let e : len ≡ 128 = omega arith in e))
    (λ few. ap (λ (k : ℕ). take k (take cap bytes)) (let e : len ≡ cap = omega arith in e)
    ∙ take_all cap (take cap bytes) (omega (arith, length-take cap bytes)) ∙ sym (take_all 128 (take cap bytes) (omega (arith, length-take cap bytes))))

-- the tuple of a packet that was read is the packet's
tuple_is : (link : Link) (file : List ℕ) (packet : Packet) (seen : Seen) → IsSeen file packet seen → tuple link seen.wire (take seen.len seen.front) ≡ packet_tuple link file packet
tuple_is link file packet seen is =
    ap (λ (w : ℕ). tuple link w (take seen.len seen.front)) is.wire
    ∙ ap (tuple link packet.wire) (is.front ∙ front_bytes (drop packet.at file) packet.cap seen.len is.len)
    ∙ tuple_front link packet.wire (bytes_of file packet)

goes_followed : {A B : Type 0} (files : ByName (List ℕ)) (f : A → Outcome B) (second : A → Stage B) (text : List ℕ) (end : Result A Refusal) (outcome : Outcome B) → outcome ≡ followed_by text end f → ((a : A) → second a files (f a)) → GoesOn second files text end outcome
goes_followed files f second text (Ok a) outcome is rest = (f a, rest a, is)
goes_followed files f second text (Err refusal) outcome is rest = is

abbrev pub packet_answer : Result Next ReadError
packet_answer = Ok next.Packet

abbrev pub end_answer : Ending → Result Next ReadError
end_answer ending = Ok (next.End ending)

abbrev pub large_answer : Result Next ReadError
large_answer = Err errors.TooLarge

never_large : packet_answer ≡ large_answer → ⊥
never_large e = cc

never_packet : (l : Last) → packet_answer ≡ answer_of l → ⊥
never_packet (last.Ended ending) e = cc
never_packet last.TooLarge e = cc

never_end : (ending : Ending) → packet_answer ≡ end_answer ending → ⊥
never_end ending e = cc

ended_is : (l : Last) (ending : Ending) → end_answer ending ≡ answer_of l → l ≡ last.Ended ending
ended_is (last.Ended e) ending is = cc
ended_is last.TooLarge ending is = absurd cc

large_is : (l : Last) → large_answer ≡ answer_of l → l ≡ last.TooLarge
large_is (last.Ended e) is = absurd cc
large_is last.TooLarge is = refl

module _ (wording : Wording) (link : Link) (capture : List ℕ) (reader after : ReaderState) (seen : Seen) (g : Gathering) (reported : Option (ByName (List ℕ))) (files : ByName (List ℕ)) (outcome : Outcome (List Window × Ending)) (same : reported ≡ Some files) (l : LeftOver wording link capture reader g files outcome) where
  takes_here : (answer : Result Next ReadError) → answer ≢ Err errors.ReadFault → IfSome (stated_file reported capture) (λ file. (packets : List Packet) (e : Last) → Left file reader packets e → answer ≢ Err errors.ReadFault → Takes file packets e answer seen after) → Takes l.file l.packets l.end answer seen after
  takes_here answer read_on takes =
      at_reported (λ file. (packets : List Packet) (e : Last) → Left file reader packets e → answer ≢ Err errors.ReadFault → Takes file packets e answer seen after) (stated_file reported capture) l.file (ap (λ (t : Option (ByName (List ℕ))). stated_file t capture) same ∙ l.held) takes l.packets l.end l.left read_on

  -- a packet is taken, and the others are left
  pub left_packet : IfSome (stated_file reported capture) (λ file. (packets : List Packet) (e : Last) → Left file reader packets e → packet_answer ≢ Err errors.ReadFault → Takes file packets e packet_answer seen after)
      → Then (Does (taken wording g seen.time (tuple link seen.wire (take seen.len seen.front)))) (λ later. LeftOver wording link capture after later) files outcome
  left_packet takes = of l.packets l.is (takes_here packet_answer (λ e. absurd cc) takes)
    where
      of : (packets : List Packet) → outcome ≡ left_of wording (packet_tuple link (within l.file)) g packets l.end → Takes l.file packets l.end packet_answer seen after
          → Then (Does (taken wording g seen.time (tuple link seen.wire (take seen.len seen.front)))) (λ later. LeftOver wording link capture after later) files outcome
      of [] is t = absurd (never_packet l.end t.0)
      of (p ∷ ps) is t =
          let due : Outcome Gathering = taken wording g p.time (packet_tuple link (within l.file) p) in
          let due_is : due ≡ taken wording g seen.time (tuple link seen.wire (take seen.len seen.front)) =
          sym (ap (λ (time : ℕ). taken wording g time (tuple link seen.wire (take seen.len seen.front))) t.is_seen.time
          ∙ ap (taken wording g p.time) (tuple_is link (within l.file) p seen t.is_seen)) in
          record {
            begun = due;
            begins = due_is;
            goes_on = goes_followed files (λ later. left_of wording (packet_tuple link (within l.file)) later ps l.end) (λ later. LeftOver wording link capture after later) due.text due.end outcome is
                (λ later. record { file = l.file; held = l.held; packets = ps; end = l.end; left = t.left; is = refl });
          }

  -- the records end
  pub left_end : (ending : Ending) → IfSome (stated_file reported capture) (λ file. (packets : List Packet) (e : Last) → Left file reader packets e → end_answer ending ≢ Err errors.ReadFault → Takes file packets e (end_answer ending) seen after)
      → Does (closing wording g ending) files outcome
  left_end ending takes = of l.packets l.is (takes_here (end_answer ending) (λ e. absurd cc) takes)
    where
      of : (packets : List Packet) → outcome ≡ left_of wording (packet_tuple link (within l.file)) g packets l.end → Takes l.file packets l.end (end_answer ending) seen after → Does (closing wording g ending) files outcome
      of [] is t = is ∙ ap (left_of wording (packet_tuple link (within l.file)) g []) (ended_is l.end ending t.0)
      of (p ∷ ps) is t = absurd (never_end ending (sym t.answered))

  -- the capture has too many bytes
  pub left_large : IfSome (stated_file reported capture) (λ file. (packets : List Packet) (e : Last) → Left file reader packets e → large_answer ≢ Err errors.ReadFault → Takes file packets e large_answer seen after) → outcome ≡ refused wording g
  left_large takes = of l.packets l.is (takes_here large_answer (λ e. absurd cc) takes)
    where
      of : (packets : List Packet) → outcome ≡ left_of wording (packet_tuple link (within l.file)) g packets l.end → Takes l.file packets l.end large_answer seen after → outcome ≡ refused wording g
      of [] is t = is ∙ ap (left_of wording (packet_tuple link (within l.file)) g []) (large_is l.end t.0)
      of (p ∷ ps) is t = absurd (never_large (sym t.answered))

-- ---- the turn of the loop

module _ {A B : Type 0} {names : List (List ℕ)} {left whole : Stage B} {due : Outcome A} {later : A → Stage B} {first before mid after : World} (follows : Follows before mid) (spares : Spares names before.files mid.files) (out : mid.out ≡ before.out)
    (goes : (files : ByName (List ℕ)) → before.files.reported ≡ Some files → (outcome : Outcome B) → left files outcome → Then (Does due) later files outcome) (leads : Leads names left whole first before) where
  pub turn_goes : {value : A} → Runs [] (Does due) mid (Ok value) after → Leads names (later value) whole first after
  turn_goes r = λ answer end s. leads answer end (runs_reported goes (runs_earlier follows spares out (runs_then names r s)))

  pub turn_stops : {refusal : Refusal} → Runs [] (Does due) mid (Err refusal) after → Runs names whole first (Err refusal) after
  turn_stops {refusal} r = leads (Err refusal) after (runs_reported goes (runs_earlier follows spares out (runs_stops names r)))

-- a run that reads no file is one that may read a file
pub with_name : {A : Type 0} {stage : Stage A} {before now : World} {answer : Result A Refusal} (name : List ℕ) → Runs [] stage before answer now → Runs (name ∷ []) stage before answer now
with_name {before = before} {now} name r = record {
  keeps = r.keeps;
  missing = λ e. absurd (r.missing e);
  read_fault = λ e. absurd (r.read_fault e);
  write_fault = r.write_fault;
  words = r.words;
  others = spares_none (name ∷ []) before.files now.files r.others;
  queries = λ fault e. let q = r.queries fault e in (q.0, spares_none (name ∷ []) before.files now.files q.1);
  switch = λ fault e. let q = r.switch fault e in (q.0, λ other none. q.1 other tt);
  follows = r.follows;
}

-- the same file is read twice
pub same_name : {A : Type 0} {stage : Stage A} {before now : World} {answer : Result A Refusal} {name : List ℕ} → Runs (name ∷ name ∷ []) stage before answer now → Runs (name ∷ []) stage before answer now
same_name {before = before} {now} {name = name} r = record {
  keeps = r.keeps;
  missing = λ e. once_unknown (r.missing e);
  read_fault = λ e. once_rose (r.read_fault e);
  write_fault = r.write_fault;
  words = r.words;
  others = once_spared r.others;
  queries = r.queries;
  switch = λ fault e. let q = r.switch fault e in (q.0, λ other none. q.1 other tt);
  follows = r.follows;
}
  where
    once_spared : Spares (name ∷ name ∷ []) before.files now.files → Spares (name ∷ []) before.files now.files
    once_spared s other none = s other (none.0, none)

    once_unknown : AnyUnknown (name ∷ name ∷ []) before.files → AnyUnknown (name ∷ []) before.files
    once_unknown (inl none) = inl none
    once_unknown (inr (inl none)) = inl none
    once_unknown (inr (inr none)) = absurd none

    once_rose : AnyRose (name ∷ name ∷ []) before.files now.files → AnyRose (name ∷ []) before.files now.files
    once_rose (inl rose) = inl rose
    once_rose (inr (inl rose)) = inl rose
    once_rose (inr (inr none)) = absurd none

-- the last turn
pub turn_ends : {B : Type 0} {name : List ℕ} {left whole : Stage B} {due : Outcome B} {first before mid after : World} {answer : Result B Refusal} → Follows before mid → Spares (name ∷ []) before.files mid.files → mid.out ≡ before.out
    → ((files : ByName (List ℕ)) → before.files.reported ≡ Some files → (outcome : Outcome B) → left files outcome → Does due files outcome) → Leads (name ∷ []) left whole first before → Runs [] (Does due) mid answer after → Runs (name ∷ []) whole first answer after
turn_ends {name = name} {after = after} {answer = answer} follows spares out is leads r = leads answer after (runs_reported is (runs_earlier follows spares out (with_name name r)))

-- ---- a window is closed

-- the value that a run gives is seen otherwise
module _ {A B : Type 0} (view : A → B) where
  abbrev viewed : Outcome A → Outcome B
  viewed o = record { text = o.text; end = seen_as view o.end }

  keeps_seen : (o : Outcome A) (answer : Result A Refusal) (before now : Option (List ℕ)) → Keeps o answer before now → Keeps (viewed o) (seen_as view answer) before now
  keeps_seen o (Ok a) before now k = record { front = k.front; ends = λ e. ap (seen_as view) (k.ends e); whole = k.whole }
  keeps_seen o (Err refusal) before now k = record { front = k.front; ends = λ e. ap (seen_as view) (k.ends e); whole = k.whole }

  seen_err : (answer : Result A Refusal) {refusal : Refusal} → ◌≡◌ {A = Result B Refusal} (seen_as view answer) (Err refusal) → ◌≡◌ {A = Result A Refusal} answer (Err refusal)
  seen_err (Ok a) e = absurd (let other = e in cc)
  seen_err (Err refusal) e = err_err e

  runs_seen : {before now : World} (o : Outcome A) (answer : Result A Refusal) → Runs [] (Does o) before answer now → Runs [] (Does (viewed o)) before (seen_as view answer) now
  runs_seen {before} {now} o answer r = record {
    keeps = λ files reported outcome is. subst (λ (p : Outcome B). Keeps p (seen_as view answer) before.out.written now.out.written) (sym is) (keeps_seen o answer before.out.written now.out.written (r.keeps files reported o refl));
    missing = λ e. r.missing (seen_err answer e);
    read_fault = λ e. r.read_fault (seen_err answer e);
    write_fault = λ e. r.write_fault (seen_err answer e);
    words = λ e. r.words (seen_err answer e);
    others = r.others;
    queries = λ fault e. r.queries fault (seen_err answer e);
    switch = λ fault e. r.switch fault (seen_err answer e);
    follows = r.follows;
  }

-- a fault that comes late may come
late_may : (A : Type 0) (fault : Fault) → IsLate fault → MayCome {A = A} 0 (Err fault)
late_may A (faults.Queries fault) late = absurd late
late_may A (faults.Switch fault) late = absurd late
late_may A (faults.Head fault) late = tt
late_may A (faults.HeadOf fault file) late = tt
late_may A (faults.Cut at) late = tt
late_may A (faults.CutOf at file) late = tt
late_may A (faults.Bad at) late = tt
late_may A (faults.BadOf at file) late = tt
late_may A (faults.Plan fault) late = tt
late_may A (faults.Misfit misfit) late = tt
late_may A (faults.Tree fault) late = tt
late_may A (faults.Unshown flaw) late = tt
late_may A (faults.Budget spent) late = tt
late_may A (faults.Reports fault) late = tt
late_may A faults.TooLarge late = tt

-- a window that is closed gives this value
module _ {A : Type 0} (stop : Option Fault) (block : List ℕ) (value : A) where
  closed_view : (o : Option Fault) → closed_as o block value ≡ viewed {A = Unit {0}} (λ _. value) (closed_as o block tt)
  closed_view None = refl
  closed_view (Some fault) = refl

  pub runs_closing : {before now : World} (answer : Result (Unit {0}) Refusal) → Runs [] (Does (closed_as stop block tt)) before answer now → Runs [] (Does (closed_as stop block value)) before (seen_as (λ _. value) answer) now
  runs_closing {before} {now} answer r =
      subst (λ (o : Outcome A). Runs [] (Does o) before (seen_as (λ _. value) answer) now) (sym (closed_view stop)) (runs_seen {A = Unit {0}} (λ _. value) (closed_as stop block tt) answer r)

module _ (stop : Option Fault) (block : List ℕ) where
  -- its block went out, or couldn't
  pub runs_block : {before now : World} (text : List ℕ) (answer : Result (Unit {0}) Refusal) → stop ≡ None → text ≡ block → Runs [] (Adds text) before answer now → Runs [] (Does (closed_as stop block tt)) before answer now
  runs_block text answer none same r = rw (none, sym same) r

  -- it stops, or memory ran out
  pub runs_stop : (w : World) (reason : Stop) → IsDue stop reason → ((fault : Fault) → stop ≡ Some fault → IsLate fault) → Runs [] (Does {A = Unit {0}} (closed_as stop block tt)) w (Err (refusal_of reason)) w
  runs_stop w stops.Memory due late = runs_chance _ w
  runs_stop w (stops.Refused fault) due late = rw due (runs_gives (Err fault) w (late_may (Unit {0}) fault (late fault due)))

-- ---- one packet, in code

module _ (wording : Wording) (g : Gathering) (time : ℕ) (shown : List ℕ) where
  abbrev few_taken : Outcome Gathering
  few_taken = if next_number g.numbering time == g.numbering.number then silent (Ok (joined g time shown)) else closed_as (hand_stop wording g) (hand_text wording g) (begins g time shown)

  few_is : next_count g.numbering time < most_records → taken wording g time shown ≡ few_taken
  few_is few = ap (λ (b : Bool). if b then refused wording g else few_taken) (lt-leb most_records (next_count g.numbering time) few)

  pub after_here : next_number g.numbering time ≡ g.numbering.number → after g time shown ≡ joined g time shown
  after_here same = ap (λ (b : Bool). if b then joined g time shown else begins g time shown) (eq-eqb (next_number g.numbering time) g.numbering.number same)

  pub after_next : (next_number g.numbering time ≡ g.numbering.number → ⊥) → after g time shown ≡ begins g time shown
  after_next other = ap (λ (b : Bool). if b then joined g time shown else begins g time shown) (ne_eqb (next_number g.numbering time) g.numbering.number other)

  -- the current window has too many records
  pub runs_many : (w later : World) (refusal : Refusal) → most_records ≤ next_count g.numbering time → Runs [] (Does (refused {A = Gathering} wording g)) w (Err refusal) later → Runs [] (Does (taken wording g time shown)) w (Err refusal) later
  runs_many w later refusal many r =
      let is : taken wording g time shown ≡ refused wording g = ap (λ (b : Bool). if b then refused wording g else few_taken) (le-leb most_records (next_count g.numbering time) many) in
      subst (λ (o : Outcome Gathering). Runs [] (Does o) w (Err refusal) later) (sym is) r

  -- the record is of the current window
  pub runs_joined : (w : World) → next_count g.numbering time < most_records → next_number g.numbering time ≡ g.numbering.number → Runs [] (Does (taken wording g time shown)) w (Ok (after g time shown)) w
  runs_joined w few same =
      let is : taken wording g time shown ≡ silent (Ok (joined g time shown)) = few_is few ∙ ap (λ (b : Bool). if b then silent (Ok (joined g time shown)) else closed_as (hand_stop wording g) (hand_text wording g) (begins g time shown)) (eq-eqb (next_number g.numbering time) g.numbering.number same) in
      subst (λ (o : Outcome Gathering). Runs [] (Does o) w (Ok (after g time shown)) w) (sym (is ∙ ap (λ (v : Gathering). silent (Ok v)) (sym (after_here same)))) (runs_gives (Ok (after g time shown)) w tt)

  begun_is : next_count g.numbering time < most_records → (next_number g.numbering time ≡ g.numbering.number → ⊥) → taken wording g time shown ≡ closed_as (hand_stop wording g) (hand_text wording g) (after g time shown)
  begun_is few other =
      few_is few ∙ ap (λ (b : Bool). if b then silent (Ok (joined g time shown)) else closed_as (hand_stop wording g) (hand_text wording g) (begins g time shown)) (ne_eqb (next_number g.numbering time) g.numbering.number other)
      ∙ ap (closed_as (hand_stop wording g) (hand_text wording g)) (sym (after_next other))

  -- it begins the next one, and the current one was closed, or wasn't
  pub runs_begun : (w later : World) (answer : Result (Unit {0}) Refusal) → next_count g.numbering time < most_records → (next_number g.numbering time ≡ g.numbering.number → ⊥)
      → Runs [] (Does (closed_as (hand_stop wording g) (hand_text wording g) tt)) w answer later → Runs [] (Does (taken wording g time shown)) w (seen_as (λ _. after g time shown) answer) later
  runs_begun w later answer few other r =
      subst (λ (o : Outcome Gathering). Runs [] (Does o) w (seen_as (λ _. after g time shown) answer) later) (sym (begun_is few other)) (runs_closing (hand_stop wording g) (hand_text wording g) (after g time shown) answer r)

-- a text went out, or couldn't, and the work is refused after it
module _ {A : Type 0} (text : List ℕ) (before now : World) where
  abbrev refused_then : Outcome A
  refused_then = record { text = text; end = Err (Refused faults.TooLarge) }

  pub runs_refused : Runs [] (Adds text) before (Ok tt) now → Runs [] (Does refused_then) before (Err (Refused faults.TooLarge)) now
  runs_refused r =
      subst (λ (bytes : List ℕ). Runs {A = A} [] (Does (record { text = bytes; end = Err (Refused faults.TooLarge) })) before (Err (Refused faults.TooLarge)) now) (append-nil text)
      (text_then text (silent (Err (Refused faults.TooLarge))) r (runs_gives (Err faults.TooLarge) now tt))

  pub runs_unrefused : {refusal : Refusal} → Runs [] (Adds text) before (Err refusal) now → Runs [] (Does refused_then) before (Err refusal) now
  runs_unrefused {refusal} r =
      subst (λ (bytes : List ℕ). Runs {A = A} [] (Does (record { text = bytes; end = Err (Refused faults.TooLarge) })) before (Err refusal) now) (append-nil text)
      (text_stops text (silent (Err (Refused faults.TooLarge))) r)

pub refused_elsewhere : {A B : Type 0} {text : List ℕ} {due refusal : Refusal} {before now : World} → Runs [] (Does {A = A} (record { text = text; end = Err due })) before (Err refusal) now
    → Runs [] (Does {A = B} (record { text = text; end = Err due })) before (Err refusal) now
refused_elsewhere {A} {B} {text} {due} {refusal} {before} {now} r = record {
  keeps = λ files reported outcome is.
      let k : Keeps {A = A} (record { text = text; end = Err due }) (Err refusal) before.out.written now.out.written = r.keeps files reported (record { text = text; end = Err due }) refl in
      subst (λ (o : Outcome B). Keeps o (Err refusal) before.out.written now.out.written) (sym is) (record { front = k.front; ends = λ e. err_err (k.ends e); whole = k.whole });
  missing = λ e. r.missing (err_err e);
  read_fault = λ e. r.read_fault (err_err e);
  write_fault = λ e. r.write_fault (err_err e);
  words = λ e. r.words (err_err e);
  others = r.others;
  queries = λ fault e. r.queries fault (err_err e);
  switch = λ fault e. r.switch fault (err_err e);
  follows = r.follows;
}

-- a text went out, and then memory ran out
pub added_wanting : (text : List ℕ) (before now : World) → Runs [] (Adds text) before (Ok tt) now → Runs [] (Adds text) before (Err Memory) now
added_wanting text before now r =
    subst (λ (bytes : List ℕ). Runs [] (Adds bytes) before (Err Memory) now) (append-nil text) (text_then text (silent (Ok tt)) r (runs_chance _ now))

module _ (wording : Wording) (number : ℕ) (closed : List Window) (ending : Ending) where
  abbrev shut : List (List ℕ) → List Window
  shut tuples = closed ++ (number, tuples) ∷ []

  some_closing : (tuples : List (List ℕ)) → 0 < length tuples
      → closing_of wording number closed ending tuples ≡ closed_as (wording.stops (shut tuples) number tuples) (wording.block (shut tuples) number tuples) (all_of number closed tuples, ending)
  some_closing [] some = absurd (omega arith)
  some_closing (t ∷ ts) some = refl

  pub all_some : (tuples : List (List ℕ)) → 0 < length tuples → all_of number closed tuples ≡ shut tuples
  all_some [] some = absurd (omega arith)
  all_some (t ∷ ts) some = refl

  -- there is no window
  pub runs_none : (tuples : List (List ℕ)) (w : World) → tuples ≡ [] → Runs [] (Does (closing_of wording number closed ending tuples)) w (Ok (all_of number closed tuples, ending)) w
  runs_none tuples w none = rw none (runs_gives (Ok (closed, ending)) w tt)

  -- the current window was closed, or wasn't
  pub runs_closed : (tuples : List (List ℕ)) (w later : World) (answer : Result (Unit {0}) Refusal) → 0 < length tuples
      → Runs [] (Does (closed_as (wording.stops (shut tuples) number tuples) (wording.block (shut tuples) number tuples) tt)) w answer later
      → Runs [] (Does (closing_of wording number closed ending tuples)) w (seen_as (λ _. (all_of number closed tuples, ending)) answer) later
  runs_closed tuples w later answer some r =
      subst (λ (o : Outcome (List Window × Ending)). Runs [] (Does o) w (seen_as (λ _. (all_of number closed tuples, ending)) answer) later) (sym (some_closing tuples some))
      (runs_closing (wording.stops (shut tuples) number tuples) (wording.block (shut tuples) number tuples) (all_of number closed tuples, ending) answer r)

pub few_of : (count : ℕ) → (most_records ≤ count → false ≡ true) → count < most_records
few_of count many = below_or_not count most_records (λ few. few) (λ more. absurd (false≢true (many more)))

-- how records end never refuses the queries or the switch
pub ending_may : (ending : Ending) → MayCome 0 (ending_verdict ending)
ending_may endings.Clean = tt
ending_may (endings.Cut at) = tt
ending_may (endings.Bad at) = tt
