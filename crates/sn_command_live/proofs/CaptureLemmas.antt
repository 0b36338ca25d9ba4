-- Captures that were answered or trained on, to their ends.
use Rattle.std.proofs.Common.{◌≡◌, ℕ, List, [], ◌∷◌, ◌++◌, Bool, true, false, cond, map, length, inl, inr, Option, Some, None, Result, Ok, Err, refl, ap, sym, ◌∙◌, subst, append-nil}
use Rattle.std.specs.Prelude.{◌⊎◌, ◌&&◌, ◌^◌, nat_lt}
use Rattle.std.specs.FinMap.{get}
use Rattle.std.specs.List.{flat_map, list_all}
use Rattle.std.proofs.lemmas.Bool.{false≢true}
use Rattle.sn_command_capture.specs.Capture.{AfterHead, Answered, Head, LastLines, RecordsIn, Whole, WindowsIn, WindowsOf, block_in, blocks_in, ending_verdict, known_bytes, packet_tuple, time_of, windows_in, windows_outcome, windows_refused, windows_whole}
use Rattle.sn_command_capture.specs.Wording.{NeverStops, Wording}
use Rattle.sn_command_capture.proofs.UnstoppedLemmas.{unstopped}
use Rattle.sn_base.proofs.Lists.{by_test}
use Rattle.sn_io.specs.Counts.{ByName}
use Rattle.sn_pcap.specs.Capture.{Records, head_of}
use Rattle.sn_pcap.specs.Reading.{last_of, within}
use Rattle.sn_pcap.specs.declared.header.Header.{Header}
use Rattle.sn_pcap.specs.declared.header.HeadFault.{HeadFault}
use Rattle.sn_pcap.specs.declared.packet.Ending.{Ending}
use Rattle.sn_pcap.specs.declared.packet.Ending.TheVariants as endings
use Rattle.sn_pcap.specs.declared.packet.Packet.{Packet}
use Rattle.sn_pcap.specs.declared.seen.Last.{Last}
use Rattle.sn_pcap.specs.declared.seen.Last.TheVariants as last
use Rattle.sn_pcap.proofs.OneCapture.{records_once}
use Rattle.sn_command.specs.declared.fault.Fault.TheVariants as faults
use Rattle.sn_command.specs.declared.refusal.Refusal.{Refusal}
use Rattle.sn_command.specs.declared.refusal.Refusal.TheVariants.{Missing, Refused}
use Rattle.sn_command.specs.Outcomes.{Outcome, Stage}
use Rattle.sn_command.specs.Refusals.{refusing}
use Rattle.sn_command.specs.Stages.{Adds, Does, Gives, GoesOn, Judges, Then, named}
use Rattle.sn_windows.specs.Blocks.{all_few, is_few, while_holds}
use Rattle.sn_windows.specs.Windows.{in_window, numbered, windows_of}
use Rattle.sn_command_live.specs.Captures.{IsCapture}
use Rattle.sn_command_live.proofs.Inversions.{EndsSo, NeverSo, is_ending, judged_so, never_does, never_judges, never_then, passed}
use Rattle.sn_windows.specs.Rising.{Window}

-- ---- blocks

pub all_held : (test : ℕ → Bool) (ns : List ℕ) → list_all test ns ≡ true → while_holds test ns ≡ ns
all_held test [] h = refl
all_held test (n ∷ ns) h =
    by_test (test n)
    (λ is. ap (λ b. cond b (n ∷ while_holds test ns) []) is ∙ ap (λ (ms : List ℕ). n ∷ ms) (all_held test ns (sym (ap (λ b. b && list_all test ns) is) ∙ h)))
    (λ isnt. absurd (false≢true (sym (ap (λ b. b && list_all test ns) isnt) ∙ h)))

flat_map_map : {A B : Type 0} (f : A → B) (g : B → List ℕ) (xs : List A) → flat_map (λ x. g (f x)) xs ≡ flat_map g (map f xs)
flat_map_map f g [] = refl
flat_map_map f g (x ∷ xs) = ap (λ (ys : List ℕ). g (f x) ++ ys) (flat_map_map f g xs)

module _ (wording : Wording) (shown : Packet → List ℕ) (ps : List (ℕ × Packet)) where
  abbrev ws : List Window
  ws = windows_in shown ps

  -- where no window has too many records, each has its block
  pub each_block : all_few ps ≡ true → blocks_in wording shown ps ≡ flat_map (λ (w : Window). wording.block ws w.0 w.1) ws
  each_block few =
      ap (flat_map (λ (n : ℕ). block_in wording shown ws n (in_window n ps))) (all_held (λ n. is_few n ps) (windows_of ps) few)
      ∙ flat_map_map (λ (n : ℕ). (n, map shown (in_window n ps))) (λ (w : Window). wording.block ws w.0 w.1) (windows_of ps)

-- ---- the header

whole_cases : (file : Option (List ℕ)) → ((bytes : List ℕ) × (file ≡ Some bytes)) ⊎ (file ≡ None)
whole_cases None = inr refl
whole_cases (Some bytes) = inl (bytes, refl)

module _ (capture : List ℕ) (files : ByName (List ℕ)) where
  never_known : (file : Option (List ℕ)) (r : Refusal) → known_bytes file ≡ Err r → is_ending r ≡ false
  never_known None r e = ap is_ending (sym (missing e))
    where
      missing : ◌≡◌ {A = Result (List ℕ) Refusal} (Err Missing) (Err r) → Missing ≡ r
      missing k = cc
  never_known (Some bytes) r e = absurd (let no = e in cc)

  never_whole : NeverSo (Whole capture) files
  never_whole o r is e = never_known (get files capture) r (sym (ap (λ (o : Outcome (List ℕ)). o.end) is) ∙ e)

  known_some : (file : Option (List ℕ)) (bytes : List ℕ) → known_bytes file ≡ Ok bytes → file ≡ Some bytes
  known_some None bytes e = absurd (let no = e in cc)
  known_some (Some other) bytes e = let same : ◌≡◌ {A = Result (List ℕ) Refusal} (Ok other) (Ok bytes) = e in cc

  -- the bytes of a file that is known
  pub whole_so : (o : Outcome (List ℕ)) (bytes : List ℕ) → Whole capture files o → o.end ≡ Ok bytes → (get files capture ≡ Some bytes) × (o.text ≡ [])
  whole_so o bytes is e = (known_some (get files capture) bytes (sym (ap (λ (o : Outcome (List ℕ)). o.end) is) ∙ e), ap (λ (o : Outcome (List ℕ)). o.text) is)

  head_refusal : (head : Result Header HeadFault) (r : Refusal) → refusing (named faults.Head head) ≡ Err r → is_ending r ≡ false
  head_refusal (Ok header) r e = absurd (let no = e in cc)
  head_refusal (Err fault) r e = ap is_ending (sym (same e))
    where
      same : ◌≡◌ {A = Result Header Refusal} (Err (Refused (faults.Head fault))) (Err r) → Refused (faults.Head fault) ≡ r
      same k = cc

  never_gives : (file : List ℕ) → NeverSo (Gives (named faults.Head (head_of file))) files
  never_gives file o r is e = head_refusal (head_of file) r (sym (ap (λ (o : Outcome Header). o.end) is) ∙ e)

  never_head : NeverSo (Head capture) files
  never_head = never_then (Whole capture) (λ file. Gives (named faults.Head (head_of file))) files never_whole never_gives

  head_given : (head : Result Header HeadFault) (header : Header) → refusing (named faults.Head head) ≡ Ok header → head ≡ Ok header
  head_given (Ok h) header e = let same : ◌≡◌ {A = Result Header Refusal} (Ok h) (Ok header) = e in cc
  head_given (Err fault) header e = absurd (let no = e in cc)

  record HeadSo (header : Header) (text : List ℕ) : Type 0 where
    file : List ℕ
    has : get files capture ≡ Some file
    accepted : head_of file ≡ Ok header
    none : text ≡ []

  head_so : (o : Outcome Header) (header : Header) → Head capture files o → o.end ≡ Ok header → HeadSo header o.text
  head_so o header t e =
      let p = passed (Whole capture) (λ file. Gives (named faults.Head (head_of file))) files never_whole o t (λ r no. absurd (let k = sym e ∙ no in cc)) in
      let w = whole_so p.begun p.value p.begins p.ok in
      record {
        file = p.value;
        has = w.0;
        accepted = head_given (head_of p.value) header (sym (ap (λ (o : Outcome Header). o.end) p.goes_on) ∙ sym p.end ∙ e);
        none = p.text ∙ ap (λ (l : List ℕ). l ++ p.rest.text) w.1 ∙ ap (λ (o : Outcome Header). o.text) p.goes_on;
      }

  -- ---- the windows

  module _ (wording : Wording) (never : NeverStops wording) (window : ℕ) (header : Header) where
    abbrev shown : List ℕ → Packet → List ℕ
    shown file = packet_tuple header.link (within file)

    abbrev numbers : List Packet → List (ℕ × Packet)
    numbers packets = numbered time_of window packets

    record WindowsSo (closed : List Window × Ending) (text : List ℕ) : Type 0 where
      file : List ℕ
      has : get files capture ≡ Some file
      packets : List Packet
      records : Records header (within file) 24 packets closed.1
      are : closed.0 ≡ windows_in (shown file) (numbers packets)
      blocks : text ≡ flat_map (λ (w : Window). wording.block closed.0 w.0 w.1) closed.0

    -- a capture whose records end, as no window has too many, or one has
    abbrev ended_if : List ℕ → List (ℕ × Packet) → Ending → Bool → Outcome (List Window × Ending)
    ended_if file ps ending few =
        let text : List ℕ = blocks_in wording (shown file) ps in
        let windows : List Window = windows_in (shown file) ps in
        cond few (record { text = text; end = Ok (windows, ending) }) (windows_refused wording (last.Ended ending) text windows)

    never_end : (file : List ℕ) (ps : List (ℕ × Packet)) (l : Last) → NeverSo (Does (windows_whole wording (shown file) ps l)) files
    never_end file ps (last.Ended ending) o r is e = by_test (all_few ps)
        (λ few. absurd (let no = sym (ap (λ b. (ended_if file ps ending b).end) few) ∙ sym (ap (λ (o : Outcome (List Window × Ending)). o.end) is) ∙ e in cc))
        (λ many. ap is_ending (sym (large (sym (ap (λ b. (ended_if file ps ending b).end) many) ∙ sym (ap (λ (o : Outcome (List Window × Ending)). o.end) is) ∙ e))))
      where
        large : ◌≡◌ {A = Result (List Window × Ending) Refusal} (Err (Refused faults.TooLarge)) (Err r) → Refused faults.TooLarge ≡ r
        large k = cc
    never_end file ps last.TooLarge o r is e = ap is_ending (sym (large (sym (ap (λ (o : Outcome (List Window × Ending)). o.end) is) ∙ e)))
      where
        large : ◌≡◌ {A = Result (List Window × Ending) Refusal} (Err (Refused faults.TooLarge)) (Err r) → Refused faults.TooLarge ≡ r
        large k = cc

    never_last : (file : List ℕ) (ps : List (ℕ × Packet)) (l : Last) → NeverSo (Does (windows_outcome wording (shown file) ps l)) files
    never_last file ps l o r is e = never_end file ps l o r (is ∙ unstopped wording never (shown file) ps l) e

    never_records : (file : List ℕ) → NeverSo (Judges (RecordsIn header (within file))) files
    never_records file = never_judges (RecordsIn header (within file)) files (λ fault no. absurd no)

    never_windows : NeverSo (WindowsOf wording window capture header) files
    never_windows = never_then (Whole capture) (WindowsIn wording window header) files never_whole
        (λ file. never_then (Judges (RecordsIn header (within file))) (λ found. Does (windows_outcome wording (shown file) (numbers found.packets) (last_of file found.ending))) files (never_records file)
        (λ found. never_last file (numbers found.packets) (last_of file found.ending)))

    ended_is : (file : List ℕ) (e later : Ending) → last_of file e ≡ last.Ended later → later ≡ e
    ended_is file (endings.Bad n) later same = let k : ◌≡◌ {A = Last} (last.Ended (endings.Bad n)) (last.Ended later) = same in cc
    ended_is file endings.Clean later same = by_test (nat_lt (2 ^ 40) (length file))
        (λ is. let k : ◌≡◌ {A = Last} last.TooLarge (last.Ended later) = sym (ap (λ b. cond b last.TooLarge (last.Ended endings.Clean)) is) ∙ same in absurd cc)
        (λ isnt. let k : ◌≡◌ {A = Last} (last.Ended endings.Clean) (last.Ended later) = sym (ap (λ b. cond b last.TooLarge (last.Ended endings.Clean)) isnt) ∙ same in cc)
    ended_is file (endings.Cut n) later same = by_test (nat_lt (2 ^ 40) (length file))
        (λ is. let k : ◌≡◌ {A = Last} last.TooLarge (last.Ended later) = sym (ap (λ b. cond b last.TooLarge (last.Ended (endings.Cut n))) is) ∙ same in absurd cc)
        (λ isnt. let k : ◌≡◌ {A = Last} (last.Ended (endings.Cut n)) (last.Ended later) = sym (ap (λ b. cond b last.TooLarge (last.Ended (endings.Cut n))) isnt) ∙ same in cc)

    pair_is : (a b : List Window × Ending) → ◌≡◌ {A = Result (List Window × Ending) Refusal} (Ok a) (Ok b) → a ≡ b
    pair_is a b e = cc

    outcome_so : (ps : List (ℕ × Packet)) (file : List ℕ) (e : Ending) (l : Last) (closed : List Window × Ending) → last_of file e ≡ l → (windows_whole wording (shown file) ps l).end ≡ Ok closed
        → (closed.0 ≡ windows_in (shown file) ps) × (closed.1 ≡ e) × ((windows_whole wording (shown file) ps l).text ≡ flat_map (λ (w : Window). wording.block closed.0 w.0 w.1) closed.0)
    outcome_so ps file e (last.Ended later) closed is end = by_test (all_few ps)
        (λ few.
        let same : (windows_in (shown file) ps, later) ≡ closed = pair_is (windows_in (shown file) ps, later) closed (sym (ap (λ b. (ended_if file ps later b).end) few) ∙ end) in (
          sym (ap (λ (x : List Window × Ending). x.0) same),
          sym (ap (λ (x : List Window × Ending). x.1) same) ∙ ended_is file e later is,
          ap (λ b. (ended_if file ps later b).text) few ∙ each_block wording (shown file) ps few ∙ ap (λ (x : List Window × Ending). flat_map (λ (w : Window). wording.block x.0 w.0 w.1) x.0) same,
        ))
        (λ many. absurd (let no = sym (ap (λ b. (ended_if file ps later b).end) many) ∙ end in cc))
    outcome_so ps file e last.TooLarge closed is end = absurd (let no = end in cc)

    windows_so : (o : Outcome (List Window × Ending)) (closed : List Window × Ending) → WindowsOf wording window capture header files o → o.end ≡ Ok closed → WindowsSo closed o.text
    windows_so o closed t e =
        let p = passed (Whole capture) (WindowsIn wording window header) files never_whole o t (λ r no. absurd (let k = sym e ∙ no in cc)) in
        let w = whole_so p.begun p.value p.begins p.ok in
        let q = passed (Judges (RecordsIn header (within p.value))) (λ found. Does (windows_outcome wording (shown p.value) (numbers found.packets) (last_of p.value found.ending))) files (never_records p.value) p.rest p.goes_on
        (λ r no. absurd (let k = sym e ∙ p.end ∙ no in cc)) in
        let j = judged_so (RecordsIn header (within p.value)) files q.begun q.value q.begins q.ok in
        let whole = q.goes_on ∙ unstopped wording never (shown p.value) (numbers q.value.packets) (last_of p.value q.value.ending) in
        let so = outcome_so (numbers q.value.packets) p.value q.value.ending (last_of p.value q.value.ending) closed refl (sym (ap (λ (o : Outcome (List Window × Ending)). o.end) whole) ∙ sym q.end ∙ sym p.end ∙ e) in
        record {
          file = p.value;
          has = w.0;
          packets = q.value.packets;
          records = subst (λ (ending : Ending). Records header (within p.value) 24 q.value.packets ending) (sym so.1) j.0;
          are = so.0;
          blocks = p.text ∙ ap (λ (l : List ℕ). l ++ p.rest.text) w.1 ∙ q.text ∙ ap (λ (l : List ℕ). l ++ q.rest.text) j.1 ∙ ap (λ (o : Outcome (List Window × Ending)). o.text) whole ∙ so.2;
        }

    -- ---- the last lines

    abbrev ends : Ending → Unit {0} → Stage (Unit {0})
    ends ending u = Gives (ending_verdict ending)

    abbrev lines : List Window → Ending → Outcome (Unit {0})
    lines windows ending = record { text = wording.last windows ending; end = Ok tt }

    last_so : (windows : List Window) (ending : Ending) (o : Outcome (Unit {0})) → LastLines wording windows ending files o → (o.text ≡ wording.last windows ending) × (o.end ≡ refusing (ending_verdict ending))
    last_so windows ending o t = by_begun t.begun t.begins t.goes_on
      where
        by_begun : (begun : Outcome (Unit {0})) → begun ≡ lines windows ending → GoesOn (ends ending) files begun.text begun.end o → (o.text ≡ wording.last windows ending) × (o.end ≡ refusing (ending_verdict ending))
        by_begun begun is goes =
            let g : GoesOn (ends ending) files (wording.last windows ending) (lines windows ending).end o = subst (λ (b : Outcome (Unit {0})). GoesOn (ends ending) files b.text b.end o) is goes in (
              ap (λ (o : Outcome (Unit {0})). o.text) g.2 ∙ ap (λ (r : Outcome (Unit {0})). wording.last windows ending ++ r.text) g.1 ∙ append-nil (wording.last windows ending),
              ap (λ (o : Outcome (Unit {0})). o.end) g.2 ∙ ap (λ (r : Outcome (Unit {0})). r.end) g.1,
            )

  -- A capture was answered to its end: it has these windows; the text before them was added, then their blocks, and then the last lines.
  pub record AnsweredSo (wording : Wording) (window : ℕ) (o : Outcome (Unit {0})) : Type 0 where
    pub file : List ℕ
    pub has : get files capture ≡ Some file
    pub windows : List Window
    pub ending : Ending
    pub is : IsCapture window file windows ending
    pub text : o.text ≡ wording.first ++ (flat_map (λ (w : Window). wording.block windows w.0 w.1) windows ++ wording.last windows ending)
    pub end : o.end ≡ refusing (ending_verdict ending)

  same_file : (a b : List ℕ) → get files capture ≡ Some a → get files capture ≡ Some b → a ≡ b
  same_file a b e f = let same : ◌≡◌ {A = Option (List ℕ)} (Some a) (Some b) = sym e ∙ f in cc

  abbrev after_first : Wording → ℕ → Header → Unit {0} → Stage (Unit {0})
  after_first wording window header u = Then (WindowsOf wording window capture header) (λ closed. LastLines wording closed.0 closed.1)

  first_text : (wording : Wording) (begun : Outcome (Unit {0})) → Adds wording.first files begun → begun.text ≡ wording.first
  first_text wording begun is = ap (λ (o : Outcome (Unit {0})). o.text) is

  pub answered_so : (wording : Wording) → NeverStops wording → (window : ℕ) (o : Outcome (Unit {0})) → Answered wording window capture files o → EndsSo o.end → AnsweredSo wording window o
  answered_so wording never window o t ends =
      let p = passed (Head capture) (AfterHead wording window capture) files never_head o t ends in
      let header = p.value in
      let h = head_so p.begun header p.begins p.ok in
      let f = passed (Adds wording.first) (after_first wording window header) files (never_does tt wording.first files) p.rest p.goes_on (λ r e. ends r (p.end ∙ e)) in
      let q = passed (WindowsOf wording window capture header) (λ closed. LastLines wording closed.0 closed.1) files (never_windows wording never window header) f.rest f.goes_on (λ r e. ends r (p.end ∙ f.end ∙ e)) in
      let closed = q.value in
      let w = windows_so wording never window header q.begun closed q.begins q.ok in
      let l = last_so wording never window header closed.0 closed.1 q.rest q.goes_on in
      record {
        file = w.file;
        has = w.has;
        windows = closed.0;
        ending = closed.1;
        is = record {
          header = header;
          accepted = ap head_of (same_file w.file h.file w.has h.has) ∙ h.accepted;
          packets = w.packets;
          records = w.records;
          are = w.are;
        };
        text =
            p.text ∙ ap (λ (l : List ℕ). l ++ p.rest.text) h.none ∙ f.text ∙ ap (λ (l : List ℕ). l ++ f.rest.text) (first_text wording f.begun f.begins)
            ∙ ap (λ (l : List ℕ). wording.first ++ l)
            (q.text ∙ ap (λ (l : List ℕ). l ++ q.rest.text) w.blocks ∙ ap (λ (t : List ℕ). flat_map (λ (w : Window). wording.block closed.0 w.0 w.1) closed.0 ++ t) l.0);
        end = p.end ∙ f.end ∙ q.end ∙ l.1;
      }

-- ---- two captures of one file

-- a file is a capture with one list of windows, and its records end in one way
pub capture_once : (window : ℕ) (file : List ℕ) (first second : List Window) (e f : Ending) → IsCapture window file first e → IsCapture window file second f → (first ≡ second) × (e ≡ f)
capture_once window file first second e f a b =
    let head : ◌≡◌ {A = Result Header HeadFault} (Ok a.header) (Ok b.header) = sym a.accepted ∙ b.accepted in
    let same : a.header ≡ b.header = cc in
    let both = records_once {header = a.header} {file = within file} {n = 24} a.records (subst (λ (h : Header). Records h (within file) 24 b.packets f) (sym same) b.records) in (
      a.are ∙ ap (λ (packets : List Packet). windows_in (packet_tuple a.header.link (within file)) (numbered time_of window packets)) both.0
          ∙ ap (λ (h : Header). windows_in (packet_tuple h.link (within file)) (numbered time_of window b.packets)) same ∙ sym b.are,
      both.1,
    )
