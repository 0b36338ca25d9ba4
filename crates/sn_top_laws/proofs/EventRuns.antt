-- `live --trace` adds lines of events to what `live` writes.
use Rattle.std.proofs.Common.{◌≡◌, ℕ, ◌||◌, Bool, true, false, cond, List, [], ◌∷◌, ◌++◌, length, map, nat_lt, take, Option, Some, None, Result, Ok, Err, refl, sym, ap, ◌∙◌, subst}
use Rattle.std.specs.FinMap.{get}
use Rattle.std.specs.List.{AllByRecursion}
use Rattle.sn_command.specs.declared.fault.Fault.{Fault}
use Rattle.sn_command.specs.declared.refusal.Refusal.{Refusal}
use Rattle.sn_command.specs.declared.refusal.Refusal.TheVariants.{Refused}
use Rattle.sn_command.specs.Outcomes.{Has, HasOne, Outcome, Stage, silent}
use Rattle.sn_command.specs.Refusals.{refusing}
use Rattle.sn_command.specs.Stages.{GoesOn, Judges, Text, Then, most_text, within_limit}
use Rattle.sn_command.proofs.OneLemmas.{one_does, one_judges, one_text, one_then}
use Rattle.sn_command_capture.specs.Capture.{before_last, block_in, blocks_in, ends_large, unfinished_in, windows_in, windows_refused, windows_whole}
use Rattle.sn_command_capture.specs.Gathering.{all_of}
use Rattle.sn_command_capture.specs.Wording.{Wording}
use Rattle.sn_core.specs.declared.supply.Supply.TheVariants.{End}
use Rattle.sn_core_drive.specs.Turns.{up_to_close, watch_on}
use Rattle.sn_command_finish.specs.Taken.{followed, goes_on}
use Rattle.sn_command_live.specs.Live.{Certifies, Live, Searched, Searches, TracedLive, trained_windows}
use Rattle.sn_command_live.proofs.LiveLemmas.{one_live_run}
use Rattle.sn_command_run.specs.Planned.{Planned, Telling, reported_at, reported_block, reported_emitted_in, reported_lines, reported_wording}
use Rattle.sn_command_run.specs.Run.{AlongPlan, planned, window_ns}
use Rattle.sn_command_run.specs.TraceWording.{TracedAlong, after_windows, lines_before, lines_after, traced_wording, up_to, works_of}
use Rattle.sn_command_search.specs.Certificates.{IsCertificate, SearchedIn, certificate_text}
use Rattle.sn_command_search.specs.declared.certificate.Certificate.{Certificate}
use Rattle.sn_command_search.proofs.Verdicts.{one_search}
use Rattle.sn_command_texts.proofs.Verdicts.{one_queries, one_switch}
use Rattle.sn_command_texts.specs.Queries.{QueriesIn}
use Rattle.sn_command_texts.specs.Texts.{SwitchIn}
use Rattle.sn_command_training.specs.Training.{TrainingIn}
use Rattle.sn_cost_training.specs.Trained.{Training}
use Rattle.sn_command_training.proofs.TrainingLemmas.{one_training}
use Rattle.sn_io.specs.Counts.{ByName}
use Rattle.sn_pcap.specs.declared.header.Header.{Header}
use Rattle.sn_pcap.specs.declared.header.HeadFault.{HeadFault}
use Rattle.sn_pcap.specs.declared.packet.Packet.{Packet}
use Rattle.sn_pcap.specs.declared.packet.Ending.{Ending}
use Rattle.sn_pcap.specs.declared.seen.Last.{Last}
use Rattle.sn_pcap.specs.declared.seen.Last.TheVariants as last
use Rattle.sn_pcap.specs.Capture.{head_of}
use Rattle.sn_pcap.specs.Reading.{last_of}
use Rattle.sn_plan.specs.Printing.{plan_text}
use Rattle.sn_plan_grammar.specs.declared.plan.Entry.{Entry}
use Rattle.sn_switch.specs.declared.switch.Switch.{Switch}
use Rattle.sn_tree_text.specs.Printing.{nodes_text, tree_text}
use Rattle.sn_types_read.specs.Texts.{Queries}
use Rattle.sn_windows.specs.Blocks.{all_few, answered, most_records}
use Rattle.sn_windows.specs.Windows.{in_window}
use Rattle.sn_top_laws.specs.Events.{AddsEvents, without_events}
use Rattle.sn_top_laws.proofs.CaptureLemmas.{capture_due, capture_is, following, found_in, head_due, packets_in, shown_in}
use Rattle.sn_top_laws.proofs.EventLines.{Leaves, Stays, both_leave, both_stay, each_leaves, none_leaves, whole_leaves}
use Rattle.sn_top_laws.proofs.EventNames.{AreOnLines, each_named, plan_named, read_named}
use Rattle.sn_top_laws.proofs.EventTexts.{HaveNames, IsOneLine, block_stays, events_go, last_stays, plan_stays, tree_stays}
use Rattle.sn_windows.specs.Rising.{Window}

-- ---- outcomes

-- an outcome is another one but for the lines of events in its text
abbrev Alike : {A : Type 0} → Outcome A → Outcome A → Type 0
Alike {A = A} traced plain = Leaves traced.text plain.text × ◌≡◌ {A = Result A Refusal} traced.end plain.end

either_alike : {A : Type 0} (b : Bool) (x y u v : Outcome A) → Alike x y → Alike u v → Alike (cond b x u) (cond b y v)
either_alike true x y u v f g = f
either_alike false x y u v f g = g

module _ {A B : Type 0} (f g : A → Outcome B) (each : (a : A) → Alike (f a) (g a)) where
  one_end : (t u : List ℕ) → Leaves t u → (end : Result A Refusal) → Alike (goes_on t end f) (goes_on u end g)
  one_end t u leaves (Err refusal) = (leaves, refl)
  one_end t u leaves (Ok value) = (both_leave t u (f value).text (g value).text leaves (each value).0, (each value).1)

  followed_alike : (x y : Outcome A) → Alike x y → Alike (followed x f) (followed y g)
  followed_alike x y h = subst (λ (end : Result A Refusal). Alike (goes_on x.text x.end f) (goes_on y.text end g)) h.1 (one_end x.text y.text h.0 x.end)

-- ---- a capture

module _ (schedule : ℕ) (reported : Telling) (p : Planned) (names : HaveNames p.queries) where
  abbrev traced : Wording
  traced = traced_wording schedule p reported

  abbrev plainly : Wording
  plainly = reported_wording reported p

  block_leaves : (windows : List Window) (number : ℕ) (tuples : List (List ℕ)) → Leaves (traced.block windows number tuples) (plainly.block windows number tuples)
  block_leaves windows number tuples =
      both_leave (lines_before schedule p windows number) [] (reported_block reported p windows number tuples) (reported_block reported p windows number tuples)
      (events_go (up_to_close (works_of p) (after_windows schedule p (up_to number windows)) End)) (block_stays p.queries names (reported_at reported p windows number) true)

  last_leaves : (windows : List Window) (ending : Ending) → Leaves (traced.last windows ending) (plainly.last windows ending)
  last_leaves windows ending =
      both_leave (lines_after schedule p windows) [] (reported_lines reported p windows ending) (reported_lines reported p windows ending)
      (events_go (watch_on (works_of p) (after_windows schedule p windows) End).since) (last_stays ending (length windows) (Some (reported_emitted_in reported p windows)))

  either_leaves : (b : Bool) (x y u v : List ℕ) → Leaves x y → Leaves u v → Leaves (cond b x u) (cond b y v)
  either_leaves true x y u v f g = f
  either_leaves false x y u v f g = g

  unfinished_leaves : (end : Last) (closed windows : List Window) → Leaves (unfinished_in traced end closed windows) (unfinished_in plainly end closed windows)
  unfinished_leaves end closed [] = none_leaves
  unfinished_leaves end closed (w ∷ ws) =
      either_leaves (ends_large end ws || nat_lt most_records (length w.1)) (traced.unfinished closed w.0 (take most_records w.1)) [] (unfinished_in traced end (closed ++ w ∷ []) ws) (unfinished_in plainly end (closed ++ w ∷ []) ws)
      (events_go (after_windows schedule p (all_of w.0 closed (take most_records w.1))).since) (unfinished_leaves end (closed ++ w ∷ []) ws)

  module _ (shown : Packet → List ℕ) where
    blocks_leave : (packets : List (ℕ × Packet)) → Leaves (blocks_in traced shown packets) (blocks_in plainly shown packets)
    blocks_leave packets =
        let windows : List Window = windows_in shown packets in
        each_leaves (λ w. block_in traced shown windows w (in_window w packets)) (λ w. block_in plainly shown windows w (in_window w packets))
        (λ w. block_leaves windows w (map shown (in_window w packets))) (answered packets)

    refused_alike : (end : Last) (packets : List (ℕ × Packet)) (windows : List Window) → Alike (windows_refused traced end (blocks_in traced shown packets) windows) (windows_refused plainly end (blocks_in plainly shown packets) windows)
    refused_alike end packets windows =
        (both_leave (blocks_in traced shown packets) (blocks_in plainly shown packets) (unfinished_in traced end [] windows) (unfinished_in plainly end [] windows) (blocks_leave packets) (unfinished_leaves end [] windows), refl)

    windows_alike : (packets : List (ℕ × Packet)) (end : Last) → Alike (windows_whole traced shown packets end) (windows_whole plainly shown packets end)
    windows_alike packets (last.Ended ending) =
        let windows : List Window = windows_in shown packets in
        either_alike {A = List Window × Ending} (all_few packets) (record { text = blocks_in traced shown packets; end = Ok (windows, ending) }) (record { text = blocks_in plainly shown packets; end = Ok (windows, ending) })
        (windows_refused traced (last.Ended ending) (blocks_in traced shown packets) windows) (windows_refused plainly (last.Ended ending) (blocks_in plainly shown packets) windows)
        (blocks_leave packets, refl) (refused_alike (last.Ended ending) packets windows)
    windows_alike packets last.TooLarge = refused_alike last.TooLarge (before_last packets) (windows_in shown packets)

  head_alike : (window : ℕ) (file : List ℕ) (head : Result Header HeadFault) → Alike (head_due traced window file head) (head_due plainly window file head)
  head_alike window file (Err fault) = (none_leaves, refl)
  head_alike window file (Ok header) =
      let packets : List (ℕ × Packet) = packets_in window header file in
      let end : Last = last_of file (found_in header file).ending in
      followed_alike (following traced) (following plainly) (λ closed. (last_leaves closed.0 closed.1, refl)) (windows_whole traced (shown_in header file) packets end) (windows_whole plainly (shown_in header file) packets end)
      (windows_alike (shown_in header file) packets end)

  pub due_alike : (window : ℕ) (held : Option (List ℕ)) → Alike (capture_due traced window held) (capture_due plainly window held)
  due_alike window None = (none_leaves, refl)
  due_alike window (Some file) = head_alike window file (head_of file)

-- ---- the stages before the capture

-- a stage that adds nothing gave this, or a value of which this is known
abbrev IsOf : {A : Type 0} → (A → Type 0) → Result A Refusal → Type 0
IsOf P (Ok value) = P value
IsOf P (Err refusal) = Unit {0}

abbrev GaveSo : {A : Type 0} → (A → Type 0) → Outcome A → Type 0
GaveSo {A = A} P begun = (end : Result A Refusal) × (begun ≡ silent end) × IsOf P end

module _ {A B : Type 0} {first : Stage A} {second : A → Stage B} {files : ByName (List ℕ)} (P : A → Type 0) (G : Outcome B → Type 0) where
  after_silent : ((begun : Outcome A) → first files begun → GaveSo P begun) → ((refusal : Refusal) → G (silent (Err refusal))) → ((value : A) → P value → (rest : Outcome B) → second value files rest → G rest)
      → (whole : Outcome B) → Then first second files whole → G whole
  after_silent gives refused goes whole both = let gave = gives both.begun both.begins in by_end gave.0 gave.2 (subst (λ (o : Outcome A). GoesOn second files o.text o.end whole) gave.1 both.goes_on)
    where
      by_end : (end : Result A Refusal) → IsOf P end → GoesOn second files [] end whole → G whole
      by_end (Err refusal) is goes_so = subst G (sym goes_so) (refused refusal)
      by_end (Ok value) is goes_so = subst G (sym goes_so.2) (goes value is goes_so.0 goes_so.1)

abbrev IsJudged : {A : Type 0} → (List ℕ → Result A Fault → Type 0) → A → Type 0
IsJudged judgement value = (bytes : List ℕ) × judgement bytes (Ok value)

module _ {A : Type 0} {files : ByName (List ℕ)} where
  judges_give : (judgement : Result A Fault → Type 0) (begun : Outcome A) → Judges judgement files begun → GaveSo (λ value. judgement (Ok value)) begun
  judges_give judgement begun judged = by_verdict judged.verdict judged.is judged.same
    where
      by_verdict : (verdict : Result A Fault) → judgement verdict → begun ≡ silent (refusing verdict) → GaveSo (λ value. judgement (Ok value)) begun
      by_verdict (Ok value) is same = (Ok value, same, is)
      by_verdict (Err fault) is same = (Err (Refused fault), same, tt)

  text_gives : (name : List ℕ) (judgement : List ℕ → Result A Fault → Type 0) (begun : Outcome A) → Text name judgement files begun → GaveSo (IsJudged judgement) begun
  text_gives name judgement begun text =
      after_silent (λ bytes. Unit {0}) (GaveSo (IsJudged judgement)) (λ first is. bytes_give first is) (λ refusal. (Err refusal, refl, tt))
      (λ bytes known rest judged. with_bytes bytes rest (judges_give (judgement bytes) rest judged)) begun text
    where
      known_so : (end : Result (List ℕ) Refusal) → IsOf (λ bytes. Unit {0}) end
      known_so (Ok bytes) = tt
      known_so (Err refusal) = tt

      bytes_give : (first : Outcome (List ℕ)) → first ≡ silent (within_limit most_text (get files name)) → GaveSo (λ bytes. Unit {0}) first
      bytes_give first is = (within_limit most_text (get files name), is, known_so (within_limit most_text (get files name)))

      by_value : (bytes : List ℕ) (rest : Outcome A) (end : Result A Refusal) → rest ≡ silent end → IsOf (λ value. judgement bytes (Ok value)) end → GaveSo (IsJudged judgement) rest
      by_value bytes rest (Ok value) same is = (Ok value, same, (bytes, is))
      by_value bytes rest (Err refusal) same is = (Err refusal, same, tt)

      with_bytes : (bytes : List ℕ) (rest : Outcome A) → GaveSo (λ value. judgement bytes (Ok value)) rest → GaveSo (IsJudged judgement) rest
      with_bytes bytes rest gave = by_value bytes rest gave.0 gave.1 gave.2

-- what was searched for is written whole, and the names of its queries stand on one line
abbrev HasNames : Result Searched Refusal → Type 0
HasNames (Ok found) = AreOnLines found.read.queries
HasNames (Err refusal) = Unit {0}

abbrev IsWhole : Outcome Searched → Type 0
IsWhole begun = Stays begun.text × HasNames begun.end

module _ (switch queries train : List ℕ) (nodes : ℕ) (files : ByName (List ℕ)) where
  refused_whole : (refusal : Refusal) → IsWhole (silent (Err refusal))
  refused_whole refusal = (none_leaves, tt)

  searched_whole : (read : Queries) (limits : Switch) (training : Training) → AreOnLines read.queries → (whole : Outcome Searched) → Searches read limits training nodes files whole → IsWhole whole
  searched_whole read limits training names =
      after_silent (IsCertificate limits read.queries (trained_windows training) nodes) IsWhole (judges_give (SearchedIn limits read.queries (trained_windows training) nodes)) refused_whole
      (λ certificate is rest same. subst IsWhole (sym same) (certificate_stays certificate is, names))
    where
      certificate_stays : (c : Certificate) → IsCertificate limits read.queries (trained_windows training) nodes c → Stays (certificate_text c)
      certificate_stays c is =
          both_stay (plan_text c.plan) (tree_text c.cost (nodes_text c.tree))
          (plan_stays c.plan (subst (λ (es : List Entry). AllByRecursion (λ (e : Entry). IsOneLine e.name) es) (sym is.plan) (plan_named limits read.queries c.choices names)))
          (tree_stays c.cost c.tree)

  certified_whole : (whole : Outcome Searched) → Certifies switch queries train nodes files whole → IsWhole whole
  certified_whole =
      after_silent (IsJudged QueriesIn) IsWhole (text_gives queries QueriesIn) refused_whole (λ read known.
      after_silent (IsJudged SwitchIn) IsWhole (text_gives switch SwitchIn) refused_whole (λ limits is.
      after_silent (IsJudged (TrainingIn (window_ns read))) IsWhole (text_gives train (TrainingIn (window_ns read))) refused_whole (λ training trained.
      searched_whole read limits training (read_named known.0 read known.1))))

  one_certifies : HasOne (Certifies switch queries train nodes)
  one_certifies =
      one_then (one_text queries QueriesIn one_queries) (λ read.
      one_then (one_text switch SwitchIn one_switch) (λ limits.
      one_then (one_text train (TrainingIn (window_ns read)) (one_training (window_ns read))) (λ training.
      one_then (one_judges (one_search limits read.queries (trained_windows training) nodes)) (λ certificate. one_does _))))

  module _ (schedule : ℕ) (reported : Telling) (capture : List ℕ) (plain traced : Outcome (Unit {0})) where
    abbrev plain_next : Searched → Stage (Unit {0})
    plain_next found = AlongPlan reported capture found.read found.limits found.certificate.plan

    abbrev traced_next : Searched → Stage (Unit {0})
    traced_next found = TracedAlong schedule reported capture found.read found.limits found.certificate.plan

    adds_so : (x y : Outcome (Unit {0})) → plain ≡ y → traced ≡ x → Alike x y → AddsEvents plain traced
    adds_so x y is traced_is a =
        subst (λ (o : Outcome (Unit {0})). AddsEvents o traced) (sym is)
        (subst (λ (o : Outcome (Unit {0})). AddsEvents y o) (sym traced_is) (record { text = whole_leaves x.text y.text a.0; end = a.1 }))

    by_end : (text : List ℕ) (end : Result Searched Refusal) → Stays text → HasNames end → GoesOn plain_next files text end plain → GoesOn traced_next files text end traced → AddsEvents plain traced
    by_end text (Err refusal) stays names a b = adds_so (record { text = text; end = Err refusal }) (record { text = text; end = Err refusal }) a b (stays, refl)
    by_end text (Ok found) stays names a b =
        let p : Planned = planned found.read found.limits found.certificate.plan in
        let window : ℕ = window_ns found.read in
        let x : Outcome (Unit {0}) = capture_due (traced_wording schedule p reported) window (get files capture) in
        let y : Outcome (Unit {0}) = capture_due (reported_wording reported p) window (get files capture) in
        let alike = due_alike schedule reported p (each_named found.read.queries names) window (get files capture) in
        adds_so (record { text = text ++ x.text; end = x.end }) (record { text = text ++ y.text; end = y.end })
        (a.2 ∙ ap (λ (o : Outcome (Unit {0})). record { text = text ++ o.text; end = o.end }) (capture_is (reported_wording reported p) (λ windows number tuples. refl) window capture files a.0 a.1))
        (b.2 ∙ ap (λ (o : Outcome (Unit {0})). record { text = text ++ o.text; end = o.end }) (capture_is (traced_wording schedule p reported) (λ windows number tuples. refl) window capture files b.0 b.1))
        (both_leave text text x.text y.text stays alike.0, alike.1)

    pub adds_events : Live reported switch queries train capture nodes files plain → TracedLive schedule reported switch queries train capture nodes files traced → AddsEvents plain traced
    adds_events live trace =
        let same = one_certifies.once files trace.begun live.begun trace.begins live.begins in
        let whole = certified_whole live.begun live.begins in
        by_end live.begun.text live.begun.end whole.0 whole.1 live.goes_on (subst (λ (o : Outcome Searched). GoesOn traced_next files o.text o.end traced) same trace.goes_on)

-- two schedules
pub schedules_alike : (first second : ℕ) (reported : Telling) (switch queries train capture : List ℕ) (nodes : ℕ) (files : ByName (List ℕ)) (one other : Outcome (Unit {0}))
    → TracedLive first reported switch queries train capture nodes files one → TracedLive second reported switch queries train capture nodes files other → (without_events one.text ≡ without_events other.text) × ◌≡◌ {A = Result (Unit {0}) Refusal} one.end other.end
schedules_alike first second reported switch queries train capture nodes files one other a b =
    let plain : Has (Live reported switch queries train capture nodes) files = (one_live_run reported switch queries train capture nodes).some files in
    let x = adds_events switch queries train nodes files first reported capture plain.outcome one plain.is a in
    let y = adds_events switch queries train nodes files second reported capture plain.outcome other plain.is b in
    (x.text ∙ sym y.text, x.end ∙ sym y.end)
