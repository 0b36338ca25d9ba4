-- Of accepted files, with limits that are kept, `live` prints the whole text.
use Rattle.std.proofs.Common.{◌≡◌, ℕ, ◌+◌, ◌*◌, ◌≤◌, List, [], ◌∷◌, ◌++◌, true, false, cond, map, sum, length, Option, Some, Result, Ok, Err, refl, ap, sym, ◌∙◌, subst, arith, append-nil}
use Rattle.std.specs.Prelude.{◌&&◌, ◌^◌, nat_lt}
use Rattle.std.specs.FinMap.{get}
use Rattle.std.specs.List.{AllByRecursion, flat_map, list_all, sum_by}
use Rattle.std.proofs.lemmas.Bool.{le-leb, le-ltb}
use Rattle.std.proofs.lemmas.List.{length-map}
use Rattle.std.proofs.lemmas.List.Sums.{sum_by-cons}
use Rattle.sn_command_capture.specs.Capture.{Answered, Found, Head, LastLines, Whole, WindowsIn, WindowsOf, blocks_in, ending_verdict, known_bytes, packet_tuple, time_of, window_in, windows_in, windows_outcome, windows_refused, windows_whole}
use Rattle.sn_command_capture.specs.Wording.{NeverStops, Wording}
use Rattle.sn_command_capture.proofs.UnstoppedLemmas.{unstopped}
use Rattle.sn_command_search.specs.Certificates.{IsCertificate, SearchedIn, certificate_text}
use Rattle.sn_command_search.specs.declared.certificate.Certificate.{Certificate}
use Rattle.sn_command_search.proofs.Verdicts.{one_search}
use Rattle.sn_plan_choices.proofs.Easy.{plans_laws}
use Rattle.sn_io.specs.Counts.{ByName}
use Rattle.sn_pcap.specs.Capture.{Records}
use Rattle.sn_pcap.specs.Reading.{last_of, within}
use Rattle.sn_pcap.specs.declared.header.Header.{Header}
use Rattle.sn_pcap.specs.declared.header.HeadFault.{HeadFault}
use Rattle.sn_pcap.specs.declared.packet.Ending.{Ending}
use Rattle.sn_pcap.specs.declared.packet.Packet.{Packet}
use Rattle.sn_pcap.specs.declared.seen.Last.{Last}
use Rattle.sn_pcap.specs.declared.seen.Last.TheVariants as last
use Rattle.sn_command_texts.specs.Queries.{QueriesIn}
use Rattle.sn_command_texts.specs.Texts.{SwitchIn}
use Rattle.sn_cost_laws.proofs.Plans.{no_weight}
use Rattle.sn_cost_laws.specs.Sent.{installed_over}
use Rattle.sn_cost_laws.specs.Space.{trained_entry, trained_plans}
use Rattle.sn_plan_grammar.specs.declared.plan.Plan.{Plan}
use Rattle.sn_command_run.specs.Planned.{Planned, as_they_are, emitted_at, emitted_in, plan_lines, plan_wording}
use Rattle.sn_command_run.specs.Run.{planned, window_ns}
use Rattle.sn_tree_space.proofs.Existence.{some_first_least}
use Rattle.sn_command.specs.declared.fault.Fault.{Fault}
use Rattle.sn_command.specs.declared.fault.Fault.TheVariants as faults
use Rattle.sn_command.specs.declared.refusal.Refusal.{Refusal}
use Rattle.sn_command.specs.declared.refusal.Refusal.TheVariants.{Refused}
use Rattle.sn_command.specs.Outcomes.{Outcome, Stage, silent}
use Rattle.sn_command.specs.Refusals.{refusing}
use Rattle.sn_command.specs.Stages.{Text, Then, most_text, named, within_limit}
use Rattle.sn_cost_training.specs.Trained.{Training}
use Rattle.sn_command_training.specs.Training.{JudgedAs, TrainingIn, judged_records, training_of}
use Rattle.sn_windows.specs.Blocks.{all_few, is_few, most_records}
use Rattle.sn_windows.specs.Windows.{in_window, numbered, windows_of}
use Rattle.sn_command_live.specs.Headline.{AreAccepted, Headline, KeepsLimits, cost_on, window_block}
use Rattle.sn_command_live.specs.Captures.{IsCapture, IsHeld}
use Rattle.sn_command_live.specs.Live.{Certifies, Live, Searched, Searches, trained_windows}
use Rattle.sn_command_live.proofs.CaptureLemmas.{capture_once, each_block}
use Rattle.sn_command_live.proofs.TrainLemmas.{all_within, training_so}
use Rattle.sn_command_live.proofs.HeadlineLemmas.{Costs, Shows, headline_of}
use Rattle.sn_command_live.proofs.LiveLemmas.{one_live_run}
use Rattle.sn_windows.specs.Rising.{Window}

-- ---- one stage after another

module _ {A B : Type 0} {first : Stage A} {second : A → Stage B} {files : ByName (List ℕ)} where
  pub then_given : (text : List ℕ) (value : A) (rest : Outcome B) → first files (record { text = text; end = Ok value }) → second value files rest → Then first second files (record { text = text ++ rest.text; end = rest.end })
  then_given text value rest begins goes_on = record { begun = record { text = text; end = Ok value }; begins = begins; goes_on = (rest, goes_on, refl) }

module _ {A : Type 0} (name : List ℕ) (judgement : List ℕ → Result A Fault → Type 0) (files : ByName (List ℕ)) (bytes : List ℕ) (value : A) where
  pub text_given : IsHeld files name most_text bytes → judgement bytes (Ok value) → Text name judgement files (silent (Ok value))
  text_given has is =
      let few : nat_lt most_text (length bytes) ≡ false = le-ltb most_text (length bytes) has.few in
      let read : Ok bytes ≡ within_limit most_text (get files name) = sym (ap (within_limit most_text) has.is ∙ ap (λ b. cond b (Err (Refused faults.TooLarge)) (Ok bytes)) few) in
      then_given [] bytes (silent (Ok value)) (ap silent read) (record { verdict = Ok value; is = is; same = refl })

-- ---- an answered capture

abbrev made : {A : Type 0} → List ℕ → Result A Refusal → Outcome A
made text end = record { text = text; end = end }

module _ (shown : Packet → List ℕ) (ps : List (ℕ × Packet)) where
  few_from : (ns : List ℕ) → AllByRecursion (λ (w : Window). length w.1 ≤ most_records) (map (window_in shown ps) ns) → list_all (λ n. is_few n ps) ns ≡ true
  few_from [] h = refl
  few_from (n ∷ ns) h =
      let many = length-map (in_window n ps) shown in
      let low : length (in_window n ps) ≤ most_records = let few = h.0 in omega arith in
      ap (λ b. b && list_all (λ n. is_few n ps) ns) (le-leb (length (in_window n ps)) most_records low) ∙ few_from ns h.1

module _ (wording : Wording) (never : NeverStops wording) (window : ℕ) (capture : List ℕ) (files : ByName (List ℕ)) (file : List ℕ) (windows : List Window) (ending : Ending) where
  pub answered_given : get files capture ≡ Some file → IsCapture window file windows ending → AllByRecursion (λ (w : Window). length w.1 ≤ most_records) windows → last_of file ending ≡ last.Ended ending
      → Answered wording window capture files (record { text = wording.first ++ (flat_map (λ (w : Window). wording.block windows w.0 w.1) windows ++ wording.last windows ending); end = refusing (ending_verdict ending) })
  answered_given has is few end =
      let shown = packet_tuple is.header.link (within file) in
      let ps = numbered time_of window is.packets in
      let all : all_few ps ≡ true = few_from shown ps (windows_of ps) (subst (λ (ws : List Window). AllByRecursion (λ (w : Window). length w.1 ≤ most_records) ws) is.are few) in
      let whole : Whole capture files (silent (Ok file)) = ap silent (sym (ap known_bytes has)) in
      let head : Head capture files (silent (Ok is.header)) = then_given [] file (silent (Ok is.header)) whole (ap (λ (h : Result Header HeadFault). silent (refusing (named faults.Head h))) (sym is.accepted)) in
      let found : Found = record { packets = is.packets; ending = ending } in
      let due : Outcome (List Window × Ending) = record { text = flat_map (λ (w : Window). wording.block windows w.0 w.1) windows; end = Ok (windows, ending) } in
      let blocks : due ≡ windows_outcome wording shown ps (last_of file ending) =
      ap (λ (ws : List Window). made (flat_map (λ (w : Window). wording.block ws w.0 w.1) ws) (Ok (ws, ending))) is.are
      ∙ ap (λ (text : List ℕ). made text (Ok (windows_in shown ps, ending))) (sym (each_block wording shown ps all))
      ∙ sym (unstopped wording never shown ps (last_of file ending) ∙ ap (λ (l : Last). windows_whole wording shown ps l) end ∙ ap (λ b. cond b (made (blocks_in wording shown ps) (Ok (windows_in shown ps, ending))) (windows_refused wording (last.Ended ending) (blocks_in wording shown ps) (windows_in shown ps))) all) in
      let records : WindowsIn wording window is.header file files due = then_given [] found due (record { verdict = Ok found; is = is.records; same = refl }) blocks in
      let closed : WindowsOf wording window capture is.header files due = then_given [] file due whole records in
      let lines : LastLines wording windows ending files (record { text = wording.last windows ending; end = refusing (ending_verdict ending) }) =
      record { begun = record { text = wording.last windows ending; end = Ok tt }; begins = refl; goes_on = (silent (refusing (ending_verdict ending)), refl, ap (λ (t : List ℕ). made t (refusing (ending_verdict ending))) (sym (append-nil (wording.last windows ending)))) } in
      let all_text : Outcome (Unit {0}) = record { text = flat_map (λ (w : Window). wording.block windows w.0 w.1) windows ++ wording.last windows ending; end = refusing (ending_verdict ending) } in
      let answered : Then (WindowsOf wording window capture is.header) (λ closed. LastLines wording closed.0 closed.1) files all_text =
      then_given (flat_map (λ (w : Window). wording.block windows w.0 w.1) windows) (windows, ending) (record { text = wording.last windows ending; end = refusing (ending_verdict ending) }) closed lines in
      then_given [] is.header (record { text = wording.first ++ all_text.text; end = refusing (ending_verdict ending) }) head (then_given wording.first tt all_text refl answered)

-- ---- a training capture

module _ (window : ℕ) (file : List ℕ) (held : length file ≤ 2 ^ 30) (windows : List Window) (ending : Ending) (is : IsCapture window file windows ending) (few : length is.packets ≤ most_records) where
  abbrev training : Training
  training = training_of window is.header.link file is.packets

  few_records : Ok training ≡ judged_records window is.header.link file is.packets
  few_records = sym (ap (λ b. cond b (Err faults.TooLarge) (Ok training)) (le-ltb most_records (length is.packets) few))

  pub training_given : TrainingIn window file (Ok training)
  training_given = subst (λ (head : Result Header HeadFault). JudgedAs window file head (Ok training)) (sym is.accepted)
      (record { packets = is.packets; ending = ending; are = subst (λ (bytes : List ℕ). Records is.header bytes 24 is.packets ending) (all_within window file held) is.records; same = few_records })

  pub trained_given : trained_windows training ≡ windows
  trained_given =
      let k = training_so window file held training training_given in
      k.trained ∙ (capture_once window file k.windows windows k.ending ending k.is is).0

-- ---- the whole

module _ {switch queries train capture : List ℕ} {files : ByName (List ℕ)} {ending : Ending} (given : AreAccepted switch queries train capture files ending) (nodes : ℕ) (keeps : KeepsLimits given nodes) where
  abbrev window : ℕ
  window = window_ns given.read

  abbrev trained : Training
  trained = training window given.first_file given.has_first.few given.first given.first_ending given.is_first keeps.few_records

  same_windows : trained_windows trained ≡ given.first
  same_windows = trained_given window given.first_file given.has_first.few given.first given.first_ending given.is_first keeps.few_records

  -- the budget isn't reached, so there is a certificate
  pub some_certificate : (c : Certificate) × IsCertificate given.limits given.read.queries given.first nodes c
  some_certificate =
      let h = one_search given.limits given.read.queries given.first nodes in by_verdict h.verdict h.is
    where
      by_verdict : (verdict : Result Certificate Fault) → SearchedIn given.limits given.read.queries given.first nodes verdict → (c : Certificate) × IsCertificate given.limits given.read.queries given.first nodes c
      by_verdict (Ok c) is = (c, is)
      by_verdict (Err fault) is =
          let first = some_first_least (trained_plans given.limits given.read.queries given.first) (plans_laws given.limits (trained_entry given.limits given.read.queries given.first) given.read.queries) in
          let past = is.is.past first.0 first.1 in
          let within = keeps.within_budget first.0 first.1 in absurd (omega arith)

  abbrev certificate : Certificate
  certificate = some_certificate.0

  abbrev along : Planned
  along = planned given.read given.limits certificate.plan

  -- what is written after the certificate
  abbrev pub following : List ℕ
  following = flat_map (window_block along given.second) given.second ++ plan_lines along given.second ending

  certified_given : Certifies switch queries train nodes files (record { text = certificate_text certificate; end = Ok (record { read = given.read; limits = given.limits; certificate = certificate }) })
  certified_given =
      let found : Searched = record { read = given.read; limits = given.limits; certificate = certificate } in
      let added : Outcome Searched = record { text = certificate_text certificate; end = Ok found } in
      let judged : SearchedIn given.limits given.read.queries (trained_windows trained) nodes (Ok certificate) =
      subst (λ (ws : List Window). IsCertificate given.limits given.read.queries ws nodes certificate) (sym same_windows) some_certificate.1 in
      let searched : Searches given.read given.limits trained nodes files added = then_given [] certificate added (record { verdict = Ok certificate; is = judged; same = refl }) refl in
      then_given [] given.read added (text_given queries QueriesIn files given.query_text given.read given.has_queries given.are_queries)
      (then_given [] given.limits added (text_given switch SwitchIn files given.switch_text given.limits given.has_switch given.is_switch)
      (then_given [] trained added
      (text_given train (TrainingIn window) files given.first_file trained given.has_first (training_given window given.first_file given.has_first.few given.first given.first_ending given.is_first keeps.few_records)) searched))

  pub live_given : Live as_they_are switch queries train capture nodes files (record { text = certificate_text certificate ++ following; end = refusing (ending_verdict ending) })
  live_given =
      let found : Searched = record { read = given.read; limits = given.limits; certificate = certificate } in
      then_given (certificate_text certificate) found (record { text = following; end = refusing (ending_verdict ending) }) certified_given
      (answered_given (plan_wording along) (λ windows number tuples. refl) window capture files given.second_file given.second ending given.has_second given.is_second keeps.few_each keeps.within_bytes)

  module _ (show : Shows) (costs : Costs) where
    pub reached : (o : Outcome (Unit {0})) → Live as_they_are switch queries train capture nodes files o → (o.end ≡ refusing (ending_verdict ending)) × Headline given o.text
    reached o is =
        let same : record { text = certificate_text certificate ++ following; end = refusing (ending_verdict ending) } ≡ o = (one_live_run as_they_are switch queries train capture nodes).once files (record { text = certificate_text certificate ++ following; end = refusing (ending_verdict ending) }) o live_given is in (
          sym (ap (λ (x : Outcome (Unit {0})). x.end) same),
          headline_of show costs switch queries train capture files ending given nodes certificate some_certificate.1 o.text (sym (ap (λ (x : Outcome (Unit {0})). x.text) same)),
        )

-- ---- one file for both captures

pub sums_are : {A : Type 0} (f : A → ℕ) (xs : List A) → sum_by f xs ≡ sum (map f xs)
sums_are f [] = refl
sums_are f (x ∷ xs) = sum_by-cons f x xs ∙ ap (λ (n : ℕ). f x + n) (sums_are f xs) ∙ sym (sum_by-cons (λ n. n) (f x) (map f xs))

module _ {switch queries file : List ℕ} {files : ByName (List ℕ)} {ending : Ending} (given : AreAccepted switch queries file file files ending) (plan : Plan) where
  abbrev sent : ℕ
  sent = emitted_in (planned given.read given.limits plan) given.second

  abbrev installed : ℕ
  installed = installed_over given.limits given.read.queries plan.entries given.second

  pub one_capture : cost_on given.first given.read given.limits plan.entries ≡ sent + given.limits.weight * installed
  one_capture =
      let same : ◌≡◌ {A = Option (List ℕ)} (Some given.first_file) (Some given.second_file) = sym given.has_first.is ∙ given.has_second in
      let file : given.second_file ≡ given.first_file = cc in
      let windows = (capture_once (window_ns given.read) given.first_file given.first given.second given.first_ending ending given.is_first
      (subst (λ (bytes : List ℕ). IsCapture (window_ns given.read) bytes given.second ending) file given.is_second)).0 in
      ap (λ (ws : List Window). cost_on ws given.read given.limits plan.entries) windows
      ∙ ap (λ (n : ℕ). n + given.limits.weight * installed) (sums_are (λ (w : Window). emitted_at (planned given.read given.limits plan) given.second w) given.second)

  pub one_number : given.limits.weight ≡ 0 → cost_on given.first given.read given.limits plan.entries ≡ sent
  one_number light =
      let none : given.limits.weight * installed ≡ 0 = ap (λ (n : ℕ). n * installed) light ∙ no_weight installed in
      let whole = one_capture in
      omega (arith, whole, none)
