-- What `live` prints to its end.
use Rattle.std.proofs.Common.{◌≡◌, ℕ, List, ◌++◌, false, Result, Ok, Err, refl, ap, sym, ◌∙◌, subst, arith}
use Rattle.std.specs.List.{flat_map}
use Rattle.sn_command_capture.specs.Capture.{ending_verdict}
use Rattle.sn_windows.specs.Rising.{Window}
use Rattle.sn_command_search.specs.Certificates.{IsCertificate, SearchedIn, certificate_text}
use Rattle.sn_command_search.specs.Shown.{ShowsLeast}
use Rattle.sn_command_search.specs.declared.certificate.Certificate.{Certificate}
use Rattle.sn_plan_lists.specs.Costs.{plan_cost}
use Rattle.sn_plan_fit.specs.Fits.{Fits}
use Rattle.sn_io.specs.Counts.{ByName}
use Rattle.sn_cost_laws.specs.Sent.{cost_over}
use Rattle.sn_pcap.specs.declared.packet.Ending.{Ending}
use Rattle.sn_pcap.specs.declared.packet.Ending.TheVariants as endings
use Rattle.sn_plan.specs.Printing.{plan_text}
use Rattle.sn_plan_grammar.specs.declared.plan.Entry.{Entry}
use Rattle.sn_command_texts.specs.Queries.{QueriesIn}
use Rattle.sn_command_texts.specs.Texts.{SwitchIn, switch_fault}
use Rattle.sn_cost_laws.specs.Space.{trained_entry, trained_plans}
use Rattle.sn_types_read.specs.Texts.{IsRead, Queries}
use Rattle.sn_command_run.specs.Planned.{Planned, as_they_are, plan_lines, plan_wording}
use Rattle.sn_command_run.specs.Run.{AlongPlan, planned, window_ns}
use Rattle.sn_tree_space.specs.Trees.{IsAccepted}
use Rattle.sn_command.specs.declared.fault.Fault.{Fault}
use Rattle.sn_command.specs.declared.fault.Fault.TheVariants as faults
use Rattle.sn_command.specs.declared.refusal.Refusal.{Refusal}
use Rattle.sn_command.specs.declared.refusal.Refusal.TheVariants.{Refused}
use Rattle.sn_command.specs.Outcomes.{Outcome}
use Rattle.sn_command.specs.Refusals.{refusing}
use Rattle.sn_command.specs.Stages.{Does, Judges, Text, Then, named}
use Rattle.sn_switch.specs.declared.fault.SwitchFault.{SwitchFault}
use Rattle.sn_switch.specs.declared.fault.SwitchFault.TheVariants as switch_faults
use Rattle.sn_switch.specs.declared.switch.Switch.{Switch}
use Rattle.sn_switch.specs.Texts as switches
use Rattle.sn_switch.specs.Texts.{IsSwitch}
use Rattle.sn_switch.proofs.Switches.{limits_of, one_switch, set_so}
use Rattle.sn_text.specs.Cutting.{tokens_of}
use Rattle.sn_cost_training.specs.Trained.{Training}
use Rattle.sn_command_training.specs.Training.{TrainingIn}
use Rattle.sn_tree_text.specs.Printing.{nodes_text, tree_text}
use Rattle.sn_types.specs.declared.typed_query.TypedQuery.{TypedQuery}
use Rattle.sn_types.specs.Typed.{IsTyped}
use Rattle.sn_command_live.specs.Headline.{AreAccepted, Headline, cost_on, window_block}
use Rattle.sn_command_live.specs.Captures.{IsCapture}
use Rattle.sn_command_live.specs.Live.{Certifies, Live, Searched, Searches, trained_windows}
use Rattle.sn_command_live.proofs.CaptureLemmas.{answered_so}
use Rattle.sn_command_live.proofs.TrainLemmas.{never_trained, training_so}
use Rattle.sn_command_live.proofs.Inversions.{EndsSo, NeverSo, ReadSo, is_damage, is_ending, judged_so, never_does, never_judges, never_text, never_then, passed, read_so}

-- ---- how texts are refused

named_fault : {A F : Type 0} (name : F → Fault) (found : Result A F) (fault : Fault) → ◌≡◌ {A = Result A Fault} (Err fault) (named name found) → (f : F) × (fault ≡ name f)
named_fault name (Ok value) fault e = absurd (let no = e in cc)
named_fault {A} name (Err f) fault e = (f, same e)
  where
    same : ◌≡◌ {A = Result A Fault} (Err fault) (Err (name f)) → fault ≡ name f
    same k = cc

queries_undamaged : (text : List ℕ) (fault : Fault) → QueriesIn text (Err fault) → is_damage fault ≡ false
queries_undamaged text fault is = ap is_damage (named_fault faults.Queries is.found fault is.same).1

switch_undamaged : (text : List ℕ) (fault : Fault) → SwitchIn text (Err fault) → is_damage fault ≡ false
switch_undamaged text fault is = let f = named_fault switch_fault is.found fault is.same in ap is_damage f.1 ∙ by_fault f.0
  where
    by_fault : (f : SwitchFault) → is_damage (switch_fault f) ≡ false
    by_fault (switch_faults.Lex line) = refl
    by_fault (switch_faults.Expected line) = refl
    by_fault (switch_faults.Range line) = refl
    by_fault (switch_faults.Twice line) = refl
    by_fault (switch_faults.Missing line) = refl
    by_fault switch_faults.Memory = refl

-- ---- what texts stand for

named_value : {A F : Type 0} (name : F → Fault) (found : Result A F) (value : A) → ◌≡◌ {A = Result A Fault} (Ok value) (named name found) → found ≡ Ok value
named_value {A} name (Ok other) value e = ap Ok (same e)
  where
    same : ◌≡◌ {A = Result A Fault} (Ok value) (Ok other) → other ≡ value
    same k = cc
named_value name (Err f) value e = absurd (let no = e in cc)

queries_typed : (text : List ℕ) (read : Queries) → QueriesIn text (Ok read) → ∥ IsTyped read.window_us read.queries ∥₁
queries_typed text read is = let h : IsRead text (Ok read) = subst (IsRead text) (named_value faults.Queries is.found read is.same) is.is in ∣ (h.0, h.2) ∣₁

switch_limited : (text : List ℕ) (s : Switch) → SwitchIn text (Ok s) → IsSwitch s
switch_limited text s is =
    let h : switches.StandsFor (tokens_of text) s = subst (switches.IsRead text) (named_value switch_fault is.found s is.same) is.is in
    subst IsSwitch (one_switch h.items (switches.switch_in h.items) s (set_so h.items h.accepted.fits) h.each) (limits_of h.items h.accepted.fits)

-- ---- the search

module _ (read : Queries) (limits : Switch) (training : Training) (nodes : ℕ) (files : ByName (List ℕ)) where
  abbrev judgement : Result Certificate Fault → Type 0
  judgement = SearchedIn limits read.queries (trained_windows training) nodes

  abbrev given : Certificate → Outcome Searched
  given c = record { text = certificate_text c; end = Ok (record { read = read; limits = limits; certificate = c }) }

  never_judged : NeverSo (Judges judgement) files
  never_judged = never_judges judgement files (λ fault is. ap is_damage is.same)

  never_searches : NeverSo (Searches read limits training nodes) files
  never_searches = never_then (Judges judgement) (λ c. Does (given c)) files never_judged (λ c. never_does (record { read = read; limits = limits; certificate = c }) (certificate_text c) files)

  -- the search gave a certificate
  record SearchedSo (found : Searched) (text : List ℕ) : Type 0 where
    read_is : found.read ≡ read
    limits_is : found.limits ≡ limits
    is : IsCertificate limits read.queries (trained_windows training) nodes found.certificate
    text_is : text ≡ certificate_text found.certificate

  found_is : {a b : Searched} → ◌≡◌ {A = Result Searched Refusal} (Ok a) (Ok b) → a ≡ b
  found_is e = cc

  searched_so : (o : Outcome Searched) (found : Searched) → Searches read limits training nodes files o → o.end ≡ Ok found → SearchedSo found o.text
  searched_so o found t e =
      let p = passed (Judges judgement) (λ c. Does (given c)) files never_judged o t (λ r no. absurd (let k = sym e ∙ no in cc)) in
      let j = judged_so judgement files p.begun p.value p.begins p.ok in
      let same : record { read = read; limits = limits; certificate = p.value } ≡ found = found_is (sym (ap (λ (o : Outcome Searched). o.end) p.goes_on) ∙ sym p.end ∙ e) in
      let text : o.text ≡ certificate_text p.value = p.text ∙ ap (λ (l : List ℕ). l ++ p.rest.text) j.1 ∙ ap (λ (o : Outcome Searched). o.text) p.goes_on in
      subst (λ (f : Searched). SearchedSo f o.text) same (record { read_is = refl; limits_is = refl; is = j.0; text_is = text })

-- ---- the stages up to it

module _ (switch queries train : List ℕ) (nodes : ℕ) (files : ByName (List ℕ)) where
  never_queries : NeverSo (Text queries QueriesIn) files
  never_queries = never_text queries QueriesIn files queries_undamaged

  never_switch : NeverSo (Text switch SwitchIn) files
  never_switch = never_text switch SwitchIn files switch_undamaged

  never_train : (read : Queries) → NeverSo (Text train (TrainingIn (window_ns read))) files
  never_train read = never_text train (TrainingIn (window_ns read)) files (never_trained (window_ns read))

  never_certifies : NeverSo (Certifies switch queries train nodes) files
  never_certifies =
      never_then (Text queries QueriesIn) _ files never_queries (λ read.
      never_then (Text switch SwitchIn) _ files never_switch (λ limits.
      never_then (Text train (TrainingIn (window_ns read))) _ files (never_train read) (λ training.
      never_searches read limits training nodes files)))

  record CertifiedSo (found : Searched) (text : List ℕ) : Type 0 where
    read : ReadSo queries QueriesIn files found.read
    limits : ReadSo switch SwitchIn files found.limits
    training : Training
    trained : ReadSo train (TrainingIn (window_ns found.read)) files training
    is : IsCertificate found.limits found.read.queries (trained_windows training) nodes found.certificate
    text_is : text ≡ certificate_text found.certificate

  certified_so : (o : Outcome Searched) (found : Searched) → Certifies switch queries train nodes files o → o.end ≡ Ok found → CertifiedSo found o.text
  certified_so o found t e =
      let p = passed (Text queries QueriesIn) (λ read. Then (Text switch SwitchIn) (λ limits. Then (Text train (TrainingIn (window_ns read))) (λ training. Searches read limits training nodes))) files never_queries o t (λ r no. absurd (let k = sym e ∙ no in cc)) in
      let q = passed (Text switch SwitchIn) (λ limits. Then (Text train (TrainingIn (window_ns p.value))) (λ training. Searches p.value limits training nodes)) files never_switch p.rest p.goes_on (λ r no. absurd (let k = sym e ∙ p.end ∙ no in cc)) in
      let v = passed (Text train (TrainingIn (window_ns p.value))) (λ training. Searches p.value q.value training nodes) files (never_train p.value) q.rest q.goes_on (λ r no. absurd (let k = sym e ∙ p.end ∙ q.end ∙ no in cc)) in
      let a = read_so queries QueriesIn files p.begun p.value p.begins p.ok in
      let b = read_so switch SwitchIn files q.begun q.value q.begins q.ok in
      let d = read_so train (TrainingIn (window_ns p.value)) files v.begun v.value v.begins v.ok in
      let s = searched_so p.value q.value v.value nodes files v.rest found v.goes_on (sym v.end ∙ sym q.end ∙ sym p.end ∙ e) in
      record {
        read = subst (λ (x : Queries). ReadSo queries QueriesIn files x) (sym s.read_is) a.0;
        limits = subst (λ (x : Switch). ReadSo switch SwitchIn files x) (sym s.limits_is) b.0;
        training = v.value;
        trained = subst (λ (x : Queries). ReadSo train (TrainingIn (window_ns x)) files v.value) (sym s.read_is) d.0;
        is = subst (λ (x : Queries). IsCertificate found.limits x.queries (trained_windows v.value) nodes found.certificate) (sym s.read_is)
            (subst (λ (x : Switch). IsCertificate x p.value.queries (trained_windows v.value) nodes found.certificate) (sym s.limits_is) s.is);
        text_is = p.text ∙ ap (λ (l : List ℕ). l ++ p.rest.text) a.1 ∙ q.text ∙ ap (λ (l : List ℕ). l ++ q.rest.text) b.1 ∙ v.text ∙ ap (λ (l : List ℕ). l ++ v.rest.text) d.1 ∙ s.text_is;
      }

-- ---- the headline

ended_so : (e : Ending) → EndsSo {A = Unit {0}} (refusing (ending_verdict e))
ended_so endings.Clean r same = absurd (let no = same in cc)
ended_so (endings.Cut at) r same = ap is_ending (sym (is same))
  where
    is : ◌≡◌ {A = Result (Unit {0}) Refusal} (Err (Refused (faults.Cut at))) (Err r) → Refused (faults.Cut at) ≡ r
    is k = cc
ended_so (endings.Bad at) r same = ap is_ending (sym (is same))
  where
    is : ◌≡◌ {A = Result (Unit {0}) Refusal} (Err (Refused (faults.Bad at))) (Err r) → Refused (faults.Bad at) ≡ r
    is k = cc

abbrev ended : Ending → Result (Unit {0}) Refusal
ended e = refusing (ending_verdict e)

one_ending : (e f : Ending) → ended e ≡ ended f → e ≡ f
one_ending endings.Clean endings.Clean same = refl
one_ending endings.Clean (endings.Cut at) same = absurd (let no = same in cc)
one_ending endings.Clean (endings.Bad at) same = absurd (let no = same in cc)
one_ending (endings.Cut at) endings.Clean same = absurd (let no = same in cc)
one_ending (endings.Cut at) (endings.Cut to) same = let k : ◌≡◌ {A = Result (Unit {0}) Refusal} (Err (Refused (faults.Cut at))) (Err (Refused (faults.Cut to))) = same in cc
one_ending (endings.Cut at) (endings.Bad to) same = absurd (let no = same in cc)
one_ending (endings.Bad at) endings.Clean same = absurd (let no = same in cc)
one_ending (endings.Bad at) (endings.Cut to) same = absurd (let no = same in cc)
one_ending (endings.Bad at) (endings.Bad to) same = let k : ◌≡◌ {A = Result (Unit {0}) Refusal} (Err (Refused (faults.Bad at))) (Err (Refused (faults.Bad to))) = same in cc

-- what certificates show, and what plans cost
abbrev pub Shows : Type 0
Shows = (s : Switch) (window : ℕ) (queries : List TypedQuery) (given : List Window) (nodes : ℕ) (c : Certificate) → ∥ IsTyped window queries ∥₁ → IsSwitch s → SearchedIn s queries given nodes (Ok c) → ShowsLeast s queries given c

abbrev pub Costs : Type 0
Costs = (s : Switch) (window : ℕ) (queries : List TypedQuery) (given : List Window) (entries : List Entry) → ∥ IsTyped window queries ∥₁ → IsSwitch s → Fits queries s entries → plan_cost s (trained_entry s queries given) 0 queries entries ≡ cost_over s queries entries given

module _ (show : Shows) (costs : Costs) (switch queries train capture : List ℕ) (files : ByName (List ℕ)) (ending : Ending) where
  -- what was printed of a certificate is the headline
  module _ (given : AreAccepted switch queries train capture files ending) (nodes : ℕ) (c : Certificate) (is : IsCertificate given.limits given.read.queries given.first nodes c) where
    abbrev p : Planned
    p = planned given.read given.limits c.plan

    abbrev costs_so : List Entry → ℕ
    costs_so entries = cost_on given.first given.read given.limits entries

    typed : ∥ IsTyped given.read.window_us given.read.queries ∥₁
    typed = queries_typed given.query_text given.read given.are_queries

    limited : IsSwitch given.limits
    limited = switch_limited given.switch_text given.limits given.is_switch

    all_cost : (entries : List Entry) → Fits given.read.queries given.limits entries → plan_cost given.limits (trained_entry given.limits given.read.queries given.first) 0 given.read.queries entries ≡ costs_so entries
    all_cost entries fits = costs given.limits given.read.window_us given.read.queries given.first entries typed limited fits

    pub headline_of : (text : List ℕ) → text ≡ certificate_text c ++ (flat_map (window_block p given.second) given.second ++ plan_lines p given.second ending) → Headline given text
    headline_of text printed =
        let shown : ShowsLeast given.limits given.read.queries given.first c = show given.limits given.read.window_us given.read.queries given.first nodes c typed limited is in
        let cost : c.cost ≡ costs_so c.plan.entries = shown.cost ∙ all_cost c.plan.entries shown.fits in
        record {
          plan = c.plan;
          fits = shown.fits;
          least = λ entries fits. let low = shown.least entries fits in let theirs = all_cost entries fits in omega arith;
          tree = c.tree;
          shown = subst (λ (choices : List ℕ). IsAccepted (trained_plans given.limits given.read.queries given.first) choices c.tree) (sym shown.choices) shown.accepted;
          printed = printed ∙ ap (λ (n : ℕ). (plan_text c.plan ++ tree_text n (nodes_text c.tree)) ++ (flat_map (window_block p given.second) given.second ++ plan_lines p given.second ending)) cost;
        }

  module _ (nodes : ℕ) (o : Outcome (Unit {0})) where
    -- what ends as the records of a capture end was given accepted files
    pub headline : Live as_they_are switch queries train capture nodes files o → o.end ≡ ended ending → (given : AreAccepted switch queries train capture files ending) × Headline given o.text
    headline t end =
        let p = passed (Certifies switch queries train nodes) (λ found. AlongPlan as_they_are capture found.read found.limits found.certificate.plan) files (never_certifies switch queries train nodes files) o t (λ r e. ended_so ending r (sym end ∙ e)) in
        let found = p.value in
        let c = certified_so switch queries train nodes files p.begun found p.begins p.ok in
        let a = answered_so capture files (plan_wording (planned found.read found.limits found.certificate.plan)) (λ windows number tuples. refl) (window_ns found.read) p.rest p.goes_on (λ r e. ended_so ending r (sym end ∙ p.end ∙ e)) in
        let same : a.ending ≡ ending = one_ending a.ending ending (sym a.end ∙ sym p.end ∙ end) in
        let k = training_so (window_ns found.read) c.trained.bytes c.trained.has.few c.training c.trained.is in
        let given : AreAccepted switch queries train capture files ending = record {
          query_text = c.read.bytes;
          switch_text = c.limits.bytes;
          first_file = c.trained.bytes;
          second_file = a.file;
          has_queries = c.read.has;
          has_switch = c.limits.has;
          has_first = c.trained.has;
          has_second = a.has;
          read = found.read;
          limits = found.limits;
          first = k.windows;
          first_ending = k.ending;
          second = a.windows;
          are_queries = c.read.is;
          is_switch = c.limits.is;
          is_first = k.is;
          is_second = subst (λ (e : Ending). IsCapture (window_ns found.read) a.file a.windows e) same a.is;
        } in
        let is : IsCertificate found.limits found.read.queries k.windows nodes found.certificate = subst (λ (ws : List Window). IsCertificate found.limits found.read.queries ws nodes found.certificate) k.trained c.is in (
          given,
          headline_of given nodes found.certificate is o.text
              (p.text ∙ ap (λ (l : List ℕ). l ++ p.rest.text) c.text_is
              ∙ ap (λ (l : List ℕ). certificate_text found.certificate ++ l)
              (a.text ∙ ap (λ (e : Ending). flat_map (window_block (planned found.read found.limits found.certificate.plan) a.windows) a.windows ++ plan_lines (planned found.read found.limits found.certificate.plan) a.windows e) same)),
        )
