-- `check` says yes to what `plan` wrote, and `run` along it sends what it costs.
use Rattle.std.proofs.Common.{◌≡◌, ℕ, zero, suc, ◌+◌, ◌≤◌, ◌<◌, ◌^◌, false, cond, List, [], ◌∷◌, ◌++◌, length, map, nat_lt, append-nil, Bool, Result, Ok, Err, slice_get, refl, sym, ap, ◌∙◌, subst, arith}
use Rattle.std.specs.Prelude.{◌*◌, unwrap_or}
use Rattle.std.specs.List.{AllByRecursion, flat_map}
use Rattle.std.proofs.lemmas.Bool.{le-ltb, ltb-false}
use Rattle.std.proofs.lemmas.List.{length-map}
use Rattle.sn_base.proofs.Lists.{all_map, by_test, some_same}
use Rattle.sn_base.specs.declared.link.Link.{Link}
use Rattle.sn_command.specs.declared.fault.Fault.{Fault}
use Rattle.sn_command.specs.declared.fault.Fault.TheVariants as faults
use Rattle.sn_command.specs.declared.refusal.Refusal.{Refusal}
use Rattle.sn_command.specs.declared.refusal.Refusal.TheVariants.{Refused}
use Rattle.sn_command.specs.Outcomes.{Outcome, Stage, silent}
use Rattle.sn_command.specs.Refusals.{refusing}
use Rattle.sn_command.specs.Stages.{Bytes, Does, Gives, GoesOn, Judges, Text, Then, most_text, within_limit}
use Rattle.sn_command_capture.specs.Capture.{ending_verdict, packet_tuple, time_of}
use Rattle.sn_windows.specs.Rising.{Window}
use Rattle.sn_command_check.specs.Check.{After, Check}
use Rattle.sn_command_check.specs.PlanTrees.{PlanBefore, TreeAfter}
use Rattle.sn_command_check.specs.Shown.{ShownFor, flaw_verdict}
use Rattle.sn_command_check.proofs.CheckLemmas.{one_check}
use Rattle.sn_command_check.proofs.NoPrices.{tree_without_prices}
use Rattle.sn_command_live.specs.Captures.{IsHeld}
use Rattle.sn_command_live.specs.Live.{Certifies, Plan as Planning, Searched, Searches, trained_windows}
use Rattle.sn_command_live.proofs.HeadlineLemmas.{Shows}
use Rattle.sn_command_live.proofs.Inversions.{Passed, ReadSo, judged_so, read_so}
use Rattle.sn_command_live.proofs.ReachLemmas.{answered_given, text_given, then_given, sums_are}
use Rattle.sn_command_live.proofs.TrainLemmas.{TrainedSo, training_so}
use Rattle.sn_command_run.specs.Planned.{Planned, as_they_are, emitted_at, emitted_in, plan_block, plan_lines, plan_wording}
use Rattle.sn_command_run.specs.Run.{Run, planned, window_ns}
use Rattle.sn_command_run.proofs.RunLemmas.{one_run}
use Rattle.sn_command_search.specs.Certificates.{IsCertificate, SearchedIn, certificate_text}
use Rattle.sn_command_search.specs.Shown.{ShowsLeast}
use Rattle.sn_command_search.specs.declared.certificate.Certificate.{Certificate}
use Rattle.sn_command_texts.specs.Fitting.{Fitting, misfit_verdict}
use Rattle.sn_command_texts.specs.Queries.{QueriesIn}
use Rattle.sn_command_texts.specs.Texts.{PlanIn, SwitchIn}
use Rattle.sn_command_texts.proofs.Accepted.{read_ok, switch_limits, typed_in}
use Rattle.sn_command_texts.proofs.Verdicts.{switch_once}
use Rattle.sn_command_training.specs.Training.{JudgedAs, TrainingIn, judged_records, training_of}
use Rattle.sn_command_training.proofs.NumberLemmas.{as_many_numbers}
use Rattle.sn_cost_training.specs.Trained.{Training}
use Rattle.sn_cost.specs.Training.{NeverFall}
use Rattle.sn_cost_laws.specs.Sent.{cost_over, installed_over}
use Rattle.sn_cost_laws.specs.Space.{trained_plans}
use Rattle.sn_cost_laws.proofs.Plans.{no_weight, trained_priced}
use Rattle.sn_io.specs.Counts.{ByName}
use Rattle.sn_pcap.specs.Capture.{head_of}
use Rattle.sn_pcap.specs.Reading.{last_of}
use Rattle.sn_pcap.specs.declared.header.HeadFault.{HeadFault}
use Rattle.sn_pcap.specs.declared.header.Header.{Header}
use Rattle.sn_pcap.specs.declared.packet.Ending.{Ending}
use Rattle.sn_pcap.specs.declared.packet.Ending.TheVariants as endings
use Rattle.sn_pcap.specs.declared.packet.Packet.{Packet}
use Rattle.sn_pcap.specs.declared.seen.Last.TheVariants as last
use Rattle.sn_plan.specs.Texts as plans
use Rattle.sn_plan_fit.proofs.FitLaws.{fits_none}
use Rattle.sn_plan_grammar.specs.declared.plan.Plan.{Plan}
use Rattle.sn_plan_lists.proofs.TypedBounds.{all_rising, typed_bounds}
use Rattle.sn_plan_space.proofs.Typing.{typed_readable}
use Rattle.sn_switch.specs.Texts.{IsSwitch}
use Rattle.sn_switch.specs.declared.switch.Switch.{Switch}
use Rattle.sn_tree.specs.Faults.{tree_fault}
use Rattle.sn_tree.proofs.Accepts.{no_fault_accepted}
use Rattle.sn_tree_space.specs.declared.node.Node.{Node}
use Rattle.sn_tree_space.specs.Space.{Space, itself}
use Rattle.sn_tree_text.specs.Printing.{IsSmall}
use Rattle.sn_tree_text.specs.Texts as trees
use Rattle.sn_types.specs.Typed.{IsTyped, blank_branch}
use Rattle.sn_types.specs.declared.typed_query.TypedBranch.{TypedBranch}
use Rattle.sn_types.specs.declared.typed_query.TypedQuery.{TypedQuery}
use Rattle.sn_types_read.specs.Texts as query_texts
use Rattle.sn_types_read.specs.Texts.{Queries}
use Rattle.sn_query_grammar.specs.Limits.{Within}
use Rattle.sn_refine_laws.specs.Counts.{KeepsCounts, KeepsQueryCounts}
use Rattle.sn_top_laws.specs.Written.{CostsSo, HasNoWeight, IsKeptBeside, IsPlanTree, PrintsTotal, SaysYes, SendsAsMany, SendsCost, yes_of}
use Rattle.sn_top_laws.proofs.CostBounds.{HaveFewOps, lower_small, trained_few, tree_small}
use Rattle.sn_refine_laws.proofs.CountLemmas.{counts}
use Rattle.sn_top_laws.proofs.FitPlans.{fit_entries}
use Rattle.sn_top_laws.proofs.ItemCounts.{most}
use Rattle.sn_top_laws.proofs.PlanFits.{AreEntries, plan_fine, plan_in_grammar}
use Rattle.sn_top_laws.proofs.PlanTexts.{read_back}
use Rattle.sn_top_laws.proofs.QueryNames.{read_levels}
use Rattle.sn_top_laws.proofs.RecordLemmas.{never_fall}
use Rattle.sn_windows.specs.Blocks.{most_records}
use Rattle.sn_windows.specs.Windows.{number_at, numbered}
use Rattle.sn_windows.proofs.RunLemmas.{Rises}

-- ---- a stage that gave a value

module _ {A B : Type 0} (first : Stage A) (second : A → Stage B) (files : ByName (List ℕ)) where
  gave : (whole : Outcome B) (value : B) → Then first second files whole → whole.end ≡ Ok value → Passed first second files whole
  gave whole value t e = by_end t.begun.end refl t.goes_on
    where
      by_end : (end : Result A Refusal) → t.begun.end ≡ end → GoesOn second files t.begun.text end whole → Passed first second files whole
      by_end (Ok v) is (rest, goes, same) = record {
        begun = t.begun;
        begins = t.begins;
        value = v;
        ok = is;
        rest = rest;
        goes_on = goes;
        text = ap (λ (o : Outcome B). o.text) same;
        end = ap (λ (o : Outcome B). o.end) same;
      }
      by_end (Err r) is same = absurd (let no = sym e ∙ ap (λ (o : Outcome B). o.end) same in cc)

added : (text : List ℕ) (found : Searched) (rest : Outcome Searched) → rest ≡ record { text = text; end = Ok found } → rest.text ≡ text
added text found rest e = ap (λ (o : Outcome Searched). o.text) e

-- what stands after a stage that adds nothing
following : (whole first rest : List ℕ) → whole ≡ first ++ rest → first ≡ [] → whole ≡ rest
following whole first rest e none = e ∙ ap (λ (l : List ℕ). l ++ rest) none

bytes_given : (most : ℕ) (name : List ℕ) (files : ByName (List ℕ)) (bytes : List ℕ) → IsHeld files name most bytes → Bytes most name files (silent (Ok bytes))
bytes_given most name files bytes has =
    ap silent (sym (ap (within_limit most) has.is ∙ ap (λ b. cond b (Err (Refused faults.TooLarge)) (Ok bytes)) (le-ltb most (length bytes) has.few)))

-- ---- a training capture

training_is : {a b : Training} → ◌≡◌ {A = Result Training Fault} (Ok a) (Ok b) → a ≡ b
training_is e = cc

-- as many numbers as tuples, no more than may be, and the numbers don't fall
record IsInOrder (training : Training) : Type 0 where
  alike : length training.numbers ≡ length training.tuples
  most : length training.tuples ≤ most_records
  rising : NeverFall training.numbers

numbers_rising : (ps : List (ℕ × Packet)) → Rises ps → NeverFall (map number_at ps)
numbers_rising [] h = tt
numbers_rising (p ∷ ps) h = (all_map (λ (m : ℕ). p.0 ≤ m) number_at ps h.0, numbers_rising ps h.1)

module _ (window : ℕ) (file : List ℕ) (training : Training) where
  -- the training of packets is in order
  in_order : (link : Link) (packets : List Packet) → length packets ≤ most_records → IsInOrder (training_of window link file packets)
  in_order link packets few = record {
    alike = as_many_numbers time_of window packets ∙ sym (length-map packets (packet_tuple link file));
    most = rw (length-map packets (packet_tuple link file)) few;
    rising = numbers_rising (numbered time_of window packets) (never_fall window packets);
  }

  records_ordered : (header : Header) (packets : List Packet) → Ok training ≡ judged_records window header.link file packets → IsInOrder training
  records_ordered header packets e =
      by_test (nat_lt most_records (length packets))
      (λ is. absurd (let no = e ∙ ap (λ b. cond b (Err faults.TooLarge) (Ok (training_of window header.link file packets))) is in cc))
      (λ isnt.
      let same : training ≡ training_of window header.link file packets = training_is (e ∙ ap (λ b. cond b (Err faults.TooLarge) (Ok (training_of window header.link file packets))) isnt) in
      subst IsInOrder (sym same) (in_order header.link packets (ltb-false most_records (length packets) isnt)))

  training_ordered : TrainingIn window file (Ok training) → IsInOrder training
  training_ordered is = by_head (head_of file) is
    where
      by_head : (head : Result Header HeadFault) → JudgedAs window file head (Ok training) → IsInOrder training
      by_head (Ok header) j = records_ordered header j.packets j.same
      by_head (Err fault) j = absurd (let no = j in cc)

-- a file of a text's size has its last record in reach
ends_there : (file : List ℕ) (ending : Ending) → length file ≤ most_text → last_of file ending ≡ last.Ended ending
ends_there file (endings.Bad n) few = refl
ends_there file endings.Clean few = ap (λ b. cond b last.TooLarge (last.Ended endings.Clean)) (le-ltb (2 ^ 40) (length file) (omega (arith, few)))
ends_there file (endings.Cut n) few = ap (λ b. cond b last.TooLarge (last.Ended (endings.Cut n))) (le-ltb (2 ^ 40) (length file) (omega (arith, few)))

-- ---- queries

branch_few : (bs : List TypedBranch) → AllByRecursion (λ (b : TypedBranch). Within 1 12 (length b.ops)) bs → (b : ℕ) → length (unwrap_or (slice_get bs b) blank_branch).ops ≤ 12
branch_few [] h b = omega arith
branch_few (x ∷ xs) h zero = h.0.to_most
branch_few (x ∷ xs) h (suc b) = branch_few xs h.1 b

few_ops : (queries : List TypedQuery) → AllByRecursion KeepsQueryCounts queries → HaveFewOps queries
few_ops [] h q b = omega arith
few_ops (x ∷ xs) h zero b = branch_few x.branches h.0.ops b
few_ops (x ∷ xs) h (suc q) b = few_ops xs h.1 q b

-- ---- what `plan` wrote

-- the stages gave these values, of which this is the certificate
pub record Certified (switch queries train : List ℕ) (nodes : ℕ) (files : ByName (List ℕ)) (text : List ℕ) : Type 0 where
  pub read : Queries
  pub limits : Switch
  pub training : Training
  pub certificate : Certificate
  pub are_queries : ReadSo queries QueriesIn files read
  pub is_switch : ReadSo switch SwitchIn files limits
  pub is_training : ReadSo train (TrainingIn (window_ns read)) files training
  pub is : IsCertificate limits read.queries (trained_windows training) nodes certificate
  pub text_is : text ≡ certificate_text certificate

-- a text was read and judged, and another stage went on from it
module _ {A B : Type 0} (name : List ℕ) (judgement : List ℕ → Result A Fault → Type 0) (second : A → Stage B) (files : ByName (List ℕ)) (o : Outcome B) (value : B) where
  record Read : Type 0 where
    gives : A
    so : ReadSo name judgement files gives
    rest : Outcome B
    goes : second gives files rest
    text : o.text ≡ rest.text
    end : rest.end ≡ Ok value

  read_then : Then (Text name judgement) second files o → o.end ≡ Ok value → Read
  read_then t e = by_passed (gave (Text name judgement) second files o value t e)
    where
      by_passed : Passed (Text name judgement) second files o → Read
      by_passed p = let so = read_so name judgement files p.begun p.value p.begins p.ok in record { gives = p.value; so = so.0; rest = p.rest; goes = p.goes_on; text = following o.text p.begun.text p.rest.text p.text so.1; end = sym p.end ∙ e }

module _ (switch queries train : List ℕ) (nodes : ℕ) (files : ByName (List ℕ)) (found : Searched) where
  module _ (read : Queries) (limits : Switch) (training : Training) where
    abbrev judgement : Result Certificate Fault → Type 0
    judgement = SearchedIn limits read.queries (trained_windows training) nodes

    abbrev searched : Certificate → Searched
    searched c = record { read = read; limits = limits; certificate = c }

    abbrev adds : Certificate → Stage Searched
    adds c = Does (record { text = certificate_text c; end = Ok (searched c) })

    by_search : (o : Outcome Searched) → Searches read limits training nodes files o → o.end ≡ Ok found → (c : Certificate) × IsCertificate limits read.queries (trained_windows training) nodes c × (o.text ≡ certificate_text c)
    by_search o t e = by_passed (gave (Judges judgement) adds files o found t e)
      where
        by_passed : Passed (Judges judgement) adds files o → (c : Certificate) × IsCertificate limits read.queries (trained_windows training) nodes c × (o.text ≡ certificate_text c)
        by_passed p =
            let j = judged_so judgement files p.begun p.value p.begins p.ok in
            (p.value, j.0, following o.text p.begun.text p.rest.text p.text j.1 ∙ added (certificate_text p.value) (searched p.value) p.rest p.goes_on)

  abbrev by_training : Queries → Switch → Training → Stage Searched
  by_training read limits training = Searches read limits training nodes

  abbrev by_limits : Queries → Switch → Stage Searched
  by_limits read limits = Then (Text train (TrainingIn (window_ns read))) (by_training read limits)

  abbrev by_queries : Queries → Stage Searched
  by_queries read = Then (Text switch SwitchIn) (by_limits read)

  certified : (o : Outcome Searched) → Certifies switch queries train nodes files o → o.end ≡ Ok found → Certified switch queries train nodes files o.text
  certified o t e = with_queries (read_then queries QueriesIn by_queries files o found t e)
    where
      with_training : (a : Read queries QueriesIn by_queries files o found) (b : Read switch SwitchIn (by_limits a.gives) files a.rest found) (d : Read train (TrainingIn (window_ns a.gives)) (by_training a.gives b.gives) files b.rest found)
          → (c : Certificate) × IsCertificate b.gives a.gives.queries (trained_windows d.gives) nodes c × (d.rest.text ≡ certificate_text c) → Certified switch queries train nodes files o.text
      with_training a b d (c, is, text) = record {
        read = a.gives;
        limits = b.gives;
        training = d.gives;
        certificate = c;
        are_queries = a.so;
        is_switch = b.so;
        is_training = d.so;
        is = is;
        text_is = a.text ∙ b.text ∙ d.text ∙ text;
      }

      with_limits : (a : Read queries QueriesIn by_queries files o found) → Read switch SwitchIn (by_limits a.gives) files a.rest found → Certified switch queries train nodes files o.text
      with_limits a b = then_training (read_then train (TrainingIn (window_ns a.gives)) (by_training a.gives b.gives) files b.rest found b.goes b.end)
        where
          then_training : Read train (TrainingIn (window_ns a.gives)) (by_training a.gives b.gives) files b.rest found → Certified switch queries train nodes files o.text
          then_training d = with_training a b d (by_search a.gives b.gives d.gives d.rest d.goes d.end)

      with_queries : Read queries QueriesIn by_queries files o found → Certified switch queries train nodes files o.text
      with_queries a = with_limits a (read_then switch SwitchIn (by_limits a.gives) files a.rest found a.goes a.end)

module _ (switch queries train : List ℕ) (nodes : ℕ) (files : ByName (List ℕ)) where
  pub plan_certified : (o : Outcome (Unit {0})) → Planning switch queries train nodes files o → o.end ≡ Ok tt → Certified switch queries train nodes files o.text
  plan_certified o t e = by_passed (gave (Certifies switch queries train nodes) (λ found. Gives (Ok tt)) files o tt t e)
    where
      by_passed : Passed (Certifies switch queries train nodes) (λ found. Gives (Ok tt)) files o → Certified switch queries train nodes files o.text
      by_passed p =
          let same : o.text ≡ p.begun.text = p.text ∙ ap (λ (r : Outcome (Unit {0})). p.begun.text ++ r.text) p.goes_on ∙ append-nil p.begun.text in
          subst (Certified switch queries train nodes files) (sym same) (certified switch queries train nodes files p.value p.begun p.begins p.ok)

-- ---- it is read back

module _ (show : Shows) (switch queries train written : List ℕ) (nodes : ℕ) (files later : ByName (List ℕ)) (text : List ℕ) (few : length text ≤ most_text) (kept : IsKeptBeside switch queries train written text files later) (k : Certified switch queries train nodes files text) where
  abbrev c : Certificate
  c = k.certificate

  abbrev given : List Window
  given = trained_windows k.training

  abbrev space : Space
  space = trained_plans k.limits k.read.queries given

  typed : ∥ IsTyped k.read.window_us k.read.queries ∥₁
  typed = typed_in k.are_queries.bytes k.read k.are_queries.is

  limited : IsSwitch k.limits
  limited = switch_limits k.is_switch.bytes k.limits k.is_switch.is

  counted : KeepsCounts k.read.window_us k.read.queries
  counted = let q = read_ok faults.Queries (query_texts.IsRead k.are_queries.bytes) k.read k.are_queries.is in counts k.read.window_us k.read.queries (q.0, q.2)

  shows : ShowsLeast k.limits k.read.queries given c
  shows = show k.limits k.read.window_us k.read.queries given nodes c typed limited k.is

  ordered : IsInOrder k.training
  ordered = training_ordered (window_ns k.read) k.is_training.bytes k.training k.is_training.is

  tuples_few : length k.training.tuples ≤ most
  tuples_few = ordered.most

  ops_few : HaveFewOps k.read.queries
  ops_few = few_ops k.read.queries counted.each

  cost_small : c.cost < 2 ^ 64
  cost_small =
      subst (λ (n : ℕ). n < 2 ^ 64) (sym k.is.cost)
      (lower_small k.limits limited k.read.window_us k.read.queries typed ops_few k.training.numbers k.training.tuples tuples_few ordered.alike ordered.rising
      (typed_readable k.read.window_us k.read.queries typed) counted.count.to_most c.choices k.is.first.plan.partial)

  nodes_small : AllByRecursion IsSmall c.tree
  nodes_small =
      tree_small k.limits limited k.read.window_us k.read.queries typed ops_few k.training.numbers k.training.tuples tuples_few ordered.alike ordered.rising
      (typed_readable k.read.window_us k.read.queries typed) counted.count.to_most c.choices k.is.first.plan.partial
      [] c.tree shows.accepted.covers (itself [])

  entries : AreEntries c.plan.entries
  entries =
      fit_entries k.limits k.read.queries c.plan.entries limited (typed_bounds k.read.window_us k.read.queries typed) (read_levels k.are_queries.bytes k.read k.are_queries.is)
      counted.count.from_least counted.count.to_most shows.fits

  back : (byte : ℕ) × plans.IsRead text (Ok (c.plan, byte)) × trees.IsRead text byte (Ok (c.cost, c.tree))
  back =
      subst (λ (t : List ℕ). (byte : ℕ) × plans.IsRead t (Ok (c.plan, byte)) × trees.IsRead t byte (Ok (c.cost, c.tree))) (sym k.text_is)
      (read_back c.plan c.cost c.tree (plan_in_grammar c.plan entries) (plan_fine c.plan entries) cost_small nodes_small)

  abbrev pub found : IsPlanTree text
  found = record { plan = c.plan; cost = c.cost; tree = c.tree; is = k.text_is }

  -- ---- `check`

  held_queries : IsHeld later queries most_text k.are_queries.bytes
  held_queries = record { is = kept.same_queries ∙ k.are_queries.has.is; few = k.are_queries.has.few }

  held_switch : IsHeld later switch most_text k.is_switch.bytes
  held_switch = record { is = kept.same_switch ∙ k.is_switch.has.is; few = k.is_switch.has.few }

  held_train : IsHeld later train most_text k.is_training.bytes
  held_train = record { is = kept.same_train ∙ k.is_training.has.is; few = k.is_training.has.few }

  held_text : IsHeld later written most_text text
  held_text = record { is = kept.held; few = few }

  fitting : Fitting k.read.queries k.limits c.plan later (silent (Ok tt))
  fitting = ap (λ m. silent (refusing (misfit_verdict m))) (sym ((fits_none k.read.queries k.limits c.plan.entries limited.stages.0).1 shows.fits))

  shown : ShownFor k.limits k.read.queries given c.plan c.cost c.tree (Ok tt)
  shown =
      sym (ap flaw_verdict
      (ap (λ (choices : List ℕ). tree_fault space choices c.cost c.tree) shows.choices ∙ no_fault_accepted space c.choices c.cost c.tree k.is.cost shows.accepted))

  abbrev pub yes : Outcome (Unit {0})
  yes = yes_of c.cost (length c.tree)

  abbrev place : Plan × ℕ
  place = (c.plan, back.0)

  abbrev tree : ℕ × List Node
  tree = (c.cost, c.tree)

  plan_before : PlanBefore text (Ok place)
  plan_before = record { found = Ok place; is = back.1; same = refl }

  tree_after : TreeAfter text back.0 (Ok tree)
  tree_after = record { found = Ok tree; is = back.2; same = refl }

  plan_in : PlanIn text (Ok c.plan)
  plan_in = record { found = Ok c.plan; is = (back.0, back.1); same = refl }

  pub check_given : Check switch queries train written later yes
  check_given =
      then_given [] k.read yes (text_given queries QueriesIn later k.are_queries.bytes k.read held_queries k.are_queries.is)
      (then_given [] k.limits yes (text_given switch SwitchIn later k.is_switch.bytes k.limits held_switch k.is_switch.is)
      (then_given [] k.training yes (text_given train (TrainingIn (window_ns k.read)) later k.is_training.bytes k.training held_train k.is_training.is)
      (then_given [] text yes (bytes_given most_text written later text held_text)
      (then_given [] place yes (record { verdict = Ok place; is = plan_before; same = refl })
      (then_given [] tt yes fitting
      (subst (λ (b : Bool). After k.read k.limits k.training text c.plan back.0 b later yes) (sym (tree_without_prices text back.0 tree back.2))
      (then_given [] tree yes (record { verdict = Ok tree; is = tree_after; same = refl })
      (then_given [] tt yes (record { verdict = Ok tt; is = shown; same = refl }) refl))))))))

  pub says_yes : (checked : Outcome (Unit {0})) → Check switch queries train written later checked → SaysYes text checked
  says_yes checked is = record { found = found; checked_so = (one_check switch queries train written).once later checked yes is check_given }

  -- ---- `run`

  abbrev pub capture : TrainedSo (window_ns k.read) k.is_training.bytes k.is_training.has.few k.training
  capture = training_so (window_ns k.read) k.is_training.bytes k.is_training.has.few k.training k.is_training.is

  abbrev along : Planned
  along = planned k.read k.limits c.plan

  each_few : AllByRecursion (λ (w : Window). length w.1 ≤ most_records) capture.windows
  each_few = subst (λ (ws : List Window). AllByRecursion (λ (w : Window). length w.1 ≤ most_records) ws) capture.trained (trained_few k.training.numbers k.training.tuples tuples_few)

  abbrev pub due : Outcome (Unit {0})
  due = record { text = flat_map (λ (w : Window). plan_block along capture.windows w.0 w.1) capture.windows ++ plan_lines along capture.windows capture.ending; end = refusing (ending_verdict capture.ending) }

  pub run_given : Run as_they_are false switch queries written train later due
  run_given =
      then_given [] k.read due (text_given queries QueriesIn later k.are_queries.bytes k.read held_queries k.are_queries.is)
      (then_given [] k.limits due (text_given switch SwitchIn later k.is_switch.bytes k.limits held_switch k.is_switch.is)
      (then_given [] c.plan due (text_given written PlanIn later text c.plan held_text plan_in)
      (then_given [] tt due fitting
      (answered_given (plan_wording along) (λ windows number tuples. refl) (window_ns k.read) train later k.is_training.bytes capture.windows capture.ending held_train.is capture.is each_few (ends_there k.is_training.bytes capture.ending k.is_training.has.few)))))

  -- how many items the plan sends of the training capture
  abbrev pub sent : ℕ
  sent = emitted_in along capture.windows

  cost_sent : c.cost ≡ sent + k.limits.weight * installed_over k.limits k.read.queries c.plan.entries capture.windows
  cost_sent =
      shows.cost ∙ trained_priced k.limits k.read.queries given c.plan.entries (all_rising k.limits k.read.window_us k.read.queries typed limited) shows.fits
      ∙ ap (cost_over k.limits k.read.queries c.plan.entries) capture.trained
      ∙ ap (λ n. n + k.limits.weight * installed_over k.limits k.read.queries c.plan.entries capture.windows) (sums_are (emitted_at along capture.windows) capture.windows)

  pub costs_so : CostsSo switch queries train later c.plan c.cost sent
  costs_so = record {
    switch_text = k.is_switch.bytes;
    query_text = k.are_queries.bytes;
    train_file = k.is_training.bytes;
    has_switch = held_switch;
    has_queries = held_queries;
    has_train = held_train;
    limits = k.limits;
    read = k.read;
    windows = capture.windows;
    ending = capture.ending;
    is_switch = k.is_switch.is;
    are_queries = k.are_queries.is;
    is_train = capture.is;
    costs = cost_sent;
  }

  pub due_prints : PrintsTotal sent due
  due_prints = record {
    ending = capture.ending;
    blocks = flat_map (λ (w : Window). plan_block along capture.windows w.0 w.1) capture.windows;
    windows = length capture.windows;
    ran_so = refl;
  }

  run_prints : (ran : Outcome (Unit {0})) → Run as_they_are false switch queries written train later ran → PrintsTotal sent ran
  run_prints ran is = subst (PrintsTotal sent) ((one_run as_they_are false switch queries written train).once later due ran run_given is) due_prints

  pub sends_cost : (ran : Outcome (Unit {0})) → Run as_they_are false switch queries written train later ran → SendsCost switch queries train later text ran
  sends_cost ran is = record {
    found = found;
    sent = sent;
    costs = costs_so;
    prints = run_prints ran is;
  }

  -- ---- without a weight

  cost_is : HasNoWeight switch later → c.cost ≡ sent
  cost_is light =
      let same_text : light.text ≡ k.is_switch.bytes = some_same light.text k.is_switch.bytes (sym light.held ∙ held_switch.is) in
      let same : light.limits ≡ k.limits =
      switch_same (switch_once k.is_switch.bytes (Ok light.limits) (Ok k.limits) (subst (λ (bytes : List ℕ). SwitchIn bytes (Ok light.limits)) same_text light.is) k.is_switch.is) in
      let installed : ℕ = installed_over k.limits k.read.queries c.plan.entries capture.windows in
      let none : k.limits.weight * installed ≡ 0 = ap (λ (s : Switch). s.weight * installed) (sym same) ∙ ap (λ (n : ℕ). n * installed) light.none ∙ no_weight installed in
      let whole = cost_sent in
      omega (arith, whole, none)
    where
      switch_same : {a b : Switch} → ◌≡◌ {A = Result Switch Fault} (Ok a) (Ok b) → a ≡ b
      switch_same e = cc

  pub sends_as_many : (ran : Outcome (Unit {0})) → Run as_they_are false switch queries written train later ran → HasNoWeight switch later → SendsAsMany text ran
  sends_as_many ran is light =
      record { found = found; prints = subst (λ (n : ℕ). PrintsTotal n ran) (sym (cost_is light)) (run_prints ran is) }
