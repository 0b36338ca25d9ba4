-- A plan that reports, from one window to the next, over plain values.
use Rattle.std.proofs.Common.{◌≡◌, ℕ, zero, suc, ◌+◌, List, [], ◌∷◌, ◌++◌, ◌==◌, cond, map, length, Option, None, Some, Result, Ok, Err, refl, ap, sym, ◌∙◌, subst, append_assoc, append-nil, arith}
use Rattle.std.specs.FinSet as set
use Rattle.std.specs.List.{AllByRecursion, flat_map, range_with_len}
use Rattle.std.specs.Result.{OnOk}
use Rattle.std.specs.declared.vec.Vec.{Vec}
use Rattle.std.specs.declared.alloc.Global.{Global}
use Rattle.std.proofs.lemmas.Grind.{flat_map-append}
use Rattle.std.proofs.lemmas.List.{length-append}
use Rattle.sn_base.proofs.Lists.{all_append, all_of, all_weaker}
use Rattle.sn_windows.specs.Rising.{AreRising, Window}
use Rattle.sn_engine_asked.specs.Asked.{AdmitTheSame, AreHeard}
use Rattle.sn_engine_asked.proofs.Answered.{HeardAdmitted, HeardEmptied, HeardRecalled}
use Rattle.sn_engine_asked.proofs.Hearing.{first_heard, work_alike}
use Rattle.sn_engine_lockstep.proofs.Changes.{all_get}
use Rattle.sn_engine_lockstep.specs.declared.driver.Driver.{Driver}
use Rattle.sn_engine_lockstep.specs.declared.source.Source.{Source}
use Rattle.sn_engine_lockstep.specs.Sources.{kept_in, prefixes_in, source_of, sources_of}
use Rattle.sn_engine_lockstep.specs.Windows.{parts_from}
use Rattle.sn_engine_lockstep.specs.Work.{AreAtWork, AreIdle, AreUnread, Recalls, frames_given}
use Rattle.sn_engine_lockstep.proofs.Laws.{new_idle, plan_made}
use Rattle.sn_engine_lockstep.proofs.Recalling.{recalls_none}
use Rattle.sn_engine_lockstep.proofs.Sending.{one_after}
use Rattle.sn_command_run.specs.Along.{last_of}
use Rattle.sn_emit.specs.declared.sender.Sender.{Sender}
use Rattle.sn_emit.specs.Plans.{AreLanesOf, AreNewLanes, Placed, pieces_from, tables_of}
use Rattle.sn_emit.specs.Senders.{frames_left}
use Rattle.sn_emit.specs.declared.tables.Tables.{Tables}
use Rattle.sn_engine.specs.declared.intake.Intake.{Intake}
use Rattle.sn_engine.specs.Intakes.{intakes_of}
use Rattle.sn_plan_fit.specs.Fits.{Fits}
use Rattle.sn_refine.specs.Steps.{Set}
use Rattle.sn_report.specs.Items.{Frame}
use Rattle.sn_report.specs.Frames.{spelling}
use Rattle.sn_command_run.specs.Planned.{Planned}
use Rattle.sn_command_run.proofs.AlongLemmas.{last_more, rising_again}
use Rattle.sn_engine_lockstep.proofs.Driving.{begun_at, driver_after}
use Rattle.sn_switch.specs.declared.switch.Switch.{Switch}
use Rattle.sn_switch.specs.Texts.{IsSwitch}
use Rattle.sn_types.specs.declared.answers.Answers.{Answers}
use Rattle.sn_types.specs.declared.answers.Part.{Part}
use Rattle.sn_types.specs.declared.typed_query.TypedQuery.{TypedQuery}
use Rattle.sn_types.specs.Typed.{HasWidths}
use Rattle.sn_command_emit.specs.declared.reporter.Reporter.{Reporter}
use Rattle.sn_command_emit.specs.Causal.{same_frames}
use Rattle.sn_command_emit.specs.Reporting.{AdmitAlike, AreBytesOf, IsAtHand, IsDriverOf, IsIdle, RecallsPlan, kept_now, plan_of}
use Rattle.sn_command_emit.specs.Sent.{frames_after, frames_block, kept_of, packet_frames}
use Rattle.sn_command_emit.proofs.KeptLemmas.{all_admitted}
use Rattle.sn_command_emit.proofs.LanesLemmas.{all_read, all_send}

abbrev pub with_sent : Reporter → Driver → Vec ℕ Global → Reporter
with_sent a d sent = record { typed = a.typed; plan = a.plan; tables = a.tables; driver = d; last = a.last; sent = sent }

-- what an engine keeps
recalls_same : (p : Planned) (closed : List Window) (d e : Driver) → e.engine.closed ≡ d.engine.closed → e.engine.kept ≡ d.engine.kept → RecallsPlan p closed d → RecallsPlan p closed e
recalls_same p closed d e same prefixes h =
    let pieces : List Placed = pieces_from 0 p.entries in
    subst (λ (o : Option ℕ). Recalls p.queries pieces (last_of p closed) o e.engine.kept) (sym same)
    (subst (λ (sets : List Set). Recalls p.queries pieces (last_of p closed) d.engine.closed sets) (sym prefixes) h)

-- ---- the bytes of the frames

range_more : (a n : ℕ) → range_with_len a (suc n) ≡ range_with_len a n ++ (a + n) ∷ []
range_more a zero = let none : a ≡ a + 0 = omega arith in ap (λ m. m ∷ []) none
range_more a (suc n) = let next : a + 1 + n ≡ a + suc n = omega arith in ap (λ ms. a ∷ ms) (range_more (a + 1) n ∙ ap (λ m. range_with_len (a + 1) n ++ m ∷ []) next)

-- none before the first tuple
none_sent : (p : Planned) (kept : Placed → Set) (bytes : List ℕ) → bytes ≡ [] → AreBytesOf p kept [] bytes
none_sent p kept bytes none more widths = none

module _ (a : Reporter) (closed : List Window) (number : ℕ) (tuples : List (List ℕ)) (h : IsAtHand a closed number tuples) where
  abbrev p : Planned
  p = plan_of a

  abbrev kept : Placed → Set
  kept = kept_now p.queries (last_of p closed) number

  -- those of one tuple more
  more_sent : (tuple : List ℕ) (bytes : List ℕ) → HasWidths tuple → bytes ≡ a.sent.items ++ flat_map (spelling 2) (flat_map (frames_given tuple) a.driver.emitter) → AreBytesOf p kept (tuples ++ tuple ∷ []) bytes
  more_sent tuple bytes width sent more widths =
      let all : List (List ℕ) = tuples ++ tuple ∷ more in
      let frames : ℕ → List Frame = packet_frames p kept all in
      let count : suc (length tuples) ≡ length (tuples ++ tuple ∷ []) = let both = length-append tuples (tuple ∷ []) in omega (arith, both) in
      let given : flat_map (frames_given tuple) a.driver.emitter ≡ frames (length tuples) =
      all_send h.driver.typed_for p.tables p.queries (pieces_from 0 p.entries) (kept_in p.queries (last_of p closed) number) tuples a.driver.emitter h.work.whole h.driver.typed h.driver.can h.work.is
      tuple more (all_append HasWidths tuples (tuple ∷ more) h.widths (width, widths)) in
      sent
      ∙ ap (λ bs. bs ++ flat_map (spelling 2) (flat_map (frames_given tuple) a.driver.emitter)) (h.sent (tuple ∷ more) (width, widths))
      ∙ ap (λ fs. flat_map (spelling 2) (flat_map frames (range_with_len 0 (length tuples))) ++ flat_map (spelling 2) fs) given
      ∙ sym (one_after (spelling 2) frames (range_with_len 0 (length tuples)) (length tuples))
      ∙ ap (λ ns. flat_map (spelling 2) (flat_map frames ns)) (ap (λ m. range_with_len 0 (length tuples) ++ m ∷ []) (from (length tuples)) ∙ sym (range_more 0 (length tuples)))
      ∙ ap (λ n. flat_map (spelling 2) (flat_map frames (range_with_len 0 n))) count
      ∙ ap (λ ts. flat_map (spelling 2) (flat_map (packet_frames p kept ts) (range_with_len 0 (length (tuples ++ tuple ∷ []))))) (sym (append_assoc tuples (tuple ∷ []) more))
    where
      from : (n : ℕ) → n ≡ 0 + n
      from n = omega arith

  rising : AreRising None (closed ++ (number, tuples) ∷ [])
  rising = rising_again None closed number [] tuples h.rising

  -- those of the whole window
  pub block_is : (bytes : List ℕ) → bytes ≡ a.sent.items ++ flat_map (spelling 2) (flat_map (λ s. frames_left s number) a.driver.emitter) → bytes ≡ frames_block p (closed ++ (number, tuples) ∷ []) number tuples
  block_is bytes sent =
      let windows : List Window = closed ++ (number, tuples) ∷ [] in
      let numbers : List ℕ = range_with_len 0 (length tuples) in
      let following : List Frame = flat_map (frames_after p.queries p.tables kept tuples number) (pieces_from 0 p.entries) in
      sent
      ∙ ap (λ bs. bs ++ flat_map (spelling 2) (flat_map (λ s. frames_left s number) a.driver.emitter))
      (h.sent [] tt ∙ ap (λ ts. flat_map (spelling 2) (flat_map (packet_frames p kept ts) numbers)) (append-nil tuples))
      ∙ ap (λ fs. flat_map (spelling 2) (flat_map (packet_frames p kept tuples) numbers) ++ flat_map (spelling 2) fs)
      (all_read h.driver.typed_for p.tables p.queries (pieces_from 0 p.entries) (kept_in p.queries (last_of p closed) number) tuples a.driver.emitter h.work.whole h.driver.typed h.driver.can h.work.is number h.widths)
      ∙ sym (flat_map-append (spelling 2) (flat_map (packet_frames p kept tuples) numbers) following)
      ∙ ap (flat_map (spelling 2)) (same_frames p number tuples kept (kept_of p.queries windows number) same)
    where
      same : AllByRecursion (λ (x : Placed). kept x ≡ kept_of p.queries (closed ++ (number, tuples) ∷ []) number x) (pieces_from 0 p.entries)
      same = all_admitted p closed number tuples h.driver.entries rising

  -- ---- the window is closed

  abbrev pieces : List Placed
  pieces = pieces_from 0 p.entries

  abbrev before : Source → Set
  before = kept_in p.queries (last_of p closed) number

  -- the answers have what the lanes admit
  pub admitted_at : (answers : Answers) → HeardAdmitted p.entries a.driver.engine.t.queries number a.driver.engine.closed a.driver.engine.kept a.driver.emitter a.driver.engine.lanes.items answers
      → AdmitTheSame p.queries pieces answers.parts (parts_from p.queries before tuples 0 p.entries)
  admitted_at answers f =
      let g : HeardAdmitted p.entries p.queries number a.driver.engine.closed a.driver.engine.kept a.driver.emitter a.driver.engine.lanes.items answers =
      subst (λ (qs : List TypedQuery). HeardAdmitted p.entries qs number a.driver.engine.closed a.driver.engine.kept a.driver.emitter a.driver.engine.lanes.items answers) h.driver.queries f in
      g h.driver.typed_for p.tables before tuples h.driver.typed h.driver.entries h.driver.can h.widths h.work (h.recalls number)

  -- the engine keeps what it answered
  pub recalled_at : (answers : Answers) (last : Option ℕ) (sets : List Set) → HeardRecalled p.entries a.driver.engine.t.queries a.driver.emitter a.driver.engine.lanes.items last sets answers → Recalls p.queries pieces (Some answers) last sets
  recalled_at answers last sets f =
      let g : HeardRecalled p.entries p.queries a.driver.emitter a.driver.engine.lanes.items last sets answers =
      subst (λ (qs : List TypedQuery). HeardRecalled p.entries qs a.driver.emitter a.driver.engine.lanes.items last sets answers) h.driver.queries f in
      g h.driver.typed_for p.tables pieces before tuples h.driver.typed h.driver.can h.widths h.work

  -- and is empty
  pub emptied_at : (senders : List Sender) (intakes : List Intake) → HeardEmptied p.entries a.driver.engine.t.queries a.driver.emitter a.driver.engine.lanes.items senders intakes → AreIdle p.queries p.tables pieces senders intakes
  emptied_at senders intakes f =
      let g : HeardEmptied p.entries p.queries a.driver.emitter a.driver.engine.lanes.items senders intakes =
      subst (λ (qs : List TypedQuery). HeardEmptied p.entries qs a.driver.emitter a.driver.engine.lanes.items senders intakes) h.driver.queries f in
      g h.driver.typed_for p.tables pieces before tuples h.driver.typed h.driver.can h.widths h.work h.lanes

  -- the next window's lanes admit what they do after the answers along the plan
  next_alike : (answers : Answers) → answers.window ≡ number → AdmitTheSame p.queries pieces answers.parts (parts_from p.queries before tuples 0 p.entries)
      → AdmitAlike p (Some answers) (last_of p (closed ++ (number, tuples) ∷ []))
  next_alike answers is same next =
      let right : List Part = parts_from p.queries before tuples 0 p.entries in
      subst (λ (last : Option Answers). AllByRecursion (λ (x : Placed). kept_now p.queries (Some answers) next x ≡ kept_now p.queries last next x) pieces) (sym (last_more p closed number tuples))
      (all_weaker (λ (x : Placed). prefixes_in p.queries answers.parts (source_of x) ≡ prefixes_in p.queries right (source_of x))
      (λ (x : Placed). kept_now p.queries (Some answers) next x ≡ cond (number + 1 == next) (prefixes_in p.queries right (source_of x)) set.empty)
      (λ x e. ap (λ (n : ℕ). cond (n + 1 == next) (prefixes_in p.queries answers.parts (source_of x)) set.empty) is ∙ ap (λ (members : Set). cond (number + 1 == next) members set.empty) e) pieces same)

  pub closed_idle : (d : Driver) (answers : Answers) (sent : Vec ℕ Global) → answers.window ≡ number → AdmitTheSame p.queries pieces answers.parts (parts_from p.queries before tuples 0 p.entries) → IsDriverOf p d
      → AreIdle p.queries p.tables pieces d.emitter d.engine.lanes.items → Recalls p.queries pieces (Some answers) d.engine.closed d.engine.kept → sent.items ≡ []
      → IsIdle (record { typed = a.typed; plan = a.plan; tables = a.tables; driver = d; last = Some answers; sent = sent }) (closed ++ (number, tuples) ∷ [])
  closed_idle d answers sent is same driver lanes recalls none =
      let last : AdmitAlike p (Some answers) (last_of p (closed ++ (number, tuples) ∷ [])) = next_alike answers is same in
      record {
        driver = driver;
        lanes = lanes;
        last = last;
        recalls = λ next j x at.
            recalls next j x at
            ∙ all_get (λ (y : Placed). kept_now p.queries (Some answers) next y ≡ kept_now p.queries (last_of p (closed ++ (number, tuples) ∷ [])) next y) pieces j x (last next) at;
        none_sent = none;
        rising = rising;
      }

-- a tuple is given
pub given_hand : (a : Reporter) (d : Driver) (sent : Vec ℕ Global) (tuple : List ℕ) (closed : List Window) (number : ℕ) (tuples : List (List ℕ)) → IsAtHand a closed number tuples → HasWidths tuple
    → ((qs : List TypedQuery) (tables : Tables) (xs : List Placed) (kept : Source → Set) (before : List (List ℕ)) → AreHeard a.plan.entries qs tables xs kept before a.driver.emitter a.driver.engine.lanes.items → AreHeard a.plan.entries qs tables xs kept (before ++ tuple ∷ []) d.emitter d.engine.lanes.items)
    → sent.items ≡ a.sent.items ++ flat_map (spelling 2) (flat_map (frames_given tuple) a.driver.emitter)
    → AreUnread d.emitter → ((qs : List TypedQuery) (tables : Tables) (xs : List Placed) → AreLanesOf qs tables xs a.driver.emitter → AreLanesOf qs tables xs d.emitter) → length d.emitter ≡ length a.driver.emitter
    → d.engine.t.queries ≡ a.driver.engine.t.queries → d.sources ≡ a.driver.sources → d.engine.closed ≡ a.driver.engine.closed → d.engine.kept ≡ a.driver.engine.kept → IsAtHand (with_sent a d sent) closed number (tuples ++ tuple ∷ [])
given_hand a d sent tuple closed number tuples h width work bytes unread lanes count queries sources same prefixes = record {
  driver = driver_after a.typed.queries a.tables a.plan.entries a.driver h.driver d queries sources count;
  work = work a.typed.queries a.tables (pieces_from 0 a.plan.entries) (kept_in a.typed.queries (last_of (plan_of a) closed) number) tuples h.work;
  lanes = lanes a.typed.queries a.tables (pieces_from 0 a.plan.entries) h.lanes;
  unread = unread;
  widths = all_append HasWidths tuples (tuple ∷ []) h.widths (width, tt);
  recalls = recalls_same (plan_of a) closed a.driver d same prefixes h.recalls;
  sent = more_sent a closed number tuples h tuple sent.items width bytes;
  rising = h.rising;
}

-- a window is begun
pub begin_hand : (a : Reporter) (d : Driver) (number : ℕ) (closed : List Window) → IsIdle a closed → AreRising None (closed ++ (number, []) ∷ [])
    → ((tables : Tables) (xs : List Placed) → a.driver.sources ≡ map source_of xs → AreIdle a.driver.engine.t.queries tables xs a.driver.emitter a.driver.engine.lanes.items → AreAtWork a.driver.engine.t.queries tables xs (kept_in a.driver.engine.t.queries a.last number) [] d.emitter d.engine.lanes.items)
    → AreUnread d.emitter → ((qs : List TypedQuery) (tables : Tables) (xs : List Placed) → AreLanesOf qs tables xs a.driver.emitter → AreLanesOf qs tables xs d.emitter) → length d.emitter ≡ length a.driver.emitter
    → d.engine.t.queries ≡ a.driver.engine.t.queries → d.sources ≡ a.driver.sources → d.engine.closed ≡ a.driver.engine.closed → d.engine.kept ≡ a.driver.engine.kept → IsAtHand (with_sent a d a.sent) closed number []
begin_hand a d number closed idle rising work unread lanes count queries sources same prefixes = record {
  driver = driver_after a.typed.queries a.tables a.plan.entries a.driver idle.driver d queries sources count;
  work = first_heard a.plan.entries a.typed.queries a.tables (pieces_from 0 a.plan.entries) (kept_in a.typed.queries (last_of (plan_of a) closed) number) d.emitter d.engine.lanes.items
      (work_alike a.typed.queries a.tables (pieces_from 0 a.plan.entries) (kept_in a.typed.queries a.last number) (kept_in a.typed.queries (last_of (plan_of a) closed) number) [] d.emitter d.engine.lanes.items (idle.last number)
      (begun_at a.typed.queries a.tables a.plan.entries a.driver idle.driver a.last number d.emitter d.engine.lanes.items idle.lanes work));
  lanes = lanes a.typed.queries a.tables (pieces_from 0 a.plan.entries) idle.lanes.lanes;
  unread = unread;
  widths = tt;
  recalls = recalls_same (plan_of a) closed a.driver d same prefixes idle.recalls;
  sent = none_sent (plan_of a) (kept_now a.typed.queries (last_of (plan_of a) closed) number) a.sent.items idle.none_sent;
  rising = rising;
}

-- a plan as it is made
pub made_idle : (a : Reporter) (s : Switch) → a.tables ≡ tables_of s → IsSwitch s → Fits a.typed.queries s a.plan.entries → a.driver.engine.t.queries ≡ a.typed.queries → a.driver.sources ≡ sources_of 0 a.plan.entries
    → AreNewLanes a.typed.queries (tables_of s) (pieces_from 0 a.plan.entries) a.driver.emitter → a.driver.engine.lanes.items ≡ intakes_of 0 a.plan.entries → length a.driver.sources ≡ length a.driver.emitter → a.driver.engine.closed ≡ None → a.last ≡ None → a.sent.items ≡ [] → IsIdle a []
made_idle a s tables is fits queries sources lanes empty many first last none = record {
  driver = record {
    typed_for = a.typed.window_us;
    typed = a.typed.typed;
    entries = fits.paths;
    can = plan_made a.typed.window_us a.typed.queries s a.plan.entries a.typed.typed is fits;
    queries = queries;
    sources = sources;
    many = many;
  };
  lanes = subst (λ (items : List Intake). AreIdle a.typed.queries a.tables (pieces_from 0 a.plan.entries) a.driver.emitter items) (sym empty)
      (new_idle a.typed.queries a.tables a.plan.entries a.driver.emitter fits.paths (subst (λ (n : Tables). AreNewLanes a.typed.queries n (pieces_from 0 a.plan.entries) a.driver.emitter) (sym tables) lanes));
  last = λ number. subst (λ (o : Option Answers). AllByRecursion (λ (x : Placed). kept_now a.typed.queries o number x ≡ set.empty) (pieces_from 0 a.plan.entries)) (sym last)
      (all_of (λ (x : Placed). kept_now a.typed.queries None number x ≡ set.empty) (λ x. refl) (pieces_from 0 a.plan.entries));
  recalls = recalls_none a.typed.queries (pieces_from 0 a.plan.entries) a.driver.engine.closed a.driver.engine.kept first;
  none_sent = none;
  rising = tt;
}

-- ---- where all went well

module _ {X Y : Type 0} {P Q R S T U : Type 0} where
  pub on_five : (r : Result X Y) → OnOk r P → OnOk r Q → OnOk r R → OnOk r S → OnOk r T → (P → Q → R → S → T → U) → OnOk r U
  on_five (Ok x) one two three four five f = f one two three four five
  on_five (Err e) one two three four five f = tt
