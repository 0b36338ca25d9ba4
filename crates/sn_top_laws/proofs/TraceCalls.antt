-- A run of `live --trace` keeps the headline.
use Rattle.std.proofs.Common.{◌≡◌, ℕ, List, [], ◌∷◌, Ok, inl, inr, ap, sym, ◌∙◌, subst, arith}
use Rattle.sn_command.specs.Ends.{Around, Excused, IsCommandRun, end_status}
use Rattle.sn_command.specs.Outcomes.{Has, Outcome}
use Rattle.sn_command.specs.Refusals.{refusing}
use Rattle.sn_command.specs.Worlds.{AnyRose, OutRose}
use Rattle.sn_command_capture.specs.Capture.{ending_verdict}
use Rattle.sn_command_live.specs.Headline.{AreAccepted, Headline, KeepsLimits}
use Rattle.sn_command_live.specs.Live.{Live, TracedLive}
use Rattle.sn_command_live.proofs.LiveLemmas.{one_live_run, one_traced_run}
use Rattle.sn_command_live.proofs.PrintLemmas.{Only, Prints, zero_is}
use Rattle.sn_command_run.specs.Planned.{as_they_are}
use Rattle.sn_io.specs.Counts.{ByName}
use Rattle.sn_pcap.specs.declared.packet.Ending.{Ending}
use Rattle.sn_pcap.specs.declared.packet.Ending.TheVariants.{Clean}
use Rattle.sn_top_laws.specs.Events.{AddsEvents, without_events}
use Rattle.sn_top_laws.specs.TracedHeadline.{KeepsTracedHeadline}
use Rattle.sn_top_laws.proofs.EventRuns.{adds_events}

module _ (prints : Prints) (always : Only) (schedule : ℕ) (switch queries train capture : List ℕ) (nodes : ℕ) where
  abbrev Work : ByName (List ℕ) → Outcome (Unit {0}) → Type 0
  Work files outcome = TracedLive schedule as_they_are switch queries train capture nodes files outcome

  module _ (files : ByName (List ℕ)) (outcome : Outcome (Unit {0})) (is : Work files outcome) where
    plain : Has (Live as_they_are switch queries train capture nodes) files
    plain = (one_live_run as_they_are switch queries train capture nodes).some files

    adds : AddsEvents plain.outcome outcome
    adds = adds_events switch queries train nodes files schedule as_they_are capture plain.outcome outcome plain.is is

    pub traced_prints : (ending : Ending) (given : AreAccepted switch queries train capture files ending) → KeepsLimits given nodes → (outcome.end ≡ refusing (ending_verdict ending)) × Headline given (without_events outcome.text)
    traced_prints ending given keeps =
        let printed = prints switch queries train capture files ending given nodes plain.outcome keeps plain.is in
        (adds.end ∙ printed.0, subst (λ (text : List ℕ). Headline given text) (sym adds.text) printed.1)

    pub traced_only : (ending : Ending) → outcome.end ≡ refusing (ending_verdict ending) → (given : AreAccepted switch queries train capture files ending) × Headline given (without_events outcome.text)
    traced_only ending end =
        let given = always switch queries train capture files ending nodes plain.outcome plain.is (sym adds.end ∙ end) in
        (given.0, subst (λ (text : List ℕ). Headline given.0 text) (sym adds.text) given.1)

  module _ (before : Around) (status : ℕ) (now : Around) (run : IsCommandRun (queries ∷ switch ∷ train ∷ capture ∷ []) (TracedLive schedule as_they_are switch queries train capture nodes) before status now) where
    outcome_of : (files : ByName (List ℕ)) → Has (TracedLive schedule as_they_are switch queries train capture nodes) files
    outcome_of files = (one_traced_run schedule as_they_are switch queries train capture nodes).some files

    unexcused : (R W : Type 0) → status ≡ 0 → Excused R W status → ⊥
    unexcused R W zero (inl one) = omega arith
    unexcused R W zero (inr (inl nine)) = let e = nine.0 in omega arith
    unexcused R W zero (inr (inr ten)) = let e = ten.0 in omega arith

    pub keeps_traced_headline : KeepsTracedHeadline switch queries train capture nodes before status now
    keeps_traced_headline = record {
      printed = λ files reported ending given keeps no_read no_write.
          let o = outcome_of files in
          let p = traced_prints files o.outcome o.is ending given keeps in
          elim ((run.run files reported o.outcome o.is).complete no_read no_write) [
            | inl one ↦ inl one
            | inr done ↦ inr (record { text = o.outcome.text; headline = p.1; written = done.1; status_is = done.0 ∙ ap end_status p.0 })
          ];
      only = λ files reported zero.
          let o = outcome_of files in
          let r = run.run files reported o.outcome o.is in
          let end : o.outcome.end ≡ Ok tt = zero_is o.outcome.end (r.done.only_where zero) in
          let p = traced_only files o.outcome o.is Clean end in
          (p.0, record { text = o.outcome.text; headline = p.1; written = r.whole (unexcused (AnyRose (queries ∷ switch ∷ train ∷ capture ∷ []) before.files now.files) (OutRose before.out now.out) zero); status_is = zero });
    }
