-- A run of `live` keeps the headline.
use Rattle.std.proofs.Common.{◌≡◌, ℕ, List, [], ◌∷◌, Result, Ok, Err, inl, inr, refl, ap, ◌∙◌, arith}
use Rattle.sn_command_capture.specs.Capture.{ending_verdict}
use Rattle.sn_io.specs.Counts.{ByName}
use Rattle.sn_pcap.specs.declared.packet.Ending.{Ending}
use Rattle.sn_pcap.specs.declared.packet.Ending.TheVariants.{Clean}
use Rattle.sn_command_run.specs.Planned.{as_they_are}
use Rattle.sn_command.specs.declared.refusal.Refusal.{Refusal}
use Rattle.sn_command.specs.declared.refusal.Refusal.TheVariants.{Memory, Usage, Missing, ReadFault, WriteFault, Refused}
use Rattle.sn_command.specs.Ends.{Around, Excused, IsCommandRun, end_status}
use Rattle.sn_command.specs.Outcomes.{Has, Outcome}
use Rattle.sn_command.specs.Refusals.{refusing}
use Rattle.sn_command.specs.Worlds.{AnyRose, OutRose}
use Rattle.sn_command.proofs.FaultLemmas.{faults_own}
use Rattle.sn_command_live.specs.Headline.{AreAccepted, Headline, KeepsHeadline, KeepsLimits}
use Rattle.sn_command_live.specs.Live.{Live}
use Rattle.sn_command_live.proofs.LiveLemmas.{one_live_run}

-- status 0 is that of the whole text alone
pub zero_is : (end : Result (Unit {0}) Refusal) → end_status end ≡ 0 → end ≡ Ok tt
zero_is (Ok u) e = refl
zero_is (Err Memory) e = absurd (omega arith)
zero_is (Err Usage) e = absurd (omega arith)
zero_is (Err Missing) e = absurd (omega arith)
zero_is (Err ReadFault) e = absurd (omega arith)
zero_is (Err WriteFault) e = absurd (omega arith)
zero_is (Err (Refused f)) e = absurd (let own = (faults_own f).above in omega arith)

abbrev pub Prints : Type 0
Prints = (switch queries train capture : List ℕ) (files : ByName (List ℕ)) (ending : Ending) (given : AreAccepted switch queries train capture files ending) (nodes : ℕ) (outcome : Outcome (Unit {0}))
    → KeepsLimits given nodes → Live as_they_are switch queries train capture nodes files outcome → (outcome.end ≡ refusing (ending_verdict ending)) × Headline given outcome.text

abbrev pub Only : Type 0
Only = (switch queries train capture : List ℕ) (files : ByName (List ℕ)) (ending : Ending) (nodes : ℕ) (outcome : Outcome (Unit {0}))
    → Live as_they_are switch queries train capture nodes files outcome → outcome.end ≡ refusing (ending_verdict ending) → (given : AreAccepted switch queries train capture files ending) × Headline given outcome.text

module _ (prints : Prints) (always : Only) (switch queries train capture : List ℕ) (nodes : ℕ) (before : Around) (status : ℕ) (now : Around) (run : IsCommandRun (queries ∷ switch ∷ train ∷ capture ∷ []) (Live as_they_are switch queries train capture nodes) before status now) where
  outcome_of : (files : ByName (List ℕ)) → Has (Live as_they_are switch queries train capture nodes) files
  outcome_of files = (one_live_run as_they_are switch queries train capture nodes).some files

  unexcused : (R W : Type 0) → status ≡ 0 → Excused R W status → ⊥
  unexcused R W zero (inl one) = omega arith
  unexcused R W zero (inr (inl nine)) = let e = nine.0 in omega arith
  unexcused R W zero (inr (inr ten)) = let e = ten.0 in omega arith

  pub keeps_headline : KeepsHeadline switch queries train capture nodes before status now
  keeps_headline = record {
    printed = λ files reported ending given keeps no_read no_write.
        let o = outcome_of files in
        let p = prints switch queries train capture files ending given nodes o.outcome keeps o.is in
        elim ((run.run files reported o.outcome o.is).complete no_read no_write) [
          | inl one ↦ inl one
          | inr done ↦ inr (record { text = o.outcome.text; headline = p.1; written = done.1; status_is = done.0 ∙ ap end_status p.0 })
        ];
    only = λ files reported zero.
        let o = outcome_of files in
        let r = run.run files reported o.outcome o.is in
        let end : o.outcome.end ≡ Ok tt = zero_is o.outcome.end (r.done.only_where zero) in
        let p = always switch queries train capture files Clean nodes o.outcome o.is end in
        (p.0, record { text = o.outcome.text; headline = p.1; written = r.whole (unexcused (AnyRose (queries ∷ switch ∷ train ∷ capture ∷ []) before.files now.files) (OutRose before.out now.out) zero); status_is = zero });
  }
