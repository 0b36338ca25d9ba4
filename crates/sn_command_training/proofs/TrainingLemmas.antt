-- A file is judged in one way as a training capture.
use Rattle.std.proofs.Common.{◌≡◌, ℕ, List, length, Bool, true, false, Result, Ok, Err, refl, ap, sym, subst, ◌∙◌}
use Rattle.std.specs.Prelude.{nat_lt, if◌then◌else◌}
use Rattle.sn_pcap.specs.Capture.{head_of}
use Rattle.sn_pcap.specs.declared.header.Header.{Header}
use Rattle.sn_pcap.specs.declared.header.HeadFault.{HeadFault}
use Rattle.sn_pcap.proofs.OneCapture.{records_some, records_once}
use Rattle.sn_command.specs.declared.fault.Fault.{Fault}
use Rattle.sn_command.specs.declared.fault.Fault.TheVariants as faults
use Rattle.sn_command.specs.Stages.{HasVerdict}
use Rattle.sn_command.proofs.StageLemmas.{MayCome}
use Rattle.sn_cost_training.specs.Trained.{Training}
use Rattle.sn_command_training.specs.Training.{JudgedAs, TrainingIn, judged_records, training_of}
use Rattle.sn_windows.specs.Blocks.{most_records}

module _ (window : ℕ) (file : List ℕ) where
  judged_once : (head : Result Header HeadFault) (first second : Result Training Fault) → JudgedAs window file head first → JudgedAs window file head second → first ≡ second
  judged_once (Ok header) first second a b = a.same ∙ ap (judged_records window header.link file) (records_once a.are b.are).0 ∙ sym b.same
  judged_once (Err fault) first second a b = a ∙ sym b

  judged_some : (head : Result Header HeadFault) → HasVerdict (JudgedAs window file head)
  judged_some (Ok header) =
      let h = records_some header file 24 in
      record { verdict = judged_records window header.link file h.packets; is = record { packets = h.packets; ending = h.ending; are = h.are; same = refl }; once = judged_once (Ok header) }
  judged_some (Err fault) = record { verdict = Err (faults.Head fault); is = refl; once = judged_once (Err fault) }

  pub training_once : (first second : Result Training Fault) → TrainingIn window file first → TrainingIn window file second → first ≡ second
  training_once = judged_once (head_of file)

  records_may : (large : Bool) (training : Training) → MayCome 0 (if large then Err faults.TooLarge else Ok training)
  records_may true training = tt
  records_may false training = tt

  judged_may : (head : Result Header HeadFault) (verdict : Result Training Fault) → JudgedAs window file head verdict → MayCome 0 verdict
  judged_may (Ok header) verdict j =
      subst (λ (v : Result Training Fault). MayCome 0 v) (sym j.same) (records_may (nat_lt most_records (length j.packets)) (training_of window header.link file j.packets))
  judged_may (Err fault) verdict is = subst (λ (v : Result Training Fault). MayCome 0 v) (sym is) tt

  -- a training capture is never refused as queries or as a switch
  pub training_may : (verdict : Result Training Fault) → TrainingIn window file verdict → MayCome 0 verdict
  training_may = judged_may (head_of file)

  pub one_training : HasVerdict (TrainingIn window file)
  one_training = judged_some (head_of file)
