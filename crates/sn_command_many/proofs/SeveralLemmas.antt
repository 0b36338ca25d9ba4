-- The stages of `many`: each has one outcome.
use Rattle.std.proofs.Common.{◌≡◌, ℕ, List, [], Bool, true, false, cond, Result, Ok, Err, length, ap, subst, ◌∙◌, append-nil}
use Rattle.std.proofs.lemmas.List.{length-map}
use Rattle.sn_base.proofs.Lists.{by_test}
use Rattle.sn_command.proofs.OneLemmas.{one_does, one_text, one_then}
use Rattle.sn_command.proofs.StageLemmas.{MayCome, gives_as, runs_chance, runs_stops, runs_then}
use Rattle.sn_command.specs.Outcomes.{HasOne, Stage}
use Rattle.sn_command.specs.Refusals.{refusing}
use Rattle.sn_command.specs.Runs.{Answers, Runs}
use Rattle.sn_command.specs.Stages.{Gives, Then}
use Rattle.sn_command.specs.Worlds.{World}
use Rattle.sn_command.specs.declared.fault.Fault.{Fault}
use Rattle.sn_command.specs.declared.fault.Fault.TheVariants as faults
use Rattle.sn_command.specs.declared.refusal.Refusal.{Refusal}
use Rattle.sn_command.specs.declared.refusal.Refusal.TheVariants.{Memory, Usage, Missing, ReadFault, WriteFault, Refused}
use Rattle.sn_command_captures.proofs.CaptureLemmas.{one_captures}
use Rattle.sn_command_captures.specs.Counted.{Counted, counted, share_of, shares_of}
use Rattle.sn_command_captures.specs.Windows.{none_full, start_of}
use Rattle.sn_command_captures.specs.declared.capture.Capture.{Capture}
use Rattle.sn_command_captures.specs.declared.share.Share.{Share}
use Rattle.sn_command_many.specs.Several.{Several}
use Rattle.sn_command_texts.proofs.Verdicts.{one_plan, one_queries, one_switch}
use Rattle.sn_command_texts.specs.Queries.{QueriesIn}
use Rattle.sn_command_texts.specs.Texts.{PlanIn, SwitchIn}

pub one_several : (switch queries plan : List ℕ) (captures : List (List ℕ)) → HasOne (Several switch queries plan captures)
one_several switch queries plan captures =
    one_then (one_text queries QueriesIn one_queries) (λ read. one_then (one_text switch SwitchIn one_switch) (λ limits. one_then (one_text plan PlanIn one_plan) (λ entries. one_then (one_does _) (λ _.
    one_then (one_captures captures) (λ found. one_then (one_does _) (λ shares. one_does _))))))

-- ---- stages of several captures

module _ {A B : Type 0} {first : Stage A} {second : A → Stage B} {names : List (List ℕ)} {before now : World} where
  -- all files were read by the first stage
  pub files_stop : {refusal : Refusal} → Runs names first before (Err refusal) now → Runs names (Then first second) before (Err refusal) now
  files_stop {refusal} r = subst (λ (ns : List (List ℕ)). Runs ns (Then first second) before (Err refusal) now) (append-nil names) (runs_stops [] r)

  pub files_then : {value : A} {answer : Result B Refusal} {later : World} → Runs names first before (Ok value) now → Runs [] (second value) now answer later → Runs names (Then first second) before answer later
  files_then {answer = answer} {later} r s = subst (λ (ns : List (List ℕ)). Runs ns (Then first second) before answer later) (append-nil names) (runs_then [] r s)

-- a verdict that is given, or memory ran out
gives_verdict : {A : Type 0} (verdict : Result A Fault) (w : World) → MayCome 0 verdict → (answer : Result A Refusal) → Answers (λ (v : Result A Fault). v ≡ verdict) answer → Runs [] (Gives verdict) w answer w
gives_verdict verdict w may (Ok value) h = gives_as verdict may (ap refusing h)
gives_verdict verdict w may (Err Memory) h = runs_chance (Gives verdict) w
gives_verdict verdict w may (Err (Refused fault)) h = gives_as verdict may (ap refusing h)
gives_verdict verdict w may (Err Usage) h = absurd h
gives_verdict verdict w may (Err Missing) h = absurd h
gives_verdict verdict w may (Err ReadFault) h = absurd h
gives_verdict verdict w may (Err WriteFault) h = absurd h

may_either : (few : Bool) (shares : List Share) → MayCome 0 (cond few (Ok shares) (Err faults.TooLarge))
may_either true shares = tt
may_either false shares = tt

module _ (window : ℕ) (captures : List Capture) where
  pub gives_counted : (w : World) (answer : Result (List Share) Refusal) → Answers (λ (v : Result (List Share) Fault). v ≡ counted window captures) answer → Runs [] (Counted window captures) w answer w
  gives_counted w = gives_verdict (counted window captures) w (may_either (none_full window captures) (shares_of window captures))

  ok_same : (a b : List Share) → ◌≡◌ {A = Result (List Share) Fault} (Ok a) (Ok b) → a ≡ b
  ok_same a b e = cc

  ok_err : (a : List Share) (f : Fault) → ◌≡◌ {A = Result (List Share) Fault} (Ok a) (Err f) → ⊥
  ok_err a f e = cc

  -- as many as there are captures
  pub shares_count : (shares : List Share) → Ok shares ≡ counted window captures → length shares ≡ length captures
  shares_count shares e =
      let due : List Share = shares_of window captures in
      by_test (none_full window captures)
      (λ is. ap length (ok_same shares due (e ∙ ap (λ b. cond b (Ok due) (Err faults.TooLarge)) is)) ∙ length-map captures (share_of window (start_of captures)))
      (λ isnt. absurd (ok_err shares faults.TooLarge (e ∙ ap (λ b. cond b (Ok due) (Err faults.TooLarge)) isnt)))
