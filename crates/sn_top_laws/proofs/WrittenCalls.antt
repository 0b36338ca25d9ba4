-- Calls of `check` and of `run` over what a call of `plan` wrote.
use Rattle.std.proofs.Common.{◌≡◌, ℕ, ◌≤◌, List, length, refl, sym, subst, inl}
use Rattle.sn_command.specs.Ends.{end_status}
use Rattle.sn_command.specs.Outcomes.{Has}
use Rattle.sn_command.specs.Stages.{most_text}
use Rattle.sn_command_live.specs.Live.{Plan}
use Rattle.sn_command_live.proofs.HeadlineLemmas.{Shows}
use Rattle.sn_command_live.proofs.LiveLemmas.{one_plan_run}
use Rattle.sn_io.specs.Counts.{ByName}
use Rattle.sn_top_laws.specs.Calls.{Wrote}
use Rattle.sn_top_laws.specs.Written.{CallsConfirm, IsKeptBeside}
use Rattle.sn_top_laws.proofs.CallLemmas.{status_is, text_is}
use Rattle.sn_top_laws.proofs.WrittenLemmas.{Certified, check_given, costs_so, due, due_prints, found, plan_certified, run_given, sent, yes}
use Rattle.sn_command_live.proofs.PrintLemmas.{zero_is}

module _ (show : Shows) (switch queries train written : List ℕ) (nodes : ℕ) (files later : ByName (List ℕ)) (names : List (List ℕ)) (text : List ℕ) (wrote : Wrote names (Plan switch queries train nodes) files 0 text) (few : length text ≤ most_text) (kept : IsKeptBeside switch queries train written text files later) where
  plan_has : Has (Plan switch queries train nodes) files
  plan_has = (one_plan_run switch queries train nodes).some files

  ended : end_status plan_has.outcome.end ≡ 0
  ended = status_is wrote (inl refl) plan_has.outcome plan_has.is

  certified : Certified switch queries train nodes files text
  certified =
      subst (Certified switch queries train nodes files) (sym (text_is wrote (inl refl) plan_has.outcome plan_has.is))
      (plan_certified switch queries train nodes files plan_has.outcome plan_has.is (zero_is plan_has.outcome.end ended))

  pub calls_confirm : CallsConfirm switch queries train written text later
  calls_confirm = record {
    found = found show switch queries train written nodes files later text few kept certified;
    checks = λ names before now status call reported. call.run later reported (yes show switch queries train written nodes files later text few kept certified) (check_given show switch queries train written nodes files later text few kept certified);
    ran = due show switch queries train written nodes files later text few kept certified;
    sent = sent show switch queries train written nodes files later text few kept certified;
    costs = costs_so show switch queries train written nodes files later text few kept certified;
    prints = due_prints show switch queries train written nodes files later text few kept certified;
    runs = λ names before now status call reported. call.run later reported (due show switch queries train written nodes files later text few kept certified) (run_given show switch queries train written nodes files later text few kept certified);
  }
