-- Calls of `finish` print of what calls of `emit` wrote what calls of `run` write.
use Rattle.std.proofs.Common.{◌≡◌, ℕ, ◌≤◌, List, length, false, Some, Ok, unwrap_or, refl, ap, sym, ◌∙◌, subst, inl, inr}
use Rattle.std.specs.Io.KnownBytes.{append_known}
use Rattle.sn_command_capture.specs.Capture.{ending_verdict}
use Rattle.sn_command_emit.specs.Emit.{Emit}
use Rattle.sn_command_emit.proofs.EmitLemmas.{one_emit}
use Rattle.sn_command_finish.specs.Finish.{Finish}
use Rattle.sn_command_finish.proofs.FinishLemmas.{one_finish}
use Rattle.sn_io.specs.Counts.{ByName}
use Rattle.sn_command_run.specs.Planned.{as_they_are}
use Rattle.sn_command_run.specs.Run.{Run}
use Rattle.sn_command_run.proofs.RunLemmas.{one_run}
use Rattle.sn_command.specs.Ends.{Excused, IsRun, end_status}
use Rattle.sn_command.specs.Outcomes.{Has, Outcome, Stage}
use Rattle.sn_command.specs.Refusals.{refusing}
use Rattle.sn_command.specs.Stages.{most_text}
use Rattle.sn_command.specs.Worlds.{AnyRose, OutRose}
use Rattle.sn_top_laws.specs.Calls.{CallsFollow, CallsPrint, Wrote}
use Rattle.sn_top_laws.specs.Replayed.{FinishesSo, HoldsBytes, IsKept, IsWritten}
use Rattle.sn_top_laws.proofs.ReplayLemmas.{finish_follows}

text_same : (x y : List ℕ) → Some x ≡ Some y → x ≡ y
text_same x y e = ap (λ o. unwrap_or o x) e

-- such a status isn't one of a failure
unexcused : (read write : Type 0) (status : ℕ) → IsWritten status → Excused read write status → ⊥
unexcused read write status (inl e) (inl one) = let both = sym e ∙ one in cc
unexcused read write status (inl e) (inr (inl nine)) = let both = sym e ∙ nine.0 in cc
unexcused read write status (inl e) (inr (inr ten)) = let both = sym e ∙ ten.0 in cc
unexcused read write status (inr e) (inl one) = let both = sym e ∙ one in cc
unexcused read write status (inr e) (inr (inl nine)) = let both = sym e ∙ nine.0 in cc
unexcused read write status (inr e) (inr (inr ten)) = let both = sym e ∙ ten.0 in cc

-- a call that wrote all has the status and the text of the outcome
module _ {names : List (List ℕ)} {work : Stage (Unit {0})} {files : ByName (List ℕ)} {status : ℕ} {text : List ℕ} (w : Wrote names work files status text) (written : IsWritten status) (outcome : Outcome (Unit {0})) (is : work files outcome) where
  abbrev read_rose : Type 0
  read_rose = AnyRose names w.before.files w.now.files

  abbrev write_rose : Type 0
  write_rose = OutRose w.before.out w.now.out

  as_run : IsRun outcome read_rose write_rose status w.before.out.written w.now.out.written
  as_run = w.call.run files w.reported outcome is

  pub status_is : end_status outcome.end ≡ status
  status_is = by_status written
    where
      by_status : IsWritten status → end_status outcome.end ≡ status
      by_status (inl e) = as_run.done.only_where e ∙ sym e
      by_status (inr e) = as_run.capture.only_where e ∙ sym e

  pub text_is : text ≡ outcome.text
  text_is = text_same text outcome.text (sym w.written ∙ as_run.whole (unexcused read_rose write_rose status written) ∙ ap (λ o. append_known o outcome.text) w.nothing)

module _ (switch queries plan capture reports : List ℕ) (files later : ByName (List ℕ)) (emit_names run_names : List (List ℕ)) (emit_status run_status : ℕ) (text ran : List ℕ) (bytes : HoldsBytes capture files)
    (emits : Wrote emit_names (Emit switch queries plan capture) files emit_status text) (emitted : IsWritten emit_status) (few : length text ≤ most_text) (kept : IsKept queries plan reports text files later)
    (runs : Wrote run_names (Run as_they_are false switch queries plan capture) files run_status ran) (all_ran : IsWritten run_status) where
  emit_has : Has (Emit switch queries plan capture) files
  emit_has = (one_emit switch queries plan capture).some files

  run_has : Has (Run as_they_are false switch queries plan capture) files
  run_has = (one_run as_they_are false switch queries plan capture).some files

  finish_has : Has (Finish queries plan reports) later
  finish_has = (one_finish queries plan reports).some later

  emit_text : text ≡ emit_has.outcome.text
  emit_text = text_is emits emitted emit_has.outcome emit_has.is

  emit_end : end_status emit_has.outcome.end ≡ emit_status
  emit_end = status_is emits emitted emit_has.outcome emit_has.is

  run_text : ran ≡ run_has.outcome.text
  run_text = text_is runs all_ran run_has.outcome run_has.is

  run_end : end_status run_has.outcome.end ≡ run_status
  run_end = status_is runs all_ran run_has.outcome run_has.is

  finishes_so : FinishesSo emit_has.outcome run_has.outcome finish_has.outcome
  finishes_so =
      finish_follows switch queries plan capture reports files later emit_has.outcome run_has.outcome finish_has.outcome bytes emit_has.is (subst IsWritten (sym emit_end) emitted)
      (subst (λ (t : List ℕ). length t ≤ most_text) emit_text few) (subst (λ (t : List ℕ). IsKept queries plan reports t files later) emit_text kept) run_has.is finish_has.is

  calls_print : (printed : List ℕ) → finish_has.outcome ≡ record { text = printed; end = Ok tt } → CallsPrint queries plan reports later printed
  calls_print printed e names before now status call reported =
      subst (λ (o : Outcome (Unit {0})). IsRun o (AnyRose names before.files now.files) (OutRose before.out now.out) status before.out.written now.out.written) e (call.run later reported finish_has.outcome finish_has.is)

  pub calls_follow : CallsFollow queries plan reports later emit_status run_status ran
  calls_follow = by_way finishes_so
    where
      by_way : FinishesSo emit_has.outcome run_has.outcome finish_has.outcome → CallsFollow queries plan reports later emit_status run_status ran
      by_way (inl s) =
          let ended : run_status ≡ end_status (refusing (ending_verdict s.ending)) = sym run_end ∙ ap (λ (o : Outcome (Unit {0})). end_status o.end) s.ran_so in
          record {
            same_status = ended ∙ sym (ap end_status s.emitted_so) ∙ emit_end;
            printed = _;
            to_print = inl (record {
              ending = s.ending;
              blocks = s.blocks;
              windows = s.windows;
              sent = s.sent;
              ended = ended;
              ran_so = run_text ∙ ap (λ (o : Outcome (Unit {0})). o.text) s.ran_so;
              printed_so = refl;
            });
            calls = calls_print _ s.finished_so;
          }
      by_way (inr s) =
          let ended : run_status ≡ 5 = sym run_end ∙ ap (λ (o : Outcome (Unit {0})). end_status o.end) s.ran_so in
          record {
            same_status = ended ∙ sym (ap (λ (o : Outcome (Unit {0})). end_status o.end) s.emitted_so) ∙ emit_end;
            printed = _;
            to_print = inr (record { ended = ended; ran_so = run_text ∙ ap (λ (o : Outcome (Unit {0})). o.text) s.ran_so; printed_so = refl });
            calls = calls_print _ s.finished_so;
          }
