use Rattle.std.proofs.Common.{◌≡◌, Err, ap, false, true, sym, ◌∙◌, rules}
use Rattle.sn_cli.specs.declared.command.Command.TheVariants as commands
use Rattle.sn_cli.specs.Words.{texts}
use Rattle.sn_command.specs.declared.refusal.Refusal.TheVariants.{Usage}
use Rattle.sn_command.specs.Ends.{end_status}
use Rattle.sn_command.specs.Worlds.{World}
use Rattle.sn_command.proofs.EndLemmas.{two_is, ten_is, command_run, status_reported}
use Rattle.sn_top.proofs.TopLemmas.{by_command, live_as_they_are, no_usage, write_fault_of}
use Rattle.sn_top.proofs.top.top.Goals as goal

pub returns-clause-usage : goal.returns-clause-usage
returns-clause-usage g c = (
  λ two command spells. no_usage g.M.Machine.reported command (texts c.args.words.now) _ _ _ (c.run-answer.ensures.works command spells) (two_is c.run-answer.result (sym c.end_status.ensures ∙ two)),
  λ none. c.end_status.ensures ∙ ap end_status (c.run-answer.ensures.usage none).0,
)

pub returns-clause-nothing_read : goal.returns-clause-nothing_read
returns-clause-nothing_read g c = λ two.
    let files : c.files-1.given.0 ≡ c.run-answer.new.desk.files.now = search rules in
    let usage : c.run-answer.result ≡ Err Usage = two_is c.run-answer.result (sym c.end_status.ensures ∙ two) in
    rw files (ap (λ (w : World). w.files) (by_command (texts c.args.words.now)
    (λ command spells. absurd (no_usage g.M.Machine.reported command (texts c.args.words.now) _ _ _ (c.run-answer.ensures.works command spells) usage))
    (λ none. (c.run-answer.ensures.usage none).1)))

pub returns-clause-nothing_written : goal.returns-clause-nothing_written
returns-clause-nothing_written g c = λ two.
    let out : c.out-1.given.0 ≡ c.run-answer.new.desk.out.now = search rules in
    let usage : c.run-answer.result ≡ Err Usage = two_is c.run-answer.result (sym c.end_status.ensures ∙ two) in
    rw out (ap (λ (w : World). w.out) (by_command (texts c.args.words.now)
    (λ command spells. absurd (no_usage g.M.Machine.reported command (texts c.args.words.now) _ _ _ (c.run-answer.ensures.works command spells) usage))
    (λ none. (c.run-answer.ensures.usage none).1)))

pub returns-clause-write_fault : goal.returns-clause-write_fault
returns-clause-write_fault g c = λ ten.
    let out : c.out-1.given.0 ≡ c.run-answer.new.desk.out.now = search rules in
    let failed = ten_is c.run-answer.result (sym c.end_status.ensures ∙ ten) in
    rw out (by_command (texts c.args.words.now)
    (λ command spells. write_fault_of g.M.Machine.reported command (texts c.args.words.now) _ _ _ (c.run-answer.ensures.works command spells) failed)
    (λ none. absurd (let usage = sym (c.run-answer.ensures.usage none).0 ∙ failed in cc)))

pub returns-clause-plain : goal.returns-clause-plain
returns-clause-plain g c = λ spells.
    let files : c.files-1.given.0 ≡ c.run-answer.new.desk.files.now = search rules in
    let out : c.out-1.given.0 ≡ c.run-answer.new.desk.out.now = search rules in
    rw (c.end_status.ensures, files, out) (command_run _ _ c.run-answer.result _ _ _ _ (c.run-answer.ensures.works commands.Plain spells) c.tell.ensures)

pub returns-clause-run : goal.returns-clause-run
returns-clause-run g c = λ csv spells.
    let files : c.files-1.given.0 ≡ c.run-answer.new.desk.files.now = search rules in
    let out : c.out-1.given.0 ≡ c.run-answer.new.desk.out.now = search rules in
    rw (c.end_status.ensures, files, out) (command_run _ _ c.run-answer.result _ _ _ _ (c.run-answer.ensures.works (commands.Run csv) spells) c.tell.ensures)

pub returns-clause-finish : goal.returns-clause-finish
returns-clause-finish g c = λ spells.
    let files : c.files-1.given.0 ≡ c.run-answer.new.desk.files.now = search rules in
    let out : c.out-1.given.0 ≡ c.run-answer.new.desk.out.now = search rules in
    rw (c.end_status.ensures, files, out) (command_run _ _ c.run-answer.result _ _ _ _ (c.run-answer.ensures.works commands.Finish spells) c.tell.ensures)

pub returns-clause-detect : goal.returns-clause-detect
returns-clause-detect g c = λ spells.
    let files : c.files-1.given.0 ≡ c.run-answer.new.desk.files.now = search rules in
    let out : c.out-1.given.0 ≡ c.run-answer.new.desk.out.now = search rules in
    rw (c.end_status.ensures, files, out) (command_run _ _ c.run-answer.result _ _ _ _ (c.run-answer.ensures.works commands.Detect spells) c.tell.ensures)

pub returns-clause-many : goal.returns-clause-many
returns-clause-many g c = λ captures spells.
    let files : c.files-1.given.0 ≡ c.run-answer.new.desk.files.now = search rules in
    let out : c.out-1.given.0 ≡ c.run-answer.new.desk.out.now = search rules in
    rw (c.end_status.ensures, files, out) (command_run _ _ c.run-answer.result _ _ _ _ (c.run-answer.ensures.works (commands.Many captures) spells) c.tell.ensures)

pub returns-clause-generated : goal.returns-clause-generated
returns-clause-generated g c = λ number spells.
    let files : c.files-1.given.0 ≡ c.run-answer.new.desk.files.now = search rules in
    let out : c.out-1.given.0 ≡ c.run-answer.new.desk.out.now = search rules in
    rw (c.end_status.ensures, files, out) (command_run _ _ c.run-answer.result _ _ _ _ (c.run-answer.ensures.works (commands.Gen number) spells) c.tell.ensures)

pub returns-clause-emit : goal.returns-clause-emit
returns-clause-emit g c = λ spells.
    let files : c.files-1.given.0 ≡ c.run-answer.new.desk.files.now = search rules in
    let out : c.out-1.given.0 ≡ c.run-answer.new.desk.out.now = search rules in
    rw (c.end_status.ensures, files, out) (command_run _ _ c.run-answer.result _ _ _ _ (c.run-answer.ensures.works commands.Emit spells) c.tell.ensures)

pub returns-clause-check : goal.returns-clause-check
returns-clause-check g c = λ spells.
    let files : c.files-1.given.0 ≡ c.run-answer.new.desk.files.now = search rules in
    let out : c.out-1.given.0 ≡ c.run-answer.new.desk.out.now = search rules in
    rw (c.end_status.ensures, files, out) (command_run _ _ c.run-answer.result _ _ _ _ (c.run-answer.ensures.works commands.Check spells) c.tell.ensures)

pub returns-clause-planned : goal.returns-clause-planned
returns-clause-planned g c = λ nodes spells.
    let files : c.files-1.given.0 ≡ c.run-answer.new.desk.files.now = search rules in
    let out : c.out-1.given.0 ≡ c.run-answer.new.desk.out.now = search rules in
    rw (c.end_status.ensures, files, out) (command_run _ _ c.run-answer.result _ _ _ _ (c.run-answer.ensures.works (commands.Plan nodes) spells) c.tell.ensures)

pub returns-clause-priced : goal.returns-clause-priced
returns-clause-priced g c = λ nodes spells.
    let files : c.files-1.given.0 ≡ c.run-answer.new.desk.files.now = search rules in
    let out : c.out-1.given.0 ≡ c.run-answer.new.desk.out.now = search rules in
    let work = c.run-answer.ensures.works (commands.PlanPrices nodes) spells in
    rw (c.end_status.ensures, files, out) (record { choose = work.choose; right = work.right; run = command_run _ _ c.run-answer.result _ _ _ _ work.works c.tell.ensures })

pub returns-clause-live : goal.returns-clause-live
returns-clause-live g c = λ nodes schedule spells.
    let files : c.files-1.given.0 ≡ c.run-answer.new.desk.files.now = search rules in
    let out : c.out-1.given.0 ≡ c.run-answer.new.desk.out.now = search rules in
    rw (c.end_status.ensures, files, out) (command_run _ _ c.run-answer.result _ _ _ _ (c.run-answer.ensures.works (commands.Live nodes schedule false) spells) c.tell.ensures)

pub returns-clause-traced : goal.returns-clause-traced
returns-clause-traced g c = λ nodes schedule spells.
    let files : c.files-1.given.0 ≡ c.run-answer.new.desk.files.now = search rules in
    let out : c.out-1.given.0 ≡ c.run-answer.new.desk.out.now = search rules in
    rw (c.end_status.ensures, files, out) (command_run _ _ c.run-answer.result _ _ _ _ (c.run-answer.ensures.works (commands.Live nodes schedule true) spells) c.tell.ensures)

pub returns-clause-headline : goal.returns-clause-headline
returns-clause-headline g c = λ as_they nodes schedule spells.
    let files : c.files-1.given.0 ≡ c.run-answer.new.desk.files.now = search rules in
    let out : c.out-1.given.0 ≡ c.run-answer.new.desk.out.now = search rules in
    rw (c.end_status.ensures, files, out) (c.runs_of_live_keep_the_headline.ensures _ _ _ _ nodes _ _ _ (command_run _ _ c.run-answer.result _ _ _ _ (live_as_they_are nodes schedule (texts c.args.words.now) as_they (c.run-answer.ensures.works (commands.Live nodes schedule false) spells)) c.tell.ensures))

pub returns-clause-replanned : goal.returns-clause-replanned
returns-clause-replanned g c = λ early nodes spells.
    let files : c.files-1.given.0 ≡ c.run-answer.new.desk.files.now = search rules in
    let out : c.out-1.given.0 ≡ c.run-answer.new.desk.out.now = search rules in
    rw (c.end_status.ensures, files, out) (command_run _ _ c.run-answer.result _ _ _ _ (c.run-answer.ensures.works (commands.Replan early nodes) spells) c.tell.ensures)

pub returns-clause-job : goal.returns-clause-job
returns-clause-job g c = λ number spells.
    let files : c.files-1.given.0 ≡ c.run-answer.new.desk.files.now = search rules in
    let out : c.out-1.given.0 ≡ c.run-answer.new.desk.out.now = search rules in
    rw (c.end_status.ensures, files, out) (command_run _ _ c.run-answer.result _ _ _ _ (c.run-answer.ensures.works (commands.Job number) spells) c.tell.ensures)

pub returns-clause-line : goal.returns-clause-line
returns-clause-line g c = rw c.end_status.ensures (status_reported c.run-answer.result _ _ c.tell.ensures)
