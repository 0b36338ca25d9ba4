use Rattle.std.proofs.Common.{◌≡◌, ℕ, List, [], ◌∷◌, Ok, Err, length, refl, ap, sym, ◌∙◌, subst, arith}
use Rattle.std.proofs.lemmas.Result.{err_from_is_err_and}
use Rattle.sn_pcap.proofs.ReportedLemmas.{not_err, reported_still}
use Rattle.sn_report_reader.specs.Reading.{Follows, ReaderState}
use Rattle.sn_command.specs.Desks.{files_of, world}
use Rattle.sn_command.specs.Runs.{Leads, Runs}
use Rattle.sn_command.specs.Stages.{Does, Then}
use Rattle.sn_command_capture.specs.Capture.{Whole}
use Rattle.sn_command_capture.proofs.StreamLemmas.{runs_memory}
use Rattle.sn_command_capture.proofs.TurnLemmas.{read_on}
use Rattle.sn_types.specs.declared.typed_query.TypedQuery.{TypedQuery}
use Rattle.sn_command_finish.specs.Reported.{Answered}
use Rattle.sn_command_finish.specs.Standings.{standing}
use Rattle.sn_command_finish.specs.Taken.{Standing, ended, take_frame}
use Rattle.sn_command_finish.proofs.TurnLemmas.{LeftIn, bad_stops, cut_stops, end_goes, error_stops, follows_first, frame_goes, frame_stops, leads_first}
use Rattle.sn_command_finish.proofs.reports.take_frames.Goals as goal

pub returns-in_err-reader : goal.returns-in_err-reader
returns-in_err-reader g c = let p = err_from_is_err_and c.from_residual.result c.from_residual.ensures.1 in rw (p.1, p.2) (runs_memory _ _ _)

pub frames-init : goal.frames-init
frames-init g c =
    let here = world g.I.Inputs g.O.Sink c.args.desk.now in
    let name = c.args.name.now in
    let queries = c.args.begun.engine.t.queries in
    let s : Standing = standing c.args.begun in
    let reader = c.in_ok-reader.reader in
    let offset : reader.offset ≡ 0 = ap (λ (r : ReaderState). r.offset) c.in_ok-reader.ensures in
    let none : length reader.held ≡ 0 = ap (λ (r : ReaderState). length r.held) c.in_ok-reader.ensures in
    record {
      queries = refl;
      leads = subst (λ (n : ℕ). Leads (name ∷ []) (LeftIn queries name n s) (Then (Whole name) (λ file. Answered queries s file)) here here) (sym offset) (leads_first here);
      follows = follows_first _ reader c.in_ok-reader.ensures;
      known = λ some. absurd (omega (arith, some, none));
      most = omega (arith, offset);
      windows = omega (arith, c.requires.windows);
      emitted = omega (arith, c.requires.emitted);
    }

pub returns-in_err-tally-in-Ok-Frame : goal.returns-in_err-tally-in-Ok-Frame
returns-in_err-tally-in-Ok-Frame g c =
    let I = g.I.Inputs in
    let here = world I g.O.Sink c.frames.desk in
    let begin = world I g.O.Sink c.args.desk.now in
    let mid = c.frames.invariant in
    let name = c.args.name.now in
    let queries = c.args.begun.engine.t.queries in
    let s : Standing = standing c.frames.tally in
    let files = files_of I c.next.new.files in
    let e = rw c.in-Ok-Frame.field-0-is at c.in-Ok-Frame.ensures in
    let there = world I g.O.Sink c.take_frame.new.desk in
    let refusal = c.in_err-tally-in-Ok-Frame.field-0.0 in
    let p = err_from_is_err_and c.from_residual-in_err-tally-in-Ok-Frame.result c.from_residual-in_err-tally-in-Ok-Frame.ensures.1 in
    let runs = subst (λ (n : ℕ). Runs [] (Does (take_frame queries n c.in-Ok-Frame.frame s)) (read_on here files) (Err refusal) there) c.offset-at.ensures
    (subst (λ (qs : List TypedQuery). Runs [] (Does (take_frame qs c.offset-at.result c.in-Ok-Frame.frame s)) (read_on here files) (Err refusal) there) mid.queries c.in_err-tally-in-Ok-Frame.ensures.runs) in
    rw (p.1, p.2) (frame_stops queries name c.frames.reader c.next.new.self s _ begin here files e.reported e.faults (g.met.I.Inputs.same_names c.frames.desk.files.now) mid.leads c.in-Ok-Frame.frame refusal there (λ none. not_err (e.missing.1 none)) e.step runs)

pub frames-preserved : goal.frames-preserved
frames-preserved g c =
    let I = g.I.Inputs in
    let here = world I g.O.Sink c.frames.desk in
    let begin = world I g.O.Sink c.args.desk.now in
    let mid = c.frames.invariant in
    let name = c.args.name.now in
    let queries = c.args.begun.engine.t.queries in
    let s : Standing = standing c.frames.tally in
    let later : Standing = standing c.in_ok-tally-in-Ok-Frame.tally in
    let files = files_of I c.next.new.files in
    let now = c.next.new.self in
    let e = rw c.in-Ok-Frame.field-0-is at c.in-Ok-Frame.ensures in
    let there = world I g.O.Sink c.take_frame.new.desk in
    let after = c.in_ok-tally-in-Ok-Frame.ensures in
    let runs = subst (λ (n : ℕ). Runs [] (Does (take_frame queries n c.in-Ok-Frame.frame s)) (read_on here files) (Ok later) there) c.offset-at.ensures
    (subst (λ (qs : List TypedQuery). Runs [] (Does (take_frame qs c.offset-at.result c.in-Ok-Frame.frame s)) (read_on here files) (Ok later) there) mid.queries after.runs) in
    let moves = e.moves in
    record {
      queries = after.queries ∙ mid.queries;
      leads = frame_goes queries name c.frames.reader now s _ begin here files e.reported e.faults (g.met.I.Inputs.same_names c.frames.desk.files.now) mid.leads c.in-Ok-Frame.frame later there (λ none. not_err (e.missing.1 none)) e.step runs;
      follows = reported_still (I.reported c.next.new.files) (I.reported c.take_frame.new.desk.files.now) name (λ file. Follows file now) runs.follows.reported e.follows;
      known = λ some. runs.follows.known name ∙ e.known some;
      most = moves.1;
      windows = omega (arith, after.windows, mid.windows, moves.0);
      emitted = omega (arith, after.emitted, mid.emitted, moves.0);
    }

pub returns-in-Ok-Bad : goal.returns-in-Ok-Bad
returns-in-Ok-Bad g c =
    let I = g.I.Inputs in
    let here = world I g.O.Sink c.frames.desk in
    let begin = world I g.O.Sink c.args.desk.now in
    let mid = c.frames.invariant in
    let e = rw c.in-Ok-Bad.field-0-is at c.in-Ok-Bad.ensures in
    rw c.refusal_at.ensures (bad_stops c.args.begun.engine.t.queries c.args.name.now c.frames.reader c.next.new.self (standing c.frames.tally) _ begin here (files_of I c.next.new.files) e.reported e.faults (g.met.I.Inputs.same_names c.frames.desk.files.now) mid.leads
    c.in-Ok-Bad.place (λ none. not_err (e.missing.1 none)) e.step)

pub returns-in-Ok-Cut : goal.returns-in-Ok-Cut
returns-in-Ok-Cut g c =
    let I = g.I.Inputs in
    let here = world I g.O.Sink c.frames.desk in
    let begin = world I g.O.Sink c.args.desk.now in
    let mid = c.frames.invariant in
    let e = rw c.in-Ok-Cut.field-0-is at c.in-Ok-Cut.ensures in
    rw (c.refusal_at-in-Ok-Cut.ensures, c.offset-at.ensures) (cut_stops c.args.begun.engine.t.queries c.args.name.now c.frames.reader c.next.new.self (standing c.frames.tally) _ begin here (files_of I c.next.new.files) e.reported e.faults (g.met.I.Inputs.same_names c.frames.desk.files.now) mid.leads
    (λ none. not_err (e.missing.1 none)) e.step)

pub returns-in-Ok-End : goal.returns-in-Ok-End
returns-in-Ok-End g c =
    let I = g.I.Inputs in
    let here = world I g.O.Sink c.frames.desk in
    let begin = world I g.O.Sink c.args.desk.now in
    let mid = c.frames.invariant in
    let s : Standing = standing c.frames.tally in
    let files = files_of I c.next.new.files in
    let e = rw c.in-Ok-End.field-0-is at c.in-Ok-End.ensures in
    let there = world I g.O.Sink c.end_reports.new.desk in
    let runs = subst (λ (n : ℕ). Runs [] (Does (ended n s)) (read_on here files) c.end_reports.result there) c.offset-at.ensures c.end_reports.ensures in
    end_goes c.args.begun.engine.t.queries c.args.name.now c.frames.reader c.next.new.self s _ begin here files e.reported e.faults (g.met.I.Inputs.same_names c.frames.desk.files.now) mid.leads
    c.end_reports.result there (λ none. not_err (e.missing.1 none)) e.step runs

pub returns-in-Err : goal.returns-in-Err
returns-in-Err g c =
    let I = g.I.Inputs in
    let here = world I g.O.Sink c.frames.desk in
    let begin = world I g.O.Sink c.args.desk.now in
    let mid = c.frames.invariant in
    let e = c.in-Err.ensures in
    rw c.read_refusal.ensures (error_stops c.args.begun.engine.t.queries c.args.name.now c.frames.reader c.next.new.self (standing c.frames.tally) _ begin here (files_of I c.next.new.files) e.reported e.faults (g.met.I.Inputs.same_names c.frames.desk.files.now) mid.leads
    c.in-Err.error e.missing.0 e.missing.1 e.fault e.step)
