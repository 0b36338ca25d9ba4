use Rattle.std.proofs.Common.{◌≡◌, ℕ, ◌+◌, List, [], true, Some, Ok, Err, refl, ap, sym, ◌∙◌, subst, arith}
use Rattle.std.specs.List.{AllByRecursion}
use Rattle.std.proofs.lemmas.Result.{err_from_is_err_and}
use Rattle.sn_engine.specs.declared.intake.Intake.{Intake}
use Rattle.sn_engine.specs.Answers.{parts_of, window_of}
use Rattle.sn_engine.specs.Intakes.{total}
use Rattle.sn_engine.specs.Keeping.{all_left, gathered, kept_for}
use Rattle.sn_engine.proofs.Lanes.{emptied_none}
use Rattle.sn_engine.proofs.Lefts.{lefts_sound}
use Rattle.sn_out.specs.Text.{IsPartOf, block_text}
use Rattle.sn_command.specs.Desks.{world}
use Rattle.sn_command.specs.Runs.{Runs}
use Rattle.sn_command.specs.Stages.{Adds}
use Rattle.sn_refine.specs.Steps.{Set}
use Rattle.sn_types.specs.declared.answers.Answers.{Answers}
use Rattle.sn_types.specs.declared.answers.Part.{Part}
use Rattle.sn_types.specs.declared.typed_query.TypedQuery.{TypedQuery}
use Rattle.sn_command_finish.specs.Standings.{standing}
use Rattle.sn_command_finish.specs.Taken.{Standing, answered, close}
use Rattle.sn_command_finish.proofs.FrameLemmas.{close_goes, close_stops, standing_same}
use Rattle.sn_command_finish.proofs.PartLemmas.{can_be_printed}
use Rattle.sn_command_finish.proofs.window.close_ended.Goals as goal

pub write_block-requires : goal.write_block-requires
write_block-requires g c =
    let e = c.args.tally.engine in
    let sets : List Set = kept_for e.closed e.kept (window_of e.lanes.items) in
    let lanes : List Intake = all_left e.t.queries sets e.lanes.items in
    let fits = can_be_printed e.t.window_us e.t.queries lanes e.t.typed (lefts_sound e.t.queries sets e.lanes.items e.sound) in
    let parts : c.in-Ok.answers.parts ≡ parts_of e.t.queries lanes = ap (λ (a : Answers). a.parts) c.in-Ok.ensures.answers.1 in
    subst (λ (qs : List TypedQuery). AllByRecursion (IsPartOf qs) c.in-Ok.answers.parts) (sym c.in-Ok.ensures.queries)
    (subst (λ (ps : List Part). AllByRecursion (IsPartOf e.t.queries) ps) (sym parts) fits)

pub returns-in_err-write_block-in-Ok-clause-runs : goal.returns-in_err-write_block-in-Ok-clause-runs
returns-in_err-write_block-in-Ok-clause-runs g c =
    let e = c.args.tally.engine in
    let here = world g.I.Inputs g.O.Sink c.args.desk.now in
    let there = world g.I.Inputs g.O.Sink c.write_block.new.desk in
    let text : block_text c.close_window.new.self.t.queries c.in-Ok.answers true ≡ block_text e.t.queries (answered e.t.queries (standing c.args.tally)) true =
    ap (λ (qs : List TypedQuery). block_text qs c.in-Ok.answers true) c.in-Ok.ensures.queries ∙ ap (λ (a : Answers). block_text e.t.queries a true) c.in-Ok.ensures.answers.1 in
    let p = err_from_is_err_and c.from_residual.result c.from_residual.ensures.1 in
    let refusal = c.in_err-write_block-in-Ok.field-0.0 in
    rw (p.1, p.2) (close_stops e.t.queries (standing c.args.tally) c.in-Ok.ensures.answers.0 (subst (λ (bytes : List ℕ). Runs [] (Adds bytes) here (Err refusal) there) text c.in_err-write_block-in-Ok.ensures))

pub returns-in_ok-write_block-in-Ok-clause-runs : goal.returns-in_ok-write_block-in-Ok-clause-runs
returns-in_ok-write_block-in-Ok-clause-runs g c =
    let e = c.args.tally.engine in
    let s : Standing = standing c.args.tally in
    let now = c.close_window.new.self in
    let here = world g.I.Inputs g.O.Sink c.args.desk.now in
    let there = world g.I.Inputs g.O.Sink c.write_block.new.desk in
    let text : block_text now.t.queries c.in-Ok.answers true ≡ block_text e.t.queries (answered e.t.queries (standing c.args.tally)) true =
    ap (λ (qs : List TypedQuery). block_text qs c.in-Ok.answers true) c.in-Ok.ensures.queries ∙ ap (λ (a : Answers). block_text e.t.queries a true) c.in-Ok.ensures.answers.1 in
    let later : Standing = record { lanes = now.lanes.items; closed = now.closed; kept = now.kept; windows = c.args.tally.windows + 1; emitted = c.args.tally.emitted + c.in-Ok.answers.emitted } in
    let same : (close e.t.queries s).end ≡ Ok later =
    ap (λ (x : Standing). Ok x) (standing_same _ later (sym c.in-Ok.ensures.emptied) (sym (c.in-Ok.ensures.last ∙ ap (λ (a : Answers). Some a.window) c.in-Ok.ensures.answers.1))
    (sym (c.in-Ok.ensures.prefixes ∙ ap (λ (a : Answers). gathered e.t.queries a.parts e.lanes.items) c.in-Ok.ensures.answers.1)) refl
    (ap (λ (n : ℕ). c.args.tally.emitted + n) (sym (ap (λ (a : Answers). a.emitted) c.in-Ok.ensures.answers.1)))) in
    close_goes e.t.queries s later c.in-Ok.ensures.answers.0 same (subst (λ (bytes : List ℕ). Runs [] (Adds bytes) here (Ok tt) there) text c.in_ok-write_block-in-Ok.ensures)

pub returns-in_ok-write_block-in-Ok-clause-emitted : goal.returns-in_ok-write_block-in-Ok-clause-emitted
returns-in_ok-write_block-in-Ok-clause-emitted g c =
    let e = c.args.tally.engine in
    let none : total c.close_window.new.self.lanes.items ≡ 0 = ap total c.in-Ok.ensures.emptied ∙ emptied_none e.lanes.items in
    let sent : c.in-Ok.answers.emitted ≡ total e.lanes.items = ap (λ (a : Answers). a.emitted) c.in-Ok.ensures.answers.1 in
    omega (arith, none, sent)
