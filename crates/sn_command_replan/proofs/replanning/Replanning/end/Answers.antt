use Rattle.std.proofs.Common.{◌≡◌, ◌++◌, [], ◌∷◌, ℕ, List, true, nat_lt, ap, ap₂, sym, subst, ◌∙◌}
use Rattle.sn_command_run.specs.Planned.{answers_at}
use Rattle.sn_command_replan.specs.Replan.{along, entries_of}
use Rattle.sn_command_replan.specs.Working.{followed}
use Rattle.sn_command_replan.proofs.WorkLemmas.{answers_fit, block_is, going_now, goes_on, runs_rising, sent_now, stops}
use Rattle.sn_engine_lockstep.specs.Early.{plan_early}
use Rattle.sn_out.specs.Text.{block_text}
use Rattle.sn_refine.specs.Steps.{windows_of}
use Rattle.sn_replan.specs.Running.{Runs}
use Rattle.sn_types.specs.declared.answers.Answers.{Answers}
use Rattle.sn_windows.specs.Rising.{Window}
use Rattle.sn_command_replan.proofs.replanning.Replanning.end.Goals as goal
use Rattle.sn_emit.specs.Plans.{tables_of}

pub returns-in-Some-clause-stops : goal.returns-in-Some-clause-stops
returns-in-Some-clause-stops c = λ closed tuples some h. stops c.args.self.now closed c.args.number tuples h c.in-Some.fault c.in-Some.is

pub block-requires : goal.block-requires
block-requires c =
    let a = c.args.self.now in
    let number = c.args.number in
    let closed = c.requires.0 in
    let tuples = c.requires.1 in
    let h = c.requires.3 in
    let g = going_now a closed number tuples h c.in_default.is in
    let entries = entries_of g.c.plan in
    let given : c.as_slice.result.now ≡ tuples = c.as_slice.ensures ∙ h.held in
    let is = subst (λ (ts : List (List ℕ)). c.in_ok-closed.closed.answers ≡ answers_at (along (followed a) g.c.plan) (g.c.before ++ (number, ts) ∷ []) number) given
    (c.in_ok-closed.ensures.answers a.typed.queries (tables_of a.limits) entries g.c.before g.going.runs) in
    let runs = subst (λ (ts : List (List ℕ)). Runs a.typed.queries (tables_of a.limits) entries (g.c.before ++ (number, ts) ∷ []) c.window.new.self) given
    (c.in_ok-closed.ensures.runs a.typed.queries (tables_of a.limits) entries g.c.before g.going.runs) in
    let now : List Window = g.c.before ++ (number, tuples) ∷ [] in
    answers_fit a closed number tuples h c.in_default.is c.in_ok-closed.closed.answers (runs_rising a.typed.queries (tables_of a.limits) entries now c.window.new.self runs) is

pub returns-clause-text : goal.returns-clause-text
returns-clause-text c = λ closed tuples some h.
    let a = c.args.self.now in
    let number = c.args.number in
    let g = going_now a closed number tuples h c.in_default.is in
    let given : c.as_slice.result.now ≡ tuples = c.as_slice.ensures ∙ h.held in
    let is = subst (λ (ts : List (List ℕ)). c.in_ok-closed.closed.answers ≡ answers_at (along (followed a) g.c.plan) (g.c.before ++ (number, ts) ∷ []) number) given
    (c.in_ok-closed.ensures.answers a.typed.queries (tables_of a.limits) (entries_of g.c.plan) g.c.before g.going.runs) in
    c.from_vec.ensures
    ∙ c.in_ok-push_bytes.ensures
    ∙ ap₂ (λ (front block : List ℕ). front ++ block) (c.into_vec-text.ensures ∙ c.replace.ensures.value)
    (c.as_slice-2.ensures ∙ c.in_ok-lines.ensures ∙ ap (λ (answers : Answers). block_text a.typed.queries answers true) is)
    ∙ sym (block_is a closed number tuples h c.in_default.is)

pub returns-clause-goes_on : goal.returns-clause-goes_on
returns-clause-goes_on c = λ closed tuples some h. goes_on c.args.self.now closed c.args.number tuples h c.in_default.is

pub returns-clause-answered : goal.returns-clause-answered
returns-clause-answered c = λ closed tuples some h.
    let a = c.args.self.now in
    let number = c.args.number in
    let g = going_now a closed number tuples h c.in_default.is in
    let entries = entries_of g.c.plan in
    let e = c.in_ok-closed.ensures in
    let now : List Window = g.c.before ++ (number, tuples) ∷ [] in
    let given : c.as_slice.result.now ≡ tuples = c.as_slice.ensures ∙ h.held in
    let is = subst (λ (ts : List (List ℕ)). c.in_ok-closed.closed.answers ≡ answers_at (along (followed a) g.c.plan) (g.c.before ++ (number, ts) ∷ []) number) given
    (e.answers a.typed.queries (tables_of a.limits) entries g.c.before g.going.runs) in
    let early_is = subst (λ (ts : List (List ℕ)). c.in_ok-closed.closed.early ≡ plan_early a.typed.queries (tables_of a.limits) entries (windows_of (g.c.before ++ (number, ts) ∷ [])) number) given
    (e.early a.typed.queries (tables_of a.limits) entries g.c.before g.going.runs) in
    let runs = subst (λ (ts : List (List ℕ)). Runs a.typed.queries (tables_of a.limits) entries (g.c.before ++ (number, ts) ∷ []) c.window.new.self) given
    (e.runs a.typed.queries (tables_of a.limits) entries g.c.before g.going.runs) in
    let rising = runs_rising a.typed.queries (tables_of a.limits) entries now c.window.new.self runs in
    record {
      c = g.c;
      current = g.is;
      switch = h.switch;
      held = h.held;
      over_is = e.over ∙ ap (nat_lt a.epochs.most) early_is;
      heading = c.replace.ensures.after ∙ c.new.ensures;
      none = c.in_default.is;
      runs = runs;
      last = e.last;
      entries = g.going.entries;
      count = g.going.count;
      sent = sent_now a closed number tuples h c.in_default.is c.in_ok-closed.closed.answers rising is c.in_ok-self.field-0 c.in_ok-self.ensures;
    }
