use Rattle.std.proofs.Common.{sym, ◌∙◌, refl, subst}
use Rattle.sn_plan_space.specs.Positions.{IsNext}
use Rattle.sn_plan_space.proofs.Steps.{chosen, may_option, got_from, none_from}
use Rattle.sn_plan_space.proofs.position.choose_option.Goals as goal

pub returns-in_default : goal.returns-in_default
returns-in_default c = λ s entry a e h m.
    absurd (may_option s entry a c.args.position c.args.piece.now c.args.following.now c.args.n c.requires.waits c.requires.pieces h m
    (none_from c.as_slice.result.now c.args.piece.now.options c.args.n c.as_slice.ensures c.in_default.ensures.lookup.3))

pub returns : goal.returns
returns c = λ s entry a e h m.
    chosen s entry a c.args.position c.args.piece.now c.args.following.now c.args.n c.in-Some.option.now
    (record { waiting = c.next_waiting-is_past.result.0; pieces = c.args.following; queries = c.args.position.queries; spent = c.saturating_add.result })
    c.next_waiting-is_past.result.1 c.requires.waits c.requires.pieces h m
    (got_from c.as_slice.result.now c.args.piece.now.options c.args.n c.in-Some.option.now c.as_slice.ensures c.in-Some.ensures.lookup.3.0 c.in-Some.ensures.lookup.1)
    (λ tables k. subst (λ n. IsNext n 0 tables c.next_waiting-is_past.result.0 c.next_waiting-is_past.result.1) (sym e) (c.next_waiting-is_past.ensures tables (c.as_slice-2.ensures.value ∙ k)))
    refl refl c.saturating_add.ensures
