use Rattle.std.proofs.Common.{◌≡◌, ℕ, List, [], ◌∷◌, ◌++◌, Ok, Err, take, subst, ap, refl, sym, ◌∙◌}
use Rattle.std.proofs.lemmas.Result.{err_from_is_err_and}
use Rattle.sn_fields.specs.Tuples.{tuple}
use Rattle.sn_command.specs.Desks.{world}
use Rattle.sn_command.proofs.StageLemmas.{runs_chance}
use Rattle.sn_windows.specs.Numbering.{next_number, next_count}
use Rattle.sn_windows.specs.NumberingOf.{numbering}
use Rattle.sn_command_capture.proofs.StandLemmas.{above_it, at_number, closes_hand, few_here, many_here, number_is, other_here, rising_at, same_here, some_here, stands_begun, stands_joined}
use Rattle.sn_command_capture.proofs.StreamLemmas.{few_of, runs_begun, runs_joined, runs_many}
use Rattle.sn_command_capture.proofs.capture.take_packet.Goals as goal

pub returns-in-Err-clause-runs : goal.returns-in-Err-clause-runs
returns-in-Err-clause-runs g c = λ state s.
    let hand = g.A.Answering.hand c.args.answering.now in
    let wording = g.A.Answering.wording c.args.answering.now in
    let seen = c.args.seen.now in
    let kept = c.args.gathered in
    let here = world g.I.Inputs g.O.Sink c.args.desk.now in
    let there = world g.I.Inputs g.O.Sink c.refuse_large.new.desk in
    runs_many wording state seen.time (tuple c.args.link seen.wire (take seen.len seen.front)) here there c.refuse_large.result (many_here hand kept state s seen.time (c.in-Err.ensures.too_many.0 refl)) (c.refuse_large.ensures state s)

pub returns-in_err-packet-clause-runs : goal.returns-in_err-packet-clause-runs
returns-in_err-packet-clause-runs g c = λ state s. let p = err_from_is_err_and c.from_residual.result c.from_residual.ensures.1 in rw (p.1, p.2) (runs_chance _ _)

pub returns-then-number-at_hand-clause-runs : goal.returns-then-number-at_hand-clause-runs
returns-then-number-at_hand-clause-runs g c = λ state s.
    let hand = g.A.Answering.hand c.args.answering.now in
    let seen = c.args.seen.now in
    let kept = c.args.gathered in
    let few = few_of (next_count (numbering kept.windows) seen.time) c.in-Ok.ensures.too_many.1 in
    let same = sym c.in-Ok.ensures.number ∙ c.if-number-at_hand.true ∙ c.number-at_hand.ensures in
    runs_joined (g.A.Answering.wording c.args.answering.now) state seen.time (tuple c.args.link seen.wire (take seen.len seen.front)) (world g.I.Inputs g.O.Sink c.args.desk.now)
    (few_here hand kept state s seen.time few) (same_here hand kept state s seen.time same)

pub returns-then-number-at_hand-clause-stands : goal.returns-then-number-at_hand-clause-stands
returns-then-number-at_hand-clause-stands g c = λ state s.
    let hand = g.A.Answering.hand c.args.answering.now in
    let now = g.A.Answering.hand c.packet.new.self in
    let seen = c.args.seen.now in
    let same = sym c.in-Ok.ensures.number ∙ c.if-number-at_hand.true ∙ c.number-at_hand.ensures in
    let shown = tuple c.args.link seen.wire (take seen.len seen.front) in
    let tuple_is : c.tuple_of-tuple.result ≡ shown = c.tuple_of-tuple.ensures.fields ∙ ap (tuple c.args.link seen.wire) c.bytes.ensures in
    let at : c.in-Ok.number ≡ c.args.gathered.windows.number = c.if-number-at_hand.true ∙ c.number-at_hand.ensures in
    let given = c.in_ok-packet.ensures.given state.closed state.tuples (at_number hand c.args.gathered state s c.in-Ok.number at) in
    stands_joined hand c.args.gathered state s now c.next_number.new.self seen.time shown c.in-Ok.ensures.after same (few_of (next_count (numbering c.args.gathered.windows) seen.time) c.in-Ok.ensures.too_many.1)
    (subst (λ (n : ℕ). now state.closed n (state.tuples ++ shown ∷ [])) (at ∙ sym (number_is hand c.args.gathered state s))
    (subst (λ (t : List ℕ). now state.closed c.in-Ok.number (state.tuples ++ t ∷ [])) tuple_is given))

pub returns-in_err-next_window-clause-runs : goal.returns-in_err-next_window-clause-runs
returns-in_err-next_window-clause-runs g c = λ state s.
    let hand = g.A.Answering.hand c.args.answering.now in
    let wording = g.A.Answering.wording c.args.answering.now in
    let seen = c.args.seen.now in
    let kept = c.args.gathered in
    let here = world g.I.Inputs g.O.Sink c.args.desk.now in
    let there = world g.I.Inputs g.O.Sink c.next_window.new.desk in
    let few = few_of (next_count (numbering kept.windows) seen.time) c.in-Ok.ensures.too_many.1 in
    let apart : next_number (numbering kept.windows) seen.time ≡ kept.windows.number → ⊥ = λ e. c.if-number-at_hand.false (c.in-Ok.ensures.number ∙ e ∙ sym c.number-at_hand.ensures) in
    let p = err_from_is_err_and c.from_residual-in_err-next_window.result c.from_residual-in_err-next_window.ensures.1 in
    let refusal = c.in_err-next_window.field-0.0 in
    rw (p.1, p.2) (runs_begun wording state seen.time (tuple c.args.link seen.wire (take seen.len seen.front)) here there (Err refusal) (few_here hand kept state s seen.time few) (other_here hand kept state s seen.time apart)
    (closes_hand hand kept state s wording c.number-at_hand.result here there (Err refusal) c.number-at_hand.ensures (some_here hand kept state s seen.time apart) c.in_err-next_window.ensures.runs))

pub packet-requires : goal.packet-requires
packet-requires g c =
    let hand = g.A.Answering.hand c.args.answering.now in
    let state = c.requires.stands.0 in
    let s = c.requires.stands.1 in
    (state.closed, state.tuples, at_number hand c.args.gathered state s c.in-Ok.number (c.if-number-at_hand.true ∙ c.number-at_hand.ensures))

pub next_window-requires-clause-hand : goal.next_window-requires-clause-hand
next_window-requires-clause-hand g c =
    let hand = g.A.Answering.hand c.args.answering.now in
    let kept = c.args.gathered in
    let state = c.requires.stands.0 in
    let s = c.requires.stands.1 in
    let apart : next_number (numbering kept.windows) c.args.seen.now.time ≡ kept.windows.number → ⊥ = λ e. c.if-number-at_hand.false (c.in-Ok.ensures.number ∙ e ∙ sym c.number-at_hand.ensures) in
    (state.closed, state.tuples, some_here hand kept state s c.args.seen.now.time apart, at_number hand kept state s c.number-at_hand.result c.number-at_hand.ensures, s.few)

pub next_window-requires-clause-above : goal.next_window-requires-clause-above
next_window-requires-clause-above g c = above_it (numbering c.args.gathered.windows) c.args.seen.now.time c.number-at_hand.result c.in-Ok.number c.number-at_hand.ensures c.in-Ok.ensures.number c.if-number-at_hand.false

pub returns-clause-runs : goal.returns-clause-runs
returns-clause-runs g c = λ state s.
    let hand = g.A.Answering.hand c.args.answering.now in
    let wording = g.A.Answering.wording c.args.answering.now in
    let seen = c.args.seen.now in
    let kept = c.args.gathered in
    let here = world g.I.Inputs g.O.Sink c.args.desk.now in
    let there = world g.I.Inputs g.O.Sink c.next_window.new.desk in
    let few = few_of (next_count (numbering kept.windows) seen.time) c.in-Ok.ensures.too_many.1 in
    let apart : next_number (numbering kept.windows) seen.time ≡ kept.windows.number → ⊥ = λ e. c.if-number-at_hand.false (c.in-Ok.ensures.number ∙ e ∙ sym c.number-at_hand.ensures) in
    runs_begun wording state seen.time (tuple c.args.link seen.wire (take seen.len seen.front)) here there (Ok tt) (few_here hand kept state s seen.time few) (other_here hand kept state s seen.time apart)
    (closes_hand hand kept state s wording c.number-at_hand.result here there (Ok tt) c.number-at_hand.ensures (some_here hand kept state s seen.time apart) c.in_ok-next_window.ensures.runs)

pub returns-clause-stands : goal.returns-clause-stands
returns-clause-stands g c = λ state s.
    let hand = g.A.Answering.hand c.args.answering.now in
    let now = g.A.Answering.hand c.next_window.new.answering in
    let seen = c.args.seen.now in
    let kept = c.args.gathered in
    let at = c.number-at_hand.result in
    let number = c.in-Ok.number in
    let shown = tuple c.args.link seen.wire (take seen.len seen.front) in
    let tuple_is : c.tuple_of-tuple.result ≡ shown = c.tuple_of-tuple.ensures.fields ∙ ap (tuple c.args.link seen.wire) c.bytes.ensures in
    let rising = rising_at hand kept state s seen.time at number c.number-at_hand.ensures c.in-Ok.ensures.number c.if-number-at_hand.false in
    let apart : next_number (numbering kept.windows) seen.time ≡ kept.windows.number → ⊥ = λ e. c.if-number-at_hand.false (c.in-Ok.ensures.number ∙ e ∙ sym c.number-at_hand.ensures) in
    let begun = c.in_ok-next_window.ensures.begun state.closed state.tuples (some_here hand kept state s seen.time apart) (at_number hand kept state s at c.number-at_hand.ensures) rising in
    stands_begun hand kept state s now c.next_number.new.self seen.time at number shown c.in-Ok.ensures.after c.number-at_hand.ensures c.in-Ok.ensures.number c.if-number-at_hand.false
    (subst (λ (t : List ℕ). now (state.closed ++ (at, state.tuples) ∷ []) number (t ∷ [])) tuple_is begun)
