use Rattle.std.proofs.Common.{◌≡◌, ◌+◌, ◌<◌, subst, ◌++◌, ◌∷◌, [], length, ap, sym, ◌∙◌, refl, arith}
use Rattle.sn_windows.specs.Blocks.{most_records}
use Rattle.sn_windows.specs.Numbering.{Numbering}
use Rattle.sn_command_training.specs.declared.collected.Collected.{Collected}
use Rattle.sn_command_training.specs.Collecting.{IsOver}
use Rattle.sn_command_training.proofs.CollectLemmas.{none_too_many, other_window, same_window}
use Rattle.sn_command_training.proofs.collected.Collected.take.Goals.{else-number, then-number+in_ok-next_window}
use Rattle.sn_command_training.proofs.collected.Collected.take.Goals as goal

pub unreachable-requires : goal.unreachable-requires
unreachable-requires c =
    let is = c.requires.2 in
    let few = is.few in
    let count = is.count in
    let other = c.if-self-eq-MOST_RECORDS.false in
    none_too_many c.requires.0 c.requires.1 c.args.self.now c.args.time is (omega (arith, few, count, other)) (c.in_default.ensures.too_many.0 refl)

pub returns : goal.returns
returns c = λ window seen is.
    let few = is.few in
    let count = is.count in
    let full = c.if-self-eq-MOST_RECORDS.false in
    let room : length seen < most_records = omega (arith, few, count, full) in
    let before : Collected = c.args.self.now in
    let number : c.next_number.new.self.number ≡ c.in-Ok.number = ap (λ (s : Numbering). s.number) c.in-Ok.ensures.after ∙ sym c.in-Ok.ensures.number in
    elim c.if-number.branch [
      | then-number+in_ok-next_window w ↦ other_window window seen (c.args.time, c.args.tuple) before is c.next_number.new.self c.in-Ok.ensures.after c.if-number.self _
          (λ e. w.if-number.true (sym number ∙ e ∙ sym c.number.ensures)) (subst (λ (s : Collected). IsOver window seen before s) (sym w.self-is) (w.in_ok-next_window.ensures window seen is))
          refl refl c.in_ok-push.ensures.ok refl room
      | else-number w ↦ same_window window seen (c.args.time, c.args.tuple) before is c.next_number.new.self c.in-Ok.ensures.after _
          (number ∙ w.if-number.false ∙ c.number.ensures) refl (ap (λ (s : Collected). s.over) w.self-is)
          (c.in_ok-push.ensures.ok ∙ ap (λ (s : Collected). s.tuples ++ c.args.tuple ∷ []) w.self-is) (ap (λ (s : Collected). s.count + 1) w.self-is) room
    ]
