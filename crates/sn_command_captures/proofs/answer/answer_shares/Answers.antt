use Rattle.std.proofs.Common.{◌≡◌, ◌<◌, List, ap, length, map, refl, subst, sym, ◌∙◌}
use Rattle.std.proofs.lemmas.Result.{err_from_is_err_and}
use Rattle.sn_command.specs.Refusals.{refusing}
use Rattle.sn_command_captures.proofs.AnswerLemmas.{all_done, all_rise, lines_end, lines_fail, memory_alone, memory_stops, one_done, text_fails, text_goes, windows_next, windows_none}
use Rattle.sn_command_captures.specs.Answered.{JointWording, Shared, damage_from, ending_of, windows_in}
use Rattle.sn_command_captures.specs.Counted.{left_of}
use Rattle.sn_pcap.specs.declared.packet.Ending.{Ending}
use Rattle.sn_windows.specs.Windows.{in_window}
use Rattle.sn_windows_together.proofs.MergeLemmas.{all_of, fewer_left}
use Rattle.sn_windows_together.specs.Laws.{Rows}
use Rattle.sn_command_captures.proofs.answer.answer_shares.Goals as goal

pub returns-in_err-block : goal.returns-in_err-block
returns-in_err-block g c =
    let at = c.windows in
    let p = err_from_is_err_and c.from_residual.result c.from_residual.ensures.1 in
    rw (p.1, p.2) (memory_stops (g.T.Team.wording c.args.team.now) (windows_in c.args.shares.now) (map ending_of c.args.shares.now) (windows_in at.shares) at.invariant.leads)

pub returns-in_err-write_text : goal.returns-in_err-write_text
returns-in_err-write_text g c =
    let at = c.windows in
    let e = c.in_ok-block.ensures in
    let b = at.invariant.between in
    let number = c.in-Some.number in
    let all = windows_in c.args.shares.now in
    let x : Shared = (number, map (in_window number) (map left_of at.shares)) in
    let parts = windows_next at.shares c.window.new.shares number at.invariant.sound (sym c.in-Some.ensures) e.left in
    let is = c.as_slice.ensures ∙ subst (λ (w : JointWording). c.in_ok-block.block ≡ w.block all x) at.invariant.wording (e.text all b.done b.answered b.parts) in
    let p = err_from_is_err_and c.from_residual-in_err-write_text.result c.from_residual-in_err-write_text.ensures.1 in
    rw (p.1, p.2) (text_fails (g.T.Team.wording c.args.team.now) all (map ending_of c.args.shares.now) (windows_in at.shares) x (windows_in c.window.new.shares) c.as_slice.result.now at.invariant.leads parts is c.in_err-write_text.ensures)

pub returns-in_err-windows : goal.returns-in_err-windows
returns-in_err-windows g c =
    let at = c.windows in
    let e = c.in_ok-block.ensures in
    let b = at.invariant.between in
    let number = c.in-Some.number in
    let all = windows_in c.args.shares.now in
    let x : Shared = (number, map (in_window number) (map left_of at.shares)) in
    let parts = windows_next at.shares c.window.new.shares number at.invariant.sound (sym c.in-Some.ensures) e.left in
    let is = c.as_slice.ensures ∙ subst (λ (w : JointWording). c.in_ok-block.block ≡ w.block all x) at.invariant.wording (e.text all b.done b.answered b.parts) in
    let wording = g.T.Team.wording c.args.team.now in
    let ends = map ending_of c.args.shares.now in
    let leads = text_goes wording all ends (windows_in at.shares) x (windows_in c.window.new.shares) c.as_slice.result.now at.invariant.leads parts is c.in_ok-write_text.ensures in
    let p = err_from_is_err_and c.from_residual-in_err-windows.result c.from_residual-in_err-windows.ensures.1 in
    rw (p.1, p.2) (memory_alone (c.in_err-windows.ensures.memory refl) (memory_stops wording all ends (windows_in c.window.new.shares) leads))

pub windows-smaller : goal.windows-smaller
windows-smaller g c =
    let at = c.windows in
    let number = c.in-Some.number in
    subst (λ (ls : List Rows). length (all_of ls) < length (all_of (map left_of at.shares))) (sym c.in_ok-block.ensures.left)
    (fewer_left (map left_of at.shares) number (all_rise at.shares at.invariant.sound) (sym c.in-Some.ensures))

pub windows-preserved : goal.windows-preserved
windows-preserved g c =
    let at = c.windows in
    let e = c.in_ok-block.ensures in
    let b = at.invariant.between in
    let number = c.in-Some.number in
    let all = windows_in c.args.shares.now in
    let x : Shared = (number, map (in_window number) (map left_of at.shares)) in
    let parts = windows_next at.shares c.window.new.shares number at.invariant.sound (sym c.in-Some.ensures) e.left in
    let is = c.as_slice.ensures ∙ subst (λ (w : JointWording). c.in_ok-block.block ≡ w.block all x) at.invariant.wording (e.text all b.done b.answered b.parts) in
    record {
      sound = e.sound;
      endings = e.endings ∙ at.invariant.endings;
      wording = e.wording ∙ at.invariant.wording;
      between = one_done _ _ all (windows_in at.shares) (windows_in c.window.new.shares) at.windows c.in_ok-windows.windows x b parts (e.answered all b.done b.answered b.parts) c.in_ok-windows.ensures.more;
      leads = text_goes (g.T.Team.wording c.args.team.now) all (map ending_of c.args.shares.now) (windows_in at.shares) x (windows_in c.window.new.shares) c.as_slice.result.now at.invariant.leads parts is c.in_ok-write_text.ensures;
    }

pub returns-in_err-lines : goal.returns-in_err-lines
returns-in_err-lines g c =
    let at = c.windows in
    let p = err_from_is_err_and c.from_residual-in_err-lines.result c.from_residual-in_err-lines.ensures.1 in
    rw (p.1, p.2) (memory_stops (g.T.Team.wording c.args.team.now) (windows_in c.args.shares.now) (map ending_of c.args.shares.now) (windows_in at.shares) at.invariant.leads)

pub returns-in_err-write_text-2 : goal.returns-in_err-write_text-2
returns-in_err-write_text-2 g c =
    let at = c.windows in
    let b = at.invariant.between in
    let all = windows_in c.args.shares.now in
    let ends = map ending_of c.args.shares.now in
    let none = windows_none at.shares (sym c.in_default.ensures) in
    let done = all_done _ all (windows_in at.shares) at.windows b none in
    let is = c.as_slice-2.ensures ∙ subst (λ (w : JointWording). c.in_ok-lines.lines ≡ w.last all (map ending_of at.shares)) at.invariant.wording (c.in_ok-lines.ensures all done.0 done.1)
    ∙ ap ((g.T.Team.wording c.args.team.now).last all) at.invariant.endings in
    let p = err_from_is_err_and c.from_residual-in_err-write_text-2.result c.from_residual-in_err-write_text-2.ensures.1 in
    rw (p.1, p.2) (lines_fail (g.T.Team.wording c.args.team.now) all ends (windows_in at.shares) c.as_slice-2.result.now at.invariant.leads none is c.in_err-write_text-2.ensures)

pub returns : goal.returns
returns g c =
    let at = c.windows in
    let b = at.invariant.between in
    let all = windows_in c.args.shares.now in
    let ends = map ending_of c.args.shares.now in
    let none = windows_none at.shares (sym c.in_default.ensures) in
    let done = all_done _ all (windows_in at.shares) at.windows b none in
    let is = c.as_slice-2.ensures ∙ subst (λ (w : JointWording). c.in_ok-lines.lines ≡ w.last all (map ending_of at.shares)) at.invariant.wording (c.in_ok-lines.ensures all done.0 done.1)
    ∙ ap ((g.T.Team.wording c.args.team.now).last all) at.invariant.endings in
    lines_end (g.T.Team.wording c.args.team.now) all ends (windows_in at.shares) c.as_slice-2.result.now at.invariant.leads none is c.in_ok-write_text-2.ensures
    (c.damage.ensures ∙ ap (λ (es : List Ending). refusing (damage_from 1 es)) at.invariant.endings)
