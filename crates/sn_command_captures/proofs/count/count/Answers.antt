use Rattle.std.proofs.Common.{◌≡◌, ◌++◌, ◌∷◌, [], List, ap, append_assoc, arith, length, map, subst, sym, ◌∙◌}
use Rattle.std.proofs.lemmas.List.{map-append}
use Rattle.std.proofs.lemmas.Result.{err_from_is_err_and}
use Rattle.std.specs.List.{AllByRecursion}
use Rattle.std.specs.Vec.Iter.{into_iter_items}
use Rattle.sn_base.proofs.Lists.{all_append}
use Rattle.sn_command_captures.proofs.CountLemmas.{all_more, count_stops, is_countable, share_found, share_sound}
use Rattle.sn_command_captures.specs.Counted.{share_of}
use Rattle.sn_command_captures.specs.Shares.{IsSound}
use Rattle.sn_command_captures.specs.Windows.{start_of}
use Rattle.sn_command_captures.specs.declared.capture.Capture.{Capture}
use Rattle.sn_command_captures.specs.declared.share.Share.{Share}
use Rattle.sn_command_captures.proofs.count.count.Goals as goal

pub returns-in_err-share-clause-counted : goal.returns-in_err-share-clause-counted
returns-in_err-share-clause-counted c =
    let at = c.loop-capture in
    let one : Capture = c.in-Some.capture in
    let rest : List Capture = into_iter_items c.next.new.self in
    let parts : c.args.captures ≡ at.yielded ++ one ∷ rest =
    sym (ap (λ (cs : List Capture). at.yielded ++ cs) (sym c.in-Some.ensures.steps.0) ∙ at.invariant.rest ∙ c.into_iter-capture-iterator.ensures.into_iter_gives.0 ∙ c.into_vec-capture-items.ensures) in
    let p = err_from_is_err_and c.from_residual.result c.from_residual.ensures.1 in
    rw (p.1, p.2) (count_stops c.args.window_ns c.start-start.result c.args.captures at.yielded one rest (c.start-start.ensures ∙ ap start_of c.as_slice.ensures) parts _ c.in_err-share.ensures)

pub loop-capture-preserved : goal.loop-capture-preserved
loop-capture-preserved c =
    let at = c.loop-capture in
    let one : Capture = c.in-Some.capture in
    let rest : List Capture = into_iter_items c.next.new.self in
    let parts : c.args.captures ≡ at.yielded ++ one ∷ rest =
    sym (ap (λ (cs : List Capture). at.yielded ++ cs) (sym c.in-Some.ensures.steps.0) ∙ at.invariant.rest ∙ c.into_iter-capture-iterator.ensures.into_iter_gives.0 ∙ c.into_vec-capture-items.ensures) in
    let start = c.start-start.result in
    let window = c.args.window_ns in
    let share : Share = c.in_ok-share.field-0 in
    let found = share_found window start one share c.in_ok-share.ensures in
    let sound = share_sound window start one in
    let count = at.invariant.count in
    let gone = c.in-Some.ensures.steps.1 in
    let short = ap length c.in-Some.ensures.steps.0 in
    let pushed = c.in_ok-push.ensures.ok in
    record {
      rest = append_assoc at.yielded (one ∷ []) rest ∙ ap (λ (cs : List Capture). at.yielded ++ cs) (sym c.in-Some.ensures.steps.0) ∙ at.invariant.rest;
      count = omega (arith, count, gone, short);
      shares = pushed ∙ ap (λ (ss : List Share). ss ++ share ∷ []) at.invariant.shares ∙ ap (λ (s : Share). map (share_of window start) at.yielded ++ s ∷ []) found.1
          ∙ sym (map-append (share_of window start) at.yielded (one ∷ []));
      few = all_more (is_countable window start) at.yielded one at.invariant.few found.0;
      sound = subst (AllByRecursion IsSound) (sym pushed) (all_append IsSound at.shares (share ∷ []) at.invariant.sound (subst IsSound (sym found.1) sound, tt));
    }
