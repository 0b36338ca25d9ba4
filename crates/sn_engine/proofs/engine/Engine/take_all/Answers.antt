use Rattle.std.proofs.Common.{◌≡◌, ℕ, ◌<◌, ◌^◌, ◌++◌, List, map, take, drop, length, fold, ap, sym, ◌∙◌, subst, arith}
use Rattle.std.specs.List.{list_all}
use Rattle.std.proofs.lemmas.List.{length-map}
use Rattle.sn_engine.proofs.Ends.{emptied_agree}
use Rattle.sn_engine.proofs.Lanes.{emptied_none, emptied_sound, whole, whole_again}
use Rattle.sn_engine.proofs.Moves.{all_moved, all_named}
use Rattle.sn_engine.specs.Intakes.{AreIntakes, EndsAgree, emptied, total}
use Rattle.sn_engine.specs.Moving.{after_lane, has_name}
use Rattle.sn_engine.specs.declared.intake.Intake.{Intake}
use Rattle.sn_engine.proofs.engine.Engine.take_all.Goals as goal

-- lanes that are the same without their items are as many
as_many : (xs ys : List Intake) → map emptied xs ≡ map emptied ys → length xs ≡ length ys
as_many xs ys same = sym (length-map xs emptied) ∙ ap length same ∙ length-map ys emptied

pub move_counted-counted-requires-clause-lanes : goal.move_counted-counted-requires-clause-lanes
move_counted-counted-requires-clause-lanes c =
    let s = c.args.self.now in
    let other = c.args.switch.now in
    ap (list_all (has_name s.lanes.items)) c.deref_mut.ensures.value ∙ all_named s.t.queries other.t.queries s.lanes.items other.lanes.items c.requires

pub invariant_of-switch : goal.invariant_of-switch
invariant_of-switch c =
    let s = c.args.switch.now in
    let n = s.lanes.len in
    let moved : List Intake = c.move_counted-counted.new.others in
    let put : List Intake = take n (moved ++ drop (length moved) s.lanes.items) in
    let now : List Intake = c.empty_all.new.lanes in
    let same : map emptied moved ≡ map emptied s.lanes.items = c.move_counted-counted.ensures.others ∙ ap (map emptied) c.deref_mut.ensures.value in
    let long : length moved ≡ length s.lanes.items = as_many moved s.lanes.items same in
    let put_is : put ≡ moved = whole n moved s.lanes.items long s.lanes.ok.0 in
    let now_is : now ≡ map emptied s.lanes.items = c.empty_all.ensures ∙ ap (map emptied) (c.deref_mut-2.ensures.value ∙ put_is) ∙ same in
    let as_long : length now ≡ length put = ap length now_is ∙ length-map s.lanes.items emptied ∙ sym long ∙ sym (ap length put_is) in
    let room : n ≡ length put = s.lanes.ok.0 ∙ sym long ∙ sym (ap length put_is) in
    let is : take n (now ++ drop (length now) put) ≡ map emptied s.lanes.items = whole n now put as_long room ∙ now_is in
    record {
      counted = sym (ap total is ∙ emptied_none s.lanes.items);
      few = subst (λ (m : ℕ). m < 2 ^ 32) (sym (ap length is ∙ length-map s.lanes.items emptied)) s.few;
      agreed = subst EndsAgree (sym is) (emptied_agree s.lanes.items);
      sound = subst (AreIntakes s.t.queries) (sym is) (emptied_sound s.t.queries s.lanes.items s.sound);
    }

pub invariant_of-self : goal.invariant_of-self
invariant_of-self c =
    let s = c.args.self.now in
    let moved = c.move_counted-counted.new.lanes in
    let now : List Intake = c.empty_all-in_default.new.lanes in
    let now_is : now ≡ map emptied moved.items = c.empty_all-in_default.ensures ∙ ap (map emptied) c.deref_mut-in_default.ensures.value in
    let is : take moved.len (now ++ drop (length now) moved.items) ≡ map emptied s.lanes.items =
    ap (λ (xs : List Intake). take moved.len (xs ++ drop (length xs) moved.items)) now_is ∙ whole_again emptied moved.items moved.len moved.ok.0 ∙ c.in_default.ensures.err in
    record {
      counted = sym (ap total is ∙ emptied_none s.lanes.items);
      few = subst (λ (m : ℕ). m < 2 ^ 32) (sym (ap length is ∙ length-map s.lanes.items emptied)) s.few;
      agreed = subst EndsAgree (sym is) (emptied_agree s.lanes.items);
      sound = subst (AreIntakes s.t.queries) (sym is) (emptied_sound s.t.queries s.lanes.items s.sound);
    }

pub invariant_of-self-2 : goal.invariant_of-self-2
invariant_of-self-2 c =
    let s = c.args.self.now in
    let other = c.args.switch.now in
    let after : List Intake = fold (after_lane other.t.queries) s.lanes.items other.lanes.items in
    let all = all_moved s.t.queries other.t.queries s.lanes.items other.lanes.items c.requires other.sound s.agreed s.sound in
    let is : c.move_counted-counted.new.lanes.items ≡ after = c.in-Ok.ensures.ok ∙ ap (fold (after_lane other.t.queries) s.lanes.items) c.deref_mut.ensures.value in
    let count : c.in-Ok.count ≡ total after = omega (arith, c.in-Ok.ensures.count, s.counted, other.counted, all.counted) in
    record {
      counted = count ∙ ap total (sym is);
      few = subst (λ (m : ℕ). m < 2 ^ 32) (sym (ap length is ∙ all.long)) s.few;
      agreed = subst EndsAgree (sym is) all.agreed;
      sound = subst (AreIntakes s.t.queries) (sym is) all.sound;
    }
