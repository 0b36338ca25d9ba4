use Rattle.std.proofs.Common.{◌≡◌, ℕ, ◌<◌, ◌^◌, ◌++◌, List, map, take, drop, length, ap, sym, ◌∙◌, subst}
use Rattle.sn_engine.specs.declared.intake.Intake.{Intake}
use Rattle.std.proofs.lemmas.List.{length-map}
use Rattle.sn_engine.specs.Intakes.{emptied, total, AreIntakes, EndsAgree}
use Rattle.sn_engine.proofs.Ends.{emptied_agree}
use Rattle.sn_engine.proofs.Lanes.{emptied_none, emptied_sound, whole_again}
use Rattle.sn_engine.proofs.engine.Engine.clear.Goals as goal

pub invariant_of-self : goal.invariant_of-self
invariant_of-self c =
    let s = c.args.self.now in
    let now = c.empty_all.new.lanes in
    let done : now ≡ map emptied s.lanes.items = c.empty_all.ensures ∙ ap (map emptied) c.deref_mut.ensures.value in
    let is : take s.lanes.len (now ++ drop (length now) s.lanes.items) ≡ map emptied s.lanes.items =
    ap (λ (xs : List Intake). take s.lanes.len (xs ++ drop (length xs) s.lanes.items)) done ∙ whole_again emptied s.lanes.items s.lanes.len s.lanes.ok.0 in
    record {
      counted = sym (ap total is ∙ emptied_none s.lanes.items);
      few = subst (λ (n : ℕ). n < 2 ^ 32) (sym (ap length is ∙ length-map s.lanes.items emptied)) s.few;
      agreed = subst EndsAgree (sym is) (emptied_agree s.lanes.items);
      sound = subst (AreIntakes s.t.queries) (sym is) (emptied_sound s.t.queries s.lanes.items s.sound);
    }
