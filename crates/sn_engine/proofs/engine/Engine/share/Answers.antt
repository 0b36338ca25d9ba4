use Rattle.std.proofs.Common.{◌≡◌, ℕ, ◌<◌, ◌^◌, ◌++◌, List, map, take, drop, length, ap, sym, ◌∙◌, subst}
use Rattle.sn_engine.specs.declared.intake.Intake.{Intake}
use Rattle.std.proofs.lemmas.List.{length-map}
use Rattle.sn_engine.specs.Intakes.{shared, total, AreIntakes, EndsAgree}
use Rattle.sn_engine.proofs.Ends.{shared_agree}
use Rattle.sn_engine.proofs.Lanes.{shared_same, shared_sound, whole_again}
use Rattle.sn_engine.proofs.engine.Engine.share.Goals as goal

pub invariant_of-self : goal.invariant_of-self
invariant_of-self c =
    let s = c.args.self.now in
    let now = c.share_all.new.lanes in
    let done : now ≡ map shared s.lanes.items = c.share_all.ensures ∙ ap (map shared) c.deref_mut.ensures.value in
    let is : take s.lanes.len (now ++ drop (length now) s.lanes.items) ≡ map shared s.lanes.items =
    ap (λ (xs : List Intake). take s.lanes.len (xs ++ drop (length xs) s.lanes.items)) done ∙ whole_again shared s.lanes.items s.lanes.len s.lanes.ok.0 in
    record {
      counted = sym (ap total is ∙ shared_same s.lanes.items ∙ sym s.counted);
      few = subst (λ (n : ℕ). n < 2 ^ 32) (sym (ap length is ∙ length-map s.lanes.items shared)) s.few;
      agreed = subst EndsAgree (sym is) (shared_agree s.lanes.items s.agreed);
      sound = subst (AreIntakes s.t.queries) (sym is) (shared_sound s.t.queries s.lanes.items s.sound);
    }
