use Rattle.std.proofs.Common.{◌≡◌, List, length, ap, sym, ◌∙◌, subst}
use Rattle.std.specs.List.{AllByRecursion}
use Rattle.sn_engine_lockstep.specs.Sources.{kept_in}
use Rattle.sn_engine_lockstep.specs.declared.driver.Driver.{Driver}
use Rattle.sn_engine.proofs.Lanes.{whole}
use Rattle.sn_engine_many.specs.Switches.{AreWorking, IsResting, no_tuples, shorts_of}
use Rattle.sn_engine_many.proofs.many.Many.begin.Goals as goal

pub returns-in_ok-begin_all-in-Between-clause-work : goal.returns-in_ok-begin_all-in-Between-clause-work
returns-in_ok-begin_all-in-Between-clause-work c = λ queries tables entries b.
    let s = c.args.self.now in
    let items : List Driver = s.switches.items in
    let new : List Driver = c.begin_all.new.switches in
    let kept = kept_in queries s.last c.args.window in
    let shorts = shorts_of queries entries in
    let same = c.deref_mut.ensures.value in
    let count : length new ≡ length items = c.in_ok-begin_all-in-Between.ensures.count ∙ ap (λ (ds : List Driver). length ds) same in
    record {
      each = subst (AreWorking queries tables shorts kept (no_tuples items)) (sym (whole s.switches.len new items count s.switches.ok.0))
          (subst (λ (ds : List Driver). AreWorking queries tables shorts kept (no_tuples ds) new) same
          (c.in_ok-begin_all-in-Between.ensures.work queries tables shorts (subst (AllByRecursion (IsResting queries tables shorts)) (sym same) b.each)));
      none = b.none;
      held = b.recalls c.args.window;
    }
