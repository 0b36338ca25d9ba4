use Rattle.std.proofs.Common.{◌≡◌, List, Some, slice_get, ap, sym, ◌∙◌}
use Rattle.std.proofs.lemmas.Option.{slice_get-get_or}
use Rattle.sn_engine_lockstep.specs.declared.driver.Driver.{Driver}
use Rattle.sn_engine_many.proofs.Switching.{give_more}
use Rattle.sn_engine_many.specs.Switches.{shorts_of}
use Rattle.sn_engine_many.proofs.many.Many.packet.Goals as goal

pub returns-in_ok-give_one-in-Begun-clause-work : goal.returns-in_ok-give_one-in-Begun-clause-work
returns-in_ok-give_one-in-Begun-clause-work c = λ queries tables entries kept window captures b.
    let items : List Driver = c.args.self.now.switches.items in
    let d : Driver = c.index_mut.result.now in
    let at : slice_get items c.args.switch ≡ Some d = slice_get-get_or items c.args.switch d c.requires.switch ∙ ap (λ (x : Driver). Some x) (sym c.index_mut.ensures.value) in
    record {
      each = give_more queries tables (shorts_of queries entries) kept c.args.tuple.now c.args.switch d c.give_one.new.switch items captures at
          (λ tuples w. c.in_ok-give_one-in-Begun.ensures.work queries tables (shorts_of queries entries) kept tuples w) b.each;
      none = b.none;
      held = b.held;
    }
