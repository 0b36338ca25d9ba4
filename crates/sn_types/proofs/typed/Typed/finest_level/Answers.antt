use Rattle.std.proofs.Common.{ℕ, List, length, nat_eq, slice_index, ◌-◌, true, ◌≡◌, ap, subst, arith}
use Rattle.std.specs.List.{list_any}
use Rattle.sn_types.proofs.Levels.{level_some, is_among}
use Rattle.sn_types.proofs.typed.Typed.finest_level.Goals as goal

pub overflow_sub-result : goal.overflow_sub-result
overflow_sub-result c = omega (arith, level_some c.args.self.now.window_us c.args.self.now.queries c.args.q c.args.self.now.typed c.requires, ap length c.levels-levels.ensures)

pub bounds-levels-levels : goal.bounds-levels-levels
bounds-levels-levels c = omega (arith, level_some c.args.self.now.window_us c.args.self.now.queries c.args.q c.args.self.now.typed c.requires, ap length c.levels-levels.ensures)

pub returns-clause-member : goal.returns-clause-member
returns-clause-member c =
    let levels = c.levels-levels.result.now in
    subst (λ (ns : List ℕ). list_any (nat_eq (slice_index levels (length levels - 1))) ns ≡ true) c.levels-levels.ensures
    (is_among levels (length levels - 1) (omega (arith, level_some c.args.self.now.window_us c.args.self.now.queries c.args.q c.args.self.now.typed c.requires, ap length c.levels-levels.ensures)))
