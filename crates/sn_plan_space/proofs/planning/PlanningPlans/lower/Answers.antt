use Rattle.std.proofs.Common.{◌∙◌, refl}
use Rattle.sn_types.proofs.Facts.{few_queries}
use Rattle.sn_plan_choices.specs.Costs.{entry_in}
use Rattle.sn_plan_choices.specs.Places.{place_of}
use Rattle.sn_plan_space.specs.Reading.{after_choices}
use Rattle.sn_plan_space.proofs.Bounds.{lower_fits}
use Rattle.sn_plan_space.proofs.Typing.{typed_readable}
use Rattle.sn_plan_space.proofs.planning.PlanningPlans.lower.Goals as goal

pub returns : goal.returns
returns c =
    c.lower_at.ensures c.args.self.now.s.now (entry_in c.args.self.now.c.now) (after_choices c.args.self.now.s.now (entry_in c.args.self.now.c.now) c.args.self.now.t.now.queries c.args.partial.now)
    (c.position_after.ensures c.args.self.now.s.now (entry_in c.args.self.now.c.now) c.args.self.now.t.now.queries refl (c.as_slice.ensures ∙ c.args.self.now.known_is) c.requires)
    ∙ lower_fits c.args.self.now.s.now (entry_in c.args.self.now.c.now) (λ q prefix b x. c.args.self.now.c.now.small (place_of q prefix b x)) c.args.self.now.t.now.queries c.args.partial.now
    (typed_readable c.args.self.now.t.now.window_us c.args.self.now.t.now.queries c.args.self.now.t.now.typed)
    (few_queries c.args.self.now.t.now.window_us c.args.self.now.t.now.queries c.args.self.now.t.now.typed) c.requires
