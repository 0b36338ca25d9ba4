use Rattle.sn_types.specs.declared.typed_query.TypedQuery.{TypedQuery}
use Rattle.std.proofs.Common.{List, sym, ◌∙◌, subst}
use Rattle.sn_types.specs.Typed.{IsTyped}
use Rattle.sn_types.proofs.typed.Typed.copy.Goals as goal

pub invariant_of-result : goal.invariant_of-result
invariant_of-result c = record { typed = subst (λ (qs : List TypedQuery). ∥ IsTyped c.args.self.now.window_us qs ∥₁) (sym (c.in_ok-queries.ensures ∙ c.as_slice.ensures)) c.args.self.now.typed }
