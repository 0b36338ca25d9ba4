use Rattle.std.proofs.Common.{ap, sym, ◌∙◌}
use Rattle.std.specs.List.{list_any}
use Rattle.sn_types.specs.Kinds.{has_wide_column}
use Rattle.sn_types.specs.declared.typed_query.TypedBranch.{TypedBranch}
use Rattle.sn_types.specs.Typed.{branch_at}
use Rattle.sn_types.proofs.KindLemmas.{all_below}
use Rattle.sn_types.proofs.TypedRows.{short_fields}
use Rattle.sn_types.proofs.typed.Typed.is_wide.Goals as goal

pub returns-clause-short : goal.returns-clause-short
returns-clause-short c isnt =
    let self = c.args.self.now in
    short_fields self.window_us self.queries c.args.q c.args.b self.typed c.requires.query c.requires.branch
    (sym (c.are_wide.ensures ∙ ap (list_any has_wide_column) c.as_slice.ensures ∙ ap (λ (branch : TypedBranch). list_any has_wide_column branch.schemas) c.branch-self.ensures) ∙ isnt)

pub returns-clause-wide : goal.returns-clause-wide
returns-clause-wide c = all_below (branch_at c.args.self.now.queries c.args.q c.args.b).fields
