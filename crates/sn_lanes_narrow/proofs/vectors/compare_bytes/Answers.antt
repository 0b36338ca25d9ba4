use Rattle.std.proofs.Common.{◌==◌, ℕ, List, not, nat_lt, nat_le, ap, sym, ◌∙◌, w8}
use Rattle.std.specs.Simd.Lanes.{zip2}
use Rattle.sn_query_grammar.specs.declared.ast.Cmp.{Cmp}
use Rattle.sn_types.specs.Values.{compared}
use Rattle.sn_lanes_narrow.specs.Marks.{mark}
use Rattle.sn_lanes_narrow.proofs.LaneLemmas.{flags, flags_back}
use Rattle.sn_lanes_narrow.proofs.vectors.compare_bytes.Goals as goal
use Rattle.sn_lanes_narrow.proofs.vectors.compare_bytes.Goals.{in-Eq, in-Ne, in-Lt, in-Le, in-Gt, in-Ge}

pub returns : goal.returns
returns c =
    let made : Cmp → List ℕ = λ cmp. zip2 (λ a b. mark (compared cmp a b)) c.args.left c.args.right in
    elim c.match-cmp.branch [
      | in-Eq w ↦ w.result-is ∙ flags w8 (λ a b. a == b) c.args.left c.args.right c.requires.left c.requires.right ∙ ap made (sym w.in-Eq.is)
      | in-Ne w ↦ w.result-is ∙ flags w8 (λ a b. not (a == b)) c.args.left c.args.right c.requires.left c.requires.right ∙ ap made (sym w.in-Ne.is)
      | in-Lt w ↦ w.result-is ∙ flags w8 nat_lt c.args.left c.args.right c.requires.left c.requires.right ∙ ap made (sym w.in-Lt.is)
      | in-Le w ↦ w.result-is ∙ flags w8 nat_le c.args.left c.args.right c.requires.left c.requires.right ∙ ap made (sym w.in-Le.is)
      | in-Gt w ↦ w.result-is ∙ flags_back w8 nat_lt c.args.left c.args.right c.requires.left c.requires.right ∙ ap made (sym w.in-Gt.is)
      | in-Ge w ↦ w.result-is ∙ flags_back w8 nat_le c.args.left c.args.right c.requires.left c.requires.right ∙ ap made (sym w.in-Ge.is)
    ]
