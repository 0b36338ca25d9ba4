-- Typed files are well formed.
use Rattle.std.proofs.Common.{◌≡◌, ℕ, List, [], ◌∷◌, ◌++◌, Option, None, refl, sym, subst}
use Rattle.std.specs.List.{AllByRecursion, flat_map}
use Rattle.sn_base.proofs.Lists.{all_map, all_weaker, all_both as both_of}
use Rattle.sn_base.specs.declared.column.Column.{Column}
use Rattle.sn_query_grammar.specs.declared.ast.Query.{Query}
use Rattle.sn_query_grammar.specs.declared.ast.Branch.{Branch}
use Rattle.sn_query_grammar.specs.declared.ast.Refine.{Refine}
use Rattle.sn_query_grammar.specs.declared.ast.Op.{Op}
use Rattle.sn_query_grammar.specs.declared.ast.What.{What}
use Rattle.sn_query_grammar.specs.declared.ast.What.TheVariants as what
use Rattle.sn_types_faults.specs.Columns.{columns_after}
use Rattle.sn_query_grammar.specs.Limits.{QueryLimits, BranchLimits}
use Rattle.sn_types_faults.specs.Walk.{Place, first_fault, refine_places, branch_places, join_places, query_places}
use Rattle.sn_types.specs.declared.typed_query.TypedQuery.{TypedQuery}
use Rattle.sn_types.specs.Typing.{typed_ops, schemas_along, after_branches, typed_branch, typed_query, posts_of}
use Rattle.sn_types.specs.Typed.{IsTyped}
use Rattle.sn_types.specs.WellFormed.{StayWithin, IsWellFormedBranch, IsWellFormedQuery}
use Rattle.sn_types_faults.specs.Columns.{packet_columns}
use Rattle.sn_types.proofs.Sources.{none_in_both, none_in_each}
use Rattle.sn_types.proofs.Facts.{few_packet_fields}
use Rattle.sn_types.proofs.Known.{ShiftsLawfully, stays_within}
use Rattle.sn_types.proofs.Sound.{OpLimits, AreSound, sound_branch, sound_posts}

pub op_shifts : (w : What) → OpLimits w → ShiftsLawfully w
op_shifts (what.Filter conds) h = tt
op_shifts (what.Map cols) h = h.2
op_shifts what.Distinct h = tt
op_shifts (what.Reduce r) h = tt

stay_within : (columns : List Column) (ops : List Op) → AreSound columns ops → StayWithin (schemas_along columns ops) (typed_ops columns ops)
stay_within columns [] h = refl
stay_within columns (op ∷ ops) h = (stays_within columns op.what (op_shifts op.what h.0.limits) h.0.known, stay_within (columns_after columns op.what) ops h.1)

well_formed_branch : (refine : Option Refine) (b : Branch) → BranchLimits b → first_fault (branch_places refine b.ops) ≡ None → IsWellFormedBranch (typed_branch b.ops)
well_formed_branch refine b limits none =
    record { fields = few_packet_fields refine b.ops none; places = stay_within (packet_columns b.ops) b.ops (sound_branch refine b.ops limits.each none) }

well_formed_query : (q : Query) → QueryLimits q → first_fault (query_places q) ≡ None → IsWellFormedQuery (typed_query q)
well_formed_query q limits none =
    let branches : List Place = flat_map (λ (b : Branch). branch_places q.refine b.ops) q.branches in
    let all = none_in_both (refine_places q.refine ++ branches) (join_places q.refine q.branches q.join) none in
    let front = none_in_both (refine_places q.refine) branches all.0 in
    let NoFault : Branch → Type 0 = λ b. first_fault (branch_places q.refine b.ops) ≡ None in
    record {
      branches = all_map IsWellFormedBranch (λ (b : Branch). typed_branch b.ops) q.branches
          (all_weaker (λ b. BranchLimits b × NoFault b) (λ b. IsWellFormedBranch (typed_branch b.ops)) (λ b both. well_formed_branch q.refine b both.0 both.1) q.branches
          (both_of BranchLimits NoFault q.branches limits.branches (none_in_each (λ (b : Branch). branch_places q.refine b.ops) q.branches front.1)));
      places = stay_within (after_branches q.refine q.branches q.join).columns (posts_of q.join) (sound_posts q.refine q.branches q.join limits.joined all.1);
    }

pub well_formed : (window : ℕ) (queries : List TypedQuery) → IsTyped window queries → AllByRecursion IsWellFormedQuery queries
well_formed window queries t =
    let NoFault : Query → Type 0 = λ q. first_fault (query_places q) ≡ None in
    subst (λ (qs : List TypedQuery). AllByRecursion IsWellFormedQuery qs) (sym t.1.same_queries)
    (all_map IsWellFormedQuery typed_query t.0.queries
    (all_weaker (λ q. QueryLimits q × NoFault q) (λ q. IsWellFormedQuery (typed_query q)) (λ q both. well_formed_query q both.0 both.1) t.0.queries
    (both_of QueryLimits NoFault t.0.queries t.1.limits.each (none_in_each query_places t.0.queries t.1.no_fault))))
