-- The branches of typed queries have few cuts, with few stateful operators before each.
use Rattle.std.proofs.Common.{◌≡◌, ℕ, zero, suc, ◌≤◌, ◌<◌, List, [], ◌∷◌, length, take, refl, ap, sym, subst, arith}
use Rattle.std.proofs.Math.Bridge.{le_prop}
use Rattle.std.proofs.Math.Logic.{∥∥₁_elim}
use Rattle.sn_types.specs.declared.typed_op.TOp.{TOp}
use Rattle.sn_types.specs.declared.typed_op.TOp.TheVariants.{Filter, Map, Distinct, Reduce as Reduced}
use Rattle.sn_types.specs.declared.typed_query.TypedQuery.{TypedQuery}
use Rattle.sn_types.specs.declared.typed_query.TypedBranch.{TypedBranch}
use Rattle.sn_types.specs.Cuts.{stateful, filters_ahead, cut_after_distinct, greatest_cut}
use Rattle.sn_types.specs.Typed.{IsTyped, query_at, branch_at}
use Rattle.sn_types_faults.specs.Columns.{packet_columns}
use Rattle.sn_types.specs.Typing.{typed_ops}
use Rattle.sn_types.proofs.Facts.{branch_source_of, length-typed_ops}
use Rattle.sn_plan_choices.specs.Settings.{IsNarrow}

no_state : (ops : List TOp) (k : ℕ) → k ≤ filters_ahead ops → stateful (take k ops) ≡ 0
no_state [] zero h = refl
no_state [] (suc k) h = refl
no_state (op ∷ ops) zero h = refl
no_state (Filter conds ∷ ops) (suc k) h = no_state ops k (omega arith)
no_state (Map exprs ∷ ops) (suc k) h = absurd (omega arith)
no_state (Distinct ∷ ops) (suc k) h = absurd (omega arith)
no_state (Reduced r ∷ ops) (suc k) h = absurd (omega arith)

one_state : (ops : List TOp) (k : ℕ) → k ≤ cut_after_distinct ops → stateful (take k ops) ≤ 1
one_state [] zero h = omega arith
one_state [] (suc k) h = omega arith
one_state (op ∷ ops) zero h = omega arith
one_state (Filter conds ∷ ops) (suc k) h = one_state ops k (omega arith)
one_state (Map exprs ∷ ops) (suc k) h = one_state ops k (omega arith)
one_state (Distinct ∷ ops) (suc k) h = absurd (omega arith)
one_state (Reduced r ∷ ops) (suc k) h = let e = no_state ops k (omega arith) in omega arith

two_states : (ops : List TOp) (k : ℕ) → k ≤ greatest_cut ops → stateful (take k ops) ≤ 2
two_states [] zero h = omega arith
two_states [] (suc k) h = omega arith
two_states (op ∷ ops) zero h = omega arith
two_states (Filter conds ∷ ops) (suc k) h = two_states ops k (omega arith)
two_states (Map exprs ∷ ops) (suc k) h = two_states ops k (omega arith)
two_states (Distinct ∷ ops) (suc k) h = let e = one_state ops k (omega arith) in omega arith
two_states (Reduced r ∷ ops) (suc k) h = let e = no_state ops k (omega arith) in omega arith

filters_within : (ops : List TOp) → filters_ahead ops ≤ length ops
filters_within [] = omega arith
filters_within (Filter conds ∷ ops) = let e = filters_within ops in omega arith
filters_within (Map exprs ∷ ops) = omega arith
filters_within (Distinct ∷ ops) = omega arith
filters_within (Reduced r ∷ ops) = omega arith

after_within : (ops : List TOp) → cut_after_distinct ops ≤ length ops
after_within [] = omega arith
after_within (Filter conds ∷ ops) = let e = after_within ops in omega arith
after_within (Map exprs ∷ ops) = let e = after_within ops in omega arith
after_within (Distinct ∷ ops) = omega arith
after_within (Reduced r ∷ ops) = let e = filters_within ops in omega arith

cut_within : (ops : List TOp) → greatest_cut ops ≤ length ops
cut_within [] = omega arith
cut_within (Filter conds ∷ ops) = let e = cut_within ops in omega arith
cut_within (Map exprs ∷ ops) = let e = cut_within ops in omega arith
cut_within (Distinct ∷ ops) = let e = after_within ops in omega arith
cut_within (Reduced r ∷ ops) = let e = filters_within ops in omega arith

pub typed_narrow : (window : ℕ) (queries : List TypedQuery) (q b : ℕ) → ∥ IsTyped window queries ∥₁ → q < length queries → b < length (query_at queries q).branches → IsNarrow (branch_at queries q b)
typed_narrow window queries q b t lt within = record {
  cut = ∥∥₁_elim t le_prop (λ t.
      let s = branch_source_of window queries q b t lt within in
      let ops = typed_ops (packet_columns s.ops) s.ops in
      let same = ap (λ (x : TypedBranch). x.max_cut) s.is in
      let long = length-typed_ops (packet_columns s.ops) s.ops in
      let cut = cut_within ops in
      let most = s.count.to_most in omega (arith, same, long, cut, most));
  few = λ cut h. ∥∥₁_elim t le_prop (λ t.
      let s = branch_source_of window queries q b t lt within in
      let ops = typed_ops (packet_columns s.ops) s.ops in
      let same = ap (λ (x : TypedBranch). x.max_cut) s.is in
      let two : cut ≤ greatest_cut ops → stateful (take cut ops) ≤ 2 = two_states ops cut in
      subst (λ (x : TypedBranch). stateful (take cut x.ops) ≤ 2) (sym s.is) (two (omega (arith, same, h))));
}
