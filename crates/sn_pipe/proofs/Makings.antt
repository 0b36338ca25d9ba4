-- Stages made of operators, one after another.
use Rattle.std.proofs.Common.{◌≡◌, ℕ, Bool, true, false, cond, suc, ◌+◌, ◌<◌, ◌≤◌, List, [], ◌∷◌, ◌++◌, map, take, drop, length, get_or, refl, ap, sym, subst, ◌∙◌, slice_index, arith}
use Rattle.std.proofs.lemmas.List.{length-map, length-take, map-append, take_more, take-append-drop, take_all}
use Rattle.sn_types.specs.declared.typed_op.TOp.{TOp}
use Rattle.sn_types.specs.declared.typed_op.TOp.TheVariants as ops
use Rattle.sn_pipe.specs.AnyStage.{Stage}
use Rattle.sn_pipe.specs.declared.stage.Stage.TheVariants.{Filter, Map, Distinct, Reduce}
use Rattle.sn_types.specs.Cuts.{is_stateful, size_at, stateful}
use Rattle.sn_pipe.specs.Making.{AreStagesOf, IsStageOf}
use Rattle.sn_pipe.specs.Stages.{cleared, top_of}
use Rattle.sn_pipe.specs.Windows.{HasRegisters, HaveSizes}

pub count_both : (xs ys : List TOp) → stateful (xs ++ ys) ≡ stateful xs + stateful ys
count_both [] ys = omega arith
count_both (x ∷ xs) ys = by_state (is_stateful x) (count_both xs ys)
  where
    by_state : (b : Bool) → stateful (xs ++ ys) ≡ stateful xs + stateful ys → cond b (1 + stateful (xs ++ ys)) (stateful (xs ++ ys)) ≡ cond b (1 + stateful xs) (stateful xs) + stateful ys
    by_state true h = omega (arith, h)
    by_state false h = h

pub count_more : (ops : List TOp) (i : ℕ) (op : TOp) → i < length ops → op ≡ get_or ops i op → stateful (take (i + 1) ops) ≡ stateful (take i ops) + stateful (op ∷ [])
count_more ops i op lt at = ap stateful (take_more ops i op lt ∙ ap (λ o. take i ops ++ o ∷ []) (sym at)) ∙ count_both (take i ops) (op ∷ [])

pub count_front : (ops : List TOp) (i : ℕ) → stateful (take i ops) ≤ stateful ops
count_front ops i =
    let both = ap stateful (take-append-drop i ops) in
    omega (arith, both, count_both (take i ops) (drop i ops))

pub count_few : (os : List TOp) → stateful os ≤ length os
count_few [] = omega arith
count_few (ops.Filter conds ∷ os) = let rest = count_few os in omega (arith, rest)
count_few (ops.Map exprs ∷ os) = let rest = count_few os in omega (arith, rest)
count_few (ops.Distinct ∷ os) = let rest = count_few os in omega (arith, rest)
count_few (ops.Reduce r ∷ os) = let rest = count_few os in omega (arith, rest)

registers_for : (depth size size' : ℕ) (s : Stage) → (stateful (top_of s ∷ []) ≡ 1 → size ≡ size') → HasRegisters depth size s → HasRegisters depth size' s
registers_for depth size size' (Filter conds) e h = tt
registers_for depth size size' (Map exprs) e h = tt
registers_for depth size size' (Distinct chain spilled) e h = subst (λ n. HasRegisters depth n (Distinct chain spilled)) (e refl) h
registers_for depth size size' (Reduce r chain) e h = subst (λ n. HasRegisters depth n (Reduce r chain)) (e refl) h

sized_push : (depth : ℕ) (size : ℕ → ℕ) (i : ℕ) (ss : List Stage) (s : Stage) → HaveSizes depth size i ss → HasRegisters depth (size (i + length ss)) s → HaveSizes depth size i (ss ++ s ∷ [])
sized_push depth size i [] s h k = let here : i + 0 ≡ i = omega arith in (subst (λ n. HasRegisters depth (size n) s) here k, tt)
sized_push depth size i (x ∷ ss) s h k = let there : i + suc (length ss) ≡ suc i + length ss = omega arith in (h.0, sized_push depth size (suc i) ss s h.1 (subst (λ n. HasRegisters depth (size n) s) there k))

-- the stages of the first n operators, and how many sizes they used
pub record SoFar (ops : List TOp) (depth : ℕ) (sizes : List ℕ) (i : ℕ) (stages : List Stage) (used : ℕ) : Type 0 where
  pub same : map top_of stages ≡ take i ops
  pub fresh : map cleared stages ≡ stages
  pub sized : HaveSizes depth (size_at ops sizes) 0 stages
  pub count : used ≡ stateful (take i ops)

pub one_stage_more : (ops : List TOp) (depth : ℕ) (sizes : List ℕ) (i : ℕ) (stages more : List Stage) (used next : ℕ) (op : TOp) (s : Stage) (size : ℕ) → SoFar ops depth sizes i stages used → i < length ops → op ≡ get_or ops i op →
    stateful ops ≤ length sizes → IsStageOf op depth size s → (used < length sizes → size ≡ slice_index sizes used) → more ≡ stages ++ s ∷ [] → next ≡ used + stateful (op ∷ []) → SoFar ops depth sizes (i + 1) more next
one_stage_more ops depth sizes i stages more used next op s size h lt at enough of sized is counted =
    let upto : take (i + 1) ops ≡ take i ops ++ op ∷ [] = take_more ops i op lt ∙ ap (λ o. take i ops ++ o ∷ []) (sym at) in
    let count : length stages ≡ i = omega (arith, length-map stages top_of, ap length h.same, length-take i ops) in
    let number : 0 + length stages ≡ i = omega (arith, count) in
    let at_size : stateful (top_of s ∷ []) ≡ 1 → size ≡ size_at ops sizes (0 + length stages) = λ one.
    let one_op : stateful (op ∷ []) ≡ 1 = ap (λ o. stateful (o ∷ [])) (sym of.same) ∙ one in
    sized (omega (arith, enough, h.count, one_op, count_more ops i op lt at, count_front ops (i + 1))) ∙ ap (slice_index sizes) h.count ∙ ap (λ n. size_at ops sizes n) (sym number) in
    subst (λ ss. SoFar ops depth sizes (i + 1) ss next) (sym is) (record {
      same = map-append top_of stages (s ∷ []) ∙ ap (λ xs. xs ++ top_of s ∷ []) h.same ∙ ap (λ o. take i ops ++ o ∷ []) of.same ∙ sym upto;
      fresh = map-append cleared stages (s ∷ []) ∙ ap (λ xs. xs ++ cleared s ∷ []) h.fresh ∙ ap (λ x. stages ++ x ∷ []) of.fresh;
      sized = sized_push depth (size_at ops sizes) 0 stages s h.sized (registers_for depth size (size_at ops sizes (0 + length stages)) s at_size of.sized);
      count = counted ∙ ap (λ n. n + stateful (op ∷ [])) h.count ∙ sym (count_more ops i op lt at);
    })

pub all_stages : (ops : List TOp) (depth : ℕ) (sizes : List ℕ) (i : ℕ) (stages : List Stage) (used : ℕ) → SoFar ops depth sizes i stages used → length ops ≤ i → AreStagesOf ops depth (size_at ops sizes) stages
all_stages ops depth sizes i stages used h past = record { same = h.same ∙ take_all i ops past; fresh = h.fresh; sized = h.sized }
