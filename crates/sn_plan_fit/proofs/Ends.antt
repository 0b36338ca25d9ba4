-- The last stage that the tables of a piece need, by the least stage after them.
use Rattle.std.proofs.Common.{◌≡◌, ℕ, zero, suc, ◌+◌, ◌*◌, ◌-◌, ◌≤◌, ◌<◌, List, [], ◌∷◌, ◌++◌, map, take, drop, length, Bool, true, false, not, Option, Some, None, is_some, refl, ap, sym, ◌∙◌, arith, unwrap_or, nat_lt, cond}
use Rattle.std.specs.Prelude.{◌==◌}
use Rattle.std.proofs.Math.Seq.{take-nil, drop-nil}
use Rattle.sn_types.specs.declared.typed_op.TOp.{TOp}
use Rattle.sn_plan_fit.specs.declared.misfit.Misfit.{Misfit}
use Rattle.sn_plan_fit.specs.declared.misfit.MisfitKind.TheVariants.{Stage}
use Rattle.sn_plan_fit.specs.Checks.{failing, or_else}
use Rattle.sn_plan_fit.specs.Placing.{Table, stateless, register}
use Rattle.sn_types.specs.Cuts.{is_stateful, stateful}
use Rattle.sn_plan_fit.specs.Tables.{op_tables, is_first, membership, end_of, past_end, stage_misfit, order_misfit}
use Rattle.sn_plan_fit.specs.Pieces.{tables_misfit}
use Rattle.sn_plan_fit.specs.Gaps.{least_after, end_misfit}

-- what the end says of the least stage after the tables
abbrev After : ℕ → List Table → Option ℕ → ℕ → Type 0
After least ts None n = n ≡ least + length ts
After least ts (Some e) n = n ≡ e + 1

after_some : (least : ℕ) (s : ℕ) (ts : List Table) (e : Option ℕ) (n : ℕ) → After (s + 1) ts e n → n ≡ unwrap_or e (s + length ts) + 1
after_some least s ts None n h = omega (arith, h)
after_some least s ts (Some e) n h = h

after_stateless : (least : ℕ) (ts : List Table) (e : Option ℕ) (n : ℕ) → After (least + 1) ts e n → After least (stateless ∷ ts) e n
after_stateless least ts None n h = omega (arith, h)
after_stateless least ts (Some e) n h = h

pub following : (least : ℕ) (ts : List Table) → After least ts (end_of ts) (least_after least ts)
following least [] = omega arith
following least (stateless ∷ ts) = after_stateless least ts (end_of ts) (least_after (least + 1) ts) (following (least + 1) ts)
following least (register s ∷ ts) = after_some least s ts (end_of ts) (least_after (s + 1) ts) (following (s + 1) ts)

same_test : (a b c d : ℕ) → (a < b → c < d) → (c < d → a < b) → nat_lt a b ≡ nat_lt c d
same_test a b c d f g = grind (arith, f, g)

end_same : (stages : ℕ) (ts : List Table) (e : Option ℕ) (n : ℕ) → 1 ≤ stages → After 0 ts e n → past_end stages ts e ≡ end_misfit stages (is_some e) n
end_same stages ts None n h b =
    let same : length ts ≡ n = omega (arith, b) in
    ap (λ (k : ℕ). failing (nat_lt stages k) Stage stages k) same
end_same stages ts (Some e) n h b =
    let same : e ≡ n - 1 = omega (arith, b) in
    let test : nat_lt (stages - 1) e ≡ nat_lt stages n = same_test (stages - 1) e stages n (λ k. omega (arith, h, b, k)) (λ k. omega (arith, h, b, k)) in
    ap (λ (t : Bool). failing t Stage (stages - 1) e) test ∙ ap (λ (k : ℕ). failing (nat_lt stages n) Stage (stages - 1) k) same

pub stage_misfit_is : (stages : ℕ) (ts : List Table) → 1 ≤ stages → stage_misfit stages ts ≡ end_misfit stages (is_some (end_of ts)) (least_after 0 ts)
stage_misfit_is stages ts h = end_same stages ts (end_of ts) (least_after 0 ts) h (following 0 ts)

-- a membership table is no register
pub no_member : (level : ℕ) (path : List ℕ) (ts : List Table) → end_of (membership level path ++ ts) ≡ end_of ts
no_member level path ts = by_first (is_first level path)
  where
    by_first : (b : Bool) → end_of (cond b [] (stateless ∷ []) ++ ts) ≡ end_of ts
    by_first true = refl
    by_first false = refl

-- with no written stage there is no register
empty_chain : (d : ℕ) (f : List ℕ → List Table) → end_of (f []) ≡ None → end_of (map register (take d []) ++ f (drop d [])) ≡ None
empty_chain d f e =
    let taken : take d [] ≡ [] = take-nil d in
    let dropped : drop d [] ≡ [] = drop-nil d in
    ap (λ (xs : List ℕ). end_of (map register xs ++ f (drop d []))) taken ∙ ap (λ (xs : List ℕ). end_of (f xs)) dropped ∙ e

none_step : (b : Bool) (d : ℕ) (f : List ℕ → List Table) → end_of (f []) ≡ None → end_of (cond b (map register (take d []) ++ f (drop d [])) (stateless ∷ f [])) ≡ None
none_step true d f e = empty_chain d f e
none_step false d f e = e

none_written : (d : ℕ) (ops : List TOp) → end_of (op_tables d ops []) ≡ None
none_written d [] = refl
none_written d (op ∷ ops) = none_step (is_stateful op) d (op_tables d ops) (none_written d ops)

-- and with one there is
some_step : (b : Bool) (d n s : ℕ) (written : List ℕ) (f : List ℕ → List Table) → 1 ≤ d → 1 ≤ cond b (1 + n) n → (1 ≤ n → is_some (end_of (f (s ∷ written))) ≡ true)
    → is_some (end_of (cond b (map register (take d (s ∷ written)) ++ f (drop d (s ∷ written))) (stateless ∷ f (s ∷ written)))) ≡ true
some_step true zero n s written f h k go = absurd (omega (arith, h))
some_step true (suc d) n s written f h k go = refl
some_step false d n s written f h k go = go k

some_written : (d : ℕ) (ops : List TOp) (s : ℕ) (written : List ℕ) → 1 ≤ d → 1 ≤ stateful ops → is_some (end_of (op_tables d ops (s ∷ written))) ≡ true
some_written d [] s written h k = absurd (omega (arith, k))
some_written d (op ∷ ops) s written h k = some_step (is_stateful op) d (stateful ops) s written (op_tables d ops) h k (some_written d ops s written h)

-- where there are as many stages as registers, there is a register exactly where there is a stage
pub registers_written : (d : ℕ) (ops : List TOp) (written : List ℕ) → 1 ≤ d → length written ≡ d * stateful ops → is_some (end_of (op_tables d ops written)) ≡ not (length written == 0)
registers_written d ops [] h e = ap (λ (o : Option ℕ). is_some o) (none_written d ops)
registers_written d ops (s ∷ written) h e =
    by_count (stateful ops) (λ k. some_written d ops s written h k) e ∙ sym some_length
  where
    some_length : not (length (s ∷ written) == 0) ≡ true
    some_length = grind arith

    by_count : (n : ℕ) → (1 ≤ n → is_some (end_of (op_tables d ops (s ∷ written))) ≡ true) → length (s ∷ written) ≡ d * n → is_some (end_of (op_tables d ops (s ∷ written))) ≡ true
    by_count zero go e = absurd (omega (arith, e))
    by_count (suc n) go e = go (omega arith)

-- the answer of all tables
pub tables_end : (x : Option Misfit) (stages least d level : ℕ) (path : List ℕ) (ops : List TOp) (written : List ℕ) → 1 ≤ stages → 1 ≤ d → length written ≡ d * stateful ops
    → order_misfit 0 (membership level path ++ op_tables d ops written) ≡ None
    → least ≡ least_after 0 (membership level path ++ op_tables d ops written)
    → x ≡ end_misfit stages (not (length written == 0)) least
    → x ≡ tables_misfit stages (membership level path ++ op_tables d ops written)
tables_end x stages least d level path ops written s h e order is given =
    let ts : List Table = membership level path ++ op_tables d ops written in
    let some : is_some (end_of ts) ≡ not (length written == 0) = ap (λ (o : Option ℕ). is_some o) (no_member level path (op_tables d ops written)) ∙ registers_written d ops written h e in
    given ∙ ap (λ (n : ℕ). end_misfit stages (not (length written == 0)) n) is ∙ ap (λ (b : Bool). end_misfit stages b (least_after 0 ts)) (sym some) ∙ sym (stage_misfit_is stages ts s)
    ∙ ap (λ (o : Option Misfit). or_else o (stage_misfit stages ts)) (sym order)
