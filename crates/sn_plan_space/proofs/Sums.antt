-- What choices take up together, with one more.
use Rattle.std.proofs.Common.{◌≡◌, ℕ, suc, ◌+◌, ◌-◌, ◌^◌, ◌≤◌, ◌<◌, List, [], ◌∷◌, ◌++◌, Bool, true, false, ◌||◌, refl, ap, sym, ◌∙◌, subst, arith, append-nil}
use Rattle.std.specs.Prelude.{Option, Some, None, nat_lt, slice_get}
use Rattle.std.specs.List.{sum_by, list_any, range_with_len}
use Rattle.std.proofs.lemmas.Bool.Decides.{nat_tests}
use Rattle.std.proofs.lemmas.List.Concat.{flat_map-append}
use Rattle.std.proofs.lemmas.List.Sums.{sum_by-append}
use Rattle.sn_switch.specs.declared.switch.Switch.{Switch}
use Rattle.sn_plan_fit.specs.Capped.{capped}
use Rattle.sn_plan_fit.specs.Loads.{AreLoads, Adds, load_in}
use Rattle.sn_plan_fit.specs.declared.loads.Load.{Load}
use Rattle.sn_plan_fit.specs.Registers.{Register, in_stage, count_in, bits_in}
use Rattle.sn_plan_choices.specs.Planning.{Taken, register_of, metadata_of, is_past, registers_in, is_full, is_too_much}
use Rattle.sn_plan_space.specs.declared.position.Standing.{Standing}
use Rattle.sn_plan_space.specs.declared.position.Took.{Took}
use Rattle.sn_plan_space.specs.declared.totals.Totals.{Totals}
use Rattle.sn_plan_space.specs.Positions.{IsRegister, IsTook}
use Rattle.sn_plan_space.specs.Totals.{AreTotals, HasLimits, any_full}

pub no_register : (o : Option Standing) (loads : List Load) (standing more : List Register) → o ≡ None → AreLoads loads standing → IsRegister o more → AreLoads loads (standing ++ more)
no_register None loads standing more e are is = subst (λ l. AreLoads loads l) (sym (ap (λ l. standing ++ l) is ∙ append-nil standing)) are
no_register (Some r) loads standing more e are is = absurd (let k : Some r ≡ None = e in cc)

pub one_register : (o : Option Standing) (r : Standing) (old new : List Load) (standing more : List Register) → o ≡ Some r → AreLoads old standing → IsRegister o more
    → ((all : ℕ) → r.bits ≡ capped all → Adds old new (in_stage all r.stage ∷ [])) → AreLoads new (standing ++ more)
one_register None r old new standing more e are is adds = absurd (let k : None ≡ Some r = e in cc)
one_register (Some q) r old new standing more e are is adds =
    let same : q ≡ r = cc in
    let is : IsRegister (Some r) more = subst (λ (k : Standing). IsRegister (Some k) more) same is in
    subst (λ l. AreLoads new l) (ap (λ l. standing ++ l) (sym is.2)) (adds is.0 is.1 standing are)

any_more : {A : Type 0} (f : A → Bool) (xs ys : List A) → list_any f (xs ++ ys) ≡ (list_any f xs || list_any f ys)
any_more f [] ys = refl
any_more f (x ∷ xs) ys = ap (λ t. f x || t) (any_more f xs ys) ∙ regroup (f x) (list_any f xs) (list_any f ys)
  where
    regroup : (a b c : Bool) → (a || (b || c)) ≡ ((a || b) || c)
    regroup true b c = refl
    regroup false b c = refl

pub more_taken : (old new : Totals) (took : Took) (taken more : List Taken)
    → ((standing regs : List Register) → AreLoads old.loads standing → IsRegister took.register regs → AreLoads new.loads (standing ++ regs))
    → new.metadata ≡ capped (old.metadata + took.metadata) → new.is_past ≡ (old.is_past || took.is_past) → AreTotals old taken → IsTook took more → AreTotals new (taken ++ more)
more_taken old new took taken more adds m p are is = record {
  of_loads = subst (λ l. AreLoads new.loads l) (sym (flat_map-append register_of taken more)) (adds (registers_in taken) (registers_in more) are.of_loads is.of_register);
  of_metadata = let sum = sum_by-append metadata_of taken more in let a = are.of_metadata in let b = is.of_metadata in omega arith;
  of_past = p ∙ ap (λ t. t || took.is_past) are.of_past ∙ ap (λ t. list_any is_past taken || t) is.of_past ∙ sym (any_more is_past taken more);
}

cap_above : (m n : ℕ) → m < 2 ^ 64 - 1 → nat_lt m (capped n) ≡ nat_lt m n
cap_above m n h = same_test m (capped n) n (λ l. omega arith) (λ l. omega arith)
  where
    same_test : (m a b : ℕ) → (m < a → m < b) → (m < b → m < a) → nat_lt m a ≡ nat_lt m b
    same_test m a b f g = grind (arith, nat_tests)

pub full_at : (s : Switch) (totals : Totals) (taken : List Taken) (stage : ℕ) (load : Load) → HasLimits s → stage < s.stages → AreTotals totals taken → slice_get totals.loads stage ≡ Some load
    → (nat_lt s.actions load.registers || nat_lt s.bits load.bits) ≡ is_full s taken stage
full_at s totals taken stage load is less are e =
    let each = are.of_loads.each stage (let most = is.stages in omega arith) in
    let same : load ≡ load_in (registers_in taken) stage = cc in
    ap (λ (l : Load). nat_lt s.actions l.registers || nat_lt s.bits l.bits) same
    ∙ ap (λ t. t || nat_lt s.bits (capped (bits_in stage (registers_in taken)))) (cap_above s.actions (count_in stage (registers_in taken)) (let most = is.actions in omega arith))
    ∙ ap (λ t. nat_lt s.actions (count_in stage (registers_in taken)) || t) (cap_above s.bits (bits_in stage (registers_in taken)) (let most = is.bits in omega arith))

pub full_here : (s : Switch) (taken : List Taken) (stage : ℕ) (whole : Bool) → stage < s.stages → is_full s taken stage ≡ true
    → list_any (is_full s taken) (range_with_len stage (s.stages - stage)) ≡ whole → true ≡ whole
full_here s taken stage whole h f e =
    let k : s.stages - stage ≡ suc (s.stages - (stage + 1)) = omega arith in
    sym (ap (λ n. list_any (is_full s taken) (range_with_len stage n)) k ∙ ap (λ t. t || list_any (is_full s taken) (range_with_len (stage + 1) (s.stages - (stage + 1)))) f) ∙ e

pub full_after : (s : Switch) (taken : List Taken) (stage : ℕ) (whole : Bool) → stage < s.stages → is_full s taken stage ≡ false
    → list_any (is_full s taken) (range_with_len stage (s.stages - stage)) ≡ whole → list_any (is_full s taken) (range_with_len (stage + 1) (s.stages - (stage + 1))) ≡ whole
full_after s taken stage whole h f e =
    let k : s.stages - stage ≡ suc (s.stages - (stage + 1)) = omega arith in
    sym (ap (λ n. list_any (is_full s taken) (range_with_len stage n)) k ∙ ap (λ t. t || list_any (is_full s taken) (range_with_len (stage + 1) (s.stages - (stage + 1)))) f) ∙ e

pub none_full : (s : Switch) (taken : List Taken) (stage : ℕ) (whole : Bool) → s.stages ≤ stage
    → list_any (is_full s taken) (range_with_len stage (s.stages - stage)) ≡ whole → false ≡ whole
none_full s taken stage whole h e = let k : s.stages - stage ≡ 0 = omega arith in sym (ap (λ n. list_any (is_full s taken) (range_with_len stage n)) k) ∙ e

pub too_much_is : (s : Switch) (totals : Totals) (taken : List Taken) (full : Bool) → s.meta < 2 ^ 32 → AreTotals totals taken → full ≡ any_full s taken
    → (totals.is_past || (full || nat_lt s.meta totals.metadata)) ≡ is_too_much s taken
too_much_is s totals taken full small are e =
    ap (λ t. t || (full || nat_lt s.meta totals.metadata)) are.of_past
    ∙ ap (λ t. list_any is_past taken || (t || nat_lt s.meta totals.metadata)) e
    ∙ ap (λ t. list_any is_past taken || (any_full s taken || t)) (ap (nat_lt s.meta) are.of_metadata ∙ cap_above s.meta (sum_by metadata_of taken) (omega arith))
