-- What is too much for a switch stays too much.
use Rattle.std.proofs.Common.{◌≡◌, ℕ, ◌≤◌, List, [], ◌∷◌, ◌++◌, length, Bool, true, false, ◌||◌, refl, ap, ◌∙◌, arith, length-append}
use Rattle.std.specs.Prelude.{nat_lt, ◌==◌}
use Rattle.std.specs.List.{range_with_len, sum_by, list_any}
use Rattle.std.proofs.lemmas.Bool.Decides.{nat_tests}
use Rattle.std.proofs.lemmas.List.Concat.{flat_map-append}
use Rattle.std.proofs.lemmas.List.Elements.{filter-append}
use Rattle.std.proofs.lemmas.List.Sums.{sum_by-append}
use Rattle.sn_switch.specs.declared.switch.Switch.{Switch}
use Rattle.sn_plan_fit.specs.Registers.{Register, count_in, bits_in, standing_in}
use Rattle.sn_plan_choices.specs.Planning.{Taken, register_of, metadata_of, is_past, registers_in, is_full, is_too_much}

or_first : (a b c d : Bool) → (a ≡ true → c ≡ true) → (b ≡ true → d ≡ true) → (a || b) ≡ true → (c || d) ≡ true
or_first true b c d f g h = ap (λ t. t || d) (f refl)
or_first false b true d f g h = refl
or_first false b false d f g h = g h

any_front : {A : Type 0} (f : A → Bool) (xs ys : List A) → list_any f xs ≡ true → list_any f (xs ++ ys) ≡ true
any_front f [] ys h = cc
any_front f (x ∷ xs) ys h = or_first (f x) (list_any f xs) (f x) (list_any f (xs ++ ys)) (λ e. e) (any_front f xs ys) h

any_each : {A : Type 0} (f g : A → Bool) (xs : List A) → ((x : A) → f x ≡ true → g x ≡ true) → list_any f xs ≡ true → list_any g xs ≡ true
any_each f g [] each h = h
any_each f g (x ∷ xs) each h = or_first (f x) (list_any f xs) (g x) (list_any g xs) (each x) (any_each f g xs each) h

more_above : (m a b : ℕ) → a ≤ b → nat_lt m a ≡ true → nat_lt m b ≡ true
more_above m a b h e = grind (arith, nat_tests)

standing_more : (stage : ℕ) (taken more : List Taken) → standing_in stage (registers_in (taken ++ more)) ≡ standing_in stage (registers_in taken) ++ standing_in stage (registers_in more)
standing_more stage taken more =
    ap (standing_in stage) (flat_map-append register_of taken more) ∙ filter-append (λ (r : Register). r.stage == stage) (registers_in taken) (registers_in more)

count_more : (stage : ℕ) (taken more : List Taken) → count_in stage (registers_in taken) ≤ count_in stage (registers_in (taken ++ more))
count_more stage taken more =
    let all = ap length (standing_more stage taken more) in
    let long = length-append (standing_in stage (registers_in taken)) (standing_in stage (registers_in more)) in omega arith

bits_more : (stage : ℕ) (taken more : List Taken) → bits_in stage (registers_in taken) ≤ bits_in stage (registers_in (taken ++ more))
bits_more stage taken more =
    let all = ap (sum_by (λ (r : Register). r.bits)) (standing_more stage taken more) in
    let sum = sum_by-append (λ (r : Register). r.bits) (standing_in stage (registers_in taken)) (standing_in stage (registers_in more)) in omega arith

full_more : (s : Switch) (taken more : List Taken) (stage : ℕ) → is_full s taken stage ≡ true → is_full s (taken ++ more) stage ≡ true
full_more s taken more stage h =
    or_first (nat_lt s.actions (count_in stage (registers_in taken))) (nat_lt s.bits (bits_in stage (registers_in taken)))
    (nat_lt s.actions (count_in stage (registers_in (taken ++ more)))) (nat_lt s.bits (bits_in stage (registers_in (taken ++ more))))
    (more_above s.actions (count_in stage (registers_in taken)) (count_in stage (registers_in (taken ++ more))) (count_more stage taken more))
    (more_above s.bits (bits_in stage (registers_in taken)) (bits_in stage (registers_in (taken ++ more))) (bits_more stage taken more)) h

metadata_more : (taken more : List Taken) → sum_by metadata_of taken ≤ sum_by metadata_of (taken ++ more)
metadata_more taken more = let all = sum_by-append metadata_of taken more in omega arith

pub too_much_stays : (s : Switch) (taken more : List Taken) → is_too_much s taken ≡ true → is_too_much s (taken ++ more) ≡ true
too_much_stays s taken more h =
    let stages = range_with_len 0 s.stages in
    or_first (list_any is_past taken) (list_any (is_full s taken) stages || nat_lt s.meta (sum_by metadata_of taken))
    (list_any is_past (taken ++ more)) (list_any (is_full s (taken ++ more)) stages || nat_lt s.meta (sum_by metadata_of (taken ++ more)))
    (any_front is_past taken more)
    (or_first (list_any (is_full s taken) stages) (nat_lt s.meta (sum_by metadata_of taken)) (list_any (is_full s (taken ++ more)) stages)
    (nat_lt s.meta (sum_by metadata_of (taken ++ more))) (any_each (is_full s taken) (is_full s (taken ++ more)) stages (full_more s taken more))
    (more_above s.meta (sum_by metadata_of taken) (sum_by metadata_of (taken ++ more)) (metadata_more taken more))) h
