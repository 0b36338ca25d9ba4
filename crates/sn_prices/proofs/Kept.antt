-- What isn't too much for a switch has at most the price of its limits.
use Rattle.std.proofs.Common.{◌≡◌, ℕ, zero, suc, ◌+◌, ◌*◌, ◌/◌, ◌≤◌, ◌<◌, List, [], ◌∷◌, length, Bool, true, false, ◌||◌, refl, ap, sym, ◌∙◌, arith, inl, inr}
use Rattle.std.specs.Prelude.{nat_lt, ◌==◌, if◌then◌else◌}
use Rattle.std.specs.List.{AllByRecursion, sum_by, list_any, range_with_len}
use Rattle.std.proofs.Math.Nat.{div-mul-le_self, div-zero, mul-le-mul_left}
use Rattle.std.proofs.lemmas.Nat.{le-div}
use Rattle.std.proofs.lemmas.Bool.Decides.{nat_tests}
use Rattle.std.proofs.lemmas.List.Sums.{sum_by-cons, sum_by-le-sum_by}
use Rattle.sn_switch.specs.declared.switch.Switch.{Switch}
use Rattle.sn_types.specs.declared.typed_query.TypedQuery.{TypedQuery}
use Rattle.sn_plan_grammar.specs.declared.plan.Entry.{Entry}
use Rattle.sn_plan_fit.specs.Registers.{Register, count_in, bits_in, standing_in}
use Rattle.sn_plan_fit.specs.Pieces.{all_registers, all_metadata}
use Rattle.sn_plan_fit.specs.Fits.{StageFits, Fits}
use Rattle.sn_tree_space.specs.Space.{IsOneOf}
use Rattle.sn_tree_space.proofs.Agendas.{in_range}
use Rattle.sn_plan_choices.specs.Planning.{Taken, in_register, in_metadata, past_stages, metadata_of, is_past, registers_in, is_full, is_too_much}
use Rattle.sn_prices_grammar.specs.declared.prices.StageLimit.{StageLimit}
use Rattle.sn_prices_grammar.specs.declared.prices.Limit.{Limit}
use Rattle.sn_prices_grammar.specs.declared.prices.Limit.TheVariants.{Stages, Meta}
use Rattle.sn_prices_grammar.specs.declared.prices.Prices.{Prices}
use Rattle.sn_prices.specs.Limits.{times_of, plus_of, weight, capacity, applies, forbidden, limit_price, register_price, meta_price, metadata_price, limit_worth, stage_worth, stages_worth, worth}

-- ---- sums

sums_none : {A : Type 0} (xs : List A) → sum_by (λ x. 0) xs ≡ 0
sums_none [] = refl
sums_none (x ∷ xs) = sum_by-cons (λ y. 0) x xs ∙ (let rest = sums_none xs in omega arith)

sums_same : {A : Type 0} (c : ℕ) (xs : List A) → sum_by (λ x. c) xs ≡ c * length xs
sums_same c [] = omega arith
sums_same c (x ∷ xs) =
    let a = sum_by-cons (λ y. c) x xs in
    let rest = sums_same c xs in
    let e : c * (length xs + 1) ≡ c * length xs + c = grind arith in
    let long : c * length (x ∷ xs) ≡ c * (length xs + 1) = ap (λ n. c * n) (let l : length (x ∷ xs) ≡ length xs + 1 = omega arith in l) in omega arith

sums_plus : {A : Type 0} (f g : A → ℕ) (xs : List A) → sum_by (λ x. f x + g x) xs ≡ sum_by f xs + sum_by g xs
sums_plus f g [] = refl
sums_plus f g (x ∷ xs) =
    let a = sum_by-cons (λ y. f y + g y) x xs in
    let b = sum_by-cons f x xs in
    let c = sum_by-cons g x xs in
    let rest = sums_plus f g xs in omega arith

sums_times : {A : Type 0} (c : ℕ) (f : A → ℕ) (xs : List A) → sum_by (λ x. c * f x) xs ≡ c * sum_by f xs
sums_times c f [] = omega arith
sums_times c f (x ∷ xs) =
    let a = sum_by-cons (λ y. c * f y) x xs in
    let b = sum_by-cons f x xs in
    let rest = sums_times c f xs in
    let e : c * (f x + sum_by f xs) ≡ c * f x + c * sum_by f xs = grind arith in a ∙ (ap (λ n. c * f x + n) rest ∙ sym e ∙ ap (λ n. c * n) (sym b))

div_sum : (a b d : ℕ) → a / d + b / d ≤ (a + b) / d
div_sum a b zero = let x = div-zero a in let y = div-zero b in let z = div-zero (a + b) in omega arith
div_sum a b (suc n) =
    let x = div-mul-le_self a (suc n) in
    let y = div-mul-le_self b (suc n) in
    let e : (a / suc n + b / suc n) * suc n ≡ a / suc n * suc n + b / suc n * suc n = grind arith in
    le-div (a / suc n + b / suc n) (a + b) (suc n) (omega arith) (omega arith)

sums_div : {A : Type 0} (d : ℕ) (f : A → ℕ) (xs : List A) → sum_by (λ x. f x / d) xs ≤ sum_by f xs / d
sums_div d f [] = omega arith
sums_div d f (x ∷ xs) =
    let a = sum_by-cons (λ y. f y / d) x xs in
    let b = ap (λ n. n / d) (sum_by-cons f x xs) in
    let rest = sums_div d f xs in
    let more = div_sum (f x) (sum_by f xs) d in omega arith

div_more : (a b d : ℕ) → a ≤ b → a / d ≤ b / d
div_more a b zero h = let x = div-zero a in let y = div-zero b in omega arith
div_more a b (suc n) h = let x = div-mul-le_self a (suc n) in le-div (a / suc n) b (suc n) (omega arith) (omega arith)

-- ---- one stage

module _ (s : Switch) (stage : ℕ) where
  added : (u v : ℕ) (xs : List Register) → length xs ≤ s.actions → sum_by (λ (r : Register). r.bits) xs ≤ s.bits
      → sum_by (λ (r : Register). u * r.bits + v) xs ≤ u * s.bits + v * s.actions
  added u v xs few small =
      let both = sums_plus (λ (r : Register). u * r.bits) (λ (r : Register). v) xs in
      let bits = sums_times u (λ (r : Register). r.bits) xs in
      let each = sums_same v xs in
      let a = mul-le-mul_left u small in
      let b = mul-le-mul_left v few in omega arith

  weights_kept : (l : StageLimit) (xs : List Register) → length xs ≤ s.actions → sum_by (λ (r : Register). r.bits) xs ≤ s.bits
      → sum_by (λ (r : Register). weight l r.bits) xs ≤ capacity s l
  weights_kept l xs few small =
      let a = sums_div l.divisor (λ (r : Register). times_of l.mix * r.bits + plus_of l.mix) xs in
      let whole : sum_by (λ (r : Register). times_of l.mix * r.bits + plus_of l.mix) xs ≤ times_of l.mix * s.bits + plus_of l.mix * s.actions =
      added (times_of l.mix) (plus_of l.mix) xs few small in
      let b = div_more (sum_by (λ (r : Register). times_of l.mix * r.bits + plus_of l.mix) xs) (times_of l.mix * s.bits + plus_of l.mix * s.actions) l.divisor whole in omega arith

  limit_kept : (l : Limit) (xs : List Register) → length xs ≤ s.actions → sum_by (λ (r : Register). r.bits) xs ≤ s.bits
      → sum_by (λ (r : Register). limit_price stage r.bits l) xs ≤ limit_worth s stage l
  limit_kept (Meta l) xs few small = let e = sums_none xs in omega arith
  limit_kept (Stages l) xs few small = by_test (applies l stage)
    where
      by_test : (b : Bool) → sum_by (λ (r : Register). if b then l.price * weight l r.bits else 0) xs ≤ (if b then l.price * capacity s l else 0)
      by_test true =
          let e = sums_times l.price (λ (r : Register). weight l r.bits) xs in
          let k = mul-le-mul_left l.price (weights_kept l xs few small) in omega arith
      by_test false = let e = sums_none xs in omega arith

  limits_kept : (ls : List Limit) (xs : List Register) → length xs ≤ s.actions → sum_by (λ (r : Register). r.bits) xs ≤ s.bits
      → sum_by (λ (r : Register). sum_by (limit_price stage r.bits) ls) xs ≤ sum_by (limit_worth s stage) ls
  limits_kept [] xs few small = let e = sums_none xs in omega arith
  limits_kept (l ∷ ls) xs few small =
      let split = sum_by-le-sum_by (λ (r : Register). sum_by (limit_price stage r.bits) (l ∷ ls))
      (λ (r : Register). limit_price stage r.bits l + sum_by (limit_price stage r.bits) ls) xs
      (λ r. let e = sum_by-cons (limit_price stage r.bits) l ls in omega arith) in
      let both = sums_plus (λ (r : Register). limit_price stage r.bits l) (λ (r : Register). sum_by (limit_price stage r.bits) ls) xs in
      let one = limit_kept l xs few small in
      let rest = limits_kept ls xs few small in
      let all = sum_by-cons (limit_worth s stage) l ls in omega arith

-- ---- registers of a stage

module _ (s : Switch) (p : Prices) where
  -- the price of a register in a stage of the switch
  abbrev inner : Register → ℕ
  inner r = if nat_lt s.bits r.bits then forbidden else sum_by (limit_price r.stage r.bits) p.limits

  not_over : (a b : ℕ) → b ≤ a → nat_lt a b ≡ false
  not_over a b h = grind (arith, nat_tests)

  one_price : (stage : ℕ) (r : Register) → r.stage ≡ stage → r.bits ≤ s.bits → inner r ≡ sum_by (limit_price stage r.bits) p.limits
  one_price stage r e h =
      ap (λ t. if t then forbidden else sum_by (limit_price r.stage r.bits) p.limits) (not_over s.bits r.bits h)
      ∙ ap (λ k. sum_by (limit_price k r.bits) p.limits) e

  prices_there : (stage : ℕ) (xs : List Register) → AllByRecursion (λ (r : Register). r.stage ≡ stage) xs → sum_by (λ (r : Register). r.bits) xs ≤ s.bits
      → sum_by inner xs ≤ sum_by (λ (r : Register). sum_by (limit_price stage r.bits) p.limits) xs
  prices_there stage [] all small = omega arith
  prices_there stage (r ∷ xs) all small =
      let a = sum_by-cons inner r xs in
      let b = sum_by-cons (λ (q : Register). sum_by (limit_price stage q.bits) p.limits) r xs in
      let c = sum_by-cons (λ (q : Register). q.bits) r xs in
      let here = one_price stage r all.0 (omega arith) in
      let rest = prices_there stage xs all.1 (omega arith) in omega arith

  same_stage : (a b : ℕ) → (a == b) ≡ true → a ≡ b
  same_stage a b h = grind (arith, nat_tests)

  all_there : (stage : ℕ) (rs : List Register) → AllByRecursion (λ (r : Register). r.stage ≡ stage) (standing_in stage rs)
  all_there stage [] = tt
  all_there stage (r ∷ rs) = by_test (r.stage == stage) refl (all_there stage rs)
    where
      by_test : (b : Bool) → (r.stage == stage) ≡ b → AllByRecursion (λ (q : Register). q.stage ≡ stage) (standing_in stage rs)
          → AllByRecursion (λ (q : Register). q.stage ≡ stage) (if b then r ∷ standing_in stage rs else standing_in stage rs)
      by_test true e rest = (same_stage r.stage stage e, rest)
      by_test false e rest = rest

  stage_kept : (stage : ℕ) (rs : List Register) → StageFits s rs stage → sum_by inner (standing_in stage rs) ≤ stage_worth s p stage
  stage_kept stage rs fits =
      let count = fits.actions in
      let bits = fits.bits in
      let a = prices_there stage (standing_in stage rs) (all_there stage rs) bits in
      let b = limits_kept s stage p.limits (standing_in stage rs) count bits in omega arith

  -- ---- stages one after another

  -- the price of a register in a stage below this one
  abbrev below : ℕ → Register → ℕ
  below n r = if nat_lt r.stage n then inner r else 0

  at_most : (b : Bool) (n : ℕ) → (if b then n else 0) ≤ n
  at_most true n = omega arith
  at_most false n = omega arith

  above : (a n : ℕ) → nat_lt a n ≡ true → nat_lt a (suc n) ≡ true
  above a n e = grind (arith, nat_tests)

  not_above : (a n : ℕ) → nat_lt a n ≡ false → (a == n) ≡ false → nat_lt a (suc n) ≡ false
  not_above a n e h = grind (arith, nat_tests)

  other_stage : (a n : ℕ) → (a == n) ≡ false → nat_lt a (suc n) ≡ nat_lt a n
  other_stage a n h = sym (by_test (nat_lt a n) refl)
    where
      by_test : (b : Bool) → nat_lt a n ≡ b → b ≡ nat_lt a (suc n)
      by_test true e = sym (above a n e)
      by_test false e = sym (not_above a n e h)

  more_stages : (n : ℕ) (rs : List Register) → sum_by (below (suc n)) rs ≤ sum_by (below n) rs + sum_by inner (standing_in n rs)
  more_stages n [] = omega arith
  more_stages n (r ∷ rs) =
      let a = sum_by-cons (below (suc n)) r rs in
      let b = sum_by-cons (below n) r rs in
      let rest = more_stages n rs in
      let one = by_test (r.stage == n) refl in omega arith
    where
      by_test : (b : Bool) → (r.stage == n) ≡ b
          → below (suc n) r + sum_by inner (standing_in n rs) ≤ below n r + sum_by inner (if b then r ∷ standing_in n rs else standing_in n rs)
      by_test true e =
          let a = sum_by-cons inner r (standing_in n rs) in
          let k = at_most (nat_lt r.stage (suc n)) (inner r) in omega arith
      by_test false e = let k = ap (λ t. if t then inner r else 0) (other_stage r.stage n e) in omega arith

  no_stage : (rs : List Register) → sum_by (below 0) rs ≤ 0
  no_stage [] = omega arith
  no_stage (r ∷ rs) =
      let a = sum_by-cons (below 0) r rs in
      let none = ap (λ t. if t then inner r else 0) (not_over r.stage 0 (omega arith)) in
      let rest = no_stage rs in omega arith

  stages_kept : (n : ℕ) (rs : List Register) → ((stage : ℕ) → stage < n → StageFits s rs stage) → sum_by (below n) rs ≤ stages_worth s p n
  stages_kept zero rs fits = no_stage rs
  stages_kept (suc n) rs fits =
      let a = more_stages n rs in
      let b = stages_kept n rs (λ stage h. fits stage (omega arith)) in
      let c = stage_kept n rs (fits n (omega arith)) in omega arith

  pub registers_kept : (rs : List Register) → ((stage : ℕ) → stage < s.stages → StageFits s rs stage) → sum_by (register_price s p) rs ≤ stages_worth s p s.stages
  registers_kept rs fits = stages_kept s.stages rs fits

  -- ---- metadata

  meta_more : (a b : ℕ) (l : Limit) → a ≤ b → meta_price a l ≤ meta_price b l
  meta_more a b (Stages l) h = omega arith
  meta_more a b (Meta l) h = mul-le-mul_left l.price (div_more a b l.divisor h)

  metadata_more : (a b : ℕ) → a ≤ b → metadata_price p a ≤ metadata_price p b
  metadata_more a b h = sum_by-le-sum_by (meta_price a) (meta_price b) p.limits (λ l. meta_more a b l h)

  meta_sum : (a b : ℕ) (l : Limit) → meta_price a l + meta_price b l ≤ meta_price (a + b) l
  meta_sum a b (Stages l) = omega arith
  meta_sum a b (Meta l) =
      let k = mul-le-mul_left l.price (div_sum a b l.divisor) in
      let e : l.price * (a / l.divisor + b / l.divisor) ≡ l.price * (a / l.divisor) + l.price * (b / l.divisor) = grind arith in omega arith

  metadata_sum : (a b : ℕ) → metadata_price p a + metadata_price p b ≤ metadata_price p (a + b)
  metadata_sum a b =
      let both = sums_plus (meta_price a) (meta_price b) p.limits in
      let k = sum_by-le-sum_by (λ (l : Limit). meta_price a l + meta_price b l) (meta_price (a + b)) p.limits (λ l. meta_sum a b l) in omega arith

  -- ---- what a plan takes up

  pub fits_kept : (queries : List TypedQuery) (entries : List Entry) → Fits queries s entries
      → sum_by (register_price s p) (all_registers s.chain queries entries) + metadata_price p (all_metadata queries entries) ≤ worth s p
  fits_kept queries entries fits =
      let a = registers_kept (all_registers s.chain queries entries) fits.loads in
      let b = metadata_more (all_metadata queries entries) s.meta fits.meta in omega arith

  -- what is taken up, at its price
  abbrev pub price_of : Taken → ℕ
  price_of (in_register stage bits) = register_price s p (record { stage = stage; bits = bits })
  price_of (in_metadata bits) = metadata_price p bits
  price_of past_stages = forbidden

  taken_price : (taken : List Taken) → list_any is_past taken ≡ false
      → sum_by price_of taken ≤ sum_by (register_price s p) (registers_in taken) + metadata_price p (sum_by metadata_of taken)
  taken_price [] none = omega arith
  taken_price (in_register stage bits ∷ taken) none =
      let a = sum_by-cons price_of (in_register stage bits) taken in
      let b = sum_by-cons (register_price s p) (record { stage = stage; bits = bits }) (registers_in taken) in
      let c = ap (metadata_price p) (sum_by-cons metadata_of (in_register stage bits) taken ∙ (let z : 0 + sum_by metadata_of taken ≡ sum_by metadata_of taken = omega arith in z)) in
      let rest = taken_price taken none in omega arith
  taken_price (in_metadata n ∷ taken) none =
      let a = sum_by-cons price_of (in_metadata n) taken in
      let c = ap (metadata_price p) (sum_by-cons metadata_of (in_metadata n) taken) in
      let more = metadata_sum n (sum_by metadata_of taken) in
      let rest = taken_price taken none in omega arith
  taken_price (past_stages ∷ taken) none = cc

  or_false : (a b : Bool) → (a || b) ≡ false → (a ≡ false) × (b ≡ false)
  or_false true b h = cc
  or_false false b h = (refl, h)

  none_of : {A : Type 0} (f : A → Bool) (xs : List A) (x : A) → list_any f xs ≡ false → IsOneOf x xs → f x ≡ false
  none_of f [] x h i = absurd i
  none_of f (y ∷ xs) x h (inl e) = ap f e ∙ (or_false (f y) (list_any f xs) h).0
  none_of f (y ∷ xs) x h (inr i) = none_of f xs x (or_false (f y) (list_any f xs) h).1 i

  within : (a b : ℕ) → nat_lt a b ≡ false → b ≤ a
  within a b h = grind (arith, nat_tests)

  pub taken_kept : (taken : List Taken) → is_too_much s taken ≡ false → sum_by price_of taken ≤ worth s p
  taken_kept taken h =
      let one = or_false (list_any is_past taken) (list_any (is_full s taken) (range_with_len 0 s.stages) || nat_lt s.meta (sum_by metadata_of taken)) h in
      let two = or_false (list_any (is_full s taken) (range_with_len 0 s.stages)) (nat_lt s.meta (sum_by metadata_of taken)) one.1 in
      let a = taken_price taken one.0 in
      let b = registers_kept (registers_in taken) (λ stage below.
      let full = none_of (is_full s taken) (range_with_len 0 s.stages) stage two.0 (in_range stage 0 s.stages (omega arith) (omega arith)) in
      let both = or_false (nat_lt s.actions (count_in stage (registers_in taken))) (nat_lt s.bits (bits_in stage (registers_in taken))) full in
      record { actions = within s.actions (count_in stage (registers_in taken)) both.0; bits = within s.bits (bits_in stage (registers_in taken)) both.1 }) in
      let c = metadata_more (sum_by metadata_of taken) s.meta (within s.meta (sum_by metadata_of taken) two.1) in omega arith
