-- Prices on what tasks take up give a lower bound of what plans cost.
use Rattle.std.proofs.Common.{◌≡◌, ℕ, zero, suc, ◌+◌, ◌-◌, ◌*◌, ◌/◌, ◌≤◌, List, [], ◌∷◌, false, refl, ap, sym, ◌∙◌, subst, arith}
use Rattle.std.specs.List.{sum_by}
use Rattle.std.proofs.Math.Nat.{div-zero}
use Rattle.std.proofs.lemmas.Nat.{div_below}
use Rattle.std.proofs.lemmas.List.Sums.{sum_by-cons, sum_by-append, fold_push}
use Rattle.sn_tree_space.specs.declared.follow.Follow.TheVariants.{Complete}
use Rattle.sn_tree_space.specs.Space.{GoesOnTo, itself, through, IsPlan}
use Rattle.sn_tree_space.specs.Readers.{read, MayFollow}
use Rattle.sn_tree_space.specs.Agendas.{Tasks, Agenda, after_choice, first_choices, agenda_reader, agenda_space}
use Rattle.sn_tree_space.proofs.Reading.{child_follows}

-- Prices: what is taken up has a price, in parts of which `scale` are one of cost. Whatever isn't too much has at most the price `paid`. A task has at
-- least this much of cost and prices together, with all that it leaves.
pub record Pricing (T U : Type 0) : Type 0 where
  pub scale : ℕ
  pub price : U → ℕ
  pub paid : ℕ
  pub least : T → ℕ

-- What holds of prices.
pub record PricingLaws {T U : Type 0} (tasks : Tasks T U) (p : Pricing T U) : Type 0 where
  pub dearer : (t : T) (x : ℕ) → MayFollow (tasks.choices t) x
      → p.least t ≤ p.scale * tasks.cost t x + sum_by p.price (tasks.takes t x) + sum_by p.least (tasks.leaves t x)
  pub kept : (taken : List U) → tasks.too_much taken ≡ false → sum_by p.price taken ≤ p.paid
  pub chosen : (t : T) → tasks.choices t ≡ Complete → ⊥

-- ---- numbers

above_zero : (k paid a c : ℕ) → 1 ≤ k → a ≤ k * c + paid → (a - paid + (k - 1)) / k ≤ c
above_zero k paid a c some h =
    let e : (c + 1) * k ≡ k * c + k = grind arith in
    let less = div_below (a - paid + (k - 1)) k (c + 1) (omega arith) (omega arith) in omega arith

pub rounded_below : (k paid a c : ℕ) → a ≤ k * c + paid → (a - paid + (k - 1)) / k ≤ c
rounded_below zero paid a c h = let z = div-zero (a - paid + (zero - 1)) in omega arith
rounded_below (suc k) paid a c h = above_zero (suc k) paid a c (omega arith) h

-- ---- along a plan

module _ {T U : Type 0} (tasks : Tasks T U) (p : Pricing T U) (P : PricingLaws tasks p) (first : List T) where
  -- what was spent and taken up, at its price, and the least of the tasks still to do
  abbrev priced : Agenda T U → ℕ
  priced a = p.scale * a.spent + sum_by p.price a.taken + sum_by p.least a.left

  abbrev after : List ℕ → Agenda T U
  after q = read (agenda_reader tasks first) q

  priced_rises : (a : Agenda T U) (left : List T) (x : ℕ) → MayFollow (first_choices tasks left) x
      → p.scale * a.spent + sum_by p.price a.taken + sum_by p.least left ≤ priced (after_choice tasks a left x)
  priced_rises a [] x m = absurd m
  priced_rises a (t ∷ ts) x m =
      let one = sum_by-cons p.least t ts in
      let two = sum_by-append p.least (tasks.leaves t x) ts in
      let three = sum_by-append p.price a.taken (tasks.takes t x) in
      let spent : p.scale * (a.spent + tasks.cost t x) ≡ p.scale * a.spent + p.scale * tasks.cost t x = grind arith in
      let more = P.dearer t x m in omega arith

  along : (q r : List ℕ) → GoesOnTo (agenda_space tasks first) q r → priced (after q) ≤ priced (after r)
  along _ _ (itself q) = omega arith
  along _ _ (through q child r i g) =
      let x = child_follows (first_choices tasks (after q).left) q child i in
      let e : after child ≡ after_choice tasks (after q) (after q).left x.0 =
      ap (read (agenda_reader tasks first)) x.1 ∙ fold_push (agenda_reader tasks first).step (agenda_reader tasks first).start q x.0 in
      let step : priced (after q) ≤ priced (after child) =
      subst (λ b. priced (after q) ≤ priced b) (sym e) (priced_rises (after q) (after q).left x.0 x.2) in
      let rest : priced (after child) ≤ priced (after r) = along child r g in omega arith

  none_left : (left : List T) → first_choices tasks left ≡ Complete → left ≡ []
  none_left [] e = refl
  none_left (t ∷ ts) e = absurd (P.chosen t e)

  full : (a : Agenda T U) → a.left ≡ [] → tasks.too_much a.taken ≡ false
      → priced a ≤ p.scale * (a.spent + sum_by tasks.least a.left) + p.paid
  full a e fine =
      let kept = P.kept a.taken fine in
      let none = ap (sum_by p.least) e in
      let spent : p.scale * (a.spent + sum_by tasks.least a.left) ≡ p.scale * a.spent + p.scale * sum_by tasks.least a.left = grind arith in omega arith

  -- a plan costs no less than the tasks have at least, without what is paid
  pub plans_pay : (r : List ℕ) → IsPlan (agenda_space tasks first) r
      → sum_by p.least first ≤ p.scale * (agenda_space tasks first).lower r + p.paid
  plans_pay r is =
      let a : priced (after []) ≤ priced (after r) = along [] r is.partial in
      let b = full (after r) (none_left (after r).left is.complete) is.unbroken in
      let none : p.scale * 0 ≡ 0 = grind arith in omega arith
