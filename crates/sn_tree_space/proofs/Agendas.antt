-- The laws of a space, from those of its tasks.
use Rattle.std.proofs.Common.{◌≡◌, ℕ, zero, suc, ◌+◌, ◌≤◌, ◌<◌, List, [], ◌∷◌, ◌++◌, map, true, false, refl, ap, sym, ◌∙◌, subst, arith, inl, inr}
use Rattle.std.specs.List.{AllByRecursion, range_with_len, sum_by}
use Rattle.std.proofs.Math.Nat.{eq-or-lt_of_le}
use Rattle.std.proofs.lemmas.List.Sums.{sum_by-cons, sum_by-append, fold_push}
use Rattle.sn_tree_space.specs.declared.follow.Follow.{Follow}
use Rattle.sn_tree_space.specs.declared.follow.Follow.TheVariants.{Complete, Choices}
use Rattle.sn_tree_space.specs.Space.{SpaceLaws, IsOneOf, with_choice, choices_in, children, GoesOnTo, itself, through, IsPlan}
use Rattle.sn_tree_space.specs.Readers.{read, MayFollow, ReaderLaws}
use Rattle.sn_tree_space.specs.Agendas.{Tasks, Agenda, after_choice, first_choices, agenda_reader, agenda_space, TaskLaws, EasyLaws}
use Rattle.sn_tree_space.proofs.Reading.{space_laws}

module _ {T U : Type 0} (tasks : Tasks T U) (L : TaskLaws tasks) (first : List T) where
  -- the choices made and those still to make are at most this many
  abbrev Within : Agenda T U → ℕ → Type 0
  Within a n = n + sum_by tasks.most a.left ≤ sum_by tasks.most first

  keeps : (a : Agenda T U) (left : List T) (n x : ℕ) → n + sum_by tasks.most left ≤ sum_by tasks.most first → MayFollow (first_choices tasks left) x
      → n + 1 + sum_by tasks.most (after_choice tasks a left x).left ≤ sum_by tasks.most first
  keeps a [] n x h m = absurd m
  keeps a (t ∷ ts) n x h m =
      let one = sum_by-cons tasks.most t ts in
      let two = sum_by-append tasks.most (tasks.leaves t x) ts in
      let less = L.fewer t x m in omega arith

  ends : (left : List T) (n : ℕ) → n + sum_by tasks.most left ≤ sum_by tasks.most first → sum_by tasks.most first ≤ n → first_choices tasks left ≡ Complete
  ends [] n h e = refl
  ends (t ∷ ts) n h e = let one = sum_by-cons tasks.most t ts in let some = L.some t in absurd (omega arith)

  rises : (a : Agenda T U) (left : List T) (x : ℕ) → MayFollow (first_choices tasks left) x
      → a.spent + sum_by tasks.least left ≤ (after_choice tasks a left x).spent + sum_by tasks.least (after_choice tasks a left x).left
  rises a [] x m = absurd m
  rises a (t ∷ ts) x m =
      let one = sum_by-cons tasks.least t ts in
      let two = sum_by-append tasks.least (tasks.leaves t x) ts in
      let more = L.dearer t x m in omega arith

  stays_bad : (a : Agenda T U) (left : List T) (x : ℕ) → tasks.too_much a.taken ≡ true → tasks.too_much (after_choice tasks a left x).taken ≡ true
  stays_bad a [] x b = b
  stays_bad a (t ∷ ts) x b = L.grows a.taken (tasks.takes t x) b

  reader_laws : ReaderLaws (agenda_reader tasks first) (sum_by tasks.most first) Within
  reader_laws = record {
    begins = omega arith;
    keeps = λ a n x h m. keeps a a.left n x h m;
    ends = λ a n h e. ends a.left n h e;
    rises = λ a n x h m. rises a a.left x m;
    stays_bad = λ a n x h m b. stays_bad a a.left x b;
  }

  pub agenda_laws : (plan : List ℕ) → IsPlan (agenda_space tasks first) plan → SpaceLaws (agenda_space tasks first)
  agenda_laws plan is = space_laws (agenda_reader tasks first) (sum_by tasks.most first) Within reader_laws plan is

-- ---- a plan of first choices

pub in_range : (x first count : ℕ) → first ≤ x → x < first + count → IsOneOf x (range_with_len first count)
in_range x first zero a b = absurd (omega arith)
in_range x first (suc count) a b = elim (eq-or-lt_of_le a) [ inl e ↦ inl (sym e) | inr less ↦ inr (in_range x (first + 1) count (omega arith) (omega arith)) ]

may_be_child : (q : List ℕ) (x : ℕ) (f : Follow) → MayFollow f x → IsOneOf (with_choice q x) (map (with_choice q) (choices_in f))
may_be_child q x Complete m = absurd m
may_be_child q x (Choices first count) m = mapped (range_with_len first count) (in_range x first count m.0 m.1)
  where
    mapped : (xs : List ℕ) → IsOneOf x xs → IsOneOf (with_choice q x) (map (with_choice q) xs)
    mapped [] i = absurd i
    mapped (y ∷ xs) (inl e) = inl (ap (with_choice q) e)
    mapped (y ∷ xs) (inr i) = inr (mapped xs i)

all_of_two : {A : Type 0} (P : A → Type 0) (xs ys : List A) → AllByRecursion P xs → AllByRecursion P ys → AllByRecursion P (xs ++ ys)
all_of_two P [] ys a b = b
all_of_two P (x ∷ xs) ys a b = (a.0, all_of_two P xs ys a.1 b)

module _ {T U : Type 0} (tasks : Tasks T U) (L : TaskLaws tasks) (Easy : T → Type 0) (Harmless : List U → Type 0) (E : EasyLaws tasks Easy Harmless) (first : List T) where
  easy_from : (n : ℕ) (q : List ℕ) (a : Agenda T U) (left : List T) → read (agenda_reader tasks first) q ≡ a → a.left ≡ left → sum_by tasks.most left ≤ n → AllByRecursion Easy left
      → Harmless a.taken → (p : List ℕ) × GoesOnTo (agenda_space tasks first) q p × ((agenda_space tasks first).follow p ≡ Complete) × ((agenda_space tasks first).broken p ≡ false)
  easy_from n q a [] e l h easy fine =
      (q, itself q, ap (λ b. first_choices tasks b.left) e ∙ ap (first_choices tasks) l, ap (λ b. tasks.too_much b.taken) e ∙ E.fine a.taken fine)
  easy_from zero q a (t ∷ ts) e l h easy fine = let one = sum_by-cons tasks.most t ts in let some = L.some t in absurd (omega arith)
  easy_from (suc n) q a (t ∷ ts) e l h easy fine =
      let may = E.may t easy.0 in
      let one = sum_by-cons tasks.most t ts in
      let two = sum_by-append tasks.most (tasks.leaves t 0) ts in
      let less = L.fewer t 0 may in
      let reads : read (agenda_reader tasks first) (with_choice q 0) ≡ after_choice tasks a (t ∷ ts) 0 =
      fold_push (agenda_reader tasks first).step (agenda_reader tasks first).start q 0 ∙ ap (λ b. after_choice tasks b b.left 0) e ∙ ap (λ m. after_choice tasks a m 0) l in
      let rest =
      easy_from n (with_choice q 0) (after_choice tasks a (t ∷ ts) 0) (tasks.leaves t 0 ++ ts) reads refl (omega arith) (all_of_two Easy (tasks.leaves t 0) ts (E.leaves t easy.0) easy.1)
      (E.takes t a.taken easy.0 fine) in
      let here : IsOneOf (with_choice q 0) (children (agenda_space tasks first) q) =
      subst (λ f. IsOneOf (with_choice q 0) (map (with_choice q) (choices_in f))) (sym (ap (λ b. first_choices tasks b.left) e ∙ ap (first_choices tasks) l)) (may_be_child q 0 (tasks.choices t) may) in
      (rest.0, through q (with_choice q 0) rest.0 here rest.1, rest.2, rest.3)

  pub easy_plan : AllByRecursion Easy first → (p : List ℕ) × IsPlan (agenda_space tasks first) p
  easy_plan easy =
      let done = easy_from (sum_by tasks.most first) [] (agenda_reader tasks first).start first refl refl (omega arith) easy E.nothing in
      (done.0, record { partial = done.1; complete = done.2; unbroken = done.3 })

  pub easy_laws : AllByRecursion Easy first → SpaceLaws (agenda_space tasks first)
  easy_laws easy = let plan = easy_plan easy in agenda_laws tasks L first plan.0 plan.1
