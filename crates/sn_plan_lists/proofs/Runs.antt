-- The plans of an agenda are the runs through its tasks.
use Rattle.std.proofs.Common.{◌≡◌, ℕ, ◌+◌, List, [], ◌∷◌, ◌++◌, map, false, refl, ap, sym, ◌∙◌, subst, arith, inl, inr, append_assoc, append-nil}
use Rattle.std.specs.Prelude.{fold}
use Rattle.std.specs.List.{range_with_len, sum_by}
use Rattle.std.proofs.lemmas.List.Sums.{fold_push}
use Rattle.sn_tree_space.specs.declared.follow.Follow.{Follow}
use Rattle.sn_tree_space.specs.declared.follow.Follow.TheVariants.{Complete, Choices}
use Rattle.sn_tree_space.specs.Space.{IsOneOf, with_choice, choices_in, children, GoesOnTo, itself, through, IsPlan}
use Rattle.sn_tree_space.specs.Readers.{read, MayFollow}
use Rattle.sn_tree_space.specs.Agendas.{Tasks, after_choice, first_choices, agenda_reader, agenda_space}
use Rattle.sn_tree_space.proofs.Reading.{choice_of, child_follows, of_range}
use Rattle.sn_tree_space.proofs.Agendas.{in_range}

-- ---- choices that may follow

may_be_child : (q : List ℕ) (x : ℕ) (f : Follow) → MayFollow f x → IsOneOf (with_choice q x) (map (with_choice q) (choices_in f))
may_be_child q x Complete m = absurd m
may_be_child q x (Choices first count) m = mapped (range_with_len first count) (in_range x first count m.0 m.1)
  where
    mapped : (xs : List ℕ) → IsOneOf x xs → IsOneOf (with_choice q x) (map (with_choice q) xs)
    mapped [] i = absurd i
    mapped (y ∷ xs) (inl e) = inl (ap (with_choice q) e)
    mapped (y ∷ xs) (inr i) = inr (mapped xs i)

module _ {T U : Type 0} (tasks : Tasks T U) where
  -- choices that do all of these tasks
  abbrev pub Does : List T → List ℕ → Type 0
  Does [] [] = Unit {0}
  Does [] (x ∷ xs) = ⊥
  Does (t ∷ ts) [] = ⊥
  Does (t ∷ ts) (x ∷ xs) = MayFollow (tasks.choices t) x × Does (tasks.leaves t x ++ ts) xs

  -- what they cost
  abbrev pub spent_by : List T → List ℕ → ℕ
  spent_by [] xs = 0
  spent_by (t ∷ ts) [] = 0
  spent_by (t ∷ ts) (x ∷ xs) = tasks.cost t x + spent_by (tasks.leaves t x ++ ts) xs

  -- what they take up
  abbrev pub taken_by : List T → List ℕ → List U
  taken_by [] xs = []
  taken_by (t ∷ ts) [] = []
  taken_by (t ∷ ts) (x ∷ xs) = tasks.takes t x ++ taken_by (tasks.leaves t x ++ ts) xs

module _ {T U : Type 0} (tasks : Tasks T U) (chooses : (t : T) → tasks.choices t ≡ Complete → ⊥) (first : List T) where
  -- after choices that do all tasks nothing is left
  ran : (left : List T) (spent : ℕ) (taken : List U) (cs : List ℕ) → Does tasks left cs
      → fold (agenda_reader tasks first).step (record { left = left; spent = spent; taken = taken }) cs
      ≡ record { left = []; spent = spent + spent_by tasks left cs; taken = taken ++ taken_by tasks left cs }
  ran [] spent taken [] d =
      let zero_more : spent ≡ spent + 0 = omega arith in
      ap (λ (n : ℕ). record { left = []; spent = n; taken = taken }) zero_more ∙ ap (λ us. record { left = []; spent = spent + 0; taken = us }) (sym (append-nil taken))
  ran [] spent taken (x ∷ xs) d = absurd d
  ran (t ∷ ts) spent taken [] d = absurd d
  ran (t ∷ ts) spent taken (x ∷ xs) d =
      let more : spent + tasks.cost t x + spent_by tasks (tasks.leaves t x ++ ts) xs ≡ spent + (tasks.cost t x + spent_by tasks (tasks.leaves t x ++ ts) xs) = omega arith in
      ran (tasks.leaves t x ++ ts) (spent + tasks.cost t x) (taken ++ tasks.takes t x) xs d.1
      ∙ ap (λ (n : ℕ). record { left = []; spent = n; taken = (taken ++ tasks.takes t x) ++ taken_by tasks (tasks.leaves t x ++ ts) xs }) more
      ∙ ap (λ us. record { left = []; spent = spent + (tasks.cost t x + spent_by tasks (tasks.leaves t x ++ ts) xs); taken = us })
      (append_assoc taken (tasks.takes t x) (taken_by tasks (tasks.leaves t x ++ ts) xs))

  read_all : (r : List ℕ) → Does tasks first r → read (agenda_reader tasks first) r ≡ record { left = []; spent = 0 + spent_by tasks first r; taken = taken_by tasks first r }
  read_all r d = ran first 0 [] r d

  -- a list that goes on to a complete one goes on by choices that do what is left
  does : (q r : List ℕ) → GoesOnTo (agenda_space tasks first) q r → (agenda_space tasks first).follow r ≡ Complete
      → (left : List T) → (read (agenda_reader tasks first) q).left ≡ left → (cs : List ℕ) × (r ≡ q ++ cs) × Does tasks left cs
  does _ _ (itself q) e [] l = ([], sym (append-nil q), tt)
  does _ _ (itself q) e (t ∷ ts) l = absurd (chooses t (sym (ap (first_choices tasks) l) ∙ e))
  does _ _ (through q child r i g) e [] l = absurd (subst (λ f. IsOneOf child (map (with_choice q) (choices_in f))) (ap (first_choices tasks) l) i)
  does _ _ (through q child r i g) e (t ∷ ts) l =
      let x = child_follows (tasks.choices t) q child (subst (λ f. IsOneOf child (map (with_choice q) (choices_in f))) (ap (first_choices tasks) l) i) in
      let reads : (read (agenda_reader tasks first) child).left ≡ tasks.leaves t x.0 ++ ts =
      ap (λ c. (read (agenda_reader tasks first) c).left) x.1 ∙ ap (λ a. a.left) (fold_push (agenda_reader tasks first).step (agenda_reader tasks first).start q x.0)
      ∙ ap (λ m. (after_choice tasks (read (agenda_reader tasks first) q) m x.0).left) l in
      let rest = does child r g e (tasks.leaves t x.0 ++ ts) reads in
      (x.0 ∷ rest.0, rest.1 ∙ ap (λ c. c ++ rest.0) x.1 ∙ append_assoc q (x.0 ∷ []) rest.0, (x.2, rest.2))

  -- choices that do what is left lead on
  leads : (q cs : List ℕ) (left : List T) → (read (agenda_reader tasks first) q).left ≡ left → Does tasks left cs → GoesOnTo (agenda_space tasks first) q (q ++ cs)
  leads q [] left l d = subst (GoesOnTo (agenda_space tasks first) q) (sym (append-nil q)) (itself q)
  leads q (x ∷ xs) [] l d = absurd d
  leads q (x ∷ xs) (t ∷ ts) l d =
      let reads : (read (agenda_reader tasks first) (with_choice q x)).left ≡ tasks.leaves t x ++ ts =
      ap (λ a. a.left) (fold_push (agenda_reader tasks first).step (agenda_reader tasks first).start q x)
      ∙ ap (λ m. (after_choice tasks (read (agenda_reader tasks first) q) m x).left) l in
      let here : IsOneOf (with_choice q x) (children (agenda_space tasks first) q) =
      subst (λ f. IsOneOf (with_choice q x) (map (with_choice q) (choices_in f))) (sym (ap (first_choices tasks) l)) (may_be_child q x (tasks.choices t) d.0) in
      through q (with_choice q x) (q ++ x ∷ xs) here
      (subst (GoesOnTo (agenda_space tasks first) (with_choice q x)) (append_assoc q (x ∷ []) xs) (leads (with_choice q x) xs (tasks.leaves t x ++ ts) reads d.1))

  -- a plan does all tasks, and what it takes up isn't too much
  pub plan_runs : (r : List ℕ) → IsPlan (agenda_space tasks first) r → Does tasks first r × (tasks.too_much (taken_by tasks first r) ≡ false)
  plan_runs r p =
      let d = does [] r p.partial p.complete first refl in
      let all : Does tasks first r = subst (Does tasks first) (sym d.1) d.2 in
      (all, sym (ap (λ a. tasks.too_much a.taken) (read_all r all)) ∙ p.unbroken)

  pub run_is_plan : (r : List ℕ) → Does tasks first r → tasks.too_much (taken_by tasks first r) ≡ false → IsPlan (agenda_space tasks first) r
  run_is_plan r d u = record {
    partial = leads [] r first refl d;
    complete = ap (λ a. first_choices tasks a.left) (read_all r d);
    unbroken = ap (λ a. tasks.too_much a.taken) (read_all r d) ∙ u;
  }

  pub run_costs : (r : List ℕ) → Does tasks first r → (agenda_space tasks first).lower r ≡ spent_by tasks first r
  run_costs r d = ap (λ a. a.spent + sum_by tasks.least a.left) (read_all r d) ∙ omega arith
