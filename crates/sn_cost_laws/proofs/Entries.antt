-- Where two tables agree on the pieces that choices lead to, the spaces of plans by them are alike.
use Rattle.std.proofs.Common.{◌≡◌, ℕ, zero, suc, ◌+◌, ◌<◌, List, [], ◌∷◌, ◌++◌, map, min, refl, ap, sym, ◌∙◌, arith}
use Rattle.std.specs.Prelude.{fold}
use Rattle.std.specs.List.{AllByRecursion, sum_by}
use Rattle.std.proofs.lemmas.List.Sums.{sum_by-cons}
use Rattle.sn_tree.specs.Alike.{AreAlike}
use Rattle.sn_base.proofs.Lists.{all_append, all_map}
use Rattle.sn_switch.specs.declared.switch.Switch.{Switch}
use Rattle.sn_tree_space.specs.Space.{IsPartial}
use Rattle.sn_tree_space.specs.Readers.{MayFollow, Reader, read}
use Rattle.sn_tree_space.specs.Agendas.{Agenda, after_choice, agenda_reader, agenda_space, first_choices}
use Rattle.sn_plan_choices.specs.Options.{paths}
use Rattle.sn_plan_choices.specs.Within.{least_below}
use Rattle.sn_plan_choices.specs.Planning.{PathTask, PieceTask, StageTask, Taken, Task, choices_of, cost_of, entry_of, for_path, for_piece, for_stage, least_entry, least_of, leaves_of, pieces_of, planning, settings, takes_of}
use Rattle.sn_plan_space.specs.Reading.{Follows}
use Rattle.sn_plan_space.proofs.Following.{partial_follows}

-- ---- least numbers and sums

least_same : (f g : ℕ → ℕ) (n : ℕ) → ((x : ℕ) → x < n → f x ≡ g x) → least_below f n ≡ least_below g n
least_same f g zero h = refl
least_same f g (suc zero) h = h 0 (omega arith)
least_same f g (suc (suc n)) h =
    let one = h (suc n) (omega arith) in
    let rest = least_same f g (suc n) (λ x lt. h x (omega (arith, lt))) in
    ap (λ (m : ℕ). min m (least_below f (suc n))) one ∙ ap (λ (m : ℕ). min (g (suc n)) m) rest

sums_same : {X : Type 0} (P : X → Type 0) (f g : X → ℕ) → ((x : X) → P x → f x ≡ g x) → (xs : List X) → AllByRecursion P xs → sum_by f xs ≡ sum_by g xs
sums_same P f g h [] all = refl
sums_same P f g h (x ∷ xs) all =
    sum_by-cons f x xs ∙ ap (λ (n : ℕ). n + sum_by f xs) (h x all.0) ∙ ap (λ (n : ℕ). g x + n) (sums_same P f g h xs all.1) ∙ sym (sum_by-cons g x xs)

below_count : (x n : ℕ) → x < 0 + n → x < n
below_count x n h = omega (arith, h)

-- ---- tasks on which two tables agree

module _ (s : Switch) (e f : ℕ → ℕ → ℕ → ℕ → ℕ) where
  abbrev pub SamePiece : PieceTask → Type 0
  SamePiece t = (x : ℕ) → x < settings s e t → entry_of s e t x ≡ entry_of s f t x

  abbrev pub SamePath : PathTask → Type 0
  SamePath t = (m : ℕ) → m < paths t.typed.levels → AllByRecursion SamePiece (pieces_of t m)

  abbrev pub Same : Task → Type 0
  Same (for_path t) = SamePath t
  Same (for_piece t) = SamePiece t
  Same (for_stage t) = Unit {0}

  stages_same : (ts : List StageTask) → AllByRecursion Same (map for_stage ts)
  stages_same [] = tt
  stages_same (t ∷ ts) = (tt, stages_same ts)

  leaves_same : (t : Task) (x : ℕ) → Same t → MayFollow (choices_of s e t) x → AllByRecursion Same (leaves_of s e t x)
  leaves_same (for_path t) x h m = all_map Same for_piece (pieces_of t x) (h x (below_count x (paths t.typed.levels) m.1))
  leaves_same (for_piece t) x h m = stages_same _
  leaves_same (for_stage t) x h m = stages_same _

  cost_same : (t : Task) (x : ℕ) → Same t → MayFollow (choices_of s e t) x → cost_of s e t x ≡ cost_of s f t x
  cost_same (for_path t) x h m = refl
  cost_same (for_piece t) x h m = h x (below_count x (settings s e t) m.1)
  cost_same (for_stage t) x h m = refl

  entry_same : (t : PieceTask) → SamePiece t → least_entry s e t ≡ least_entry s f t
  entry_same t h = least_same (entry_of s e t) (entry_of s f t) (settings s e t) h

  bound_same : (t : Task) → Same t → least_of s e t ≡ least_of s f t
  bound_same (for_path t) h =
      least_same (λ m. sum_by (least_entry s e) (pieces_of t m)) (λ m. sum_by (least_entry s f) (pieces_of t m)) (paths t.typed.levels)
      (λ m lt. sums_same SamePiece (least_entry s e) (least_entry s f) entry_same (pieces_of t m) (h m lt))
  bound_same (for_piece t) h = entry_same t h
  bound_same (for_stage t) h = refl

  -- ---- agendas

  module _ (first : List Task) where
    abbrev one : Reader (Agenda Task Taken)
    one = agenda_reader (planning s e) first

    abbrev other : Reader (Agenda Task Taken)
    other = agenda_reader (planning s f) first

    step_same : (a : Agenda Task Taken) (left : List Task) (x : ℕ) → AllByRecursion Same left → MayFollow (first_choices (planning s e) left) x
        → after_choice (planning s e) a left x ≡ after_choice (planning s f) a left x
    step_same a [] x all m = absurd m
    step_same a (t ∷ ts) x all m =
        ap (λ (n : ℕ). let next : Agenda Task Taken = record { left = leaves_of s e t x ++ ts; spent = a.spent + n; taken = a.taken ++ takes_of s e t x } in next) (cost_same t x all.0 m)

    step_kept : (a : Agenda Task Taken) (left : List Task) (x : ℕ) → AllByRecursion Same left → MayFollow (first_choices (planning s e) left) x
        → AllByRecursion Same (after_choice (planning s e) a left x).left
    step_kept a [] x all m = absurd m
    step_kept a (t ∷ ts) x all m = all_append Same (leaves_of s e t x) ts (leaves_same t x all.0 m) all.1

    reads_same : (a : Agenda Task Taken) (xs : List ℕ) → AllByRecursion Same a.left → Follows one a xs → (fold one.step a xs ≡ fold other.step a xs) × AllByRecursion Same (fold one.step a xs).left
    reads_same a [] all follows = (refl, all)
    reads_same a (x ∷ xs) all follows =
        let here = step_same a a.left x all follows.0 in
        let rest = reads_same (one.step a x) xs (step_kept a a.left x all follows.0) follows.1 in
        (rest.0 ∙ ap (λ (b : Agenda Task Taken). fold other.step b xs) here, rest.1)

    at_list : (q : List ℕ) → AllByRecursion Same first → IsPartial (agenda_space (planning s e) first) q → (read one q ≡ read other q) × AllByRecursion Same (read one q).left
    at_list q all part = reads_same one.start q all (partial_follows one (agenda_space (planning s e) first).depth q part)

    pub tables_alike : AllByRecursion Same first → AreAlike (agenda_space (planning s e) first) (agenda_space (planning s f) first)
    tables_alike all = record {
      depth = refl;
      follow = λ q part. ap (λ (a : Agenda Task Taken). first_choices (planning s e) a.left) (at_list q all part).0;
      broken = λ q part. ap (λ (a : Agenda Task Taken). (planning s e).too_much a.taken) (at_list q all part).0;
      lower = λ q part.
          let at = at_list q all part in
          ap (λ (n : ℕ). (read one q).spent + n) (sums_same Same (least_of s e) (least_of s f) bound_same (read one q).left at.1)
          ∙ ap (λ (a : Agenda Task Taken). a.spent + sum_by (least_of s f) a.left) at.0;
    }
