-- The tasks of a path are those of its pieces.
use Rattle.std.proofs.Common.{◌≡◌, ℕ, suc, ◌+◌, ◌*◌, ◌^◌, ◌<◌, ◌≤◌, List, [], ◌∷◌, ◌++◌, map, Bool, true, false, ◌&&◌, refl, ap, sym, ◌∙◌, arith, append-nil, pow_pos}
use Rattle.std.proofs.lemmas.List.{map-append}
use Rattle.std.specs.Prelude.{◌/◌, ◌%◌, ◌==◌, nat_le, if◌then◌else◌}
use Rattle.std.specs.List.{AllByRecursion}
use Rattle.std.proofs.Math.Nat.{pow-suc}
use Rattle.std.proofs.lemmas.Bool.Decides.{nat_tests}
use Rattle.sn_types.specs.declared.typed_query.TypedQuery.{TypedQuery}
use Rattle.sn_types.specs.declared.typed_query.TypedBranch.{TypedBranch}
use Rattle.sn_plan_fit.specs.Paths.{is_among, Place, at_place}
use Rattle.sn_base.specs.Rising.{IsRising}
use Rattle.sn_plan_fit.specs.Tables.{is_first}
use Rattle.sn_plan_choices.specs.Options.{path_of}
use Rattle.sn_plan_choices.specs.Planning.{PieceTask, level_pieces, path_pieces}
use Rattle.sn_plan_lists.specs.Chosen.{Seat, level_seats, path_seats}
use Rattle.sn_plan_lists.specs.Costs.{bits_of, is_upto, front_of}
use Rattle.sn_plan_lists.proofs.PathNumbers.{path_all, not_among, among_head, among_rest}
use Rattle.sn_base.proofs.Lists.{all_append}
use Rattle.sn_base.proofs.Tests.{at_most, and_never}

-- ---- lists

map_same : {A B : Type 0} (P : A → Type 0) (f g : A → B) → ((x : A) → P x → f x ≡ g x) → (xs : List A) → AllByRecursion P xs → map f xs ≡ map g xs
map_same P f g e [] h = refl
map_same P f g e (x ∷ xs) h = ap (λ y. y ∷ map f xs) (e x h.0) ∙ ap (λ l. g x ∷ l) (map_same P f g e xs h.1)

all_true : {A : Type 0} (xs : List A) → AllByRecursion (λ x. Unit {0}) xs
all_true [] = tt
all_true (x ∷ xs) = (tt, all_true xs)

-- ---- the places of a path

abbrev pub seat_place : Seat → Place
seat_place seat = at_place seat.level seat.number

level_at : (P : ℕ → Type 0) (level n : ℕ) (bs : List TypedBranch) → P level → AllByRecursion (λ seat. P seat.level) (level_seats level n bs)
level_at P level n [] h = tt
level_at P level n (b ∷ bs) h = (h, level_at P level (n + 1) bs h)

-- the pieces of a path stand at its levels
seats_at : (P : ℕ → Type 0) (bs : List TypedBranch) (path : List ℕ) → AllByRecursion P path → AllByRecursion (λ seat. P seat.level) (path_seats bs path)
seats_at P bs [] h = tt
seats_at P bs (l ∷ path) h = all_append (λ seat. P seat.level) (level_seats l 0 bs) (path_seats bs path) (level_at P l 0 bs h.0) (seats_at P bs path h.1)

-- ---- fronts

bits_same : (f g : ℕ → Bool) (ls : List ℕ) → AllByRecursion (λ l. f l ≡ g l) ls → bits_of f ls ≡ bits_of g ls
bits_same f g [] h = refl
bits_same f g (l ∷ ls) h = ap (λ b. (if b then 1 else 0) + 2 * bits_of f ls) h.0 ∙ ap (λ (n : ℕ). (if g l then 1 else 0) + 2 * n) (bits_same f g ls h.1)

upto_first : (l level : ℕ) (path : List ℕ) → l ≤ level → is_upto (l ∷ path) level l ≡ true
upto_first l level path h = ap (λ b. b && nat_le l level) (among_head l path) ∙ at_most l level h

above_level : (l x : ℕ) → l < x → nat_le x l ≡ false
above_level l x h = grind (arith, nat_tests)

-- of levels above the first one none is up to it
none_upto : (l : ℕ) (path ls : List ℕ) → AllByRecursion (λ k. l < k) ls → bits_of (is_upto path l) ls ≡ 0
none_upto l path [] h = refl
none_upto l path (k ∷ ls) h =
    ap (λ b. (if is_among path k && b then 1 else 0) + 2 * bits_of (is_upto path l) ls) (above_level l k h.0)
    ∙ ap (λ b. (if b then 1 else 0) + 2 * bits_of (is_upto path l) ls) (and_never (is_among path k))
    ∙ ap (λ (n : ℕ). 0 + 2 * n) (none_upto l path ls h.1)

upto_rest : (l level : ℕ) (path ls : List ℕ) → AllByRecursion (λ k. l < k) ls → bits_of (is_upto (l ∷ path) level) ls ≡ bits_of (is_upto path level) ls
upto_rest l level path ls h = bits_same (is_upto (l ∷ path) level) (is_upto path level) ls (each ls h)
  where
    each : (ls : List ℕ) → AllByRecursion (λ k. l < k) ls → AllByRecursion (λ k. is_upto (l ∷ path) level k ≡ is_upto path level k) ls
    each [] h = tt
    each (k ∷ ls) h = (ap (λ b. b && nat_le k level) (among_rest l k path h.0), each ls h.1)

pub next_power : (i : ℕ) → 2 ^ (i + 1) ≡ 2 ^ i * 2
next_power i = ap (λ (k : ℕ). 2 ^ k) (let e : i + 1 ≡ suc i = omega arith in e) ∙ pow-suc 2 i

-- ---- the tasks

module _ (n : ℕ) (bs : List TypedBranch) where
  -- The task of a piece on a path through some of these levels, of which the first is level i, where these levels were before.
  abbrev task_from : ℕ → ℕ → List ℕ → List ℕ → Seat → PieceTask
  task_from i before ls path seat =
      record { query = n; levels = before + 2 ^ i * bits_of (is_upto path seat.level) ls; is_first = (before == 0) && is_first seat.level path; number = seat.number; branch = seat.branch }

  level_tasks : (mask level k : ℕ) (first : Bool) (branches : List TypedBranch) (f : Seat → PieceTask)
      → ((number : ℕ) (b : TypedBranch) → f (record { level = level; number = number; branch = b }) ≡ record { query = n; levels = mask; is_first = first; number = number; branch = b })
      → level_pieces n mask first k branches ≡ map f (level_seats level k branches)
  level_tasks mask level k first [] f e = refl
  level_tasks mask level k first (b ∷ branches) f e =
      ap (λ l. record { query = n; levels = mask; is_first = first; number = k; branch = b } ∷ l) (level_tasks mask level (k + 1) first branches f e)
      ∙ ap (λ t. t ∷ map f (level_seats level (k + 1) branches)) (sym (e k b))

  one_bit : (l : ℕ) (path rest : List ℕ) → AllByRecursion (λ k. l < k) rest → bits_of (is_upto (l ∷ path) l) (l ∷ rest) ≡ 1
  one_bit l path rest h =
      ap (λ b. (if b then 1 else 0) + 2 * bits_of (is_upto (l ∷ path) l) rest) (upto_first l l path (omega arith)) ∙ ap (λ (k : ℕ). 1 + 2 * k) (none_upto l (l ∷ path) rest h)

  and_same : (a : Bool) (l : ℕ) → (a && (l == l)) ≡ a
  and_same a l = ap (λ b. a && b) (let e : (l == l) ≡ true = grind (arith, nat_tests) in e) ∙ and_true a
    where
      and_true : (a : Bool) → (a && true) ≡ a
      and_true true = refl
      and_true false = refl

  head_task : (i before l : ℕ) (path rest : List ℕ) → AllByRecursion (λ k. l < k) rest → (number : ℕ) (b : TypedBranch)
      → task_from i before (l ∷ rest) (l ∷ path) (record { level = l; number = number; branch = b }) ≡ record { query = n; levels = before + 2 ^ i; is_first = before == 0; number = number; branch = b }
  head_task i before l path rest h number b =
      let one : before + 2 ^ i * 1 ≡ before + 2 ^ i = omega arith in
      ap (λ (k : ℕ). record { query = n; levels = before + 2 ^ i * k; is_first = (before == 0) && (l == l); number = number; branch = b }) (one_bit l path rest h)
      ∙ ap (λ (k : ℕ). record { query = n; levels = k; is_first = (before == 0) && (l == l); number = number; branch = b }) one
      ∙ ap (λ f. record { query = n; levels = before + 2 ^ i; is_first = f; number = number; branch = b }) (and_same (before == 0) l)

  bits_with : (before a c : ℕ) → before + a + a * 2 * c ≡ before + a * (1 + 2 * c)
  bits_with before a c = grind arith

  bits_without : (before a c : ℕ) → before + a * 2 * c ≡ before + a * (0 + 2 * c)
  bits_without before a c = grind arith

  not_first : (before level l : ℕ) (f : Bool) → 0 < before → l < level → ((before == 0) && f) ≡ false
  not_first before level l f h k = ap (λ b. b && f) (let e : (before == 0) ≡ false = grind (arith, nat_tests) in e)

  other_level : (a : Bool) (level l : ℕ) → l < level → (a && (level == l)) ≡ false
  other_level a level l h = ap (λ b. a && b) (let e : (level == l) ≡ false = grind (arith, nat_tests) in e) ∙ and_never a

  -- a piece after the first level of a path
  after_task : (i before l : ℕ) (path rest : List ℕ) → AllByRecursion (λ k. l < k) rest → (seat : Seat) → l < seat.level
      → task_from (i + 1) (before + 2 ^ i) rest path seat ≡ task_from i before (l ∷ rest) (l ∷ path) seat
  after_task i before l path rest h seat k =
      let power = pow_pos i in
      let levels : before + 2 ^ i + 2 ^ (i + 1) * bits_of (is_upto path seat.level) rest ≡ before + 2 ^ i * bits_of (is_upto (l ∷ path) seat.level) (l ∷ rest) =
      ap (λ (p : ℕ). before + 2 ^ i + p * bits_of (is_upto path seat.level) rest) (next_power i)
      ∙ bits_with before (2 ^ i) (bits_of (is_upto path seat.level) rest)
      ∙ ap (λ (c : ℕ). before + 2 ^ i * (1 + 2 * c)) (sym (upto_rest l seat.level path rest h))
      ∙ ap (λ b. before + 2 ^ i * ((if b then 1 else 0) + 2 * bits_of (is_upto (l ∷ path) seat.level) rest)) (sym (upto_first l seat.level path (omega arith))) in
      ap (λ (c : ℕ). record { query = n; levels = c; is_first = ((before + 2 ^ i) == 0) && is_first seat.level path; number = seat.number; branch = seat.branch }) levels
      ∙ ap (λ f. record { query = n; levels = before + 2 ^ i * bits_of (is_upto (l ∷ path) seat.level) (l ∷ rest); is_first = f; number = seat.number; branch = seat.branch })
      (not_first (before + 2 ^ i) seat.level l (is_first seat.level path) (omega arith) k ∙ sym (other_level (before == 0) seat.level l k))

  -- a piece of a path beside the first level
  beside_task : (i before l : ℕ) (path rest : List ℕ) → AllByRecursion (λ k. l < k) path → (seat : Seat) → task_from (i + 1) before rest path seat ≡ task_from i before (l ∷ rest) path seat
  beside_task i before l path rest h seat =
      ap (λ (c : ℕ). record { query = n; levels = c; is_first = (before == 0) && is_first seat.level path; number = seat.number; branch = seat.branch })
      (ap (λ (p : ℕ). before + p * bits_of (is_upto path seat.level) rest) (next_power i)
      ∙ bits_without before (2 ^ i) (bits_of (is_upto path seat.level) rest)
      ∙ ap (λ b. before + 2 ^ i * ((if b && nat_le l seat.level then 1 else 0) + 2 * bits_of (is_upto path seat.level) rest)) (sym (not_among l path h)))

  path_tasks : (m i before : ℕ) (ls : List ℕ) → IsRising ls → path_pieces n bs m i before ls ≡ map (task_from i before ls (path_of m ls)) (path_seats bs (path_of m ls))
  path_tasks m i before [] h = refl
  path_tasks m i before (l ∷ []) h =
      level_tasks (before + 2 ^ i) l 0 (before == 0) bs (task_from i before (l ∷ []) (l ∷ [])) (head_task i before l [] [] tt)
      ∙ ap (map (task_from i before (l ∷ []) (l ∷ []))) (sym (append-nil (level_seats l 0 bs)))
  path_tasks m i before (l ∷ k ∷ ls) h = by_bit (m % 2 == 1) (path_tasks (m / 2) (i + 1) (before + 2 ^ i) (k ∷ ls) h.1) (path_tasks (m / 2) (i + 1) before (k ∷ ls) h.1)
    where
      by_bit : (b : Bool) → path_pieces n bs (m / 2) (i + 1) (before + 2 ^ i) (k ∷ ls) ≡ map (task_from (i + 1) (before + 2 ^ i) (k ∷ ls) (path_of (m / 2) (k ∷ ls))) (path_seats bs (path_of (m / 2) (k ∷ ls)))
          → path_pieces n bs (m / 2) (i + 1) before (k ∷ ls) ≡ map (task_from (i + 1) before (k ∷ ls) (path_of (m / 2) (k ∷ ls))) (path_seats bs (path_of (m / 2) (k ∷ ls)))
          → (if b then level_pieces n (before + 2 ^ i) (before == 0) 0 bs ++ path_pieces n bs (m / 2) (i + 1) (before + 2 ^ i) (k ∷ ls) else path_pieces n bs (m / 2) (i + 1) before (k ∷ ls))
          ≡ map (task_from i before (l ∷ k ∷ ls) (if b then l ∷ path_of (m / 2) (k ∷ ls) else path_of (m / 2) (k ∷ ls))) (path_seats bs (if b then l ∷ path_of (m / 2) (k ∷ ls) else path_of (m / 2) (k ∷ ls)))
      by_bit true a c =
          let path = path_of (m / 2) (k ∷ ls) in
          let f = task_from i before (l ∷ k ∷ ls) (l ∷ path_of (m / 2) (k ∷ ls)) in
          ap (λ x. x ++ path_pieces n bs (m / 2) (i + 1) (before + 2 ^ i) (k ∷ ls)) (level_tasks (before + 2 ^ i) l 0 (before == 0) bs f (head_task i before l path (k ∷ ls) h.0))
          ∙ ap (λ x. map f (level_seats l 0 bs) ++ x)
          (a ∙ map_same (λ seat. l < seat.level) (task_from (i + 1) (before + 2 ^ i) (k ∷ ls) path) f (after_task i before l path (k ∷ ls) h.0) (path_seats bs path)
          (seats_at (λ x. l < x) bs path (path_all (λ x. l < x) (m / 2) (k ∷ ls) h.0)))
          ∙ sym (map-append f (level_seats l 0 bs) (path_seats bs path))
      by_bit false a c =
          let path = path_of (m / 2) (k ∷ ls) in
          c ∙ map_same (λ seat. Unit {0}) (task_from (i + 1) before (k ∷ ls) path) (task_from i before (l ∷ k ∷ ls) path)
          (λ seat u. beside_task i before l path (k ∷ ls) (path_all (λ x. l < x) (m / 2) (k ∷ ls) h.0) seat) (path_seats bs path) (all_true (path_seats bs path))

-- ---- a query

-- the task of a piece of query n on a path
abbrev pub task_at : ℕ → TypedQuery → List ℕ → Seat → PieceTask
task_at n q path seat = record { query = n; levels = front_of q.levels path seat.level; is_first = is_first seat.level path; number = seat.number; branch = seat.branch }

-- the tasks of path m are those of its pieces
pub query_tasks : (n : ℕ) (q : TypedQuery) (m : ℕ) → IsRising q.levels → path_pieces n q.branches m 0 0 q.levels ≡ map (task_at n q (path_of m q.levels)) (path_seats q.branches (path_of m q.levels))
query_tasks n q m h =
    path_tasks n q.branches m 0 0 q.levels h
    ∙ map_same (λ seat. Unit {0}) (task_from n q.branches 0 0 q.levels (path_of m q.levels)) (task_at n q (path_of m q.levels))
    (λ seat u. ap (λ (c : ℕ). record { query = n; levels = c; is_first = is_first seat.level (path_of m q.levels); number = seat.number; branch = seat.branch })
    (let e : 0 + 2 ^ 0 * bits_of (is_upto (path_of m q.levels) seat.level) q.levels ≡ bits_of (is_upto (path_of m q.levels) seat.level) q.levels = omega arith in e))
    (path_seats q.branches (path_of m q.levels)) (all_true (path_seats q.branches (path_of m q.levels)))
