-- The lower bound of a partial plan fits 64 bits.
use Rattle.std.proofs.Common.{◌≡◌, ℕ, zero, suc, ◌+◌, ◌*◌, ◌/◌, ◌%◌, ◌^◌, ◌≤◌, List, [], ◌∷◌, ◌++◌, map, length, Bool, true, false, refl, ap, arith, length-append}
use Rattle.std.specs.Prelude.{◌==◌, if◌then◌else◌}
use Rattle.std.specs.List.{AllByRecursion, sum_by}
use Rattle.std.proofs.lemmas.List.Sums.{sum_by-cons, sum_by-append}
use Rattle.sn_switch.specs.declared.switch.Switch.{Switch}
use Rattle.sn_types.specs.declared.typed_query.TypedQuery.{TypedQuery}
use Rattle.sn_types.specs.declared.typed_query.TypedBranch.{TypedBranch}
use Rattle.sn_plan_fit.specs.Capped.{capped}
use Rattle.sn_tree_space.specs.Space.{IsPartial}
use Rattle.sn_tree_space.specs.Readers.{MayFollow}
use Rattle.sn_tree_space.specs.Agendas.{Agenda, agenda_reader, agenda_space, after_choice, first_choices}
use Rattle.sn_plan_choices.specs.Options.{paths}
use Rattle.sn_plan_choices.specs.Within.{least_below}
use Rattle.sn_plan_choices.specs.Planning.{Task, for_path, for_piece, for_stage, StageTask, PieceTask, Taken, level_pieces, path_pieces, pieces_of, slots_of, next_stage, settings, entry_of, least_entry, least_of, leaves_of, cost_of, planning, first_tasks}
use Rattle.sn_plan_space.specs.Readable.{AreReadable}
use Rattle.sn_plan_space.specs.Reading.{after_choices}
use Rattle.sn_plan_space.proofs.Following.{partial_follows, kept_along}
use Rattle.sn_base.proofs.Lists.{all_append}

abbrev weight : Task → ℕ
weight (for_path t) = 8 * 2 ^ 56
weight (for_piece t) = 2 ^ 56
weight (for_stage t) = 0

abbrev IsSmallTask : Task → Type 0
IsSmallTask (for_path t) = (length t.typed.levels ≤ 4) × (length t.typed.branches ≤ 2)
IsSmallTask (for_piece t) = Unit {0}
IsSmallTask (for_stage t) = Unit {0}

record IsBounded (a : Agenda Task Taken) : Type 0 where
  small : AllByRecursion IsSmallTask a.left
  room : a.spent + sum_by weight a.left ≤ 64 * 2 ^ 56

-- ---- how many pieces a path has

level_long : (query levels n : ℕ) (is_first : Bool) (bs : List TypedBranch) → length (level_pieces query levels is_first n bs) ≡ length bs
level_long query levels n is_first [] = refl
level_long query levels n is_first (b ∷ bs) = ap suc (level_long query levels (n + 1) is_first bs)

path_long : (query : ℕ) (bs : List TypedBranch) (m i before : ℕ) (ls : List ℕ) → length bs ≤ 2 → length (path_pieces query bs m i before ls) ≤ 2 * length ls
path_long query bs m i before [] h = omega arith
path_long query bs m i before (l ∷ []) h = let e = level_long query (before + 2 ^ i) 0 (before == 0) bs in omega arith
path_long query bs m i before (l ∷ k ∷ ls) h =
    of_test (m % 2 == 1) (level_pieces query (before + 2 ^ i) (before == 0) 0 bs ++ path_pieces query bs (m / 2) (i + 1) (before + 2 ^ i) (k ∷ ls)) (path_pieces query bs (m / 2) (i + 1) before (k ∷ ls))
    (let e = level_long query (before + 2 ^ i) 0 (before == 0) bs in
    let f = length-append (level_pieces query (before + 2 ^ i) (before == 0) 0 bs) (path_pieces query bs (m / 2) (i + 1) (before + 2 ^ i) (k ∷ ls)) in
    let g = path_long query bs (m / 2) (i + 1) (before + 2 ^ i) (k ∷ ls) h in omega arith)
    (let g = path_long query bs (m / 2) (i + 1) before (k ∷ ls) h in omega arith)
  where
    of_test : (b : Bool) (xs ys : List PieceTask) → length xs ≤ 2 * length (l ∷ k ∷ ls) → length ys ≤ 2 * length (l ∷ k ∷ ls) → length (if b then xs else ys) ≤ 2 * length (l ∷ k ∷ ls)
    of_test true xs ys a b = a
    of_test false xs ys a b = b

pieces_weigh : (ts : List PieceTask) → sum_by weight (map for_piece ts) ≡ length ts * 2 ^ 56
pieces_weigh [] = omega arith
pieces_weigh (t ∷ ts) = let one = sum_by-cons weight (for_piece t) (map for_piece ts) in let rest = pieces_weigh ts in omega arith

stages_weigh : (ts : List StageTask) → sum_by weight (map for_stage ts) ≡ 0
stages_weigh [] = refl
stages_weigh (t ∷ ts) = let one = sum_by-cons weight (for_stage t) (map for_stage ts) in let rest = stages_weigh ts in omega arith

pieces_small : (ts : List PieceTask) → AllByRecursion IsSmallTask (map for_piece ts)
pieces_small [] = tt
pieces_small (t ∷ ts) = (tt, pieces_small ts)

stages_small : (ts : List StageTask) → AllByRecursion IsSmallTask (map for_stage ts)
stages_small [] = tt
stages_small (t ∷ ts) = (tt, stages_small ts)

least_most : (f : ℕ → ℕ) (k n : ℕ) → ((x : ℕ) → f x ≤ k) → least_below f n ≤ k
least_most f k zero h = omega arith
least_most f k (suc zero) h = h 0
least_most f k (suc (suc n)) h = let a = h (suc n) in omega arith

sum_most : (f : PieceTask → ℕ) (ts : List PieceTask) → ((t : PieceTask) → f t ≤ 2 ^ 56) → sum_by f ts ≤ length ts * 2 ^ 56
sum_most f [] h = omega arith
sum_most f (t ∷ ts) h = let one = sum_by-cons f t ts in let a = h t in let rest = sum_most f ts h in omega arith

module _ (s : Switch) (entry : ℕ → ℕ → ℕ → ℕ → ℕ) (E : (q prefix b x : ℕ) → entry q prefix b x ≤ 2 ^ 56) where
  entry_most : (t : PieceTask) → least_entry s entry t ≤ 2 ^ 56
  entry_most t = least_most (entry_of s entry t) (2 ^ 56) (settings s entry t) (λ x. E t.query t.levels t.number x)

  least_weighs : (t : Task) → IsSmallTask t → least_of s entry t ≤ weight t
  least_weighs (for_path t) h =
      least_most (λ m. sum_by (least_entry s entry) (pieces_of t m)) (8 * 2 ^ 56) (paths t.typed.levels)
      (λ m. let a = sum_most (least_entry s entry) (pieces_of t m) entry_most in let b = path_long t.query t.typed.branches m 0 0 t.typed.levels h.1 in let c = h.0 in omega arith)
  least_weighs (for_piece t) h = entry_most t
  least_weighs (for_stage t) h = omega arith

  choice_weighs : (t : Task) (x : ℕ) → IsSmallTask t → cost_of s entry t x + sum_by weight (leaves_of s entry t x) ≤ weight t
  choice_weighs (for_path t) x h =
      let a = pieces_weigh (pieces_of t x) in let b = path_long t.query t.typed.branches x 0 0 t.typed.levels h.1 in let c = h.0 in omega arith
  choice_weighs (for_piece t) x h = let a = stages_weigh (next_stage 0 (slots_of s entry t x)) in let b = E t.query t.levels t.number x in omega arith
  choice_weighs (for_stage t) x h = let a = stages_weigh (next_stage (x + 1) t.following) in omega arith

  leaves_small : (t : Task) (x : ℕ) → AllByRecursion IsSmallTask (leaves_of s entry t x)
  leaves_small (for_path t) x = pieces_small (pieces_of t x)
  leaves_small (for_piece t) x = stages_small (next_stage 0 (slots_of s entry t x))
  leaves_small (for_stage t) x = stages_small (next_stage (x + 1) t.following)

  keeps_at : (a : Agenda Task Taken) (left : List Task) (x : ℕ) → AllByRecursion IsSmallTask left → a.spent + sum_by weight left ≤ 64 * 2 ^ 56
      → MayFollow (first_choices (planning s entry) left) x → IsBounded (after_choice (planning s entry) a left x)
  keeps_at a [] x small room m = absurd m
  keeps_at a (t ∷ ts) x small room m = record {
    small = all_append IsSmallTask (leaves_of s entry t x) ts (leaves_small t x) small.1;
    room = let one = sum_by-cons weight t ts in let two = sum_by-append weight (leaves_of s entry t x) ts in let less = choice_weighs t x small.0 in omega arith;
  }

  lows_weigh : (ts : List Task) → AllByRecursion IsSmallTask ts → sum_by (least_of s entry) ts ≤ sum_by weight ts
  lows_weigh [] small = omega arith
  lows_weigh (t ∷ ts) small =
      let one = sum_by-cons (least_of s entry) t ts in let two = sum_by-cons weight t ts in let here = least_weighs t small.0 in let rest = lows_weigh ts small.1 in omega arith

  first_small : (n : ℕ) (queries : List TypedQuery) → AreReadable queries → AllByRecursion IsSmallTask (first_tasks n queries)
  first_small n [] r = tt
  first_small n (q ∷ qs) r = let here = r 0 (omega arith) in ((here.levels, here.branches), first_small (n + 1) qs (λ k h. r (suc k) (omega arith)))

  first_weigh : (n : ℕ) (queries : List TypedQuery) → sum_by weight (first_tasks n queries) ≡ length queries * (8 * 2 ^ 56)
  first_weigh n [] = omega arith
  first_weigh n (q ∷ qs) = let one = sum_by-cons weight (for_path (record { query = n; typed = q })) (first_tasks (n + 1) qs) in let rest = first_weigh (n + 1) qs in omega arith

  pub lower_fits : (queries : List TypedQuery) (partial : List ℕ) → AreReadable queries → length queries ≤ 8 → IsPartial (agenda_space (planning s entry) (first_tasks 0 queries)) partial
      → capped ((after_choices s entry queries partial).spent + sum_by (least_of s entry) (after_choices s entry queries partial).left)
      ≡ (after_choices s entry queries partial).spent + sum_by (least_of s entry) (after_choices s entry queries partial).left
  lower_fits queries partial r few part =
      let reader = agenda_reader (planning s entry) (first_tasks 0 queries) in
      let begin : IsBounded reader.start = record { small = first_small 0 queries r; room = (let e = first_weigh 0 queries in omega arith) } in
      let end : IsBounded (after_choices s entry queries partial) =
      kept_along reader (sum_by (planning s entry).most (first_tasks 0 queries)) IsBounded (λ a x h m. keeps_at a a.left x h.small h.room m) reader.start partial begin
      (partial_follows reader (sum_by (planning s entry).most (first_tasks 0 queries)) partial part) in
      let low = lows_weigh (after_choices s entry queries partial).left end.small in
      let room = end.room in omega arith
