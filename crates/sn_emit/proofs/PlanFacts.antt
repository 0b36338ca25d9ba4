-- A plan that fits has for each piece what its lane needs.
use Rattle.std.proofs.Common.{◌≡◌, ℕ, zero, suc, ◌+◌, ◌-◌, ◌*◌, ◌<◌, ◌≤◌, List, [], ◌∷◌, map, filter, length, Bool, true, false, cond, not, ◌||◌, ◌==◌, nat_eq, nat_lt, is_some, Option, Some, None, IfSome, IsSome, get_or, slice_get, slice_index, unwrap_or, refl, ap, sym, subst, ◌∙◌, arith}
use Rattle.std.specs.List.{AllByRecursion, list_any, position_or_len}
use Rattle.std.proofs.Math.Bridge.{le_prop}
use Rattle.std.proofs.Math.Logic.{∥∥₁_elim}
use Rattle.std.proofs.lemmas.Bool.{ltb-true}
use Rattle.std.proofs.lemmas.List.{length-append, length-map}
use Rattle.std.proofs.lemmas.List.Elements.{All-from_recursion}
use Rattle.sn_base.proofs.Lists.{all_append, all_filter, all_map, all_weaker, by_test, nat_same, nat_self, or_right, all_two, all_unmap, all_at}
use Rattle.sn_fields.specs.declared.field.Field.{Field}
use Rattle.sn_query_grammar.specs.declared.ast.Refine.{Refine}
use Rattle.sn_query_grammar.specs.Limits.{RefineLimits}
use Rattle.sn_switch.specs.declared.switch.Switch.{Switch}
use Rattle.sn_switch.specs.Texts.{IsSwitch}
use Rattle.sn_plan_grammar.specs.declared.plan.Entry.{Entry}
use Rattle.sn_plan_grammar.specs.declared.plan.Piece.{Piece}
use Rattle.sn_plan_fit.specs.Fits.{AreEntriesOf, IsEntryOf, OnBranch, PieceFits, PiecesFit}
use Rattle.sn_plan_fit.specs.Paths.{Place, is_among, level_places, piece_place, place_in, places}
use Rattle.sn_base.specs.Rising.{IsRising}
use Rattle.sn_plan_fit.specs.Pieces.{piece_branch, prefix_of}
use Rattle.sn_pipe.specs.Pipes.{IsCoarser}
use Rattle.sn_types.specs.Cuts.{stateful}
use Rattle.sn_types.specs.declared.typed_query.TypedBranch.{TypedBranch}
use Rattle.sn_types.specs.declared.typed_query.TypedQuery.{TypedQuery}
use Rattle.sn_types.specs.Typed.{IsTyped, blank_branch, query_at}
use Rattle.sn_types.specs.Typing.{levels_of}
use Rattle.sn_types.proofs.Facts.{few_branches, few_queries}
use Rattle.sn_types.proofs.RefinedLemmas.{refined_alike}
use Rattle.sn_types.proofs.Sources.{source_of}
use Rattle.sn_emit.specs.Making.{CanMake}
use Rattle.sn_emit.specs.Plans.{Placed, pieces_from, placed}
use Rattle.sn_plan_fit.proofs.Bounds.{level_length, places_length}
use Rattle.sn_plan_fit.proofs.LevelPlaces.{place_within}

-- ---- levels of a query

by_refine : (refine : Option Refine) → IfSome refine RefineLimits → length (levels_of refine) ≤ cond (is_some refine) 4 1
by_refine None h = omega arith
by_refine (Some r) h = h.count.to_most

-- a query has at most four levels, and one where it isn't refined
levels_few : (window : ℕ) (queries : List TypedQuery) (q : ℕ) → ∥ IsTyped window queries ∥₁ → q < length queries → length (query_at queries q).levels ≤ cond (is_some (query_at queries q).field) 4 1
levels_few window queries q t lt =
    ∥∥₁_elim t le_prop (λ t.
    let s = source_of window queries q t lt in
    subst (λ (x : TypedQuery). length x.levels ≤ cond (is_some x.field) 4 1) (sym s.is)
    (subst (λ b. length (levels_of s.query.refine) ≤ cond b 4 1) (sym (refined_alike s.query s.no_fault).0) (by_refine s.query.refine s.limits.refine)))

-- ---- a rising list within another is no longer than it

without : ℕ → List ℕ → List ℕ
without m ls = filter (λ l. not (nat_eq l m)) ls

all_other : (m : ℕ) (ls : List ℕ) → AllByRecursion (λ q. m < q) ls → length ls ≤ length (without m ls)
unfolding without
all_other m [] h = omega arith
all_other m (l ∷ ls) h =
    by_test (nat_eq l m)
    (λ is. let same = nat_same l m is in let above = h.0 in absurd (omega (arith, same, above)))
    (λ isnt. subst (λ b. suc (length ls) ≤ length (cond (not b) (l ∷ without m ls) (without m ls))) (sym isnt) (let rest = all_other m ls h.1 in omega (arith, rest)))

most_once : (m : ℕ) (ls : List ℕ) → IsRising ls → length ls ≤ suc (length (without m ls))
unfolding without
most_once m [] h = omega arith
most_once m (l ∷ ls) h =
    by_test (nat_eq l m)
    (λ is. subst (λ b. suc (length ls) ≤ suc (length (cond (not b) (l ∷ without m ls) (without m ls)))) (sym is)
    (let rest = all_other m ls (subst (λ n. AllByRecursion (λ q. n < q) ls) (nat_same l m is) h.0) in omega (arith, rest)))
    (λ isnt. subst (λ b. suc (length ls) ≤ suc (length (cond (not b) (l ∷ without m ls) (without m ls)))) (sym isnt) (let rest = most_once m ls h.1 in omega (arith, rest)))

rising_without : (m : ℕ) (ls : List ℕ) → IsRising ls → IsRising (without m ls)
unfolding without
rising_without m [] h = tt
rising_without m (l ∷ ls) h = by_keep (not (nat_eq l m)) (rising_without m ls h.1)
  where
    by_keep : (b : Bool) → IsRising (without m ls) → IsRising (cond b (l ∷ without m ls) (without m ls))
    by_keep true rest = (all_filter (λ q. l < q) (λ x. not (nat_eq x m)) ls h.0, rest)
    by_keep false rest = rest

known_without : (m : ℕ) (ms ls : List ℕ) → AllByRecursion (λ l. is_among (m ∷ ms) l ≡ true) ls → AllByRecursion (λ l. is_among ms l ≡ true) (without m ls)
unfolding without
known_without m ms [] h = tt
known_without m ms (l ∷ ls) h = by_same (nat_eq l m) refl (known_without m ms ls h.1)
  where
    by_same : (b : Bool) → nat_eq l m ≡ b → AllByRecursion (λ x. is_among ms x ≡ true) (without m ls) → AllByRecursion (λ x. is_among ms x ≡ true) (cond (not b) (l ∷ without m ls) (without m ls))
    by_same true e rest = rest
    by_same false e rest = (sym (ap (λ b. b || list_any (nat_eq l) ms) e) ∙ h.0, rest)

path_few : (levels path : List ℕ) → IsRising path → AllByRecursion (λ l. is_among levels l ≡ true) path → length path ≤ length levels
path_few [] [] h k = omega arith
path_few [] (l ∷ path) h k = let no : false ≡ true = k.0 in cc
path_few (m ∷ levels) path h k =
    let rest = path_few levels (without m path) (rising_without m path h) (known_without m levels path k) in
    let once = most_once m path h in
    omega (arith, rest, once)

-- ---- what holds of all holds of each

all_among : (P : ℕ → Type 0) (ls : List ℕ) (l : ℕ) → AllByRecursion P ls → is_among ls l ≡ true → P l
all_among P [] l h e = cc
all_among P (m ∷ ls) l h e =
    by_test (nat_eq l m)
    (λ is. subst P (sym (nat_same l m is)) h.0)
    (λ isnt. all_among P ls l h.1 (sym (ap (λ b. b || list_any (nat_eq l) ls) isnt) ∙ e))

pub self_known : (path : List ℕ) → AllByRecursion (λ l. is_among path l ≡ true) path
self_known [] = tt
self_known (l ∷ path) = (
  ap (λ b. b || list_any (nat_eq l) path) (nat_self l),
  all_weaker (λ m. is_among path m ≡ true) (λ m. is_among (l ∷ path) m ≡ true) (λ m e. or_right (nat_eq m l) (is_among path m) e) path (self_known path),
)

some_level : (path : List ℕ) (l : ℕ) → is_among path l ≡ true → 1 ≤ length path
some_level [] l e = cc
some_level (m ∷ path) l e = omega arith

-- ---- the level before

some_field : (o : Option Field) (n : ℕ) → 2 ≤ n → n ≤ cond (is_some o) 4 1 → IsSome o
some_field None n two few = absurd (omega (arith, two, few))
some_field (Some f) n two few = refl

coarser_by : (query : TypedQuery) (path : List ℕ) (n : ℕ) (b : Bool) → (n == 0) ≡ b → n < length path → length path ≤ length query.levels → length query.levels ≤ cond (is_some query.field) 4 1
    → AllByRecursion (λ l. is_among query.levels l ≡ true) path → IsCoarser query (cond b None (Some (slice_index path (n - 1))))
coarser_by query path n true e lt within few known = tt
coarser_by query path zero false e lt within few known = let no : true ≡ false = e in cc
coarser_by query path (suc k) false e lt within few known =
    let one : suc k - 1 ≡ k = omega arith in
    let two : 2 ≤ length query.levels = omega (arith, lt, within) in
    let here : k < length path = omega (arith, lt) in (
      some_field query.field (length query.levels) two few,
      subst (λ m. list_any (nat_eq (slice_index path m)) query.levels ≡ true) (sym one) (all_at (λ l. is_among query.levels l ≡ true) path k known here),
    )

coarser_of : (query : TypedQuery) (path : List ℕ) (n : ℕ) → n < length path → length path ≤ length query.levels → length query.levels ≤ cond (is_some query.field) 4 1
    → AllByRecursion (λ l. is_among query.levels l ≡ true) path → IsCoarser query (cond (n == 0) None (Some (slice_index path (n - 1))))
coarser_of query path n = coarser_by query path n (n == 0) refl

-- ---- the places of an entry

record IsPlaced (path : List ℕ) (count : ℕ) (place : Place) : Type 0 where
  level : is_among path place.0 ≡ true
  branch : place.1 < count

level_placed : (path : List ℕ) (level n count : ℕ) (bs : List TypedBranch) → is_among path level ≡ true → n + length bs ≤ count → AllByRecursion (IsPlaced path count) (level_places level n bs)
level_placed path level n count [] e le = tt
level_placed path level n count (b ∷ bs) e le = (record { level = e; branch = omega (arith, le) }, level_placed path level (n + 1) count bs e (omega (arith, le)))

places_placed : (whole : List ℕ) (bs : List TypedBranch) (path : List ℕ) → AllByRecursion (λ l. is_among whole l ≡ true) path → AllByRecursion (IsPlaced whole (length bs)) (places bs path)
places_placed whole bs [] h = tt
places_placed whole bs (level ∷ path) h =
    all_append (IsPlaced whole (length bs)) (level_places level 0 bs) (places bs path) (level_placed whole level 0 (length bs) bs h.0 (omega arith)) (places_placed whole bs path h.1)

on_branch_at : (P : TypedBranch → Type 0) (bs : List TypedBranch) (i : ℕ) → i < length bs → OnBranch P (slice_get bs i) → P (unwrap_or (slice_get bs i) blank_branch)
on_branch_at P [] i lt h = absurd (omega (arith, lt))
on_branch_at P (b ∷ bs) zero lt h = h
on_branch_at P (b ∷ bs) (suc i) lt h = on_branch_at P bs i (omega (arith, lt)) h

four_at_most : (b : Bool) → cond b 4 1 ≤ 4
four_at_most true = omega arith
four_at_most false = omega arith

enough_of : (m n : ℕ) → m ≡ n → n ≤ m
enough_of m n is = omega (arith, is)

-- ---- the pieces of a plan

module _ (window : ℕ) (queries : List TypedQuery) (s : Switch) (t : ∥ IsTyped window queries ∥₁) (w : IsSwitch s) where
  abbrev EntryCan : ℕ → Entry → Type 0
  EntryCan q e = AllByRecursion (λ (p : Piece). CanMake queries (placed q e.levels p)) e.pieces

  piece_can : (q : ℕ) (e : Entry) (p : Piece) → q < length queries → IsEntryOf (query_at queries q) e → IsPlaced e.levels (length (query_at queries q).branches) (piece_place p)
      → OnBranch (λ b. PieceFits s e.levels b p) (piece_branch (query_at queries q) p) → CanMake queries (placed q e.levels p)
  piece_can q e p lt entry at fits =
      let query = query_at queries q in
      let b = unwrap_or (slice_get query.branches p.branch) blank_branch in
      let fit = on_branch_at (λ b. PieceFits s e.levels b p) query.branches p.branch at.branch fits in
      let few = levels_few window queries q t lt in
      let within = path_few query.levels e.levels entry.path.rising entry.path.known in
      let some = some_level e.levels p.level at.level in
      let place = place_within e.levels p.level some in
      let four = four_at_most (is_some query.field) in
      let many = few_queries window queries t in
      let sides = few_branches window queries q t lt in
      let branch = at.branch in
      record {
        query = lt;
        branch = at.branch;
        level = all_among (λ l. is_among query.levels l ≡ true) e.levels p.level entry.path.known at.level;
        before = coarser_of query e.levels (place_in e.levels p.level) place within few entry.path.known;
        cut = fit.cut;
        sizes = All-from_recursion (λ size. (1 ≤ size) × (size ≤ 65536)) p.slots
            (all_weaker (λ n. is_among s.slots n ≡ true) (λ size. (1 ≤ size) × (size ≤ 65536)) (λ n e. all_among (λ size. (1 ≤ size) × (size ≤ 65536)) s.slots n w.slots.range e) p.slots fit.listed);
        enough = enough_of (length p.slots) (stateful (prefix_of b p)) fit.sizes;
        few = omega (arith, lt, many);
        short = omega (arith, place, within, few, four);
        sides = omega (arith, branch, sides);
      }

  entry_can : (q : ℕ) (e : Entry) → q < length queries → IsEntryOf (query_at queries q) e → AllByRecursion (λ p. OnBranch (λ b. PieceFits s e.levels b p) (piece_branch (query_at queries q) p)) e.pieces → EntryCan q e
  entry_can q e lt entry fits =
      let count = length (query_at queries q).branches in
      let at : AllByRecursion (IsPlaced e.levels count) (map piece_place e.pieces) = subst (AllByRecursion (IsPlaced e.levels count)) (sym entry.pieces) (places_placed e.levels (query_at queries q).branches e.levels (self_known e.levels)) in
      all_two (λ (p : Piece). IsPlaced e.levels count (piece_place p)) (λ (p : Piece). OnBranch (λ b. PieceFits s e.levels b p) (piece_branch (query_at queries q) p)) (λ (p : Piece). CanMake queries (placed q e.levels p))
      (λ p at fits. piece_can q e p lt entry at fits) e.pieces (all_unmap (IsPlaced e.levels count) piece_place e.pieces at) fits

  entry_few : (q : ℕ) (e : Entry) → q < length queries → IsEntryOf (query_at queries q) e → length e.pieces ≤ 8
  entry_few q e lt entry =
      let query = query_at queries q in
      let most = places_length query.branches e.levels (few_branches window queries q t lt) in
      let within = path_few query.levels e.levels entry.path.rising entry.path.known in
      let few = levels_few window queries q t lt in
      let four = four_at_most (is_some query.field) in
      let same : length e.pieces ≡ length (places query.branches e.levels) = sym (length-map e.pieces piece_place) ∙ ap length entry.pieces in
      omega (arith, most, within, few, four, same)

  -- an entry by itself
  record EntryIs (q : ℕ) (e : Entry) : Type 0 where
    can : EntryCan q e
    few : length e.pieces ≤ 8

  -- each entry by itself, of those from number n on
  entries_are : (rest : List TypedQuery) (n : ℕ) (es : List Entry) → ((j : ℕ) → query_at queries (n + j) ≡ query_at rest j) → n + length rest ≡ length queries → AreEntriesOf rest es → PiecesFit (PieceFits s) rest es
      → (i : ℕ) (d : Entry) → i < length es → EntryIs (n + i) (get_or es i d)
  entries_are rest n [] same count h fits i d lt = absurd (omega (arith, lt))
  entries_are [] n (e ∷ es) same count h fits i d lt = absurd h
  entries_are (q ∷ rest) n (e ∷ es) same count h fits zero d lt =
      let here : query_at queries (n + 0) ≡ q = same 0 in
      let within : n + 0 < length queries = omega (arith, count) in
      let entry : IsEntryOf (query_at queries (n + 0)) e = subst (λ x. IsEntryOf x e) (sym here) h.0 in
      record {
        can = entry_can (n + 0) e within entry (subst (λ x. AllByRecursion (λ p. OnBranch (λ b. PieceFits s e.levels b p) (piece_branch x p)) e.pieces) (sym here) fits.0);
        few = entry_few (n + 0) e within entry;
      }
  entries_are (q ∷ rest) n (e ∷ es) same count h fits (suc i) d lt =
      let moved : n + 1 + i ≡ n + suc i = omega arith in
      subst (λ m. EntryIs m (get_or es i d)) moved
      (entries_are rest (n + 1) es (λ j. ap (query_at queries) (next j) ∙ same (suc j)) (omega (arith, count)) h.1 fits.1 i d (omega (arith, lt)))
    where
      next : (j : ℕ) → n + 1 + j ≡ n + suc j
      next j = omega arith

  plan_are : (es : List Entry) → AreEntriesOf queries es → PiecesFit (PieceFits s) queries es → (i : ℕ) (d : Entry) → i < length es → EntryIs i (get_or es i d)
  plan_are es h fits i d lt =
      let none : 0 + length queries ≡ length queries = omega arith in
      let at : 0 + i ≡ i = omega arith in
      subst (λ m. EntryIs m (get_or es i d)) at (entries_are queries 0 es (λ j. ap (query_at queries) (start j)) none h fits i d lt)
    where
      start : (j : ℕ) → 0 + j ≡ j
      start j = omega arith

  -- the pieces of each entry can be made
  pub plan_can : (es : List Entry) → AreEntriesOf queries es → PiecesFit (PieceFits s) queries es → (i : ℕ) (e : Entry) → i < length es → e ≡ get_or es i e → AllByRecursion (λ (p : Piece). CanMake queries (placed i e.levels p)) e.pieces
  plan_can es h fits i e lt at = subst (EntryCan i) (sym at) (plan_are es h fits i e lt).can

  -- ---- all pieces

  record PiecesAre (n : ℕ) (es : List Entry) : Type 0 where
    can : AllByRecursion (CanMake queries) (pieces_from n es)
    few : length (pieces_from n es) ≤ 8 * length es

  pieces_are : (n : ℕ) (es : List Entry) → ((i : ℕ) (d : Entry) → i < length es → EntryIs (n + i) (get_or es i d)) → PiecesAre n es
  pieces_are n [] k = record { can = tt; few = omega arith }
  pieces_are n (e ∷ es) k =
      let none : n + 0 ≡ n = omega arith in
      let first : EntryIs n e = subst (λ m. EntryIs m e) none (k 0 e (omega arith)) in
      let rest = pieces_are (suc n) es (λ i d lt. subst (λ m. EntryIs m (get_or es i d)) (moved i) (k (suc i) d (omega (arith, lt)))) in
      let own : List Placed = map (placed n e.levels) e.pieces in
      let whole = length-append own (pieces_from (suc n) es) in
      let mapped = length-map e.pieces (placed n e.levels) in
      let few = first.few in
      let others = rest.few in
      record {
        can = all_append (CanMake queries) own (pieces_from (suc n) es) (all_map (CanMake queries) (placed n e.levels) e.pieces first.can) rest.can;
        few = omega (arith, whole, mapped, few, others);
      }
    where
      moved : (i : ℕ) → n + suc i ≡ suc n + i
      moved i = omega arith

  entries_count : (qs : List TypedQuery) (es : List Entry) → AreEntriesOf qs es → length es ≡ length qs
  entries_count [] [] h = refl
  entries_count [] (e ∷ es) h = absurd h
  entries_count (q ∷ qs) [] h = absurd h
  entries_count (q ∷ qs) (e ∷ es) h = ap suc (entries_count qs es h.1)

  pub all_can : (es : List Entry) → AreEntriesOf queries es → PiecesFit (PieceFits s) queries es → AllByRecursion (CanMake queries) (pieces_from 0 es)
  all_can es h fits = (pieces_are 0 es (λ i d lt. subst (λ m. EntryIs m (get_or es i d)) (start i) (plan_are es h fits i d lt))).can
    where
      start : (i : ℕ) → i ≡ 0 + i
      start i = omega arith

  pub all_few : (es : List Entry) → AreEntriesOf queries es → PiecesFit (PieceFits s) queries es → length (pieces_from 0 es) ≤ 64
  all_few es h fits =
      let few = (pieces_are 0 es (λ i d lt. subst (λ m. EntryIs m (get_or es i d)) (start i) (plan_are es h fits i d lt))).few in
      let count = entries_count queries es h in
      let many = few_queries window queries t in
      omega (arith, few, count, many)
    where
      start : (i : ℕ) → i ≡ 0 + i
      start i = omega arith

  -- there are at most eight entries
  pub few_entries : (es : List Entry) → AreEntriesOf queries es → length es ≤ 8
  few_entries es h = let count = entries_count queries es h in let many = few_queries window queries t in omega (arith, count, many)
