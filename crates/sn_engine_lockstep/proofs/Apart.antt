-- The lanes of a plan have names of their own.
use Rattle.std.proofs.Common.{◌≡◌, ℕ, zero, suc, ◌+◌, ◌<◌, ◌≤◌, List, [], ◌∷◌, ◌++◌, ◌&&◌, ◌||◌, ◌==◌, map, length, true, false, cond, not, nat_lt, nat_eq, Some, None, unwrap_or, slice_index, refl, ap, sym, ◌∙◌, subst, arith}
use Rattle.std.specs.List.{AllByRecursion, list_any, position_or_len}
use Rattle.std.proofs.lemmas.Bool.{and_parts, ltb-true, ltb-false, lt-ltb}
use Rattle.sn_base.proofs.Lists.{all_append, all_map, all_weaker, by_test, nat_same, nat_self, not_true, or_right, all_two, all_unmap, all_at}
use Rattle.sn_emit.specs.Plans.{Placed, lane_of, pieces_from, placed}
use Rattle.sn_engine.specs.Intakes.{intake_for, is_lane}
use Rattle.sn_plan_fit.specs.Fits.{AreEntriesOf, IsEntryOf}
use Rattle.sn_plan_fit.specs.Paths.{Place, is_among, level_places, piece_place, place_in, places}
use Rattle.sn_base.specs.Rising.{IsRising}
use Rattle.sn_plan_grammar.specs.declared.plan.Entry.{Entry}
use Rattle.sn_plan_grammar.specs.declared.plan.Piece.{Piece}
use Rattle.sn_types.specs.declared.typed_query.TypedBranch.{TypedBranch}
use Rattle.sn_types.specs.declared.typed_query.TypedQuery.{TypedQuery}
use Rattle.sn_engine_lockstep.specs.Work.{AreApart, intake_of, name_of}
use Rattle.sn_emit.proofs.PlanFacts.{self_known}

-- ---- places in a path

pub record At (path : List ℕ) (level n : ℕ) : Type 0 where
  pub within : n < length path
  pub is : slice_index path n ≡ level

at_first : (path : List ℕ) (level : ℕ) → is_among path level ≡ true → At path level (position_or_len (λ (other : ℕ). level == other) path)
at_first [] level e = cc
at_first (l ∷ path) level e =
    let following = position_or_len (λ (other : ℕ). level == other) path in
    by_test (level == l)
    (λ is. subst (λ b. At (l ∷ path) level (cond (not b) (1 + following) 0)) (sym is) (record { within = omega arith; is = sym (nat_same level l is) }))
    (λ isnt. subst (λ b. At (l ∷ path) level (cond (not b) (1 + following) 0)) (sym isnt)
    (let rest = at_first path level (sym (ap (λ b. b || list_any (nat_eq level) path) isnt) ∙ e) in let w = rest.within in
    subst (At (l ∷ path) level) (next following) (record { within = omega (arith, w); is = rest.is })))
  where
    next : (n : ℕ) → suc n ≡ 1 + n
    next n = omega arith

-- a level of a path stands at its place
pub place_is : (path : List ℕ) (level : ℕ) → is_among path level ≡ true → At path level (place_in path level)
place_is path level e =
    let n = position_or_len (λ (other : ℕ). level == other) path in
    let h = at_first path level e in
    subst (At path level) (sym (ap (λ b. unwrap_or (cond b (Some n) None) 0) (lt-ltb n (length path) h.within))) h

pub place_level : (path : List ℕ) (level : ℕ) → is_among path level ≡ true → slice_index path (place_in path level) ≡ level
place_level path level e = (place_is path level e).is

pub rising_index : (path : List ℕ) (a b : ℕ) → IsRising path → a < b → b < length path → slice_index path a < slice_index path b
rising_index [] a b h lt within = absurd (omega (arith, within))
rising_index (l ∷ path) a zero h lt within = absurd (omega (arith, lt))
rising_index (l ∷ path) zero (suc b) h lt within = all_at (λ q. l < q) path b h.0 (omega (arith, within))
rising_index (l ∷ path) (suc a) (suc b) h lt within = rising_index path a b h.1 (omega (arith, lt)) (omega (arith, within))

order : {G : Type 0} (a b : ℕ) → (a < b → G) → (b < a → G) → (a ≡ b → G) → G
order a b less more same =
    by_test (nat_lt a b) (λ is. less (ltb-true a b is))
    (λ isnt. by_test (nat_lt b a) (λ is. more (ltb-true b a is)) (λ nor. same (let p = ltb-false a b isnt in let q = ltb-false b a nor in omega (arith, p, q))))

pub among_index : (path : List ℕ) (n : ℕ) → n < length path → is_among path (slice_index path n) ≡ true
among_index [] n lt = absurd (omega (arith, lt))
among_index (l ∷ path) zero lt = ap (λ b. b || list_any (nat_eq l) path) (nat_self l)
among_index (l ∷ path) (suc n) lt = or_right (nat_eq (slice_index path n) l) (is_among path (slice_index path n)) (among_index path n (omega (arith, lt)))

-- the level at a place of a rising path has this place
pub index_place : (path : List ℕ) (n : ℕ) → IsRising path → n < length path → place_in path (slice_index path n) ≡ n
index_place path n h lt =
    let at = place_is path (slice_index path n) (among_index path n lt) in
    let p = place_in path (slice_index path n) in
    let is = at.is in
    order p n
    (λ less. let below = rising_index path p n h less lt in absurd (omega (arith, is, below)))
    (λ more. let above = rising_index path n p h more at.within in absurd (omega (arith, is, above)))
    (λ same. same)

-- ---- places of pieces

abbrev Differ : Place → Place → Type 0
Differ a b = b.0 ≡ a.0 → b.1 ≡ a.1 → ⊥

abbrev AreDistinct : List Place → Type 0
AreDistinct [] = Unit {0}
AreDistinct (a ∷ others) = AllByRecursion (Differ a) others × AreDistinct others

distinct_append : (xs ys : List Place) → AreDistinct xs → AreDistinct ys → AllByRecursion (λ x. AllByRecursion (Differ x) ys) xs → AreDistinct (xs ++ ys)
distinct_append [] ys h k c = k
distinct_append (x ∷ xs) ys h k c = (all_append (Differ x) xs ys h.0 c.0, distinct_append xs ys h.1 k c.1)

level_above : (level n m : ℕ) (bs : List TypedBranch) → n ≤ m → AllByRecursion (λ (p : Place). n ≤ p.1) (level_places level m bs)
level_above level n m [] le = tt
level_above level n m (b ∷ bs) le = (le, level_above level n (m + 1) bs (omega (arith, le)))

level_distinct : (level n : ℕ) (bs : List TypedBranch) → AreDistinct (level_places level n bs)
level_distinct level n [] = tt
level_distinct level n (b ∷ bs) = (
  all_weaker (λ (p : Place). n + 1 ≤ p.1) (Differ (level, n)) (λ p above e f. absurd (omega (arith, above, f))) (level_places level (n + 1) bs) (level_above level (n + 1) (n + 1) bs (omega arith)),
  level_distinct level (n + 1) bs,
)

pub levels_all : (P : ℕ → Type 0) (level n : ℕ) (bs : List TypedBranch) → P level → AllByRecursion (λ (p : Place). P p.0) (level_places level n bs)
levels_all P level n [] h = tt
levels_all P level n (b ∷ bs) h = (h, levels_all P level (n + 1) bs h)

pub places_all : (P : ℕ → Type 0) (bs : List TypedBranch) (path : List ℕ) → AllByRecursion P path → AllByRecursion (λ (p : Place). P p.0) (places bs path)
places_all P bs [] h = tt
places_all P bs (level ∷ path) h = all_append (λ (p : Place). P p.0) (level_places level 0 bs) (places bs path) (levels_all P level 0 bs h.0) (places_all P bs path h.1)

places_distinct : (bs : List TypedBranch) (path : List ℕ) → IsRising path → AreDistinct (places bs path)
places_distinct bs [] h = tt
places_distinct bs (level ∷ path) h =
    distinct_append (level_places level 0 bs) (places bs path) (level_distinct level 0 bs) (places_distinct bs path h.1)
    (all_weaker (λ (p : Place). p.0 ≡ level) (λ p. AllByRecursion (Differ p) (places bs path))
    (λ p same. all_weaker (λ (r : Place). level < r.0) (Differ p) (λ r above e f. absurd (omega (arith, above, e, same))) (places bs path) (places_all (λ l. level < l) bs path h.0))
    (level_places level 0 bs) (levels_all (λ l. l ≡ level) level 0 bs refl))

-- ---- names

-- two pieces of an entry at different places have different names
names_differ : (q : ℕ) (path : List ℕ) (a b : Piece) → is_among path a.level ≡ true → is_among path b.level ≡ true → Differ (piece_place a) (piece_place b) → is_lane (lane_of q path b) (intake_for q path a) ≡ false
names_differ q path a b known also differ =
    not_true (is_lane (lane_of q path b) (intake_for q path a)) (λ is.
    let outer = and_parts ((q == q) && (place_in path b.level == place_in path a.level)) (b.branch == a.branch) is in
    let inner = and_parts (q == q) (place_in path b.level == place_in path a.level) outer.0 in
    let place : place_in path b.level ≡ place_in path a.level = nat_same (place_in path b.level) (place_in path a.level) inner.1 in
    differ (sym (place_level path b.level also) ∙ ap (slice_index path) place ∙ place_level path a.level known) (nat_same b.branch a.branch outer.1))

entry_apart : (q : ℕ) (path : List ℕ) (ps : List Piece) → AreDistinct (map piece_place ps) → AllByRecursion (λ (p : Piece). is_among path p.level ≡ true) ps → AreApart (map (placed q path) ps)
entry_apart q path [] h known = tt
entry_apart q path (p ∷ ps) h known = (
  all_map (λ (y : Placed). is_lane (name_of y) (intake_of (placed q path p)) ≡ false) (placed q path) ps
      (all_two (λ (r : Piece). Differ (piece_place p) (piece_place r)) (λ (r : Piece). is_among path r.level ≡ true) (λ (r : Piece). is_lane (lane_of q path r) (intake_for q path p) ≡ false)
      (λ r differ also. names_differ q path p r known.0 also differ) ps (all_unmap (Differ (piece_place p)) piece_place ps h.0) known.1),
  entry_apart q path ps h.1 known.1,
)

apart_append : (xs ys : List Placed) → AreApart xs → AreApart ys → AllByRecursion (λ x. AllByRecursion (λ y. is_lane (name_of y) (intake_of x) ≡ false) ys) xs → AreApart (xs ++ ys)
apart_append [] ys h k c = k
apart_append (x ∷ xs) ys h k c = (all_append (λ y. is_lane (name_of y) (intake_of x) ≡ false) xs ys h.0 c.0, apart_append xs ys h.1 k c.1)

pub later_queries : (q m : ℕ) (es : List Entry) → q ≤ m → AllByRecursion (λ (x : Placed). q ≤ x.query) (pieces_from m es)
later_queries q m [] le = tt
later_queries q m (e ∷ es) le =
    all_append (λ (x : Placed). q ≤ x.query) (map (placed m e.levels) e.pieces) (pieces_from (suc m) es)
    (own e.pieces) (later_queries q (suc m) es (omega (arith, le)))
  where
    own : (ps : List Piece) → AllByRecursion (λ (x : Placed). q ≤ x.query) (map (placed m e.levels) ps)
    own [] = tt
    own (p ∷ ps) = (le, own ps)

pub other_query : (x y : Placed) → (y.query ≡ x.query → ⊥) → is_lane (name_of y) (intake_of x) ≡ false
other_query x y differ =
    not_true (is_lane (name_of y) (intake_of x)) (λ is.
    let outer = and_parts ((y.query == x.query) && ((name_of y).level == (intake_of x).place)) (y.piece.branch == x.piece.branch) is in
    let inner = and_parts (y.query == x.query) ((name_of y).level == (intake_of x).place) outer.0 in
    differ (nat_same y.query x.query inner.0))

-- the pieces of an entry have levels of its path
pub levels_known : (query : TypedQuery) (e : Entry) → IsEntryOf query e → AllByRecursion (λ (p : Piece). is_among e.levels p.level ≡ true) e.pieces
levels_known query e h =
    all_unmap (λ (p : Place). is_among e.levels p.0 ≡ true) piece_place e.pieces
    (subst (AllByRecursion (λ (p : Place). is_among e.levels p.0 ≡ true)) (sym h.pieces) (places_all (λ l. is_among e.levels l ≡ true) query.branches e.levels (self_known e.levels)))

pub pieces_apart : (queries : List TypedQuery) (q : ℕ) (es : List Entry) → AreEntriesOf queries es → AreApart (pieces_from q es)
pieces_apart [] q [] h = tt
pieces_apart [] q (e ∷ es) h = absurd h
pieces_apart (query ∷ queries) q [] h = absurd h
pieces_apart (query ∷ queries) q (e ∷ es) h =
    let entry : IsEntryOf query e = h.0 in
    apart_append (map (placed q e.levels) e.pieces) (pieces_from (suc q) es)
    (entry_apart q e.levels e.pieces (subst AreDistinct (sym entry.pieces) (places_distinct query.branches e.levels entry.path.rising)) (levels_known query e entry))
    (pieces_apart queries (suc q) es h.1)
    (own e.pieces)
  where
    own : (ps : List Piece) → AllByRecursion (λ x. AllByRecursion (λ y. is_lane (name_of y) (intake_of x) ≡ false) (pieces_from (suc q) es)) (map (placed q e.levels) ps)
    own [] = tt
    own (p ∷ ps) = (
      all_weaker (λ (y : Placed). suc q ≤ y.query) (λ y. is_lane (name_of y) (intake_of (placed q e.levels p)) ≡ false) (λ y above. other_query (placed q e.levels p) y (λ same. absurd (omega (arith, same, above)))) (pieces_from (suc q) es) (later_queries (suc q) (suc q) es (omega arith)),
      own ps,
    )
