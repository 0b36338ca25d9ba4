-- The answers of lanes at the end of a window.
use Rattle.std.proofs.Common.{◌≡◌, ℕ, zero, suc, ◌+◌, ◌<◌, ◌≤◌, List, [], ◌∷◌, ◌++◌, ◌||◌, ◌==◌, map, filter, length, Bool, true, false, cond, Option, Some, slice_get, slice_index, refl, ap, sym, ◌∙◌, subst, arith, append_assoc}
use Rattle.std.specs.List.{AllByRecursion, find, range_with_len}
use Rattle.std.specs.Option.{option_map_or}
use Rattle.std.proofs.lemmas.List.{map-append}
use Rattle.std.proofs.lemmas.List.Sums.{sum_by-cons}
use Rattle.sn_base.proofs.BagLemmas.{bag_same}
use Rattle.sn_base.proofs.Lists.{by_test, filter_map, map_both, nat_same, none_some, not_true, some_same}
use Rattle.sn_base.specs.Groups.{Row}
use Rattle.sn_base.specs.declared.lane.Lane.{Lane}
use Rattle.sn_emit.specs.Making.{CanMake}
use Rattle.sn_emit.specs.Plans.{Placed, items_of, pieces_from, placed}
use Rattle.sn_emit.specs.declared.tables.Tables.{Tables}
use Rattle.sn_engine.specs.declared.intake.Intake.{Intake}
use Rattle.sn_engine.specs.Answers.{part_of, parts_of}
use Rattle.sn_engine.specs.Keeping.{with_bits}
use Rattle.sn_engine.specs.Intakes.{is_lane, items_at, lane_at, total}
use Rattle.sn_plan_fit.specs.Fits.{AreEntriesOf, IsEntryOf}
use Rattle.sn_plan_fit.specs.Paths.{Place, is_among, level_before, level_places, piece_place, place_in, places}
use Rattle.sn_ops.proofs.PacketSteps.{some_branch}
use Rattle.sn_plan_grammar.specs.declared.plan.Entry.{Entry}
use Rattle.sn_plan_grammar.specs.declared.plan.Piece.{Piece}
use Rattle.sn_refine.specs.Refined.{level_rows, part_at}
use Rattle.sn_refine.specs.Steps.{Set, parts_in, rows_at}
use Rattle.sn_report.specs.Items.{Item}
use Rattle.sn_engine_split.specs.Branches.{query_value}
use Rattle.sn_engine_split.specs.Opened.{IsWithinLevel, Prefixes}
use Rattle.sn_engine_split.specs.Wholes.{AreLeft}
use Rattle.sn_base.specs.Rising.{IsRising}
use Rattle.sn_base.specs.Sorted.{sorted_rows}
use Rattle.sn_engine_split.proofs.Whole.{query_left}
use Rattle.sn_types.specs.declared.answers.Part.{Part}
use Rattle.sn_types.specs.declared.typed_query.TypedBranch.{TypedBranch}
use Rattle.sn_types.specs.declared.typed_query.TypedQuery.{TypedQuery}
use Rattle.sn_types.specs.Typed.{HasWidths, IsTyped, query_at}
use Rattle.sn_engine_lockstep.specs.declared.source.Source.{Source}
use Rattle.sn_engine_lockstep.specs.Sources.{source_at, source_of}
use Rattle.sn_engine_lockstep.specs.Windows.{parts_from, sent_by}
use Rattle.sn_engine_lockstep.specs.Work.{AreApart, done, intake_of, left_done, name_of}
use Rattle.sn_engine_lockstep.proofs.Apart.{index_place, levels_known, place_is, place_level, rising_index}
use Rattle.sn_engine_lockstep.proofs.Changes.{all_get, own_name}
use Rattle.sn_engine_lockstep.proofs.Finding.{Mapped, get_after, get_front, get_map, map_get}
use Rattle.sn_engine_lockstep.proofs.Seeing.{before_first, before_next, items_tabled, prefixes_seen, rows_seen, seen_by}

-- ---- the lane of a piece is found

abbrev first_of : Option Intake → List Item
first_of o = option_map_or (λ (l : Intake). l.items) o []

find_own : (f : Placed → Intake) → ((n : Lane) (y : Placed) → is_lane n (f y) ≡ is_lane n (intake_of y)) → (xs : List Placed) (i : ℕ) (x : Placed) → AreApart xs → slice_get xs i ≡ Some x → find (is_lane (name_of x)) (map f xs) ≡ Some (f x)
find_own f names [] i x apart at = absurd (none_some at)
find_own f names (y ∷ xs) zero x apart at =
    ap (λ b. cond b (Some (f y)) (find (is_lane (name_of x)) (map f xs))) (names (name_of x) y ∙ ap (λ z. is_lane (name_of x) (intake_of z)) (some_same y x at) ∙ own_name x)
    ∙ ap (λ z. Some (f z)) (some_same y x at)
find_own f names (y ∷ xs) (suc i) x apart at =
    ap (λ b. cond b (Some (f y)) (find (is_lane (name_of x)) (map f xs))) (names (name_of x) y ∙ all_get (λ z. is_lane (name_of z) (intake_of y) ≡ false) xs i x apart.0 at)
    ∙ find_own f names xs i x apart.1 at

-- ---- the levels of the pieces of the first branch

no_first : (level n : ℕ) (bs : List TypedBranch) (rest : List Place) → 1 ≤ n → filter (λ (a : Place). a.1 == 0) (level_places level n bs ++ rest) ≡ filter (λ (a : Place). a.1 == 0) rest
no_first level n [] rest some = refl
no_first level n (b ∷ bs) rest some =
    ap (λ c. cond c ((level, n) ∷ filter (λ (a : Place). a.1 == 0) (level_places level (n + 1) bs ++ rest)) (filter (λ (a : Place). a.1 == 0) (level_places level (n + 1) bs ++ rest)))
    (not_true (n == 0) (λ is. let e = nat_same n 0 is in absurd (omega (arith, e, some))))
    ∙ no_first level (n + 1) bs rest (omega (arith, some))

firsts_are : (bs : List TypedBranch) (path : List ℕ) → 1 ≤ length bs → map (λ (a : Place). a.0) (filter (λ (a : Place). a.1 == 0) (places bs path)) ≡ path
firsts_are [] path some = absurd (omega (arith, some))
firsts_are (b ∷ bs) [] some = refl
firsts_are (b ∷ bs) (level ∷ path) some =
    ap (λ rest. level ∷ map (λ (a : Place). a.0) rest) (no_first level 1 bs (places (b ∷ bs) path) (omega arith))
    ∙ ap (λ ls. level ∷ ls) (firsts_are (b ∷ bs) path some)

-- the place of the second branch
record Second (bs : List TypedBranch) (path : List ℕ) (level : ℕ) : Type 0 where
  place : ℕ
  stands : slice_get (places bs path) place ≡ Some (level, 1)

second_of : (bs : List TypedBranch) (path : List ℕ) (level : ℕ) → length bs ≡ 2 → is_among path level ≡ true → Second bs path level
second_of [] path level two known = absurd (omega (arith, two))
second_of (b ∷ []) path level two known = absurd (omega (arith, two))
second_of (b ∷ c ∷ d ∷ bs) path level two known = absurd (omega (arith, two))
second_of (b ∷ c ∷ []) [] level two known = cc
second_of (b ∷ c ∷ []) (l ∷ path) level two known =
    by_test (level == l)
    (λ is. record { place = 1; stands = ap (λ m. Some (m, 1)) (sym (nat_same level l is)) })
    (λ isnt. let s = second_of (b ∷ c ∷ []) path level two (sym (ap (λ x. x || is_among path level) isnt) ∙ known) in
    record { place = suc (suc s.place); stands = s.stands })

-- ---- one entry

along : (f g : ℕ → Part) (a : ℕ) (ys : List ℕ) → ((i : ℕ) → i < length ys → f (slice_index ys i) ≡ g (a + i)) → map f ys ≡ map g (range_with_len a (length ys))
along f g a [] same = refl
along f g a (y ∷ ys) same =
    ap (λ p. p ∷ map f ys) (same 0 (omega arith) ∙ ap g none_more)
    ∙ ap (λ ps. g a ∷ ps) (along f g (a + 1) ys (λ i lt. same (suc i) (omega (arith, lt)) ∙ ap g (moved i)))
  where
    none_more : a + 0 ≡ a
    none_more = omega arith

    moved : (i : ℕ) → a + suc i ≡ a + 1 + i
    moved i = omega arith

map_firsts : {X Y : Type 0} (t : X → Bool) (f g : X → Y) (xs : List X) → ((i : ℕ) (x : X) → slice_get xs i ≡ Some x → t x ≡ true → f x ≡ g x) → map f (filter t xs) ≡ map g (filter t xs)
map_firsts t f g [] same = refl
map_firsts t f g (x ∷ xs) same =
    let rest = map_firsts t f g xs (λ i y at is. same (suc i) y at is) in
    by_test (t x)
    (λ is. ap (λ b. map f (cond b (x ∷ filter t xs) (filter t xs))) is ∙ ap (λ y. y ∷ map f (filter t xs)) (same 0 x refl is) ∙ ap (λ ys. g x ∷ ys) rest
    ∙ sym (ap (λ b. map g (cond b (x ∷ filter t xs) (filter t xs))) is))
    (λ isnt. ap (λ b. map f (cond b (x ∷ filter t xs) (filter t xs))) isnt ∙ rest ∙ sym (ap (λ b. map g (cond b (x ∷ filter t xs) (filter t xs))) isnt))

-- Lanes whose items have, at each query and level, the value of what the level sees.
module _ (typed_for window : ℕ) (queries : List TypedQuery) (kept : Source → Set) (tuples : List (List ℕ)) (pieces : List Placed)
    (typed : ∥ IsTyped typed_for queries ∥₁) (can : AllByRecursion (CanMake queries) pieces) (apart : AreApart pieces)
    (shared : Bool) (found : Placed → List Item) (Of : ℕ → List ℕ → ℕ → ℕ → List Item → Type 0)
    (own : (q : ℕ) (path : List ℕ) (p : Piece) → CanMake queries (placed q path p) → IsRising path → is_among path p.level ≡ true → Of q path p.level p.branch (found (placed q path p)))
    (valued : (q : ℕ) (path : List ℕ) (level : ℕ) (left right : List Item) → q < length queries → Of q path level 0 left → (length (query_at queries q).branches ≡ 2 → Of q path level 1 right)
    → sorted_rows (query_value (query_at queries q) level left right)
    ≡ level_rows (query_at queries q) level (Some (seen_by (query_at queries q) path (λ j. kept (source_at q (Some (slice_index path j)))) tuples (place_in path level)))) where
  abbrev lane : Placed → Intake
  lane x = record (intake_of x) { shared = shared; items = found x; end = Some window }

  abbrev lanes : List Intake
  lanes = map lane pieces

  abbrev kept_before : ℕ → List ℕ → ℕ → Set
  kept_before q path j = kept (source_at q (Some (slice_index path j)))

  of_place : (q : ℕ) (path : List ℕ) (p : Piece) (level b : ℕ) → CanMake queries (placed q path p) → IsRising path → is_among path p.level ≡ true → p.level ≡ level → p.branch ≡ b → Of q path level b (found (placed q path p))
  of_place q path p level b mine rising known same branch =
      subst (λ l. Of q path l b (found (placed q path p))) same (subst (λ n. Of q path p.level n (found (placed q path p))) branch (own q path p mine rising known))

  -- the answer at a level
  abbrev answer_at : ℕ → List ℕ → ℕ → Part
  answer_at q path level = record { query = q; level = level; rows = rows_at (query_at queries q) path (kept_before q path) tuples (place_in path level) }

  module _ (q : ℕ) (e : Entry) (front : List Placed) (rest : List Placed) (lt : q < length queries) (entry : IsEntryOf (query_at queries q) e) (whole : pieces ≡ front ++ (map (placed q e.levels) e.pieces ++ rest)) where
    stands : (i : ℕ) (p : Piece) → slice_get e.pieces i ≡ Some p → slice_get pieces (length front + i) ≡ Some (placed q e.levels p)
    stands i p at =
        ap (λ xs. slice_get xs (length front + i)) whole
        ∙ get_after front (map (placed q e.levels) e.pieces ++ rest) i (placed q e.levels p) (get_front (map (placed q e.levels) e.pieces) rest i (placed q e.levels p) (get_map (placed q e.levels) e.pieces i p at))

    mine : (i : ℕ) (p : Piece) → slice_get e.pieces i ≡ Some p → CanMake queries (placed q e.levels p)
    mine i p at = all_get (CanMake queries) pieces (length front + i) (placed q e.levels p) can (stands i p at)

    known_at : (i : ℕ) (p : Piece) → slice_get e.pieces i ≡ Some p → is_among e.levels p.level ≡ true
    known_at i p at = all_get (λ (p : Piece). is_among e.levels p.level ≡ true) e.pieces i p (levels_known (query_at queries q) e entry) at

    found_items : (i : ℕ) (p : Piece) → slice_get e.pieces i ≡ Some p → items_at lanes (name_of (placed q e.levels p)) ≡ found (placed q e.levels p)
    found_items i p at = ap first_of (find_own lane (λ n y. refl) pieces (length front + i) (placed q e.levels p) apart (stands i p at))

    -- the items of the second branch at a level
    second_of_level : (level : ℕ) → is_among e.levels level ≡ true → length (query_at queries q).branches ≡ 2
        → Of q e.levels level 1 (items_at lanes (lane_at q (place_in e.levels level) 1))
    second_of_level level known two =
        let s = second_of (query_at queries q).branches e.levels level two known in
        let m : Mapped piece_place e.pieces s.place (level, 1) = map_get piece_place e.pieces s.place (level, 1) (ap (λ ps. slice_get ps s.place) entry.pieces ∙ s.stands) in
        let p = m.at in
        let l : p.level ≡ level = ap (λ (a : Place). a.0) m.is in
        let b : p.branch ≡ 1 = ap (λ (a : Place). a.1) m.is in
        let name : name_of (placed q e.levels p) ≡ lane_at q (place_in e.levels level) 1 = ap (λ n. lane_at q (place_in e.levels n) p.branch) l ∙ ap (lane_at q (place_in e.levels level)) b in
        subst (Of q e.levels level 1)
        (sym (found_items s.place p m.stands) ∙ ap (items_at lanes) name)
        (of_place q e.levels p level 1 (mine s.place p m.stands) entry.path.rising (known_at s.place p m.stands) l b)

    first_part : (i : ℕ) (p : Piece) → slice_get e.pieces i ≡ Some p → (p.branch == 0) ≡ true → part_of queries lanes (lane (placed q e.levels p)) ≡ answer_at q e.levels p.level
    first_part i p at first =
        let query = query_at queries q in
        let known = known_at i p at in
        let place = place_in e.levels p.level in
        let seen = seen_by query e.levels (kept_before q e.levels) tuples place in
        ap (λ (rows : List Row). made rows)
        (valued q e.levels p.level (found (placed q e.levels p)) (items_at lanes (lane_at q place 1)) lt
        (of_place q e.levels p p.level 0 (mine i p at) entry.path.rising known refl (nat_same p.branch 0 first)) (second_of_level p.level known)
        ∙ ap (λ l. level_rows query l (Some seen)) (sym (place_level e.levels p.level known))
        ∙ sym (rows_seen query e.levels (kept_before q e.levels) tuples place))
      where
        made : List Row → Part
        made rows = record { query = q; level = p.level; rows = rows }

    pub entry_parts : map (part_of queries lanes) (filter (λ (x : Intake). x.branch == 0) (map lane (map (placed q e.levels) e.pieces)))
        ≡ parts_in q (query_at queries q) e.levels (kept_before q e.levels) tuples
    entry_parts =
        let mine : Piece → Intake = λ p. lane (placed q e.levels p) in
        let first : Piece → Bool = λ p. p.branch == 0 in
        let rows : ℕ → List Row = rows_at (query_at queries q) e.levels (kept_before q e.levels) tuples in
        ap (λ ls. map (part_of queries lanes) (filter (λ (x : Intake). x.branch == 0) ls)) (map_both (placed q e.levels) lane e.pieces)
        ∙ ap (map (part_of queries lanes)) (sym (filter_map mine (λ (x : Intake). x.branch == 0) e.pieces))
        ∙ map_both mine (part_of queries lanes) (filter first e.pieces)
        ∙ map_firsts first (λ p. part_of queries lanes (mine p)) (λ p. answer_at q e.levels p.level) e.pieces first_part
        ∙ sym (map_both (λ (p : Piece). p.level) (answer_at q e.levels) (filter first e.pieces))
        ∙ ap (map (answer_at q e.levels)) levels
        ∙ along (answer_at q e.levels) (part_at q e.levels rows) 0 e.levels same
      where
        levels : map (λ (p : Piece). p.level) (filter (λ (p : Piece). p.branch == 0) e.pieces) ≡ e.levels
        levels =
            sym (map_both piece_place (λ (a : Place). a.0) (filter (λ (p : Piece). p.branch == 0) e.pieces))
            ∙ ap (map (λ (a : Place). a.0)) (filter_map piece_place (λ (a : Place). a.1 == 0) e.pieces ∙ ap (filter (λ (a : Place). a.1 == 0)) entry.pieces)
            ∙ firsts_are (query_at queries q).branches e.levels (some_branch typed_for queries q typed lt)

        same : (i : ℕ) → i < length e.levels → answer_at q e.levels (slice_index e.levels i) ≡ part_at q e.levels (rows_at (query_at queries q) e.levels (kept_before q e.levels) tuples) (0 + i)
        same i within =
            ap (λ n. at_level (slice_index e.levels i) n) (index_place e.levels i entry.path.rising within) ∙ ap (part_at q e.levels (rows_at (query_at queries q) e.levels (kept_before q e.levels) tuples)) from
          where
            at_level : ℕ → ℕ → Part
            at_level level n = record { query = q; level = level; rows = rows_at (query_at queries q) e.levels (kept_before q e.levels) tuples n }

            from : i ≡ 0 + i
            from = omega arith

  -- ---- all entries

  filter_append : (t : Intake → Bool) (xs ys : List Intake) → filter t (xs ++ ys) ≡ filter t xs ++ filter t ys
  filter_append t [] ys = refl
  filter_append t (x ∷ xs) ys = elim (t x) as (λ b. cond b (x ∷ filter t (xs ++ ys)) (filter t (xs ++ ys)) ≡ cond b (x ∷ filter t xs) (filter t xs) ++ filter t ys) [ true ↦ ap (λ zs. x ∷ zs) (filter_append t xs ys) | false ↦ filter_append t xs ys ]

  parts_after : (left : List TypedQuery) (n : ℕ) (es : List Entry) (front : List Placed) → ((j : ℕ) → query_at queries (n + j) ≡ query_at left j) → n + length left ≡ length queries → AreEntriesOf left es
      → pieces ≡ front ++ pieces_from n es
      → map (part_of queries lanes) (filter (λ (x : Intake). x.branch == 0) (map lane (pieces_from n es))) ≡ parts_from queries kept tuples n es
  parts_after [] n [] front same count h whole = refl
  parts_after [] n (e ∷ es) front same count h whole = absurd h
  parts_after (query ∷ left) n [] front same count h whole = absurd h
  parts_after (query ∷ left) n (e ∷ es) front same count h whole =
      let own = map (placed n e.levels) e.pieces in
      let here : query_at queries n ≡ query = ap (query_at queries) none_more ∙ same 0 in
      let entry : IsEntryOf (query_at queries n) e = subst (λ x. IsEntryOf x e) (sym here) h.0 in
      let first : Intake → Bool = λ x. x.branch == 0 in
      ap (λ ls. map (part_of queries lanes) (filter first ls)) (map-append lane own (pieces_from (suc n) es))
      ∙ ap (map (part_of queries lanes)) (filter_append first (map lane own) (map lane (pieces_from (suc n) es)))
      ∙ map-append (part_of queries lanes) (filter first (map lane own)) (filter first (map lane (pieces_from (suc n) es)))
      ∙ ap (λ ps. ps ++ map (part_of queries lanes) (filter first (map lane (pieces_from (suc n) es)))) (entry_parts n e front (pieces_from (suc n) es) (omega (arith, count)) entry whole)
      ∙ ap (λ ps. parts_in n (query_at queries n) e.levels (kept_before n e.levels) tuples ++ ps)
      (parts_after left (suc n) es (front ++ own) (λ j. ap (query_at queries) (moved j) ∙ same (suc j)) (omega (arith, count)) h.1 (whole ∙ sym (append_assoc front own (pieces_from (suc n) es))))
    where
      none_more : n ≡ n + 0
      none_more = omega arith

      moved : (j : ℕ) → suc n + j ≡ n + suc j
      moved j = omega arith

  pub parts_are : (es : List Entry) → AreEntriesOf queries es → pieces ≡ pieces_from 0 es → parts_of queries lanes ≡ parts_from queries kept tuples 0 es
  parts_are es h are =
      ap (λ xs. map (part_of queries lanes) (filter (λ (x : Intake). x.branch == 0) (map lane xs))) are
      ∙ parts_after queries 0 es [] (λ j. ap (query_at queries) (from j)) (omega arith) h are
    where
      from : (j : ℕ) → 0 + j ≡ j
      from j = omega arith

-- ---- the lanes of one switch

-- the level before is below the level
pub before_low : (path : List ℕ) (level : ℕ) (members : Set) → IsRising path → is_among path level ≡ true → IsWithinLevel level (with_bits (level_before path level) members)
before_low path level members rising known = by_place (place_in path level) refl
  where
    by_place : (m : ℕ) → place_in path level ≡ m → IsWithinLevel level (with_bits (level_before path level) members)
    by_place zero e = subst (λ o. IsWithinLevel level (with_bits o members)) (sym (before_first path level e)) tt
    by_place (suc j) e = subst (λ o. IsWithinLevel level (with_bits o members)) (sym (before_next path level j e)) (below j e)
      where
        below : (j : ℕ) → place_in path level ≡ suc j → slice_index path j ≤ level
        below j e =
            let at = place_is path level known in
            let less = rising_index path j (suc j) rising (omega arith) (subst (λ n. n < length path) e at.within) in
            let same : slice_index path (suc j) ≡ level = ap (slice_index path) (sym e) ∙ at.is in
            omega (arith, less, same)

module _ (typed_for : ℕ) (tables : Tables) (window : ℕ) (queries : List TypedQuery) (kept : Source → Set) (tuples : List (List ℕ)) (pieces : List Placed)
    (typed : ∥ IsTyped typed_for queries ∥₁) (can : AllByRecursion (CanMake queries) pieces) (apart : AreApart pieces) (widths : AllByRecursion HasWidths tuples) where
  -- the prefixes of the level before
  abbrev prefixes : ℕ → List ℕ → ℕ → Option Prefixes
  prefixes q path level = with_bits (level_before path level) (kept (source_at q (level_before path level)))

  -- what is left of the items of a piece, is what is left of those of its branch
  abbrev Left : ℕ → List ℕ → ℕ → ℕ → List Item → Type 0
  Left q path level b found = AreLeft queries q b level (prefixes q path level) tuples found

  left_of : Placed → List Item
  left_of x = (left_done queries tables kept tuples window x).items

  left_own : (q : ℕ) (path : List ℕ) (p : Piece) → CanMake queries (placed q path p) → IsRising path → is_among path p.level ≡ true → Left q path p.level p.branch (left_of (placed q path p))
  unfolding left_of
  left_own q path p mine rising known = record {
    cut = p.cut;
    depth = tables.depth;
    sizes = p.slots;
    entries = tables.entries;
    sent = items_of queries tables (placed q path p) (kept (source_of (placed q path p))) tuples;
    within = mine.cut;
    low = before_low path p.level (kept (source_of (placed q path p))) rising known;
    same = bag_same (sym (items_tabled queries tables q path p (kept (source_of (placed q path p))) tuples));
    is = refl;
  }

  pub all_parts : (es : List Entry) → AreEntriesOf queries es → pieces ≡ pieces_from 0 es → parts_of queries (map (left_done queries tables kept tuples window) pieces) ≡ parts_from queries kept tuples 0 es
  unfolding left_of
  all_parts es h are =
      parts_are typed_for window queries kept tuples pieces typed can apart false left_of Left left_own
      (λ q path level left right lt l r.
      query_left typed_for queries q level (prefixes q path level) tuples left right typed lt widths l r
      ∙ ap (λ ts. level_rows (query_at queries q) level (Some ts)) (prefixes_seen (query_at queries q) q path kept tuples level))
      es h are

  total_from : (xs : List Placed) → total (map (done queries tables kept tuples window) xs) ≡ sent_by queries tables xs kept tuples
  total_from [] = refl
  total_from (x ∷ xs) =
      let lane = done queries tables kept tuples window in
      let count : Placed → ℕ = λ y. length (items_of queries tables y (kept (source_of y)) tuples) in
      sum_by-cons (λ (l : Intake). length l.items) (lane x) (map (done queries tables kept tuples window) xs)
      ∙ ap (λ n. count x + n) (total_from xs)
      ∙ sym (sum_by-cons (λ (n : ℕ). n) (count x) (map count xs))

  pub all_sent : total (map (done queries tables kept tuples window) pieces) ≡ sent_by queries tables pieces kept tuples
  all_sent = total_from pieces
