-- One window more.
use Rattle.std.proofs.Common.{◌≡◌, ℕ, zero, suc, ◌+◌, ◌-◌, ◌<◌, ◌≤◌, List, [], ◌∷◌, ◌++◌, map, length, true, false, ◌||◌, ◌==◌, cond, nat_eq, nat_lt, slice_get, slice_index, get_or, Option, None, Some, IsSome, unwrap_or, refl, ap, sym, ◌∙◌, subst, arith, eq-eqb}
use Rattle.std.specs.List.{AllByRecursion, list_any, range_with_len}
use Rattle.std.specs.Option.{option_map_or, option_or}
use Rattle.std.specs.FinSet as set
use Rattle.std.proofs.lemmas.Bool.{false≢true, ltb-true, ltb-false}
use Rattle.std.proofs.Math.Bool.{Bool-set}
use Rattle.std.proofs.Math.Logic.{∥∥₁_elim}
use Rattle.std.proofs.lemmas.List.{get_or_at, length-append}
use Rattle.std.proofs.lemmas.List.FromFn.{get_or-map-range_with_len, length-map-range_with_len}
use Rattle.std.proofs.lemmas.List.Folds.{find-append}
use Rattle.sn_base.proofs.Lists.{all_append, by_test, nat_same, nat_self, not_true}
use Rattle.sn_base.specs.Groups.{Row}
use Rattle.sn_base.specs.Mask.{masked}
use Rattle.sn_fields.specs.declared.field.Field.{Field}
use Rattle.sn_fields.specs.Fields.{width_of}
use Rattle.sn_refine.specs.Refined.{column_of, level_rows, part_at}
use Rattle.sn_refine.specs.Steps.{Set, kept_at, kept_of, parts_in, prefixes_of, rows_at}
use Rattle.sn_refine.proofs.Places.{at_place}
use Rattle.sn_windows.specs.Rising.{IsAbove}
use Rattle.sn_types.specs.Typed.{HasWidths, IsTyped, finest_level, query_at}
use Rattle.sn_types.specs.declared.answers.Part.{Part}
use Rattle.sn_types.specs.declared.typed_query.TypedQuery.{TypedQuery}
use Rattle.sn_refine_laws.specs.Monotone.{is_monotone}
use Rattle.sn_refine_laws.specs.Reported.{EndsFinest, is_reported}
use Rattle.sn_refine_laws.proofs.Queries.{level_range}
use Rattle.sn_refine_laws.proofs.Windows.{reported_first, reported_held, reported_own}
use Rattle.sn_detect.specs.declared.look.Look.{Look}
use Rattle.sn_detect.specs.Keeping.{AreUpTo, HoldOn, InTime, OnTheWay, Rise, prefix_of}
use Rattle.sn_detect.specs.Looks.{holds, look_at, refined_at, unrefined_at}

-- ---- numbers (as in sn_refine's Held, where they are private)

same_back : (a b : ℕ) → nat_eq a b ≡ nat_eq b a
same_back a b =
    by_test (nat_eq a b)
    (λ is. is ∙ sym (eq-eqb b a (sym (nat_same a b is))))
    (λ isnt. isnt ∙ sym (not_true (nat_eq b a) (λ back. false≢true (sym isnt ∙ eq-eqb a b (sym (nat_same b a back))))))

any_back : (n : ℕ) (xs : List ℕ) → list_any (λ x. nat_eq x n) xs ≡ list_any (nat_eq n) xs
any_back n [] = refl
any_back n (x ∷ xs) = ap (λ b. b || list_any (λ y. nat_eq y n) xs) (same_back x n) ∙ ap (λ b. nat_eq n x || b) (any_back n xs)

-- ---- windows by their numbers

ne : (a b : ℕ) → (a ≡ b → ⊥) → nat_eq a b ≡ false
ne a b apart = not_true (nat_eq a b) (λ is. apart (nat_same a b is))

none_at : (last : Option ℕ) (looks : List Look) (w : ℕ) → AreUpTo last looks → IsAbove last w → look_at looks w ≡ None
none_at None [] w upto above = refl
none_at None (l ∷ looks) w upto above = absurd upto
none_at (Some v) [] w upto above = refl
none_at (Some v) (l ∷ looks) w upto above =
    let low = upto.0 in
    ap (λ b. cond b (Some l) (look_at looks w)) (ne l.window w (λ e. omega (arith, e, low, above))) ∙ none_at (Some v) looks w upto.1 above

-- a window that holds an address is at most the last one
held_upto : (looks : List Look) (v w a : ℕ) → AllByRecursion (λ (l : Look). l.window ≤ v) looks → holds (unrefined_at looks w) a ≡ true → w ≤ v
held_upto [] v w a upto is = absurd (false≢true is)
held_upto (l ∷ looks) v w a upto is =
    by_test (l.window == w)
    (λ here. let same = nat_same l.window w here in let low = upto.0 in omega (arith, same, low))
    (λ isnt. held_upto looks v w a upto.1 (sym (ap (λ b. holds (option_map_or (λ (x : Look). x.unrefined) (cond b (Some l) (look_at looks w)) []) a) isnt) ∙ is))

module _ (looks : List Look) (look : Look) (last : Option ℕ) (upto : AreUpTo last looks) (above : IsAbove last look.window) where
  abbrev more : List Look
  more = looks ++ look ∷ []

  here : look_at more look.window ≡ Some look
  here =
      find-append (λ (l : Look). l.window == look.window) looks (look ∷ [])
      ∙ ap (λ o. option_or o (look_at (look ∷ []) look.window)) (none_at last looks look.window upto above)
      ∙ ap (λ b. cond b (Some look) None) (nat_self look.window)

  earlier : (v : ℕ) → (v ≡ look.window → ⊥) → look_at more v ≡ look_at looks v
  earlier v apart =
      find-append (λ (l : Look). l.window == v) looks (look ∷ [])
      ∙ ap (option_or (look_at looks v)) (ap (λ b. cond b (Some look) None) (ne look.window v (λ e. apart (sym e))))
      ∙ or_none (look_at looks v)
    where
      or_none : (o : Option Look) → option_or o None ≡ o
      or_none None = refl
      or_none (Some l) = refl

  upto_more : (last : Option ℕ) (looks : List Look) → AreUpTo last looks → IsAbove last look.window → AllByRecursion (λ (l : Look). l.window ≤ look.window) (looks ++ look ∷ [])
  upto_more None [] none up = (omega arith, tt)
  upto_more None (l ∷ looks) none up = absurd none
  upto_more (Some v) [] low up = (omega arith, tt)
  upto_more (Some v) (l ∷ looks) low up = let first = low.0 in (omega (arith, first, up), upto_more (Some v) looks low.1 up)

pub rise_more : (looks : List Look) (look : Look) (last : Option ℕ) → AreUpTo last looks → IsAbove last look.window → Rise looks → Rise (looks ++ look ∷ [])
rise_more [] look last upto above rise = (tt, tt)
rise_more (l ∷ looks) look None upto above rise = absurd upto
rise_more (l ∷ looks) look (Some v) upto above rise =
    let low = upto.0 in
    (all_append (λ (m : Look). suc l.window ≤ m.window) looks (look ∷ []) rise.0 (omega (arith, low, above), tt), rise_more looks look (Some v) upto.1 above rise.1)

-- ---- a step

module _ (window q : ℕ) (queries : List TypedQuery) (field : Field) (typed : IsTyped window queries) (lt : q < length queries) (is_field : (query_at queries q).field ≡ Some field) (mono : is_monotone (query_at queries q) ≡ true)
    (path : List ℕ) (ends : EndsFinest (query_at queries q) path) (looks : List Look) (last : Option ℕ) (kept : List Set) (w : ℕ) (tuples : List (List ℕ)) (widths : AllByRecursion HasWidths tuples)
    (upto : AreUpTo last looks) (above : IsAbove last w) (way : OnTheWay (query_at queries q).field path last kept looks) (time : InTime path looks) (refined : List ℕ) where
  abbrev the : TypedQuery
  the = query_at queries q

  abbrev rows : ℕ → List Row
  rows = rows_at the path (kept_at last kept w) tuples

  abbrev unrefined : List ℕ
  unrefined = column_of the (level_rows the (finest_level the) (Some tuples))

  abbrev look : Look
  look = record { window = w; unrefined = unrefined; refined = refined }

  abbrev all : List Look
  all = looks ++ look ∷ []

  now_here : look_at all w ≡ Some look
  now_here = here looks look last upto above

  now_earlier : (v : ℕ) → (v ≡ w → ⊥) → look_at all v ≡ look_at looks v
  now_earlier v apart = earlier looks look last upto above v apart

  in_last : (a : ℕ) → holds (unrefined_at all w) a ≡ true → is_reported the (level_rows the (finest_level the) (Some tuples)) a ≡ true
  in_last a is = sym (ap (λ o. holds (option_map_or (λ (l : Look). l.unrefined) o []) a) now_here) ∙ is

  in_earlier : (v a : ℕ) → v < w → holds (unrefined_at all v) a ≡ true → holds (unrefined_at looks v) a ≡ true
  in_earlier v a low is = sym (ap (λ o. holds (option_map_or (λ (l : Look). l.unrefined) o []) a) (now_earlier v (λ e. omega (arith, e, low)))) ∙ is

  -- the window before was the last one, where it holds an address
  was_last : (v a : ℕ) → suc v ≡ w → holds (unrefined_at looks v) a ≡ true → last ≡ Some v
  was_last v a next is = go last looks upto above is
    where
      go : (o : Option ℕ) (ls : List Look) → AreUpTo o ls → IsAbove o w → holds (unrefined_at ls v) a ≡ true → o ≡ Some v
      go None [] none up reported = absurd (false≢true reported)
      go None (l ∷ ls) none up reported = absurd none
      go (Some u) ls low up reported = let le = held_upto ls u v a low reported in ap (λ (n : ℕ). Some n) (omega (arith, le, up, next))

  kept_there : (v j : ℕ) → suc v ≡ w → last ≡ Some v → kept_at last kept w j ≡ unwrap_or (slice_get kept j) set.empty
  kept_there v j next is =
      ap (λ o. kept_at o kept w j) is
      ∙ ap (λ b. cond b (unwrap_or (slice_get kept j) set.empty) set.empty) (ap (λ n. n == w) one ∙ ap (λ n. n == w) next ∙ nat_self w)
    where
      one : v + 1 ≡ suc v
      one = omega arith

  prefix_is : (bits a : ℕ) → prefix_of the.field bits a ≡ masked (width_of field) bits a
  prefix_is bits a = ap (λ o. prefix_of o bits a) is_field

  -- an address that is held on up to this window has its prefix in the answers of the level of each place
  reported_rows : (j v a : ℕ) → j < length path → v + j ≡ w → HoldOn all a v j → is_reported the (rows j) (masked (width_of field) (slice_index path j) a) ≡ true
  reported_rows zero v a within at on =
      let now : holds (unrefined_at all w) a ≡ true = subst (λ (n : ℕ). holds (unrefined_at all n) a ≡ true) at (on 0 (omega arith)) in
      reported_first window q queries field typed lt is_field mono a (slice_index path 0) tuples (ends.known 0 within) widths (in_last a now)
  reported_rows (suc j) v a within at on =
      let bits : ℕ = slice_index path j in
      let before : ℕ = v + j in
      let next : suc before ≡ w = omega (arith, at) in
      let now : holds (unrefined_at all w) a ≡ true = subst (λ (n : ℕ). holds (unrefined_at all n) a ≡ true) at (on (suc j) (omega arith)) in
      let older : HoldOn looks a v j = λ i le. in_earlier (v + i) a (omega (arith, le, next)) (on i (omega (arith, le))) in
      let was : last ≡ Some before = was_last before a next (older j (omega arith)) in
      let held : Set = kept_at last kept w j in
      let so_far : set.contains (unwrap_or (slice_get kept j) set.empty) (prefix_of the.field bits a) ≡ true =
      subst (λ (o : Option ℕ). OnTheWay the.field path o kept looks) was way j v a within refl older in
      let has : set.contains held (masked (width_of field) bits a) ≡ true =
      ap (λ s. set.contains s (masked (width_of field) bits a)) (kept_there before j next was) ∙ ap (set.contains (unwrap_or (slice_get kept j) set.empty)) (sym (prefix_is bits a)) ∙ so_far in
      let earlier : j < length path = omega (arith, within) in
      let below = (level_range window q bits queries field typed lt is_field (ends.known j earlier)).le in
      reported_held window q queries field typed lt is_field mono a (slice_index path (suc j)) bits held tuples (ends.known (suc j) within) below widths has (in_last a now)

  -- what is kept of this window
  pub way_after : OnTheWay the.field path (Some w) (kept_of the path (parts_in q the path (kept_at last kept w) tuples)) all
  way_after j v a within at on =
      let bits : ℕ = slice_index path j in
      let n : ℕ = masked (width_of field) bits a in
      let reported = reported_rows j v a (omega (arith, within)) at on in
      ap (λ s. set.contains s (prefix_of the.field bits a)) (at_place (λ (part : Part). prefixes_of the part.rows) (part_at q path rows) (length path) (length path - 1) j set.empty (omega (arith, within)) (omega arith))
      ∙ ap (set.contains (prefixes_of the (rows j))) (prefix_is bits a)
      ∙ set.contains-from_list_nat (column_of the (rows j)) n ∙ any_back n (column_of the (rows j)) ∙ reported

  -- where the refined column is that of the last level
  pub time_after : ((last : ℕ) → length path ≡ suc last → refined ≡ column_of the (rows last)) → InTime path all
  time_after same final v a long on =
      let t : ℕ = v + final in
      by_test (nat_eq t w)
      (λ is. let at : t ≡ w = nat_same t w is in
      let within : final < length path = omega (arith, long) in
      let F : ℕ = finest_level the in
      let finest : slice_index path final ≡ F = ends.finest final long in
      let now : holds (unrefined_at all w) a ≡ true = subst (λ (n : ℕ). holds (unrefined_at all n) a ≡ true) at (on final (omega arith)) in
      let own : masked (width_of field) (slice_index path final) a ≡ a =
      ap (λ k. masked (width_of field) k a) finest ∙ reported_own window q queries field typed lt is_field mono a tuples (subst (λ (n : ℕ). list_any (nat_eq n) the.levels ≡ true) finest (ends.known final within)) (in_last a now) in
      ap (λ n. holds (refined_at all n) a) at
      ∙ ap (λ o. holds (option_map_or (λ (l : Look). l.refined) o []) a) now_here
      ∙ ap (λ ns. holds ns a) (same final long)
      ∙ ap (holds (column_of the (rows final))) (sym own)
      ∙ reported_rows final v a within at on)
      (λ isnt. by_test (nat_lt t w)
      (λ low. let below = ltb-true t w low in
      let older : HoldOn looks a v final = λ i le. in_earlier (v + i) a (omega (arith, le, below)) (on i le) in
      ap (λ o. holds (option_map_or (λ (l : Look). l.refined) o []) a) (now_earlier t (λ e. omega (arith, e, below))) ∙ time final v a long older)
      (λ high. let le = ltb-false t w high in
      let upto_w = held_upto all w t a (upto_more looks look last upto above last looks upto above) (on final (omega arith)) in
      let same : t ≡ w = omega (arith, le, upto_w) in
      absurd (false≢true (sym isnt ∙ ap (nat_eq t) (sym same) ∙ nat_self t))))

  pub upto_after : AreUpTo (Some w) all
  upto_after = upto_more looks look last upto above last looks upto above

-- ---- as the code meets it: whether the query is monotone, and that it is typed, are facts of the type

module _ (window q : ℕ) (queries : List TypedQuery) (typed : ∥ IsTyped window queries ∥₁) (lt : q < length queries) (is_refined : IsSome (query_at queries q).field)
    (path : List ℕ) (ends : EndsFinest (query_at queries q) path) (looks : List Look) (last : Option ℕ) (kept : List Set) (w : ℕ) (tuples : List (List ℕ)) (widths : AllByRecursion HasWidths tuples)
    (upto : AreUpTo last looks) (above : IsAbove last w) (way : is_monotone (query_at queries q) ≡ true → OnTheWay (query_at queries q).field path last kept looks) (time : is_monotone (query_at queries q) ≡ true → InTime path looks) (refined : List ℕ) where
  abbrev its : TypedQuery
  its = query_at queries q

  abbrev its_looks : List Look
  its_looks = looks ++ record { window = w; unrefined = column_of its (level_rows its (finest_level its) (Some tuples)); refined = refined } ∷ []

  abbrev its_kept : List Set
  its_kept = kept_of its path (parts_in q its path (kept_at last kept w) tuples)

  with_field : {G : Type 0} (o : Option Field) → IsSome o → ((f : Field) → o ≡ Some f → G) → G
  with_field None some go = absurd (false≢true some)
  with_field (Some f) some go = go f refl

  pub way_kept : is_monotone its ≡ true → OnTheWay its.field path (Some w) its_kept its_looks
  way_kept mono =
      ∥∥₁_elim typed (way_prop_of its.field path w its_kept its_looks) (λ t.
      with_field its.field is_refined (λ field is_field. way_after window q queries field t lt is_field mono path ends looks last kept w tuples widths upto above (way mono) (time mono) refined))
    where
      way_prop_of : (field : Option Field) (path : List ℕ) (w : ℕ) (kept : List Set) (looks : List Look) → IsProp (OnTheWay field path (Some w) kept looks)
      way_prop_of field path w kept looks = hlevel Bool-set

  pub time_kept : ((last' : ℕ) → length path ≡ suc last' → refined ≡ column_of its (rows_at its path (kept_at last kept w) tuples last')) → is_monotone its ≡ true → InTime path its_looks
  time_kept same mono =
      ∥∥₁_elim typed (time_prop_of path its_looks) (λ t.
      with_field its.field is_refined (λ field is_field. time_after window q queries field t lt is_field mono path ends looks last kept w tuples widths upto above (way mono) (time mono) refined same))
    where
      time_prop_of : (path : List ℕ) (looks : List Look) → IsProp (InTime path looks)
      time_prop_of path looks = hlevel Bool-set

  pub upto_kept : AreUpTo (Some w) its_looks
  upto_kept = upto_more looks (record { window = w; unrefined = column_of its (level_rows its (finest_level its) (Some tuples)); refined = refined }) last upto above last looks upto above

-- the last of the parts
pub last_part : (q : ℕ) (path : List ℕ) (f : ℕ → List Row) (n : ℕ) (front : List Part) (part : Part) → length path ≡ suc n → map (part_at q path f) (range_with_len 0 (length path)) ≡ front ++ part ∷ [] → part.rows ≡ f n
last_part q path f n front part long e =
    let count = length-map-range_with_len (part_at q path f) 0 (length path) in
    let both = ap length e ∙ length-append front (part ∷ []) in
    let at : length front ≡ n = omega (arith, count, both, long) in
    let blank : Part = part in
    ap (λ (x : Part). x.rows) (sym (get_or_at front part [] blank n at) ∙ ap (λ xs. get_or xs n blank) (sym e) ∙ get_or-map-range_with_len (part_at q path f) 0 (length path) n n blank (omega (arith, long)) (omega arith))
