-- Items that go from lanes to those of the same names.
use Rattle.std.proofs.Common.{◌≡◌, ℕ, zero, suc, ◌+◌, ◌<◌, ◌==◌, ◌&&◌, ◌||◌, ◌^◌, List, [], ◌∷◌, map, fold, length, Bool, true, false, cond, Option, None, Some, refl, ap, sym, ◌∙◌, subst, arith, length-append, zip}
use Rattle.std.specs.List.{AllByRecursion, find, list_all, list_any}
use Rattle.std.specs.Option.{option_map_or}
use Rattle.std.proofs.lemmas.Bool.{and_parts, eq-eqb, false≢true}
use Rattle.std.proofs.lemmas.List.{length-map}
use Rattle.sn_base.proofs.Lists.{all_append, and_both, by_test, nat_same}
use Rattle.sn_base.specs.Changed.{with_first}
use Rattle.sn_base.specs.Columns.{IsOf}
use Rattle.sn_base.specs.Groups.{Row}
use Rattle.sn_base.specs.declared.column.Column.{Column}
use Rattle.sn_base.specs.declared.lane.Lane.{Lane}
use Rattle.sn_engine.proofs.Ends.{all_same, any_same}
use Rattle.sn_engine.proofs.Firsts.{all_changed, length_changed, sum_changed, sum_cons}
use Rattle.sn_engine.specs.Intakes.{AreIntakes, EndsAgree, IsIntake, agrees, emptied, has_ended, is_lane, total}
use Rattle.sn_engine.specs.Moving.{after_lane, fits_lane, has_lane_for, has_name, keeps_columns, name_of, same_both, same_schemas, same_width, same_widths, with_items}
use Rattle.sn_engine.specs.Turns.{lane_tag, turn}
use Rattle.sn_engine.specs.declared.intake.Intake.{Intake}
use Rattle.sn_engine_split.specs.Branches.{IsItemOf, tag_columns}
use Rattle.sn_report.specs.Frames.{operator_of}
use Rattle.sn_report.specs.Items.{Item}
use Rattle.sn_report.specs.declared.frame.Tag.{Tag}
use Rattle.sn_report.specs.declared.frame.Tag.TheVariants.{At, Partial}
use Rattle.sn_pipe_items.specs.Value.{is_at}
use Rattle.sn_types.specs.Typed.{branch_at, schema_at}
use Rattle.sn_types.specs.declared.typed_query.TypedBranch.{TypedBranch}
use Rattle.sn_types.specs.declared.typed_query.TypedQuery.{TypedQuery}

-- without a tag items stay as they are
pub none_turned : (items : List Item) → items ≡ map (turn None) items
none_turned [] = refl
none_turned (item ∷ items) = ap (λ (is : List Item). item ∷ is) (none_turned items)

-- ---- columns

none_as_long : (n : ℕ) (rest : Bool) → ((0 == suc n) && rest) ≡ true → ⊥
none_as_long n rest same = let none : 0 ≡ suc n = nat_same 0 (suc n) (and_parts (0 == suc n) rest same).0 in omega (arith, none)

some_as_long : (n : ℕ) (rest : Bool) → ((suc n == 0) && rest) ≡ true → ⊥
some_as_long n rest same = let none : suc n ≡ 0 = nat_same (suc n) 0 (and_parts (suc n == 0) rest same).0 in omega (arith, none)

one_less : (n m : ℕ) (rest : Bool) → ((suc n == suc m) && rest) ≡ true → ((n == m) ≡ true) × (rest ≡ true)
one_less n m rest same =
    let parts = and_parts (suc n == suc m) rest same in
    let both : suc n ≡ suc m = nat_same (suc n) (suc m) parts.0 in
    (eq-eqb n m (omega (arith, both)), parts.1)

-- columns have their own widths
pub own_widths : (cs : List Column) → same_widths cs cs ≡ true
own_widths cs = and_both (length cs == length cs) (list_all same_width (zip cs cs)) (eq-eqb (length cs) (length cs) refl) (each cs)
  where
    each : (ds : List Column) → list_all same_width (zip ds ds) ≡ true
    each [] = refl
    each (d ∷ ds) = and_both (same_width (d, d)) (list_all same_width (zip ds ds)) (eq-eqb d.width d.width refl) (each ds)

-- a row of columns is one of others of the same widths
of_same : (cs ds : List Column) (row : Row) → same_widths cs ds ≡ true → IsOf cs row → IsOf ds row
of_same [] [] row same h = h
of_same [] (d ∷ ds) row same h = absurd (none_as_long (length ds) (list_all same_width (zip [] (d ∷ ds))) same)
of_same (c ∷ cs) [] row same h = absurd (some_as_long (length cs) (list_all same_width (zip (c ∷ cs) [])) same)
of_same (c ∷ cs) (d ∷ ds) [] same h = absurd h
of_same (c ∷ cs) (d ∷ ds) (x ∷ row) same h =
    let parts = one_less (length cs) (length ds) (same_width (c, d) && list_all same_width (zip cs ds)) same in
    let first = and_parts (same_width (c, d)) (list_all same_width (zip cs ds)) parts.1 in
    (subst (λ w. x < 2 ^ w) (nat_same c.width d.width first.0) h.0, of_same cs ds row (and_both (length cs == length ds) (list_all same_width (zip cs ds)) parts.0 first.1) h.1)

same_at : (ss ts : List (List Column)) (i : ℕ) → same_schemas ss ts ≡ true → same_widths (schema_at ss i) (schema_at ts i) ≡ true
same_at [] [] i same = refl
same_at [] (t ∷ ts) i same = absurd (none_as_long (length ts) (list_all same_both (zip [] (t ∷ ts))) same)
same_at (s ∷ ss) [] i same = absurd (some_as_long (length ss) (list_all same_both (zip (s ∷ ss) [])) same)
same_at (s ∷ ss) (t ∷ ts) zero same =
    (and_parts (same_both (s, t)) (list_all same_both (zip ss ts)) (one_less (length ss) (length ts) (same_both (s, t) && list_all same_both (zip ss ts)) same).1).0
same_at (s ∷ ss) (t ∷ ts) (suc i) same =
    let parts = one_less (length ss) (length ts) (same_both (s, t) && list_all same_both (zip ss ts)) same in
    same_at ss ts i (and_both (length ss == length ts) (list_all same_both (zip ss ts)) parts.0 (and_parts (same_both (s, t)) (list_all same_both (zip ss ts)) parts.1).1)

tag_same : (ss ts : List (List Column)) (tag : Tag) → same_schemas ss ts ≡ true → same_widths (tag_columns ss tag) (tag_columns ts tag) ≡ true
tag_same ss ts (At i) same = same_at ss ts i same
tag_same ss ts (Partial i) same = same_at ss ts (suc i) same

-- a row that stands after an operator has the columns after it
after_of : (ss : List (List Column)) (i : ℕ) (tag : Tag) (row : Row) → is_at (suc i) tag ≡ true → IsOf (tag_columns ss tag) row → IsOf (schema_at ss (suc i)) row
after_of ss i (At j) row is h = subst (λ n. IsOf (schema_at ss n) row) (sym (nat_same (suc i) j is)) h
after_of ss i (Partial j) row is h = absurd (false≢true is)

-- an item of a branch is, with its tag among several switches, one of a branch of the same columns
one_fits : (a b : TypedBranch) (tag : Option Tag) (item : Item) → same_schemas a.schemas b.schemas ≡ true → keeps_columns a.schemas tag ≡ true → IsItemOf a item → IsItemOf b (turn tag item)
one_fits a b None item same keeps h = of_same (tag_columns a.schemas item.tag) (tag_columns b.schemas item.tag) item.row (tag_same a.schemas b.schemas item.tag same) h
one_fits a b (Some tag) item same keeps h =
    by_test (is_at (suc (operator_of tag)) item.tag)
    (λ is. subst (IsItemOf b) (sym (ap (λ t. cond t (record { tag = tag; row = item.row }) item) is))
    (of_same (tag_columns a.schemas tag) (tag_columns b.schemas tag) item.row (tag_same a.schemas b.schemas tag same)
    (of_same (schema_at a.schemas (suc (operator_of tag))) (tag_columns a.schemas tag) item.row keeps (after_of a.schemas (operator_of tag) item.tag item.row is h))))
    (λ isnt. subst (IsItemOf b) (sym (ap (λ t. cond t (record { tag = tag; row = item.row }) item) isnt))
    (of_same (tag_columns a.schemas item.tag) (tag_columns b.schemas item.tag) item.row (tag_same a.schemas b.schemas item.tag same) h))

all_fit : (a b : TypedBranch) (tag : Option Tag) (items : List Item) → same_schemas a.schemas b.schemas ≡ true → keeps_columns a.schemas tag ≡ true
    → AllByRecursion (IsItemOf a) items → AllByRecursion (IsItemOf b) (map (turn tag) items)
all_fit a b tag [] same keeps h = tt
all_fit a b tag (item ∷ items) same keeps h = (one_fits a b tag item same keeps h.0, all_fit a b tag items same keeps h.1)

-- ---- names

found_any : (test : Intake → Bool) (lanes : List Intake) (y : Intake) → find test lanes ≡ Some y → list_any test lanes ≡ true
found_any test [] y found = cc
found_any test (z ∷ lanes) y found =
    elim (test z) as (λ b. cond b (Some z) (find test lanes) ≡ Some y → (b || list_any test lanes) ≡ true) [
      | true ↦ λ e. refl
      | false ↦ λ e. found_any test lanes y e
    ] found

pub none_any : (test : Intake → Bool) (lanes : List Intake) → find test lanes ≡ None → list_any test lanes ≡ false
none_any test [] none = refl
none_any test (z ∷ lanes) none =
    elim (test z) as (λ b. cond b (Some z) (find test lanes) ≡ None → (b || list_any test lanes) ≡ false) [
      | true ↦ λ e. cc
      | false ↦ λ e. none_any test lanes e
    ] none

-- ---- a lane more

module _ (own given : List TypedQuery) where
  -- the lane that takes the items
  record Taker (lanes : List Intake) (x : Intake) : Type 0 where
    pub y : Intake
    pub found : find (is_lane (name_of x)) lanes ≡ Some y
    pub fits : fits_lane given x own y ≡ true

  taker : (lanes : List Intake) (x : Intake) → has_lane_for own lanes given x ≡ true → Taker lanes x
  taker lanes x has = by_found (find (is_lane (name_of x)) lanes) refl has
    where
      by_found : (o : Option Intake) → find (is_lane (name_of x)) lanes ≡ o → option_map_or (fits_lane given x own) o false ≡ true → Taker lanes x
      by_found None found e = absurd (false≢true e)
      by_found (Some y) found e = record { y = y; found = found; fits = e }

  pub all_named : (lanes xs : List Intake) → list_all (has_lane_for own lanes given) xs ≡ true → list_all (has_name lanes) xs ≡ true
  all_named lanes [] has = refl
  all_named lanes (x ∷ xs) has =
      let parts = and_parts (has_lane_for own lanes given x) (list_all (has_lane_for own lanes given) xs) has in
      let t = taker lanes x parts.0 in
      and_both (has_name lanes x) (list_all (has_name lanes) xs) (found_any (is_lane (name_of x)) lanes t.y t.found) (all_named lanes xs parts.1)

  -- lanes after the items of others
  pub record Moved (lanes more after : List Intake) : Type 0 where
    pub counted : total after ≡ total lanes + total more
    pub long : length after ≡ length lanes
    pub agreed : EndsAgree after
    pub sound : AreIntakes own after

  one_moved : (lanes : List Intake) (x : Intake) → has_lane_for own lanes given x ≡ true → IsIntake given x → EndsAgree lanes → AreIntakes own lanes → Moved lanes (x ∷ []) (after_lane given lanes x)
  one_moved lanes x has is agreed sound =
      let t = taker lanes x has in
      let tag = lane_tag given x in
      let items : List Item = map (turn tag) x.items in
      let test : Intake → Bool = is_lane (name_of x) in
      let a = branch_at given x.query x.branch in
      let b = branch_at own t.y.query t.y.branch in
      let parts = and_parts (same_schemas a.schemas b.schemas) (keeps_columns a.schemas tag) t.fits in
      let more = sum_changed (λ (z : Intake). length z.items) test (with_items items) (length items) (λ z. length-append z.items items) lanes t.y t.found in
      let single = sum_cons (λ (z : Intake). length z.items) x [] in
      record {
        counted = omega (arith, more, single, length-map x.items (turn tag));
        long = length_changed test (with_items items) lanes;
        agreed = λ window any. all_same (agrees window) test (with_items items) (λ z. refl) lanes ∙ agreed window (sym (any_same (has_ended window) test (with_items items) (λ z. refl) lanes) ∙ any);
        sound = all_changed (IsIntake own) test (with_items items) lanes t.y t.found
            (λ s. record { query = s.query; branch = s.branch; each = all_append (IsItemOf b) t.y.items items s.each (all_fit a b tag x.items parts.0 parts.1 is.each) }) sound;
      }

  -- the lanes of the other names
  lane_kept : (n : Lane) (f : Intake → Bool) (test : Intake → Bool) (items : List Item) → ((z : Intake) → f (with_items items z) ≡ f z) → (lanes : List Intake)
      → option_map_or f (find (is_lane n) (with_first test (with_items items) lanes)) false ≡ option_map_or f (find (is_lane n) lanes) false
  lane_kept n f test items same [] = refl
  lane_kept n f test items same (z ∷ lanes) =
      let rest : List Intake = with_first test (with_items items) lanes in
      elim (test z) as (λ b. option_map_or f (find (is_lane n) (cond b (with_items items z ∷ lanes) (z ∷ rest))) false ≡ option_map_or f (find (is_lane n) (z ∷ lanes)) false) [
        | true ↦ elim (is_lane n z) as (λ b. option_map_or f (cond b (Some (with_items items z)) (find (is_lane n) lanes)) false ≡ option_map_or f (cond b (Some z) (find (is_lane n) lanes)) false) [
          | true ↦ same z
          | false ↦ refl
        ]
        | false ↦ elim (is_lane n z) as (λ b. option_map_or f (cond b (Some z) (find (is_lane n) rest)) false ≡ option_map_or f (cond b (Some z) (find (is_lane n) lanes)) false) [
          | true ↦ refl
          | false ↦ lane_kept n f test items same lanes
        ]
      ]

  pub lanes_kept : (lanes : List Intake) (x : Intake) (xs : List Intake) → list_all (has_lane_for own (after_lane given lanes x) given) xs ≡ list_all (has_lane_for own lanes given) xs
  lanes_kept lanes x [] = refl
  lanes_kept lanes x (y ∷ xs) =
      ap (λ b. b && list_all (has_lane_for own (after_lane given lanes x) given) xs)
      (lane_kept (name_of y) (fits_lane given y own) (is_lane (name_of x)) (map (turn (lane_tag given x)) x.items) (λ z. refl) lanes)
      ∙ ap (λ b. has_lane_for own lanes given y && b) (lanes_kept lanes x xs)

  -- ---- all lanes

  pub all_moved : (lanes xs : List Intake) → list_all (has_lane_for own lanes given) xs ≡ true → AreIntakes given xs → EndsAgree lanes → AreIntakes own lanes → Moved lanes xs (fold (after_lane given) lanes xs)
  all_moved lanes [] has are agreed sound = record { counted = omega arith; long = refl; agreed = agreed; sound = sound }
  all_moved lanes (x ∷ xs) has are agreed sound =
      let parts = and_parts (has_lane_for own lanes given x) (list_all (has_lane_for own lanes given) xs) has in
      let one = one_moved lanes x parts.0 are.0 agreed sound in
      let rest = all_moved (after_lane given lanes x) xs (lanes_kept lanes x xs ∙ parts.1) are.1 one.agreed one.sound in
      let first = sum_cons (λ (z : Intake). length z.items) x [] in
      let both = sum_cons (λ (z : Intake). length z.items) x xs in
      record {
        counted = omega (arith, one.counted, rest.counted, first, both);
        long = rest.long ∙ one.long;
        agreed = rest.agreed;
        sound = rest.sound;
      }

-- ---- names, as lanes are gone through

name_kept : (given : List TypedQuery) (lanes : List Intake) (x y : Intake) → has_name (after_lane given lanes x) y ≡ has_name lanes y
name_kept given lanes x y = any_same (is_lane (name_of y)) (is_lane (name_of x)) (with_items (map (turn (lane_tag given x)) x.items)) (λ z. refl) lanes

pub names_kept : (given : List TypedQuery) (lanes : List Intake) (x : Intake) (xs : List Intake) → list_all (has_name (after_lane given lanes x)) xs ≡ list_all (has_name lanes) xs
names_kept given lanes x [] = refl
names_kept given lanes x (y ∷ xs) =
    ap (λ b. b && list_all (has_name (after_lane given lanes x)) xs) (name_kept given lanes x y)
    ∙ ap (λ b. has_name lanes y && b) (names_kept given lanes x xs)

pub emptied_kept : (test : Intake → Bool) (items : List Item) (lanes : List Intake) → map emptied (with_first test (with_items items) lanes) ≡ map emptied lanes
emptied_kept test items [] = refl
emptied_kept test items (z ∷ lanes) =
    elim (test z) as (λ b. map emptied (cond b (with_items items z ∷ lanes) (z ∷ with_first test (with_items items) lanes)) ≡ emptied z ∷ map emptied lanes) [
      | true ↦ refl
      | false ↦ ap (λ ls. emptied z ∷ ls) (emptied_kept test items lanes)
    ]
