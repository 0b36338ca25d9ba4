-- Packet rows at two levels.
use Rattle.std.proofs.Common.{◌≡◌, ℕ, ◌+◌, ◌-◌, ◌*◌, ◌/◌, ◌^◌, ◌≤◌, List, [], ◌∷◌, map, filter, slice_get, slice_index, Bool, true, false, not, ◌||◌, ◌&&◌, ◌==◌, cond, nat_eq, Some, refl, ap, sym, ◌∙◌, subst, arith}
use Rattle.std.specs.List.{AllByRecursion}
use Rattle.std.proofs.Math.Nat.{div-div-eq-div-mul, mul-div_cancel, zero-div}
use Rattle.std.proofs.Math.Pow.{pow_pos}
use Rattle.std.proofs.lemmas.Bool.{false≢true}
use Rattle.std.proofs.lemmas.Nat.{pow-add}
use Rattle.sn_base.proofs.FoldedLemmas.{same_row_exact}
use Rattle.sn_base.proofs.Lists.{by_test, filter_map, filter_same, map_agree, map_both, nat_same, nat_self, some_same}
use Rattle.sn_base.specs.Groups.{Apart, Row, same_row}
use Rattle.sn_base.specs.Mask.{masked}
use Rattle.sn_base.specs.declared.column.Column.{Column}
use Rattle.sn_fields.specs.declared.field.Field.{Field}
use Rattle.sn_fields.specs.declared.field.Field.TheVariants.{PacketLength}
use Rattle.sn_fields.specs.Fields.{fields, name_of, number_of, width_of, with_name}
use Rattle.sn_fields.proofs.Naming.{with_name_all}
use Rattle.sn_types_faults.specs.Names.{Name, same_name}
use Rattle.sn_types_faults.specs.Columns.{field_column, has_column}
use Rattle.sn_types.specs.Typed.{is_field, packet_row, read_at}
use Rattle.sn_types.proofs.Known.{IsKnown, same_row_self}
use Rattle.sn_types.proofs.CarriedPlaces.{at_name, field_number, here, later}
use Rattle.sn_refine_laws.specs.Masking.{changed_at, shown}
use Rattle.sn_refine_laws.proofs.Within.{IsWithin, within_map, within_same}

-- ---- masks

pub masked_zero : (w keep : ℕ) → masked w keep 0 ≡ 0
masked_zero w keep = ap (λ n. n * 2 ^ (w - keep)) (zero-div (2 ^ (w - keep))) ∙ omega arith

-- a coarser mask after a finer one
pub masked_twice : (w coarse fine x : ℕ) → coarse ≤ fine → fine ≤ w → masked w coarse (masked w fine x) ≡ masked w coarse x
masked_twice w coarse fine x le within =
    let a : ℕ = 2 ^ (w - fine) in
    let c : ℕ = 2 ^ (fine - coarse) in
    let b : ℕ = 2 ^ (w - coarse) in
    let apart : b ≡ a * c = ap (λ n. 2 ^ n) (sums w coarse fine le within) ∙ pow-add 2 (w - fine) (fine - coarse) in
    let some = pow_pos (w - fine) in
    ap (λ n. n * b)
    (ap (λ n. x / a * a / n) apart ∙ sym (div-div-eq-div-mul (x / a * a) a c) ∙ ap (λ n. n / c) (mul-div_cancel (x / a) some) ∙ div-div-eq-div-mul x a c ∙ ap (λ n. x / n) (sym apart))
  where
    sums : (w coarse fine : ℕ) → coarse ≤ fine → fine ≤ w → w - coarse ≡ (w - fine) + (fine - coarse)
    sums w coarse fine le within = omega arith

-- ---- fields by their numbers

numbered : (f : Field) → slice_get fields (number_of f) ≡ Some f
numbered PacketLength = refl
numbered _ = refl

same_field : (f g : Field) → number_of f ≡ number_of g → f ≡ g
same_field f g e = some_same f g (sym (numbered f) ∙ ap (slice_get fields) e ∙ numbered g)

-- another field is read alike at each level
read_alike : (field g : Field) (F r : ℕ) (tuple : List ℕ) → same_name (name_of g) (name_of field) ≡ false → read_at (Some field) F tuple g ≡ read_at (Some field) r tuple g
read_alike field g F r tuple other =
    let isnt : (number_of field == number_of g) ≡ false =
    by_test (number_of field == number_of g)
    (λ is. let same : field ≡ g = same_field field g (nat_same (number_of field) (number_of g) is) in absurd (false≢true (sym other ∙ ap (λ (f : Field). same_name (name_of g) (name_of f)) same ∙ same_row_self (name_of g))))
    (λ isnt. isnt) in
    plain F isnt ∙ sym (plain r isnt)
  where
    plain : (level : ℕ) → (number_of field == number_of g) ≡ false → read_at (Some field) level tuple g ≡ slice_index tuple (number_of g)
    plain level isnt =
        elim (level == 0) as (λ z. cond (not z && (number_of field == number_of g)) (masked (width_of g) level (slice_index tuple (number_of g))) (slice_index tuple (number_of g)) ≡ slice_index tuple (number_of g)) [
          | true ↦ refl
          | false ↦ ap (λ b. cond b (masked (width_of g) level (slice_index tuple (number_of g))) (slice_index tuple (number_of g))) isnt
        ]

-- the refinement field at a level
pub read_masked : (field : Field) (level : ℕ) (tuple : List ℕ) → 1 ≤ level → read_at (Some field) level tuple field ≡ masked (width_of field) level (slice_index tuple (number_of field))
read_masked field level tuple some =
    ap (λ b. cond b (masked (width_of field) level (slice_index tuple (number_of field))) (slice_index tuple (number_of field)))
    (ap (λ z. not z && (number_of field == number_of field)) (above level some) ∙ nat_self (number_of field))
  where
    above : (level : ℕ) → 1 ≤ level → (level == 0) ≡ false
    above level some = by_test (level == 0) (λ is. let none = nat_same level 0 is in absurd (omega (arith, none, some))) (λ isnt. isnt)

module _ (field : Field) (F r : ℕ) (some : 1 ≤ r) (le : r ≤ F) (within : F ≤ width_of field) where
  abbrev mask : ℕ → ℕ
  mask = masked (width_of field) r

  read_coarser : (tuple : List ℕ) → mask (read_at (Some field) F tuple field) ≡ read_at (Some field) r tuple field
  read_coarser tuple =
      ap mask (read_masked field F tuple (omega (arith, some, le))) ∙ masked_twice (width_of field) r F (slice_index tuple (number_of field)) le within ∙ sym (read_masked field r tuple some)

  rest_alike : (tuple : List ℕ) (gs : List Field) → AllByRecursion (λ n. same_row (name_of field) n ≡ false) (map name_of gs) → map (read_at (Some field) F tuple) gs ≡ map (read_at (Some field) r tuple) gs
  rest_alike tuple [] far = refl
  rest_alike tuple (g ∷ gs) far =
      ap (λ n. n ∷ map (read_at (Some field) F tuple) gs) (read_alike field g F r tuple (turn (name_of field) (name_of g) far.0)) ∙ ap (λ ns. read_at (Some field) r tuple g ∷ ns) (rest_alike tuple gs far.1)
    where
      turn : (x y : Name) → same_row x y ≡ false → same_name y x ≡ false
      turn x y e = by_test (same_name y x) (λ is. absurd (false≢true (sym e ∙ ap (same_row x) (same_row_exact y x is) ∙ same_row_self x))) (λ isnt. isnt)

  -- the packet row at a coarser level is that at a finer one with the field masked
  pub row_coarser : (tuple : List ℕ) (name : Name) → with_name name ≡ Some field → name_of field ≡ name → (gs : List Field) → Apart same_row (map name_of gs) → IsKnown (map field_column gs) name →
      changed_at mask (packet_row (Some field) F gs tuple) (at_name (map field_column gs) name) ≡ packet_row (Some field) r gs tuple
  row_coarser tuple name is_field own [] apart known = absurd (false≢true known)
  row_coarser tuple name is_field own (g ∷ gs) apart known =
      let ns : Row = map (read_at (Some field) F tuple) gs in
      let n : ℕ = read_at (Some field) F tuple g in
      let following : List Column = map field_column gs in
      by_test (same_name (name_of g) name)
      (λ is. let same : field ≡ g = some_same field g (with_name_all name (Some field) (sym is_field) g (same_row_exact (name_of g) name is)) in
      ap (changed_at mask (n ∷ ns)) (here name (field_column g) following is)
      ∙ ap (λ x. x ∷ ns) (subst (λ (f : Field). mask (read_at (Some field) F tuple f) ≡ read_at (Some field) r tuple f) same (read_coarser tuple))
      ∙ ap (λ xs. read_at (Some field) r tuple g ∷ xs) (rest_alike tuple gs (subst (λ (f : Field). AllByRecursion (λ x. same_row (name_of f) x ≡ false) (map name_of gs)) (sym same) apart.0)))
      (λ isnt. ap (changed_at mask (n ∷ ns)) (later name (field_column g) following isnt)
      ∙ ap (λ x. x ∷ changed_at mask ns (at_name following name)) (read_alike field g F r tuple (ap (same_name (name_of g)) own ∙ isnt))
      ∙ ap (λ xs. read_at (Some field) r tuple g ∷ xs) (row_coarser tuple name is_field own gs apart.1 (sym (ap (λ b. b || has_column following name) isnt) ∙ known)))

  module _ (name : Name) (is_field : with_name name ≡ Some field) (own : name_of field ≡ name) (gs : List Field) (apart : Apart same_row (map name_of gs)) (known : IsKnown (map field_column gs) name) (a : ℕ) where
    abbrev place : ℕ
    place = at_name (map field_column gs) name

    abbrev is_a : List ℕ → Bool
    is_a tuple = nat_eq a (read_at (Some field) F tuple field)

    -- where the tuples of a number are within others, so are their rows within the rows of those
    pub rows_within : (tuples seen : List (List ℕ)) → IsWithin (filter is_a tuples) seen → IsWithin (shown mask a place (map (packet_row (Some field) F gs) tuples)) (map (packet_row (Some field) r gs) seen)
    rows_within tuples seen h =
        let fine : List ℕ → Row = packet_row (Some field) F gs in
        let coarse : List ℕ → Row = packet_row (Some field) r gs in
        let at : Row → Bool = λ row. nat_eq a (slice_index row place) in
        let mine : filter (λ tuple. at (fine tuple)) tuples ≡ filter is_a tuples =
        filter_same (λ tuple. at (fine tuple)) is_a (λ tuple. ap (nat_eq a) (field_number (Some field) F tuple field name is_field gs known)) tuples in
        within_same
        (sym (ap (map (λ row. changed_at mask row place)) (sym (filter_map fine at tuples) ∙ ap (map fine) mine)
        ∙ map_both fine (λ row. changed_at mask row place) (filter is_a tuples)
        ∙ map_agree (λ tuple. changed_at mask (fine tuple) place) coarse (λ tuple. row_coarser tuple name is_field own gs apart known) (filter is_a tuples)))
        (within_map coarse (filter is_a tuples) seen h)
