-- A level that keeps all bits of the refinement field masks nothing.
use Rattle.std.proofs.Common.{◌≡◌, ℕ, ◌-◌, ◌*◌, ◌/◌, ◌^◌, ◌≤◌, IfSome, List, [], ◌∷◌, Bool, true, false, ◌&&◌, not, ◌==◌, cond, slice_index, Option, None, Some, arith, refl, ap, sym, ◌∙◌}
use Rattle.sn_base.proofs.Lists.{by_test, nat_same}
use Rattle.sn_base.specs.Mask.{masked}
use Rattle.sn_fields.specs.declared.field.Field.{Field}
use Rattle.sn_fields.specs.Fields.{rows, number_of, row_of, width_of}
use Rattle.sn_fields.specs.declared.field.Meaning.TheVariants.{Number}
use Rattle.sn_types.specs.Typed.{packet_row, read_at}
use Rattle.std.specs.Prelude.{slice_index_or}
use Rattle.std.proofs.lemmas.Bool.{false≢true}
use Rattle.std.proofs.Math.Nat.{div-one}

-- all bits of a number are kept
masked_whole : (w x : ℕ) → masked w w x ≡ x
masked_whole w x =
    let none : w - w ≡ 0 = omega arith in
    let by_one : x / 1 * 1 ≡ x / 1 = omega arith in
    ap (λ (k : ℕ). x / 2 ^ k * 2 ^ k) none ∙ by_one ∙ div-one x

-- fields of one number have one width
same_width : (f g : Field) → number_of f ≡ number_of g → width_of f ≡ width_of g
unfolding row_of
same_width f g e = ap (λ (n : ℕ). (slice_index_or rows n (record { name = []; width = 0; meaning = Number })).width) e

read_whole : (g f : Field) (tuple : List ℕ) → read_at (Some g) 0 tuple f ≡ read_at (Some g) (width_of g) tuple f
read_whole g f tuple =
    let x = slice_index tuple (number_of f) in
    by_test (not (width_of g == 0) && (number_of g == number_of f))
    (λ is. sym (ap (λ (b : Bool). cond b (masked (width_of f) (width_of g) x) x) is
    ∙ ap (λ (w : ℕ). masked w (width_of g) x) (sym (same_width g f (nat_same (number_of g) (number_of f) (both (not (width_of g == 0)) (number_of g == number_of f) is))))
    ∙ masked_whole (width_of g) x))
    (λ isnt. sym (ap (λ (b : Bool). cond b (masked (width_of f) (width_of g) x) x) isnt))
  where
    both : (a b : Bool) → (a && b) ≡ true → b ≡ true
    both true b e = e
    both false b e = absurd (false≢true e)

-- the row of a packet at such a level is that at level 0
pub whole_level : (g : Field) (fields : List Field) (tuple : List ℕ) → packet_row (Some g) 0 fields tuple ≡ packet_row (Some g) (width_of g) fields tuple
whole_level g [] tuple = refl
whole_level g (f ∷ fields) tuple = ap (λ (x : ℕ). x ∷ packet_row (Some g) 0 fields tuple) (read_whole g f tuple) ∙ ap (λ (row : List ℕ). read_at (Some g) (width_of g) tuple f ∷ row) (whole_level g fields tuple)

-- a level that isn't greater fits where another one does
pub lower_fits : (refined : Option Field) (level lower : ℕ) → lower ≤ level → IfSome refined (λ other. level ≤ width_of other) → IfSome refined (λ other. lower ≤ width_of other)
lower_fits None level lower less h = tt
lower_fits (Some other) level lower less h = omega (arith, less, h)
