use Rattle.std.proofs.Common.{◌≡◌, ◌<◌, ◌≤◌, ◌⊎◌, ℕ, List, length, refl, subst, lit≤, arith}
use Rattle.sn_fields.specs.declared.field.Field.{Field}
use Rattle.sn_fields.specs.declared.field.Field.TheVariants.{PacketLength}
use Rattle.sn_fields.specs.Fields.{row_of, name_of}
use Rattle.sn_types_faults.proofs.columns.field_column.Goals as goal

-- each name has one byte at least, and 32 at most
name_some : (field : Field) → 1 ≤ length (name_of field)
unfolding row_of
name_some PacketLength = lit≤ tt
name_some _ = lit≤ tt

name_most : (field : Field) → length (name_of field) ≤ 32
unfolding row_of
name_most PacketLength = lit≤ tt
name_most _ = lit≤ tt

not_fit : (n : ℕ) → 1 ≤ n → n ≤ 32 → (n ≡ 0) ⊎ (32 < n) → ⊥
not_fit n some most wrong = omega (arith, some, most, wrong)

pub unreachable-requires : goal.unreachable-requires
unreachable-requires c =
    let unfit = c.in_default.ensures.none.0 refl in
    let field = c.args.field in
    not_fit (length (name_of field)) (name_some field) (name_most field)
    (subst (λ (name : List ℕ). (length name ≡ 0) ⊎ (32 < length name)) c.name.ensures unfit)
