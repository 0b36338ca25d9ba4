-- serves proofs
-- Lists of rows that differ only in where repeated rows stand.
use Rattle.std.specs.Prelude.{◌≡◌, List, Bool, true, ◌==◌, Option, None, Some}
use Rattle.std.specs.List.{list_any}
use Rattle.sn_base.specs.Bags.{SameBag}
use Rattle.sn_base.specs.Groups.{Row, once, same_row}
use Rattle.sn_fields.specs.declared.field.Field.{Field}
use Rattle.sn_fields.specs.Fields.{number_of}

-- Two lists of rows are alike: the same bag, and their distinct rows come in the same order.
pub record Alike (xs ys : List Row) : Type 0 where
  pub bag : SameBag xs ys
  pub firsts : once same_row xs ≡ once same_row ys

-- the refinement field, where there is one, is among these
abbrev pub reads_refined : Option Field → List Field → Bool
reads_refined None fields = true
reads_refined (Some field) fields = list_any (λ f. number_of f == number_of field) fields
