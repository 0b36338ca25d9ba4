use Rattle.std.proofs.Common.{◌≡◌, ℕ, ◌<◌, ◌+◌, ◌*◌, ◌/◌, ◌^◌, List, [], ◌∷◌, ◌++◌, ◌-◌, replicate, length, ◌∙◌, sym, append_assoc, Result, Ok, Err, IfOk, suc, ap, subst, refl, arith}
use Rattle.std.proofs.Math.Nat.{lt-div-mul-add}
use Rattle.std.proofs.lemmas.Nat.{pow_pos}
use Rattle.sn_base.specs.declared.column.Column.{Column}
use Rattle.sn_base.specs.Columns.{IsOf}
use Rattle.sn_out.specs.Records.{eight_fields, number_fields}

-- a row of these columns has as many numbers
pub as_many_numbers : (columns : List Column) (row : List ℕ) → IsOf columns row → length columns ≡ length row
as_many_numbers [] [] h = refl
as_many_numbers [] (x ∷ xs) h = absurd h
as_many_numbers (c ∷ cs) [] h = absurd h
as_many_numbers (c ∷ cs) (x ∷ xs) h = ap suc (as_many_numbers cs xs h.1)

-- and as many fields
pub as_many_fields : (columns : List Column) (row : List ℕ) → IsOf columns row → length (number_fields columns row) ≡ length row
as_many_fields [] [] h = refl
as_many_fields [] (x ∷ xs) h = absurd h
as_many_fields (c ∷ cs) [] h = absurd h
as_many_fields (c ∷ cs) (x ∷ xs) h = ap suc (as_many_fields cs xs h.1)

-- after the fields of a row's numbers the rest of eight is empty
eight_of : (fields longer all : List (List ℕ)) (columns : List Column) (row : List ℕ) (count : ℕ) →
    IsOf columns row → count ≡ length row → longer ≡ fields ++ number_fields columns row →
    all ≡ longer ++ replicate (8 - count) [] → all ≡ fields ++ eight_fields (number_fields columns row)
eight_of fields longer all columns row count h same front e =
    e ∙ ap (λ xs. xs ++ replicate (8 - count) []) front
    ∙ append_assoc fields (number_fields columns row) (replicate (8 - count) [])
    ∙ ap (λ n. fields ++ (number_fields columns row ++ replicate (8 - n) [])) (same ∙ sym (as_many_fields columns row h))

pub filled_up : {E : Type 0} (result : Result (List (List ℕ)) E) (fields longer : List (List ℕ)) (columns : List Column) (row : List ℕ) (count : ℕ) →
    IsOf columns row → count ≡ length row → longer ≡ fields ++ number_fields columns row →
    IfOk result (λ all. all ≡ longer ++ replicate (8 - count) []) → IfOk result (λ all. all ≡ fields ++ eight_fields (number_fields columns row))
filled_up (Ok all) fields longer columns row count h same front e = eight_of fields longer all columns row count h same front e
filled_up (Err e) fields longer columns row count h same front k = k

-- a number without bits from a place on is below that power of two
pub below_power : (number width : ℕ) → number / 2 ^ width ≡ 0 → number < 2 ^ width
below_power number width h =
    let k : number < number / 2 ^ width * 2 ^ width + 2 ^ width = lt-div-mul-add (pow_pos width) in
    let k' : number < 0 * 2 ^ width + 2 ^ width = subst (λ q. number < q * 2 ^ width + 2 ^ width) h k in
    omega (arith, k')
