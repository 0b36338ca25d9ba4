-- Each field stands at its number in the table, and has its name alone.
use Rattle.std.proofs.Common.{true, false, ◌≡◌, ◌≢◌, ◌↔◌, ℕ, List, Option, None, Some, IfSome, IsNone, refl, subst}
use Rattle.sn_fields.specs.declared.field.Field.{Field}
use Rattle.sn_fields.specs.declared.field.Field.TheVariants.{PacketLength}
use Rattle.sn_fields.specs.Fields.{row_of, name_of, with_name}

own_name : (field : Field) → with_name (name_of field) ≡ Some field
unfolding row_of
own_name PacketLength = refl
own_name _ = refl

-- the field of a name is the one that has it
pub with_name_all : (name : List ℕ) (result : Option Field) → result ≡ with_name name → (field : Field) → name_of field ≡ name → result ≡ Some field
with_name_all name result found field same =
    let own : with_name name ≡ Some field = subst (λ (n : List ℕ). with_name n ≡ Some field) same (own_name field) in
    cc

-- an option that is none isn't some
some_is : true ≡ false → ⊥
some_is wrong = cc

-- none where none has it
pub with_name_none : (name : List ℕ) (result : Option Field) → IfSome result (λ f. name_of f ≡ name) → ((field : Field) → name_of field ≡ name → result ≡ Some field)
    → IsNone result ↔ ((field : Field) → name_of field ≢ name)
with_name_none name None named all = (λ _ field same. let wrong = all field same in cc, λ _. refl)
with_name_none name (Some f) named all = (λ none. absurd (some_is none), λ others. absurd (others f named))
