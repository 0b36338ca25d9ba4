-- serves proofs
-- What a cell says of a key: its columns in two words, where they fit these.
use Rattle.std.specs.Prelude.{◌≡◌, ℕ, ◌+◌, ◌*◌, ◌/◌, ◌%◌, ◌^◌, ◌<◌, [], ◌∷◌, Bool, ◌&&◌, nat_eq, nat_lt, if◌then◌else◌}
use Rattle.sn_base.specs.Groups.{Row}
use Rattle.sn_chain.specs.declared.code.Code.{Code}

-- of a key that is held whole
abbrev pub whole_code : Code
whole_code = record { kind = 9; first = 0; second = 0 }

-- of a key that fits, or not
abbrev pub reported : Bool → Code → Code
reported fits code = if fits then code else whole_code

-- a column alone takes both words, two columns one each, and of three the second and third the halves of one
abbrev pub code_of : Row → Code
code_of [] = whole_code
code_of (a ∷ []) = record { kind = 1; first = a % 2 ^ 64; second = a / 2 ^ 64 }
code_of (a ∷ b ∷ []) = reported (nat_lt a (2 ^ 64) && nat_lt b (2 ^ 64)) (record { kind = 2; first = a; second = b })
code_of (a ∷ b ∷ c ∷ []) = reported (nat_lt a (2 ^ 64) && (nat_lt b (2 ^ 32) && nat_lt c (2 ^ 32))) (record { kind = 3; first = a; second = b + c * 2 ^ 32 })
code_of (a ∷ b ∷ c ∷ d ∷ key) = whole_code

-- the key that a cell has, by what it says of it and the key that it holds whole
abbrev pub key_in : Code → Row → Row
key_in code whole =
    if nat_eq code.kind 1 then (code.first + code.second * 2 ^ 64) ∷ []
    else if nat_eq code.kind 2 then code.first ∷ code.second ∷ []
    else if nat_eq code.kind 3 then code.first ∷ (code.second % 2 ^ 32) ∷ (code.second / 2 ^ 32) ∷ []
    else whole

-- what a cell says of its key is what is said of any
pub record IsStored (limit : ℕ) (code : Code) (whole : Row) : Type 0 where
  pub single : code.kind ≡ 1 → code.first + code.second * 2 ^ 64 < limit
  pub code_is : code ≡ code_of (key_in code whole)
