-- serves proofs
use Rattle.std.specs.Prelude.{◌≡◌, ℕ, ◌+◌, ◌-◌, ◌^◌, List, [], ◌∷◌, Bool, nat_eq, nat_lt, if◌then◌else◌, None, Some}
use Rattle.std.specs.Cmp.Lexicographic.{pointwise}
use Rattle.std.specs.FinMap.{from_entries}
use Rattle.sn_base.specs.Changed.{with_first}
use Rattle.sn_io.specs.Counts.{ByName}

-- names, each with its count
abbrev pub Known : Type 0
Known = List (List ℕ × ℕ)

-- as a map, which has the first count of a name
abbrev pub counts_of : Known → ByName ℕ
counts_of known = from_entries known

-- one more, up to the greatest number of 64 bits
abbrev pub counted : ℕ → ℕ
counted n = if nat_lt n (2 ^ 64 - 1) then n + 1 else n

-- whether an entry has this name
abbrev pub is_named : {X : Type 0} → List ℕ → (List ℕ × X) → Bool
is_named name entry = pointwise nat_eq entry.0 name

-- the first count of this name is one more
abbrev pub raised : List ℕ → Known → Known
raised name = with_first (is_named name) (λ entry. (entry.0, counted entry.1))

-- where nothing is known, anything is so
pub none_reported : {A B : Type 0} {x : A} → None ≡ Some x → B
none_reported e = absurd (cc)
