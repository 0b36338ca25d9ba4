-- serves proofs
-- Cost tables whose entries are those of training windows.
use Rattle.std.specs.Prelude.{◌≡◌, ℕ, List}
use Rattle.sn_switch.specs.declared.switch.Switch.{Switch}
use Rattle.sn_types.specs.declared.typed_query.TypedQuery.{TypedQuery}
use Rattle.sn_windows.specs.Rising.{Window}
use Rattle.sn_cost.specs.Entries.{IsPiece}
use Rattle.sn_cost_laws.specs.Space.{trained_entry}

-- the entry of each piece is what it costs over these windows
abbrev pub AreCounted : Switch → List TypedQuery → List Window → (ℕ → ℕ → ℕ → ℕ → ℕ) → Type 0
AreCounted s queries given entry = (q prefix b n : ℕ) → IsPiece s queries q prefix b n → entry q prefix b n ≡ trained_entry s queries given q prefix b n
