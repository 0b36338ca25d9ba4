-- to be believed
-- What an engine keeps of its last close, and the items that it drops by it.
use Rattle.std.specs.Prelude.{ℕ, suc, List, [], ◌∷◌, map, Bool, ◌&&◌, ◌==◌, nat_eq, Option, None, Some, if◌then◌else◌}
use Rattle.std.specs.List.{find}
use Rattle.std.specs.Option.{option_map, option_map_or}
use Rattle.std.specs.FinSet as set
use Rattle.sn_base.specs.Groups.{Row}
use Rattle.sn_engine_split.specs.Opened.{Prefixes, left_in}
use Rattle.sn_refine.specs.Steps.{Set, prefixes_of}
use Rattle.sn_types.specs.declared.answers.Part.{Part}
use Rattle.sn_types.specs.declared.typed_query.TypedQuery.{TypedQuery}
use Rattle.sn_types.specs.Typed.{query_at}
use Rattle.sn_engine.specs.declared.intake.Intake.{Intake}

-- ---- what is kept of answers

-- the rows of the answer of a query at a level, and none where there is no such answer
abbrev pub is_part : ℕ → ℕ → Part → Bool
is_part q level part = (part.query == q) && (part.level == level)

abbrev pub rows_found : List Part → ℕ → ℕ → List Row
rows_found parts q level = option_map_or (λ (part : Part). part.rows) (find (is_part q level) parts) []

-- the prefixes that these answers have of a query at a level, and none where no level is named
abbrev pub level_prefixes : List TypedQuery → List Part → ℕ → Option ℕ → Set
level_prefixes queries parts q None = set.empty
level_prefixes queries parts q (Some level) = prefixes_of (query_at queries q) (rows_found parts q level)

-- those at the level before a lane's own
abbrev pub prefixes_for : List TypedQuery → List Part → Intake → Set
prefixes_for queries parts x = level_prefixes queries parts x.query x.before

-- lane by lane
abbrev pub gathered : List TypedQuery → List Part → List Intake → List Set
gathered queries parts lanes = map (prefixes_for queries parts) lanes

-- The prefixes for a window, lane by lane: those of the last close, if that closed the window before this one, and none else.
abbrev pub kept_for : Option ℕ → List Set → ℕ → List Set
kept_for None sets window = []
kept_for (Some closed) sets window = if nat_eq window (suc closed) then sets else []

-- ---- the items that are left

-- prefixes of the level before, if there is one
abbrev pub with_bits : Option ℕ → Set → Option Prefixes
with_bits before members = option_map (λ bits. (bits, members)) before

-- a lane without its items of other prefixes
abbrev pub left : List TypedQuery → Set → Intake → Intake
left queries members x = record x { items = left_in (query_at queries x.query) x.branch (with_bits x.before members) x.items }

-- each lane with its own prefixes, and with none where there are none for it
abbrev pub all_left : List TypedQuery → List Set → List Intake → List Intake
all_left queries sets [] = []
all_left queries [] (x ∷ xs) = left queries set.empty x ∷ all_left queries [] xs
all_left queries (members ∷ sets) (x ∷ xs) = left queries members x ∷ all_left queries sets xs
