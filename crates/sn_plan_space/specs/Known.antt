-- serves proofs
-- What is known of the tasks of planning before any choice is made.
use Rattle.std.specs.Prelude.{ℕ, ◌+◌, List, [], ◌∷◌, map, take, false}
use Rattle.std.specs.List.{range_with_len, sum_by}
use Rattle.sn_switch.specs.declared.switch.Switch.{Switch}
use Rattle.sn_types.specs.declared.typed_query.TypedQuery.{TypedQuery}
use Rattle.sn_plan_fit.specs.Capped.{capped}
use Rattle.sn_plan_fit.specs.Registers.{metadata}
use Rattle.sn_plan_choices.specs.Options.{plain, keyed, option_at, paths}
use Rattle.sn_plan_choices.specs.Options as choices
use Rattle.sn_plan_choices.specs.Within.{least_below}
use Rattle.sn_plan_choices.specs.Planning.{PieceTask, PathTask, pieces_of, slots_of, entry_of, settings, least_entry}
use Rattle.sn_plan_space.specs.declared.known.Slot.{Slot}
use Rattle.sn_plan_space.specs.declared.known.Slot.TheVariants.{Plain, Keyed}
use Rattle.sn_plan_space.specs.declared.known.KnownOption.{KnownOption}
use Rattle.sn_plan_space.specs.declared.known.KnownPiece.{KnownPiece}
use Rattle.sn_plan_space.specs.declared.known.KnownQuery.{KnownQuery}

abbrev pub known_slot : choices.Slot → Slot
known_slot plain = Plain
known_slot (keyed bits) = Keyed (capped bits)

module _ (s : Switch) (entry : ℕ → ℕ → ℕ → ℕ → ℕ) where
  -- an option of a piece, by its number
  abbrev pub known_option : PieceTask → ℕ → KnownOption
  known_option t x = record {
    cost = entry_of s entry t x;
    metadata = metadata t.branch.schemas false 0 (take (option_at s t.branch x).0 t.branch.ops);
    slots = map known_slot (slots_of s entry t x);
  }

  -- a piece with its options
  abbrev pub known_piece : PieceTask → KnownPiece
  known_piece t = record { least = least_entry s entry t; count = settings s entry t; options = map (known_option t) (range_with_len 0 (settings s entry t)) }

  -- the pieces of a path, by its number
  abbrev pub known_path : PathTask → ℕ → List KnownPiece
  known_path t m = map known_piece (pieces_of t m)

  -- the least that a path costs, or 2^64 - 1 where it is more
  abbrev pub capped_path : PathTask → ℕ → ℕ
  capped_path t m = capped (sum_by (least_entry s entry) (pieces_of t m))

  -- a query with its paths
  abbrev pub known_query : PathTask → KnownQuery
  known_query t = record {
    least = least_below (capped_path t) (paths t.typed.levels);
    count = paths t.typed.levels;
    paths = map (known_path t) (range_with_len 0 (paths t.typed.levels));
  }

-- queries with their numbers, from this one on
abbrev pub numbered : ℕ → List TypedQuery → List PathTask
numbered n [] = []
numbered n (q ∷ qs) = record { query = n; typed = q } ∷ numbered (n + 1) qs
