-- to be believed
-- The items of the branches of typed queries in several switches.
use Rattle.std.specs.Prelude.{◌≡◌, ℕ, List, map, Option, None}
use Rattle.std.specs.List.{flat_map}
use Rattle.sn_base.specs.Bags.{SameBag}
use Rattle.sn_engine_split.specs.Opened.{IsWithinLevel, Prefixes, left_in, tuples_admitted, tabled}
use Rattle.sn_ops.specs.Packets.{packet_rows}
use Rattle.sn_ops.specs.declared.packets.Kept.{Kept}
use Rattle.sn_report.specs.Items.{Item}
use Rattle.sn_types.specs.Cuts.{size_at}
use Rattle.sn_types.specs.Typed.{branch_of, query_at}
use Rattle.sn_types.specs.Values.{op_at}
use Rattle.sn_types.specs.declared.typed_query.TypedQuery.{TypedQuery}
use Rattle.sn_multi.specs.Switches.{all_items}

-- the tuples of several captures in a window, one capture after another
abbrev pub together : List (List (List ℕ)) → List (List ℕ)
together captures = flat_map (λ tuples. tuples) captures

-- the items of a branch at a level, over the tuples of each switch that are kept
abbrev pub many_items : TypedQuery → ℕ → ℕ → Option Kept → ℕ → ℕ → List ℕ → List (List (List ℕ)) → List Item
many_items query b level kept cut depth sizes captures =
    all_items depth (size_at (branch_of query b).ops sizes) cut (map (op_at level) (branch_of query b).ops)
    (map (packet_rows query b level kept) captures)

-- these are the items of a branch at a level in these switches, in whatever order: of some cut, chains and sizes
pub record AreOfSwitches (queries : List TypedQuery) (q b level : ℕ) (kept : Option Kept) (captures : List (List (List ℕ))) (found : List Item) : Type 0 where
  pub cut : ℕ
  pub depth : ℕ
  pub sizes : List ℕ
  pub same : SameBag (many_items (query_at queries q) b level kept cut depth sizes captures) found

-- These are left of the items of a branch at a level in these switches, in whatever order they came: of some cut, chains and sizes, and
-- where each switch has a table of some number of entries for these prefixes, open or not.
pub record AreLeftOfSwitches (queries : List TypedQuery) (q b level : ℕ) (ps : Option Prefixes) (captures : List (List (List ℕ)))
    (found : List Item) : Type 0 where
  pub cut : ℕ
  pub depth : ℕ
  pub sizes : List ℕ
  pub entries : Option ℕ
  pub sent : List Item
  pub low : IsWithinLevel level ps
  pub same : SameBag
      (many_items (query_at queries q) b level None cut depth sizes (map (tuples_admitted (query_at queries q) (tabled entries ps)) captures)) sent
  pub is : found ≡ left_in (query_at queries q) b ps sent
