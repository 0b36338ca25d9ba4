-- serves proofs
-- What choices take up together.
use Rattle.std.specs.Prelude.{◌≡◌, ◌≤◌, List, Bool}
use Rattle.std.specs.List.{sum_by, list_any, range_with_len}
use Rattle.sn_switch.specs.declared.switch.Switch.{Switch}
use Rattle.sn_plan_fit.specs.Capped.{capped}
use Rattle.sn_plan_fit.specs.Loads.{AreLoads}
use Rattle.sn_plan_choices.specs.Planning.{Taken, metadata_of, is_past, is_full, registers_in}
use Rattle.sn_plan_space.specs.declared.totals.Totals.{Totals}

pub record AreTotals (totals : Totals) (taken : List Taken) : Type 0 where
  pub of_loads : AreLoads totals.loads (registers_in taken)
  pub of_metadata : totals.metadata ≡ capped (sum_by metadata_of taken)
  pub of_past : totals.is_past ≡ list_any is_past taken

-- a stage has too much
abbrev pub any_full : Switch → List Taken → Bool
any_full s taken = list_any (is_full s taken) (range_with_len 0 s.stages)

-- the limits of a switch that a text can stand for, as far as sums go
pub record HasLimits (s : Switch) : Type 0 where
  pub stages : s.stages ≤ 32
  pub actions : s.actions ≤ 64
  pub bits : s.bits ≤ 4294967296
