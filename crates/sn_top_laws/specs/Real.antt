-- to be believed
-- Windows that a capture can have.
use Rattle.std.specs.Prelude.{◌<◌, ◌^◌}
use Rattle.std.specs.List.{AllByRecursion}
use Rattle.sn_windows.specs.Rising.{Window}
use Rattle.sn_types.specs.Typed.{HasWidths}

-- a window's number has 64 bits, and its tuples have the widths of their fields
abbrev pub IsReal : Window → Type 0
IsReal w = (w.0 < 2 ^ 64) × AllByRecursion HasWidths w.1
