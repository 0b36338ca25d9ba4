-- serves proofs
-- What `Windows` keeps.
use Rattle.sn_windows.specs.Numbering.{Numbering}
use Rattle.sn_windows.specs.declared.windows.Windows.{Windows}

abbrev pub numbering : Windows → Numbering
numbering w = record { window = w.window_ns; first = w.first; number = w.number; count = w.count }
