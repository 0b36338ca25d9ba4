-- serves proofs
-- What holds of a capture while its records are taken.
use Rattle.sn_command_captures.specs.declared.share.Share.{Share}
use Rattle.sn_windows.proofs.RunLemmas.{Rises}

-- the numbers of the windows of its records don't fall
abbrev pub IsSound : Share → Type 0
IsSound s = Rises s.records
