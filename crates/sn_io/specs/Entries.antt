-- serves proofs
use Rattle.std.specs.Prelude.{List, map}
use Rattle.std.specs.String.{string_bytes}
use Rattle.sn_io.specs.declared.known.Entry.{Entry}
use Rattle.sn_io.specs.Known.{Known}

-- the entries as names and counts
abbrev pub entries : List Entry → Known
entries = map (λ e. (string_bytes e.name, e.count))
