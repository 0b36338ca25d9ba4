use Rattle.std.proofs.Common.{is_some, ap, ◌∙◌}
use Rattle.std.specs.String.{string_bytes}
use Rattle.sn_io.specs.declared.known.Entry.{Entry}
use Rattle.sn_io.specs.Known.{is_named}
use Rattle.sn_io.proofs.Raised.{knows_is}
use Rattle.sn_io.proofs.Updates.{position_any}
use Rattle.sn_io.proofs.known.place_of.Goals as goal

pub returns-clause-known : goal.returns-clause-known
returns-clause-known c =
    let name = c.args.name.now in
    let known = c.args.known.now in
    ap is_some c.first_place.ensures
    ∙ position_any (λ (e : Entry). is_named name (string_bytes e.name, e.count)) known
    ∙ knows_is (λ (e : Entry). (string_bytes e.name, e.count)) name known
