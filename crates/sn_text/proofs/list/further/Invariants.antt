use Rattle.std.proofs.Common.{◌≡◌, length}
use Rattle.sn_text_rules.specs.Rules.{kept, links}
use Rattle.sn_text.specs.Lexing.{left}
use Rattle.sn_text.proofs.list.further.Given as goal

abbrev pub invariant-items : goal.invariant-items
invariant-items g l = let L = g.L.Items in links (L.goes l.list) (L.shut l.list) (L.rule l.list) kept l.items (left l.place) ≡ links (L.goes l.list) (L.shut l.list) (L.rule l.list) kept l.fn.first (left l.fn.at)

abbrev pub decreases-items : goal.decreases-items
decreases-items g l = length (left l.place)
