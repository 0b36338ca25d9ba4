use Rattle.std.proofs.Common.{◌≡◌, length}
use Rattle.sn_text_rules.specs.Rules.{kept, links}
use Rattle.sn_text_rules.specs.Words.{is_symbol, never, after_comma}
use Rattle.sn_text.specs.Lexing.{left}
use Rattle.sn_text.proofs.commas.more.Given as goal

abbrev pub invariant-items : goal.invariant-items
invariant-items g l = let L = g.L.Commas in links (is_symbol 3) never (after_comma L.limit L.begun L.rule) kept l.items (left l.place) ≡ links (is_symbol 3) never (after_comma L.limit L.begun L.rule) kept l.fn.first (left l.fn.at)

abbrev pub decreases-items : goal.decreases-items
decreases-items g l = length (left l.place)
