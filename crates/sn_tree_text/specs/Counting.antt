-- serves proofs
-- What going past nodes gives.
use Rattle.std.specs.Prelude.{◌≡◌, ℕ, List, length, Result, Ok, Err}
use Rattle.sn_text_rules.specs.Tokens.{Tok, Read, got}
use Rattle.sn_text.specs.Lexing.{left}
use Rattle.sn_text.specs.Reading.{Halts}
use Rattle.sn_text.specs.declared.place.Lexer.{Lexer}
use Rattle.sn_text.specs.declared.stop.Stop.{Stop}
use Rattle.sn_tree_space.specs.declared.node.Node.{Node}
use Rattle.sn_tree_text.specs.Fronts.{nodes_of}

-- the number of the nodes at the front of these tokens and the place after them, where reading gives these nodes, or why it stops
abbrev pub GoesPast : List Tok → Result (ℕ × Lexer) Stop → Read (List Node) → Type 0
GoesPast ts (Ok x) read = (x.0 ≡ length (nodes_of ts)) × (read ≡ got (nodes_of ts) (left x.1))
GoesPast ts (Err e) read = Halts e read
