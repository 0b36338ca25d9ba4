-- to be believed
-- The tokens of a text from a byte on.
use Rattle.std.specs.Prelude.{ℕ, List, [], ◌∷◌, not, nat_lt, ◌&&◌, if◌then◌else◌}
use Rattle.sn_text_rules.specs.Tokens.{Tok, is_last}

-- those tokens that begin at this byte or after it, and the last one in any case
abbrev pub from_byte : ℕ → List Tok → List Tok
from_byte byte [] = []
from_byte byte (t ∷ ts) = if nat_lt t.start byte && not (is_last t.face) then from_byte byte ts else t ∷ ts
