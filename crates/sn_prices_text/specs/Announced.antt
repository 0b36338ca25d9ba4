-- to be believed
-- Whether prices stand after a plan, and not a tree.
use Rattle.std.specs.Prelude.{ℕ, List, [], ◌∷◌, Bool, false, codes}
use Rattle.sn_text_rules.specs.Tokens.{Tok}
use Rattle.sn_text_rules.specs.Words.{is_word}

abbrev pub after_first : List Tok → List Tok
after_first [] = []
after_first (t ∷ ts) = ts

-- the first of these tokens is this word
abbrev pub begins_with : List ℕ → List Tok → Bool
begins_with text [] = false
begins_with text (t ∷ ts) = is_word text t.face

-- the fourth of these tokens is the word `prices`, as after `cost`, a number and `;`
abbrev pub has_prices : List Tok → Bool
has_prices ts = begins_with (codes "prices") (after_first (after_first (after_first ts)))
