-- serves proofs
-- Where a token stands in its text.
use Rattle.std.specs.Prelude.{◌≡◌, ◌⊎◌, ℕ, ◌+◌, List, [], ◌∷◌, ◌++◌, filter, length, nat_eq, false}
use Rattle.std.specs.List.{list_any}
use Rattle.sn_text_rules.specs.Tokens.{Tok, word}

-- nothing, or lines that end with a line feed, which is byte 10
abbrev pub IsEnded : List ℕ → Type 0
IsEnded bytes = (bytes ≡ []) ⊎ ((front : List ℕ) × (bytes ≡ front ++ 10 ∷ []))

-- A text is the lines above the token, what is ahead of it on its line, its own bytes, and what follows it. Lines and columns are
-- numbered from 1, and columns by bytes.
pub record StandsIn (text : List ℕ) (token : Tok) : Type 0 where
  pub above : List ℕ
  pub ahead : List ℕ
  pub own : List ℕ
  pub following : List ℕ
  pub parts : text ≡ (above ++ ahead) ++ (own ++ following)
  pub ended : IsEnded above
  pub one_line : list_any (nat_eq 10) ahead ≡ false
  pub line : token.line ≡ 1 + length (filter (nat_eq 10) above)
  pub column : token.column ≡ 1 + length ahead
  pub start : token.start ≡ length (above ++ ahead)
  pub end : token.end ≡ length (above ++ ahead) + length own
  -- the bytes of a word are its own
  pub own_word : (bytes : List ℕ) → token.face ≡ word bytes → own ≡ bytes
