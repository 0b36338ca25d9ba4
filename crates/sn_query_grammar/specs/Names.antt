-- to be believed
-- Single tokens of the query text.
use Rattle.std.specs.Prelude.{ℕ, Bool, List, [], ◌∷◌, length, Option, Some, None, nat_lt, nat_le, ◌==◌, ◌||◌, ◌&&◌, codes, if◌then◌else◌}
use Rattle.std.specs.List.{list_any}
use Rattle.sn_text_rules.specs.declared.Flaw.{Flaw}
use Rattle.sn_text_rules.specs.declared.Flaw.TheVariants.{Expected, TooMany, Twice}
use Rattle.sn_text_rules.specs.Tokens.{Lexeme, word, number, symbol}
use Rattle.sn_text_rules.specs.Rules.{Rule}
use Rattle.sn_text_rules.specs.Words.{same, wrong, word_by, leaf}
use Rattle.sn_query_grammar.specs.declared.ast.Cmp.{Cmp}
use Rattle.sn_query_grammar.specs.declared.ast.Cmp.TheVariants as cmps
use Rattle.sn_query_grammar.specs.declared.ast.FoldWord.{FoldWord}
use Rattle.sn_query_grammar.specs.declared.ast.FoldWord.TheVariants as folds

-- the sixteen words that are no names
abbrev pub keywords : List (List ℕ)
keywords = codes "window" ∷ codes "query" ∷ codes "refine" ∷ codes "packets" ∷ codes "filter" ∷ codes "map" ∷ codes "distinct" ∷ codes "reduce"
    ∷ codes "sum" ∷ codes "max" ∷ codes "min" ∷ codes "or" ∷ codes "width" ∷ codes "join" ∷ codes "at" ∷ codes "as" ∷ []

abbrev pub is_keyword : List ℕ → Bool
is_keyword w = list_any (same w) keywords

-- a name is no keyword, has at most 32 bytes and is none of those seen
abbrev pub name_test : List (List ℕ) → List ℕ → Option Flaw
name_test seen w = if is_keyword w || (length w == 0) then Some Expected else if nat_lt 32 (length w) then Some TooMany else if list_any (same w) seen
    then Some Twice else None

abbrev pub name_not : List (List ℕ) → Rule (List ℕ)
name_not seen = word_by (name_test seen)

abbrev pub name : Rule (List ℕ)
name = name_not []

-- what stands where a name past a limit would begin
abbrev pub past_name : Lexeme → Flaw
past_name (word w) = if is_keyword w || (length w == 0) then Expected else TooMany
past_name x = wrong x

-- what stands where a number past a limit would begin
abbrev pub past_number : ℕ → ℕ → Lexeme → Flaw
past_number low high (number n) = if nat_le low n && nat_le n high then TooMany else Expected
past_number low high x = wrong x

-- ---- comparisons

abbrev pub cmp_sign : Cmp → ℕ
cmp_sign cmps.Eq = 12
cmp_sign cmps.Ne = 13
cmp_sign cmps.Lt = 14
cmp_sign cmps.Le = 15
cmp_sign cmps.Gt = 16
cmp_sign cmps.Ge = 17

abbrev pub cmp_of : ℕ → Option Cmp
cmp_of k =
    if k == 12 then Some cmps.Eq else if k == 13 then Some cmps.Ne else if k == 14 then Some cmps.Lt else if k == 15 then Some cmps.Le
    else if k == 16 then Some cmps.Gt else if k == 17 then Some cmps.Ge else None

abbrev pub cmp_face : Cmp → Lexeme
cmp_face c = symbol (cmp_sign c)

abbrev pub cmp_in : Lexeme → Option Cmp
cmp_in (symbol k) = cmp_of k
cmp_in _ = None

abbrev pub any_cmp : Cmp → Option Flaw
any_cmp c = None

-- CMP
abbrev pub comparison : Rule Cmp
comparison = leaf cmp_face cmp_in any_cmp

-- ---- folds

abbrev pub fold_text : FoldWord → List ℕ
fold_text folds.Sum = codes "sum"
fold_text folds.Max = codes "max"
fold_text folds.Min = codes "min"
fold_text folds.Or = codes "or"

abbrev pub fold_of : List ℕ → Option FoldWord
fold_of w =
    if same w (codes "sum") then Some folds.Sum else if same w (codes "max") then Some folds.Max else if same w (codes "min") then Some folds.Min
    else if same w (codes "or") then Some folds.Or else None

abbrev pub fold_face : FoldWord → Lexeme
fold_face f = word (fold_text f)

abbrev pub fold_in : Lexeme → Option FoldWord
fold_in (word w) = fold_of w
fold_in _ = None

abbrev pub no_sum : FoldWord → Option Flaw
no_sum folds.Sum = Some Expected
no_sum _ = None

-- "max" | "min" | "or"
abbrev pub plain_fold : Rule FoldWord
plain_fold = leaf fold_face fold_in no_sum
