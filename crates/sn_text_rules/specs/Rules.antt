-- to be believed
-- Rules of a grammar, and how larger ones are made of smaller ones.
use Rattle.std.specs.Prelude.{◌≡◌, ℕ, zero, suc, Bool, true, false, List, [], ◌∷◌, ◌++◌, length, map, Option, Some, None, option_map, Result, Ok, Err, not, ◌⊎◌}
use Rattle.std.specs.Prelude.{if◌then◌else◌}
use Rattle.std.proofs.Common.{inl, inr}
use Rattle.sn_text_rules.specs.declared.Flaw.{Flaw}
use Rattle.sn_text_rules.specs.declared.Flaw.TheVariants.{Lex, Expected, TooMany, Range, Twice, Missing}
use Rattle.sn_text_rules.specs.declared.symbols.TheConstants.{COMMA}
use Rattle.sn_text_rules.specs.Tokens.{Lexeme, symbol, Tok, Mark, plain, Spelled, Read, got, fails, short, bind}

-- A grammar has limits besides its form: how many items a list may have, how long a name is, what may stand once.
-- kept: with the limits. aside: by the form alone.
pub data Limits : Type 0 where
  kept : Limits
  aside : Limits

-- a fault against a limit, and not against the form
abbrev pub is_limit : Flaw → Bool
is_limit Lex = false
is_limit Expected = false
is_limit TooMany = true
is_limit Range = true
is_limit Twice = true
is_limit Missing = true

-- One rule: how its values are spelled, which values are in it, and reading it from the left with the first fault.
-- follow: what may stand after it, so that it ends there. bare: the value with 0 for each line in it.
pub record Rule (A : Type 0) : Type 1 where
  pub spell : A → List Mark
  pub fits : Limits → A → Type 0
  pub read : Limits → List Tok → Read A
  pub follow : List Tok → Bool
  pub bare : A → A

abbrev pub anything : List Tok → Bool
anything us = true

-- ---- one token

abbrev pub judged : {A : Type 0} → Result A Flaw → Tok → List Tok → Read A
judged (Ok a) t ts = got a ts
judged (Err x) t ts = fails x (t ∷ ts)

abbrev pub token_at : {A : Type 0} → (Tok → Result A Flaw) → List Tok → Read A
token_at judge [] = short
token_at judge (t ∷ ts) = judged (judge t) t ts

abbrev pub one : {A : Type 0} → (A → Mark) → (Limits → A → Type 0) → (Limits → Tok → Result A Flaw) → (A → A) → Rule A
one mark fits judge bare = record { spell = λ a. mark a ∷ []; fits = fits; read = λ l ts. token_at (judge l) ts; follow = anything; bare = bare }

-- a token whose line doesn't matter
abbrev pub token : {A : Type 0} → (A → Lexeme) → (Limits → A → Type 0) → (Limits → Lexeme → Result A Flaw) → Rule A
token face fits judge = one (λ a. plain (face a)) fits (λ l t. judge l t.face) (λ a. a)

-- ---- one after the other

-- the second may depend on the value of the first; follow: what may stand after the second, whatever the first is
abbrev pub pair_on : {A B : Type 0} → Rule A → (A → Rule B) → (List Tok → Bool) → Rule (A × B)
pair_on p q follow = record {
  spell = λ x. p.spell x.0 ++ (q x.0).spell x.1;
  fits = λ l x. p.fits l x.0 × (q x.0).fits l x.1;
  read = λ l ts. bind (p.read l ts) (λ a us. bind ((q a).read l us) (λ b vs. got (a, b) vs));
  follow = follow;
  bare = λ x. (p.bare x.0, (q x.0).bare x.1);
}

abbrev pub pair : {A B : Type 0} → Rule A → Rule B → Rule (A × B)
pair p q = pair_on p (λ a. q) q.follow

-- ---- the same text under another value

abbrev pub spelled_as : {A : Type 0} → (A → List Mark) → Option A → List Mark
spelled_as spell None = []
spelled_as spell (Some a) = spell a

abbrev pub holds_of : {A : Type 0} → (A → Type 0) → Option A → Type 0
holds_of P None = ⊥
holds_of P (Some a) = P a

abbrev pub bared_as : {A B : Type 0} → (A → B) → (A → A) → B → Option A → B
bared_as to bare b None = b
bared_as to bare b (Some a) = to (bare a)

-- values outside the first rule's, where from gives None, are not in the second
abbrev pub embedded : {A B : Type 0} → (A → B) → (B → Option A) → Rule A → Rule B
embedded to from p = record {
  spell = λ b. spelled_as p.spell (from b);
  fits = λ l b. holds_of (p.fits l) (from b);
  read = λ l ts. bind (p.read l ts) (λ a us. got (to a) us);
  follow = p.follow;
  bare = λ b. bared_as to p.bare b (from b);
}

abbrev pub renamed : {A B : Type 0} → (A → B) → (B → A) → Rule A → Rule B
renamed to from p = embedded to (λ b. Some (from b)) p

-- ---- choices by the first token

-- a token that doesn't pass goes comes next
abbrev pub no_more : (Lexeme → Bool) → List Tok → Bool
no_more goes [] = false
no_more goes (t ∷ ts) = not (goes t.face)

abbrev pub maybe_spelled : {A : Type 0} → (A → List Mark) → Option A → List Mark
maybe_spelled spell None = []
maybe_spelled spell (Some a) = spell a

abbrev pub maybe_holds : {A : Type 0} → (A → Type 0) → Option A → Type 0
maybe_holds P None = Unit {0}
maybe_holds P (Some a) = P a

abbrev pub maybe_at : {A : Type 0} → (Lexeme → Bool) → (List Tok → Read A) → List Tok → Read (Option A)
maybe_at goes read [] = short
maybe_at goes read (t ∷ ts) = if goes t.face then bind (read (t ∷ ts)) (λ a us. got (Some a) us) else got None (t ∷ ts)

-- a part that is there exactly where a token that passes goes comes next
abbrev pub maybe : {A : Type 0} → (Lexeme → Bool) → Rule A → Rule (Option A)
maybe goes p = record {
  spell = maybe_spelled p.spell;
  fits = λ l a. maybe_holds (p.fits l) a;
  read = λ l ts. maybe_at goes (p.read l) ts;
  follow = λ us. if no_more goes us then p.follow us else false;
  bare = option_map p.bare;
}

abbrev pub either_spelled : {A B : Type 0} → (A → List Mark) → (B → List Mark) → A ⊎ B → List Mark
either_spelled f g (inl a) = f a
either_spelled f g (inr b) = g b

abbrev pub either_holds : {A B : Type 0} → (A → Type 0) → (B → Type 0) → A ⊎ B → Type 0
either_holds P Q (inl a) = P a
either_holds P Q (inr b) = Q b

abbrev pub either_bare : {A B : Type 0} → (A → A) → (B → B) → A ⊎ B → A ⊎ B
either_bare f g (inl a) = inl (f a)
either_bare f g (inr b) = inr (g b)

abbrev pub either_at : {A B : Type 0} → (Lexeme → Bool) → (List Tok → Read A) → (List Tok → Read B) → List Tok → Read (A ⊎ B)
either_at goes f g [] = short
either_at goes f g (t ∷ ts) = if goes t.face then bind (f (t ∷ ts)) (λ a us. got (inl a) us) else bind (g (t ∷ ts)) (λ b us. got (inr b) us)

-- the first where a token that passes goes comes next, else the second
abbrev pub either : {A B : Type 0} → (Lexeme → Bool) → Rule A → Rule B → Rule (A ⊎ B)
either goes p q = record {
  spell = either_spelled p.spell q.spell;
  fits = λ l x. either_holds (p.fits l) (q.fits l) x;
  read = λ l ts. either_at goes (p.read l) (q.read l) ts;
  follow = λ us. if p.follow us then q.follow us else false;
  bare = either_bare p.bare q.bare;
}

-- ---- lists

-- Further items, each begun by a token that passes goes. The rule of an item may depend on the items before it.
-- shut: why no further item may follow these, if so. It stands at the item's first token.

-- which of these faults count
abbrev pub closed : Limits → Option Flaw → Option Flaw
closed kept x = x
closed aside None = None
closed aside (Some x) = if is_limit x then None else Some x

abbrev pub unless : {A : Type 0} → Option Flaw → List Tok → Read A → Read A
unless None ts r = r
unless (Some x) ts r = fails x ts

-- with as many steps as there are tokens
abbrev pub links_at : {A : Type 0} → (Lexeme → Bool) → (List A → Option Flaw) → (List A → Rule A) → Limits → ℕ → List A → List Tok → Read (List A)
links_at goes shut p l n seen [] = short
links_at goes shut p l zero seen (t ∷ ts) = short
links_at goes shut p l (suc n) seen (t ∷ ts) =
    if goes t.face then unless (closed l (shut seen)) (t ∷ ts) (bind ((p seen).read l (t ∷ ts)) (λ a us. links_at goes shut p l n (seen ++ a ∷ []) us))
    else got seen (t ∷ ts)

unfoldable pub links : {A : Type 0} → (Lexeme → Bool) → (List A → Option Flaw) → (List A → Rule A) → Limits → List A → List Tok → Read (List A)
links goes shut p l seen ts = links_at goes shut p l (length ts) seen ts

abbrev pub items_spelled : {A : Type 0} → (A → List Mark) → List A → List Mark
items_spelled item [] = []
items_spelled item (a ∷ rest) = item a ++ items_spelled item rest

-- each of the further items fits after those before it
abbrev pub fit_from : {A : Type 0} → (List A → Option Flaw) → (List A → Rule A) → Limits → List A → List A → Type 0
fit_from shut p l seen [] = Unit {0}
fit_from shut p l seen (a ∷ rest) = (closed l (shut seen) ≡ None) × (p seen).fits l a × fit_from shut p l (seen ++ a ∷ []) rest

-- no items or more
abbrev pub many : {A : Type 0} → (Lexeme → Bool) → (List A → Option Flaw) → (List A → Rule A) → Rule (List A)
many goes shut p = record {
  spell = items_spelled (p []).spell;
  fits = λ l x. fit_from shut p l [] x;
  read = λ l ts. links goes shut p l [] ts;
  follow = λ us. if no_more goes us then (p []).follow us else false;
  bare = map (p []).bare;
}

-- a first item, and further ones
abbrev pub series_spelled : {A : Type 0} → (A → List Mark) → (A → List Mark) → List A → List Mark
series_spelled first item [] = []
series_spelled first item (a ∷ rest) = first a ++ items_spelled item rest

abbrev pub series_fits : {A : Type 0} → Rule A → (List A → Option Flaw) → (List A → Rule A) → Limits → List A → Type 0
series_fits first shut p l [] = ⊥
series_fits first shut p l (a ∷ rest) = first.fits l a × fit_from shut p l (a ∷ []) rest

abbrev pub series : {A : Type 0} → Rule A → (Lexeme → Bool) → (List A → Option Flaw) → (List A → Rule A) → Rule (List A)
series first goes shut p = record {
  spell = series_spelled first.spell (p []).spell;
  fits = series_fits first shut p;
  read = λ l ts. bind (first.read l ts) (λ a us. links goes shut p l (a ∷ []) us);
  follow = λ us. if no_more goes us then (if first.follow us then (p []).follow us else false) else false;
  bare = map (p []).bare;
}

-- An item past a limit is in the grammar with its limits aside alone: wrong says what its first token is,
-- a fault against a limit where an item could begin.
abbrev pub past_at : {A : Type 0} → (Lexeme → Flaw) → List Tok → Read A
past_at wrong [] = short
past_at wrong (t ∷ ts) = fails (wrong t.face) (t ∷ ts)

abbrev pub past_fits : {A : Type 0} → (A → Type 0) → Limits → A → Type 0
past_fits P kept a = ⊥
past_fits P aside a = P a

abbrev pub past_read : {A : Type 0} → (Lexeme → Flaw) → (List Tok → Read A) → Limits → List Tok → Read A
past_read wrong read kept ts = past_at wrong ts
past_read wrong read aside ts = read ts

abbrev pub past : {A : Type 0} → (Lexeme → Flaw) → Rule A → Rule A
past wrong p = record { spell = p.spell; fits = past_fits (p.fits aside); read = past_read wrong (p.read aside); follow = p.follow; bare = p.bare }

abbrev pub either_rule : {A : Type 0} → Bool → Rule A → Rule A → Rule A
either_rule true p q = p
either_rule false p q = q

-- ---- what is said of a whole text

-- a text of the grammar, limits aside, begins so
pub record Begins {A : Type 0} (r : Rule A) (ts : List Tok) : Type 0 where
  pub value : A
  pub more : List Tok
  pub fits : r.fits aside value
  pub spelled : Spelled (ts ++ more) (r.spell value)

-- The tokens are those that the grammar gives the value, and the value keeps the limits.
pub record Accepts {A : Type 0} (r : Rule A) (ts : List Tok) (value : A) : Type 0 where
  pub spelled : Spelled ts (r.spell value)
  pub fits : r.fits kept value

-- an accepted text begins so
pub record BeginsAccepted {A : Type 0} (r : Rule A) (ts : List Tok) : Type 0 where
  pub value : A
  pub more : List Tok
  pub accepted : Accepts r (ts ++ more) value

-- The last token is a comma after a list that takes no further item: the comma passes, and the token after it is judged.
-- So no accepted text begins with these tokens, and one begins with those before the comma.
pub record BeginsToComma {A : Type 0} (r : Rule A) (ts : List Tok) : Type 0 where
  pub fore : List Tok
  pub comma : Tok
  pub parts : ts ≡ fore ++ comma ∷ []
  -- sign 3 is the comma
  pub is_comma : comma.face ≡ symbol COMMA
  pub begins : BeginsAccepted r fore
  pub stops : BeginsAccepted r ts → ⊥

-- an accepted text begins so, or with all but the comma after a list that takes no further item
abbrev pub Started : {A : Type 0} → Rule A → List Tok → Type 0
Started r ts = BeginsAccepted r ts ⊎ BeginsToComma r ts

-- The first fault of a text stands at the token at.
pub record FirstFault {A : Type 0} (r : Rule A) (ts : List Tok) (flaw : Flaw) (line column : ℕ) : Type 0 where
  pub front : List Tok
  pub at : Tok
  pub rest : List Tok
  pub parts : ts ≡ front ++ at ∷ rest
  pub line_is : at.line ≡ line
  pub column_is : at.column ≡ column
  -- no accepted text begins with the tokens up to it
  pub refuses : (more : List Tok) (value : A) → Accepts r ((front ++ at ∷ []) ++ more) value → ⊥
  -- the tokens before it begin a text of the grammar, limits aside
  pub begins : Begins r front
  -- The tokens before it begin an accepted text: no fault against a limit is noticed late. Where the last of them is the
  -- comma after a list that takes no further item, those before that comma do.
  pub within : Started r front
  -- A fault against the form: no text of the grammar begins with the tokens up to it, even limits aside.
  pub form : is_limit flaw ≡ false → (more : List Tok) (value : A) → r.fits aside value → Spelled ((front ++ at ∷ []) ++ more) (r.spell value) → ⊥
  -- A fault against a limit: limits aside, a text does.
  pub limit : is_limit flaw ≡ true → Begins r (front ++ at ∷ [])
  -- which of them, as the rules say token by token
  pub kind : r.read kept ts ≡ fails flaw (at ∷ rest)
