-- What the rules of lists say of the items.
use Rattle.std.proofs.Common.{◌≡◌, ℕ, ◌+◌, ◌<◌, ◌≤◌, Bool, true, false, cond, List, [], ◌∷◌, ◌++◌, length, Some, None, refl, arith}
use Rattle.std.specs.Prelude.{nat_le}
use Rattle.std.specs.List.{AllByRecursion}
use Rattle.std.proofs.lemmas.Bool.Decides.{nat_tests}
use Rattle.std.proofs.lemmas.List.{length-append}
use Rattle.sn_text_rules.specs.declared.Flaw.{Flaw}
use Rattle.sn_text_rules.specs.Tokens.{Lexeme}
use Rattle.sn_text_rules.specs.Rules.{kept, Rule, past, either_rule, fit_from, series_fits}
use Rattle.sn_text_rules.specs.Words.{full, never, after_comma, commas}

-- each of these items, after those before it, is so
abbrev pub After : {A : Type 0} → (List A → A → Type 0) → List A → List A → Type 0
After F seen [] = Unit {0}
After F seen (a ∷ rest) = F seen a × After F (seen ++ a ∷ []) rest

-- there is room after these items, and this one fits
abbrev pub Item : {A : Type 0} → ℕ → (List A → Rule A) → List A → A → Type 0
Item limit p seen a = (length seen < limit) × (p seen).fits kept a

pub not_full : (limit n : ℕ) (x : Flaw) → cond (nat_le limit n) (Some x) None ≡ None → n < limit
not_full limit n x h = grind (arith, nat_tests)

-- ---- what the rules say

pub from_full : {A : Type 0} (limit : ℕ) (x : Flaw) (p : List A → Rule A) (seen rest : List A) → fit_from (full limit x) p kept seen rest → After (Item limit p) seen rest
from_full limit x p seen [] h = tt
from_full limit x p seen (a ∷ rest) h = ((not_full limit (length seen) x h.0, h.1), from_full limit x p (seen ++ a ∷ []) rest h.2)

pub below_limit : (limit n : ℕ) → nat_le limit n ≡ false → n < limit
below_limit limit n h = grind (arith, nat_tests)

picked : {A : Type 0} (b : Bool) (begun : Lexeme → Flaw) (past_it p : Rule A) (a : A) → (either_rule b (past begun past_it) p).fits kept a → (b ≡ false) × p.fits kept a
picked true begun past_it p a h = absurd h
picked false begun past_it p a h = (refl, h)

after_sign : {A : Type 0} (limit : ℕ) (begun : Lexeme → Flaw) (p : List A → Rule A) (seen : List A) (a : A) → (after_comma limit begun p seen).fits kept a → Item limit p seen a
after_sign limit begun p seen a h = let k = picked (nat_le limit (length seen)) begun (p []) (p seen) a h.1 in (below_limit limit (length seen) k.0, k.1)

from_commas : {A : Type 0} (limit : ℕ) (begun : Lexeme → Flaw) (p : List A → Rule A) (seen rest : List A) → fit_from never (after_comma limit begun p) kept seen rest → After (Item limit p) seen rest
from_commas limit begun p seen [] h = tt
from_commas limit begun p seen (a ∷ rest) h = (after_sign limit begun p seen a h.1, from_commas limit begun p (seen ++ a ∷ []) rest h.2)

-- ---- what follows for lists

count_after : {A : Type 0} (limit : ℕ) (p : List A → Rule A) (seen rest : List A) → length seen ≤ limit → After (Item limit p) seen rest → length seen + length rest ≤ limit
count_after limit p seen [] most h = omega (arith, most)
count_after limit p seen (a ∷ rest) most h =
    let longer : length (seen ++ a ∷ []) ≡ length seen + 1 = length-append seen (a ∷ []) in
    let room : length seen < limit = h.0.0 in
    let more = count_after limit p (seen ++ a ∷ []) rest (omega (arith, longer)) h.1 in
    omega (arith, more, longer)

pub each_after : {A : Type 0} (F : List A → A → Type 0) (P : A → Type 0) → ((seen : List A) (a : A) → F seen a → P a) → (seen rest : List A) → After F seen rest → AllByRecursion P rest
each_after F P holds seen [] h = tt
each_after F P holds seen (a ∷ rest) h = (holds seen a h.0, each_after F P holds (seen ++ a ∷ []) rest h.1)

-- ---- whole lists

-- a list of at least one item, and at most this many
pub record IsListOf {A : Type 0} (limit : ℕ) (p : List A → Rule A) (xs : List A) : Type 0 where
  pub count : (1 ≤ length xs) × (length xs ≤ limit)
  pub items : After (Item limit p) [] xs

listed : {A : Type 0} (limit : ℕ) (p : List A → Rule A) (a : A) (rest : List A) → 0 < limit → (p []).fits kept a → After (Item limit p) (a ∷ []) rest → IsListOf limit p (a ∷ rest)
listed limit p a rest some first more =
    let most : 1 + length rest ≤ limit = count_after limit p (a ∷ []) rest some more in
    record { count = (omega arith, omega (arith, most)); items = ((some, first), more) }

pub commas_list : {A : Type 0} (limit : ℕ) (begun : Lexeme → Flaw) (p : List A → Rule A) (xs : List A) → 0 < limit → (commas limit begun p).fits kept xs → IsListOf limit p xs
commas_list limit begun p [] some h = absurd h
commas_list limit begun p (a ∷ rest) some h = listed limit p a rest some h.0 (from_commas limit begun p (a ∷ []) rest h.1)

pub series_list : {A : Type 0} (limit : ℕ) (x : Flaw) (p : List A → Rule A) (xs : List A) → 0 < limit → series_fits (p []) (full limit x) p kept xs → IsListOf limit p xs
series_list limit x p [] some h = absurd h
series_list limit x p (a ∷ rest) some h = listed limit p a rest some h.0 (from_full limit x p (a ∷ []) rest h.1)

-- no more than this many, whatever the first is
pub series_count : {A : Type 0} (limit : ℕ) (x : Flaw) (first : Rule A) (p : List A → Rule A) (xs : List A) → 0 < limit → series_fits first (full limit x) p kept xs → length xs ≤ limit
series_count limit x first p [] some h = absurd h
series_count limit x first p (a ∷ rest) some h = let most : 1 + length rest ≤ limit = count_after limit p (a ∷ []) rest some (from_full limit x p (a ∷ []) rest h.1) in omega (arith, most)

-- no items or more
pub many_count : {A : Type 0} (limit : ℕ) (x : Flaw) (p : List A → Rule A) (xs : List A) → fit_from (full limit x) p kept [] xs → length xs ≤ limit
many_count limit x p xs h = let most : 0 + length xs ≤ limit = count_after limit p [] xs (omega arith) (from_full limit x p [] xs h) in omega (arith, most)

pub items_are : {A : Type 0} (limit : ℕ) (p : List A → Rule A) (P : A → Type 0) (xs : List A) → ((seen : List A) (a : A) → (p seen).fits kept a → P a) → After (Item limit p) [] xs → AllByRecursion P xs
items_are limit p P xs holds h = each_after (Item limit p) P (λ seen a f. holds seen a f.1) [] xs h
