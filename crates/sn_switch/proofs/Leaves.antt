-- Single tokens of the switch text as the code reads them.
use Rattle.std.proofs.Common.{◌≡◌, ℕ, true, List, [], Result, Ok, Err, refl, sym, ap, ◌∙◌}
use Rattle.sn_text_rules.specs.declared.Flaw.{Flaw}
use Rattle.sn_text_rules.specs.Tokens.{Lexeme, word, number, symbol, finish, bad, Tok, got, fails}
use Rattle.sn_text_rules.specs.Rules.{kept, token_at}
use Rattle.sn_text_rules.specs.Words.{judged_by, number_at}
use Rattle.sn_text.specs.Cutting.{is_last}
use Rattle.sn_text.proofs.Tokens.{Next, halts, leaf_gives, leaf_halts}
use Rattle.sn_switch_grammar.specs.declared.item.Setting.{Setting}
use Rattle.sn_switch_grammar.specs.declared.item.Item.{Item}
use Rattle.sn_switch_grammar.specs.Settings.{setting_in}
use Rattle.sn_switch_grammar.specs.Grammar.{once, within, size_test, complete, end_in}

pub setting_gives : (items : List Item) (ts us : List Tok) (t : Tok) (k : Setting) → Next ts t us → Ok k ≡ judged_by (once items) kept t.face (setting_in t.face) → token_at (λ t. judged_by (once items) kept t.face (setting_in t.face)) ts ≡ got k us
setting_gives items = leaf_gives setting_in refl refl (once items)

pub setting_halts : (items : List Item) (ts us : List Tok) (t : Tok) (x : Flaw) → Next ts t us → Err x ≡ judged_by (once items) kept t.face (setting_in t.face) → token_at (λ t. judged_by (once items) kept t.face (setting_in t.face)) ts ≡ fails x ts
setting_halts items = leaf_halts setting_in refl refl (once items)

pub number_gives : (low high : ℕ) (ts us : List Tok) (t : Tok) (n : ℕ) → Next ts t us → Ok n ≡ judged_by (within low high) kept t.face (number_at t.face) → token_at (λ t. judged_by (within low high) kept t.face (number_at t.face)) ts ≡ got n us
number_gives low high = leaf_gives number_at refl refl (within low high)

pub number_halts : (low high : ℕ) (ts us : List Tok) (t : Tok) (x : Flaw) → Next ts t us → Err x ≡ judged_by (within low high) kept t.face (number_at t.face) → token_at (λ t. judged_by (within low high) kept t.face (number_at t.face)) ts ≡ fails x ts
number_halts low high = leaf_halts number_at refl refl (within low high)

pub size_gives : (taken : List ℕ) (ts us : List Tok) (t : Tok) (n : ℕ) → Next ts t us → Ok n ≡ judged_by (size_test taken) kept t.face (number_at t.face) → token_at (λ t. judged_by (size_test taken) kept t.face (number_at t.face)) ts ≡ got n us
size_gives taken = leaf_gives number_at refl refl (size_test taken)

pub size_halts : (taken : List ℕ) (ts us : List Tok) (t : Tok) (x : Flaw) → Next ts t us → Err x ≡ judged_by (size_test taken) kept t.face (number_at t.face) → token_at (λ t. judged_by (size_test taken) kept t.face (number_at t.face)) ts ≡ fails x ts
size_halts taken = leaf_halts number_at refl refl (size_test taken)

end_read : (items : List Item) (x : Lexeme) (u : Unit {0}) → Ok u ≡ judged_by (complete items) kept x (end_in x) → is_last x ≡ true
end_read items (word w) u e = absurd cc
end_read items (number n) u e = absurd cc
end_read items (symbol k) u e = absurd cc
end_read items finish u e = refl
end_read items bad u e = absurd cc

abbrev end_judge : List Item → Tok → Result (Unit {0}) Flaw
end_judge items t = judged_by (complete items) kept t.face (end_in t.face)

pub end_gives : (items : List Item) (ts us : List Tok) (t : Tok) (u : Unit {0}) → Next ts t us → Ok u ≡ judged_by (complete items) kept t.face (end_in t.face) → token_at (λ t. judged_by (complete items) kept t.face (end_in t.face)) ts ≡ got u []
end_gives items ts us t u h e = ap (token_at (end_judge items)) h ∙ rw (← e, end_read items t.face u e) refl

pub end_halts : (items : List Item) (ts us : List Tok) (t : Tok) (x : Flaw) → Next ts t us → Err x ≡ judged_by (complete items) kept t.face (end_in t.face) → token_at (λ t. judged_by (complete items) kept t.face (end_in t.face)) ts ≡ fails x ts
end_halts items ts us t x h e = halts (end_judge items) ts us t x h (sym e)
