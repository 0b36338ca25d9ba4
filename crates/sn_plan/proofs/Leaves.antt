-- Single tokens of the plan text as the code reads them.
use Rattle.std.proofs.Common.{◌≡◌, ℕ, List, Ok, Err, refl}
use Rattle.sn_text_rules.specs.declared.Flaw.{Flaw}
use Rattle.sn_text_rules.specs.Tokens.{Tok, got, fails}
use Rattle.sn_text_rules.specs.Rules.{kept, token_at}
use Rattle.sn_text_rules.specs.Words.{judged_by, word_in}
use Rattle.sn_text.proofs.Tokens.{Next, leaf_gives, leaf_halts}
use Rattle.sn_plan_grammar.specs.Grammar.{name_test}

pub name_gives : (ts us : List Tok) (t : Tok) (w : List ℕ) → Next ts t us → Ok w ≡ judged_by name_test kept t.face (word_in t.face) → token_at (λ t. judged_by name_test kept t.face (word_in t.face)) ts ≡ got w us
name_gives = leaf_gives word_in refl refl name_test

pub name_halts : (ts us : List Tok) (t : Tok) (x : Flaw) → Next ts t us → Err x ≡ judged_by name_test kept t.face (word_in t.face) → token_at (λ t. judged_by name_test kept t.face (word_in t.face)) ts ≡ fails x ts
name_halts = leaf_halts word_in refl refl name_test
