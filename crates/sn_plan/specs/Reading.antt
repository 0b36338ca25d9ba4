-- serves proofs
-- How reading a plan ends, and where tokens stand.
use Rattle.std.specs.Prelude.{◌≡◌, ℕ, Bool, List, [], ◌∷◌, Result, Ok, Err}
use Rattle.sn_text_rules.specs.Tokens.{Tok, got}
use Rattle.sn_text_rules.specs.Rules.{kept}
use Rattle.sn_text.specs.declared.stop.Stop.{Stop}
use Rattle.sn_text.specs.Reading.{Halts}
use Rattle.sn_plan_grammar.specs.declared.plan.Plan.{Plan}
use Rattle.sn_plan_grammar.specs.Grammar.{end_rule, plan_rule, file_rule}

-- the first of these tokens begins at the byte
abbrev pub BeginsAt : ℕ → List Tok → Type 0
BeginsAt byte [] = ⊥
BeginsAt byte (t ∷ ts) = t.start ≡ byte

-- What the reading of a part gives, its value aside, and where its first token begins.
abbrev pub Ends : Result ℕ Stop → List Tok → Type 0
Ends (Ok byte) ts = (b : Bool) × (us : List Tok) × (end_rule.read kept ts ≡ got b us) × BeginsAt byte ts
Ends (Err e) ts = Halts e (end_rule.read kept ts)

-- a plan and what ends it, and the byte where that begins
abbrev pub ReadsPlan : Result (Plan × ℕ) Stop → List Tok → Type 0
ReadsPlan (Ok x) ts = (us : List Tok) × (plan_rule.read kept ts ≡ got x.0 us) × Ends (Ok x.1) us
ReadsPlan (Err e) ts = Halts e (file_rule.read kept ts)
