-- Numbers that are read are no more than their limit.
use Rattle.std.proofs.Common.{◌≡◌, ℕ, ◌≤◌, List, length, arith}
use Rattle.sn_text_rules.specs.declared.Flaw.TheVariants.{Expected}
use Rattle.sn_text_rules.specs.Tokens.{Tok, got}
use Rattle.sn_text_rules.specs.Rules.{kept}
use Rattle.sn_text_rules.specs.Words.{number_in, sign, ◌▸◌}
use Rattle.sn_text_rules.proofs.Items.{series_count}
use Rattle.sn_plan_grammar.specs.Grammar.{numbers}
use Rattle.sn_plan_grammar.proofs.Goods.{numbers_good}

pub numbers_read : (limit low high : ℕ) (ts us : List Tok) (ns : List ℕ) → 1 ≤ limit → low ≤ high → (numbers limit low high).read kept ts ≡ got ns us → length ns ≤ limit
unfolding numbers
numbers_read limit low high ts us ns l le e = series_count limit Expected (number_in low high) (λ seen. sign 3 ▸ number_in low high) ns l ((numbers_good limit low high le).fitting kept ts us ns e)

pub few_read : (limit low high : ℕ) (ts us : List Tok) (ns : List ℕ) → 1 ≤ limit → limit ≤ 8 → low ≤ high → (numbers limit low high).read kept ts ≡ got ns us → length ns ≤ 8
few_read limit low high ts us ns l m le e = let h = numbers_read limit low high ts us ns l le e in omega (arith, h)
