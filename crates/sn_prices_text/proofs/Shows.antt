-- The cost, the prices and what they show, of a text.
use Rattle.std.proofs.Common.{◌≡◌, ℕ, ◌≤◌, true, List, [], length, sym, ap, subst, ◌∙◌}
use Rattle.sn_text_rules.specs.declared.Flaw.{Flaw}
use Rattle.sn_text_rules.specs.declared.Flaw.TheVariants as kinds
use Rattle.sn_text_rules.specs.Tokens.{Tok, Read, got, fails, first_line}
use Rattle.sn_text_rules.specs.Rules.{kept, FirstFault}
use Rattle.sn_text_rules.proofs.Faults.{found_of, only_of, none_of, fault_of as first_fault}
use Rattle.sn_text_rules.proofs.Bounded.{Ended, whole_ok}
use Rattle.sn_text.specs.Lexing.{left}
use Rattle.sn_text.specs.declared.stop.Stop.{Stop}
use Rattle.sn_text.specs.declared.stop.Stop.TheVariants as stops
use Rattle.sn_text.specs.Reading.{Halts}
use Rattle.sn_prices_grammar.specs.declared.prices.Shown.{Shown}
use Rattle.sn_prices_grammar.specs.PricesGrammar.{shown_rule}
use Rattle.sn_prices_grammar.proofs.Goods.{shown_good, ends}
use Rattle.sn_prices_grammar.proofs.Starts.{shown_starts}
use Rattle.sn_prices_grammar.proofs.Bounded.{flaws, shown_whole}
use Rattle.sn_prices_grammar.proofs.Counts.{few_shown}
use Rattle.sn_prices_text.specs.declared.fault.PricesFault.{PricesFault}
use Rattle.sn_prices_text.specs.declared.fault.PricesFault.TheVariants as faults
use Rattle.sn_prices_text.specs.PricesTexts.{StandsFor, IsFault, fault_of, Answers}

here : (ts ls : List Tok) (r : Read Shown) → ls ≡ ts → shown_rule.read kept ls ≡ r → shown_rule.read kept ts ≡ r
here ts ls r h e = ap (shown_rule.read kept) (sym h) ∙ e

pub found_so : (ts ls : List Tok) (x : Shown) → ls ≡ ts → shown_rule.read kept ls ≡ got x [] → StandsFor ts x
found_so ts ls x h e = found_of shown_rule shown_good ts x (here ts ls (got x []) h e)

pub few_so : (ts ls : List Tok) (x : Shown) → ls ≡ ts → shown_rule.read kept ls ≡ got x [] → length x.prices.limits ≤ 64
few_so ts ls x h e = few_shown x (found_so ts ls x h e).fits

pub only_so : (ts ls : List Tok) (x y : Shown) → ls ≡ ts → shown_rule.read kept ls ≡ got x [] → StandsFor ts y → x ≡ y
only_so ts ls x y h e s = only_of shown_rule shown_good ends ts x y (here ts ls (got x []) h e) s

-- a first fault of the format is the text's, under its name
pub shown : (ts : List Tok) (x : Flaw) (line column : ℕ) → flaws.ok x ≡ true → FirstFault shown_rule ts x line column → IsFault ts (fault_of x line)
shown ts kinds.Lex line column o f = (column, f)
shown ts kinds.Expected line column o f = (column, f)
shown ts kinds.TooMany line column o f = absurd cc
shown ts kinds.Range line column o f = absurd cc
shown ts kinds.Twice line column o f = absurd cc
shown ts kinds.Missing line column o f = absurd cc

-- where reading stops, the answer is the first fault, and the tokens stand for no prices, unless memory ran out
pub fault_so : (ts ls : List Tok) (e : Stop) (f : PricesFault) → Ended ts → ls ≡ ts → Halts e (shown_rule.read kept ls) → Answers e f → IsFault ts f
fault_so ts ls stops.NoMemory f d g h k = subst (λ (s : PricesFault). IsFault ts s) (sym k) tt
fault_so ts ls (stops.Fault x l) f d g h k =
    let e = here ts ls (fails x (left l)) g h in
    let s = shown_good.stands kept ts (left l) x e in
    let ok = whole_ok shown_whole ts (left l) x d e in
    subst (λ (r : PricesFault). IsFault ts r) (sym (k ∙ ap (λ (us : List Tok). fault_of x (first_line us)) s.head)) (shown ts x s.at.line s.at.column ok (first_fault shown_rule shown_good shown_starts ends ts (left l) s.rest s.at x e s.head))

pub none_so : (ts ls : List Tok) (e : Stop) (f : PricesFault) (x : Shown) → ls ≡ ts → Halts e (shown_rule.read kept ls) → Answers e f → StandsFor ts x → f ≡ faults.Memory
none_so ts ls stops.NoMemory f x g h k s = k
none_so ts ls (stops.Fault y l) f x g h k s = absurd (none_of shown_rule shown_good ends ts (left l) y x (here ts ls (fails y (left l)) g h) s)
