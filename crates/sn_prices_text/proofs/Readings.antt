-- A text is read as exactly one thing from each byte on.
use Rattle.std.proofs.Common.{◌≡◌, ℕ, List, Result, Ok, Err, refl, sym, ap, ◌∙◌, inl, inr}
use Rattle.std.specs.Prelude.{◌≢◌}
use Rattle.sn_text_rules.specs.declared.Flaw.{Flaw}
use Rattle.sn_text_rules.specs.declared.Flaw.TheVariants as kinds
use Rattle.sn_text_rules.specs.Tokens.{Tok}
use Rattle.sn_text_rules.specs.Rules.{FirstFault}
use Rattle.sn_text_rules.proofs.Faults.{again_of, only_of, same_fault, not_both}
use Rattle.sn_text_rules.proofs.Bounded.{what_it_is}
use Rattle.sn_text.specs.Cutting.{tokens_of}
use Rattle.sn_text.proofs.Ends.{tokens_ended}
use Rattle.sn_tree_text.specs.Places.{from_byte}
use Rattle.sn_tree_text.proofs.Places.{ended_from}
use Rattle.sn_prices_grammar.specs.declared.prices.Shown.{Shown}
use Rattle.sn_prices_grammar.specs.PricesGrammar.{shown_rule}
use Rattle.sn_prices_grammar.proofs.Goods.{shown_good, ends}
use Rattle.sn_prices_grammar.proofs.Starts.{shown_starts}
use Rattle.sn_prices_grammar.proofs.Bounded.{shown_whole}
use Rattle.sn_prices_text.specs.declared.fault.PricesFault.{PricesFault}
use Rattle.sn_prices_text.specs.declared.fault.PricesFault.TheVariants as faults
use Rattle.sn_prices_text.specs.PricesTexts.{StandsFor, IsFault, fault_of, IsRead, HasReading}
use Rattle.sn_prices_text.proofs.Shows.{shown}

real : (x : Flaw) (line : ℕ) → fault_of x line ≢ faults.Memory
real kinds.Lex line = λ e. cc
real kinds.Expected line = λ e. cc
real kinds.TooMany line = λ e. cc
real kinds.Range line = λ e. cc
real kinds.Twice line = λ e. cc
real kinds.Missing line = λ e. cc

pub reading_some : (text : List ℕ) (byte : ℕ) → HasReading text byte
reading_some text byte = elim (what_it_is shown_good shown_starts ends shown_whole (from_byte byte (tokens_of text)) (ended_from byte (tokens_of text) (tokens_ended text))) [
  | inl v ↦ record { reading = Ok v.0; is = v.1 }
  | inr f ↦ record { reading = Err (fault_of f.flaw f.line); is = (shown (from_byte byte (tokens_of text)) f.flaw f.line f.column f.ok f.first, real f.flaw f.line) }
]

record Named (ts : List Tok) (e : PricesFault) : Type 0 where
  flaw : Flaw
  line : ℕ
  column : ℕ
  is : e ≡ fault_of flaw line
  first : FirstFault shown_rule ts flaw line column

named : (ts : List Tok) (e : PricesFault) → IsFault ts e → e ≢ faults.Memory → Named ts e
named ts (faults.Lex line) h n = record { flaw = kinds.Lex; line = line; column = h.0; is = refl; first = h.1 }
named ts (faults.Expected line) h n = record { flaw = kinds.Expected; line = line; column = h.0; is = refl; first = h.1 }
named ts faults.Memory h n = absurd (n refl)

never : (ts : List Tok) (x : Shown) (e : PricesFault) → StandsFor ts x → IsFault ts e × (e ≢ faults.Memory) → ⊥
never ts x e h f = not_both x (named ts e f.0 f.1).first h

value_once : (ts : List Tok) (x y : Shown) → StandsFor ts x → StandsFor ts y → x ≡ y
value_once ts x y h k = only_of shown_rule shown_good ends ts x y (again_of shown_rule shown_good ends ts x h) k

fault_once : (ts : List Tok) (e f : PricesFault) → Named ts e → Named ts f → e ≡ f
fault_once ts e f m n = let s = same_fault m.first n.first in m.is ∙ rw (s.flaw, s.line_is) refl ∙ sym n.is

pub reading_once : (text : List ℕ) (byte : ℕ) (first second : Result Shown PricesFault) → IsRead text byte first → IsRead text byte second → first ≡ second
reading_once text byte (Ok x) (Ok y) h k = ap Ok (value_once (from_byte byte (tokens_of text)) x y h k)
reading_once text byte (Ok x) (Err e) h k = absurd (never (from_byte byte (tokens_of text)) x e h k)
reading_once text byte (Err e) (Ok y) h k = absurd (never (from_byte byte (tokens_of text)) y e k h)
reading_once text byte (Err e) (Err f) h k = ap Err (fault_once (from_byte byte (tokens_of text)) e f (named (from_byte byte (tokens_of text)) e h.0 h.1) (named (from_byte byte (tokens_of text)) f k.0 k.1))
