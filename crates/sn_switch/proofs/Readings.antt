-- A switch text is read as exactly one thing.
use Rattle.std.proofs.Common.{◌≡◌, ℕ, List, Result, Ok, Err, refl, sym, ap, subst, ◌∙◌, inl, inr}
use Rattle.std.specs.Prelude.{◌≢◌}
use Rattle.sn_text_rules.specs.declared.Flaw.{Flaw}
use Rattle.sn_text_rules.specs.declared.Flaw.TheVariants as kinds
use Rattle.sn_text_rules.specs.Tokens.{Tok}
use Rattle.sn_text_rules.specs.Rules.{FirstFault}
use Rattle.sn_text_rules.proofs.Faults.{again_of, only_of, same_fault, not_both}
use Rattle.sn_text_rules.proofs.Bounded.{what_it_is}
use Rattle.sn_text.specs.Cutting.{tokens_of}
use Rattle.sn_text.proofs.Ends.{tokens_ended}
use Rattle.sn_switch_grammar.specs.declared.item.Item.{Item}
use Rattle.sn_switch_grammar.specs.Grammar.{switch_rule}
use Rattle.sn_switch_grammar.proofs.Goods.{switch_good, ends}
use Rattle.sn_switch_grammar.proofs.Starts.{switch_starts}
use Rattle.sn_switch_grammar.proofs.Bounded.{switch_whole}
use Rattle.sn_switch.specs.declared.switch.Switch.{Switch}
use Rattle.sn_switch.specs.declared.fault.SwitchFault.{SwitchFault}
use Rattle.sn_switch.specs.declared.fault.SwitchFault.TheVariants as faults
use Rattle.sn_switch.specs.Texts.{switch_in, IsOf, StandsFor, IsFault, fault_of, IsRead, HasReading}
use Rattle.sn_switch.proofs.Switches.{set_so, one_switch, shown}

real : (x : Flaw) (line : ℕ) → fault_of x line ≢ faults.Memory
real kinds.Lex line = λ e. cc
real kinds.Expected line = λ e. cc
real kinds.TooMany line = λ e. cc
real kinds.Range line = λ e. cc
real kinds.Twice line = λ e. cc
real kinds.Missing line = λ e. cc

pub reading_some : (text : List ℕ) → HasReading text
reading_some text = elim (what_it_is switch_good switch_starts ends switch_whole (tokens_of text) (tokens_ended text)) [
  | inl v ↦ record { reading = Ok (switch_in v.0); is = record { items = v.0; accepted = v.1; each = set_so v.0 v.1.fits } }
  | inr f ↦ record { reading = Err (fault_of f.flaw f.line); is = (shown (tokens_of text) f.flaw f.line f.column f.ok f.first, real f.flaw f.line) }
]

record Named (ts : List Tok) (e : SwitchFault) : Type 0 where
  flaw : Flaw
  line : ℕ
  column : ℕ
  is : e ≡ fault_of flaw line
  first : FirstFault switch_rule ts flaw line column

named : (ts : List Tok) (e : SwitchFault) → IsFault ts e → e ≢ faults.Memory → Named ts e
named ts (faults.Lex line) h n = record { flaw = kinds.Lex; line = line; column = h.0; is = refl; first = h.1 }
named ts (faults.Expected line) h n = record { flaw = kinds.Expected; line = line; column = h.0; is = refl; first = h.1 }
named ts (faults.Range line) h n = record { flaw = kinds.Range; line = line; column = h.0; is = refl; first = h.1 }
named ts (faults.Twice line) h n = record { flaw = kinds.Twice; line = line; column = h.0; is = refl; first = h.1 }
named ts (faults.Missing line) h n = record { flaw = kinds.Missing; line = line; column = h.0; is = refl; first = h.1 }
named ts faults.Memory h n = absurd (n refl)

never : (ts : List Tok) (s : Switch) (e : SwitchFault) → StandsFor ts s → IsFault ts e × (e ≢ faults.Memory) → ⊥
never ts s e h f = not_both h.items (named ts e f.0 f.1).first h.accepted

switch_once : (ts : List Tok) (r s : Switch) → StandsFor ts r → StandsFor ts s → r ≡ s
switch_once ts r s h k =
    let same = only_of switch_rule switch_good ends ts h.items k.items (again_of switch_rule switch_good ends ts h.items h.accepted) k.accepted in
    one_switch h.items r s h.each (subst (λ (is : List Item). IsOf is s) (sym same) k.each)

fault_once : (ts : List Tok) (e f : SwitchFault) → Named ts e → Named ts f → e ≡ f
fault_once ts e f m n = let s = same_fault m.first n.first in m.is ∙ rw (s.flaw, s.line_is) refl ∙ sym n.is

pub reading_once : (text : List ℕ) (first second : Result Switch SwitchFault) → IsRead text first → IsRead text second → first ≡ second
reading_once text (Ok r) (Ok s) h k = ap Ok (switch_once (tokens_of text) r s h k)
reading_once text (Ok r) (Err e) h k = absurd (never (tokens_of text) r e h k)
reading_once text (Err e) (Ok s) h k = absurd (never (tokens_of text) s e k h)
reading_once text (Err e) (Err f) h k = ap Err (fault_once (tokens_of text) e f (named (tokens_of text) e h.0 h.1) (named (tokens_of text) f k.0 k.1))
