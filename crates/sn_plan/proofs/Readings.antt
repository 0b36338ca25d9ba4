-- A plan text is read as exactly one thing.
use Rattle.std.proofs.Common.{◌≡◌, ℕ, Bool, true, List, [], ◌∷◌, ◌++◌, Result, Ok, Err, refl, sym, ap, ◌∙◌}
use Rattle.std.specs.Prelude.{◌≢◌}
use Rattle.sn_text_rules.specs.declared.Flaw.{Flaw}
use Rattle.sn_text_rules.specs.declared.Flaw.TheVariants as kinds
use Rattle.sn_text_rules.specs.Tokens.{Tok, Spelled, Read, got, fails, short}
use Rattle.sn_text_rules.specs.Rules.{kept, FirstFault}
use Rattle.sn_text_rules.proofs.Common.{respelled, split_spelled}
use Rattle.sn_text_rules.proofs.Faults.{same_fault}
use Rattle.sn_text_rules.proofs.Bounded.{Tells, fault_at}
use Rattle.sn_text.specs.Cutting.{tokens_of}
use Rattle.sn_text.proofs.Ends.{tokens_ended}
use Rattle.sn_plan_grammar.specs.declared.plan.Plan.{Plan}
use Rattle.sn_plan_grammar.specs.Grammar.{plan_rule, end_rule, file_rule}
use Rattle.sn_plan_grammar.proofs.Goods.{file_good, ends}
use Rattle.sn_plan_grammar.proofs.Starts.{file_starts}
use Rattle.sn_plan_grammar.proofs.Bounded.{flaws, file_telling}
use Rattle.sn_plan.specs.declared.fault.PlanFault.{PlanFault}
use Rattle.sn_plan.specs.declared.fault.PlanFault.TheVariants as faults
use Rattle.sn_plan.specs.Texts.{StandsFor, IsFault, fault_of, IsRead, HasReading}
use Rattle.sn_plan.proofs.Plans.{one_token, stood, same_plan, shown}

real : (x : Flaw) (line : ℕ) → fault_of x line ≢ faults.Memory
real kinds.Lex line = λ e. cc
real kinds.Expected line = λ e. cc
real kinds.TooMany line = λ e. cc
real kinds.Range line = λ e. cc
real kinds.Twice line = λ e. cc
real kinds.Missing line = λ e. cc

parted : (front : List Tok) (p : Plan) (b : Bool) → Spelled front (file_rule.spell (p, b)) → (f : List Tok) × (t : Tok) × (front ≡ f ++ t ∷ [])
unfolding file_rule
parted front p b s =
    let k = split_spelled front (plan_rule.spell p) (end_rule.spell b) s in
    let o = one_token k.1 b k.4 in
    (k.0, o.0, k.2 ∙ ap (λ (r : List Tok). k.0 ++ r) o.1)

stands : (ts us : List Tok) (p : Plan) (b : Bool) → file_rule.read kept ts ≡ got (p, b) us → (byte : ℕ) × StandsFor ts p byte
stands ts us p b e =
    let k = file_good.takes kept ts us (p, b) e in
    let d = parted k.front p b k.spelled in (
      d.1.start,
      record {
        front = d.0;
        at = d.1;
        rest = us;
        cost = b;
        parts = k.parts ∙ ap (λ (f : List Tok). f ++ us) d.2;
        accepted = record { spelled = respelled k.front (d.0 ++ d.1 ∷ []) (file_rule.spell (p, b)) d.2 k.spelled; fits = file_good.fitting kept ts us (p, b) e };
        starts = refl;
      },
    )

reading : (text : List ℕ) (r : Read (Plan × Bool)) → file_rule.read kept (tokens_of text) ≡ r → Tells flaws r → HasReading text
reading text (got x us) e d = let s = stands (tokens_of text) us x.0 x.1 e in record { reading = Ok (x.0, s.0); is = s.1 }
reading text (fails x us) e d =
    let f = fault_at {o = flaws} file_good file_starts ends (tokens_of text) us x e d in
    record { reading = Err (fault_of f.flaw f.line); is = (shown (tokens_of text) f.flaw f.line f.column f.ok f.first, real f.flaw f.line) }
reading text short e d = absurd d

pub reading_some : (text : List ℕ) → HasReading text
reading_some text = reading text (file_rule.read kept (tokens_of text)) refl (file_telling.reported (tokens_of text) (tokens_ended text))

record Named (ts : List Tok) (e : PlanFault) : Type 0 where
  flaw : Flaw
  line : ℕ
  column : ℕ
  is : e ≡ fault_of flaw line
  first : FirstFault file_rule ts flaw line column

named : (ts : List Tok) (e : PlanFault) → IsFault ts e → e ≢ faults.Memory → Named ts e
named ts (faults.Lex line) h n = record { flaw = kinds.Lex; line = line; column = h.0; is = refl; first = h.1 }
named ts (faults.Expected line) h n = record { flaw = kinds.Expected; line = line; column = h.0; is = refl; first = h.1 }
named ts faults.Memory h n = absurd (n refl)

never : (ts : List Tok) (p : Plan) (byte : ℕ) (e : PlanFault) → StandsFor ts p byte → Named ts e → ⊥
never ts p byte e s n = apart (p, s.cost) s.rest n.flaw (n.first.at ∷ n.first.rest) (sym (stood ts p byte s) ∙ n.first.kind)
  where
    apart : (x : Plan × Bool) (us : List Tok) (flaw : Flaw) (vs : List Tok) → got x us ≡ fails flaw vs → ⊥
    apart x us flaw vs k = cc

fault_once : (ts : List Tok) (e f : PlanFault) → Named ts e → Named ts f → e ≡ f
fault_once ts e f m n = let s = same_fault m.first n.first in m.is ∙ rw (s.flaw, s.line_is) refl ∙ sym n.is

plan_once : (ts : List Tok) (x y : Plan × ℕ) → StandsFor ts x.0 x.1 → StandsFor ts y.0 y.1 → x ≡ y
plan_once ts x y h k = let s = same_plan ts x.0 y.0 x.1 y.1 h k in same x.0 y.0 x.1 y.1 s.0 s.1
  where
    both : Plan → ℕ → Plan × ℕ
    both p b = (p, b)

    same : (p q : Plan) (b c : ℕ) → p ≡ q → b ≡ c → both p b ≡ both q c
    same p q b c e f = rw (e, f) refl

pub reading_once : (text : List ℕ) (first second : Result (Plan × ℕ) PlanFault) → IsRead text first → IsRead text second → first ≡ second
reading_once text (Ok x) (Ok y) h k = ap Ok (plan_once (tokens_of text) x y h k)
reading_once text (Ok x) (Err e) h k = absurd (never (tokens_of text) x.0 x.1 e h (named (tokens_of text) e k.0 k.1))
reading_once text (Err e) (Ok x) h k = absurd (never (tokens_of text) x.0 x.1 e k (named (tokens_of text) e h.0 h.1))
reading_once text (Err e) (Err f) h k = ap Err (fault_once (tokens_of text) e f (named (tokens_of text) e h.0 h.1) (named (tokens_of text) f k.0 k.1))
