-- The plan of a whole text.
use Rattle.std.proofs.Common.{◌≡◌, ℕ, Bool, true, cond, List, [], ◌∷◌, ◌++◌, Result, Ok, Err, refl, sym, ap, subst, ◌∙◌, append_assoc}
use Rattle.std.proofs.lemmas.List.{append_cancel_right}
use Rattle.sn_text_rules.specs.declared.Flaw.{Flaw}
use Rattle.sn_text_rules.specs.declared.Flaw.TheVariants as kinds
use Rattle.sn_text_rules.specs.Tokens.{Tok, Spelled, Read, got, fails, first_line}
use Rattle.sn_text_rules.specs.Rules.{kept, FirstFault}
use Rattle.sn_text_rules.specs.Words.{judged_by}
use Rattle.sn_text_rules.proofs.Common.{same_value, same_rest, respelled, spelled_append}
use Rattle.sn_text_rules.proofs.Faults.{fault_of as first_fault}
use Rattle.sn_text_rules.proofs.Bounded.{reported_ok}
use Rattle.sn_text.specs.Cutting.{is_last, tokens_of}
use Rattle.sn_text.proofs.Ends.{tokens_ended}
use Rattle.sn_text.specs.Lexing.{left}
use Rattle.sn_text.specs.declared.stop.Stop.{Stop}
use Rattle.sn_text.specs.declared.stop.Stop.TheVariants as stops
use Rattle.sn_text.specs.Reading.{Halts}
use Rattle.sn_text.proofs.Tokens.{Next, halts}
use Rattle.sn_plan_grammar.specs.declared.plan.Plan.{Plan}
use Rattle.sn_plan_grammar.specs.Grammar.{end_in, any_end, end_rule, plan_rule, file_rule}
use Rattle.sn_plan_grammar.proofs.Goods.{plan_good, end_good, file_good, ends}
use Rattle.sn_plan_grammar.proofs.Starts.{file_starts}
use Rattle.sn_plan_grammar.proofs.Bounded.{flaws, file_telling}
use Rattle.sn_plan.specs.declared.fault.PlanFault.{PlanFault}
use Rattle.sn_plan.specs.declared.fault.PlanFault.TheVariants as faults
use Rattle.sn_plan.specs.Reading.{BeginsAt}
use Rattle.sn_plan.specs.Texts.{StandsFor, IsFault, fault_of, Answers}

-- ---- the end of a plan

abbrev end_judge : Tok → Result Bool Flaw
end_judge t = judged_by any_end kept t.face (end_in t.face)

abbrev here_ends : ℕ → List Tok → Type 0
here_ends byte ts = (b : Bool) × (us : List Tok) × (end_rule.read kept ts ≡ got b us) × BeginsAt byte ts

pub end_gives : (ts us : List Tok) (t : Tok) (b : Bool) (byte : ℕ) → Next ts t us → Ok b ≡ judged_by any_end kept t.face (end_in t.face) → t.start ≡ byte → here_ends byte ts
end_gives ts us t b byte h e s = subst (here_ends byte) (sym h) (b, cond (is_last t.face) [] us, rw (← e) refl, s)

pub end_halts : (ts us : List Tok) (t : Tok) (x : Flaw) → Next ts t us → Err x ≡ judged_by any_end kept t.face (end_in t.face) → end_rule.read kept ts ≡ fails x ts
end_halts ts us t x h e = halts end_judge ts us t x h (sym e)

-- ---- the whole

pub plan_halts : (ts : List Tok) (e : Stop) → Halts e (plan_rule.read kept ts) → Halts e (file_rule.read kept ts)
unfolding file_rule
plan_halts ts stops.NoMemory h = tt
plan_halts ts (stops.Fault x l) h = rw h refl

pub ending_halts : (ts us : List Tok) (p : Plan) (e : Stop) → plan_rule.read kept ts ≡ got p us → Halts e (end_rule.read kept us) → Halts e (file_rule.read kept ts)
unfolding file_rule
ending_halts ts us p stops.NoMemory g h = tt
ending_halts ts us p (stops.Fault x l) g h = rw (g, h) refl

file_read : (ts us vs : List Tok) (p : Plan) (b : Bool) → plan_rule.read kept ts ≡ got p us → end_rule.read kept us ≡ got b vs → file_rule.read kept ts ≡ got (p, b) vs
unfolding file_rule
file_read ts us vs p b g h = rw (g, h) refl

-- the last token of what was read
record Last (ts : List Tok) (p : Plan) (b : Bool) (vs : List Tok) (byte : ℕ) : Type 0 where
  front : List Tok
  at : Tok
  parts : ts ≡ (front ++ at ∷ []) ++ vs
  spelled : Spelled (front ++ at ∷ []) (file_rule.spell (p, b))
  starts : at.start ≡ byte

file_spelled : (front : List Tok) (t : Tok) (p : Plan) (b : Bool) → Spelled front (plan_rule.spell p) → Spelled (t ∷ []) (end_rule.spell b) → Spelled (front ++ t ∷ []) (file_rule.spell (p, b))
unfolding file_rule
file_spelled front t p b f e = spelled_append front (t ∷ []) (plan_rule.spell p) (end_rule.spell b) f e

pub one_token : (front : List Tok) (b : Bool) → Spelled front (end_rule.spell b) → (t : Tok) × (front ≡ t ∷ [])
one_token [] b s = absurd s
one_token (t ∷ []) b s = (t, refl)
one_token (t ∷ u ∷ ts) b s = absurd s.1

begins_so : (byte : ℕ) (us vs : List Tok) (t : Tok) → us ≡ t ∷ vs → BeginsAt byte us → t.start ≡ byte
begins_so byte us vs t e h = subst (BeginsAt byte) e h

last_of : (ts us vs : List Tok) (p : Plan) (b : Bool) (byte : ℕ) → plan_rule.read kept ts ≡ got p us → end_rule.read kept us ≡ got b vs → BeginsAt byte us → Last ts p b vs byte
last_of ts us vs p b byte g h s =
    let x = plan_good.takes kept ts us p g in
    let y = end_good.takes kept us vs b h in
    let o = one_token y.front b y.spelled in
    let whole : us ≡ o.0 ∷ vs = y.parts ∙ ap (λ (f : List Tok). f ++ vs) o.1 in
    record {
      front = x.front;
      at = o.0;
      parts = x.parts ∙ ap (λ (f : List Tok). x.front ++ f) whole ∙ sym (append_assoc x.front (o.0 ∷ []) vs);
      spelled = file_spelled x.front o.0 p b x.spelled (respelled y.front (o.0 ∷ []) (end_rule.spell b) o.1 y.spelled);
      starts = begins_so byte us vs o.0 whole s;
    }

here : (ts ls : List Tok) (r : Read (Plan × Bool)) → ls ≡ ts → file_rule.read kept ls ≡ r → file_rule.read kept ts ≡ r
here ts ls r h e = ap (file_rule.read kept) (sym h) ∙ e

stands : (ts us : List Tok) (p : Plan) (byte : ℕ) → plan_rule.read kept ts ≡ got p us → here_ends byte us → StandsFor ts p byte
stands ts us p byte g h =
    let l = last_of ts us h.1 p h.0 byte g h.2 h.3 in
    record {
      front = l.front;
      at = l.at;
      rest = h.1;
      cost = h.0;
      parts = l.parts;
      accepted = record { spelled = l.spelled; fits = file_good.fitting kept ts h.1 (p, h.0) (file_read ts us h.1 p h.0 g h.2) };
      starts = l.starts;
    }

last_same : (xs ys : List Tok) (t u : Tok) → xs ++ t ∷ [] ≡ ys ++ u ∷ [] → t ≡ u
last_same [] [] t u e = cc
last_same [] (y ∷ []) t u e = absurd cc
last_same [] (y ∷ z ∷ ys) t u e = absurd cc
last_same (x ∷ []) [] t u e = absurd cc
last_same (x ∷ z ∷ xs) [] t u e = absurd cc
last_same (x ∷ xs) (y ∷ ys) t u e = let h : xs ++ t ∷ [] ≡ ys ++ u ∷ [] = cc in last_same xs ys t u h

free_end : (us : List Tok) → file_rule.follow us ≡ true
unfolding file_rule
free_end us = refl

pub stood : (ts : List Tok) (p : Plan) (byte : ℕ) (s : StandsFor ts p byte) → file_rule.read kept ts ≡ got (p, s.cost) s.rest
stood ts p byte s = ap (file_rule.read kept) s.parts ∙ file_good.again kept (s.front ++ s.at ∷ []) s.rest (p, s.cost) s.accepted.fits s.accepted.spelled (free_end s.rest)

abbrev both : Plan → Bool → Plan × Bool
both p b = (p, b)

pub same_plan : (ts : List Tok) (p q : Plan) (byte other : ℕ) → StandsFor ts p byte → StandsFor ts q other → (p ≡ q) × (byte ≡ other)
same_plan ts p q byte other l s =
    let e : got (both p l.cost) l.rest ≡ got (both q s.cost) s.rest = sym (stood ts p byte l) ∙ stood ts q other s in
    let v = same_value (both p l.cost) (both q s.cost) l.rest s.rest e in
    let r = same_rest (both p l.cost) (both q s.cost) l.rest s.rest e in
    let c = append_cancel_right (l.front ++ l.at ∷ []) (s.front ++ s.at ∷ []) s.rest (ap (λ (w : List Tok). (l.front ++ l.at ∷ []) ++ w) (sym r) ∙ sym l.parts ∙ s.parts) in
    let t = last_same l.front s.front l.at s.at c in
    (ap (λ (x : Plan × Bool). x.0) v, sym l.starts ∙ ap (λ (x : Tok). x.start) t ∙ s.starts)

-- ---- the same of what the code knows

pub found_so : (ts ls us : List Tok) (p : Plan) (byte n : ℕ) → ls ≡ ts → plan_rule.read kept ls ≡ got p us → here_ends byte us → n ≡ byte → StandsFor ts p n
found_so ts ls us p byte n h g e k = subst (λ (m : ℕ). StandsFor ts p m) (sym k) (stands ts us p byte (ap (plan_rule.read kept) (sym h) ∙ g) e)

pub only_so : (ts ls us : List Tok) (p q : Plan) (byte n other : ℕ) → ls ≡ ts → plan_rule.read kept ls ≡ got p us → here_ends byte us → n ≡ byte → StandsFor ts q other → (p ≡ q) × (n ≡ other)
only_so ts ls us p q byte n other h g e k s = let o = same_plan ts p q byte other (stands ts us p byte (ap (plan_rule.read kept) (sym h) ∙ g) e) s in (o.0, k ∙ o.1)

-- a first fault of the format is the text's, under its name
pub shown : (ts : List Tok) (x : Flaw) (line column : ℕ) → flaws.ok x ≡ true → FirstFault file_rule ts x line column → IsFault ts (fault_of x line)
shown ts kinds.Lex line column o f = (column, f)
shown ts kinds.Expected line column o f = (column, f)
shown ts kinds.TooMany line column o f = absurd cc
shown ts kinds.Range line column o f = absurd cc
shown ts kinds.Twice line column o f = absurd cc
shown ts kinds.Missing line column o f = absurd cc

-- where reading stops, the answer is the first fault, and the text stands for no plan, unless memory ran out
pub fault_so : (text : List ℕ) (ls : List Tok) (e : Stop) (f : PlanFault) → ls ≡ tokens_of text → Halts e (file_rule.read kept ls) → Answers e f → IsFault (tokens_of text) f
fault_so text ls stops.NoMemory f g h k = subst (λ (s : PlanFault). IsFault (tokens_of text) s) (sym k) tt
fault_so text ls (stops.Fault x l) f g h k =
    let ts : List Tok = tokens_of text in
    let e = here ts ls (fails x (left l)) g h in
    let s = file_good.stands kept ts (left l) x e in
    let ok = reported_ok file_telling ts (left l) x (tokens_ended text) e in
    subst (λ (r : PlanFault). IsFault ts r) (sym (k ∙ ap (λ (us : List Tok). fault_of x (first_line us)) s.head)) (shown ts x s.at.line s.at.column ok (first_fault file_rule file_good file_starts ends ts (left l) s.rest s.at x e s.head))

pub none_so : (ts ls : List Tok) (e : Stop) (f : PlanFault) (p : Plan) (byte : ℕ) → ls ≡ ts → Halts e (file_rule.read kept ls) → Answers e f → StandsFor ts p byte → f ≡ faults.Memory
none_so ts ls stops.NoMemory f p byte g h k j = k
none_so ts ls (stops.Fault x l) f p byte g h k j = (let e : got (both p j.cost) j.rest ≡ fails x (left l) = sym (stood ts p byte j) ∙ here ts ls (fails x (left l)) g h in absurd cc)
