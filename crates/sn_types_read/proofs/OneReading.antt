-- A text isn't read as two things.
use Rattle.std.proofs.Common.{◌≡◌, ℕ, List, ◌∷◌, Some, None, Result, Ok, Err, refl, sym, ap, subst, ◌∙◌, inl, inr, ◌⊎◌}
use Rattle.sn_text_rules.specs.declared.Flaw.{Flaw}
use Rattle.sn_text_rules.specs.declared.Flaw.TheVariants as flaws
use Rattle.sn_text_rules.specs.Tokens.{Tok}
use Rattle.sn_text_rules.specs.Rules.{FirstFault, Accepts}
use Rattle.sn_text_rules.proofs.Faults.{again_of, only_of, same_fault, not_both}
use Rattle.sn_text.specs.Cutting.{tokens_of}
use Rattle.sn_query_grammar.specs.declared.ast.QueryFile.{QueryFile}
use Rattle.sn_query_grammar.specs.Grammar.{file_rule}
use Rattle.sn_query_grammar.proofs.Queries.{file_good, file_ends}
use Rattle.sn_query.specs.declared.fault.ParseFault.{ParseFault}
use Rattle.sn_query.specs.declared.fault.ParseFault.TheVariants as texts
use Rattle.sn_query.specs.Texts.{shown, IsFault}
use Rattle.sn_types_faults.specs.declared.fault.TypeFault.{TypeFault}
use Rattle.sn_types_faults.specs.Walk.{walk, first_fault}
use Rattle.sn_types.specs.declared.typed_query.TypedQuery.{TypedQuery}
use Rattle.sn_types_read.specs.declared.fault.QueryFault.{QueryFault}
use Rattle.sn_types_read.specs.declared.fault.Refused.{Refused}
use Rattle.sn_types_read.specs.declared.fault.Refused.TheVariants as refused
use Rattle.sn_types_read.specs.Texts.{text_fault, type_fault, StandsFor, IsTextFault, IsFileFault, Queries, IsRead}

abbrev Accepted : List ℕ → QueryFile → Type 0
Accepted text file = Accepts file_rule (tokens_of text) file

same_file : (text : List ℕ) (a b : QueryFile) → Accepted text a → Accepted text b → a ≡ b
same_file text a b h k = only_of file_rule file_good file_ends (tokens_of text) a b (again_of file_rule file_good file_ends (tokens_of text) a h) k

-- ---- a fault of the text

pub record Named (ts : List Tok) (found : ParseFault) : Type 0 where
  pub flaw : Flaw
  pub line : ℕ
  pub column : ℕ
  pub is : found ≡ shown flaw line column
  pub first : FirstFault file_rule ts flaw line column

named : (ts : List Tok) (found : ParseFault) (fault : QueryFault) → IsFault ts found → text_fault found ≡ refused.Fault fault → Named ts found
named ts texts.Memory fault h e = absurd cc
named ts (texts.Lex line column) fault h e = record { flaw = flaws.Lex; line = line; column = column; is = refl; first = h }
named ts (texts.Expected line column) fault h e = record { flaw = flaws.Expected; line = line; column = column; is = refl; first = h }
named ts (texts.TooMany line column) fault h e = record { flaw = flaws.TooMany; line = line; column = column; is = refl; first = h }
named ts (texts.Twice line column) fault h e = record { flaw = flaws.Twice; line = line; column = column; is = refl; first = h }

same_found : (ts : List Tok) (a b : ParseFault) → Named ts a → Named ts b → a ≡ b
same_found ts a b m n = let s = same_fault m.first n.first in m.is ∙ rw (s.flaw, s.line_is, s.column_is) refl ∙ sym n.is

fault_is : (a b : QueryFault) → ◌≡◌ {A = Refused} (refused.Fault a) (refused.Fault b) → a ≡ b
fault_is a b e = cc

not_text : (text : List ℕ) (file : QueryFile) (fault : QueryFault) → Accepted text file → IsTextFault text fault → ⊥
not_text text file fault h (found, is, e) = let n = named (tokens_of text) found fault is e in not_both file n.first h

text_once : (text : List ℕ) (a b : QueryFault) → IsTextFault text a → IsTextFault text b → a ≡ b
text_once text a b (found, is, e) (other, its, f) =
    let same = same_found (tokens_of text) found other (named (tokens_of text) found a is e) (named (tokens_of text) other b its f) in
    fault_is a b (sym e ∙ ap text_fault same ∙ f)

-- ---- a fault of the types

some_is : (a b : TypeFault) → Some a ≡ Some b → a ≡ b
some_is a b e = cc

file_once : (text : List ℕ) (a b : QueryFault) → IsFileFault text a → IsFileFault text b → a ≡ b
file_once text a b (file, found, h, is, e) (other, its, k, are, f) =
    let same = same_file text file other h k in
    let faults : found ≡ its = some_is found its (sym is ∙ ap (λ (q : QueryFile). first_fault (walk q)) same ∙ are) in
    fault_is a b (sym e ∙ ap type_fault faults ∙ f)

none_some : (f : TypeFault) → None ≡ Some f → ⊥
none_some f e = cc

-- ---- the reading

abbrev read_as : ℕ → List TypedQuery → Queries
read_as window queries = record { window_us = window; queries = queries }

made : (w x : ℕ) (qs rs : List TypedQuery) → w ≡ x → qs ≡ rs → read_as w qs ≡ read_as x rs
made w x qs rs e f = rw (e, f) refl

queries_is : (a b : Queries) → a.window_us ≡ b.window_us → a.queries ≡ b.queries → a ≡ b
queries_is a b e f = made a.window_us b.window_us a.queries b.queries e f

typed_once : (text : List ℕ) (a b : Queries) → StandsFor text a.window_us a.queries → StandsFor text b.window_us b.queries → a ≡ b
typed_once text a b (file, h, t) (other, k, u) =
    let same = same_file text file other h k in
    let window : a.window_us ≡ b.window_us = t.same_window ∙ ap (λ (q : QueryFile). q.window_us) same ∙ sym u.same_window in
    queries_is a b window (t.same_queries ∙ rw same refl ∙ sym u.same_queries)

not_file : (text : List ℕ) (a : Queries) (b : QueryFault) → StandsFor text a.window_us a.queries → IsFileFault text b → ⊥
not_file text a b (file, h, t) (other, its, k, are, f) =
    let same = same_file text file other h k in
    none_some its (sym t.no_fault ∙ ap (λ (q : QueryFile). first_fault (walk q)) same ∙ are)

never : (text : List ℕ) (a : Queries) (b : QueryFault) → IsRead text (Ok a) → IsRead text (Err b) → ⊥
never text a b (file, h, t) k = elim k [ inl f ↦ not_text text file b h f | inr f ↦ not_file text a b (file, h, t) f ]

refused_once : (text : List ℕ) (a b : QueryFault) → IsTextFault text a ⊎ IsFileFault text a → IsTextFault text b ⊎ IsFileFault text b → a ≡ b
refused_once text a b (inl f) (inl g) = text_once text a b f g
refused_once text a b (inl f) (inr (file, found, h, is, e)) = absurd (not_text text file a h f)
refused_once text a b (inr (file, found, h, is, e)) (inl g) = absurd (not_text text file b h g)
refused_once text a b (inr f) (inr g) = file_once text a b f g

pub reading_once : (text : List ℕ) (first second : Result Queries QueryFault) → IsRead text first → IsRead text second → first ≡ second
reading_once text (Ok a) (Ok b) h k = ap Ok (typed_once text a b h k)
reading_once text (Ok a) (Err b) h k = absurd (never text a b h k)
reading_once text (Err a) (Ok b) h k = absurd (never text b a k h)
reading_once text (Err a) (Err b) h k = ap Err (refused_once text a b h k)
