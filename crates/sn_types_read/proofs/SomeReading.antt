-- A text is read as something.
use Rattle.std.proofs.Common.{◌≡◌, ℕ, true, List, Option, Some, None, Ok, Err, refl, ap, ◌∙◌, inl, inr}
use Rattle.std.specs.Prelude.{map}
use Rattle.sn_text_rules.specs.declared.Flaw.{Flaw}
use Rattle.sn_text_rules.specs.declared.Flaw.TheVariants as kinds_of_flaw
use Rattle.sn_text_rules.specs.Rules.{Accepts}
use Rattle.sn_text_rules.proofs.Bounded.{what_it_is}
use Rattle.sn_text.specs.Cutting.{tokens_of}
use Rattle.sn_text.proofs.Ends.{tokens_ended}
use Rattle.sn_query_grammar.specs.declared.ast.QueryFile.{QueryFile}
use Rattle.sn_query_grammar.specs.Grammar.{file_rule}
use Rattle.sn_query_grammar.proofs.Queries.{file_good, file_ends}
use Rattle.sn_query_grammar.proofs.Starts.{file_starts}
use Rattle.sn_query_grammar.proofs.Bounded.{flaws, file_whole}
use Rattle.sn_query.specs.Texts.{shown}
use Rattle.sn_query.proofs.Files.{fault_is}
use Rattle.sn_query_grammar.proofs.FileLimits.{accepted_keeps_limits}
use Rattle.sn_types_faults.specs.declared.fault.TypeFault.{TypeFault}
use Rattle.sn_types_faults.specs.declared.fault.TypeFault.TheVariants as types
use Rattle.sn_types_faults.specs.Walk.{walk, first_fault}
use Rattle.sn_types.specs.Typing.{typed_query}
use Rattle.sn_types_read.specs.declared.fault.Kind.TheVariants as kinds
use Rattle.sn_types_read.specs.declared.fault.QueryFault.{QueryFault}
use Rattle.sn_types_read.specs.declared.fault.Refused.TheVariants as refused
use Rattle.sn_types_read.specs.Texts.{text_fault, type_fault, HasReading}
use Rattle.sn_types_read.proofs.RealFaults.{never_memory}

shown_as : (x : Flaw) (line column : ℕ) → flaws.ok x ≡ true → (q : QueryFault) × (text_fault (shown x line column) ≡ refused.Fault q)
shown_as kinds_of_flaw.Lex line column o = (record { kind = kinds.Lex; line = line }, refl)
shown_as kinds_of_flaw.Expected line column o = (record { kind = kinds.Expected; line = line }, refl)
shown_as kinds_of_flaw.TooMany line column o = (record { kind = kinds.TooMany; line = line }, refl)
shown_as kinds_of_flaw.Twice line column o = (record { kind = kinds.Twice; line = line }, refl)
shown_as kinds_of_flaw.Range line column o = absurd cc
shown_as kinds_of_flaw.Missing line column o = absurd cc

typed_as : (f : TypeFault) → (f ≡ types.Memory → ⊥) → (q : QueryFault) × (type_fault f ≡ refused.Fault q)
typed_as (types.UnknownField line) h = (record { kind = kinds.UnknownField; line = line }, refl)
typed_as (types.UnknownColumn line) h = (record { kind = kinds.UnknownColumn; line = line }, refl)
typed_as (types.TooWide line) h = (record { kind = kinds.TooWide; line = line }, refl)
typed_as (types.NoMap line) h = (record { kind = kinds.NoMap; line = line }, refl)
typed_as (types.RefineLost line) h = (record { kind = kinds.RefineLost; line = line }, refl)
typed_as (types.RefineFilter line) h = (record { kind = kinds.RefineFilter; line = line }, refl)
typed_as (types.Levels line) h = (record { kind = kinds.Levels; line = line }, refl)
typed_as (types.JoinKeys line) h = (record { kind = kinds.JoinKeys; line = line }, refl)
typed_as types.Memory h = absurd (h refl)

of_file : (text : List ℕ) (file : QueryFile) → Accepts file_rule (tokens_of text) file → (fault : Option TypeFault) → first_fault (walk file) ≡ fault → HasReading text
of_file text file h None e = record {
  reading = Ok (record { window_us = file.window_us; queries = map typed_query file.queries });
  is = (file, h, record { limits = accepted_keeps_limits (tokens_of text) file h; no_fault = e; same_window = refl; same_queries = refl });
}
of_file text file h (Some f) e =
    let q = typed_as f (λ m. never_memory (walk file) (e ∙ ap (λ x. Some x) m)) in
    record { reading = Err q.0; is = inr (file, f, h, e, q.1) }

pub reading_some : (text : List ℕ) → HasReading text
reading_some text = elim (what_it_is file_good file_starts file_ends file_whole (tokens_of text) (tokens_ended text)) [
  | inl v ↦ of_file text v.0 v.1 (first_fault (walk v.0)) refl
  | inr f ↦ (let q = shown_as f.flaw f.line f.column f.ok in
      record { reading = Err q.0; is = inl (shown f.flaw f.line f.column, fault_is (tokens_of text) (shown f.flaw f.line f.column) f.flaw f.line f.column refl f.ok f.first, q.1) })
]
