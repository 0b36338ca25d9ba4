-- What is printed stands for the same file, up to lines.
use Rattle.std.proofs.Common.{◌≡◌, ℕ, List, [], ◌∷◌, ◌++◌, refl, sym, ap, ◌∙◌, subst}
use Rattle.std.specs.Prelude.{codes}
use Rattle.std.proofs.lemmas.List.{map-append}
use Rattle.sn_text_rules.specs.Tokens.{Lexeme, Mark, word, number, finish, plain, mark_face, mark_faces}
use Rattle.sn_text_rules.specs.Rules.{Accepts}
use Rattle.sn_text.specs.Cutting.{tokens_of}
use Rattle.sn_text.proofs.Lexemes.{AllFine}
use Rattle.sn_text.proofs.Chunks.{closed_by, rewritten}
use Rattle.sn_query_grammar.specs.declared.ast.QueryFile.{QueryFile}
use Rattle.sn_query_grammar.specs.Grammar.{file_rule}
use Rattle.sn_query_grammar.proofs.Queries.{file_good}
use Rattle.sn_query_print.specs.Layout.{layout}
use Rattle.sn_query_print.specs.Printing.{queries_spelled}
use Rattle.sn_query_print.specs.Again.{IsParsed, StandsFor}
use Rattle.sn_query_print.proofs.Written.{chunks, chunks_faces, chunks_spaced, layout_is}

abbrev marks : QueryFile → List Mark
marks f = plain (number f.window_us) ∷ queries_spelled f.queries

abbrev front_of : QueryFile → List Mark
front_of f = plain (word (codes "window")) ∷ marks f

file_parts : (f : QueryFile) → file_rule.spell f ≡ front_of f ++ plain finish ∷ []
unfolding file_rule
file_parts f = refl

pub stands_again : (f : QueryFile) → IsParsed f → (text : List ℕ) → text ≡ layout (file_rule.spell f) → StandsFor text f
stands_again f h text e =
    let faces : mark_faces (file_rule.spell f) ≡ closed_by (chunks (front_of f)) =
    ap mark_faces (file_parts f) ∙ map-append mark_face (front_of f) (plain finish ∷ []) ∙ ap (λ (xs : List Lexeme). xs ++ finish ∷ []) (sym (chunks_faces (front_of f))) in
    let a = rewritten file_good h.0 f (chunks (front_of f)) h.1 faces (λ fine. chunks_spaced (front_of f) (subst AllFine (chunks_faces (front_of f)) fine)) in
    let is = e ∙ ap layout (file_parts f) ∙ layout_is (plain (word (codes "window"))) (marks f) in
    (a.value, subst (λ (w : List ℕ). Accepts file_rule (tokens_of w) a.value) (sym is) a.accepted, a.same)
