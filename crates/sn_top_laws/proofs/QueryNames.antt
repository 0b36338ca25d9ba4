-- The names and the levels of queries that are read are those that a plan may have.
use Rattle.std.proofs.Common.{◌≡◌, ℕ, ◌≤◌, Bool, true, false, cond, List, [], ◌∷◌, ◌++◌, length, Option, Some, None, Ok, refl, sym, ap, ◌∙◌, subst, arith}
use Rattle.std.specs.Prelude.{◌==◌, ◌||◌, codes, nat_lt}
use Rattle.std.specs.List.{AllByRecursion, list_any}
use Rattle.std.proofs.lemmas.Bool.Decides.{nat_tests}
use Rattle.std.proofs.lemmas.List.{map-append}
use Rattle.sn_base.proofs.Lists.{all_map, all_two}
use Rattle.sn_command.specs.declared.fault.Fault.TheVariants as faults
use Rattle.sn_command_texts.specs.Queries.{QueriesIn}
use Rattle.sn_command_texts.proofs.Accepted.{read_ok}
use Rattle.sn_query_grammar.specs.Grammar.{Body, Name, body_of, body_rule, file_rule, query_names, query_rule, refine_rule, with_name}
use Rattle.sn_query_grammar.specs.Limits.{QueryLimits}
use Rattle.sn_query_grammar.specs.Names.{is_keyword, name_not, name_test}
use Rattle.sn_query_grammar.specs.declared.ast.Query.{Query}
use Rattle.sn_query_grammar.specs.declared.ast.QueryFile.{QueryFile}
use Rattle.sn_query_grammar.specs.declared.ast.Refine.{Refine}
use Rattle.sn_text.specs.Cutting.{tokens_of}
use Rattle.sn_text.proofs.Cut.{Closed, cut_fine, front_fine}
use Rattle.sn_text.proofs.Lexemes.{AllFine, Fine}
use Rattle.sn_text_rules.specs.declared.Flaw.TheVariants.{Expected, TooMany, Twice}
use Rattle.sn_text_rules.specs.declared.Flaw.{Flaw}
use Rattle.sn_text_rules.specs.Rules.{Accepts, Rule, fit_from, holds_of, items_spelled, kept, maybe, pair, series_fits, series_spelled, spelled_as}
use Rattle.sn_text_rules.specs.Tokens.{Lexeme, Mark, faces, finish, mark_face, mark_faces, number, plain, word}
use Rattle.sn_text_rules.specs.Words.{full, is_word, keyword, same, sign, ◌▸◌, ◌◂◌}
use Rattle.sn_text_rules.proofs.Common.{spelled_faces}
use Rattle.sn_types.specs.Typing.{typed_query}
use Rattle.sn_types_read.specs.Texts as query_texts
use Rattle.sn_types_read.specs.Texts.{Queries}
use Rattle.sn_top_laws.proofs.FitPlans.{HasLevelsIn}
use Rattle.sn_top_laws.proofs.PlanFits.{IsName}
use Rattle.sn_plan_fit.proofs.Bounds.{levels_low}

-- ---- the name of a query in its text

abbrev tested : Bool → Bool → Bool → Option Flaw
tested refused long twice = cond refused (Some Expected) (cond long (Some TooMany) (cond twice (Some Twice) None))

passes : (refused long twice : Bool) → tested refused long twice ≡ None → (refused ≡ false) × (long ≡ false)
passes true long twice e = absurd cc
passes false true twice e = absurd cc
passes false false twice e = (refl, refl)

or_right : (a b : Bool) → (a || b) ≡ false → b ≡ false
or_right true b e = absurd cc
or_right false b e = e

name_of : (names : List Name) (n : Name) → name_test names n ≡ None → Fine (word n) → IsName n
name_of names n e f =
    let k = passes (is_keyword n || (length n == 0)) (nat_lt 32 (length n)) (list_any (same n) names) e in
    record { some = some (length n) (or_right (is_keyword n) (length n == 0) k.0); few = few (length n) k.1; fine = f }
  where
    some : (m : ℕ) → (m == 0) ≡ false → 1 ≤ m
    some m h = grind (arith, nat_tests)

    few : (m : ℕ) → nat_lt 32 m ≡ false → m ≤ 32
    few m h = grind (arith, nat_tests)

abbrev inner : List Name → Rule (Name × (Option Refine × Body))
inner names = keyword (codes "query") ▸ pair (name_not names) (sign 0 ▸ (pair (maybe (is_word (codes "refine")) refine_rule) body_rule ◂ sign 1))

named_so : (names : List Name) (n : Name) (r : Option Refine) (b : Option Body) → holds_of ((inner names).fits kept) (with_name n r b) → AllFine (mark_faces (spelled_as (inner names).spell (with_name n r b))) → IsName n
named_so names n r None h f = absurd h
named_so names n r (Some b) h f = name_of names n h.1.0 f.1.0

query_named : (names : List Name) (q : Query) → (query_rule names).fits kept q → AllFine (mark_faces ((query_rule []).spell q)) → IsName q.name
unfolding query_rule
query_named names q h f = named_so names q.name q.refine (body_of q.branches q.join) h f

fine_both : (xs ys : List Lexeme) → AllFine (xs ++ ys) → AllFine xs × AllFine ys
fine_both [] ys f = (tt, f)
fine_both (x ∷ xs) ys f = let k = fine_both xs ys f.1 in ((f.0, k.0), k.1)

marks_both : (ms ns : List Mark) → AllFine (mark_faces (ms ++ ns)) → AllFine (mark_faces ms) × AllFine (mark_faces ns)
marks_both ms ns f = fine_both (mark_faces ms) (mark_faces ns) (subst AllFine (map-append mark_face ms ns) f)

abbrev further : List Query → Rule Query
further seen = query_rule (query_names seen)

abbrev AreNamed : List Query → Type 0
AreNamed qs = AllByRecursion (λ (q : Query). IsName q.name) qs

items_named : (seen qs : List Query) → fit_from (full 8 TooMany) further kept seen qs → AllFine (mark_faces (items_spelled (query_rule []).spell qs)) → AreNamed qs
items_named seen [] h f = tt
items_named seen (q ∷ qs) h f =
    let k = marks_both ((query_rule []).spell q) (items_spelled (query_rule []).spell qs) f in
    (query_named (query_names seen) q h.1 k.0, items_named (seen ++ q ∷ []) qs h.2 k.1)

queries_named : (qs : List Query) → series_fits (query_rule []) (full 8 TooMany) further kept qs → AllFine (mark_faces (series_spelled (query_rule []).spell (query_rule []).spell qs)) → AreNamed qs
queries_named [] h f = absurd h
queries_named (q ∷ qs) h f =
    let k = marks_both ((query_rule []).spell q) (items_spelled (query_rule []).spell qs) f in
    (query_named [] q h.0 k.0, items_named (q ∷ []) qs h.1 k.1)

-- ---- a file

abbrev front_of : QueryFile → List Mark
front_of f = plain (word (codes "window")) ∷ plain (number f.window_us) ∷ series_spelled (query_rule []).spell (query_rule []).spell f.queries

file_parts : (f : QueryFile) → file_rule.spell f ≡ front_of f ++ plain finish ∷ []
unfolding file_rule
file_parts f = refl

file_fits : (f : QueryFile) → file_rule.fits kept f → series_fits (query_rule []) (full 8 TooMany) further kept f.queries
unfolding file_rule
file_fits f h = h.1.1.0

file_named : (text : List ℕ) (f : QueryFile) → Accepts file_rule (tokens_of text) f → AreNamed f.queries
file_named text f accepted =
    let are : faces (tokens_of text) ≡ mark_faces (front_of f) ++ finish ∷ [] =
    spelled_faces (tokens_of text) (file_rule.spell f) accepted.spelled ∙ ap mark_faces (file_parts f) ∙ map-append mark_face (front_of f) (plain finish ∷ []) in
    let closed = cut_fine (tokens_of text) (record { rest = text; start = 0; line = 1; column = 1 }) refl in
    let fine = front_fine (mark_faces (front_of f)) finish [] (subst Closed are closed) in
    queries_named f.queries (file_fits f accepted.fits) fine.1.1

-- ---- typed queries

pub read_levels : (text : List ℕ) (read : Queries) → QueriesIn text (Ok read) → AllByRecursion HasLevelsIn read.queries
read_levels text read is =
    let k = read_ok faults.Queries (query_texts.IsRead text) read is in
    subst (AllByRecursion HasLevelsIn) (sym k.2.same_queries)
    (all_map HasLevelsIn typed_query k.0.queries
    (all_two (λ (q : Query). IsName q.name) QueryLimits (λ (q : Query). HasLevelsIn (typed_query q)) (λ q name limits. record { low = levels_low q.refine limits.refine; name = name })
    k.0.queries (file_named text k.0 k.1) k.2.limits.each))
