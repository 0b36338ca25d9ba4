-- The names of queries that are read stand on one line.
use Rattle.std.proofs.Common.{◌≡◌, ℕ, zero, suc, false, List, [], ◌∷◌, Ok, refl}
use Rattle.std.specs.Prelude.{◌==◌}
use Rattle.std.specs.List.{AllByRecursion}
use Rattle.sn_base.proofs.Lists.{all_weaker}
use Rattle.sn_command_texts.specs.Queries.{QueriesIn}
use Rattle.sn_plan_grammar.specs.declared.plan.Entry.{Entry}
use Rattle.sn_plan_lists.specs.Chosen.{after_entry, plan_at}
use Rattle.sn_switch.specs.declared.switch.Switch.{Switch}
use Rattle.sn_text.specs.Cutting.{is_word_byte}
use Rattle.sn_text.proofs.Lexemes.{AllWord, Fine}
use Rattle.sn_text.proofs.Numerals.{differ}
use Rattle.sn_text_rules.specs.Tokens.{word}
use Rattle.sn_types.specs.declared.typed_query.TypedQuery.{TypedQuery}
use Rattle.sn_types_read.specs.Texts.{Queries}
use Rattle.sn_top_laws.proofs.EventTexts.{HaveNames, IsOneLine}
use Rattle.sn_top_laws.proofs.FitPlans.{HasLevelsIn}
use Rattle.sn_top_laws.proofs.QueryNames.{read_levels}

word_line : (w : List ℕ) → AllWord w → IsOneLine w
word_line [] h = refl
word_line (c ∷ cs) h = let n : (c == 10) ≡ false = differ is_word_byte c 10 h.0 refl in rw n (word_line cs h.1)

fine_line : (w : List ℕ) → Fine (word w) → IsOneLine w
fine_line [] f = refl
fine_line (c ∷ cs) f = word_line (c ∷ cs) f.2

-- ---- typed queries, and the plans that are named for them

abbrev pub AreOnLines : List TypedQuery → Type 0
AreOnLines queries = AllByRecursion (λ (q : TypedQuery). IsOneLine q.name) queries

pub read_named : (text : List ℕ) (read : Queries) → QueriesIn text (Ok read) → AreOnLines read.queries
read_named text read is = all_weaker HasLevelsIn (λ (q : TypedQuery). IsOneLine q.name) (λ q h. fine_line q.name h.name.fine) read.queries (read_levels text read is)

pub each_named : (queries : List TypedQuery) → AreOnLines queries → HaveNames queries
each_named [] h q = refl
each_named (x ∷ xs) h zero = h.0
each_named (x ∷ xs) h (suc q) = each_named xs h.1 q

pub plan_named : (s : Switch) (queries : List TypedQuery) (choices : List ℕ) → AreOnLines queries → AllByRecursion (λ (e : Entry). IsOneLine e.name) (plan_at s queries choices)
plan_named s [] choices h = tt
plan_named s (q ∷ qs) choices h = (h.0, plan_named s qs (after_entry s q choices) h.1)
