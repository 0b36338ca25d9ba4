-- What the productions of queries and of the file say of their values.
use Rattle.std.proofs.Common.{◌≡◌, ℕ, ◌≤◌, false, List, [], ◌∷◌, length, Option, Some, None, refl, arith}
use Rattle.std.specs.Prelude.{IfSome}
use Rattle.std.specs.List.{AllByRecursion, list_any}
use Rattle.sn_base.specs.Groups.{same_row}
use Rattle.sn_text_rules.specs.declared.Flaw.TheVariants.{TooMany}
use Rattle.sn_text_rules.specs.Tokens.{Tok}
use Rattle.sn_text_rules.specs.Rules.{kept, Accepts, maybe_holds}
use Rattle.sn_text_rules.specs.Words.{number_in}
use Rattle.sn_query_grammar.specs.declared.ast.QueryFile.{QueryFile}
use Rattle.sn_query_grammar.specs.declared.ast.Query.{Query}
use Rattle.sn_query_grammar.specs.declared.ast.Refine.{Refine}
use Rattle.sn_query_grammar.specs.declared.ast.Branch.{Branch}
use Rattle.sn_query_grammar.specs.declared.ast.Join.{Join}
use Rattle.sn_query_grammar.specs.Names.{past_number}
use Rattle.sn_query_grammar.specs.Grammar.{Name, op_rule, post_op_rule, levels_rule, refine_rule, branch_rule, join_rule, body_rule, query_rule, query_names, file_rule}
use Rattle.sn_query_grammar.specs.Limits.{Within, BranchOp, PostOp, RefineLimits, BranchLimits, JoinLimits, QueryLimits, KeepsLimits}
use Rattle.sn_text_rules.proofs.Items.{IsListOf, from_full, commas_list, series_list, many_count, items_are}
use Rattle.sn_query_grammar.proofs.ItemLimits.{counted, items_apart}
use Rattle.sn_query_grammar.proofs.TokenLimits.{number_within, name_unseen}
use Rattle.sn_query_grammar.proofs.OpLimits.{keys_keep, op_keeps, post_op_keeps}

levels_keep : (levels : List ℕ) → levels_rule.fits kept levels → Within 1 4 (length levels) × AllByRecursion (λ l. l ≤ 128) levels
unfolding levels_rule
levels_keep levels h =
    let items : IsListOf 4 (λ seen. number_in 0 128) levels = commas_list 4 (past_number 0 128) (λ seen. number_in 0 128) levels (omega arith) h in
    (counted items, items_are 4 (λ seen. number_in 0 128) (λ l. l ≤ 128) levels (λ seen a f. (number_within 0 128 a f).to_most) items.items)

refine_keeps : (r : Refine) → refine_rule.fits kept r → RefineLimits r
unfolding refine_rule
refine_keeps r h = let k = levels_keep r.levels h.1.1.1.0 in record { count = k.0; levels = k.1 }

branch_keeps : (b : Branch) → branch_rule.fits kept b → BranchLimits b
unfolding branch_rule
branch_keeps b h =
    let items : IsListOf 12 (λ seen. op_rule) b.ops = series_list 12 TooMany (λ seen. op_rule) b.ops (omega arith) h.1.0 in
    record { count = counted items; each = items_are 12 (λ seen. op_rule) (λ op. BranchOp op.what) b.ops (λ seen a f. op_keeps a f) items.items }

join_keeps : (j : Join) → join_rule.fits kept j → JoinLimits j
unfolding join_rule
join_keeps j h =
    let keys = keys_keep j.keys h.1.0 in
    record {
      count = keys.0;
      apart = keys.1;
      posts = many_count 12 TooMany (λ seen. post_op_rule) j.post h.1.1.0;
      each = items_are 12 (λ seen. post_op_rule) (λ op. PostOp op.what) j.post (λ seen a f. post_op_keeps a f) (from_full 12 TooMany (λ seen. post_op_rule) [] j.post h.1.1.0);
    }

refine_part : (refine : Option Refine) → maybe_holds (refine_rule.fits kept) refine → IfSome refine RefineLimits
refine_part None h = tt
refine_part (Some r) h = refine_keeps r h

one_branch : (b : Branch) → body_rule.fits kept (b, None) → AllByRecursion BranchLimits (b ∷ [])
unfolding body_rule
one_branch b h = (branch_keeps b h.0, tt)

two_branches : (b c : Branch) (j : Join) → body_rule.fits kept (b, Some (c, j)) → AllByRecursion BranchLimits (b ∷ c ∷ []) × JoinLimits j
unfolding body_rule
two_branches b c j h = ((branch_keeps b h.0, (branch_keeps c h.1.0, tt)), join_keeps j h.1.1)

query_parts : (names : List Name) (name : Name) (refine : Option Refine) (branches : List Branch) (join : Option Join)
    → (query_rule names).fits kept (record { name = name; refine = refine; branches = branches; join = join })
    → QueryLimits (record { name = name; refine = refine; branches = branches; join = join }) × (list_any (same_row name) names ≡ false)
unfolding query_rule
query_parts names name refine (b ∷ []) None h =
    (record { refine = refine_part refine h.1.1.1.0.0; joined = refl; branches = one_branch b h.1.1.1.0.1 }, name_unseen names name h.1.0)
query_parts names name refine (b ∷ c ∷ []) (Some j) h =
    let k = two_branches b c j h.1.1.1.0.1 in
    (record { refine = refine_part refine h.1.1.1.0.0; joined = (refl, k.1); branches = k.0 }, name_unseen names name h.1.0)
query_parts names name refine [] None h = absurd h
query_parts names name refine [] (Some j) h = absurd h
query_parts names name refine (b ∷ []) (Some j) h = absurd h
query_parts names name refine (b ∷ c ∷ []) None h = absurd h
query_parts names name refine (b ∷ c ∷ d ∷ more) None h = absurd h
query_parts names name refine (b ∷ c ∷ d ∷ more) (Some j) h = absurd h

query_keeps : (names : List Name) (q : Query) → (query_rule names).fits kept q → QueryLimits q × (list_any (same_row q.name) names ≡ false)
query_keeps names q h = query_parts names q.name q.refine q.branches q.join h

file_keeps : (file : QueryFile) → file_rule.fits kept file → KeepsLimits file
unfolding file_rule
file_keeps file h =
    let items : IsListOf 8 (λ seen. query_rule (query_names seen)) file.queries = series_list 8 TooMany (λ seen. query_rule (query_names seen)) file.queries (omega arith) h.1.1.0 in
    record {
      window = number_within 1 3600000000 file.window_us h.1.0;
      count = counted items;
      names = items_apart 8 (λ seen. query_rule (query_names seen)) (λ q. q.name) file.queries (λ seen a f. (query_keeps (query_names seen) a f).1) items.items;
      each = items_are 8 (λ seen. query_rule (query_names seen)) QueryLimits file.queries (λ seen a f. (query_keeps (query_names seen) a f).0) items.items;
    }

-- a file for which a text stands keeps the limits
pub accepted_keeps_limits : (tokens : List Tok) (file : QueryFile) → Accepts file_rule tokens file → KeepsLimits file
accepted_keeps_limits tokens file a = file_keeps file a.fits
