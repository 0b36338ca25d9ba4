use Rattle.std.proofs.Common.{◌≡◌, ℕ, ◌<◌, List, Bool, take, length, cond, Option, Some, None, Result, Ok, Err, IfOk, OnOk, ap, subst, ◌∙◌, arith}
use Rattle.std.specs.List.{AllByRecursion}
use Rattle.std.specs.Option.{option_copied}
use Rattle.std.proofs.lemmas.List.{length-take}
use Rattle.sn_base.specs.Columns.{IsOf}
use Rattle.sn_base.specs.Groups.{Row}
use Rattle.sn_base.proofs.BagLemmas.{all_bag}
use Rattle.sn_engine_split.proofs.Typed.{cut_of}
use Rattle.sn_cost_tally.specs.declared.firsts.Firsts.{Firsts}
use Rattle.sn_ops.specs.declared.packets.Kept.{Kept}
use Rattle.sn_ops.specs.Packets.{packet_rows}
use Rattle.sn_pipe.proofs.Fronts.{cut_within}
use Rattle.sn_cost_counts.specs.declared.branch_at.BranchAt.{BranchAt}
use Rattle.sn_cost_counts.specs.BranchAt.{asked_branch, query_of}
use Rattle.sn_types.specs.declared.typed_op.TOp.{TOp}
use Rattle.sn_types.specs.declared.typed_query.TypedBranch.{TypedBranch}
use Rattle.sn_types.specs.declared.typed_query.TypedQuery.{TypedQuery}
use Rattle.sn_types.specs.Typed.{IsTyped, branch_at, first_columns, query_at}
use Rattle.sn_cost_counts.specs.Counts.{counts_of}
use Rattle.sn_cost_counts.specs.Standing.{IsPacked, PaysFor, stood_for}
use Rattle.sn_cost_counts.proofs.Alike.{counts_alike, through_alike}
use Rattle.sn_cost_counts.proofs.Branching.{branch_takes}
use Rattle.sn_cost_counts.proofs.Arrivals.{on_ok}
use Rattle.sn_cost_counts.proofs.Unsplit.{given}
use Rattle.sn_cost_counts.proofs.Weighing.{any_stateful}
use Rattle.sn_cost_counts.proofs.branch.along_prefix.Goals as goal

pub along_packed-requires-clause-firsts : goal.along_packed-requires-clause-firsts
along_packed-requires-clause-firsts g c =
    let a = c.args in
    subst (λ o. IsPacked (query_of a.at.now) a.at.now.b a.at.now.tuples.now (option_copied o)) c.in-Some.is c.requires.packed

if_both : {A E : Type 0} {P : A → Type 0} {Q : Type 0} {S : A → Type 0} (r : Result A E) → IfOk r P → OnOk r Q → ((x : A) → P x → Q → S x) → IfOk r S
if_both (Ok x) p q f = f x p q
if_both (Err e) p q f = tt

-- the counts of those that stand for others are those of all
same_counts : (window : ℕ) (queries : List TypedQuery) (q b level chain : ℕ) (slots : List ℕ) (kept : Option Kept) (tuples : List (List ℕ)) (f : Firsts) → ∥ IsTyped window queries ∥₁ → q < length queries → b < length (query_at queries q).branches
    → PaysFor (query_at queries q) b tuples f → AllByRecursion (IsOf (first_columns (branch_at queries q b))) (packet_rows (query_at queries q) b level kept (stood_for tuples f))
    → counts_of (branch_at queries q b) level chain slots (packet_rows (query_at queries q) b level kept (stood_for tuples f)) ≡ counts_of (branch_at queries q b) level chain slots (packet_rows (query_at queries q) b level kept tuples)
same_counts window queries q b level chain slots kept tuples f t lt within pays of =
    let branch : TypedBranch = branch_at queries q b in
    let stood : List Row = packet_rows (query_at queries q) b level kept (stood_for tuples f) in
    let all : List Row = packet_rows (query_at queries q) b level kept tuples in
    let inside = cut_within window queries q b t lt within in
    let most = cut_of window queries q b branch.max_cut t lt within (omega arith) in
    let long : length (take branch.max_cut branch.ops) ≡ branch.max_cut = omega (arith, length-take branch.max_cut branch.ops, inside) in
    counts_alike chain level slots branch stood all most long (branch_takes window queries q b level branch.max_cut stood t lt within of) (pays.stand.alike level kept)

-- and so are the rows that come of them
same_unsplit : (window : ℕ) (queries : List TypedQuery) (q b level : ℕ) (kept : Option Kept) (asked : Bool) (tuples : List (List ℕ)) (f : Firsts) → ∥ IsTyped window queries ∥₁ → q < length queries → b < length (query_at queries q).branches
    → PaysFor (query_at queries q) b tuples f → AllByRecursion (IsOf (first_columns (branch_at queries q b))) (packet_rows (query_at queries q) b level kept (stood_for tuples f))
    → given asked level (take (branch_at queries q b).max_cut (branch_at queries q b).ops) (packet_rows (query_at queries q) b level kept (stood_for tuples f))
    ≡ given asked level (take (branch_at queries q b).max_cut (branch_at queries q b).ops) (packet_rows (query_at queries q) b level kept tuples)
same_unsplit window queries q b level kept asked tuples f t lt within pays of =
    let branch : TypedBranch = branch_at queries q b in
    let front : List TOp = take branch.max_cut branch.ops in
    let stood : List Row = packet_rows (query_at queries q) b level kept (stood_for tuples f) in
    let all : List Row = packet_rows (query_at queries q) b level kept tuples in
    ap (λ rows. cond asked (Some rows) None)
    (through_alike level front stood all (any_stateful front pays.registers) (branch_takes window queries q b level branch.max_cut stood t lt within of) (pays.stand.alike level kept))

pub returns-in-Some-clause-counts : goal.returns-in-Some-clause-counts
returns-in-Some-clause-counts g c =
    let a = c.args in
    let at : BranchAt = a.at.now in
    let t = at.t.now in
    let f : Firsts = c.in-Some.firsts.now in
    let pays : PaysFor (query_of a.at.now) a.at.now.b a.at.now.tuples.now f = subst (λ o. IsPacked (query_of a.at.now) a.at.now.b a.at.now.tuples.now (option_copied o)) c.in-Some.is c.requires.packed in
    if_both c.along_packed.result c.along_packed.ensures.counts c.along_packed.ensures.columns
    (λ along is of. is ∙ same_counts t.window_us t.queries at.q at.b at.level a.registers.now.chain a.registers.now.sizes.now at.kept at.tuples.now f t.typed at.has_query at.has_branch pays of)

pub returns-in-Some-clause-unsplit : goal.returns-in-Some-clause-unsplit
returns-in-Some-clause-unsplit g c =
    let a = c.args in
    let at : BranchAt = a.at.now in
    let t = at.t.now in
    let f : Firsts = c.in-Some.firsts.now in
    let pays : PaysFor (query_of a.at.now) a.at.now.b a.at.now.tuples.now f = subst (λ o. IsPacked (query_of a.at.now) a.at.now.b a.at.now.tuples.now (option_copied o)) c.in-Some.is c.requires.packed in
    if_both c.along_packed.result c.along_packed.ensures.unsplit c.along_packed.ensures.columns
    (λ along is of. is ∙ same_unsplit t.window_us t.queries at.q at.b at.level at.kept a.asked at.tuples.now f t.typed at.has_query at.has_branch pays of)

pub returns-in-Some-clause-columns : goal.returns-in-Some-clause-columns
returns-in-Some-clause-columns g c =
    let a = c.args in
    let query = query_of a.at.now in
    let f : Firsts = c.in-Some.firsts.now in
    let pays : PaysFor query a.at.now.b a.at.now.tuples.now f = subst (λ o. IsPacked query a.at.now.b a.at.now.tuples.now (option_copied o)) c.in-Some.is c.requires.packed in
    on_ok _ _ c.along_packed.result
    (all_bag (IsOf (first_columns (asked_branch a.at.now))) (packet_rows query a.at.now.b a.at.now.level a.at.now.kept (stood_for a.at.now.tuples.now f)) (packet_rows query a.at.now.b a.at.now.level a.at.now.kept a.at.now.tuples.now) (pays.stand.alike a.at.now.level a.at.now.kept).bag)
    c.along_packed.ensures.columns
