use Rattle.std.proofs.Common.{◌≡◌, ℕ, List, nat_eq, Result, IfOk, ap, sym, ◌∙◌}
use Rattle.std.specs.FinSet as set
use Rattle.std.specs.List.{list_any}
use Rattle.sn_base.specs.Groups.{Row}
use Rattle.sn_ops.proofs.Steps.{ok_weaker}
use Rattle.sn_types.specs.Kinds.{rows_of}
use Rattle.sn_types.specs.Typed.{query_at}
use Rattle.sn_types.specs.declared.typed_query.TypedQuery.{TypedQuery}
use Rattle.sn_refine.specs.Refined.{column_of}
use Rattle.sn_refine.specs.Steps.{Set, prefixes_of}
use Rattle.sn_refine.proofs.members.members.Goals as goal

exactly_those : {E : Type 0} (query : TypedQuery) (rows found : List Row) (r : Result Set E) → found ≡ rows → IfOk r (λ members. members ≡ prefixes_of query found)
    → IfOk r (λ members. (prefix : ℕ) → set.contains members prefix ≡ list_any (λ n. nat_eq n prefix) (column_of query rows))
exactly_those query rows found r same h =
    ok_weaker (λ (members : Set). members ≡ prefixes_of query found) (λ (members : Set). (prefix : ℕ) → set.contains members prefix ≡ list_any (λ n. nat_eq n prefix) (column_of query rows))
    (λ members is prefix. ap (λ (s : Set). set.contains s prefix) is ∙ set.contains-from_list_nat (column_of query found) prefix
    ∙ ap (λ (rs : List Row). list_any (λ n. nat_eq n prefix) (column_of query rs)) same) r h

pub returns-in-Short-clause-exactly : goal.returns-in-Short-clause-exactly
returns-in-Short-clause-exactly c =
    exactly_those (query_at c.args.t.now.queries c.args.q) c.args.rows.now c.as_slice.result.now c.numbers_of.result
    (c.as_slice.ensures ∙ sym (ap rows_of c.in-Short.is) ∙ c.either.ensures) c.numbers_of.ensures

pub returns-in-Wide-clause-exactly : goal.returns-in-Wide-clause-exactly
returns-in-Wide-clause-exactly c =
    exactly_those (query_at c.args.t.now.queries c.args.q) c.args.rows.now c.as_slice-in-Wide.result.now c.numbers_of-in-Wide.result
    (c.as_slice-in-Wide.ensures ∙ sym (ap rows_of c.in-Wide.is) ∙ c.either.ensures) c.numbers_of-in-Wide.ensures
