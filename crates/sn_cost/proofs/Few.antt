-- The prefixes that a level answers are no more than the tuples of a window.
use Rattle.std.proofs.Common.{◌≡◌, ℕ, ◌<◌, ◌≤◌, List, filter, length, Option, None, Some, IsSome, refl, ap, arith}
use Rattle.std.proofs.Math.Bridge.{le_prop}
use Rattle.std.proofs.Math.Logic.{∥∥₁_elim}
use Rattle.std.proofs.lemmas.Bool.{false≢true}
use Rattle.std.specs.FinSet as set
use Rattle.sn_base.proofs.Lists.{filter_short}
use Rattle.sn_base.specs.Groups.{Row}
use Rattle.sn_base.specs.Sorted.{sorted_rows}
use Rattle.sn_fields.specs.declared.field.Field.{Field}
use Rattle.sn_ops.specs.Plain.{query_rows}
use Rattle.sn_ops.specs.declared.packets.Kept.{Kept}
use Rattle.sn_refine.specs.Steps.{is_held, prefixes_of}
use Rattle.sn_refine.proofs.Held.{query_held}
use Rattle.sn_types.specs.declared.typed_query.TypedQuery.{TypedQuery}
use Rattle.sn_types.specs.Typed.{IsTyped, query_at}
use Rattle.sn_cost.proofs.Installed.{installed_few}

pub with_field : {G : Type 0} (o : Option Field) → IsSome o → ((f : Field) → o ≡ Some f → G) → G
with_field None is on = absurd (false≢true is)
with_field (Some f) is on = on f refl

module _ (window q level : ℕ) (queries : List TypedQuery) (typed : ∥ IsTyped window queries ∥₁) (lt : q < length queries) (tuples : List (List ℕ)) where
  abbrev query : TypedQuery
  query = query_at queries q

  abbrev size_of : List Row → ℕ
  size_of rows = set.len (prefixes_of query (sorted_rows rows))

  pub answered_few : (o : Option Kept) → IsSome query.field → size_of (query_rows query level o tuples) ≤ length tuples
  answered_few None is = with_field query.field is (λ field found. ∥∥₁_elim typed le_prop (λ t. installed_few window q level queries field tuples t lt found))
  answered_few (Some k) is =
      let held = is_held query.field k.bits k.members.now in
      with_field query.field is (λ field found. ∥∥₁_elim typed le_prop (λ t.
      let few = installed_few window q level queries field (filter held tuples) t lt found in
      let short = filter_short held tuples in
      let same = ap size_of (query_held query level k tuples) in
      omega (arith, few, short, same)))
