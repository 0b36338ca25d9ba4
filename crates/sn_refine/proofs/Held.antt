-- Tuples that are kept by a set of prefixes, and by a list of them.
use Rattle.std.proofs.Common.{◌≡◌, ℕ, List, [], ◌∷◌, map, filter, length, ◌==◌, Bool, ◌||◌, cond, nat_eq, Option, Some, None, slice_index, refl, ap, sym, ◌∙◌, eq-eqb}
use Rattle.std.proofs.lemmas.Bool.{false≢true}
use Rattle.std.specs.List.{list_any}
use Rattle.std.specs.FinSet as set
use Rattle.sn_base.proofs.Lists.{by_test, not_true, nat_same, filter_same}
use Rattle.sn_base.specs.Groups.{Row}
use Rattle.sn_base.specs.Mask.{masked}
use Rattle.sn_base.specs.Operators.{through}
use Rattle.sn_fields.specs.declared.field.Field.{Field}
use Rattle.sn_fields.specs.Fields.{number_of, width_of}
use Rattle.sn_ops.specs.Joins.{joined}
use Rattle.sn_ops.specs.Packets.{is_kept, packet_rows}
use Rattle.sn_ops.specs.Plain.{query_rows}
use Rattle.sn_ops.specs.declared.packets.Kept.{Kept}
use Rattle.sn_types.specs.declared.typed_query.TypedQuery.{TypedQuery}
use Rattle.sn_types.specs.Typed.{branch_of, packet_row}
use Rattle.sn_types.specs.Values.{op_at}
use Rattle.sn_refine.specs.Refined.{answered, column_of, is_in}
use Rattle.sn_refine.specs.Steps.{Set, is_held, prefixes_of}

-- ---- all that is left of a filter

kept_all : (field : Option Field) (tuples : List (List ℕ)) → filter (is_kept field None) tuples ≡ tuples
kept_all None [] = refl
kept_all None (x ∷ xs) = ap (λ ys. x ∷ ys) (kept_all None xs)
kept_all (Some f) [] = refl
kept_all (Some f) (x ∷ xs) = ap (λ ys. x ∷ ys) (kept_all (Some f) xs)

held_kept : (field : Option Field) (kept : Kept) (tuple : List ℕ) → is_kept field (Some kept) tuple ≡ is_held field kept.bits kept.members.now tuple
held_kept None kept tuple = refl
held_kept (Some f) kept tuple = refl

pub packets_held : (query : TypedQuery) (b level : ℕ) (kept : Kept) (tuples : List (List ℕ))
    → packet_rows query b level (Some kept) tuples ≡ packet_rows query b level None (filter (is_held query.field kept.bits kept.members.now) tuples)
packets_held query b level kept tuples =
    let row : List ℕ → Row = packet_row query.field level (branch_of query b).fields in
    let held = is_held query.field kept.bits kept.members.now in
    ap (map row) (filter_same (is_kept query.field (Some kept)) held (held_kept query.field kept) tuples ∙ sym (kept_all query.field (filter held tuples)))

whole : TypedQuery → ℕ → List Row → List Row → List Row
whole query level left right =
    let at : ℕ → List Row → List Row = λ b rows. through (map (op_at level) (branch_of query b).ops) rows in
    cond (length query.branches == 2) (through (map (op_at level) query.posts) (joined query.keys (at 0 left) (at 1 right))) (at 0 left)

-- a query on the tuples with a prefix of a set
pub query_held : (query : TypedQuery) (level : ℕ) (kept : Kept) (tuples : List (List ℕ))
    → query_rows query level (Some kept) tuples ≡ query_rows query level None (filter (is_held query.field kept.bits kept.members.now) tuples)
unfolding whole
query_held query level kept tuples =
    let seen = filter (is_held query.field kept.bits kept.members.now) tuples in
    ap (λ left. whole query level left (packet_rows query 1 level (Some kept) tuples)) (packets_held query 0 level kept tuples)
    ∙ ap (λ right. whole query level (packet_rows query 0 level None seen) right) (packets_held query 1 level kept tuples)

-- ---- a set and a list of prefixes

same_back : (a b : ℕ) → nat_eq a b ≡ nat_eq b a
same_back a b =
    by_test (nat_eq a b)
    (λ is. is ∙ sym (eq-eqb b a (sym (nat_same a b is))))
    (λ isnt. isnt ∙ sym (not_true (nat_eq b a) (λ back. false≢true (sym isnt ∙ eq-eqb a b (sym (nat_same b a back))))))

any_back : (n : ℕ) (xs : List ℕ) → list_any (λ x. nat_eq x n) xs ≡ list_any (nat_eq n) xs
any_back n [] = refl
any_back n (x ∷ xs) = ap (λ b. b || list_any (λ y. nat_eq y n) xs) (same_back x n) ∙ ap (λ b. nat_eq n x || b) (any_back n xs)

pub held_in : (field : Option Field) (bits : ℕ) (prefixes : List ℕ) (held : Set) (tuple : List ℕ) → held ≡ set.from_list prefixes → is_held field bits held tuple ≡ is_in field bits prefixes tuple
held_in None bits prefixes held tuple is = refl
held_in (Some f) bits prefixes held tuple is =
    let n : ℕ = masked (width_of f) bits (slice_index tuple (number_of f)) in
    ap (λ s. set.contains s n) is ∙ set.contains-from_list_nat prefixes n ∙ any_back n prefixes

pub held_answered : (query : TypedQuery) (bits : ℕ) (rows : List Row) (held : Set) (tuples : List (List ℕ)) → held ≡ prefixes_of query rows
    → filter (is_held query.field bits held) tuples ≡ answered query bits rows tuples
held_answered query bits rows held tuples is =
    filter_same (is_held query.field bits held) (is_in query.field bits (column_of query rows)) (λ tuple. held_in query.field bits (column_of query rows) held tuple is) tuples
