-- The rows that a pipe admits are the packet rows of the kept tuples.
use Rattle.std.proofs.Common.{◌≡◌, ℕ, List, [], ◌∷◌, ◌∙◌, map, filter, Bool, true, false, cond, nat_eq, Option, None, Some, refl, ap, sym}
use Rattle.std.specs.FinSet as set
use Rattle.std.specs.List.{list_any}
use Rattle.std.specs.Ordering.{nat_cmp}
use Rattle.sn_engine_split.specs.Opened.{Prefixes, is_open, tuples_admitted, admits}
use Rattle.sn_fields.specs.declared.field.Field.{Field}
use Rattle.sn_ops.specs.Packets.{is_kept, packet_rows}
use Rattle.sn_ops.specs.declared.packets.Kept.{Kept}
use Rattle.sn_pipe.specs.Pipes.{IsCoarser, asking, bits_of, passing, rows_admitted}
use Rattle.sn_pipe.specs.declared.gate.Gate.{Gate}
use Rattle.sn_types.specs.Typed.{branch_of, packet_row}
use Rattle.sn_types.specs.declared.typed_query.TypedQuery.{TypedQuery}

-- tests that agree keep the same
pub same_filter : (s t : List ℕ → Bool) → ((x : List ℕ) → s x ≡ t x) → (xs : List (List ℕ)) → filter s xs ≡ filter t xs
same_filter s t e [] = refl
same_filter s t e (x ∷ xs) = ap (λ b. cond b (x ∷ filter s xs) (filter s xs)) (e x) ∙ ap (λ ys. cond (t x) (x ∷ ys) ys) (same_filter s t e xs)

-- a test that each passes keeps all
pub all_pass : (xs : List (List ℕ)) → filter (λ x. true) xs ≡ xs
all_pass [] = refl
all_pass (x ∷ xs) = ap (λ ys. x ∷ ys) (all_pass xs)

module _ (query : TypedQuery) (b level : ℕ) where
  abbrev rows_of : Option Prefixes → List (List ℕ) → List (List ℕ)
  rows_of ps tuples = map (packet_row query.field level (branch_of query b).fields) (tuples_admitted query ps tuples)

  -- without prefixes all tuples pass
  all_rows : (tuples : List (List ℕ)) → rows_of None tuples ≡ packet_rows query b level None tuples
  all_rows tuples =
      ap (map (packet_row query.field level (branch_of query b).fields)) (same_filter (admits query.field None) (is_kept query.field None) (λ tuple. refl) tuples)

  pub all_kept : (members : set.FinSet nat_cmp) (tuples : List (List ℕ)) → rows_admitted query b level None members tuples ≡ packet_rows query b level None tuples
  all_kept members tuples = all_rows tuples

  pub open_kept : (gate : Gate) (members : set.FinSet nat_cmp) (tuples : List (List ℕ)) → is_open gate.entries members ≡ true →
      rows_admitted query b level (Some gate) members tuples ≡ packet_rows query b level None tuples
  open_kept gate members tuples is = ap (λ b. rows_of (cond b None (Some (gate.bits, members))) tuples) is ∙ all_rows tuples

  one_kept : (field : Option Field) (kept : Kept) (tuple : List ℕ) → admits field (Some (kept.bits, kept.members.now)) tuple ≡ is_kept field (Some kept) tuple
  one_kept None kept tuple = refl
  one_kept (Some field) kept tuple = refl

  pub same_kept : (gate : Gate) (kept : Kept) (tuples : List (List ℕ)) → gate.bits ≡ kept.bits → is_open gate.entries kept.members.now ≡ false →
      rows_admitted query b level (Some gate) kept.members.now tuples ≡ packet_rows query b level (Some kept) tuples
  same_kept gate kept tuples bits isnt =
      ap (λ b. rows_of (cond b None (Some (gate.bits, kept.members.now))) tuples) isnt
      ∙ ap (λ n. rows_of (Some (n, kept.members.now)) tuples) bits
      ∙ ap (map (packet_row query.field level (branch_of query b).fields))
      (same_filter (admits query.field (Some (kept.bits, kept.members.now))) (is_kept query.field (Some kept)) (one_kept query.field kept) tuples)

  pub passing_kept : (coarser : Option Gate) (members : set.FinSet nat_cmp) (tuples : List (List ℕ)) →
      rows_admitted query b level coarser members tuples ≡ packet_rows query b level None (tuples_admitted query (passing coarser members) tuples)
  passing_kept coarser members tuples =
      let let_through : List (List ℕ) = tuples_admitted query (passing coarser members) tuples in
      ap (map (packet_row query.field level (branch_of query b).fields))
      (sym (same_filter (is_kept query.field None) (λ tuple. true) (λ tuple. refl) let_through ∙ all_pass let_through))

-- ---- what tuples are asked for

abbrev bits_in : Option Prefixes → ℕ
bits_in None = 0
bits_in (Some ps) = ps.0

asked_by : (query : TypedQuery) (gate : Gate) (asks : Option ℕ) (members : set.FinSet nat_cmp) (b : Bool) → asking asks members ≡ cond b None (Some (gate.bits, members)) →
    IsCoarser query (Some gate.bits) → IsCoarser query asks
asked_by query gate None members b e of = tt
asked_by query gate (Some bits) members true e of = cc
asked_by query gate (Some bits) members false e of = let same : bits ≡ gate.bits = ap bits_in e in (of.0, ap (λ n. list_any (nat_eq n) query.levels) same ∙ of.1)

-- tuples are asked for prefixes of the level before, if for any
pub asked : (query : TypedQuery) (coarser : Option Gate) (asks : Option ℕ) (members : set.FinSet nat_cmp) → asking asks members ≡ passing coarser members →
    IsCoarser query (bits_of coarser) → IsCoarser query asks
asked query None None members e of = tt
asked query None (Some bits) members e of = cc
asked query (Some gate) asks members e of = asked_by query gate asks members (is_open gate.entries members) e of
