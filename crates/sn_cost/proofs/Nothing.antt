-- Where no prefix is kept, nothing is sent and nothing is answered.
use Rattle.std.proofs.Common.{◌≡◌, ℕ, zero, suc, ◌+◌, ◌*◌, List, [], ◌∷◌, map, filter, take, length, Bool, true, false, ◌||◌, cond, slice_index, Option, None, Some, refl, ap, sym, ◌∙◌, subst, arith}
use Rattle.std.specs.Prelude.{◌==◌}
use Rattle.std.specs.FinSet as set
use Rattle.std.specs.FinSet.{contains-empty, empty_of_len}
use Rattle.std.specs.Ordering.{nat_cmp}
use Rattle.sn_base.proofs.Tests.{not_less}
use Rattle.sn_base.specs.Groups.{Row}
use Rattle.sn_base.specs.Operators.{Op, through}
use Rattle.sn_base.specs.Operators.Op.{Filter, Map, Distinct, Reduce}
use Rattle.sn_base.specs.Sorted.{sorted_rows}
use Rattle.sn_cost_counts.specs.Counts.{counts_of, setting_count}
use Rattle.sn_cost_counts.specs.Settings.{settings}
use Rattle.sn_engine_split.specs.Opened.{is_open}
use Rattle.sn_base.specs.Mask.{masked}
use Rattle.sn_fields.specs.Fields.{number_of, width_of}
use Rattle.sn_fields.specs.declared.field.Field.{Field}
use Rattle.sn_ops.specs.Joins.{joined}
use Rattle.sn_ops.specs.Packets.{is_kept, packet_rows}
use Rattle.sn_ops.specs.Plain.{query_rows}
use Rattle.sn_ops.specs.declared.packets.Kept.{Kept}
use Rattle.sn_pipe_items.specs.Items.{items, overflow, read_from, some_in, tagged}
use Rattle.sn_plan_choices.specs.Options.{Setting}
use Rattle.sn_report.specs.declared.frame.Tag.TheVariants.{At}
use Rattle.sn_switch.specs.declared.switch.Switch.{Switch}
use Rattle.sn_types.specs.Cuts.{size_at}
use Rattle.sn_types.specs.Typed.{branch_of, packet_row}
use Rattle.sn_types.specs.Values.{op_at}
use Rattle.sn_types.specs.declared.typed_query.TypedQuery.{TypedQuery}
use Rattle.sn_cost.specs.Adding.{AreSmall, kept_counts, with_fee}
use Rattle.sn_cost.specs.Training.{admitted, fee_of}

-- ---- no rows

pub none_through : (ops : List Op) → through ops [] ≡ []
none_through [] = refl
none_through (Filter t ∷ ops) = none_through ops
none_through (Map f ∷ ops) = none_through ops
none_through (Distinct ∷ ops) = none_through ops
none_through (Reduce g ∷ ops) = none_through ops

none_read : (depth : ℕ) (size : ℕ → ℕ) (i : ℕ) (spilled : Bool) (ops : List Op) → length (read_from depth size i spilled ops []) ≡ 0
none_read depth size i spilled [] = refl
none_read depth size i spilled (Filter t ∷ ops) = none_read depth size (suc i) spilled ops
none_read depth size i spilled (Map f ∷ ops) = none_read depth size (suc i) spilled ops
none_read depth size i spilled (Distinct ∷ ops) = none_read depth size (suc i) (spilled || some_in (overflow depth size i (λ row. row) [])) ops
none_read depth size i true (Reduce g ∷ ops) = refl
none_read depth size i false (Reduce g ∷ ops) = ap (λ rows. length (tagged (At (suc i + length ops)) rows)) (none_through ops)

none_sent : (depth : ℕ) (size : ℕ → ℕ) (cut : ℕ) (ops : List Op) → length (items depth size cut ops []) ≡ 0
none_sent depth size cut ops = none_read depth size 0 false (take cut ops)

all_zero : {X : Type 0} (f : X → ℕ) → ((x : X) → f x ≡ 0) → (xs : List X) (n : ℕ) → slice_index (with_fee 0 (map f xs)) n ≡ 0
all_zero f none [] n = refl
all_zero f none (x ∷ xs) zero = let e = none x in omega (arith, e)
all_zero f none (x ∷ xs) (suc n) = all_zero f none xs n

small_zero : {X : Type 0} (f : X → ℕ) → ((x : X) → f x ≡ 0) → (xs : List X) → AreSmall (map f xs)
small_zero f none [] = tt
small_zero f none (x ∷ xs) = (let e = none x in omega (arith, e), small_zero f none xs)

-- ---- no prefixes

module _ (query : TypedQuery) (level : ℕ) (k : Kept) (tuples : List (List ℕ)) (empty : set.len k.members.now ≡ 0) where
  none_kept : (field : Option Field) (ts : List (List ℕ)) → filter (is_kept field (Some k)) ts ≡ []
  none_kept field [] = refl
  none_kept field (t ∷ ts) = ap (λ b. cond b (t ∷ filter (is_kept field (Some k)) ts) (filter (is_kept field (Some k)) ts)) (not_kept field) ∙ none_kept field ts
    where
      not_kept : (f : Option Field) → is_kept f (Some k) t ≡ false
      not_kept None = refl
      not_kept (Some f) =
          let n : ℕ = masked (width_of f) k.bits (slice_index t (number_of f)) in
          ap (λ x. set.contains x n) (empty_of_len k.members.now empty) ∙ contains-empty nat_cmp n

  no_packets : (b : ℕ) → packet_rows query b level (Some k) tuples ≡ []
  no_packets b = ap (map (packet_row query.field level (branch_of query b).fields)) (none_kept query.field tuples)

  abbrev whole : List Row → List Row → List Row
  whole left right =
      let at : ℕ → List Row → List Row = λ b rows. through (map (op_at level) (branch_of query b).ops) rows in
      cond (length query.branches == 2) (through (map (op_at level) query.posts) (joined query.keys (at 0 left) (at 1 right))) (at 0 left)

  none_whole : whole [] [] ≡ []
  none_whole =
      let left = none_through (map (op_at level) (branch_of query 0).ops) in
      let right = none_through (map (op_at level) (branch_of query 1).ops) in
      by_join (length query.branches == 2) left right
    where
      by_join : (b : Bool) {l r : List Row} → l ≡ [] → r ≡ [] → cond b (through (map (op_at level) query.posts) (joined query.keys l r)) l ≡ []
      by_join true {l} {r} left right =
          ap (λ xs. through (map (op_at level) query.posts) (joined query.keys xs r)) left ∙ none_through (map (op_at level) query.posts)
      by_join false left right = left

  -- nothing is answered
  pub nothing_answered : sorted_rows (query_rows query level (Some k) tuples) ≡ []
  nothing_answered =
      ap (λ left. sorted_rows (whole left (packet_rows query 1 level (Some k) tuples))) (no_packets 0)
      ∙ ap (λ right. sorted_rows (whole [] right)) (no_packets 1) ∙ ap sorted_rows none_whole

  module _ (s : Switch) where
    is_installed : admitted s.entries (Some k) ≡ Some k
    is_installed = ap (λ b. cond b None (Some k)) (closed s.entries)
      where
        closed : (limit : Option ℕ) → is_open limit k.members.now ≡ false
        closed None = refl
        closed (Some n) = not_less n (set.len k.members.now) (omega (arith, empty))

    no_counts : (b : ℕ) → kept_counts s query level (admitted s.entries (Some k)) tuples b ≡ counts_of (branch_of query b) level s.chain s.slots []
    no_counts b = ap (λ o. kept_counts s query level o tuples b) is_installed ∙ ap (counts_of (branch_of query b) level s.chain s.slots) (no_packets b)

    no_fee : fee_of s (admitted s.entries (Some k)) ≡ 0
    no_fee = ap (fee_of s) is_installed ∙ ap (λ n. s.weight * n) empty ∙ zero_times s.weight
      where
        zero_times : (n : ℕ) → n * 0 ≡ 0
        zero_times n = omega arith

    none_setting : (b : ℕ) (o : Setting) → setting_count (branch_of query b) level s.chain [] o ≡ 0
    none_setting b o = none_sent s.chain (size_at (branch_of query b).ops o.1) o.0 (map (op_at level) (branch_of query b).ops)

    -- nothing is sent, and nothing costs
    pub nothing_costs : (b option : ℕ) → slice_index (with_fee (fee_of s (admitted s.entries (Some k))) (kept_counts s query level (admitted s.entries (Some k)) tuples b)) option ≡ 0
    nothing_costs b option =
        ap (λ fee. slice_index (with_fee fee (kept_counts s query level (admitted s.entries (Some k)) tuples b)) option) no_fee
        ∙ ap (λ counts. slice_index (with_fee 0 counts) option) (no_counts b)
        ∙ all_zero (setting_count (branch_of query b) level s.chain []) (none_setting b) (settings s.slots (branch_of query b).max_cut (branch_of query b).ops) option

    pub nothing_small : (b : ℕ) → AreSmall (kept_counts s query level (admitted s.entries (Some k)) tuples b)
    nothing_small b = subst AreSmall (sym (no_counts b)) (small_zero (setting_count (branch_of query b) level s.chain []) (none_setting b) (settings s.slots (branch_of query b).max_cut (branch_of query b).ops))
