-- serves proofs
-- What training windows add to a table, front by front.
use Rattle.std.specs.Prelude.{◌≡◌, ℕ, zero, suc, ◌+◌, ◌-◌, ◌*◌, ◌<◌, ◌≤◌, ◌^◌, List, [], ◌∷◌, map, length, nat_eq, nat_lt, slice_get, slice_index, unwrap_or, Option}
use Rattle.std.specs.Prelude.{None, Some, Bool, false, ◌==◌, if◌then◌else◌}
use Rattle.std.specs.FinSet as set
use Rattle.std.specs.List.{AllByRecursion, sum_by}
use Rattle.sn_engine_split.specs.Opened.{is_open}
use Rattle.sn_switch.specs.declared.switch.Switch.{Switch}
use Rattle.sn_types.specs.declared.typed_query.TypedQuery.{TypedQuery}
use Rattle.sn_types.specs.Typed.{branch_of, query_at}
use Rattle.sn_cost_counts.specs.Counts.{counts_of}
use Rattle.sn_ops.specs.Packets.{packet_rows}
use Rattle.sn_ops.specs.declared.packets.Kept.{Kept}
use Rattle.sn_refine.specs.Passes.{passes_at}
use Rattle.sn_refine.specs.Refined.{Windows, refined_rows}
use Rattle.sn_refine.specs.Steps.{Set, kept_at, prefixes_of, windows_of}
use Rattle.sn_plan_choices.specs.declared.costs.CostTable.{CostTable}
use Rattle.sn_plan_choices.specs.Costs.{HasPlaces, IsPlace, entry_in}
use Rattle.sn_plan_choices.specs.Options.{options}
use Rattle.sn_cost.specs.Adding.{Adds, Entries, HasRoom, of_branches, where_so, with_fee}
use Rattle.sn_cost.specs.Entries.{front_of, installed_in}
use Rattle.sn_windows.specs.Blocks.{most_records}
use Rattle.sn_windows.specs.Rising.{IsAbove, Window}

-- ---- what fronts answer

-- the prefixes that the last level of a front answers in a window
abbrev pub answered_by : TypedQuery → Windows → ℕ → ℕ → Set
answered_by query windows m w = prefixes_of query (refined_rows query windows (front_of m query.levels) (length (front_of m query.levels) - 1) w)

-- of the last window it is known what each front answered but those that end at the finest level
abbrev pub Knows : TypedQuery → Windows → Option ℕ → List Set → Type 0
Knows query windows None sets = Unit {0}
Knows query windows (Some last) sets = (m : ℕ) → 0 < m → m < 2 ^ (length query.levels - 1) → unwrap_or (slice_get sets m) set.empty ≡ answered_by query windows m last

-- a window with these tuples is the next one of all windows, after the last one, of which it is known what fronts answered
pub record IsNext (query : TypedQuery) (windows : Windows) (last : Option ℕ) (sets : List Set) (w : ℕ) (tuples : List (List ℕ)) : Type 0 where
  pub holds : windows w ≡ Some tuples
  pub between : (v : ℕ) → IsAbove last v → v < w → windows v ≡ None
  pub knows : Knows query windows last sets

-- no set has more members than this
abbrev pub HaveAtMost : ℕ → List Set → Type 0
HaveAtMost most sets = AllByRecursion (λ (x : Set). set.len x ≤ most) sets

-- the prefixes by which the level after a front sees tuples: those that the front answered in the window before; all tuples are seen after no level
abbrev pub IsKept : List ℕ → Option ℕ → List Set → ℕ → ℕ → Option Kept → Type 0
IsKept levels last sets w zero o = o ≡ None
IsKept levels last sets w (suc m) None = ⊥
IsKept levels last sets w (suc m) (Some kept) =
    (kept.bits ≡ slice_index (front_of (suc m) levels) (length (front_of (suc m) levels) - 1)) × (kept.members.now ≡ kept_at last sets w (suc m))

-- ---- what a window adds

-- the prefixes by which a table admits tuples: where they are more than it holds, it admits all
abbrev pub admitted : Option ℕ → Option Kept → Option Kept
admitted limit None = None
admitted limit (Some kept) = if is_open limit kept.members.now then None else Some kept

-- a table with so many entries stays open, since there are more prefixes
abbrev pub stays_open : Option ℕ → Option Kept → Bool
stays_open limit None = false
stays_open limit (Some kept) = is_open limit kept.members.now

-- what installed prefixes cost
abbrev pub fee_of : Switch → Option Kept → ℕ
fee_of s None = 0
fee_of s (Some kept) = s.weight * set.len kept.members.now

-- no tuple is seen, since no prefix is kept
abbrev pub sees_nothing : Option Kept → Bool
sees_nothing None = false
sees_nothing (Some kept) = set.len kept.members.now == 0

-- how many prefixes are kept
abbrev pub kept_size : Option Kept → ℕ
kept_size None = 0
kept_size (Some kept) = set.len kept.members.now

-- the counts of all options of a branch at a level, of the tuples that pass of a window
abbrev pub counts_in : Switch → TypedQuery → ℕ → ℕ → Option (List (List ℕ)) → List ℕ
counts_in s query b level None = map (λ o. 0) (options s (branch_of query b))
counts_in s query b level (Some passing) = counts_of (branch_of query b) level s.chain s.slots (packet_rows query b level None passing)

-- those of a window at the last level of a front, each with what the prefixes cost that are installed
abbrev pub window_counts : Switch → TypedQuery → Windows → List ℕ → ℕ → ℕ → List ℕ
window_counts s query windows front b w =
    with_fee (s.weight * installed_in query s.entries windows front (length front - 1) w)
    (counts_in s query b (slice_index front (length front - 1)) (passes_at query s.entries windows front (length front - 1) w))

-- what a window adds at a front with at least one level
abbrev pub at_front : Switch → TypedQuery → Windows → ℕ → ℕ → ℕ → ℕ → ℕ
at_front s query windows w prefix b option =
    where_so (nat_lt 0 (length (front_of prefix query.levels)))
    (where_so (nat_lt b (length query.branches)) (slice_index (window_counts s query windows (front_of prefix query.levels) b w) option))

-- what it adds at the fronts of a query below a number
abbrev pub of_window : Switch → ℕ → TypedQuery → Windows → ℕ → ℕ → Entries
of_window s q query windows w n q' prefix b option = where_so (nat_eq q q') (where_so (nat_lt prefix n) (at_front s query windows w prefix b option))

-- The counts of a window are added at a front. Whichever windows there are of which it is the next one, they are those of its last level.
pub record AddsFront (s : Switch) (q : ℕ) (query : TypedQuery) (front : ℕ) (last : Option ℕ) (sets : List Set) (w : ℕ) (tuples : List (List ℕ)) (old new : CostTable) : Type 0 where
  pub counts : ℕ → List ℕ
  pub adds : Adds old new (of_branches q front (length query.branches) counts)
  pub small : (most : ℕ) → HaveAtMost most sets → (b option : ℕ) → b < length query.branches → slice_index (counts b) option ≤ 13 * most_records + s.weight * most
  pub exact : (windows : Windows) → IsNext query windows last sets w tuples → (b : ℕ) → counts b ≡ window_counts s query windows (front_of front query.levels) b w

-- The counts of a window are added at the fronts of a query below a number: whichever windows there are of which it is the next one.
pub record AddsFronts (s : Switch) (q : ℕ) (query : TypedQuery) (n : ℕ) (last : Option ℕ) (sets : List Set) (w : ℕ) (tuples : List (List ℕ)) (old new : CostTable) : Type 0 where
  pub others : (prefix b option : ℕ) → n ≤ prefix → IsPlace old q prefix b option → entry_in new q prefix b option ≡ entry_in old q prefix b option
  pub places : (queries : ℕ) → HasPlaces old queries → HasPlaces new queries
  pub adds : (windows : Windows) → IsNext query windows last sets w tuples → Adds old new (of_window s q query windows w n)
  pub small : (windows : Windows) → IsNext query windows last sets w tuples → (most : ℕ) → HaveAtMost most sets → (prefix b option : ℕ) → prefix < n → at_front s query windows w prefix b option ≤ 13 * most_records + s.weight * most

-- a front has room for the counts of one more window, and for a fee of the prefixes that any front answered
abbrev pub HasFrontRoom : CostTable → ℕ → ℕ → ℕ → List Set → Type 0
HasFrontRoom table q front weight sets = (at b : ℕ) → b < 2 → HasRoom table q front b (weight * set.len (unwrap_or (slice_get sets at) set.empty))

-- ---- what all windows add

-- what windows add to an option's entry, where all windows are these
abbrev pub added : Switch → TypedQuery → Windows → List ℕ → ℕ → ℕ → List Window → ℕ
added s query windows front b option given = sum_by (λ g. slice_index (window_counts s query windows front b g.0) option) given

-- the entries of a front are 0
abbrev pub IsFresh : CostTable → ℕ → ℕ → Type 0
IsFresh table q prefix = (b option : ℕ) → IsPlace table q prefix b option → entry_in table q prefix b option ≡ 0

-- what they add at a front with at least one level
abbrev pub at_prefix : Switch → TypedQuery → List Window → ℕ → ℕ → ℕ → ℕ
at_prefix s query given prefix b option =
    where_so (nat_lt 0 (length (front_of prefix query.levels)))
    (where_so (nat_lt b (length query.branches)) (added s query (windows_of given) (front_of prefix query.levels) b option given))

-- what they add at the fronts of a query below a number
abbrev pub of_fronts : Switch → ℕ → TypedQuery → ℕ → List Window → Entries
of_fronts s q query n given q' prefix b option = where_so (nat_eq q q') (where_so (nat_lt prefix n) (at_prefix s query given prefix b option))

-- what they add at all fronts of the queries below a number
abbrev pub of_queries : Switch → List TypedQuery → ℕ → List Window → Entries
of_queries s queries n given q prefix b option =
    where_so (nat_lt q n) (where_so (nat_lt prefix (2 ^ length (query_at queries q).levels)) (at_prefix s (query_at queries q) given prefix b option))

-- each number is at most those after it
abbrev pub NeverFall : List ℕ → Type 0
NeverFall [] = Unit {0}
NeverFall (n ∷ ns) = AllByRecursion (λ m. n ≤ m) ns × NeverFall ns
