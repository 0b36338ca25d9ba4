-- What installed prefixes cost.
use Rattle.std.proofs.Common.{◌≡◌, ℕ, zero, suc, ◌-◌, ◌*◌, ◌<◌, ◌≤◌, ◌^◌, List, [], ◌∷◌, length, true, false, cond, nat_eq, slice_get, slice_index, unwrap_or, Option, None, Some, refl, ap, subst}
use Rattle.std.proofs.Common.{sym, ◌∙◌, arith}
use Rattle.std.specs.FinSet as set
use Rattle.std.specs.FinSet.{len-empty}
use Rattle.std.specs.List.{list_any}
use Rattle.std.specs.Ordering.{nat_cmp}
use Rattle.sn_base.proofs.Lists.{all_at}
use Rattle.sn_engine_split.specs.Opened.{is_open}
use Rattle.sn_ops.specs.Packets.{OfALevel}
use Rattle.sn_ops.specs.declared.packets.Kept.{Kept}
use Rattle.sn_refine.specs.Steps.{Set, follows, kept_at}
use Rattle.sn_switch.specs.declared.switch.Switch.{Switch}
use Rattle.sn_types.specs.declared.typed_query.TypedQuery.{TypedQuery}
use Rattle.sn_types.specs.Typed.{IsTyped, query_at}
use Rattle.sn_cost.specs.Entries.{front_of}
use Rattle.sn_cost.specs.Training.{HaveAtMost, IsKept, admitted, fee_of, kept_size, stays_open}
use Rattle.sn_cost.proofs.Bits.{front_last, some_level}
use Rattle.sn_cost.proofs.Paths.{front_path, several_refined}

pub no_fee : (n : ℕ) → n * 0 ≡ 0
no_fee n = omega arith

-- a set in a list has no more members than any of it has
pub most_at : (most : ℕ) (sets : List Set) (j : ℕ) → HaveAtMost most sets → set.len (unwrap_or (slice_get sets j) set.empty) ≤ most
most_at most [] j h = let e = len-empty nat_cmp in omega (arith, e)
most_at most (x ∷ xs) zero h = h.0
most_at most (x ∷ xs) (suc j) h = most_at most xs j h.1

-- the level after a front of some bit sees tuples by what the front answered
pub kept_some : (levels : List ℕ) (last : Option ℕ) (sets : List Set) (w m top : ℕ) (k : Kept) → 0 < m → 2 ^ top ≤ m → m < 2 * 2 ^ top → m < 2 ^ length levels → k.bits ≡ slice_index levels top → k.members.now ≡ kept_at last sets w m
    → IsKept levels last sets w m (Some k)
kept_some levels last sets w zero top k some low high within bits members = absurd (omega (arith, some))
kept_some levels last sets w (suc m) top k some low high within bits members = (bits ∙ sym (front_last (suc m) top levels low high within), members)

-- the prefixes that were found for levels that are those of a query
pub kept_by : (levels found : List ℕ) (last : Option ℕ) (sets : List Set) (w m top bit : ℕ) (o : Option Kept) → found ≡ levels → bit ≡ 2 ^ top → IsKept found last sets w (m - bit) o → IsKept levels last sets w (m - 2 ^ top) o
kept_by levels found last sets w m top bit o same is kept = subst (λ xs. IsKept xs last sets w (m - 2 ^ top) o) same (subst (λ n. IsKept found last sets w (m - n) o) is kept)

-- what is asked for a window of what was kept is no more than that
at_most : (last : Option ℕ) (sets : List Set) (w j : ℕ) → set.len (kept_at last sets w j) ≤ set.len (unwrap_or (slice_get sets j) set.empty)
at_most last sets w j =
    let held : Set = unwrap_or (slice_get sets j) set.empty in
    (elim (follows last w) as (λ b. set.len (cond b held set.empty) ≤ set.len held) [ true ↦ omega arith | false ↦ let e = len-empty nat_cmp in omega (arith, e) ])

-- the prefixes that are kept are no more than those that a front answered
pub size_kept : (levels : List ℕ) (last : Option ℕ) (sets : List Set) (w below : ℕ) (o : Option Kept) → IsKept levels last sets w below o → kept_size o ≤ set.len (unwrap_or (slice_get sets below) set.empty)
size_kept levels last sets w zero o is = let e = ap kept_size is in omega (arith, e)
size_kept levels last sets w (suc m) None is = absurd is
size_kept levels last sets w (suc m) (Some k) is =
    let e = ap (λ (members : Set). set.len members) is.1 in
    let most = at_most last sets w (suc m) in
    omega (arith, e, most)

-- what prefixes cost, by how many there are
pub fee_size : (s : Switch) (o : Option Kept) → fee_of s o ≡ s.weight * kept_size o
fee_size s None = sym (no_fee s.weight)
fee_size s (Some k) = refl

-- unless it stays open, a table admits tuples by the prefixes that are kept
pub admitted_closed : (limit : Option ℕ) (o : Option Kept) → stays_open limit o ≡ false → admitted limit o ≡ o
admitted_closed limit None e = refl
admitted_closed limit (Some k) e = ap (λ b. cond b None (Some k)) e

-- the prefixes that are installed cost no more than those that are kept
pub fee_kept : (s : Switch) (o : Option Kept) → fee_of s (admitted s.entries o) ≤ s.weight * kept_size o
fee_kept s None = omega arith
fee_kept s (Some k) = (elim (is_open s.entries k.members.now) as (λ b. fee_of s (cond b None (Some k)) ≤ s.weight * set.len k.members.now) [ true ↦ omega arith | false ↦ omega arith ])

-- prefixes that a table admits are of a level of the query where those that are kept are
pub admitted_level : (query : TypedQuery) (limit : Option ℕ) (o : Option Kept) → OfALevel query o → OfALevel query (admitted limit o)
admitted_level query limit None h = tt
admitted_level query limit (Some k) h = (elim (is_open limit k.members.now) as (λ b. OfALevel query (cond b None (Some k))) [ true ↦ tt | false ↦ h ])

-- the prefixes by which the level after a front sees tuples are of a level of the query
pub kept_level : (window : ℕ) (queries : List TypedQuery) (q : ℕ) (last : Option ℕ) (sets : List Set) (w below top : ℕ) (o : Option Kept) → ∥ IsTyped window queries ∥₁ → q < length queries → below < 2 ^ top → top < length (query_at queries q).levels
    → below < 2 ^ length (query_at queries q).levels → IsKept (query_at queries q).levels last sets w below o → OfALevel (query_at queries q) o
kept_level window queries q last sets w zero top o t lt small within whole is = subst (OfALevel (query_at queries q)) (sym is) tt
kept_level window queries q last sets w (suc m) top None t lt small within whole is = absurd is
kept_level window queries q last sets w (suc m) top (Some k) t lt small within whole is =
    let levels : List ℕ = (query_at queries q).levels in
    let P : ℕ → Type 0 = λ bits. list_any (nat_eq bits) levels ≡ true in
    let front : List ℕ = front_of (suc m) levels in
    let some : 0 < length front = some_level (suc m) levels (omega arith) whole in
    let several : 0 < top = above top small in
    (several_refined window queries q t lt (omega (arith, several, within)), subst P (sym is.0) (all_at P front (length front - 1) (front_path window queries q (suc m) t lt).known (omega (arith, some))))
  where
    above : (top : ℕ) → suc m < 2 ^ top → 0 < top
    above zero lt = absurd (omega (arith, lt))
    above (suc top) lt = omega arith
