-- Lanes whose read-out hasn't begun.
use Rattle.std.proofs.Common.{◌≡◌, ℕ, zero, suc, ◌<◌, ◌≤◌, List, [], ◌∷◌, length, Option, Some, None, IfSome, slice_get, slice_set, refl, ap, sym, subst, ◌∙◌, arith}
use Rattle.sn_types.specs.declared.typed_query.TypedQuery.{TypedQuery}
use Rattle.sn_emit.specs.declared.sender.Sender.{Sender}
use Rattle.sn_emit.specs.declared.tables.Tables.{Tables}
use Rattle.sn_emit.specs.Plans.{AreNewLanes, Placed}

abbrev pub Unread : Sender → Type 0
Unread s = s.pipe.prefix.place ≡ 0

pub new_unread : (queries : List TypedQuery) (tables : Tables) (xs : List Placed) (ss : List Sender) → AreNewLanes queries tables xs ss → (i : ℕ) → IfSome (slice_get ss i) Unread
new_unread queries tables [] [] h i = tt
new_unread queries tables [] (s ∷ ss) h i = absurd h
new_unread queries tables (x ∷ xs) [] h i = absurd h
new_unread queries tables (x ∷ xs) (s ∷ ss) h zero = h.0.pipe.unread
new_unread queries tables (x ∷ xs) (s ∷ ss) h (suc i) = new_unread queries tables xs ss h.1 i

set_unread : (ss : List Sender) (i : ℕ) (t : Sender) → Unread t → IfSome (slice_get (slice_set ss i t) i) Unread
set_unread [] i t h = tt
set_unread (s ∷ ss) zero t h = h
set_unread (s ∷ ss) (suc i) t h = set_unread ss i t h

set_count : (ss : List Sender) (i : ℕ) (t : Sender) → length (slice_set ss i t) ≡ length ss
set_count [] i t = refl
set_count (s ∷ ss) zero t = refl
set_count (s ∷ ss) (suc i) t = ap suc (set_count ss i t)

none_past : (ss : List Sender) (i : ℕ) → slice_get ss i ≡ None → length ss ≤ i
none_past [] i e = omega arith
none_past (s ∷ ss) zero e = cc
none_past (s ∷ ss) (suc i) e = let rest = none_past ss i e in omega (arith, rest)

-- as many lanes, and one of them unread
pub record StaysUnread (ss new : List Sender) (i : ℕ) : Type 0 where
  pub count : length new ≡ length ss
  pub unread : IfSome (slice_get new i) Unread

-- a lane changed to an unread one
pub changed_unread : (ss new : List Sender) (i : ℕ) (change : Sender → Sender) → ((s : Sender) → Unread s → Unread (change s)) → i < length ss → IfSome (slice_get ss i) Unread
    → IfSome (slice_get ss i) (λ s. new ≡ slice_set ss i (change s)) → StaysUnread ss new i
changed_unread ss new i change keeps lt unread is = by_lane (slice_get ss i) refl unread is
  where
    by_lane : (o : Option Sender) → slice_get ss i ≡ o → IfSome o Unread → IfSome o (λ s. new ≡ slice_set ss i (change s)) → StaysUnread ss new i
    by_lane None e u h = absurd (let past = none_past ss i e in omega (arith, past, lt))
    by_lane (Some s) e u h = record {
      count = ap length h ∙ set_count ss i (change s);
      unread = subst (λ (xs : List Sender). IfSome (slice_get xs i) Unread) (sym h) (set_unread ss i (change s) (keeps s u));
    }

-- a lane changed to one that is unread whatever came before
pub begun_unread : (ss new : List Sender) (i : ℕ) (change : Sender → Sender) → ((s : Sender) → Unread (change s)) → i < length ss
    → IfSome (slice_get ss i) (λ s. new ≡ slice_set ss i (change s)) → StaysUnread ss new i
begun_unread ss new i change keeps lt is = by_lane (slice_get ss i) refl is
  where
    by_lane : (o : Option Sender) → slice_get ss i ≡ o → IfSome o (λ s. new ≡ slice_set ss i (change s)) → StaysUnread ss new i
    by_lane None e h = absurd (let past = none_past ss i e in omega (arith, past, lt))
    by_lane (Some s) e h = record {
      count = ap length h ∙ set_count ss i (change s);
      unread = subst (λ (xs : List Sender). IfSome (slice_get xs i) Unread) (sym h) (set_unread ss i (change s) (keeps s));
    }
