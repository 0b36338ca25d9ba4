-- One world after another, over plain values.
use Rattle.std.proofs.Common.{◌≡◌, ℕ, ◌≤◌, List, [], ◌∷◌, ◌++◌, Option, None, Some, is_some, inl, inr, refl, ap, sym, ◌∙◌, arith, take, zero, suc}
use Rattle.std.specs.FinMap.{get}
use Rattle.std.proofs.lemmas.Bool.{false≢true}
use Rattle.sn_io.specs.Counts.{Rose, count_of}
use Rattle.sn_command.specs.Worlds.{Files, World, AnyRose, AnyUnknown, IsNoneOf, Spares, OutRose, Follows}
use Rattle.sn_io.proofs.CountLemmas.{rose_earlier}

pub follows_self : (w : World) → Follows w w
follows_self w = record { reported = refl; known = λ name. refl; faults = λ name. omega arith; write_faults = omega arith; empty_takes = omega arith; places = refl }

pub follows_then : (a b c : World) → Follows a b → Follows b c → Follows a c
follows_then a b c f g = record {
  reported = g.reported ∙ f.reported;
  known = λ name. g.known name ∙ f.known name;
  faults = λ name. let x = f.faults name in let y = g.faults name in omega arith;
  write_faults = let x = f.write_faults in let y = g.write_faults in omega arith;
  empty_takes = let x = f.empty_takes in let y = g.empty_takes in omega arith;
  places = g.places ∙ f.places;
}

rose_later : (x y z : ℕ) → y ≤ z → Rose x y → Rose x z
rose_later x y z le (inl rose) = inl (omega arith)
rose_later x y z le (inr full) = inr (omega arith)

pub any_earlier : (names : List (List ℕ)) (a b c : World) → Follows a b → AnyRose names b.files c.files → AnyRose names a.files c.files
any_earlier [] a b c f h = h
any_earlier (name ∷ names) a b c f (inl rose) = inl (rose_earlier (count_of a.files.faults name) (count_of b.files.faults name) (count_of c.files.faults name) (f.faults name) rose)
any_earlier (name ∷ names) a b c f (inr more) = inr (any_earlier names a b c f more)

pub any_later : (names : List (List ℕ)) (a b c : World) → Follows b c → AnyRose names a.files b.files → AnyRose names a.files c.files
any_later [] a b c f h = h
any_later (name ∷ names) a b c f (inl rose) = inl (rose_later (count_of a.files.faults name) (count_of b.files.faults name) (count_of c.files.faults name) (f.faults name) rose)
any_later (name ∷ names) a b c f (inr more) = inr (any_later names a b c f more)

pub any_left : (names more : List (List ℕ)) (a b : Files) → AnyRose names a b → AnyRose (names ++ more) a b
any_left [] more a b h = absurd h
any_left (name ∷ names) more a b (inl rose) = inl rose
any_left (name ∷ names) more a b (inr h) = inr (any_left names more a b h)

pub any_right : (names more : List (List ℕ)) (a b : Files) → AnyRose more a b → AnyRose (names ++ more) a b
any_right [] more a b h = h
any_right (name ∷ names) more a b h = inr (any_right names more a b h)

pub unknown_left : (names more : List (List ℕ)) (a : Files) → AnyUnknown names a → AnyUnknown (names ++ more) a
unknown_left [] more a h = absurd h
unknown_left (name ∷ names) more a (inl none) = inl none
unknown_left (name ∷ names) more a (inr h) = inr (unknown_left names more a h)

pub unknown_right : (names more : List (List ℕ)) (a : Files) → AnyUnknown more a → AnyUnknown (names ++ more) a
unknown_right [] more a h = h
unknown_right (name ∷ names) more a h = inr (unknown_right names more a h)

pub none_too : {X : Type 0} (a b : Option X) → is_some a ≡ is_some b → a ≡ None → b ≡ None
none_too a None same e = refl
none_too a (Some x) same e = absurd (false≢true (sym (ap is_some e) ∙ same))

pub unknown_earlier : (names : List (List ℕ)) (a b : World) → Follows a b → AnyUnknown names b.files → AnyUnknown names a.files
unknown_earlier [] a b f h = h
unknown_earlier (name ∷ names) a b f (inl none) = inl (none_too (get b.files.faults name) (get a.files.faults name) (f.known name) none)
unknown_earlier (name ∷ names) a b f (inr h) = inr (unknown_earlier names a b f h)

pub out_earlier : (a b c : World) → Follows a b → OutRose b.out c.out → OutRose a.out c.out
out_earlier a b c f (inl rose) = inl (rose_earlier a.out.faults b.out.faults c.out.faults f.write_faults rose)
out_earlier a b c f (inr rose) = inr (rose_earlier a.out.empty_takes b.out.empty_takes c.out.empty_takes f.empty_takes rose)

-- ---- names that keep their entries

none_left : (names more : List (List ℕ)) (other : List ℕ) → IsNoneOf (names ++ more) other → IsNoneOf names other
none_left [] more other none = tt
none_left (name ∷ names) more other none = (none.0, none_left names more other none.1)

none_right : (names more : List (List ℕ)) (other : List ℕ) → IsNoneOf (names ++ more) other → IsNoneOf more other
none_right [] more other none = none
none_right (name ∷ names) more other none = none_right names more other none.1

none_front : (k : ℕ) (names more : List (List ℕ)) (other : List ℕ) → IsNoneOf (take k (names ++ more)) other → IsNoneOf (take k names) other
none_front zero names more other none = tt
none_front (suc k) [] more other none = tt
none_front (suc k) (name ∷ names) more other none = (none.0, none_front k names more other none.1)

-- none of some names is none of the first of them
none_one : (k : ℕ) (name other : List ℕ) → 1 ≤ k → IsNoneOf (take k (name ∷ [])) other → IsNoneOf (name ∷ []) other
none_one zero name other some none = absurd (omega arith)
none_one (suc k) name other some none = (none.0, tt)

pub spares_self : (names : List (List ℕ)) (a : Files) → Spares names a a
spares_self names a other none = refl

pub spares_none : (names : List (List ℕ)) (a b : Files) → Spares [] a b → Spares names a b
spares_none names a b s other none = s other tt

pub spares_left : (names more : List (List ℕ)) (a b : Files) → Spares names a b → Spares (names ++ more) a b
spares_left names more a b s other none = s other (none_left names more other none)

pub spares_front : (k : ℕ) (names more : List (List ℕ)) (a b : Files) → Spares (take k names) a b → Spares (take k (names ++ more)) a b
spares_front k names more a b s other none = s other (none_front k names more other none)

pub spares_one : (k : ℕ) (name : List ℕ) (a b : Files) → 1 ≤ k → Spares (name ∷ []) a b → Spares (take k (name ∷ [])) a b
spares_one k name a b some s other none = s other (none_one k name other some none)

pub spares_same : (names : List (List ℕ)) (a b c : Files) → Spares names a b → Spares names b c → Spares names a c
spares_same names a b c s t other none = t other none ∙ s other none

pub spares_then : (names more : List (List ℕ)) (a b c : Files) → Spares names a b → Spares more b c → Spares (names ++ more) a c
spares_then names more a b c s t other none = t other (none_right names more other none) ∙ s other (none_left names more other none)
