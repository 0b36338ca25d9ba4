use Rattle.std.proofs.Common.{◌≡◌, ℕ, ◌≤◌, List, true, false, nat_eq, Option, unwrap_or, inl, inr, refl, ap, sym, subst, ◌∙◌, arith}
use Rattle.std.specs.Cmp.Lexicographic.{pointwise, bytes_decides}
use Rattle.std.proofs.lemmas.Bool.{false≢true}
use Rattle.sn_io.specs.Counts.{ByName, OnlyRises, Rose, RoseAt, count_of}

-- what rose has risen later too, and since earlier
pub rose_later : (before now later : ℕ) → Rose before now → now ≤ later → Rose before later
rose_later before now later rose stays =
    elim rose [ inl more ↦ inl (omega arith) | inr last ↦ inr (omega arith) ]

pub rose_earlier : (earlier before now : ℕ) → earlier ≤ before → Rose before now → Rose earlier now
rose_earlier earlier before now stays rose =
    elim rose [ inl more ↦ inl (omega arith) | inr last ↦ inr (omega arith) ]

by_name : {G : Type 0} (other name : List ℕ) → (other ≡ name → G) → ((other ≡ name → ⊥) → G) → G
by_name {G = G} other name same apart =
    elim (pointwise nat_eq other name) as (λ b. pointwise nat_eq other name ≡ b → G) [
      | true ↦ λ is. same ((bytes_decides other name).0 is)
      | false ↦ λ isnt. apart (λ e. false≢true (sym isnt ∙ (bytes_decides other name).1 e))
    ] refl

-- no count falls
pub never_falls : (name : List ℕ) (old new : ByName ℕ) → OnlyRises name old new → (other : List ℕ) → count_of old other ≤ count_of new other
never_falls name old new rises other =
    by_name other name
    (λ same. subst (λ (n : List ℕ). count_of old n ≤ count_of new n) (sym same) rises.later)
    (λ apart. let stays : count_of new other ≡ count_of old other = ap (λ (o : Option ℕ). unwrap_or o 0) (rises.others other apart) in omega arith)

pub rose_at_later : (name other : List ℕ) (old now later : ByName ℕ) → RoseAt other old now → OnlyRises name now later → RoseAt other old later
rose_at_later name other old now later rose rises = rose_later (count_of old other) (count_of now other) (count_of later other) rose (never_falls name now later rises other)

pub rose_at_earlier : (name other : List ℕ) (earlier old now : ByName ℕ) → OnlyRises name earlier old → RoseAt other old now → RoseAt other earlier now
rose_at_earlier name other earlier old now rises rose = rose_earlier (count_of earlier other) (count_of old other) (count_of now other) (never_falls name earlier old rises other) rose

-- a call after another, of the same name
pub rises_both : (name : List ℕ) (old now later : ByName ℕ) → OnlyRises name old now → OnlyRises name now later → OnlyRises name old later
rises_both name old now later first second = record {
  others = λ other apart. second.others other apart ∙ first.others other apart;
  known = second.known ∙ first.known;
  later = omega arith;
}

-- a sink whose empty takes are always none has none that rose
pub none_rose : Rose 0 0 → ⊥
none_rose rose = elim rose [ inl more ↦ omega arith | inr last ↦ omega arith ]
