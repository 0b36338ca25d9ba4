-- serves proofs
use Rattle.std.specs.Prelude.{◌≡◌, ℕ, ◌+◌, ◌*◌, ◌<◌, ◌≤◌, List, map, fold, replicate, Bool, true, false, nat_eq, slice_index, refl, Option, Some, None, is_none}
use Rattle.std.specs.Option.{option_map}
use Rattle.std.specs.Map.{lookup}
use Rattle.std.specs.List.{list_any, range_with_len}
use Rattle.std.specs.Coded.{Coded, code_by, coded×, coded_ℕ, coded_list, coded_option}
use Rattle.sn_base.specs.Groups.{Row, same_row, values_at, paired}
use Rattle.sn_base.specs.Slot.{slot}
use Rattle.sn_chain.specs.Residence.{residents, resides}
use Rattle.sn_chain.specs.Registers.{cell, held_place, empty_place, put}
use Rattle.sn_chain.specs.declared.offer.Offer.{Offer}
use Rattle.sn_chain.specs.declared.offer.Offer.TheVariants.{New, Held, Over}

-- a key's place in a register: slot s of register i is place i * slots + s
abbrev pub place_for : ℕ → Row → ℕ → ℕ
place_for slots key register = register * slots + slot register key slots

-- the slots of a key, one for each register
abbrev pub AreSlots : ℕ → ℕ → Row → List ℕ → Type 0
AreSlots depth slots key at = (register : ℕ) → register < depth → slice_index at register ≡ slot register key slots

-- a key's places in this many registers from this one on
abbrev pub places_from : ℕ → ℕ → ℕ → Row → List ℕ
places_from slots register count key = map (place_for slots key) (range_with_len register count)

-- a key's places, register by register
abbrev pub places_of : ℕ → ℕ → Row → List ℕ
places_of depth slots key = places_from slots 0 depth key

-- the resident keys of a list, each beside its place
abbrev pub homes_of : ℕ → ℕ → List Row → List (ℕ × Row)
homes_of depth slots keys = residents same_row (places_of depth slots) keys

-- whether a key is one of them; a key that came and isn't is an overflow key
abbrev pub has_home : ℕ → ℕ → List Row → Row → Bool
has_home depth slots keys key = resides same_row (places_of depth slots) keys key

-- ---- a chain

-- a chain of registers, as contracts see it: its fold, how many registers there are, how many slots each
-- has, and what the cells hold, register by register
pub record ChainState (F : Type 0) : Type 0 where
  pub fold : F
  pub depth : ℕ
  pub slots : ℕ
  pub cells : List (Option (Row × ℕ))

abbrev pub chain_code : {F : Type 0} → Coded F → Coded (ChainState F)
chain_code {F = F} code =
    code_by (F × (ℕ × (ℕ × List (Option (Row × ℕ)))))
    (coded× code (coded× coded_ℕ (coded× coded_ℕ (coded_list (coded_option (coded× (coded_list coded_ℕ) coded_ℕ))))))
    (λ c. (c.fold, (c.depth, (c.slots, c.cells)))) (λ t. record { fold = t.0; depth = t.1.0; slots = t.1.1.0; cells = t.1.1.1 }) (λ _. refl)

-- a chain that holds nothing
abbrev pub empty_chain : {F : Type 0} → F → ℕ → ℕ → ChainState F
empty_chain fold depth slots = record { fold = fold; depth = depth; slots = slots; cells = replicate (depth * slots) None }

-- each key that the cells hold stands at one of its own places, each of its places in an earlier register is held too, and no two
-- cells hold one key
pub record KeysStand (depth slots : ℕ) (cells : List (Option (Row × ℕ))) : Type 0 where
  pub own : (p : ℕ) (e : Row × ℕ) → cell cells p ≡ Some e → list_any (nat_eq p) (places_of depth slots e.0) ≡ true
  pub earlier : (p register : ℕ) (e : Row × ℕ) → cell cells p ≡ Some e → register * slots + slots ≤ p → is_none (cell cells (place_for slots e.0 register)) ≡ false
  pub once : (p q : ℕ) (d e : Row × ℕ) → cell cells p ≡ Some d → cell cells q ≡ Some e → d.0 ≡ e.0 → p ≡ q

-- the place that holds a key
abbrev pub holder : {F : Type 0} → ChainState F → Row → Option ℕ
holder chain key = held_place same_row chain.cells (places_of chain.depth chain.slots key) key

-- the first of a key's places that is empty
abbrev pub vacancy : {F : Type 0} → ChainState F → Row → Option ℕ
vacancy chain key = empty_place chain.cells (places_of chain.depth chain.slots key)

-- the answer to an offer: Held where a place holds the key, New where none does and one is empty, else Over
abbrev pub answer_at : Option ℕ → Option ℕ → Offer
answer_at (Some p) empty = Held
answer_at None (Some p) = New
answer_at None None = Over

-- a chain after an offer of a key with a value
abbrev pub after_offer : {F : Type 0} → (F → ℕ → ℕ → ℕ) → ChainState F → Row → ℕ → ChainState F
after_offer join chain key v = record chain { cells = put (join chain.fold) chain.cells key v (holder chain key) (vacancy chain key) }

-- ---- a chain after a list of offers

abbrev pub after_offers : {F : Type 0} → (F → ℕ → ℕ → ℕ) → ChainState F → List (Row × ℕ) → ChainState F
after_offers join chain offers = fold (λ c o. after_offer join c o.0 o.1) chain offers

abbrev pub keys_of : List (Row × ℕ) → List Row
keys_of offers = map (λ o. o.0) offers

-- the fold of all values offered with a key
abbrev pub total_of : (ℕ → ℕ → ℕ) → ℕ → List (Row × ℕ) → Row → ℕ
total_of step unit offers key = fold step unit (values_at same_row key offers)

-- what a place has after these offers: the key that resides there, with the fold of all its values
abbrev pub resident_at : (ℕ → ℕ → ℕ) → ℕ → ℕ → ℕ → List (Row × ℕ) → ℕ → Option (Row × ℕ)
resident_at step unit depth slots offers p = option_map (paired (total_of step unit offers)) (lookup (nat_eq p) (homes_of depth slots (keys_of offers)))

-- the answer to an offer, by whether its key resides and whether it came before
abbrev pub answer_for : Bool → Bool → Offer
answer_for true true = Held
answer_for true false = New
answer_for false came = Over
