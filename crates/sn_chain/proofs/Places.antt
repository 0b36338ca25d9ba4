-- The places of a key, register by register.
use Rattle.std.proofs.Common.{zero, nat_eq, ◌||◌, ◌≡◌, ℕ, suc, ◌+◌, ◌-◌, ◌*◌, ◌<◌, ◌≤◌, ◌⊎◌, inl, inr, Bool, true, false, cond, Some, None, ap, sym, ◌∙◌, arith}
use Rattle.std.specs.List.{find, list_any}
use Rattle.std.proofs.lemmas.Bool.{cases_eq, false≢true}
use Rattle.std.proofs.lemmas.Nat.{mod_below, mul-le}
use Rattle.sn_base.specs.Groups.{Row}
use Rattle.sn_base.specs.Slot.{row_hash}
use Rattle.sn_base.proofs.Lists.{by_test, nat_same}
use Rattle.sn_chain.specs.Chain.{place_for, places_from, places_of}

one_left : (depth register : ℕ) → register < depth → depth - register ≡ suc (depth - (register + 1))
one_left depth register h = omega arith

-- the search goes on after a place that fails, and ends at one that passes
place_first : (t : ℕ → Bool) (slots register depth : ℕ) (key : Row) → register < depth →
    find t (places_from slots register (depth - register) key) ≡ cond (t (place_for slots key register)) (Some (place_for slots key register)) (find t (places_from slots (register + 1) (depth - (register + 1)) key))
place_first t slots register depth key within = ap (λ n. find t (places_from slots register n key)) (one_left depth register within)

pub place_found : (t : ℕ → Bool) (slots register depth : ℕ) (key : Row) → register < depth → t (place_for slots key register) ≡ true →
    find t (places_from slots register (depth - register) key) ≡ Some (place_for slots key register)
place_found t slots register depth key within passes =
    place_first t slots register depth key within
    ∙ ap (λ b. cond b (Some (place_for slots key register)) (find t (places_from slots (register + 1) (depth - (register + 1)) key))) passes

pub place_passed : (t : ℕ → Bool) (slots register depth : ℕ) (key : Row) → register < depth → t (place_for slots key register) ≡ false →
    find t (places_from slots (register + 1) (depth - (register + 1)) key) ≡ find t (places_from slots register (depth - register) key)
place_passed t slots register depth key within fails =
    sym (place_first t slots register depth key within
    ∙ ap (λ b. cond b (Some (place_for slots key register)) (find t (places_from slots (register + 1) (depth - (register + 1)) key))) fails)

-- ---- places within the cells

split_at : (depth register : ℕ) → register < depth → depth ≡ register + 1 + (depth - (register + 1))
split_at depth register h = omega arith

-- a register's slots end within the cells
pub register_within : (depth register slots : ℕ) → register < depth → register * slots + slots ≤ depth * slots
register_within depth register slots h =
    let whole : depth * slots ≡ (register + 1 + (depth - (register + 1))) * slots = ap (λ n. n * slots) (split_at depth register h) in
    omega (arith, whole)

places_within : (slots depth : ℕ) (key : Row) (p : ℕ) → 1 ≤ slots → (count register : ℕ) → register + count ≤ depth → list_any (nat_eq p) (places_from slots register count key) ≡ true → p < depth * slots
places_within slots depth key p some zero register room among = absurd (false≢true among)
places_within slots depth key p some (suc count) register room among =
    by_test (nat_eq p (place_for slots key register))
    (λ is. let here : p ≡ place_for slots key register = nat_same p (place_for slots key register) is in
    let low : register < depth = omega arith in
    omega (arith, register_within depth register slots low, mod_below (row_hash register key) slots some))
    (λ isnt. places_within slots depth key p some count (register + 1) (omega arith) (sym (ap (λ b. b || list_any (nat_eq p) (places_from slots (register + 1) count key)) isnt) ∙ among))

-- each place of a key is one of the cells
pub within_cells : (slots depth : ℕ) → 1 ≤ slots → (key : Row) (p : ℕ) → list_any (nat_eq p) (places_of depth slots key) ≡ true → p < depth * slots
within_cells slots depth some key p among = places_within slots depth key p some depth 0 (omega arith) among

-- ---- the order of a key's places

-- a register's slots begin after those of the registers before it
begins : (slots low register : ℕ) → low ≤ register → low * slots ≤ register * slots
begins slots low register h = mul-le low slots register slots h (omega arith)

later_places : (slots count low register : ℕ) (key : Row) (p : ℕ) → low ≤ register → list_any (nat_eq p) (places_from slots register count key) ≡ true → low * slots ≤ p
later_places slots zero low register key p h among = absurd (false≢true among)
later_places slots (suc count) low register key p h among =
    by_test (nat_eq p (place_for slots key register))
    (λ is. let here : p ≡ place_for slots key register = nat_same p (place_for slots key register) is in omega (arith, begins slots low register h))
    (λ isnt. later_places slots count low (register + 1) key p (omega arith) (sym (ap (λ b. b || list_any (nat_eq p) (places_from slots (register + 1) count key)) isnt) ∙ among))

-- a place of a key from a register on is that in the register, or in a later one
pub first_or_later : (slots count register : ℕ) (key : Row) (p : ℕ) → list_any (nat_eq p) (places_from slots register count key) ≡ true → (p ≡ place_for slots key register) ⊎ (register * slots + slots ≤ p)
first_or_later slots zero register key p among = absurd (false≢true among)
first_or_later slots (suc count) register key p among =
    by_test (nat_eq p (place_for slots key register))
    (λ is. inl (nat_same p (place_for slots key register) is))
    (λ isnt. inr (let above : (register + 1) * slots ≤ p = later_places slots count (register + 1) (register + 1) key p (omega arith) (sym (ap (λ b. b || list_any (nat_eq p) (places_from slots (register + 1) count key)) isnt) ∙ among) in
    omega (arith, above)))

-- no place of a key in a register before that of the first one that passes a test passes it
pub none_before : (t : ℕ → Bool) (slots : ℕ) → 1 ≤ slots → (key : Row) (p count register : ℕ) → find t (places_from slots register count key) ≡ Some p →
    (earlier : ℕ) → register ≤ earlier → earlier * slots + slots ≤ p → t (place_for slots key earlier) ≡ false
none_before t slots some key p zero register found earlier from before = absurd (let wrong : None ≡ Some p = found in cc)
none_before t slots some key p (suc count) register found earlier from before =
    let rest = find t (places_from slots (register + 1) count key) in
    by_test (t (place_for slots key register))
    (λ is. absurd (let here : Some (place_for slots key register) ≡ Some p = sym (ap (λ b. cond b (Some (place_for slots key register)) rest) is) ∙ found in
    let at : place_for slots key register ≡ p = cc in
    omega (arith, at, before, begins slots register earlier from, mod_below (row_hash register key) slots some)))
    (λ isnt. elim (cases_eq earlier register) [
      | inl same ↦ ap (λ r. t (place_for slots key r)) same ∙ isnt
      | inr other ↦ none_before t slots some key p count (register + 1) (sym (ap (λ b. cond b (Some (place_for slots key register)) rest) isnt) ∙ found) earlier (omega (arith, from, other)) before
    ])
