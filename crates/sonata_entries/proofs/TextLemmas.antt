-- Texts that grow line by line.
use Rattle.std.proofs.Common.{◌≡◌, ℕ, suc, ◌+◌, ◌-◌, ◌<◌, ◌≤◌, List, [], ◌∷◌, ◌++◌, length, take, drop, cond, refl, ap, sym, ◌∙◌, arith, append_assoc, append-nil, add-one}
use Rattle.std.specs.Prelude.{◌/◌, ◌%◌, ◌==◌, slice_index}
use Rattle.std.specs.List.{flat_map, range_with_len}
use Rattle.std.proofs.Math.Seq.{drop-cons}
use Rattle.sn_cost.specs.Entries.{front_of}
use Rattle.sn_plan_choices.specs.declared.setting.Setting as code
use Rattle.sn_plan_choices.specs.Options.{Setting}
use Rattle.sn_plan_choices.specs.Settings.{written}
use Rattle.sonata_entries.specs.Table.{entry_text}

-- the rest of a range, from one of its numbers on
range_more : (n count : ℕ) → n < count → range_with_len n (count - n) ≡ n ∷ range_with_len (n + 1) (count - (n + 1))
range_more n count lt = let e : count - n ≡ suc (count - (n + 1)) = omega (arith, lt) in ap (range_with_len n) e

-- one more part of a text is written
pub part_written : (f : ℕ → List ℕ) (whole now new part : List ℕ) (n count end : ℕ) → n < end → end ≡ count → now ++ flat_map f (range_with_len n (count - n)) ≡ whole → new ≡ now ++ part → part ≡ f n
    → new ++ flat_map f (range_with_len (n + 1) (count - (n + 1))) ≡ whole
part_written f whole now new part n count end lt same before is here =
    let rest : List ℕ = flat_map f (range_with_len (n + 1) (count - (n + 1))) in
    ap (λ t. t ++ rest) (is ∙ ap (λ t. now ++ t) here) ∙ append_assoc now (f n) rest ∙ sym (ap (λ r. now ++ flat_map f r) (range_more n count (omega (arith, lt, same)))) ∙ before

-- all parts are written
pub all_written : (f : ℕ → List ℕ) (whole now : List ℕ) (n count end : ℕ) → end ≤ n → end ≡ count → now ++ flat_map f (range_with_len n (count - n)) ≡ whole → now ≡ whole
all_written f whole now n count end ge same is =
    let none : count - n ≡ 0 = omega (arith, ge, same) in
    sym (append-nil now) ∙ sym (ap (λ k. now ++ flat_map f (range_with_len n k)) none) ∙ is

-- ---- the levels of a front

level_more : (levels : List ℕ) (i : ℕ) → i < length levels → drop i levels ≡ slice_index levels i ∷ drop (i + 1) levels
level_more levels i lt = drop-cons levels i 0 lt ∙ ap (λ (k : ℕ). slice_index levels i ∷ drop k levels) (sym (add-one i))

-- one more level is looked at: its bit is set
pub level_taken : (bits i : ℕ) (levels found more whole : List ℕ) → bits % 2 ≡ 1 → i < length levels → more ≡ found ++ slice_index levels i ∷ [] → found ++ front_of bits (drop i levels) ≡ whole
    → more ++ front_of (bits / 2) (drop (i + 1) levels) ≡ whole
level_taken bits i levels found more whole odd lt is before =
    let level = slice_index levels i in
    let rest = drop (i + 1) levels in
    let step : front_of bits (level ∷ rest) ≡ level ∷ front_of (bits / 2) rest = ap (λ b. cond (b == 1) (level ∷ front_of (bits / 2) rest) (front_of (bits / 2) rest)) odd in
    ap (λ p. p ++ front_of (bits / 2) rest) is ∙ append_assoc found (level ∷ []) (front_of (bits / 2) rest) ∙ ap (λ p. found ++ p) (sym step) ∙ ap (λ p. found ++ front_of bits p) (sym (level_more levels i lt)) ∙ before

-- it isn't
pub level_left : (bits i : ℕ) (levels found more whole : List ℕ) → (bits % 2 ≡ 1 → ⊥) → i < length levels → more ≡ found → found ++ front_of bits (drop i levels) ≡ whole
    → more ++ front_of (bits / 2) (drop (i + 1) levels) ≡ whole
level_left bits i levels found more whole even lt is before =
    let level = slice_index levels i in
    let rest = drop (i + 1) levels in
    let none : bits % 2 ≡ 0 = omega (arith, even) in
    let step : front_of bits (level ∷ rest) ≡ front_of (bits / 2) rest = ap (λ b. cond (b == 1) (level ∷ front_of (bits / 2) rest) (front_of (bits / 2) rest)) none in
    ap (λ p. p ++ front_of (bits / 2) rest) is ∙ ap (λ p. found ++ p) (sym step) ∙ ap (λ p. found ++ front_of bits p) (sym (level_more levels i lt)) ∙ before

-- ---- an option

sizes_back : (sizes : List ℕ) → length sizes ≤ 2 → take (length sizes) (take 2 (sizes ++ 0 ∷ 0 ∷ [])) ≡ sizes
sizes_back [] few = refl
sizes_back (a ∷ []) few = refl
sizes_back (a ∷ b ∷ []) few = refl
sizes_back (a ∷ b ∷ c ∷ more) few = absurd (omega (arith, few))

-- an option as it is written is itself
pub option_back : (o : Setting) (w : code.Setting) → w ≡ written o → w.used ≤ 2 → (w.cut, take w.used w.sizes) ≡ o
option_back o w e few =
    let used = ap (λ (x : code.Setting). x.used) e in
    ap (λ (x : code.Setting). (x.cut, take x.used x.sizes)) e ∙ ap (λ (l : List ℕ). (o.0, l)) (sizes_back o.1 (omega (arith, used, few)))

-- the line of an entry, whose parts may be said otherwise
pub same_entry : (name name' levels levels' : List ℕ) (b : ℕ) (o o' : Setting) (cost cost' : ℕ) → name ≡ name' → levels ≡ levels' → o ≡ o' → cost ≡ cost' → entry_text name levels b o cost ≡ entry_text name' levels' b o' cost'
same_entry name name' levels levels' b o o' cost cost' e f g h =
    ap (λ n. entry_text n levels b o cost) e ∙ ap (λ l. entry_text name' l b o cost) f ∙ ap (λ p. entry_text name' levels' b p cost) g ∙ ap (λ c. entry_text name' levels' b o' c) h
