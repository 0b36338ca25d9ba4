-- What the laws of the items say of a whole text: each setting has one item, within its limits.
use Rattle.std.proofs.Common.{◌≡◌, ℕ, zero, suc, ◌+◌, ◌≤◌, ◌<◌, Bool, true, false, cond, List, [], ◌∷◌, ◌++◌, length, Option, Some, None, refl, sym, ap, subst, ◌∙◌, arith, inl, inr, length-append}
use Rattle.std.specs.Prelude.{nat_le, ◌&&◌, ◌||◌, ◌⊎◌}
use Rattle.std.specs.List.{AllByRecursion, list_all, filter}
use Rattle.std.proofs.lemmas.Bool.{eqb-true, eq-eqb, leb-true}
use Rattle.std.proofs.lemmas.List.Folds.{list_any-append}
use Rattle.sn_base.proofs.Lists.{and_parts, or_none, or_right}
use Rattle.sn_text_rules.specs.declared.Flaw.{Flaw}
use Rattle.sn_text_rules.specs.declared.Flaw.TheVariants.{Range, Twice, Missing}
use Rattle.sn_text_rules.specs.Rules.{kept, closed, fit_from}
use Rattle.sn_text_rules.specs.Words.{never, after_comma}
use Rattle.sn_text_rules.proofs.Common.{either_way}
use Rattle.sn_switch_grammar.specs.declared.item.Setting.{Setting}
use Rattle.sn_switch_grammar.specs.declared.item.Setting.TheVariants as settings
use Rattle.sn_switch_grammar.specs.declared.item.Item.{Item}
use Rattle.sn_switch_grammar.specs.Settings.{place, is, is_required, sets, has}
use Rattle.sn_switch_grammar.specs.Grammar.{within, one_number, below, size_test, past_size, size_rule, sizes, numbers, item_rule, items_rule, is_whole, switch_rule}
use Rattle.sn_switch_grammar.specs.Wholes.{numbers_in, first_of, IsIn, IsSizes}
use Rattle.sn_base.specs.Rising.{IsRising}

-- ---- settings

setting_at : ℕ → Setting
setting_at zero = settings.Stages
setting_at (suc zero) = settings.Actions
setting_at (suc (suc zero)) = settings.Bits
setting_at (suc (suc (suc zero))) = settings.Meta
setting_at (suc (suc (suc (suc zero)))) = settings.Chain
setting_at (suc (suc (suc (suc (suc zero))))) = settings.Slots
setting_at (suc (suc (suc (suc (suc (suc zero)))))) = settings.Entries
setting_at (suc (suc (suc (suc (suc (suc (suc n))))))) = settings.Weight

at_place : (k : Setting) → setting_at (place k) ≡ k
unfolding setting_at
at_place settings.Stages = refl
at_place settings.Actions = refl
at_place settings.Bits = refl
at_place settings.Meta = refl
at_place settings.Chain = refl
at_place settings.Slots = refl
at_place settings.Entries = refl
at_place settings.Weight = refl

pub same_setting : (k j : Setting) → is k j ≡ true → j ≡ k
same_setting k j e = sym (at_place j) ∙ ap setting_at (sym (eqb-true (place k) (place j) e)) ∙ at_place k

pub itself : (k : Setting) → is k k ≡ true
itself k = eq-eqb (place k) (place k) refl

-- ---- one item of each setting

abbrev no_flaw : Option Flaw
no_flaw = None

abbrev some_flaw : Flaw → Option Flaw
some_flaw x = Some x

not_twice : (b : Bool) → closed kept (cond b (some_flaw Twice) no_flaw) ≡ None → b ≡ false
not_twice true e = absurd cc
not_twice false e = refl

pub item_fits : (seen : List Item) (a : Item) → (item_rule seen).fits kept a → (has a.setting seen ≡ false) × (numbers a.setting).fits kept a.numbers
unfolding item_rule
item_fits seen a f = (not_twice (has a.setting seen) f.0, f.1.0)

abbrev Fit : List Item → List Item → Type 0
Fit seen items = fit_from never item_rule kept seen items

more_seen : (k : Setting) (seen : List Item) (a : Item) → has k seen ≡ true → has k (seen ++ a ∷ []) ≡ true
more_seen k seen a e = list_any-append (sets k) seen (a ∷ []) ∙ rw e refl

now_seen : (k : Setting) (seen : List Item) (a : Item) → sets k a ≡ true → has k (seen ++ a ∷ []) ≡ true
now_seen k seen a e = list_any-append (sets k) seen (a ∷ []) ∙ or_right (has k seen) (has k (a ∷ [])) (rw e refl)

seen_once : (k : Setting) (seen : List Item) (a : Item) → (item_rule seen).fits kept a → has k seen ≡ true → sets k a ≡ true → ⊥
seen_once k seen a f h e =
    let j = same_setting k a.setting e in
    let n : has k seen ≡ false = subst (λ (s : Setting). has s seen ≡ false) j (item_fits seen a f).0 in
    absurd cc

none_left : (k : Setting) (seen items : List Item) → Fit seen items → has k seen ≡ true → filter (sets k) items ≡ []
none_left k seen [] f h = refl
none_left k seen (a ∷ items) f h = elim (either_way (sets k a)) [
  | inl e ↦ absurd (seen_once k seen a f.1 h e)
  | inr e ↦ rw e (none_left k (seen ++ a ∷ []) items f.2 (more_seen k seen a h))
]

abbrev item_of : Setting → List ℕ → Item
item_of k ns = record { setting = k; numbers = ns }

pub record IsOne (k : Setting) (items : List Item) : Type 0 where
  pub alone : filter (sets k) items ≡ item_of k (numbers_in k items) ∷ []
  pub fits : (numbers k).fits kept (numbers_in k items)

here : (k : Setting) (seen : List Item) (a : Item) (items : List Item) → Fit seen (a ∷ items) → sets k a ≡ true → IsOne k (a ∷ items)
here k seen a items f e =
    let j = same_setting k a.setting e in
    let none = none_left k (seen ++ a ∷ []) items f.2 (now_seen k seen a e) in
    let found : numbers_in k (a ∷ items) ≡ a.numbers = rw e refl in
    let kept_one : filter (sets k) (a ∷ items) ≡ a ∷ filter (sets k) items = rw e refl in
    let whole : a ≡ item_of k (numbers_in k (a ∷ items)) = rw found (ap (λ (s : Setting). item_of s a.numbers) j) in
    let first : (numbers k).fits kept a.numbers = subst (λ (s : Setting). (numbers s).fits kept a.numbers) j (item_fits seen a f.1).1 in
    record {
      alone = kept_one ∙ ap (λ (r : List Item). a ∷ r) none ∙ ap (λ (i : Item). i ∷ []) whole;
      fits = subst (λ (ns : List ℕ). (numbers k).fits kept ns) (sym found) first;
    }

there : (k : Setting) (a : Item) (items : List Item) → sets k a ≡ false → IsOne k items → IsOne k (a ∷ items)
there k a items e h =
    let found : numbers_in k (a ∷ items) ≡ numbers_in k items = rw e refl in
    let kept_rest : filter (sets k) (a ∷ items) ≡ filter (sets k) items = rw e refl in
    record {
      alone = kept_rest ∙ h.alone ∙ ap (λ (ns : List ℕ). item_of k ns ∷ []) (sym found);
      fits = subst (λ (ns : List ℕ). (numbers k).fits kept ns) (sym found) h.fits;
    }

one_left : (k : Setting) (seen items : List Item) → Fit seen items → has k items ≡ true → IsOne k items
one_left k seen [] f h = absurd cc
one_left k seen (a ∷ items) f h = elim (either_way (sets k a)) [
  | inl e ↦ here k seen a items f e
  | inr e ↦ (let later : has k items ≡ true = rw (← h) (rw e refl) in there k a items e (one_left k (seen ++ a ∷ []) items f.2 later))
]

not_missing : (b : Bool) → closed kept (cond b no_flaw (some_flaw Missing)) ≡ None → b ≡ true
not_missing true e = refl
not_missing false e = absurd cc

items_fit : (items : List Item) → items_rule.fits kept items → Fit [] items
unfolding items_rule
items_fit items f = f

parts_fit : (items : List Item) → switch_rule.fits kept items → Fit [] items × (is_whole items ≡ true)
unfolding switch_rule
parts_fit items f = (items_fit items f.0, not_missing (is_whole items) f.1)

all_there : (a b d e f g : Bool) → (a && b && d && e && f && g) ≡ true → (a ≡ true) × (b ≡ true) × (d ≡ true) × (e ≡ true) × (f ≡ true) × (g ≡ true)
all_there true true true true true true h = (refl, refl, refl, refl, refl, refl)
all_there false b d e f g h = absurd cc
all_there true false d e f g h = absurd cc
all_there true true false e f g h = absurd cc
all_there true true true false f g h = absurd cc
all_there true true true true false g h = absurd cc
all_there true true true true true false h = absurd cc

-- where there is none of a setting
pub record IsNone (k : Setting) (items : List Item) : Type 0 where
  pub none : filter (sets k) items ≡ []
  pub nothing : numbers_in k items ≡ []

none_there : (k : Setting) (items : List Item) → has k items ≡ false → IsNone k items
none_there k [] h = record { none = refl; nothing = refl }
none_there k (a ∷ items) h =
    let parts = or_none (sets k a) (has k items) h in
    let rest = none_there k items parts.1 in
    record { none = rw parts.0 rest.none; nothing = rw parts.0 rest.nothing }

-- of each of the first six there is one
pub each_one : (items : List Item) → switch_rule.fits kept items → (k : Setting) → is_required k ≡ true → IsOne k items
each_one items f k required =
    let p = parts_fit items f in
    let h = all_there (has settings.Stages items) (has settings.Actions items) (has settings.Bits items) (has settings.Meta items) (has settings.Chain items) (has settings.Slots items) p.1 in
    one_left k [] items p.0 (there_is k required h.0 h.1 h.2 h.3 h.4 h.5)
  where
    there_is : (k : Setting) → is_required k ≡ true → has settings.Stages items ≡ true → has settings.Actions items ≡ true → has settings.Bits items ≡ true → has settings.Meta items ≡ true → has settings.Chain items ≡ true → has settings.Slots items ≡ true → has k items ≡ true
    there_is settings.Stages r a b d e f g = a
    there_is settings.Actions r a b d e f g = b
    there_is settings.Bits r a b d e f g = d
    there_is settings.Meta r a b d e f g = e
    there_is settings.Chain r a b d e f g = f
    there_is settings.Slots r a b d e f g = g
    there_is settings.Entries r a b d e f g = absurd cc
    there_is settings.Weight r a b d e f g = absurd cc

-- of each setting there is one at most
pub one_or_none : (items : List Item) → switch_rule.fits kept items → (k : Setting) → IsOne k items ⊎ IsNone k items
one_or_none items f k = elim (either_way (has k items)) [
  | inl e ↦ inl (one_left k [] items (parts_fit items f).0 e)
  | inr e ↦ inr (none_there k items e)
]

-- ---- limits

in_range_of : (b : Bool) → closed kept (cond b no_flaw (some_flaw Range)) ≡ None → b ≡ true
in_range_of true e = refl
in_range_of false e = absurd cc

within_is : (low high n : ℕ) → closed kept (within low high n) ≡ None → IsIn low high n
within_is low high n e =
    let h = and_parts (nat_le low n) (nat_le n high) (in_range_of (nat_le low n && nat_le n high) e) in
    (leb-true low n h.0, leb-true n high h.1)

pub one_of : (low high : ℕ) (ns : List ℕ) → (one_number low high).fits kept ns → (ns ≡ first_of ns ∷ []) × IsIn low high (first_of ns)
one_of low high [] f = absurd f
one_of low high (n ∷ []) f = (refl, within_is low high n f)
one_of low high (n ∷ m ∷ ns) f = absurd f

abbrev InRange : ℕ → Type 0
InRange n = IsIn 1 65536 n

below_all : (n : ℕ) (seen : List ℕ) → list_all (below n) seen ≡ true → AllByRecursion (λ m. m < n) seen
below_all n [] e = tt
below_all n (m ∷ seen) e = let h = and_parts (below n m) (list_all (below n) seen) e in (leb-true (suc m) n h.0, below_all n seen h.1)

size_is : (seen : List ℕ) (n : ℕ) → closed kept (size_test seen n) ≡ None → InRange n × AllByRecursion (λ m. m < n) seen
size_is seen n e =
    let h = and_parts (nat_le 1 n && nat_le n 65536) (list_all (below n) seen) (in_range_of (nat_le 1 n && nat_le n 65536 && list_all (below n) seen) e) in
    let r = and_parts (nat_le 1 n) (nat_le n 65536) h.0 in
    ((leb-true 1 n r.0, leb-true n 65536 r.1), below_all n seen h.1)

all_split : (P : ℕ → Type 0) (xs ys : List ℕ) → AllByRecursion P (xs ++ ys) → AllByRecursion P xs × AllByRecursion P ys
all_split P [] ys h = (tt, h)
all_split P (x ∷ xs) ys h = let k = all_split P xs ys h.1 in ((h.0, k.0), k.1)

all_both : (P Q R : ℕ → Type 0) → ((x : ℕ) → P x → Q x → R x) → (xs : List ℕ) → AllByRecursion P xs → AllByRecursion Q xs → AllByRecursion R xs
all_both P Q R f [] p q = tt
all_both P Q R f (x ∷ xs) p q = (f x p.0 q.0, all_both P Q R f xs p.1 q.1)

record Rests (seen rest : List ℕ) : Type 0 where
  most : length seen + length rest ≤ 4
  range : AllByRecursion InRange rest
  rising : IsRising rest
  above : AllByRecursion (λ m. AllByRecursion (λ n. m < n) rest) seen

no_above : (seen : List ℕ) → AllByRecursion (λ m. AllByRecursion (λ n. m < n) []) seen
no_above [] = tt
no_above (m ∷ seen) = (tt, no_above seen)

open_size : (b : Bool) (seen : List ℕ) (a : ℕ) → nat_le 4 (length seen) ≡ b → (after_comma 4 past_size size_rule seen).fits kept a → (b ≡ false) × (closed kept (size_test seen a) ≡ None)
open_size true seen a e f = absurd (rw e at f).1
open_size false seen a e f = (refl, (rw e at f).1)

rest_fits : (seen rest : List ℕ) → length seen ≤ 4 → fit_from never (after_comma 4 past_size size_rule) kept seen rest → Rests seen rest
rest_fits seen [] l f = record { most = omega arith; range = tt; rising = tt; above = no_above seen }
rest_fits seen (a ∷ rest) l f =
    let o = open_size (nat_le 4 (length seen)) seen a refl f.1 in
    let s = size_is seen a o.1 in
    let short : length seen < 4 = grind (arith, o.0) in
    let longer = length-append seen (a ∷ []) in
    let h = rest_fits (seen ++ a ∷ []) rest (omega arith) f.2 in
    let k = all_split (λ m. AllByRecursion (λ n. m < n) rest) seen (a ∷ []) h.above in
    record {
      most = omega (arith, h.most);
      range = (s.0, h.range);
      rising = (k.1.0, h.rising);
      above = all_both (λ m. m < a) (λ m. AllByRecursion (λ n. m < n) rest) (λ m. AllByRecursion (λ n. m < n) (a ∷ rest)) (λ m p q. (p, q)) seen s.1 k.0;
    }

pub sizes_of : (ns : List ℕ) → sizes.fits kept ns → IsSizes ns
sizes_of [] f = absurd f
sizes_of (a ∷ rest) f =
    let s = size_is [] a f.0 in
    let h = rest_fits (a ∷ []) rest (omega arith) f.1 in
    record { some = omega arith; most = omega (arith, h.most); range = (s.0, h.range); rising = (h.above.0, h.rising) }
