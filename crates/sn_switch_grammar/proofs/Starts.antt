-- Tokens of the switch text that are read without a fault begin an accepted one.
use Rattle.std.proofs.Common.{◌≡◌, ℕ, ◌≤◌, ◌<◌, Bool, true, false, cond, List, [], ◌∷◌, ◌++◌, Option, Some, None, refl, sym, ap, subst, ◌∙◌, append_assoc, arith, inl, inr}
use Rattle.std.specs.Prelude.{nat_le, nat_lt, ◌&&◌, ◌||◌}
use Rattle.std.specs.List.{list_all}
use Rattle.std.proofs.lemmas.Bool.{le-leb, leb-true, lt-ltb, ltb-true}
use Rattle.std.proofs.lemmas.List.{append-nil}
use Rattle.std.proofs.lemmas.List.Folds.{list_any-append}
use Rattle.sn_text_rules.specs.declared.Flaw.{Flaw}
use Rattle.sn_text_rules.specs.declared.Flaw.TheVariants.{Range}
use Rattle.sn_text_rules.specs.Tokens.{number, finish, Tok, Mark, plain, Read, got, fails, short, bind}
use Rattle.sn_text_rules.specs.Rules.{kept, anything, judged, closed, items_spelled, fit_from, BeginsAccepted}
use Rattle.sn_text_rules.specs.Words.{wrong, number_at, judged_as, judged_by, never}
use Rattle.sn_text_rules.proofs.Common.{either_way, bind_short, respelled, remarked, spelled_append, bearers, bearers_spelled}
use Rattle.sn_text_rules.proofs.Starts.{Kept, Able, Dead, Starting, opened, carried, one_known, pair_on_kept, embedded_able, renamed_kept, sign_able, leaf_kept, leaf_able, before_able, kept_steps, many_able, Next, commas_able, starting}
use Rattle.sn_switch_grammar.specs.declared.item.Setting.{Setting}
use Rattle.sn_switch_grammar.specs.declared.item.Setting.TheVariants as settings
use Rattle.sn_switch_grammar.specs.declared.item.Item.{Item}
use Rattle.sn_switch_grammar.specs.Settings.{word_of, setting_in, sets, has}
use Rattle.sn_switch_grammar.specs.Grammar.{once, within, alone, lone, one_number, below, size_test, size_rule, sizes, to_item, from_item, item_rule, is_whole, end_in, complete, end_rule, items_rule, switch_rule}
use Rattle.sn_switch_grammar.proofs.Goods.{setting_good, within_good, alone_undone, one_number_good, fits_size, size_listed, sizes_good, ended, items_alike, items_good}
use Rattle.sn_switch_grammar.proofs.Wholes.{itself}
use Rattle.sn_base.proofs.Lists.{or_right, and_parts, or_left}
use Rattle.sn_base.proofs.Tests.{three_parts}

abbrev no_flaw : Option Flaw
no_flaw = None

abbrev some_flaw : Flaw → Option Flaw
some_flaw x = Some x

-- ---- numbers

low_within : (low high : ℕ) → low ≤ high → within low high low ≡ None
low_within low high le = let a : nat_le low low ≡ true = le-leb low low (omega arith) in let b : nat_le low high ≡ true = le-leb low high le in rw (a, b) refl

one_number_able : (low high : ℕ) → low ≤ high → Able (one_number low high)
one_number_able low high le = embedded_able alone lone (alone_undone low high) (within_good low high) (leaf_able number number_at (within low high) low (low_within low high le))

-- ---- sizes: one is above those before it where the largest is

three_made : (a b c : Bool) → a ≡ true → b ≡ true → c ≡ true → (a && b && c) ≡ true
three_made a b c e f g = rw (e, f, g) refl

all_below : (n m : ℕ) → n ≤ m → (seen : List ℕ) → list_all (below n) seen ≡ true → list_all (below m) seen ≡ true
all_below n m le [] e = refl
all_below n m le (k ∷ seen) e =
    let h = and_parts (nat_lt k n) (list_all (below n) seen) e in
    let less : k < n = ltb-true k n h.0 in
    let a : nat_lt k m ≡ true = lt-ltb k m (omega (arith, less)) in
    rw (a, all_below n m le seen h.1) refl

largest_fits : (seen : List ℕ) (n : ℕ) → fits_size seen n ≡ true → fits_size seen 65536 ≡ true
largest_fits seen n e =
    let h = three_parts (nat_le 1 n) (nat_le n 65536) (list_all (below n) seen) e in
    let most : n ≤ 65536 = leb-true n 65536 h.1 in
    three_made (nat_le 1 65536) (nat_le 65536 65536) (list_all (below 65536) seen) (le-leb 1 65536 (omega arith)) (le-leb 65536 65536 (omega arith)) (all_below n 65536 most seen h.2)

no_size : (seen : List ℕ) → fits_size seen 65536 ≡ false → (n : ℕ) → fits_size seen n ≡ false
no_size seen e n = elim (either_way (fits_size seen n)) [
  | inl h ↦ (let k : true ≡ false = sym (largest_fits seen n h) ∙ e in absurd cc)
  | inr h ↦ h
]

-- after the largest size no other stands
size_dead : (seen : List ℕ) → fits_size seen 65536 ≡ false → Dead (size_rule seen)
size_dead seen e = record { fault = λ t ts. go t ts (number_at t.face) refl }
  where
    go : (t : Tok) (ts : List Tok) (o : Option ℕ) → number_at t.face ≡ o → (x : Flaw) × (judged (judged_by (size_test seen) kept t.face (number_at t.face)) t ts ≡ fails x (t ∷ ts))
    go t ts None f = (wrong t.face, rw f refl)
    go t ts (Some n) f = (Range, rw f (ap (λ (b : Bool). judged (judged_as n (closed kept (cond b no_flaw (some_flaw Range)))) t ts) (no_size seen e n)))

size_next : (seen : List ℕ) → Next (size_rule seen)
size_next seen = (
  leaf_kept number number_at (size_test seen),
  elim (either_way (fits_size seen 65536)) [
    | inl h ↦ inl (65536, rw h refl)
    | inr h ↦ inr (size_dead seen h)
  ],
)

sizes_able : Able sizes
sizes_able = commas_able 4 size_listed (leaf_able number number_at (size_test []) 1 refl) (λ seen l. size_next seen)

-- ---- items

ended_able : (k : Setting) → Able (ended k)
ended_able settings.Stages = before_able (one_number_good 1 32) (one_number_able 1 32 (omega arith)) (sign_able 2)
ended_able settings.Actions = before_able (one_number_good 1 64) (one_number_able 1 64 (omega arith)) (sign_able 2)
ended_able settings.Bits = before_able (one_number_good 1 4294967296) (one_number_able 1 4294967296 (omega arith)) (sign_able 2)
ended_able settings.Meta = before_able (one_number_good 0 65535) (one_number_able 0 65535 (omega arith)) (sign_able 2)
ended_able settings.Chain = before_able (one_number_good 1 4) (one_number_able 1 4 (omega arith)) (sign_able 2)
ended_able settings.Slots = before_able sizes_good sizes_able (sign_able 2)
ended_able settings.Entries = before_able (one_number_good 1 4194304) (one_number_able 1 4194304 (omega arith)) (sign_able 2)
ended_able settings.Weight = before_able (one_number_good 0 65536) (one_number_able 0 65536 (omega arith)) (sign_able 2)

item_keeps : (seen : List Item) → Kept (item_rule seen)
unfolding item_rule
item_keeps seen = renamed_kept to_item from_item (λ a. refl) (pair_on_kept anything (setting_good seen) (leaf_kept word_of setting_in (once seen)) (λ k f. ended_able k))

items_able : Able items_rule
unfolding items_rule
items_able = many_able items_alike (λ seen e. kept_steps (item_keeps seen))

-- ---- the items that are missing

abbrev Fit : List Item → List Item → Type 0
Fit seen items = fit_from never item_rule kept seen items

fit_append : (seen x y : List Item) → Fit seen x → Fit (seen ++ x) y → Fit seen (x ++ y)
fit_append seen [] y f g = subst (λ (s : List Item). Fit s y) (append-nil seen) g
fit_append seen (a ∷ x) y f g = (f.0, f.1, fit_append (seen ++ a ∷ []) x y f.2 (subst (λ (s : List Item). Fit s y) (sym (append_assoc seen (a ∷ []) x)) g))

-- some item of the setting
item_of : Setting → Item
item_of k = to_item (k, (ended_able k).some.0)

its_setting : (k : Setting) → sets k (item_of k) ≡ true
unfolding item_of
its_setting k = itself k

item_fits : (k : Setting) (seen : List Item) → has k seen ≡ false → (item_rule seen).fits kept (item_of k)
unfolding item_rule item_of
item_fits k seen e = (rw e refl, (ended_able k).some.1)

still_has : (k : Setting) (x y : List Item) → has k x ≡ true → has k (x ++ y) ≡ true
still_has k x y e = list_any-append (sets k) x y ∙ or_left (has k x) (has k y) e

now_has : (k : Setting) (x : List Item) → has k (x ++ item_of k ∷ []) ≡ true
now_has k x = list_any-append (sets k) x (item_of k ∷ []) ∙ or_right (has k x) (has k (item_of k ∷ [])) (or_left (sets k (item_of k)) false (its_setting k))

record Added (k : Setting) (x : List Item) : Type 0 where
  more : List Item
  fits : Fit [] (x ++ more)
  holds : has k (x ++ more) ≡ true

-- an item of the setting after the others, if there is none among them
add : (k : Setting) (x : List Item) → Fit [] x → Added k x
add k x f = elim (either_way (has k x)) [
  | inl h ↦ record { more = []; fits = fit_append [] x [] f tt; holds = still_has k x [] h }
  | inr h ↦ record { more = item_of k ∷ []; fits = fit_append [] x (item_of k ∷ []) f (refl, item_fits k x h, tt); holds = now_has k x }
]

abbrev Has_each : List Setting → List Item → Type 0
Has_each [] x = Unit {0}
Has_each (k ∷ ks) x = (has k x ≡ true) × Has_each ks x

record Completed (ks : List Setting) (x : List Item) : Type 0 where
  more : List Item
  fits : Fit [] (x ++ more)
  holds : Has_each ks (x ++ more)

complete_items : (ks : List Setting) (x : List Item) → Fit [] x → Completed ks x
complete_items [] x f = record { more = []; fits = fit_append [] x [] f tt; holds = tt }
complete_items (k ∷ ks) x f =
    let a = add k x f in
    let c = complete_items ks (x ++ a.more) a.fits in
    let same = append_assoc x a.more c.more in
    record { more = a.more ++ c.more; fits = subst (Fit []) same c.fits; holds = subst (Has_each (k ∷ ks)) same (still_has k (x ++ a.more) c.more a.holds, c.holds) }

abbrev all_six : List Setting
all_six = settings.Stages ∷ settings.Actions ∷ settings.Bits ∷ settings.Meta ∷ settings.Chain ∷ settings.Slots ∷ []

whole_of : (x : List Item) → Has_each all_six x → is_whole x ≡ true
whole_of x h = rw (h.0, h.1.0, h.1.1.0, h.1.1.1.0, h.1.1.1.1.0, h.1.1.1.1.1.0) refl

-- ---- the text

items_append : (item : Item → List Mark) (x y : List Item) → items_spelled item (x ++ y) ≡ items_spelled item x ++ items_spelled item y
items_append item [] y = refl
items_append item (a ∷ x) y = ap (λ (ms : List Mark). item a ++ ms) (items_append item x y) ∙ sym (append_assoc (item a) (items_spelled item x) (items_spelled item y))

-- what begins items begins a whole text, since the items that are missing may follow
whole_opens : (ts : List Tok) → BeginsAccepted items_rule ts → BeginsAccepted switch_rule ts
unfolding switch_rule items_rule
whole_opens ts k =
    let c = complete_items all_six k.value k.accepted.fits in
    let shown = items_spelled (item_rule []).spell in
    let tail = bearers (shown c.more) in
    let last = bearers (plain finish ∷ []) in
    let items = remarked ((ts ++ k.more) ++ tail) (shown k.value ++ shown c.more) (shown (k.value ++ c.more)) (sym (items_append (item_rule []).spell k.value c.more)) (spelled_append (ts ++ k.more) tail (shown k.value) (shown c.more) k.accepted.spelled (bearers_spelled (shown c.more))) in
    let all = spelled_append ((ts ++ k.more) ++ tail) last (shown (k.value ++ c.more)) (plain finish ∷ []) items (bearers_spelled (plain finish ∷ [])) in
    let same : ((ts ++ k.more) ++ tail) ++ last ≡ ts ++ (k.more ++ (tail ++ last)) = append_assoc (ts ++ k.more) tail last ∙ append_assoc ts k.more (tail ++ last) in
    opened switch_rule ts (k.more ++ (tail ++ last)) (k.value ++ c.more) (c.fits, rw (whole_of (k.value ++ c.more) c.holds) refl) (respelled (((ts ++ k.more) ++ tail) ++ last) (ts ++ (k.more ++ (tail ++ last))) (shown (k.value ++ c.more) ++ plain finish ∷ []) same all)

whole_fault : (ts rest : List Tok) (x : Flaw) → items_rule.read kept ts ≡ fails x rest → switch_rule.read kept ts ≡ fails x rest
unfolding switch_rule
whole_fault ts rest x e = rw e refl

abbrev twin : List Item → Unit {0} → List Item × Unit {0}
twin a u = (a, u)

abbrev then_end : List Item → List Tok → Read (List Item × Unit {0})
then_end a us = bind ((end_rule a).read kept us) (λ u vs. got (twin a u) vs)

abbrev items_alone : List Item × Unit {0} → List Tok → Read (List Item)
items_alone x us = got x.0 us

parts_short : (ts : List Tok) → switch_rule.read kept ts ≡ short → bind (items_rule.read kept ts) then_end ≡ short
unfolding switch_rule
parts_short ts e = elim (bind_short (bind (items_rule.read kept ts) then_end) items_alone e) [
  | inl h ↦ h
  | inr b ↦ absurd cc
]

-- the end is known at its token
end_at : (a : List Item) (us : List Tok) → (end_rule a).read kept us ≡ short → us ≡ []
end_at a [] e = refl
end_at a (u ∷ us) e = absurd (one_known (judged_by (complete a) kept u.face (end_in u.face)) u us e)

end_short : (a : List Item) (us : List Tok) → then_end a us ≡ short → us ≡ []
end_short a us e = elim (bind_short ((end_rule a).read kept us) (λ u vs. got (twin a u) vs) e) [
  | inl h ↦ end_at a us h
  | inr b ↦ absurd cc
]

pub switch_starts : Starting switch_rule
switch_starts = record {
  starts = λ ts e. elim (bind_short (items_rule.read kept ts) then_end (parts_short ts e)) [
    | inl h ↦ carried items_rule switch_rule ts [] ts refl whole_opens (λ vs rest x f. whole_fault (ts ++ vs) rest x f) ((starting items_able).starts ts h)
    | inr b ↦ (let k = items_good.takes kept ts b.1 b.0 b.2 in
        let same : ts ≡ k.front ++ [] = k.parts ∙ ap (λ (us : List Tok). k.front ++ us) (end_short b.0 b.1 b.3) in
        inl (whole_opens ts (opened items_rule ts [] b.0 (items_good.fitting kept ts b.1 b.0 b.2) (respelled k.front (ts ++ []) (items_rule.spell b.0) (sym (append-nil ts ∙ same ∙ append-nil k.front)) k.spelled))))
  ];
}
