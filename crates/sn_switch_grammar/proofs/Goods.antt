-- The rules of the switch text keep the laws.
use Rattle.std.proofs.Common.{◌≡◌, ℕ, Bool, true, false, cond, List, [], ◌∷◌, ◌++◌, map, Option, Some, None, refl, sym, ap, subst, ◌∙◌}
use Rattle.std.specs.Prelude.{codes, nat_le, ◌&&◌, ◌||◌}
use Rattle.std.specs.Cmp.Lexicographic.{same_text}
use Rattle.std.specs.List.{list_all}
use Rattle.sn_text_rules.specs.declared.Flaw.{Flaw}
use Rattle.sn_text_rules.specs.declared.Flaw.TheVariants.{Range, Twice, Missing}
use Rattle.sn_text_rules.specs.Tokens.{Lexeme, word, number, symbol, finish, bad, Tok, plain, Spelled, fails}
use Rattle.sn_text_rules.specs.Rules.{kept, aside, closed, is_limit, Rule, anything, pair_on}
use Rattle.sn_text_rules.specs.Words.{same, number_by, is_symbol, sign, first, with_second, never, ◌◂◌}
use Rattle.sn_text_rules.proofs.Common.{bearers, bearers_spelled}
use Rattle.sn_text_rules.proofs.Laws.{Good, pair_on_good}
use Rattle.sn_text_rules.proofs.Choices.{Undoes, embedded_good, renamed_good, Past}
use Rattle.sn_text_rules.proofs.Series.{Alike, many_good}
use Rattle.sn_text_rules.proofs.Words.{Stands_for, leaf_good, number_by_good, before_sign, Listed, commas_good}
use Rattle.sn_text_rules.proofs.Lists.{unmapped, commas_sign}
use Rattle.sn_switch_grammar.specs.declared.item.Setting.{Setting}
use Rattle.sn_switch_grammar.specs.declared.item.Setting.TheVariants as settings
use Rattle.sn_switch_grammar.specs.declared.item.Item.{Item}
use Rattle.sn_switch_grammar.specs.Settings.{text_of, word_of, setting_in, is_there, begins, is, has}
use Rattle.sn_switch_grammar.specs.Grammar.{once, setting_rule, within, alone, lone, one_number, below, size_test, past_size, size_rule, sizes, numbers, to_item, from_item, item_rule, end_in, end_face, is_whole, complete, end_rule, items_rule, switch_rule}

abbrev no_flaw : Option Flaw
no_flaw = None

abbrev some_flaw : Flaw → Option Flaw
some_flaw x = Some x

-- ---- the word of an item

word_undone : (k : Setting) → setting_in (word_of k) ≡ Some k
word_undone settings.Stages = refl
word_undone settings.Actions = refl
word_undone settings.Bits = refl
word_undone settings.Meta = refl
word_undone settings.Chain = refl
word_undone settings.Slots = refl
word_undone settings.Entries = refl
word_undone settings.Weight = refl

abbrev some_setting : Setting → Option Setting
some_setting k = Some k

abbrev no_setting : Option Setting
no_setting = None

word_is : (a b d e f g i j : Bool) (w : List ℕ) (k : Setting) → (a ≡ true → w ≡ codes "stages") → (b ≡ true → w ≡ codes "actions") → (d ≡ true → w ≡ codes "bits") → (e ≡ true → w ≡ codes "meta") → (f ≡ true → w ≡ codes "chain") → (g ≡ true → w ≡ codes "slots") → (i ≡ true → w ≡ codes "entries") → (j ≡ true → w ≡ codes "weight")
    → cond a (some_setting settings.Stages) (cond b (some_setting settings.Actions) (cond d (some_setting settings.Bits) (cond e (some_setting settings.Meta) (cond f (some_setting settings.Chain) (cond g (some_setting settings.Slots) (cond i (some_setting settings.Entries) (cond j (some_setting settings.Weight) no_setting))))))) ≡ Some k → w ≡ text_of k
word_is true b d e f g i j w k h1 h2 h3 h4 h5 h6 h7 h8 r = let x : settings.Stages ≡ k = cc in h1 refl ∙ ap text_of x
word_is false true d e f g i j w k h1 h2 h3 h4 h5 h6 h7 h8 r = let x : settings.Actions ≡ k = cc in h2 refl ∙ ap text_of x
word_is false false true e f g i j w k h1 h2 h3 h4 h5 h6 h7 h8 r = let x : settings.Bits ≡ k = cc in h3 refl ∙ ap text_of x
word_is false false false true f g i j w k h1 h2 h3 h4 h5 h6 h7 h8 r = let x : settings.Meta ≡ k = cc in h4 refl ∙ ap text_of x
word_is false false false false true g i j w k h1 h2 h3 h4 h5 h6 h7 h8 r = let x : settings.Chain ≡ k = cc in h5 refl ∙ ap text_of x
word_is false false false false false true i j w k h1 h2 h3 h4 h5 h6 h7 h8 r = let x : settings.Slots ≡ k = cc in h6 refl ∙ ap text_of x
word_is false false false false false false true j w k h1 h2 h3 h4 h5 h6 h7 h8 r = let x : settings.Entries ≡ k = cc in h7 refl ∙ ap text_of x
word_is false false false false false false false true w k h1 h2 h3 h4 h5 h6 h7 h8 r = let x : settings.Weight ≡ k = cc in h8 refl ∙ ap text_of x
word_is false false false false false false false false w k h1 h2 h3 h4 h5 h6 h7 h8 r = absurd cc

word_only : (x : Lexeme) (k : Setting) → setting_in x ≡ Some k → x ≡ word_of k
word_only (word w) k e = ap word (word_is (same w (codes "stages")) (same w (codes "actions")) (same w (codes "bits")) (same w (codes "meta")) (same w (codes "chain")) (same w (codes "slots")) (same w (codes "entries")) (same w (codes "weight")) w k
    (λ h. same_text w (codes "stages") (sym h)) (λ h. same_text w (codes "actions") (sym h)) (λ h. same_text w (codes "bits") (sym h)) (λ h. same_text w (codes "meta") (sym h)) (λ h. same_text w (codes "chain") (sym h)) (λ h. same_text w (codes "slots") (sym h)) (λ h. same_text w (codes "entries") (sym h)) (λ h. same_text w (codes "weight") (sym h)) e)
word_only (number n) k e = absurd cc
word_only (symbol j) k e = absurd cc
word_only finish k e = absurd cc
word_only bad k e = absurd cc

twice_aside : (b : Bool) → closed aside (cond b (some_flaw Twice) no_flaw) ≡ None
twice_aside true = refl
twice_aside false = refl

pub settings_stand : Stands_for word_of setting_in
settings_stand = record { undone = word_undone; only = word_only }

pub setting_good : (seen : List Item) → Good (setting_rule seen)
setting_good seen = leaf_good word_of setting_in settings_stand (once seen) (settings.Stages, twice_aside (has settings.Stages seen))

-- ---- its numbers

range_aside : (b : Bool) → closed aside (cond b no_flaw (some_flaw Range)) ≡ None
range_aside true = refl
range_aside false = refl

abbrev inside : ℕ → ℕ → ℕ → Bool
inside low high n = nat_le low n && nat_le n high

pub within_good : (low high : ℕ) → Good (number_by (within low high))
within_good low high = number_by_good (within low high) (0, range_aside (inside low high 0))

pub alone_undone : (low high : ℕ) → Undoes alone lone (number_by (within low high))
alone_undone low high = record { back = λ a f. refl; forth = forth }
  where
    forth : (b : List ℕ) (a : ℕ) → lone b ≡ Some a → alone a ≡ b
    forth [] a e = absurd cc
    forth (n ∷ []) a e = let h : n ≡ a = cc in ap alone (sym h)
    forth (n ∷ m ∷ ns) a e = absurd cc

pub one_number_good : (low high : ℕ) → Good (one_number low high)
one_number_good low high = embedded_good alone lone (alone_undone low high) (within_good low high)

abbrev pub fits_size : List ℕ → ℕ → Bool
fits_size seen n = nat_le 1 n && nat_le n 65536 && list_all (below n) seen

size_aside : (seen : List ℕ) (n : ℕ) → closed aside (size_test seen n) ≡ None
size_aside seen n = range_aside (fits_size seen n)

size_good : (seen : List ℕ) → Good (size_rule seen)
size_good seen = number_by_good (size_test seen) (0, size_aside seen 0)

size_past : Past past_size (size_rule [])
size_past = record { no_item = λ t ts n. no_item t.face t ts refl n; item = λ t n. item t.face t refl n }
  where
    no_item : (x : Lexeme) (t : Tok) (ts : List Tok) → t.face ≡ x → is_limit (past_size x) ≡ false → (size_rule []).read aside (t ∷ ts) ≡ fails (past_size t.face) (t ∷ ts)
    no_item (word w) t ts e n = rw e refl
    no_item (number m) t ts e n = absurd cc
    no_item (symbol k) t ts e n = rw e refl
    no_item finish t ts e n = rw e refl
    no_item bad t ts e n = rw e refl

    item : (x : Lexeme) (t : Tok) → t.face ≡ x → is_limit (past_size x) ≡ true → (a : ℕ) × (more : List Tok) × (closed aside (size_test [] a) ≡ None) × Spelled (t ∷ more) (plain (number a) ∷ [])
    item (word w) t e n = absurd cc
    item (number m) t e n = (m, [], size_aside [] m, ((e, tt), tt))
    item (symbol k) t e n = absurd cc
    item finish t e n = absurd cc
    item bad t e n = absurd cc

pub size_listed : Listed past_size size_rule
size_listed = record {
  good = λ seen. size_good seen;
  spells = λ seen a. refl;
  follows = λ seen us. refl;
  comma = λ t us e. refl;
  past = size_past;
  bares = λ seen a. refl;
  steady = λ seen other e a f. subst (λ (taken : List ℕ). (size_rule taken).fits kept a) (unmapped (size_rule []).bare (λ b. refl) seen other e) f;
}

pub sizes_good : Good sizes
sizes_good = commas_good 4 size_listed

sizes_end : (t : Tok) (us : List Tok) → t.face ≡ symbol 2 → sizes.follow (t ∷ us) ≡ true
sizes_end t us e = commas_sign 4 past_size size_rule t us (ap (is_symbol 3) e) refl

-- an item's numbers and the sign after them
abbrev pub ended : Setting → Rule (List ℕ)
ended k = numbers k ◂ sign 2

pub ended_good : (k : Setting) → Good (ended k)
ended_good settings.Stages = before_sign 2 (one_number_good 1 32) (λ t us e. refl)
ended_good settings.Actions = before_sign 2 (one_number_good 1 64) (λ t us e. refl)
ended_good settings.Bits = before_sign 2 (one_number_good 1 4294967296) (λ t us e. refl)
ended_good settings.Meta = before_sign 2 (one_number_good 0 65535) (λ t us e. refl)
ended_good settings.Chain = before_sign 2 (one_number_good 1 4) (λ t us e. refl)
ended_good settings.Slots = before_sign 2 sizes_good sizes_end
ended_good settings.Entries = before_sign 2 (one_number_good 1 4194304) (λ t us e. refl)
ended_good settings.Weight = before_sign 2 (one_number_good 0 65536) (λ t us e. refl)

-- ---- items

abbrev Parts : Type 0
Parts = Setting × List ℕ

abbrev parts : List Item → Rule Parts
parts seen = pair_on (setting_rule seen) ended anything

parts_good : (seen : List Item) → Good (parts seen)
parts_good seen = pair_on_good (setting_good seen) ended_good (record {
  meets = λ a front us b f s e. refl;
  ends = λ a us e. refl;
  steady = λ a c b e. (ap (λ k. (ended k).spell b) e, λ f. subst (λ k. (ended k).fits kept b) e f, ap (λ k. (ended k).bare b) e);
})

pub item_good : (seen : List Item) → Good (item_rule seen)
unfolding item_rule
item_good seen = renamed_good to_item from_item (λ a. refl) (λ b. refl) (parts_good seen)

-- lines don't matter to the settings of items
has_steady : (f : Item → Item) → ((a : Item) → (f a).setting ≡ a.setting) → (k : Setting) (seen other : List Item) → map f seen ≡ map f other → has k seen ≡ has k other
has_steady f h k [] [] e = refl
has_steady f h k [] (b ∷ other) e = absurd cc
has_steady f h k (a ∷ seen) [] e = absurd cc
has_steady f h k (a ∷ seen) (b ∷ other) e =
    let head : f a ≡ f b = cc in
    let tail : map f seen ≡ map f other = cc in
    let same : a.setting ≡ b.setting = sym (h a) ∙ ap (λ (i : Item). i.setting) head ∙ h b in
    ap (λ (j : Setting). is k j || has k seen) same ∙ ap (λ (r : Bool). is k b.setting || r) (has_steady f h k seen other tail)

pub begun : (o : Option Setting) → is_there o ≡ true → (k : Setting) × (o ≡ Some k)
begun None e = absurd cc
begun (Some k) e = (k, refl)

pub items_alike : Alike begins never item_rule
unfolding item_rule
items_alike = record {
  good = item_good;
  spells = λ seen a. refl;
  follows = λ seen us. refl;
  marked = λ t us e. refl;
  heads = λ seen a f. ap is_there (word_undone a.setting);
  opens = λ seen t e.
      let k = begun (setting_in t.face) e in
      let b = (ended_good k.0).some in
      (to_item (k.0, b.0), bearers ((ended k.0).spell b.0), (twice_aside (has k.0 seen), b.1), ((word_only t.face k.0 k.1, tt), bearers_spelled ((ended k.0).spell b.0)));
  bares = λ seen a. refl;
  steady = λ seen other e. (λ f. refl, λ a f. (subst (λ (b : Bool). closed kept (cond b (some_flaw Twice) no_flaw) ≡ None) (has_steady (item_rule []).bare (λ i. refl) a.setting seen other e) f.0, f.1));
}

-- ---- the text

pub items_good : Good items_rule
unfolding items_rule
items_good = many_good items_alike

end_only : (x : Lexeme) (u : Unit {0}) → end_in x ≡ Some u → x ≡ end_face u
end_only (word w) u e = absurd cc
end_only (number n) u e = absurd cc
end_only (symbol k) u e = absurd cc
end_only finish u e = refl
end_only bad u e = absurd cc

missing_aside : (b : Bool) → closed aside (cond b no_flaw (some_flaw Missing)) ≡ None
missing_aside true = refl
missing_aside false = refl

pub ends_stand : Stands_for end_face end_in
ends_stand = record { undone = λ u. refl; only = end_only }

pub end_good : (items : List Item) → Good (end_rule items)
end_good items = leaf_good end_face end_in ends_stand (complete items) (tt, missing_aside (is_whole items))

abbrev item_bare : Item → Item
item_bare = (item_rule []).bare

bare_setting : (a : Item) → (item_bare a).setting ≡ a.setting
unfolding item_rule
bare_setting a = refl

whole_steady : (seen other : List Item) → map item_bare seen ≡ map item_bare other → is_whole seen ≡ is_whole other
whole_steady seen other e = rw (
  has_steady item_bare bare_setting settings.Stages seen other e,
  has_steady item_bare bare_setting settings.Actions seen other e,
  has_steady item_bare bare_setting settings.Bits seen other e,
  has_steady item_bare bare_setting settings.Meta seen other e,
  has_steady item_bare bare_setting settings.Chain seen other e,
  has_steady item_bare bare_setting settings.Slots seen other e,
) refl

items_end : (t : Tok) (us : List Tok) → t.face ≡ finish → items_rule.follow (t ∷ us) ≡ true
unfolding items_rule item_rule
items_end t us e = rw e refl

items_bare : (a c : List Item) → items_rule.bare a ≡ items_rule.bare c → map item_bare a ≡ map item_bare c
unfolding items_rule
items_bare a c e = e

items_meet : (front us : List Tok) (b : Unit {0}) → Spelled front (plain finish ∷ []) → items_rule.follow (front ++ us) ≡ true
items_meet [] us b s = absurd s
items_meet (t ∷ ts) us b s = items_end t (ts ++ us) s.0.0

pub switch_good : Good switch_rule
unfolding switch_rule
switch_good = renamed_good first with_second (λ a. refl) (λ b. refl) (pair_on_good items_good end_good (record {
  meets = λ a front us b f s e. items_meet front us b s;
  ends = λ a us e. refl;
  steady = λ a c b e. (refl, λ f. subst (λ (w : Bool). closed kept (cond w no_flaw (some_flaw Missing)) ≡ None) (whole_steady a c (items_bare a c e)) f, refl);
}))

pub ends : switch_rule.follow [] ≡ true
unfolding switch_rule
ends = refl
