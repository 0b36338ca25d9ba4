-- The switch of the items of a whole text.
use Rattle.std.proofs.Common.{◌≡◌, ℕ, true, List, [], ◌∷◌, Option, None, Some, refl, sym, ap, subst, ◌∙◌, inl, inr, lit≤}
use Rattle.std.specs.Prelude.{◌⊎◌}
use Rattle.std.specs.List.{All, AllByRecursion, filter}
use Rattle.std.proofs.lemmas.List.Elements.{All-nil, All-cons}
use Rattle.sn_text_rules.specs.declared.Flaw.{Flaw}
use Rattle.sn_text_rules.specs.declared.Flaw.TheVariants as kinds
use Rattle.sn_text_rules.specs.Tokens.{Tok, Read, got, fails, first_line}
use Rattle.sn_text_rules.specs.Rules.{kept, FirstFault}
use Rattle.sn_text_rules.proofs.Faults.{found_of, only_of, none_of, fault_of as first_fault}
use Rattle.sn_text_rules.proofs.Bounded.{whole_ok}
use Rattle.sn_text.specs.Cutting.{tokens_of}
use Rattle.sn_text.proofs.Ends.{tokens_ended}
use Rattle.sn_text.specs.Lexing.{left}
use Rattle.sn_text.specs.declared.stop.Stop.{Stop}
use Rattle.sn_text.specs.declared.stop.Stop.TheVariants as stops
use Rattle.sn_text.specs.Reading.{Halts}
use Rattle.sn_switch_grammar.specs.declared.item.Setting.{Setting}
use Rattle.sn_switch_grammar.specs.declared.item.Setting.TheVariants as settings
use Rattle.sn_switch_grammar.specs.declared.item.Item.{Item}
use Rattle.sn_switch_grammar.specs.Settings.{is_required, sets}
use Rattle.sn_switch_grammar.specs.Grammar.{lone, switch_rule}
use Rattle.sn_switch_grammar.specs.Wholes.{numbers_in, first_of, IsIn, IsSizes}
use Rattle.sn_switch_grammar.proofs.Goods.{switch_good, ends}
use Rattle.sn_switch_grammar.proofs.Starts.{switch_starts}
use Rattle.sn_switch_grammar.proofs.Wholes.{each_one, one_of, one_or_none, sizes_of}
use Rattle.sn_switch_grammar.proofs.Bounded.{flaws, switch_whole}
use Rattle.sn_switch.specs.declared.switch.Switch.{Switch}
use Rattle.sn_switch.specs.declared.fault.SwitchFault.{SwitchFault}
use Rattle.sn_switch.specs.declared.fault.SwitchFault.TheVariants as faults
use Rattle.sn_switch.specs.Texts.{numbers_of, switch_in, IsLimit, IsOf, IsSwitch, Sets, SetsEntries, StandsFor, IsFault, fault_of, Answers}

abbrev pub InRange : ℕ → Type 0
InRange n = IsIn 1 65536 n

pub each_in : (P : ℕ → Type 0) (ns : List ℕ) → AllByRecursion P ns → All P ns
each_in P [] h = All-nil P
each_in P (n ∷ ns) h = All-cons P n ns h.0 (each_in P ns h.1)

abbrev item_of : Setting → List ℕ → Item
item_of k ns = record { setting = k; numbers = ns }

-- ---- what is known of the numbers of a whole text

no_number : (low high : ℕ) (ns : List ℕ) → ns ≡ [] → IsLimit low high (lone ns)
no_number low high ns none = subst (λ (xs : List ℕ). IsLimit low high (lone xs)) (sym none) tt

one_number_is : (low high : ℕ) (ns : List ℕ) → ns ≡ first_of ns ∷ [] → IsIn low high (first_of ns) → IsLimit low high (lone ns)
one_number_is low high ns one is = subst (λ (xs : List ℕ). IsLimit low high (lone xs)) (sym one) is

pub limits_of : (items : List Item) → switch_rule.fits kept items → IsSwitch (switch_in items)
limits_of items f = record {
  stages = (one_of 1 32 (numbers_in settings.Stages items) (each_one items f settings.Stages refl).fits).1;
  actions = (one_of 1 64 (numbers_in settings.Actions items) (each_one items f settings.Actions refl).fits).1;
  bits = (one_of 1 4294967296 (numbers_in settings.Bits items) (each_one items f settings.Bits refl).fits).1;
  meta = (one_of 0 65535 (numbers_in settings.Meta items) (each_one items f settings.Meta refl).fits).1;
  chain = (one_of 1 4 (numbers_in settings.Chain items) (each_one items f settings.Chain refl).fits).1;
  slots = sizes_of (numbers_in settings.Slots items) (each_one items f settings.Slots refl).fits;
  entries = (elim (one_or_none items f settings.Entries) [
    | inl h ↦ (let n = one_of 1 4194304 (numbers_in settings.Entries items) h.fits in one_number_is 1 4194304 (numbers_in settings.Entries items) n.0 n.1)
    | inr h ↦ no_number 1 4194304 (numbers_in settings.Entries items) h.nothing
  ]);
  weight = (elim (one_or_none items f settings.Weight) [
    | inl h ↦ (one_of 0 65536 (numbers_in settings.Weight items) h.fits).1
    | inr h ↦ subst (λ (ns : List ℕ). IsIn 0 65536 (first_of ns)) (sym h.nothing) (lit≤ tt, lit≤ tt)
  ]);
}

-- what is known of the numbers of a whole text
pub record Bounds (items : List Item) : Type 0 where
  pub limits : IsSwitch (switch_in items)
  pub each : All InRange (numbers_in settings.Slots items)

pub bounds : (items : List Item) → switch_rule.fits kept items → Bounds items
bounds items f = let limits = limits_of items f in record { limits = limits; each = each_in InRange (numbers_in settings.Slots items) limits.slots.range }

-- ---- the items set this switch

set_entries : (items : List Item) (ns : List ℕ) → ns ≡ first_of ns ∷ [] → Sets items settings.Entries ns → SetsEntries items (lone ns)
set_entries items ns one is =
    subst (λ (xs : List ℕ). SetsEntries items (lone xs)) (sym one) (subst (Sets items settings.Entries) one is)

pub set_so : (items : List Item) → switch_rule.fits kept items → IsOf items (switch_in items)
set_so items f = record {
  each = λ k required. (each_one items f k required).alone ∙ ap (λ (ns : List ℕ). item_of k ns ∷ []) (same k required);
  entries = (elim (one_or_none items f settings.Entries) [
    | inl h ↦ set_entries items (numbers_in settings.Entries items) (one_of 1 4194304 (numbers_in settings.Entries items) h.fits).0 h.alone
    | inr h ↦ subst (λ (ns : List ℕ). SetsEntries items (lone ns)) (sym h.nothing) h.none
  ]);
  weight = (elim (one_or_none items f settings.Weight) [
    | inl h ↦ inl (h.alone ∙ ap (λ (ns : List ℕ). item_of settings.Weight ns ∷ []) (one_of 0 65536 (numbers_in settings.Weight items) h.fits).0)
    | inr h ↦ inr (h.none, ap first_of h.nothing)
  ]);
}
  where
    same : (k : Setting) → is_required k ≡ true → numbers_in k items ≡ numbers_of (switch_in items) k
    same settings.Stages r = (one_of 1 32 (numbers_in settings.Stages items) (each_one items f settings.Stages r).fits).0
    same settings.Actions r = (one_of 1 64 (numbers_in settings.Actions items) (each_one items f settings.Actions r).fits).0
    same settings.Bits r = (one_of 1 4294967296 (numbers_in settings.Bits items) (each_one items f settings.Bits r).fits).0
    same settings.Meta r = (one_of 0 65535 (numbers_in settings.Meta items) (each_one items f settings.Meta r).fits).0
    same settings.Chain r = (one_of 1 4 (numbers_in settings.Chain items) (each_one items f settings.Chain r).fits).0
    same settings.Slots r = refl
    same settings.Entries r = absurd cc
    same settings.Weight r = absurd cc

-- ---- two switches that the same items set are the same

same_numbers : (k : Setting) (xs ys : List ℕ) (zs : List Item) → zs ≡ item_of k xs ∷ [] → zs ≡ item_of k ys ∷ [] → xs ≡ ys
same_numbers k xs ys zs e f =
    let h : item_of k xs ∷ [] ≡ item_of k ys ∷ [] = sym e ∙ f in
    let g : item_of k xs ≡ item_of k ys = cc in
    ap (λ (i : Item). i.numbers) g

same_number : (n m : ℕ) → n ∷ [] ≡ m ∷ [] → n ≡ m
same_number n m e = cc

one_not_none : {G : Type 0} (i : Item) (zs : List Item) → zs ≡ i ∷ [] → zs ≡ [] → G
one_not_none i zs e f = absurd (let wrong : i ∷ [] ≡ [] = sym e ∙ f in cc)

same_entries : (items : List Item) (a b : Option ℕ) → SetsEntries items a → SetsEntries items b → a ≡ b
same_entries items None None h k = refl
same_entries items None (Some m) h k = one_not_none (item_of settings.Entries (m ∷ [])) (filter (sets settings.Entries) items) k h
same_entries items (Some n) None h k = one_not_none (item_of settings.Entries (n ∷ [])) (filter (sets settings.Entries) items) h k
same_entries items (Some n) (Some m) h k = ap Some (same_number n m (same_numbers settings.Entries (n ∷ []) (m ∷ []) (filter (sets settings.Entries) items) h k))

same_weight : (items : List Item) (n m : ℕ) → Sets items settings.Weight (n ∷ []) ⊎ ((filter (sets settings.Weight) items ≡ []) × (n ≡ 0)) → Sets items settings.Weight (m ∷ []) ⊎ ((filter (sets settings.Weight) items ≡ []) × (m ≡ 0)) → n ≡ m
same_weight items n m (inl h) (inl k) = same_number n m (same_numbers settings.Weight (n ∷ []) (m ∷ []) (filter (sets settings.Weight) items) h k)
same_weight items n m (inl h) (inr k) = one_not_none (item_of settings.Weight (n ∷ [])) (filter (sets settings.Weight) items) h k.0
same_weight items n m (inr h) (inl k) = one_not_none (item_of settings.Weight (m ∷ [])) (filter (sets settings.Weight) items) k h.0
same_weight items n m (inr h) (inr k) = h.1 ∙ sym k.1

abbrev made : ℕ → ℕ → ℕ → ℕ → ℕ → List ℕ → Option ℕ → ℕ → Switch
made a b d e h i j l = record { stages = a; actions = b; bits = d; meta = e; chain = h; slots = i; entries = j; weight = l }

made_same : (a a1 b b1 d d1 e e1 h h1 : ℕ) (i i1 : List ℕ) (j j1 : Option ℕ) (l l1 : ℕ) → a ≡ a1 → b ≡ b1 → d ≡ d1 → e ≡ e1 → h ≡ h1 → i ≡ i1 → j ≡ j1 → l ≡ l1 → made a b d e h i j l ≡ made a1 b1 d1 e1 h1 i1 j1 l1
made_same a a1 b b1 d d1 e e1 h h1 i i1 j j1 l l1 p q r s t u v w = rw (p, q, r, s, t, u, v, w) refl

pub one_switch : (items : List Item) (r s : Switch) → IsOf items r → IsOf items s → r ≡ s
one_switch items r s f g =
    let same = λ (k : Setting) (required : is_required k ≡ true). same_numbers k (numbers_of r k) (numbers_of s k) (filter (sets k) items) (f.each k required) (g.each k required) in
    let a : r.stages ≡ s.stages = same_number r.stages s.stages (same settings.Stages refl) in
    let b : r.actions ≡ s.actions = same_number r.actions s.actions (same settings.Actions refl) in
    let d : r.bits ≡ s.bits = same_number r.bits s.bits (same settings.Bits refl) in
    let e : r.meta ≡ s.meta = same_number r.meta s.meta (same settings.Meta refl) in
    let h : r.chain ≡ s.chain = same_number r.chain s.chain (same settings.Chain refl) in
    let i : r.slots ≡ s.slots = same settings.Slots refl in
    made_same r.stages s.stages r.actions s.actions r.bits s.bits r.meta s.meta r.chain s.chain r.slots s.slots r.entries s.entries r.weight s.weight a b d e h i
    (same_entries items r.entries s.entries f.entries g.entries) (same_weight items r.weight s.weight f.weight g.weight)

-- ---- what the reading of a whole text says

fits_of : (ts : List Tok) (items : List Item) → switch_rule.read kept ts ≡ got items [] → switch_rule.fits kept items
fits_of ts items e = (found_of switch_rule switch_good ts items e).fits

stands_for : (ts : List Tok) (items : List Item) (s : Switch) → switch_rule.read kept ts ≡ got items [] → IsOf items s → StandsFor ts s
stands_for ts items s e f = record { items = items; accepted = found_of switch_rule switch_good ts items e; each = f }

only_one : (ts : List Tok) (items : List Item) (r s : Switch) → switch_rule.read kept ts ≡ got items [] → IsOf items r → StandsFor ts s → r ≡ s
only_one ts items r s e f h =
    let same = only_of switch_rule switch_good ends ts items h.items e h.accepted in
    one_switch items r s f (subst (λ (is : List Item). IsOf is s) (sym same) h.each)

no_switch : (ts us : List Tok) (x : Flaw) (s : Switch) → switch_rule.read kept ts ≡ fails x us → StandsFor ts s → ⊥
no_switch ts us x s e h = none_of switch_rule switch_good ends ts us x h.items e h.accepted

-- a first fault of the format is the text's, under its name
pub shown : (ts : List Tok) (x : Flaw) (line column : ℕ) → flaws.ok x ≡ true → FirstFault switch_rule ts x line column → IsFault ts (fault_of x line)
shown ts kinds.Lex line column o f = (column, f)
shown ts kinds.Expected line column o f = (column, f)
shown ts kinds.TooMany line column o f = absurd cc
shown ts kinds.Range line column o f = (column, f)
shown ts kinds.Twice line column o f = (column, f)
shown ts kinds.Missing line column o f = (column, f)

-- ---- the same of what the code knows

here : (ts ls : List Tok) (r : Read (List Item)) → ls ≡ ts → switch_rule.read kept ls ≡ r → switch_rule.read kept ts ≡ r
here ts ls r h e = ap (switch_rule.read kept) (sym h) ∙ e

pub fits_so : (ls : List Tok) (items xs : List Item) → switch_rule.read kept ls ≡ got items [] → xs ≡ items → switch_rule.fits kept xs
fits_so ls items xs e h = subst (λ (is : List Item). switch_rule.fits kept is) (sym h) (fits_of ls items e)

set_by : (ls : List Tok) (items xs : List Item) (s : Switch) → switch_rule.read kept ls ≡ got items [] → xs ≡ items → s ≡ switch_in xs → IsOf items s
set_by ls items xs s e h k = subst (λ (r : Switch). IsOf items r) (sym (k ∙ ap switch_in h)) (set_so items (fits_of ls items e))

pub found_so : (ts ls : List Tok) (items xs : List Item) (s : Switch) → ls ≡ ts → switch_rule.read kept ls ≡ got items [] → xs ≡ items → s ≡ switch_in xs → StandsFor ts s
found_so ts ls items xs s g e h k = stands_for ts items s (here ts ls (got items []) g e) (set_by ls items xs s e h k)

pub only_so : (ts ls : List Tok) (items xs : List Item) (s r : Switch) → ls ≡ ts → switch_rule.read kept ls ≡ got items [] → xs ≡ items → s ≡ switch_in xs → StandsFor ts r → s ≡ r
only_so ts ls items xs s r g e h k f = only_one ts items s r (here ts ls (got items []) g e) (set_by ls items xs s e h k) f

-- where reading stops, the answer is the first fault, and the text stands for no switch, unless memory ran out
pub fault_so : (text : List ℕ) (ls : List Tok) (e : Stop) (f : SwitchFault) → ls ≡ tokens_of text → Halts e (switch_rule.read kept ls) → Answers e f → IsFault (tokens_of text) f
fault_so text ls stops.NoMemory f g h k = subst (λ (s : SwitchFault). IsFault (tokens_of text) s) (sym k) tt
fault_so text ls (stops.Fault x l) f g h k =
    let ts : List Tok = tokens_of text in
    let e = here ts ls (fails x (left l)) g h in
    let s = switch_good.stands kept ts (left l) x e in
    let ok = whole_ok switch_whole ts (left l) x (tokens_ended text) e in
    subst (λ (r : SwitchFault). IsFault ts r) (sym (k ∙ ap (λ (us : List Tok). fault_of x (first_line us)) s.head)) (shown ts x s.at.line s.at.column ok (first_fault switch_rule switch_good switch_starts ends ts (left l) s.rest s.at x e s.head))

pub none_so : (ts ls : List Tok) (e : Stop) (f : SwitchFault) (s : Switch) → ls ≡ ts → Halts e (switch_rule.read kept ls) → Answers e f → StandsFor ts s → f ≡ faults.Memory
none_so ts ls stops.NoMemory f s g h k j = k
none_so ts ls (stops.Fault x l) f s g h k j = absurd (no_switch ts (left l) x s (here ts ls (fails x (left l)) g h) j)
