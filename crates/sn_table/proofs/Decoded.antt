-- Keys that are held in another form: what a look-up and an insertion do to them is what they do to the keys themselves.
use Rattle.std.proofs.Common.{◌≡◌, ℕ, List, [], ◌∷◌, ◌++◌, map, Bool, true, false, ◌||◌, cond, Some, refl, ap, ap₂, sym, ◌∙◌}
use Rattle.std.specs.List.{list_any, AllByRecursion}
use Rattle.std.specs.Map.{lookup}
use Rattle.std.proofs.lemmas.List.{map-append}
use Rattle.indexmap.specs.IndexMap.{insert_entry}
use Rattle.indexmap.specs.IndexSet.{insert_key}
use Rattle.sn_base.proofs.Lists.{all_append}

map_choice : {A B : Type 0} (f : A → B) (b : Bool) (xs ys : List A) → map f (cond b xs ys) ≡ cond b (map f xs) (map f ys)
map_choice f true xs ys = refl
map_choice f false xs ys = refl

-- the keys of entries
abbrev pub keys : {A : Type 0} → List (A × ℕ) → List A
keys es = map (λ e. e.0) es

-- each held key is equal to one exactly where what it stands for is equal to the other
abbrev pub Agree : {A B : Type 0} → (A → A → Bool) → (B → B → Bool) → (A → B) → A → B → List A → Type 0
Agree here there decoded a b held = AllByRecursion (λ x. there b (decoded x) ≡ here a x) held

module _ {A B : Type 0} (here : A → A → Bool) (there : B → B → Bool) (decoded : A → B) (a : A) (b : B) where
  pub lookup_decoded : (es : List (A × ℕ)) → Agree here there decoded a b (keys es) → lookup (there b) (map (λ e. (decoded e.0, e.1)) es) ≡ lookup (here a) es
  lookup_decoded [] h = refl
  lookup_decoded (e ∷ es) h =
      ap (λ t. cond t (Some e.1) (lookup (there b) (map (λ d. (decoded d.0, d.1)) es))) h.0 ∙ ap (cond (here a e.0) (Some e.1)) (lookup_decoded es h.1)

  pub insert_decoded : decoded a ≡ b → (v : ℕ) (es : List (A × ℕ)) → Agree here there decoded a b (keys es)
      → map (λ e. (decoded e.0, e.1)) (insert_entry here es a v) ≡ insert_entry there (map (λ e. (decoded e.0, e.1)) es) b v
  insert_decoded is v [] h = ap (λ k. (k, v) ∷ []) is
  insert_decoded is v (e ∷ es) h =
      let f : A × ℕ → B × ℕ = λ d. (decoded d.0, d.1) in
      map_choice f (here a e.0) ((e.0, v) ∷ es) (e ∷ insert_entry here es a v)
      ∙ ap (λ rest. cond (here a e.0) ((decoded e.0, v) ∷ map f es) (f e ∷ rest)) (insert_decoded is v es h.1)
      ∙ ap (λ t. cond t ((decoded e.0, v) ∷ map f es) (f e ∷ insert_entry there (map f es) b v)) (sym h.0)

  pub any_decoded : (ks : List A) → Agree here there decoded a b ks → list_any (there b) (map decoded ks) ≡ list_any (here a) ks
  any_decoded [] h = refl
  any_decoded (k ∷ ks) h = ap₂ (λ s t. s || t) h.0 (any_decoded ks h.1)

  pub insert_key_decoded : decoded a ≡ b → (ks : List A) → Agree here there decoded a b ks → map decoded (insert_key here ks a) ≡ insert_key there (map decoded ks) b
  insert_key_decoded is ks h =
      map_choice decoded (list_any (here a) ks) ks (ks ++ a ∷ [])
      ∙ ap (λ more. cond (list_any (here a) ks) (map decoded ks) more) (map-append decoded ks (a ∷ []) ∙ ap (λ k. map decoded ks ++ k ∷ []) is)
      ∙ ap (λ t. cond t (map decoded ks) (map decoded ks ++ b ∷ [])) (sym (any_decoded ks h))

-- what holds of a key and of all that were there holds of all after it
pub all_inserted : {A : Type 0} (P : A → Type 0) (same : A → A → Bool) (a : A) (v : ℕ) → P a → (es : List (A × ℕ)) → AllByRecursion P (keys es) → AllByRecursion P (keys (insert_entry same es a v))
all_inserted P same a v is [] h = (is, tt)
all_inserted P same a v is (e ∷ es) h =
    elim (same a e.0) as (λ t. AllByRecursion P (keys (cond t ((e.0, v) ∷ es) (e ∷ insert_entry same es a v)))) [
      | true ↦ h
      | false ↦ (h.0, all_inserted P same a v is es h.1)
    ]

pub all_inserted_key : {A : Type 0} (P : A → Type 0) (same : A → A → Bool) (a : A) → P a → (ks : List A) → AllByRecursion P ks → AllByRecursion P (insert_key same ks a)
all_inserted_key P same a is ks h = elim (list_any (same a) ks) as (λ t. AllByRecursion P (cond t ks (ks ++ a ∷ []))) [ true ↦ h | false ↦ all_append P ks (a ∷ []) h (is, tt) ]
