-- Items with names that are apart, and how many there are.
use Rattle.std.proofs.Common.{◌≡◌, ℕ, false, List, [], ◌∷◌, ◌++◌, length, map, sym, subst, ◌∙◌}
use Rattle.std.specs.List.{AllByRecursion, list_any}
use Rattle.std.specs.Cmp.Lexicographic.{nat_list_eq_equiv}
use Rattle.std.proofs.lemmas.List.{append-nil, append_assoc, map-append}
use Rattle.sn_base.proofs.Lists.{or_none}
use Rattle.sn_base.specs.Groups.{Apart, same_row}
use Rattle.sn_text_rules.specs.Rules.{kept, Rule}
use Rattle.sn_text_rules.proofs.Items.{After, Item, IsListOf}
use Rattle.sn_query_grammar.specs.Limits.{Within}

pub counted : {A : Type 0} {limit : ℕ} {p : List A → Rule A} {xs : List A} → IsListOf limit p xs → Within 1 limit (length xs)
counted items = record { from_least = items.count.0; to_most = items.count.1 }

all_push : {A : Type 0} (P : A → Type 0) (xs : List A) (x : A) → AllByRecursion P xs → P x → AllByRecursion P (xs ++ x ∷ [])
all_push P [] x h px = (px, tt)
all_push P (y ∷ xs) x h px = (h.0, all_push P xs x h.1 px)

turned : (x y : List ℕ) → same_row x y ≡ false → same_row y x ≡ false
turned x y h = nat_list_eq_equiv.symm y x ∙ h

apart_push : (ks : List (List ℕ)) (k : List ℕ) → Apart same_row ks → list_any (same_row k) ks ≡ false → Apart same_row (ks ++ k ∷ [])
apart_push [] k apart fresh = (tt, tt)
apart_push (q ∷ ks) k apart fresh =
    let parts = or_none (same_row k q) (list_any (same_row k) ks) fresh in
    (all_push (λ x. same_row q x ≡ false) ks k apart.0 (turned k q parts.0), apart_push ks k apart.1 parts.1)

pub apart_after : {A : Type 0} (F : List A → A → Type 0) (key : A → List ℕ) → ((seen : List A) (a : A) → F seen a → list_any (same_row (key a)) (map key seen) ≡ false)
    → (seen rest : List A) → Apart same_row (map key seen) → After F seen rest → Apart same_row (map key (seen ++ rest))
apart_after F key fresh seen [] apart h = subst (λ xs. Apart same_row (map key xs)) (sym (append-nil seen)) apart
apart_after F key fresh seen (a ∷ rest) apart h =
    let pushed : Apart same_row (map key (seen ++ a ∷ [])) = subst (λ ks. Apart same_row ks) (sym (map-append key seen (a ∷ []))) (apart_push (map key seen) (key a) apart (fresh seen a h.0)) in
    subst (λ xs. Apart same_row (map key xs)) (append_assoc seen (a ∷ []) rest) (apart_after F key fresh (seen ++ a ∷ []) rest pushed h.1)

pub items_apart : {A : Type 0} (limit : ℕ) (p : List A → Rule A) (key : A → List ℕ) (xs : List A) → ((seen : List A) (a : A) → (p seen).fits kept a → list_any (same_row (key a)) (map key seen) ≡ false)
    → After (Item limit p) [] xs → Apart same_row (map key xs)
items_apart limit p key xs fresh h = apart_after (Item limit p) key (λ seen a f. fresh seen a f.1) [] xs tt h
