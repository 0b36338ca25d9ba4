-- The search over one window, over plain values.
use Rattle.std.proofs.Common.{◌≡◌, ℕ, zero, suc, ◌<◌, ◌≤◌, List, [], ◌∷◌, map, filter, not, true, length, Result, refl, ap, ◌∙◌, subst, arith}
use Rattle.std.specs.Prelude.{◌==◌, replicate}
use Rattle.std.proofs.lemmas.Bool.{eq-eqb}
use Rattle.sn_command.specs.declared.fault.Fault.{Fault}
use Rattle.sn_command_search.specs.Certificates.{SearchedIn}
use Rattle.sn_command_search.specs.declared.certificate.Certificate.{Certificate}
use Rattle.sn_command_search.proofs.Verdicts.{one_search, search_once}
use Rattle.sn_command_replan.specs.Searched.{searched_on}
use Rattle.sn_cost.specs.Entries.{records, trained}
use Rattle.sn_switch.specs.declared.switch.Switch.{Switch}
use Rattle.sn_types.specs.declared.typed_query.TypedQuery.{TypedQuery}
use Rattle.sn_windows.specs.Blocks.{most_records}
use Rattle.sn_windows.specs.Windows.{in_window, windows_of}
use Rattle.sn_windows.specs.Rising.{Window}

-- the tuples, each with the number of the window
abbrev held : ℕ → List (List ℕ) → List (ℕ × List ℕ)
held w tuples = map (λ t. (w, t)) tuples

held_is : (w : ℕ) (tuples : List (List ℕ)) → records (replicate (length tuples) w) tuples ≡ held w tuples
held_is w [] = refl
held_is w (t ∷ ts) = ap (λ (rest : List (ℕ × List ℕ)). (w, t) ∷ rest) (held_is w ts)

one_number : (w : ℕ) (t : List ℕ) (ts : List (List ℕ)) → windows_of (held w (t ∷ ts)) ≡ w ∷ []
one_number w t [] = refl
one_number w t (u ∷ us) = let same : (w == w) ≡ true = eq-eqb w w refl in ap (λ (ns : List ℕ). w ∷ filter (λ m. not (w == m)) ns) (one_number w u us) ∙ rw same refl

all_in : (w : ℕ) (tuples : List (List ℕ)) → in_window w (held w tuples) ≡ tuples
all_in w [] = refl
all_in w (t ∷ ts) = let same : (w == w) ≡ true = eq-eqb w w refl in rw same (ap (λ (rest : List (List ℕ)). t ∷ rest) (all_in w ts))

-- tuples of one window are that window
trained_one : (w : ℕ) (tuples : List (List ℕ)) → 0 < length tuples → trained (replicate (length tuples) w) tuples ≡ (w, tuples) ∷ []
trained_one w [] some = absurd (omega arith)
trained_one w (t ∷ ts) some =
    let tuples : List (List ℕ) = t ∷ ts in
    ap (λ (found : List (ℕ × List ℕ)). map (λ v. (v, in_window v found)) (windows_of found)) (held_is w tuples)
    ∙ ap (map (λ v. (v, in_window v (held w tuples)))) (one_number w t ts)
    ∙ ap (λ (own : List (List ℕ)). (w, own) ∷ []) (all_in w tuples)

long : (n w : ℕ) → length (replicate n w) ≡ n
long zero w = refl
long (suc n) w = ap suc (long n w)

-- there are as many numbers as tuples
pub few_numbers : (w : ℕ) (tuples : List (List ℕ)) → length tuples ≤ most_records → length (replicate (length tuples) w) ≤ most_records
few_numbers w tuples few = rw (long (length tuples) w) few

-- what a search answers is what is planned on the window
pub planned_is : (s : Switch) (queries : List TypedQuery) (nodes w : ℕ) (tuples : List (List ℕ)) → 0 < length tuples → (verdict : Result Certificate Fault)
    → SearchedIn s queries (trained (replicate (length tuples) w) tuples) nodes verdict → verdict ≡ searched_on s queries nodes ((w, tuples) ∷ [])
planned_is s queries nodes w tuples some verdict is =
    let given : List Window = (w, tuples) ∷ [] in
    search_once s queries given nodes verdict (one_search s queries given nodes).verdict
    (subst (λ (windows : List Window). SearchedIn s queries windows nodes verdict) (trained_one w tuples some) is) (one_search s queries given nodes).is
