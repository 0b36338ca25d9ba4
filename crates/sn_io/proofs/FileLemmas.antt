use Rattle.std.proofs.Common.{◌≡◌, ℕ, zero, suc, ◌<◌, ◌↔◌, List, [], ◌∷◌, map, length, Bool, true, false, cond, Option, None, Some, Err, IfSome, is_some, get_or, refl, ap, sym, subst, ◌∙◌, arith}
use Rattle.std.specs.Ordering.{nat_cmp}
use Rattle.std.specs.Cmp.Lexicographic.{slice_cmp, nat_list_cmp_total}
use Rattle.std.specs.FinMap.{find, from_entries, get, get-from_entries}
use Rattle.std.specs.List.{position, list_any}
use Rattle.std.proofs.lemmas.List.Quantifiers.{position-Some}
use Rattle.sn_io.specs.declared.inputs.InputFault.TheVariants.{Failed, Missing}
use Rattle.sn_io.specs.Counts.{ByName, OnlyRises, RoseAt}
use Rattle.sn_io.specs.Known.{Known, counts_of, counted, is_named, raised}
use Rattle.sn_io.specs.MemInputs.{FileState, MemInputsState, counted_name, named_bytes, known_of, faults_of, held_by, has_name, with_fault, is_read_refused, answer_of, read_answer, after_known, after_read, held_known}
use Rattle.sn_io.proofs.Raised.{named_is, knows_find, raised_rises, raised_rose}
use Rattle.sn_io.proofs.Updates.{map-with_first, map-with_first_unseen, position_any}

-- whether a file of the name is among them
pub any_held : (name : List ℕ) (files : List FileState) → list_any (has_name name) files ≡ is_some (get (held_by files) name)
any_held name files = knows_find named_bytes name files ∙ ap is_some (sym (get-from_entries nat_list_cmp_total (map named_bytes files) name))

-- a first place is found exactly where the name is known
pub place_held : (name : List ℕ) (files : List FileState) → is_some (position (has_name name) files) ≡ is_some (get (held_by files) name)
place_held name files = position_any (has_name name) files ∙ any_held name files

find_first : (name : List ℕ) (files : List FileState) (i : ℕ) (d : FileState) → i < length files → has_name name (get_or files i d) ≡ true → ((k : ℕ) → k < i → has_name name (get_or files k d) ≡ false) → find (slice_cmp nat_cmp) name (map named_bytes files) ≡ Some (get_or files i d).bytes
find_first name [] i d within is before = absurd (omega arith)
find_first name (f ∷ fs) zero d within is before = ap (λ b. cond b (Some f.bytes) (find (slice_cmp nat_cmp) name (map named_bytes fs))) (sym (named_is name (named_bytes f)) ∙ is)
find_first name (f ∷ fs) (suc i) d within is before =
    ap (λ b. cond b (Some f.bytes) (find (slice_cmp nat_cmp) name (map named_bytes fs))) (sym (named_is name (named_bytes f)) ∙ before 0 (omega arith))
    ∙ find_first name fs i d (omega arith) is (λ k less. before (suc k) (omega arith))

-- the map has the bytes of the first file of a name
pub held_first : (name : List ℕ) (files : List FileState) (place : ℕ) (d : FileState) → position (has_name name) files ≡ Some place → get (held_by files) name ≡ Some (get_or files place d).bytes
held_first name files place d first =
    let at = position-Some (has_name name) files place d first in
    get-from_entries nat_list_cmp_total (map named_bytes files) name ∙ find_first name files place d at.0 at.1 at.2

-- what a fault changes
pub known_with_fault : (name : List ℕ) (files : List FileState) → known_of (with_fault name files) ≡ raised name (known_of files)
known_with_fault name files = map-with_first counted_name (has_name name) (λ f. record f { count = counted f.count }) (is_named name) (λ entry. (entry.0, counted entry.1)) files (λ f. refl) (λ f. refl)

pub held_with_fault : (name : List ℕ) (files : List FileState) → held_by (with_fault name files) ≡ held_by files
held_with_fault name files = ap from_entries (map-with_first_unseen named_bytes (has_name name) (λ f. record f { count = counted f.count }) files (λ f. refl))

rises_same : (name : List ℕ) (counts : ByName ℕ) → OnlyRises name counts counts
rises_same name counts = record { others = λ q ne. refl; known = refl; later = omega arith }

-- a read changes nothing that is held
pub after_held : (s : MemInputsState) (name : List ℕ) → held_by (after_read s name).files ≡ held_by s.files
after_held s name =
    elim (is_some (get (held_by s.files) name)) as (λ known. held_by (cond known (after_known s name) s).files ≡ held_by s.files) [
      | true ↦ elim (is_read_refused s) as (λ refused. held_by (cond refused (with_fault name s.files) s.files) ≡ held_by s.files) [ true ↦ held_with_fault name s.files | false ↦ refl ]
      | false ↦ refl
    ]

-- and raises the count of its name alone
pub after_rises : (s : MemInputsState) (name : List ℕ) → OnlyRises name (faults_of s.files) (faults_of (after_read s name).files)
after_rises s name =
    elim (is_some (get (held_by s.files) name)) as (λ known. OnlyRises name (faults_of s.files) (faults_of (cond known (after_known s name) s).files)) [
      | true ↦ elim (is_read_refused s) as (λ refused. OnlyRises name (faults_of s.files) (faults_of (cond refused (with_fault name s.files) s.files))) [
        | true ↦ subst (λ (k : Known). OnlyRises name (faults_of s.files) (counts_of k)) (sym (known_with_fault name s.files)) (raised_rises name (known_of s.files))
        | false ↦ rises_same name (faults_of s.files)
      ]
      | false ↦ rises_same name (faults_of s.files)
    ]

pub none_of : {X : Type 0} (o : Option X) → is_some o ≡ false → o ≡ None
none_of None e = refl
none_of (Some x) e = cc

-- what the answers say, of a file that may be known
missing_of : (refused : Bool) (o : Option (List ℕ)) (at room : ℕ) → (answer_of refused o at room ≡ Err Missing) ↔ (is_some o ≡ false)
missing_of refused None at room = (λ _. refl, λ _. refl)
missing_of true (Some file) at room = (λ e. cc, λ e. cc)
missing_of false (Some file) at room = (λ e. cc, λ e. cc)

failed_of : (refused : Bool) (o : Option (List ℕ)) (at room : ℕ) → answer_of refused o at room ≡ Err Failed → (is_some o ≡ true) × (refused ≡ true)
failed_of refused None at room e = cc
failed_of true (Some file) at room e = (refl, refl)
failed_of false (Some file) at room e = cc

-- `Missing` comes exactly where the name isn't known
pub answer_missing : (s : MemInputsState) (name : List ℕ) (at room : ℕ) → (read_answer s name at room ≡ Err Missing) ↔ (get (faults_of s.files) name ≡ None)
answer_missing s name at room =
    let found = missing_of (is_read_refused s) (get (held_by s.files) name) at room in
    (λ e. none_of _ (sym (held_known s.files name) ∙ found.0 e), λ e. found.1 (held_known s.files name ∙ ap is_some e))

-- a failed read raises the count of its name
pub failed_rose : (s : MemInputsState) (name : List ℕ) (at room : ℕ) → read_answer s name at room ≡ Err Failed → RoseAt name (faults_of s.files) (faults_of (after_read s name).files)
failed_rose s name at room e =
    let found = failed_of (is_read_refused s) (get (held_by s.files) name) at room e in
    let known : is_some (get (faults_of s.files) name) ≡ true = sym (held_known s.files name) ∙ found.0 in
    let after : (after_read s name).files ≡ with_fault name s.files =
    ap (λ k. (cond k (after_known s name) s).files) found.0 ∙ ap (λ r. cond r (with_fault name s.files) s.files) found.1 in
    subst (λ (k : Known). RoseAt name (faults_of s.files) (counts_of k)) (sym (ap known_of after ∙ known_with_fault name s.files)) (raised_rose name (known_of s.files) known)

-- a fact of what is found
pub if_some : {X : Type 0} (P : X → Type 0) (o : Option X) (x : X) → o ≡ Some x → P x → IfSome o P
if_some {X = X} P o x e h = subst (λ (p : Option X). IfSome p P) (sym e) h
