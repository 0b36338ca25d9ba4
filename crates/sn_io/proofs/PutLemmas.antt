use Rattle.std.proofs.Common.{◌≡◌, ℕ, List, [], ◌∷◌, ◌++◌, ◌||◌, map, Bool, true, false, cond, None, Some, is_some, refl, ap, sym, ◌∙◌}
use Rattle.std.specs.Ordering.{nat_cmp}
use Rattle.std.specs.Cmp.Lexicographic.{slice_cmp, nat_list_cmp_total, texts_ties, bytes_decides}
use Rattle.std.specs.FinMap.{find, from_entries, get, insert, get-from_entries, get-insert, same_map, from_entries_push, slice_cmp-IsAntisymmetric, nat_cmp-IsAntisymmetric, IsAntisymmetric}
use Rattle.std.specs.List.{list_any}
use Rattle.std.proofs.lemmas.Bool.{false≢true}
use Rattle.std.proofs.lemmas.List.{map-append}
use Rattle.sn_io.specs.Known.{counts_of}
use Rattle.sn_io.specs.MemInputs.{FileState, counted_name, named_bytes, known_of, faults_of, held_by, has_name, with_bytes, files_put, with_name}
use Rattle.sn_io.proofs.Raised.{same_name, knows_find}
use Rattle.sn_io.proofs.Updates.{map-with_first_unseen}
use Rattle.sn_io.proofs.FileLemmas.{none_of, any_held}

-- names that tie are equal
tied : (q k : List ℕ) → same_name q k ≡ true → q ≡ k
tied q k e = (bytes_decides q k).0 (texts_ties q k ∙ e)

antisymmetric : IsAntisymmetric (slice_cmp nat_cmp)
antisymmetric = slice_cmp-IsAntisymmetric nat_cmp-IsAntisymmetric

same_choice : {A : Type 0} (a b : Bool) (x y z : A) → a ≡ b → cond a x y ≡ cond b x (cond a z y)
same_choice true true x y z e = refl
same_choice true false x y z e = cc
same_choice false true x y z e = cc
same_choice false false x y z e = refl

apart_choices : {A : Type 0} (a b : Bool) (x y z : A) → (a ≡ true → b ≡ true → ⊥) → cond a x (cond b y z) ≡ cond b y (cond a x z)
apart_choices true true x y z h = absurd (h refl refl)
apart_choices true false x y z h = refl
apart_choices false true x y z h = refl
apart_choices false false x y z h = refl

-- what the list finds after other bytes are put under a name that is among them
find-with_bytes : (name bytes : List ℕ) (files : List FileState) (q : List ℕ) → list_any (has_name name) files ≡ true → find (slice_cmp nat_cmp) q (map named_bytes (with_bytes name bytes files)) ≡ cond (same_name q name) (Some bytes) (find (slice_cmp nat_cmp) q (map named_bytes files))
find-with_bytes name bytes [] q any = cc
find-with_bytes name bytes (f ∷ fs) q any =
    let changed : FileState = record f { bytes = bytes } in
    let rest = find (slice_cmp nat_cmp) q (map named_bytes fs) in
    elim (has_name name f) as (λ b. has_name name f ≡ b → find (slice_cmp nat_cmp) q (map named_bytes (cond b (changed ∷ fs) (f ∷ with_bytes name bytes fs))) ≡ cond (same_name q name) (Some bytes) (cond (same_name q f.name) (Some f.bytes) rest)) [
      | true ↦ λ is. same_choice (same_name q f.name) (same_name q name) (Some bytes) rest (Some f.bytes) (ap (same_name q) ((bytes_decides f.name name).0 is))
      | false ↦ λ isnt.
          let later : list_any (has_name name) fs ≡ true = sym (ap (λ b. b || list_any (has_name name) fs) isnt) ∙ any in
          ap (cond (same_name q f.name) (Some f.bytes)) (find-with_bytes name bytes fs q later)
          ∙ apart_choices (same_name q f.name) (same_name q name) (Some f.bytes) (Some bytes) rest (λ here there. false≢true (sym isnt ∙ (bytes_decides f.name name).1 (sym (tied q f.name here) ∙ tied q name there)))
    ] refl

absent : (name : List ℕ) (files : List FileState) → list_any (has_name name) files ≡ false → find (slice_cmp nat_cmp) name (map named_bytes files) ≡ None
absent name files e = none_of _ (sym (knows_find named_bytes name files) ∙ e)

absent_count : (name : List ℕ) (files : List FileState) → list_any (has_name name) files ≡ false → find (slice_cmp nat_cmp) name (known_of files) ≡ None
absent_count name files e = none_of _ (sym (knows_find counted_name name files) ∙ e)

-- a file that is added is what its name has
pub put_held : (name bytes : List ℕ) (files : List FileState) → held_by (files_put name bytes files) ≡ insert (held_by files) name bytes
put_held name bytes files =
    let total = nat_list_cmp_total in
    let new : FileState = record { name = name; count = 0; bytes = bytes } in
    elim (list_any (has_name name) files) as (λ b. list_any (has_name name) files ≡ b → held_by (cond b (with_bytes name bytes files) (files ++ new ∷ [])) ≡ insert (held_by files) name bytes) [
      | true ↦ λ any. same_map total antisymmetric (held_by (with_bytes name bytes files)) (insert (held_by files) name bytes) (λ q.
          get-from_entries total (map named_bytes (with_bytes name bytes files)) q
          ∙ find-with_bytes name bytes files q any
          ∙ sym (get-insert total (held_by files) name bytes q ∙ ap (cond (same_name q name) (Some bytes)) (get-from_entries total (map named_bytes files) q)))
      | false ↦ λ none. ap from_entries (map-append named_bytes files (new ∷ [])) ∙ from_entries_push total antisymmetric (map named_bytes files) name bytes (absent name files none)
    ] refl

any_counted : (name : List ℕ) (files : List FileState) → is_some (get (faults_of files) name) ≡ list_any (has_name name) files
any_counted name files = ap is_some (get-from_entries nat_list_cmp_total (known_of files) name) ∙ sym (knows_find counted_name name files)

-- and its name keeps its count, or has none so far
pub put_counts : (name bytes : List ℕ) (files : List FileState) → faults_of (files_put name bytes files) ≡ with_name (faults_of files) name
put_counts name bytes files =
    let total = nat_list_cmp_total in
    let new : FileState = record { name = name; count = 0; bytes = bytes } in
    elim (list_any (has_name name) files) as (λ b. list_any (has_name name) files ≡ b → faults_of (cond b (with_bytes name bytes files) (files ++ new ∷ [])) ≡ with_name (faults_of files) name) [
      | true ↦ λ any.
          ap counts_of (map-with_first_unseen counted_name (has_name name) (λ f. record f { bytes = bytes }) files (λ f. refl))
          ∙ sym (ap (λ k. cond k (faults_of files) (insert (faults_of files) name 0)) (any_counted name files ∙ any))
      | false ↦ λ none.
          ap from_entries (map-append counted_name files (new ∷ [])) ∙ from_entries_push total antisymmetric (known_of files) name 0 (absent_count name files none)
          ∙ sym (ap (λ k. cond k (faults_of files) (insert (faults_of files) name 0)) (any_counted name files ∙ none))
    ] refl

-- the files where the name is known, and where it isn't
pub put_known : (name bytes : List ℕ) (files : List FileState) → is_some (get (held_by files) name) ≡ true → files_put name bytes files ≡ with_bytes name bytes files
put_known name bytes files known = ap (λ b. cond b (with_bytes name bytes files) (files ++ record { name = name; count = 0; bytes = bytes } ∷ [])) (any_held name files ∙ known)

pub put_new : (name bytes : List ℕ) (files : List FileState) → is_some (get (held_by files) name) ≡ false → files_put name bytes files ≡ files ++ record { name = name; count = 0; bytes = bytes } ∷ []
put_new name bytes files unknown = ap (λ b. cond b (with_bytes name bytes files) (files ++ record { name = name; count = 0; bytes = bytes } ∷ [])) (any_held name files ∙ unknown)
