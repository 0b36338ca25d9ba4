-- Files of which no read fails.
use Rattle.std.proofs.Common.{◌≡◌, ℕ, ◌↔◌, List, [], ◌∷◌, Bool, true, false, cond, Option, None, Some, Err, is_some, unwrap_or, inl, inr, refl, ap, sym, ◌∙◌, arith}
use Rattle.std.specs.Prelude.{nat_eq}
use Rattle.std.specs.Ordering.{nat_cmp, eq_by_cmp}
use Rattle.std.specs.Cmp.Lexicographic.{slice_cmp, nat_list_cmp_total}
use Rattle.std.specs.FinMap.{find, get, get-from_entries}
use Rattle.std.specs.List.{list_any}
use Rattle.sn_io.specs.declared.inputs.InputFault.TheVariants.{Failed, Missing}
use Rattle.sn_io.specs.Counts.{ByName, OnlyRises, RoseAt, count_of}
use Rattle.sn_io.specs.MemInputs.{FileState, MemInputsState, after_known, after_read, answer_of, faults_of, held_by, held_known, is_read_refused, known_of, read_answer, with_fault}
use Rattle.sn_io.proofs.FileLemmas.{answer_missing, none_of}
use Rattle.sn_command_job.specs.Made.{held_unfailed, no_faults, unfailed}

quiet_answer : (o : Option (List ℕ)) (at room : ℕ) → answer_of false o at room ≡ Err Failed → ⊥
quiet_answer None at room e = cc
quiet_answer (Some file) at room e = cc

module _ (s : MemInputsState) (quiet : s.refused ≡ []) where
  never : is_read_refused s ≡ false
  never = ap (λ (refused : List ℕ). list_any (nat_eq s.reads) refused) quiet

  -- a read changes no file
  pub same_files : (name : List ℕ) → (after_read s name).files ≡ s.files
  same_files name =
      elim (is_some (get (held_by s.files) name)) as (λ known. (cond known (after_known s name) s).files ≡ s.files) [
        | true ↦ ap (λ (refused : Bool). cond refused (with_fault name s.files) s.files) never
        | false ↦ refl
      ]

  pub still_quiet : (name : List ℕ) → (after_read s name).refused ≡ []
  still_quiet name = elim (is_some (get (held_by s.files) name)) as (λ known. (cond known (after_known s name) s).refused ≡ []) [ true ↦ quiet | false ↦ quiet ]

  -- and it never fails
  pub never_fails : (name : List ℕ) (at room : ℕ) → read_answer s name at room ≡ Err Failed → ⊥
  never_fails name at room e = quiet_answer (get (held_by s.files) name) at room (ap (λ (refused : Bool). answer_of refused (get (held_by s.files) name) at room) (sym never) ∙ e)

-- a name is missing exactly where it isn't known
pub missing_where : (s : MemInputsState) (name : List ℕ) (at room : ℕ) → (read_answer s name at room ≡ Err Missing) ↔ (get (no_faults s.files) name ≡ None)
missing_where s name at room =
    let found = answer_missing s name at room in
    let same : is_some (get (faults_of s.files) name) ≡ is_some (get (no_faults s.files) name) =
    sym (held_known s.files name) ∙ ap (λ (m : ByName (List ℕ)). is_some (get m name)) (sym (held_unfailed s.files)) ∙ held_known (unfailed s.files) name in
    (λ e. none_of _ (sym same ∙ ap is_some (found.0 e)), λ e. found.1 (none_of _ (same ∙ ap is_some e)))

pub rises_same : (name : List ℕ) (counts : ByName ℕ) → OnlyRises name counts counts
rises_same name counts = record { others = λ q ne. refl; known = refl; later = omega arith }

-- no count is above 0
zero_found : (files : List FileState) (name : List ℕ) → unwrap_or (find (slice_cmp nat_cmp) name (known_of (unfailed files))) 0 ≡ 0
zero_found [] name = refl
zero_found (f ∷ fs) name =
    elim (eq_by_cmp (slice_cmp nat_cmp) name f.name) as (λ b. unwrap_or (cond b (Some 0) (find (slice_cmp nat_cmp) name (known_of (unfailed fs)))) 0 ≡ 0) [ true ↦ refl | false ↦ zero_found fs name ]

pub no_count : (files : List FileState) (name : List ℕ) → count_of (no_faults files) name ≡ 0
no_count files name = ap (λ (o : Option ℕ). unwrap_or o 0) (get-from_entries nat_list_cmp_total (known_of (unfailed files)) name) ∙ zero_found files name

-- so none rises
pub none_rose : (before now : List FileState) (name : List ℕ) → RoseAt name (no_faults before) (no_faults now) → ⊥
none_rose before now name (inl less) = let zero = no_count now name in absurd (omega arith)
none_rose before now name (inr full) = let zero = no_count now name in absurd (omega arith)
