-- A run of `job` over its made files.
use Rattle.std.proofs.Common.{◌≡◌, ℕ, List, [], ◌∷◌, Some, None, Result, true, is_some, inl, inr, refl, ap, sym, subst, ◌∙◌, arith}
use Rattle.std.proofs.lemmas.Bool.{false≢true}
use Rattle.std.specs.Prelude.{codes}
use Rattle.std.specs.Ordering.{nat_cmp}
use Rattle.std.specs.Cmp.Lexicographic.{slice_cmp, nat_list_cmp_total}
use Rattle.std.specs.FinMap.{find, get, get-from_entries}
use Rattle.sn_io.specs.Counts.{ByName, RoseAt, count_of}
use Rattle.sn_io.specs.MemInputs.{FileState, held_by}
use Rattle.sn_command_job.specs.Job.{Job, Summed, job_entries, job_files}
use Rattle.sn_command_job.specs.Made.{made_known, no_faults}
use Rattle.sn_command_job.proofs.MadeLemmas.{none_rose}
use Rattle.sn_command_run.specs.Planned.{Telling}
use Rattle.sn_command.specs.declared.refusal.Refusal.{Refusal}
use Rattle.sn_command.specs.Outcomes.{Keeps}
use Rattle.sn_command.specs.Runs.{WorksFrom}
use Rattle.sn_command.specs.Worlds.{AnyRose, AnyUnknown, Files, OutRose, Sunk, World}
use Rattle.sn_command.proofs.StageLemmas.{works_alone}

-- ---- a run over made files

held_name : (number : ℕ) (name : List ℕ) → is_some (find (slice_cmp nat_cmp) name (job_entries number)) ≡ true → is_some (get (job_files number) name) ≡ true
held_name number name e = ap is_some (get-from_entries nat_list_cmp_total (job_entries number) name) ∙ e

module _ (number : ℕ) (files : List FileState) (are : held_by files ≡ job_files number) where
  known : (name : List ℕ) → is_some (find (slice_cmp nat_cmp) name (job_entries number)) ≡ true → get (no_faults files) name ≡ None → ⊥
  known name held none = false≢true (sym (ap is_some none) ∙ sym (made_known files (job_files number) name (ap Some are)) ∙ held_name number name held)

  abbrev names : List (List ℕ)
  names = codes "queries" ∷ codes "switch" ∷ codes "training" ∷ codes "capture" ∷ []

  none_unknown : (w : Files) → w.faults ≡ no_faults files → AnyUnknown names w → ⊥
  none_unknown w e (inl none) = known (codes "queries") refl (ap (λ (counts : ByName ℕ). get counts (codes "queries")) (sym e) ∙ none)
  none_unknown w e (inr (inl none)) = known (codes "switch") refl (ap (λ (counts : ByName ℕ). get counts (codes "switch")) (sym e) ∙ none)
  none_unknown w e (inr (inr (inl none))) = known (codes "training") refl (ap (λ (counts : ByName ℕ). get counts (codes "training")) (sym e) ∙ none)
  none_unknown w e (inr (inr (inr (inl none)))) = known (codes "capture") refl (ap (λ (counts : ByName ℕ). get counts (codes "capture")) (sym e) ∙ none)
  none_unknown w e (inr (inr (inr (inr none)))) = none

none_failed : (given : List (List ℕ)) (before now : List FileState) (first last : Files) → first.faults ≡ no_faults before → last.faults ≡ no_faults now → AnyRose given first last → ⊥
none_failed [] before now first last e f none = none
none_failed (name ∷ more) before now first last e f (inl rose) =
    none_rose before now name (subst (λ (counts : ByName ℕ). RoseAt name counts (no_faults now)) e (subst (λ (counts : ByName ℕ). RoseAt name first.faults counts) f rose))
none_failed (name ∷ more) before now first last e f (inr rose) = none_failed more before now first last e f rose

-- A run of the stages of a job over its made files is a run of the job, whatever files there are.
pub works_over : (telling : Telling) (number : ℕ) (files later : List FileState) → held_by files ≡ job_files number → (before now inner after : World) (answer : Result (Unit {0}) Refusal)
    → inner.files.reported ≡ Some (held_by files) → inner.files.faults ≡ no_faults files → after.files.faults ≡ no_faults later
    → inner.out ≡ before.out → after.out ≡ now.out → now.files ≡ before.files → now.places ≡ before.places
    → WorksFrom 2 (codes "queries" ∷ codes "switch" ∷ codes "training" ∷ codes "capture" ∷ []) (Summed telling number) inner answer after → WorksFrom 2 [] (Job telling number) before answer now
works_over telling number files later are before now inner after answer reported_is faults_is later_is first last same places w =
    let r = w.runs in
    let reported : inner.files.reported ≡ Some (job_files number) = reported_is ∙ ap Some are in
    works_alone (record {
      keeps = λ others known outcome is.
          subst (λ (o : Sunk). Keeps outcome answer o.written now.out.written) first
          (subst (λ (o : Sunk). Keeps outcome answer inner.out.written o.written) last (r.keeps (job_files number) reported outcome is));
      missing = λ e. absurd (none_unknown number files are inner.files faults_is (r.missing e));
      read_fault = λ e. absurd (none_failed (names number files are) files later inner.files after.files faults_is later_is (r.read_fault e));
      write_fault = λ e. subst (λ (o : Sunk). OutRose o now.out) first (subst (λ (o : Sunk). OutRose inner.out o) last (r.write_fault e));
      words = r.words;
      others = λ other none. ap (λ (f : Files). get f.faults other) same;
      queries = λ fault e. ((r.queries fault e).0, λ other none. ap (λ (f : Files). get f.faults other) same);
      switch = λ fault e. ((r.switch fault e).0, λ other none. ap (λ (f : Files). get f.faults other) same);
      follows = record {
        reported = ap (λ (f : Files). f.reported) same;
        known = λ name. ap (λ (f : Files). is_some (get f.faults name)) same;
        faults = λ name. let e = ap (λ (f : Files). count_of f.faults name) same in omega arith;
        write_faults = let e = ap (λ (o : Sunk). o.faults) first in let f = ap (λ (o : Sunk). o.faults) last in let k = r.follows.write_faults in omega arith;
        empty_takes = let e = ap (λ (o : Sunk). o.empty_takes) first in let f = ap (λ (o : Sunk). o.empty_takes) last in let k = r.follows.empty_takes in omega arith;
        places = places;
      };
    })
