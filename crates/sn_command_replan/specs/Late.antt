-- serves proofs
-- A plan is refused for no fault of the queries or the switch.
use Rattle.std.specs.Prelude.{◌≡◌, List, [], ◌∷◌, ◌++◌, Option, None, Some, Result, Ok, Err, if◌then◌else◌}
use Rattle.std.proofs.Common.{ap, sym, subst, ◌∙◌}
use Rattle.sn_base.proofs.Lists.{by_test}
use Rattle.sn_command.specs.declared.fault.Fault.{Fault}
use Rattle.sn_command_capture.specs.Wording.{IsLate}
use Rattle.sn_command_search.specs.Certificates.{SearchedIn}
use Rattle.sn_command_search.specs.declared.certificate.Certificate.{Certificate}
use Rattle.sn_command_search.proofs.Verdicts.{one_search}
use Rattle.sn_command_replan.specs.Replan.{Followed, entries_of, epochs_of, planned_on}
use Rattle.sn_replan.specs.Epochs.{Spans, epochs_from, is_over, span, then_from}
use Rattle.sn_windows.specs.Rising.{Window}
use Rattle.sn_emit.specs.Plans.{tables_of}

none_some : (fault : Fault) → ◌≡◌ {A = Option Fault} None (Some fault) → IsLate fault
none_some fault e = absurd cc

module _ (f : Followed) where
  abbrev Verdict : Window → Result Certificate Fault → Type 0
  Verdict w verdict = SearchedIn f.limits f.queries (w ∷ []) f.nodes verdict

  spent_late : (w : Window) (fault : Fault) → Verdict w (Err fault) → IsLate fault
  spent_late w fault spent = subst IsLate (sym spent.same) tt

  planned_late : (w : Window) (fault : Fault) → planned_on f w ≡ Err fault → IsLate fault
  planned_late w fault e = spent_late w fault (subst (Verdict w) e (one_search f.limits f.queries (w ∷ []) f.nodes).is)

  abbrev from : Certificate → List Window → List Window → Spans Certificate Fault
  from plan before windows = epochs_from f.queries (tables_of f.limits) entries_of (planned_on f) f.most plan before windows

  then_late : (plan : Certificate) (now : List Window) (rest : Certificate → Spans Certificate Fault) (verdict : Result Certificate Fault)
      → ((fault : Fault) → verdict ≡ Err fault → IsLate fault) → ((next : Certificate) (fault : Fault) → (rest next).refused ≡ Some fault → IsLate fault)
      → (fault : Fault) → (then_from (span plan now) rest verdict).refused ≡ Some fault → IsLate fault
  then_late plan now rest (Ok next) refuses more fault e = more next fault e
  then_late plan now rest (Err other) refuses more fault e = refuses fault (let same : other ≡ fault = cc in ap Err same)

  refused_late : (plan : Certificate) (before windows : List Window) (fault : Fault) → (from plan before windows).refused ≡ Some fault → IsLate fault
  refused_late plan before [] fault e = none_some fault e
  refused_late plan before (w ∷ []) fault e = none_some fault e
  refused_late plan before (w ∷ v ∷ more) fault e =
      let now : List Window = before ++ w ∷ [] in
      by_test (is_over f.queries (tables_of f.limits) entries_of (planned_on f) f.most plan now w.0)
      (λ over. then_late plan now (λ next. from next [] (v ∷ more)) (planned_on f w) (planned_late w)
      (λ next other k. refused_late next [] (v ∷ more) other k) fault
      (sym (ap (λ b. (if b then then_from (span plan now) (λ next. from next [] (v ∷ more)) (planned_on f w) else from plan now (v ∷ more)).refused) over) ∙ e))
      (λ on. refused_late plan now (v ∷ more) fault
      (sym (ap (λ b. (if b then then_from (span plan now) (λ next. from next [] (v ∷ more)) (planned_on f w) else from plan now (v ∷ more)).refused) on) ∙ e))

  pub epochs_late : (windows : List Window) (fault : Fault) → (epochs_of f windows).refused ≡ Some fault → IsLate fault
  epochs_late windows fault e = refused_late f.first [] windows fault e
