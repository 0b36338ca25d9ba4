-- Where the epochs of windows stand comes to the epochs of all windows.
use Rattle.std.proofs.Common.{◌≡◌, List, [], ◌∷◌, ◌++◌, Bool, Option, Result, Ok, Err, refl, ap, sym, ◌∙◌, append_assoc}
use Rattle.std.specs.Prelude.{if◌then◌else◌}
use Rattle.sn_base.proofs.Lists.{by_test}
use Rattle.sn_command.specs.declared.fault.Fault.{Fault}
use Rattle.sn_command_search.specs.declared.certificate.Certificate.{Certificate}
use Rattle.sn_command_replan.specs.Replan.{Followed, entries_of, epochs_of, planned_on}
use Rattle.sn_command_replan.specs.Standing.{Standing, after, at_first, going, gone, over_at, stands_after, stands_from, turned, with_next}
use Rattle.sn_replan.specs.Epochs.{Span, Spans, epochs_from, span, then_from}
use Rattle.sn_windows.specs.Rising.{Window}
use Rattle.sn_emit.specs.Plans.{tables_of}

module _ (f : Followed) where
  abbrev from : Certificate → List Window → List Window → Spans Certificate Fault
  from plan before windows = epochs_from f.queries (tables_of f.limits) entries_of (planned_on f) f.most plan before windows

  abbrev put : List (Span Certificate) → Spans Certificate Fault → Spans Certificate Fault
  put front s = record { spans = front ++ s.spans; refused = s.refused }

  epochs_step : (plan : Certificate) (before : List Window) (w : Window) (ws : List Window) (v : Window) → from plan before (w ∷ (ws ++ v ∷ []))
      ≡ (if over_at f plan before w then then_from (span plan (before ++ w ∷ [])) (λ next. from next [] (ws ++ v ∷ [])) (planned_on f w) else from plan (before ++ w ∷ []) (ws ++ v ∷ []))
  epochs_step plan before w [] v = refl
  epochs_step plan before w (u ∷ us) v = refl

  gone_stays : (front : List (Span Certificate)) (fault : Fault) (ws : List Window) → stands_from f (gone front fault) ws ≡ gone front fault
  gone_stays front fault [] = refl
  gone_stays front fault (w ∷ ws) = gone_stays front fault ws

  turned_with : (front : List (Span Certificate)) (plan : Certificate) (now : List Window) (verdict : Result Certificate Fault) (ws : List Window) (v : Window)
      → ((next : Certificate) → with_next (stands_from f (going (front ++ span plan now ∷ []) next []) ws) v ≡ put (front ++ span plan now ∷ []) (from next [] (ws ++ v ∷ [])))
      → with_next (stands_from f (turned (front ++ span plan now ∷ []) verdict) ws) v ≡ put front (then_from (span plan now) (λ next. from next [] (ws ++ v ∷ [])) verdict)
  turned_with front plan now (Ok next) ws v more =
      let rest : Spans Certificate Fault = from next [] (ws ++ v ∷ []) in
      more next ∙ ap (λ (spans : List (Span Certificate)). made spans rest.refused) (append_assoc front (span plan now ∷ []) rest.spans)
    where
      made : List (Span Certificate) → Option Fault → Spans Certificate Fault
      made spans refused = record { spans = spans; refused = refused }
  turned_with front plan now (Err fault) ws v more = ap (λ (s : Standing). with_next s v) (gone_stays (front ++ span plan now ∷ []) fault ws)

  stood : (front : List (Span Certificate)) (plan : Certificate) (before ws : List Window) (v : Window) → with_next (stands_from f (going front plan before) ws) v ≡ put front (from plan before (ws ++ v ∷ []))
  stood front plan before [] v = refl
  stood front plan before (w ∷ ws) v =
      let now : List Window = before ++ w ∷ [] in
      let done : List (Span Certificate) = front ++ span plan now ∷ [] in
      let next_on : Certificate → Spans Certificate Fault = λ next. from next [] (ws ++ v ∷ []) in
      let stands : Bool → Spans Certificate Fault = λ b. with_next (stands_from f (if b then turned done (planned_on f w) else going front plan now) ws) v in
      let due : Bool → Spans Certificate Fault = λ b. put front (if b then then_from (span plan now) next_on (planned_on f w) else from plan now (ws ++ v ∷ [])) in
      by_test (over_at f plan before w)
      (λ is. ap stands is ∙ turned_with front plan now (planned_on f w) ws v (λ next. stood done next [] ws v) ∙ sym (ap (put front) (epochs_step plan before w ws v) ∙ ap due is))
      (λ isnt. ap stands isnt ∙ stood front plan now ws v ∙ sym (ap (put front) (epochs_step plan before w ws v) ∙ ap due isnt))

  -- the epochs up to a window
  pub refused_is : (ws : List Window) (v : Window) → (epochs_of f (ws ++ v ∷ [])).refused ≡ (with_next (stands_after f ws) v).refused
  refused_is ws v = sym (ap (λ (s : Spans Certificate Fault). s.refused) (stood [] f.first [] ws v))

  pub spans_are : (ws : List Window) (v : Window) → (epochs_of f (ws ++ v ∷ [])).spans ≡ (with_next (stands_after f ws) v).spans
  spans_are ws v = sym (ap (λ (s : Spans Certificate Fault). s.spans) (stood [] f.first [] ws v))

  -- one window more
  stands_more : (s : Standing) (ws : List Window) (w : Window) → stands_from f s (ws ++ w ∷ []) ≡ after f (stands_from f s ws) w
  stands_more s [] w = refl
  stands_more s (u ∷ us) w = stands_more (after f s u) us w

  pub stands_next : (ws : List Window) (w : Window) → stands_after f (ws ++ w ∷ []) ≡ after f (stands_after f ws) w
  stands_next ws w = stands_more (at_first f) ws w
