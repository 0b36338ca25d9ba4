use Rattle.std.proofs.Common.{◌≡◌, List, ℕ, [], ◌∷◌, ◌++◌, subst, sym, ◌∙◌}
use Rattle.std.proofs.lemmas.List.{with_items_is}
use Rattle.std.specs.List.{AllByRecursion}
use Rattle.std.specs.Vec.{with_items}
use Rattle.sn_command_detect.specs.Detected.{watched_from}
use Rattle.sn_command_detect.specs.Watching.{AreAfter, AreGiven}
use Rattle.sn_detect.specs.declared.detect.Detect.{Detect}
use Rattle.sn_types.specs.Typed.{HasWidths}
use Rattle.sn_windows.specs.Rising.{IsAbove}
use Rattle.sn_command_detect.proofs.WatchLemmas.{above_all, given_all, given_long}
use Rattle.sn_command_detect.proofs.watch.Watch.end.Goals as goal

pub give-requires-clause-above : goal.give-requires-clause-above
give-requires-clause-above c =
    let s = c.args.self.now in
    let h = c.requires.2 in
    subst (λ (ds : List Detect). AllByRecursion (λ (d : Detect). IsAbove d.refined.last c.args.number) ds) (sym c.deref_mut.ensures.value)
    (above_all s.typed.queries c.requires.0 c.args.number c.requires.1 (watched_from s.typed.queries 0 s.plan.entries) s.detects.items h.after h.rising)

pub give-requires-clause-widths : goal.give-requires-clause-widths
give-requires-clause-widths c =
    let h = c.requires.2 in
    subst (λ (ts : List (List ℕ)). AllByRecursion HasWidths ts) (sym (c.as_slice.ensures ∙ h.kept)) h.widths

pub returns-clause-closed : goal.returns-clause-closed
returns-clause-closed c = λ closed tuples h.
    let s = c.args.self.now in
    let new = c.give.new.detects in
    let n = c.args.number in
    let watched = watched_from s.typed.queries 0 s.plan.entries in
    let whole = subst (λ (ds : List Detect). AreGiven n c.as_slice.result.now ds new) c.deref_mut.ensures.value c.in_ok-give.ensures in
    let given = subst (λ (ts : List (List ℕ)). AreGiven n ts s.detects.items new) (c.as_slice.ensures ∙ h.kept) whole in
    let now : (with_items s.detects new).items ≡ new = with_items_is s.detects new (given_long n tuples s.detects.items new given ∙ sym s.detects.ok.0) in
    record {
      after = subst (λ (ds : List Detect). AreAfter s.typed.queries (closed ++ (n, tuples) ∷ []) watched ds) (sym now)
          (given_all s.typed.queries closed n tuples watched s.detects.items new h.after given);
      rising = h.rising;
    }
