-- Windows of several switches one after another.
use Rattle.std.proofs.Common.{◌≡◌, ℕ, List, [], ◌∷◌, map, sum, Option, None, Some, refl, ap, ◌∙◌}
use Rattle.sn_emit.specs.Plans.{pieces_from}
use Rattle.sn_emit.specs.declared.tables.Tables.{Tables}
use Rattle.sn_engine_lockstep.proofs.Along.{window_right}
use Rattle.sn_engine_lockstep.specs.Sources.{kept_in}
use Rattle.sn_engine_lockstep.specs.Windows.{Follows, Remembers, parts_from, window_of}
use Rattle.sn_engine_many.proofs.Seen.{sent_right}
use Rattle.sn_engine_many.specs.Answers.{SharedWindow, in_one, many_answers, many_sent, shared_answers, shared_from}
use Rattle.sn_multi.specs.Branches.{together}
use Rattle.sn_plan_fit.specs.Fits.{AreEntriesOf}
use Rattle.sn_plan_grammar.specs.declared.plan.Entry.{Entry}
use Rattle.sn_refine.proofs.Windows.{above_last, earlier, here, later}
use Rattle.sn_refine.specs.Refined.{Windows}
use Rattle.sn_refine.specs.Steps.{windows_of}
use Rattle.sn_types.specs.declared.answers.Answers.{Answers}
use Rattle.sn_types.specs.declared.answers.Part.{Part}
use Rattle.sn_types.specs.declared.typed_query.TypedQuery.{TypedQuery}
use Rattle.sn_windows.specs.Rising.{AreRising, IsAbove}

-- a window that follows, where the answers before it were those along the plan
many_right : (queries : List TypedQuery) (tables : Tables) (es : List Entry) (windows : Windows) (last : Option Answers) (w : ℕ) (captures : List (List (List ℕ))) → AreEntriesOf queries es
    → windows w ≡ Some (together captures) → Follows windows last w → Remembers queries es windows last
    → shared_answers queries tables es (kept_in queries last w) w captures ≡ many_answers queries tables es windows w captures
many_right queries tables es windows last w captures h is f r =
    ap (λ n. with n (parts_from queries (kept_in queries last w) (together captures) 0 es)) (sent_right queries tables es windows last w captures h f r)
    ∙ ap (λ (a : Answers). with (sum (map (many_sent queries tables windows w captures) (pieces_from 0 es))) a.parts) (window_right queries tables es windows last w (together captures) h is f r)
  where
    with : ℕ → List Part → Answers
    with n parts = record { window = w; emitted = n; parts = parts }

from : (queries : List TypedQuery) (tables : Tables) (es : List Entry) (windows : Windows) → AreEntriesOf queries es → (last : Option Answers) (given : List SharedWindow) → AreRising (window_of last) (map in_one given)
    → ((v : ℕ) → IsAbove (window_of last) v → windows v ≡ windows_of (map in_one given) v) → Remembers queries es windows last
    → shared_from queries tables es last given ≡ map (λ (g : SharedWindow). many_answers queries tables es windows g.0 g.1) given
from queries tables es windows h last [] rises agrees remembers = refl
from queries tables es windows h last (g ∷ rest) rises agrees remembers =
    let now = shared_answers queries tables es (kept_in queries last g.0) g.0 g.1 in
    let others = map in_one rest in
    let e : now ≡ many_answers queries tables es windows g.0 g.1 =
    many_right queries tables es windows last g.0 g.1 h (agrees g.0 rises.0 ∙ here (in_one g) others)
    (record { above = rises.0; none = λ v above lt. agrees v above ∙ earlier (in_one g) others v rises.1 lt }) remembers in
    ap (λ a. a ∷ shared_from queries tables es (Some now) rest) e
    ∙ ap (λ later_ones. many_answers queries tables es windows g.0 g.1 ∷ later_ones)
    (from queries tables es windows h (Some now) rest rises.1 (λ v lt. agrees v (above_last (window_of last) g.0 v rises.0 lt) ∙ later (in_one g) others v lt) (ap (λ (a : Answers). a.parts) e))

pub all_shared : (queries : List TypedQuery) (tables : Tables) (es : List Entry) (given : List SharedWindow) → AreEntriesOf queries es → AreRising None (map in_one given)
    → shared_from queries tables es None given ≡ map (λ (g : SharedWindow). many_answers queries tables es (windows_of (map in_one given)) g.0 g.1) given
all_shared queries tables es given h rises = from queries tables es (windows_of (map in_one given)) h None given rises (λ v above. refl) tt
