-- A plan at work in an epoch, from one window to the next, over plain values.
use Rattle.std.proofs.Common.{◌≡◌, ℕ, List, [], ◌∷◌, ◌++◌, map, length, Option, None, Some, refl, ap, sym, ◌∙◌, subst}
use Rattle.std.specs.List.{AllByRecursion}
use Rattle.sn_emit.specs.Making.{CanMake}
use Rattle.sn_emit.specs.Plans.{AreLanesOf, AreNewLanes, Placed, pieces_from, tables_of}
use Rattle.sn_emit.specs.declared.tables.Tables.{Tables}
use Rattle.sn_engine.specs.declared.intake.Intake.{Intake}
use Rattle.sn_engine.specs.Answers.{parts_of, window_of as engine_window}
use Rattle.sn_engine.specs.Intakes.{emptied, intakes_of, total}
use Rattle.sn_engine.specs.Keeping.{gathered}
use Rattle.sn_engine_lockstep.specs.declared.driver.Driver.{Driver}
use Rattle.sn_engine_lockstep.specs.declared.source.Source.{Source}
use Rattle.sn_engine_lockstep.specs.Driving.{IsDriverOf}
use Rattle.sn_engine_lockstep.specs.Early.{early_by, early_total, plan_early}
use Rattle.sn_engine_lockstep.specs.Sources.{kept_in, source_of, sources_of}
use Rattle.sn_engine_lockstep.specs.Windows.{plan_answers, window_answers, window_of}
use Rattle.sn_engine_lockstep.specs.Work.{AreApart, AreAtWork, AreIdle, Recalls, done, lanes_left}
use Rattle.sn_engine_lockstep.proofs.Beginning.{done_emptied}
use Rattle.sn_engine_lockstep.proofs.Driving.{begun_at, driver_after, last_more, next_right}
use Rattle.sn_engine_lockstep.proofs.Earlies.{all_early}
use Rattle.sn_engine_lockstep.proofs.Laws.{new_idle, plan_made, window_is}
use Rattle.sn_engine_lockstep.proofs.Recalling.{closed_parts, recalls_next, recalls_none}
use Rattle.sn_plan_fit.specs.Fits.{Fits}
use Rattle.sn_plan_grammar.specs.declared.plan.Entry.{Entry}
use Rattle.sn_refine.specs.Steps.{Set, windows_of}
use Rattle.sn_switch.specs.declared.switch.Switch.{Switch}
use Rattle.sn_switch.specs.Texts.{IsSwitch}
use Rattle.sn_types.specs.declared.answers.Answers.{Answers}
use Rattle.sn_types.specs.declared.typed_query.TypedQuery.{TypedQuery}
use Rattle.sn_types.specs.Typed.{HasWidths, IsTyped}
use Rattle.sn_windows.specs.Rising.{AreRising, IsAbove, Window}
use Rattle.sn_replan.specs.Resting.{Rests}
use Rattle.sn_replan.proofs.Counting.{next_early, rising_next}

-- ---- what a call leaves as it was

abbrev pub KeepsLanes : Driver → Driver → Type 0
KeepsLanes d e = (queries : List TypedQuery) (tables : Tables) (pieces : List Placed) → AreLanesOf queries tables pieces d.emitter → AreLanesOf queries tables pieces e.emitter

pub record IsSame (d e : Driver) : Type 0 where
  pub queries : e.engine.t.queries ≡ d.engine.t.queries
  pub sources : e.sources ≡ d.sources
  pub count : length e.emitter ≡ length d.emitter
  pub closed : e.engine.closed ≡ d.engine.closed
  pub prefixes : e.engine.kept ≡ d.engine.kept

-- what an engine keeps
recalls_same : (queries : List TypedQuery) (pieces : List Placed) (last : Option Answers) (d e : Driver) → IsSame d e → Recalls queries pieces last d.engine.closed d.engine.kept → Recalls queries pieces last e.engine.closed e.engine.kept
recalls_same queries pieces last d e same h =
    subst (λ (o : Option ℕ). Recalls queries pieces last o e.engine.kept) (sym same.closed) (subst (λ (sets : List Set). Recalls queries pieces last d.engine.closed sets) (sym same.prefixes) h)

-- ---- a plan is put in place

pub made_rests : (window : ℕ) (queries : List TypedQuery) (s : Switch) (entries : List Entry) (d : Driver) → ∥ IsTyped window queries ∥₁ → IsSwitch s → Fits queries s entries → d.engine.t.queries ≡ queries → d.sources ≡ sources_of 0 entries
    → AreNewLanes queries (tables_of s) (pieces_from 0 entries) d.emitter → d.engine.lanes.items ≡ intakes_of 0 entries → length d.sources ≡ length d.emitter → d.engine.closed ≡ None → Rests queries (tables_of s) entries [] d None
made_rests window queries s entries d typed is fits same sources lanes empty many closed = record {
  driver = record {
    typed_for = window;
    typed = typed;
    entries = fits.paths;
    can = plan_made window queries s entries typed is fits;
    queries = same;
    sources = sources;
    many = many;
  };
  lanes = subst (λ (items : List Intake). AreIdle queries (tables_of s) (pieces_from 0 entries) d.emitter items) (sym empty) (new_idle queries (tables_of s) entries d.emitter fits.paths lanes);
  last = refl;
  recalls = recalls_none queries (pieces_from 0 entries) d.engine.closed d.engine.kept closed;
  rising = tt;
}

-- ---- a window

module _ (queries : List TypedQuery) (tables : Tables) (entries : List Entry) (windows : List Window) (d : Driver) (last : Option Answers) (h : Rests queries tables entries windows d last) (w : ℕ) where
  abbrev pieces : List Placed
  pieces = pieces_from 0 entries

  abbrev kept : Source → Set
  kept = kept_in queries last w

  -- it is open, and these tuples of it came
  pub record IsOpen (e : Driver) (tuples : List (List ℕ)) : Type 0 where
    pub driver : IsDriverOf queries entries e
    pub work : AreAtWork queries tables pieces kept tuples e.emitter e.engine.lanes.items
    pub lanes : AreLanesOf queries tables pieces e.emitter
    pub recalls : Recalls queries pieces last e.engine.closed e.engine.kept

  -- all of them came, and the lanes were read out
  pub record IsEnded (e : Driver) (tuples : List (List ℕ)) : Type 0 where
    pub driver : IsDriverOf queries entries e
    pub items : e.engine.lanes.items ≡ map (done queries tables kept tuples w) pieces
    pub lanes : AreLanesOf queries tables pieces e.emitter
    pub apart : AreApart pieces
    pub widths : AllByRecursion HasWidths tuples
    pub recalls : Recalls queries pieces last e.engine.closed e.engine.kept

  pub begun : (e : Driver) → IsSame d e → KeepsLanes d e
      → ((n : Tables) (xs : List Placed) → d.sources ≡ map source_of xs → AreIdle d.engine.t.queries n xs d.emitter d.engine.lanes.items → AreAtWork d.engine.t.queries n xs (kept_in d.engine.t.queries last w) [] e.emitter e.engine.lanes.items)
      → IsOpen e []
  begun e same lanes work = record {
    driver = driver_after queries tables entries d h.driver e same.queries same.sources same.count;
    work = begun_at queries tables entries d h.driver last w e.emitter e.engine.lanes.items h.lanes work;
    lanes = lanes queries tables pieces h.lanes.lanes;
    recalls = recalls_same queries pieces last d e same h.recalls;
  }

  pub given : (e f : Driver) (tuples : List (List ℕ)) → IsOpen e [] → IsSame e f → KeepsLanes e f
      → ((qs : List TypedQuery) (n : Tables) (xs : List Placed) (held : Source → Set) → AreAtWork qs n xs held [] e.emitter e.engine.lanes.items → AreAtWork qs n xs held tuples f.emitter f.engine.lanes.items)
      → IsOpen f tuples
  given e f tuples o same lanes work = record {
    driver = driver_after queries tables entries e o.driver f same.queries same.sources same.count;
    work = work queries tables pieces kept o.work;
    lanes = lanes queries tables pieces o.lanes;
    recalls = recalls_same queries pieces last e f same o.recalls;
  }

  pub drained : (e f : Driver) (tuples : List (List ℕ)) → IsOpen e tuples → AllByRecursion HasWidths tuples → IsSame e f → KeepsLanes e f
      → ((typed_for : ℕ) (n : Tables) (qs : List TypedQuery) (xs : List Placed) (held : Source → Set) (given : List (List ℕ)) → ∥ IsTyped typed_for qs ∥₁ → AllByRecursion (CanMake qs) xs → AllByRecursion HasWidths given
      → AreAtWork qs n xs held given e.emitter e.engine.lanes.items → f.engine.lanes.items ≡ map (done qs n held given w) xs)
      → IsEnded f tuples
  drained e f tuples o widths same lanes items = record {
    driver = driver_after queries tables entries e o.driver f same.queries same.sources same.count;
    items = items o.driver.typed_for tables queries pieces kept tuples o.driver.typed o.driver.can widths o.work;
    lanes = lanes queries tables pieces o.lanes;
    apart = o.work.apart;
    widths = widths;
    recalls = recalls_same queries pieces last e f same o.recalls;
  }

  -- it is begun, given its tuples, and read out
  pub ended_by : (b g r : Driver) (tuples : List (List ℕ)) → IsSame d b → KeepsLanes d b
      → ((n : Tables) (xs : List Placed) → d.sources ≡ map source_of xs → AreIdle d.engine.t.queries n xs d.emitter d.engine.lanes.items → AreAtWork d.engine.t.queries n xs (kept_in d.engine.t.queries last w) [] b.emitter b.engine.lanes.items)
      → IsSame b g → KeepsLanes b g
      → ((qs : List TypedQuery) (n : Tables) (xs : List Placed) (held : Source → Set) → AreAtWork qs n xs held [] b.emitter b.engine.lanes.items → AreAtWork qs n xs held tuples g.emitter g.engine.lanes.items)
      → AllByRecursion HasWidths tuples → IsSame g r → KeepsLanes g r
      → ((typed_for : ℕ) (n : Tables) (qs : List TypedQuery) (xs : List Placed) (held : Source → Set) (came : List (List ℕ)) → ∥ IsTyped typed_for qs ∥₁ → AllByRecursion (CanMake qs) xs → AllByRecursion HasWidths came
      → AreAtWork qs n xs held came g.emitter g.engine.lanes.items → r.engine.lanes.items ≡ map (done qs n held came w) xs)
      → IsEnded r tuples
  ended_by b g r tuples same_b lanes_b work_b same_g lanes_g work_g widths same_r lanes_r items_r =
      drained g r tuples (given b g tuples (begun b same_b lanes_b work_b) same_g lanes_g work_g) widths same_r lanes_r items_r

  module _ (above : IsAbove (window_of last) w) (e : Driver) (tuples : List (List ℕ)) (o : IsEnded e tuples) where
    rising : AreRising None (windows ++ (w, tuples) ∷ [])
    rising = rising_next queries tables entries None windows w tuples h.rising (subst (λ (l : Option Answers). IsAbove (window_of l) w) h.last above)

    answered : (a : Answers) → a.window ≡ w → a.emitted ≡ total e.engine.lanes.items → a.parts ≡ parts_of e.engine.t.queries (lanes_left e.engine.t.queries e.engine.closed e.engine.kept e.engine.lanes.items) → a ≡ window_answers queries tables entries kept w tuples
    answered a is emitted parts =
        window_is o.driver.typed_for tables w queries entries kept tuples a o.driver.typed o.driver.entries o.driver.can o.widths is (emitted ∙ ap total o.items)
        (closed_parts queries tables kept tuples w e.engine.closed e.engine.kept pieces e.engine.lanes.items a.parts o.items
        (parts ∙ ap (λ (qs : List TypedQuery). parts_of qs (lanes_left qs e.engine.closed e.engine.kept e.engine.lanes.items)) o.driver.queries) (o.recalls w))

    pub answers_are : (a : Answers) → a.window ≡ w → a.emitted ≡ total e.engine.lanes.items → a.parts ≡ parts_of e.engine.t.queries (lanes_left e.engine.t.queries e.engine.closed e.engine.kept e.engine.lanes.items) → a ≡ plan_answers queries tables entries (windows_of (windows ++ (w, tuples) ∷ [])) w
    answers_are a is emitted parts =
        answered a is emitted parts
        ∙ ap (λ (l : Option Answers). window_answers queries tables entries (kept_in queries l w) w tuples) h.last
        ∙ next_right queries tables entries windows w tuples o.driver.entries rising

    pub early_is : (early : ℕ) → early ≡ early_total e.engine.lanes.items → early ≡ plan_early queries tables entries (windows_of (windows ++ (w, tuples) ∷ [])) w
    early_is early counted =
        counted ∙ ap early_total o.items ∙ all_early queries tables w kept tuples pieces
        ∙ ap (λ (l : Option Answers). early_by queries tables pieces (kept_in queries l w) tuples) h.last
        ∙ next_early queries tables entries windows w tuples o.driver.entries rising

    pub rests_on : (f : Driver) (a : Answers) → a.window ≡ w → a.emitted ≡ total e.engine.lanes.items → a.parts ≡ parts_of e.engine.t.queries (lanes_left e.engine.t.queries e.engine.closed e.engine.kept e.engine.lanes.items)
        → f.emitter ≡ e.emitter → f.engine.lanes.items ≡ map emptied e.engine.lanes.items → f.engine.t.queries ≡ e.engine.t.queries → f.sources ≡ e.sources
        → f.engine.closed ≡ Some (engine_window e.engine.lanes.items) → f.engine.kept ≡ gathered e.engine.t.queries a.parts e.engine.lanes.items → Rests queries tables entries (windows ++ (w, tuples) ∷ []) f (Some a)
    rests_on f a is emitted parts emitter empty same sources closed keeps = record {
      driver = driver_after queries tables entries e o.driver f same sources (ap length emitter);
      lanes = record {
        apart = o.apart;
        lanes = subst (AreLanesOf queries tables pieces) (sym emitter) o.lanes;
        empty = empty ∙ ap (map emptied) o.items ∙ done_emptied queries tables w kept tuples pieces;
      };
      last = ap Some (answered a is emitted parts ∙ ap (λ (l : Option Answers). window_answers queries tables entries (kept_in queries l w) w tuples) h.last) ∙ sym (last_more queries tables entries windows w tuples);
      recalls = recalls_next queries tables kept tuples w pieces a f.engine.closed f.engine.kept is (closed ∙ ap (λ (ls : List Intake). Some (engine_window ls)) o.items)
          (keeps ∙ ap (λ (qs : List TypedQuery). gathered qs a.parts e.engine.lanes.items) o.driver.queries ∙ ap (gathered queries a.parts) o.items);
      rising = rising;
    }
