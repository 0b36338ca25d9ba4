-- The answers of a plan's net, window after window, are those of the plan.
use Rattle.std.proofs.Common.{◌≡◌, ℕ, suc, ◌+◌, ◌<◌, List, [], ◌∷◌, ◌++◌, ◌==◌, map, length, nat_eq, Bool, true, false, cond, slice_get, unwrap_or, Option, Some, None, refl, ap, sym, ◌∙◌, arith}
use Rattle.std.specs.FinSet as set
use Rattle.std.specs.List.{AllByRecursion}
use Rattle.sn_base.proofs.Lists.{by_test, map_both, nat_same, nat_self, not_true}
use Rattle.sn_core.specs.Due.{Tuples, answers_in, answers_of, items_from_start}
use Rattle.sn_core.specs.Events.{kept_from}
use Rattle.sn_core.specs.Nets.{Lane}
use Rattle.sn_core.specs.Workings.{after_all, gives, items_of}
use Rattle.sn_emit.specs.Making.{CanMake}
use Rattle.sn_emit.specs.Plans.{IsNewPipeOf, Placed, gate_before, items_of as piece_items, pieces_from}
use Rattle.sn_emit.specs.declared.tables.Tables.{Tables}
use Rattle.sn_engine.specs.Answers.{answers_of as engine_answers, parts_of, window_of}
use Rattle.sn_engine.specs.Keeping.{all_left, kept_for}
use Rattle.sn_engine.specs.declared.intake.Intake.{Intake}
use Rattle.sn_plan_fit.specs.Fits.{AreEntriesOf}
use Rattle.sn_pipe.proofs.Starts.{starts_again}
use Rattle.sn_pipe.proofs.TypedLaw.{typed_items}
use Rattle.sn_pipe.specs.Pipes.{PipeState, after_packet, after_packets, at_start, item_of, packets_give}
use Rattle.sn_pipe.specs.Prefixes.{left_in}
use Rattle.sn_plan_grammar.specs.declared.plan.Entry.{Entry}
use Rattle.sn_refine.specs.Steps.{Set}
use Rattle.sn_report.specs.Items.{Item}
use Rattle.sn_types.specs.declared.answers.Answers.{Answers}
use Rattle.sn_types.specs.declared.typed_query.TypedQuery.{TypedQuery}
use Rattle.sn_types.specs.Typed.{HasWidths, IsTyped}
use Rattle.sn_engine_lockstep.proofs.Finding.{get_map}
use Rattle.sn_engine_lockstep.proofs.Laws.{window_is}
use Rattle.sn_engine_lockstep.proofs.Recalling.{lanes_are_left}
use Rattle.sn_engine_lockstep.specs.declared.source.Source.{Source}
use Rattle.sn_engine_lockstep.specs.Sources.{kept_in, prefixes_in, source_of}
use Rattle.sn_engine_lockstep.specs.Windows.{answers_from, window_answers}
use Rattle.sn_engine_lockstep.specs.Work.{AreKept, done, intake_of, left_done}
use Rattle.sn_core_net.specs.PlanWorkings.{AreLanesFor, HaveWidths, all_ended, given_of, workings}
use Rattle.std.specs.Option.{option_to_list}

-- a number is the next one: the same test, said twice
next_test : (last number : ℕ) → nat_eq number (suc last) ≡ (last + 1 == number)
next_test last number =
    by_test (last + 1 == number)
    (λ is. let e = nat_same (last + 1) number is in
    ap (nat_eq number) {x = suc last} {y = number} (omega (arith, e)) ∙ nat_self number ∙ sym is)
    (λ isnt. not_true (nat_eq number (suc last)) (λ is. let e = nat_same number (suc last) is in
    false_true (sym isnt ∙ ap (λ n. n == number) {x = last + 1} {y = number} (omega (arith, e)) ∙ nat_self number)) ∙ sym isnt)
  where
    false_true : false ≡ true → ⊥
    false_true e = cc e

ended_done : (queries : List TypedQuery) (tables : Tables) (window : ℕ) (kept : Source → Set) (tuples : List (List ℕ)) (xs : List Placed) →
    all_ended window (map intake_of xs) (map (λ x. piece_items queries tables x (kept (source_of x)) tuples) xs) ≡ map (done queries tables kept tuples window) xs
ended_done queries tables window kept tuples [] = refl
ended_done queries tables window kept tuples (x ∷ xs) = ap (λ ls. done queries tables kept tuples window x ∷ ls) (ended_done queries tables window kept tuples xs)

some_window : (queries : List TypedQuery) (tables : Tables) (window : ℕ) (kept : Source → Set) (tuples : List (List ℕ)) (xs : List Placed) (lanes : List (Lane PipeState Item)) → AreLanesFor queries tables xs lanes → 0 < length lanes →
    window_of (map (done queries tables kept tuples window) xs) ≡ window
some_window queries tables window kept tuples [] [] are some = absurd (omega (arith, some))
some_window queries tables window kept tuples [] (lane ∷ lanes) are some = absurd are
some_window queries tables window kept tuples (x ∷ xs) [] are some = absurd are
some_window queries tables window kept tuples (x ∷ xs) (lane ∷ lanes) are some = refl

module _ (typed_for : ℕ) (tables : Tables) (queries : List TypedQuery) (entries : List Entry) (t : ∥ IsTyped typed_for queries ∥₁) where
  gives_are : (pipe : PipeState) (tuples : List (List ℕ)) → gives (workings queries entries) pipe tuples ≡ packets_give pipe tuples
  gives_are pipe [] = refl
  gives_are pipe (tuple ∷ tuples) = ap (λ xs. option_to_list (item_of pipe tuple) ++ xs) (gives_are (after_packet pipe tuple) tuples)

  after_are : (pipe : PipeState) (tuples : List (List ℕ)) → after_all (workings queries entries) pipe tuples ≡ after_packets pipe tuples
  after_are pipe [] = refl
  after_are pipe (tuple ∷ tuples) = after_are (after_packet pipe tuple) tuples

  abbrev given_by : PipeState → List (List ℕ) → List Item
  given_by pipe tuples = packets_give pipe tuples ++ left_in (after_packets pipe tuples).prefix

  -- the items of a lane are those of its piece
  items_are : (pipe : PipeState) (x : Placed) (kept : Set) (tuples : List (List ℕ)) → CanMake queries x → IsNewPipeOf queries tables x (at_start pipe set.empty) → AllByRecursion HasWidths tuples →
      items_of (workings queries entries) (at_start pipe kept) tuples ≡ piece_items queries tables x kept tuples
  items_are pipe x kept tuples mine new widths =
      ap (λ xs. xs ++ left_in (after_all (workings queries entries) (at_start pipe kept) tuples).prefix) (gives_are (at_start pipe kept) tuples)
      ∙ ap (λ (p : PipeState). packets_give (at_start pipe kept) tuples ++ left_in p.prefix) (after_are (at_start pipe kept) tuples)
      ∙ ap (λ p. given_by p tuples) (sym (starts_again pipe set.empty kept))
      ∙ typed_items typed_for queries x.query x.piece.branch x.piece.level x.piece.cut tables.depth (gate_before tables.entries x.path x.piece.level) x.piece.slots (at_start pipe set.empty) kept tuples t mine.query mine.branch mine.cut new widths

  -- so are those of all lanes, where each has the prefixes of its source
  all_items : (kept : Source → Set) (tuples : List (List ℕ)) (xs : List Placed) (lanes : List (Lane PipeState Item)) → AllByRecursion (CanMake queries) xs → AreLanesFor queries tables xs lanes → AllByRecursion HasWidths tuples →
      items_from_start (workings queries entries) tuples lanes (map (λ x. kept (source_of x)) xs) ≡ map (λ x. piece_items queries tables x (kept (source_of x)) tuples) xs
  all_items kept tuples [] [] can are widths = refl
  all_items kept tuples [] (lane ∷ lanes) can are widths = absurd are
  all_items kept tuples (x ∷ xs) [] can are widths = absurd are
  all_items kept tuples (x ∷ xs) (lane ∷ lanes) can are widths =
      ap (λ is. is ∷ items_from_start (workings queries entries) tuples lanes (map (λ y. kept (source_of y)) xs)) (items_are lane.pipe x (kept (source_of x)) tuples can.0 are.0 widths)
      ∙ ap (λ rest. piece_items queries tables x (kept (source_of x)) tuples ∷ rest) (all_items kept tuples xs lanes can.1 are.1 widths)

  -- and where there is no prefix
  none_items : (tuples : List (List ℕ)) (xs : List Placed) (lanes : List (Lane PipeState Item)) → AllByRecursion (CanMake queries) xs → AreLanesFor queries tables xs lanes → AllByRecursion HasWidths tuples →
      items_from_start (workings queries entries) tuples lanes [] ≡ map (λ x. piece_items queries tables x set.empty tuples) xs
  none_items tuples [] [] can are widths = refl
  none_items tuples [] (lane ∷ lanes) can are widths = absurd are
  none_items tuples (x ∷ xs) [] can are widths = absurd are
  none_items tuples (x ∷ xs) (lane ∷ lanes) can are widths =
      ap (λ is. is ∷ items_from_start (workings queries entries) tuples lanes []) (items_are lane.pipe x set.empty tuples can.0 are.0 widths)
      ∙ ap (λ rest. piece_items queries tables x set.empty tuples ∷ rest) (none_items tuples xs lanes can.1 are.1 widths)

  module _ (h : AreEntriesOf queries entries) (can : AllByRecursion (CanMake queries) (pieces_from 0 entries)) (lanes : List (Lane PipeState Item)) (are : AreLanesFor queries tables (pieces_from 0 entries) lanes) (some : 0 < length lanes) where
    -- the window before, as the net and as the plan have it
    abbrev Matches : Option (ℕ × List Set) → Option Answers → Type 0
    Matches None None = Unit {0}
    Matches None (Some answers) = ⊥
    Matches (Some before) None = ⊥
    Matches (Some before) (Some answers) = (before.0 ≡ answers.window) × (before.1 ≡ map (prefixes_in queries answers.parts) (map source_of (pieces_from 0 entries)))

    abbrev wanted_items : (Source → Set) → List (List ℕ) → List (List Item)
    wanted_items kept tuples = map (λ x. piece_items queries tables x (kept (source_of x)) tuples) (pieces_from 0 entries)

    by_bool : (b : Bool) (kept : Source → Set) (tuples : List (List ℕ)) → AllByRecursion HasWidths tuples →
        items_from_start (workings queries entries) tuples lanes (cond b (map (λ x. kept (source_of x)) (pieces_from 0 entries)) []) ≡ wanted_items (λ source. cond b (kept source) set.empty) tuples
    by_bool true kept tuples widths = all_items kept tuples (pieces_from 0 entries) lanes can are widths
    by_bool false kept tuples widths = none_items tuples (pieces_from 0 entries) lanes can are widths

    same_items : (before : Option (ℕ × List Set)) (last : Option Answers) (number : ℕ) (tuples : List (List ℕ)) → Matches before last → AllByRecursion HasWidths tuples →
        items_from_start (workings queries entries) tuples lanes (kept_from before number) ≡ wanted_items (kept_in queries last number) tuples
    same_items None None number tuples m widths = none_items tuples (pieces_from 0 entries) lanes can are widths
    same_items None (Some answers) number tuples m widths = absurd m
    same_items (Some before) None number tuples m widths = absurd m
    same_items (Some before) (Some answers) number tuples m widths =
        ap (λ n. items_from_start (workings queries entries) tuples lanes (cond (nat_eq number (suc n)) before.1 [])) m.0
        ∙ ap (λ sets. items_from_start (workings queries entries) tuples lanes (cond (nat_eq number (suc answers.window)) sets [])) (m.1 ∙ map_both source_of (prefixes_in queries answers.parts) (pieces_from 0 entries))
        ∙ ap (λ b. items_from_start (workings queries entries) tuples lanes (cond b (map (λ x. prefixes_in queries answers.parts (source_of x)) (pieces_from 0 entries)) [])) (next_test answers.window number)
        ∙ by_bool (answers.window + 1 == number) (prefixes_in queries answers.parts) tuples widths

    -- what the engine keeps of the window before is what the lanes admit
    by_kept : (b : Bool) (sets : List Set) (j : ℕ) (members : Set) → unwrap_or (slice_get sets j) set.empty ≡ members → unwrap_or (slice_get (cond b sets []) j) set.empty ≡ cond b members set.empty
    by_kept true sets j members is = is
    by_kept false sets j members is = refl

    are_kept : (before : Option (ℕ × List Set)) (last : Option Answers) (number : ℕ) → Matches before last → AreKept (pieces_from 0 entries) (kept_in queries last number) (kept_from before number)
    are_kept None None number m = λ j x at. refl
    are_kept None (Some answers) number m = absurd m
    are_kept (Some before) None number m = absurd m
    are_kept (Some before) (Some answers) number m = λ j x at.
        ap (λ n. unwrap_or (slice_get (cond (nat_eq number (suc n)) before.1 []) j) set.empty) m.0
        ∙ ap (λ b. unwrap_or (slice_get (cond b before.1 []) j) set.empty) (next_test answers.window number)
        ∙ by_kept (answers.window + 1 == number) before.1 j (prefixes_in queries answers.parts (source_of x))
        (ap (λ sets. unwrap_or (slice_get sets j) set.empty) m.1
        ∙ ap (λ (o : Option Set). unwrap_or o set.empty)
        (get_map (prefixes_in queries answers.parts) (map source_of (pieces_from 0 entries)) j (source_of x) (get_map source_of (pieces_from 0 entries) j x at)))

    -- so the items of other prefixes are dropped
    same_left : (before : Option (ℕ × List Set)) (number : ℕ) (kept : Source → Set) (tuples : List (List ℕ)) → AreKept (pieces_from 0 entries) kept (kept_from before number) →
        all_left queries (kept_from before number) (map (done queries tables kept tuples number) (pieces_from 0 entries)) ≡ map (left_done queries tables kept tuples number) (pieces_from 0 entries)
    same_left None number kept tuples h = lanes_are_left queries tables kept tuples number None [] (pieces_from 0 entries) h
    same_left (Some before) number kept tuples h =
        ap (λ n. all_left queries (kept_for (Some before.0) before.1 n) (map (done queries tables kept tuples number) (pieces_from 0 entries))) (sym (some_window queries tables number kept tuples (pieces_from 0 entries) lanes are some))
        ∙ lanes_are_left queries tables kept tuples number (Some before.0) before.1 (pieces_from 0 entries) h

    one_window : (before : Option (ℕ × List Set)) (last : Option Answers) (x : Tuples (List ℕ)) → Matches before last → AllByRecursion HasWidths x.tuples →
        answers_in (workings queries entries) lanes before x ≡ window_answers queries tables entries (kept_in queries last x.number) x.number x.tuples
    one_window before last x m widths =
        let kept : Source → Set = kept_in queries last x.number in
        let sets : List Set = kept_from before x.number in
        let done_lanes : List Intake = map (done queries tables kept x.tuples x.number) (pieces_from 0 entries) in
        ap (λ is. engine_answers queries sets (all_ended x.number (map intake_of (pieces_from 0 entries)) is)) (same_items before last x.number x.tuples m widths)
        ∙ ap (engine_answers queries sets) (ended_done queries tables x.number kept x.tuples (pieces_from 0 entries))
        ∙ window_is typed_for tables x.number queries entries kept x.tuples (engine_answers queries sets done_lanes) t h can widths
        (some_window queries tables x.number kept x.tuples (pieces_from 0 entries) lanes are some) refl (ap (parts_of queries) (same_left before x.number kept x.tuples (are_kept before last x.number m)))

    each_window : (windows : List (Tuples (List ℕ))) (before : Option (ℕ × List Set)) (last : Option Answers) → Matches before last → HaveWidths windows →
        answers_of (workings queries entries) lanes before windows ≡ answers_from queries tables entries last (map given_of windows)
    each_window [] before last m widths = refl
    each_window (x ∷ xs) before last m widths =
        let wanted : Answers = window_answers queries tables entries (kept_in queries last x.number) x.number x.tuples in
        ap (λ (a : Answers). a ∷ answers_of (workings queries entries) lanes (Some (x.number, map (prefixes_in queries a.parts) (map source_of (pieces_from 0 entries)))) xs) (one_window before last x m widths.0)
        ∙ ap (λ rest. wanted ∷ rest)
        (each_window xs (Some (x.number, map (prefixes_in queries wanted.parts) (map source_of (pieces_from 0 entries)))) (Some wanted) (refl, refl) widths.1)

    pub plan_windows : (windows : List (Tuples (List ℕ))) → HaveWidths windows →
        answers_of (workings queries entries) lanes None windows ≡ answers_from queries tables entries None (map given_of windows)
    plan_windows windows widths = each_window windows None None tt widths
