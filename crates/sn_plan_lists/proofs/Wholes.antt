-- The plans that fit are those that complete lists of choices name.
use Rattle.std.proofs.Common.{◌≡◌, ℕ, zero, suc, ◌+◌, ◌<◌, ◌≤◌, List, [], ◌∷◌, ◌++◌, map, length, Bool, false, ◌||◌, refl, ap, sym, ◌∙◌, subst, arith, inl, inr}
use Rattle.std.specs.Prelude.{◌⊎◌, nat_lt}
use Rattle.std.specs.List.{AllByRecursion, flat_map, list_any, sum_by, range_with_len}
use Rattle.std.proofs.Math.Nat.{eq-or-lt_of_le}
use Rattle.sn_plan_grammar.specs.declared.plan.Entry.{Entry}
use Rattle.sn_switch.specs.declared.switch.Switch.{Switch}
use Rattle.sn_types.specs.declared.typed_query.TypedQuery.{TypedQuery}
use Rattle.sn_base.specs.Rising.{IsRising}
use Rattle.sn_plan_fit.specs.Registers.{Register, count_in, bits_in}
use Rattle.sn_plan_fit.specs.Pieces.{entry_registers, entry_metadata, all_registers, all_metadata}
use Rattle.sn_plan_fit.specs.Fits.{IsPath, IsEntryOf, AreEntriesOf, PieceFits, PiecesFit, StageFits, Fits}
use Rattle.sn_tree_space.specs.declared.follow.Follow.TheVariants.{Complete}
use Rattle.sn_tree_space.specs.Space.{IsPlan, IsFirstLeast}
use Rattle.sn_plan_choices.specs.Options.{path_of, paths}
use Rattle.sn_plan_choices.specs.Planning.{Taken, is_past, is_full, is_too_much, registers_in, metadata_of as taken_metadata, Task, for_path, for_piece, for_stage, pieces_of, planning, choices_of, first_tasks}
use Rattle.sn_plan_lists.specs.Numbers.{path_number}
use Rattle.sn_plan_lists.specs.Chosen.{path_seats, plan_at, piece_choices, entry_choices, plan_choices, HasLevels}
use Rattle.sn_plan_lists.specs.Costs.{entry_cost, plan_cost}
use Rattle.sn_plan_lists.specs.Theorems.{plans_of, NamesPlan, IsNamed, HaveRisingNumbers}
use Rattle.sn_plan_lists.proofs.PathNumbers.{path_of_fits, number_below, number_of_path, path_of_number}
use Rattle.sn_plan_lists.proofs.Pieces.{seat_of, ByGaps, pieces_run, pieces_split}
use Rattle.sn_plan_lists.proofs.Readings.{seats_known, seats_placed, GoodEntry, good_entry, plan_read}
use Rattle.sn_plan_lists.proofs.Runs.{Does, taken_by, plan_runs, run_is_plan, run_costs}
use Rattle.sn_plan_lists.proofs.Seats.{task_at, query_tasks}
use Rattle.sn_plan_lists.proofs.Slots.{Runs}
use Rattle.sn_base.proofs.Lists.{or_none}
use Rattle.sn_base.proofs.Tests.{not_less as not_past, not_less_is as is_within}

path_fits : (q : TypedQuery) (m : ℕ) → HasLevels q → IsPath q.levels (path_of m q.levels)
path_fits q m h = by_levels q.levels h.some h.rising
  where
    by_levels : (ls : List ℕ) → 1 ≤ length ls → IsRising ls → IsPath ls (path_of m ls)
    by_levels [] some rising = absurd (omega arith)
    by_levels (l ∷ ls) some rising = path_of_fits m l ls rising

-- ---- loads

or_neither : (a b : Bool) → a ≡ false → b ≡ false → (a || b) ≡ false
or_neither a b e f = ap (λ x. x || b) e ∙ f

none_over : (s : Switch) (registers : List Register) (first count : ℕ) → ((stage : ℕ) → stage < first + count → StageFits s registers stage)
    → list_any (λ stage. nat_lt s.actions (count_in stage registers) || nat_lt s.bits (bits_in stage registers)) (range_with_len first count) ≡ false
none_over s registers first zero h = refl
none_over s registers first (suc count) h =
    let here = h first (omega arith) in
    or_neither (nat_lt s.actions (count_in first registers) || nat_lt s.bits (bits_in first registers))
    (list_any (λ stage. nat_lt s.actions (count_in stage registers) || nat_lt s.bits (bits_in stage registers)) (range_with_len (first + 1) count))
    (or_neither (nat_lt s.actions (count_in first registers)) (nat_lt s.bits (bits_in first registers)) (not_past s.actions (count_in first registers) here.actions) (not_past s.bits (bits_in first registers) here.bits))
    (none_over s registers (first + 1) count (λ stage k. h stage (omega arith)))

each_under : (s : Switch) (registers : List Register) (first count stage : ℕ)
    → list_any (λ stage. nat_lt s.actions (count_in stage registers) || nat_lt s.bits (bits_in stage registers)) (range_with_len first count) ≡ false
    → first ≤ stage → stage < first + count → StageFits s registers stage
each_under s registers first zero stage e h k = absurd (omega arith)
each_under s registers first (suc count) stage e h k = by_place (eq-or-lt_of_le h) (each_under s registers (first + 1) count stage)
  where
    by_place : (first ≡ stage) ⊎ (first < stage)
        → (list_any (λ stage. nat_lt s.actions (count_in stage registers) || nat_lt s.bits (bits_in stage registers)) (range_with_len (first + 1) count) ≡ false → first + 1 ≤ stage → stage < first + 1 + count → StageFits s registers stage)
        → StageFits s registers stage
    by_place (inl same) rest =
        let here = or_none (nat_lt s.actions (count_in first registers)) (nat_lt s.bits (bits_in first registers)) (or_none (nat_lt s.actions (count_in first registers) || nat_lt s.bits (bits_in first registers)) (list_any (λ stage. nat_lt s.actions (count_in stage registers) || nat_lt s.bits (bits_in stage registers)) (range_with_len (first + 1) count)) e).0 in
        subst (StageFits s registers) same (record { actions = is_within s.actions (count_in first registers) here.0; bits = is_within s.bits (bits_in first registers) here.1 })
    by_place (inr less) rest = rest (or_none (nat_lt s.actions (count_in first registers) || nat_lt s.bits (bits_in first registers)) (list_any (λ stage. nat_lt s.actions (count_in stage registers) || nat_lt s.bits (bits_in stage registers)) (range_with_len (first + 1) count)) e).1 (omega arith) (omega arith)

-- what is taken up isn't too much exactly where nothing is past the last stage and its registers and metadata keep the limits
keeps : (s : Switch) (taken : List Taken) (registers : List Register) (bits : ℕ) → list_any is_past taken ≡ false → registers_in taken ≡ registers → sum_by taken_metadata taken ≡ bits
    → ((stage : ℕ) → stage < s.stages → StageFits s registers stage) → bits ≤ s.meta → is_too_much s taken ≡ false
keeps s taken registers bits p r m loads meta =
    or_neither (list_any is_past taken) (list_any (is_full s taken) (range_with_len 0 s.stages) || nat_lt s.meta (sum_by taken_metadata taken)) p
    (or_neither (list_any (is_full s taken) (range_with_len 0 s.stages)) (nat_lt s.meta (sum_by taken_metadata taken))
    (ap (λ l. list_any (λ stage. nat_lt s.actions (count_in stage l) || nat_lt s.bits (bits_in stage l)) (range_with_len 0 s.stages)) r ∙ none_over s registers 0 s.stages (λ stage k. loads stage (omega arith)))
    (ap (nat_lt s.meta) m ∙ not_past s.meta bits meta))

record Kept (s : Switch) (taken : List Taken) (registers : List Register) (bits : ℕ) : Type 0 where
  loads : (stage : ℕ) → stage < s.stages → StageFits s registers stage
  meta : bits ≤ s.meta

kept : (s : Switch) (taken : List Taken) (registers : List Register) (bits : ℕ) → registers_in taken ≡ registers → sum_by taken_metadata taken ≡ bits → is_too_much s taken ≡ false → Kept s taken registers bits
kept s taken registers bits r m e =
    let a = or_none (list_any is_past taken) (list_any (is_full s taken) (range_with_len 0 s.stages) || nat_lt s.meta (sum_by taken_metadata taken)) e in
    let b = or_none (list_any (is_full s taken) (range_with_len 0 s.stages)) (nat_lt s.meta (sum_by taken_metadata taken)) a.1 in
    record {
      loads = λ stage k. each_under s registers 0 s.stages stage
          (ap (λ l. list_any (λ stage. nat_lt s.actions (count_in stage l) || nat_lt s.bits (bits_in stage l)) (range_with_len 0 s.stages)) (sym r) ∙ b.0) (omega arith) (omega arith);
      meta = is_within s.meta bits (ap (nat_lt s.meta) (sym m) ∙ b.1);
    }

none_past : (s : Switch) (taken : List Taken) → is_too_much s taken ≡ false → list_any is_past taken ≡ false
none_past s taken e = (or_none (list_any is_past taken) (list_any (is_full s taken) (range_with_len 0 s.stages) || nat_lt s.meta (sum_by taken_metadata taken)) e).0

module _ (s : Switch) (entry : ℕ → ℕ → ℕ → ℕ → ℕ) (by_gaps : ByGaps) where
  chooses : (t : Task) → choices_of s entry t ≡ Complete → ⊥
  chooses (for_path t) e = cc
  chooses (for_piece t) e = cc
  chooses (for_stage t) e = cc

  -- ---- a plan is chosen

  entry_run : (n : ℕ) (q : TypedQuery) (e : Entry) (ts : List Task) (rest : List ℕ) (cost : ℕ) (registers : List Register) (bits : ℕ) → HasLevels q → IsEntryOf q e → GoodEntry s q e
      → Runs s entry [] ts rest cost registers bits
      → Runs s entry [] (for_path (record { query = n; typed = q }) ∷ ts) (entry_choices s q e ++ rest) (entry_cost s entry n q e + cost) (entry_registers s.chain q e.pieces ++ registers)
      (entry_metadata q e.pieces + bits)
  entry_run n q e ts rest cost registers bits h is g r =
      let x = path_number q.levels e.levels in
      let below = number_below q.levels e.levels in
      let tasks : map (task_at n q e.levels) (map (seat_of q) e.pieces) ≡ pieces_of (record { query = n; typed = q }) x =
      ap (map (task_at n q e.levels)) g.seats ∙ sym (query_tasks n q x h.rising ∙ ap (λ path. map (task_at n q path) (path_seats q.branches path)) (path_of_number q.levels e.levels h.rising is.path)) in
      let next =
      subst (λ l. Runs s entry [] (map for_piece l ++ ts) (flat_map (piece_choices s q) e.pieces ++ rest) (entry_cost s entry n q e + cost) (entry_registers s.chain q e.pieces ++ registers) (entry_metadata q e.pieces + bits))
      tasks (pieces_run s entry by_gaps n q e.levels e.pieces ts rest cost registers bits g.good r) in
      record {
        does = ((omega arith, omega arith), next.does);
        spent = (let spent = next.spent in omega arith);
        past = next.past;
        standing = next.standing;
        metadata = next.metadata;
      }

  plan_run : (n : ℕ) (qs : List TypedQuery) (es : List Entry) → AllByRecursion HasLevels qs → AreEntriesOf qs es → PiecesFit (PieceFits s) qs es
      → Runs s entry [] (first_tasks n qs) (plan_choices s qs es) (plan_cost s entry n qs es) (all_registers s.chain qs es) (all_metadata qs es)
  plan_run n [] [] h is fits = record { does = tt; spent = refl; past = refl; standing = refl; metadata = refl }
  plan_run n [] (e ∷ es) h is fits = absurd is
  plan_run n (q ∷ qs) [] h is fits = absurd is
  plan_run n (q ∷ qs) (e ∷ es) h is fits =
      entry_run n q e (first_tasks (n + 1) qs) (plan_choices s qs es) (plan_cost s entry (n + 1) qs es) (all_registers s.chain qs es) (all_metadata qs es) h.0 is.0 (good_entry s q e is.0 fits.0)
      (plan_run (n + 1) qs es h.1 is.1 fits.1)

  -- ---- choices name a plan

  record PlanSplit (qs : List TypedQuery) (cs : List ℕ) : Type 0 where
    entries : List Entry
    is : cs ≡ plan_choices s qs entries
    paths : AreEntriesOf qs entries
    pieces : PiecesFit (PieceFits s) qs entries

  plan_split : (n : ℕ) (qs : List TypedQuery) (cs : List ℕ) → AllByRecursion HasLevels qs → IsRising s.slots → Does (planning s entry) (first_tasks n qs) cs
      → list_any is_past (taken_by (planning s entry) (first_tasks n qs) cs) ≡ false → PlanSplit qs cs
  plan_split n [] [] h z d p = record { entries = []; is = refl; paths = tt; pieces = tt }
  plan_split n [] (x ∷ cs) h z d p = absurd d
  plan_split n (q ∷ qs) [] h z d p = absurd d
  plan_split n (q ∷ qs) (x ∷ cs) h z d p =
      let path = path_of x q.levels in
      let seats = path_seats q.branches (path_of x q.levels) in
      let tasks = query_tasks n q x h.0.rising in
      let below : x < paths q.levels = (let k = d.0.1 in omega arith) in
      let does = subst (λ l. Does (planning s entry) (map for_piece l ++ first_tasks (n + 1) qs) cs) tasks d.1 in
      let past = subst (λ l. list_any is_past (taken_by (planning s entry) (map for_piece l ++ first_tasks (n + 1) qs) cs) ≡ false) tasks p in
      let here = pieces_split s entry by_gaps n q path seats (first_tasks (n + 1) qs) cs z (seats_known q path) does past in
      let more = plan_split (n + 1) qs here.rest h.1 z here.does here.past in
      record {
        entries = record { name = q.name; levels = path; pieces = here.pieces } ∷ more.entries;
        is = ap (λ (m : ℕ). m ∷ cs) (sym (number_of_path q.levels x h.0.rising below))
            ∙ ap (λ l. path_number q.levels path ∷ l) (here.is ∙ ap (λ l. flat_map (piece_choices s q) here.pieces ++ l) more.is);
        paths = (record { name = refl; path = path_fits q x h.0; pieces = here.places ∙ seats_placed q.branches path }, more.paths);
        pieces = (here.fits, more.pieces);
      }

  -- ---- both ways

  plan_is_named : (qs : List TypedQuery) (es : List Entry) → HaveRisingNumbers s qs → Fits qs s es → IsNamed s entry qs es
  plan_is_named qs es rising fits =
      let run = plan_run 0 qs es rising.levels fits.paths fits.pieces in
      record {
        plan = run_is_plan (planning s entry) chooses (first_tasks 0 qs) (plan_choices s qs es) run.does
            (keeps s (taken_by (planning s entry) (first_tasks 0 qs) (plan_choices s qs es)) (all_registers s.chain qs es) (all_metadata qs es) run.past run.standing run.metadata fits.loads fits.meta);
        one = record {
          plan = plan_read s qs es rising.levels fits.paths fits.pieces;
          choices = refl;
          cost = run_costs (planning s entry) chooses (first_tasks 0 qs) (plan_choices s qs es) run.does ∙ run.spent;
        };
      }

  -- a list of choices that names this plan
  named : (qs : List TypedQuery) (r : List ℕ) (es : List Entry) → HaveRisingNumbers s qs → r ≡ plan_choices s qs es → Fits qs s es → NamesPlan s entry qs r
  named qs r es rising is fits =
      let back : plan_at s qs r ≡ es = ap (plan_at s qs) is ∙ plan_read s qs es rising.levels fits.paths fits.pieces in
      let whole = plan_is_named qs es rising fits in
      record {
        fits = subst (Fits qs s) (sym back) fits;
        one = record {
          plan = refl;
          choices = ap (plan_choices s qs) back ∙ sym is;
          cost = ap (plans_of s entry qs).lower is ∙ whole.one.cost ∙ ap (plan_cost s entry 0 qs) (sym back);
        };
      }

  list_names_plan : (qs : List TypedQuery) (r : List ℕ) → HaveRisingNumbers s qs → IsPlan (plans_of s entry qs) r → NamesPlan s entry qs r
  list_names_plan qs r rising is =
      let run = plan_runs (planning s entry) chooses (first_tasks 0 qs) r is in
      let split = plan_split 0 qs r rising.levels rising.sizes run.0 (none_past s (taken_by (planning s entry) (first_tasks 0 qs) r) run.1) in
      let back = plan_run 0 qs split.entries rising.levels split.paths split.pieces in
      let fine = subst (λ l. is_too_much s (taken_by (planning s entry) (first_tasks 0 qs) l) ≡ false) split.is run.1 in
      let limits =
      kept s (taken_by (planning s entry) (first_tasks 0 qs) (plan_choices s qs split.entries)) (all_registers s.chain qs split.entries) (all_metadata qs split.entries) back.standing back.metadata fine in
      named qs r split.entries rising split.is (record { paths = split.paths; pieces = split.pieces; loads = limits.loads; meta = limits.meta })

pub plans_named : (s : Switch) (entry : ℕ → ℕ → ℕ → ℕ → ℕ) (by_gaps : ByGaps) (qs : List TypedQuery) (es : List Entry) → HaveRisingNumbers s qs → Fits qs s es → IsNamed s entry qs es
plans_named s entry by_gaps = plan_is_named s entry by_gaps

pub lists_name_plans : (s : Switch) (entry : ℕ → ℕ → ℕ → ℕ → ℕ) (by_gaps : ByGaps) (qs : List TypedQuery) (r : List ℕ) → HaveRisingNumbers s qs → IsPlan (plans_of s entry qs) r → NamesPlan s entry qs r
lists_name_plans s entry by_gaps = list_names_plan s entry by_gaps

-- no plan that fits costs less than that of a first least list
pub least_is_cheapest : (s : Switch) (entry : ℕ → ℕ → ℕ → ℕ → ℕ) (by_gaps : ByGaps) (qs : List TypedQuery) (r : List ℕ) (es : List Entry) → HaveRisingNumbers s qs → IsFirstLeast (plans_of s entry qs) r
    → Fits qs s es → plan_cost s entry 0 qs (plan_at s qs r) ≤ plan_cost s entry 0 qs es
least_is_cheapest s entry by_gaps qs r es rising least fits =
    let mine = (lists_name_plans s entry by_gaps qs r rising least.plan).one.cost in
    let other = plans_named s entry by_gaps qs es rising fits in
    let cost = other.one.cost in
    let most = least.least (plan_choices s qs es) other.plan in omega (arith, mine, cost, most)
