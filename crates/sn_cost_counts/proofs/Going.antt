-- Operators can be evaluated at the rows that come to them.
use Rattle.std.proofs.Common.{◌≡◌, ℕ, suc, ◌+◌, ◌*◌, ◌≤◌, ◌<◌, List, [], ◌∷◌, ◌++◌, map, filter, length, Bool, true, false, not, cond, slice_index, All, refl, ap, sym, subst, ◌∙◌, arith, take, drop, get_or, append_assoc, Result, Ok, Err, IfOk}
use Rattle.std.specs.List.{AllByRecursion, flat_map, list_all}
use Rattle.std.proofs.Math.Seq.{drop-cons}
use Rattle.std.proofs.lemmas.Grind.{flat_map-append}
use Rattle.std.proofs.lemmas.List.{append-nil, drop_all, length-map, take_all, take_more}
use Rattle.std.proofs.lemmas.List.Elements.{All-from_recursion, recursion_from_All}
use Rattle.sn_base.specs.AnyFold.{any_has}
use Rattle.sn_base.specs.Groups.{Row, once, same_row}
use Rattle.sn_base.specs.Operators.{Grouping, key_of, pair_of, row_for}
use Rattle.sn_base.proofs.GroupLemmas.{total, total_had}
use Rattle.sn_base.proofs.Lists.{all_append, all_filter, all_map, all_weaker, filter_short}
use Rattle.sn_base.proofs.OnceLemmas.{all_once}
use Rattle.sn_chain.specs.Chain.{has_home}
use Rattle.sn_ops.specs.Flow.{AllFit, CondsFit, ExprsFit, Fits, ReduceFits, grouping_of}
use Rattle.sn_types.specs.declared.typed_op.TOp.{TOp}
use Rattle.sn_types.specs.declared.typed_op.TOp.TheVariants as ops
use Rattle.sn_types.specs.declared.typed_op.TReduce.{TReduce}
use Rattle.sn_types.specs.Cuts.{is_stateful}
use Rattle.sn_types.specs.Values.{ReadsWithin, holds, op_at, value_of}
use Rattle.sn_cost_counts.specs.AnyFlow.{Flow}
use Rattle.sn_cost_counts.specs.Fitting.{AllGo, CanGo, Takes}
use Rattle.sn_cost_counts.specs.Flows.{counted, counts_from, held_rows, over_distinct, over_reduce, stepped, wider}
use Rattle.sn_windows.specs.Blocks.{most_records}

-- ---- lengths

once_fewer : {K : Type 0} (same : K → K → Bool) (ks : List K) → length (once same ks) ≤ length ks
once_fewer same [] = omega arith
once_fewer same (k ∷ ks) = let rest = once_fewer same ks in let less = filter_short (λ x. not (same k x)) (once same ks) in omega (arith, rest, less)

held_few : (depth slots : ℕ) (g : Grouping) (rows : List Row) → length (held_rows depth slots g rows) ≤ length rows
held_few depth slots g rows =
    let keys : List Row = map (key_of g) rows in
    let homes : List Row = filter (has_home depth slots keys) (once same_row keys) in
    let a = length-map homes (row_for g (map (pair_of g) rows)) in
    let b = filter_short (has_home depth slots keys) (once same_row keys) in
    let c = once_fewer same_row keys in
    let d = length-map rows (key_of g) in
    omega (arith, a, b, c, d)

-- ---- rows

row_fits : (r : TReduce) (row : Row) → Fits (ops.Reduce r) (row ∷ []) → any_has r.fold (slice_index row r.value)
row_fits r row h = (recursion_from_All (λ x. any_has r.fold (slice_index x r.value)) (row ∷ []) h.had).0

-- at the first operator
fits_first : (level : ℕ) (op : TOp) (os : List TOp) (row : Row) → Fits op [] → Takes level (op ∷ os) row → Fits op (row ∷ [])
fits_first level (ops.Filter conds) os row e h = h.0
fits_first level (ops.Map exprs) os row e h = h.0
fits_first level ops.Distinct os row e h = tt
fits_first level (ops.Reduce r) os row e h = h.0

-- an operator that fits each row fits all
fits_all : (op : TOp) (rows : List Row) → Fits op [] → AllByRecursion (λ row. Fits op (row ∷ [])) rows → Fits op rows
fits_all (ops.Filter conds) rows e h =
    All-from_recursion (λ row. All (λ c. c.col < length row) conds) rows
    (all_weaker (λ row. CondsFit conds (row ∷ [])) (λ row. All (λ c. c.col < length row) conds) (λ row f. (recursion_from_All (λ (x : Row). All (λ c. c.col < length x) conds) (row ∷ []) f).0) rows h)
fits_all (ops.Map exprs) rows e h = record {
  few = e.few;
  reads =
      All-from_recursion (λ row. All (λ x. ReadsWithin (length row) x) exprs) rows
      (all_weaker (λ row. ExprsFit exprs (row ∷ [])) (λ row. All (λ x. ReadsWithin (length row) x) exprs) (λ row f. (recursion_from_All (λ (y : Row). All (λ x. ReadsWithin (length y) x) exprs) (row ∷ []) f.reads).0) rows h);
}
fits_all ops.Distinct rows e h = tt
fits_all (ops.Reduce r) rows e h = record {
  few = e.few;
  places =
      All-from_recursion (λ row. All (λ place. place < length row) r.keys) rows
      (all_weaker (λ row. ReduceFits r (row ∷ [])) (λ row. All (λ place. place < length row) r.keys) (λ row f. (recursion_from_All (λ (y : Row). All (λ place. place < length y) r.keys) (row ∷ []) f.places).0) rows h);
  value =
      All-from_recursion (λ row. r.value < length row) rows
      (all_weaker (λ row. ReduceFits r (row ∷ [])) (λ row. r.value < length row) (λ row f. (recursion_from_All (λ (y : Row). r.value < length y) (row ∷ []) f.value).0) rows h);
  had =
      All-from_recursion (λ row. any_has r.fold (slice_index row r.value)) rows
      (all_weaker (λ row. ReduceFits r (row ∷ [])) (λ row. any_has r.fold (slice_index row r.value)) (λ row f. row_fits r row f) rows h);
}

pub fits_next : (level : ℕ) (op : TOp) (os : List TOp) (rows : List Row) → AllFit level (op ∷ os) [] → AllByRecursion (Takes level (op ∷ os)) rows → Fits op rows
fits_next level op os rows e h = fits_all op rows e.0 (all_weaker (Takes level (op ∷ os)) (λ row. Fits op (row ∷ [])) (λ row t. fits_first level op os row e.0 t) rows h)

-- what a reduce holds can go on
held_takes : (level depth slots : ℕ) (r : TReduce) (os : List TOp) (rows : List Row) → AllByRecursion (Takes level (ops.Reduce r ∷ os)) rows → AllByRecursion (Takes level os) (held_rows depth slots (grouping_of r) rows)
held_takes level depth slots r os rows h =
    let g : Grouping = grouping_of r in
    let P : Row → Type 0 = λ k. (a : ℕ) → any_has r.fold a → Takes level os (k ++ a ∷ []) in
    let keys : List Row = map (key_of g) rows in
    let homes : List Row = filter (has_home depth slots keys) (once same_row keys) in
    let pairs : List (Row × ℕ) = map (pair_of g) rows in
    let had : AllByRecursion (λ (p : Row × ℕ). any_has r.fold p.1) pairs =
    all_map (λ (p : Row × ℕ). any_has r.fold p.1) (pair_of g) rows (all_weaker (Takes level (ops.Reduce r ∷ os)) (λ row. any_has r.fold (slice_index row r.value)) (λ row t. row_fits r row t.0) rows h) in
    let each : AllByRecursion P keys = all_map P (key_of g) rows (all_weaker (Takes level (ops.Reduce r ∷ os)) (λ row. P (key_of g row)) (λ row t. t.1) rows h) in
    all_map (Takes level os) (row_for g pairs) homes
    (all_weaker P (λ k. Takes level os (row_for g pairs k)) (λ k takes. takes (total g pairs k) (total_had g pairs k had)) homes (all_filter P (has_home depth slots keys) (once same_row keys) (all_once same_row P keys each)))

-- ---- one operator

more_sent : (passed sent over rows : ℕ) → sent ≤ passed * most_records → over ≤ rows → rows ≤ most_records → sent + over ≤ suc passed * most_records
more_sent passed sent over rows a b c = omega (arith, a, b, c)

no_more_sent : (passed sent : ℕ) → sent ≤ passed * most_records → sent ≤ suc passed * most_records
no_more_sent passed sent a = omega (arith, a)

step_goes : (level passed depth slots : ℕ) (op : TOp) (os : List TOp) (f : Flow) → CanGo level passed (op ∷ os) f → CanGo level (suc passed) os (stepped depth slots (op_at level op) f)
step_goes level passed depth slots (ops.Filter conds) os f h =
    let t : Row → Bool = λ row. list_all (λ c. holds level c row) conds in
    let on : AllByRecursion (Takes level os) f.rows = all_weaker (Takes level (ops.Filter conds ∷ os)) (Takes level os) (λ row x. x.1) f.rows h.takes in
    (elim f.whole as (λ b. CanGo level (suc passed) os (cond b f (record f { rows = filter t f.rows }))) [
      | true ↦ record { sent = no_more_sent passed f.sent h.sent; few = h.few; takes = on }
      | false ↦ record { sent = no_more_sent passed f.sent h.sent; few = let a = h.few in let b = filter_short t f.rows in omega (arith, a, b); takes = all_filter (Takes level os) t f.rows on }
    ])
step_goes level passed depth slots (ops.Map exprs) os f h =
    let m : Row → Row = λ row. map (λ e. value_of e row) exprs in
    record {
      sent = no_more_sent passed f.sent h.sent;
      few = let a = h.few in let b = length-map f.rows m in omega (arith, a, b);
      takes = all_map (Takes level os) m f.rows (all_weaker (Takes level (ops.Map exprs ∷ os)) (λ row. Takes level os (m row)) (λ row x. x.1) f.rows h.takes);
    }
step_goes level passed depth slots ops.Distinct os f h =
    let home : Row → Bool = λ row. has_home depth slots f.rows row in
    record {
      sent = more_sent passed f.sent (length (over_distinct depth slots f.rows)) (length f.rows) h.sent (filter_short (λ row. not (home row)) f.rows) h.few;
      few = let a = h.few in let b = filter_short home f.rows in let c = once_fewer same_row (filter home f.rows) in omega (arith, a, b, c);
      takes = all_once same_row (Takes level os) (filter home f.rows) (all_filter (Takes level os) home f.rows h.takes);
    }
step_goes level passed depth slots (ops.Reduce r) os f h =
    let g : Grouping = grouping_of r in
    record {
      sent = more_sent passed f.sent (length (over_reduce depth slots g f.rows)) (length f.rows) h.sent (filter_short (λ row. not (has_home depth slots (map (key_of g) f.rows) (key_of g row))) f.rows) h.few;
      few = let a = h.few in let b = held_few depth slots g f.rows in omega (arith, a, b);
      takes = held_takes level depth slots r os f.rows h.takes;
    }

sizes_go : (level passed depth : ℕ) (slots : List ℕ) (op : TOp) (os : List TOp) (f : Flow) → CanGo level passed (op ∷ os) f → AllByRecursion (CanGo level (suc passed) os) (map (λ size. stepped depth size (op_at level op) f) slots)
sizes_go level passed depth [] op os f h = tt
sizes_go level passed depth (size ∷ slots) op os f h = (step_goes level passed depth size op os f h, sizes_go level passed depth slots op os f h)

flat_go : (level passed depth : ℕ) (slots : List ℕ) (op : TOp) (os : List TOp) (fs : List Flow) → AllByRecursion (CanGo level passed (op ∷ os)) fs
    → AllByRecursion (CanGo level (suc passed) os) (flat_map (λ f. map (λ size. stepped depth size (op_at level op) f) slots) fs)
flat_go level passed depth slots op os [] h = tt
flat_go level passed depth slots op os (f ∷ fs) h =
    all_append (CanGo level (suc passed) os) (map (λ size. stepped depth size (op_at level op) f) slots) (flat_map (λ f. map (λ size. stepped depth size (op_at level op) f) slots) fs)
    (sizes_go level passed depth slots op os f h.0) (flat_go level passed depth slots op os fs h.1)

-- what fits no row fits none after an operator
none_fit : (level : ℕ) (op : TOp) (os : List TOp) → AllFit level (op ∷ os) [] → AllFit level os []
none_fit level (ops.Filter conds) os h = h.1
none_fit level (ops.Map exprs) os h = h.1
none_fit level ops.Distinct os h = h.1
none_fit level (ops.Reduce r) os h = h.1

pub wider_go : (level passed depth : ℕ) (slots : List ℕ) (op : TOp) (os : List TOp) (fs : List Flow) → AllGo level passed (op ∷ os) fs → AllGo level (suc passed) os (wider depth level slots op fs)
wider_go level passed depth slots op os fs h = record {
  operators = none_fit level op os h.operators;
  each = (elim (is_stateful op) as (λ b. AllByRecursion (CanGo level (suc passed) os) (cond b (flat_map (λ f. map (λ size. stepped depth size (op_at level op) f) slots) fs) (map (stepped depth 0 (op_at level op)) fs))) [
    | true ↦ flat_go level passed depth slots op os fs h.each
    | false ↦ all_map (CanGo level (suc passed) os) (stepped depth 0 (op_at level op)) fs (all_weaker (CanGo level passed (op ∷ os)) (λ f. CanGo level (suc passed) os (stepped depth 0 (op_at level op) f)) (λ f x. step_goes level passed depth 0 op os f x) fs h.each)
  ]);
}

-- ---- all of them

pub all_sent : (level m passed : ℕ) (ahead : List TOp) (fs : List Flow) → passed ≤ m → AllGo level passed ahead fs → All (λ (f : Flow). f.sent ≤ m * most_records) fs
all_sent level m passed ahead fs le h =
    All-from_recursion (λ (f : Flow). f.sent ≤ m * most_records) fs
    (all_weaker (CanGo level passed ahead) (λ (f : Flow). f.sent ≤ m * most_records) (λ f x. let s = x.sent in omega (arith, le, s)) fs h.each)

pub all_few : (level passed : ℕ) (ahead : List TOp) (fs : List Flow) → AllGo level passed ahead fs → All (λ (f : Flow). length f.rows ≤ most_records) fs
all_few level passed ahead fs h =
    All-from_recursion (λ (f : Flow). length f.rows ≤ most_records) fs (all_weaker (CanGo level passed ahead) (λ (f : Flow). length f.rows ≤ most_records) (λ f x. x.few) fs h.each)

pub all_fit : (level passed : ℕ) (op : TOp) (os : List TOp) (fs : List Flow) → AllGo level passed (op ∷ os) fs → All (λ (f : Flow). Fits op f.rows) fs
all_fit level passed op os fs h =
    All-from_recursion (λ (f : Flow). Fits op f.rows) fs
    (all_weaker (CanGo level passed (op ∷ os)) (λ (f : Flow). Fits op f.rows) (λ f x. fits_next level op os f.rows h.operators x.takes) fs h.each)

-- ---- operators one after another

-- the counts of the operators before this one are there, and its rows with them
pub record Along (depth level : ℕ) (slots : List ℕ) (os : List TOp) (all : List ℕ) (passed i : ℕ) (fs : List Flow) (counts : List ℕ) : Type 0 where
  pub reported : counts ++ counts_from depth level slots (drop i os) fs ≡ all
  pub go : AllGo level (passed + i) (drop i os) fs

pub operators_ahead : (os : List TOp) (i : ℕ) (op : TOp) → i < length os → op ≡ get_or os i op → drop i os ≡ op ∷ drop (i + 1) os
operators_ahead os i op lt at =
    let next : suc i ≡ i + 1 = omega arith in
    drop-cons os i op lt ∙ ap (λ x. x ∷ drop (suc i) os) (sym at) ∙ ap (λ n. op ∷ drop n os) next

pub one_ahead : (level passed i : ℕ) (os : List TOp) (op : TOp) (fs : List Flow) → i < length os → op ≡ get_or os i op → AllGo level passed (drop i os) fs → AllGo level passed (op ∷ drop (i + 1) os) fs
one_ahead level passed i os op fs lt at h = subst (λ (xs : List TOp). AllGo level passed xs fs) (operators_ahead os i op lt at) h

pub at_first : (depth level : ℕ) (slots : List ℕ) (os : List TOp) (passed : ℕ) (first : List Flow) (before : List ℕ) → AllGo level passed os first → Along depth level slots os (before ++ counts_from depth level slots os first) passed 0 first before
at_first depth level slots os passed first before h = let e : passed ≡ passed + 0 = omega arith in record { reported = refl; go = subst (λ n. AllGo level n os first) e h }

pub one_along : (depth level : ℕ) (slots : List ℕ) (os : List TOp) (all : List ℕ) (passed i : ℕ) (op : TOp) (fs next : List Flow) (counts more : List ℕ) → i < length os → op ≡ get_or os i op
    → Along depth level slots os all passed i fs counts → more ≡ counts ++ map counted fs → next ≡ wider depth level slots op fs → Along depth level slots os all passed (i + 1) next more
one_along depth level slots os all passed i op fs next counts more lt at so_far grown wide =
    let n : suc (passed + i) ≡ passed + (i + 1) = omega arith in
    let go : AllGo level (passed + (i + 1)) (drop (i + 1) os) (wider depth level slots op fs) =
    subst (λ m. AllGo level m (drop (i + 1) os) (wider depth level slots op fs)) n (wider_go level (passed + i) depth slots op (drop (i + 1) os) fs (one_ahead level (passed + i) i os op fs lt at so_far.go)) in
    record {
      reported =
          ap (λ xs. xs ++ counts_from depth level slots (drop (i + 1) os) next) grown
          ∙ append_assoc counts (map counted fs) (counts_from depth level slots (drop (i + 1) os) next)
          ∙ ap (λ x. counts ++ (map counted fs ++ counts_from depth level slots (drop (i + 1) os) x)) wide
          ∙ sym (ap (λ (xs : List TOp). counts ++ counts_from depth level slots xs fs) (operators_ahead os i op lt at))
          ∙ so_far.reported;
      go = subst (AllGo level (passed + (i + 1)) (drop (i + 1) os)) (sym wide) go;
    }

pub all_along : (depth level : ℕ) (slots : List ℕ) (os : List TOp) (all : List ℕ) (passed i : ℕ) (fs : List Flow) (counts more : List ℕ) → length os ≤ i → Along depth level slots os all passed i fs counts → more ≡ counts ++ map counted fs → more ≡ all
all_along depth level slots os all passed i fs counts more le so_far grown =
    grown ∙ sym (ap (λ (xs : List TOp). counts ++ counts_from depth level slots xs fs) (drop_all i os le)) ∙ so_far.reported

-- ---- what is after an operator

pub wide_sizes : (depth level : ℕ) (slots : List ℕ) (op : TOp) (fs : List Flow) → is_stateful op ≡ true → flat_map (λ f. map (λ size. stepped depth size (op_at 0 op) f) slots) fs ≡ wider depth level slots op fs
wide_sizes depth level slots (ops.Filter conds) fs is = absurd cc
wide_sizes depth level slots (ops.Map exprs) fs is = absurd cc
wide_sizes depth level slots ops.Distinct fs is = refl
wide_sizes depth level slots (ops.Reduce r) fs is = refl

pub wide_one : (depth level : ℕ) (slots : List ℕ) (op : TOp) (fs : List Flow) → is_stateful op ≡ false → map (stepped 0 0 (op_at level op)) fs ≡ wider depth level slots op fs
wide_one depth level slots (ops.Filter conds) fs isnt = refl
wide_one depth level slots (ops.Map exprs) fs isnt = refl
wide_one depth level slots ops.Distinct fs isnt = absurd cc
wide_one depth level slots (ops.Reduce r) fs isnt = absurd cc

-- ---- lists that grow

pub flows_grown : (f : Flow → List Flow) (out more flows : List Flow) (i : ℕ) (x : Flow) → i < length flows → x ≡ get_or flows i x → out ≡ flat_map f (take i flows) → more ≡ out ++ f x → more ≡ flat_map f (take (i + 1) flows)
flows_grown f out more flows i x lt at so_far grown =
    grown ∙ ap (λ xs. xs ++ f x) so_far ∙ ap (λ xs. flat_map f (take i flows) ++ xs) (sym (append-nil (f x)))
    ∙ sym (ap (flat_map f) (take_more flows i x lt ∙ ap (λ y. take i flows ++ y ∷ []) (sym at)) ∙ flat_map-append f (take i flows) (x ∷ []))

-- as many as were taken out are written back
pub written_back : (n : ℕ) (old new : List Flow) → length new ≡ length old → n ≡ length old → take n (new ++ drop (length new) old) ≡ new
written_back n old new long is =
    ap (λ xs. take n (new ++ xs)) (drop_all (length new) old (omega (arith, long)))
    ∙ ap (take n) (append-nil new) ∙ take_all n new (omega (arith, long, is))

-- ---- answers

pub if_ok : {A E : Type 0} (r : Result A E) (P Q : A → Type 0) → ((x : A) → P x → Q x) → IfOk r P → IfOk r Q
if_ok (Ok x) P Q f h = f x h
if_ok (Err e) P Q f h = tt
