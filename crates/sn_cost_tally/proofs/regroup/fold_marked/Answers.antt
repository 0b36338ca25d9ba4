use Rattle.std.proofs.Common.{◌≡◌, ◌<◌, ◌≤◌, ℕ, List, length, map, min, slice_get, slice_index, Some, take, Bool, ap, sym, subst, ◌∙◌, arith}
use Rattle.std.proofs.lemmas.List.{length-map}
use Rattle.indexmap.specs.IndexSet.{insert_key}
use Rattle.sn_base.specs.AnyFold.{any_has, any_step, any_unit}
use Rattle.sn_base.specs.Folds.{HasBits, capped_sum}
use Rattle.sn_base.specs.Groups.{Row, folded, same_row}
use Rattle.sn_cost_seats.specs.Seats.{row_at, rows_at}
use Rattle.sn_cost_seats.specs.Tallies.{marked}
use Rattle.sn_cost_tally.specs.Counts.{counted}
use Rattle.sn_cost_tally.specs.Numbered.{folded_into, zipped}
use Rattle.sn_cost_tally.proofs.Counting.{counted_had}
use Rattle.sn_cost_tally.proofs.Folding.{folded_long, zip_at, zip_long}
use Rattle.sn_cost_tally.proofs.Grouping.{all_at, read_whole}
use Rattle.sn_cost_tally.proofs.Regrouping.{counted_one, folded_one, key_got, marked_had, marked_whole, nothing, one_marked, one_unmarked, so_far_had}
use Rattle.sn_cost_tally.proofs.Renumbering.{got_map, same_renumbered}
use Rattle.sn_cost_tally.proofs.regroup.fold_marked.Goals as goal
use Rattle.sn_cost_tally.proofs.regroup.fold_marked.Goals.{then-marks-place+in_ok-number+in_ok-fold_in+in_ok-fold_in-2, else-marks-place}

abbrev values : ℕ → List Row → List ℕ
values value rows = map (λ row. slice_index row value) rows

pub loop-place-init : goal.loop-place-init
loop-place-init g c =
    let none = c.in_ok-own.ensures.keys in
    let f = c.args.fold in
    record {
      so_far = c.in_ok-own.ensures.so_far;
      times = ap (λ (ks : List Row). zipped ks c.new-times.result.items) none ∙ ap counted (sym (nothing {X = Row} c.args.marks.now));
      totals = ap (λ (ks : List Row). zipped ks c.new-totals.result.items) none ∙ ap (folded same_row (any_step f) (any_unit f)) (sym (nothing {X = Row × ℕ} c.args.marks.now));
      times_long = ap length c.new-times.ensures.items ∙ sym (ap length none);
      totals_long = ap length c.new-totals.ensures.items ∙ sym (ap length none);
    }

pub fold_in-requires-clause-so_far : goal.fold_in-requires-clause-so_far
fold_in-requires-clause-so_far g c =
    let all : List Row = c.args.all.now.keys in
    let key : Row = row_at all c.index.result.now in
    let ks : List Row = c.loop-place.own.keys in
    let ns : List ℕ = c.loop-place.times.items in
    let before = c.loop-place.invariant in
    so_far_had (HasBits 64) key 0 ks ns c.in_ok-number.number before.times_long c.in_ok-number.ensures.place
    (counted_had (marked c.args.marks.now (take c.loop-place.place (rows_at all c.args.all.now.of_rows.items))) (zipped ks ns) key before.times)

pub column-requires : goal.column-requires
column-requires g c = all_at (λ (row : Row). c.args.value < length row) c.args.rows.now c.loop-place.place (g.R.Columns.columns c.at.result.now) c.requires.value c.at.ensures

pub fold_in-requires-then-marks-place-clause-so_far : goal.fold_in-requires-then-marks-place-clause-so_far
fold_in-requires-then-marks-place-clause-so_far g c =
    let a = c.args in
    let all : List Row = a.all.now.keys in
    let key : Row = row_at all c.index.result.now in
    let ks : List Row = c.loop-place.own.keys in
    let ns : List ℕ = c.loop-place.totals.items in
    let before = c.loop-place.invariant in
    so_far_had (any_has a.fold) key (any_unit a.fold) ks ns c.in_ok-number.number before.totals_long c.in_ok-number.ensures.place
    (marked_had a.fold a.value a.rows.now (rows_at all a.all.now.of_rows.items) a.marks.now c.loop-place.place (zipped ks ns) key c.requires.had before.totals)

pub fold_in-requires-then-marks-place-clause-value : goal.fold_in-requires-then-marks-place-clause-value
fold_in-requires-then-marks-place-clause-value g c =
    let a = c.args in
    let row : Row = g.R.Columns.columns c.at.result.now in
    let had : any_has a.fold (slice_index row a.value) = all_at (λ (x : Row). any_has a.fold (slice_index x a.value)) a.rows.now c.loop-place.place row c.requires.had c.at.ensures in
    subst (any_has a.fold) (sym (read_whole a.fold (slice_index row a.value) c.word-amount.result _ had c.word-amount.ensures c.column.ensures)) had

pub loop-place-preserved : goal.loop-place-preserved
loop-place-preserved g c =
    let a = c.args in
    let all : List Row = a.all.now.keys in
    let numbers : List ℕ = a.all.now.of_rows.items in
    let marks : List Bool = a.marks.now in
    let rows : List Row = a.rows.now in
    let keys : List Row = rows_at all numbers in
    let pairs : List (Row × ℕ) = zipped keys (values a.value rows) in
    let i : ℕ = c.loop-place.place in
    let ks : List Row = c.loop-place.own.keys in
    let now : List Row = c.if-marks-place.own.keys in
    let times : List ℕ = c.loop-place.times.items in
    let times_new : List ℕ = c.if-marks-place.times.items in
    let totals : List ℕ = c.loop-place.totals.items in
    let totals_new : List ℕ = c.if-marks-place.totals.items in
    let before = c.loop-place.invariant in
    let lt : i < length marks = omega (arith, c.loop-place-test.true, c.min-place-end.ensures) in
    let within : i < length numbers = omega (arith, c.loop-place-test.true, c.min-place-end.ensures, c.len.ensures, c.requires.long) in
    elim c.if-marks-place.branch [
      | then-marks-place+in_ok-number+in_ok-fold_in+in_ok-fold_in-2 w ↦
          (let key : Row = row_at all w.index.result.now in
          let row : Row = g.R.Columns.columns w.at.result.now in
          let v : ℕ = slice_index row a.value in
          let number : ℕ = w.in_ok-number.number in
          let keys_now : now ≡ w.number.new.self.keys = ap (λ o. o.keys) w.own-is in
          let grown : now ≡ insert_key same_row ks key = keys_now ∙ w.in_ok-number.ensures.keys in
          let counted_now : times_new ≡ folded_into (capped_sum 64) 0 times number 1 = ap (λ v. v.items) w.times-is ∙ w.in_ok-fold_in.ensures in
          let had : any_has a.fold v = all_at (λ (x : Row). any_has a.fold (slice_index x a.value)) rows i row c.requires.had w.at.ensures in
          let read : w.word-amount.result ≡ v = read_whole a.fold v w.word-amount.result _ had w.word-amount.ensures w.column.ensures in
          let folded_now : totals_new ≡ folded_into (any_step a.fold) (any_unit a.fold) totals number v =
          ap (λ v. v.items) w.totals-is ∙ w.in_ok-fold_in-2.ensures ∙ ap (folded_into (any_step a.fold) (any_unit a.fold) totals number) read in
          let key_is : slice_get keys i ≡ Some key = key_got all numbers i w.index.result.now within w.index.ensures in
          record {
            so_far = same_renumbered all w.number.new.self.keys now w.number.new.self.places.items c.if-marks-place.own.places.items w.number.new.self.slots.items c.if-marks-place.own.slots.items keys_now
                (ap (λ o. o.places.items) w.own-is) (ap (λ o. o.slots.items) w.own-is) w.in_ok-number.ensures.so_far;
            times = counted_one key ks now times times_new number before.times_long grown w.in_ok-number.ensures.place (marked marks (take i keys)) counted_now before.times
                ∙ ap counted (sym (one_marked marks keys i key lt w.if-marks-place.true key_is));
            totals = folded_one key ks now totals totals_new number before.totals_long grown w.in_ok-number.ensures.place (any_step a.fold) (any_unit a.fold) v (marked marks (take i pairs)) folded_now before.totals
                ∙ ap (folded same_row (any_step a.fold) (any_unit a.fold))
                (sym (one_marked marks pairs i (key, v) lt w.if-marks-place.true (zip_at keys (values a.value rows) i key v key_is (got_map (λ (x : Row). slice_index x a.value) rows i row w.at.ensures))));
            times_long = folded_long key (capped_sum 64) 0 1 ks now times times_new number before.times_long grown w.in_ok-number.ensures.place counted_now;
            totals_long = folded_long key (any_step a.fold) (any_unit a.fold) v ks now totals totals_new number before.totals_long grown w.in_ok-number.ensures.place folded_now;
          })
      | else-marks-place w ↦
          (let keys_now : now ≡ ks = ap (λ o. o.keys) w.own-is in
          let times_now : times_new ≡ times = ap (λ v. v.items) w.times-is in
          let totals_now : totals_new ≡ totals = ap (λ v. v.items) w.totals-is in
          record {
            so_far = same_renumbered all ks now c.loop-place.own.places.items c.if-marks-place.own.places.items c.loop-place.own.slots.items c.if-marks-place.own.slots.items keys_now (ap (λ o. o.places.items) w.own-is)
                (ap (λ o. o.slots.items) w.own-is) before.so_far;
            times = ap (λ xs. zipped xs times_new) keys_now ∙ ap (zipped ks) times_now ∙ before.times ∙ ap counted (sym (one_unmarked marks keys i lt w.if-marks-place.false));
            totals = ap (λ xs. zipped xs totals_new) keys_now ∙ ap (zipped ks) totals_now ∙ before.totals
                ∙ ap (folded same_row (any_step a.fold) (any_unit a.fold)) (sym (one_unmarked marks pairs i lt w.if-marks-place.false));
            times_long = ap length times_now ∙ before.times_long ∙ sym (ap length keys_now);
            totals_long = ap length totals_now ∙ before.totals_long ∙ sym (ap length keys_now);
          })
    ]

pub returns-clause-times : goal.returns-clause-times
returns-clause-times g c =
    let keys : List Row = rows_at c.args.all.now.keys c.args.all.now.of_rows.items in
    let past : min (length c.args.marks.now) (length keys) ≤ c.loop-place.place =
    omega (arith, c.loop-place-test.false, c.min-place-end.ensures, c.len.ensures, c.requires.long, length-map c.args.all.now.of_rows.items (row_at c.args.all.now.keys)) in
    c.loop-place.invariant.times ∙ ap counted (marked_whole c.args.marks.now keys c.loop-place.place past)

pub returns-clause-totals : goal.returns-clause-totals
returns-clause-totals g c =
    let a = c.args in
    let keys : List Row = rows_at a.all.now.keys a.all.now.of_rows.items in
    let vs : List ℕ = values a.value a.rows.now in
    let pairs : List (Row × ℕ) = zipped keys vs in
    let of_keys = length-map a.all.now.of_rows.items (row_at a.all.now.keys) in
    let of_values = length-map a.rows.now (λ (row : Row). slice_index row a.value) in
    let long : length vs ≡ length keys = omega (arith, c.requires.long, of_keys, of_values) in
    let past : min (length a.marks.now) (length pairs) ≤ c.loop-place.place =
    omega (arith, c.loop-place-test.false, c.min-place-end.ensures, c.len.ensures, c.requires.long, of_keys, zip_long keys vs long) in
    c.loop-place.invariant.totals ∙ ap (folded same_row (any_step a.fold) (any_unit a.fold)) (marked_whole a.marks.now pairs c.loop-place.place past)
