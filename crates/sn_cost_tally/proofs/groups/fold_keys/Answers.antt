use Rattle.std.proofs.Common.{◌≡◌, ℕ, ◌<◌, ◌≤◌, List, ◌++◌, fold, length, map, replicate, take, slice_index, slice_index_or, Option, unwrap_or, ap, sym, subst, ◌∙◌, arith}
use Rattle.std.specs.List.{position_or_len}
use Rattle.std.specs.Map.{lookup}
use Rattle.std.specs.Option.{option_copied}
use Rattle.std.proofs.lemmas.List.{take_all}
use Rattle.indexmap.specs.IndexSet.{insert_key}
use Rattle.sn_base.specs.AnyFold.{any_has, any_step, any_unit}
use Rattle.sn_base.specs.Folds.{HasBits, capped_sum}
use Rattle.sn_base.specs.Groups.{Row, columns_at, folded, keyed, same_row}
use Rattle.sn_cost_tally.specs.Counts.{counted}
use Rattle.sn_cost_tally.specs.Numbered.{folded_times, zipped}
use Rattle.sn_cost_tally.specs.Weighed.{weighed, weight_in}
use Rattle.sn_cost_tally.proofs.Counting.{counted_had}
use Rattle.sn_cost_tally.proofs.Folding.{folded_long, keys_next, keys_same, so_far_at, value_folded}
use Rattle.sn_cost_tally.proofs.Grouping.{all_at, folded_had, read_whole, times_folded}
use Rattle.sn_cost_tally.proofs.Weighing.{all_so_far, key_counted, pairs_folded, weight_some, weighed_map}
use Rattle.sn_cost_tally.proofs.groups.fold_keys.Goals as goal
use Rattle.sn_cost_tally.proofs.groups.fold_keys.Goals.{then-number-len+in_ok-push, else-number-len}

-- what is folded at the key so far is at its number
at_number : (P : ℕ → Type 0) (key : Row) (unit : ℕ) (ks held : List Row) (ns : List ℕ) (number : ℕ) → length ns ≡ length ks → ks ≡ held → number ≡ position_or_len (same_row key) held
    → P (unwrap_or (lookup (same_row key) (zipped ks ns)) unit) → P (slice_index_or ns number unit)
at_number P key unit ks held ns number long same is h = subst P (so_far_at key unit ks ns long ∙ ap (λ m. slice_index_or ns m unit) (sym (is ∙ ap (position_or_len (same_row key)) (sym same)))) h

pub fold_in-requires-clause-so_far : goal.fold_in-requires-clause-so_far
fold_in-requires-clause-so_far g c =
    let f : Row → Row = columns_at c.args.places.now in
    let key : Row = g.R.Columns.columns c.columns_into.new.key in
    let before = c.loop-place.invariant in
    at_number (HasBits 64) key 0 c.loop-place.keys c.loop-place.numbers.keys c.loop-place.times.items c.in_ok-number.number before.times_long before.same c.in_ok-number.ensures.number
    (counted_had (map f (weighed (take c.loop-place.place c.args.rows.now) (option_copied c.args.weights))) (zipped c.loop-place.keys c.loop-place.times.items) key before.times)

pub column-requires : goal.column-requires
column-requires g c = all_at (λ (row : Row). c.args.value < length row) c.args.rows.now c.loop-place.place (g.R.Columns.columns c.at-row.result.now) c.requires.value c.at-row.ensures

pub fold_in-requires-in-loop-place-clause-so_far : goal.fold_in-requires-in-loop-place-clause-so_far
fold_in-requires-in-loop-place-clause-so_far g c =
    let a = c.args in
    let key : Row = g.R.Columns.columns c.columns_into.new.key in
    let before = c.loop-place.invariant in
    at_number (any_has a.fold) key (any_unit a.fold) c.loop-place.keys c.loop-place.numbers.keys c.loop-place.totals.items c.in_ok-number.number before.totals_long before.same c.in_ok-number.ensures.number
    (folded_had a.fold a.places.now a.value (weighed (take c.loop-place.place a.rows.now) (option_copied a.weights)) (zipped c.loop-place.keys c.loop-place.totals.items) key
    (all_so_far (λ (x : Row). any_has a.fold (slice_index x a.value)) a.rows.now (option_copied a.weights) c.loop-place.place c.requires.had) before.totals)

pub fold_times-amount-requires : goal.fold_times-amount-requires
fold_times-amount-requires g c =
    let a = c.args in
    let row : Row = g.R.Columns.columns c.at-row.result.now in
    let had : any_has a.fold (slice_index row a.value) = all_at (λ (x : Row). any_has a.fold (slice_index x a.value)) a.rows.now c.loop-place.place row c.requires.had c.at-row.ensures in
    subst (any_has a.fold) (sym (read_whole a.fold (slice_index row a.value) c.word.result _ had c.word.ensures c.column.ensures)) had

pub loop-place-preserved : goal.loop-place-preserved
loop-place-preserved g c =
    let a = c.args in
    let i = c.loop-place.place in
    let f : Row → Row = columns_at a.places.now in
    let row : Row = g.R.Columns.columns c.at-row.result.now in
    let key : Row = g.R.Columns.columns c.columns_into.new.key in
    let ks : List Row = c.loop-place.keys in
    let now : List Row = c.if-number-len.keys in
    let number : ℕ = c.in_ok-number.number in
    let before = c.loop-place.invariant in
    let had : any_has a.fold (slice_index row a.value) = all_at (λ (x : Row). any_has a.fold (slice_index x a.value)) a.rows.now i row c.requires.had c.at-row.ensures in
    let read : c.word.result ≡ slice_index row a.value = read_whole a.fold (slice_index row a.value) c.word.result _ had c.word.ensures c.column.ensures in
    let is : number ≡ position_or_len (same_row key) ks = c.in_ok-number.ensures.number ∙ ap (position_or_len (same_row key)) (sym before.same) in
    let grown : c.number.new.self.keys ≡ insert_key same_row ks key = c.in_ok-number.ensures.keys ∙ ap (λ xs. insert_key same_row xs key) (sym before.same) in
    let same : now ≡ c.number.new.self.keys =
    elim c.if-number-len.branch [
      | then-number-len+in_ok-push w ↦ keys_next key ks c.number.new.self.keys now grown (sym is ∙ w.if-number-len.true ∙ c.len-in-loop-place.ensures) (w.keys-is ∙ w.in_ok-push.ensures.ok)
      | else-number-len w ↦ w.keys-is ∙ keys_same key ks c.number.new.self.keys grown (λ e. w.if-number-len.false (is ∙ e ∙ sym c.len-in-loop-place.ensures))
    ] in
    let added : now ≡ insert_key same_row ks key = same ∙ grown in
    let times : List ℕ = c.loop-place.times.items in
    let totals : List ℕ = c.loop-place.totals.items in
    let rows : List Row = a.rows.now in
    let weights : Option (List ℕ) = option_copied a.weights in
    let so_far : List Row = weighed (take i rows) weights in
    let v : ℕ = slice_index row a.value in
    let amount : ℕ = c.fold_times-amount.result in
    let weight : ℕ = c.weight_at-weight.result in
    let is_weight : weight ≡ weight_in weights i = c.weight_at-weight.ensures in
    let some : 1 ≤ weight = subst (λ (n : ℕ). 1 ≤ n) (sym is_weight) (weight_some rows weights i c.requires.weights (omega (arith, c.loop-place-test.true, c.len-place-end.ensures))) in
    let at_key : key ≡ f row = c.columns_into.ensures in
    let at_pair : (key, v) ≡ keyed a.places.now a.value row = ap (λ (k : Row). (k, v)) at_key in
    let total : ℕ = unwrap_or (lookup (same_row key) (zipped ks totals)) (any_unit a.fold) in
    let total_had : any_has a.fold total =
    folded_had a.fold a.places.now a.value so_far (zipped ks totals) key (all_so_far (λ (x : Row). any_has a.fold (slice_index x a.value)) rows weights i c.requires.had) before.totals in
    let several : any_step a.fold total amount ≡ fold (any_step a.fold) total (replicate weight v) =
    times_folded a.fold total v weight amount total_had had (c.fold_times-amount.ensures.value ∙ ap (λ (x : ℕ). folded_times (any_step a.fold) (any_unit a.fold) x weight) read) in
    record {
      same = same;
      times = key_counted (map f so_far) (zipped ks times) (zipped now c.fold_in.new.numbers.items) key weight some before.times (counted_had (map f so_far) (zipped ks times) key before.times)
          (value_folded key (capped_sum 64) 0 weight ks now times c.fold_in.new.numbers.items number before.times_long added is c.in_ok-fold_in.ensures)
          ∙ ap counted (ap (λ (n : ℕ). map f so_far ++ replicate n key) is_weight ∙ sym (weighed_map f rows weights i row key c.requires.weights c.at-row.ensures at_key));
      totals = pairs_folded (any_step a.fold) (any_unit a.fold) (map (keyed a.places.now a.value) so_far) (zipped ks totals) (zipped now c.fold_in-in-loop-place.new.numbers.items) key v weight (any_step a.fold total amount) some before.totals several
          (value_folded key (any_step a.fold) (any_unit a.fold) amount ks now totals c.fold_in-in-loop-place.new.numbers.items number before.totals_long added is c.in_ok-fold_in-2.ensures)
          ∙ ap (folded same_row (any_step a.fold) (any_unit a.fold))
          (ap (λ (n : ℕ). map (keyed a.places.now a.value) so_far ++ replicate n (key, v)) is_weight ∙ sym (weighed_map (keyed a.places.now a.value) rows weights i row (key, v) c.requires.weights c.at-row.ensures at_pair));
      times_long = folded_long key (capped_sum 64) 0 weight ks now times c.fold_in.new.numbers.items number before.times_long added is c.in_ok-fold_in.ensures;
      totals_long = folded_long key (any_step a.fold) (any_unit a.fold) amount ks now totals c.fold_in-in-loop-place.new.numbers.items number before.totals_long added is c.in_ok-fold_in-2.ensures;
    }

pub returns-clause-times : goal.returns-clause-times
returns-clause-times g c =
    let a = c.args in
    c.loop-place.invariant.times
    ∙ ap (λ (rows : List Row). counted (map (columns_at a.places.now) (weighed rows (option_copied a.weights)))) (take_all c.loop-place.place a.rows.now (omega (arith, c.loop-place-test.false, c.len-place-end.ensures)))

pub returns-clause-totals : goal.returns-clause-totals
returns-clause-totals g c =
    let a = c.args in
    c.loop-place.invariant.totals
    ∙ ap (λ (rows : List Row). folded same_row (any_step a.fold) (any_unit a.fold) (map (keyed a.places.now a.value) (weighed rows (option_copied a.weights))))
    (take_all c.loop-place.place a.rows.now (omega (arith, c.loop-place-test.false, c.len-place-end.ensures)))
