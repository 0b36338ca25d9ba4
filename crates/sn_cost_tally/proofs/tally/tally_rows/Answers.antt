use Rattle.std.proofs.Common.{◌≡◌, ◌≤◌, ℕ, List, ◌++◌, map, replicate, slice_index_or, take, Option, ap, sym, subst, ◌∙◌, arith}
use Rattle.std.specs.List.{position_or_len}
use Rattle.std.specs.Option.{option_copied}
use Rattle.std.proofs.lemmas.List.{take_all}
use Rattle.indexmap.specs.IndexSet.{insert_key}
use Rattle.sn_base.specs.Folds.{HasBits, capped_sum}
use Rattle.sn_base.specs.Groups.{Row, same_row}
use Rattle.sn_cost_tally.specs.Counts.{counted}
use Rattle.sn_cost_tally.specs.Numbered.{zipped}
use Rattle.sn_cost_tally.specs.Weighed.{weighed, weight_in}
use Rattle.sn_cost_tally.proofs.Counting.{counted_had, keys_of, times_of}
use Rattle.sn_cost_tally.proofs.Folding.{folded_long, keys_next, keys_same, so_far_at, value_folded, zip_keys, zip_numbers}
use Rattle.sn_cost_tally.proofs.Weighing.{key_counted, weight_some, weighed_more}
use Rattle.sn_cost_tally.proofs.tally.tally_rows.Goals as goal
use Rattle.sn_cost_tally.proofs.tally.tally_rows.Goals.{then-number-len+in_ok-push, else-number-len}

pub fold_in-requires-clause-so_far : goal.fold_in-requires-clause-so_far
fold_in-requires-clause-so_far g c =
    let key : Row = g.R.Columns.columns c.at-row.result.now in
    let ks : List Row = c.loop-place.keys in
    let ns : List ℕ = c.loop-place.times.items in
    let before = c.loop-place.invariant in
    subst (HasBits 64) (so_far_at key 0 ks ns before.long ∙ ap (λ m. slice_index_or ns m 0) (sym (c.in_ok-number.ensures.number ∙ ap (position_or_len (same_row key)) (sym before.same))))
    (counted_had (weighed (take c.loop-place.place c.args.rows.now) (option_copied c.args.weights)) (zipped ks ns) key before.times)

pub loop-place-preserved : goal.loop-place-preserved
loop-place-preserved g c =
    let i = c.loop-place.place in
    let key : Row = g.R.Columns.columns c.at-row.result.now in
    let ks : List Row = c.loop-place.keys in
    let now : List Row = c.if-number-len.keys in
    let number : ℕ = c.in_ok-number.number in
    let times : List ℕ = c.loop-place.times.items in
    let before = c.loop-place.invariant in
    let is : number ≡ position_or_len (same_row key) ks = c.in_ok-number.ensures.number ∙ ap (position_or_len (same_row key)) (sym before.same) in
    let grown : c.number.new.self.keys ≡ insert_key same_row ks key = c.in_ok-number.ensures.keys ∙ ap (λ xs. insert_key same_row xs key) (sym before.same) in
    let same : now ≡ c.number.new.self.keys =
    elim c.if-number-len.branch [
      | then-number-len+in_ok-push w ↦ keys_next key ks c.number.new.self.keys now grown (sym is ∙ w.if-number-len.true ∙ c.len-in-loop-place.ensures) (w.keys-is ∙ w.in_ok-push.ensures.ok)
      | else-number-len w ↦ w.keys-is ∙ keys_same key ks c.number.new.self.keys grown (λ e. w.if-number-len.false (is ∙ e ∙ sym c.len-in-loop-place.ensures))
    ] in
    let added : now ≡ insert_key same_row ks key = same ∙ grown in
    let rows : List Row = c.args.rows.now in
    let weights : Option (List ℕ) = option_copied c.args.weights in
    let so_far : List Row = weighed (take i rows) weights in
    let weight : ℕ = c.weight_at-weight.result in
    let is_weight : weight ≡ weight_in weights i = c.weight_at-weight.ensures in
    record {
      same = same;
      times = key_counted so_far (zipped ks times) (zipped now c.fold_in.new.numbers.items) key weight (subst (λ (n : ℕ). 1 ≤ n) (sym is_weight) (weight_some rows weights i c.requires.weights (omega (arith, c.loop-place-test.true, c.len-place-end.ensures)))) before.times
          (counted_had so_far (zipped ks times) key before.times)
          (value_folded key (capped_sum 64) 0 weight ks now times c.fold_in.new.numbers.items number before.long added is c.in_ok-fold_in.ensures)
          ∙ ap counted (ap (λ (n : ℕ). so_far ++ replicate n key) is_weight ∙ sym (weighed_more rows weights i key c.requires.weights c.at-row.ensures));
      long = folded_long key (capped_sum 64) 0 weight ks now times c.fold_in.new.numbers.items number before.long added is c.in_ok-fold_in.ensures;
    }

pub returns-clause-keys : goal.returns-clause-keys
returns-clause-keys g c =
    let rows : List Row = c.args.rows.now in
    let weights : Option (List ℕ) = option_copied c.args.weights in
    let so_far = c.loop-place.invariant in
    let all : zipped c.loop-place.keys c.loop-place.times.items ≡ counted (weighed rows weights) = so_far.times ∙ ap (λ rs. counted (weighed rs weights)) (take_all c.loop-place.place rows (omega (arith, c.loop-place-test.false, c.len-place-end.ensures))) in
    sym (zip_keys c.loop-place.keys c.loop-place.times.items so_far.long) ∙ ap (map (λ (e : Row × ℕ). e.0)) all ∙ keys_of (weighed rows weights)

pub returns-clause-times : goal.returns-clause-times
returns-clause-times g c =
    let rows : List Row = c.args.rows.now in
    let weights : Option (List ℕ) = option_copied c.args.weights in
    let so_far = c.loop-place.invariant in
    let all : zipped c.loop-place.keys c.loop-place.times.items ≡ counted (weighed rows weights) = so_far.times ∙ ap (λ rs. counted (weighed rs weights)) (take_all c.loop-place.place rows (omega (arith, c.loop-place-test.false, c.len-place-end.ensures))) in
    sym (zip_numbers c.loop-place.keys c.loop-place.times.items so_far.long) ∙ ap (map (λ (e : Row × ℕ). e.1)) all ∙ times_of (weighed rows weights) c.requires.few
