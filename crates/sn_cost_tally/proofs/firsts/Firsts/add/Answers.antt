use Rattle.std.proofs.Common.{◌≡◌, ◌<◌, ℕ, List, ◌∷◌, ◌++◌, [], length, map, slice_index_or, unwrap_or, refl, ap, sym, subst, ◌∙◌}
use Rattle.std.specs.List.{AllByRecursion, position_or_len}
use Rattle.std.specs.Map.{lookup}
use Rattle.indexmap.specs.IndexSet.{insert_key}
use Rattle.sn_base.specs.Folds.{HasBits, capped_sum}
use Rattle.sn_base.specs.Groups.{Row, put_entry, same_row}
use Rattle.sn_cost_seats.specs.Seats.{rows_at}
use Rattle.sn_cost_tally.specs.Numbered.{folded_into, zipped}
use Rattle.sn_cost_tally.proofs.Counting.{counted_had}
use Rattle.sn_cost_tally.proofs.Folding.{folded_long, keys_next, keys_same, so_far_at, value_folded}
use Rattle.sn_cost_tally.proofs.Places.{counted_push, first_added, firsts_are, firsts_stay, last_within, none_among, on_ok, one_at, places_long, stay_at, still_within}
use Rattle.sn_cost_tally.proofs.firsts.Firsts.add.Goals as goal
use Rattle.sn_cost_tally.proofs.firsts.Firsts.add.Goals.{then-number-len+in_ok-push, else-number-len}

pub fold_in-requires-clause-so_far : goal.fold_in-requires-clause-so_far
fold_in-requires-clause-so_far g c =
    let key : Row = g.R.Columns.columns c.args.row.now in
    let ks : List Row = c.args.numbers.now.keys in
    let old : List ℕ = c.args.self.now.times.items in
    let rows = c.requires.0 in
    let firsts = c.requires.1 in
    let same : c.if-number-len.self.times.items ≡ old =
    elim c.if-number-len.branch [
      | then-number-len+in_ok-push w ↦ ap (λ s. s.times.items) w.self-is
      | else-number-len w ↦ ap (λ s. s.times.items) w.self-is
    ] in
    subst (HasBits 64)
    (so_far_at key 0 ks old firsts.long ∙ ap (λ m. slice_index_or old m 0) (sym c.in_ok-number.ensures.number) ∙ ap (λ ns. slice_index_or ns c.in_ok-number.number 0) (sym same))
    (counted_had rows (zipped ks old) key firsts.times)

pub returns : goal.returns
returns g c = λ rows h last.
    let key : Row = g.R.Columns.columns c.args.row.now in
    let ks : List Row = c.args.numbers.now.keys in
    let found : List Row = c.number.new.self.keys in
    let number : ℕ = c.in_ok-number.number in
    let old : List ℕ = c.args.self.now.times.items in
    let new : List ℕ = c.fold_in.new.numbers.items in
    let places : List ℕ = c.args.self.now.places.items in
    let later : List ℕ = c.if-number-len.self.places.items in
    let is : number ≡ position_or_len (same_row key) ks = c.in_ok-number.ensures.number in
    let grown : found ≡ insert_key same_row ks key = c.in_ok-number.ensures.keys in
    let long : length places ≡ length ks = places_long rows ks places h.at in
    let same : c.if-number-len.self.times.items ≡ old =
    elim c.if-number-len.branch [
      | then-number-len+in_ok-push w ↦ ap (λ s. s.times.items) w.self-is
      | else-number-len w ↦ ap (λ s. s.times.items) w.self-is
    ] in
    let at : rows_at (rows ++ key ∷ []) later ≡ found =
    elim c.if-number-len.branch [
      | then-number-len+in_ok-push w ↦
          keys_next key ks found (rows_at (rows ++ key ∷ []) later) grown (sym is ∙ w.if-number-len.true ∙ c.len.ensures ∙ c.args.self.now.places.ok.0 ∙ long)
          (one_at rows key places later c.args.place h.within last (ap (λ s. s.places.items) w.self-is ∙ w.in_ok-push.ensures.items) ∙ ap (λ ks. ks ++ key ∷ []) h.at)
      | else-number-len w ↦
          ap (rows_at (rows ++ key ∷ [])) (ap (λ s. s.places.items) w.self-is) ∙ stay_at rows key places h.within ∙ h.at
          ∙ keys_same key ks found grown (λ e. w.if-number-len.false (is ∙ e ∙ sym long ∙ sym c.args.self.now.places.ok.0 ∙ sym c.len.ensures))
    ] in
    let within : AllByRecursion (λ p. p < length (rows ++ key ∷ [])) later =
    elim c.if-number-len.branch [
      | then-number-len+in_ok-push w ↦ subst (AllByRecursion (λ p. p < length (rows ++ key ∷ []))) (sym (ap (λ s. s.places.items) w.self-is ∙ w.in_ok-push.ensures.items)) (last_within rows key places c.args.place last h.within)
      | else-number-len w ↦ subst (AllByRecursion (λ p. p < length (rows ++ key ∷ []))) (sym (ap (λ s. s.places.items) w.self-is)) (still_within rows key places h.within)
    ] in
    let first : later ≡ map (λ k. position_or_len (same_row k) (rows ++ key ∷ [])) found =
    elim c.if-number-len.branch [
      | then-number-len+in_ok-push w ↦
          (let at_end : position_or_len (same_row key) ks ≡ length ks = sym is ∙ w.if-number-len.true ∙ c.len.ensures ∙ c.args.self.now.places.ok.0 ∙ long in
          first_added rows ks found key places later c.args.place h.within h.first (none_among key rows ks (sym h.at ∙ firsts_are rows ks c.args.self.now h) at_end) last (ap (λ s. s.places.items) w.self-is ∙ w.in_ok-push.ensures.items)
          (keys_next key ks found (ks ++ key ∷ []) grown at_end refl))
      | else-number-len w ↦
          ap (λ s. s.places.items) w.self-is ∙ firsts_stay rows ks key places h.within h.first
          ∙ ap (map (λ k. position_or_len (same_row k) (rows ++ key ∷ [])))
          (keys_same key ks found grown (λ e. w.if-number-len.false (is ∙ e ∙ sym long ∙ sym c.args.self.now.places.ok.0 ∙ sym c.len.ensures)))
    ] in
    on_ok _ _ c.fold_in.result
    (λ reported.
    let folded : new ≡ folded_into (capped_sum 64) 0 old number 1 = reported ∙ ap (λ ns. folded_into (capped_sum 64) 0 ns number 1) same in
    record {
      at = at;
      first = first;
      times =
          value_folded key (capped_sum 64) 0 1 ks found old new number h.long grown is folded
          ∙ ap (λ es. put_entry same_row es key (capped_sum 64 (unwrap_or (lookup (same_row key) es) 0) 1)) h.times
          ∙ counted_push rows key;
      long = folded_long key (capped_sum 64) 0 1 ks found old new number h.long grown is folded;
      within = within;
    })
    c.fold_in.ensures
