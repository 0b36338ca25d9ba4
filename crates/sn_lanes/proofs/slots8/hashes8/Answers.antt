use Rattle.std.proofs.Common.{◌≡◌, ◌≤◌, ℕ, List, map, replicate, bit_xor, subst, ap, ◌∙◌, arith}
use Rattle.std.specs.List.{AllByRecursion}
use Rattle.sn_lanes.proofs.LowLemmas.{greatest_bounds}
use Rattle.sn_lanes.proofs.RowLemmas.{hash_to, place_start, place_turn, place_end}
use Rattle.sn_lanes.proofs.slots8.hashes8.Goals as goal

pub loop-place-init : goal.loop-place-init
loop-place-init g c =
    let columns = g.R.Columns.columns in
    ap (λ (n : ℕ). replicate 8 (bit_xor 14695981039346656037 n)) c.from.ensures ∙ place_start columns c.args.index c.args.keys.now 8 c.requires.eight

pub loop-place-preserved : goal.loop-place-preserved
loop-place-preserved g c =
    c.mix_place-hash.ensures
    ∙ place_turn g.R.Columns.columns c.args.index c.loop-place.place c.args.keys.now c.fill_lengths.new.lengths c.fill_column.new.column c.loop-place.hash
    c.requires.narrow c.fill_lengths.ensures c.fill_column.ensures c.loop-place.invariant

pub returns : goal.returns
returns g c =
    let columns = g.R.Columns.columns in
    let keys = c.args.keys.now in
    let longest = c.greatest-place-end.result in
    let same : c.loop-place.place ≡ longest = omega arith in
    let most = subst (λ (ns : List ℕ). AllByRecursion (λ n. n ≤ longest) ns) c.fill_lengths.ensures (greatest_bounds longest c.fill_lengths.new.lengths c.greatest-place-end.ensures) in
    c.loop-place.invariant
    ∙ ap (λ (n : ℕ). map (λ key. hash_to c.args.index n (columns key)) keys) same
    ∙ place_end columns c.args.index longest keys most
