use Rattle.std.proofs.Common.{ℕ, ◌+◌, ◌-◌, ◌^◌, ◌<◌, min, unwrap_or, arith}
use Rattle.std.specs.Map.{lookup}
use Rattle.indexmap.specs.IndexMap.{insert_entry}
use Rattle.sn_base.specs.Groups.{columns_at, same_row}
use Rattle.sn_test_captures.proofs.SmallSums.{AreSmall, found_small, put_small, either}
use Rattle.sn_test_captures.proofs.tables.sum_at.Goals as goal

pub add_at-requires-clause-so_far : goal.add_at-requires-clause-so_far
add_at-requires-clause-so_far c = found_small (columns_at c.args.places.now c.args.row.now) c.args.table.now.entries c.requires.small

pub returns : goal.returns
returns c =
    let es = c.args.table.now.entries in
    let key = columns_at c.args.places.now c.args.row.now in
    let had : ℕ = unwrap_or (lookup (same_row key) es) 0 in
    let sum : ℕ = min (had + c.args.value) (2 ^ 64 - 1) in
    let small : sum < 2 ^ 64 = omega arith in
    either AreSmall c.add_at.result es (insert_entry same_row es key sum) c.add_at.new.self.entries c.add_at.ensures.ok c.add_at.ensures.err c.requires.small (put_small key sum small es c.requires.small)
