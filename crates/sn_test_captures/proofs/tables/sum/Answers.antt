use Rattle.std.proofs.Common.{ℕ, ◌+◌, ◌-◌, ◌^◌, ◌<◌, min, unwrap_or, arith}
use Rattle.std.specs.Map.{lookup}
use Rattle.indexmap.specs.IndexMap.{insert_entry}
use Rattle.sn_base.specs.Groups.{same_row}
use Rattle.sn_test_captures.proofs.SmallSums.{AreSmall, found_small, put_small, either}
use Rattle.sn_test_captures.proofs.tables.sum.Goals as goal

pub add-requires-clause-so_far : goal.add-requires-clause-so_far
add-requires-clause-so_far g c = found_small (g.R.Columns.columns c.args.key.now) c.args.table.now.entries c.requires

pub returns : goal.returns
returns g c =
    let es = c.args.table.now.entries in
    let key = g.R.Columns.columns c.args.key.now in
    let had : ℕ = unwrap_or (lookup (same_row key) es) 0 in
    let sum : ℕ = min (had + c.args.value) (2 ^ 64 - 1) in
    let small : sum < 2 ^ 64 = omega arith in
    either AreSmall c.add.result es (insert_entry same_row es key sum) c.add.new.self.entries c.add.ensures.ok c.add.ensures.err c.requires (put_small key sum small es c.requires)
