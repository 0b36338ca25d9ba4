use Rattle.std.proofs.lemmas.Option.{slice_get_within}
use Rattle.sn_table.specs.HeldKeys.{keys_of}
use Rattle.sn_table.proofs.Places.{stands_at}
use Rattle.sn_table.proofs.numbers.Numbers.number.Goals as goal

pub returns-in-Some-clause-row : goal.returns-in-Some-clause-row
returns-in-Some-clause-row g c =
    let seen = g.R.Columns.columns in
    stands_at (keys_of seen c.self.inside.held) (keys_of seen c.put.new.held) (seen c.args.row.now) c.in_ok-number.field-0 c.in-Some.number c.in-Some.field-0-1
    c.in-Some.is c.in_ok-number.ensures.keys c.in_ok-number.ensures.place

pub returns-in-Some-clause-within : goal.returns-in-Some-clause-within
returns-in-Some-clause-within g c =
    let seen = g.R.Columns.columns in
    slice_get_within (keys_of seen c.put.new.held) c.in-Some.number (seen c.args.row.now)
    (stands_at (keys_of seen c.self.inside.held) (keys_of seen c.put.new.held) (seen c.args.row.now) c.in_ok-number.field-0 c.in-Some.number c.in-Some.field-0-1
    c.in-Some.is c.in_ok-number.ensures.keys c.in_ok-number.ensures.place)

pub returns-clause-row : goal.returns-clause-row
returns-clause-row g c =
    let seen = g.R.Columns.columns in
    stands_at (keys_of seen c.widen.new.held) (keys_of seen c.put-2.new.held) (seen c.args.row.now) c.in_ok-number-2.field-0 c.in-Some-2.number c.in-Some-2.field-0-1
    c.in-Some-2.is c.in_ok-number-2.ensures.keys c.in_ok-number-2.ensures.place

pub returns-clause-within : goal.returns-clause-within
returns-clause-within g c =
    let seen = g.R.Columns.columns in
    slice_get_within (keys_of seen c.put-2.new.held) c.in-Some-2.number (seen c.args.row.now)
    (stands_at (keys_of seen c.widen.new.held) (keys_of seen c.put-2.new.held) (seen c.args.row.now) c.in_ok-number-2.field-0 c.in-Some-2.number c.in-Some-2.field-0-1
    c.in-Some-2.is c.in_ok-number-2.ensures.keys c.in_ok-number-2.ensures.place)
