use Rattle.std.proofs.Common.{◌≡◌, ◌++◌, [], replicate}
use Rattle.sn_out.proofs.fields.with_empty_fields.Given as goal

abbrev pub invariant-loop : goal.invariant-loop
invariant-loop l = l.longer ≡ l.fn.fields ++ replicate l.counter []
