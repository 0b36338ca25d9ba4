use Rattle.std.proofs.Common.{◌≡◌, List, Bool, None, IfSome, length, map, nat_le, true, false, ◌&&◌, refl, sym, subst, ◌∙◌}
use Rattle.std.proofs.lemmas.Bool.{false≢true}
use Rattle.sn_base.specs.Groups.{Row}
use Rattle.sn_cost_tally.specs.Firsts.{AreFirsts}
use Rattle.sn_types.specs.Typed.{branch_at, packet_row, query_at}
use Rattle.sn_cost_counts.specs.Alike.{reads_refined}
use Rattle.sn_cost_counts.specs.Standing.{has_registers}
use Rattle.sn_cost_counts.proofs.Standing.{firsts_stand}
use Rattle.sn_cost_counts.proofs.packed.pack.Goals as goal

both_of : (a b : Bool) → (a && b) ≡ true → (a ≡ true) × (b ≡ true)
both_of true b is = (refl, is)
both_of false b is = absurd (false≢true is)

pub returns-then-len-tuples : goal.returns-then-len-tuples
returns-then-len-tuples c =
    let a = c.args in
    let query = query_at a.t.now.queries a.q in
    let branch = branch_at a.t.now.queries a.q a.b in
    let tuples = a.tuples.now in
    let pays : (nat_le 32 (length tuples) && (reads_refined query.field branch.fields && has_registers branch)) ≡ true = sym c.may_pay.ensures ∙ c.if-may_pay.true in
    let both : (reads_refined query.field branch.fields ≡ true) × (has_registers branch ≡ true) = both_of (reads_refined query.field branch.fields) (has_registers branch) (both_of (nat_le 32 (length tuples)) (reads_refined query.field branch.fields && has_registers branch) pays).1 in
    let found = subst (λ o. IfSome o (λ f. (keys : List Row) × AreFirsts (map (packet_row None 0 branch.fields) tuples) keys f)) c.in-Some.is c.in_ok-firsts.ensures in
    record {
      stand = firsts_stand query a.b tuples found.0 c.in-Some.firsts c.requires.few found.1 both.0;
      registers = both.1;
    }
