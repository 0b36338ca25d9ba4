use Rattle.std.proofs.Common.{None, ap, ◌≡◌, ◌+◌, ◌++◌, IfSome, take, arith, subst, vec_len, rules, ◌∙◌, ℕ, ◌<◌, ◌≤◌, List, length, refl}
use Rattle.std.specs.FinMap.{get}
use Rattle.sn_io.specs.Inputs.{Reads, stated_file}
use Rattle.sn_io.proofs.CountLemmas.{rises_both}
use Rattle.sn_io.proofs.Reported.{front_read, reported_known}
use Rattle.sn_io.proofs.inputs.read_whole.Goals as goal

pub returns-in-Err-Missing-clause-whole : goal.returns-in-Err-Missing-clause-whole
returns-in-Err-Missing-clause-whole g c reported _ =
    let I = g.I.Inputs in
    let files = c.loop-bytes.files in
    absurd (reported_known (I.reported c.args.files.now) (I.reported files) (I.faults files) c.args.name.now (λ (file : List ℕ). length file ≤ c.args.limit) c.loop-bytes.invariant.reported (g.met.I.Inputs.same_names files) reported ((rw c.in-Err-Missing.field-0-is at c.in-Err-Missing.ensures).missing.0 refl))

pub returns-in-Err-Missing-clause-is_large : goal.returns-in-Err-Missing-clause-is_large
returns-in-Err-Missing-clause-is_large g c reported =
    let I = g.I.Inputs in
    let files = c.loop-bytes.files in
    absurd (reported_known (I.reported c.args.files.now) (I.reported files) (I.faults files) c.args.name.now (λ (file : List ℕ). c.args.limit < length file) c.loop-bytes.invariant.reported (g.met.I.Inputs.same_names files) reported ((rw c.in-Err-Missing.field-0-is at c.in-Err-Missing.ensures).missing.0 refl))

pub loop-bytes-preserved : goal.loop-bytes-preserved
loop-bytes-preserved g c =
    let I = g.I.Inputs in
    let files = c.loop-bytes.files in
    let bytes = c.loop-bytes.bytes in
    let piece = c.read_at.new.into in
    let name = c.args.name.now in
    let inv = c.loop-bytes.invariant in
    let read : IfSome (stated_file (I.reported c.args.files.now) name) (λ file. Reads file (vec_len bytes) c.in-Ok.count c.loop-bytes.piece piece) =
    subst (λ at. IfSome (stated_file (I.reported c.args.files.now) name) (λ file. Reads file at c.in-Ok.count c.loop-bytes.piece piece)) c.len.ensures
    (subst (λ reported. IfSome (stated_file reported name) (λ file. Reads file c.len.result c.in-Ok.count c.loop-bytes.piece piece)) inv.reported c.in-Ok.ensures.bytes) in
    let later : vec_len c.extend_from_slice.new.self ≡ vec_len bytes + c.in-Ok.count = search rules in
    let grown : c.extend_from_slice.new.self.items ≡ bytes.items ++ take c.in-Ok.count piece = search rules in
    record {
      front = front_read (stated_file (I.reported c.args.files.now) name) (vec_len bytes) c.in-Ok.count _ bytes.items _ c.loop-bytes.piece piece inv.front read grown later;
      most = omega (arith, later, inv.most, c.if-count-limit.false);
      reported = c.read_at.ensures.reported ∙ inv.reported;
      faults = rises_both name (I.faults c.args.files.now) (I.faults files) (I.faults c.read_at.new.self) inv.faults c.read_at.ensures.faults;
      unknown = λ unknown.
          let none : get (I.faults files) name ≡ None = ap (λ fs. get (I.faults fs) name) (inv.unknown unknown) ∙ unknown in
          let e = c.in-Ok.ensures.missing.1 none in
          absurd (cc);
    }
