use Rattle.std.proofs.Common.{ℕ, List, length, ap, sym, ◌∙◌}
use Rattle.std.specs.Simd.Lanes.{zip2}
use Rattle.std.specs.Int.{byte_at}
use Rattle.std.proofs.lemmas.Simd.{length-zip2}
use Rattle.sn_base.specs.Slot.{fnv_step}
use Rattle.sn_lanes.proofs.MixLemmas.{bytes_step, zip2_left}
use Rattle.sn_lanes.proofs.slots8.mix_bytes.Goals as goal

pub loop-byte-init : goal.loop-byte-init
loop-byte-init c = record {
  long = c.requires.hash;
  mixed = sym (zip2_left c.args.hash c.args.column (c.requires.hash ∙ sym c.requires.column));
}

pub loop-byte-preserved : goal.loop-byte-preserved
loop-byte-preserved c =
    let k = c.loop-byte.byte in
    let f : ℕ → ℕ → ℕ = λ h x. fnv_step h (byte_at k x) in
    let mixed = c.loop-byte.mixed in
    let column = c.args.column in
    record {
      long = ap length c.mix_byte-mixed.ensures ∙ length-zip2 f mixed column (c.loop-byte.invariant.long ∙ sym c.requires.column) ∙ c.loop-byte.invariant.long;
      mixed = c.mix_byte-mixed.ensures ∙ ap (λ (m : List ℕ). zip2 f m column) c.loop-byte.invariant.mixed ∙ bytes_step c.args.hash column k;
    }
