-- The windows of a capture's records are ones that a capture can have.
use Rattle.std.proofs.Common.{◌≡◌, ℕ, ◌+◌, ◌-◌, ◌*◌, ◌<◌, ◌≤◌, ◌^◌, ◌==◌, List, [], ◌∷◌, map, filter, drop, Bool, true, false, not, cond, nat_eq, None, ap, sym, ◌∙◌, subst, arith}
use Rattle.std.specs.List.{AllByRecursion, flat_map}
use Rattle.std.proofs.Math.Nat.{div-le_self}
use Rattle.std.proofs.lemmas.List.Folds.{flat_map-map}
use Rattle.sn_command_capture.specs.Capture.{block_in, blocks_in, time_of, window_in, windows_in}
use Rattle.sn_command_capture.specs.Wording.{Wording}
use Rattle.sn_command_capture.proofs.WindowLemmas.{rising_above, windows_more}
use Rattle.sn_base.specs.Groups.{once}
use Rattle.sn_base.proofs.Lists.{all_filter, all_map, all_weaker}
use Rattle.sn_pcap.specs.Capture.{Records, number_at, packet_at, no_byte, short_header, too_large, short_packet, whole}
use Rattle.sn_pcap.specs.declared.header.Header.{Header}
use Rattle.sn_pcap.specs.declared.packet.Packet.{Packet}
use Rattle.sn_pcap.specs.declared.packet.Ending.{Ending}
use Rattle.sn_types.specs.Typed.{HasWidths}
use Rattle.sn_windows.specs.Blocks.{all_few, is_few}
use Rattle.sn_windows.specs.Numbering.{Numbering, begun, next_first, next_number, numbered_from, stepped}
use Rattle.sn_windows.specs.Windows.{in_window, number_at as window_at, numbered, offset, record_at, run_of, windows_of}
use Rattle.sn_windows.proofs.NumberLemmas.{numbered_is, numbers_rise}
use Rattle.sn_windows.proofs.RunLemmas.{Rises, drop_rises, run_above}
use Rattle.sn_top_laws.specs.Real.{IsReal}
use Rattle.sn_top_laws.specs.Replayed.{AreBytes}
use Rattle.sn_fields.proofs.Ranges.{big_below, little_below}
use Rattle.sn_windows.specs.Rising.{AreRising, Window}
use Rattle.sn_command_live.proofs.CaptureLemmas.{all_held}

-- ---- packets

-- a packet's time has 64 bits, and its length on the wire 32
pub record IsPacket (packet : Packet) : Type 0 where
  pub time : packet.time < 2 ^ 64
  pub wire : packet.wire < 2 ^ 32

number_below : (big : Bool) (file : List ℕ) (place : ℕ) → AreBytes file → number_at big 4 file place < 2 ^ 32
number_below true file place are = big_below 4 place file are
number_below false file place are = little_below 4 place file are

time_below : (seconds fraction : ℕ) (nanos : Bool) → seconds < 2 ^ 32 → fraction < 2 ^ 32 → seconds * 1000000000 + fraction * cond nanos 1 1000 < 2 ^ 64
time_below seconds fraction true few less = omega (arith, few, less)
time_below seconds fraction false few less = omega (arith, few, less)

module _ (header : Header) (file : List ℕ) (are : AreBytes file) where
  packet_is : (n : ℕ) → IsPacket (packet_at header file n)
  packet_is n = record {
    time = time_below (number_at header.big 4 file n) (number_at header.big 4 file (n + 4)) header.nanos (number_below header.big file n are) (number_below header.big file (n + 4) are);
    wire = number_below header.big file (n + 12) are;
  }

  pub packets_are : {n : ℕ} {packets : List Packet} {ending : Ending} → Records header file n packets ending → AllByRecursion IsPacket packets
  packets_are (no_byte n past) = tt
  packets_are (short_header n some few) = tt
  packets_are (too_large n stands large) = tt
  packets_are (short_packet n stands lawful few) = tt
  packets_are (whole n packets ending has more) = (packet_is n, packets_are more)

-- ---- their numbers

abbrev pub IsCounted : ℕ × Packet → Type 0
IsCounted p = (p.0 < 2 ^ 64) × IsPacket p.1

counted_from : (s : Numbering) (packets : List Packet) → s.number < 2 ^ 64 → AllByRecursion IsPacket packets → AllByRecursion IsCounted (numbered_from time_of s packets)
counted_from s [] few are = tt
counted_from s (p ∷ ps) few are =
    let first : ℕ = next_first s p.time in
    let quotient : offset s.window first p.time ≤ p.time - first = div-le_self (p.time - first) s.window in
    let time : p.time < 2 ^ 64 = are.0.time in
    let next : next_number s p.time < 2 ^ 64 = omega (arith, few, quotient, time) in
    ((next, are.0), counted_from (stepped s p.time) ps next are.1)

pub counted : (window : ℕ) (packets : List Packet) → AllByRecursion IsPacket packets → AllByRecursion IsCounted (numbered time_of window packets)
counted window packets are = subst (AllByRecursion IsCounted) (numbered_is time_of window packets) (counted_from (begun window) packets (omega arith) are)

pub never_fall : (window : ℕ) (packets : List Packet) → Rises (numbered time_of window packets)
never_fall window packets = subst Rises (numbered_is time_of window packets) (numbers_rise time_of (begun window) packets)

-- ---- their windows

once_all : (P : ℕ → Type 0) (ns : List ℕ) → AllByRecursion P ns → AllByRecursion P (once nat_eq ns)
once_all P [] h = tt
once_all P (n ∷ ns) h = (h.0, all_filter P (λ m. not (nat_eq n m)) (once nat_eq ns) (once_all P ns h.1))

module _ (shown : Packet → List ℕ) (wide : (p : Packet) → IsPacket p → HasWidths (shown p)) where
  shown_wide : (w : ℕ) (ps : List (ℕ × Packet)) → AllByRecursion IsCounted ps → AllByRecursion HasWidths (map shown (in_window w ps))
  shown_wide w ps are =
      let Wide : ℕ × Packet → Type 0 = λ p. HasWidths (shown p.1) in
      let here : ℕ × Packet → Bool = λ p. p.0 == w in
      all_map HasWidths shown (in_window w ps)
      (all_map (λ p. HasWidths (shown p)) record_at (filter here ps) (all_filter Wide here ps (all_weaker IsCounted Wide (λ p is. wide p.1 is.1) ps are)))

  pub windows_real : (ps : List (ℕ × Packet)) → AllByRecursion IsCounted ps → AllByRecursion IsReal (windows_in shown ps)
  windows_real ps are =
      let numbers : AllByRecursion (λ w. w < 2 ^ 64) (map window_at ps) = all_map (λ w. w < 2 ^ 64) window_at ps (all_weaker IsCounted (λ p. p.0 < 2 ^ 64) (λ p is. is.0) ps are) in
      all_map IsReal (window_in shown ps) (windows_of ps)
      (all_weaker (λ w. w < 2 ^ 64) (λ w. IsReal (window_in shown ps w)) (λ w few. (few, shown_wide w ps are)) (windows_of ps) (once_all (λ w. w < 2 ^ 64) (map window_at ps) numbers))

pub windows_rise : (shown : Packet → List ℕ) (ps : List (ℕ × Packet)) → Rises ps → AreRising None (windows_in shown ps)
windows_rise shown [] r = tt
windows_rise shown (p ∷ ps) r =
    let rest : List (ℕ × Packet) = drop (run_of p.0 ps) ps in
    subst (AreRising None) (sym (windows_more shown p ps r)) (tt, rising_above shown p.0 rest (run_above p.0 ps r.0 r.1) (drop_rises (run_of p.0 ps) ps r.1))

-- ---- their blocks

-- where no window has too many records, each has its block
pub blocks_whole : (wording : Wording) (shown : Packet → List ℕ) (ps : List (ℕ × Packet)) → all_few ps ≡ true
    → blocks_in wording shown ps ≡ flat_map (λ (w : Window). wording.block (windows_in shown ps) w.0 w.1) (windows_in shown ps)
blocks_whole wording shown ps few =
    let all : List Window = windows_in shown ps in
    ap (flat_map (λ w. block_in wording shown all w (in_window w ps))) (all_held (λ w. is_few w ps) (windows_of ps) few)
    ∙ sym (flat_map-map (λ (w : Window). wording.block all w.0 w.1) (window_in shown ps) (windows_of ps))
