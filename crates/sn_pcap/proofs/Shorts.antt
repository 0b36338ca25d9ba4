-- How a capture ends of which too few bytes stand.
use Rattle.std.proofs.Common.{◌≡◌, ℕ, ◌+◌, ◌-◌, ◌<◌, ◌≤◌, ◌^◌, nat_lt, nat_le, Bool, true, false, cond, List, [], length, refl, ap, sym, subst, ◌∙◌, arith}
use Rattle.std.proofs.lemmas.Bool.Decides.{nat_tests}
use Rattle.sn_pcap.specs.declared.header.Header.{Header}
use Rattle.sn_pcap.specs.declared.packet.Ending.{Ending}
use Rattle.sn_pcap.specs.declared.packet.Ending.TheVariants.{Clean, Cut, Bad}
use Rattle.sn_pcap.specs.declared.seen.Last.{Last}
use Rattle.sn_pcap.specs.declared.seen.Last.TheVariants as last
use Rattle.sn_pcap.specs.Capture.{Records, captured, no_byte, short_header, too_large, short_packet}
use Rattle.sn_pcap.specs.Reading.{within, last_of}
use Rattle.sn_pcap.specs.Stands.{short_ending, IsShort, IsNextEnd}
use Rattle.sn_pcap.proofs.Holding.{length_within}
use Rattle.sn_base.proofs.Tests.{not_less, at_most, not_at_most, less, by_order as below_or_not}

ending_clean : (file : List ℕ) (n : ℕ) → length file ≤ n → short_ending file n ≡ Clean
ending_clean file n h = ap (λ (b : Bool). cond b Clean (Cut n)) (at_most (length file) n h)

ending_cut : (file : List ℕ) (n : ℕ) → n < length file → short_ending file n ≡ Cut n
ending_cut file n h = ap (λ (b : Bool). cond b Clean (Cut n)) (not_at_most (length file) n h)

large_is : (file front : List ℕ) (n : ℕ) → 2 ^ 40 < length file → last.TooLarge ≡ last_of file (short_ending front n)
large_is file front n large =
    elim (nat_le (length front) n) as (λ b. last.TooLarge ≡ last_of file (cond b Clean (Cut n))) [
      | true ↦ sym (ap (λ (b : Bool). cond b last.TooLarge (last.Ended Clean)) (less (2 ^ 40) (length file) large))
      | false ↦ sym (ap (λ (b : Bool). cond b last.TooLarge (last.Ended (Cut n))) (less (2 ^ 40) (length file) large))
    ]

-- bytes stand after the most that are read
pub short_large : (file : List ℕ) (n need count : ℕ) → count ≤ need → count ≤ length file - n → n ≤ 2 ^ 40 → 2 ^ 40 < n + count → IsShort file n need last.TooLarge
short_large file n need count asked stands most past = record {
  few = omega (arith, length_within file);
  ends = large_is file (within file) n (omega arith);
}

-- no byte stands
pub short_clean : (file : List ℕ) (n need : ℕ) → 0 < need → n ≤ 2 ^ 40 → length file ≤ n → IsShort file n need (last.Ended Clean)
short_clean file n need some most none =
    let past : length (within file) ≤ n = omega (arith, length_within file) in
    record {
      few = omega arith;
      ends = sym (ap (last_of file) (ending_clean (within file) n past) ∙ ap (λ (b : Bool). cond b last.TooLarge (last.Ended Clean)) (not_less (2 ^ 40) (length file) (omega arith)));
    }

-- some bytes stand, but too few
pub short_cut : (file : List ℕ) (n need count : ℕ) → 0 < count → count < need → length file ≡ n + count → length file ≤ 2 ^ 40 → IsShort file n need (last.Ended (Cut n))
short_cut file n need count some few ends most =
    let stands : n < length (within file) = omega (arith, length_within file) in
    record {
      few = omega (arith, length_within file);
      ends = sym (ap (last_of file) (ending_cut (within file) n stands) ∙ ap (λ (b : Bool). cond b last.TooLarge (last.Ended (Cut n))) (not_less (2 ^ 40) (length file) most));
    }

-- the header of a record doesn't stand
pub end_in_header : (header : Header) (file : List ℕ) (n : ℕ) (e : Last) → IsShort file n 16 e → IsNextEnd header file n e
end_in_header header file n e short =
    record {
      ending = short_ending (within file) n;
      none = records;
      ends = short.ends;
    }
  where
    records : Records header (within file) n [] (short_ending (within file) n)
    records = below_or_not n (length (within file))
        (λ stands. subst (λ (ending : Ending). Records header (within file) n [] ending) (sym (ending_cut (within file) n stands)) (short_header n stands short.few))
        (λ past. subst (λ (ending : Ending). Records header (within file) n [] ending) (sym (ending_clean (within file) n past)) (no_byte n past))

-- a record's header has too large a captured length
pub end_in_bad : (header : Header) (file : List ℕ) (n : ℕ) → n + 16 ≤ length (within file) → 262144 < captured header (within file) n → IsNextEnd header file n (last.Ended (Bad n))
end_in_bad header file n stands large = record { ending = Bad n; none = too_large n stands large; ends = refl }

-- the packet of a record doesn't stand whole
pub end_in_packet : (header : Header) (file : List ℕ) (n need : ℕ) (e : Last) → n + 16 ≤ length (within file) → captured header (within file) n ≤ 262144 → need ≡ 16 + captured header (within file) n → IsShort file n need e → IsNextEnd header file n e
end_in_packet header file n need e stands lawful asked short =
    let few : length (within file) < n + need = short.few in
    record {
      ending = Cut n;
      none = short_packet n stands lawful (omega arith);
      ends = short.ends ∙ ap (last_of file) (ending_cut (within file) n (omega arith));
    }
