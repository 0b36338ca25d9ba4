-- The records of a capture, found in its bytes one after another, over plain values.
use Rattle.std.proofs.Common.{◌≡◌, ◌&&◌, ℕ, ◌+◌, ◌-◌, ◌*◌, ◌<◌, ◌≤◌, List, [], ◌∷◌, ◌++◌, Bool, true, false, cond, map, take, length, Option, None, Some, refl, ap, sym, ◌∙◌, arith}
use Rattle.std.specs.Prelude.{nat_lt}
use Rattle.std.specs.List.{AllByRecursion}
use Rattle.std.proofs.lemmas.Bool.{ltb-true, ltb-false}
use Rattle.std.proofs.lemmas.List.{append-nil, append_assoc}
use Rattle.sn_base.proofs.Lists.{by_test, and_parts}
use Rattle.sn_base.proofs.Tests.{less, not_less}
use Rattle.sn_command_capture.specs.Capture.{packet_tuple, time_of}
use Rattle.sn_command_captures.specs.Counted.{share_if_few, share_of}
use Rattle.sn_command_captures.specs.Recorded.{shown}
use Rattle.sn_command_captures.specs.Walks.{IsNextRecord, are_few, ending_from, packets_from, recorded, untaken}
use Rattle.sn_command_captures.specs.Windows.{first_time}
use Rattle.sn_command_captures.specs.declared.share.Share.{Share}
use Rattle.sn_base.specs.declared.link.Link.{Link}
use Rattle.sn_pcap.proofs.OneCapture.{records_once, records_some}
use Rattle.sn_pcap.specs.Capture.{HasRecord, Records, captured, no_byte, packet_at, short_header, short_packet, too_large, whole}
use Rattle.sn_pcap.specs.declared.header.Header.{Header}
use Rattle.sn_pcap.specs.declared.packet.Packet.{Packet}
use Rattle.sn_pcap.specs.declared.packet.Ending.{Ending}
use Rattle.sn_windows.proofs.RunLemmas.{Rises}
use Rattle.sn_windows.specs.Blocks.{all_few, most_records}
use Rattle.sn_windows.specs.Numbering.{Numbering, begun_at, next_count, next_number, numbered_from, stepped}
use Rattle.sn_windows.specs.Windows.{in_window}
use Rattle.sn_windows_together.proofs.SinceLemmas.{CountsIn, counts_next, few_all, few_next, full_all, full_next, full_stays, numbered_is_since}
use Rattle.sn_windows_together.specs.Merging.{head_number}
use Rattle.sn_windows_together.specs.Since.{numbered_since}

-- ---- one record after another

-- each has a header of 16 bytes
header_each : {header : Header} {file : List ℕ} {at : ℕ} {packets : List Packet} {ending : Ending} → Records header file at packets ending → 16 * length packets ≤ length file - at
header_each (no_byte n none) = omega arith
header_each (short_header n some few) = omega arith
header_each (too_large n stands large) = omega arith
header_each (short_packet n stands lawful few) = omega arith
header_each {header} {file} (whole n packets ending has rest) =
    let following : 16 * length packets ≤ length file - (n + 16 + captured header file n) = header_each rest in
    let stands = has.stands in
    omega (arith, following, stands)

module _ (header : Header) (file : List ℕ) where
  pub found_records : (at : ℕ) → Records header file at (packets_from header file at) (ending_from header file at)
  found_records at = (records_some header file at).are

  pub few_packets : (at : ℕ) → 16 * length (packets_from header file at) ≤ length file
  few_packets at = let some = header_each (found_records at) in omega (arith, some)

  module _ (at : ℕ) where
    -- none is whole
    module _ (ending : Ending) (are : Records header file at [] ending) where
      pub no_packets : packets_from header file at ≡ []
      no_packets = (records_once (found_records at) are).0

      pub ending_here : ending_from header file at ≡ ending
      ending_here = (records_once (found_records at) are).1

    -- one is, and this is its packet
    module _ (next : ℕ) (packet : Packet) (has : HasRecord header file at) (is : packet ≡ packet_at header file at) (next_is : next ≡ at + (16 + packet.cap)) where
      further : at + 16 + captured header file at ≡ next
      further = let cap : packet.cap ≡ captured header file at = ap (λ (p : Packet). p.cap) is in omega (arith, cap, next_is)

      both : (packets_from header file at ≡ packet_at header file at ∷ packets_from header file (at + 16 + captured header file at))
          × (ending_from header file at ≡ ending_from header file (at + 16 + captured header file at))
      both = records_once (found_records at)
          (whole at (packets_from header file (at + 16 + captured header file at)) (ending_from header file (at + 16 + captured header file at)) has (found_records (at + 16 + captured header file at)))

      pub packets_next : packets_from header file at ≡ packet ∷ packets_from header file next
      packets_next = both.0 ∙ ap (λ (p : Packet). p ∷ packets_from header file (at + 16 + captured header file at)) (sym is) ∙ ap (λ (n : ℕ). packet ∷ packets_from header file n) further

      pub ending_next : ending_from header file at ≡ ending_from header file next
      ending_next = both.1 ∙ ap (λ (n : ℕ). ending_from header file n) further

  -- ---- the first one

  pub first_is : (packet : Packet) → HasRecord header file 24 → packet ≡ packet_at header file 24 → first_time (recorded header file) ≡ packet.time ∷ []
  first_is packet has is = ap (λ (ps : List Packet). map time_of (take 1 ps)) (packets_next 24 (24 + (16 + packet.cap)) packet has is refl)

  pub first_none : (ending : Ending) → Records header file 24 [] ending → first_time (recorded header file) ≡ []
  first_none ending are = ap (λ (ps : List Packet). map time_of (take 1 ps)) (no_packets 24 ending are)

-- ---- windows that have no more records than may be

low_or : (b : Bool) (n : ℕ) → cond b n 0 ≤ n
low_or true n = omega arith
low_or false n = omega arith

-- so few packets fill no window
pub few_fit : (s : Numbering) (packets : List Packet) → s.count + length packets ≤ most_records → are_few s packets ≡ true
few_fit s [] few = refl
few_fit s (p ∷ ps) few =
    let low : next_count s p.time ≤ s.count = low_or _ s.count in
    ap (λ b. b && are_few (stepped s p.time) ps) (less (next_count s p.time) most_records (omega (arith, low, few))) ∙ few_fit (stepped s p.time) ps (omega (arith, low, few))

-- nor do those of so few bytes
pub few_bytes : (header : Header) (file : List ℕ) (s : Numbering) → s.count ≡ 0 → length file ≤ 67108864 → true ≡ are_few s (packets_from header file 24)
few_bytes header file s none few =
    let many = few_packets header file 24 in
    sym (few_fit s (packets_from header file 24) (omega (arith, many, none, few)))

module _ (s : Numbering) (packets : List Packet) (p : Packet) (ps : List Packet) (parts : packets ≡ p ∷ ps) where
  first_few : are_few s packets ≡ nat_lt (next_count s p.time) most_records && are_few (stepped s p.time) ps
  first_few = ap (are_few s) parts

  -- a window is full
  pub full_here : most_records ≤ next_count s p.time → are_few s packets ≡ false
  full_here full = first_few ∙ ap (λ b. b && are_few (stepped s p.time) ps) (not_less (next_count s p.time) most_records full)

  -- none is so far
  pub few_then : next_count s p.time < most_records → are_few s packets ≡ are_few (stepped s p.time) ps
  few_then room = first_few ∙ ap (λ b. b && are_few (stepped s p.time) ps) (less (next_count s p.time) most_records room)

  module _ (few : are_few s packets ≡ true) where
    pub room_here : next_count s p.time < most_records
    room_here = ltb-true (next_count s p.time) most_records (and_parts (nat_lt (next_count s p.time) most_records) (are_few (stepped s p.time) ps) (sym first_few ∙ few)).0

    pub few_after : are_few (stepped s p.time) ps ≡ true
    few_after = (and_parts (nat_lt (next_count s p.time) most_records) (are_few (stepped s p.time) ps) (sym first_few ∙ few)).1

few_is : (s : Numbering) (came : List (ℕ × Packet)) (packets : List Packet) → CountsIn s came → ((w : ℕ) → length (in_window w came) ≤ most_records)
    → are_few s packets ≡ all_few (came ++ numbered_from time_of s packets)
few_is s came [] counts few = sym (ap all_few (append-nil came) ∙ few_all came few)
few_is s came (p ∷ ps) counts few =
    let t = p.time in
    let n = next_number s t in
    let rest = numbered_from time_of (stepped s t) ps in
    let regroup : (came ++ (n, p) ∷ []) ++ rest ≡ came ++ (n, p) ∷ rest = append_assoc came ((n, p) ∷ []) rest in
    by_test (nat_lt (next_count s t) most_records)
    (λ is.
    let room : next_count s t < most_records = ltb-true (next_count s t) most_records is in
    ap (λ b. b && are_few (stepped s t) ps) is
    ∙ few_is (stepped s t) (came ++ (n, p) ∷ []) ps (counts_next s came t p counts) (few_next s came t p counts room few) ∙ ap all_few regroup)
    (λ isnt.
    let full : most_records ≤ next_count s t = ltb-false (next_count s t) most_records isnt in
    let many = full_stays n (came ++ (n, p) ∷ []) rest (full_next s came t p counts full) in
    ap (λ b. b && are_few (stepped s t) ps) isnt ∙ sym (ap all_few (sym regroup) ∙ full_all n ((came ++ (n, p) ∷ []) ++ rest) many))

few_since : (window start : ℕ) (packets : List Packet) → are_few (begun_at start window) packets ≡ all_few (numbered_since time_of window start packets)
few_since window start packets =
    few_is (begun_at start window) [] packets (record { begun = refl; count = refl; below = tt }) (λ w. omega arith) ∙ ap all_few (numbered_is_since window start time_of packets)

-- ---- what a switch saw

module _ (window start : ℕ) (header : Header) (file : List ℕ) where
  abbrev pub begun_share : Option Share
  begun_share = cond (are_few (begun_at start window) (packets_from header file 24)) (Some (untaken header file (begun_at start window) 24)) None

  whole_share : untaken header file (begun_at start window) 24 ≡ share_of window start (recorded header file)
  whole_share = ap (λ (rs : List (ℕ × Packet)). record { records = map (shown header.link file) rs; ending = ending_from header file 24 }) (numbered_is_since window start time_of (packets_from header file 24))

  pub share_is : begun_share ≡ share_if_few window start (recorded header file)
  share_is =
      ap (λ b. cond b (Some (untaken header file (begun_at start window) 24)) None) (few_since window start (packets_from header file 24))
      ∙ ap (λ (s : Share). cond (all_few (numbered_since time_of window start (packets_from header file 24))) (Some s) None) whole_share

-- ---- what is left

module _ (link : Link) (file : List ℕ) where
  above_shown : (n : ℕ) (ps : List (ℕ × Packet)) → AllByRecursion (λ (q : ℕ × Packet). n ≤ q.0) ps → AllByRecursion (λ (q : ℕ × List ℕ). n ≤ q.0) (map (shown link file) ps)
  above_shown n [] all = tt
  above_shown n (p ∷ ps) all = (all.0, above_shown n ps all.1)

  pub shown_rises : (ps : List (ℕ × Packet)) → Rises ps → Rises (map (shown link file) ps)
  shown_rises [] rises = tt
  shown_rises (p ∷ ps) rises = (above_shown p.0 ps rises.0, shown_rises ps rises.1)

-- the next record is taken
module _ {header : Header} {file : List ℕ} {at number : ℕ} {s next : Numbering} {packet : Packet} (n : IsNextRecord header file at s number packet next) where
  parts : packets_from header file at ≡ packet ∷ packets_from header file (at + (16 + packet.cap))
  parts = packets_next header file at (at + (16 + packet.cap)) packet n.whole n.is refl

  pub taken_is : (untaken header file s at).records ≡ (number, packet_tuple header.link file packet) ∷ (untaken header file next (at + (16 + packet.cap))).records
  taken_is =
      let rest = packets_from header file (at + (16 + packet.cap)) in
      ap (λ (ps : List Packet). map (shown header.link file) (numbered_from time_of s ps)) parts
      ∙ ap (λ (k : ℕ). (k, packet_tuple header.link file packet) ∷ map (shown header.link file) (numbered_from time_of (stepped s packet.time) rest)) (sym n.number_is)
      ∙ ap (λ (m : Numbering). (number, packet_tuple header.link file packet) ∷ map (shown header.link file) (numbered_from time_of m rest)) (sym n.next_is)

  pub number_found : Some number ≡ head_number (untaken header file s at).records
  number_found = sym (ap head_number taken_is)

  pub few_left : are_few s (packets_from header file at) ≡ true → are_few next (packets_from header file (at + (16 + packet.cap))) ≡ true
  few_left few =
      ap (λ (m : Numbering). are_few m (packets_from header file (at + (16 + packet.cap)))) n.next_is
      ∙ few_after s (packets_from header file at) packet (packets_from header file (at + (16 + packet.cap))) parts few

  pub ending_left : ending_from header file (at + (16 + packet.cap)) ≡ ending_from header file at
  ending_left = sym (ending_next header file at (at + (16 + packet.cap)) packet n.whole n.is refl)
