-- Records that stand in a part of a capture stand in the capture.
use Rattle.std.proofs.Common.{◌≡◌, ℕ, ◌+◌, ◌-◌, ◌*◌, ◌≤◌, List, [], ◌∷◌, ◌++◌, length, map, take, drop, refl, ap, sym, subst, ◌∙◌, if◌then◌else◌, arith}
use Rattle.std.proofs.lemmas.List.{drop-drop}
use Rattle.sn_base.specs.declared.link.Link.{Link}
use Rattle.sn_pcap.specs.declared.header.Header.{Header}
use Rattle.sn_pcap.specs.declared.packet.Packet.{Packet}
use Rattle.sn_pcap.specs.declared.packet.Ending.{Ending}
use Rattle.sn_pcap.specs.declared.packet.Ending.TheVariants.{Clean, Cut, Bad}
use Rattle.sn_pcap.specs.Capture.{HasRecord, Records, captured, no_byte, number_at, packet_at, short_header, short_packet, time_at, too_large, whole}
use Rattle.sn_pcap.proofs.Fronts.{bytes_in, number_in}
use Rattle.sn_fields.specs.Tuples.{tuple}
use Rattle.sn_command_training.specs.Collecting.{Seen, shown}
use Rattle.sn_command_training.specs.Taking.{HasEnd, end_at}

-- from the end of the header on, a part has the bytes of a file that stand this much further on
abbrev pub Agrees : List ℕ → List ℕ → ℕ → Type 0
Agrees file part k = (m : ℕ) → 24 ≤ m → m ≤ length part → drop m part ≡ take (length part - m) (drop (m + k) file)

-- the whole records of some bytes end within them
pub end_within : (header : Header) (part : List ℕ) (m : ℕ) (packets : List Packet) (ending : Ending) → m ≤ length part → Records header part m packets ending → (m ≤ end_at part ending) × (end_at part ending ≤ length part)
end_within header part m packets ending fits (no_byte _ ended) = (fits, omega arith)
end_within header part m packets ending fits (short_header _ some few) = (omega arith, fits)
end_within header part m packets ending fits (too_large _ has large) = (omega arith, fits)
end_within header part m packets ending fits (short_packet _ has lawful few) = (omega arith, fits)
end_within header part m packets ending fits (whole _ rest last has are) =
    let later = end_within header part (m + 16 + captured header part m) rest last has.stands are in
    let above = later.0 in
    (omega (arith, above), later.1)

module _ (header : Header) (file part : List ℕ) (k : ℕ) (agrees : Agrees file part k) where
  number_moved : (m j : ℕ) → 24 ≤ m → m + (j + 4) ≤ length part → number_at header.big 4 part (m + j) ≡ number_at header.big 4 file (m + k + j)
  number_moved m j begins fits =
      ap (λ (xs : List ℕ). number_at header.big 4 xs 0) (sym (drop-drop j m part) ∙ ap (drop j) (agrees m begins (omega (arith, fits))))
      ∙ number_in header.big 4 (drop (m + k) file) (length part - m) j (omega (arith, fits))
      ∙ ap (λ (xs : List ℕ). number_at header.big 4 xs 0) (drop-drop j (m + k) file)

  first_moved : (m : ℕ) → 24 ≤ m → m + 4 ≤ length part → number_at header.big 4 part m ≡ number_at header.big 4 file (m + k)
  first_moved m begins fits =
      let a : m ≡ m + 0 = omega arith in
      let b : m + k + 0 ≡ m + k = omega arith in
      ap (number_at header.big 4 part) a ∙ number_moved m 0 begins (omega (arith, fits)) ∙ ap (number_at header.big 4 file) b

  captured_moved : (m : ℕ) → 24 ≤ m → m + 16 ≤ length part → captured header part m ≡ captured header file (m + k)
  captured_moved m begins fits = number_moved m 8 begins (omega (arith, fits))

  time_moved : (m : ℕ) → 24 ≤ m → m + 16 ≤ length part → time_at header part m ≡ time_at header file (m + k)
  time_moved m begins fits =
      let unit : ℕ = (if header.nanos then 1 else 1000) in
      ap (λ (x : ℕ). x * 1000000000 + number_at header.big 4 part (m + 4) * unit) (first_moved m begins (omega (arith, fits)))
      ∙ ap (λ (x : ℕ). number_at header.big 4 file (m + k) * 1000000000 + x * unit) (number_moved m 4 begins (omega (arith, fits)))

  bytes_moved : (m cap : ℕ) → 24 ≤ m → m + 16 + cap ≤ length part → take cap (drop (m + 16) part) ≡ take cap (drop (m + k + 16) file)
  bytes_moved m cap begins fits =
      ap (take cap) (sym (drop-drop 16 m part)) ∙ ap (λ (xs : List ℕ). take cap (drop 16 xs)) (agrees m begins (omega (arith, fits)))
      ∙ bytes_in (drop (m + k) file) (length part - m) 16 cap (omega (arith, fits)) ∙ ap (take cap) (drop-drop 16 (m + k) file)

  -- the record shows the same
  shown_moved : (link : Link) (m : ℕ) → 24 ≤ m → HasRecord header part m → shown link file (packet_at header file (m + k)) ≡ shown link part (packet_at header part m)
  shown_moved link m begins has =
      let stands = has.stands in
      let long : m + 16 ≤ length part = omega (arith, stands) in
      let cap = captured_moved m begins long in
      let time = time_moved m begins long in
      let wire = number_moved m 12 begins (omega (arith, long)) in
      let bytes = bytes_moved m (captured header part m) begins stands in
      ap (λ (x : ℕ). (time_at header file (m + k), tuple link (number_at header.big 4 file (m + k + 12)) (take x (drop (m + k + 16) file)))) (sym cap)
      ∙ ap (λ (xs : List ℕ). (time_at header file (m + k), tuple link (number_at header.big 4 file (m + k + 12)) xs)) (sym bytes)
      ∙ ap (λ (x : ℕ). (time_at header file (m + k), tuple link x (take (captured header part m) (drop (m + 16) part)))) (sym wire)
      ∙ ap (λ (x : ℕ). (x, tuple link (number_at header.big 4 part (m + 12)) (take (captured header part m) (drop (m + 16) part)))) (sym time)

  record_moved : (m : ℕ) → 24 ≤ m → HasRecord header part m → length part + k ≤ length file → HasRecord header file (m + k)
  record_moved m begins has within =
      let stands = has.stands in
      let lawful = has.lawful in
      let cap = captured_moved m begins (omega (arith, stands)) in
      record { lawful = omega (arith, lawful, cap); stands = omega (arith, stands, cap, within) }

  -- the whole records of a part from a place on are the first ones of the file from there on
  pub record Moved (link : Link) (m : ℕ) (packets : List Packet) (ending : Ending) : Type 0 where
    pub further : List Packet
    pub front : (rest : List Packet) (last : Ending) → Records header file (end_at part ending + k) rest last → Records header file (m + k) (further ++ rest) last
    pub alike : map (shown link file) further ≡ map (shown link part) packets
    pub above : m ≤ end_at part ending
    pub below : end_at part ending ≤ length part
    pub none : Records header part (end_at part ending) [] ending

  pub all_moved : (link : Link) (m : ℕ) (packets : List Packet) (ending : Ending) → length part + k ≤ length file → 24 ≤ m → m ≤ length part → Records header part m packets ending → Moved link m packets ending
  all_moved link m packets ending within begins fits (no_byte _ ended) =
      let same : m ≡ length part = omega (arith, fits, ended) in
      record { further = []; front = λ rest last are. subst (λ (n : ℕ). Records header file (n + k) rest last) (sym same) are; alike = refl; above = fits; below = omega arith; none = no_byte (length part) (omega arith) }
  all_moved link m packets ending within begins fits (short_header _ some few) =
      record { further = []; front = λ rest last are. are; alike = refl; above = omega arith; below = fits; none = short_header m some few }
  all_moved link m packets ending within begins fits (too_large _ has large) =
      record { further = []; front = λ rest last are. are; alike = refl; above = omega arith; below = fits; none = too_large m has large }
  all_moved link m packets ending within begins fits (short_packet _ has lawful few) =
      record { further = []; front = λ rest last are. are; alike = refl; above = omega arith; below = fits; none = short_packet m has lawful few }
  all_moved link m packets ending within begins fits (whole _ rest last has are) =
      let stands = has.stands in
      let cap = captured_moved m begins (omega (arith, stands)) in
      let next : ℕ = m + 16 + captured header part m in
      let later = all_moved link next rest last within (omega (arith, begins)) stands are in
      let same : next + k ≡ m + k + 16 + captured header file (m + k) = omega (arith, cap) in
      let above = later.above in
      record {
        further = packet_at header file (m + k) ∷ later.further;
        front = λ others end goes. whole (m + k) (later.further ++ others) end (record_moved m begins has within) (subst (λ (n : ℕ). Records header file n (later.further ++ others) end) same (later.front others end goes));
        alike = ap (λ (s : Seen). s ∷ map (shown link file) later.further) (shown_moved link m begins has) ∙ ap (λ (ss : List Seen). shown link part (packet_at header part m) ∷ ss) later.alike;
        above = omega (arith, above);
        below = later.below;
        none = later.none;
      }

  -- where no record of a part is whole from a place on, none of the file is, if it has no more bytes
  pub end_moved : (m : ℕ) (ending : Ending) → 24 ≤ m → length file ≡ length part + k → m ≤ length part → Records header part m [] ending → HasEnd header file (m + k)
  end_moved m ending begins all fits (no_byte _ ended) = record { ending = Clean; none = no_byte (m + k) (omega (arith, all, ended)) }
  end_moved m ending begins all fits (short_header _ some few) = record { ending = Cut (m + k); none = short_header (m + k) (omega (arith, all, some)) (omega (arith, all, few)) }
  end_moved m ending begins all fits (too_large _ has large) =
      let cap = captured_moved m begins has in
      record { ending = Bad (m + k); none = too_large (m + k) (omega (arith, all, has)) (omega (arith, cap, large)) }
  end_moved m ending begins all fits (short_packet _ has lawful few) =
      let cap = captured_moved m begins has in
      record { ending = Cut (m + k); none = short_packet (m + k) (omega (arith, all, has)) (omega (arith, cap, lawful)) (omega (arith, all, cap, few)) }

  -- a captured length that is too large stands in the file
  pub bad_moved : (m n : ℕ) → 24 ≤ m → length part + k ≤ length file → Records header part m [] (Bad n) → Records header file (m + k) [] (Bad (m + k))
  bad_moved m n begins within (too_large _ has large) =
      let cap = captured_moved m begins has in too_large (m + k) (omega (arith, within, has)) (omega (arith, cap, large))
