use Rattle.std.proofs.Common.{◌≡◌, ℕ, zero, suc, ◌+◌, ◌<◌, ◌≤◌, Bool, true, false, nat_lt, length, List, [], ◌∷◌, ◌++◌, refl, ap, subst, All, append_assoc, arith}
use Rattle.std.proofs.lemmas.List.{append-nil}
use borrow.Author.Tests.{ltb-true, ltb-false}
use Rattle.std.proofs.lemmas.List.Elements.{All-same, All-push}
use Rattle.sn_pcap.specs.declared.header.Header.{Header}
use Rattle.sn_pcap.specs.declared.packet.Packet.{Packet}
use Rattle.sn_pcap.specs.declared.packet.Ending.{Ending}
use Rattle.sn_pcap.specs.declared.packet.Ending.TheVariants.{Clean, Cut, Bad}
use Rattle.sn_pcap.specs.Capture.{Records, HasRecords, HasRecord, IsWithin, captured, packet_at, no_byte, short_header, too_large, short_packet, whole}
use Rattle.sn_base.proofs.Lists.{by_test}
use Rattle.sn_base.proofs.Tests.{by_order}

-- from an offset on a file has one list of packets and one ending at most
pub records_once : {header : Header} {file : List ℕ} {n : ℕ} {ps qs : List Packet} {e f : Ending}
    → Records header file n ps e → Records header file n qs f → (ps ≡ qs) × (e ≡ f)
records_once (no_byte n a) (no_byte _ b) = (refl, refl)
records_once (no_byte n a) (short_header _ b c) = absurd (omega arith)
records_once (no_byte n a) (too_large _ b c) = absurd (omega arith)
records_once (no_byte n a) (short_packet _ b c d) = absurd (omega arith)
records_once (no_byte n a) (whole _ qs f b s) = absurd (omega arith)
records_once (short_header n a b) (no_byte _ c) = absurd (omega arith)
records_once (short_header n a b) (short_header _ c d) = (refl, refl)
records_once (short_header n a b) (too_large _ c d) = absurd (omega arith)
records_once (short_header n a b) (short_packet _ c d e) = absurd (omega arith)
records_once (short_header n a b) (whole _ qs f c s) = absurd (omega arith)
records_once (too_large n a b) (no_byte _ c) = absurd (omega arith)
records_once (too_large n a b) (short_header _ c d) = absurd (omega arith)
records_once (too_large n a b) (too_large _ c d) = (refl, refl)
records_once (too_large n a b) (short_packet _ c d e) = absurd (omega arith)
records_once (too_large n a b) (whole _ qs f c s) = absurd (omega arith)
records_once (short_packet n a b c) (no_byte _ d) = absurd (omega arith)
records_once (short_packet n a b c) (short_header _ d e) = absurd (omega arith)
records_once (short_packet n a b c) (too_large _ d e) = absurd (omega arith)
records_once (short_packet n a b c) (short_packet _ d e f) = (refl, refl)
records_once (short_packet n a b c) (whole _ qs f d s) = absurd (omega arith)
records_once (whole n ps e a r) (no_byte _ b) = absurd (omega arith)
records_once (whole n ps e a r) (short_header _ b c) = absurd (omega arith)
records_once (whole n ps e a r) (too_large _ b c) = absurd (omega arith)
records_once (whole n ps e a r) (short_packet _ b c d) = absurd (omega arith)
records_once {header} {file} (whole n ps e a r) (whole _ qs f b s) =
    let rest = records_once r s in (ap (λ xs. packet_at header file n ∷ xs) rest.0, rest.1)

-- these packets are the first of the file, and its records from offset n on are the others
abbrev pub IsFront : Header → List ℕ → ℕ → List Packet → Type 0
IsFront header file n found = (packets : List Packet) (ending : Ending) → Records header file n packets ending → Records header file 24 (found ++ packets) ending

-- one record further
pub front_more : (header : Header) (file : List ℕ) (n m : ℕ) (found more : List Packet) (packet : Packet)
    → IsFront header file n found → HasRecord header file n → packet ≡ packet_at header file n → m ≡ n + (16 + packet.cap)
    → more ≡ found ++ packet ∷ [] → IsFront header file m more
front_more header file n m found more packet front has packet_is m_is more_is packets ending rest =
    let cap_is : packet.cap ≡ captured header file n = ap (λ (p : Packet). p.cap) packet_is in
    let further : m ≡ n + 16 + captured header file n = omega arith in
    let from_n = whole n packets ending has (subst (λ (k : ℕ). Records header file k packets ending) further rest) in
    let regroup = append_assoc found (packet ∷ []) packets in
    let same : found ++ (packet_at header file n ∷ packets) ≡ more ++ packets = cc in
    subst (λ (xs : List Packet). Records header file 24 xs ending) same (front (packet_at header file n ∷ packets) ending from_n)

-- at the end they are all
pub front_ends : (header : Header) (file : List ℕ) (n : ℕ) (found : List Packet) (ending : Ending)
    → IsFront header file n found → Records header file n [] ending → Records header file 24 found ending
front_ends header file n found ending front last =
    subst (λ (xs : List Packet). Records header file 24 xs ending) (append-nil found) (front [] ending last)

-- a whole record's packet stands within the file
packet_within : (header : Header) (file : List ℕ) (n : ℕ) (packet : Packet) → HasRecord header file n → packet ≡ packet_at header file n → IsWithin file packet
packet_within header file n packet has packet_is =
    let cap_is : packet.cap ≡ captured header file n = ap (λ (p : Packet). p.cap) packet_is in
    let at_is : packet.at ≡ n + 16 = ap (λ (p : Packet). p.at) packet_is in
    let lawful = has.lawful in
    let stands = has.stands in
    record { stands = omega arith; most = omega arith }

pub within_more : (header : Header) (file : List ℕ) (n : ℕ) (found more : List Packet) (packet : Packet)
    → All (IsWithin file) found → HasRecord header file n → packet ≡ packet_at header file n → more ≡ found ++ packet ∷ [] → All (IsWithin file) more
within_more header file n found more packet all has packet_is more_is =
    All-same (IsWithin file) more (found ++ packet ∷ []) more_is
    (All-push (IsWithin file) found packet all (packet_within header file n packet has packet_is))

some_within : (header : Header) (file : List ℕ) (room n : ℕ) → length file ≤ n + room → HasRecords header file n
some_within header file zero n near = record { packets = []; ending = Clean; are = no_byte n (omega arith) }
some_within header file (suc room) n near =
    by_order n (length file)
    (λ stands. by_order (length file) (n + 16)
    (λ few. record { packets = []; ending = Cut n; are = short_header n stands few })
    (λ header_stands. by_order 262144 (captured header file n)
    (λ large. record { packets = []; ending = Bad n; are = too_large n header_stands large })
    (λ lawful. by_order (length file) (n + 16 + captured header file n)
    (λ few. record { packets = []; ending = Cut n; are = short_packet n header_stands lawful few })
    (λ packet_stands.
    let rest = some_within header file room (n + 16 + captured header file n) (omega arith) in
    record { packets = packet_at header file n ∷ rest.packets; ending = rest.ending; are = whole n rest.packets rest.ending (record { lawful = lawful; stands = packet_stands }) rest.are }))))
    (λ none. record { packets = []; ending = Clean; are = no_byte n none })

-- from each offset on a file has records
pub records_some : (header : Header) (file : List ℕ) (n : ℕ) → HasRecords header file n
records_some header file n = some_within header file (length file) n (omega arith)
