-- What is read of a record at the front of a buffer is what stands in the file.
use Rattle.std.proofs.Common.{◌≡◌, ℕ, ◌+◌, ◌-◌, ◌*◌, ◌≤◌, ◌^◌, Bool, true, false, if◌then◌else◌, List, length, take, drop, min, ap, sym, ◌∙◌, arith}
use Rattle.std.proofs.lemmas.List.{drop-drop, drop-take, take-take}
use Rattle.byteorder.specs.Endian.{big_number, little_number}
use Rattle.byteorder.specs.Numbers.{big_from-take, little_from-take}
use Rattle.sn_pcap.specs.declared.header.Header.{Header}
use Rattle.sn_pcap.specs.declared.seen.Seen.{Seen}
use Rattle.sn_pcap.specs.Capture.{number_at, captured, time_at, packet_at}
use Rattle.sn_pcap.specs.Reading.{within, HoldsAt, IsSeen}
use Rattle.sn_pcap.specs.Stands.{IsNextPacket}
use Rattle.sn_pcap.proofs.Holding.{length_within}

-- some bytes of a front
pub bytes_in : (xs : List ℕ) (most place count : ℕ) → place + count ≤ most → take count (drop place (take most xs)) ≡ take count (drop place xs)
bytes_in xs most place count fits =
    let all : most ≡ place + (most - place) = omega arith in
    ap (λ (k : ℕ). take count (drop place (take k xs))) all ∙ ap (take count) (drop-take place (most - place) xs) ∙ take-take count (most - place) (drop place xs) (omega arith)

-- a number reads no byte past its end
number_front : (big : Bool) (count : ℕ) (xs : List ℕ) → (if big then big_number count xs else little_number count xs) ≡ (if big then big_number count (take count xs) else little_number count (take count xs))
number_front true count xs = sym (big_from-take 0 count count xs (omega arith))
number_front false count xs = sym (little_from-take 0 count count xs (omega arith))

number_same : (big : Bool) (count : ℕ) (xs ys : List ℕ) → take count xs ≡ take count ys → (if big then big_number count xs else little_number count xs) ≡ (if big then big_number count ys else little_number count ys)
number_same big count xs ys same =
    number_front big count xs ∙ ap (λ (zs : List ℕ). if big then big_number count zs else little_number count zs) same ∙ sym (number_front big count ys)

-- a number in a front
pub number_in : (big : Bool) (count : ℕ) (xs : List ℕ) (most place : ℕ) → place + count ≤ most → number_at big count (take most xs) place ≡ number_at big count xs place
number_in big count xs most place fits = number_same big count (drop place (take most xs)) (drop place xs) (bytes_in xs most place count fits)

-- some bytes of what is held are those of the file
held_bytes : (file held : List ℕ) (n place count : ℕ) → HoldsAt file n held → place + count ≤ length held → take count (drop place held) ≡ take count (drop (n + place) file)
held_bytes file held n place count holds fits =
    ap (λ (xs : List ℕ). take count (drop place xs)) holds ∙ bytes_in (drop n file) (length held) place count fits ∙ ap (take count) (drop-drop place n file)

-- and of its first bytes
read_bytes : (file held : List ℕ) (n place count : ℕ) → HoldsAt file n held → place + count ≤ length held → n + place + count ≤ length (within file) → take count (drop place held) ≡ take count (drop (n + place) (within file))
read_bytes file held n place count holds fits stands =
    held_bytes file held n place count holds fits ∙ sym (bytes_in file (2 ^ 40) (n + place) count (omega (arith, length_within file)))

pub read_number : (big : Bool) (file held : List ℕ) (n place : ℕ) → HoldsAt file n held → place + 4 ≤ length held → n + place + 4 ≤ length (within file) → number_at big 4 held place ≡ number_at big 4 (within file) (n + place)
read_number big file held n place holds fits stands =
    number_same big 4 (drop place held) (drop (n + place) (within file)) (read_bytes file held n place 4 holds fits stands)

-- what stood in a buffer still stands when there is more
pub captured_kept : (header : Header) (before now : List ℕ) → take (length before) now ≡ before → 12 ≤ length before → captured header now 0 ≡ number_at header.big 4 before 8
captured_kept header before now kept long =
    sym (number_in header.big 4 now (length before) 8 (omega arith)) ∙ ap (λ (xs : List ℕ). number_at header.big 4 xs 8) kept

-- the packet of the record at the front of what is held
pub packet_read : (header : Header) (file held : List ℕ) (n : ℕ) (seen : Seen) → HoldsAt file n held → 16 + min (captured header held 0) 128 ≤ length held
    → captured header held 0 ≤ 262144 → n + (16 + captured header held 0) ≤ length (within file) → IsSeen held (packet_at header held 0) seen → IsNextPacket header file n seen
packet_read header file held n seen holds fits lawful stands is =
    let cap : captured header held 0 ≡ captured header (within file) n = read_number header.big file held n 8 holds (omega arith) (omega arith) in
    let seconds : number_at header.big 4 held 0 ≡ number_at header.big 4 (within file) (n + 0) = read_number header.big file held n 0 holds (omega arith) (omega arith) in
    let fraction : number_at header.big 4 held 4 ≡ number_at header.big 4 (within file) (n + 4) = read_number header.big file held n 4 holds (omega arith) (omega arith) in
    let wire : number_at header.big 4 held 12 ≡ number_at header.big 4 (within file) (n + 12) = read_number header.big file held n 12 holds (omega arith) (omega arith) in
    let begin : n + 0 ≡ n = omega arith in
    let second : number_at header.big 4 held 0 ≡ number_at header.big 4 (within file) n = seconds ∙ ap (number_at header.big 4 (within file)) begin in
    let unit : ℕ = (if header.nanos then 1 else 1000) in
    let time : time_at header held 0 ≡ time_at header (within file) n =
    ap (λ (x : ℕ). x * 1000000000 + number_at header.big 4 held 4 * unit) second ∙ ap (λ (x : ℕ). number_at header.big 4 (within file) n * 1000000000 + x * unit) fraction in
    let len : seen.len ≡ min (captured header held 0) 128 = is.len in
    let first : take seen.len (drop 16 held) ≡ take seen.len (drop (n + 16) (within file)) = read_bytes file held n 16 seen.len holds (omega arith) (omega arith) in
    record {
      whole = record { lawful = omega arith; stands = omega arith };
      is_seen = record {
        time = is.time ∙ time;
        wire = is.wire ∙ wire;
        cap = is.cap ∙ cap;
        len = is.len ∙ ap (λ (x : ℕ). min x 128) cap;
        front = is.front ∙ take-take seen.len (captured header held 0) (drop 16 held) (omega arith) ∙ first ∙ sym (take-take seen.len (captured header (within file) n) (drop (n + 16) (within file)) (omega arith));
      };
    }
