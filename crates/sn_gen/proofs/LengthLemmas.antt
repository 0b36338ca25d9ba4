use Rattle.std.proofs.Common.{◌≡◌, ◌∙◌, ℕ, ◌+◌, ◌*◌, List, [], ◌∷◌, ◌++◌, length, length-append, refl, ap, arith}
use Rattle.std.specs.List.{flat_map}
use Rattle.std.proofs.lemmas.List.FromFn.{length-map-range_with_len}
use Rattle.sn_gen.specs.declared.packet.Packet.{Packet}
use Rattle.sn_gen.specs.Generated.{capture_bytes, first_packets, head_bytes, packet_count, packet_of, record_bytes}

-- a record has 70 bytes
record_length : (p : Packet) → length (record_bytes p) ≡ 70
record_length p = refl

records_length : (ps : List Packet) → length (flat_map record_bytes ps) ≡ 70 * length ps
records_length [] = refl
records_length (p ∷ ps) =
    let h : length (flat_map record_bytes (p ∷ ps)) ≡ length (record_bytes p) + length (flat_map record_bytes ps) = length-append (record_bytes p) (flat_map record_bytes ps) in
    omega (arith, h, record_length p, records_length ps)

front_length : (number count : ℕ) → length (head_bytes ++ flat_map record_bytes (first_packets number count)) ≡ 24 + 70 * count
front_length number count =
    length-append head_bytes (flat_map record_bytes (first_packets number count))
    ∙ ap (λ n. 24 + n) (records_length (first_packets number count) ∙ ap (λ n. 70 * n) (length-map-range_with_len (packet_of number) 0 count))

count_is : packet_count ≡ 20000
unfolding packet_count
count_is = refl

-- a capture has 24 bytes and 20,000 records
pub capture_length : (number : ℕ) → length (capture_bytes number) ≡ 1400024
capture_length number = front_length number packet_count ∙ ap (λ n. 24 + 70 * n) count_is
