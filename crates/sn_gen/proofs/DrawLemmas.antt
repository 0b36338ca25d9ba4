use Rattle.std.proofs.Common.{◌≡◌, ◌∙◌, ℕ, zero, suc, ◌+◌, ◌*◌, ◌%◌, ◌^◌, ◌++◌, ◌∷◌, [], List, ap, sym, append_assoc, arith}
use Rattle.std.specs.List.{flat_map}
use Rattle.std.proofs.Math.Nat.{mod-add-mod}
use Rattle.std.proofs.lemmas.Grind.{flat_map-append}
use Rattle.std.proofs.lemmas.List.FromFn.{map-range_with_len_more}
use Rattle.sn_gen.specs.declared.packet.Packet.{Packet}
use Rattle.sn_gen.specs.Generated.{draws_before, draws_of, first_packets, next_number, number_after, packet_at, packet_of, record_bytes}

-- a product and a sum that wrap are the next number
pub next_is : (x : ℕ) → ((x * 6364136223846793005) % 2 ^ 64 + 1442695040888963407) % 2 ^ 64 ≡ next_number x
next_is x = mod-add-mod (x * 6364136223846793005) (2 ^ 64) 1442695040888963407

-- draws go on where those before them ended
pub after_more : (x before more : ℕ) → number_after (number_after x before) more ≡ number_after x (before + more)
after_more x before zero = ap (number_after x) (omega arith)
after_more x before (suc more) = ap next_number (after_more x before more) ∙ ap (number_after x) {x = suc (before + more)} (omega arith)

-- one packet more has made its draws
pub draws_before_more : (x i : ℕ) → number_after (number_after x (draws_before i)) (draws_of i) ≡ number_after x (draws_before (i + 1))
draws_before_more x i = after_more x (draws_before i) (draws_of i) ∙ ap (λ k. number_after x (draws_before k)) {x = suc i} {y = i + 1} (omega arith)

-- one packet more
pub one_more : (number i : ℕ) → flat_map record_bytes (first_packets number (i + 1)) ≡ flat_map record_bytes (first_packets number i) ++ record_bytes (packet_of number i)
one_more number i = ap (flat_map record_bytes) (map-range_with_len_more (packet_of number) 0 i i (omega arith)) ∙ flat_map-append record_bytes (first_packets number i) (packet_of number i ∷ [])

-- the records of one packet more, after those of the packets before it
pub records_more : (number i x : ℕ) (packet : Packet) (start before after : List ℕ) →
    before ≡ start ++ flat_map record_bytes (first_packets number i) →
    x ≡ number_after number (draws_before i) →
    packet ≡ packet_at x i →
    after ≡ before ++ record_bytes packet →
    after ≡ start ++ flat_map record_bytes (first_packets number (i + 1))
records_more number i x packet start before after held draws is grown =
    grown ∙ ap (λ p. before ++ record_bytes p) (is ∙ ap (λ y. packet_at y i) draws)
    ∙ ap (λ xs. xs ++ record_bytes (packet_of number i)) held
    ∙ append_assoc start (flat_map record_bytes (first_packets number i)) (record_bytes (packet_of number i))
    ∙ ap (λ xs. start ++ xs) (sym (one_more number i))
