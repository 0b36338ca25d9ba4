-- The tuple of a packet depends on the first 128 bytes alone.
use Rattle.std.proofs.Common.{◌≡◌, ℕ, zero, suc, ◌+◌, ◌*◌, ◌%◌, ◌<◌, ◌≤◌, Bool, true, false, cond, List, length, take, drop, slice_index, refl, ap, sym, ◌∙◌, arith, get_or-drop, get_or-take, length-take}
use Rattle.std.proofs.lemmas.Bool.{le-leb, lt-leb}
use borrow.Author.Tests.{leb-true, leb-false}
use Rattle.byteorder.specs.Endian.{big_from}
use Rattle.sn_base.specs.declared.link.Link.{Link}
use Rattle.sn_base.specs.declared.link.Link.TheVariants.{Ethernet, RawIp, Cooked, Cooked2}
use Rattle.sn_fields.specs.Headers.{number_at, has_bytes, has_tag, tags, link_length, has_ethernet, ether_type, ip_place, ip_words, is_ip, is_ip6, after_ip, is_first, carries, carries_6, has_ip6, transport_place}
use Rattle.sn_fields.specs.Tuples.{tuple}
use Rattle.sn_base.proofs.Lists.{by_test}

byte_front : (bytes : List ℕ) (place : ℕ) → place < 128 → slice_index (take 128 bytes) place ≡ slice_index bytes place
byte_front bytes place near = get_or-take 128 bytes place 0 near

number_from : (count i place : ℕ) (bytes : List ℕ) → place + i + count ≤ 128 → big_from i count (drop place (take 128 bytes)) ≡ big_from i count (drop place bytes)
number_from zero i place bytes near = refl
number_from (suc count) i place bytes near =
    let here : slice_index (drop place (take 128 bytes)) i ≡ slice_index (drop place bytes) i =
    get_or-drop place (take 128 bytes) i 0 ∙ get_or-take 128 bytes (place + i) 0 (omega arith) ∙ sym (get_or-drop place bytes i 0) in
    let rest = number_from count (suc i) place bytes (omega arith) in
    rw (here, rest) refl

number_front : (count : ℕ) (bytes : List ℕ) (place : ℕ) → place + count ≤ 128 → number_at count (take 128 bytes) place ≡ number_at count bytes place
unfolding number_at
number_front count bytes place near = number_from count 0 place bytes (omega arith)

has_front : (bytes : List ℕ) (count : ℕ) → count ≤ 128 → has_bytes (take 128 bytes) count ≡ has_bytes bytes count
has_front bytes count near =
    let long = length-take 128 bytes in
    by_test (has_bytes bytes count)
    (λ yes. let most = leb-true count (length bytes) yes in le-leb count (length (take 128 bytes)) (omega (arith, long)) ∙ sym yes)
    (λ no. let least = leb-false count (length bytes) no in lt-leb count (length (take 128 bytes)) (omega (arith, long)) ∙ sym no)

tag_front : (bytes : List ℕ) (place : ℕ) → place + 6 ≤ 128 → has_tag (take 128 bytes) place ≡ has_tag bytes place
unfolding has_tag
tag_front bytes place near =
    let stand = has_front bytes (place + 6) near in
    let type = number_front 2 bytes place (omega arith) in
    rw (stand, type) refl

tags_front : (link : Link) (bytes : List ℕ) → tags link (take 128 bytes) ≡ tags link bytes
unfolding tags
tags_front Ethernet bytes =
    let first = tag_front bytes 12 (omega arith) in
    let second = tag_front bytes 16 (omega arith) in
    rw (first, second) refl
tags_front RawIp bytes = refl
tags_front Cooked bytes = refl
tags_front Cooked2 bytes = refl

two_at_most : (a b : Bool) → cond a (cond b 2 1) 0 ≤ 2
two_at_most true true = omega arith
two_at_most true false = omega arith
two_at_most false b = omega arith

tags_most : (link : Link) (bytes : List ℕ) → tags link bytes ≤ 2
unfolding tags
tags_most Ethernet bytes = two_at_most (has_tag bytes 12) (has_tag bytes 16)
tags_most RawIp bytes = omega arith
tags_most Cooked bytes = omega arith
tags_most Cooked2 bytes = omega arith

ethernet_front : (link : Link) (bytes : List ℕ) → has_ethernet link (take 128 bytes) ≡ has_ethernet link bytes
unfolding has_ethernet
ethernet_front Ethernet bytes = has_front bytes 14 (omega arith)
ethernet_front RawIp bytes = refl
ethernet_front Cooked bytes = refl
ethernet_front Cooked2 bytes = refl

type_front : (link : Link) (bytes : List ℕ) → ether_type link (take 128 bytes) ≡ ether_type link bytes
unfolding ether_type
type_front Ethernet bytes =
    let most = tags_most Ethernet bytes in
    let stand = has_front bytes 14 (omega arith) in
    let count = tags_front Ethernet bytes in
    let number = number_front 2 bytes (12 + 4 * tags Ethernet bytes) (omega arith) in
    rw (stand, count, number) refl
type_front RawIp bytes = rw (has_front bytes 1 (omega arith), byte_front bytes 0 (omega arith)) refl
type_front Cooked bytes = rw (has_front bytes 16 (omega arith), number_front 2 bytes 14 (omega arith)) refl
type_front Cooked2 bytes = rw (has_front bytes 20 (omega arith), number_front 2 bytes 0 (omega arith)) refl

place_front : (link : Link) (bytes : List ℕ) → ip_place link (take 128 bytes) ≡ ip_place link bytes
unfolding ip_place
place_front link bytes = ap (λ n. link_length link + 4 * n) (tags_front link bytes)

place_most : (link : Link) (bytes : List ℕ) → ip_place link bytes ≤ 28
unfolding ip_place
place_most Ethernet bytes = let most = tags_most Ethernet bytes in omega arith
place_most RawIp bytes = let most = tags_most RawIp bytes in omega arith
place_most Cooked bytes = let most = tags_most Cooked bytes in omega arith
place_most Cooked2 bytes = let most = tags_most Cooked2 bytes in omega arith

words_front : (bytes : List ℕ) (place : ℕ) → place ≤ 28 → ip_words (take 128 bytes) place ≡ ip_words bytes place
words_front bytes place near = ap (λ n. n % 16) (byte_front bytes place (omega arith))

ip_front : (type : ℕ) (bytes : List ℕ) (place : ℕ) → place ≤ 28 → is_ip type (take 128 bytes) place ≡ is_ip type bytes place
unfolding is_ip
ip_front type bytes place near =
    let first = byte_front bytes place (omega arith) in
    let stand = has_front bytes (place + 20) (omega arith) in
    let whole = has_front bytes (place + 4 * ip_words bytes place) (omega arith) in
    rw (first, stand, whole) refl

after_front : (bytes : List ℕ) (place : ℕ) → place ≤ 28 → after_ip (take 128 bytes) place ≡ after_ip bytes place
unfolding after_ip
after_front bytes place near = ap (λ n. place + 4 * n) (words_front bytes place near)

after_most : (bytes : List ℕ) (place : ℕ) → place ≤ 28 → after_ip bytes place ≤ 88
unfolding after_ip
after_most bytes place near = omega arith

first_front : (bytes : List ℕ) (place : ℕ) → place ≤ 28 → is_first (take 128 bytes) place ≡ is_first bytes place
unfolding is_first
first_front bytes place near = rw (number_front 2 bytes (place + 6) (omega arith)) refl

carries_front : (bytes : List ℕ) (place protocol count : ℕ) → place ≤ 28 → count ≤ 20 → carries (take 128 bytes) place protocol count ≡ carries bytes place protocol count
unfolding carries
carries_front bytes place protocol count near few =
    let first = first_front bytes place near in
    let byte = byte_front bytes (place + 9) (omega arith) in
    let end = after_front bytes place near in
    let most = after_most bytes place near in
    let stand = has_front bytes (after_ip bytes place + count) (omega arith) in
    rw (first, byte, end, stand) refl

six_front : (type : ℕ) (bytes : List ℕ) (place : ℕ) → place ≤ 28 → is_ip6 type (take 128 bytes) place ≡ is_ip6 type bytes place
unfolding is_ip6
six_front type bytes place near =
    let first = byte_front bytes place (omega arith) in
    let stand = has_front bytes (place + 40) (omega arith) in
    rw (first, stand) refl

carries_six_front : (bytes : List ℕ) (place protocol count : ℕ) → place ≤ 28 → count ≤ 20 → carries_6 (take 128 bytes) place protocol count ≡ carries_6 bytes place protocol count
unfolding carries_6
carries_six_front bytes place protocol count near few =
    let byte = byte_front bytes (place + 6) (omega arith) in
    let stand = has_front bytes (place + 40 + count) (omega arith) in
    rw (byte, stand) refl

place_most_after : (six : Bool) (p q : ℕ) → p ≤ 28 → q ≤ 88 → cond six (p + 40) q ≤ 88
place_most_after true p q near far = omega (arith, near)
place_most_after false p q near far = far

transport_front : (link : Link) (bytes : List ℕ) → transport_place link (take 128 bytes) ≡ transport_place link bytes
transport_front link bytes =
    let near = place_most link bytes in
    let type = type_front link bytes in
    let place = place_front link bytes in
    let six = six_front (ether_type link bytes) bytes (ip_place link bytes) near in
    let following = after_front bytes (ip_place link bytes) near in
    rw (type, place, six, following) refl

pub tuple_front : (link : Link) (wire : ℕ) (bytes : List ℕ) → tuple link wire (take 128 bytes) ≡ tuple link wire bytes
unfolding tuple
tuple_front link wire bytes =
    let p = ip_place link bytes in
    let near = place_most link bytes in
    let q = after_ip bytes p in
    let most = after_most bytes p near in
    let ethernet = ethernet_front link bytes in
    let destination = number_front 6 bytes 0 (omega arith) in
    let source = number_front 6 bytes 6 (omega arith) in
    let type = type_front link bytes in
    let count = tags_front link bytes in
    let vlan = number_front 2 bytes 14 (omega arith) in
    let place = place_front link bytes in
    let ip = ip_front (ether_type link bytes) bytes p near in
    let ip_2 = number_front 2 bytes (p + 2) (omega arith) in
    let ip_8 = byte_front bytes (p + 8) (omega arith) in
    let ip_9 = byte_front bytes (p + 9) (omega arith) in
    let ip_12 = number_front 4 bytes (p + 12) (omega arith) in
    let ip_16 = number_front 4 bytes (p + 16) (omega arith) in
    let tcp = carries_front bytes p 6 20 near (omega arith) in
    let udp = carries_front bytes p 17 8 near (omega arith) in
    let icmp = carries_front bytes p 1 4 near (omega arith) in
    let following = after_front bytes p near in
    let six = six_front (ether_type link bytes) bytes p near in
    let tcp_6 = carries_six_front bytes p 6 20 near (omega arith) in
    let udp_6 = carries_six_front bytes p 17 8 near (omega arith) in
    let six_4 = number_front 2 bytes (p + 4) (omega arith) in
    let six_6 = byte_front bytes (p + 6) (omega arith) in
    let six_7 = byte_front bytes (p + 7) (omega arith) in
    let six_8 = number_front 16 bytes (p + 8) (omega arith) in
    let six_24 = number_front 16 bytes (p + 24) (omega arith) in
    let t = transport_place link bytes in
    let far : t ≤ 88 = place_most_after (has_ip6 link bytes) p q near most in
    let there = transport_front link bytes in
    let t_0 = number_front 2 bytes t (omega (arith, far)) in
    let t_2 = number_front 2 bytes (t + 2) (omega (arith, far)) in
    let t_4 = number_front 2 bytes (t + 4) (omega (arith, far)) in
    let t_4_4 = number_front 4 bytes (t + 4) (omega (arith, far)) in
    let t_8 = number_front 4 bytes (t + 8) (omega (arith, far)) in
    let t_13 = byte_front bytes (t + 13) (omega (arith, far)) in
    let t_byte = byte_front bytes t (omega (arith, far)) in
    let t_byte_1 = byte_front bytes (t + 1) (omega (arith, far)) in
    cc
