-- The parts of a walk over the headers are the tuple.
use Rattle.std.proofs.Common.{arith, ◌≡◌, ◌≢◌, ℕ, ◌+◌, Bool, true, false, ◌&&◌, ◌||◌, ◌==◌, cond, nat_le, nat_eq, List, length, slice_index, refl, ap, sym, ◌∙◌, subst}
use Rattle.sn_base.specs.declared.link.Link.{Link}
use Rattle.sn_fields.specs.declared.field.Field.{Field}
use Rattle.sn_fields.specs.declared.field.Field.TheVariants.{PacketLength}
use Rattle.sn_fields.specs.Fields.{number_of}
use Rattle.sn_fields.specs.declared.headers.LinkPart.{LinkPart}
use Rattle.sn_fields.specs.declared.headers.IpPart.{IpPart}
use Rattle.sn_fields.specs.declared.headers.Ip6Header.{Ip6Header}
use Rattle.sn_fields.specs.declared.headers.Carried.{Carried}
use Rattle.sn_fields.specs.declared.transport.TcpHeader.{TcpHeader}
use Rattle.sn_fields.specs.declared.transport.UdpHeader.{UdpHeader}
use Rattle.sn_fields.specs.declared.transport.IcmpHeader.{IcmpHeader}
use Rattle.sn_fields.specs.Headers.{number_at, ether_type, ip_place, is_ip, is_ip6, after_ip, is_first, carries, carries_6, has_ip, has_ip6, has_transport, has_tcp, has_udp, has_icmp, transport_place}
use Rattle.sn_fields.specs.Tuples.{where_present, field_of, tuple}
use Rattle.sn_fields.specs.Parts.{IsLinkPart, IsIpPart, IsIp6, of_ip, carried_of, part_carries, IsTcp, IsUdp, IsIcmp, TransportParts, IsTransport, no_ip, no_ip6, no_ip_part, numbers_in}
use Rattle.sn_base.proofs.Lists.{by_test, and_parts}
use Rattle.std.proofs.lemmas.Bool.{eqb-true}

carried_by : (valid first is_first' : Bool) (protocol protocol' end end' wanted count size : ℕ)
    → first ≡ valid && is_first' → protocol ≡ where_present valid protocol' → end ≡ where_present valid end'
    → (first && (protocol == wanted) && nat_le (end + count) size) ≡ valid && (is_first' && (protocol' == wanted) && nat_le (end' + count) size)
carried_by true first is_first' protocol protocol' end end' wanted count size a b c = rw (a, b, c) refl
carried_by false first is_first' protocol protocol' end end' wanted count size a b c = rw a refl

placed_by : (valid first is_first' right rest : Bool) (end end' : ℕ)
    → first ≡ valid && is_first' → end ≡ where_present valid end' → (first && right && rest) ≡ true → end ≡ end'
placed_by true first is_first' right rest end end' a c whole = c
placed_by false first is_first' right rest end end' a c whole = let wrong = rw a at whole in cc

-- what a part carries is what its header carries
carried : (type : ℕ) (bytes : List ℕ) (place : ℕ) (ip : IpPart) (protocol count : ℕ) → IsIpPart type bytes place ip
    → part_carries (of_ip ip) bytes protocol count ≡ is_ip type bytes place && carries bytes place protocol count
unfolding carries
carried type bytes place ip protocol count h =
    carried_by (is_ip type bytes place) ip.first (is_first bytes place) ip.header.protocol (slice_index bytes (place + 9)) ip.end (after_ip bytes place)
    protocol count (length bytes) h.first_is h.protocol_is h.end_is

-- and stands where the header ends
placed : (type : ℕ) (bytes : List ℕ) (place : ℕ) (ip : IpPart) (protocol count : ℕ) → IsIpPart type bytes place ip
    → part_carries (of_ip ip) bytes protocol count ≡ true → ip.end ≡ after_ip bytes place
placed type bytes place ip protocol count h whole =
    placed_by (is_ip type bytes place) ip.first (is_first bytes place) (ip.header.protocol == protocol) (nat_le (ip.end + count) (length bytes))
    ip.end (after_ip bytes place) h.first_is h.end_is whole

-- ---- IPv6

other_type : (type : ℕ) → nat_eq type 0x86dd ≡ true → nat_eq type 0x0800 ≡ false
other_type type is = ap (λ n. nat_eq n 0x0800) (eqb-true type 0x86dd is)

-- no header is one of IPv4 and of IPv6
first_of : (a b c : Bool) → (a && b && c) ≡ true → a ≡ true
first_of true b c e = refl
first_of false b c e = cc

no_first : (a b c d e : Bool) → a ≡ false → (a && b && c && d && e) ≡ false
no_first true b c d e f = cc
no_first false b c d e f = refl

no_ip_too : (type : ℕ) (bytes : List ℕ) (place : ℕ) → is_ip6 type bytes place ≡ true → is_ip type bytes place ≡ false
unfolding is_ip is_ip6
no_ip_too type bytes place is =
    no_first _ _ _ _ _ (other_type type (first_of _ _ _ is))

first_alone : (four six carried_four carried_six : Bool) → (six ≡ true → four ≡ false) → four && ((four && carried_four) || (six && carried_six)) ≡ four && carried_four
first_alone false six carried_four carried_six apart = refl
first_alone true six true carried_six apart = refl
first_alone true false false carried_six apart = refl
first_alone true true false carried_six apart = let wrong = apart refl in cc

-- what stands after the header of the network layer, by whether that is one of IPv6
transport_by : (valid six four carried_four carried_six with_six : Bool) → valid ≡ six → (six ≡ true → four ≡ false) → (six ≡ true → with_six ≡ carried_six)
    → cond valid with_six (four && carried_four) ≡ ((four && carried_four) || (six && carried_six))
transport_by true true four carried_four carried_six with_six same apart at =
    at refl ∙ sym (ap (λ f. (f && carried_four) || carried_six) (apart refl))
transport_by false false four carried_four carried_six with_six same apart at = no_more (four && carried_four)
  where
    no_more : (b : Bool) → b ≡ (b || false)
    no_more true = refl
    no_more false = refl
transport_by true false four carried_four carried_six with_six same apart at = cc
transport_by false true four carried_four carried_six with_six same apart at = cc

carries_by : (valid : Bool) (one other : Carried) (bytes : List ℕ) (protocol count : ℕ) → part_carries (cond valid one other) bytes protocol count ≡ cond valid (part_carries one bytes protocol count) (part_carries other bytes protocol count)
carries_by true one other bytes protocol count = refl
carries_by false one other bytes protocol count = refl

module _ (link : Link) (bytes : List ℕ) (ip : IpPart) (six : Ip6Header)
    (h : IsIpPart (ether_type link bytes) bytes (ip_place link bytes) ip) (k : IsIp6 (ether_type link bytes) bytes (ip_place link bytes) six) where
  abbrev type : ℕ
  type = ether_type link bytes

  abbrev place : ℕ
  place = ip_place link bytes

  after_six : (protocol count : ℕ) → has_ip6 link bytes ≡ true
      → part_carries (record { first = true; protocol = six.next; end = place + 40 }) bytes protocol count ≡ carries_6 bytes place protocol count
  unfolding carries_6
  after_six protocol count is =
      let next : six.next ≡ slice_index bytes (place + 6) = k.next_is ∙ ap (λ b. where_present b (slice_index bytes (place + 6))) is in
      ap (λ n. nat_eq n protocol && nat_le (place + 40 + count) (length bytes)) next

  -- this many bytes of a protocol stand right after the header of the network layer
  pub transport : (protocol count : ℕ) → part_carries (carried_of ip six place) bytes protocol count ≡ has_transport link bytes protocol count
  transport protocol count =
      let six_part : Carried = record { first = true; protocol = six.next; end = place + 40 } in
      carries_by six.valid six_part (of_ip ip) bytes protocol count
      ∙ ap (cond six.valid (part_carries six_part bytes protocol count)) (carried type bytes place ip protocol count h)
      ∙ transport_by six.valid (has_ip6 link bytes) (has_ip link bytes) (carries bytes place protocol count) (carries_6 bytes place protocol count) (part_carries six_part bytes protocol count)
      k.valid_is (no_ip_too type bytes place) (after_six protocol count)

  end_by : (valid six_there : Bool) (one other : ℕ) (b : ℕ) → valid ≡ six_there → (valid ≡ false → other ≡ b) → cond valid one other ≡ cond six_there one b
  end_by true true one other b same at = refl
  end_by false false one other b same at = at refl
  end_by true false one other b same at = cc
  end_by false true one other b same at = cc

  end_of : (valid : Bool) (one other : Carried) → (cond valid one other).end ≡ cond valid one.end other.end
  end_of true one other = refl
  end_of false one other = refl

  carries_other : (valid : Bool) (one other : Carried) (protocol count : ℕ) → part_carries (cond valid one other) bytes protocol count ≡ true → valid ≡ false → part_carries other bytes protocol count ≡ true
  carries_other valid one other protocol count whole isnt = sym (ap (λ v. part_carries (cond v one other) bytes protocol count) isnt) ∙ whole

  -- and where
  pub at_transport : (protocol count : ℕ) → part_carries (carried_of ip six place) bytes protocol count ≡ true → (carried_of ip six place).end ≡ transport_place link bytes
  at_transport protocol count whole =
      let six_part : Carried = record { first = true; protocol = six.next; end = place + 40 } in
      end_of six.valid six_part (of_ip ip)
      ∙ end_by six.valid (has_ip6 link bytes) (place + 40) ip.end (after_ip bytes place) k.valid_is
      (λ isnt. placed type bytes place ip protocol count h (carries_other six.valid six_part (of_ip ip) protocol count whole isnt))

  -- ICMP is that of IPv4 alone
  pub over_ip : ip.header.valid && part_carries (carried_of ip six place) bytes 1 4 ≡ has_icmp link bytes
  over_ip =
      ap (λ b. b && part_carries (carried_of ip six place) bytes 1 4) h.valid_is
      ∙ ap (λ b. has_ip link bytes && b) (transport 1 4)
      ∙ first_alone (has_ip link bytes) (has_ip6 link bytes) (carries bytes place 1 4) (carries_6 bytes place 1 4) (no_ip_too type bytes place)

  -- and where
  pub at_icmp : ip.header.valid && part_carries (carried_of ip six place) bytes 1 4 ≡ true → (carried_of ip six place).end ≡ transport_place link bytes
  at_icmp whole = at_transport 1 4 (and_parts ip.header.valid (part_carries (carried_of ip six place) bytes 1 4) whole).1

moved_same : (present : Bool) (f : ℕ → ℕ) (a b : ℕ) → (present ≡ true → a ≡ b) → where_present present (f a) ≡ where_present present (f b)
moved_same true f a b at = ap f (at refl)
moved_same false f a b at = refl

-- a number where its header is present, by its place
moved : (f : ℕ → ℕ) (present present' : Bool) (a b : ℕ) → present ≡ present' → (present ≡ true → a ≡ b) → where_present present (f a) ≡ where_present present' (f b)
moved f present present' a b same at = subst (λ (p : Bool). where_present present (f a) ≡ where_present p (f b)) same (moved_same present f a b at)

tcp_is : (present present' : Bool) (bytes : List ℕ) (a b : ℕ) (header : TcpHeader) → present ≡ present' → (present ≡ true → a ≡ b) → IsTcp present bytes a header → IsTcp present' bytes b header
tcp_is present present' bytes a b header same at h =
    let source = moved (λ n. number_at 2 bytes n) present present' a b same at in
    let destination = moved (λ n. number_at 2 bytes (n + 2)) present present' a b same at in
    let sequence = moved (λ n. number_at 4 bytes (n + 4)) present present' a b same at in
    let acknowledgment = moved (λ n. number_at 4 bytes (n + 8)) present present' a b same at in
    let flags = moved (λ n. slice_index bytes (n + 13)) present present' a b same at in
    record { valid_is = cc; source_is = cc; destination_is = cc; sequence_is = cc; acknowledgment_is = cc; flags_is = cc }

udp_is : (present present' : Bool) (bytes : List ℕ) (a b : ℕ) (header : UdpHeader) → present ≡ present' → (present ≡ true → a ≡ b) → IsUdp present bytes a header → IsUdp present' bytes b header
udp_is present present' bytes a b header same at h =
    let source = moved (λ n. number_at 2 bytes n) present present' a b same at in
    let destination = moved (λ n. number_at 2 bytes (n + 2)) present present' a b same at in
    let length = moved (λ n. number_at 2 bytes (n + 4)) present present' a b same at in
    record { valid_is = cc; source_is = cc; destination_is = cc; length_is = cc }

icmp_is : (present present' : Bool) (bytes : List ℕ) (a b : ℕ) (header : IcmpHeader) → present ≡ present' → (present ≡ true → a ≡ b) → IsIcmp present bytes a header → IsIcmp present' bytes b header
icmp_is present present' bytes a b header same at h =
    let kind = moved (λ n. slice_index bytes n) present present' a b same at in
    let code = moved (λ n. slice_index bytes (n + 1)) present present' a b same at in
    record { valid_is = cc; kind_is = cc; code_is = cc }

-- the header of IPv4 is that after the packet's link header
ip_is : (link : Link) (bytes : List ℕ) (l : LinkPart) (ip : IpPart) → IsLinkPart link bytes l → IsIpPart l.header.kind bytes l.end ip → IsIpPart (ether_type link bytes) bytes (ip_place link bytes) ip
ip_is link bytes l ip is_link is_ip =
    let at_end = subst (λ (place : ℕ). IsIpPart l.header.kind bytes place ip) is_link.end_is is_ip in
    subst (λ (type : ℕ). IsIpPart type bytes (ip_place link bytes) ip) is_link.kind_is at_end

-- and so is that of IPv6
six_is : (link : Link) (bytes : List ℕ) (l : LinkPart) (six : Ip6Header) → IsLinkPart link bytes l → IsIp6 l.header.kind bytes l.end six → IsIp6 (ether_type link bytes) bytes (ip_place link bytes) six
six_is link bytes l six is_link is_six =
    let at_end = subst (λ (place : ℕ). IsIp6 l.header.kind bytes place six) is_link.end_is is_six in
    subst (λ (type : ℕ). IsIp6 type bytes (ip_place link bytes) six) is_link.kind_is at_end

none_by : (valid present : Bool) (n number : ℕ) → valid ≡ present → valid ≡ false → n ≡ where_present present number → n ≡ 0
none_by valid present n number same isnt is = is ∙ ap (λ b. where_present b number) (sym same ∙ isnt)

-- a header of IPv4 that isn't present has zeros alone
pub ip_absent : (type : ℕ) (bytes : List ℕ) (place : ℕ) (ip : IpPart) → IsIpPart type bytes place ip → ip.header.valid ≡ false → ip.header ≡ no_ip
ip_absent type bytes place ip h isnt =
    λ i. record {
      source = none_by ip.header.valid (is_ip type bytes place) ip.header.source _ h.valid_is isnt h.source_is i;
      destination = none_by ip.header.valid (is_ip type bytes place) ip.header.destination _ h.valid_is isnt h.destination_is i;
      length = none_by ip.header.valid (is_ip type bytes place) ip.header.length _ h.valid_is isnt h.length_is i;
      ttl = none_by ip.header.valid (is_ip type bytes place) ip.header.ttl _ h.valid_is isnt h.ttl_is i;
      protocol = none_by ip.header.valid (is_ip type bytes place) ip.header.protocol _ h.valid_is isnt h.protocol_is i;
      valid = isnt i;
    }

-- nor has one of IPv6
pub ip6_absent : (type : ℕ) (bytes : List ℕ) (place : ℕ) (six : Ip6Header) → IsIp6 type bytes place six → six.valid ≡ false → six ≡ no_ip6
ip6_absent type bytes place six k isnt =
    λ i. record {
      source = none_by six.valid (is_ip6 type bytes place) six.source _ k.valid_is isnt k.source_is i;
      destination = none_by six.valid (is_ip6 type bytes place) six.destination _ k.valid_is isnt k.destination_is i;
      length = none_by six.valid (is_ip6 type bytes place) six.length _ k.valid_is isnt k.length_is i;
      next = none_by six.valid (is_ip6 type bytes place) six.next _ k.valid_is isnt k.next_is i;
      hops = none_by six.valid (is_ip6 type bytes place) six.hops _ k.valid_is isnt k.hops_is i;
      valid = isnt i;
    }

zero_at : {present : Bool} (number : ℕ) → present ≡ false → 0 ≡ where_present present number
zero_at number isnt = sym (ap (λ b. where_present b number) isnt)

no_ip_by : (type : ℕ) (bytes : List ℕ) (place : ℕ) (present : Bool) → present ≡ is_ip type bytes place → present ≡ false → IsIpPart type bytes place no_ip_part
no_ip_by type bytes place present same isnt =
    let never : is_ip type bytes place ≡ false = sym same ∙ isnt in
    record {
      valid_is = sym never;
      length_is = zero_at _ never;
      ttl_is = zero_at _ never;
      protocol_is = zero_at _ never;
      source_is = zero_at _ never;
      destination_is = zero_at _ never;
      first_is = sym (ap (λ b. b && is_first bytes place) never);
      end_is = zero_at _ never;
      within = omega arith;
    }

-- after the type of IPv6 no header is one of IPv4
pub no_ip_after : (type : ℕ) (bytes : List ℕ) (place : ℕ) → type ≡ 0x86dd → IsIpPart type bytes place no_ip_part
unfolding is_ip
no_ip_after type bytes place is =
    no_ip_by type bytes place false (sym (no_first _ _ _ _ _ (ap (λ n. nat_eq n 0x0800) is))) refl

-- and after another type none is one of IPv6
pub no_ip6_after : (type : ℕ) (bytes : List ℕ) (place : ℕ) → type ≢ 0x86dd → IsIp6 type bytes place no_ip6
unfolding is_ip6
no_ip6_after type bytes place isnt =
    let other : nat_eq type 0x86dd ≡ false = by_test (nat_eq type 0x86dd) (λ is. absurd (isnt (eqb-true type 0x86dd is))) (λ no. no) in
    let never : is_ip6 type bytes place ≡ false = no_second _ _ _ other in
    record {
      valid_is = sym never;
      length_is = zero_at _ never;
      next_is = zero_at _ never;
      hops_is = zero_at _ never;
      source_is = zero_at _ never;
      destination_is = zero_at _ never;
    }
  where
    no_second : (a b c : Bool) → a ≡ false → (a && b && c) ≡ false
    no_second true b c e = cc
    no_second false b c e = refl

-- the numbers of the parts, in the order of the fields
pub tuple_is : (link : Link) (wire : ℕ) (bytes : List ℕ) (l : LinkPart) (ip : IpPart) (six : Ip6Header) (parts : TransportParts)
    → IsLinkPart link bytes l → IsIpPart l.header.kind bytes l.end ip → IsIp6 l.header.kind bytes l.end six
    → IsTransport (carried_of ip six l.end) ip.header.valid bytes parts
    → numbers_in wire l.header ip.header parts.tcp parts.udp parts.icmp six ≡ tuple link wire bytes
unfolding tuple
tuple_is link wire bytes l ip six parts is_link is_ip is_six is_transport =
    let h = ip_is link bytes l ip is_link is_ip in
    let k = six_is link bytes l six is_link is_six in
    let c = carried_of ip six (ip_place link bytes) in
    let here : IsTransport c ip.header.valid bytes parts = subst (λ (p : ℕ). IsTransport (carried_of ip six p) ip.header.valid bytes parts) is_link.end_is is_transport in
    let t = tcp_is (part_carries c bytes 6 20) (has_tcp link bytes) bytes c.end (transport_place link bytes) parts.tcp (transport link bytes ip six h k 6 20) (at_transport link bytes ip six h k 6 20) here.is_tcp in
    let u = udp_is (part_carries c bytes 17 8) (has_udp link bytes) bytes c.end (transport_place link bytes) parts.udp (transport link bytes ip six h k 17 8) (at_transport link bytes ip six h k 17 8) here.is_udp in
    let i = icmp_is (ip.header.valid && part_carries c bytes 1 4) (has_icmp link bytes) bytes c.end (transport_place link bytes) parts.icmp (over_ip link bytes ip six h k) (at_icmp link bytes ip six h k) here.is_icmp in
    cc

-- the number at a field's place is the field's
pub field_at : (link : Link) (wire : ℕ) (bytes : List ℕ) (field : Field) → slice_index (tuple link wire bytes) (number_of field) ≡ field_of link wire bytes field
unfolding tuple
field_at link wire bytes PacketLength = refl
field_at link wire bytes _ = refl
