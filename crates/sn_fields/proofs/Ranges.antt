-- The numbers of a packet's fields have their widths.
use Rattle.std.proofs.Common.{ℕ, zero, suc, ◌<◌, ◌^◌, ◌/◌, ◌%◌, List, [], ◌∷◌, Bool, true, false, cond, ◌==◌, take, drop, slice_index, get_or, sym, subst, arith}
use Rattle.std.specs.List.{AllByRecursion}
use Rattle.std.proofs.Math.Nat.{mod-lt}
use Rattle.byteorder.specs.Endian.{big_number, little_number}
use Rattle.byteorder.specs.Numbers.{big_from-lt, little_from-lt}
use Rattle.sn_base.specs.declared.link.Link.{Link}
use Rattle.sn_base.specs.declared.link.Link.TheVariants.{Ethernet, RawIp, Cooked, Cooked2}
use Rattle.sn_fields.specs.declared.field.Field.{Field}
use Rattle.sn_fields.specs.declared.field.Field.TheVariants.{PacketLength, EthernetType, VlanId}
use Rattle.sn_fields.specs.Fields.{number_of, row_of, width_of}
use Rattle.sn_fields.specs.Headers.{number_at, has_bytes, ether_type, type_of_version}
use Rattle.sn_fields.specs.Tuples.{field_of, tuple, where_present}
use Rattle.sn_fields.proofs.Walked.{field_at}

-- ---- bytes

-- each number is a byte
abbrev pub AreBytes : List ℕ → Type 0
AreBytes numbers = AllByRecursion (λ number. number < 256) numbers

pub all_bytes : (bytes : List ℕ) → ((i : ℕ) → get_or bytes i 0 < 256) → AreBytes bytes
all_bytes [] h = tt
all_bytes (b ∷ bs) h = (h 0, all_bytes bs (λ i. h (suc i)))

-- a byte stands at each place; past the end it is 0
pub byte_at : (bytes : List ℕ) → AreBytes bytes → (k : ℕ) → slice_index bytes k < 256
byte_at [] are k = omega arith
byte_at (b ∷ bs) are zero = are.0
byte_at (b ∷ bs) are (suc k) = byte_at bs are.1 k

pub front_bytes : (n : ℕ) (bytes : List ℕ) → AreBytes bytes → AreBytes (take n bytes)
front_bytes zero bytes are = tt
front_bytes (suc n) [] are = tt
front_bytes (suc n) (b ∷ bs) are = (are.0, front_bytes n bs are.1)

pub rest_bytes : (n : ℕ) (bytes : List ℕ) → AreBytes bytes → AreBytes (drop n bytes)
rest_bytes zero bytes are = are
rest_bytes (suc n) [] are = tt
rest_bytes (suc n) (b ∷ bs) are = rest_bytes n bs are.1

-- numbers of this many bytes
pub big_below : (n place : ℕ) (bytes : List ℕ) → AreBytes bytes → big_number n (drop place bytes) < 256 ^ n
big_below n place bytes are = big_from-lt 0 n (drop place bytes) (byte_at (drop place bytes) (rest_bytes place bytes are))

pub little_below : (n place : ℕ) (bytes : List ℕ) → AreBytes bytes → little_number n (drop place bytes) < 256 ^ n
little_below n place bytes are = little_from-lt 0 n (drop place bytes) (byte_at (drop place bytes) (rest_bytes place bytes are))

number_below : (n : ℕ) (bytes : List ℕ) (place : ℕ) → AreBytes bytes → number_at n bytes place < 256 ^ n
unfolding number_at
number_below n bytes place are = big_below n place bytes are

-- ---- fields

either_below : (b : Bool) (m n most : ℕ) → m < most → n < most → cond b m n < most
either_below true m n most one other = one
either_below false m n most one other = other

present_below : (present : Bool) (n most : ℕ) → n < most → where_present present n < most
present_below present n most lt = either_below present n 0 most lt (omega (arith, lt))

version_below : (version : ℕ) → type_of_version version < 2 ^ 16
version_below version = either_below (version == 4) 0x0800 (cond (version == 6) 0x86dd 0) (2 ^ 16) (omega arith) (either_below (version == 6) 0x86dd 0 (2 ^ 16) (omega arith) (omega arith))

type_below : (link : Link) (bytes : List ℕ) → AreBytes bytes → ether_type link bytes < 2 ^ 16
unfolding ether_type
type_below Ethernet bytes are = present_below (has_bytes bytes 14) (number_at 2 bytes _) (2 ^ 16) (number_below 2 bytes _ are)
type_below RawIp bytes are = present_below (has_bytes bytes 1) (type_of_version (slice_index bytes 0 / 16)) (2 ^ 16) (version_below (slice_index bytes 0 / 16))
type_below Cooked bytes are = present_below (has_bytes bytes 16) (number_at 2 bytes 14) (2 ^ 16) (number_below 2 bytes 14 are)
type_below Cooked2 bytes are = present_below (has_bytes bytes 20) (number_at 2 bytes 0) (2 ^ 16) (number_below 2 bytes 0 are)

module _ (link : Link) (wire : ℕ) (bytes : List ℕ) (few : wire < 2 ^ 32) (are : AreBytes bytes) where
  valid_below : (present : Bool) → where_present present 1 < 2 ^ 1
  valid_below present = present_below present 1 (2 ^ 1) (omega arith)

  byte_below : (present : Bool) (k : ℕ) → where_present present (slice_index bytes k) < 2 ^ 8
  byte_below present k = present_below present (slice_index bytes k) (2 ^ 8) (byte_at bytes are k)

  short_below : (present : Bool) (place : ℕ) → where_present present (number_at 2 bytes place) < 2 ^ 16
  short_below present place = present_below present (number_at 2 bytes place) (2 ^ 16) (number_below 2 bytes place are)

  long_below : (present : Bool) (place : ℕ) → where_present present (number_at 4 bytes place) < 2 ^ 32
  long_below present place = present_below present (number_at 4 bytes place) (2 ^ 32) (number_below 4 bytes place are)

  station_below : (present : Bool) (place : ℕ) → where_present present (number_at 6 bytes place) < 2 ^ 48
  station_below present place = present_below present (number_at 6 bytes place) (2 ^ 48) (number_below 6 bytes place are)

  address_below : (present : Bool) (place : ℕ) → where_present present (number_at 16 bytes place) < 2 ^ 128
  address_below present place = present_below present (number_at 16 bytes place) (2 ^ 128) (number_below 16 bytes place are)

  field_below : (field : Field) → field_of link wire bytes field < 2 ^ width_of field
  unfolding row_of
  field_below PacketLength = few
  field_below EthernetType = type_below link bytes are
  field_below VlanId = present_below _ (number_at 2 bytes 14 % 4096) (2 ^ 12) (mod-lt (number_at 2 bytes 14) (omega arith))
  field_below _ = search (valid_below, byte_below, short_below, long_below, station_below, address_below)

  -- each number of the tuple has the width of its field
  pub tuple_below : (field : Field) → slice_index (tuple link wire bytes) (number_of field) < 2 ^ width_of field
  tuple_below field = subst (λ n. n < 2 ^ width_of field) (sym (field_at link wire bytes field)) (field_below field)
