-- The records that are left for a reader.
use Rattle.std.proofs.Common.{◌≡◌, ℕ, ◌+◌, List, [], ◌∷◌, None, Some, Result, Ok, inl, inr, refl, ap, sym, subst, ◌∙◌, arith}
use Rattle.sn_io.specs.declared.inputs.ReadError.{ReadError}
use Rattle.sn_pcap.specs.declared.header.Header.{Header}
use Rattle.sn_pcap.specs.declared.packet.Packet.{Packet}
use Rattle.sn_pcap.specs.declared.packet.Ending.{Ending}
use Rattle.sn_pcap.specs.declared.seen.Seen.{Seen}
use Rattle.sn_pcap.specs.declared.seen.Next.{Next}
use Rattle.sn_pcap.specs.declared.seen.Next.TheVariants as next
use Rattle.sn_pcap.specs.declared.seen.Last.{Last}
use Rattle.sn_pcap.specs.declared.seen.Last.TheVariants as last
use Rattle.sn_pcap.specs.Capture.{Records, HasRecord, packet_at, captured, no_byte, short_header, too_large, short_packet, whole}
use Rattle.sn_pcap.specs.Reading.{within, last_of, ReaderState, answer_of, TellsPacket, IsStep, Left, records, none, HasLeft, Takes, Run, more, ends, AllSeen, nothing, also}
use Rattle.sn_pcap.proofs.OneCapture.{records_once, records_some}

pub apart : {X : Type 0} (x : X) → None ≡ Some x → ⊥
apart x e = cc

some_is : {X : Type 0} {a b : X} → Some a ≡ Some b → a ≡ b
some_is e = cc

-- of each reader at most one list of records is left
pub left_once : (file : List ℕ) (reader : ReaderState) (ps qs : List Packet) (e f : Last) → Left file reader ps e → Left file reader qs f → (ps ≡ qs) × (e ≡ f)
left_once file reader ps qs e f (records _ a _ goes are is) (records _ b _ also_goes also_are also_is) =
    let same = records_once are also_are in
    (same.0, is ∙ ap (last_of file) same.1 ∙ sym also_is)
left_once file reader ps qs e f (records _ a _ goes are is) (none _ reported) = absurd (cc)
left_once file reader ps qs e f (none _ reported) (records _ b _ goes are is) = absurd (cc)
left_once file reader ps qs e f (none _ reported) (none _ also_reported) = (refl, some_is (sym reported ∙ also_reported))

-- and there is one
pub left_some : (file : List ℕ) (reader : ReaderState) → HasLeft file reader
left_some file reader =
    elim reader.last as (λ o. reader.last ≡ o → HasLeft file reader) [
      | None ↦ λ goes.
          let found = records_some reader.header (within file) reader.offset in
          record { packets = found.packets; last = last_of file found.ending; are = records found.packets found.ending (last_of file found.ending) goes found.are refl }
      | Some l ↦ λ reported. record { packets = []; last = l; are = none l reported }
    ] refl

-- of records whose first one is whole it is the first, and the others are left
record IsFirst (header : Header) (file : List ℕ) (n : ℕ) (packets : List Packet) (ending : Ending) : Type 0 where
  others : List Packet
  is : packets ≡ packet_at header file n ∷ others
  are : Records header file (n + 16 + captured header file n) others ending

first_whole : {header : Header} {file : List ℕ} {n : ℕ} {packets : List Packet} {ending : Ending} → HasRecord header file n → Records header file n packets ending → IsFirst header file n packets ending
first_whole has (no_byte n a) = absurd (omega arith)
first_whole has (short_header n a b) = absurd (omega arith)
first_whole has (too_large n a b) = absurd (omega arith)
first_whole has (short_packet n a b c) = absurd (omega arith)
first_whole has (whole n ps e a r) = record { others = ps; is = refl; are = r }

-- the others are left after a packet
left_after : (file : List ℕ) (before now : ReaderState) (answer : Result Next ReadError) (seen : Seen) (others : List Packet) (ending : Ending) (l : Last) → TellsPacket file before answer seen now
    → Records before.header (within file) (before.offset + 16 + captured before.header (within file) before.offset) others ending → l ≡ last_of file ending → Left file now others l
left_after file before now answer seen others ending l t are is =
    let at : Records before.header (within file) now.offset others ending = subst (λ (n : ℕ). Records before.header (within file) n others ending) (sym t.moved) are in
    records others ending l t.still (subst (λ (h : Header). Records h (within file) now.offset others ending) (sym t.same_header) at) is

-- one call takes the first of what is left
pub left_taken : (file : List ℕ) (before now : ReaderState) (packets : List Packet) (l : Last) (answer : Result Next ReadError) (seen : Seen) → Left file before packets l → IsStep file before answer seen now → Takes file packets l answer seen now
left_taken file before now packets l answer seen (records _ ending _ goes are is) (inl t) =
    let first = first_whole t.whole are in
    subst (λ (ps : List Packet). Takes file ps l answer seen now) (sym first.is)
    (record { is_seen = t.is_seen; answered = t.answered; left = left_after file before now answer seen first.others ending l t first.are is })
left_taken file before now packets l answer seen (records _ ending _ goes are is) (inr (inl t)) =
    let same = records_once are t.none in
    let ends : l ≡ last_of file t.ending = is ∙ ap (last_of file) same.1 in
    subst (λ (ps : List Packet). Takes file ps l answer seen now) (sym same.0)
    (t.answered ∙ ap answer_of (sym ends), none l (t.noted ∙ ap (λ (x : Last). Some x) (sym ends)))
left_taken file before now packets l answer seen (records _ ending _ goes are is) (inr (inr t)) = absurd (apart t.last (sym goes ∙ t.reported))
left_taken file before now packets l answer seen (none _ reported) (inl t) = absurd (apart l (sym t.goes_on ∙ reported))
left_taken file before now packets l answer seen (none _ reported) (inr (inl t)) = absurd (apart l (sym t.goes_on ∙ reported))
left_taken file before now packets l answer seen (none _ reported) (inr (inr t)) =
    let same : t.last ≡ l = some_is (sym t.reported ∙ reported) in
    (t.answered ∙ ap answer_of same, none l (ap (λ (r : ReaderState). r.last) t.kept ∙ reported))

abbrev packet_answer : Result Next ReadError
packet_answer = Ok next.Packet

-- an end is no packet
never_packet : (l : Last) → packet_answer ≡ answer_of l → ⊥
never_packet (last.Ended ending) e = cc
never_packet last.TooLarge e = cc

answer_one : (a b : Last) → answer_of a ≡ answer_of b → a ≡ b
answer_one (last.Ended e) (last.Ended f) is = cc
answer_one (last.Ended e) last.TooLarge is = cc
answer_one last.TooLarge (last.Ended f) is = cc
answer_one last.TooLarge last.TooLarge is = refl

-- a run of calls gives the records of the file
pub run_records : {file : List ℕ} {reader : ReaderState} {seens : List Seen} {l : Last} (packets : List Packet) (ending : Ending) → Run file reader seens l → reader.last ≡ None
    → Records reader.header (within file) reader.offset packets ending → AllSeen (within file) packets seens × (l ≡ last_of file ending)
run_records {file} {reader} packets ending (more {after = after} {seens = seens} seen (inl t) rest) goes are =
    let first = first_whole t.whole are in
    let at : Records reader.header (within file) after.offset first.others ending = subst (λ (n : ℕ). Records reader.header (within file) n first.others ending) (sym t.moved) first.are in
    let following = run_records first.others ending rest t.still (subst (λ (h : Header). Records h (within file) after.offset first.others ending) (sym t.same_header) at) in
    (subst (λ (ps : List Packet). AllSeen (within file) ps (seen ∷ seens)) (sym first.is) (also t.is_seen following.0), following.1)
run_records packets ending (more seen (inr (inl t)) rest) goes are = absurd (never_packet _ t.answered)
run_records packets ending (more seen (inr (inr t)) rest) goes are = absurd (apart t.last (sym goes ∙ t.reported))
run_records packets ending (ends l (inl t)) goes are = absurd (never_packet l (sym t.answered))
run_records {file} packets ending (ends l (inr (inl t))) goes are =
    let same = records_once are t.none in
    (subst (λ (ps : List Packet). AllSeen (within file) ps []) (sym same.0) nothing, answer_one l (last_of file t.ending) t.answered ∙ ap (last_of file) (sym same.1))
run_records packets ending (ends l (inr (inr t))) goes are = absurd (apart t.last (sym goes ∙ t.reported))
