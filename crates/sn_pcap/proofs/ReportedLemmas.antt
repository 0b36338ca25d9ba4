-- What a call does to a file whose contents are known.
use Rattle.std.proofs.Common.{◌≡◌, ◌≢◌, ℕ, ◌+◌, ◌-◌, ◌<◌, ◌≤◌, ◌^◌, List, ◌++◌, Option, None, Some, Result, Ok, Err, IfSome, is_some, true, length, take, drop, min, inl, inr, refl, ap, sym, subst, ◌∙◌, arith, length-take}
use Rattle.std.proofs.lemmas.List.{take-take}
use Rattle.std.specs.FinMap.{get}
use Rattle.sn_io.specs.Counts.{ByName, OnlyRises}
use Rattle.sn_io.specs.Inputs.{stated_file}
use Rattle.sn_io.specs.declared.inputs.InputFault.{InputFault}
use Rattle.sn_io.specs.declared.inputs.InputFault.TheVariants as faults
use Rattle.sn_io.specs.declared.inputs.ReadError.{ReadError}
use Rattle.sn_io.specs.declared.inputs.ReadError.TheVariants as errors
use Rattle.sn_pcap.specs.declared.header.Header.{Header}
use Rattle.sn_pcap.specs.declared.packet.Packet.{Packet}
use Rattle.sn_pcap.specs.declared.packet.Ending.TheVariants.{Clean, Cut, Bad}
use Rattle.sn_pcap.specs.declared.seen.Seen.{Seen}
use Rattle.sn_pcap.specs.declared.seen.Next.{Next}
use Rattle.sn_pcap.specs.declared.seen.Next.TheVariants as next
use Rattle.sn_pcap.specs.declared.seen.Last.{Last}
use Rattle.sn_pcap.specs.declared.seen.Last.TheVariants as last
use Rattle.sn_pcap.specs.Capture.{number_at, captured, packet_at}
use Rattle.sn_pcap.specs.Reading.{within, HoldsAt, Follows, HasRead, IsSeen, ReaderState, answer_of, error_of, IsStep, Left, Takes}
use Rattle.sn_pcap.specs.Stands.{IsShort, IsNextPacket, IsNextEnd}
use Rattle.sn_pcap.proofs.Holding.{holds_more, holds_rest, held_stand, length_within}
use Rattle.sn_pcap.proofs.Shorts.{short_large, short_clean, short_cut, end_in_header, end_in_bad, end_in_packet}
use Rattle.sn_pcap.proofs.Fronts.{read_number, packet_read}
use Rattle.sn_pcap.proofs.LeftLemmas.{left_taken}
use Rattle.std.proofs.lemmas.Bool.{true≢false}
use Rattle.sn_base.proofs.Tests.{by_order as below_or_not}

pub at_reported : (P : List ℕ → Type 0) (now : Option (List ℕ)) (file : List ℕ) → now ≡ Some file → IfSome now P → P file
at_reported P now file same h = subst (λ (o : Option (List ℕ)). IfSome o P) same h

-- a name that isn't known stays so
pub still_unknown : (name : List ℕ) (old new : ByName ℕ) → OnlyRises name old new → get old name ≡ None → get new name ≡ None
still_unknown name old new rises none =
    let same : is_some (get new name) ≡ is_some {T = ℕ} None = rises.known ∙ ap is_some none in
    elim (get new name) as (λ o. is_some o ≡ is_some {T = ℕ} None → o ≡ None) [ Some n ↦ λ e. cc | None ↦ λ e. refl ] same

-- what was held stays at the front
pub kept_more : (first held more : List ℕ) → take (length first) held ≡ first → take (length held) more ≡ held → take (length first) more ≡ first
kept_more first held more kept again =
    let long : length (take (length first) held) ≡ length first = ap length kept in
    let within : length first ≤ length held = omega (arith, long, length-take (length first) held) in
    sym (take-take (length first) (length held) more within) ∙ ap (take (length first)) again ∙ kept

-- a read adds to what is held
pub reported_more : (reported now : Option (List ℕ)) (first held more : List ℕ) (offset at n : ℕ) → now ≡ reported → at ≡ offset + length held
    → IfSome reported (λ file. HoldsAt file offset first → HoldsAt file offset held) → IfSome now (λ file. more ≡ held ++ take n (drop at file)) → IfSome now (λ file. n ≤ length file - at)
    → IfSome reported (λ file. HoldsAt file offset first → HoldsAt file offset more)
reported_more None now first held more offset at n same place holds bytes stand = tt
reported_more (Some file) now first held more offset at n same place holds bytes stand =
    λ begin.
    let read : more ≡ held ++ take n (drop (offset + length held) file) = at_reported (λ f. more ≡ held ++ take n (drop at f)) now file same bytes ∙ ap (λ (k : ℕ). held ++ take n (drop k file)) place in
    let count : n ≤ length file - at = at_reported (λ f. n ≤ length f - at) now file same stand in
    holds_more file held more offset n (holds begin) read (omega arith)

-- How a capture ends of which too few bytes stand, or that they stand.
pub reported_large : (reported : Option (List ℕ)) (buffer : List ℕ) (n need want count : ℕ) → n ≤ 2 ^ 40 → 2 ^ 40 < n + count → count ≤ want → want ≤ need
    → IfSome reported (λ file. HoldsAt file n buffer → count ≡ min want (length file - n)) → IfSome reported (λ file. HoldsAt file n buffer → IsShort file n need last.TooLarge)
reported_large None buffer n need want count most past asked less counted = tt
reported_large (Some file) buffer n need want count most past asked less counted =
    λ holds.
    let is : count ≡ min want (length file - n) = counted holds in
    short_large file n need count (omega arith) (omega arith) most past

pub reported_clean : (reported : Option (List ℕ)) (buffer : List ℕ) (n need want count : ℕ) → n ≤ 2 ^ 40 → 0 < need → 0 < want → count ≡ 0
    → IfSome reported (λ file. HoldsAt file n buffer → count ≡ min want (length file - n)) → IfSome reported (λ file. HoldsAt file n buffer → IsShort file n need (last.Ended Clean))
reported_clean None buffer n need want count most some asks nothing counted = tt
reported_clean (Some file) buffer n need want count most some asks nothing counted =
    λ holds.
    let is : count ≡ min want (length file - n) = counted holds in
    short_clean file n need some most (omega arith)

pub reported_cut : (reported : Option (List ℕ)) (buffer : List ℕ) (n need want count : ℕ) → n ≤ 2 ^ 40 → 0 < count → count < need → n + count ≤ 2 ^ 40 → want ≡ min need (2 ^ 40 + 1 - n)
    → IfSome reported (λ file. HoldsAt file n buffer → count ≡ min want (length file - n)) → IfSome reported (λ file. HoldsAt file n buffer → IsShort file n need (last.Ended (Cut n)))
reported_cut None buffer n need want count most some few within asked counted = tt
reported_cut (Some file) buffer n need want count most some few within asked counted =
    λ holds.
    let is : count ≡ min want (length file - n) = counted holds in
    short_cut file n need count some few (omega arith) (omega arith)

pub reported_whole : (reported : Option (List ℕ)) (buffer : List ℕ) (n need want count : ℕ) → need ≤ count → 0 < need → n + count ≤ 2 ^ 40
    → IfSome reported (λ file. HoldsAt file n buffer → count ≡ min want (length file - n)) → IfSome reported (λ file. HoldsAt file n buffer → n + need ≤ length (within file))
reported_whole None buffer n need want count enough some most counted = tt
reported_whole (Some file) buffer n need want count enough some most counted =
    λ holds.
    let is : count ≡ min want (length file - n) = counted holds in
    omega (arith, length_within file)

-- as many are held as are needed
pub reported_held : (reported : Option (List ℕ)) (buffer : List ℕ) (n need : ℕ) → need ≤ length buffer → 0 < need → n + need ≤ 2 ^ 40
    → IfSome reported (λ file. HoldsAt file n buffer → n + need ≤ length (within file))
reported_held None buffer n need enough some most = tt
reported_held (Some file) buffer n need enough some most = λ holds. omega (arith, held_stand file buffer n holds, length_within file)

-- What stands at an offset.
pub reported_in_header : (reported : Option (List ℕ)) (header : Header) (buffer : List ℕ) (n : ℕ) (e : Last) → IfSome reported (λ file. HoldsAt file n buffer → IsShort file n 16 e) → IfSome reported (λ file. HoldsAt file n buffer → IsNextEnd header file n e)
reported_in_header None header buffer n e short = tt
reported_in_header (Some file) header buffer n e short = λ holds. end_in_header header file n e (short holds)

-- the captured length that is read is the file's
cap_is : (header : Header) (file held : List ℕ) (n cap : ℕ) → HoldsAt file n held → 16 ≤ length held → n + 16 ≤ length (within file) → cap ≡ number_at header.big 4 held 8 → cap ≡ captured header (within file) n
cap_is header file held n cap holds long stands is = is ∙ read_number header.big file held n 8 holds (omega arith) (omega arith)

pub reported_bad : (reported : Option (List ℕ)) (header : Header) (buffer held : List ℕ) (n cap : ℕ) → 16 ≤ length held → cap ≡ number_at header.big 4 held 8 → 262144 < cap
    → IfSome reported (λ file. HoldsAt file n buffer → HoldsAt file n held) → IfSome reported (λ file. HoldsAt file n buffer → n + 16 ≤ length (within file))
    → IfSome reported (λ file. HoldsAt file n buffer → IsNextEnd header file n (last.Ended (Bad n)))
reported_bad None header buffer held n cap long is large holding whole = tt
reported_bad (Some file) header buffer held n cap long is large holding whole =
    λ holds.
    let same = cap_is header file held n cap (holding holds) long (whole holds) is in
    end_in_bad header file n (whole holds) (omega arith)

pub reported_in_packet : (reported now : Option (List ℕ)) (header : Header) (buffer held : List ℕ) (n cap need : ℕ) (e : Last) → now ≡ reported → 16 ≤ length held → cap ≡ number_at header.big 4 held 8 → cap ≤ 262144 → need ≡ 16 + cap
    → IfSome reported (λ file. HoldsAt file n buffer → HoldsAt file n held) → IfSome reported (λ file. HoldsAt file n buffer → n + 16 ≤ length (within file)) → IfSome now (λ file. HoldsAt file n held → IsShort file n need e)
    → IfSome reported (λ file. HoldsAt file n buffer → IsNextEnd header file n e)
reported_in_packet None now header buffer held n cap need e same long is lawful asked holding whole short = tt
reported_in_packet (Some file) now header buffer held n cap need e same long is lawful asked holding whole short =
    λ holds.
    let is_file = cap_is header file held n cap (holding holds) long (whole holds) is in
    end_in_packet header file n need e (whole holds) (omega arith) (asked ∙ ap (λ (x : ℕ). 16 + x) is_file) (at_reported (λ f. HoldsAt f n held → IsShort f n need e) now file same short (holding holds))

pub reported_packet : (reported now : Option (List ℕ)) (header : Header) (buffer held more : List ℕ) (n cap need : ℕ) (seen : Seen) → now ≡ reported → cap ≡ captured header more 0 → cap ≤ 262144 → need ≡ 16 + cap → 16 + min cap 128 ≤ length more
    → IfSome reported (λ file. HoldsAt file n buffer → HoldsAt file n held) → IfSome now (λ file. HoldsAt file n held → HoldsAt file n more) → IfSome now (λ file. HoldsAt file n held → n + need ≤ length (within file))
    → IsSeen more (packet_at header more 0) seen → IfSome reported (λ file. HoldsAt file n buffer → IsNextPacket header file n seen)
reported_packet None now header buffer held more n cap need seen same is lawful asked long holding goes whole packet = tt
reported_packet (Some file) now header buffer held more n cap need seen same is lawful asked long holding goes whole packet =
    λ holds.
    let held_is = holding holds in
    let stands : n + need ≤ length (within file) = at_reported (λ f. HoldsAt f n held → n + need ≤ length (within f)) now file same whole held_is in
    packet_read header file more n seen (at_reported (λ f. HoldsAt f n held → HoldsAt f n more) now file same goes held_is) (omega arith) (omega arith) (omega arith) packet

-- what holds of each file holds of one with known contents
if_all : (reported : Option (List ℕ)) (P : List ℕ → Type 0) → ((file : List ℕ) → P file) → IfSome reported P
if_all None P all = tt
if_all (Some file) P all = all file

-- One call of a reader, which is seen as `before`.
pub reported_packet_step : (reported : Option (List ℕ)) (seen_as before now : ReaderState) (seen : Seen) → seen_as ≡ before → seen_as.last ≡ None → now.header ≡ seen_as.header → now.offset ≡ seen_as.offset + (16 + seen.cap) → now.last ≡ None
    → IfSome reported (λ file. Follows file before) → IfSome reported (λ file. HoldsAt file seen_as.offset seen_as.held → IsNextPacket seen_as.header file seen_as.offset seen)
    → IfSome reported (λ file. Ok next.Packet ≢ Err errors.ReadFault → IsStep file before (Ok next.Packet) seen now)
reported_packet_step None seen_as before now seen view goes header offset still follows packet = tt
reported_packet_step (Some file) seen_as before now seen view goes header offset still follows packet =
    λ _.
    let found = packet (subst (λ (r : ReaderState). Follows file r) (sym view) follows) in
    let cap : seen.cap ≡ captured seen_as.header (within file) seen_as.offset = found.is_seen.cap in
    let step : IsStep file seen_as (Ok next.Packet) seen now =
    inl (record { goes_on = goes; whole = found.whole; is_seen = found.is_seen; answered = refl; same_header = header; moved = omega arith; still = still }) in
    subst (λ (r : ReaderState). IsStep file r (Ok next.Packet) seen now) view step

pub reported_end_step : (reported : Option (List ℕ)) (seen_as before now : ReaderState) (l : Last) (answer : Result Next ReadError) (seen : Seen) → seen_as ≡ before → answer ≡ answer_of l → seen_as.last ≡ None → now.header ≡ seen_as.header → now.offset ≡ seen_as.offset → now.last ≡ Some l
    → IfSome reported (λ file. Follows file before) → IfSome reported (λ file. HoldsAt file seen_as.offset seen_as.held → IsNextEnd seen_as.header file seen_as.offset l)
    → IfSome reported (λ file. answer ≢ Err errors.ReadFault → IsStep file before answer seen now)
reported_end_step None seen_as before now l answer seen view is goes header offset noted follows end = tt
reported_end_step (Some file) seen_as before now l answer seen view is goes header offset noted follows end =
    λ _.
    let found = end (subst (λ (r : ReaderState). Follows file r) (sym view) follows) in
    let step : IsStep file seen_as answer seen now =
    inr (inl (record { goes_on = goes; ending = found.ending; none = found.none; answered = is ∙ ap answer_of found.ends; same_header = header; same_offset = offset; noted = noted ∙ ap (λ (x : Last). Some x) found.ends })) in
    subst (λ (r : ReaderState). IsStep file r answer seen now) view step

-- a name that isn't known has no file
reported_missing : (files : Option (ByName (List ℕ))) (counts : ByName ℕ) (name : List ℕ) (P : List ℕ → Type 0) → ((held : ByName (List ℕ)) (other : List ℕ) → files ≡ Some held → is_some (get held other) ≡ is_some (get counts other))
    → get counts name ≡ None → IfSome (stated_file files name) P
reported_missing None counts name P law unknown = tt
reported_missing (Some held) counts name P law unknown =
    let same : is_some (get held name) ≡ is_some {T = ℕ} None = law held name refl ∙ ap is_some unknown in
    elim (get held name) as (λ o. is_some o ≡ is_some {T = ℕ} None → IfSome o P) [ Some file ↦ λ e. absurd (cc) | None ↦ λ e. tt ] same

-- a read that fails is no step
pub reported_fault_step : (files : Option (ByName (List ℕ))) (counts : ByName ℕ) (name : List ℕ) (before now : ReaderState) (fault : InputFault) (answer : Result Next ReadError) (seen : Seen) → answer ≡ Err (error_of fault)
    → ((held : ByName (List ℕ)) (other : List ℕ) → files ≡ Some held → is_some (get held other) ≡ is_some (get counts other)) → (fault ≡ faults.Missing → get counts name ≡ None)
    → IfSome (stated_file files name) (λ file. answer ≢ Err errors.ReadFault → IsStep file before answer seen now)
reported_fault_step files counts name before now faults.Failed answer seen is law missing = if_all (stated_file files name) (λ file. answer ≢ Err errors.ReadFault → IsStep file before answer seen now) (λ file apart. absurd (apart is))
reported_fault_step files counts name before now faults.Missing answer seen is law missing = reported_missing files counts name (λ file. answer ≢ Err errors.ReadFault → IsStep file before answer seen now) law (missing refl)

-- a step takes the first of what is left
pub reported_takes : (reported : Option (List ℕ)) (before now : ReaderState) (answer : Result Next ReadError) (seen : Seen) → IfSome reported (λ file. answer ≢ Err errors.ReadFault → IsStep file before answer seen now)
    → IfSome reported (λ file. (packets : List Packet) (l : Last) → Left file before packets l → answer ≢ Err errors.ReadFault → Takes file packets l answer seen now)
reported_takes None before now answer seen step = tt
reported_takes (Some file) before now answer seen step = λ packets l left read. left_taken file before now packets l answer seen left (step read)

-- the reader goes on following the file
pub reported_follows : (reported : Option (List ℕ)) (seen_as before now : ReaderState) (held : List ℕ) (n : ℕ) → seen_as ≡ before → now.offset ≡ seen_as.offset + n → now.held ≡ drop n held
    → IfSome reported (λ file. Follows file before) → IfSome reported (λ file. HoldsAt file seen_as.offset seen_as.held → HoldsAt file seen_as.offset held) → IfSome reported (λ file. Follows file now)
reported_follows None seen_as before now held n view offset rest follows holding = tt
reported_follows (Some file) seen_as before now held n view offset rest follows holding =
    let first = subst (λ (r : ReaderState). Follows file r) (sym view) follows in
    let at : HoldsAt file (seen_as.offset + n) now.held = holds_rest file held now.held seen_as.offset n (holding first) rest in
    subst (λ (k : ℕ). HoldsAt file k now.held) (sym offset) at

-- what is said of an answer that is this one
pub short_ends : (short : Option Last) (e : Last) (reported : Option (List ℕ)) (buffer : List ℕ) (n need : ℕ) → short ≡ Some e → IfSome short (λ l. IfSome reported (λ file. HoldsAt file n buffer → IsShort file n need l)) → IfSome reported (λ file. HoldsAt file n buffer → IsShort file n need e)
short_ends short e reported buffer n need is ends = subst (λ (o : Option Last). IfSome o (λ l. IfSome reported (λ file. HoldsAt file n buffer → IsShort file n need l))) is ends

-- known contents stay as they were
pub reported_still : (old new : Option (ByName (List ℕ))) (name : List ℕ) (P : List ℕ → Type 0) → new ≡ old → IfSome (stated_file old name) P → IfSome (stated_file new name) P
reported_still old new name P same given = subst (λ (t : Option (ByName (List ℕ))). IfSome (stated_file t name) P) (sym same) given

-- a name that was known is known
pub known_still : (name : List ℕ) (old new : ByName ℕ) → OnlyRises name old new → (get old name ≡ None → ⊥) → is_some (get new name) ≡ true
known_still name old new rises known = rises.known ∙ elim (get old name) as (λ o. (o ≡ None → ⊥) → is_some o ≡ true) [ Some n ↦ λ k. refl | None ↦ λ k. absurd (k refl) ] known

-- it is known, unless nothing was read of it
pub not_unknown : (seen_as before : ReaderState) (name : List ℕ) (old : ByName ℕ) → seen_as ≡ before → (HasRead before → is_some (get old name) ≡ true) → (length seen_as.held ≡ 0 → get old name ≡ None → ⊥) → get old name ≡ None → ⊥
not_unknown seen_as before name old view known empty none =
    below_or_not 0 (length seen_as.held)
    (λ some.
    let has : HasRead seen_as = inl some in
    let is : is_some (get old name) ≡ true = known (subst (λ (r : ReaderState). HasRead r) view has) in
    true≢false (sym is ∙ ap is_some none))
    (λ nothing. empty (omega arith) none)

abbrev result : (A E : Type 0) → Result A E → Result A E
result A E r = r

pub not_err : {A E : Type 0} {a : A} {e : E} → result A E (Ok a) ≡ result A E (Err e) → ⊥
not_err e = cc
