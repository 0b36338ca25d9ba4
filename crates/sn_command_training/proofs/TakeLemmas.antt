-- One piece of a capture after another is taken.
use Rattle.std.proofs.Common.{◌≡◌, ℕ, ◌+◌, ◌-◌, ◌<◌, ◌≤◌, Bool, true, List, [], ◌∷◌, ◌++◌, length, length-append, length-drop, length-take, map, take, drop, Result, Ok, Err, OnOk, refl, ap, sym, subst, ◌∙◌, append-nil, append_assoc, ◌⊎◌, inl, inr, arith}
use Rattle.std.specs.Prelude.{nat_lt, if◌then◌else◌}
use Rattle.std.proofs.Math.Seq.{take-add}
use Rattle.std.proofs.lemmas.Bool.{le-ltb, lt-ltb}
use Rattle.std.proofs.lemmas.List.{drop-drop, drop-take, length-map, map-append, take-take}
use Rattle.sn_base.specs.declared.link.Link.{Link}
use Rattle.sn_pcap.specs.declared.header.Header.{Header}
use Rattle.sn_pcap.specs.declared.header.HeadFault.{HeadFault}
use Rattle.sn_pcap.specs.declared.header.HeadFault.TheVariants as head_faults
use Rattle.sn_pcap.specs.declared.packet.Packet.{Packet}
use Rattle.sn_pcap.specs.declared.packet.Ending.{Ending}
use Rattle.sn_pcap.specs.declared.packet.Ending.TheVariants.{Bad}
use Rattle.sn_pcap.specs.Capture.{Records, head_of}
use Rattle.sn_pcap.proofs.HeadLemmas.{head_front}
use Rattle.sn_pcap.proofs.OneCapture.{records_some}
use Rattle.sn_command.specs.declared.fault.Fault.TheVariants as faults
use Rattle.sn_command_training.specs.declared.taking.Found.{Found}
use Rattle.sn_command_training.specs.declared.taking.Found.TheVariants as found_as
use Rattle.sn_windows.specs.declared.windows.TooMany.{TooMany}
use Rattle.sn_windows.specs.Blocks.{most_records}
use Rattle.sn_windows.specs.Windows.{number_at, numbered}
use Rattle.sn_windows.proofs.NumberLemmas.{numbered_is}
use Rattle.sn_windows.specs.Numbering.{Numbering, begun, next_number, numbered_from, stepped}
use Rattle.sn_command_capture.specs.Capture.{packet_tuple, time_of}
use Rattle.sn_cost_training.specs.Trained.{Training}
use Rattle.sn_command_training.specs.declared.collected.Collected.{Collected}
use Rattle.sn_command_training.specs.Collecting.{CollectsAll, IsCollected, Seen, seen_time, seen_tuple, shown, training_of_seen}
use Rattle.sn_command_training.specs.Taking.{HasEnd, IsTakenAs, TakesAll, TakesRecords, end_at}
use Rattle.sn_command_training.specs.Training.{JudgedAs, TrainingIn, training_of}
use Rattle.sn_command_training.proofs.MovedLemmas.{Agrees, Moved, all_moved, bad_moved, end_moved}

-- ---- what is held

module _ (file held : List ℕ) (place offset : ℕ) (within : place ≤ length file) (begins : 24 ≤ offset) (reaches : offset ≤ place) (is : held ≡ take 24 file ++ take (place - offset) (drop offset file)) where
  front_long : length (take 24 file) ≡ 24
  front_long = let e = length-take 24 file in omega (arith, e, within, begins, reaches)

  pub held_long : length held ≡ 24 + (place - offset)
  held_long =
      let all = ap length is ∙ length-append (take 24 file) (take (place - offset) (drop offset file)) in
      let a = front_long in
      let b = length-take (place - offset) (drop offset file) in
      let c = length-drop offset file in
      omega (arith, all, a, b, c, within, reaches)

  drop_front : (xs ys : List ℕ) (n : ℕ) → length xs ≡ n → drop n (xs ++ ys) ≡ ys
  drop_front xs ys n e = subst (λ (m : ℕ). drop m (xs ++ ys) ≡ ys) e (own xs)
    where
      own : (zs : List ℕ) → drop (length zs) (zs ++ ys) ≡ ys
      own [] = refl
      own (z ∷ zs) = own zs

  take_front : (xs ys : List ℕ) (n : ℕ) → length xs ≡ n → take n (xs ++ ys) ≡ xs
  take_front xs ys n e = subst (λ (m : ℕ). take m (xs ++ ys) ≡ xs) e (own xs)
    where
      own : (zs : List ℕ) → take (length zs) (zs ++ ys) ≡ zs
      own [] = refl
      own (z ∷ zs) = ap (λ (rest : List ℕ). z ∷ rest) (own zs)

  pub held_front : take 24 held ≡ take 24 file
  held_front = ap (take 24) is ∙ take_front (take 24 file) (take (place - offset) (drop offset file)) 24 front_long

  held_rest : drop 24 held ≡ take (place - offset) (drop offset file)
  held_rest = ap (drop 24) is ∙ drop_front (take 24 file) (take (place - offset) (drop offset file)) 24 front_long

  pub held_agrees : Agrees file held (offset - 24)
  held_agrees m above fits =
      let long = held_long in
      let first : m ≡ 24 + (m - 24) = omega (arith, above) in
      let count : place - offset ≡ (m - 24) + (length held - m) = omega (arith, long, above, fits) in
      let further : offset + (m - 24) ≡ m + (offset - 24) = omega (arith, above, begins) in
      ap (λ (n : ℕ). drop n held) first ∙ sym (drop-drop (m - 24) 24 held) ∙ ap (drop (m - 24)) held_rest ∙ ap (λ (n : ℕ). drop (m - 24) (take n (drop offset file))) count
      ∙ drop-take (m - 24) (length held - m) (drop offset file) ∙ ap (take (length held - m)) (drop-drop (m - 24) offset file) ∙ ap (λ (n : ℕ). take (length held - m) (drop n file)) further

  pub held_reaches : length held + (offset - 24) ≡ place
  held_reaches = let long = held_long in omega (arith, long, begins, reaches)

-- ---- a piece more

piece_long : (file piece : List ℕ) (place : ℕ) → place ≤ length file → piece ≡ take (length piece) (drop place file) → place + length piece ≤ length file
piece_long file piece place within is =
    let e = ap length is in let a = length-take (length piece) (drop place file) in let b = length-drop place file in omega (arith, e, a, b, within)

-- before the header is whole
pub more_front : (file held piece : List ℕ) (place : ℕ) → place ≤ length file → held ≡ take place file → piece ≡ take (length piece) (drop place file) → held ++ piece ≡ take (place + length piece) file
more_front file held piece place within is next =
    ap (λ (xs : List ℕ). xs ++ piece) is ∙ ap (λ (xs : List ℕ). take place file ++ xs) next ∙ sym (take-add place (length piece) file)

pub more_within : (file piece : List ℕ) (place : ℕ) → place ≤ length file → piece ≡ take (length piece) (drop place file) → place + length piece ≤ length file
more_within = piece_long

-- and after it
pub more_taken : (window : ℕ) (file : List ℕ) (place : ℕ) (header : Header) (held piece : List ℕ) (c : Collected) → TakesRecords window file place header held c → piece ≡ take (length piece) (drop place file)
    → TakesRecords window file (place + length piece) header (held ++ piece) c
more_taken window file place header held piece c takes next =
    let reaches = takes.reaches in
    let within = takes.within in
    let more : ℕ = place - takes.offset in
    let back : takes.offset + more ≡ place = omega (arith, reaches) in
    let count : more + length piece ≡ place + length piece - takes.offset = omega (arith, reaches) in
    let rest : piece ≡ take (length piece) (drop more (drop takes.offset file)) = next ∙ ap (take (length piece)) (ap (λ (n : ℕ). drop n file) (sym back) ∙ sym (drop-drop more takes.offset file)) in
    record {
      within = piece_long file piece place within next;
      is_header = takes.is_header;
      packets = takes.packets;
      offset = takes.offset;
      begins = takes.begins;
      reaches = omega (arith, reaches);
      holds = ap (λ (xs : List ℕ). xs ++ piece) takes.holds ∙ append_assoc (take 24 file) (take more (drop takes.offset file)) piece
          ∙ ap (λ (xs : List ℕ). take 24 file ++ (take more (drop takes.offset file) ++ xs)) rest
          ∙ ap (λ (xs : List ℕ). take 24 file ++ xs) (sym (take-add more (length piece) (drop takes.offset file)))
          ∙ ap (λ (n : ℕ). take 24 file ++ take n (drop takes.offset file)) count;
      front = takes.front;
      collects = takes.collects;
    }

-- ---- the header

pub head_held : (file held : List ℕ) (place : ℕ) → held ≡ take place file → 24 ≤ place → head_of held ≡ head_of file
head_held file held place is whole =
    sym (head_front held) ∙ ap (λ (xs : List ℕ). head_of (take 24 xs)) is ∙ ap head_of (take-take 24 place file whole) ∙ head_front file

-- records follow the header
pub header_taken : (window : ℕ) (file : List ℕ) (place : ℕ) (header : Header) (held : List ℕ) (c : Collected) → place ≤ length file → held ≡ take place file → 24 ≤ place → head_of file ≡ Ok header → IsCollected window [] c
    → TakesRecords window file place header held c
header_taken window file place header held c within is whole head none =
    let all : place ≡ 24 + (place - 24) = omega (arith, whole) in
    record {
      within = within;
      is_header = head;
      packets = [];
      offset = 24;
      begins = omega arith;
      reaches = whole;
      holds = is ∙ ap (λ (n : ℕ). take n file) all ∙ take-add 24 (place - 24) file;
      front = λ rest ending are. are;
      collects = none;
    }

-- a file of fewer bytes has no header
pub head_short : (file : List ℕ) → length file < 24 → head_of file ≡ Err head_faults.Short
head_short file few = let e : nat_lt (length file) 24 ≡ true = lt-ltb (length file) 24 few in rw e refl

pub refused_head : (window : ℕ) (file : List ℕ) (fault : HeadFault) → head_of file ≡ Err fault → TrainingIn window file (Err (faults.Head fault))
refused_head window file fault is = subst (λ (head : Result Header HeadFault). JudgedAs window file head (Err (faults.Head fault))) (sym is) refl

-- ---- the records

module _ (window : ℕ) (file : List ℕ) (header : Header) (packets : List Packet) (ending : Ending) (is_header : head_of file ≡ Ok header) (are : Records header file 24 packets ending) where
  too_many : most_records < length packets → TrainingIn window file (Err faults.TooLarge)
  too_many many =
      subst (λ (head : Result Header HeadFault). JudgedAs window file head (Err faults.TooLarge)) (sym is_header)
      (record { packets = packets; ending = ending; are = are; same = sym (ap (λ (b : Bool). if b then Err faults.TooLarge else Ok (training_of window header.link file packets)) (lt-ltb most_records (length packets) many)) })

  few_enough : length packets ≤ most_records → TrainingIn window file (Ok (training_of window header.link file packets))
  few_enough few =
      subst (λ (head : Result Header HeadFault). JudgedAs window file head (Ok (training_of window header.link file packets))) (sym is_header)
      (record { packets = packets; ending = ending; are = are; same = sym (ap (λ (b : Bool). if b then Err faults.TooLarge else Ok (training_of window header.link file packets)) (le-ltb most_records (length packets) few)) })

-- the numbers of what is shown of packets
numbers_shown : (link : Link) (file : List ℕ) (s : Numbering) (packets : List Packet) → map number_at (numbered_from seen_time s (map (shown link file) packets)) ≡ map number_at (numbered_from time_of s packets)
numbers_shown link file s [] = refl
numbers_shown link file s (p ∷ ps) = ap (λ (ns : List ℕ). next_number s p.time ∷ ns) (numbers_shown link file (stepped s p.time) ps)

tuples_shown : (link : Link) (file : List ℕ) (packets : List Packet) → map seen_tuple (map (shown link file) packets) ≡ map (packet_tuple link file) packets
tuples_shown link file [] = refl
tuples_shown link file (p ∷ ps) = ap (λ (ts : List (List ℕ)). packet_tuple link file p ∷ ts) (tuples_shown link file ps)

pub trained_shown : (window : ℕ) (link : Link) (file : List ℕ) (packets : List Packet) → training_of_seen window (map (shown link file) packets) ≡ training_of window link file packets
trained_shown window link file packets =
    ap (λ (ts : List (List ℕ)). record { tuples = ts; numbers = map number_at (numbered seen_time window (map (shown link file) packets)) }) (tuples_shown link file packets)
    ∙ ap (λ (ns : List ℕ). record { tuples = map (packet_tuple link file) packets; numbers = ns })
    (ap (map number_at) (sym (numbered_is seen_time window (map (shown link file) packets))) ∙ numbers_shown link file (begun window) packets ∙ ap (map number_at) (numbered_is time_of window packets))

-- what is collected of all packets is what is trained on
pub all_judged : (window : ℕ) (file : List ℕ) (c : Collected) (training : Training) → TakesAll window file c → ((seen : List Seen) → IsCollected window seen c → training ≡ training_of_seen window seen) → TrainingIn window file (Ok training)
all_judged window file c training all finished =
    let few : length all.packets ≤ most_records = let e = length-map all.packets (shown all.header.link file) in let most = all.collects.few in omega (arith, e, most) in
    let same : training ≡ training_of window all.header.link file all.packets = finished (map (shown all.header.link file) all.packets) all.collects ∙ trained_shown window all.header.link file all.packets in
    subst (λ (t : Training). TrainingIn window file (Ok t)) (sym same) (few_enough window file all.header all.packets all.ending all.is_header all.are few)

-- at the end of a file no packet is whole of those that stand there
pub ended_all : (window : ℕ) (file : List ℕ) (place : ℕ) (header : Header) (held : List ℕ) (c : Collected) (takes : TakesRecords window file place header held c) → HasEnd header file takes.offset → TakesAll window file c
ended_all window file place header held c takes end = record {
  header = header;
  is_header = takes.is_header;
  packets = takes.packets;
  ending = end.ending;
  are = subst (λ (ps : List Packet). Records header file 24 ps end.ending) (append-nil takes.packets) (takes.front [] end.ending end.none);
  collects = takes.collects;
}

-- the whole records that are held are taken
module _ (window : ℕ) (file : List ℕ) (place : ℕ) (header : Header) (held : List ℕ) (before : Collected) (takes : TakesRecords window file place header held before) (found : List Packet) (ending : Ending) (are : Records header held 24 found ending) where
  abbrev k : ℕ
  k = takes.offset - 24

  abbrev agrees : Agrees file held k
  agrees = held_agrees file held place takes.offset takes.within takes.begins takes.reaches takes.holds

  reached : length held + k ≡ place
  reached = held_reaches file held place takes.offset takes.within takes.begins takes.reaches takes.holds

  inside : length held + k ≤ length file
  inside = let e = reached in let within = takes.within in omega (arith, e, within)

  long : length held ≡ 24 + (place - takes.offset)
  long = held_long file held place takes.offset takes.within takes.begins takes.reaches takes.holds

  abbrev moved : Moved header file held k agrees header.link 24 found ending
  moved = all_moved header file held k agrees header.link 24 found ending inside (omega arith) (let e = long in omega (arith, e)) are

  from_offset : 24 + k ≡ takes.offset
  from_offset = let begins : 24 ≤ takes.offset = takes.begins in let e : 24 + (takes.offset - 24) ≡ takes.offset = omega (arith, begins) in e

  abbrev all : List Packet
  all = takes.packets ++ moved.further

  all_front : (rest : List Packet) (last : Ending) → Records header file (end_at held ending + k) rest last → Records header file 24 (all ++ rest) last
  all_front rest last goes =
      subst (λ (ps : List Packet). Records header file 24 ps last) (sym (append_assoc takes.packets moved.further rest))
      (takes.front (moved.further ++ rest) last (subst (λ (n : ℕ). Records header file n (moved.further ++ rest) last) from_offset (moved.front rest last goes)))

  shown_all : map (shown header.link file) takes.packets ++ map (shown header.link held) found ≡ map (shown header.link file) all
  shown_all = ap (λ (ss : List Seen). map (shown header.link file) takes.packets ++ ss) (sym moved.alike) ∙ sym (map-append (shown header.link file) takes.packets moved.further)

  -- there are too many
  pub many_taken : most_records < length (map (shown header.link file) takes.packets) + length (map (shown header.link held) found) → TrainingIn window file (Err faults.TooLarge)
  many_taken many =
      let rest = records_some header file (end_at held ending + k) in
      let a = length-map takes.packets (shown header.link file) in
      let b = ap length (sym moved.alike) ∙ length-map moved.further (shown header.link file) in
      let c = length-append takes.packets moved.further in
      let d = length-append all rest.packets in
      too_many window file header (all ++ rest.packets) rest.ending takes.is_header (all_front rest.packets rest.ending rest.are) (omega (arith, many, a, b, c, d))

  -- or they go on after those
  pub held_taken : (now : Collected) (rest : List ℕ) → IsCollected window (map (shown header.link file) takes.packets ++ map (shown header.link held) found) now → rest ≡ take 24 held ++ drop (end_at held ending) held
      → (later : TakesRecords window file place header rest now) × (length file ≤ place → HasEnd header file later.offset)
  held_taken now rest collects is =
      let e = reached in
      let above = moved.above in
      let below = moved.below in
      let within = takes.within in
      let begins = takes.begins in
      let count : length held - end_at held ending ≡ place - (end_at held ending + k) = omega (arith, e, below) in (
        record {
          within = takes.within;
          is_header = takes.is_header;
          packets = all;
          offset = end_at held ending + k;
          begins = omega (arith, above);
          reaches = omega (arith, e, below);
          holds = is ∙ ap (λ (xs : List ℕ). xs ++ drop (end_at held ending) held) (held_front file held place takes.offset takes.within takes.begins takes.reaches takes.holds)
              ∙ ap (λ (xs : List ℕ). take 24 file ++ xs) (agrees (end_at held ending) above below ∙ ap (λ (n : ℕ). take n (drop (end_at held ending + k) file)) count);
          front = all_front;
          collects = subst (λ (ss : List Seen). IsCollected window ss now) shown_all collects;
        },
        λ ended. end_moved header file held k agrees (end_at held ending) ending above (omega (arith, ended, within, e)) below moved.none,
      )

-- a damaged record ends them
pub bad_taken : (window : ℕ) (file : List ℕ) (place : ℕ) (header : Header) (held : List ℕ) (before : Collected) (takes : TakesRecords window file place header held before) (found : List Packet) (n : ℕ) → Records header held 24 found (Bad n)
    → (now : Collected) → IsCollected window (map (shown header.link file) takes.packets ++ map (shown header.link held) found) now → TakesAll window file now
bad_taken window file place header held before takes found n are now collects =
    let m = moved window file place header held before takes found (Bad n) are in
    let k' : ℕ = k window file place header held before takes found (Bad n) are in
    let bad : Records header file (n + k') [] (Bad (n + k')) =
    bad_moved header file held k' (agrees window file place header held before takes found (Bad n) are) n n m.above (inside window file place header held before takes found (Bad n) are) m.none in
    record {
      header = header;
      is_header = takes.is_header;
      packets = all window file place header held before takes found (Bad n) are;
      ending = Bad (n + k');
      are = subst (λ (ps : List Packet). Records header file 24 ps (Bad (n + k'))) (append-nil (all window file place header held before takes found (Bad n) are))
          (all_front window file place header held before takes found (Bad n) are [] (Bad (n + k')) bad);
      collects = subst (λ (ss : List Seen). IsCollected window ss now) (shown_all window file place header held before takes found (Bad n) are) collects;
    }

-- what is collected of the same packets
pub collects_as : (window : ℕ) (seen : List Seen) (link : Link) (bytes held : List ℕ) (packets found : List Packet) (taken : Result (Unit {0}) TooMany) (now : Collected) → bytes ≡ held → packets ≡ found
    → CollectsAll window seen (map (shown link bytes) packets) taken now → CollectsAll window seen (map (shown link held) found) taken now
collects_as window seen link bytes held packets found taken now same also is =
    subst (λ (ps : List Packet). CollectsAll window seen (map (shown link held) ps) taken now) also (subst (λ (xs : List ℕ). CollectsAll window seen (map (shown link xs) packets) taken now) same is)

-- the header stays held
pub header_stays : (held rest : List ℕ) (end : ℕ) → 24 ≤ length held → rest ≡ take 24 held ++ drop end held → 24 ≤ length rest
header_stays held rest end whole is =
    let e = ap length is ∙ length-append (take 24 held) (drop end held) in let a = length-take 24 held in omega (arith, e, a, whole)

-- a capture that was taken to its end after its header
pub header_judged : (window : ℕ) (file held : List ℕ) (found : Found) (header : Header) (c : Collected) (training : Training) → found ≡ found_as.Header header → IsTakenAs window file (length file) found held c
    → ((seen : List Seen) → IsCollected window seen c → training ≡ training_of_seen window seen) → TrainingIn window file (Ok training)
header_judged window file held found header c training is taken finished =
    let t = subst (λ (f : Found). IsTakenAs window file (length file) f held c) is taken in
    all_judged window file c training (ended_all window file (length file) header held c t.0 (t.1 (omega arith))) finished

pub on_ok_map : {A E : Type 0} (result : Result A E) {P Q : Type 0} → OnOk result P → (P → Q) → OnOk result Q
on_ok_map (Ok a) p f = f p
on_ok_map (Err e) p f = tt

pub front_reaches : (file held : List ℕ) (place : ℕ) → held ≡ take place file → 24 ≤ length held → 24 ≤ place
front_reaches file held place is whole = let e = ap length is in let a = length-take place file in omega (arith, e, a, whole)

pub records_judged : (window : ℕ) (file held : List ℕ) (found : Found) (c : Collected) (training : Training) → ((header : Header) × (found ≡ found_as.Header header)) ⊎ (found ≡ found_as.End) → IsTakenAs window file (length file) found held c
    → ((seen : List Seen) → IsCollected window seen c → training ≡ training_of_seen window seen) → TrainingIn window file (Ok training)
records_judged window file held found c training (inl (header, is)) taken finished = header_judged window file held found header c training is taken finished
records_judged window file held found c training (inr is) taken finished = all_judged window file c training (subst (λ (f : Found). IsTakenAs window file (length file) f held c) is taken) finished
