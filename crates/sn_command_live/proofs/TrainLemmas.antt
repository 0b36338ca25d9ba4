-- Training captures.
use Rattle.std.proofs.Common.{◌≡◌, ℕ, ◌≤◌, List, [], ◌∷◌, false, cond, map, length, Result, Ok, Err, refl, ap, sym, ◌∙◌, subst, arith, filter}
use Rattle.std.specs.Prelude.{◌==◌, ◌^◌, nat_eq, nat_lt}
use Rattle.std.proofs.lemmas.List.{take_all}
use Rattle.sn_base.proofs.Lists.{by_test}
use Rattle.sn_base.specs.Groups.{once}
use Rattle.sn_command_capture.specs.Capture.{packet_tuple, time_of, windows_in}
use Rattle.sn_windows.specs.Rising.{Window}
use Rattle.sn_cost.specs.Entries as costs
use Rattle.sn_pcap.specs.Reading.{within}
use Rattle.sn_pcap.specs.Capture.{Records, head_of}
use Rattle.sn_pcap.specs.declared.header.Header.{Header}
use Rattle.sn_pcap.specs.declared.header.HeadFault.{HeadFault}
use Rattle.sn_pcap.specs.declared.packet.Ending.{Ending}
use Rattle.sn_pcap.specs.declared.packet.Packet.{Packet}
use Rattle.sn_command.specs.declared.fault.Fault.{Fault}
use Rattle.sn_command.specs.declared.fault.Fault.TheVariants as faults
use Rattle.sn_cost_training.specs.Trained.{Training}
use Rattle.sn_command_training.specs.Training.{JudgedAs, JudgedAfter, TrainingIn, judged_records, training_of}
use Rattle.sn_windows.specs.Numbering.{begun}
use Rattle.sn_windows.proofs.NumberLemmas.{numbered_is, records_are}
use Rattle.sn_windows.specs.Windows.{in_window, number_at, numbered, record_at, windows_of}
use Rattle.sn_command_live.specs.Captures.{IsCapture}
use Rattle.sn_command_live.specs.Live.{trained_windows}
use Rattle.sn_command_live.proofs.Inversions.{is_damage}
use Rattle.sn_windows.specs.Blocks.{most_records}

module _ {X : Type 0} (shown : X → List ℕ) where
  abbrev paired : ℕ × X → ℕ × List ℕ
  paired p = (p.0, shown p.1)

  paired_numbers : (ps : List (ℕ × X)) → map number_at (map paired ps) ≡ map number_at ps
  paired_numbers [] = refl
  paired_numbers (p ∷ ps) = ap (λ (ns : List ℕ). p.0 ∷ ns) (paired_numbers ps)

  paired_first : (w : ℕ) (p : ℕ × X) (ps : List (ℕ × X)) → map record_at (filter (λ (r : ℕ × List ℕ). r.0 == w) (map paired ps)) ≡ map shown (map record_at (filter (λ (r : ℕ × X). r.0 == w) ps))
      → map record_at (filter (λ (r : ℕ × List ℕ). r.0 == w) (paired p ∷ map paired ps)) ≡ map shown (map record_at (filter (λ (r : ℕ × X). r.0 == w) (p ∷ ps)))
  paired_first w p ps rest = by_test (p.0 == w)
      (λ is.
      ap (λ b. map record_at (cond b (paired p ∷ filter (λ (r : ℕ × List ℕ). r.0 == w) (map paired ps)) (filter (λ (r : ℕ × List ℕ). r.0 == w) (map paired ps)))) is
      ∙ ap (λ (ts : List (List ℕ)). shown p.1 ∷ ts) rest
      ∙ sym (ap (λ b. map shown (map record_at (cond b (p ∷ filter (λ (r : ℕ × X). r.0 == w) ps) (filter (λ (r : ℕ × X). r.0 == w) ps)))) is))
      (λ isnt.
      ap (λ b. map record_at (cond b (paired p ∷ filter (λ (r : ℕ × List ℕ). r.0 == w) (map paired ps)) (filter (λ (r : ℕ × List ℕ). r.0 == w) (map paired ps)))) isnt
      ∙ rest
      ∙ sym (ap (λ b. map shown (map record_at (cond b (p ∷ filter (λ (r : ℕ × X). r.0 == w) ps) (filter (λ (r : ℕ × X). r.0 == w) ps)))) isnt))

  paired_window : (w : ℕ) (ps : List (ℕ × X)) → in_window w (map paired ps) ≡ map shown (in_window w ps)
  paired_window w [] = refl
  paired_window w (p ∷ ps) = paired_first w p ps (paired_window w ps)

  paired_records : (ps : List (ℕ × X)) → costs.records (map number_at ps) (map shown (map record_at ps)) ≡ map paired ps
  paired_records [] = refl
  paired_records (p ∷ ps) = ap (λ (rs : List (ℕ × List ℕ)). paired p ∷ rs) (paired_records ps)

  map_same : (f g : ℕ → Window) → ((w : ℕ) → f w ≡ g w) → (ns : List ℕ) → map f ns ≡ map g ns
  map_same f g same [] = refl
  map_same f g same (n ∷ ns) = rw (same n, map_same f g same ns) refl

  -- the windows of numbers and tuples are those of the numbered records
  pub trained_are : (ps : List (ℕ × X)) → costs.trained (map number_at ps) (map shown (map record_at ps)) ≡ map (λ (w : ℕ). (w, map shown (in_window w ps))) (windows_of ps)
  trained_are ps =
      ap costs.windows_in (paired_records ps)
      ∙ map_same (λ (w : ℕ). (w, in_window w (map paired ps))) (λ (w : ℕ). (w, map shown (in_window w ps))) (λ w. ap (λ (ts : List (List ℕ)). (w, ts)) (paired_window w ps)) (windows_of (map paired ps))
      ∙ ap (λ (ns : List ℕ). map (λ (w : ℕ). (w, map shown (in_window w ps))) (once nat_eq ns)) (paired_numbers ps)

module _ (window : ℕ) (file : List ℕ) (few : length file ≤ 2 ^ 30) where
  pub all_within : within file ≡ file
  all_within = take_all (2 ^ 40) file (omega arith)

  pub record TrainedSo (training : Training) : Type 0 where
    pub windows : List Window
    pub ending : Ending
    pub is : IsCapture window file windows ending
    pub trained : trained_windows training ≡ windows

  records_so : (link : Header) (packets : List Packet) (training : Training) → judged_records window link.link file packets ≡ Ok training → training ≡ training_of window link.link file packets
  records_so header packets training e = by_test (nat_lt most_records (length packets))
      (λ is. absurd (let no = sym (ap (λ b. cond b (Err faults.TooLarge) (Ok (training_of window header.link file packets))) is) ∙ e in cc))
      (λ isnt. let same : ◌≡◌ {A = Result Training Fault} (Ok (training_of window header.link file packets)) (Ok training) = sym (ap (λ b. cond b (Err faults.TooLarge) (Ok (training_of window header.link file packets))) isnt) ∙ e in cc)

  after_so : (header : Header) (training : Training) → head_of file ≡ Ok header → JudgedAfter window header file (Ok training) → TrainedSo training
  after_so header training head j =
      let ps = numbered time_of window j.packets in
      let same = records_so header j.packets training (sym j.same) in
      let all : map record_at ps ≡ j.packets = ap (map record_at) (sym (numbered_is time_of window j.packets)) ∙ records_are time_of (begun window) j.packets in
      record {
        windows = windows_in (packet_tuple header.link (within file)) ps;
        ending = j.ending;
        is = record {
          header = header;
          accepted = head;
          packets = j.packets;
          records = subst (λ (bytes : List ℕ). Records header bytes 24 j.packets j.ending) (sym all_within) j.are;
          are = refl;
        };
        trained =
            ap trained_windows same
            ∙ ap (λ (packets : List Packet). costs.trained (map number_at ps) (map (packet_tuple header.link file) packets)) (sym all)
            ∙ trained_are (packet_tuple header.link file) ps
            ∙ ap (λ (bytes : List ℕ). windows_in (packet_tuple header.link bytes) ps) (sym all_within);
      }

  pub training_so : (training : Training) → TrainingIn window file (Ok training) → TrainedSo training
  training_so training is = by_head (head_of file) refl is
    where
      by_head : (head : Result Header HeadFault) → head_of file ≡ head → JudgedAs window file head (Ok training) → TrainedSo training
      by_head (Ok header) e j = after_so header training e j
      by_head (Err fault) e j = absurd (let no = j in cc)

-- a training capture isn't refused for a damaged record
pub never_trained : (window : ℕ) (file : List ℕ) (fault : Fault) → TrainingIn window file (Err fault) → is_damage fault ≡ false
never_trained window file fault is = by_head (head_of file) is
  where
    by_few : (header : Header) (packets : List Packet) → ◌≡◌ {A = Result Training Fault} (Err fault) (judged_records window header.link file packets) → is_damage fault ≡ false
    by_few header packets e = by_test (nat_lt most_records (length packets))
        (λ is. ap is_damage (fault_is (e ∙ ap (λ b. cond b (Err faults.TooLarge) (Ok (training_of window header.link file packets))) is)))
        (λ isnt. absurd (let no = e ∙ ap (λ b. cond b (Err faults.TooLarge) (Ok (training_of window header.link file packets))) isnt in cc))
      where
        fault_is : ◌≡◌ {A = Result Training Fault} (Err fault) (Err faults.TooLarge) → fault ≡ faults.TooLarge
        fault_is k = cc

    by_head : (head : Result Header HeadFault) → JudgedAs window file head (Err fault) → is_damage fault ≡ false
    by_head (Ok header) j = by_few header j.packets j.same
    by_head (Err other) j = ap is_damage (fault_is j)
      where
        fault_is : ◌≡◌ {A = Result Training Fault} (Err fault) (Err (faults.Head other)) → fault ≡ faults.Head other
        fault_is k = cc
