-- Captures that are counted, over plain values.
use Rattle.std.proofs.Common.{◌≡◌, ◌&&◌, ℕ, ◌+◌, ◌<◌, List, [], ◌∷◌, ◌++◌, Bool, true, false, cond, take, length, fold, min, get_or, Option, None, Some, unwrap_or, Result, Ok, Err, refl, ap, sym, ◌∙◌, subst}
use Rattle.std.specs.List.{flat_map, list_all}
use Rattle.std.proofs.lemmas.List.{append-nil, take_more}
use Rattle.std.proofs.lemmas.Grind.{flat_map-append}
use Rattle.sn_base.proofs.Lists.{and_parts, by_test}
use Rattle.sn_command.specs.declared.fault.Fault.{Fault}
use Rattle.sn_command.specs.declared.fault.Fault.TheVariants as faults
use Rattle.sn_command_capture.specs.Capture.{time_of}
use Rattle.sn_command.specs.declared.refusal.Refusal.{Refusal}
use Rattle.sn_command.specs.declared.refusal.Refusal.TheVariants.{Memory, Usage, Missing, ReadFault, WriteFault, Refused}
use Rattle.sn_command.specs.Runs.{Answers}
use Rattle.sn_command_captures.proofs.WalkLemmas.{shown_rises}
use Rattle.sn_command_captures.specs.Counted.{counted, share_if_few, share_of, share_verdict, shares_of, start_found}
use Rattle.sn_command_captures.specs.Shares.{IsSound}
use Rattle.sn_command_captures.specs.declared.share.Share.{Share}
use Rattle.sn_windows.proofs.NumberLemmas.{numbers_rise}
use Rattle.sn_windows.proofs.RunLemmas.{Rises}
use Rattle.sn_command_captures.specs.Windows.{first_time, none_full, records_since, start_of}
use Rattle.sn_command_captures.specs.declared.capture.Capture.{Capture}
use Rattle.sn_pcap.specs.declared.packet.Packet.{Packet}
use Rattle.sn_windows.specs.Blocks.{all_few}
use Rattle.sn_windows.specs.Numbering.{begun_at, numbered_from}
use Rattle.sn_windows_together.proofs.SinceLemmas.{numbered_is_since}
use Rattle.sn_windows_together.specs.Since.{least}

-- ---- when window 0 begins

-- the least of some times, if there is one
abbrev pub some_least : List ℕ → Option ℕ
some_least [] = None
some_least (t ∷ ts) = Some (fold min t ts)

min_push : (k : ℕ) (ts : List ℕ) (t : ℕ) → fold min k (ts ++ t ∷ []) ≡ min (fold min k ts) t
min_push k [] t = refl
min_push k (u ∷ us) t = min_push (min k u) us t

pub least_push : (ts : List ℕ) (t : ℕ) → some_least (ts ++ t ∷ []) ≡ Some (start_found (some_least ts) t)
least_push [] t = refl
least_push (u ∷ us) t = ap (λ n. Some n) (min_push u us t)

pub least_or : (ts : List ℕ) → unwrap_or (some_least ts) 0 ≡ least ts
least_or [] = refl
least_or (t ∷ ts) = refl

-- the first times of the first captures, one capture more
pub first_more : (captures : List Capture) (i : ℕ) (c : Capture) → i < length captures → flat_map first_time (take (i + 1) captures) ≡ flat_map first_time (take i captures) ++ first_time (get_or captures i c)
first_more captures i c some =
    ap (flat_map first_time) (take_more captures i c some) ∙ flat_map-append first_time (take i captures) (get_or captures i c ∷ [])
    ∙ ap (λ ts. flat_map first_time (take i captures) ++ ts) (append-nil (first_time (get_or captures i c)))

-- ---- one capture

abbrev pub is_countable : ℕ → ℕ → Capture → Bool
is_countable window start c = all_few (records_since window start c)

ok_same : {a b : Share} → ◌≡◌ {A = Result Share Fault} (Ok a) (Ok b) → a ≡ b
ok_same e = cc

ok_err : {a : Share} {f : Fault} → ◌≡◌ {A = Result Share Fault} (Ok a) (Err f) → ⊥
ok_err e = cc

err_ok : {a : Share} {f : Fault} → ◌≡◌ {A = Result Share Fault} (Err f) (Ok a) → ⊥
err_ok e = cc

err_same : {f g : Fault} → ◌≡◌ {A = Result Share Fault} (Err f) (Err g) → f ≡ g
err_same e = cc

some_same : {a b : Share} → ◌≡◌ {A = Option Share} (Some a) (Some b) → a ≡ b
some_same e = cc

some_none : {a : Share} → ◌≡◌ {A = Option Share} (Some a) None → ⊥
some_none e = cc

none_some : {a : Share} → ◌≡◌ {A = Option Share} None (Some a) → ⊥
none_some e = cc

module _ (window start : ℕ) (c : Capture) where
  few_verdict : is_countable window start c ≡ true → share_verdict window start c ≡ Ok (share_of window start c)
  few_verdict is = ap (λ b. cond b (Ok (share_of window start c)) (Err faults.TooLarge)) is

  full_verdict : is_countable window start c ≡ false → share_verdict window start c ≡ Err faults.TooLarge
  full_verdict isnt = ap (λ b. cond b (Ok (share_of window start c)) (Err faults.TooLarge)) isnt

  pub share_found : (share : Share) → Ok share ≡ share_verdict window start c → (is_countable window start c ≡ true) × (share ≡ share_of window start c)
  share_found share e =
      by_test (is_countable window start c)
      (λ is. (is, ok_same (e ∙ few_verdict is)))
      (λ isnt. absurd (ok_err (e ∙ full_verdict isnt)))

  share_refused : (fault : Fault) → Err fault ≡ share_verdict window start c → (is_countable window start c ≡ false) × (fault ≡ faults.TooLarge)
  share_refused fault e =
      by_test (is_countable window start c)
      (λ is. absurd (err_ok (e ∙ few_verdict is)))
      (λ isnt. (isnt, err_same (e ∙ full_verdict isnt)))

  -- what it saw, if no window is full
  pub found_some : (share : Share) → Some share ≡ share_if_few window start c → Ok share ≡ share_verdict window start c
  found_some share e =
      by_test (is_countable window start c)
      (λ is. ap (λ (s : Share). Ok s) (some_same (e ∙ ap (λ b. cond b (Some (share_of window start c)) None) is)) ∙ sym (few_verdict is))
      (λ isnt. absurd (some_none (e ∙ ap (λ b. cond b (Some (share_of window start c)) None) isnt)))

  pub found_none : None ≡ share_if_few window start c → Err faults.TooLarge ≡ share_verdict window start c
  found_none e =
      by_test (is_countable window start c)
      (λ is. absurd (none_some (e ∙ ap (λ b. cond b (Some (share_of window start c)) None) is)))
      (λ isnt. sym (full_verdict isnt))

  pub share_sound : IsSound (share_of window start c)
  share_sound =
      let same : numbered_from time_of (begun_at start window) c.packets ≡ records_since window start c = numbered_is_since window start time_of c.packets in
      shown_rises c.link c.file (records_since window start c) (subst (λ (ps : List (ℕ × Packet)). Rises ps) same (numbers_rise time_of (begun_at start window) c.packets))

-- ---- all captures

none_and : (b : Bool) → (b && false) ≡ false
none_and true = refl
none_and false = refl

one_fails : {X : Type 0} (t : X → Bool) (done : List X) (x : X) (rest : List X) → t x ≡ false → list_all t (done ++ x ∷ rest) ≡ false
one_fails t [] x rest e = ap (λ b. b && list_all t rest) e
one_fails t (d ∷ done) x rest e = ap (λ b. t d && b) (one_fails t done x rest e) ∙ none_and (t d)

pub all_more : {X : Type 0} (t : X → Bool) (done : List X) (x : X) → list_all t done ≡ true → t x ≡ true → list_all t (done ++ x ∷ []) ≡ true
all_more t [] x all is = ap (λ b. b && true) is
all_more t (d ∷ done) x all is = let parts = and_parts (t d) (list_all t done) all in ap (λ b. b && list_all t (done ++ x ∷ [])) parts.0 ∙ all_more t done x parts.1 is

module _ (window start : ℕ) (captures done : List Capture) (c : Capture) (rest : List Capture) (start_is : start ≡ start_of captures) (parts : captures ≡ done ++ c ∷ rest) where
  count_fails : (fault : Fault) → Err fault ≡ share_verdict window start c → Err fault ≡ counted window captures
  count_fails fault e =
      let found = share_refused window start c fault e in
      let full : none_full window captures ≡ false =
      ap (λ n. list_all (is_countable window n) captures) (sym start_is) ∙ ap (list_all (is_countable window start)) parts ∙ one_fails (is_countable window start) done c rest found.0 in
      ap (λ f. Err f) found.1 ∙ sym (ap (λ b. cond b (Ok (shares_of window captures)) (Err faults.TooLarge)) full)

  -- a capture that is refused refuses all
  pub count_stops : (refusal : Refusal) → Answers (λ (verdict : Result Share Fault). verdict ≡ share_verdict window start c) (Err refusal) → Answers (λ (verdict : Result (List Share) Fault). verdict ≡ counted window captures) (Err refusal)
  count_stops Memory h = tt
  count_stops (Refused fault) h = count_fails fault h
  count_stops Usage h = absurd h
  count_stops Missing h = absurd h
  count_stops ReadFault h = absurd h
  count_stops WriteFault h = absurd h
