-- The table of the statuses, over plain values.
use Rattle.std.proofs.Common.{◌≡◌, ◌≢◌, ℕ, ◌⊎◌, List, true, false, Option, Result, Ok, Err, inl, inr, refl, ap, sym, ◌∙◌, subst, arith}
use Rattle.std.proofs.lemmas.Bool.{false≢true}
use Rattle.sn_base.proofs.Lists.{by_test}
use Rattle.std.specs.Io.KnownBytes.{append_known}
use Rattle.sn_types_read.specs.declared.fault.QueryFault.{QueryFault}
use Rattle.sn_command.specs.declared.fault.TextFault.{TextFault}
use Rattle.sn_command.specs.declared.fault.Fault.TheVariants.{Queries, Switch}
use Rattle.sn_command.specs.declared.refusal.Refusal.{Refusal}
use Rattle.sn_command.specs.declared.refusal.Refusal.TheVariants.{Memory, Usage, Missing, ReadFault, WriteFault, Refused}
use Rattle.sn_command.specs.Refusals.{by_chance}
use Rattle.sn_command.specs.Worlds.{Sunk, World, AnyRose, OutRose}
use Rattle.sn_command.specs.Outcomes.{Outcome, Stage, Keeps}
use Rattle.sn_command.specs.Runs.{WorksFrom}
use Rattle.sn_command.specs.Ends.{end_status, end_line, Excused, Comes, IsRun, IsReported, IsStatusReported, IsCommandRun}
use Rattle.sn_command.proofs.FaultLemmas.{faults_own, three_of, four_of}

-- status 1 is that of being out of memory alone
one_is : (answer : Result (Unit {0}) Refusal) → end_status answer ≡ 1 → answer ≡ Err Memory
one_is (Ok u) e = absurd (omega arith)
one_is (Err Memory) e = refl
one_is (Err Usage) e = absurd (omega arith)
one_is (Err Missing) e = absurd (omega arith)
one_is (Err ReadFault) e = absurd (omega arith)
one_is (Err WriteFault) e = absurd (omega arith)
one_is (Err (Refused f)) e = absurd (let own = (faults_own f).above in omega arith)

-- status 2 is that of the words alone
pub two_is : (answer : Result (Unit {0}) Refusal) → end_status answer ≡ 2 → answer ≡ Err Usage
two_is (Ok u) e = absurd (omega arith)
two_is (Err Memory) e = absurd (omega arith)
two_is (Err Usage) e = refl
two_is (Err Missing) e = absurd (omega arith)
two_is (Err ReadFault) e = absurd (omega arith)
two_is (Err WriteFault) e = absurd (omega arith)
two_is (Err (Refused f)) e = absurd (let own = (faults_own f).above in omega arith)

-- status 3 is that of refused queries alone
three_is : (answer : Result (Unit {0}) Refusal) → end_status answer ≡ 3 → (fault : QueryFault) × (answer ≡ Err (Refused (Queries fault)))
three_is (Ok u) e = absurd (omega arith)
three_is (Err Memory) e = absurd (omega arith)
three_is (Err Usage) e = absurd (omega arith)
three_is (Err Missing) e = absurd (omega arith)
three_is (Err ReadFault) e = absurd (omega arith)
three_is (Err WriteFault) e = absurd (omega arith)
three_is (Err (Refused f)) e = let of = three_of f e in (of.0, ap (λ g. Err (Refused g)) of.1)

-- status 4 is that of a refused switch alone
four_is : (answer : Result (Unit {0}) Refusal) → end_status answer ≡ 4 → (fault : TextFault) × (answer ≡ Err (Refused (Switch fault)))
four_is (Ok u) e = absurd (omega arith)
four_is (Err Memory) e = absurd (omega arith)
four_is (Err Usage) e = absurd (omega arith)
four_is (Err Missing) e = absurd (omega arith)
four_is (Err ReadFault) e = absurd (omega arith)
four_is (Err WriteFault) e = absurd (omega arith)
four_is (Err (Refused f)) e = let of = four_of f e in (of.0, ap (λ g. Err (Refused g)) of.1)

-- status 9 is that of a read that failed, or of a word that isn't known
pub nine_is : (answer : Result (Unit {0}) Refusal) → end_status answer ≡ 9 → (answer ≡ Err ReadFault) ⊎ (answer ≡ Err Missing)
nine_is (Ok u) e = absurd (omega arith)
nine_is (Err Memory) e = absurd (omega arith)
nine_is (Err Usage) e = absurd (omega arith)
nine_is (Err Missing) e = inr refl
nine_is (Err ReadFault) e = inl refl
nine_is (Err WriteFault) e = absurd (omega arith)
nine_is (Err (Refused f)) e = absurd ((faults_own f).no_nine e)

-- status 10 is that of a write that failed alone
pub ten_is : (answer : Result (Unit {0}) Refusal) → end_status answer ≡ 10 → answer ≡ Err WriteFault
ten_is (Ok u) e = absurd (omega arith)
ten_is (Err Memory) e = absurd (omega arith)
ten_is (Err Usage) e = absurd (omega arith)
ten_is (Err Missing) e = absurd (omega arith)
ten_is (Err ReadFault) e = absurd (omega arith)
ten_is (Err WriteFault) e = refl
ten_is (Err (Refused f)) e = absurd ((faults_own f).no_ten e)

module _ (R W : Type 0) (answer : Result (Unit {0}) Refusal) (r : answer ≡ Err ReadFault → R) (w : answer ≡ Err WriteFault → W) where
  -- a chance is excused by its cause
  excused : by_chance answer ≡ true → Excused R W (end_status answer)
  excused e = of answer refl e
    where
      of : (a : Result (Unit {0}) Refusal) → answer ≡ a → by_chance a ≡ true → Excused R W (end_status a)
      of (Ok u) is c = absurd (false≢true c)
      of (Err Memory) is c = inl refl
      of (Err Usage) is c = absurd (false≢true c)
      of (Err Missing) is c = absurd (false≢true c)
      of (Err ReadFault) is c = inr (inl (refl, r is))
      of (Err WriteFault) is c = inr (inr (refl, w is))
      of (Err (Refused f)) is c = absurd (false≢true c)

  module _ (outcome : Outcome (Unit {0})) (before now : Option (List ℕ)) (k : Keeps outcome answer before now) where
    abbrev E : Type 0
    E = Excused R W (end_status answer)

    due : by_chance answer ≡ false → end_status answer ≡ end_status outcome.end
    due sure = ap end_status (k.ends sure)

    -- each status but 1, 9 and 10 comes exactly where it is due, unless the run is excused
    comes : (n : ℕ) → n ≢ 1 → n ≢ 9 → n ≢ 10 → Comes n (end_status outcome.end) (end_status answer) E
    comes n one nine ten = by_test (by_chance answer)
        (λ chance. record { only_where = λ is. absurd (elim (excused chance) [ inl a ↦ one (sym is ∙ a) | inr b ↦ elim b [ inl a ↦ nine (sym is ∙ a.0) | inr a ↦ ten (sym is ∙ a.0) ] ]); wherever = λ _. inr (excused chance) })
        (λ sure. record { only_where = λ is. sym (due sure) ∙ is; wherever = λ is. inl (due sure ∙ is) })

    nine : end_status answer ≡ 9 → R ⊎ (end_status outcome.end ≡ 9)
    nine is = elim (nine_is answer is) [ inl read ↦ inl (r read) | inr missing ↦ inr (sym (due (ap by_chance missing)) ∙ is) ]

    missing : end_status outcome.end ≡ 9 → (end_status answer ≡ 9) ⊎ E
    missing is = by_test (by_chance answer) (λ chance. inr (excused chance)) (λ sure. inl (due sure ∙ is))

    whole : (E → ⊥) → now ≡ append_known before outcome.text
    whole no-excuse = by_test (by_chance answer) (λ chance. absurd (no-excuse (excused chance))) k.whole

    complete : (R → ⊥) → (W → ⊥) → (end_status answer ≡ 1) ⊎ ((end_status answer ≡ end_status outcome.end) × (now ≡ append_known before outcome.text))
    complete no-read no-write = by_test (by_chance answer)
        (λ chance. elim (excused chance) [ inl one ↦ inl one | inr b ↦ elim b [ inl a ↦ absurd (no-read a.1) | inr a ↦ absurd (no-write a.1) ] ])
        (λ sure. inr (due sure, k.whole sure))

    pub is_run : IsRun outcome R W (end_status answer) before now
    is_run = record {
      done = comes 0 (λ h. omega arith) (λ h. omega arith) (λ h. omega arith);
      queries = comes 3 (λ h. omega arith) (λ h. omega arith) (λ h. omega arith);
      switch = comes 4 (λ h. omega arith) (λ h. omega arith) (λ h. omega arith);
      capture = comes 5 (λ h. omega arith) (λ h. omega arith) (λ h. omega arith);
      plan = comes 6 (λ h. omega arith) (λ h. omega arith) (λ h. omega arith);
      tree = comes 7 (λ h. omega arith) (λ h. omega arith) (λ h. omega arith);
      budget = comes 8 (λ h. omega arith) (λ h. omega arith) (λ h. omega arith);
      read_fault = nine;
      missing = missing;
      write_fault = λ is. w (ten_is answer is);
      reports = comes 11 (λ h. omega arith) (λ h. omega arith) (λ h. omega arith);
      too_large = comes 12 (λ h. omega arith) (λ h. omega arith) (λ h. omega arith);
      front = k.front;
      whole = whole;
      complete = complete;
    }

-- a chance's line is that of its status
chance_line : (answer due : Result (Unit {0}) Refusal) → by_chance answer ≡ true → end_status due ≡ end_status answer → end_line answer ≡ end_line due
chance_line (Ok u) due chance e = absurd (false≢true chance)
chance_line (Err Memory) due chance e = ap end_line (sym (one_is due e))
chance_line (Err Usage) due chance e = absurd (false≢true chance)
chance_line (Err Missing) due chance e = absurd (false≢true chance)
chance_line (Err ReadFault) due chance e = elim (nine_is due e) [ inl is ↦ ap end_line (sym is) | inr is ↦ ap end_line (sym is) ]
chance_line (Err WriteFault) due chance e = ap end_line (sym (ten_is due e))
chance_line (Err (Refused f)) due chance e = absurd (false≢true chance)

-- where the status is the one that is due, the line is too
line_due : (outcome : Outcome (Unit {0})) (answer : Result (Unit {0}) Refusal) (before now : Option (List ℕ)) → Keeps outcome answer before now → end_status answer ≡ end_status outcome.end → end_line answer ≡ end_line outcome.end
line_due outcome answer before now k e = by_test (by_chance answer) (λ chance. chance_line answer outcome.end chance (sym e)) (λ sure. ap end_line (k.ends sure))

-- what is printed of an answer
pub status_reported : (answer : Result (Unit {0}) Refusal) (before now : Sunk) → IsReported (end_line answer) before now → IsStatusReported (end_status answer) before now
status_reported answer before now reported = (answer, refl, reported)

-- the call of a command, from the run of its work and the line on its answer
pub command_run : (names : List (List ℕ)) (work : Stage (Unit {0})) (answer : Result (Unit {0}) Refusal) (before now : World) (err_before err_now : Sunk) → WorksFrom 2 names work before answer now → IsReported (end_line answer) err_before err_now
    → IsCommandRun names work (record { files = before.files; out = before.out; err = err_before }) (end_status answer) (record { files = now.files; out = now.out; err = err_now })
command_run names work answer before now err_before err_now w reported = record {
  run = λ files same outcome is. is_run (AnyRose names before.files now.files) (OutRose before.out now.out) answer w.runs.read_fault w.runs.write_fault outcome before.out.written now.out.written (w.runs.keeps files same outcome is);
  due_line = λ files same outcome is due. subst (λ (line : List ℕ). IsReported line err_before err_now) (line_due outcome answer before.out.written now.out.written (w.runs.keeps files same outcome is) due) reported;
  read_fault = λ is. elim (nine_is answer is) [ inl read ↦ inl (w.runs.read_fault read) | inr none ↦ inr (w.runs.missing none) ];
  unknown = λ none. ap end_status (w.unknown none);
  reported = w.runs.follows.reported;
  known = w.runs.follows.known;
  faults = w.runs.follows.faults;
  others = w.runs.others;
  queries_first = λ is. let queries = three_is answer is in (w.runs.queries queries.0 queries.1).1;
  switch_second = λ is. let switch = four_is answer is in (w.runs.switch switch.0 switch.1).1;
}
