-- Files that are read whole, over plain values.
use Rattle.std.proofs.Common.{◌≡◌, ◌≢◌, ℕ, ◌<◌, ◌≤◌, List, [], ◌∷◌, true, false, cond, Option, Some, None, unwrap_or, Result, Ok, Err, length, is_some, IfSome, IsErrOf, inl, refl, ap, sym, ◌∙◌, subst, arith}
use Rattle.std.specs.Prelude.{nat_lt, nat_eq}
use Rattle.std.specs.FinMap.{get}
use Rattle.std.specs.Cmp.Lexicographic.{pointwise, bytes_decides}
use Rattle.std.proofs.lemmas.Bool.{lt-ltb, le-ltb, false≢true, true≢false}
use Rattle.sn_base.proofs.Lists.{by_test}
use Rattle.sn_io.specs.Counts.{ByName, OnlyRises, RoseAt, count_of}
use Rattle.sn_io.specs.Inputs.{stated_file}
use Rattle.sn_io.specs.declared.inputs.ReadError.{ReadError}
use Rattle.sn_io.specs.declared.inputs.ReadError.TheVariants as errors
use Rattle.sn_command.specs.declared.fault.Fault.{Fault}
use Rattle.sn_command.specs.declared.fault.Fault.TheVariants.{Queries, Switch, TooLarge}
use Rattle.sn_command.specs.declared.refusal.Refusal.{Refusal}
use Rattle.sn_command.specs.declared.refusal.Refusal.TheVariants.{Memory, Usage, Missing, Refused}
use Rattle.sn_command.specs.Refusals.{by_chance, read_refusal}
use Rattle.sn_command.specs.Outcomes.{Outcome, silent, Keeps}
use Rattle.sn_command.specs.Runs.{Works}
use Rattle.sn_command.proofs.OutcomeLemmas.{chance_keeps, silent_keeps}
use Rattle.sn_command.proofs.StageLemmas.{runs_read_fault}
use Rattle.sn_command.specs.Stages.{within_limit, Bytes}
use Rattle.sn_command.specs.Worlds.{Follows, Sunk, World, Spares}

-- after a read of one file all names are known that were, and no count fell
module _ (name : List ℕ) (old new : ByName ℕ) (rises : OnlyRises name old new) where
  pub none_other : Spares (name ∷ []) (record { reported = None; faults = old }) (record { reported = None; faults = new })
  none_other other none = rises.others other none.0

  pub known_still : (other : List ℕ) → is_some (get new other) ≡ is_some (get old other)
  known_still other =
      by_test (pointwise nat_eq other name)
      (λ is. let e = (bytes_decides other name).0 is in rw e rises.known)
      (λ isnt. ap is_some (rises.others other (λ e. false≢true (sym isnt ∙ (bytes_decides other name).1 e))))

  pub none_fell : (other : List ℕ) → count_of old other ≤ count_of new other
  none_fell other =
      by_test (pointwise nat_eq other name)
      (λ is. let e = (bytes_decides other name).0 is in rw e rises.later)
      (λ isnt. let e : count_of new other ≡ count_of old other = ap (λ o. unwrap_or o 0) (rises.others other (λ e. false≢true (sym isnt ∙ (bytes_decides other name).1 e))) in omega arith)

-- a known name's file, where contents are known
pub known_file : (held : ByName (List ℕ)) (reported : Option (ByName (List ℕ))) (name : List ℕ) (P : List ℕ → Type 0) → reported ≡ Some held → is_some (get held name) ≡ true → IfSome (stated_file reported name) P → (file : List ℕ) × (get held name ≡ Some file) × P file
known_file held reported name P same known h = of (get held name) refl known (subst (λ (t : Option (ByName (List ℕ))). IfSome (stated_file t name) P) same h)
  where
    of : (o : Option (List ℕ)) → get held name ≡ o → is_some o ≡ true → IfSome o P → (file : List ℕ) × (get held name ≡ Some file) × P file
    of None e k p = absurd (false≢true k)
    of (Some file) e k p = (file, e, p)

pub file_ok : (most : ℕ) (held : ByName (List ℕ)) (name bytes file : List ℕ) → get held name ≡ Some file → bytes ≡ file → length bytes ≤ most → Ok bytes ≡ within_limit most (get held name)
file_ok most held name bytes file e same within =
    let few : nat_lt most (length file) ≡ false = le-ltb most (length file) (let l : length bytes ≡ length file = ap length same in omega arith) in
    ap Ok same ∙ sym (ap (within_limit most) e ∙ ap (λ b. cond b (Err (Refused TooLarge)) (Ok file)) few)

pub file_large : (most : ℕ) (held : ByName (List ℕ)) (name file : List ℕ) → get held name ≡ Some file → most < length file → Err (Refused TooLarge) ≡ within_limit most (get held name)
file_large most held name file e large =
    let many : nat_lt most (length file) ≡ true = lt-ltb most (length file) large in
    sym (ap (within_limit most) e ∙ ap (λ b. cond b (Err (Refused TooLarge)) (Ok file)) many)

pub some_if : {X : Type 0} (o : Option X) → (o ≡ None → ⊥) → is_some o ≡ true
some_if None h = absurd (h refl)
some_if (Some x) h = refl

pub file_missing : (most : ℕ) (held : ByName (List ℕ)) (name : List ℕ) → get held name ≡ None → Err Missing ≡ within_limit most (get held name)
file_missing most held name e = sym (ap (within_limit most) e)

-- a file was read, or is too large, and nothing was written
module _ (most : ℕ) (name : List ℕ) (answer : Result (List ℕ) Refusal) (before now : World) (known_name : get before.files.faults name ≡ None → ⊥) (no_chance : by_chance answer ≡ false) (no_usage : answer ≡ Err Usage → ⊥) (no_missing : answer ≡ Err Missing → ⊥) (no_refusal : (fault : Fault) → fault ≢ TooLarge → answer ≡ Err (Refused fault) → ⊥)
    (reported : now.files.reported ≡ before.files.reported) (known : (other : List ℕ) → is_some (get now.files.faults other) ≡ is_some (get before.files.faults other)) (fell : (other : List ℕ) → count_of before.files.faults other ≤ count_of now.files.faults other)
    (spares : Spares (name ∷ []) before.files now.files) (out : now.out ≡ before.out) (places : now.places ≡ before.places) (due : (files : ByName (List ℕ)) → before.files.reported ≡ Some files → answer ≡ within_limit most (get files name)) where
  pub works_bytes : Works (name ∷ []) (Bytes most name) before answer now
  works_bytes = record {
    runs = record {
      keeps = λ files same outcome is.
          let e = ap (λ (s : Sunk). s.written) out in
          let d = due files same in
          subst (λ (o : Outcome (List ℕ)). Keeps o answer before.out.written now.out.written) (ap silent d ∙ sym is)
          (subst (λ (w : Option (List ℕ)). Keeps (silent answer) answer before.out.written w) (sym e) (silent_keeps answer before.out.written));
      missing = λ e. absurd (no_missing e);
      read_fault = λ e. absurd (true≢false (sym (ap by_chance e) ∙ no_chance));
      write_fault = λ e. absurd (true≢false (sym (ap by_chance e) ∙ no_chance));
      words = no_usage;
      others = spares;
      queries = λ fault e. absurd (no_refusal (Queries fault) (λ is. cc) e);
      switch = λ fault e. absurd (no_refusal (Switch fault) (λ is. cc) e);
      follows = record { reported = reported; known = known; faults = fell; write_faults = let e = ap (λ (s : Sunk). s.faults) out in omega arith; empty_takes = let e = ap (λ (s : Sunk). s.empty_takes) out in omega arith; places = places };
    };
    unknown = λ e. absurd (known_name e);
  }

none_if : {X : Type 0} (o : Option X) → is_some o ≡ false → o ≡ None
none_if None e = refl
none_if (Some x) e = absurd (true≢false e)

-- a read gave nothing, and nothing was written
module _ (most : ℕ) (name : List ℕ) (before now : World) (reported : now.files.reported ≡ before.files.reported) (rises : OnlyRises name before.files.faults now.files.faults) (out : now.out ≡ before.out) (places : now.places ≡ before.places) where
  fewer : Follows before now
  fewer = record {
    reported = reported;
    known = known_still name before.files.faults now.files.faults rises;
    faults = none_fell name before.files.faults now.files.faults rises;
    write_faults = let e = ap (λ (s : Sunk). s.faults) out in omega arith;
    empty_takes = let e = ap (λ (s : Sunk). s.empty_takes) out in omega arith;
    places = places;
  }

  spared : Spares (name ∷ []) before.files now.files
  spared = none_other name before.files.faults now.files.faults rises

  still : (refusal : Refusal) (outcome : Outcome (List ℕ)) → Keeps outcome (Err refusal) before.out.written before.out.written → Keeps outcome (Err refusal) before.out.written now.out.written
  still refusal outcome kept = subst (λ (s : Sunk). Keeps outcome (Err refusal) before.out.written s.written) (sym out) kept

  missing_keeps : (files : ByName (List ℕ)) (outcome : Outcome (List ℕ)) → get files name ≡ None → Bytes most name files outcome → Keeps outcome (Err Missing) before.out.written before.out.written
  missing_keeps files outcome none is =
      let answer : Result (List ℕ) Refusal = Err Missing in
      subst (λ (o : Outcome (List ℕ)). Keeps o answer before.out.written before.out.written) (ap silent (file_missing most files name none) ∙ sym is) (silent_keeps answer before.out.written)

  large_is : (files : ByName (List ℕ)) → before.files.reported ≡ Some files → is_some (get files name) ≡ true → IfSome (stated_file before.files.reported name) (λ (file : List ℕ). most < length file) → Err (Refused TooLarge) ≡ within_limit most (get files name)
  large_is files same known large =
      let found = known_file files before.files.reported name (λ (file : List ℕ). most < length file) same known large in
      file_large most files name found.0 found.1 found.2

  pub works_unread : (error : ReadError) → (IsErrOf {T = List ℕ} (Err error) errors.Missing → get before.files.faults name ≡ None) → (get before.files.faults name ≡ None → IsErrOf {T = List ℕ} (Err error) errors.Missing)
      → (IsErrOf {T = List ℕ} (Err error) errors.ReadFault → RoseAt name before.files.faults now.files.faults) → (IsErrOf {T = List ℕ} (Err error) errors.TooLarge → IfSome (stated_file before.files.reported name) (λ (file : List ℕ). most < length file))
      → ((files : ByName (List ℕ)) → before.files.reported ≡ Some files → is_some (get files name) ≡ is_some (get before.files.faults name)) → Works (name ∷ []) (Bytes most name) before (Err (read_refusal error)) now
  works_unread errors.Missing missing unknown fault large law = record {
    runs = record {
      keeps = λ files same outcome is. still Missing outcome (missing_keeps files outcome (none_if (get files name) (law files same ∙ ap is_some (missing refl))) is);
      missing = λ e. inl (missing refl);
      read_fault = λ e. absurd cc;
      write_fault = λ e. absurd cc;
      words = λ e. absurd cc;
      others = spared;
      queries = λ fault e. absurd cc;
      switch = λ fault e. absurd cc;
      follows = fewer;
    };
    unknown = λ e. refl;
  }
  works_unread errors.ReadFault missing unknown fault large law = record {
    runs = runs_read_fault fewer spared out (inl (fault refl));
    unknown = λ e. absurd (let no = unknown e in cc);
  }
  works_unread errors.TooLarge missing unknown fault large law =
      let known : get before.files.faults name ≡ None → ⊥ = λ e. let no = unknown e in absurd cc in
      works_bytes most name (Err (Refused TooLarge)) before now known refl (λ e. absurd cc) (λ e. absurd cc) (λ found other e. other (let same : found ≡ TooLarge = cc in same)) reported fewer.known fewer.faults spared out places
      (λ files same. large_is files same (law files same ∙ some_if (get before.files.faults name) known) (large refl))
  works_unread errors.Memory missing unknown fault large law = record {
    runs = record {
      keeps = λ files same outcome is. still Memory outcome (chance_keeps outcome Memory before.out.written refl);
      missing = λ e. absurd cc;
      read_fault = λ e. absurd cc;
      write_fault = λ e. absurd cc;
      words = λ e. absurd cc;
      others = spared;
      queries = λ fault e. absurd cc;
      switch = λ fault e. absurd cc;
      follows = fewer;
    };
    unknown = λ e. absurd (let no = unknown e in cc);
  }
