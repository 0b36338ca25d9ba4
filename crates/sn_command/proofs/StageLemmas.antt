-- One stage after another.
use Rattle.std.proofs.Common.{◌≡◌, ℕ, ◌≤◌, List, [], ◌∷◌, ◌++◌, false, Option, Result, Ok, Err, take, refl, ap, sym, ◌∙◌, subst, arith}
use Rattle.std.specs.Io.KnownBytes.{append_known}
use Rattle.sn_io.specs.Counts.{ByName}
use Rattle.sn_types_read.specs.declared.fault.QueryFault.{QueryFault}
use Rattle.sn_command.specs.declared.fault.TextFault.{TextFault}
use Rattle.sn_command.specs.declared.fault.Fault.{Fault}
use Rattle.sn_command.specs.declared.fault.Fault.TheVariants.{Queries, Switch}
use Rattle.sn_command.specs.declared.refusal.Refusal.{Refusal}
use Rattle.sn_command.specs.declared.refusal.Refusal.TheVariants.{Memory, Usage, Missing, ReadFault, WriteFault, Refused}
use Rattle.sn_command.specs.Refusals.{is_chance, refusing}
use Rattle.sn_command.specs.Worlds.{Sunk, World, AnyRose, Spares, Follows}
use Rattle.sn_command.specs.Outcomes.{Outcome, silent, Stage, WentOutFront, Keeps}
use Rattle.sn_command.specs.Stages.{Does, Adds, Gives, Judges, named, ReadAs, Bytes, most_text, GoesOn, Then, Text}
use Rattle.sn_command.specs.Runs.{RunsFrom, Runs, WorksFrom, Works, Answers}
use Rattle.sn_command.proofs.OutcomeLemmas.{front_longer, after_text, silent_keeps, chance_keeps}
use Rattle.sn_command.proofs.WorldLemmas.{follows_self, follows_then, any_earlier, any_left, any_right, unknown_left, unknown_right, unknown_earlier, out_earlier, spares_self, spares_left, spares_front, spares_one, spares_same, spares_then}

err_ok : {A : Type 0} {r : Refusal} {a : A} {G : Type 0} → ◌≡◌ {A = Result A Refusal} (Err r) (Ok a) → G
err_ok e = absurd cc

pub err_err : {A B : Type 0} {r s : Refusal} → ◌≡◌ {A = Result A Refusal} (Err r) (Err s) → ◌≡◌ {A = Result B Refusal} (Err r) (Err s)
err_err e = cc

module _ {A B : Type 0} (first : Stage A) (second : A → Stage B) (files : ByName (List ℕ)) (before now : Option (List ℕ)) where
  -- where the first stage refuses, the work ends
  stops : (refusal : Refusal) (text : List ℕ) (end : Result A Refusal) (whole : Outcome B) → WentOutFront text before now → (is_chance refusal ≡ false → Err refusal ≡ end) → (is_chance refusal ≡ false → now ≡ append_known before text)
      → GoesOn second files text end whole → Keeps whole (Err refusal) before now
  stops refusal text (Err due) whole front ends all is =
      subst (λ (o : Outcome B). Keeps o (Err refusal) before now) (sym is) (record { front = front; ends = λ e. err_err (ends e); whole = all })
  stops refusal text (Ok value) whole front ends all (rest, _, is) =
      subst (λ (o : Outcome B). Keeps o (Err refusal) before now) (sym is) (record {
        front = front_longer text rest.text before now front;
        ends = λ e. err_ok (ends e);
        whole = λ e. err_ok (ends e);
      })

module _ {A B : Type 0} {first : Stage A} {second : A → Stage B} {unread : ℕ} {names : List (List ℕ)} (more : List (List ℕ)) {before now : World} where
  -- the first stage refused
  pub runs_stops : {refusal : Refusal} → RunsFrom unread names first before (Err refusal) now → RunsFrom unread (names ++ more) (Then first second) before (Err refusal) now
  runs_stops {refusal} r = record {
    keeps = λ files reported outcome is.
        let k = r.keeps files reported is.begun is.begins in
        stops first second files before.out.written now.out.written refusal is.begun.text is.begun.end outcome k.front k.ends k.whole is.goes_on;
    missing = λ e. unknown_left names more before.files (r.missing (err_err e));
    read_fault = λ e. any_left names more before.files now.files (r.read_fault (err_err e));
    write_fault = λ e. r.write_fault (err_err e);
    words = λ e. r.words (err_err e);
    others = spares_left names more before.files now.files r.others;
    queries = λ fault e. let q = r.queries fault (err_err e) in (q.0, spares_front 1 names more before.files now.files q.1);
    switch = λ fault e. let q = r.switch fault (err_err e) in (q.0, spares_front unread names more before.files now.files q.1);
    follows = r.follows;
  }

  -- the first stage gave a value, and the second went on from it
  goes_on : {following : ℕ} {value : A} {answer : Result B Refusal} {later : World} → RunsFrom unread names first before (Ok value) now → RunsFrom following more (second value) now answer later
      → ((fault : QueryFault) → answer ≡ Err (Refused (Queries fault)) → (unread ≡ 2) × Spares (take 1 (names ++ more)) before.files later.files)
      → ((fault : TextFault) → answer ≡ Err (Refused (Switch fault)) → (1 ≤ unread) × Spares (take unread (names ++ more)) before.files later.files)
      → RunsFrom unread (names ++ more) (Then first second) before answer later
  goes_on {value = value} {answer} {later} r s queries switch = record {
    keeps = λ files reported outcome is.
        let k = r.keeps files reported is.begun is.begins in
        let goes : GoesOn second files is.begun.text (Ok value) outcome = subst (λ (end : Result A Refusal). GoesOn second files is.begun.text end outcome) (sym (k.ends refl)) is.goes_on in
        subst (λ (o : Outcome B). Keeps o answer before.out.written later.out.written) (sym goes.2)
        (after_text is.begun.text goes.0 answer before.out.written now.out.written later.out.written (k.whole refl) (s.keeps files (r.follows.reported ∙ reported) goes.0 goes.1));
    missing = λ e. unknown_right names more before.files (unknown_earlier more before now r.follows (s.missing e));
    read_fault = λ e. any_right names more before.files later.files (any_earlier more before now later r.follows (s.read_fault e));
    write_fault = λ e. out_earlier before now later r.follows (s.write_fault e);
    words = s.words;
    others = spares_then names more before.files now.files later.files r.others s.others;
    queries = queries;
    switch = switch;
    follows = follows_then before now later r.follows s.follows;
  }

  -- the same, where the second is after the queries and the switch
  pub runs_then : {value : A} {answer : Result B Refusal} {later : World} → RunsFrom unread names first before (Ok value) now → Runs more (second value) now answer later → RunsFrom unread (names ++ more) (Then first second) before answer later
  runs_then r s = goes_on r s (λ fault e. absurd (let no : 0 ≡ 2 = (s.queries fault e).0 in omega arith)) (λ fault e. absurd (let no : 1 ≤ 0 = (s.switch fault e).0 in omega arith))

-- the same, where the first stage reads one file, or none: so the names are known from what is to be shown
module _ {A B : Type 0} {first : Stage A} {second : A → Stage B} {unread : ℕ} {more : List (List ℕ)} {before now : World} where
  pub file_stops : {name : List ℕ} {refusal : Refusal} → RunsFrom unread (name ∷ []) first before (Err refusal) now → RunsFrom unread (name ∷ more) (Then first second) before (Err refusal) now
  file_stops r = runs_stops more r

  pub file_then : {name : List ℕ} {value : A} {answer : Result B Refusal} {later : World} → RunsFrom unread (name ∷ []) first before (Ok value) now → Runs more (second value) now answer later → RunsFrom unread (name ∷ more) (Then first second) before answer later
  file_then r s = runs_then more r s

  pub stage_stops : {refusal : Refusal} → RunsFrom unread [] first before (Err refusal) now → RunsFrom unread more (Then first second) before (Err refusal) now
  stage_stops r = runs_stops more r

  pub stage_then : {value : A} {answer : Result B Refusal} {later : World} → RunsFrom unread [] first before (Ok value) now → Runs more (second value) now answer later → RunsFrom unread more (Then first second) before answer later
  stage_then r s = runs_then more r s

-- the same of work that begins with a file
module _ {A B : Type 0} {first : Stage A} {second : A → Stage B} {unread : ℕ} {more : List (List ℕ)} {before now : World} {name : List ℕ} where
  pub works_stops : {refusal : Refusal} → WorksFrom unread (name ∷ []) first before (Err refusal) now → WorksFrom unread (name ∷ more) (Then first second) before (Err refusal) now
  works_stops w = record { runs = file_stops w.runs; unknown = λ e. err_err (w.unknown e) }

  pub works_then : {value : A} {answer : Result B Refusal} {later : World} → WorksFrom unread (name ∷ []) first before (Ok value) now → Runs more (second value) now answer later → WorksFrom unread (name ∷ more) (Then first second) before answer later
  works_then w r = record { runs = file_then w.runs r; unknown = λ e. absurd (let no = w.unknown e in cc) }

-- the same, where the queries are read first, and then the switch
module _ {A B : Type 0} {first : Stage A} {second : A → Stage B} {more : List (List ℕ)} {before now later : World} {name : List ℕ} {value : A} {answer : Result B Refusal} where
  pub texts_then : WorksFrom 2 (name ∷ []) first before (Ok value) now → RunsFrom 1 more (second value) now answer later → WorksFrom 2 (name ∷ more) (Then first second) before answer later
  texts_then w s = record {
    runs = goes_on more w.runs s (λ fault e. absurd (let no : 1 ≡ 2 = (s.queries fault e).0 in omega arith))
        (λ fault e. (omega arith, spares_then (name ∷ []) (take 1 more) before.files now.files later.files w.runs.others (s.switch fault e).1));
    unknown = λ e. absurd (let no = w.unknown e in cc);
  }

-- a run after the queries and the switch is one from before them
pub runs_any : {A : Type 0} {unread : ℕ} {names : List (List ℕ)} {stage : Stage A} {before now : World} {answer : Result A Refusal} → Runs names stage before answer now → RunsFrom unread names stage before answer now
runs_any r = record {
  keeps = r.keeps;
  missing = r.missing;
  read_fault = r.read_fault;
  write_fault = r.write_fault;
  words = r.words;
  others = r.others;
  queries = λ fault e. absurd (let no : 0 ≡ 2 = (r.queries fault e).0 in omega arith);
  switch = λ fault e. absurd (let no : 1 ≤ 0 = (r.switch fault e).0 in omega arith);
  follows = r.follows;
}

pub works_any : {A : Type 0} {unread : ℕ} {names : List (List ℕ)} {stage : Stage A} {before now : World} {answer : Result A Refusal} → Works names stage before answer now → WorksFrom unread names stage before answer now
works_any w = record { runs = runs_any w.runs; unknown = w.unknown }

-- work that reads no file
pub works_alone : {A : Type 0} {unread : ℕ} {stage : Stage A} {before now : World} {answer : Result A Refusal} → RunsFrom unread [] stage before answer now → WorksFrom unread [] stage before answer now
works_alone r = record { runs = r; unknown = λ none. absurd none }

-- nothing is read or written, and the answer is a chance
pub runs_chance : {A : Type 0} (stage : Stage A) (w : World) → Runs [] stage w (Err Memory) w
runs_chance stage w = record {
  keeps = λ files reported outcome is. chance_keeps outcome Memory w.out.written refl;
  missing = λ e. absurd cc;
  read_fault = λ e. absurd cc;
  write_fault = λ e. absurd cc;
  words = λ e. absurd cc;
  others = spares_self [] w.files;
  queries = λ fault e. absurd cc;
  switch = λ fault e. absurd cc;
  follows = follows_self w;
}

-- A verdict that may come while this many of the two files were not read before: the queries are refused while neither was, and the
-- switch while it wasn't.
abbrev pub MayCome : {A : Type 0} → ℕ → Result A Fault → Type 0
MayCome unread (Ok value) = Unit {0}
MayCome unread (Err (Queries fault)) = unread ≡ 2
MayCome unread (Err (Switch fault)) = 1 ≤ unread
MayCome unread (Err fault) = Unit {0}

module _ {A : Type 0} (unread : ℕ) (fault : Fault) (may : MayCome {A = A} unread (Err fault)) where
  may_queries : (found : QueryFault) → ◌≡◌ {A = Result A Refusal} (Err (Refused fault)) (Err (Refused (Queries found))) → unread ≡ 2
  may_queries found e = let same : fault ≡ Queries found = cc in subst (λ (f : Fault). MayCome {A = A} unread (Err f)) same may

  may_switch : (found : TextFault) → ◌≡◌ {A = Result A Refusal} (Err (Refused fault)) (Err (Refused (Switch found))) → 1 ≤ unread
  may_switch found e = let same : fault ≡ Switch found = cc in subst (λ (f : Fault). MayCome {A = A} unread (Err f)) same may

-- a reading whose faults may come
pub named_may : {A F : Type 0} (unread : ℕ) {name : F → Fault} {reading : Result A F → Type 0} → ((fault : F) → MayCome {A = A} unread (Err (name fault))) → (verdict : Result A Fault) → ReadAs name reading verdict → MayCome unread verdict
named_may {A} {F} unread {name} may verdict r = subst (λ (v : Result A Fault). MayCome unread v) (sym r.same) (of r.found)
  where
    of : (found : Result A F) → MayCome unread (named name found)
    of (Ok value) = tt
    of (Err fault) = may fault

module _ {A : Type 0} (judgement : Result A Fault → Type 0) (once : (first second : Result A Fault) → judgement first → judgement second → first ≡ second) (w : World) where
  judged : (verdict : Result A Fault) → judgement verdict → (files : ByName (List ℕ)) (outcome : Outcome A) → Judges judgement files outcome → Keeps outcome (refusing verdict) w.out.written w.out.written
  judged verdict here files outcome is =
      subst (λ (o : Outcome A). Keeps o (refusing verdict) w.out.written w.out.written) (ap (λ v. silent (refusing v)) (once verdict is.verdict here is.is) ∙ sym is.same) (silent_keeps (refusing verdict) w.out.written)

  -- a judgement is a stage
  pub runs_judges : {unread : ℕ} → ((verdict : Result A Fault) → judgement verdict → MayCome unread verdict) → (answer : Result A Refusal) → Answers judgement answer → RunsFrom unread [] (Judges judgement) w answer w
  runs_judges may (Ok value) here = record {
    keeps = λ files reported outcome is. judged (Ok value) here files outcome is;
    missing = λ e. absurd cc;
    read_fault = λ e. absurd cc;
    write_fault = λ e. absurd cc;
    words = λ e. absurd cc;
    others = spares_self [] w.files;
    queries = λ fault e. absurd cc;
    switch = λ fault e. absurd cc;
    follows = follows_self w;
  }
  runs_judges may (Err Memory) here = runs_any (runs_chance (Judges judgement) w)
  runs_judges {unread} may (Err (Refused fault)) here = record {
    keeps = λ files reported outcome is. judged (Err fault) here files outcome is;
    missing = λ e. absurd cc;
    read_fault = λ e. absurd cc;
    write_fault = λ e. absurd cc;
    words = λ e. absurd cc;
    others = spares_self [] w.files;
    queries = λ found e. (may_queries unread fault (may (Err fault) here) found e, spares_self (take 1 []) w.files);
    switch = λ found e. (may_switch unread fault (may (Err fault) here) found e, spares_self (take unread []) w.files);
    follows = follows_self w;
  }
  runs_judges may (Err Usage) here = absurd here
  runs_judges may (Err Missing) here = absurd here
  runs_judges may (Err ReadFault) here = absurd here
  runs_judges may (Err WriteFault) here = absurd here

-- a verdict is given
pub runs_gives : {A : Type 0} (verdict : Result A Fault) (w : World) → MayCome 0 verdict → Runs [] (Gives verdict) w (refusing verdict) w
runs_gives (Ok value) w may = record {
  keeps = λ files reported outcome is. subst (λ (o : Outcome _). Keeps o (Ok value) w.out.written w.out.written) (sym is) (silent_keeps (Ok value) w.out.written);
  missing = λ e. absurd cc;
  read_fault = λ e. absurd cc;
  write_fault = λ e. absurd cc;
  words = λ e. absurd cc;
  others = spares_self [] w.files;
  queries = λ fault e. absurd cc;
  switch = λ fault e. absurd cc;
  follows = follows_self w;
}
runs_gives (Err fault) w may = record {
  keeps = λ files reported outcome is. subst (λ (o : Outcome _). Keeps o (Err (Refused fault)) w.out.written w.out.written) (sym is) (silent_keeps (Err (Refused fault)) w.out.written);
  missing = λ e. absurd cc;
  read_fault = λ e. absurd cc;
  write_fault = λ e. absurd cc;
  words = λ e. absurd cc;
  others = spares_self [] w.files;
  queries = λ found e. (may_queries 0 fault may found e, spares_self (take 1 []) w.files);
  switch = λ found e. (may_switch 0 fault may found e, spares_self (take 0 []) w.files);
  follows = follows_self w;
}

-- a run of a stage is one of another that allows no more
pub runs_as : {A : Type 0} {unread : ℕ} {names : List (List ℕ)} {from to : Stage A} {before now : World} {answer : Result A Refusal} → ((files : ByName (List ℕ)) (outcome : Outcome A) → to files outcome → from files outcome) → RunsFrom unread names from before answer now → RunsFrom unread names to before answer now
runs_as within r = record {
  keeps = λ files reported outcome is. r.keeps files reported outcome (within files outcome is);
  missing = r.missing;
  read_fault = r.read_fault;
  write_fault = r.write_fault;
  words = r.words;
  others = r.others;
  queries = r.queries;
  switch = r.switch;
  follows = r.follows;
}

-- a text and then what it leads to
module _ {A : Type 0} (text : List ℕ) (rest : Outcome A) where
  following : (files : ByName (List ℕ)) (outcome : Outcome A) → Does (record { text = text ++ rest.text; end = rest.end }) files outcome → Then (Adds text) (λ u. Does rest) files outcome
  following files outcome is = record { begun = record { text = text; end = Ok tt }; begins = refl; goes_on = (rest, refl, is) }

  pub text_stops : {before now : World} {refusal : Refusal} → Runs [] (Adds text) before (Err refusal) now → Runs [] (Does (record { text = text ++ rest.text; end = rest.end })) before (Err refusal) now
  text_stops r = runs_as following (stage_stops r)

  pub text_then : {before now later : World} {answer : Result A Refusal} → Runs [] (Adds text) before (Ok tt) now → Runs [] (Does rest) now answer later → Runs [] (Does (record { text = text ++ rest.text; end = rest.end })) before answer later
  text_then r s = runs_as following (stage_then r s)

-- a text that is read and judged
module _ {A : Type 0} {judgement : List ℕ → Result A Fault → Type 0} {name : List ℕ} {before now : World} where
  pub text_refused : {unread : ℕ} {refusal : Refusal} → Works (name ∷ []) (Bytes most_text name) before (Err refusal) now → WorksFrom unread (name ∷ []) (Text name judgement) before (Err refusal) now
  text_refused w = works_any (works_stops w)

  pub text_judged : {unread : ℕ} {bytes : List ℕ} {answer : Result A Refusal} → Works (name ∷ []) (Bytes most_text name) before (Ok bytes) now → ((first second : Result A Fault) → judgement bytes first → judgement bytes second → first ≡ second)
      → ((verdict : Result A Fault) → judgement bytes verdict → MayCome unread verdict) → Answers (judgement bytes) answer → WorksFrom unread (name ∷ []) (Text name judgement) before answer now
  text_judged {unread} {bytes} {answer} w once may a =
      let r : RunsFrom unread (name ∷ []) (Bytes most_text name) before (Ok bytes) now = runs_any w.runs in
      let s : RunsFrom unread [] (Judges (judgement bytes)) now answer now = runs_judges (judgement bytes) once now may answer a in
      record {
        runs = goes_on [] r s (λ fault e. ((s.queries fault e).0, spares_one 1 name before.files now.files (omega arith) r.others))
            (λ fault e. let q = s.switch fault e in (q.0, spares_one unread name before.files now.files q.0 r.others));
        unknown = λ e. absurd (let no = w.unknown e in cc);
      }

-- an answer that is given
pub gives_as : {A : Type 0} (verdict : Result A Fault) {answer : Result A Refusal} {w : World} → MayCome 0 verdict → answer ≡ refusing verdict → Runs [] (Gives verdict) w answer w
gives_as verdict {w = w} may e = rw e (runs_gives verdict w may)

-- ---- a file that is read while text goes out

-- A step that wrote nothing may stand before any run: the files are the same, no count fell, and no other name's count changed.
pub runs_earlier : {A : Type 0} {names : List (List ℕ)} {stage : Stage A} {before now later : World} {answer : Result A Refusal} → Follows before now → Spares names before.files now.files → now.out ≡ before.out → Runs names stage now answer later → Runs names stage before answer later
runs_earlier {names = names} {before = before} {now} {later} {answer} f spares same r = record {
  keeps = λ files reported outcome is. subst (λ (out : Sunk). Keeps outcome answer out.written later.out.written) same (r.keeps files (f.reported ∙ reported) outcome is);
  missing = λ e. unknown_earlier names before now f (r.missing e);
  read_fault = λ e. any_earlier names before now later f (r.read_fault e);
  write_fault = λ e. out_earlier before now later f (r.write_fault e);
  words = r.words;
  others = spares_same names before.files now.files later.files spares r.others;
  queries = λ fault e. absurd (let no : 0 ≡ 2 = (r.queries fault e).0 in omega arith);
  switch = λ fault e. absurd (let no : 1 ≤ 0 = (r.switch fault e).0 in omega arith);
  follows = follows_then before now later f r.follows;
}

-- a read failed, and nothing was written
pub runs_read_fault : {A : Type 0} {names : List (List ℕ)} {stage : Stage A} {before now : World} → Follows before now → Spares names before.files now.files → now.out ≡ before.out → AnyRose names before.files now.files → Runs names stage before (Err ReadFault) now
runs_read_fault {before = before} {now} f spares same rose = record {
  keeps = λ files reported outcome is. subst (λ (out : Sunk). Keeps outcome (Err ReadFault) before.out.written out.written) (sym same) (chance_keeps outcome ReadFault before.out.written refl);
  missing = λ e. absurd cc;
  read_fault = λ e. rose;
  write_fault = λ e. absurd cc;
  words = λ e. absurd cc;
  others = spares;
  queries = λ fault e. absurd cc;
  switch = λ fault e. absurd cc;
  follows = f;
}
