-- What goes out, over plain values.
use Rattle.std.proofs.Common.{◌≡◌, ℕ, ◌+◌, List, [], ◌++◌, true, Option, None, Some, Result, Err, length, take, refl, ap, sym, ◌∙◌, arith, append-nil, length-append}
use Rattle.std.specs.Io.KnownBytes.{append_known}
use Rattle.std.proofs.Math.Seq.{take-append-add}
use Rattle.std.proofs.lemmas.Bool.{false≢true}
use Rattle.std.proofs.lemmas.List.{take_all, take-append-le}
use Rattle.sn_command.specs.declared.refusal.Refusal.{Refusal}
use Rattle.sn_command.specs.Refusals.{is_chance}
use Rattle.sn_command.specs.Outcomes.{Outcome, silent, WentOutFront, Keeps}
use Rattle.sn_io.proofs.Reported.{append_known-append}

pub reported_none : (reported : Option (List ℕ)) → reported ≡ append_known reported []
reported_none None = refl
reported_none (Some out) = ap (λ zs. Some zs) (sym (append-nil out))

-- the whole text is a front of itself
pub all_front : (text : List ℕ) (before now : Option (List ℕ)) → now ≡ append_known before text → WentOutFront text before now
all_front text before now e = (length text, omega arith, e ∙ ap (append_known before) (sym (take_all (length text) text (omega arith))))

-- nothing is a front of each text
pub no_front : (text : List ℕ) (before : Option (List ℕ)) → WentOutFront text before before
no_front text before = (0, omega arith, reported_none before)

-- a front of a text is one of the text with more after it
pub front_longer : (text more : List ℕ) (before now : Option (List ℕ)) → WentOutFront text before now → WentOutFront (text ++ more) before now
front_longer text more before now (k, within, e) = (k, rw length-append (omega arith), e ∙ ap (append_known before) (sym (take-append-le k text more within)))

-- a front of a text after one that went out
pub front_after : (first text : List ℕ) (before now later : Option (List ℕ)) → now ≡ append_known before first → WentOutFront text now later → WentOutFront (first ++ text) before later
front_after first text before now later reported (k, within, e) = (
  length first + k,
  rw length-append (omega arith),
  e ∙ ap (λ t. append_known t (take k text)) reported ∙ append_known-append before first (take k text) ∙ ap (append_known before) (sym (take-append-add first text k)),
)

-- a text after one that went out
pub after_text : {A : Type 0} (first : List ℕ) (o : Outcome A) (answer : Result A Refusal) (before now later : Option (List ℕ)) → now ≡ append_known before first → Keeps o answer now later → Keeps (record { text = first ++ o.text; end = o.end }) answer before later
after_text first o answer before now later reported k = record {
  front = front_after first o.text before now later reported k.front;
  ends = k.ends;
  whole = λ e. k.whole e ∙ ap (λ t. append_known t o.text) reported ∙ append_known-append before first o.text;
}

-- the end is the one that is due, and all of the text went out
pub ends_due : {A : Type 0} (o : Outcome A) (now later : Option (List ℕ)) → later ≡ append_known now o.text → Keeps o o.end now later
ends_due o now later e = record { front = all_front o.text now later e; ends = λ _. refl; whole = λ _. e }

-- nothing went out, and none was to
pub silent_keeps : {A : Type 0} (end : Result A Refusal) (now : Option (List ℕ)) → Keeps (silent end) end now now
silent_keeps end now = ends_due (silent end) now now (reported_none now)

-- nothing went out, and the answer is a chance
pub chance_keeps : {A : Type 0} (o : Outcome A) (r : Refusal) (now : Option (List ℕ)) → is_chance r ≡ true → Keeps o (Err r) now now
chance_keeps o r now chance = record { front = no_front o.text now; ends = λ e. absurd (false≢true (sym e ∙ chance)); whole = λ e. absurd (false≢true (sym e ∙ chance)) }
