-- The tuples of a window go to several switches, over plain values.
use Rattle.std.proofs.Common.{◌≡◌, ℕ, suc, ◌+◌, List, [], ◌∷◌, ◌++◌, Some, map, length, refl, ap, sym, ◌∙◌, subst, arith, append_assoc, append-nil, length-append}
use Rattle.std.specs.List.{AllByRecursion}
use Rattle.sn_base.proofs.Lists.{all_append}
use Rattle.sn_command_captures.proofs.AnswerLemmas.{left_rises}
use Rattle.sn_command_captures.specs.Answered.{ending_of}
use Rattle.sn_command_captures.specs.Counted.{left_of}
use Rattle.sn_command_captures.specs.Shares.{IsSound}
use Rattle.sn_command_captures.specs.declared.share.Share.{Share}
use Rattle.sn_command_many.specs.Giving.{HasTaken, IsTaking, given_all, given_each}
use Rattle.sn_engine_many.specs.Phases.{AreBegun}
use Rattle.sn_engine_many.specs.Switches.{given_to}
use Rattle.sn_engine_many.specs.declared.many.Many.{Many}
use Rattle.sn_types.specs.Typed.{HasWidths}
use Rattle.sn_windows.proofs.RunLemmas.{AtLeast}
use Rattle.sn_windows.specs.Windows.{in_window}
use Rattle.sn_windows_together.proofs.MergeLemmas.{none_here, taken_here}
use Rattle.sn_windows_together.specs.Merging.{after_window, head_number}

abbrev Captures : Type 0
Captures = List (List (List ℕ))

-- ---- what came, by switch

given_push : (i : ℕ) (ts : List (List ℕ)) (t : List ℕ) (captures : Captures) → given_all i (ts ++ t ∷ []) captures ≡ given_to i t (given_all i ts captures)
given_push i [] t captures = refl
given_push i (u ∷ us) t captures = given_push i us t (given_to i u captures)

to_at : (front : Captures) (mine : List (List ℕ)) (back : Captures) (t : List ℕ) → given_to (length front) t (front ++ mine ∷ back) ≡ front ++ (mine ++ t ∷ []) ∷ back
to_at [] mine back t = refl
to_at (f ∷ front) mine back t = ap (λ (c : Captures). f ∷ c) (to_at front mine back t)

all_at : (front : Captures) (mine : List (List ℕ)) (back : Captures) (ts : List (List ℕ)) → given_all (length front) ts (front ++ mine ∷ back) ≡ front ++ (mine ++ ts) ∷ back
all_at front mine back [] = ap (λ (m : List (List ℕ)). front ++ m ∷ back) (sym (append-nil mine))
all_at front mine back (t ∷ ts) =
    ap (given_all (length front) ts) (to_at front mine back t) ∙ all_at front (mine ++ t ∷ []) back ts ∙ ap (λ (m : List (List ℕ)). front ++ m ∷ back) (append_assoc mine (t ∷ []) ts)

each_at : {X : Type 0} (front : Captures) (ds : List X) (tss : Captures) → length tss ≡ length ds → given_each (length front) tss (front ++ map (λ (d : X). []) ds) ≡ front ++ tss
each_at front [] [] e = refl
each_at front (d ∷ ds) [] e = absurd (omega (arith, e))
each_at front [] (ts ∷ tss) e = absurd (omega (arith, e))
each_at {X} front (d ∷ ds) (ts ∷ tss) e =
    let others : Captures = map (λ (x : X). []) ds in
    let more : length (front ++ ts ∷ []) ≡ length front + 1 = length-append front (ts ∷ []) in
    let next : suc (length front) ≡ length (front ++ ts ∷ []) = omega (arith, more) in
    ap (given_each (suc (length front)) tss) (all_at front [] others ts ∙ sym (append_assoc front (ts ∷ []) others))
    ∙ ap (λ n. given_each n tss ((front ++ ts ∷ []) ++ others)) next
    ∙ each_at (front ++ ts ∷ []) ds tss (omega (arith, e))
    ∙ append_assoc front (ts ∷ []) tss

-- each switch got its own tuples
pub all_given : {X : Type 0} (ds : List X) (tss : Captures) → length tss ≡ length ds → given_each 0 tss (map (λ (d : X). []) ds) ≡ tss
all_given ds tss e = each_at [] ds tss e

-- ---- one call after another

pub taken_none : (many : Many) → HasTaken (λ captures. captures) many many
taken_none many = record { work = λ queries tables entries kept window captures h. h; phase = refl; last = refl; count = refl; queries = refl }

module _ {f g : Captures → Captures} {before now later : Many} where
  pub taken_then : HasTaken f before now → HasTaken g now later → HasTaken (λ captures. g (f captures)) before later
  taken_then first second = record {
    work = λ queries tables entries kept window captures h. second.work queries tables entries kept window (f captures) (first.work queries tables entries kept window captures h);
    phase = second.phase ∙ first.phase;
    last = second.last ∙ first.last;
    count = second.count ∙ first.count;
    queries = second.queries ∙ first.queries;
  }

taken_as : {f g : Captures → Captures} {before now : Many} → ((captures : Captures) → f captures ≡ g captures) → HasTaken f before now → HasTaken g before now
taken_as {f} {g} {before} {now} same r = record {
  work = λ queries tables entries kept window captures h.
      subst (λ (c : Captures). AreBegun queries tables entries kept window c now.switches.items now.engine) (same captures) (r.work queries tables entries kept window captures h);
  phase = r.phase;
  last = r.last;
  count = r.count;
  queries = r.queries;
}

-- ---- one switch

pub taking_begins : (switch number : ℕ) (many : Many) (share : Share) → IsSound share → AtLeast number (left_of share) → IsTaking switch number many many share share
taking_begins switch number many share sound least = record {
  given = [];
  taken = taken_none many;
  widths = tt;
  tuples = refl;
  after = refl;
  least = least;
  sound = sound;
  ending = refl;
}

module _ (switch number : ℕ) (before now : Many) (share left : Share) (t : IsTaking switch number before now share left) where
  -- a tuple more
  pub taking_more : (next : Many) (after : Share) (tuple : List ℕ) → left_of left ≡ (number, tuple) ∷ left_of after → IsSound after → ending_of after ≡ ending_of left → HasWidths tuple
      → HasTaken (given_to switch tuple) now next → IsTaking switch number before next share after
  taking_more next after tuple parts sound ending wide more = record {
    given = t.given ++ tuple ∷ [];
    taken = taken_as (λ captures. sym (given_push switch t.given tuple captures)) (taken_then t.taken more);
    widths = all_append HasWidths t.given (tuple ∷ []) t.widths (wide, tt);
    tuples = t.tuples ∙ ap (λ (ts : List (List ℕ)). t.given ++ ts) (ap (in_window number) parts ∙ (taken_here number tuple (left_of after)).0) ∙ sym (append_assoc t.given (tuple ∷ []) (in_window number (left_of after)));
    after = t.after ∙ ap (after_window number) parts ∙ (taken_here number tuple (left_of after)).1;
    least = (subst (AtLeast number) parts t.least).1;
    sound = sound;
    ending = ending ∙ t.ending;
  }

  -- none is left of the window
  module _ (other : head_number (left_of left) ≡ Some number → ⊥) where
    none_left : (in_window number (left_of left) ≡ []) × (after_window number (left_of left) ≡ left_of left)
    none_left = none_here number (left_of left) t.least (left_rises left t.sound) other

    given_is : t.given ≡ in_window number (left_of share)
    given_is = sym (t.tuples ∙ ap (λ (ts : List (List ℕ)). t.given ++ ts) none_left.0 ∙ append-nil t.given)

    pub share_taken : HasTaken (given_all switch (in_window number (left_of share))) before now
    share_taken = subst (λ (ts : List (List ℕ)). HasTaken (given_all switch ts) before now) given_is t.taken

    pub share_widths : AllByRecursion HasWidths (in_window number (left_of share))
    share_widths = subst (AllByRecursion HasWidths) given_is t.widths

    pub share_left : left_of left ≡ after_window number (left_of share)
    share_left = sym (t.after ∙ none_left.1)
