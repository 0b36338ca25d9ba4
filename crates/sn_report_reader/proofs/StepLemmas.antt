-- What one call says of a file whose contents are known.
use Rattle.std.proofs.Common.{◌≡◌, ℕ, ◌+◌, ◌<◌, ◌≤◌, ◌^◌, List, [], ◌∷◌, ◌++◌, Option, None, Some, IfSome, Result, Ok, Err, is_some, true, cond, length, drop, refl, ap, sym, subst, ◌∙◌, arith, append-nil}
use Rattle.std.proofs.lemmas.Bool.{false≢true, ne_eqb}
use Rattle.std.proofs.lemmas.List.{drop-append-le, drop-drop, drop_all, length-drop, length-take}
use Rattle.sn_io.specs.declared.inputs.ReadError.{ReadError}
use Rattle.sn_io.specs.declared.inputs.ReadError.TheVariants as errors
use Rattle.sn_report.specs.Items.{Frame}
use Rattle.sn_report.specs.declared.decode.Decoded.TheVariants as decoded
use Rattle.sn_report.specs.Decoding.{Stands}
use Rattle.sn_report_reader.specs.declared.reader.Next.{Next}
use Rattle.sn_report_reader.specs.declared.reader.Next.TheVariants as next
use Rattle.sn_report_reader.specs.declared.room.Reached.{Reached}
use Rattle.sn_report_reader.specs.declared.room.Reached.TheVariants as reached
use Rattle.sn_report_reader.specs.Within.{within}
use Rattle.sn_report_reader.specs.Reading.{Follows, IsStep, ReaderState, Reaches, ending_of, place_of, rest_of}
use Rattle.sn_report_reader.proofs.RestLemmas.{bad_stays, whole_stays}

-- of a name that isn't known nothing is held
pub held_none : (held : List ℕ) (count : Option ℕ) → (0 < length held → is_some count ≡ true) → count ≡ None → length held ≡ 0
held_none [] count known none = refl
held_none (x ∷ xs) count known none = absurd (false≢true (sym (ap is_some none) ∙ known (omega arith)))

pub not_end : (r : Reached) → r ≡ reached.End → ◌≡◌ {A = Result Reached ReadError} (Ok r) (Ok reached.Bytes) → ⊥
not_end r is e = cc

-- all that is held stands there
rest_held : (file : List ℕ) (s : ReaderState) → Follows file s → length (within file) ≤ place_of s → rest_of file s ≡ s.held
rest_held file s f past = f.held ∙ ap (λ (xs : List ℕ). s.held ++ xs) (drop_all (place_of s) (within file) past) ∙ append-nil s.held

-- the front of what is held is taken off
pub follows_passed : (reported now_reported : Option (List ℕ)) (before now : ReaderState) (len : ℕ) → now_reported ≡ reported → IfSome reported (λ file. Follows file before) → len ≤ length before.held → now ≡ record { offset = before.offset + len; held = drop len before.held } → IfSome now_reported (λ file. Follows file now)
follows_passed reported now_reported before now len same follows le is =
    subst (λ (t : Option (List ℕ)). IfSome t (λ file. Follows file now)) (sym same) (subst (λ (r : ReaderState). IfSome reported (λ file. Follows file r)) (sym is) (of reported follows))
  where
    of : (t : Option (List ℕ)) → IfSome t (λ file. Follows file before) → IfSome t (λ file. Follows file (record { offset = before.offset + len; held = drop len before.held }))
    of None f = tt
    of (Some file) f =
        let held : List ℕ = before.held in
        let within_file = f.within_file in
        let place : (before.offset + len) + length (drop len held) ≡ place_of before = omega (arith, le, length-drop len held) in
        record {
          within_file = omega (arith, place, within_file);
          held = sym (drop-drop len before.offset (within file))
              ∙ ap (drop len) f.held ∙ drop-append-le len held (drop (place_of before) (within file)) le
              ∙ ap (λ (n : ℕ). drop len held ++ drop n (within file)) (sym place);
        }

module _ (reported : Option (List ℕ)) (old before now : ReaderState) (at : before.offset ≡ old.offset) (follows : IfSome reported (λ file. Follows file before)) where
  rest_is : (file : List ℕ) → rest_of file before ≡ rest_of file old
  rest_is file = ap (λ (n : ℕ). drop n (within file)) at

  -- a frame stands first
  pub step_frame : (frame : Frame) (len : ℕ) → Stands before.held (decoded.Whole frame len) → now.offset ≡ before.offset + len → IfSome reported (λ file. IsStep file old (Ok (next.Frame frame)) now)
  step_frame frame len stands moved = of reported follows
    where
      of : (t : Option (List ℕ)) → IfSome t (λ file. Follows file before) → IfSome t (λ file. IsStep file old (Ok (next.Frame frame)) now)
      of None f = tt
      of (Some file) f =
          let there = subst (λ (xs : List ℕ). Stands xs (decoded.Whole frame len)) (sym f.held ∙ rest_is file) (whole_stays before.held (drop (place_of before) (within file)) frame len stands) in
          (len, there, omega (arith, moved, at))

  -- a byte shows that none does
  pub step_bad : (n place : ℕ) → Stands before.held (decoded.Bad n) → place ≡ before.offset + n → IfSome reported (λ file. IsStep file old (Ok (next.Bad place)) now)
  step_bad n place stands is = of reported follows
    where
      of : (t : Option (List ℕ)) → IfSome t (λ file. Follows file before) → IfSome t (λ file. IsStep file old (Ok (next.Bad place)) now)
      of None f = tt
      of (Some file) f =
          let there = subst (λ (xs : List ℕ). Stands xs (decoded.Bad n)) (sym f.held ∙ rest_is file) (bad_stays before.held (drop (place_of before) (within file)) n stands) in
          (n, there, omega (arith, is, at))

  module _ (now_reported : Option (List ℕ)) (r : Reached) (same : now_reported ≡ reported) (stands : Stands before.held decoded.More) (reaches : IfSome now_reported (λ file. Follows file before → Reaches file before r now)) where
    here : (due : Reached) → r ≡ due → IfSome reported (λ file. Follows file before → Reaches file before due now)
    here due is =
        subst (λ (d : Reached). IfSome reported (λ file. Follows file before → Reaches file before d now)) is (subst (λ (t : Option (List ℕ)). IfSome t (λ file. Follows file before → Reaches file before r now)) same reaches)

    more_there : (file : List ℕ) → Follows file before → length (within file) ≤ place_of before → Stands (rest_of file old) decoded.More
    more_there file f past = subst (λ (xs : List ℕ). Stands xs decoded.More) (sym (rest_held file before f past) ∙ rest_is file) stands

    ended_so : (held : List ℕ) → held ≡ before.held → (file : List ℕ) → Follows file before → place_of before ≡ length file → length file ≤ 2 ^ 30 → IsStep file old (Ok (ending_of (record { offset = before.offset; held = held }))) now
    ended_so [] is file f ends few = let long = ap length is in (omega (arith, long, ends, at), few)
    ended_so (x ∷ xs) is file f ends few =
        let long = ap length is in
        let cut : IsStep file old (Ok next.Cut) now = (more_there file f (omega (arith, ends, length-take (2 ^ 30) file)), omega (arith, long, ends, at), few) in
        subst (λ (a : Next). IsStep file old (Ok a) now) (sym (ap (λ b. cond b next.End next.Cut) (ne_eqb (length (x ∷ xs)) 0 (λ e. omega (arith, e))))) cut

    -- the file ends
    pub step_end : (answer : Next) → r ≡ reached.End → answer ≡ ending_of before → IfSome reported (λ file. IsStep file old (Ok answer) now)
    step_end answer is ending = subst (λ (a : Next). IfSome reported (λ file. IsStep file old (Ok a) now)) (sym ending) (of reported follows (here reached.End is))
      where
        of : (t : Option (List ℕ)) → IfSome t (λ file. Follows file before) → IfSome t (λ file. Follows file before → Reaches file before reached.End now) → IfSome t (λ file. IsStep file old (Ok (ending_of before)) now)
        of None f reach = tt
        of (Some file) f reach = let e = reach f in ended_so before.held refl file f e.0 e.1

    -- it goes on past the bytes that are read
    pub step_past : r ≡ reached.Past → IfSome reported (λ file. IsStep file old (Err errors.TooLarge) now)
    step_past is = of reported follows (here reached.Past is)
      where
        of : (t : Option (List ℕ)) → IfSome t (λ file. Follows file before) → IfSome t (λ file. Follows file before → Reaches file before reached.Past now) → IfSome t (λ file. IsStep file old (Err errors.TooLarge) now)
        of None f reach = tt
        of (Some file) f reach = let e = reach f in let full = e.0 in (more_there file f (omega (arith, full, length-take (2 ^ 30) file)), e.1)
