-- What is left of reports while their frames are taken one after another, over plain values.
use Rattle.std.proofs.Common.{◌≡◌, ℕ, ◌+◌, List, [], ◌∷◌, ◌++◌, length, drop, Result, Ok, Err, refl, ap, sym, ◌∙◌, subst, arith, append_assoc}
use Rattle.std.proofs.lemmas.List.{drop-drop, length-append}
use Rattle.sn_io.specs.Counts.{ByName}
use Rattle.sn_report.specs.Framed.{AreReports, Framed, IsNoFrame, Written, bytes_in, bytes_of}
use Rattle.sn_report.proofs.Cutting.{first_frame, no_frames}
use Rattle.sn_report.specs.declared.decode.Decoded.{Decoded}
use Rattle.sn_report.specs.declared.decode.Decoded.TheVariants.{Whole}
use Rattle.sn_report.specs.Items.{Frame}
use Rattle.sn_report.specs.Decoding.{Stands}
use Rattle.sn_command.specs.declared.fault.Fault.{Fault}
use Rattle.sn_command.specs.declared.refusal.Refusal.{Refusal}
use Rattle.sn_command.specs.Outcomes.{Outcome, Stage, silent}
use Rattle.sn_command.specs.Refusals.{refusing}
use Rattle.sn_command.specs.Stages.{Does, GoesOn, Judges, Then}
use Rattle.sn_types.specs.declared.typed_query.TypedQuery.{TypedQuery}
use Rattle.sn_command_finish.specs.Reported.{FramedIn, reported_from}
use Rattle.sn_command_finish.specs.Taken.{Standing, end_at, followed, goes_on, take_frame, take_frames}

-- ---- outcomes after one another

pub followed_twice : {A B C : Type 0} (first : Outcome A) (f : A → Outcome B) (g : B → Outcome C) → followed (followed first f) g ≡ followed first (λ x. followed (f x) g)
followed_twice {A} {B} {C} first f g = of first.text first.end
  where
    inner : (text : List ℕ) (more : List ℕ) (end : Result B Refusal) → goes_on (text ++ more) end g ≡ record { text = text ++ (goes_on more end g).text; end = (goes_on more end g).end }
    inner text more (Err refusal) = refl
    inner text more (Ok value) = ap (λ (t : List ℕ). record { text = t; end = (g value).end }) (append_assoc text more (g value).text)

    of : (text : List ℕ) (end : Result A Refusal) → followed (goes_on text end f) g ≡ goes_on text end (λ x. followed (f x) g)
    of text (Err refusal) = refl
    of text (Ok value) = inner text (f value).text (f value).end

-- a stage that does this, and then another that follows it so
followed_is : {A B : Type 0} (first : Outcome A) (second : A → Outcome B) (stage : A → Stage B) (files : ByName (List ℕ)) → ((a : A) → stage a files (second a)) → Then (Does first) stage files (followed first second)
followed_is {A} {B} first second stage files each = record { begun = first; begins = refl; goes_on = of first.text first.end }
  where
    of : (text : List ℕ) (end : Result A Refusal) → GoesOn stage files text end (goes_on text end second)
    of text (Err refusal) = refl
    of text (Ok value) = (second value, each value, refl)

-- ---- what is left

-- the rest of the reports, which begins at this byte
abbrev pub LeftOver : List TypedQuery → ℕ → ℕ → List ℕ → Standing → Stage (Unit {0})
LeftOver queries at size rest s = Then (Judges (FramedIn rest)) (λ framed. Does (reported_from queries at size framed s))

pub record IsCut (rest : List ℕ) (due : Framed → Outcome (Unit {0})) (outcome : Outcome (Unit {0})) : Type 0 where
  pub framed : Framed
  pub is : AreReports rest framed.frames framed.left
  pub same : outcome ≡ due framed

pub cut_here : (rest : List ℕ) (due : Framed → Outcome (Unit {0})) (files : ByName (List ℕ)) (outcome : Outcome (Unit {0})) → Then (Judges (FramedIn rest)) (λ framed. Does (due framed)) files outcome → IsCut rest due outcome
cut_here rest due files outcome t = of t.begins.verdict t.begins.is t.begun t.begins.same t.goes_on
  where
    of : (verdict : Result Framed Fault) → FramedIn rest verdict → (begun : Outcome Framed) → begun ≡ silent (refusing verdict) → GoesOn (λ framed. Does (due framed)) files begun.text begun.end outcome → IsCut rest due outcome
    of (Err fault) is begun same goes = absurd is
    of (Ok framed) is begun same goes =
        let g : GoesOn (λ framed. Does (due framed)) files [] (Ok framed) outcome = subst (λ (o : Outcome Framed). GoesOn (λ framed. Does (due framed)) files o.text o.end outcome) same goes in
        record { framed = framed; is = is; same = g.2 ∙ g.1 }

left_is : (queries : List TypedQuery) (at size : ℕ) (rest : List ℕ) (s : Standing) (framed : Framed) → AreReports rest framed.frames framed.left → (files : ByName (List ℕ)) → LeftOver queries at size rest s files (reported_from queries at size framed s)
left_is queries at size rest s framed is files = record {
  begun = silent (Ok framed);
  begins = record { verdict = Ok framed; is = is; same = refl };
  goes_on = (reported_from queries at size framed s, refl, refl);
}

-- ---- a whole frame

frame_first : (queries : List TypedQuery) (at size len : ℕ) (w : Written) (more : List Written) (left : Decoded) (s : Standing) → len ≡ length (bytes_in w)
    → reported_from queries at size (record { frames = w ∷ more; left = left }) s ≡ followed (take_frame queries at w.frame s) (λ next. reported_from queries (at + len) size (record { frames = more; left = left }) next)
frame_first queries at size len w more left s long =
    let frame : Frame = w.frame in
    let n : at + length (bytes_in w) ≡ at + len = omega (arith, long) in
    let m : at + length (bytes_in w ++ bytes_of more) ≡ (at + len) + length (bytes_of more) = omega (arith, long, length-append (bytes_in w) (bytes_of more)) in
    followed_twice (take_frame queries at frame s) (λ next. take_frames queries (at + length (bytes_in w)) more next) (λ last. end_at (at + length (bytes_in w ++ bytes_of more)) size left last)
    ∙ ap (λ (k : ℕ). followed (take_frame queries at frame s) (λ next. followed (take_frames queries k more next) (λ last. end_at (at + length (bytes_in w ++ bytes_of more)) size left last))) n
    ∙ ap (λ (k : ℕ). followed (take_frame queries at frame s) (λ next. followed (take_frames queries (at + len) more next) (λ last. end_at k size left last))) m

framed_same : (framed : Framed) (frames : List Written) → framed.frames ≡ frames → framed ≡ record { frames = frames; left = framed.left }
framed_same framed frames e = ap (λ (fs : List Written). record { frames = fs; left = framed.left }) e

module _ (queries : List TypedQuery) (at size : ℕ) (rest : List ℕ) (s : Standing) where
  pub splits : (frame : Frame) (len : ℕ) → Stands rest (Whole frame len) → (files : ByName (List ℕ)) (outcome : Outcome (Unit {0})) → LeftOver queries at size rest s files outcome
      → Then (Does (take_frame queries at frame s)) (λ next. LeftOver queries (at + len) size (drop len rest) next) files outcome
  splits frame len stands files outcome t =
      let c = cut_here rest (λ framed. reported_from queries at size framed s) files outcome t in
      let b = first_frame rest frame len c.framed.frames c.framed.left stands c.is in
      let w : Written = record { version = b.version; frame = frame } in
      let more : Framed = record { frames = b.more; left = c.framed.left } in
      let same : outcome ≡ followed (take_frame queries at frame s) (λ next. reported_from queries (at + len) size more next) =
      c.same ∙ ap (λ (f : Framed). reported_from queries at size f s) (framed_same c.framed (w ∷ b.more) b.first) ∙ frame_first queries at size len w b.more c.framed.left s b.long in
      subst (λ (o : Outcome (Unit {0})). Then (Does (take_frame queries at frame s)) (λ next. LeftOver queries (at + len) size (drop len rest) next) files o) (sym same)
      (followed_is (take_frame queries at frame s) (λ next. reported_from queries (at + len) size more next) (λ next. LeftOver queries (at + len) size (drop len rest) next) files
      (λ next. left_is queries (at + len) size (drop len rest) next more b.rest files))

  -- no frame stands here
  pub stops_here : (d : Decoded) → Stands rest d → IsNoFrame d → (files : ByName (List ℕ)) (outcome : Outcome (Unit {0})) → LeftOver queries at size rest s files outcome → outcome ≡ end_at at size d s
  stops_here d stands none files outcome t =
      let c = cut_here rest (λ framed. reported_from queries at size framed s) files outcome t in
      let e = no_frames rest d c.framed.frames c.framed.left stands none c.is in
      let here : at + 0 ≡ at = omega arith in
      c.same ∙ ap (λ (f : Framed). reported_from queries at size f s) (framed_same c.framed [] e.0)
      ∙ ap (λ (l : Decoded). end_at (at + 0) size l s) e.1 ∙ ap (λ (k : ℕ). end_at k size d s) here

-- the bytes after a frame
pub rest_after : (bytes : List ℕ) (at len : ℕ) → drop len (drop at bytes) ≡ drop (at + len) bytes
rest_after bytes at len = drop-drop len at bytes ∙ ap (λ n. drop n bytes) (omega arith)
