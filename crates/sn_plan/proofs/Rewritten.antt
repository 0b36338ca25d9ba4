-- What is printed stands for the same plan, whose end is after the last byte.
use Rattle.std.proofs.Common.{◌≡◌, ℕ, Bool, true, false, List, [], ◌∷◌, ◌++◌, length, map, refl, sym, ap, ◌∙◌, subst, append_assoc}
use Rattle.std.proofs.lemmas.List.{map-append, append-nil}
use Rattle.sn_text_rules.specs.Tokens.{Lexeme, finish, Tok, Mark, plain, Spelled, mark_face, faces, mark_faces}
use Rattle.sn_text_rules.specs.Rules.{kept, Accepts}
use Rattle.sn_text_rules.proofs.Common.{faces_append, spelled_faces, split_spelled}
use Rattle.sn_text.specs.Cutting.{tokens_of}
use Rattle.sn_text.proofs.Ends.{end_at}
use Rattle.sn_text.proofs.Lexemes.{AllFine}
use Rattle.sn_text.proofs.Cut.{Closed, cut_fine, front_fine}
use Rattle.sn_text.proofs.Chunks.{face_of, text_of, read_again}
use Rattle.sn_plan_grammar.specs.declared.plan.Plan.{Plan}
use Rattle.sn_plan_grammar.specs.Grammar.{end_face, plan_rule, file_rule}
use Rattle.sn_plan_grammar.proofs.Goods.{file_good}
use Rattle.sn_plan.specs.Printing.{plan_text}
use Rattle.sn_plan.specs.Texts.{StandsFor, IsParsed, StandsAgain}
use Rattle.sn_plan.proofs.PlanChunks.{plan_chunks, plan_is, plan_spaced}
use Rattle.sn_plan.proofs.PlanMarks.{plan_faces, plan_bare}

file_faces : (p : Plan) (cost : Bool) → mark_faces (file_rule.spell (p, cost)) ≡ mark_faces (plan_rule.spell p) ++ end_face cost ∷ []
unfolding file_rule
file_faces p cost = map-append mark_face (plan_rule.spell p) (plain (end_face cost) ∷ [])

plan_fits : (p : Plan) (cost : Bool) → file_rule.fits kept (p, cost) → plan_rule.fits kept p
unfolding file_rule
plan_fits p cost f = f.0

fits_ended : (p : Plan) → plan_rule.fits kept p → file_rule.fits kept (p, false)
unfolding file_rule
fits_ended p f = (f, refl)

file_bare : (x : Plan × Bool) → file_rule.bare x ≡ x
unfolding file_rule
file_bare x = let e = plan_bare x.0 in rw e refl

-- the lexemes of a plan that some text stands for can be written
fine_plan : (p : Plan) (text : List ℕ) (byte : ℕ) → StandsFor (tokens_of text) p byte → AllFine (map face_of (plan_chunks p))
fine_plan p text byte s =
    let front : List Lexeme = mark_faces (plan_rule.spell p) in
    let whole : faces (tokens_of text) ≡ front ++ end_face s.cost ∷ faces s.rest =
    ap faces s.parts ∙ faces_append (s.front ++ s.at ∷ []) s.rest
    ∙ ap (λ (xs : List Lexeme). xs ++ faces s.rest) (spelled_faces (s.front ++ s.at ∷ []) (file_rule.spell (p, s.cost)) s.accepted.spelled ∙ file_faces p s.cost)
    ∙ append_assoc front (end_face s.cost ∷ []) (faces s.rest) in
    let closed = cut_fine (tokens_of text) (record { rest = text; start = 0; line = 1; column = 1 }) refl in
    subst AllFine (plan_faces p (plan_fits p s.cost s.accepted.fits)) (front_fine front (end_face s.cost) (faces s.rest) (subst Closed whole closed))

-- the tokens of a plan and the end of the text after them
record Parted (ts : List Tok) : Type 0 where
  front : List Tok
  at : Tok
  parts : ts ≡ front ++ at ∷ []
  ends : at.face ≡ finish

one_end : (ts front back : List Tok) → ts ≡ front ++ back → Spelled back (plain finish ∷ []) → Parted ts
one_end ts front [] e s = absurd s
one_end ts front (t ∷ []) e s = record { front = front; at = t; parts = e; ends = s.0.0 }
one_end ts front (t ∷ u ∷ us) e s = absurd s.1

parted : (p : Plan) (ts : List Tok) → Spelled ts (file_rule.spell (p, false)) → Parted ts
unfolding file_rule
parted p ts s = let k = split_spelled ts (plan_rule.spell p) (plain finish ∷ []) s in one_end ts k.0 k.1 k.2 k.4

stands : (text : List ℕ) (p : Plan) → Accepts file_rule (tokens_of text) (p, false) → StandsAgain text p
stands text p a =
    let d = parted p (tokens_of text) a.spelled in
    record {
      front = d.front;
      at = d.at;
      rest = [];
      cost = false;
      parts = d.parts ∙ sym (append-nil (d.front ++ d.at ∷ []));
      accepted = subst (λ (us : List Tok). Accepts file_rule us (p, false)) d.parts a;
      starts = end_at text d.front d.at d.parts d.ends;
    }

pub stands_again : (p : Plan) (text : List ℕ) → text ≡ plan_text p → IsParsed p → StandsAgain text p
stands_again p text e h =
    let s = h.2 in
    let fits = plan_fits p s.cost s.accepted.fits in
    let a = read_again file_good (p, false) (plan_chunks p) (fits_ended p fits) (file_faces p false ∙ ap (λ (xs : List Lexeme). xs ++ finish ∷ []) (plan_faces p fits)) (fine_plan p h.0 h.1 s) (plan_spaced p) in
    let is = sym (file_bare a.value) ∙ a.same ∙ file_bare (p, false) in
    let here = subst (λ (x : Plan × Bool). Accepts file_rule (tokens_of (text_of (plan_chunks p))) x) is a.accepted in
    stands text p (subst (λ (w : List ℕ). Accepts file_rule (tokens_of w) (p, false)) (plan_is p ∙ sym e) here)
