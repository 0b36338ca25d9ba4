-- One turn of a loop over the items of a list.
use Rattle.std.proofs.Common.{◌≡◌, ◌≤◌, suc, Bool, true, false, List, [], ◌∷◌, ◌++◌, length, Option, Some, None, sym, ◌∙◌}
use Rattle.sn_text_rules.specs.declared.Flaw.{Flaw}
use Rattle.sn_text_rules.specs.Tokens.{Lexeme, Tok, Read, got, fails}
use Rattle.sn_text_rules.specs.Rules.{Rule, kept, links}
use Rattle.sn_text_rules.proofs.Series.{Alike, fewer, links_go, links_fail, links_shut, links_over}
use Rattle.sn_text.specs.Lexing.{left}
use Rattle.sn_text.specs.declared.stop.Stop.{Stop}
use Rattle.sn_text.specs.declared.stop.Stop.TheVariants as stops
use Rattle.sn_text.specs.Reading.{Halts, Peeked}

module _ {A : Type 0} {goes : Lexeme → Bool} {shut : List A → Option Flaw} {p : List A → Rule A} (alike : Alike goes shut p) where
  abbrev K : List A → List Tok → Read (List A)
  K seen ts = links goes shut p kept seen ts

  pub over : (seen : List A) (ts : List Tok) → Peeked false goes ts → K seen ts ≡ got seen ts
  over seen [] h = absurd h
  over seen (t ∷ ts) h = links_over alike kept seen t ts (sym h)

  pub turns : (seen : List A) (ts us : List Tok) (a : A) → Peeked true goes ts → shut seen ≡ None → (p seen).read kept ts ≡ got a us → K seen ts ≡ K (seen ++ a ∷ []) us
  turns seen [] us a h o e = absurd h
  turns seen (t ∷ ts) us a h o e = links_go alike kept seen t ts us a (sym h) o e

  pub stops_at : (seen : List A) (ts : List Tok) (e : Stop) → Peeked true goes ts → shut seen ≡ None → Halts e ((p seen).read kept ts) → Halts e (K seen ts)
  stops_at seen ts stops.NoMemory h o e = tt
  stops_at seen [] (stops.Fault x l) h o e = absurd h
  stops_at seen (t ∷ ts) (stops.Fault x l) h o e = links_fail alike kept seen t ts (left l) x (sym h) o e

  pub shuts : (seen : List A) (ts : List Tok) (x : Flaw) → Peeked true goes ts → shut seen ≡ Some x → K seen ts ≡ fails x ts
  shuts seen [] x h o = absurd h
  shuts seen (t ∷ ts) x h o = links_shut alike kept seen t ts x (sym h) o

  pub shorter : (seen : List A) (ts us : List Tok) (a : A) → (p seen).read kept ts ≡ got a us → suc (length us) ≤ length ts
  shorter seen ts us a e = fewer alike kept seen ts us a e

-- the halt of a part is that of the whole
pub halts_as : {A : Type 0} (e : Stop) (r s : Read A) → s ≡ r → Halts e r → Halts e s
halts_as stops.NoMemory r s h k = tt
halts_as (stops.Fault x l) r s h k = h ∙ k
