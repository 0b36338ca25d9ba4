-- The kind of a limit is chosen by its first word.
use Rattle.std.proofs.Common.{◌≡◌, Bool, true, false, List, [], ◌∷◌, refl, ◌∙◌, inl, inr, ◌⊎◌}
use Rattle.std.specs.Prelude.{codes}
use Rattle.sn_text_rules.specs.Tokens.{Lexeme, Tok, Read, got, fails, short, bind}
use Rattle.sn_text_rules.specs.Rules.{kept, either_at}
use Rattle.sn_text_rules.specs.Words.{is_word}
use Rattle.sn_text.specs.declared.stop.Stop.{Stop}
use Rattle.sn_text.specs.declared.stop.Stop.TheVariants as stops
use Rattle.sn_text.specs.Reading.{Halts, Peeked}
use Rattle.sn_prices_grammar.specs.declared.prices.StageLimit.{StageLimit}
use Rattle.sn_prices_grammar.specs.declared.prices.MetaLimit.{MetaLimit}
use Rattle.sn_prices_grammar.specs.declared.prices.Limit.{Limit}
use Rattle.sn_prices_grammar.specs.declared.prices.Limit.TheVariants.{Stages, Meta}
use Rattle.sn_prices_grammar.specs.PricesGrammar.{to_limit, stages_rule, meta_rule, kind_rule}

-- the value of a part is read, or its halt is that of the whole
record Part {A B : Type 0} (part : Read A) (to : A → B) (whole : Read B) : Type 0 where
  value : (a : A) (us : List Tok) → part ≡ got a us → whole ≡ got (to a) us
  halt : (e : Stop) → Halts e part → Halts e whole

part_of : {A B : Type 0} (r : Read A) (to : A → B) (whole : Read B) → whole ≡ bind r (λ a us. got (to a) us) → Part r to whole
part_of r to whole e = record { value = λ a us h. e ∙ rw h refl; halt = halts }
  where
    halts : (x : Stop) → Halts x r → Halts x whole
    halts stops.NoMemory h = tt
    halts (stops.Fault x l) h = e ∙ rw h refl

under_one : {A B C : Type 0} (r : Read A) (f : A → B) (g : B → C) → bind (bind r (λ a us. got (f a) us)) (λ b us. got (g b) us) ≡ bind r (λ a us. got (g (f a)) us)
under_one (got a us) f g = refl
under_one (fails x us) f g = refl
under_one short f g = refl

abbrev lefts : {A B : Type 0} → A → A ⊎ B
lefts a = inl a

abbrev rights : {A B : Type 0} → B → A ⊎ B
rights b = inr b

abbrev stages_of : StageLimit → Limit
stages_of l = Stages l

abbrev meta_of : MetaLimit → Limit
meta_of l = Meta l

abbrev S : Lexeme → Bool
S = is_word (codes "stages")

abbrev kind_at : (List Tok → Read StageLimit) → (List Tok → Read MetaLimit) → List Tok → Read Limit
kind_at f g ts = bind (either_at S f g ts) (λ a us. got (to_limit a) us)

at_stages : (f : List Tok → Read StageLimit) (g : List Tok → Read MetaLimit) (ts : List Tok) → Peeked true S ts → kind_at f g ts ≡ bind (f ts) (λ a us. got (stages_of a) us)
at_stages f g [] a = absurd a
at_stages f g (t ∷ ts) a = rw (← a) (under_one (f (t ∷ ts)) lefts to_limit)

at_meta : (f : List Tok → Read StageLimit) (g : List Tok → Read MetaLimit) (ts : List Tok) → Peeked false S ts → kind_at f g ts ≡ bind (g ts) (λ a us. got (meta_of a) us)
at_meta f g [] a = absurd a
at_meta f g (t ∷ ts) a = rw (← a) (under_one (g (t ∷ ts)) rights to_limit)

of_stages : (ts : List Tok) → Peeked true (is_word (codes "stages")) ts → Part (stages_rule.read kept ts) stages_of (kind_rule.read kept ts)
unfolding kind_rule
of_stages ts h = part_of (stages_rule.read kept ts) stages_of (kind_rule.read kept ts) (at_stages (stages_rule.read kept) (meta_rule.read kept) ts h)

pub stages_value : (ts : List Tok) (a : StageLimit) (vs : List Tok) → Peeked true (is_word (codes "stages")) ts → stages_rule.read kept ts ≡ got a vs → kind_rule.read kept ts ≡ got (stages_of a) vs
stages_value ts a vs h e = (of_stages ts h).value a vs e

pub stages_halt : (ts : List Tok) (x : Stop) → Peeked true (is_word (codes "stages")) ts → Halts x (stages_rule.read kept ts) → Halts x (kind_rule.read kept ts)
stages_halt ts x h e = (of_stages ts h).halt x e

of_meta : (ts : List Tok) → Peeked false (is_word (codes "stages")) ts → Part (meta_rule.read kept ts) meta_of (kind_rule.read kept ts)
unfolding kind_rule
of_meta ts h = part_of (meta_rule.read kept ts) meta_of (kind_rule.read kept ts) (at_meta (stages_rule.read kept) (meta_rule.read kept) ts h)

pub meta_value : (ts : List Tok) (a : MetaLimit) (vs : List Tok) → Peeked false (is_word (codes "stages")) ts → meta_rule.read kept ts ≡ got a vs → kind_rule.read kept ts ≡ got (meta_of a) vs
meta_value ts a vs h e = (of_meta ts h).value a vs e

pub meta_halt : (ts : List Tok) (x : Stop) → Peeked false (is_word (codes "stages")) ts → Halts x (meta_rule.read kept ts) → Halts x (kind_rule.read kept ts)
meta_halt ts x h e = (of_meta ts h).halt x e

-- the cases of a limit
pub ruleset kind_cases = (stages_value, stages_halt, meta_value, meta_halt)
