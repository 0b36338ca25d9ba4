-- The kind of a node is chosen by its first word.
use Rattle.std.proofs.Common.{◌≡◌, ℕ, Bool, true, false, List, [], ◌∷◌, refl, ◌∙◌, inl, inr, ◌⊎◌}
use Rattle.std.specs.Prelude.{codes}
use Rattle.sn_text_rules.specs.Tokens.{Lexeme, Tok, Read, got, fails, short, bind}
use Rattle.sn_text_rules.specs.Rules.{kept, Rule, either_at}
use Rattle.sn_text_rules.specs.Words.{is_word, keyword, ◌▸◌, any_number}
use Rattle.sn_text.specs.declared.stop.Stop.{Stop}
use Rattle.sn_text.specs.declared.stop.Stop.TheVariants as stops
use Rattle.sn_text.specs.Reading.{Halts, Peeked}
use Rattle.sn_tree_space.specs.declared.node.Node.{Node}
use Rattle.sn_tree_space.specs.declared.node.Node.TheVariants.{Expand, Bound, Broken, Chosen}
use Rattle.sn_plan_grammar.specs.TreeGrammar.{to_node, node_rule}

-- the value of a part is read, or its halt is that of the whole
record Part {A B : Type 0} (part : Read A) (to : A → B) (whole : Read B) : Type 0 where
  value : (a : A) (us : List Tok) → part ≡ got a us → whole ≡ got (to a) us
  halt : (e : Stop) → Halts e part → Halts e whole

part_of : {A B : Type 0} (r : Read A) (to : A → B) (whole : Read B) → whole ≡ bind r (λ a us. got (to a) us) → Part r to whole
part_of r to whole e = record { value = λ a us h. e ∙ rw h refl; halt = halts }
  where
    halts : (x : Stop) → Halts x r → Halts x whole
    halts stops.NoMemory h = tt
    halts (stops.Fault x l) h = e ∙ rw h refl

under_one : {A B C : Type 0} (r : Read A) (f : A → B) (g : B → C) → bind (bind r (λ a us. got (f a) us)) (λ b us. got (g b) us) ≡ bind r (λ a us. got (g (f a)) us)
under_one (got a us) f g = refl
under_one (fails x us) f g = refl
under_one short f g = refl

under_two : {A B C D : Type 0} (r : Read A) (f : A → B) (g : B → C) (h : C → D) → bind (bind (bind r (λ a us. got (f a) us)) (λ b us. got (g b) us)) (λ c us. got (h c) us) ≡ bind r (λ a us. got (h (g (f a))) us)
under_two (got a us) f g h = refl
under_two (fails x us) f g h = refl
under_two short f g h = refl

under_three : {A B C D E : Type 0} (r : Read A) (f : A → B) (g : B → C) (h : C → D) (k : D → E)
    → bind (bind (bind (bind r (λ a us. got (f a) us)) (λ b us. got (g b) us)) (λ c us. got (h c) us)) (λ d us. got (k d) us) ≡ bind r (λ a us. got (k (h (g (f a)))) us)
under_three (got a us) f g h k = refl
under_three (fails x us) f g h k = refl
under_three short f g h k = refl

abbrev lefts : {A B : Type 0} → A → A ⊎ B
lefts a = inl a

abbrev rights : {A B : Type 0} → B → A ⊎ B
rights b = inr b

abbrev broken_of : Unit {0} → Node
broken_of u = Broken

abbrev expand_of : ℕ → Node
expand_of n = Expand n

abbrev bound_of : ℕ → Node
bound_of n = Bound n

abbrev chosen_of : ℕ → Node
chosen_of n = Chosen n

abbrev X : Lexeme → Bool
X = is_word (codes "X")

abbrev E : Lexeme → Bool
E = is_word (codes "E")

abbrev B : Lexeme → Bool
B = is_word (codes "B")

abbrev lettered : List ℕ → Rule ℕ
lettered letter = keyword letter ▸ any_number

abbrev node_at : (List Tok → Read (Unit {0})) → (List Tok → Read ℕ) → (List Tok → Read ℕ) → (List Tok → Read ℕ) → List Tok → Read Node
node_at f g h k ts = bind (either_at X f (λ ts. either_at E g (λ ts. either_at B h k ts) ts) ts) (λ a us. got (to_node a) us)

module _ (f : List Tok → Read (Unit {0})) (g : List Tok → Read ℕ) (h : List Tok → Read ℕ) (k : List Tok → Read ℕ) where
  at_broken : (ts : List Tok) → Peeked true X ts → node_at f g h k ts ≡ bind (f ts) (λ a us. got (broken_of a) us)
  at_broken [] a = absurd a
  at_broken (t ∷ ts) a = rw (← a) (under_one (f (t ∷ ts)) lefts to_node)

  at_expand : (ts : List Tok) → Peeked false X ts → Peeked true E ts → node_at f g h k ts ≡ bind (g ts) (λ a us. got (expand_of a) us)
  at_expand [] a b = absurd a
  at_expand (t ∷ ts) a b = rw (← a, ← b) (under_two (g (t ∷ ts)) lefts rights to_node)

  at_bound : (ts : List Tok) → Peeked false X ts → Peeked false E ts → Peeked true B ts → node_at f g h k ts ≡ bind (h ts) (λ a us. got (bound_of a) us)
  at_bound [] a b c = absurd a
  at_bound (t ∷ ts) a b c = rw (← a, ← b, ← c) (under_three (h (t ∷ ts)) lefts rights rights to_node)

  at_chosen : (ts : List Tok) → Peeked false X ts → Peeked false E ts → Peeked false B ts → node_at f g h k ts ≡ bind (k ts) (λ a us. got (chosen_of a) us)
  at_chosen [] a b c = absurd a
  at_chosen (t ∷ ts) a b c = rw (← a, ← b, ← c) (under_three (k (t ∷ ts)) rights rights rights to_node)

broken : (ts : List Tok) → Peeked true (is_word (codes "X")) ts → Part ((keyword (codes "X")).read kept ts) broken_of (node_rule.read kept ts)
unfolding node_rule
broken ts h0 = part_of ((keyword (codes "X")).read kept ts) broken_of (node_rule.read kept ts) (at_broken ((keyword (codes "X")).read kept) ((lettered (codes "E")).read kept) ((lettered (codes "B")).read kept) ((lettered (codes "P")).read kept) ts h0)

pub broken_value : (ts : List Tok) (a : Unit {0}) (vs : List Tok) → Peeked true (is_word (codes "X")) ts → (keyword (codes "X")).read kept ts ≡ got a vs → node_rule.read kept ts ≡ got (broken_of a) vs
broken_value ts a vs h0 e = (broken ts h0).value a vs e

pub broken_halt : (ts : List Tok) (x : Stop) → Peeked true (is_word (codes "X")) ts → Halts x ((keyword (codes "X")).read kept ts) → Halts x (node_rule.read kept ts)
broken_halt ts x h0 e = (broken ts h0).halt x e

expand : (ts : List Tok) → Peeked false (is_word (codes "X")) ts → Peeked true (is_word (codes "E")) ts → Part ((keyword (codes "E") ▸ any_number).read kept ts) expand_of (node_rule.read kept ts)
unfolding node_rule
expand ts h0 h1 = part_of ((keyword (codes "E") ▸ any_number).read kept ts) expand_of (node_rule.read kept ts) (at_expand ((keyword (codes "X")).read kept) ((lettered (codes "E")).read kept) ((lettered (codes "B")).read kept) ((lettered (codes "P")).read kept) ts h0 h1)

pub expand_value : (ts : List Tok) (a : ℕ) (vs : List Tok) → Peeked false (is_word (codes "X")) ts → Peeked true (is_word (codes "E")) ts → (keyword (codes "E") ▸ any_number).read kept ts ≡ got a vs → node_rule.read kept ts ≡ got (expand_of a) vs
expand_value ts a vs h0 h1 e = (expand ts h0 h1).value a vs e

pub expand_halt : (ts : List Tok) (x : Stop) → Peeked false (is_word (codes "X")) ts → Peeked true (is_word (codes "E")) ts → Halts x ((keyword (codes "E") ▸ any_number).read kept ts) → Halts x (node_rule.read kept ts)
expand_halt ts x h0 h1 e = (expand ts h0 h1).halt x e

bound : (ts : List Tok) → Peeked false (is_word (codes "X")) ts → Peeked false (is_word (codes "E")) ts → Peeked true (is_word (codes "B")) ts → Part ((keyword (codes "B") ▸ any_number).read kept ts) bound_of (node_rule.read kept ts)
unfolding node_rule
bound ts h0 h1 h2 = part_of ((keyword (codes "B") ▸ any_number).read kept ts) bound_of (node_rule.read kept ts) (at_bound ((keyword (codes "X")).read kept) ((lettered (codes "E")).read kept) ((lettered (codes "B")).read kept) ((lettered (codes "P")).read kept) ts h0 h1 h2)

pub bound_value : (ts : List Tok) (a : ℕ) (vs : List Tok) → Peeked false (is_word (codes "X")) ts → Peeked false (is_word (codes "E")) ts → Peeked true (is_word (codes "B")) ts → (keyword (codes "B") ▸ any_number).read kept ts ≡ got a vs → node_rule.read kept ts ≡ got (bound_of a) vs
bound_value ts a vs h0 h1 h2 e = (bound ts h0 h1 h2).value a vs e

pub bound_halt : (ts : List Tok) (x : Stop) → Peeked false (is_word (codes "X")) ts → Peeked false (is_word (codes "E")) ts → Peeked true (is_word (codes "B")) ts → Halts x ((keyword (codes "B") ▸ any_number).read kept ts) → Halts x (node_rule.read kept ts)
bound_halt ts x h0 h1 h2 e = (bound ts h0 h1 h2).halt x e

chosen : (ts : List Tok) → Peeked false (is_word (codes "X")) ts → Peeked false (is_word (codes "E")) ts → Peeked false (is_word (codes "B")) ts → Part ((keyword (codes "P") ▸ any_number).read kept ts) chosen_of (node_rule.read kept ts)
unfolding node_rule
chosen ts h0 h1 h2 = part_of ((keyword (codes "P") ▸ any_number).read kept ts) chosen_of (node_rule.read kept ts) (at_chosen ((keyword (codes "X")).read kept) ((lettered (codes "E")).read kept) ((lettered (codes "B")).read kept) ((lettered (codes "P")).read kept) ts h0 h1 h2)

pub chosen_value : (ts : List Tok) (a : ℕ) (vs : List Tok) → Peeked false (is_word (codes "X")) ts → Peeked false (is_word (codes "E")) ts → Peeked false (is_word (codes "B")) ts → (keyword (codes "P") ▸ any_number).read kept ts ≡ got a vs → node_rule.read kept ts ≡ got (chosen_of a) vs
chosen_value ts a vs h0 h1 h2 e = (chosen ts h0 h1 h2).value a vs e

pub chosen_halt : (ts : List Tok) (x : Stop) → Peeked false (is_word (codes "X")) ts → Peeked false (is_word (codes "E")) ts → Peeked false (is_word (codes "B")) ts → Halts x ((keyword (codes "P") ▸ any_number).read kept ts) → Halts x (node_rule.read kept ts)
chosen_halt ts x h0 h1 h2 e = (chosen ts h0 h1 h2).halt x e

-- the cases of a node
pub ruleset node_cases = (broken_value, broken_halt, expand_value, expand_halt, bound_value, bound_halt, chosen_value, chosen_halt)
