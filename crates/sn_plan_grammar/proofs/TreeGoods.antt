-- The rules of the tree text keep the laws.
use Rattle.std.proofs.Common.{◌≡◌, ℕ, Bool, true, false, cond, List, [], ◌∷◌, refl, ap, arith, inl, inr, ◌⊎◌}
use Rattle.std.specs.Prelude.{codes, not, ◌||◌}
use Rattle.sn_text_rules.specs.Tokens.{Lexeme, number, Tok, Mark, plain, Spelled}
use Rattle.sn_text_rules.specs.Rules.{aside, Rule, either}
use Rattle.sn_text_rules.specs.Words.{is_word, keyword, the_end, never, ◌▸◌, ◌◂◌, any_number}
use Rattle.sn_text_rules.proofs.Common.{Heads, bearers, bearers_spelled, both_made}
use Rattle.sn_text_rules.proofs.Laws.{Good, free_pair, freely, headed_follows}
use Rattle.sn_text_rules.proofs.Choices.{renamed_good, either_good}
use Rattle.sn_text_rules.proofs.Series.{Alike, many_good}
use Rattle.sn_text_rules.proofs.Words.{keyword_good, end_good, number_in_good, word_mark, same_self, before_sign, before_good, after_word, word_starts}
use Rattle.sn_tree_space.specs.declared.node.Node.{Node}
use Rattle.sn_tree_space.specs.declared.node.Node.TheVariants.{Expand, Bound, Broken, Chosen}
use Rattle.sn_plan_grammar.specs.TreeGrammar.{Parts, to_node, from_node, node_rule, begins, nodes_rule, tree_rule}

pub any_good : Good any_number
any_good = number_in_good 0 18446744073709551615 (omega arith)

-- ---- nodes

-- a letter and a number
abbrev lettered : List ℕ → Rule ℕ
lettered letter = keyword letter ▸ any_number

abbrev bound_on : Rule (ℕ ⊎ ℕ)
bound_on = either (is_word (codes "B")) (lettered (codes "B")) (lettered (codes "P"))

bound_on_good : Good bound_on
bound_on_good = either_good (is_word (codes "B")) (after_word (codes "B") any_good) (after_word (codes "P") any_good) (word_starts (codes "B") any_number) (record { heads = λ a f. refl })

abbrev expand_on : Rule (ℕ ⊎ (ℕ ⊎ ℕ))
expand_on = either (is_word (codes "E")) (lettered (codes "E")) bound_on

bound_heads : (a : ℕ ⊎ ℕ) → Heads (λ x. not (is_word (codes "E") x)) (bound_on.spell a)
bound_heads (inl n) = refl
bound_heads (inr n) = refl

expand_on_good : Good expand_on
expand_on_good = either_good (is_word (codes "E")) (after_word (codes "E") any_good) bound_on_good (word_starts (codes "E") any_number) (record { heads = λ a f. bound_heads a })

abbrev broken_on : Rule Parts
broken_on = either (is_word (codes "X")) (keyword (codes "X")) expand_on

expand_heads : (a : ℕ ⊎ (ℕ ⊎ ℕ)) → Heads (λ x. not (is_word (codes "X") x)) (expand_on.spell a)
expand_heads (inl n) = refl
expand_heads (inr (inl n)) = refl
expand_heads (inr (inr n)) = refl

broken_on_good : Good broken_on
broken_on_good = either_good (is_word (codes "X")) (keyword_good (codes "X")) expand_on_good (record { heads = λ a f. same_self (codes "X") }) (record { heads = λ a f. expand_heads a })

pub back : (a : Parts) → from_node (to_node a) ≡ a
back (inl u) = refl
back (inr (inl n)) = refl
back (inr (inr (inl n))) = refl
back (inr (inr (inr n))) = refl

forth : (b : Node) → to_node (from_node b) ≡ b
forth (Expand n) = refl
forth (Bound n) = refl
forth Broken = refl
forth (Chosen n) = refl

pub node_good : Good node_rule
unfolding node_rule
node_good = renamed_good to_node from_node back forth broken_on_good

node_free : (us : List Tok) → node_rule.follow us ≡ true
unfolding node_rule
node_free us = refl

node_heads : (a : Node) → Heads begins (node_rule.spell a)
unfolding node_rule
node_heads (Expand n) = refl
node_heads (Bound n) = refl
node_heads Broken = refl
node_heads (Chosen n) = refl

record Opens (t : Tok) : Type 0 where
  node : Node
  more : List Tok
  fits : node_rule.fits aside node
  spelled : Spelled (t ∷ more) (node_rule.spell node)

tail_of : List Mark → List Mark
tail_of [] = []
tail_of (m ∷ ms) = ms

opens_broken : (t : Tok) → is_word (codes "X") t.face ≡ true → Opens t
unfolding node_rule
opens_broken t e = record { node = Broken; more = []; fits = tt; spelled = (((word_mark (codes "X")).only t.face e, tt), tt) }

opens_expand : (t : Tok) → is_word (codes "E") t.face ≡ true → Opens t
unfolding node_rule
opens_expand t e = record { node = Expand 0; more = bearers (plain (number 0) ∷ []); fits = (tt, refl); spelled = (((word_mark (codes "E")).only t.face e, tt), bearers_spelled (plain (number 0) ∷ [])) }

opens_bound : (t : Tok) → is_word (codes "B") t.face ≡ true → Opens t
unfolding node_rule
opens_bound t e = record { node = Bound 0; more = bearers (plain (number 0) ∷ []); fits = (tt, refl); spelled = (((word_mark (codes "B")).only t.face e, tt), bearers_spelled (plain (number 0) ∷ [])) }

opens_chosen : (t : Tok) → is_word (codes "P") t.face ≡ true → Opens t
unfolding node_rule
opens_chosen t e = record { node = Chosen 0; more = bearers (plain (number 0) ∷ []); fits = (tt, refl); spelled = (((word_mark (codes "P")).only t.face e, tt), bearers_spelled (plain (number 0) ∷ [])) }

opens : (t : Tok) (a b d e : Bool) → is_word (codes "X") t.face ≡ a → is_word (codes "E") t.face ≡ b → is_word (codes "B") t.face ≡ d → is_word (codes "P") t.face ≡ e → (((a || b) || d) || e) ≡ true → Opens t
opens t true b d e f g h i j = opens_broken t f
opens t false true d e f g h i j = opens_expand t g
opens t false false true e f g h i j = opens_bound t h
opens t false false false true f g h i j = opens_chosen t i
opens t false false false false f g h i j = absurd cc

node_opens : (t : Tok) → begins t.face ≡ true → (a : Node) × (more : List Tok) × node_rule.fits aside a × Spelled (t ∷ more) (node_rule.spell a)
node_opens t e =
    let o = opens t (is_word (codes "X") t.face) (is_word (codes "E") t.face) (is_word (codes "B") t.face) (is_word (codes "P") t.face) refl refl refl refl e in
    (o.node, o.more, o.fits, o.spelled)

pub nodes_alike : Alike begins never (λ (seen : List Node). node_rule)
nodes_alike = record {
  good = λ seen. node_good;
  spells = λ seen a. refl;
  follows = λ seen us. refl;
  marked = λ t us e. node_free (t ∷ us);
  heads = λ seen a f. node_heads a;
  opens = λ seen t e. node_opens t e;
  bares = λ seen a. refl;
  steady = λ seen other e. (λ h. refl, λ a f. f);
}

-- ---- the text

pub nodes_good : Good nodes_rule
unfolding nodes_rule
nodes_good = many_good nodes_alike

done_ends : (x : Lexeme) → is_word (codes "done") x ≡ true → not (begins x) ≡ true
done_ends x e = ap (λ (y : Lexeme). not (begins y)) ((word_mark (codes "done")).only x e)

nodes_end : (t : Tok) (us : List Tok) → is_word (codes "done") t.face ≡ true → nodes_rule.follow (t ∷ us) ≡ true
unfolding nodes_rule
nodes_end t us e = both_made (not (begins t.face)) (node_rule.follow (t ∷ us)) (done_ends t.face e) (node_free (t ∷ us))

pub closed_good : Good (nodes_rule ◂ keyword (codes "done"))
closed_good = before_good nodes_good (keyword_good (codes "done")) (headed_follows nodes_rule (keyword (codes "done")) (is_word (codes "done")) (λ b f. same_self (codes "done")) nodes_end)

body_good : Good ((nodes_rule ◂ keyword (codes "done")) ◂ the_end)
body_good = before_good closed_good end_good (freely (nodes_rule ◂ keyword (codes "done")) the_end (λ us. refl))

pub tree_good : Good tree_rule
unfolding tree_rule
tree_good = after_word (codes "cost") (free_pair (before_sign 2 any_good (λ t us e. refl)) (after_word (codes "tree") body_good) (λ us. refl))

pub ends : tree_rule.follow [] ≡ true
unfolding tree_rule
ends = refl

-- ---- values hold no lines

node_bare : (a : Node) → node_rule.bare a ≡ a
unfolding node_rule
node_bare (Expand n) = refl
node_bare (Bound n) = refl
node_bare Broken = refl
node_bare (Chosen n) = refl

nodes_bare : (ns : List Node) → nodes_rule.bare ns ≡ ns
unfolding nodes_rule
nodes_bare [] = refl
nodes_bare (n ∷ ns) = let a = node_bare n in let b = nodes_bare ns in rw (a, b) refl

pub tree_bare : (x : ℕ × List Node) → tree_rule.bare x ≡ x
unfolding tree_rule
tree_bare x = let e = nodes_bare x.1 in rw e refl
