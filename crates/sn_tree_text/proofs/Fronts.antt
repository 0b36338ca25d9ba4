-- Reading nodes one by one gives those that the grammar gives.
use Rattle.std.proofs.Common.{◌≡◌, ℕ, zero, suc, ◌+◌, ◌≤◌, Bool, true, false, cond, List, [], ◌∷◌, ◌++◌, length, refl, sym, ap, ◌∙◌, arith, inl, inr, append_assoc, append-nil, length-append}
use Rattle.std.specs.Prelude.{codes, ◌||◌}
use Rattle.sn_text_rules.specs.declared.Flaw.{Flaw}
use Rattle.sn_text_rules.specs.Tokens.{Tok, Read, got, fails, short, bind}
use Rattle.sn_text_rules.specs.Rules.{kept, links, links_at}
use Rattle.sn_text_rules.specs.Words.{is_word, never}
use Rattle.sn_text_rules.proofs.Common.{either_way, bind_got, same_value}
use Rattle.sn_text.specs.Cutting.{Place, skip, tok_at, after_at, is_last, tokens_at, tokens}
use Rattle.sn_text.specs.Reading.{Halts, Peeked}
use Rattle.sn_text.specs.declared.stop.Stop.{Stop}
use Rattle.sn_text.proofs.Loops.{over, turns, stops_at, shorter, halts_as}
use Rattle.sn_tree_space.specs.declared.node.Node.{Node}
use Rattle.sn_plan_grammar.specs.TreeGrammar.{begins, node_rule, nodes_rule}
use Rattle.sn_plan_grammar.proofs.TreeGoods.{nodes_alike}
use Rattle.sn_tree_text.specs.Fronts.{and_after, front_nodes, nodes_of}

-- ---- where no node begins

none_begins : (a b d e : Bool) → (((a || b) || d) || e) ≡ false → (a ≡ false) × (b ≡ false) × (d ≡ false) × (e ≡ false)
none_begins true b d e h = absurd cc
none_begins false true d e h = absurd cc
none_begins false false true e h = absurd cc
none_begins false false false true h = absurd cc
none_begins false false false false h = (refl, refl, refl, refl)

not_begun : (t : Tok) (ts : List Tok) (following : List Tok → List Node) → begins t.face ≡ false → and_after (node_rule.read kept (t ∷ ts)) following ≡ []
unfolding node_rule
not_begun t ts following h =
    let k = none_begins (is_word (codes "X") t.face) (is_word (codes "E") t.face) (is_word (codes "B") t.face) (is_word (codes "P") t.face) h in
    rw (k.0, k.1, k.2, k.3) refl

nothing_there : (following : List Tok → List Node) → and_after (node_rule.read kept []) following ≡ []
unfolding node_rule
nothing_there following = refl

-- ---- the number of steps doesn't matter where it is enough

pub fewer : (ts us : List Tok) (a : Node) → node_rule.read kept ts ≡ got a us → suc (length us) ≤ length ts
fewer ts us a e = shorter nodes_alike [] ts us a e

enough_by : (n k : ℕ) (r : Read Node) → ((a : Node) (us : List Tok) → r ≡ got a us → front_nodes n us ≡ front_nodes k us) → and_after r (λ us. front_nodes n us) ≡ and_after r (λ us. front_nodes k us)
enough_by n k (got a us) h = ap (λ ns. a ∷ ns) (h a us refl)
enough_by n k (fails x us) h = refl
enough_by n k short h = refl

enough : (n k : ℕ) (ts : List Tok) → length ts ≤ n → length ts ≤ k → front_nodes n ts ≡ front_nodes k ts
enough zero zero ts g h = refl
enough zero (suc k) [] g h = sym (nothing_there (λ us. front_nodes k us))
enough zero (suc k) (t ∷ ts) g h = absurd (omega arith)
enough (suc n) zero [] g h = nothing_there (λ us. front_nodes n us)
enough (suc n) zero (t ∷ ts) g h = absurd (omega arith)
enough (suc n) (suc k) ts g h = enough_by n k (node_rule.read kept ts) (λ a us e. let less = fewer ts us a e in enough n k us (omega arith) (omega arith))

-- ---- one node after another

pub one_more : (ts us : List Tok) (a : Node) → node_rule.read kept ts ≡ got a us → nodes_of ts ≡ a ∷ nodes_of us
unfolding nodes_of
one_more [] us a e = let less = fewer [] us a e in absurd (omega arith)
one_more (t ∷ ts) us a e =
    let less = fewer (t ∷ ts) us a e in
    ap (λ r. and_after r (λ vs. front_nodes (length ts) vs)) e ∙ ap (λ ns. a ∷ ns) (enough (length ts) (length us) us (omega arith) (omega arith))

-- no node is at the front where none can be read
pub none_more : (ts us : List Tok) (x : Flaw) → node_rule.read kept ts ≡ fails x us → nodes_of ts ≡ []
unfolding nodes_of
none_more [] us x e = refl
none_more (t ∷ ts) us x e = ap (λ r. and_after r (λ vs. front_nodes (length ts) vs)) e

-- ---- all nodes together

all_at : (n : ℕ) (seen : List Node) (ts us : List Tok) (ns : List Node) → links_at begins never (λ (seen : List Node). node_rule) kept n seen ts ≡ got ns us → ns ≡ seen ++ front_nodes n ts
all_at n seen [] us ns e = absurd cc
all_at zero seen (t ∷ ts) us ns e = absurd cc
all_at (suc n) seen (t ∷ ts) us ns e = elim (either_way (begins t.face)) [
  | inl d ↦ (let b = bind_got (node_rule.read kept (t ∷ ts)) (λ a vs. links_at begins never (λ (seen : List Node). node_rule) kept n (seen ++ a ∷ []) vs) ns us (sym (begun d) ∙ e) in
      all_at n (seen ++ b.0 ∷ []) b.1 us ns b.3 ∙ append_assoc seen (b.0 ∷ []) (front_nodes n b.1) ∙ sym (ap (λ r. seen ++ and_after r (λ vs. front_nodes n vs)) b.2))
  | inr d ↦ (let k : got seen (t ∷ ts) ≡ got ns us = sym (over d) ∙ e in
      sym (same_value seen ns (t ∷ ts) us k) ∙ sym (append-nil seen) ∙ sym (ap (λ l. seen ++ l) (not_begun t ts (λ vs. front_nodes n vs) d)))
]
  where
    begun : begins t.face ≡ true → links_at begins never (λ (seen : List Node). node_rule) kept (suc n) seen (t ∷ ts) ≡ bind (node_rule.read kept (t ∷ ts)) (λ a vs. links_at begins never (λ (seen : List Node). node_rule) kept n (seen ++ a ∷ []) vs)
    begun d = rw d refl

    over : begins t.face ≡ false → links_at begins never (λ (seen : List Node). node_rule) kept (suc n) seen (t ∷ ts) ≡ got seen (t ∷ ts)
    over d = rw d refl

-- what the grammar gives are the nodes at the front
pub all_there : (ts us : List Tok) (ns : List Node) → links begins never (λ (seen : List Node). node_rule) kept [] ts ≡ got ns us → ns ≡ nodes_of ts
unfolding links nodes_of
all_there ts us ns e = all_at (length ts) [] ts us ns e

-- ---- how many tokens there are

few_at : (n : ℕ) (p : Place) → length (tokens_at n p) ≤ n + 1
few_at zero p = omega arith
few_at (suc n) p = by_last (is_last (tok_at (skip p)).face) (few_at n (after_at (skip p)))
  where
    by_last : (b : Bool) → length (tokens_at n (after_at (skip p))) ≤ n + 1 → length (tok_at (skip p) ∷ cond b [] (tokens_at n (after_at (skip p)))) ≤ suc n + 1
    by_last true h = omega arith
    by_last false h = omega arith

pub few_tokens : (p : Place) → length (tokens p) ≤ length p.rest + 1
unfolding tokens
few_tokens p = few_at (length p.rest) p

-- ---- going past nodes

abbrev K : List Node → List Tok → Read (List Node)
K seen ts = links begins never (λ (seen : List Node). node_rule) kept seen ts

-- this many nodes were read of the tokens, and these are left
abbrev pub Past : List Tok → List Tok → ℕ → Type 0
Past ts us count = (ns : List Node) × (length ns ≡ count) × (K ns us ≡ K [] ts)

pub past_none : (ts : List Tok) → Past ts ts 0
past_none ts = ([], refl, refl)

pub past_more : (ts us vs : List Tok) (count : ℕ) (a : Node) → Past ts us count → Peeked true begins us → node_rule.read kept us ≡ got a vs → Past ts vs (count + 1)
past_more ts us vs count a p b e = (p.0 ++ a ∷ [], omega (arith, p.1, length-append p.0 (a ∷ [])), sym (turns nodes_alike p.0 us vs a b refl e) ∙ p.2)

pub past_all : (ts us : List Tok) (count : ℕ) → Past ts us count → Peeked false begins us → (count ≡ length (nodes_of ts)) × (nodes_rule.read kept ts ≡ got (nodes_of ts) us)
unfolding nodes_rule
past_all ts us count p b =
    let whole : K [] ts ≡ got p.0 us = sym p.2 ∙ over nodes_alike p.0 us b in
    let same = all_there ts us p.0 whole in
    (sym p.1 ∙ ap length same, whole ∙ ap (λ ns. got ns us) same)

pub past_stop : (ts us : List Tok) (count : ℕ) (e : Stop) → Past ts us count → Peeked true begins us → Halts e (node_rule.read kept us) → Halts e (nodes_rule.read kept ts)
unfolding nodes_rule
past_stop ts us count e p b h = halts_as e (K p.0 us) (K [] ts) (sym p.2) (stops_at nodes_alike p.0 us e b refl h)
