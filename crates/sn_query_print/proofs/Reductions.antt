-- How a reduction is spelled.
use Rattle.std.proofs.Common.{◌≡◌, ℕ, zero, suc, List, ◌∷◌, refl}
use Rattle.std.specs.Prelude.{codes}
use Rattle.sn_text_rules.specs.Tokens.{plain, word}
use Rattle.sn_query_grammar.specs.declared.ast.Reduce.{Reduce}
use Rattle.sn_query_grammar.specs.declared.ast.FoldWord.{FoldWord}
use Rattle.sn_query_grammar.specs.declared.ast.FoldWord.TheVariants as folds
use Rattle.sn_query_grammar.specs.Grammar.{fold_rule, reduce_rule}
use Rattle.sn_query_print.specs.Printing.{reduction_spelled}

abbrev made : FoldWord → List (List ℕ) → List ℕ → ℕ → Reduce
made f keys value width = record { keys = keys; fold = f; value = value; width = width }

spelled : (f : FoldWord) (keys : List (List ℕ)) (value : List ℕ) (width : ℕ) → plain (word (codes "reduce")) ∷ reduction_spelled f keys value width ≡ reduce_rule.spell (made f keys value width)
unfolding reduce_rule fold_rule
spelled folds.Sum keys value width = refl
spelled folds.Max keys value zero = refl
spelled folds.Max keys value (suc width) = refl
spelled folds.Min keys value zero = refl
spelled folds.Min keys value (suc width) = refl
spelled folds.Or keys value zero = refl
spelled folds.Or keys value (suc width) = refl

pub reduce_spelled : (r : Reduce) → plain (word (codes "reduce")) ∷ reduction_spelled r.fold r.keys r.value r.width ≡ reduce_rule.spell r
reduce_spelled r = spelled r.fold r.keys r.value r.width
