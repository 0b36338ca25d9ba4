-- The single tokens of the query text keep the laws.
use Rattle.std.proofs.Common.{◌≡◌, ℕ, Bool, true, false, cond, List, [], length, Option, Some, None, Result, Err, refl, sym, ap, ◌∙◌, arith}
use Rattle.std.specs.Prelude.{nat_lt, nat_le, codes, ◌==◌, ◌||◌, ◌&&◌}
use Rattle.std.specs.Cmp.Lexicographic.{same_text}
use Rattle.std.specs.List.{list_any}
use Rattle.std.proofs.lemmas.Bool.{eqb-true}
use Rattle.sn_text_rules.specs.declared.Flaw.{Flaw}
use Rattle.sn_text_rules.specs.declared.Flaw.TheVariants.{Expected, TooMany, Twice}
use Rattle.sn_text_rules.specs.Tokens.{Lexeme, word, number, symbol, finish, bad}
use Rattle.sn_text_rules.specs.Rules.{aside, is_limit, closed}
use Rattle.sn_text_rules.specs.Words.{same, judged_as, judged_by, word_in, number_at, in_range, number_in, any_number}
use Rattle.sn_text_rules.proofs.Laws.{Good}
use Rattle.sn_text_rules.proofs.Choices.{Past}
use Rattle.sn_text_rules.proofs.Words.{Stands_for, leaf_good, word_by_good, number_in_good}
use Rattle.sn_query_grammar.specs.declared.ast.Cmp.{Cmp}
use Rattle.sn_query_grammar.specs.declared.ast.Cmp.TheVariants as cmps
use Rattle.sn_query_grammar.specs.declared.ast.FoldWord.{FoldWord}
use Rattle.sn_query_grammar.specs.declared.ast.FoldWord.TheVariants as folds
use Rattle.sn_query_grammar.specs.Names.{is_keyword, name_test, name_not, past_name, past_number, cmp_sign, cmp_face, cmp_in, any_cmp, comparison, fold_text, fold_face, fold_in, no_sum, plain_fold}

-- ---- names

abbrev some_flaw : Flaw → Option Flaw
some_flaw x = Some x

abbrev no_flaw : Option Flaw
no_flaw = None

tested_aside : (k m n : Bool) → k ≡ false → closed aside (cond k (some_flaw Expected) (cond m (some_flaw TooMany) (cond n (some_flaw Twice) no_flaw))) ≡ None
tested_aside true m n e = absurd cc
tested_aside false true n e = refl
tested_aside false false true e = refl
tested_aside false false false e = refl

refused_aside : (k m n : Bool) → k ≡ true → closed aside (cond k (some_flaw Expected) (cond m (some_flaw TooMany) (cond n (some_flaw Twice) no_flaw))) ≡ Some Expected
refused_aside true m n e = refl
refused_aside false m n e = absurd cc

abbrev no_name : List ℕ → Bool
no_name w = is_keyword w || (length w == 0)

pub name_aside : (seen : List (List ℕ)) (w : List ℕ) → no_name w ≡ false → closed aside (name_test seen w) ≡ None
name_aside seen w e = tested_aside (no_name w) (nat_lt 32 (length w)) (list_any (same w) seen) e

abbrev pub some_name : List ℕ
some_name = codes "a"

pub name_good : (seen : List (List ℕ)) → Good (name_not seen)
name_good seen = word_by_good (name_test seen) (some_name, name_aside seen some_name refl)

no_limit : (k : Bool) → is_limit (cond k Expected TooMany) ≡ false → k ≡ true
no_limit true e = refl
no_limit false e = absurd cc

a_limit : (k : Bool) → is_limit (cond k Expected TooMany) ≡ true → k ≡ false
a_limit true e = absurd cc
a_limit false e = refl

abbrev errs : {A : Type 0} → Flaw → Result A Flaw
errs x = Err x

no_name_face : (seen : List (List ℕ)) (y : Lexeme) → is_limit (past_name y) ≡ false → judged_by (name_test seen) aside y (word_in y) ≡ Err (past_name y)
no_name_face seen (word w) n =
    let k = no_limit (no_name w) n in
    let h : closed aside (name_test seen w) ≡ Some Expected = refused_aside (no_name w) (nat_lt 32 (length w)) (list_any (same w) seen) k in
    ap (judged_as w) h ∙ ap (λ (b : Bool). errs (cond b Expected TooMany)) (sym k)
no_name_face seen (number m) n = refl
no_name_face seen (symbol k) n = refl
no_name_face seen finish n = refl
no_name_face seen bad n = refl

name_face : (y : Lexeme) → is_limit (past_name y) ≡ true → (w : List ℕ) × (no_name w ≡ false) × (y ≡ word w)
name_face (word w) n = (w, a_limit (no_name w) n, refl)
name_face (number m) n = absurd cc
name_face (symbol k) n = absurd cc
name_face finish n = absurd cc
name_face bad n = absurd cc

pub name_past : (seen : List (List ℕ)) → Past past_name (name_not seen)
name_past seen = record {
  no_item = λ t ts n. rw (no_name_face seen t.face n) refl;
  item = λ t n. let k = name_face t.face n in (k.0, [], name_aside seen k.0 k.1, ((k.2, tt), tt));
}

-- ---- numbers

pub any_good : Good any_number
any_good = number_in_good 0 18446744073709551615 (omega arith)

in_or_out : (b : Bool) → b ≡ false → closed aside (cond b no_flaw (some_flaw Expected)) ≡ Some Expected
in_or_out true e = absurd cc
in_or_out false e = refl

in_range_so : (b : Bool) → b ≡ true → closed aside (cond b no_flaw (some_flaw Expected)) ≡ None
in_range_so true e = refl
in_range_so false e = absurd cc

no_more_number : (b : Bool) → is_limit (cond b TooMany Expected) ≡ false → b ≡ false
no_more_number true e = absurd cc
no_more_number false e = refl

a_number : (b : Bool) → is_limit (cond b TooMany Expected) ≡ true → b ≡ true
a_number true e = refl
a_number false e = absurd cc

abbrev inside : ℕ → ℕ → ℕ → Bool
inside low high n = nat_le low n && nat_le n high

no_number_face : (low high : ℕ) (y : Lexeme) → is_limit (past_number low high y) ≡ false → judged_by (in_range low high) aside y (number_at y) ≡ Err (past_number low high y)
no_number_face low high (word w) n = refl
no_number_face low high (number m) n =
    let k = no_more_number (inside low high m) n in
    ap (judged_as m) (in_or_out (inside low high m) k) ∙ ap (λ (b : Bool). errs (cond b TooMany Expected)) (sym k)
no_number_face low high (symbol k) n = refl
no_number_face low high finish n = refl
no_number_face low high bad n = refl

number_face : (low high : ℕ) (y : Lexeme) → is_limit (past_number low high y) ≡ true → (m : ℕ) × (closed aside (in_range low high m) ≡ None) × (y ≡ number m)
number_face low high (word w) n = absurd cc
number_face low high (number m) n = (m, in_range_so (inside low high m) (a_number (inside low high m) n), refl)
number_face low high (symbol k) n = absurd cc
number_face low high finish n = absurd cc
number_face low high bad n = absurd cc

pub number_past : (low high : ℕ) → Past (past_number low high) (number_in low high)
number_past low high = record {
  no_item = λ t ts n. rw (no_number_face low high t.face n) refl;
  item = λ t n. let k = number_face low high t.face n in (k.0, [], k.1, ((k.2, tt), tt));
}

-- ---- comparisons

cmp_undone : (c : Cmp) → cmp_in (cmp_face c) ≡ Some c
cmp_undone cmps.Eq = refl
cmp_undone cmps.Ne = refl
cmp_undone cmps.Lt = refl
cmp_undone cmps.Le = refl
cmp_undone cmps.Gt = refl
cmp_undone cmps.Ge = refl

abbrev some_cmp : Cmp → Option Cmp
some_cmp c = Some c

cmp_is : (a b d e f g : Bool) (k : ℕ) (c : Cmp) → (a ≡ true → k ≡ 12) → (b ≡ true → k ≡ 13) → (d ≡ true → k ≡ 14) → (e ≡ true → k ≡ 15) → (f ≡ true → k ≡ 16) → (g ≡ true → k ≡ 17)
    → cond a (some_cmp cmps.Eq) (cond b (some_cmp cmps.Ne) (cond d (some_cmp cmps.Lt) (cond e (some_cmp cmps.Le) (cond f (some_cmp cmps.Gt) (cond g (some_cmp cmps.Ge) None))))) ≡ Some c → k ≡ cmp_sign c
cmp_is true b d e f g k c h1 h2 h3 h4 h5 h6 r = let x : cmps.Eq ≡ c = cc in h1 refl ∙ ap cmp_sign x
cmp_is false true d e f g k c h1 h2 h3 h4 h5 h6 r = let x : cmps.Ne ≡ c = cc in h2 refl ∙ ap cmp_sign x
cmp_is false false true e f g k c h1 h2 h3 h4 h5 h6 r = let x : cmps.Lt ≡ c = cc in h3 refl ∙ ap cmp_sign x
cmp_is false false false true f g k c h1 h2 h3 h4 h5 h6 r = let x : cmps.Le ≡ c = cc in h4 refl ∙ ap cmp_sign x
cmp_is false false false false true g k c h1 h2 h3 h4 h5 h6 r = let x : cmps.Gt ≡ c = cc in h5 refl ∙ ap cmp_sign x
cmp_is false false false false false true k c h1 h2 h3 h4 h5 h6 r = let x : cmps.Ge ≡ c = cc in h6 refl ∙ ap cmp_sign x
cmp_is false false false false false false k c h1 h2 h3 h4 h5 h6 r = absurd cc

cmp_only : (x : Lexeme) (c : Cmp) → cmp_in x ≡ Some c → x ≡ cmp_face c
cmp_only (word w) c e = absurd cc
cmp_only (number n) c e = absurd cc
cmp_only (symbol k) c e = ap symbol (cmp_is (k == 12) (k == 13) (k == 14) (k == 15) (k == 16) (k == 17) k c (eqb-true k 12) (eqb-true k 13) (eqb-true k 14) (eqb-true k 15) (eqb-true k 16) (eqb-true k 17) e)
cmp_only finish c e = absurd cc
cmp_only bad c e = absurd cc

pub comparisons_stand : Stands_for cmp_face cmp_in
comparisons_stand = record { undone = cmp_undone; only = cmp_only }

pub comparison_good : Good comparison
comparison_good = leaf_good cmp_face cmp_in comparisons_stand any_cmp (cmps.Eq, refl)

-- ---- folds

fold_undone : (f : FoldWord) → fold_in (fold_face f) ≡ Some f
fold_undone folds.Sum = refl
fold_undone folds.Max = refl
fold_undone folds.Min = refl
fold_undone folds.Or = refl

abbrev some_fold : FoldWord → Option FoldWord
some_fold f = Some f

fold_is : (a b d e : Bool) (w : List ℕ) (f : FoldWord) → (a ≡ true → w ≡ codes "sum") → (b ≡ true → w ≡ codes "max") → (d ≡ true → w ≡ codes "min") → (e ≡ true → w ≡ codes "or")
    → cond a (some_fold folds.Sum) (cond b (some_fold folds.Max) (cond d (some_fold folds.Min) (cond e (some_fold folds.Or) None))) ≡ Some f → w ≡ fold_text f
fold_is true b d e w f h1 h2 h3 h4 r = let x : folds.Sum ≡ f = cc in h1 refl ∙ ap fold_text x
fold_is false true d e w f h1 h2 h3 h4 r = let x : folds.Max ≡ f = cc in h2 refl ∙ ap fold_text x
fold_is false false true e w f h1 h2 h3 h4 r = let x : folds.Min ≡ f = cc in h3 refl ∙ ap fold_text x
fold_is false false false true w f h1 h2 h3 h4 r = let x : folds.Or ≡ f = cc in h4 refl ∙ ap fold_text x
fold_is false false false false w f h1 h2 h3 h4 r = absurd cc

fold_only : (x : Lexeme) (f : FoldWord) → fold_in x ≡ Some f → x ≡ fold_face f
fold_only (word w) f e = ap word (fold_is (same w (codes "sum")) (same w (codes "max")) (same w (codes "min")) (same w (codes "or")) w f
    (λ h. same_text w (codes "sum") (sym h)) (λ h. same_text w (codes "max") (sym h)) (λ h. same_text w (codes "min") (sym h)) (λ h. same_text w (codes "or") (sym h)) e)
fold_only (number n) f e = absurd cc
fold_only (symbol k) f e = absurd cc
fold_only finish f e = absurd cc
fold_only bad f e = absurd cc

pub folds_stand : Stands_for fold_face fold_in
folds_stand = record { undone = fold_undone; only = fold_only }

pub plain_fold_good : Good plain_fold
plain_fold_good = leaf_good fold_face fold_in folds_stand no_sum (folds.Max, refl)
