-- Names, comparisons and folds as the code reads them.
use Rattle.std.proofs.Common.{◌≡◌, ℕ, Bool, true, false, cond, List, [], ◌∷◌, length, Option, Some, None, Result, Ok, Err, refl, sym, ap, ◌∙◌}
use Rattle.std.specs.Prelude.{nat_lt, ◌==◌, ◌||◌}
use Rattle.std.specs.List.{list_any}
use Rattle.sn_text_rules.specs.declared.Flaw.TheVariants.{Expected, TooMany, Twice}
use Rattle.sn_text_rules.proofs.Common.{same_value, same_rest}
use Rattle.sn_text.specs.Lexing.{left}
use Rattle.sn_text.specs.declared.stop.Stop.{Stop}
use Rattle.sn_text.specs.declared.stop.Stop.TheVariants as stops
use Rattle.sn_text.specs.Reading.{Halts}
use Rattle.sn_query_grammar.specs.declared.ast.MapCol.{MapCol}
use Rattle.sn_query_grammar.specs.declared.ast.Query.{Query}
use Rattle.sn_query_grammar.specs.Grammar.{col_names, query_names}
use Rattle.sn_text_rules.specs.declared.Flaw.{Flaw}
use Rattle.sn_text_rules.specs.Tokens.{Lexeme, word, number, symbol, finish, bad, Tok, Read, got, fails}
use Rattle.sn_text_rules.specs.Rules.{kept, judged, token_at}
use Rattle.sn_text_rules.specs.Words.{same, judged_as, judged_by, word_in}
use Rattle.sn_text.proofs.Tokens.{Next, leaf_gives, leaf_halts}
use Rattle.sn_query_grammar.specs.declared.ast.Cmp.{Cmp}
use Rattle.sn_query_grammar.specs.declared.ast.FoldWord.{FoldWord}
use Rattle.sn_query_grammar.specs.Names.{is_keyword, name_not, name_test, cmp_in, any_cmp, fold_in, no_sum}

pub word_gives : (ts us : List Tok) (t : Tok) (w : List ℕ) → Next ts t us → Ok w ≡ judged_by (name_test []) kept t.face (word_in t.face) → token_at (λ t. judged_by (name_test []) kept t.face (word_in t.face)) ts ≡ got w us
word_gives = leaf_gives word_in refl refl (name_test [])

pub word_halts : (ts us : List Tok) (t : Tok) (x : Flaw) → Next ts t us → Err x ≡ judged_by (name_test []) kept t.face (word_in t.face) → token_at (λ t. judged_by (name_test []) kept t.face (word_in t.face)) ts ≡ fails x ts
word_halts = leaf_halts word_in refl refl (name_test [])

-- ---- a name that is none of those taken

abbrev flaw : Flaw → Option Flaw
flaw x = Some x

abbrev no_flaw : Option Flaw
no_flaw = None

abbrev tests : Bool → Bool → Bool → Option Flaw
tests k m n = cond k (flaw Expected) (cond m (flaw TooMany) (cond n (flaw Twice) no_flaw))

fresh_ok : (k m n : Bool) (w v : List ℕ) → judged_as w (tests k m false) ≡ Ok v → n ≡ false → judged_as w (tests k m n) ≡ Ok v
fresh_ok k m true w v e f = absurd cc
fresh_ok k m false w v e f = e

twice_err : (k m n : Bool) (w v : List ℕ) → judged_as w (tests k m false) ≡ Ok v → n ≡ true → judged_as w (tests k m n) ≡ Err Twice
twice_err true m n w v e f = absurd cc
twice_err false true n w v e f = absurd cc
twice_err false false true w v e f = refl
twice_err false false false w v e f = absurd cc

still_err : (k m n : Bool) (w : List ℕ) (x : Flaw) → judged_as w (tests k m false) ≡ Err x → judged_as w (tests k m n) ≡ Err x
still_err true m n w x e = e
still_err false true n w x e = e
still_err false false n w x e = absurd cc

ok_is : (k m : Bool) (w v : List ℕ) → judged_as w (tests k m false) ≡ Ok v → w ≡ v
ok_is true m w v e = absurd cc
ok_is false true w v e = absurd cc
ok_is false false w v e = cc

abbrev no_name : List ℕ → Bool
no_name w = is_keyword w || (length w == 0)

abbrev name_at : List (List ℕ) → List Tok → Read (List ℕ)
name_at taken ts = (name_not taken).read kept ts

abbrev judge : List (List ℕ) → Lexeme → Result (List ℕ) Flaw
judge taken x = judged_by (name_test taken) kept x (word_in x)

fresh_face : (taken : List (List ℕ)) (x : Lexeme) (w : List ℕ) → judge [] x ≡ Ok w → list_any (same w) taken ≡ false → judge taken x ≡ Ok w
fresh_face taken (word v) w e f = fresh_ok (no_name v) (nat_lt 32 (length v)) (list_any (same v) taken) v w e (ap (λ (u : List ℕ). list_any (same u) taken) (ok_is (no_name v) (nat_lt 32 (length v)) v w e) ∙ f)
fresh_face taken (number n) w e f = absurd cc
fresh_face taken (symbol k) w e f = absurd cc
fresh_face taken finish w e f = absurd cc
fresh_face taken bad w e f = absurd cc

twice_face : (taken : List (List ℕ)) (x : Lexeme) (w : List ℕ) → judge [] x ≡ Ok w → list_any (same w) taken ≡ true → judge taken x ≡ Err Twice
twice_face taken (word v) w e f = twice_err (no_name v) (nat_lt 32 (length v)) (list_any (same v) taken) v w e (ap (λ (u : List ℕ). list_any (same u) taken) (ok_is (no_name v) (nat_lt 32 (length v)) v w e) ∙ f)
twice_face taken (number n) w e f = absurd cc
twice_face taken (symbol k) w e f = absurd cc
twice_face taken finish w e f = absurd cc
twice_face taken bad w e f = absurd cc

still_face : (taken : List (List ℕ)) (y : Lexeme) (x : Flaw) → judge [] y ≡ Err x → judge taken y ≡ Err x
still_face taken (word v) x e = still_err (no_name v) (nat_lt 32 (length v)) (list_any (same v) taken) v x e
still_face taken (number n) x e = e
still_face taken (symbol k) x e = e
still_face taken finish x e = e
still_face taken bad x e = e

abbrev made : Result (List ℕ) Flaw → Tok → List Tok → Read (List ℕ)
made r t ts = judged r t ts

made_got : (r : Result (List ℕ) Flaw) (t : Tok) (ts us : List Tok) (w : List ℕ) → judged r t ts ≡ got w us → (r ≡ Ok w) × (ts ≡ us)
made_got (Ok v) t ts us w e = (ap Ok (same_value v w ts us e), same_rest v w ts us e)
made_got (Err x) t ts us w e = absurd cc

made_fails : (r : Result (List ℕ) Flaw) (t : Tok) (ts us : List Tok) (x : Flaw) → judged r t ts ≡ fails x us → (r ≡ Err x) × (t ∷ ts ≡ us)
made_fails (Ok v) t ts us x e = absurd cc
made_fails (Err y) t ts us x e = (cc, cc)

pub fresh_gives : (taken : List (List ℕ)) (ts us : List Tok) (w : List ℕ) → (name_not []).read kept ts ≡ got w us → false ≡ list_any (same w) taken → (name_not taken).read kept ts ≡ got w us
fresh_gives taken [] us w e f = absurd cc
fresh_gives taken (t ∷ ts) us w e f = let h = made_got (judge [] t.face) t ts us w e in rw (fresh_face taken t.face w h.0 (sym f), h.1) refl

pub twice_halts : (taken : List (List ℕ)) (ts us : List Tok) (w : List ℕ) → (name_not []).read kept ts ≡ got w us → true ≡ list_any (same w) taken → (name_not taken).read kept ts ≡ fails Twice ts
twice_halts taken [] us w e f = absurd cc
twice_halts taken (t ∷ ts) us w e f = let h = made_got (judge [] t.face) t ts us w e in rw (twice_face taken t.face w h.0 (sym f)) refl

still_fails : (taken : List (List ℕ)) (ts us : List Tok) (x : Flaw) → (name_not []).read kept ts ≡ fails x us → (name_not taken).read kept ts ≡ fails x us
still_fails taken [] us x e = absurd cc
still_fails taken (t ∷ ts) us x e = let h = made_fails (judge [] t.face) t ts us x e in rw (still_face taken t.face x h.0, ← h.1) refl

pub fresh_halts : (taken : List (List ℕ)) (ts : List Tok) (e : Stop) → Halts e ((name_not []).read kept ts) → Halts e ((name_not taken).read kept ts)
fresh_halts taken ts stops.NoMemory h = tt
fresh_halts taken ts (stops.Fault x l) h = still_fails taken ts (left l) x h

pub any_col : (w : List ℕ) (cols : List MapCol) → list_any (same w) (col_names cols) ≡ list_any (λ col. same w col.name) cols
any_col w [] = refl
any_col w (c ∷ cols) = ap (λ (b : Bool). same w c.name || b) (any_col w cols)

pub any_query : (w : List ℕ) (queries : List Query) → list_any (same w) (query_names queries) ≡ list_any (λ query. same w query.name) queries
any_query w [] = refl
any_query w (q ∷ queries) = ap (λ (b : Bool). same w q.name || b) (any_query w queries)

pub col_gives : (cols : List MapCol) (ts us : List Tok) (w : List ℕ) → (name_not []).read kept ts ≡ got w us → false ≡ list_any (λ col. same w col.name) cols → (name_not (col_names cols)).read kept ts ≡ got w us
col_gives cols ts us w e f = fresh_gives (col_names cols) ts us w e (f ∙ sym (any_col w cols))

pub col_twice : (cols : List MapCol) (ts us : List Tok) (w : List ℕ) → (name_not []).read kept ts ≡ got w us → true ≡ list_any (λ col. same w col.name) cols → (name_not (col_names cols)).read kept ts ≡ fails Twice ts
col_twice cols ts us w e f = twice_halts (col_names cols) ts us w e (f ∙ sym (any_col w cols))

pub query_gives : (queries : List Query) (ts us : List Tok) (w : List ℕ) → (name_not []).read kept ts ≡ got w us → false ≡ list_any (λ query. same w query.name) queries → (name_not (query_names queries)).read kept ts ≡ got w us
query_gives queries ts us w e f = fresh_gives (query_names queries) ts us w e (f ∙ sym (any_query w queries))

pub query_twice : (queries : List Query) (ts us : List Tok) (w : List ℕ) → (name_not []).read kept ts ≡ got w us → true ≡ list_any (λ query. same w query.name) queries → (name_not (query_names queries)).read kept ts ≡ fails Twice ts
query_twice queries ts us w e f = twice_halts (query_names queries) ts us w e (f ∙ sym (any_query w queries))

-- ---- comparisons and folds

pub cmp_gives : (ts us : List Tok) (t : Tok) (c : Cmp) → Next ts t us → Ok c ≡ judged_by any_cmp kept t.face (cmp_in t.face) → token_at (λ t. judged_by any_cmp kept t.face (cmp_in t.face)) ts ≡ got c us
cmp_gives = leaf_gives cmp_in refl refl any_cmp

pub cmp_halts : (ts us : List Tok) (t : Tok) (x : Flaw) → Next ts t us → Err x ≡ judged_by any_cmp kept t.face (cmp_in t.face) → token_at (λ t. judged_by any_cmp kept t.face (cmp_in t.face)) ts ≡ fails x ts
cmp_halts = leaf_halts cmp_in refl refl any_cmp

pub fold_gives : (ts us : List Tok) (t : Tok) (f : FoldWord) → Next ts t us → Ok f ≡ judged_by no_sum kept t.face (fold_in t.face) → token_at (λ t. judged_by no_sum kept t.face (fold_in t.face)) ts ≡ got f us
fold_gives = leaf_gives fold_in refl refl no_sum

pub fold_halts : (ts us : List Tok) (t : Tok) (x : Flaw) → Next ts t us → Err x ≡ judged_by no_sum kept t.face (fold_in t.face) → token_at (λ t. judged_by no_sum kept t.face (fold_in t.face)) ts ≡ fails x ts
fold_halts = leaf_halts fold_in refl refl no_sum
