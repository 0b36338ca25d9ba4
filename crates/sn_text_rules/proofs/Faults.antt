-- What a reading says of a whole text, for every good rule.
use Rattle.std.proofs.Common.{◌≡◌, ℕ, suc, true, List, [], ◌∷◌, ◌++◌, length, refl, sym, ap, subst, ◌∙◌, arith, inl, inr, length-append}
use Rattle.std.proofs.lemmas.List.{append-nil, append_cancel_right}
use Rattle.sn_text_rules.specs.declared.Flaw.{Flaw}
use Rattle.sn_text_rules.specs.Tokens.{Tok, Spelled, Read, got, fails, short}
use Rattle.sn_text_rules.specs.Rules.{Limits, kept, aside, is_limit, Rule, Begins, Accepts, Started, FirstFault}
use Rattle.sn_text_rules.proofs.Common.{left, fails_same, same_value, respelled}
use Rattle.sn_text_rules.proofs.Laws.{Good}
use Rattle.sn_text_rules.proofs.Starts.{Start, Starting}

pub again_of : {A : Type 0} (r : Rule A) → Good r → r.follow [] ≡ true → (ts : List Tok) (a : A) → Accepts r ts a → r.read kept ts ≡ got a []
again_of r g ends ts a h = ap (r.read kept) (sym (append-nil ts)) ∙ g.again kept ts [] a h.fits h.spelled ends

known_at_once : {A : Type 0} (r : Rule A) → Good r → (l : Limits) (front rest more : List Tok) (t : Tok) (x : Flaw) (s : Read A) → r.read l (front ++ t ∷ []) ≡ s → r.read l ((front ++ t ∷ []) ++ rest) ≡ fails x (t ∷ rest) → (y : Flaw) × (us : List Tok) × (r.read l ((front ++ t ∷ []) ++ more) ≡ fails y us)
known_at_once r g l front rest more t x (got a us) e f = (let k : got a (us ++ rest) ≡ fails x (t ∷ rest) = sym (g.got_more l (front ++ t ∷ []) rest us a e) ∙ f in absurd cc)
known_at_once r g l front rest more t x (fails y us) e f = (y, us ++ more, g.fails_more l (front ++ t ∷ []) more us y e)
known_at_once {A} r g l front rest more t x short e f =
    let k = g.later l (front ++ t ∷ []) rest e in
    let n : left (r.read l ((front ++ t ∷ []) ++ rest)) ≡ suc (length rest) = ap left f in
    absurd (omega arith)

abbrev pub cut : List Tok → Tok → List Tok → List Tok
cut front t rest = (front ++ t ∷ []) ++ rest

pub regroup : (front rest : List Tok) (t : Tok) → cut front t rest ≡ front ++ t ∷ rest
regroup [] rest t = refl
regroup (a ∷ front) rest t = ap (λ (r : List Tok). a ∷ r) (regroup front rest t)

-- no text of the grammar begins with the tokens up to the faulty one
pub fault_refuses : {A : Type 0} (r : Rule A) → Good r → r.follow [] ≡ true → (l : Limits) (front rest more : List Tok) (t : Tok) (x : Flaw) → r.read l (cut front t rest) ≡ fails x (t ∷ rest) → (a : A) → r.fits l a → Spelled (cut front t more) (r.spell a) → ⊥
fault_refuses r g ends l front rest more t x e a fits spelled =
    let k = known_at_once r g l front rest more t x (r.read l (front ++ t ∷ [])) refl e in
    let h : r.read l (cut front t more ++ []) ≡ got a [] = g.again l (cut front t more) [] a fits spelled ends in
    let j : fails k.0 k.1 ≡ got a [] = sym k.2 ∙ ap (r.read l) (sym (append-nil (cut front t more))) ∙ h in
    absurd cc

-- the tokens before it are read without a fault
before_fault : {A : Type 0} (r : Rule A) → Good r → (front rest : List Tok) (t : Tok) (x : Flaw) → r.read kept (front ++ t ∷ rest) ≡ fails x (t ∷ rest) → r.read kept front ≡ short
before_fault {A} r g front rest t x e = go (r.read kept front) refl
  where
    go : (s : Read A) → r.read kept front ≡ s → r.read kept front ≡ short
    go (got a us) f = (let k : got a (us ++ t ∷ rest) ≡ fails x (t ∷ rest) = sym (g.got_more kept front (t ∷ rest) us a f) ∙ e in absurd cc)
    go (fails y us) f =
        let k = fails_same {A = A} y x (us ++ t ∷ rest) (t ∷ rest) (sym (g.fails_more kept front (t ∷ rest) us y f) ∙ e) in
        let s = g.stands kept front us y f in
        absurd (omega (arith, ap length k.1, length-append us (t ∷ rest), ap length s.head))
    go short f = f

-- they begin a text of the grammar, limits aside
pub fault_begins : {A : Type 0} (r : Rule A) → Good r → (front rest : List Tok) (t : Tok) (x : Flaw) → r.read kept (front ++ t ∷ rest) ≡ fails x (t ∷ rest) → Begins r front
fault_begins r g front rest t x e = g.begins kept front (before_fault r g front rest t x e)

-- no accepted text goes on after a comma where no token can stand
started_of : {A : Type 0} (r : Rule A) → Good r → r.follow [] ≡ true → (ts : List Tok) → r.read kept ts ≡ short → Start r ts → Started r ts
started_of r g ends ts e (inl b) = inl b
started_of {A} r g ends ts e (inr h) = inr (record { fore = h.fore; comma = h.comma; parts = h.parts; is_comma = h.is_comma; begins = h.begins; stops = λ b. stops b.more b.value b.accepted })
  where
    stops : (more : List Tok) (a : A) → Accepts r (ts ++ more) a → ⊥
    stops [] a k = let j : got a [] ≡ short = sym (again_of r g ends (ts ++ []) a k) ∙ ap (r.read kept) (append-nil ts) ∙ e in cc
    stops (t ∷ rest) a k =
        let s = h.shut t rest in
        let j : got a [] ≡ fails s.0 (t ∷ rest) = sym (again_of r g ends (ts ++ t ∷ rest) a k) ∙ s.1 in
        cc

-- and within the limits too
fault_within : {A : Type 0} (r : Rule A) → Good r → Starting r → r.follow [] ≡ true → (front rest : List Tok) (t : Tok) (x : Flaw) → r.read kept (front ++ t ∷ rest) ≡ fails x (t ∷ rest) → Started r front
fault_within r g s ends front rest t x e = let k = before_fault r g front rest t x e in started_of r g ends front k (s.starts front k)

rest_is : (t u : Tok) (ts us : List Tok) → t ∷ ts ≡ u ∷ us → us ≡ ts
rest_is t u ts us e = cc

-- a fault against a limit stands at a token that goes on a text, limits aside
pub fault_limit : {A : Type 0} (r : Rule A) → Good r → (front rest : List Tok) (t : Tok) (x : Flaw) → is_limit x ≡ true → r.read kept (cut front t rest) ≡ fails x (t ∷ rest) → Begins r (front ++ t ∷ [])
fault_limit r g front rest t x n e =
    let k = g.tells (cut front t rest) (t ∷ rest) x n e in
    let same : k.rest ≡ rest = rest_is t k.at rest k.rest k.head in
    let upto : k.upto ≡ front ++ t ∷ [] = append_cancel_right k.upto (front ++ t ∷ []) rest (sym (k.parts ∙ ap (λ (us : List Tok). k.upto ++ us) same)) in
    record { value = k.value; more = k.more; fits = k.fits; spelled = respelled (k.upto ++ k.more) ((front ++ t ∷ []) ++ k.more) (r.spell k.value) (ap (λ (s : List Tok). s ++ k.more) upto) k.spelled }

tail_is : (us : List Tok) (t : Tok) (l : List Tok) (at : Tok) (rest : List Tok) → us ≡ t ∷ l → us ≡ at ∷ rest → at ≡ t
tail_is us t l at rest e f = let k : at ∷ rest ≡ t ∷ l = sym f ∙ e in cc

pub fault_of : {A : Type 0} (r : Rule A) → Good r → Starting r → r.follow [] ≡ true → (ts us l : List Tok) (t : Tok) (x : Flaw) → r.read kept ts ≡ fails x us → us ≡ t ∷ l → FirstFault r ts x t.line t.column
fault_of r g starts ends ts us l t x e h =
    let s = g.stands kept ts us x e in
    let same = tail_is us t l s.at s.rest h s.head in
    let whole : ts ≡ s.front ++ s.at ∷ s.rest = s.parts ∙ ap (λ (v : List Tok). s.front ++ v) s.head in
    let here : r.read kept (s.front ++ s.at ∷ s.rest) ≡ fails x (s.at ∷ s.rest) = ap (r.read kept) (sym whole) ∙ e ∙ ap (fails x) s.head in
    let there : r.read kept (cut s.front s.at s.rest) ≡ fails x (s.at ∷ s.rest) = ap (r.read kept) (regroup s.front s.rest s.at) ∙ here in
    record {
      front = s.front;
      at = s.at;
      rest = s.rest;
      parts = whole;
      line_is = ap (λ (a : Tok). a.line) same;
      column_is = ap (λ (a : Tok). a.column) same;
      refuses = λ more v a. fault_refuses r g ends kept s.front s.rest more s.at x there v a.fits a.spelled;
      begins = fault_begins r g s.front s.rest s.at x here;
      within = fault_within r g starts ends s.front s.rest s.at x here;
      form = λ n more v f a. fault_refuses r g ends aside s.front s.rest more s.at x (g.refuses (cut s.front s.at s.rest) (s.at ∷ s.rest) x n there) v f a;
      limit = λ n. fault_limit r g s.front s.rest s.at x n there;
      kind = e ∙ ap (fails x) s.head;
    }

-- ---- what is read of a whole text

pub found_of : {A : Type 0} (r : Rule A) → Good r → (ts : List Tok) (a : A) → r.read kept ts ≡ got a [] → Accepts r ts a
found_of r g ts a e =
    let k = g.takes kept ts [] a e in
    record { spelled = respelled k.front ts (r.spell a) (sym (k.parts ∙ append-nil k.front)) k.spelled; fits = g.fitting kept ts [] a e }

pub only_of : {A : Type 0} (r : Rule A) → Good r → r.follow [] ≡ true → (ts : List Tok) (a b : A) → r.read kept ts ≡ got a [] → Accepts r ts b → a ≡ b
only_of r g ends ts a b e h = same_value a b [] [] (sym e ∙ again_of r g ends ts b h)

pub none_of : {A : Type 0} (r : Rule A) → Good r → r.follow [] ≡ true → (ts us : List Tok) (x : Flaw) (a : A) → r.read kept ts ≡ fails x us → Accepts r ts a → ⊥
none_of r g ends ts us x a e h = let k : got a [] ≡ fails x us = sym (again_of r g ends ts a h) ∙ e in cc

-- ---- at most one fault, and none beside a value

pub record SameFault (x y : Flaw) (line other column across : ℕ) : Type 0 where
  pub flaw : x ≡ y
  pub line_is : line ≡ other
  pub column_is : column ≡ across

pub same_fault : {A : Type 0} {r : Rule A} {ts : List Tok} {x y : Flaw} {line other column across : ℕ} → FirstFault r ts x line column → FirstFault r ts y other across → SameFault x y line other column across
same_fault {A} {x = x} {y = y} f g =
    let both = fails_same {A = A} x y (f.at ∷ f.rest) (g.at ∷ g.rest) (sym f.kind ∙ g.kind) in
    let at : f.at ≡ g.at = head_is f.at g.at f.rest g.rest both.1 in
    record { flaw = both.0; line_is = sym f.line_is ∙ ap (λ (t : Tok). t.line) at ∙ g.line_is; column_is = sym f.column_is ∙ ap (λ (t : Tok). t.column) at ∙ g.column_is }
  where
    head_is : (t u : Tok) (ts us : List Tok) → t ∷ ts ≡ u ∷ us → t ≡ u
    head_is t u ts us e = cc

pub not_both : {A : Type 0} {r : Rule A} {ts : List Tok} {x : Flaw} {line column : ℕ} (a : A) → FirstFault r ts x line column → Accepts r ts a → ⊥
not_both {r = r} a f h = f.refuses f.rest a (subst (λ (us : List Tok). Accepts r us a) (f.parts ∙ sym (regroup f.front f.rest f.at)) h)
