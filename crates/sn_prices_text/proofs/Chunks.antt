-- The text of a cost and prices as lexemes with the blanks after them, which are those that the grammar gives it.
use Rattle.std.proofs.Common.{◌≡◌, ℕ, ◌<◌, ◌≤◌, ◌^◌, Bool, true, false, cond, List, [], ◌∷◌, ◌++◌, map, max, Option, Some, None, refl, sym, ap, ◌∙◌, append_assoc, arith, inl, inr}
use Rattle.std.specs.Prelude.{codes, nat_le, ◌&&◌}
use Rattle.std.specs.Fmt.{decimal}
use Rattle.std.proofs.lemmas.Bool.Decides.{nat_tests}
use Rattle.std.proofs.lemmas.List.{map-append}
use Rattle.sn_text_rules.specs.declared.Flaw.TheVariants.{Expected}
use Rattle.sn_text_rules.specs.Tokens.{Lexeme, word, number, symbol, finish, Mark, mark_face, mark_faces}
use Rattle.sn_text_rules.specs.Rules.{kept, items_spelled, fit_from, closed}
use Rattle.sn_text_rules.specs.Words.{in_range, full}
use Rattle.sn_text.proofs.Lexemes.{AllFine}
use Rattle.sn_text.proofs.Chunks.{Chunk, chunk, text_of, face_of, Spaced}
use Rattle.sn_prices_grammar.specs.declared.prices.Mix.{Mix}
use Rattle.sn_prices_grammar.specs.declared.prices.Limit.{Limit}
use Rattle.sn_prices_grammar.specs.declared.prices.Limit.TheVariants.{Stages, Meta}
use Rattle.sn_prices_grammar.specs.declared.prices.Shown.{Shown}
use Rattle.sn_prices_grammar.specs.PricesGrammar.{mix_rule, maybe_mix_rule, span_rule, worth_rule, stages_rule, meta_rule, kind_rule, limit_rule, limits_rule, least_rule, shown_rule}
use Rattle.sn_prices_text.specs.PricesPrinting.{mix_text, worth_text, limit_text, limits_text, shown_text}

abbrev space : List ℕ
space = 32 ∷ []

abbrev line_end : List ℕ
line_end = 10 ∷ []

-- ---- the text

abbrev worth_chunks : ℕ → ℕ → List Chunk → List Chunk
worth_chunks divisor price later =
    chunk (word (codes "divisor")) space ∷ chunk (number divisor) space ∷ chunk (word (codes "price")) space ∷ chunk (number price) []
    ∷ chunk (symbol 2) line_end ∷ later

abbrev mix_chunks : Option Mix → List Chunk → List Chunk
mix_chunks None later = later
mix_chunks (Some m) later =
    chunk (word (codes "bits")) space ∷ chunk (number m.times) space ∷ chunk (word (codes "plus")) space ∷ chunk (number m.plus) space ∷ later

abbrev limit_chunks : Limit → List Chunk → List Chunk
limit_chunks (Stages l) later =
    chunk (word (codes "limit")) space ∷ chunk (word (codes "stages")) space ∷ chunk (number l.first) [] ∷ chunk (symbol 3) space
    ∷ chunk (number l.last) space ∷ mix_chunks l.mix (worth_chunks l.divisor l.price later)
limit_chunks (Meta l) later = chunk (word (codes "limit")) space ∷ chunk (word (codes "meta")) space ∷ worth_chunks l.divisor l.price later

abbrev limits_chunks : List Limit → List Chunk → List Chunk
limits_chunks [] later = later
limits_chunks (l ∷ ls) later = limit_chunks l (limits_chunks ls later)

abbrev least_chunks : ℕ → List Chunk
least_chunks n =
    chunk (word (codes "least")) space ∷ chunk (number n) [] ∷ chunk (symbol 2) line_end ∷ chunk (word (codes "done")) line_end ∷ []

abbrev pub shown_chunks : Shown → List Chunk
shown_chunks x =
    chunk (word (codes "cost")) space ∷ chunk (number x.cost) [] ∷ chunk (symbol 2) line_end ∷ chunk (word (codes "prices")) space
    ∷ chunk (number x.prices.scale) [] ∷ chunk (symbol 2) line_end ∷ limits_chunks x.prices.limits (least_chunks x.least)

three : (a b c t : List ℕ) → (a ++ b ++ c) ++ t ≡ a ++ (b ++ (c ++ t))
three a b c t = append_assoc (a ++ b) c t ∙ append_assoc a b (c ++ t)

four : (a b c d t : List ℕ) → (a ++ b ++ c ++ d) ++ t ≡ a ++ (b ++ (c ++ (d ++ t)))
four a b c d t = append_assoc (a ++ b ++ c) d t ∙ three a b c (d ++ t)

five : (a b c d e t : List ℕ) → (a ++ b ++ c ++ d ++ e) ++ t ≡ a ++ (b ++ (c ++ (d ++ (e ++ t))))
five a b c d e t = append_assoc (a ++ b ++ c ++ d) e t ∙ four a b c d (e ++ t)

six : (a b c d e f t : List ℕ) → (a ++ b ++ c ++ d ++ e ++ f) ++ t ≡ a ++ (b ++ (c ++ (d ++ (e ++ (f ++ t)))))
six a b c d e f t = append_assoc (a ++ b ++ c ++ d ++ e) f t ∙ five a b c d e (f ++ t)

-- after a blank
worth_is : (divisor price : ℕ) (later : List Chunk) → space ++ text_of (worth_chunks divisor price later) ≡ worth_text divisor price ++ text_of later
worth_is divisor price later = sym (five (codes " divisor ") (decimal divisor) (codes " price ") (decimal price) (codes ";\n") (text_of later))

mix_is : (m : Option Mix) (later : List Chunk) → space ++ text_of (mix_chunks m later) ≡ mix_text m ++ (space ++ text_of later)
mix_is None later = refl
mix_is (Some m) later = sym (four (codes " bits ") (decimal m.times) (codes " plus ") (decimal m.plus) (space ++ text_of later))

limit_is : (l : Limit) (later : List Chunk) → text_of (limit_chunks l later) ≡ limit_text l ++ text_of later
limit_is (Stages l) later =
    ap (λ (w : List ℕ). codes "limit stages " ++ (decimal l.first ++ (codes ", " ++ (decimal l.last ++ w))))
    (mix_is l.mix (worth_chunks l.divisor l.price later) ∙ ap (λ (w : List ℕ). mix_text l.mix ++ w) (worth_is l.divisor l.price later))
    ∙ sym (six (codes "limit stages ") (decimal l.first) (codes ", ") (decimal l.last) (mix_text l.mix) (worth_text l.divisor l.price) (text_of later))
limit_is (Meta l) later = ap (λ (w : List ℕ). codes "limit meta" ++ w) (worth_is l.divisor l.price later) ∙ sym (append_assoc (codes "limit meta") (worth_text l.divisor l.price) (text_of later))

limits_are : (ls : List Limit) (later : List Chunk) → text_of (limits_chunks ls later) ≡ limits_text ls ++ text_of later
limits_are [] later = refl
limits_are (l ∷ ls) later = limit_is l (limits_chunks ls later) ∙ ap (λ (w : List ℕ). limit_text l ++ w) (limits_are ls later) ∙ sym (append_assoc (limit_text l) (limits_text ls) (text_of later))

pub shown_is : (x : Shown) → text_of (shown_chunks x) ≡ shown_text x
shown_is x =
    let a : List ℕ = codes "cost " in
    let b : List ℕ = decimal x.cost in
    let c : List ℕ = codes ";\nprices " in
    let d : List ℕ = decimal x.prices.scale in
    let e : List ℕ = codes ";\n" in
    let f : List ℕ = limits_text x.prices.limits in
    let g : List ℕ = codes "least " in
    let h : List ℕ = decimal x.least in
    let i : List ℕ = codes ";\ndone\n" in
    ap (λ (w : List ℕ). a ++ (b ++ (c ++ (d ++ (e ++ w))))) (limits_are x.prices.limits (least_chunks x.least))
    ∙ sym (append_assoc (a ++ b ++ c ++ d ++ e ++ f ++ g) h i ∙ append_assoc (a ++ b ++ c ++ d ++ e ++ f) g (h ++ i) ∙ six a b c d e f (g ++ (h ++ i)))

-- ---- blanks

worth_spaced : (divisor price : ℕ) (later : List Chunk) → Spaced later → Spaced (worth_chunks divisor price later)
worth_spaced divisor price later s = (
  (inl refl, tt),
  inl (refl, refl, refl),
  ((inl refl, tt), inl (refl, refl, refl), ((inl refl, tt), inl (refl, refl, refl), (tt, inl (refl, refl, refl), ((inr refl, tt), inl (refl, refl, refl), s)))),
)

mix_spaced : (m : Option Mix) (later : List Chunk) → Spaced later → Spaced (mix_chunks m later)
mix_spaced None later s = s
mix_spaced (Some m) later s =
    ((inl refl, tt), inl (refl, refl, refl), ((inl refl, tt), inl (refl, refl, refl), ((inl refl, tt), inl (refl, refl, refl), ((inl refl, tt), inl (refl, refl, refl), s))))

limit_spaced : (l : Limit) (later : List Chunk) → Spaced later → Spaced (limit_chunks l later)
limit_spaced (Stages l) later s = (
  (inl refl, tt),
  inl (refl, refl, refl),
  (
    (inl refl, tt),
    inl (refl, refl, refl),
    (
      tt,
      inl (refl, refl, refl),
      (
        (inl refl, tt),
        inl (refl, refl, refl),
        ((inl refl, tt), inl (refl, refl, refl), mix_spaced l.mix (worth_chunks l.divisor l.price later) (worth_spaced l.divisor l.price later s)),
      ),
    ),
  ),
)
limit_spaced (Meta l) later s = ((inl refl, tt), inl (refl, refl, refl), ((inl refl, tt), inl (refl, refl, refl), worth_spaced l.divisor l.price later s))

limits_spaced : (ls : List Limit) (later : List Chunk) → Spaced later → Spaced (limits_chunks ls later)
limits_spaced [] later s = s
limits_spaced (l ∷ ls) later s = limit_spaced l (limits_chunks ls later) (limits_spaced ls later s)

least_spaced : (n : ℕ) → Spaced (least_chunks n)
least_spaced n =
    ((inl refl, tt), inl (refl, refl, refl), (tt, inl (refl, refl, refl), ((inr refl, tt), inl (refl, refl, refl), ((inr refl, tt), inl (refl, refl, refl), tt))))

pub shown_spaced : (x : Shown) → Spaced (shown_chunks x)
shown_spaced x = (
  (inl refl, tt),
  inl (refl, refl, refl),
  (
    tt,
    inl (refl, refl, refl),
    (
      (inr refl, tt),
      inl (refl, refl, refl),
      (
        (inl refl, tt),
        inl (refl, refl, refl),
        (tt, inl (refl, refl, refl), ((inr refl, tt), inl (refl, refl, refl), limits_spaced x.prices.limits (least_chunks x.least) (least_spaced x.least))),
      ),
    ),
  ),
)

-- ---- what the grammar gives

faces_append : (xs ys : List Mark) (zs : List Lexeme) → mark_faces (xs ++ ys) ++ zs ≡ mark_faces xs ++ (mark_faces ys ++ zs)
faces_append xs ys zs = ap (λ (l : List Lexeme). l ++ zs) (map-append mark_face xs ys) ∙ append_assoc (mark_faces xs) (mark_faces ys) zs

mix_faces : (m : Option Mix) (later : List Chunk) → mark_faces (maybe_mix_rule.spell m) ++ map face_of later ≡ map face_of (mix_chunks m later)
unfolding maybe_mix_rule mix_rule
mix_faces None later = refl
mix_faces (Some m) later = refl

worth_faces : (d p : ℕ) (later : List Chunk) → mark_faces (worth_rule.spell (d, p)) ++ map face_of later ≡ map face_of (worth_chunks d p later)
unfolding worth_rule
worth_faces d p later = refl

limit_faces : (l : Limit) (later : List Chunk) → mark_faces (limit_rule.spell l) ++ map face_of later ≡ map face_of (limit_chunks l later)
unfolding limit_rule kind_rule stages_rule meta_rule span_rule
limit_faces (Stages l) later =
    ap (λ (xs : List Lexeme). word (codes "limit") ∷ word (codes "stages") ∷ number l.first ∷ symbol 3 ∷ number l.last ∷ xs)
    (faces_append (maybe_mix_rule.spell l.mix) (worth_rule.spell (l.divisor, l.price)) (map face_of later)
    ∙ ap (λ (xs : List Lexeme). mark_faces (maybe_mix_rule.spell l.mix) ++ xs) (worth_faces l.divisor l.price later)
    ∙ mix_faces l.mix (worth_chunks l.divisor l.price later))
limit_faces (Meta l) later = ap (λ (xs : List Lexeme). word (codes "limit") ∷ word (codes "meta") ∷ xs) (worth_faces l.divisor l.price later)

items_faces : (ls : List Limit) (later : List Chunk) → mark_faces (items_spelled limit_rule.spell ls) ++ map face_of later ≡ map face_of (limits_chunks ls later)
items_faces [] later = refl
items_faces (l ∷ ls) later =
    faces_append (limit_rule.spell l) (items_spelled limit_rule.spell ls) (map face_of later) ∙ ap (λ (xs : List Lexeme). mark_faces (limit_rule.spell l) ++ xs) (items_faces ls later)
    ∙ limit_faces l (limits_chunks ls later)

least_faces : (n : ℕ) → mark_faces (least_rule.spell n) ≡ map face_of (least_chunks n) ++ finish ∷ []
unfolding least_rule
least_faces n = refl

limits_faces : (ls : List Limit) (n : ℕ) → mark_faces (limits_rule.spell ls ++ least_rule.spell n) ≡ map face_of (limits_chunks ls (least_chunks n)) ++ finish ∷ []
unfolding limits_rule
limits_faces ls n =
    map-append mark_face (items_spelled limit_rule.spell ls) (least_rule.spell n)
    ∙ ap (λ (xs : List Lexeme). mark_faces (items_spelled limit_rule.spell ls) ++ xs) (least_faces n)
    ∙ sym (append_assoc (mark_faces (items_spelled limit_rule.spell ls)) (map face_of (least_chunks n)) (finish ∷ []))
    ∙ ap (λ (xs : List Lexeme). xs ++ finish ∷ []) (items_faces ls (least_chunks n))

pub shown_faces : (x : Shown) → mark_faces (shown_rule.spell x) ≡ map face_of (shown_chunks x) ++ finish ∷ []
unfolding shown_rule
shown_faces x =
    ap (λ (xs : List Lexeme). word (codes "cost") ∷ number x.cost ∷ symbol 2 ∷ word (codes "prices") ∷ number x.prices.scale ∷ symbol 2 ∷ xs)
    (limits_faces x.prices.limits x.least)

-- ---- lexemes

-- a number that a rule takes has 64 bits where the rule's greatest has
in_bits : (low high n : ℕ) → high < 2 ^ 64 → closed kept (in_range low high n) ≡ None → n < 2 ^ 64
in_bits low high n h e = by_test (nat_le low n) (nat_le n high) refl e
  where
    below : nat_le n high ≡ true → n < 2 ^ 64
    below t = let k : n ≤ high = grind (arith, nat_tests) in omega arith

    by_test : (a b : Bool) → nat_le n high ≡ b → closed kept (cond (a && b) None (Some Expected)) ≡ None → n < 2 ^ 64
    by_test true true t f = below t
    by_test true false t f = absurd cc
    by_test false b t f = absurd cc

worth_fine : (d p : ℕ) (later : List Chunk) → worth_rule.fits kept (d, p) → AllFine (map face_of later) → AllFine (map face_of (worth_chunks d p later))
unfolding worth_rule
worth_fine d p later f s = (
  (refl, refl, (refl, (refl, (refl, (refl, (refl, (refl, (refl, tt)))))))),
  (
    in_bits 1 4294967295 d (omega arith) f.1.0,
    ((refl, refl, (refl, (refl, (refl, (refl, (refl, tt)))))), (in_bits 0 4294967295 p (omega arith) f.1.1.1.0, (omega arith, s))),
  ),
)

mix_fine : (m : Option Mix) (later : List Chunk) → maybe_mix_rule.fits kept m → AllFine (map face_of later) → AllFine (map face_of (mix_chunks m later))
unfolding maybe_mix_rule mix_rule
mix_fine None later f s = s
mix_fine (Some m) later f s = (
  (refl, refl, (refl, (refl, (refl, (refl, tt))))),
  (in_bits 0 4294967295 m.times (omega arith) f.1.0, ((refl, refl, (refl, (refl, (refl, (refl, tt))))), (in_bits 0 4294967295 m.plus (omega arith) f.1.1.1, s))),
)

last_small : (first : ℕ) → first < 2 ^ 64 → max first 31 < 2 ^ 64
last_small first h = omega arith

limit_fine : (l : Limit) (later : List Chunk) → limit_rule.fits kept l → AllFine (map face_of later) → AllFine (map face_of (limit_chunks l later))
unfolding limit_rule kind_rule stages_rule meta_rule span_rule
limit_fine (Stages l) later f s =
    let first = in_bits 0 31 l.first (omega arith) f.1.1.0.0 in
    let last = in_bits l.first (max l.first 31) l.last (last_small l.first first) f.1.1.0.1.1 in (
      (refl, refl, (refl, (refl, (refl, (refl, (refl, tt)))))),
      (
        (refl, refl, (refl, (refl, (refl, (refl, (refl, (refl, tt))))))),
        (first, (omega arith, (last, mix_fine l.mix (worth_chunks l.divisor l.price later) f.1.1.1.0 (worth_fine l.divisor l.price later f.1.1.1.1 s)))),
      ),
    )
limit_fine (Meta l) later f s =
    ((refl, refl, (refl, (refl, (refl, (refl, (refl, tt)))))), ((refl, refl, (refl, (refl, (refl, (refl, tt))))), worth_fine l.divisor l.price later f.1.1 s))

limits_fine : (seen ls : List Limit) (later : List Chunk) → fit_from (full 64 Expected) (λ (seen : List Limit). limit_rule) kept seen ls → AllFine (map face_of later)
    → AllFine (map face_of (limits_chunks ls later))
limits_fine seen [] later f s = s
limits_fine seen (l ∷ ls) later f s = limit_fine l (limits_chunks ls later) f.1 (limits_fine (seen ++ l ∷ []) ls later f.2 s)

all_fine : (ls : List Limit) (later : List Chunk) → limits_rule.fits kept ls → AllFine (map face_of later) → AllFine (map face_of (limits_chunks ls later))
unfolding limits_rule
all_fine ls later f s = limits_fine [] ls later f s

least_fine : (n : ℕ) → least_rule.fits kept n → AllFine (map face_of (least_chunks n))
unfolding least_rule
least_fine n f = (
  (refl, refl, (refl, (refl, (refl, (refl, (refl, tt)))))),
  (in_bits 0 18446744073709551615 n (omega arith) f.1.0.0.0, (omega arith, ((refl, refl, (refl, (refl, (refl, (refl, tt))))), tt))),
)

pub shown_fine : (x : Shown) → shown_rule.fits kept x → AllFine (map face_of (shown_chunks x))
unfolding shown_rule
shown_fine x f = (
  (refl, refl, (refl, (refl, (refl, (refl, tt))))),
  (
    in_bits 0 18446744073709551615 x.cost (omega arith) f.1.0.0,
    (
      omega arith,
      (
        (refl, refl, (refl, (refl, (refl, (refl, (refl, (refl, tt))))))),
        (
          in_bits 1 4294967295 x.prices.scale (omega arith) f.1.1.1.0.0,
          (omega arith, all_fine x.prices.limits (least_chunks x.least) f.1.1.1.1.0 (least_fine x.least f.1.1.1.1.1)),
        ),
      ),
    ),
  ),
)
