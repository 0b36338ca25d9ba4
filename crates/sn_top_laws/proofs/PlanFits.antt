-- A plan that fits is one of the grammar of plans, and its lexemes can be written.
use Rattle.std.proofs.Common.{◌≡◌, ℕ, ◌+◌, ◌≤◌, ◌<◌, true, false, List, [], ◌∷◌, ◌++◌, length, map, nat_le, nat_lt, None, refl, sym, subst, arith, length-append}
use Rattle.std.specs.Prelude.{◌==◌, codes}
use Rattle.std.specs.List.{AllByRecursion}
use Rattle.std.proofs.lemmas.Bool.Decides.{nat_tests}
use Rattle.sn_base.proofs.Lists.{all_weaker}
use Rattle.sn_text_rules.specs.declared.Flaw.TheVariants.{Expected}
use Rattle.sn_text_rules.specs.Rules.{Rule, fit_from, kept}
use Rattle.sn_text_rules.specs.Tokens.{number, symbol, word}
use Rattle.sn_text_rules.specs.Words.{full, in_range, number_in, sign, ◌▸◌}
use Rattle.sn_text.proofs.Chunks.{Chunk, chunk, face_of}
use Rattle.sn_text.proofs.Lexemes.{AllFine, Fine}
use Rattle.sn_plan_grammar.specs.declared.plan.Entry.{Entry}
use Rattle.sn_plan_grammar.specs.declared.plan.Piece.{Piece}
use Rattle.sn_plan_grammar.specs.declared.plan.Plan.{Plan}
use Rattle.sn_plan_grammar.specs.Grammar.{both_rule, entries_rule, entry_rule, name_test, numbers, piece_rule, pieces_rule, plan_rule, sizes_rule}
use Rattle.sn_plan.proofs.PlanChunks.{entries_chunks, entry_chunks, further_chunks, line_end, list_chunks, piece_chunks, pieces_chunks, plan_chunks, sizes_chunks, space}

-- ---- numbers and names of the grammar

pub fits_range : (low high n : ℕ) → low ≤ n → n ≤ high → in_range low high n ≡ None
fits_range low high n l h = let a : nat_le low n ≡ true = grind (arith, nat_tests) in let b : nat_le n high ≡ true = grind (arith, nat_tests) in rw (a, b) refl

not_full : {A : Type 0} (limit : ℕ) (seen : List A) → length seen < limit → full limit Expected seen ≡ None
not_full limit seen h = let e : nat_le limit (length seen) ≡ false = grind (arith, nat_tests) in rw e refl

-- further items fit one after another, up to the limit
fits_from : {A : Type 0} (limit : ℕ) (rule : Rule A) (seen rest : List A) → AllByRecursion (rule.fits kept) rest → length seen + length rest ≤ limit → fit_from (full limit Expected) (λ (s : List A). rule) kept seen rest
fits_from limit rule seen [] each few = tt
fits_from limit rule seen (a ∷ rest) each few =
    (not_full limit seen (omega (arith, few)), each.0, fits_from limit rule (seen ++ a ∷ []) rest each.1 (let e = length-append seen (a ∷ []) in omega (arith, e, few)))

-- some numbers in a range, this many at most
pub record AreListed (limit low high : ℕ) (ns : List ℕ) : Type 0 where
  pub some : 1 ≤ length ns
  pub few : length ns ≤ limit
  pub each : AllByRecursion (λ n. (low ≤ n) × (n ≤ high)) ns

further_fit : (low high : ℕ) (ns : List ℕ) → AllByRecursion (λ n. (low ≤ n) × (n ≤ high)) ns → AllByRecursion ((sign 3 ▸ number_in low high).fits kept) ns
further_fit low high [] h = tt
further_fit low high (n ∷ ns) h = ((tt, fits_range low high n h.0.0 h.0.1), further_fit low high ns h.1)

numbers_fit : (limit low high : ℕ) (ns : List ℕ) → AreListed limit low high ns → (numbers limit low high).fits kept ns
unfolding numbers
numbers_fit limit low high [] h = absurd (let s = h.some in omega (arith, s))
numbers_fit limit low high (n ∷ ns) h =
    (fits_range low high n h.each.0.0 h.each.0.1, fits_from limit (sign 3 ▸ number_in low high) (n ∷ []) ns (further_fit low high ns h.each.1) (let f = h.few in omega (arith, f)))

-- ---- pieces

-- no sizes and no stages, or both
pub data AreSizes (slots stages : List ℕ) : Type 0 where
  neither : slots ≡ [] → stages ≡ [] → AreSizes slots stages
  both : AreListed 2 1 65536 slots → AreListed 8 0 31 stages → AreSizes slots stages

sizes_fit : (slots stages : List ℕ) → AreSizes slots stages → sizes_rule.fits kept (slots, stages)
unfolding sizes_rule both_rule
sizes_fit slots stages (neither s t) = rw (s, t) tt
sizes_fit [] stages (both s t) = absurd (let e = s.some in omega (arith, e))
sizes_fit (n ∷ slots) [] (both s t) = absurd (let e = t.some in omega (arith, e))
sizes_fit (n ∷ slots) (m ∷ stages) (both s t) = (tt, (numbers_fit 2 1 65536 (n ∷ slots) s, (tt, numbers_fit 8 0 31 (m ∷ stages) t)))

-- what the grammar has of a piece
pub record IsPieceOf (p : Piece) : Type 0 where
  pub level : p.level ≤ 128
  pub branch : p.branch ≤ 1
  pub cut : p.cut ≤ 12
  pub sizes : AreSizes p.slots p.stages

piece_fits : (p : Piece) → IsPieceOf p → piece_rule.fits kept p
unfolding piece_rule
piece_fits p h =
    (tt, (fits_range 0 128 p.level (omega arith) h.level, (fits_range 0 1 p.branch (omega arith) h.branch, (tt, (fits_range 0 12 p.cut (omega arith) h.cut, (sizes_fit p.slots p.stages h.sizes, tt))))))

-- ---- entries

-- a name of the grammar
pub record IsName (name : List ℕ) : Type 0 where
  pub some : 1 ≤ length name
  pub few : length name ≤ 32
  pub fine : Fine (word name)

name_fits : (name : List ℕ) → IsName name → name_test name ≡ None
name_fits name h = let a : (length name == 0) ≡ false = not_zero (length name) h.some in let b : nat_lt 32 (length name) ≡ false = not_more (length name) h.few in rw (a, b) refl
  where
    not_zero : (n : ℕ) → 1 ≤ n → (n == 0) ≡ false
    not_zero n l = grind (arith, nat_tests)

    not_more : (n : ℕ) → n ≤ 32 → nat_lt 32 n ≡ false
    not_more n l = grind (arith, nat_tests)

pub record IsEntryIn (e : Entry) : Type 0 where
  pub name : IsName e.name
  pub levels : AreListed 4 0 128 e.levels
  pub few : length e.pieces ≤ 8
  pub each : AllByRecursion IsPieceOf e.pieces

entry_fits : (e : Entry) → IsEntryIn e → entry_rule.fits kept e
unfolding entry_rule pieces_rule
entry_fits e h =
    (tt, (name_fits e.name h.name, (tt, ((numbers_fit 4 0 128 e.levels h.levels, tt), fits_from 8 piece_rule [] e.pieces (all_weaker IsPieceOf (piece_rule.fits kept) piece_fits e.pieces h.each) (let f = h.few in omega (arith, f))))))

-- one to eight entries
pub record AreEntries (es : List Entry) : Type 0 where
  pub some : 1 ≤ length es
  pub few : length es ≤ 8
  pub each : AllByRecursion IsEntryIn es

entries_fit : (es : List Entry) → AreEntries es → entries_rule.fits kept es
unfolding entries_rule
entries_fit [] h = absurd (let s = h.some in omega (arith, s))
entries_fit (e ∷ es) h = (entry_fits e h.each.0, fits_from 8 entry_rule (e ∷ []) es (all_weaker IsEntryIn (entry_rule.fits kept) entry_fits es h.each.1) (let f = h.few in omega (arith, f)))

pub plan_in_grammar : (p : Plan) → AreEntries p.entries → plan_rule.fits kept p
unfolding plan_rule
plan_in_grammar p h = (tt, entries_fit p.entries h)

-- ---- lexemes

abbrev AllSmall : List ℕ → Type 0
AllSmall ns = AllByRecursion (λ n. n ≤ 65536) ns

small_listed : (limit low high : ℕ) (ns : List ℕ) → high ≤ 65536 → AreListed limit low high ns → AllSmall ns
small_listed limit low high ns le h = all_weaker (λ n. (low ≤ n) × (n ≤ high)) (λ n. n ≤ 65536) (λ n k. let m = k.1 in omega (arith, m, le)) ns h.each

fine_number : (n : ℕ) → n ≤ 65536 → Fine (number n)
fine_number n h = omega (arith, h)

further_fine : (n : ℕ) (ms g : List ℕ) (later : List Chunk) → n ≤ 65536 → AllSmall ms → AllFine (map face_of later) → AllFine (map face_of (further_chunks n ms g later))
further_fine n [] g later a b f = (fine_number n a, f)
further_fine n (m ∷ ms) g later a b f = (fine_number n a, (omega arith, further_fine m ms g later b.0 b.1 f))

list_fine : (ns : List ℕ) (later : List Chunk) → AllSmall ns → AllFine (map face_of later) → AllFine (map face_of (list_chunks ns [] later))
list_fine [] later h f = f
list_fine (n ∷ ns) later h f = further_fine n ns [] later h.0 h.1 f

abbrev SmallSizes : List ℕ → List ℕ → Type 0
SmallSizes slots stages = AllSmall slots × AllSmall stages

small_sizes : (slots stages : List ℕ) → AreSizes slots stages → SmallSizes slots stages
small_sizes slots stages (neither s t) = (subst AllSmall (sym s) tt, subst AllSmall (sym t) tt)
small_sizes slots stages (both s t) = (small_listed 2 1 65536 slots (omega arith) s, small_listed 8 0 31 stages (omega arith) t)

sizes_fine : (cut : ℕ) (slots stages : List ℕ) (later : List Chunk) → cut ≤ 65536 → SmallSizes slots stages → AllFine (map face_of later) → AllFine (map face_of (sizes_chunks cut slots stages later))
sizes_fine cut [] stages later c h f = (fine_number cut c, f)
sizes_fine cut (s ∷ ss) stages later c h f = (
  fine_number cut c,
  (
    (refl, refl, (refl, (refl, (refl, (refl, (refl, tt)))))),
    further_fine s ss space (chunk (word (codes "stages")) space ∷ list_chunks stages [] later) h.0.0 h.0.1 ((refl, refl, (refl, (refl, (refl, (refl, (refl, (refl, tt))))))), list_fine stages later h.1 f),
  ),
)

piece_fine : (p : Piece) (later : List Chunk) → IsPieceOf p → AllFine (map face_of later) → AllFine (map face_of (piece_chunks p later))
piece_fine p later h f = (
  (refl, refl, (refl, (refl, (refl, (refl, (refl, tt)))))),
  (
    fine_number p.level (let l = h.level in omega (arith, l)),
    (
      fine_number p.branch (let b = h.branch in omega (arith, b)),
      (
        (refl, refl, (refl, (refl, (refl, tt)))),
        sizes_fine p.cut p.slots p.stages (chunk (symbol 2) line_end ∷ later) (let c = h.cut in omega (arith, c)) (small_sizes p.slots p.stages h.sizes) (omega arith, f),
      ),
    ),
  ),
)

pieces_fine : (ps : List Piece) (later : List Chunk) → AllByRecursion IsPieceOf ps → AllFine (map face_of later) → AllFine (map face_of (pieces_chunks ps later))
pieces_fine [] later h f = f
pieces_fine (p ∷ ps) later h f = piece_fine p (pieces_chunks ps later) h.0 (pieces_fine ps later h.1 f)

entry_fine : (e : Entry) (later : List Chunk) → IsEntryIn e → AllFine (map face_of later) → AllFine (map face_of (entry_chunks e later))
entry_fine e later h f = (
  (refl, refl, (refl, (refl, (refl, (refl, (refl, tt)))))),
  (
    h.name.fine,
    (
      (refl, refl, (refl, (refl, (refl, (refl, tt))))),
      list_fine e.levels (chunk (symbol 2) line_end ∷ pieces_chunks e.pieces later) (small_listed 4 0 128 e.levels (omega arith) h.levels) (omega arith, pieces_fine e.pieces later h.each f),
    ),
  ),
)

entries_fine : (es : List Entry) → AllByRecursion IsEntryIn es → AllFine (map face_of (entries_chunks es))
entries_fine [] h = tt
entries_fine (e ∷ es) h = entry_fine e (entries_chunks es) h.0 (entries_fine es h.1)

pub plan_fine : (p : Plan) → AreEntries p.entries → AllFine (map face_of (plan_chunks p))
plan_fine p h = ((refl, refl, (refl, (refl, (refl, (refl, tt))))), entries_fine p.entries h.each)
