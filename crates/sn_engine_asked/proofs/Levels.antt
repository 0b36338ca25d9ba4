-- The levels of a plan's paths whose answers a later level admits.
use Rattle.std.proofs.Common.{◌≡◌, ℕ, zero, suc, ◌+◌, ◌-◌, ◌<◌, ◌==◌, List, [], ◌∷◌, map, length, true, false, cond, nat_lt, Option, Some, None, slice_get, slice_index, refl, ap, sym, ◌∙◌, arith, eq-eqb}
use Rattle.std.specs.List.{AllByRecursion}
use Rattle.std.specs.Option.{option_map_or}
use Rattle.std.proofs.lemmas.Bool.{false≢true}
use Rattle.sn_base.proofs.Lists.{all_append, by_test, none_some, some_same}
use Rattle.sn_base.proofs.Tests.{less}
use Rattle.sn_base.specs.Rising.{IsRising}
use Rattle.sn_emit.specs.Plans.{Placed, pieces_from, placed}
use Rattle.sn_engine_asked.specs.Asked.{is_asked}
use Rattle.sn_engine_lockstep.proofs.Apart.{index_place, levels_known, place_is}
use Rattle.sn_engine_lockstep.specs.Work.{name_of}
use Rattle.sn_plan_fit.specs.Fits.{AreEntriesOf, IsEntryOf}
use Rattle.sn_plan_fit.specs.Paths.{is_among, level_before, place_in}
use Rattle.sn_plan_grammar.specs.declared.plan.Entry.{Entry}
use Rattle.sn_plan_grammar.specs.declared.plan.Piece.{Piece}
use Rattle.sn_types.specs.declared.typed_query.TypedQuery.{TypedQuery}

-- ---- pieces and their entries

-- a piece is one of its query's entry, at a level of its path
pub record IsPieceOf (es : List Entry) (x : Placed) : Type 0 where
  pub entry : Entry
  pub at : slice_get es x.query ≡ Some entry
  pub path : entry.levels ≡ x.path
  pub rising : IsRising entry.levels
  pub among : is_among entry.levels x.piece.level ≡ true

own_pieces : (all : List Entry) (q : ℕ) (e : Entry) (ps : List Piece) → slice_get all q ≡ Some e → IsRising e.levels → AllByRecursion (λ (p : Piece). is_among e.levels p.level ≡ true) ps → AllByRecursion (IsPieceOf all) (map (placed q e.levels) ps)
own_pieces all q e [] at rising known = tt
own_pieces all q e (p ∷ ps) at rising known = (record { entry = e; at = at; path = refl; rising = rising; among = known.0 }, own_pieces all q e ps at rising known.1)

pieces_of : (all : List Entry) (q : ℕ) (queries : List TypedQuery) (es : List Entry) → ((i : ℕ) → slice_get all (q + i) ≡ slice_get es i) → AreEntriesOf queries es → AllByRecursion (IsPieceOf all) (pieces_from q es)
pieces_of all q [] [] same h = tt
pieces_of all q [] (e ∷ es) same h = absurd h
pieces_of all q (query ∷ queries) [] same h = absurd h
pieces_of all q (query ∷ queries) (e ∷ es) same h =
    let entry : IsEntryOf query e = h.0 in
    all_append (IsPieceOf all) (map (placed q e.levels) e.pieces) (pieces_from (suc q) es)
    (own_pieces all q e e.pieces (ap (slice_get all) none ∙ same 0) entry.path.rising (levels_known query e h.0))
    (pieces_of all (suc q) queries es (λ i. ap (slice_get all) (moved i) ∙ same (suc i)) h.1)
  where
    none : q ≡ q + 0
    none = omega arith

    moved : (i : ℕ) → suc q + i ≡ q + suc i
    moved i = omega arith

pub all_pieces : (queries : List TypedQuery) (es : List Entry) → AreEntriesOf queries es → AllByRecursion (IsPieceOf es) (pieces_from 0 es)
all_pieces queries es h = pieces_of es 0 queries es (λ i. ap (slice_get es) (none i)) h
  where
    none : (i : ℕ) → 0 + i ≡ i
    none i = omega arith

-- ---- a level that another one stands after

-- the level before another one of a path has a place before the last
next_within : (path : List ℕ) (level before : ℕ) → IsRising path → is_among path level ≡ true → level_before path level ≡ Some before → place_in path before + 1 < length path
next_within path level before rising among is =
    let n = place_in path level in
    by_test (n == 0)
    (λ first. absurd (none_some (sym (ap (λ b. cond b None (Some (slice_index path (n - 1)))) first) ∙ is)))
    (λ more.
    let within : n < length path = (place_is path level among).within in
    let some : n ≡ 0 → ⊥ = λ e. false≢true (sym more ∙ eq-eqb n 0 e) in
    let at : slice_index path (n - 1) ≡ before = some_same (slice_index path (n - 1)) before (sym (ap (λ b. cond b None (Some (slice_index path (n - 1)))) more) ∙ is) in
    let place : place_in path before ≡ n - 1 = ap (place_in path) (sym at) ∙ index_place path (n - 1) rising (below n (length path) within) in
    after (place_in path before) n (length path) place within some)
  where
    below : (n m : ℕ) → n < m → n - 1 < m
    below n m lt = omega (arith, lt)

    after : (p n m : ℕ) → p ≡ n - 1 → n < m → (n ≡ 0 → ⊥) → p + 1 < m
    after p zero m e lt some = absurd (some refl)
    after p (suc k) m e lt some = omega (arith, e, lt)

-- the lane of a piece is asked for, where its level is the one before that of a piece of the same query
pub asked_before : (es : List Entry) (x z : Placed) (before : ℕ) → IsPieceOf es x → IsPieceOf es z → x.query ≡ z.query → x.piece.level ≡ before → level_before z.path z.piece.level ≡ Some before → is_asked es (name_of x) ≡ true
asked_before es x z before hx hz same level is =
    let one : hx.entry ≡ hz.entry = some_same hx.entry hz.entry (sym hx.at ∙ ap (slice_get es) same ∙ hz.at) in
    let path : hz.entry.levels ≡ x.path = ap (λ (e : Entry). e.levels) (sym one) ∙ hx.path in
    let next : place_in hz.entry.levels before + 1 < length hz.entry.levels =
    next_within hz.entry.levels z.piece.level before hz.rising hz.among (ap (λ p. level_before p z.piece.level) hz.path ∙ is) in
    ap (λ (o : Option Entry). option_map_or (λ (e : Entry). nat_lt (place_in x.path x.piece.level + 1) (length e.levels)) o false) (hx.at ∙ ap Some one)
    ∙ ap (λ p. nat_lt (place_in p x.piece.level + 1) (length hz.entry.levels)) (sym path)
    ∙ ap (λ l. nat_lt (place_in hz.entry.levels l + 1) (length hz.entry.levels)) level
    ∙ less (place_in hz.entry.levels before + 1) (length hz.entry.levels) next
