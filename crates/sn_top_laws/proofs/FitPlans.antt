-- What fits a switch is written by the grammar.
use Rattle.std.proofs.Common.{◌≡◌, ℕ, zero, suc, ◌+◌, ◌*◌, ◌≤◌, ◌<◌, Bool, true, false, cond, List, [], ◌∷◌, ◌++◌, drop, length, map, take, None, Some, slice_get, refl, sym, ap, ◌∙◌, subst, arith, length-drop}
use Rattle.std.specs.Prelude.{◌-◌, ◌/◌, ◌%◌, ◌==◌, ◌||◌, nat_eq}
use Rattle.std.specs.List.{AllByRecursion}
use Rattle.std.proofs.lemmas.Option.{slice_get_within}
use Rattle.sn_base.proofs.Lists.{all_weaker, nat_same, all_two}
use Rattle.sn_plan_choices.specs.Options.{path_of}
use Rattle.sn_plan_choices.specs.Settings.{IsNarrow}
use Rattle.sn_plan_fit.specs.Fits.{AreEntriesOf, Fits, IsEntryOf, IsPath, OnBranch, PieceFits, PiecesFit}
use Rattle.sn_plan_fit.specs.Paths.{Place, is_among, piece_place, places}
use Rattle.sn_plan_fit.specs.Pieces.{piece_branch, prefix_of, tables_of}
use Rattle.sn_plan_fit.specs.Placing.{StandAt, Table, register, stateless}
use Rattle.sn_plan_fit.specs.Tables.{membership, op_tables}
use Rattle.sn_plan_grammar.specs.declared.plan.Entry.{Entry}
use Rattle.sn_plan_grammar.specs.declared.plan.Piece.{Piece}
use Rattle.sn_plan_lists.specs.Bounds.{HasBounds}
use Rattle.sn_plan_lists.specs.Numbers.{path_number}
use Rattle.sn_plan_lists.proofs.Counts.{HasPieces, HavePieces, have_pieces}
use Rattle.sn_plan_lists.proofs.PathNumbers.{path_all, path_of_number}
use Rattle.sn_plan_lists.proofs.Pieces.{GoodPiece}
use Rattle.sn_plan_lists.proofs.Readings.{good_entry}
use Rattle.sn_switch.specs.declared.switch.Switch.{Switch}
use Rattle.sn_switch.specs.Texts.{IsSwitch}
use Rattle.sn_types.specs.declared.typed_op.TOp.{TOp}
use Rattle.sn_types.specs.declared.typed_query.TypedBranch.{TypedBranch}
use Rattle.sn_types.specs.declared.typed_query.TypedQuery.{TypedQuery}
use Rattle.sn_types.specs.Cuts.{is_stateful, stateful}
use Rattle.sn_types.specs.Typed.{branch_of}
use Rattle.sn_top_laws.proofs.PlanFits.{AreEntries, AreSizes, IsEntryIn, IsName, IsPieceOf, both, neither}
use Rattle.sn_engine_lockstep.proofs.Apart.{places_all}
use Rattle.sn_plan_lists.proofs.Slots.{times_next}
use Rattle.sn_report.proofs.Outcomes.{nothing}

-- ---- the stages of registers that have places

abbrev Below : ℕ → List ℕ → Type 0
Below stages ns = AllByRecursion (λ n. n < stages) ns

abbrev AreBelow : ℕ → List Table → Type 0
AreBelow stages [] = Unit {0}
AreBelow stages (stateless ∷ ts) = AreBelow stages ts
AreBelow stages (register s ∷ ts) = (s < stages) × AreBelow stages ts

standing_below : (stages : ℕ) (ts : List Table) (places : List ℕ) → StandAt ts places → Below stages places → AreBelow stages ts
standing_below stages [] places s b = tt
standing_below stages (t ∷ ts) [] s b = absurd s
standing_below stages (stateless ∷ ts) (p ∷ ps) s b = standing_below stages ts ps s.1 b.1
standing_below stages (register n ∷ ts) (p ∷ ps) s b = (subst (λ (m : ℕ). m < stages) s.0 b.0, standing_below stages ts ps s.1 b.1)

after_below : (stages : ℕ) (xs ts : List Table) → AreBelow stages (xs ++ ts) → AreBelow stages ts
after_below stages [] ts h = h
after_below stages (stateless ∷ xs) ts h = after_below stages xs ts h
after_below stages (register n ∷ xs) ts h = after_below stages xs ts h.1

chain_below : (stages : ℕ) (ws : List ℕ) (ts : List Table) → AreBelow stages (map register ws ++ ts) → Below stages ws × AreBelow stages ts
chain_below stages [] ts h = (tt, h)
chain_below stages (w ∷ ws) ts h = let k = chain_below stages ws ts h.1 in ((h.0, k.0), k.1)

rejoined : (n : ℕ) (ws : List ℕ) (P : ℕ → Type 0) → AllByRecursion P (take n ws) → AllByRecursion P (drop n ws) → AllByRecursion P ws
rejoined zero ws P a b = b
rejoined (suc n) [] P a b = tt
rejoined (suc n) (w ∷ ws) P a b = (a.0, rejoined n ws P a.1 b)

written_below : (stages d : ℕ) (ops : List TOp) (written : List ℕ) → length written ≡ d * stateful ops → AreBelow stages (op_tables d ops written) → Below stages written
written_below stages d [] [] e h = tt
written_below stages d [] (w ∷ ws) e h = absurd (none d (length ws) e)
  where
    none : (d n : ℕ) → suc n ≡ d * 0 → ⊥
    none d n e = omega (arith, e)
written_below stages d (op ∷ ops) written e h = by_kind (is_stateful op) e h (written_below stages d ops (drop d written)) (written_below stages d ops written)
  where
    by_kind : (b : Bool) → length written ≡ d * cond b (1 + stateful ops) (stateful ops) → AreBelow stages (cond b (map register (take d written) ++ op_tables d ops (drop d written)) (stateless ∷ op_tables d ops written))
        → (length (drop d written) ≡ d * stateful ops → AreBelow stages (op_tables d ops (drop d written)) → Below stages (drop d written))
        → (length written ≡ d * stateful ops → AreBelow stages (op_tables d ops written) → Below stages written) → Below stages written
    by_kind true e h f g =
        let k = chain_below stages (take d written) (op_tables d ops (drop d written)) h in
        let n = times_next d (stateful ops) in
        rejoined d written (λ m. m < stages) k.0 (f (left d (d * stateful ops) (length written) (length (drop d written)) (length-drop d written) (e ∙ n)) k.1)
      where
        left : (d m long less : ℕ) → less ≡ long - d → long ≡ d + m → less ≡ m
        left d m long less a b = omega (arith, a, b)
    by_kind false e h f g = g e h

stages_below : (s : Switch) (path : List ℕ) (b : TypedBranch) (p : Piece) → PieceFits s path b p → Below s.stages p.stages
stages_below s path b p h =
    written_below s.stages s.chain (prefix_of b p) p.stages h.stages
    (after_below s.stages (membership p.level path) (op_tables s.chain (prefix_of b p) p.stages) (standing_below s.stages (tables_of s.chain path b p) h.placing.0 h.placing.1.stand h.placing.1.below))

-- ---- a piece

among_all : (P : ℕ → Type 0) (xs : List ℕ) → AllByRecursion P xs → (x : ℕ) → is_among xs x ≡ true → P x
among_all P [] h x e = cc
among_all P (y ∷ ys) h x e = by_first (nat_eq x y) refl e (among_all P ys h.1 x)
  where
    by_first : (t : Bool) → nat_eq x y ≡ t → (t || is_among ys x) ≡ true → (is_among ys x ≡ true → P x) → P x
    by_first true is e f = subst P (sym (nat_same x y is)) h.0
    by_first false isnt e f = f e

few_stages : (chain count : ℕ) → chain ≤ 4 → count ≤ 2 → chain * count ≤ 8
few_stages chain zero c n = omega (arith, c)
few_stages chain (suc zero) c n = omega (arith, c)
few_stages chain (suc (suc zero)) c n = omega (arith, c)
few_stages chain (suc (suc (suc n))) c h = absurd (omega (arith, h))

some_stages : (chain count : ℕ) → 1 ≤ chain → 1 ≤ count → 1 ≤ chain * count
some_stages zero count c h = absurd (omega (arith, c))
some_stages (suc n) zero c h = absurd (omega (arith, h))
some_stages (suc n) (suc m) c h = omega arith

sizes_of : (s : Switch) (path : List ℕ) (b : TypedBranch) (p : Piece) (count : ℕ) → IsSwitch s → PieceFits s path b p → stateful (prefix_of b p) ≡ count → count ≤ 2 → AreSizes p.slots p.stages
sizes_of s path b p zero is h e few =
    neither (nothing p.slots (h.sizes ∙ e)) (nothing p.stages (h.stages ∙ ap (λ (n : ℕ). s.chain * n) e ∙ (let z : s.chain * 0 ≡ 0 = omega arith in z)))
sizes_of s path b p (suc n) is h e few =
    let some = some_stages s.chain (suc n) is.chain.0 (omega arith) in
    let most = few_stages s.chain (suc n) is.chain.1 few in
    let slots = h.sizes ∙ e in
    let stages = h.stages ∙ ap (λ (k : ℕ). s.chain * k) e in
    let range = is.slots.range in
    let high = is.stages.1 in
    both
    (record { some = omega (arith, slots); few = omega (arith, slots, few); each = all_weaker (λ x. is_among s.slots x ≡ true) (λ x. (1 ≤ x) × (x ≤ 65536)) (among_all (λ x. (1 ≤ x) × (x ≤ 65536)) s.slots range) p.slots h.listed })
    (record { some = omega (arith, stages, some); few = omega (arith, stages, most); each = all_weaker (λ x. x < s.stages) (λ x. (0 ≤ x) × (x ≤ 31)) (λ x lt. (omega arith, omega (arith, lt, high))) p.stages (stages_below s path b p h) })

branch_all : (P : TypedBranch → Type 0) (bs : List TypedBranch) (n : ℕ) (b : TypedBranch) → AllByRecursion P bs → slice_get bs n ≡ Some b → P b
branch_all P [] n b h e = cc
branch_all P (x ∷ xs) zero b h e = let k : x ≡ b = cc in subst P k h.0
branch_all P (x ∷ xs) (suc n) b h e = branch_all P xs n b h.1 e

piece_of : (s : Switch) (q : TypedQuery) (path : List ℕ) (p : Piece) → IsSwitch s → HasBounds q → p.level ≤ 128 → GoodPiece s q path p → IsPieceOf p
piece_of s q path p is h level g =
    let b = branch_of q p.branch in
    let narrow = branch_all IsNarrow q.branches p.branch b h.narrow g.known in
    let within = slice_get_within q.branches p.branch b g.known in
    let few = h.branches in
    let cut = g.fits.cut in
    let twelve = narrow.cut in
    record {
      level = level;
      branch = omega (arith, within, few);
      cut = omega (arith, cut, twelve);
      sizes = sizes_of s path b p (stateful (prefix_of b p)) is g.fits refl (narrow.few p.cut cut);
    }

-- ---- an entry

of_places : (P : ℕ → Type 0) (ps : List Piece) → AllByRecursion (λ (x : Place). P x.0) (map piece_place ps) → AllByRecursion (λ (p : Piece). P p.level) ps
of_places P [] h = tt
of_places P (p ∷ ps) h = (h.0, of_places P ps h.1)

-- levels of a query that has at most four, none above 128
pub record HasLevelsIn (q : TypedQuery) : Type 0 where
  pub low : AllByRecursion (λ level. level ≤ 128) q.levels
  pub name : IsName q.name

entry_in : (s : Switch) (q : TypedQuery) (e : Entry) → IsSwitch s → HasBounds q → HasLevelsIn q → IsEntryOf q e → HasPieces q e → AllByRecursion (λ p. OnBranch (λ b. PieceFits s e.levels b p) (piece_branch q p)) e.pieces → IsEntryIn e
entry_in s q e is h k of has fits =
    let g = good_entry s q e of fits in
    let path : path_of (path_number q.levels e.levels) q.levels ≡ e.levels = path_of_number q.levels e.levels h.levels.rising of.path in
    let low : AllByRecursion (λ level. level ≤ 128) e.levels = subst (AllByRecursion (λ level. level ≤ 128)) path (path_all (λ level. level ≤ 128) (path_number q.levels e.levels) q.levels k.low) in
    let short = path_short (path_number q.levels e.levels) q.levels in
    let long = ap length path in
    let most = h.few in
    let levels : AllByRecursion (λ (p : Piece). p.level ≤ 128) e.pieces =
    of_places (λ level. level ≤ 128) e.pieces (subst (AllByRecursion (λ (x : Place). x.0 ≤ 128)) (sym of.pieces) (places_all (λ level. level ≤ 128) q.branches e.levels low)) in
    record {
      name = subst IsName (sym of.name) k.name;
      levels = record { some = some_level e.levels of.path; few = omega (arith, short, long, most); each = all_weaker (λ n. n ≤ 128) (λ n. (0 ≤ n) × (n ≤ 128)) (λ n le. (omega arith, le)) e.levels low };
      few = has.few;
      each = all_two (λ (p : Piece). p.level ≤ 128) (GoodPiece s q e.levels) IsPieceOf (λ p le good. piece_of s q e.levels p is h le good) e.pieces levels g.good;
    }
  where
    path_short : (m : ℕ) (ls : List ℕ) → length (path_of m ls) ≤ length ls
    path_short m [] = omega arith
    path_short m (l ∷ []) = omega arith
    path_short m (l ∷ j ∷ ls) = by_bit (m % 2 == 1) (path_short (m / 2) (j ∷ ls))
      where
        by_bit : (b : Bool) → length (path_of (m / 2) (j ∷ ls)) ≤ length (j ∷ ls) → length (cond b (l ∷ path_of (m / 2) (j ∷ ls)) (path_of (m / 2) (j ∷ ls))) ≤ length (l ∷ j ∷ ls)
        by_bit true h = omega (arith, h)
        by_bit false h = omega (arith, h)

    some_level : (path : List ℕ) → IsPath q.levels path → 1 ≤ length path
    some_level [] h = absurd (none h.finest.1)
      where
        none : None ≡ Some h.finest.0 → ⊥
        none e = cc
    some_level (l ∷ ls) h = omega arith

-- ---- a plan

entries_in : (s : Switch) (qs : List TypedQuery) (es : List Entry) → IsSwitch s → AllByRecursion HasBounds qs → AllByRecursion HasLevelsIn qs → AreEntriesOf qs es → HavePieces qs es → PiecesFit (PieceFits s) qs es
    → AllByRecursion IsEntryIn es × (length es ≡ length qs)
entries_in s [] [] is h k of has fits = (tt, refl)
entries_in s [] (e ∷ es) is h k of has fits = absurd of
entries_in s (q ∷ qs) [] is h k of has fits = absurd of
entries_in s (q ∷ qs) (e ∷ es) is h k of has fits =
    let rest = entries_in s qs es is h.1 k.1 of.1 has.1 fits.1 in
    ((entry_in s q e is h.0 k.0 of.0 has.0 fits.0, rest.0), ap suc rest.1)

pub fit_entries : (s : Switch) (qs : List TypedQuery) (es : List Entry) → IsSwitch s → AllByRecursion HasBounds qs → AllByRecursion HasLevelsIn qs → 1 ≤ length qs → length qs ≤ 8 → Fits qs s es → AreEntries es
fit_entries s qs es is h k some few fits =
    let all = entries_in s qs es is h k fits.paths (have_pieces s qs es h fits.paths fits.pieces) fits.pieces in
    let long = all.1 in
    record { some = omega (arith, long, some); few = omega (arith, long, few); each = all.0 }
