-- One offer, on the cells as they are stored.
use Rattle.std.proofs.Common.{◌≡◌, ◌≢◌, ◌/◌, ◌^◌, ℕ, zero, suc, ◌*◌, ◌≤◌, ◌<◌, List, [], ◌∷◌, length, true, false, cond, nat_eq, Option, Some, None, IfSome, get_or, set, length-set, replicate, refl, ap, sym, subst, ◌∙◌}
use Rattle.std.specs.Int.{div_ceil}
use Rattle.std.specs.List.{All, AllByRecursion}
use Rattle.std.proofs.lemmas.List.{get_or_default, length-replicate}
use Rattle.std.proofs.lemmas.List.Elements.{All-from_recursion, All-replicate, All-set, recursion_from_All}
use Rattle.sn_base.specs.Groups.{Row}
use Rattle.sn_chain.specs.Cells.{shown_if, shown_where, all_shown, with_value, AreCells}
use Rattle.sn_chain.specs.Chain.{ChainState, KeysStand, empty_chain, holder, vacancy, answer_at, after_offer}
use Rattle.sn_chain.specs.Found.{found_at}
use Rattle.sn_chain.specs.Registers.{cell, stepped, put}
use Rattle.sn_chain.specs.declared.offer.Offer.TheVariants.{Over}
use Rattle.sn_chain.specs.declared.register.Found.{Found}
use Rattle.sn_chain.specs.declared.register.Found.TheVariants as found
use Rattle.sn_chain.specs.Marks.{mark_at, mark_of, AreMarks}
use Rattle.sn_chain.proofs.MarkLemmas.{few_words, marks_bare, marks_stay, marks_taken, none_marked, word_within}
use Rattle.sn_chain.proofs.ShownLemmas.{length-all_shown, none_in_use, read_cell, set_shown, set_taken}
use Rattle.sn_chain.proofs.StandLemmas.{stand_bare, stand_put}

-- a search that ended at the holder, at an empty place, or at neither
held_from : (h e : Option ℕ) (p : ℕ) → found.Held p ≡ found_at h e → h ≡ Some p
held_from (Some q) e p is = cc
held_from None (Some q) p is = cc
held_from None None p is = cc

none_from : (h e : Option ℕ) (p : ℕ) → found.Empty p ≡ found_at h e → h ≡ None
none_from (Some q) e p is = cc
none_from None e p is = refl

empty_from : (h e : Option ℕ) (p : ℕ) → found.Empty p ≡ found_at h e → e ≡ Some p
empty_from (Some q) e p is = cc
empty_from None (Some q) p is = cc
empty_from None None p is = cc

full_none : (h e : Option ℕ) → found.Full ≡ found_at h e → h ≡ None
full_none (Some q) e is = cc
full_none None e is = refl

full_empty : (h e : Option ℕ) → found.Full ≡ found_at h e → e ≡ None
full_empty (Some q) e is = cc
full_empty None (Some q) is = cc
full_empty None None is = refl

-- a cell whose value was stepped
shown_stepped : (step : ℕ → ℕ → ℕ) (mark v : ℕ) (c : Row × ℕ) → shown_if mark (with_value (step c.1 v) c) ≡ stepped step v (shown_if mark c)
shown_stepped step mark v c =
    elim (nat_eq mark 1) as (λ b. cond b (Some (c.0, step c.1 v)) None ≡ stepped step v (cond b (Some c) None)) [ true ↦ refl | false ↦ refl ]

-- and whether it is in use stays
same_mark : (mark w : ℕ) (c : Row × ℕ) → mark_of (shown_if mark (with_value w c)) ≡ mark_of (shown_if mark c)
same_mark mark w c =
    elim (nat_eq mark 1) as (λ b. mark_of {X = Row × ℕ} (cond b (Some (c.0, w)) None) ≡ mark_of {X = Row × ℕ} (cond b (Some c) None)) [ true ↦ refl | false ↦ refl ]

abbrev bare : Row × ℕ
bare = ([], 0)

abbrev pub state_with : {F : Type 0} → F → ℕ → ℕ → List (Option (Row × ℕ)) → ChainState F
state_with f depth slots cells = record { fold = f; depth = depth; slots = slots; cells = cells }

-- a chain as its stored parts show it
abbrev pub state_of : {F : Type 0} → F → ℕ → ℕ → List ℕ → List (Row × ℕ) → ChainState F
state_of f depth slots marks cells = record { fold = f; depth = depth; slots = slots; cells = all_shown marks cells }

module _ {F : Type 0} (join : F → ℕ → ℕ → ℕ) (f : F) (depth slots : ℕ) (marks : List ℕ) where
  abbrev state : List (Row × ℕ) → ChainState F
  state cells = state_of f depth slots marks cells

  abbrev pub found_in : List (Row × ℕ) → Row → Found
  found_in cells key = found_at (holder (state cells) key) (vacancy (state cells) key)

  abbrev with_cells : List (Option (Row × ℕ)) → ChainState F
  with_cells cs = state_with f depth slots cs

  after_put : (cells : List (Row × ℕ)) (key : Row) (v : ℕ) (h e : Option ℕ) → holder (state cells) key ≡ h → vacancy (state cells) key ≡ e →
      after_offer join (state cells) key v ≡ record { fold = f; depth = depth; slots = slots; cells = put (join f) (all_shown marks cells) key v h e }
  after_put cells key v h e is_h is_e =
      ap (λ o. with_cells (put (join f) (all_shown marks cells) key v o (vacancy (state cells) key))) is_h
      ∙ ap (λ o. with_cells (put (join f) (all_shown marks cells) key v h o)) is_e

  -- the key is held
  pub offer_held : (cells new : List (Row × ℕ)) (s : ChainState F) → state cells ≡ s → (key : Row) (v at value w : ℕ) → at < length cells → value ≡ (get_or cells at bare).1 → w ≡ join f value v →
      new ≡ set cells at (with_value w (get_or cells at bare)) → found.Held at ≡ found_in cells key → state new ≡ after_offer join s key v
  offer_held cells new s is key v at value w inside here stepped_to written found =
      let shown = all_shown marks cells in
      let c = get_or cells at bare in
      subst (λ (t : ChainState F). state new ≡ after_offer join t key v) is
      (ap state written
      ∙ ap stored (stepped_to ∙ ap (λ (n : ℕ). join f n v) here)
      ∙ ap with_cells
      (set_shown marks cells at (with_value (join f c.1 v) c)
      ∙ ap (λ o. set shown at o) (shown_stepped (join f) (mark_at marks at) v c ∙ ap (stepped (join f) v) (sym (read_cell marks cells at c inside (get_or_default cells at bare c inside)))))
      ∙ sym (after_put cells key v (Some at) (vacancy (state cells) key) (held_from (holder (state cells) key) (vacancy (state cells) key) at found) refl))
    where
      stored : ℕ → ChainState F
      stored m = state (set cells at (with_value m (get_or cells at bare)))

  -- the key takes an empty cell
  pub offer_new : (cells new : List (Row × ℕ)) (words : List ℕ) (s : ChainState F) → state cells ≡ s → (key : Row) (v at : ℕ) → new ≡ set cells at (key, v) → mark_at words at ≡ 1 →
      ((p : ℕ) → p ≢ at → mark_at words p ≡ mark_at marks p) → found.Empty at ≡ found_in cells key → state_of f depth slots words new ≡ after_offer join s key v
  offer_new cells new words s is key v at written here others found =
      let h = holder (state cells) key in
      let e = vacancy (state cells) key in
      subst (λ (t : ChainState F). state_of f depth slots words new ≡ after_offer join t key v) is
      (ap with_cells (ap (all_shown words) written ∙ set_taken marks cells words at (key, v) here others)
      ∙ sym (after_put cells key v None (Some at) (none_from h e at found) (empty_from h e at found)))

  -- no cell is free
  pub offer_over : (cells : List (Row × ℕ)) (s : ChainState F) → state cells ≡ s → (key : Row) (v : ℕ) → found.Full ≡ found_in cells key → s ≡ after_offer join s key v
  offer_over cells s is key v found =
      let h = holder (state cells) key in
      let e = vacancy (state cells) key in
      subst (λ (t : ChainState F). t ≡ after_offer join t key v) is (sym (after_put cells key v None None (full_none h e found) (full_empty h e found)))

  pub answer_over : (cells : List (Row × ℕ)) (s : ChainState F) → state cells ≡ s → (key : Row) → found.Full ≡ found_in cells key → Over ≡ answer_at (holder s key) (vacancy s key)
  answer_over cells s is key found =
      let h = holder (state cells) key in
      let e = vacancy (state cells) key in
      subst (λ (t : ChainState F). Over ≡ answer_at (holder t key) (vacancy t key)) is
      (sym (ap (λ o. answer_at o e) (full_none h e found) ∙ ap (answer_at None) (full_empty h e found)))

-- what a cell shows is one of the fold's values
had_where : (has : ℕ → Type 0) (mark : ℕ → ℕ) (cells : List (Row × ℕ)) → AllByRecursion (λ c. has c.1) cells → (p : ℕ) → IfSome (cell (shown_where mark cells) p) (λ e. has e.1)
had_where has mark [] each p = tt
had_where has mark (c ∷ cells) each zero = elim (nat_eq (mark 0) 1) as (λ b. IfSome {T = Row × ℕ} (cond b (Some c) None) (λ e. has e.1)) [ true ↦ each.0 | false ↦ tt ]
had_where has mark (c ∷ cells) each (suc p) = had_where has (λ q. mark (suc q)) cells each.1 p

pub shown_had : (has : ℕ → Type 0) (marks : List ℕ) (cells : List (Row × ℕ)) → AllByRecursion (λ c. has c.1) cells → (p : ℕ) → IfSome (cell (all_shown marks cells) p) (λ e. has e.1)
shown_had has marks cells each p = had_where has (mark_at marks) cells each p

-- ---- chains that hold nothing

unmarked_bare : {X : Type 0} (words : List ℕ) (n : ℕ) (cells : List X) → words ≡ replicate n 0 → all_shown words cells ≡ replicate (length cells) None
unmarked_bare words n cells is = none_in_use words cells (λ p. ap (λ (ws : List ℕ). mark_at ws p) is ∙ none_marked n p)

pub made_cells : (has : ℕ → Type 0) (depth slots value : ℕ) (cells : List (Row × ℕ)) (marks : List ℕ) → 1 ≤ depth → depth ≤ 4 → 1 ≤ slots → slots ≤ 65536 → has value → cells ≡ replicate (depth * slots) ([], value) →
    marks ≡ replicate (div_ceil (depth * slots) 64) 0 → AreCells has depth slots cells marks
made_cells has depth slots value cells marks some_depth most_depth some_slots most_slots had is unmarked =
    let long : length cells ≡ depth * slots = ap length is ∙ length-replicate {A = Row × ℕ} (depth * slots) ([], value) in
    let shows : all_shown marks cells ≡ replicate (depth * slots) None = unmarked_bare marks (div_ceil (depth * slots) 64) cells unmarked ∙ ap (λ n. replicate n None) long in
    record {
      some_depth = some_depth;
      most_depth = most_depth;
      some_slots = some_slots;
      most_slots = most_slots;
      long = long;
      each =
          recursion_from_All (λ (c : Row × ℕ). has c.1) cells
          (subst (λ (cs : List (Row × ℕ)). All (λ (c : Row × ℕ). has c.1) cs) (sym is) (All-replicate (λ (c : Row × ℕ). has c.1) (depth * slots) ([], value) had));
      stand = subst (λ (cs : List (Option (Row × ℕ))). KeysStand depth slots cs) (sym shows) (stand_bare depth slots (depth * slots));
      marked = marks_bare (depth * slots) marks (all_shown marks cells) unmarked shows;
    }

pub made_empty : {F : Type 0} (f : F) (depth slots value : ℕ) (cells : List (Row × ℕ)) (marks : List ℕ) → cells ≡ replicate (depth * slots) ([], value) → marks ≡ replicate (div_ceil (depth * slots) 64) 0 →
    state_of f depth slots marks cells ≡ empty_chain f depth slots
made_empty f depth slots value cells marks is unmarked =
    ap (state_with f depth slots) (unmarked_bare marks (div_ceil (depth * slots) 64) cells unmarked ∙ ap (λ n. replicate n None) (ap length is ∙ length-replicate {A = Row × ℕ} (depth * slots) ([], value)))

module _ {has : ℕ → Type 0} {depth slots : ℕ} {cells : List (Row × ℕ)} {marks : List ℕ} (c : AreCells has depth slots cells marks) where
  -- every mark is taken away
  pub are_cleared : (words : List ℕ) → words ≡ replicate (length marks) 0 → AreCells has depth slots cells words
  are_cleared words is =
      let shows = unmarked_bare words (length marks) cells is in
      record {
        some_depth = c.some_depth;
        most_depth = c.most_depth;
        some_slots = c.some_slots;
        most_slots = c.most_slots;
        long = c.long;
        each = c.each;
        stand = subst (λ (cs : List (Option (Row × ℕ))). KeysStand depth slots cs) (sym shows) (stand_bare depth slots (length cells));
        marked = marks_bare (length cells) words (all_shown words cells) (is ∙ ap (λ n. replicate n 0) (c.marked.level ∙ ap (λ n. div_ceil n 64) (length-all_shown marks cells))) shows;
      }

  pub clear_shows : {F : Type 0} (f : F) (s : ChainState F) (words : List ℕ) → words ≡ replicate (length marks) 0 → state_of f depth slots marks cells ≡ s → state_of f depth slots words cells ≡ empty_chain s.fold s.depth s.slots
  clear_shows {F = F} f s words is view =
      subst (λ (t : ChainState F). state_of f depth slots words cells ≡ empty_chain t.fold t.depth t.slots) view
      (ap (state_with f depth slots) (unmarked_bare words (length marks) cells is ∙ ap (λ n. replicate n None) c.long))

  -- a place of a cell is one of what it shows
  pub inside_shown : (at : ℕ) → at < length cells → at < length (all_shown marks cells)
  inside_shown at inside = subst (λ (n : ℕ). at < n) (sym (length-all_shown marks cells)) inside

  -- the marks after an offer of a key that is held
  pub marks_held : (at w : ℕ) (new : List (Row × ℕ)) → at < length cells → new ≡ set cells at (with_value w (get_or cells at bare)) → AreMarks marks (all_shown marks new)
  marks_held at w new inside written =
      let x = get_or cells at bare in
      let shown = all_shown marks cells in
      subst (λ (cs : List (Option (Row × ℕ))). AreMarks marks cs) (sym (ap (all_shown marks) written ∙ set_shown marks cells at (with_value w x)))
      (marks_stay marks shown c.marked at (inside_shown at inside) (shown_if (mark_at marks at) (with_value w x))
      (same_mark (mark_at marks at) w x ∙ sym (ap mark_of (read_cell marks cells at x inside (get_or_default cells at bare x inside)))))

  pub words_few : length marks * 64 < 2 ^ 32
  words_few = few_words marks (all_shown marks cells) c.marked depth slots (length-all_shown marks cells ∙ c.long) c.most_depth c.most_slots

  -- a place has a word
  pub word_there : (at : ℕ) → at < length cells → at / 64 < length marks
  word_there at inside = word_within marks (all_shown marks cells) c.marked at (inside_shown at inside)

  -- the marks after an offer of a key that takes a cell
  pub marks_new : (key : Row) (v at : ℕ) (new : List (Row × ℕ)) (words : List ℕ) → at < length cells → new ≡ set cells at (key, v) →
      length words ≡ length marks → mark_at words at ≡ 1 → ((p : ℕ) → p ≢ at → mark_at words p ≡ mark_at marks p) → AreMarks words (all_shown words new)
  marks_new key v at new words inside written long here others =
      subst (λ (cs : List (Option (Row × ℕ))). AreMarks words cs) (sym (ap (all_shown words) written ∙ set_taken marks cells words at (key, v) here others))
      (marks_taken marks (all_shown marks cells) c.marked at (inside_shown at inside) words (key, v) long here others)

  -- the keys stand after an offer too
  stand_after : {F : Type 0} (join : F → ℕ → ℕ → ℕ) (f : F) (key : Row) (v : ℕ) (new : List (Row × ℕ)) (words : List ℕ) →
      state_of f depth slots words new ≡ after_offer join (state_of f depth slots marks cells) key v → KeysStand depth slots (all_shown words new)
  stand_after {F = F} join f key v new words is =
      subst (λ (cs : List (Option (Row × ℕ))). KeysStand depth slots cs) (sym (ap (λ (s : ChainState F). s.cells) is))
      (stand_put depth slots (all_shown marks cells) c.stand c.some_slots (length-all_shown marks cells ∙ c.long) (join f) key v)

  -- the cells after an offer that was written to one of them
  pub are_offered : {F : Type 0} (join : F → ℕ → ℕ → ℕ) (f : F) (key : Row) (v at : ℕ) (x : Row × ℕ) (new : List (Row × ℕ)) (words : List ℕ) → new ≡ set cells at x →
      state_of f depth slots words new ≡ after_offer join (state_of f depth slots marks cells) key v → has x.1 → AreMarks words (all_shown words new) → AreCells has depth slots new words
  are_offered join f key v at x new words written is one marked = record {
    some_depth = c.some_depth;
    most_depth = c.most_depth;
    some_slots = c.some_slots;
    most_slots = c.most_slots;
    long = ap length written ∙ length-set cells at x ∙ c.long;
    each =
        subst (λ (cs : List (Row × ℕ)). AllByRecursion (λ (d : Row × ℕ). has d.1) cs) (sym written)
        (recursion_from_All (λ (d : Row × ℕ). has d.1) (set cells at x) (All-set (λ (d : Row × ℕ). has d.1) cells at x one (All-from_recursion (λ (d : Row × ℕ). has d.1) cells c.each)));
    stand = stand_after join f key v new words is;
    marked = marked;
  }
