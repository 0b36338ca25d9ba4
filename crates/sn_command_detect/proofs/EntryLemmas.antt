-- The entries of a plan, by their numbers.
use Rattle.std.proofs.Common.{◌≡◌, ℕ, zero, suc, ◌+◌, ◌-◌, ◌<◌, ◌≤◌, List, [], ◌∷◌, ◌++◌, length, get_or, Bool, true, false, cond, is_some, nat_eq, slice_index, Option, None, Some, IsSome, refl, ap, sym, ◌∙◌, arith}
use Rattle.std.specs.List.{list_any}
use Rattle.sn_base.proofs.Lists.{all_at, none_some, some_same}
use Rattle.sn_base.specs.Rising.{IsRising}
use Rattle.sn_command_detect.specs.Detected.{Watched, watched_from}
use Rattle.sn_plan_fit.specs.Fits.{AreEntriesOf, IsEntryOf, IsPath}
use Rattle.sn_plan_fit.specs.Paths.{last_from}
use Rattle.sn_plan_grammar.specs.declared.plan.Entry.{Entry}
use Rattle.sn_refine.specs.Steps.{IsPathOf}
use Rattle.sn_refine_laws.specs.Reported.{EndsFinest}
use Rattle.sn_types.specs.declared.typed_query.TypedQuery.{TypedQuery}
use Rattle.sn_types.specs.Typed.{query_at}

pub as_many : (qs : List TypedQuery) (es : List Entry) → AreEntriesOf qs es → length es ≡ length qs
as_many [] [] h = refl
as_many [] (e ∷ es) h = absurd h
as_many (q ∷ qs) [] h = absurd h
as_many (q ∷ qs) (e ∷ es) h = ap suc (as_many qs es h.1)

pub entry_at : (qs : List TypedQuery) (es : List Entry) (i : ℕ) (d : Entry) → AreEntriesOf qs es → i < length qs → IsEntryOf (query_at qs i) (get_or es i d)
entry_at [] es i d h lt = absurd (omega (arith, lt))
entry_at (q ∷ qs) [] i d h lt = absurd h
entry_at (q ∷ qs) (e ∷ es) zero d h lt = h.0
entry_at (q ∷ qs) (e ∷ es) (suc i) d h lt = entry_at qs es i d h.1 (omega (arith, lt))

-- ---- paths

rises_next : (path : List ℕ) (j : ℕ) → IsRising path → suc j < length path → slice_index path j < slice_index path (suc j)
rises_next [] j h within = absurd (omega (arith, within))
rises_next (l ∷ path) zero h within = all_at (λ m. l < m) path 0 h.0 (omega (arith, within))
rises_next (l ∷ path) (suc j) h within = rises_next path j h.1 (omega (arith, within))

last_index : (o : Option ℕ) (path : List ℕ) (last n : ℕ) → length path ≡ suc last → last_from o path ≡ Some n → slice_index path last ≡ n
last_index o [] last n long is = absurd (omega (arith, long))
last_index o (l ∷ []) zero n long is = some_same l n is
last_index o (l ∷ []) (suc last) n long is = absurd (omega (arith, long))
last_index o (l ∷ m ∷ path) zero n long is = absurd (omega (arith, long))
last_index o (l ∷ m ∷ path) (suc last) n long is = last_index (Some l) (m ∷ path) last n (omega (arith, long)) is

some_last : (path : List ℕ) (n : ℕ) → last_from None path ≡ Some n → 1 ≤ length path
some_last [] n is = absurd (none_some is)
some_last (l ∷ path) n is = omega arith

pub path_some : (levels path : List ℕ) → IsPath levels path → 1 ≤ length path
path_some levels path h = some_last path h.finest.0 h.finest.1

pub path_ends : (query : TypedQuery) (path : List ℕ) → IsPath query.levels path → EndsFinest query path
path_ends query path h =
    let some : 1 ≤ length query.levels = some_last query.levels h.finest.0 h.finest.2 in
    let long : length query.levels ≡ suc (length query.levels - 1) = omega (arith, some) in
    record {
      known = λ j within. all_at (λ level. list_any (nat_eq level) query.levels ≡ true) path j h.known within;
      rising = λ j within. let less = rises_next path j h.rising within in omega (arith, less);
      finest = λ last whole. last_index None path last h.finest.0 whole h.finest.1 ∙ sym (last_index None query.levels (length query.levels - 1) h.finest.0 long h.finest.2);
    }

pub path_of : (queries : List TypedQuery) (q : ℕ) (path : List ℕ) → q < length queries → IsPath (query_at queries q).levels path → IsSome (query_at queries q).field → IsPathOf queries q path
path_of queries q path within h some = record { query = within; known = h.known; refined = λ several. some }

-- ---- one entry more

pub watched_more : (queries : List TypedQuery) (n : ℕ) (es : List Entry) (e : Entry) → watched_from queries n (es ++ e ∷ []) ≡ watched_from queries n es ++ cond (is_some (query_at queries (n + length es)).field) ((n + length es, e.levels) ∷ []) []
watched_more queries n [] e = ap (λ m. cond (is_some (query_at queries m).field) ((m, e.levels) ∷ []) []) (zero_more n)
  where
    zero_more : (m : ℕ) → m ≡ m + 0
    zero_more m = omega arith
watched_more queries n (f ∷ es) e =
    let next : suc n + length es ≡ n + suc (length es) = omega arith in
    by_field (watched_more queries (suc n) es e ∙ ap (λ m. watched_from queries (suc n) es ++ cond (is_some (query_at queries m).field) ((m, e.levels) ∷ []) []) next)
    (is_some (query_at queries n).field)
  where
    by_field : watched_from queries (suc n) (es ++ e ∷ []) ≡ watched_from queries (suc n) es ++ cond (is_some (query_at queries (n + suc (length es))).field) ((n + suc (length es), e.levels) ∷ []) []
        → (b : Bool) → cond b ((n, f.levels) ∷ watched_from queries (suc n) (es ++ e ∷ [])) (watched_from queries (suc n) (es ++ e ∷ []))
        ≡ cond b ((n, f.levels) ∷ watched_from queries (suc n) es) (watched_from queries (suc n) es) ++ cond (is_some (query_at queries (n + suc (length es))).field) ((n + suc (length es), e.levels) ∷ []) []
    by_field rest true = ap (λ (xs : List Watched). (n, f.levels) ∷ xs) rest
    by_field rest false = rest
