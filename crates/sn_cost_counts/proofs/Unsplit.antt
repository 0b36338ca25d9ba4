-- What operators give of all rows, beside those for each list of sizes.
use Rattle.std.proofs.Common.{◌≡◌, ℕ, zero, suc, ◌+◌, ◌≤◌, ◌<◌, List, [], ◌∷◌, map, take, drop, length, get_or, Bool, true, false, cond, Option, Some, None, IfSome, refl, ap, sym, subst, ◌∙◌}
use Rattle.std.specs.Option.{option_map}
use Rattle.std.proofs.lemmas.List.{drop_all}
use Rattle.sn_base.specs.Groups.{Row}
use Rattle.sn_base.specs.Operators.{apply, through}
use Rattle.sn_ops.specs.Flow.{AllFit, Fits}
use Rattle.sn_types.specs.declared.typed_op.TOp.{TOp}
use Rattle.sn_types.specs.declared.typed_op.TOp.TheVariants as ops
use Rattle.sn_types.specs.Cuts.{is_stateful}
use Rattle.sn_types.specs.Values.{op_at}
use Rattle.sn_cost_counts.proofs.Going.{operators_ahead}

-- ---- a distinct or a reduce

-- a distinct and a reduce are the same at all levels
pub at_all_levels : (level : ℕ) (op : TOp) → is_stateful op ≡ true → op_at 0 op ≡ op_at level op
at_all_levels level (ops.Filter conds) is = absurd cc
at_all_levels level (ops.Map exprs) is = absurd cc
at_all_levels level ops.Distinct is = refl
at_all_levels level (ops.Reduce r) is = refl

-- ---- one operator after another

if_some : {A : Type 0} (o : Option A) (P Q : A → Type 0) → ((x : A) → P x → Q x) → IfSome o P → IfSome o Q
if_some None P Q f h = tt
if_some (Some x) P Q f h = f x h

map_same : {A : Type 0} (o : Option A) → option_map (λ x. x) o ≡ o
map_same None = refl
map_same (Some x) = refl

map_twice : {A : Type 0} (f g : A → A) (o : Option A) → option_map g (option_map f o) ≡ option_map (λ x. g (f x)) o
map_twice f g None = refl
map_twice f g (Some x) = refl

if_mapped : {A : Type 0} (f : A → A) (o : Option A) (P : A → Type 0) → IfSome o (λ x. P (f x)) → IfSome (option_map f o) P
if_mapped f None P h = tt
if_mapped f (Some x) P h = h

-- what operators give of all rows, where that is kept
abbrev pub given : Bool → ℕ → List TOp → List Row → Option (List Row)
given kept level os rows = cond kept (Some (through (map (op_at level) os) rows)) None

-- the operators ahead give of what is kept this, which all of them give of the first
abbrev pub Follows : ℕ → List TOp → Option (List Row) → ℕ → Option (List Row) → Type 0
Follows level os all i o = option_map (through (map (op_at level) (drop i os))) o ≡ all

pub follows_next : (level : ℕ) (os : List TOp) (all : Option (List Row)) (i : ℕ) (op : TOp) (o next : Option (List Row)) → i < length os → op ≡ get_or os i op → Follows level os all i o
    → next ≡ option_map (apply (op_at level op)) o → Follows level os all (i + 1) next
follows_next level os all i op o next lt at so_far is =
    let following : List TOp = drop (i + 1) os in
    ap (option_map (through (map (op_at level) following))) is
    ∙ map_twice (apply (op_at level op)) (through (map (op_at level) following)) o
    ∙ sym (ap (λ (xs : List TOp). option_map (through (map (op_at level) xs)) o) (operators_ahead os i op lt at))
    ∙ so_far

pub follows_all : (level : ℕ) (os : List TOp) (all : Option (List Row)) (i : ℕ) (o : Option (List Row)) → length os ≤ i → Follows level os all i o → o ≡ all
follows_all level os all i o le so_far = sym (map_same o) ∙ sym (ap (λ (xs : List TOp). option_map (through (map (op_at level) xs)) o) (drop_all i os le)) ∙ so_far

-- ---- operators fit all rows, as long as they're held

fits_ahead : (level : ℕ) (os : List TOp) (i : ℕ) (op : TOp) (held : Option (List Row)) → i < length os → op ≡ get_or os i op → IfSome held (AllFit level (drop i os)) → IfSome held (AllFit level (op ∷ drop (i + 1) os))
fits_ahead level os i op held lt at fit = subst (λ (xs : List TOp). IfSome held (AllFit level xs)) (operators_ahead os i op lt at) fit

pub fits_one : (level : ℕ) (os : List TOp) (i : ℕ) (op : TOp) (held : Option (List Row)) → i < length os → op ≡ get_or os i op → IfSome held (AllFit level (drop i os)) → IfSome held (Fits op)
fits_one level os i op held lt at fit = if_some held (AllFit level (op ∷ drop (i + 1) os)) (Fits op) (λ x f. f.0) (fits_ahead level os i op held lt at fit)

-- where rows are held after an operator, they're what it gives of those held before
pub fits_after : (level : ℕ) (os : List TOp) (i : ℕ) (op : TOp) (held next : Option (List Row)) → i < length os → op ≡ get_or os i op → IfSome held (AllFit level (drop i os))
    → IfSome next (λ rows. option_map (apply (op_at level op)) held ≡ Some rows) → IfSome next (AllFit level (drop (i + 1) os))
fits_after level os i op held None lt at fit is = tt
fits_after level os i op held (Some rows) lt at fit is =
    let following : List TOp = drop (i + 1) os in
    subst (λ (x : Option (List Row)). IfSome x (AllFit level following)) is
    (if_mapped (apply (op_at level op)) held (AllFit level following)
    (if_some held (AllFit level (op ∷ following)) (λ (x : List Row). AllFit level following (apply (op_at level op) x)) (λ x f. f.1) (fits_ahead level os i op held lt at fit)))

-- where all rows are kept, or none
pub map_given : (asked : Bool) (f : List Row → List Row) (rows : List Row) → option_map f (cond asked (Some rows) None) ≡ cond asked (Some (f rows)) None
map_given true f rows = refl
map_given false f rows = refl

-- ---- the operators after a cut

pub fit_rest : (level n : ℕ) (os : List TOp) (rows : List Row) → AllFit level os rows → AllFit level (drop n os) (through (map (op_at level) (take n os)) rows)
fit_rest level zero os rows h = h
fit_rest level (suc n) [] rows h = tt
fit_rest level (suc n) (op ∷ os) rows h = fit_rest level n os (apply (op_at level op) rows) h.1

pub through_rest : (level n : ℕ) (os : List TOp) (rows : List Row) → through (map (op_at level) (drop n os)) (through (map (op_at level) (take n os)) rows) ≡ through (map (op_at level) os) rows
through_rest level zero os rows = refl
through_rest level (suc n) [] rows = refl
through_rest level (suc n) (op ∷ os) rows = through_rest level n os (apply (op_at level op) rows)
