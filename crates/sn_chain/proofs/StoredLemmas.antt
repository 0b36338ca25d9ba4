-- The cells of a chain, by the heads, kinds and whole keys in which they are stored.
use Rattle.std.proofs.Common.{◌≡◌, ◌≢◌, ℕ, zero, suc, ◌<◌, List, [], ◌∷◌, length, get_or, set, replicate, inl, inr, refl, ap, sym, subst, ◌∙◌, arith}
use Rattle.std.proofs.lemmas.Bool.{cases_eq}
use Rattle.std.proofs.lemmas.List.{get_or_default, get_or-replicate, get_or-set_same, get_or-set_other, length-replicate, length-set}
use Rattle.sn_base.specs.Groups.{Row}
use Rattle.sn_chain.specs.Codes.{IsStored}
use Rattle.sn_chain.specs.Stored.{bare_head, code_in, cell_of, cells_of, AreStored}
use Rattle.sn_chain.specs.declared.head.Head.{Head}

pub length-cells_of : (heads : List Head) (kinds : List ℕ) (wholes : List Row) → length kinds ≡ length heads → length wholes ≡ length heads → length (cells_of heads kinds wholes) ≡ length heads
length-cells_of [] kinds wholes level also = refl
length-cells_of (h ∷ heads) [] wholes level also = absurd (omega (arith, level))
length-cells_of (h ∷ heads) (k ∷ kinds) [] level also = absurd (omega (arith, also))
length-cells_of (h ∷ heads) (k ∷ kinds) (w ∷ wholes) level also = ap suc (length-cells_of heads kinds wholes (omega (arith, level)) (omega (arith, also)))

-- a head beside its kind and whole key
cell_stored : (heads : List Head) (kinds : List ℕ) (wholes : List Row) (i : ℕ) (e : Head) (k : ℕ) (d : Row × ℕ) → length kinds ≡ length heads → length wholes ≡ length heads → i < length heads →
    get_or (cells_of heads kinds wholes) i d ≡ cell_of (get_or heads i e) (get_or kinds i k) (get_or wholes i [])
cell_stored [] kinds wholes i e k d level also within = absurd (omega arith)
cell_stored (h ∷ heads) [] wholes i e k d level also within = absurd (omega (arith, level))
cell_stored (h ∷ heads) (j ∷ kinds) [] i e k d level also within = absurd (omega (arith, also))
cell_stored (h ∷ heads) (j ∷ kinds) (w ∷ wholes) zero e k d level also within = refl
cell_stored (h ∷ heads) (j ∷ kinds) (w ∷ wholes) (suc i) e k d level also within = cell_stored heads kinds wholes i e k d (omega (arith, level)) (omega (arith, also)) (omega arith)

-- one head is written
pub head_written : (heads : List Head) (kinds : List ℕ) (wholes : List Row) (i : ℕ) (h : Head) → length kinds ≡ length heads → length wholes ≡ length heads →
    cells_of (set heads i h) kinds wholes ≡ set (cells_of heads kinds wholes) i (cell_of h (get_or kinds i 9) (get_or wholes i []))
head_written [] kinds wholes i h level also = refl
head_written (g ∷ heads) [] wholes i h level also = absurd (omega (arith, level))
head_written (g ∷ heads) (k ∷ kinds) [] i h level also = absurd (omega (arith, also))
head_written (g ∷ heads) (k ∷ kinds) (w ∷ wholes) zero h level also = refl
head_written (g ∷ heads) (k ∷ kinds) (w ∷ wholes) (suc i) h level also = ap (λ cs. cell_of g k w ∷ cs) (head_written heads kinds wholes i h (omega (arith, level)) (omega (arith, also)))

-- and its kind too
pub kind_written : (heads : List Head) (kinds : List ℕ) (wholes : List Row) (i : ℕ) (h : Head) (k : ℕ) → length kinds ≡ length heads → length wholes ≡ length heads →
    cells_of (set heads i h) (set kinds i k) wholes ≡ set (cells_of heads kinds wholes) i (cell_of h k (get_or wholes i []))
kind_written [] kinds wholes i h k level also = refl
kind_written (g ∷ heads) [] wholes i h k level also = absurd (omega (arith, level))
kind_written (g ∷ heads) (j ∷ kinds) [] i h k level also = absurd (omega (arith, also))
kind_written (g ∷ heads) (j ∷ kinds) (w ∷ wholes) zero h k level also = refl
kind_written (g ∷ heads) (j ∷ kinds) (w ∷ wholes) (suc i) h k level also = ap (λ cs. cell_of g j w ∷ cs) (kind_written heads kinds wholes i h k (omega (arith, level)) (omega (arith, also)))

-- and its whole key
pub all_written : (heads : List Head) (kinds : List ℕ) (wholes : List Row) (i : ℕ) (h : Head) (k : ℕ) (w : Row) → length kinds ≡ length heads → length wholes ≡ length heads →
    cells_of (set heads i h) (set kinds i k) (set wholes i w) ≡ set (cells_of heads kinds wholes) i (cell_of h k w)
all_written [] kinds wholes i h k w level also = refl
all_written (g ∷ heads) [] wholes i h k w level also = absurd (omega (arith, level))
all_written (g ∷ heads) (j ∷ kinds) [] i h k w level also = absurd (omega (arith, also))
all_written (g ∷ heads) (j ∷ kinds) (x ∷ wholes) zero h k w level also = refl
all_written (g ∷ heads) (j ∷ kinds) (x ∷ wholes) (suc i) h k w level also = ap (λ cs. cell_of g j x ∷ cs) (all_written heads kinds wholes i h k w (omega (arith, level)) (omega (arith, also)))

-- ---- cells with the key of no column

all_alike : (n : ℕ) (h : Head) (k : ℕ) (w : Row) → cells_of (replicate n h) (replicate n k) (replicate n w) ≡ replicate n (cell_of h k w)
all_alike zero h k w = refl
all_alike (suc n) h k w = ap (λ cs. cell_of h k w ∷ cs) (all_alike n h k w)

abbrev nine : ℕ
nine = 9

module _ (count value : ℕ) (heads : List Head) (kinds : List ℕ) (wholes : List Row) (heads_are : heads ≡ replicate count (bare_head value)) (kinds_are : kinds ≡ replicate count 9) (wholes_are : wholes ≡ replicate count []) where
  pub bare_cells : cells_of heads kinds wholes ≡ replicate count ([], value)
  bare_cells =
      ap (λ hs. cells_of hs kinds wholes) heads_are ∙ ap (λ ks. cells_of (replicate count (bare_head value)) ks wholes) kinds_are
      ∙ ap (λ ws. cells_of (replicate count (bare_head value)) (replicate count 9) ws) wholes_are ∙ all_alike count (bare_head value) 9 []

  pub bare_stored : (limit : ℕ) → AreStored limit heads kinds wholes
  bare_stored limit = record {
    kinds_level = ap (λ (ks : List ℕ). length ks) kinds_are ∙ length-replicate {A = ℕ} count nine ∙ sym heads_long;
    wholes_level = ap length wholes_are ∙ length-replicate {A = Row} count [] ∙ sym heads_long;
    each = λ i within.
        let inside : i < count = subst (λ (n : ℕ). i < n) heads_long within in
        let none : Row = [] in
        let head : get_or heads i (bare_head 0) ≡ bare_head value = ap (λ hs. get_or hs i (bare_head 0)) heads_are ∙ get_or-replicate count i (bare_head value) (bare_head 0) inside in
        let kind : get_or kinds i nine ≡ nine = ap (λ (ks : List ℕ). get_or ks i nine) kinds_are ∙ get_or-replicate {A = ℕ} count i nine nine inside in
        let whole : get_or wholes i none ≡ none = ap (λ ws. get_or ws i none) wholes_are ∙ get_or-replicate count i none none inside in
        subst (λ (h : Head). IsStored limit (code_in (get_or kinds i 9) h) (get_or wholes i none)) (sym head)
        (subst (λ (k : ℕ). IsStored limit (code_in k (bare_head value)) (get_or wholes i none)) (sym kind)
        (subst (λ (w : Row). IsStored limit (code_in 9 (bare_head value)) w) (sym whole)
        (record { single = λ one. absurd (nine_one one); code_is = refl })));
  }
    where
      heads_long : length heads ≡ count
      heads_long = ap length heads_are ∙ length-replicate count (bare_head value)

      nine_one : nine ≡ 1 → ⊥
      nine_one e = omega (arith, e)

-- ---- one cell is written

module _ (limit : ℕ) (heads : List Head) (kinds : List ℕ) (wholes : List Row) (stored : AreStored limit heads kinds wholes) (at : ℕ) (h : Head) where
  abbrev head_at : List Head → ℕ → Head
  head_at hs i = get_or hs i (bare_head 0)

  abbrev kind_at : List ℕ → ℕ → ℕ
  kind_at ks i = get_or ks i 9

  abbrev whole_at : List Row → ℕ → Row
  whole_at ws i = get_or ws i []

  -- its head alone
  pub head_stored : (at < length heads → IsStored limit (code_in (kind_at kinds at) h) (whole_at wholes at)) → AreStored limit (set heads at h) kinds wholes
  head_stored one = record {
    kinds_level = stored.kinds_level ∙ sym (length-set heads at h);
    wholes_level = stored.wholes_level ∙ sym (length-set heads at h);
    each = λ i within.
        let inside : i < length heads = subst (λ (n : ℕ). i < n) (length-set heads at h) within in
        elim (cases_eq i at) [
          | inl here ↦
              let there : at < length heads = subst (λ (n : ℕ). n < length heads) here inside in
              subst (λ (j : ℕ). IsStored limit (code_in (kind_at kinds j) (head_at (set heads at h) j)) (whole_at wholes j)) (sym here)
              (subst (λ (g : Head). IsStored limit (code_in (kind_at kinds at) g) (whole_at wholes at)) (sym (get_or-set_same heads at h (bare_head 0) there)) (one there))
          | inr apart ↦ subst (λ (g : Head). IsStored limit (code_in (kind_at kinds i) g) (whole_at wholes i)) (sym (get_or-set_other heads at i h (bare_head 0) apart)) (stored.each i inside)
        ];
  }

  -- and its kind
  pub kind_stored : (k : ℕ) → (at < length heads → IsStored limit (code_in k h) (whole_at wholes at)) → AreStored limit (set heads at h) (set kinds at k) wholes
  kind_stored k one = record {
    kinds_level = length-set kinds at k ∙ stored.kinds_level ∙ sym (length-set heads at h);
    wholes_level = stored.wholes_level ∙ sym (length-set heads at h);
    each = λ i within.
        let inside : i < length heads = subst (λ (n : ℕ). i < n) (length-set heads at h) within in
        elim (cases_eq i at) [
          | inl here ↦
              let there : at < length heads = subst (λ (n : ℕ). n < length heads) here inside in
              let also : at < length kinds = subst (λ (n : ℕ). at < n) (sym stored.kinds_level) there in
              subst (λ (j : ℕ). IsStored limit (code_in (kind_at (set kinds at k) j) (head_at (set heads at h) j)) (whole_at wholes j)) (sym here)
              (subst (λ (g : Head). IsStored limit (code_in (kind_at (set kinds at k) at) g) (whole_at wholes at)) (sym (get_or-set_same heads at h (bare_head 0) there))
              (subst (λ (n : ℕ). IsStored limit (code_in n h) (whole_at wholes at)) (sym (get_or-set_same kinds at k 9 also)) (one there)))
          | inr apart ↦
              subst (λ (g : Head). IsStored limit (code_in (kind_at (set kinds at k) i) g) (whole_at wholes i)) (sym (get_or-set_other heads at i h (bare_head 0) apart))
              (subst (λ (n : ℕ). IsStored limit (code_in n (head_at heads i)) (whole_at wholes i)) (sym (get_or-set_other kinds at i k 9 apart)) (stored.each i inside))
        ];
  }

-- a whole key beside it
pub whole_stored : (limit : ℕ) (heads : List Head) (kinds : List ℕ) (wholes : List Row) (at : ℕ) (w : Row) → length wholes ≡ length heads → length kinds ≡ length heads →
    ((i : ℕ) → i < length heads → i ≢ at → IsStored limit (code_in (get_or kinds i 9) (get_or heads i (bare_head 0))) (get_or wholes i [])) →
    (at < length heads → IsStored limit (code_in (get_or kinds at 9) (get_or heads at (bare_head 0))) w) → AreStored limit heads kinds (set wholes at w)
whole_stored limit heads kinds wholes at w level also others one = record {
  kinds_level = also;
  wholes_level = length-set wholes at w ∙ level;
  each = λ i within.
      elim (cases_eq i at) [
        | inl here ↦
            let there : at < length heads = subst (λ (n : ℕ). n < length heads) here within in
            let inside : at < length wholes = subst (λ (n : ℕ). at < n) (sym level) there in
            subst (λ (j : ℕ). IsStored limit (code_in (get_or kinds j 9) (get_or heads j (bare_head 0))) (get_or (set wholes at w) j [])) (sym here)
            (subst (λ (x : Row). IsStored limit (code_in (get_or kinds at 9) (get_or heads at (bare_head 0))) x) (sym (get_or-set_same wholes at w [] inside)) (one there))
        | inr apart ↦ subst (λ (x : Row). IsStored limit (code_in (get_or kinds i 9) (get_or heads i (bare_head 0))) x) (sym (get_or-set_other wholes at i w [] apart)) (others i within apart)
      ];
}

-- a head, its kind and its whole key
pub all_stored : (limit : ℕ) (heads : List Head) (kinds : List ℕ) (wholes : List Row) → AreStored limit heads kinds wholes → (at : ℕ) (h : Head) (k : ℕ) (w : Row) → IsStored limit (code_in k h) w →
    AreStored limit (set heads at h) (set kinds at k) (set wholes at w)
all_stored limit heads kinds wholes stored at h k w one =
    whole_stored limit (set heads at h) (set kinds at k) wholes at w (stored.wholes_level ∙ sym (length-set heads at h)) (length-set kinds at k ∙ stored.kinds_level ∙ sym (length-set heads at h))
    (λ i within apart.
    let inside : i < length heads = subst (λ (n : ℕ). i < n) (length-set heads at h) within in
    subst (λ (g : Head). IsStored limit (code_in (get_or (set kinds at k) i 9) g) (get_or wholes i [])) (sym (get_or-set_other heads at i h (bare_head 0) apart))
    (subst (λ (n : ℕ). IsStored limit (code_in n (get_or heads i (bare_head 0))) (get_or wholes i [])) (sym (get_or-set_other kinds at i k 9 apart)) (stored.each i inside)))
    (λ within.
    let there : at < length heads = subst (λ (n : ℕ). at < n) (length-set heads at h) within in
    let also : at < length kinds = subst (λ (n : ℕ). at < n) (sym stored.kinds_level) there in
    subst (λ (g : Head). IsStored limit (code_in (get_or (set kinds at k) at 9) g) w) (sym (get_or-set_same heads at h (bare_head 0) there))
    (subst (λ (n : ℕ). IsStored limit (code_in n h) w) (sym (get_or-set_same kinds at k 9 also)) one))

-- ---- what is read of the cells

module _ (limit : ℕ) (heads : List Head) (kinds : List ℕ) (wholes : List Row) (cells : List (Row × ℕ)) (view_is : cells_of heads kinds wholes ≡ cells) (stored : AreStored limit heads kinds wholes) where
  pub within_heads : (i : ℕ) → i < length cells → i < length heads
  within_heads i within = subst (λ (n : ℕ). i < n) (ap length (sym view_is) ∙ length-cells_of heads kinds wholes stored.kinds_level stored.wholes_level) within

  pub within_kinds : (i : ℕ) → i < length cells → i < length kinds
  within_kinds i within = subst (λ (n : ℕ). i < n) (sym stored.kinds_level) (within_heads i within)

  pub within_wholes : (i : ℕ) → i < length cells → i < length wholes
  within_wholes i within = subst (λ (n : ℕ). i < n) (sym stored.wholes_level) (within_heads i within)

  -- a cell of which no head was read
  pub kept_is : (i : ℕ) → i < length heads → (d : Row × ℕ) → get_or cells i d ≡ cell_of (get_or heads i (bare_head 0)) (get_or kinds i 9) (get_or wholes i [])
  kept_is i within d = ap (λ cs. get_or cs i d) (sym view_is) ∙ cell_stored heads kinds wholes i (bare_head 0) 9 d stored.kinds_level stored.wholes_level within

  -- a head that was read
  module _ (i : ℕ) (h : Head) (within : i < length heads) (is : h ≡ get_or heads i h) where
    pub cell_is : (d : Row × ℕ) → get_or cells i d ≡ cell_of h (get_or kinds i 9) (get_or wholes i [])
    cell_is d =
        ap (λ cs. get_or cs i d) (sym view_is) ∙ cell_stored heads kinds wholes i h 9 d stored.kinds_level stored.wholes_level within
        ∙ ap (λ x. cell_of x (get_or kinds i 9) (get_or wholes i [])) (sym is)

    pub head_is : IsStored limit (code_in (get_or kinds i 9) h) (get_or wholes i [])
    head_is = subst (λ (g : Head). IsStored limit (code_in (get_or kinds i 9) g) (get_or wholes i [])) (get_or_default heads i (bare_head 0) h within ∙ sym is) (stored.each i within)
