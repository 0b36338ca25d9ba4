-- Keys, by what cells say of them.
use Rattle.std.proofs.Common.{◌≡◌, ℕ, ◌+◌, ◌*◌, ◌/◌, ◌%◌, ◌^◌, ◌<◌, [], ◌∷◌, length, Bool, true, false, ◌&&◌, nat_eq, nat_lt, get_or, refl, ap, ap₂, sym, ◌∙◌, arith}
use Rattle.std.specs.Cmp.Lexicographic.{nat_list_eq_equiv}
use Rattle.std.proofs.lemmas.Bool.{ltb-true, eq-eqb}
use Rattle.sn_base.specs.Groups.{Row, same_row}
use Rattle.sn_base.proofs.Lists.{and_parts, not_true, nat_same}
use Rattle.sn_base.proofs.FoldedLemmas.{same_row_exact}
use Rattle.sn_chain.specs.Codes.{whole_code, reported, code_of, key_in, IsStored}
use Rattle.sn_chain.specs.declared.code.Code.{Code}

-- ---- a key is what its code says

kept_if : (fits : Bool) (code : Code) (key whole : Row) → (fits ≡ true → key_in code whole ≡ key) → ((reported fits code).kind ≡ 9 → whole ≡ key) → key_in (reported fits code) whole ≡ key
kept_if true code key whole kept same = kept refl
kept_if false code key whole kept same = same refl

low_half : (b c : ℕ) → b < 2 ^ 32 → (b + c * 2 ^ 32) % 2 ^ 32 ≡ b
low_half b c below = omega (arith, below)

high_half : (b c : ℕ) → b < 2 ^ 32 → (b + c * 2 ^ 32) / 2 ^ 32 ≡ c
high_half b c below = omega (arith, below)

both_halves : (a : ℕ) → a % 2 ^ 64 + a / 2 ^ 64 * 2 ^ 64 ≡ a
both_halves a = omega arith

three_kept : (a b c : ℕ) (whole : Row) → (nat_lt a (2 ^ 64) && (nat_lt b (2 ^ 32) && nat_lt c (2 ^ 32))) ≡ true → key_in (record { kind = 3; first = a; second = b + c * 2 ^ 32 }) whole ≡ a ∷ b ∷ c ∷ []
three_kept a b c whole fits =
    let rest = (and_parts (nat_lt a (2 ^ 64)) (nat_lt b (2 ^ 32) && nat_lt c (2 ^ 32)) fits).1 in
    let below : b < 2 ^ 32 = ltb-true b (2 ^ 32) (and_parts (nat_lt b (2 ^ 32)) (nat_lt c (2 ^ 32)) rest).0 in
    ap₂ (λ x y. a ∷ x ∷ y ∷ []) (low_half b c below) (high_half b c below)

pub key_kept : (key whole : Row) → ((code_of key).kind ≡ 9 → whole ≡ key) → key_in (code_of key) whole ≡ key
key_kept [] whole same = same refl
key_kept (a ∷ []) whole same = ap (λ n. n ∷ []) (both_halves a)
key_kept (a ∷ b ∷ []) whole same = kept_if (nat_lt a (2 ^ 64) && nat_lt b (2 ^ 64)) (record { kind = 2; first = a; second = b }) (a ∷ b ∷ []) whole (λ fits. refl) same
key_kept (a ∷ b ∷ c ∷ []) whole same =
    kept_if (nat_lt a (2 ^ 64) && (nat_lt b (2 ^ 32) && nat_lt c (2 ^ 32))) (record { kind = 3; first = a; second = b + c * 2 ^ 32 }) (a ∷ b ∷ c ∷ []) whole (three_kept a b c whole) same
key_kept (a ∷ b ∷ c ∷ d ∷ key) whole same = same refl

-- ---- whether a cell has a key

same_test : (a b : Bool) → (a ≡ true → b ≡ true) → (b ≡ true → a ≡ true) → a ≡ b
same_test true b f g = sym (f refl)
same_test false true f g = g refl
same_test false false f g = refl

and_true : (a b : Bool) → a ≡ true → b ≡ true → (a && b) ≡ true
and_true true true x y = refl
and_true true false x y = y
and_true false b x y = x

-- a code by its parts
code_by_parts : (c d : Code) → c.kind ≡ d.kind → c.first ≡ d.first → c.second ≡ d.second → c ≡ d
code_by_parts c d kind first second =
    ap (λ (n : ℕ). record { kind = n; first = c.first; second = c.second }) kind ∙ ap (λ (n : ℕ). record { kind = d.kind; first = n; second = c.second }) first
    ∙ ap (λ (n : ℕ). record { kind = d.kind; first = d.first; second = n }) second

module _ (limit : ℕ) (code : Code) (whole key : Row) (s : IsStored limit code whole) where
  -- a key of another kind is another key
  pub other_kind : (code.kind ≡ (code_of key).kind → ⊥) → same_row key (key_in code whole) ≡ false
  other_kind differ = not_true (same_row key (key_in code whole)) (λ e. differ (ap (λ (c : Code). c.kind) (s.code_is ∙ ap code_of (sym (same_row_exact key (key_in code whole) e)))))

  -- keys that are held whole are compared
  pub whole_same : code.kind ≡ 9 → same_row whole key ≡ same_row key (key_in code whole)
  whole_same nine = nat_list_eq_equiv.symm whole key ∙ ap (same_row key) (sym (ap (λ (k : ℕ). key_in (record { kind = k; first = code.first; second = code.second }) whole) nine))

  -- others are alike where their words are
  pub words_same : code.kind ≡ (code_of key).kind → ((code_of key).kind ≡ 9 → ⊥) → (nat_eq code.first (code_of key).first && nat_eq code.second (code_of key).second) ≡ same_row key (key_in code whole)
  words_same kind short =
      let own = code_of key in
      same_test (nat_eq code.first own.first && nat_eq code.second own.second) (same_row key (key_in code whole))
      (λ e.
      let parts = and_parts (nat_eq code.first own.first) (nat_eq code.second own.second) e in
      let is : code ≡ own = code_by_parts code own kind (nat_same code.first own.first parts.0) (nat_same code.second own.second parts.1) in
      let kept : key_in code whole ≡ key = ap (λ (c : Code). key_in c whole) is ∙ key_kept key whole (λ nine. absurd (short nine)) in
      ap (same_row key) kept ∙ nat_list_eq_equiv.refl key)
      (λ e.
      let is : code ≡ own = s.code_is ∙ ap code_of (sym (same_row_exact key (key_in code whole) e)) in
      and_true (nat_eq code.first own.first) (nat_eq code.second own.second) (eq-eqb code.first own.first (ap (λ (c : Code). c.first) is)) (eq-eqb code.second own.second (ap (λ (c : Code). c.second) is)))

-- ---- rows by their columns

pub row_of_none : (row : Row) → length row ≡ 0 → row ≡ []
row_of_none [] long = refl
row_of_none (a ∷ row) long = absurd (omega (arith, long))

pub row_of_one : (row : Row) → length row ≡ 1 → row ≡ get_or row 0 0 ∷ []
row_of_one [] long = absurd (omega (arith, long))
row_of_one (a ∷ []) long = refl
row_of_one (a ∷ b ∷ row) long = absurd (omega (arith, long))

pub row_of_two : (row : Row) → length row ≡ 2 → row ≡ get_or row 0 0 ∷ get_or row 1 0 ∷ []
row_of_two [] long = absurd (omega (arith, long))
row_of_two (a ∷ []) long = absurd (omega (arith, long))
row_of_two (a ∷ b ∷ []) long = refl
row_of_two (a ∷ b ∷ c ∷ row) long = absurd (omega (arith, long))

pub row_of_three : (row : Row) → length row ≡ 3 → row ≡ get_or row 0 0 ∷ get_or row 1 0 ∷ get_or row 2 0 ∷ []
row_of_three [] long = absurd (omega (arith, long))
row_of_three (a ∷ []) long = absurd (omega (arith, long))
row_of_three (a ∷ b ∷ []) long = absurd (omega (arith, long))
row_of_three (a ∷ b ∷ c ∷ []) long = refl
row_of_three (a ∷ b ∷ c ∷ d ∷ row) long = absurd (omega (arith, long))

pub code_of_more : (row : Row) → (length row ≡ 1 → ⊥) → (length row ≡ 2 → ⊥) → (length row ≡ 3 → ⊥) → code_of row ≡ whole_code
code_of_more [] one two three = refl
code_of_more (a ∷ []) one two three = absurd (one refl)
code_of_more (a ∷ b ∷ []) one two three = absurd (two refl)
code_of_more (a ∷ b ∷ c ∷ []) one two three = absurd (three refl)
code_of_more (a ∷ b ∷ c ∷ d ∷ row) one two three = refl

-- only a key of one column is of kind 1
reported_not_one : (fits : Bool) (code : Code) → (code.kind ≡ 1 → ⊥) → (reported fits code).kind ≡ 1 → ⊥
reported_not_one true code other = other
reported_not_one false code other = λ e. omega (arith, e)

pub one_column : (row : Row) → (code_of row).kind ≡ 1 → length row ≡ 1
one_column [] kind = absurd (omega (arith, kind))
one_column (a ∷ []) kind = refl
one_column (a ∷ b ∷ []) kind = absurd (reported_not_one (nat_lt a (2 ^ 64) && nat_lt b (2 ^ 64)) (record { kind = 2; first = a; second = b }) (λ e. omega (arith, e)) kind)
one_column (a ∷ b ∷ c ∷ []) kind =
    absurd (reported_not_one (nat_lt a (2 ^ 64) && (nat_lt b (2 ^ 32) && nat_lt c (2 ^ 32))) (record { kind = 3; first = a; second = b + c * 2 ^ 32 }) (λ e. omega (arith, e)) kind)
one_column (a ∷ b ∷ c ∷ d ∷ row) kind = absurd (omega (arith, kind))

-- ---- a key that takes a cell

module _ (limit : ℕ) (code : Code) (key whole : Row) (is : code ≡ code_of key) (same : code.kind ≡ 9 → whole ≡ key) where
  pub key_reported : key_in code whole ≡ key
  key_reported = ap (λ (c : Code). key_in c whole) is ∙ key_kept key whole (λ nine. same (ap (λ (c : Code). c.kind) is ∙ nine))

  pub reported_stored : (code.kind ≡ 1 → code.first + code.second * 2 ^ 64 < limit) → IsStored limit code whole
  reported_stored single = record { single = single; code_is = is ∙ ap code_of (sym key_reported) }

-- two tests one after another
module _ (first second answer : Bool) (whole : (first && second) ≡ answer) where
  pub second_test : first ≡ true → second ≡ answer
  second_test passes = sym (ap (λ (b : Bool). b && second) passes) ∙ whole

  pub first_test : first ≡ false → first ≡ answer
  first_test fails = fails ∙ sym (ap (λ (b : Bool). b && second) fails) ∙ whole
