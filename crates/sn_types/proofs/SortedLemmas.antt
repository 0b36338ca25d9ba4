-- What holds of each row holds of each where they are sorted.
use Rattle.std.proofs.Common.{List, [], ◌∷◌, Bool, cond, sym, subst}
use Rattle.std.specs.Ordering.{nat_cmp, is_gt}
use Rattle.std.specs.Cmp.Lexicographic.{slice_cmp}
use Rattle.std.specs.List.{AllByRecursion}
use Rattle.sn_base.proofs.Lists.{by_test}
use Rattle.sn_base.specs.Groups.{Row}
use Rattle.sn_base.specs.Sorted.{put_row, sorted_rows}

all_put : (P : Row → Type 0) (x : Row) (ys : List Row) → P x → AllByRecursion P ys → AllByRecursion P (put_row x ys)
all_put P x [] h hs = (h, tt)
all_put P x (y ∷ ys) h hs =
    let put : Bool → List Row = λ (b : Bool). cond b (y ∷ put_row x ys) (x ∷ y ∷ ys) in
    by_test (is_gt (slice_cmp nat_cmp x y))
    (λ is. subst (λ (b : Bool). AllByRecursion P (put b)) (sym is) (hs.0, all_put P x ys h hs.1))
    (λ isnt. subst (λ (b : Bool). AllByRecursion P (put b)) (sym isnt) (h, hs))

pub all_sorted : (P : Row → Type 0) (xs : List Row) → AllByRecursion P xs → AllByRecursion P (sorted_rows xs)
all_sorted P [] h = tt
all_sorted P (x ∷ xs) h = all_put P x (sorted_rows xs) h.0 (all_sorted P xs h.1)
