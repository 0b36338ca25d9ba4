use Rattle.std.proofs.Common.{◌≡◌, ℕ, List, Bool, true, false, ◌||◌, cond, refl, ap, sym, ◌∙◌}
use Rattle.std.specs.List.{list_any}
use Rattle.std.specs.Ordering.{nat_cmp, eq_by_cmp}
use Rattle.std.specs.Cmp.{nat_cmp_total, eq_by_cmp_equiv}
use Rattle.std.specs.FinSet.{contains, insert, from_list, same_set, contains-from_list, contains-insert, nat_cmp-IsAntisymmetric}

cond_or : (b c : Bool) → cond b true c ≡ (b || c)
cond_or true c = refl
cond_or false c = refl

-- a list's test is that of the set of its items
pub has_listed : (ks : List ℕ) (q : ℕ) → list_any (eq_by_cmp nat_cmp q) ks ≡ contains (from_list {R = nat_cmp} ks) q
has_listed ks q = sym (contains-from_list nat_cmp_total ks q)

-- a list that has one key more is the set with that key
pub put_listed : (old new : List ℕ) (k : ℕ) → ((q : ℕ) → list_any (eq_by_cmp nat_cmp q) new ≡ cond (eq_by_cmp nat_cmp k q) true (list_any (eq_by_cmp nat_cmp q) old)) →
    from_list {R = nat_cmp} new ≡ insert (from_list {R = nat_cmp} old) k
put_listed old new k updates =
    let E = eq_by_cmp_equiv nat_cmp_total in
    same_set nat_cmp_total nat_cmp-IsAntisymmetric (from_list {R = nat_cmp} new) (insert (from_list {R = nat_cmp} old) k)
    (λ q. contains-from_list nat_cmp_total new q ∙ updates q
    ∙ ap (λ b. cond b true (list_any (eq_by_cmp nat_cmp q) old)) (E.symm k q)
    ∙ cond_or (eq_by_cmp nat_cmp q k) (list_any (eq_by_cmp nat_cmp q) old)
    ∙ ap (λ b. eq_by_cmp nat_cmp q k || b) (has_listed old q)
    ∙ sym (contains-insert nat_cmp_total (from_list {R = nat_cmp} old) k q))
