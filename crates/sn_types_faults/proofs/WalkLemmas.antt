-- The first fault of places one after another.
use Rattle.std.proofs.Common.{◌≡◌, ℕ, suc, ◌<◌, ◌+◌, List, [], ◌∷◌, ◌++◌, length, drop, get_or, Option, None, Some, refl, ap, sym, ◌∙◌, add-one, drop-cons}
use Rattle.std.specs.List.{flat_map}
use Rattle.sn_query_grammar.specs.declared.ast.Query.{Query}
use Rattle.sn_types_faults.specs.declared.fault.TypeFault.{TypeFault}
use Rattle.sn_types_faults.specs.Walk.{Place, fault_at, or_later, first_fault, refine_places, branch_places, join_places, query_places}

or_later_both : (a b c : Option TypeFault) → or_later (or_later a b) c ≡ or_later a (or_later b c)
or_later_both None b c = refl
or_later_both (Some f) b c = refl

pub first_fault-append : (ps qs : List Place) → first_fault (ps ++ qs) ≡ or_later (first_fault ps) (first_fault qs)
first_fault-append [] qs = refl
first_fault-append (p ∷ ps) qs = ap (or_later (fault_at p)) (first_fault-append ps qs) ∙ sym (or_later_both (fault_at p) (first_fault ps) (first_fault qs))

-- where the first places have no fault, it is that of the others
pub passes : (ps qs : List Place) → first_fault ps ≡ None → first_fault (ps ++ qs) ≡ first_fault qs
passes ps qs e = first_fault-append ps qs ∙ ap (λ o. or_later o (first_fault qs)) e

-- where they have one, it is that one
pub stops : (ps qs : List Place) (f : TypeFault) → first_fault ps ≡ Some f → first_fault (ps ++ qs) ≡ Some f
stops ps qs f e = first_fault-append ps qs ∙ ap (λ o. or_later o (first_fault qs)) e

drop_at : {X : Type 0} (xs : List X) (i : ℕ) (x : X) → i < length xs → x ≡ get_or xs i x → drop i xs ≡ x ∷ drop (i + 1) xs
drop_at xs i x h e = drop-cons xs i x h ∙ ap (λ y. y ∷ drop (suc i) xs) (sym e) ∙ ap (λ k. x ∷ drop k xs) (sym (add-one i))

-- places of a list of things: one of them has a fault, and none before it
pub found_here : {X : Type 0} (f : X → List Place) (xs : List X) (i : ℕ) (x : X) (t : TypeFault) → i < length xs → x ≡ get_or xs i x → first_fault (f x) ≡ Some t
    → first_fault (flat_map f (drop i xs)) ≡ first_fault (flat_map f xs) → Some t ≡ first_fault (flat_map f xs)
found_here f xs i x t h e is before =
    sym (stops (f x) (flat_map f (drop (i + 1) xs)) t is) ∙ ap (λ ys. first_fault (flat_map f ys)) (sym (drop_at xs i x h e)) ∙ before

-- one of them has no fault either
pub none_here : {X : Type 0} (f : X → List Place) (xs : List X) (i : ℕ) (x : X) → i < length xs → x ≡ get_or xs i x → first_fault (f x) ≡ None
    → first_fault (flat_map f (drop i xs)) ≡ first_fault (flat_map f xs) → first_fault (flat_map f (drop (i + 1) xs)) ≡ first_fault (flat_map f xs)
none_here f xs i x h e is before =
    sym (passes (f x) (flat_map f (drop (i + 1) xs)) is) ∙ ap (λ ys. first_fault (flat_map f ys)) (sym (drop_at xs i x h e)) ∙ before

-- a fault of the refine line, and one of the branches after a good refine line
pub refine_stops : (q : Query) (t : TypeFault) → first_fault (refine_places q.refine) ≡ Some t → Some t ≡ first_fault (query_places q)
refine_stops q t is =
    let branches : List Place = flat_map (λ b. branch_places q.refine b.ops) q.branches in
    sym (stops (refine_places q.refine ++ branches) (join_places q.refine q.branches q.join) t (stops (refine_places q.refine) branches t is))

pub branches_stop : (q : Query) (t : TypeFault) → first_fault (refine_places q.refine) ≡ None → first_fault (flat_map (λ b. branch_places q.refine b.ops) q.branches) ≡ Some t
    → Some t ≡ first_fault (query_places q)
branches_stop q t none is =
    let branches : List Place = flat_map (λ b. branch_places q.refine b.ops) q.branches in
    sym (stops (refine_places q.refine ++ branches) (join_places q.refine q.branches q.join) t (passes (refine_places q.refine) branches none ∙ is))

pub join_decides : (q : Query) → first_fault (refine_places q.refine) ≡ None → first_fault (flat_map (λ b. branch_places q.refine b.ops) q.branches) ≡ None
    → first_fault (join_places q.refine q.branches q.join) ≡ first_fault (query_places q)
join_decides q none also =
    let branches : List Place = flat_map (λ b. branch_places q.refine b.ops) q.branches in
    sym (passes (refine_places q.refine ++ branches) (join_places q.refine q.branches q.join) (passes (refine_places q.refine) branches none ∙ also))
