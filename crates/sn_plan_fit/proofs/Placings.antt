-- A piece has a placing exactly where its gaps are wide enough.
use Rattle.std.proofs.Common.{ℕ, suc, ◌≤◌, ◌<◌, List, [], ◌∷◌, refl, subst, arith}
use Rattle.std.specs.Prelude.{◌↔◌}
use Rattle.std.specs.List.{AllByRecursion}
use Rattle.sn_plan_fit.specs.Placing.{Table, stateless, register, MayStand, IsPlacing, HasPlacing, HasGaps}

-- the least stage after tables with wide gaps doesn't pass the number of stages
pub room : (stages least : ℕ) (ts : List Table) → HasGaps stages least ts → least ≤ stages
room stages least [] h = h
room stages least (stateless ∷ ts) h = let k = room stages (suc least) ts h in omega arith
room stages least (register s ∷ ts) h = let k = room stages (suc s) ts h.1 in omega (arith, h.0)

abbrev AtLeast : ℕ → List ℕ → Type 0
AtLeast least ps = AllByRecursion (λ p. least ≤ p) ps

weaker : (P Q : ℕ → Type 0) → ((p : ℕ) → P p → Q p) → (ps : List ℕ) → AllByRecursion P ps → AllByRecursion Q ps
weaker P Q f [] h = tt
weaker P Q f (p ∷ ps) h = (f p h.0, weaker P Q f ps h.1)

-- a placing from a stage on
record Placed (stages least : ℕ) (ts : List Table) : Type 0 where
  places : List ℕ
  placing : IsPlacing stages ts places
  from : AtLeast least places

put : (stages least p : ℕ) (t : Table) (ts : List Table) → least ≤ p → p < stages → MayStand t p → Placed stages (suc p) ts → Placed stages least (t ∷ ts)
put stages least p t ts l b m h = record {
  places = p ∷ h.places;
  placing = record { stand = (m, h.placing.stand); rising = (h.from, h.placing.rising); below = (b, h.placing.below) };
  from = (l, weaker (λ q. suc p ≤ q) (λ q. least ≤ q) (λ q k. omega arith) h.places h.from);
}

place : (stages least : ℕ) (ts : List Table) → HasGaps stages least ts → Placed stages least ts
place stages least [] h = record { places = []; placing = record { stand = tt; rising = tt; below = tt }; from = tt }
place stages least (stateless ∷ ts) h =
    let k = room stages (suc least) ts h in
    put stages least least stateless ts (omega arith) (omega arith) tt (place stages (suc least) ts h)
place stages least (register s ∷ ts) h =
    let k = room stages (suc s) ts h.1 in
    put stages least s (register s) ts h.0 (omega arith) refl (place stages (suc s) ts h.1)

gaps : (stages least : ℕ) (ts : List Table) (ps : List ℕ) → least ≤ stages → AtLeast least ps → IsPlacing stages ts ps → HasGaps stages least ts
gaps stages least [] ps l f h = l
gaps stages least (t ∷ ts) [] l f h = absurd h.stand
gaps stages least (stateless ∷ ts) (p ∷ ps) l f h =
    gaps stages (suc least) ts ps (omega (arith, h.below.0, f.0)) (weaker (λ q. p < q) (λ q. suc least ≤ q) (λ q k. omega (arith, f.0)) ps h.rising.0) (record { stand = h.stand.1; rising = h.rising.1; below = h.below.1 })
gaps stages least (register s ∷ ts) (p ∷ ps) l f h =
    let e = h.stand.0 in (
      subst (λ (q : ℕ). least ≤ q) e f.0,
      gaps stages (suc s) ts ps (omega (arith, e, h.below.0)) (weaker (λ q. p < q) (λ q. suc s ≤ q) (λ q k. omega (arith, e)) ps h.rising.0) (record { stand = h.stand.1; rising = h.rising.1; below = h.below.1 }),
    )

pub placing_by_gaps : (stages : ℕ) (ts : List Table) → HasPlacing stages ts ↔ HasGaps stages 0 ts
placing_by_gaps stages ts = (λ h. gaps stages 0 ts h.0 (omega arith) (from_zero h.0) h.1, λ h. let k = place stages 0 ts h in (k.places, k.placing))
  where
    from_zero : (ps : List ℕ) → AtLeast 0 ps
    from_zero [] = tt
    from_zero (p ∷ ps) = (omega arith, from_zero ps)
