-- A plan fits exactly where no check fails.
use Rattle.std.proofs.Common.{◌≡◌, ℕ, zero, suc, ◌+◌, ◌-◌, ◌≤◌, ◌<◌, List, nat_lt, Option, Some, None, refl, ap, sym, ◌∙◌, subst, arith, inl, inr}
use Rattle.std.specs.Prelude.{◌↔◌, Result, Ok, Err, IsOk}
use Rattle.std.proofs.Math.Nat.{eq-or-lt_of_le}
use Rattle.sn_plan_grammar.specs.declared.plan.Entry.{Entry}
use Rattle.sn_switch.specs.declared.switch.Switch.{Switch}
use Rattle.sn_types.specs.declared.typed_query.TypedQuery.{TypedQuery}
use Rattle.sn_plan_fit.specs.declared.misfit.Misfit.{Misfit}
use Rattle.sn_plan_fit.specs.declared.misfit.MisfitKind.TheVariants.{Actions, Bits, Meta}
use Rattle.sn_plan_fit.specs.Checks.{failing, or_else, reported}
use Rattle.sn_plan_fit.specs.Paths.{path_misfit}
use Rattle.sn_plan_fit.specs.Registers.{Register, count_in, bits_in}
use Rattle.sn_plan_fit.specs.Pieces.{cut_misfit, piece_misfit, first_misfit, all_registers, all_metadata, load_misfit, loads_misfit, shape_misfit, fit_misfit}
use Rattle.sn_plan_fit.specs.Fits.{PieceFits, StageFits, Fits, HasShape}
use Rattle.sn_plan_fit.proofs.Entries.{entries_are}
use Rattle.sn_plan_fit.proofs.PiecesFit.{piece_none, pieces_none, cuts_none}
use Rattle.sn_plan_fit.proofs.Tests.{failing_none, or_none, both, then, not_above}

load_none : (s : Switch) (rs : List Register) (stage : ℕ) → (load_misfit s rs stage ≡ None) ↔ StageFits s rs stage
load_none s rs stage =
    let parts = then (or_none (failing (nat_lt s.actions (count_in stage rs)) Actions s.actions (count_in stage rs)) (failing (nat_lt s.bits (bits_in stage rs)) Bits s.bits (bits_in stage rs)))
    (both (then (failing_none (nat_lt s.actions (count_in stage rs)) Actions s.actions (count_in stage rs)) (not_above s.actions (count_in stage rs)))
    (then (failing_none (nat_lt s.bits (bits_in stage rs)) Bits s.bits (bits_in stage rs)) (not_above s.bits (bits_in stage rs)))) in
    (λ e. let k = parts.0 e in record { actions = k.0; bits = k.1 }, λ h. parts.1 (h.actions, h.bits))

loads_none : (s : Switch) (rs : List Register) (first n : ℕ) → (loads_misfit s rs first n ≡ None) ↔ ((k : ℕ) → first ≤ k → k < first + n → StageFits s rs k)
loads_none s rs first zero = (λ e k a b. absurd (omega (arith, a, b)), λ h. refl)
loads_none s rs first (suc n) =
    let here = load_none s rs first in
    let rest = loads_none s rs (first + 1) n in
    let parts = or_none (load_misfit s rs first) (loads_misfit s rs (first + 1) n) in (
      λ e k a b. by_first (parts.0 e) here rest k a b,
      λ h. parts.1 (here.1 (h first (omega arith) (omega arith)), rest.1 (λ k a b. h k (omega (arith, a)) (omega (arith, b)))),
    )
  where
    by_first : (load_misfit s rs first ≡ None) × (loads_misfit s rs (first + 1) n ≡ None) → (load_misfit s rs first ≡ None) ↔ StageFits s rs first
        → (loads_misfit s rs (first + 1) n ≡ None) ↔ ((k : ℕ) → first + 1 ≤ k → k < first + 1 + n → StageFits s rs k) → (k : ℕ) → first ≤ k → k < first + suc n → StageFits s rs k
    by_first e here rest k a b = elim (eq-or-lt_of_le a) [ inl same ↦ subst (λ (j : ℕ). StageFits s rs j) same (here.0 e.0) | inr more ↦ rest.0 e.1 k (omega (arith, more)) (omega (arith, b)) ]

pub fits_none : (qs : List TypedQuery) (s : Switch) (es : List Entry) → 1 ≤ s.stages → (fit_misfit qs s es ≡ None) ↔ Fits qs s es
fits_none qs s es h =
    let paths = entries_are 0 qs es in
    let pieces = pieces_none (piece_misfit s) (PieceFits s) (λ path b p. piece_none s path b p h) qs es in
    let loads = loads_none s (all_registers s.chain qs es) 0 s.stages in
    let meta = then (failing_none (nat_lt s.meta (all_metadata qs es)) Meta s.meta (all_metadata qs es)) (not_above s.meta (all_metadata qs es)) in (
      λ e. let a = (or_none (path_misfit 0 qs es) _).0 e in
          let b = (or_none (first_misfit (piece_misfit s) qs es) _).0 a.1 in
          let c = (or_none (loads_misfit s (all_registers s.chain qs es) 0 s.stages) _).0 b.1 in
          record { paths = paths.0 a.0; pieces = pieces.0 b.0; loads = λ k l. loads.0 c.0 k (omega arith) (omega (arith, l)); meta = meta.0 c.1 },
      λ k. (or_none (path_misfit 0 qs es) _).1 (
        paths.1 k.paths,
        (or_none (first_misfit (piece_misfit s) qs es) _).1 (
          pieces.1 k.pieces,
          (or_none (loads_misfit s (all_registers s.chain qs es) 0 s.stages) _).1 (loads.1 (λ j a b. k.loads j (omega (arith, b))), meta.1 k.meta),
        ),
      ),
    )

pub shape_none : (qs : List TypedQuery) (es : List Entry) → (shape_misfit qs es ≡ None) ↔ HasShape qs es
shape_none qs es =
    let parts = then (or_none (path_misfit 0 qs es) (first_misfit (λ path b p. cut_misfit b p) qs es))
    (both (entries_are 0 qs es) (pieces_none (λ path b p. cut_misfit b p) (λ path b p. p.cut ≤ b.max_cut) cuts_none qs es)) in
    (λ e. let k = parts.0 e in record { paths = k.0; cuts = k.1 }, λ h. parts.1 (h.paths, h.cuts))

-- an answer is Ok exactly where no misfit is reported
ok_is : (r : Result (Unit {0}) Misfit) → IsOk r ↔ (reported r ≡ None)
ok_is (Ok u) = (λ h. refl, λ e. refl)
ok_is (Err m) = (λ h. cc, λ e. cc)

pub fits_decided : (r : Result (Unit {0}) Misfit) (qs : List TypedQuery) (s : Switch) (es : List Entry) → 1 ≤ s.stages → reported r ≡ fit_misfit qs s es → IsOk r ↔ Fits qs s es
fits_decided r qs s es h is = then (ok_is r) (then (λ e. sym is ∙ e, λ e. is ∙ e) (fits_none qs s es h))

pub shape_decided : (r : Result (Unit {0}) Misfit) (qs : List TypedQuery) (es : List Entry) → reported r ≡ shape_misfit qs es → IsOk r ↔ HasShape qs es
shape_decided r qs es is = then (ok_is r) (then (λ e. sym is ∙ e, λ e. is ∙ e) (shape_none qs es))

-- a stage that keeps the limits
pub next_stage : (s : Switch) (rs : List Register) (stage : ℕ) → stage < s.stages → load_misfit s rs stage ≡ None → loads_misfit s rs (stage + 1) (s.stages - (stage + 1)) ≡ loads_misfit s rs stage (s.stages - stage)
next_stage s rs stage h e =
    let is : s.stages - stage ≡ suc (s.stages - (stage + 1)) = omega (arith, h) in
    ap (λ (o : Option Misfit). or_else o (loads_misfit s rs (stage + 1) (s.stages - (stage + 1)))) (sym e) ∙ ap (λ (n : ℕ). loads_misfit s rs stage n) (sym is)

pub stage_stops : (s : Switch) (rs : List Register) (stage : ℕ) (m : Misfit) → stage < s.stages → load_misfit s rs stage ≡ Some m → loads_misfit s rs stage (s.stages - stage) ≡ Some m
stage_stops s rs stage m h e =
    let is : s.stages - stage ≡ suc (s.stages - (stage + 1)) = omega (arith, h) in
    ap (λ (n : ℕ). loads_misfit s rs stage n) is ∙ ap (λ (o : Option Misfit). or_else o (loads_misfit s rs (stage + 1) (s.stages - (stage + 1)))) e
