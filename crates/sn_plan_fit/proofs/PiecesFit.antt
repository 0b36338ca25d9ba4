-- Pieces fit exactly where none of their checks fails.
use Rattle.std.proofs.Common.{◌≡◌, ℕ, suc, ◌+◌, ◌*◌, ◌-◌, ◌≤◌, List, [], ◌∷◌, length, Bool, true, false, not, nat_lt, Option, Some, None, is_some, refl, sym, ◌∙◌, subst, add-one}
use Rattle.std.specs.Prelude.{◌↔◌, ◌==◌}
use Rattle.std.specs.List.{AllByRecursion}
use Rattle.sn_plan_grammar.specs.declared.plan.Entry.{Entry}
use Rattle.sn_plan_grammar.specs.declared.plan.Piece.{Piece}
use Rattle.sn_switch.specs.declared.switch.Switch.{Switch}
use Rattle.sn_types.specs.declared.typed_query.TypedQuery.{TypedQuery}
use Rattle.sn_types.specs.declared.typed_query.TypedBranch.{TypedBranch}
use Rattle.sn_plan_fit.specs.declared.misfit.Misfit.{Misfit}
use Rattle.sn_plan_fit.specs.declared.misfit.MisfitKind.{MisfitKind}
use Rattle.sn_plan_fit.specs.declared.misfit.MisfitKind.TheVariants.{Cut, Slots, Order, Stage}
use Rattle.sn_plan_fit.specs.Checks.{failing, or_else}
use Rattle.sn_plan_fit.specs.Placing.{Table, stateless, register, HasPlacing, HasGaps}
use Rattle.sn_plan_fit.specs.Paths.{is_among}
use Rattle.sn_types.specs.Cuts.{stateful}
use Rattle.sn_plan_fit.specs.Tables.{order_misfit, stage_misfit, end_of}
use Rattle.sn_plan_fit.specs.Gaps.{least_after, end_misfit}
use Rattle.sn_plan_fit.specs.Pieces.{prefix_of, tables_of, cut_misfit, strange_size, count_misfit, slots_misfit, stages_misfit, tables_misfit, piece_misfit, on_branch, piece_branch, first_piece, first_misfit}
use Rattle.sn_plan_fit.specs.Fits.{PieceFits, OnBranch, PiecesFit}
use Rattle.sn_plan_fit.proofs.Ends.{stage_misfit_is}
use Rattle.sn_plan_fit.proofs.Placings.{placing_by_gaps}
use Rattle.sn_plan_fit.proofs.Tests.{failing_none, or_none, both, then, not_above, not_unequal, not_not}

-- ---- gaps

gap_parts : (stages least : ℕ) (ts : List Table) → HasGaps stages least ts ↔ ((order_misfit least ts ≡ None) × (least_after least ts ≤ stages))
gap_parts stages least [] = (λ h. (refl, h), λ h. h.1)
gap_parts stages least (stateless ∷ ts) = next (least + 1) (add-one least) (gap_parts stages (least + 1) ts)
  where
    next : (n : ℕ) → n ≡ suc least → HasGaps stages n ts ↔ ((order_misfit n ts ≡ None) × (least_after n ts ≤ stages))
        → HasGaps stages (suc least) ts ↔ ((order_misfit n ts ≡ None) × (least_after n ts ≤ stages))
    next n e h = (λ k. h.0 (subst (λ (m : ℕ). HasGaps stages m ts) (sym e) k), λ k. subst (λ (m : ℕ). HasGaps stages m ts) e (h.1 k))
gap_parts stages least (register s ∷ ts) = next (s + 1) (add-one s) (gap_parts stages (s + 1) ts)
  where
    here : (failing (nat_lt s least) Order least s ≡ None) ↔ (least ≤ s)
    here = then (failing_none (nat_lt s least) Order least s) (not_above s least)

    next : (n : ℕ) → n ≡ suc s → HasGaps stages n ts ↔ ((order_misfit n ts ≡ None) × (least_after n ts ≤ stages))
        → ((least ≤ s) × HasGaps stages (suc s) ts) ↔ ((or_else (failing (nat_lt s least) Order least s) (order_misfit n ts) ≡ None) × (least_after n ts ≤ stages))
    next n e h = (
      λ k. let rest = h.0 (subst (λ (m : ℕ). HasGaps stages m ts) (sym e) k.1) in
          ((or_none (failing (nat_lt s least) Order least s) (order_misfit n ts)).1 (here.1 k.0, rest.0), rest.1),
      λ k. let parts = (or_none (failing (nat_lt s least) Order least s) (order_misfit n ts)).0 k.0 in
          (here.0 parts.0, subst (λ (m : ℕ). HasGaps stages m ts) e (h.1 (parts.1, k.1))),
    )

end_none : (stages : ℕ) (registers : Bool) (least : ℕ) → (end_misfit stages registers least ≡ None) ↔ (least ≤ stages)
end_none stages true least = then (failing_none (nat_lt stages least) Stage (stages - 1) (least - 1)) (not_above stages least)
end_none stages false least = then (failing_none (nat_lt stages least) Stage stages least) (not_above stages least)

stage_none : (stages : ℕ) (ts : List Table) → 1 ≤ stages → (stage_misfit stages ts ≡ None) ↔ (least_after 0 ts ≤ stages)
stage_none stages ts h =
    let is = stage_misfit_is stages ts h in
    let end = end_none stages (is_some (end_of ts)) (least_after 0 ts) in
    (λ e. end.0 (sym is ∙ e), λ k. is ∙ end.1 k)

tables_none : (stages : ℕ) (ts : List Table) → 1 ≤ stages → (tables_misfit stages ts ≡ None) ↔ HasPlacing stages ts
tables_none stages ts h =
    let parts = then (or_none (order_misfit 0 ts) (stage_misfit stages ts)) (both (λ e. e, λ e. e) (stage_none stages ts h)) in
    let gaps = gap_parts stages 0 ts in
    let placing = placing_by_gaps stages ts in
    (λ e. placing.1 (gaps.1 (parts.0 e)), λ k. parts.1 (gaps.0 (placing.0 k)))

-- ---- a piece

cut_none : (b : TypedBranch) (p : Piece) → (cut_misfit b p ≡ None) ↔ (p.cut ≤ b.max_cut)
cut_none b p = then (failing_none (nat_lt b.max_cut p.cut) Cut b.max_cut p.cut) (not_above b.max_cut p.cut)

sizes_none : (known sizes : List ℕ) → (strange_size known sizes ≡ None) ↔ AllByRecursion (λ n. is_among known n ≡ true) sizes
sizes_none known [] = (λ e. tt, λ h. refl)
sizes_none known (n ∷ ns) =
    then (or_none (failing (not (is_among known n)) Slots 0 n) (strange_size known ns))
    (both (then (failing_none (not (is_among known n)) Slots 0 n) (not_not (is_among known n))) (sizes_none known ns))

count_none : (kind : MisfitKind) (want got : ℕ) → (count_misfit kind want got ≡ None) ↔ (got ≡ want)
count_none kind want got = then (failing_none (not (got == want)) kind want got) (not_unequal got want)

pub piece_none : (s : Switch) (path : List ℕ) (b : TypedBranch) (p : Piece) → 1 ≤ s.stages → (piece_misfit s path b p ≡ None) ↔ PieceFits s path b p
piece_none s path b p h = (
  λ e. let a = (or_none (cut_misfit b p) _).0 e in
      let c = (or_none (slots_misfit s.slots b p) _).0 a.1 in
      let d = (or_none (stages_misfit s.chain b p) _).0 c.1 in
      let sizes = (or_none (count_misfit Slots (stateful (prefix_of b p)) (length p.slots)) (strange_size s.slots p.slots)).0 c.0 in
      record {
        cut = (cut_none b p).0 a.0;
        sizes = (count_none Slots (stateful (prefix_of b p)) (length p.slots)).0 sizes.0;
        listed = (sizes_none s.slots p.slots).0 sizes.1;
        stages = (count_none Order (s.chain * stateful (prefix_of b p)) (length p.stages)).0 d.0;
        placing = (tables_none s.stages (tables_of s.chain path b p) h).0 d.1;
      },
  λ k. let sizes = (or_none (count_misfit Slots (stateful (prefix_of b p)) (length p.slots)) (strange_size s.slots p.slots)).1
      ((count_none Slots (stateful (prefix_of b p)) (length p.slots)).1 k.sizes, (sizes_none s.slots p.slots).1 k.listed) in
      (or_none (cut_misfit b p) _).1 (
        (cut_none b p).1 k.cut,
        (or_none (slots_misfit s.slots b p) _).1 (
          sizes,
          (or_none (stages_misfit s.chain b p) _).1 ((count_none Order (s.chain * stateful (prefix_of b p)) (length p.stages)).1 k.stages, (tables_none s.stages (tables_of s.chain path b p) h).1 k.placing),
        ),
      ),
)

-- ---- all pieces

on_branch_none : (check : TypedBranch → Option Misfit) (P : TypedBranch → Type 0) (b : Option TypedBranch) → ((b : TypedBranch) → (check b ≡ None) ↔ P b) → (on_branch None check b ≡ None) ↔ OnBranch P b
on_branch_none check P None f = (λ e. tt, λ h. refl)
on_branch_none check P (Some b) f = f b

entry_none : (check : TypedBranch → Piece → Option Misfit) (P : TypedBranch → Piece → Type 0) (q : TypedQuery) → ((b : TypedBranch) (p : Piece) → (check b p ≡ None) ↔ P b p) → (ps : List Piece)
    → (first_piece check q ps ≡ None) ↔ AllByRecursion (λ p. OnBranch (λ b. P b p) (piece_branch q p)) ps
entry_none check P q f [] = (λ e. tt, λ h. refl)
entry_none check P q f (p ∷ ps) =
    then (or_none (on_branch None (λ b. check b p) (piece_branch q p)) (first_piece check q ps))
    (both (on_branch_none (λ b. check b p) (λ b. P b p) (piece_branch q p) (λ b. f b p)) (entry_none check P q f ps))

pub pieces_none : (check : List ℕ → TypedBranch → Piece → Option Misfit) (P : List ℕ → TypedBranch → Piece → Type 0) → ((path : List ℕ) (b : TypedBranch) (p : Piece) → (check path b p ≡ None) ↔ P path b p)
    → (qs : List TypedQuery) (es : List Entry) → (first_misfit check qs es ≡ None) ↔ PiecesFit P qs es
pieces_none check P f [] es = (λ e. tt, λ h. refl)
pieces_none check P f (q ∷ qs) [] = (λ e. tt, λ h. refl)
pieces_none check P f (q ∷ qs) (e ∷ es) =
    then (or_none (first_piece (check e.levels) q e.pieces) (first_misfit check qs es))
    (both (entry_none (check e.levels) (P e.levels) q (f e.levels) e.pieces) (pieces_none check P f qs es))

pub cuts_none : (path : List ℕ) (b : TypedBranch) (p : Piece) → (cut_misfit b p ≡ None) ↔ (p.cut ≤ b.max_cut)
cuts_none path b p = cut_none b p
