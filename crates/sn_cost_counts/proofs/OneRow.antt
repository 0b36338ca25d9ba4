-- Rows that come through filters and maps, one operator more.
use Rattle.std.proofs.Common.{◌≡◌, ℕ, suc, ◌+◌, ◌<◌, List, [], ◌∷◌, map, length, All, subst, Bool, true, false, cond, Option, Some, None, ap, sym, ◌∙◌, arith}
use Rattle.std.specs.List.{list_all}
use Rattle.sn_base.specs.Groups.{Row}
use Rattle.sn_cost_seats.specs.Ways.{come, reach}
use Rattle.sn_types.specs.declared.typed_op.TOp.{TOp}
use Rattle.sn_types.specs.declared.typed_op.TOp.TheVariants as ops
use Rattle.sn_types.specs.declared.typed_op.TCond.{TCond}
use Rattle.sn_types.specs.declared.typed_op.TExpr.{TExpr}
use Rattle.sn_types.specs.Values.{ReadsWithin, holds, op_at, value_of}
use Rattle.std.proofs.lemmas.List.Elements.{recursion_from_All}
use Rattle.sn_ops.specs.Flow.{Fits}
use Rattle.sn_cost_counts.specs.Fitting.{Takes}

module _ (level : ℕ) (row : Row) (after : List TOp) where
  abbrev far : List TOp → ℕ
  far os = reach (map (op_at level) os) row

  abbrev comes : List TOp → Option Row
  comes os = come (map (op_at level) os) row

  pub filter_reach : (os : List TOp) (conds held : List TCond) (passes : Bool) (n : ℕ) → os ≡ ops.Filter conds ∷ after → held ≡ conds → passes ≡ list_all (λ c. holds level c row) held → passes ≡ true → n ≡ far after → 1 + n ≡ far os
  filter_reach os conds held passes n is same reported pass rest =
      let t : list_all (λ c. holds level c row) conds ≡ true = ap (list_all (λ c. holds level c row)) (sym same) ∙ sym reported ∙ pass in
      one_more n ∙ ap suc rest ∙ sym (ap far is ∙ ap (λ b. cond b (suc (far after)) 0) t)
    where
      one_more : (n : ℕ) → 1 + n ≡ suc n
      one_more n = omega arith

  pub filter_stays : (os : List TOp) (conds held : List TCond) (passes : Bool) → os ≡ ops.Filter conds ∷ after → held ≡ conds → passes ≡ list_all (λ c. holds level c row) held → passes ≡ false → 0 ≡ far os
  filter_stays os conds held passes is same reported pass =
      let t : list_all (λ c. holds level c row) conds ≡ false = ap (list_all (λ c. holds level c row)) (sym same) ∙ sym reported ∙ pass in
      sym (ap far is ∙ ap (λ b. cond b (suc (far after)) 0) t)

  pub filter_come : (os : List TOp) (conds held : List TCond) (passes : Bool) (out : Row) → os ≡ ops.Filter conds ∷ after → held ≡ conds → passes ≡ list_all (λ c. holds level c row) held → passes ≡ true → comes after ≡ Some out → comes os ≡ Some out
  filter_come os conds held passes out is same reported pass rest =
      let t : list_all (λ c. holds level c row) conds ≡ true = ap (list_all (λ c. holds level c row)) (sym same) ∙ sym reported ∙ pass in
      ap comes is ∙ ap (λ b. cond b (comes after) None) t ∙ rest

  pub map_reach : (os : List TOp) (exprs held : List TExpr) (next : Row) (n : ℕ) → os ≡ ops.Map exprs ∷ after → held ≡ exprs → next ≡ map (λ e. value_of e row) held → n ≡ reach (map (op_at level) after) next → 1 + n ≡ far os
  map_reach os exprs held next n is same made rest =
      one_more n ∙ ap suc (rest ∙ ap (reach (map (op_at level) after)) (made ∙ ap (map (λ e. value_of e row)) same)) ∙ sym (ap far is)
    where
      one_more : (n : ℕ) → 1 + n ≡ suc n
      one_more n = omega arith

  pub map_come : (os : List TOp) (exprs held : List TExpr) (next out : Row) → os ≡ ops.Map exprs ∷ after → held ≡ exprs → next ≡ map (λ e. value_of e row) held → come (map (op_at level) after) next ≡ Some out → comes os ≡ Some out
  map_come os exprs held next out is same made rest = ap comes is ∙ ap (come (map (op_at level) after)) (sym (made ∙ ap (map (λ e. value_of e row)) same)) ∙ rest

-- ---- what can be read on the way

pub cond_reads : (level : ℕ) (row : Row) (after os : List TOp) (conds held : List TCond) → os ≡ ops.Filter conds ∷ after → held ≡ conds → Takes level os row → All (λ c. c.col < length row) held
cond_reads level row after os conds held is same h =
    let first : Fits (ops.Filter conds) (row ∷ []) = (subst (λ (xs : List TOp). Takes level xs row) is h).0 in
    subst (λ (cs : List TCond). All (λ c. c.col < length row) cs) (sym same) (recursion_from_All (λ (x : Row). All (λ c. c.col < length x) conds) (row ∷ []) first).0

pub expr_reads : (level : ℕ) (row : Row) (after os : List TOp) (exprs held : List TExpr) → os ≡ ops.Map exprs ∷ after → held ≡ exprs → Takes level os row → All (λ e. ReadsWithin (length row) e) held
expr_reads level row after os exprs held is same h =
    let first : Fits (ops.Map exprs) (row ∷ []) = (subst (λ (xs : List TOp). Takes level xs row) is h).0 in
    subst (λ (es : List TExpr). All (λ e. ReadsWithin (length row) e) es) (sym same) (recursion_from_All (λ (x : Row). All (λ e. ReadsWithin (length x) e) exprs) (row ∷ []) first.reads).0
