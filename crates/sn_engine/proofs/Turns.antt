-- One operator more, as the loop takes it.
use Rattle.std.proofs.Common.{◌≡◌, ℕ, suc, ◌+◌, ◌<◌, List, ◌∷◌, ◌++◌, map, length, drop, get_or, ap, sym, ◌∙◌, subst, arith, drop-cons}
use Rattle.sn_base.specs.Groups.{Row}
use Rattle.sn_pipe_items.specs.Value.{is_at, is_partial, rows_with, taken, finish, value}
use Rattle.sn_report.specs.Items.{Item}
use Rattle.sn_types.specs.declared.typed_op.TOp.{TOp}
use Rattle.sn_types.specs.Values.{op_at}
use Rattle.sn_engine.specs.Fitting.{ItemsFit}

-- what the operators ahead give is what all give
pub record Finishes (level number place : ℕ) (ahead all : List TOp) (items : List Item) (rows : List Row) : Type 0 where
  pub counted : number ≡ place
  pub fit : ItemsFit level number ahead items rows
  pub same : finish number (map (op_at level) ahead) items rows ≡ value (map (op_at level) all) items

abbrev following : ℕ → ℕ → TOp → List Item → List Row → ℕ → List Row
following level n op items rows next = taken (op_at level op) rows (rows_with (is_partial n) items) ++ rows_with (is_at next) items

pub turn : (level n i : ℕ) (os : List TOp) (op : TOp) (items : List Item) (rows later : List Row) → i < length os → op ≡ get_or os i op → Finishes level n i (drop i os) os items rows
    → later ≡ taken (op_at level op) rows (rows_with (is_partial n) items) ++ rows_with (is_at (n + 1)) items → Finishes level (n + 1) (i + 1) (drop (i + 1) os) os items later
turn level n i os op items rows later within at before now =
    let step : suc i ≡ i + 1 = omega arith in
    let next : n + 1 ≡ suc n = omega arith in
    let rest : List TOp = drop (i + 1) os in
    let ahead : drop i os ≡ op ∷ rest = drop-cons os i op within ∙ ap (λ (o : TOp). o ∷ drop (suc i) os) (sym at) ∙ ap (λ m. op ∷ drop m os) step in
    let is : later ≡ following level n op items rows (suc n) = now ∙ ap (following level n op items rows) next in
    let fit : ItemsFit level n (op ∷ rest) items rows = subst (λ (xs : List TOp). ItemsFit level n xs items rows) ahead before.fit in
    let counted : n ≡ i = before.counted in
    record {
      counted = omega (arith, counted);
      fit = subst (λ m. ItemsFit level m rest items later) (sym next) (subst (λ (rs : List Row). ItemsFit level (suc n) rest items rs) (sym is) fit.2);
      same = ap (λ m. finish m (map (op_at level) rest) items later) next ∙ ap (finish (suc n) (map (op_at level) rest) items) is
          ∙ sym (ap (λ (xs : List TOp). finish n (map (op_at level) xs) items rows) ahead) ∙ before.same;
    }
