-- The read-out takes the first item that is left, and walks a held row.
use Rattle.std.proofs.Common.{◌≡◌, ℕ, suc, ◌+◌, ◌<◌, ◌≤◌, List, [], ◌∷◌, drop, length, Bool, true, false, ◌||◌, cond, Option, Some, None, refl, ap, sym, subst, ◌∙◌, arith}
use Rattle.std.proofs.lemmas.List.{drop-drop}
use Rattle.sn_base.specs.Groups.{Row}
use Rattle.sn_chain.specs.Homes.{held_in_order}
use Rattle.sn_report.specs.Items.{Item}
use Rattle.sn_report.specs.declared.frame.Tag.{Tag}
use Rattle.sn_pipe_items.specs.Items.{tagged}
use Rattle.sn_pipe.specs.AnyStage.{Stage}
use Rattle.sn_pipe.specs.declared.stage.Stage.TheVariants.{Filter, Map, Distinct, Reduce}
use Rattle.sn_pipe.specs.Windows.{goes_up, held_row, left_from, rows_left, tag_up}
use Rattle.sn_pipe.proofs.ReadOuts.{left_up_is, reduce_after}
use Rattle.sn_core_net.specs.ReadOut.{held_from, place_after, walked}
use Rattle.sn_core_net.specs.Settled.{ups}

-- after the cells that are walked all rows go up but the first
after_if : (up : Row → Bool) (row : Row) (cells : List (Option (Row × ℕ))) (o : Option (Row × ℕ)) (b : Bool) →
    ups up (drop (walked up cells) cells) ≡ drop 1 (ups up cells) →
    ups up (drop (cond b 1 (suc (walked up cells))) (o ∷ cells)) ≡ drop 1 (cond b (row ∷ ups up cells) (ups up cells))
after_if up row cells o true h = refl
after_if up row cells o false h = h

pub ups_after : (up : Row → Bool) (cells : List (Option (Row × ℕ))) → ups up (drop (walked up cells) cells) ≡ drop 1 (ups up cells)
ups_after up [] = refl
ups_after up (None ∷ cells) = ups_after up cells
ups_after up (Some e ∷ cells) = after_if up (held_row e) cells (Some e) (up (held_row e)) (ups_after up cells)

-- where a row goes up, a row is walked
fewer_if : (up : Row → Bool) (row : Row) (cells : List (Option (Row × ℕ))) (o : Option (Row × ℕ)) (b : Bool) →
    (0 < length (ups up cells) → suc (length (held_in_order (drop (walked up cells) cells))) ≤ length (held_in_order cells)) →
    0 < length (cond b (row ∷ ups up cells) (ups up cells)) →
    suc (length (held_in_order (drop (cond b 1 (suc (walked up cells))) (o ∷ cells)))) ≤ suc (length (held_in_order cells))
fewer_if up row cells o true h some = omega arith
fewer_if up row cells o false h some = let k = h some in omega (arith, k)

pub fewer_after : (up : Row → Bool) (cells : List (Option (Row × ℕ))) → 0 < length (ups up cells) → suc (length (held_in_order (drop (walked up cells) cells))) ≤ length (held_in_order cells)
fewer_after up [] some = absurd (omega (arith, some))
fewer_after up (None ∷ cells) some = fewer_after up cells some
fewer_after up (Some e ∷ cells) some = fewer_if up (held_row e) cells (Some e) (up (held_row e)) (fewer_after up cells) some

-- ---- of stages

drop_both : {X : Type 0} (a b : ℕ) (xs : List X) → drop (a + b) xs ≡ drop b (drop a xs)
drop_both a b xs = sym (drop-drop b a xs)

pub left_after : (level i : ℕ) (spilled : Bool) (place : ℕ) (ss : List Stage) → left_from level i spilled (place_after level spilled place ss) ss ≡ drop 1 (left_from level i spilled place ss)
left_after level i spilled place [] = refl
left_after level i spilled place (Filter conds ∷ ss) = left_after level (suc i) spilled place ss
left_after level i spilled place (Map exprs ∷ ss) = left_after level (suc i) spilled place ss
left_after level i spilled place (Distinct chain over ∷ ss) = left_after level (suc i) (spilled || over) place ss
left_after level i spilled place (Reduce r chain ∷ ss) =
    let up : Row → Bool = goes_up level spilled ss in
    let rest : List (Option (Row × ℕ)) = drop place chain.cells in
    reduce_after level i spilled place (place + walked up rest) (Reduce r chain ∷ ss) r chain ss refl
    (ap (ups up) (drop_both place (walked up rest) chain.cells) ∙ ups_after up rest)

some_tagged : (tag : Tag) (rows : List Row) (item : Item) (items : List Item) → tagged tag rows ≡ item ∷ items → 0 < length rows
some_tagged tag [] item items e = absurd (cc e)
some_tagged tag (row ∷ rows) item items e = omega arith

pub fewer_held : (level i : ℕ) (spilled : Bool) (place : ℕ) (ss : List Stage) (item : Item) (items : List Item) → left_from level i spilled place ss ≡ item ∷ items →
    suc (held_from (place_after level spilled place ss) ss) ≤ held_from place ss
fewer_held level i spilled place [] item items e = absurd (cc e)
fewer_held level i spilled place (Filter conds ∷ ss) item items e = fewer_held level (suc i) spilled place ss item items e
fewer_held level i spilled place (Map exprs ∷ ss) item items e = fewer_held level (suc i) spilled place ss item items e
fewer_held level i spilled place (Distinct chain over ∷ ss) item items e = fewer_held level (suc i) (spilled || over) place ss item items e
fewer_held level i spilled place (Reduce r chain ∷ ss) item items e =
    let up : Row → Bool = goes_up level spilled ss in
    let rest : List (Option (Row × ℕ)) = drop place chain.cells in
    let some : 0 < length (ups up rest) = some_tagged (tag_up i spilled ss) (ups up rest) item items (sym (left_up_is level i spilled ss (rows_left chain place)) ∙ e) in
    subst (λ cells. suc (length (held_in_order cells)) ≤ length (held_in_order rest)) (sym (drop_both place (walked up rest) chain.cells)) (fewer_after up rest some)
