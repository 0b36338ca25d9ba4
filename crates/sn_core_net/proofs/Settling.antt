-- The read-out of a pipe moves its settled place after the next row that goes up, and where none is left it moves no more.
use Rattle.std.proofs.Common.{◌≡◌, ℕ, zero, suc, ◌+◌, ◌-◌, ◌<◌, ◌≤◌, List, [], ◌∷◌, drop, length, nat_le, Bool, true, false, ◌||◌, cond, Option, Some, None, refl, ap, sym, subst, ◌∙◌, arith}
use Rattle.std.proofs.lemmas.Bool.{le-leb, leb-false, leb-true, lt-leb}
use Rattle.sn_base.specs.declared.any_fold.AnyFold.{AnyFold}
use Rattle.sn_base.specs.Groups.{Row}
use Rattle.sn_base.proofs.Lists.{by_test}
use Rattle.sn_chain.specs.Chain.{ChainState}
use Rattle.sn_report.specs.Items.{Item}
use Rattle.sn_report.specs.declared.frame.Tag.{Tag}
use Rattle.sn_pipe_items.specs.Items.{tagged}
use Rattle.sn_pipe.specs.AnyStage.{Stage}
use Rattle.sn_pipe.specs.declared.stage.Stage.TheVariants.{Filter, Map, Distinct, Reduce}
use Rattle.sn_pipe.specs.Pipes.{PipeState}
use Rattle.sn_pipe.specs.Prefixes.{left_in}
use Rattle.sn_pipe.specs.Windows.{goes_up, held_row, left_from, rows_left, tag_up}
use Rattle.sn_pipe.proofs.ReadOuts.{left_up_is}
use Rattle.sn_types.specs.declared.typed_op.TReduce.{TReduce}
use Rattle.sn_core_net.specs.ReadOut.{after_read_out, place_after, walked}
use Rattle.sn_core_net.specs.Settled.{least_place, settled, settled_place, ups}
use Rattle.sn_base.proofs.Tests.{zero_plus}

-- ---- cells

length_if_least : {X : Type 0} (x : X) (xs : List X) (b : Bool) → length xs ≤ length (cond b (x ∷ xs) xs)
length_if_least x xs true = omega arith
length_if_least x xs false = omega arith

length_if_most : {X : Type 0} (x : X) (xs : List X) (b : Bool) → length (cond b (x ∷ xs) xs) ≤ suc (length xs)
length_if_most x xs true = omega arith
length_if_most x xs false = omega arith

same_if_few : {X : Type 0} (x : X) (xs : List X) (b : Bool) → length (cond b (x ∷ xs) xs) ≤ length xs → cond b (x ∷ xs) xs ≡ xs
same_if_few x xs true few = absurd (omega (arith, few))
same_if_few x xs false few = refl

from_next : (n m : ℕ) → suc (n + m) ≡ suc n + m
from_next n m = omega arith

module _ (up : Row → Bool) where
  abbrev count : List (Option (Row × ℕ)) → ℕ
  count cells = length (ups up cells)

  at_least : (c : Option (Row × ℕ)) (cells : List (Option (Row × ℕ))) → count cells ≤ count (c ∷ cells)
  at_least None cells = omega arith
  at_least (Some e) cells = length_if_least (held_row e) (ups up cells) (up (held_row e))

  at_most : (c : Option (Row × ℕ)) (cells : List (Option (Row × ℕ))) → count (c ∷ cells) ≤ suc (count cells)
  at_most None cells = omega arith
  at_most (Some e) cells = length_if_most (held_row e) (ups up cells) (up (held_row e))

  none_more : (c : Option (Row × ℕ)) (cells : List (Option (Row × ℕ))) → count (c ∷ cells) ≤ count cells → ups up (c ∷ cells) ≡ ups up cells
  none_more None cells few = refl
  none_more (Some e) cells few = same_if_few (held_row e) (ups up cells) (up (held_row e)) few

  drop_fewer : (place : ℕ) (cells : List (Option (Row × ℕ))) → count (drop place cells) ≤ count cells
  drop_fewer zero cells = omega arith
  drop_fewer (suc place) [] = omega arith
  drop_fewer (suc place) (c ∷ cells) = omega (arith, drop_fewer place cells, at_least c cells)

  least_zero : (k : ℕ) (cells : List (Option (Row × ℕ))) → count cells ≤ k → least_place up k cells ≡ 0
  least_zero k [] few = refl
  least_zero k (c ∷ cells) few = ap (λ b. cond b 0 (suc (least_place up k cells))) (le-leb (count (c ∷ cells)) k few)

  least_suc : (k : ℕ) (c : Option (Row × ℕ)) (cells : List (Option (Row × ℕ))) → k < count (c ∷ cells) → least_place up k (c ∷ cells) ≡ suc (least_place up k cells)
  least_suc k c cells many = ap (λ b. cond b 0 (suc (least_place up k cells))) (lt-leb (count (c ∷ cells)) k many)

  -- from the least place the same rows go up
  pub same_ups : (place : ℕ) (cells : List (Option (Row × ℕ))) → ups up (drop (least_place up (count (drop place cells)) cells) cells) ≡ ups up (drop place cells)
  same_ups zero cells = ap (λ n. ups up (drop n cells)) (least_zero (count cells) cells (omega arith))
  same_ups (suc place) [] = refl
  same_ups (suc place) (c ∷ cells) =
      let k : ℕ = count (drop place cells) in
      by_test (nat_le (count (c ∷ cells)) k)
      (λ few. let le = leb-true (count (c ∷ cells)) k few in let fewer = drop_fewer place cells in let more = at_least c cells in
      ap (λ n. ups up (drop n (c ∷ cells))) (least_zero k (c ∷ cells) le)
      ∙ none_more c cells (omega (arith, le, fewer))
      ∙ ap (λ n. ups up (drop n cells)) (sym (least_zero k cells (omega (arith, le, more))))
      ∙ same_ups place cells)
      (λ many. ap (λ n. ups up (drop n (c ∷ cells))) (least_suc k c cells (leb-false (count (c ∷ cells)) k many)) ∙ same_ups place cells)

  first_if : (k : ℕ) (row : Row) (cells : List (Option (Row × ℕ))) (b : Bool) → k ≡ length (cond b (row ∷ ups up cells) (ups up cells)) → (k ≡ count cells → least_place up (k - 1) cells ≡ walked up cells) →
      suc (least_place up (k - 1) cells) ≡ cond b 1 (suc (walked up cells))
  first_if k row cells true is rest = ap suc (least_zero (k - 1) cells (omega (arith, is)))
  first_if k row cells false is rest = ap suc (rest is)

  first_walked : (k : ℕ) (c : Option (Row × ℕ)) (cells : List (Option (Row × ℕ))) → k ≡ count (c ∷ cells) → (k ≡ count cells → least_place up (k - 1) cells ≡ walked up cells) →
      suc (least_place up (k - 1) cells) ≡ walked up (c ∷ cells)
  first_walked k None cells is rest = ap suc (rest is)
  first_walked k (Some e) cells is rest = first_if k (held_row e) cells (up (held_row e)) is rest

  -- one row fewer: the place is after the next that goes up
  pub next_place : (k : ℕ) (cells : List (Option (Row × ℕ))) → 0 < k → k ≤ count cells → least_place up (k - 1) cells ≡ least_place up k cells + walked up (drop (least_place up k cells) cells)
  next_place k [] some le = absurd (omega (arith, some, le))
  next_place k (c ∷ cells) some le =
      let more = at_least c cells in
      let most = at_most c cells in
      by_test (nat_le (count (c ∷ cells)) k)
      (λ few. let is : k ≡ count (c ∷ cells) = omega (arith, le, leb-true (count (c ∷ cells)) k few) in
      least_suc (k - 1) c cells (omega (arith, some, is))
      ∙ first_walked k c cells is (λ all. next_place k cells some (omega (arith, all)) ∙ ap (λ n. n + walked up (drop n cells)) (least_zero k cells (omega (arith, all))) ∙ zero_plus (walked up cells))
      ∙ sym (zero_plus (walked up (c ∷ cells))) ∙ ap (λ n. n + walked up (drop n (c ∷ cells))) (sym (least_zero k (c ∷ cells) (omega (arith, is)))))
      (λ many. let lt = leb-false (count (c ∷ cells)) k many in
      least_suc (k - 1) c cells (omega (arith, lt)) ∙ ap suc (next_place k cells some (omega (arith, lt, most)))
      ∙ from_next (least_place up k cells) (walked up (drop (least_place up k cells) cells))
      ∙ ap (λ n. n + walked up (drop n (c ∷ cells))) (sym (least_suc k c cells lt)))

-- ---- stages

tag_length : (tag : Tag) (rows : List Row) → length (tagged tag rows) ≡ length rows
tag_length tag [] = refl
tag_length tag (row ∷ rows) = ap suc (tag_length tag rows)

module _ (level i : ℕ) (spilled : Bool) (r : TReduce) (chain : ChainState AnyFold) (ss : List Stage) where
  left_length : (place : ℕ) → length (left_from level i spilled place (Reduce r chain ∷ ss)) ≡ length (ups (goes_up level spilled ss) (drop place chain.cells))
  left_length place = ap length (left_up_is level i spilled ss (rows_left chain place)) ∙ tag_length (tag_up i spilled ss) (ups (goes_up level spilled ss) (drop place chain.cells))

settled_next : (level i : ℕ) (spilled : Bool) (place after : ℕ) (ss : List Stage) → 0 < length (left_from level i spilled place ss) → length (left_from level i spilled after ss) ≡ length (left_from level i spilled place ss) - 1 →
    settled_place level spilled after ss ≡ place_after level spilled (settled_place level spilled place ss) ss
settled_next level i spilled place after [] some e = absurd (omega (arith, some))
settled_next level i spilled place after (Filter conds ∷ ss) some e = settled_next level (suc i) spilled place after ss some e
settled_next level i spilled place after (Map exprs ∷ ss) some e = settled_next level (suc i) spilled place after ss some e
settled_next level i spilled place after (Distinct chain over ∷ ss) some e = settled_next level (suc i) (spilled || over) place after ss some e
settled_next level i spilled place after (Reduce r chain ∷ ss) some e =
    let up : Row → Bool = goes_up level spilled ss in
    let k : ℕ = length (ups up (drop place chain.cells)) in
    let now : length (left_from level i spilled place (Reduce r chain ∷ ss)) ≡ k = left_length level i spilled r chain ss place in
    let later : length (left_from level i spilled after (Reduce r chain ∷ ss)) ≡ length (ups up (drop after chain.cells)) = left_length level i spilled r chain ss after in
    ap (λ n. least_place up n chain.cells) (sym later ∙ e ∙ ap (λ n. n - 1) now)
    ∙ next_place up k chain.cells (subst (λ n. 0 < n) now some) (drop_fewer up place chain.cells)

settled_same : (level i : ℕ) (spilled : Bool) (place after : ℕ) (ss : List Stage) → length (left_from level i spilled after ss) ≡ length (left_from level i spilled place ss) → settled_place level spilled after ss ≡ settled_place level spilled place ss
settled_same level i spilled place after [] e = refl
settled_same level i spilled place after (Filter conds ∷ ss) e = settled_same level (suc i) spilled place after ss e
settled_same level i spilled place after (Map exprs ∷ ss) e = settled_same level (suc i) spilled place after ss e
settled_same level i spilled place after (Distinct chain over ∷ ss) e = settled_same level (suc i) (spilled || over) place after ss e
settled_same level i spilled place after (Reduce r chain ∷ ss) e =
    ap (λ n. least_place (goes_up level spilled ss) n chain.cells) (sym (left_length level i spilled r chain ss after) ∙ e ∙ left_length level i spilled r chain ss place)

settled_left : (level i : ℕ) (spilled : Bool) (place : ℕ) (ss : List Stage) → left_from level i spilled (settled_place level spilled place ss) ss ≡ left_from level i spilled place ss
settled_left level i spilled place [] = refl
settled_left level i spilled place (Filter conds ∷ ss) = settled_left level (suc i) spilled place ss
settled_left level i spilled place (Map exprs ∷ ss) = settled_left level (suc i) spilled place ss
settled_left level i spilled place (Distinct chain over ∷ ss) = settled_left level (suc i) (spilled || over) place ss
settled_left level i spilled place (Reduce r chain ∷ ss) =
    left_up_is level i spilled ss (rows_left chain (settled_place level spilled place (Reduce r chain ∷ ss)))
    ∙ ap (tagged (tag_up i spilled ss)) (same_ups (goes_up level spilled ss) place chain.cells)
    ∙ sym (left_up_is level i spilled ss (rows_left chain place))

settled_first : (level : ℕ) (spilled : Bool) (ss : List Stage) → settled_place level spilled 0 ss ≡ 0
settled_first level spilled [] = refl
settled_first level spilled (Filter conds ∷ ss) = settled_first level spilled ss
settled_first level spilled (Map exprs ∷ ss) = settled_first level spilled ss
settled_first level spilled (Distinct chain over ∷ ss) = settled_first level (spilled || over) ss
settled_first level spilled (Reduce r chain ∷ ss) = least_zero (goes_up level spilled ss) (length (ups (goes_up level spilled ss) chain.cells)) chain.cells (omega arith)

-- ---- pipes

abbrev at_place : PipeState → ℕ → PipeState
at_place p place = record p { prefix = record p.prefix { place = place } }

-- a pipe that wasn't read out is settled
pub unread_settled : (p : PipeState) → p.prefix.place ≡ 0 → settled p ≡ p
unread_settled p e =
    ap (at_place p) (ap (λ n. settled_place p.prefix.level false n p.prefix.stages) e ∙ settled_first p.prefix.level false p.prefix.stages ∙ sym e)

pub left_settled : (p : PipeState) → left_in (settled p).prefix ≡ left_in p.prefix
left_settled p = settled_left p.prefix.level 0 false p.prefix.place p.prefix.stages

-- a pipe after an item that was read out, and one of which nothing was left
pub read_settled : (p q : PipeState) (item : Item) (items : List Item) → q ≡ at_place p q.prefix.place → left_in q.prefix ≡ drop 1 (left_in p.prefix) → left_in p.prefix ≡ item ∷ items → settled q ≡ after_read_out (settled p)
read_settled p q item items e left is =
    let place : ℕ = q.prefix.place in
    let less : left_from p.prefix.level 0 false place p.prefix.stages ≡ drop 1 (left_in p.prefix) = sym (ap (λ (x : PipeState). left_in x.prefix) e) ∙ left in
    let long : length (left_in p.prefix) ≡ suc (length items) = ap length is in
    let rest : length (left_from p.prefix.level 0 false place p.prefix.stages) ≡ length items = ap length (less ∙ ap (drop 1) is) in
    let fewer : length (left_from p.prefix.level 0 false place p.prefix.stages) ≡ length (left_in p.prefix) - 1 = omega (arith, rest, long) in
    ap settled e ∙ ap (at_place p) (settled_next p.prefix.level 0 false p.prefix.place place p.prefix.stages (omega (arith, long)) fewer)

pub stays_settled : (p q : PipeState) → q ≡ at_place p q.prefix.place → left_in q.prefix ≡ drop 1 (left_in p.prefix) → left_in p.prefix ≡ [] → settled q ≡ settled p
stays_settled p q e left is =
    let place : ℕ = q.prefix.place in
    let same : left_from p.prefix.level 0 false place p.prefix.stages ≡ left_in p.prefix = sym (ap (λ (x : PipeState). left_in x.prefix) e) ∙ left ∙ ap (drop 1) is ∙ sym is in
    ap settled e ∙ ap (at_place p) (settled_same p.prefix.level 0 false p.prefix.place place p.prefix.stages (ap length same))
