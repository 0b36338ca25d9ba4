-- What a pipe does is the same whatever the folds of a distinct's registers are.
use Rattle.std.proofs.Common.{◌≡◌, ℕ, suc, ◌+◌, List, [], ◌∷◌, map, drop, Bool, true, false, ◌||◌, ◌&&◌, cond, Option, None, Some, refl, ap, ap₂, ◌∙◌}
use Rattle.std.specs.FinSet as set
use Rattle.std.specs.List.{list_all}
use Rattle.std.specs.Option.{option_and_then, option_map_or}
use Rattle.std.specs.Ordering.{nat_cmp}
use Rattle.std.proofs.lemmas.List.{length-map}
use Rattle.sn_base.specs.Groups.{Row}
use Rattle.sn_pipe_items.specs.Items.{tagged}
use Rattle.sn_core_net.specs.ReadOut.{after_read_out, held_from, place_after, unwalked, walked}
use Rattle.sn_pipe.specs.Pipes.{PipeState, after_packet, at_start, item_of, admits, row_in}
use Rattle.sn_pipe.specs.Prefixes.{left_in}
use Rattle.sn_pipe.specs.Stages.{after_row, cleared, flows, item_at, item_from, overflows, stages_after}
use Rattle.sn_pipe.specs.Windows.{goes_up, held_row, left_from, passes, rows_left}
use Rattle.sn_pipe.specs.AnyStage.{Stage}
use Rattle.sn_pipe.specs.declared.stage.Stage.TheVariants.{Filter, Map, Distinct, Reduce}
use Rattle.sn_report.specs.Items.{Item}
use Rattle.sn_report.specs.declared.frame.Tag.TheVariants.{At, Partial}
use Rattle.sn_types.specs.Values.{holds}
use Rattle.sn_core_drive.specs.Plain.{plain_pipe, plain_stage, plain_stages}
use Rattle.sn_base.proofs.Lists.{filter_same}

then_same : {X Y : Type 0} (f g : X → Option Y) → ((x : X) → f x ≡ g x) → (o : Option X) → option_and_then f o ≡ option_and_then g o
then_same f g same None = refl
then_same f g same (Some x) = same x

-- ---- one stage

same_over : (s : Stage) (row : Row) → overflows (plain_stage s) row ≡ overflows s row
same_over (Filter conds) row = refl
same_over (Map exprs) row = refl
same_over (Distinct chain spilled) row = refl
same_over (Reduce r chain) row = refl

same_flow : (level : ℕ) (s : Stage) (row : Row) → flows level (plain_stage s) row ≡ flows level s row
same_flow level (Filter conds) row = refl
same_flow level (Map exprs) row = refl
same_flow level (Distinct chain spilled) row = refl
same_flow level (Reduce r chain) row = refl

same_row : (s : Stage) (row : Row) → after_row (plain_stage s) row ≡ plain_stage (after_row s row)
same_row (Filter conds) row = refl
same_row (Map exprs) row = refl
same_row (Distinct chain spilled) row = refl
same_row (Reduce r chain) row = refl

same_clear : (s : Stage) → cleared (plain_stage s) ≡ plain_stage (cleared s)
same_clear (Filter conds) = refl
same_clear (Map exprs) = refl
same_clear (Distinct chain spilled) = refl
same_clear (Reduce r chain) = refl

-- ---- all stages

same_item : (level i : ℕ) (ss : List Stage) (row : Row) → item_from level i (plain_stages ss) row ≡ item_from level i ss row
same_item level i [] row = refl
same_item level i (s ∷ ss) row =
    ap (λ (b : Bool). cond b (Some (item_at i row)) (option_and_then (item_from level (suc i) (plain_stages ss)) (flows level (plain_stage s) row))) (same_over s row)
    ∙ ap (λ (o : Option Item). cond (overflows s row) (Some (item_at i row)) o)
    (ap (λ (o : Option Row). option_and_then (item_from level (suc i) (plain_stages ss)) o) (same_flow level s row)
    ∙ then_same (item_from level (suc i) (plain_stages ss)) (item_from level (suc i) ss) (same_item level (suc i) ss) (flows level s row))

same_after : (level : ℕ) (ss : List Stage) (row : Row) → stages_after level (plain_stages ss) row ≡ plain_stages (stages_after level ss row)
same_after level [] row = refl
same_after level (s ∷ ss) row =
    ap₂ (λ (first : Stage) (rest : List Stage). first ∷ rest) (same_row s row)
    (ap (λ (o : Option Row). option_map_or (stages_after level (plain_stages ss)) o (plain_stages ss)) (same_flow level s row) ∙ on (flows level s row) (same_after level ss))
  where
    on : (o : Option Row) → ((next : Row) → stages_after level (plain_stages ss) next ≡ plain_stages (stages_after level ss next))
        → option_map_or (stages_after level (plain_stages ss)) o (plain_stages ss) ≡ plain_stages (option_map_or (stages_after level ss) o ss)
    on None h = refl
    on (Some next) h = h next

same_cleared : (ss : List Stage) → map cleared (plain_stages ss) ≡ plain_stages (map cleared ss)
same_cleared [] = refl
same_cleared (s ∷ ss) = ap₂ (λ (first : Stage) (rest : List Stage). first ∷ rest) (same_clear s) (same_cleared ss)

same_passes : (level : ℕ) (ss : List Stage) (row : Row) → passes level (plain_stages ss) row ≡ passes level ss row
same_passes level [] row = refl
same_passes level (Filter conds ∷ ss) row = ap (λ (b : Bool). list_all (λ c. holds level c row) conds && b) (same_passes level ss row)
same_passes level (Map exprs ∷ ss) row = refl
same_passes level (Distinct chain spilled ∷ ss) row = refl
same_passes level (Reduce r chain ∷ ss) row = refl

-- ---- reading out

same_left : (level i : ℕ) (spilled : Bool) (place : ℕ) (ss : List Stage) → left_from level i spilled place (plain_stages ss) ≡ left_from level i spilled place ss
same_left level i spilled place [] = refl
same_left level i spilled place (Filter conds ∷ ss) = same_left level (suc i) spilled place ss
same_left level i spilled place (Map exprs ∷ ss) = same_left level (suc i) spilled place ss
same_left level i spilled place (Distinct chain over ∷ ss) = same_left level (suc i) (spilled || over) place ss
same_left level i spilled place (Reduce r chain ∷ ss) =
    ap₂ (λ (n : ℕ) (rows : List Row). cond spilled (tagged (Partial i) (rows_left chain place)) (tagged (At (suc i + n)) rows)) (length-map ss plain_stage)
    (filter_same (passes level (plain_stages ss)) (passes level ss) (same_passes level ss) (rows_left chain place))

walked_same : (f g : Row → Bool) → ((row : Row) → f row ≡ g row) → (cells : List (Option (Row × ℕ))) → walked f cells ≡ walked g cells
walked_same f g same [] = refl
walked_same f g same (None ∷ cells) = ap suc (walked_same f g same cells)
walked_same f g same (Some e ∷ cells) = rw (same (held_row e), walked_same f g same cells) refl

same_place : (level : ℕ) (spilled : Bool) (place : ℕ) (ss : List Stage) → place_after level spilled place (plain_stages ss) ≡ place_after level spilled place ss
same_place level spilled place [] = refl
same_place level spilled place (Filter conds ∷ ss) = same_place level spilled place ss
same_place level spilled place (Map exprs ∷ ss) = same_place level spilled place ss
same_place level spilled place (Distinct chain over ∷ ss) = same_place level (spilled || over) place ss
same_place level spilled place (Reduce r chain ∷ ss) =
    ap (λ (n : ℕ). place + n) (walked_same (goes_up level spilled (plain_stages ss)) (goes_up level spilled ss) (λ row. ap (λ (b : Bool). spilled || b) (same_passes level ss row)) (drop place chain.cells))

same_held : (place : ℕ) (ss : List Stage) → held_from place (plain_stages ss) ≡ held_from place ss
same_held place [] = refl
same_held place (Filter conds ∷ ss) = same_held place ss
same_held place (Map exprs ∷ ss) = same_held place ss
same_held place (Distinct chain over ∷ ss) = same_held place ss
same_held place (Reduce r chain ∷ ss) = refl

-- ---- pipes

pub plain_item : (p : PipeState) (tuple : List ℕ) → item_of (plain_pipe p) tuple ≡ item_of p tuple
plain_item p tuple = ap (λ (o : Option Item). cond (admits p tuple) o None) (same_item p.prefix.level 0 p.prefix.stages (row_in p tuple))

abbrev with_stages : PipeState → List Stage → PipeState
with_stages p stages = record p { prefix = record p.prefix { stages = stages } }

pub plain_packet : (p : PipeState) (tuple : List ℕ) → after_packet (plain_pipe p) tuple ≡ plain_pipe (after_packet p tuple)
plain_packet p tuple = ap (λ (stages : List Stage). with_stages p stages) (by (admits p tuple))
  where
    by : (b : Bool) → cond b (stages_after p.prefix.level (plain_stages p.prefix.stages) (row_in p tuple)) (plain_stages p.prefix.stages) ≡ plain_stages (cond b (stages_after p.prefix.level p.prefix.stages (row_in p tuple)) p.prefix.stages)
    by true = same_after p.prefix.level p.prefix.stages (row_in p tuple)
    by false = refl

pub plain_left : (p : PipeState) → left_in (plain_pipe p).prefix ≡ left_in p.prefix
plain_left p = same_left p.prefix.level 0 false p.prefix.place p.prefix.stages

pub plain_read : (p : PipeState) → after_read_out (plain_pipe p) ≡ plain_pipe (after_read_out p)
plain_read p = ap (λ (place : ℕ). record p { prefix = record p.prefix { stages = plain_stages p.prefix.stages; place = place } }) (same_place p.prefix.level false p.prefix.place p.prefix.stages)

pub plain_start : (p : PipeState) (kept : set.FinSet nat_cmp) → at_start (plain_pipe p) kept ≡ plain_pipe (at_start p kept)
plain_start p kept = ap (λ (stages : List Stage). record p { members = kept; prefix = record p.prefix { stages = stages; place = 0 } }) (same_cleared p.prefix.stages)

pub plain_unwalked : (p : PipeState) → unwalked (plain_pipe p) ≡ unwalked p
plain_unwalked p = same_held p.prefix.place p.prefix.stages
