-- serves proofs
-- Items that go from the lanes of the engine of one of several switches to those of the engine of all.
use Rattle.std.specs.Prelude.{suc, List, ◌++◌, map, length, zip, Bool, true, false, ◌&&◌, ◌==◌, Option, None, Some}
use Rattle.std.specs.List.{find, list_all, list_any}
use Rattle.std.specs.Option.{option_map_or}
use Rattle.sn_base.specs.Changed.{with_first}
use Rattle.sn_base.specs.declared.column.Column.{Column}
use Rattle.sn_base.specs.declared.lane.Lane.{Lane}
use Rattle.sn_engine.specs.Intakes.{is_lane, lane_at}
use Rattle.sn_engine.specs.Turns.{lane_tag, turn}
use Rattle.sn_engine.specs.declared.intake.Intake.{Intake}
use Rattle.sn_engine_split.specs.Branches.{tag_columns}
use Rattle.sn_report.specs.Frames.{operator_of}
use Rattle.sn_report.specs.Items.{Item}
use Rattle.sn_report.specs.declared.frame.Tag.{Tag}
use Rattle.sn_types.specs.Typed.{branch_at, schema_at}
use Rattle.sn_types.specs.declared.typed_query.TypedQuery.{TypedQuery}

-- ---- columns

-- as many columns, of the same widths
abbrev pub same_width : Column × Column → Bool
same_width pair = pair.0.width == pair.1.width

abbrev pub same_widths : List Column → List Column → Bool
same_widths columns others = (length columns == length others) && list_all same_width (zip columns others)

-- as many schemas, each of the same widths
abbrev pub same_both : List Column × List Column → Bool
same_both pair = same_widths pair.0 pair.1

abbrev pub same_schemas : List (List Column) → List (List Column) → Bool
same_schemas schemas others = (length schemas == length others) && list_all same_both (zip schemas others)

-- rows that stand after the operator of this tag have the columns of those with the tag
abbrev pub keeps_columns : List (List Column) → Option Tag → Bool
keeps_columns schemas None = true
keeps_columns schemas (Some tag) = same_widths (schema_at schemas (suc (operator_of tag))) (tag_columns schemas tag)

-- ---- lanes

-- a lane's name in frames
abbrev pub name_of : Intake → Lane
name_of x = lane_at x.query x.place x.branch

-- rows of a lane, with their tags among several switches, have the columns of another lane of other queries
abbrev pub fits_lane : List TypedQuery → Intake → List TypedQuery → Intake → Bool
fits_lane given x queries y =
    same_schemas (branch_at given x.query x.branch).schemas (branch_at queries y.query y.branch).schemas
    && keeps_columns (branch_at given x.query x.branch).schemas (lane_tag given x)

-- one of these lanes has its name
abbrev pub has_name : List Intake → Intake → Bool
has_name lanes x = list_any (is_lane (name_of x)) lanes

-- one of these lanes has the name of a lane of other queries, and the columns of its rows
abbrev pub has_lane_for : List TypedQuery → List Intake → List TypedQuery → Intake → Bool
has_lane_for queries lanes given x = option_map_or (fits_lane given x queries) (find (is_lane (name_of x)) lanes) false

-- a lane with these items after its own
abbrev pub with_items : List Item → Intake → Intake
with_items items x = record x { items = x.items ++ items }

-- the lanes after the items of a lane of one of several switches
abbrev pub after_lane : List TypedQuery → List Intake → Intake → List Intake
after_lane given lanes x = with_first (is_lane (name_of x)) (with_items (map (turn (lane_tag given x)) x.items)) lanes
