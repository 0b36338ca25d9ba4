-- to be believed
-- What may be reported of answers.
use Rattle.std.specs.Prelude.{◌≡◌, ℕ, List, map, refl}
use Rattle.std.specs.List.{AllByRecursion}
use Rattle.sn_base.specs.Sorted.{sorted_rows}
use Rattle.sn_core.specs.Workings.{AreLawful}
use Rattle.sn_engine.specs.Intakes.{emptied}
use Rattle.sn_core_net.specs.Nets.{works}
use Rattle.sn_core_net.specs.declared.net.Net.{Net}
use Rattle.sn_core_net.proofs.Lawful.{lawful_of}
use Rattle.sn_out.specs.Text.{IsPartOf}
use Rattle.sn_types.specs.declared.answers.Answers.{Answers}
use Rattle.sn_types.specs.declared.answers.Part.{Part}
use Rattle.sn_types.specs.declared.typed_query.TypedQuery.{TypedQuery}

-- the query and the level of a part
abbrev pub place_of : Part → ℕ × ℕ
place_of part = (part.query, part.level)

-- a part whose rows are sorted, and of the final columns of its query
pub record IsSortedPart (queries : List TypedQuery) (x : Part) : Type 0 where
  pub part : IsPartOf queries x
  pub sorted : sorted_rows x.rows ≡ x.rows

-- What is reported has the window, the number of items, and the parts of what is answered, each with its query and level; and its
-- rows are sorted rows of the queries where the answered ones are.
pub record Tells (queries : List TypedQuery) (answers reported : Answers) : Type 0 where
  pub window : reported.window ≡ answers.window
  pub emitted : reported.emitted ≡ answers.emitted
  pub places : map place_of reported.parts ≡ map place_of answers.parts
  pub rows : AllByRecursion (IsSortedPart queries) answers.parts → AllByRecursion (IsSortedPart queries) reported.parts

-- answers report themselves
pub tells_itself : (queries : List TypedQuery) (answers : Answers) → Tells queries answers answers
tells_itself queries answers = record { window = refl; emitted = refl; places = refl; rows = λ h. h }

pub nets_are_lawful : (net : Net) → AreLawful (works net)
nets_are_lawful net = lawful_of net.engine.t.queries (map emptied net.engine.lanes.items) net.sources
