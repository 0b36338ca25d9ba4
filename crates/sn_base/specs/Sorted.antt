-- to be believed
use Rattle.std.specs.Prelude.{List, [], ◌∷◌, if◌then◌else◌}
use Rattle.std.specs.Ordering.{nat_cmp, is_gt}
use Rattle.std.specs.Cmp.Lexicographic.{slice_cmp}
use Rattle.sn_base.specs.Groups.{Row}

-- a row put before the first that isn't below it
abbrev pub put_row : Row → List Row → List Row
put_row x [] = x ∷ []
put_row x (y ∷ ys) = if is_gt (slice_cmp nat_cmp x y) then y ∷ put_row x ys else x ∷ y ∷ ys

-- rows in order: column by column, a proper prefix first
abbrev pub sorted_rows : List Row → List Row
sorted_rows [] = []
sorted_rows (x ∷ xs) = put_row x (sorted_rows xs)
