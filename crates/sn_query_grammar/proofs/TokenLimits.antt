-- What the rules of single tokens say of their values.
use Rattle.std.proofs.Common.{◌≡◌, ℕ, ◌≤◌, Bool, true, false, List, Some, None, refl, arith}
use Rattle.std.specs.Prelude.{nat_le, ◌&&◌, ◌||◌, ◌==◌, nat_lt, length, if◌then◌else◌}
use Rattle.std.specs.List.{list_any}
use Rattle.std.proofs.lemmas.Bool.Decides.{nat_tests}
use Rattle.sn_base.specs.Groups.{same_row}
use Rattle.sn_text_rules.specs.declared.Flaw.TheVariants.{Expected, TooMany, Twice}
use Rattle.sn_text_rules.specs.Rules.{kept}
use Rattle.sn_text_rules.specs.Words.{number_in}
use Rattle.sn_query_grammar.specs.Names.{is_keyword, name_not}
use Rattle.sn_query_grammar.specs.Limits.{Within}

both : (a b : Bool) → (if a && b then None else Some Expected) ≡ None → (a ≡ true) × (b ≡ true)
both true true h = (refl, refl)
both true false h = absurd cc
both false b h = absurd cc

least : (low n : ℕ) → nat_le low n ≡ true → low ≤ n
least low n h = grind (arith, nat_tests)

-- a number is in the range of its rule
pub number_within : (low high n : ℕ) → (number_in low high).fits kept n → Within low high n
number_within low high n h =
    let parts = both (nat_le low n) (nat_le n high) h in
    record { from_least = least low n parts.0; to_most = least n high parts.1 }

unseen : (a b c : Bool) → (if a then Some Expected else if b then Some TooMany else if c then Some Twice else None) ≡ None → c ≡ false
unseen true b c h = absurd cc
unseen false true c h = absurd cc
unseen false false true h = absurd cc
unseen false false false h = refl

-- a name is none of those seen
pub name_unseen : (seen : List (List ℕ)) (w : List ℕ) → (name_not seen).fits kept w → list_any (same_row w) seen ≡ false
name_unseen seen w h = unseen (is_keyword w || (length w == 0)) (nat_lt 32 (length w)) (list_any (same_row w) seen) h
