-- Each entry of a cost table has a place of its own.
use Rattle.std.proofs.Common.{◌≡◌, ◌≢◌, ℕ, ◌<◌, arith}
use Rattle.sn_plan_choices.specs.Places.{place_of}

own_place : (q prefix b option q' prefix' b' option' : ℕ) → prefix < 16 → b < 2 → option < 256 → prefix' < 16 → b' < 2 → option' < 256
    → place_of q' prefix' b' option' ≡ place_of q prefix b option → (q' ≡ q) × (prefix' ≡ prefix) × (b' ≡ b) × (option' ≡ option)
own_place q prefix b option q' prefix' b' option' h i j h' i' j' e = (omega arith, omega arith, omega arith, omega arith)

pub other_place : (q prefix b option q' prefix' b' option' : ℕ) → prefix < 16 → b < 2 → option < 256 → prefix' < 16 → b' < 2 → option' < 256
    → (q' ≡ q → prefix' ≡ prefix → b' ≡ b → option' ≢ option) → place_of q' prefix' b' option' ≢ place_of q prefix b option
other_place q prefix b option q' prefix' b' option' h i j h' i' j' other e =
    let same = own_place q prefix b option q' prefix' b' option' h i j h' i' j' e in other same.0 same.1 same.2 same.3
