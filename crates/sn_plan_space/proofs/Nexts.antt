-- The first register of tables, as they are gone through.
use Rattle.std.proofs.Common.{◌≡◌, ℕ, ◌+◌, List, [], ◌∷◌, map, false, refl, ap, sym, ◌∙◌, subst}
use Rattle.std.specs.Prelude.{Bool, true, Some, None, nat_lt, if◌then◌else◌}
use Rattle.std.specs.List.{list_any}
use Rattle.sn_plan_fit.specs.Capped.{capped}
use Rattle.sn_plan_choices.specs.Options.{Slot, plain, keyed}
use Rattle.sn_plan_choices.specs.Planning.{is_past, past_stages, next_stage, past_by}
use Rattle.sn_plan_space.specs.declared.known.Slot.TheVariants.{Plain, Keyed}
use Rattle.sn_plan_space.specs.declared.known.Slot as known
use Rattle.sn_plan_space.specs.declared.waiting.Waiting.{Waiting}
use Rattle.sn_plan_space.specs.Known.{known_slot}
use Rattle.sn_plan_space.specs.Positions.{IsNext, WaitsFor}

-- the tables that are left, after some without state
pub record Left (stages least at : ℕ) (rest : List known.Slot) (tables : List Slot) : Type 0 where
  pub some : List Slot
  pub same : rest ≡ map known_slot some
  pub next : next_stage least tables ≡ next_stage at some
  pub past : past_by stages least tables ≡ past_by stages at some

pub all_left : (stages least : ℕ) (rest : List known.Slot) (tables : List Slot) → rest ≡ map known_slot tables → Left stages least least rest tables
all_left stages least rest tables e = record { some = tables; same = e; next = refl; past = refl }

one_less : (stages least at : ℕ) (rest following : List known.Slot) (tables some : List Slot) → Plain ∷ following ≡ map known_slot some
    → next_stage least tables ≡ next_stage at some → past_by stages least tables ≡ past_by stages at some → Left stages least (at + 1) following tables
one_less stages least at rest following tables [] e n p = cc
one_less stages least at rest following tables (plain ∷ some) e n p = record { some = some; same = cc; next = n; past = p }
one_less stages least at rest following tables (keyed bits ∷ some) e n p = cc

pub less_left : (stages least at : ℕ) (rest following : List known.Slot) (tables : List Slot) → rest ≡ Plain ∷ following → Left stages least at rest tables → Left stages least (at + 1) following tables
less_left stages least at rest following tables e l = one_less stages least at rest following tables l.some (sym e ∙ l.same) l.next l.past

found : (stages least at bits : ℕ) (w : Waiting) (following : List known.Slot) (tables some : List Slot) → Keyed bits ∷ following ≡ map known_slot some
    → next_stage least tables ≡ next_stage at some → past_by stages least tables ≡ past_by stages at some → w.least ≡ at → w.bits ≡ bits → w.following.now ≡ following
    → IsNext stages least tables (Some w) false
found stages least at bits w following tables [] e n p a b c = cc
found stages least at bits w following tables (plain ∷ some) e n p a b c = cc
found stages least at bits w following tables (keyed all ∷ some) e n p a b c = record {
  waits = subst (λ l. WaitsFor (Some w) l) (sym n) (refl, a, (let k : bits ≡ capped all = cc in b ∙ k), (let k : following ≡ map known_slot some = cc in c ∙ k));
  is_past = sym (ap (λ l. list_any is_past l) p);
}

pub found_next : (stages least at bits : ℕ) (w : Waiting) (rest following : List known.Slot) (tables : List Slot) → rest ≡ Keyed bits ∷ following → Left stages least at rest tables
    → w.least ≡ at → w.bits ≡ bits → w.following.now ≡ following → IsNext stages least tables (Some w) false
found_next stages least at bits w rest following tables e l a b c = found stages least at bits w following tables l.some (sym e ∙ l.same) l.next l.past a b c

ended : (stages least at : ℕ) (tables some : List Slot) (past : Bool) → [] ≡ map known_slot some → next_stage least tables ≡ next_stage at some
    → past_by stages least tables ≡ past_by stages at some → past ≡ nat_lt stages at → IsNext stages least tables None past
ended stages least at tables [] past e n p t = record { waits = n; is_past = t ∙ flag (nat_lt stages at) ∙ sym (ap (λ l. list_any is_past l) p) }
  where
    flag : (b : Bool) → b ≡ list_any is_past (if b then past_stages ∷ [] else [])
    flag true = refl
    flag false = refl
ended stages least at tables (plain ∷ some) past e n p t = cc
ended stages least at tables (keyed bits ∷ some) past e n p t = cc

pub none_next : (stages least at : ℕ) (rest : List known.Slot) (tables : List Slot) (past : Bool) → rest ≡ [] → Left stages least at rest tables → past ≡ nat_lt stages at
    → IsNext stages least tables None past
none_next stages least at rest tables past e l t = ended stages least at tables l.some past (sym e ∙ l.same) l.next l.past t
