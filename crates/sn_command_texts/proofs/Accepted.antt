-- What the accepted texts are.
use Rattle.std.proofs.Common.{◌≡◌, List, ℕ, Result, Ok, Err, sym, subst}
use Rattle.sn_command_texts.specs.Queries.{QueriesIn}
use Rattle.sn_command_texts.specs.Texts.{SwitchIn, switch_fault}
use Rattle.sn_types_read.specs.Texts as query_texts
use Rattle.sn_types_read.specs.Texts.{Queries}
use Rattle.sn_command.specs.declared.fault.Fault.{Fault}
use Rattle.sn_command.specs.declared.fault.Fault.TheVariants as faults
use Rattle.sn_command.specs.Stages.{ReadAs, named}
use Rattle.sn_switch.proofs.Switches.{limits_of, one_switch, set_so}
use Rattle.sn_switch.specs.Texts as switches
use Rattle.sn_switch.specs.Texts.{IsSwitch, switch_in}
use Rattle.sn_switch.specs.declared.switch.Switch.{Switch}
use Rattle.sn_types.specs.Typed.{IsTyped}

pub value_same : {A : Type 0} (x y : A) → ◌≡◌ {A = Result A Fault} (Ok x) (Ok y) → x ≡ y
value_same x y e = cc

pub ok_err : {A : Type 0} {x : A} {f : Fault} {G : Type 0} → ◌≡◌ {A = Result A Fault} (Ok x) (Err f) → G
ok_err e = absurd cc

-- what a text is read as, where it is accepted
pub read_ok : {A F : Type 0} (name : F → Fault) (reading : Result A F → Type 0) (value : A) → ReadAs name reading (Ok value) → reading (Ok value)
read_ok {A = A} {F = F} name reading value r = by_found r.found r.is r.same
  where
    by_found : (found : Result A F) → reading found → Ok value ≡ named name found → reading (Ok value)
    by_found (Ok v) is same = subst (λ (w : A). reading (Ok w)) (sym (value_same value v same)) is
    by_found (Err e) is same = ok_err same

pub typed_in : (text : List ℕ) (read : Queries) → QueriesIn text (Ok read) → ∥ IsTyped read.window_us read.queries ∥₁
typed_in text read is = let k = read_ok faults.Queries (query_texts.IsRead text) read is in ∣ (k.0, k.2) ∣₁

pub switch_limits : (text : List ℕ) (s : Switch) → SwitchIn text (Ok s) → IsSwitch s
switch_limits text s is =
    let k = read_ok switch_fault (switches.IsRead text) s is in
    let fits = k.accepted.fits in
    subst IsSwitch (one_switch k.items (switch_in k.items) s (set_so k.items fits) k.each) (limits_of k.items fits)
