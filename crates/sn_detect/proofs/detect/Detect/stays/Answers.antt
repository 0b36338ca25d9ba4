use Rattle.std.proofs.Common.{◌≡◌, List, length, IfOk, subst, sym}
use Rattle.std.specs.List.{AllByRecursion}
use Rattle.sn_base.proofs.Lists.{all_weaker}
use Rattle.sn_ops.proofs.Steps.{ok_weaker}
use Rattle.sn_detect.specs.declared.look.Look.{Look}
use Rattle.sn_detect.specs.declared.stay.Stay.{Stay}
use Rattle.sn_detect.specs.Finding.{stays_of}
use Rattle.sn_detect.specs.Stays.{AreStays, HeldIn, IsInTime, IsStay, ReportedIn}
use Rattle.sn_detect.proofs.LookLemmas.{stay_in_time, stays_are}
use Rattle.sn_detect.proofs.detect.Detect.stays.Goals as goal

pub returns-clause-exact : goal.returns-clause-exact
returns-clause-exact c =
    let s = c.args.self.now in
    ok_weaker (λ (ss : List Stay). ss ≡ stays_of s.looks) (AreStays (HeldIn s.looks) (ReportedIn s.looks))
    (λ ss is. subst (AreStays (HeldIn s.looks) (ReportedIn s.looks)) (sym is) (stays_are s.looks s.rise))
    c.stays_of.result (subst (λ (ls : List Look). IfOk c.stays_of.result (λ (ss : List Stay). ss ≡ stays_of ls)) c.as_slice.ensures c.stays_of.ensures)

pub returns-clause-in_time : goal.returns-clause-in_time
returns-clause-in_time c = λ mono.
    let s = c.args.self.now in
    ok_weaker (λ (ss : List Stay). ss ≡ stays_of s.looks) (AllByRecursion (IsInTime (length s.refined.path)))
    (λ ss is. subst (AllByRecursion (IsInTime (length s.refined.path))) (sym is)
    (all_weaker (IsStay (HeldIn s.looks) (ReportedIn s.looks)) (IsInTime (length s.refined.path)) (λ t stay. stay_in_time s.looks s.refined.path t s.some (s.time mono) stay) (stays_of s.looks) (stays_are s.looks s.rise).each))
    c.stays_of.result (subst (λ (ls : List Look). IfOk c.stays_of.result (λ (ss : List Stay). ss ≡ stays_of ls)) c.as_slice.ensures c.stays_of.ensures)
