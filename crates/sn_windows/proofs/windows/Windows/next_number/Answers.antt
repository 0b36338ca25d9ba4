use Rattle.std.proofs.Common.{◌≡◌, ◌↔◌, ◌≤◌, ℕ, IfOk, IsErr, sym, subst}
use Rattle.sn_windows.proofs.EndLemmas.{before_end}
use Rattle.sn_windows.proofs.windows.Windows.next_number.Goals as goal

pub returns-then-time-self-clause-number : goal.returns-then-time-self-clause-number
returns-then-time-self-clause-number c =
    let s = c.args.self.now in
    let same = before_end s.window_ns s.number s.count s.end c.args.time s.first s.some s.unbegun s.at_hand c.if-time-self.true in
    subst (λ (k : ℕ). IfOk c.count_one.result (λ n. n ≡ k)) (sym same.number) c.count_one.ensures.number

pub returns-then-time-self-clause-too_many : goal.returns-then-time-self-clause-too_many
returns-then-time-self-clause-too_many c =
    let s = c.args.self.now in
    let same = before_end s.window_ns s.number s.count s.end c.args.time s.first s.some s.unbegun s.at_hand c.if-time-self.true in
    subst (λ (k : ℕ). IsErr c.count_one.result ↔ (4194304 ≤ k)) (sym same.count) c.count_one.ensures.too_many
