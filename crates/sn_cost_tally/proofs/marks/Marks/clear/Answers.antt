use Rattle.std.proofs.Common.{ℕ, ◌+◌, ◌/◌, ◌++◌, drop, replicate, get_or, ap, ◌∙◌, arith}
use Rattle.sn_cost_tally.specs.declared.marks.Marks.TheInside.{Inside}
use Rattle.sn_cost_tally.proofs.Bits.{front_erased, none_set, zero_there}
use Rattle.sn_cost_tally.proofs.marks.Marks.clear.Goals as goal
use Rattle.sn_cost_tally.proofs.marks.Marks.clear.Goals.{then-words-len, else-words-len+in_ok-self-inside}

pub returns : goal.returns
returns c =
    let words : ℕ = c.args.count / 64 + 1 in
    none_set c.args.count words c.if-words-len.self-inside.words.items (omega arith)
    (elim c.if-words-len.branch [
      | then-words-len w ↦ (λ i lt.
          let old = c.self.inside.words in
          ap (λ (m : Inside). get_or m.words.items i 0) w.self-inside-is
          ∙ front_erased words old.len i old.items w.erase.new.words (omega (arith, w.if-words-len.true, c.len.ensures, old.ok.0)) old.ok.0 (w.erase.ensures ∙ ap (λ ws. replicate words 0 ++ drop words ws) w.as_mut_slice.ensures.value) lt)
      | else-words-len+in_ok-self-inside w ↦ (λ i lt. ap (λ (m : Inside). get_or m.words.items i 0) w.self-inside-is ∙ ap (λ ws. get_or ws i 0) (w.in_ok-self-inside.ensures.items_if_clones_equal (λ y e. e)) ∙ zero_there words i)
    ])
