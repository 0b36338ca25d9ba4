use Rattle.std.proofs.Common.{map, replicate, ap, ◌∙◌, sym}
use Rattle.sn_cost_tally.specs.Largest.{largest_slots}
use Rattle.sn_cost_tally.specs.Renumbered.{placed}
use Rattle.sn_cost_tally.proofs.Renumbering.{none_renumbered}
use Rattle.sn_cost_tally.proofs.renumbered.Renumbered.new.Goals as goal

pub returns-clause-so_far : goal.returns-clause-so_far
returns-clause-so_far g c =
    let all = c.args.all.now.keys in
    record {
      each = c.in_ok-places.ensures.items_if_clones_equal (λ y e. e) ∙ ap (λ n. replicate n 0) c.len.ensures ∙ none_renumbered all ∙ ap (λ ks. map (placed ks) all) (sym c.new.ensures);
      known = c.new-2.ensures.items ∙ ap (map largest_slots) (sym c.new.ensures);
    }
