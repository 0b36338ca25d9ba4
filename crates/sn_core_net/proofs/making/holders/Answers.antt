use Rattle.std.proofs.Common.{◌≡◌, ◌++◌, ◌∷◌, [], List, length, map, refl, ap, sym, ◌∙◌, append_assoc, append-nil, arith}
use Rattle.std.specs.Vec.Iter.{into_iter_items}
use Rattle.std.proofs.lemmas.List.{map-append}
use Rattle.sn_emit.specs.declared.sender.Sender.{Sender}
use Rattle.sn_core_net.specs.Holders.{with_ring}
use Rattle.sn_core_net.specs.declared.holder.Holder.{Holder}
use Rattle.sn_core_net.proofs.making.holders.Goals as goal

nothing_left : {X : Type 0} (xs : List X) → length xs ≡ 0 → xs ≡ []
nothing_left [] e = refl
nothing_left (x ∷ xs) e = absurd (omega (arith, e))

pub loop-sender-preserved : goal.loop-sender-preserved
loop-sender-preserved c =
    let at = c.loop-sender in
    let s : Sender = c.in-Some.sender in
    let steps : into_iter_items at.sender-iterator ≡ s ∷ into_iter_items c.next.new.self = c.in-Some.ensures.steps.0 in
    let count = at.invariant.count in
    let gone = c.in-Some.ensures.steps.1 in
    let short = ap length steps in
    record {
      rest = append_assoc at.yielded (s ∷ []) (into_iter_items c.next.new.self) ∙ ap (λ ss. at.yielded ++ ss) (sym steps) ∙ at.invariant.rest;
      count = omega (arith, count, gone, short);
      lanes = c.in_ok-push.ensures.ok ∙ ap (λ (hs : List Holder). hs ++ c.in_ok-holder.holder ∷ []) at.invariant.lanes
          ∙ ap (λ (h : Holder). map (with_ring c.args.room) at.yielded ++ h ∷ []) c.in_ok-holder.ensures
          ∙ sym (map-append (with_ring c.args.room) at.yielded (s ∷ []));
    }

pub returns : goal.returns
returns c =
    let at = c.loop-sender in
    let none = c.in-None.ensures.steps in
    let empty : into_iter_items at.sender-iterator ≡ [] = nothing_left (into_iter_items at.sender-iterator) (sym at.invariant.count ∙ none.0) in
    let all : at.yielded ≡ c.args.senders.items =
    sym (append-nil at.yielded) ∙ ap (λ ss. at.yielded ++ ss) (sym empty) ∙ at.invariant.rest ∙ c.into_iter-sender-iterator.ensures.into_iter_gives.0 in
    c.into_vec.ensures ∙ at.invariant.lanes ∙ ap (map (with_ring c.args.room)) all
