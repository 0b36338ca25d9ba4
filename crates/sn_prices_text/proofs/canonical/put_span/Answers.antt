use Rattle.std.proofs.lemmas.Result.{on_ok_weaker}
use Rattle.sn_prices_text.proofs.Lines.{span_put}
use Rattle.sn_prices_text.proofs.canonical.put_span.Goals as goal

pub returns : goal.returns
returns c =
    on_ok_weaker c.put_number-2.result (λ h. span_put _ _ _ _ _ _ _ h c.in_ok-put_number.ensures c.from.ensures c.from-2.ensures) c.put_number-2.ensures
