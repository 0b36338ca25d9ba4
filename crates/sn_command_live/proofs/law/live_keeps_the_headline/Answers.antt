use Rattle.sn_command_live.proofs.HeadlineLemmas.{headline}
use Rattle.sn_command_live.proofs.ReachLemmas.{reached}
use Rattle.sn_command_live.proofs.law.live_keeps_the_headline.Goals as goal

pub returns-clause-printed : goal.returns-clause-printed
returns-clause-printed c = λ switch queries train capture files ending given nodes outcome keeps is.
    reached given nodes keeps c.certificates_show_least.ensures
    (λ s window qs ws entries typed limited fits. c.costs_are_items_sent.ensures.trained s qs ws entries (c.typed_queries_and_switches_rise.ensures s window qs typed limited) fits)
    outcome is

pub returns-clause-only : goal.returns-clause-only
returns-clause-only c = λ switch queries train capture files ending nodes outcome is end.
    headline c.certificates_show_least.ensures
    (λ s window qs ws entries typed limited fits. c.costs_are_items_sent.ensures.trained s qs ws entries (c.typed_queries_and_switches_rise.ensures s window qs typed limited) fits)
    switch queries train capture files ending nodes outcome is end
