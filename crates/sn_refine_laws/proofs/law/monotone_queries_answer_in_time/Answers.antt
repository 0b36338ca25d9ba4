use Rattle.sn_refine_laws.proofs.Windows as proved
use Rattle.sn_refine_laws.proofs.law.monotone_queries_answer_in_time.Goals as goal

pub returns : goal.returns
returns c = λ window q w a queries field windows path t lt is_field mono ends widths last long reported.
    proved.reported_in_time window q queries field t lt is_field mono a windows path w last long (ends.finest last long) ends.known widths reported
