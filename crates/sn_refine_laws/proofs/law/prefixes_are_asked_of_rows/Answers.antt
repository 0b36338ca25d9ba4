use Rattle.sn_refine_laws.proofs.Prefixes as proved
use Rattle.sn_refine_laws.proofs.law.prefixes_are_asked_of_rows.Goals as goal

pub returns : goal.returns
returns c = λ window q level bits queries field keep tuples t lt is_field among le. proved.queries_filtered window q level bits queries field keep tuples t lt is_field among le
