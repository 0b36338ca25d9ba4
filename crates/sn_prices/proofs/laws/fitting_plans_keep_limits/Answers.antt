use Rattle.sn_prices.proofs.Kept.{fits_kept}
use Rattle.sn_prices.proofs.laws.fitting_plans_keep_limits.Goals as goal

pub returns : goal.returns
returns c = λ s p queries entries fits. fits_kept s p queries entries fits
