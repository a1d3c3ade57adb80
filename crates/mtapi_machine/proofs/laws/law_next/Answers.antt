use Rattle.mtapi_machine.proofs.Lists.{Legal-append, Legal-one, after-one}
use Rattle.mtapi_machine.proofs.laws.law_next.Goals as goal

pub returns : goal.returns
returns c terms L e h n = record {
  legal = record { fits = h.fits; from = Legal-append _ L _ h.from (Legal-one _ e n) };
  leads = after-one _ L e;
}
