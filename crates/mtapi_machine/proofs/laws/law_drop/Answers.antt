use Rattle.mtapi_machine.proofs.Drops.{Kept-legal, after-kept}
use Rattle.mtapi_machine.proofs.laws.law_drop.Goals as goal

pub returns : goal.returns
returns c terms L h = record {
  legal = record { fits = h.fits; from = Kept-legal _ L h.from };
  leads = after-kept _ L h.from;
}
