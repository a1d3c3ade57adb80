use Rattle.mtapi_machine.proofs.Drops.{Kept-legal, after-kept}
use Rattle.history_law.proofs.law_drop.Goals as goal

pub returns : goal.returns
returns c = record {
  legal = record { fits = c.requires.fits; from = Kept-legal _ _ c.requires.from };
  leads = after-kept _ _ c.requires.from;
}
