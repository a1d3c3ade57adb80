use Rattle.mtapi_machine.proofs.Lists.{Legal-prefix}
use Rattle.mtapi_machine.proofs.laws.law_prefix.Goals as goal

pub returns : goal.returns
returns c terms L M h = Legal-prefix terms L M h
