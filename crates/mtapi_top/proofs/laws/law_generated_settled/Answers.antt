use Rattle.mtapi_top.proofs.GeneratedSettled.{generated_settled}
use Rattle.mtapi_top.proofs.laws.law_generated_settled.Goals as goal

pub returns : goal.returns
returns c = generated_settled
