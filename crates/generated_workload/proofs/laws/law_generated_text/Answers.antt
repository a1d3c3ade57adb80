use Rattle.generated_workload.proofs.Read.{text_short}
use Rattle.generated_workload.proofs.laws.law_generated_text.Goals as goal

pub returns-clause-short : goal.returns-clause-short
returns-clause-short c = text_short
