use Rattle.workload_file.proofs.Facts.{refused_text}
use Rattle.workload_file.proofs.laws.law_causes.Goals as goal

pub returns-clause-refused : goal.returns-clause-refused
returns-clause-refused c = refused_text
