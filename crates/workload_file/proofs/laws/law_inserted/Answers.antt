use Rattle.workload_file.proofs.Alike.{text_inserted}
use Rattle.workload_file.proofs.laws.law_inserted.Goals as goal

pub returns : goal.returns
returns c = text_inserted
