use Rattle.run_report.proofs.RunReplies.{reads_the_run}
use Rattle.run_report.proofs.laws.law_report_reads_the_run.Goals as goal

pub returns : goal.returns
returns c = reads_the_run
