use Rattle.std.proofs.Common.{refl}
unfoldable use Rattle.std.specs.Fmt.{digits}
unfoldable use Rattle.workload_file.specs.Causes.{cause_text}
unfoldable use Rattle.journal_reading.specs.Ends.{usage, show_message}
use Rattle.journal_reading.proofs.worked.worked_ends.Goals as goal

pub returns : goal.returns
unfolding digits cause_text usage show_message
returns c = record { statuses = refl; picture = refl; trace = refl; lines = refl; writing = refl }
