use Rattle.std.proofs.Common.{refl}
unfoldable use Rattle.std.specs.Fmt.{digits}
unfoldable use Rattle.workload_file.specs.Causes.{cause_text}
unfoldable use Rattle.mtapi_top.specs.Command.{message}
use Rattle.mtapi_top.proofs.worked.worked_ends.Goals as goal

pub returns : goal.returns
unfolding digits cause_text message
returns c = λ j. record { statuses = refl; messages = refl; lines = refl; kept = refl; spent = refl }
