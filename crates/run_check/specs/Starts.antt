-- Lines with any number beside them.
use Rattle.std.specs.Prelude.{◌≡◌}
use Rattle.mtapi_machine.specs.declared.ops.Op.TheVariants as ops
use Rattle.mtapi_machine.specs.declared.replies.Reply.TheVariants as replies
use Rattle.workload_runs.specs.Lines.{Line}

-- a further caller enters
abbrev pub EntersLine : Line → Type 0
EntersLine l = (l.op ≡ ops.Enter) × (l.reply ≡ replies.Ok)

-- a worker is told to stop
abbrev pub Stops : Line → Type 0
Stops l = (l.op ≡ ops.Pick) × (l.reply ≡ replies.Stop)
