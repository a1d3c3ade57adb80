-- Which ops statements ask for.
use Rattle.mtapi_machine.specs.declared.ops.Op.{Op}
use Rattle.mtapi_machine.specs.declared.ops.Op.TheVariants as ops

-- an op that some statement asks for: all but those of the phases other than `release`, and those of workers
abbrev pub IsStated : Op → Type 0
IsStated ops.Initialize = ⊥
IsStated ops.Enter = ⊥
IsStated ops.Close = ⊥
IsStated ops.Final = ⊥
IsStated ops.Pick = ⊥
IsStated (ops.Finish t done) = ⊥
IsStated (ops.Asked t) = ⊥
IsStated (ops.WatchEnd t) = ⊥
IsStated (ops.TallyLock t) = ⊥
IsStated (ops.TallyRead t) = ⊥
IsStated (ops.TallyWrite t value) = ⊥
IsStated (ops.TallyEnd t) = ⊥
IsStated _ = Unit {0}
