-- The short form in which the report keeps the end of a task.
use Rattle.std.specs.Prelude.{[], ◌∷◌}
use Rattle.run_report.specs.Names.{TaskEnd, Completed, Cancelled, Failed}
use Rattle.run_report.specs.declared.short_ends.Short.{Short}
use Rattle.run_report.specs.declared.short_ends.Short.TheVariants as short

-- the end that a short form stands for
abbrev pub end_in_full : Short → TaskEnd
end_in_full (short.Number z) = Completed (z ∷ [])
end_in_full short.Cancelled = Cancelled
end_in_full (short.Failed status) = Failed status
end_in_full (short.Full end) = end.value
