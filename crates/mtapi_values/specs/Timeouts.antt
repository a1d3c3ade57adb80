-- How often a call looks.
use Rattle.std.specs.Prelude.{ℕ, ◌+◌, Option, Some, None}
use Rattle.mtapi_values.specs.declared.timeouts.Timeout.{Timeout}
use Rattle.mtapi_values.specs.declared.timeouts.Timeout.TheVariants.{NoWait, Looks, Infinite}

-- the looks that a timeout allows: the first and those after it, or no limit
abbrev pub looks_of : Timeout → Option ℕ
looks_of NoWait = Some 1
looks_of (Looks more) = Some (1 + more)
looks_of Infinite = None
