-- Why there is no journal of a run.
use Rattle.std.specs.Prelude.{◌≡◌, ℕ, ◌≤◌, ◌^◌}
use Rattle.run_beside.specs.Pairs.{HasRisen}
use Rattle.workload_runners.specs.declared.run.NoRun.{NoRun}
use Rattle.workload_runners.specs.declared.run.NoRun.TheVariants as reason

-- where a run was refused, the count of refused threads rose, and with another reason it is as before; `Spent` shows a ticket word of at
-- least 2^62
abbrev pub HasReason : ℕ → ℕ → NoRun → Type 0
HasReason before after reason.Refused = HasRisen before after
HasReason before after (reason.Spent s) = (2 ^ 62 ≤ s) × (after ≡ before)
HasReason before after reason.Memory = after ≡ before
