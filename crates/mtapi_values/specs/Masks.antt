-- Sets of cores.
use Rattle.std.specs.Prelude.{◌≡◌, ℕ, ◌<◌, Bool, ◌==◌, if◌then◌else◌}
use Rattle.std.specs.Int.{bit_at}

-- the core is in the mask
abbrev pub in_mask : ℕ → ℕ → Bool
in_mask core mask = bit_at mask core == 1

-- the second mask has this core exactly where it is on, and each other core as the first has it
abbrev pub SetsCore : ℕ → Bool → ℕ → ℕ → Type 0
SetsCore core on old new = (other : ℕ) → other < 64 → in_mask other new ≡ (if other == core then on else in_mask other old)
