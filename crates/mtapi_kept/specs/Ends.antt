-- How the program tells why there is no answer.
use Rattle.std.specs.Prelude.{◌≡◌, ◌⊎◌, ℕ, List, true, codes, Option}
use Rattle.byte_io.specs.Causes.{WritesText}
use Rattle.journal_reading.specs.Ends.{IsShowTold, shows_line}
use Rattle.journal_reading.specs.declared.ends.RunView.TheVariants.{Trace}
use Rattle.journal_reading.specs.declared.ends.ShowEnd.TheVariants as end
use Rattle.mtapi_kept.specs.declared.ends.NoAnswer.{NoAnswer}
use Rattle.mtapi_kept.specs.declared.ends.NoAnswer.TheVariants.{Usage, Told, Shown}

-- what is said of words that are none of the program's
unfoldable pub kept_usage : List ℕ
kept_usage = codes "usage: verify | check [BYTES] | keep [LOOKS] | bounded LOOKS | waits LOOKS\n"

-- each cause with its status and what is said; the command has said its own, and the others are said as by the programs that show a run
abbrev pub Tells : NoAnswer → ℕ → ℕ → Option (List ℕ) → Option (List ℕ) → ℕ → Type 0
Tells Usage before now old new status = (status ≡ 2) × WritesText before now old new kept_usage
Tells (Told n) before now old new status = (status ≡ n) × (now ≡ before) × (new ≡ old)
Tells (Shown e) before now old new status =
    IsShowTold Trace e before now old new status ⊎ ((shows_line e ≡ true) × IsShowTold Trace end.Memory before now old new status)
