-- Whether a list of entries is legal.
use Rattle.std.specs.Prelude.{ℕ, List, Option, Some, None}
use Rattle.mtapi_machine.specs.declared.terms.Terms.{Terms}
use Rattle.mtapi_machine.specs.Legal.{NodeEntry, Legal}
use Rattle.journal_check.specs.Verdicts.{IsFirstIllegal}

-- it is, or this is the first entry that isn't
abbrev pub IsLegalOr : Terms → List NodeEntry → Option ℕ → Type 0
IsLegalOr terms L None = Legal terms L
IsLegalOr terms L (Some n) = IsFirstIllegal terms L n
