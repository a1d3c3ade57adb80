-- What a user is told of a faulty line.
use Rattle.std.specs.Prelude.{ℕ, List, codes}
use Rattle.workload_file.specs.declared.faults.Cause.{Cause}
use Rattle.workload_file.specs.declared.faults.Cause.TheVariants as cause

-- the text of a cause
unfoldable pub cause_text : Cause → List ℕ
cause_text cause.LineTooLong = codes "line too long"
cause_text cause.BadByte = codes "bad byte"
cause_text cause.UnknownWord = codes "unknown word"
cause_text cause.TooManyStatements = codes "too many statements"
cause_text cause.TooManyCallers = codes "too many callers"
cause_text cause.Misplaced = codes "misplaced"
cause_text cause.BadName = codes "bad name"
cause_text cause.UnknownOption = codes "unknown option"
cause_text cause.OptionTwice = codes "option twice"
cause_text cause.BadValue = codes "bad value"
cause_text cause.OptionMissing = codes "option missing"
cause_text cause.NameTaken = codes "name taken"
cause_text cause.NameUnknown = codes "name unknown"
