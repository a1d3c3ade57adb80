-- What reading a line goes through: options at their places, and what words add.
use Rattle.std.specs.Prelude.{◌≡◌, ℕ, zero, suc, List, [], ◌∷◌, map, Option, Result, Ok}
use Rattle.workload_file.specs.declared.table.Field.{Field}
use Rattle.workload_file.specs.declared.values.OptionValue.{OptionValue}
use Rattle.workload_file.specs.declared.workload.Statement.{Statement}
use Rattle.workload_file.specs.declared.reading.Reading.{Reading}
use Rattle.workload_file.specs.declared.reading.LineEffect.{LineEffect}
use Rattle.workload_file.specs.declared.faults.Cause.{Cause}
use Rattle.workload_file.specs.declared.faults.Cause.TheVariants as cause
use Rattle.workload_file.specs.declared.faults.Fault.{Fault}
use Rattle.workload_file.specs.Table.{key_text}
use Rattle.workload_file.specs.Options.{key_of, text_of}
use Rattle.workload_file.specs.Changes.{option_value_at}
use Rattle.workload_file.specs.Reading.{◌>>=◌, unless, at_line, with_change}

-- the text of each of these options, where it is given
abbrev pub texts_in : List Field → List (List ℕ) → List (Option (List ℕ))
texts_in fields words = map (λ field. text_of field.key words) fields

-- the option at this place has the key of the word
abbrev pub IsOptionAt : List Field → List ℕ → ℕ → Type 0
IsOptionAt [] word place = ⊥
IsOptionAt (field ∷ fields) word zero = key_text field.key ≡ key_of word
IsOptionAt (field ∷ fields) word (suc place) = IsOptionAt fields word place

-- what options of these texts give
abbrev pub values_of : List Statement → List Field → List (Option (List ℕ)) → List OptionValue
values_of before (field ∷ fields) (text ∷ texts) = option_value_at before field text ∷ values_of before fields texts
values_of before _ _ = []

-- the causes that are looked for when the options of a statement are read
abbrev pub late_causes : List Cause
late_causes = cause.BadValue ∷ cause.OptionMissing ∷ cause.NameTaken ∷ cause.NameUnknown ∷ []

-- the workload so far with what words say, unless they meet a cause
abbrev pub unless_met : Reading → ℕ → Option Cause → Option LineEffect → Result Reading Fault
unless_met r line cause change = at_line line (unless cause change >>= λ c. Ok (with_change r line c))
