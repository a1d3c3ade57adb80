-- The canonical text of a workload.
use Rattle.std.specs.Prelude.{ℕ, ◌-◌, ◌^◌, ◌==◌, List, [], ◌∷◌, ◌++◌, replicate, codes, Bool, true, false, not, Option, Some, None, slice_get, if◌then◌else◌}
use Rattle.std.specs.List.{join_with_byte, flat_map}
use Rattle.std.specs.Fmt.{decimal, signed_decimal}
use Rattle.mtapi_values.specs.declared.timeouts.Timeout.{Timeout}
use Rattle.mtapi_values.specs.declared.timeouts.Timeout.TheVariants as timeout
use Rattle.mtapi_values.specs.Attributes.{NodeSettings}
use Rattle.mtapi_values.specs.Kinds.{kind_word}
use Rattle.number_text.specs.Lists.{list_text}
use Rattle.number_text.specs.Cores.{cores_text}
use Rattle.workload_file.specs.declared.table.Word.TheVariants as word
use Rattle.workload_file.specs.declared.table.Field.{Field}
use Rattle.workload_file.specs.declared.table.Absent.{Absent}
use Rattle.workload_file.specs.declared.table.Absent.TheVariants as absent
use Rattle.workload_file.specs.declared.values.OptionValue.{OptionValue}
use Rattle.workload_file.specs.declared.values.OptionValue.TheVariants as given
use Rattle.workload_file.specs.declared.workload.Statement.{Statement}
use Rattle.workload_file.specs.declared.workload.Part.{Part}
use Rattle.workload_file.specs.declared.workload.Workload.{Workload}
use Rattle.workload_file.specs.Table.{word_text, key_text, fields}
use Rattle.workload_file.specs.Deeds.{word_for, used_place, values, setting_values}
use Rattle.workload_file.specs.Reading.{name_text}

-- ---- values as texts

unfoldable pub timeout_text : Timeout → List ℕ
timeout_text timeout.NoWait = codes "nowait"
timeout_text timeout.Infinite = codes "inf"
timeout_text (timeout.Looks looks) = decimal looks

-- the name that a statement binds
abbrev pub name_of : Option Statement → List ℕ
name_of None = []
name_of (Some s) = name_text s.name

-- the name that the statement at a place binds
abbrev pub name_at : List Statement → Option ℕ → List ℕ
name_at before None = []
name_at before (Some place) = name_of (slice_get before place)

-- a value as a text; a place is the name that was bound there
unfoldable pub value_text : List Statement → OptionValue → List ℕ
value_text before (given.Number n) = decimal n
value_text before (given.Whole z) = signed_decimal z
value_text before (given.Args zs) = list_text zs
value_text before (given.Cores mask) = cores_text mask.0
value_text before (given.Kind kind) = kind_word kind
value_text before (given.Flag b) = if b then codes "yes" else codes "no"
value_text before (given.Mode b) = if b then codes "writer" else codes "reader"
value_text before (given.Timeout t) = timeout_text t
value_text before (given.Place place) = name_at before place
value_text before _ = []

-- ---- options

-- the usual value of its shape: no numbers, all cores, no, no name
abbrev pub is_usual : OptionValue → Bool
is_usual (given.Args []) = true
is_usual (given.Args (z ∷ zs)) = false
is_usual (given.Cores mask) = mask.0 == 2 ^ 64 - 1
is_usual (given.Flag b) = not b
is_usual (given.Place None) = true
is_usual (given.Place (Some place)) = false
is_usual _ = false

abbrev pub is_number : ℕ → OptionValue → Bool
is_number n (given.Number m) = m == n
is_number n _ = false

-- the value that the absent option gives
unfoldable pub is_default : Absent → OptionValue → Bool
is_default absent.Refused value = false
is_default absent.Usual value = is_usual value
is_default (absent.Number n) value = is_number n value

-- an option as `key=value`, left out where it has its default
abbrev pub option_words : List Statement → Field → OptionValue → List (List ℕ)
option_words before field value = if is_default field.absent value then [] else (key_text field.key ++ 61 ∷ value_text before value) ∷ []

-- the options in the order of the table
unfoldable pub options_words : List Statement → List Field → List OptionValue → List (List ℕ)
options_words before (field ∷ fields) (value ∷ values) = option_words before field value ++ options_words before fields values
options_words before [] values = []
options_words before (field ∷ fields) [] = []

-- ---- lines

-- the name that a statement binds, or the one that it uses
abbrev pub bound_words : Option (List ℕ) → List (List ℕ)
bound_words None = []
bound_words (Some name) = name ∷ []

abbrev pub used_words : List Statement → Option ℕ → List (List ℕ)
used_words before None = []
used_words before (Some place) = name_at before (Some place) ∷ []

-- words joined by one space
abbrev pub line_text : List (List ℕ) → List ℕ
line_text words = join_with_byte 32 words

-- a statement behind those before it in its part
abbrev pub statement_text : List Statement → Statement → List ℕ
statement_text before s = line_text (word_text (word_for s.deed)
    ∷ (bound_words s.name ++ (used_words before (used_place s.deed) ++ options_words before (fields (word_for s.deed)) (values s.deed))))

abbrev pub node_text : NodeSettings → List ℕ
node_text settings = line_text (word_text word.Node ∷ options_words [] (fields word.Node) (setting_values settings))

abbrev pub caller_text : List ℕ → List ℕ
caller_text name = line_text (word_text word.Caller ∷ name ∷ [])

-- a text with the number of its line
abbrev pub TextLine : Type 0
TextLine = ℕ × List ℕ

-- the line of these statements, behind those before them
unfoldable pub statement_lines_behind : List Statement → List Statement → List TextLine
statement_lines_behind before [] = []
statement_lines_behind before (s ∷ rest) = (s.line, statement_text before s) ∷ statement_lines_behind (before ++ s ∷ []) rest

-- a line, where its number isn't 0
abbrev pub if_any : ℕ → List ℕ → List TextLine
if_any line text = if line == 0 then [] else (line, text) ∷ []

abbrev pub lines_of_part : Part → List TextLine
lines_of_part p = if_any p.line (caller_text p.name) ++ statement_lines_behind [] p.statements

abbrev pub workload_lines : Workload → List TextLine
workload_lines load = if_any load.node_line (node_text load.settings) ++ flat_map lines_of_part load.parts

-- ---- the text

-- from a line on: line feeds up to the next line that has a text, and that text
unfoldable pub laid_out : ℕ → List TextLine → List ℕ
laid_out at [] = []
laid_out at (line ∷ lines) = replicate (line.0 - at) 10 ++ (line.1 ++ laid_out line.0 lines)

-- the canonical text: each statement on its own line number, the other lines empty, no line feed behind the last
abbrev pub canonical : Workload → List ℕ
canonical load = laid_out 1 (workload_lines load)
