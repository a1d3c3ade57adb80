-- Lines that say the same.
use Rattle.std.specs.Prelude.{◌≡◌, ℕ, ◌≤◌, ◌==◌, List, [], ◌∷◌, ◌++◌, length, map, Bool, true, false, Some, Ok}
use Rattle.std.specs.List.{find, list_any, list_all}
use Rattle.std.specs.Str.{bytes_eq}
use Rattle.number_text.specs.Lists.{between}
use Rattle.workload_file.specs.declared.table.Word.{Word}
use Rattle.workload_file.specs.declared.table.Field.{Field}
use Rattle.workload_file.specs.declared.reading.Reading.{Reading}
use Rattle.workload_file.specs.declared.workload.Statement.{Statement}
use Rattle.workload_file.specs.declared.workload.Part.{Part}
use Rattle.workload_file.specs.declared.workload.Workload.{Workload}
use Rattle.workload_file.specs.declared.values.OptionValue.{OptionValue}
use Rattle.workload_file.specs.Cuts.{words_of}
use Rattle.workload_file.specs.Table.{word_of, key_text, fields}
use Rattle.workload_file.specs.Options.{gives_option}
use Rattle.workload_file.specs.Changes.{value_given, value_absent}
use Rattle.workload_file.specs.Faulty.{is_printable}
use Rattle.workload_file.specs.Reading.{line_adds, workload_of}

-- a line of at most 512 printable bytes
pub record IsPlain (text : List ℕ) : Type 0 where
  pub short : length text ≤ 512
  pub printable : list_all is_printable text ≡ true

-- a word with =
abbrev pub has_equals : List ℕ → Bool
has_equals word = list_any (λ b. b == 61) word

-- the words of the other line are the same but for two neighbours behind the first word, the first of which is an option, as it has =
pub record IsSwapped (text other : List ℕ) : Type 0 where
  pub first : List ℕ
  pub front : List (List ℕ)
  pub one : List ℕ
  pub two : List ℕ
  pub back : List (List ℕ)
  pub words : words_of text ≡ first ∷ (front ++ one ∷ (two ∷ back))
  pub others : words_of other ≡ first ∷ (front ++ two ∷ (one ∷ back))
  pub option : has_equals one ≡ true

-- the other line has one word more, the last one, which writes out what an absent option of the statement gives
pub record IsWrittenOut (text other : List ℕ) : Type 0 where
  pub word : Word
  pub field : Field
  pub first : List ℕ
  pub rest : List (List ℕ)
  pub value : List ℕ
  pub given : OptionValue
  pub words : words_of text ≡ first ∷ rest
  pub others : words_of other ≡ first ∷ (rest ++ (key_text field.key ++ 61 ∷ value) ∷ [])
  pub statement : word_of first ≡ Some word
  pub option : find (λ f. bytes_eq (key_text f.key) (key_text field.key)) (fields word) ≡ Some field
  pub absent : gives_option field.key rest ≡ false
  pub usual : value_absent field.absent field.shape ≡ given
  pub reads : (before : List Statement) → value_given before field.shape value ≡ given

-- what the one line adds, the other one adds too
abbrev pub AddsAlike : List ℕ → List ℕ → Type 0
AddsAlike text other = (r : Reading) (line : ℕ) (s : Reading) → line_adds r line text ≡ Ok s → line_adds r line other ≡ Ok s

-- two texts whose lines are the same but for one
pub record DifferAt (bytes others text other : List ℕ) : Type 0 where
  pub before : List (List ℕ)
  pub after : List (List ℕ)
  pub lines : between 10 bytes ≡ before ++ text ∷ after
  pub other_lines : between 10 others ≡ before ++ other ∷ after

-- a line that adds nothing, wherever it stands
abbrev pub AddsNothing : List ℕ → Type 0
AddsNothing text = (r : Reading) (line : ℕ) → line_adds r line text ≡ Ok r

-- the other text has one line more
pub record IsInserted (bytes others text : List ℕ) : Type 0 where
  pub before : List (List ℕ)
  pub after : List (List ℕ)
  pub lines : between 10 bytes ≡ before ++ after
  pub other_lines : between 10 others ≡ before ++ text ∷ after

-- without the numbers of the lines
abbrev pub still : Statement → Statement
still s = record s { line = 0 }

abbrev pub still_part : Part → Part
still_part p = record { line = 0; name = p.name; statements = map still p.statements }

-- two workloads that are the same but for the numbers of their lines
pub record AreStill (load other : Workload) : Type 0 where
  pub settings : load.settings ≡ other.settings
  pub parts : map still_part load.parts ≡ map still_part other.parts

-- the text gives a workload that is the same but for the numbers of its lines
pub record GivesStill (bytes : List ℕ) (load : Workload) : Type 0 where
  pub given : Workload
  pub gives : workload_of bytes ≡ Ok given
  pub same : AreStill load given
