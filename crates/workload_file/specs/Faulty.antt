-- Why a line is refused: the causes, each by itself, and the first of them that a line meets.
use Rattle.std.specs.Prelude.{ℕ, List, [], ◌∷◌, ◌==◌, ◌&&◌, ◌||◌, not, nat_le, nat_lt, length, drop, slice_index, Bool, false, Option, Some, None, is_some, if◌then◌else◌}
use Rattle.std.specs.List.{list_any, list_all, find}
use Rattle.workload_file.specs.declared.table.Word.{Word}
use Rattle.workload_file.specs.declared.reading.Reading.{Reading}
use Rattle.workload_file.specs.declared.faults.Cause.{Cause}
use Rattle.workload_file.specs.declared.faults.Cause.TheVariants as cause
use Rattle.workload_file.specs.Values.{is_name}
use Rattle.workload_file.specs.Cuts.{words_of}
use Rattle.workload_file.specs.Table.{word_of, naming, fields}
use Rattle.workload_file.specs.Options.{is_known, has_twice}
use Rattle.workload_file.specs.Names.{has_second, name_in, options_in, is_taken, use_in, is_unbound, is_misplaced, is_ninth_caller}
use Rattle.workload_file.specs.Changes.{values_in, is_bad, is_missing, names_nothing}

-- a byte 0x20 to 0x7E
abbrev pub is_printable : ℕ → Bool
is_printable b = nat_le 32 b && nat_le b 126

-- a comment: the first word begins with #
abbrev pub is_comment : List ℕ → Bool
is_comment first = slice_index first 0 == 35

-- the words are a statement: there are some, and the first is no comment
abbrev pub is_statement : List (List ℕ) → Bool
is_statement [] = false
is_statement (first ∷ rest) = not (is_comment first)

-- the word of the statement that these words are, where they name one
abbrev pub statement_word : List (List ℕ) → Option Word
statement_word [] = None
statement_word (first ∷ rest) = if is_comment first then None else word_of first

-- what is wrong with a statement of this word, with this name and these options
unfoldable pub is_faulty : Reading → Word → List ℕ → List (List ℕ) → Cause → Bool
is_faulty r w name options cause.TooManyStatements = nat_le 20000 r.count
is_faulty r w name options cause.TooManyCallers = is_ninth_caller r w
is_faulty r w name options cause.Misplaced = is_misplaced r w
is_faulty r w name options cause.BadName = has_second (naming w) && not (is_name name)
is_faulty r w name options cause.UnknownOption = not (list_all (is_known (fields w)) options)
is_faulty r w name options cause.OptionTwice = has_twice options
is_faulty r w name options cause.BadValue = list_any is_bad (values_in r.current.statements options (fields w))
is_faulty r w name options cause.OptionMissing = list_any is_missing (values_in r.current.statements options (fields w))
is_faulty r w name options cause.NameTaken = is_taken r (naming w) name
is_faulty r w name options cause.NameUnknown =
    is_unbound (naming w) (use_in r.current.statements (naming w) name) || list_any names_nothing (values_in r.current.statements options (fields w))
is_faulty r w name options _ = false

-- the same of words that may be no statement
abbrev pub is_faulty_of : Reading → Option Word → List (List ℕ) → Cause → Bool
is_faulty_of r None words c = false
is_faulty_of r (Some w) words c = is_faulty r w (name_in (naming w) (drop 1 words)) (options_in (naming w) (drop 1 words)) c

-- the words have this fault, behind what was read before them
abbrev pub words_meet : Reading → List (List ℕ) → Cause → Bool
words_meet r words cause.UnknownWord = is_statement words && not (is_some (statement_word words))
words_meet r words c = is_faulty_of r (statement_word words) words c

-- the line has this fault, behind what was read before it
abbrev pub meets : Reading → List ℕ → Cause → Bool
meets r text cause.LineTooLong = nat_lt 512 (length text)
meets r text cause.BadByte = not (list_all is_printable text)
meets r text c = words_meet r (words_of text) c

-- the causes of a statement, those of words, and all, in their order
abbrev pub statement_causes : List Cause
statement_causes = cause.TooManyStatements ∷ cause.TooManyCallers ∷ cause.Misplaced ∷ cause.BadName ∷ cause.UnknownOption ∷ cause.OptionTwice ∷ cause.BadValue
    ∷ cause.OptionMissing ∷ cause.NameTaken ∷ cause.NameUnknown ∷ []

abbrev pub word_causes : List Cause
word_causes = cause.UnknownWord ∷ statement_causes

abbrev pub causes : List Cause
causes = cause.LineTooLong ∷ cause.BadByte ∷ word_causes

-- the first of them that a line meets
abbrev pub first_met : Reading → List ℕ → Option Cause
first_met r text = find (meets r text) causes
