-- Journals as texts: a head line, and a line for each entry, each ended by a line feed.
use Rattle.std.specs.Prelude.{◌≡◌, ℕ, ◌+◌, ◌≤◌, ◌<◌, List, [], ◌∷◌, ◌++◌, length, drop, Option, Some, None, Result, Ok, Err, IfSome}
use Rattle.std.specs.Io.KnownBytes.{IsAtEnd}
use Rattle.mtapi_machine.specs.Legal.{NodeEntry}
use Rattle.node_journals.specs.{Journals.KeptEntries, declared.entries.Journal.Journal}
use Rattle.number_text.specs.Lists.{between}
use Rattle.journal_text.specs.{declared.heads.Head.Head, declared.faults.TextError.TextError, declared.faults.JournalError.JournalError}
use Rattle.journal_text.specs.{Heads.head_text, Heads.head_of, Lines.entry_text, Lines.entry_of_line}

-- ---- written

-- what a journal's head line says
abbrev pub head_for : Journal → Head
head_for j = record { layout = j.layout; settings = j.settings; callers = j.callers }

-- the lines of entries, each with the number beside it
abbrev pub entry_lines : Head → List NodeEntry → List ℕ → List (List ℕ)
entry_lines head [] ns = []
entry_lines head (e ∷ es) [] = []
entry_lines head (e ∷ es) (n ∷ ns) = entry_text head e n ∷ entry_lines head es ns

-- lines, each ended by a line feed
abbrev pub lines_text : List (List ℕ) → List ℕ
lines_text [] = []
lines_text (line ∷ lines) = line ++ 10 ∷ lines_text lines

-- the text of a journal
unfoldable pub journal_text : Journal → List ℕ
journal_text j = lines_text (head_text (head_for j) ∷ entry_lines (head_for j) j.entries.entries j.entries.skipped)

-- ---- read

-- goes on with what was read
infixl 10 ◌>>=◌
abbrev pub ◌>>=◌ : {A B : Type 0} → Result A TextError → (A → Result B TextError) → Result B TextError
(Ok x) >>= f = f x
(Err e) >>= f = Err e

-- what a line is, and else that it is outside the grammar
abbrev pub in_line : {A : Type 0} → ℕ → Option A → Result A TextError
in_line line None = Err (TextError.BadLine line)
in_line line (Some x) = Ok x

-- a further entry, and its number
abbrev pub with_kept : KeptEntries → NodeEntry × ℕ → KeptEntries
with_kept kept x = record { entries = kept.entries ++ x.0 ∷ []; skipped = kept.skipped ++ x.1 ∷ [] }

-- the entries with that of a line
unfoldable pub line_adds_entry : Head → ℕ → KeptEntries → List ℕ → Result KeptEntries TextError
line_adds_entry head line kept text = do
  x ← in_line line (entry_of_line head text)
  Ok (with_kept kept x)

-- nothing stands behind the last line feed
abbrev pub at_end : {A : Type 0} → A → List ℕ → Result A TextError
at_end x [] = Ok x
at_end x (b ∷ bs) = Err TextError.PartialEnd

-- the entries with those of lines, from this line on; behind the last line feed stands nothing
unfoldable pub entries_from : Head → ℕ → KeptEntries → List (List ℕ) → Result KeptEntries TextError
entries_from head line kept [] = Ok kept
entries_from head line kept (last ∷ []) = at_end kept last
entries_from head line kept (text ∷ next ∷ texts) = do
  more ← line_adds_entry head line kept text
  entries_from head (line + 1) more (next ∷ texts)

abbrev pub no_entries : KeptEntries
no_entries = record { entries = []; skipped = [] }

-- a text without a line feed is no journal
abbrev pub no_line : List ℕ → Result Journal TextError
no_line [] = Err (TextError.BadLine 1)
no_line (b ∷ bs) = Err TextError.PartialEnd

-- the journal of lines
unfoldable pub journal_from : List (List ℕ) → Result Journal TextError
journal_from [] = Err (TextError.BadLine 1)
journal_from (text ∷ []) = no_line text
journal_from (text ∷ next ∷ texts) = do
  head ← in_line 1 (head_of text)
  kept ← entries_from head 2 no_entries (next ∷ texts)
  Ok (record { layout = head.layout; settings = head.settings; callers = head.callers; entries = kept })

-- the journal that a text is, or why it is none: the first line outside the grammar, and else that the last one has no line feed
unfoldable pub journal_of : List ℕ → Result Journal TextError
journal_of text = journal_from (between 10 text)

-- ---- answers

-- what stands for a failure, where it isn't when out of memory
abbrev pub FailsAs : {A : Type 0} → TextError → Result A TextError → Type 0
FailsAs TextError.Memory read = Unit {0}
FailsAs e read = read ≡ Err e

-- what was returned is what the text gives, unless memory ran out
abbrev pub ReadsAs : {A : Type 0} → Result A TextError → Result A TextError → Type 0
ReadsAs (Ok x) read = read ≡ Ok x
ReadsAs (Err e) read = FailsAs e read

-- For the bytes of a source, and those left behind: the journal that they are, or why they are none.
-- The source is read to its end, or to one byte past the limit.
abbrev pub LoadsJournal : List ℕ → Option (List ℕ) → Result Journal JournalError → Type 0
LoadsJournal bytes left (Ok j) = (length bytes ≤ 67108864) × (journal_of bytes ≡ Ok j) × IsAtEnd left
LoadsJournal bytes left (Err (JournalError.BadLine line)) = (length bytes ≤ 67108864) × (journal_of bytes ≡ Err (TextError.BadLine line)) × IsAtEnd left
LoadsJournal bytes left (Err JournalError.PartialEnd) = (length bytes ≤ 67108864) × (journal_of bytes ≡ Err TextError.PartialEnd) × IsAtEnd left
LoadsJournal bytes left (Err JournalError.TooLong) = (67108864 < length bytes) × IfSome left (λ rest. rest ≡ drop 67108865 bytes)
LoadsJournal bytes left (Err JournalError.Memory) = Unit {0}
LoadsJournal bytes left (Err JournalError.Read) = Unit {0}

-- the source counted no fault, and gave at most one byte past the limit, where it tells its bytes
pub record ReadsJournalClean (before now : ℕ) (old new : Option (List ℕ)) : Type 0 where
  pub faults : now ≡ before
  pub taken : IfSome old (λ bytes. IfSome new (λ rest. rest ≡ drop 67108865 bytes))

-- this holds with each answer but a failed read and `out of memory`
abbrev pub HoldsButFaults : Type 0 → Result Journal JournalError → Type 0
HoldsButFaults P (Ok j) = P
HoldsButFaults P (Err (JournalError.BadLine line)) = P
HoldsButFaults P (Err JournalError.PartialEnd) = P
HoldsButFaults P (Err JournalError.TooLong) = P
HoldsButFaults P (Err JournalError.Memory) = Unit {0}
HoldsButFaults P (Err JournalError.Read) = Unit {0}
