-- What a text says, or its first fault.
use Rattle.std.specs.Prelude.{◌≡◌, ℕ, ◌+◌, List, [], ◌∷◌, ◌++◌, length, drop, codes, Option, Some, None, Result, Ok, Err}
use Rattle.std.specs.Option.{option_map}
use Rattle.workload_file.specs.declared.workload.Workload.{Workload}
use Rattle.workload_file.specs.declared.reading.Reading.{Reading}
use Rattle.workload_file.specs.declared.reading.LineEffect.{LineEffect}
use Rattle.workload_file.specs.declared.reading.LineEffect.TheVariants as change
use Rattle.workload_file.specs.declared.faults.Cause.{Cause}
use Rattle.workload_file.specs.declared.faults.Fault.{Fault}
use Rattle.workload_file.specs.declared.faults.LineError.{LineError}
use Rattle.workload_file.specs.declared.faults.LineError.TheVariants as errors
use Rattle.workload_file.specs.Cuts.{words_of}
use Rattle.number_text.specs.Lists.{between}
use Rattle.workload_file.specs.Table.{naming}
use Rattle.workload_file.specs.Names.{name_in, options_in}
use Rattle.workload_file.specs.Changes.{usual_settings, change_of}
use Rattle.workload_file.specs.Faulty.{statement_word, first_met}

-- goes on with the value, or keeps the cause
infixl 10 ◌>>=◌
abbrev pub ◌>>=◌ : {A B E : Type 0} → Result A E → (A → Result B E) → Result B E
(Ok x) >>= f = f x
(Err e) >>= f = Err e

-- the value, unless there is a cause
abbrev pub unless : {A : Type 0} → Option Cause → A → Result A Cause
unless None x = Ok x
unless (Some cause) x = Err cause

-- a name that may be absent, as a text
abbrev pub name_text : Option (List ℕ) → List ℕ
name_text None = []
name_text (Some name) = name

-- what words without a fault say: nothing where they are no statement
abbrev pub words_say : Reading → ℕ → List (List ℕ) → Option LineEffect
words_say r line words = option_map (λ w. change_of r line w (name_in (naming w) (drop 1 words)) (options_in (naming w) (drop 1 words))) (statement_word words)

-- what a line says, or the first cause that it meets
unfoldable pub line_gives : Reading → ℕ → List ℕ → Result (Option LineEffect) Cause
line_gives r line text = unless (first_met r text) (words_say r line (words_of text))

-- the workload so far, with what a line says
unfoldable pub with_change : Reading → ℕ → Option LineEffect → Reading
with_change r line None = r
with_change r line (Some (change.Node s)) = record r { node_line = line; settings = s; count = r.count + 1 }
with_change r line (Some (change.Caller n)) =
    record r { before = r.before ++ r.current ∷ []; current = record { line = line; name = n; statements = [] }; count = r.count + 1 }
with_change r line (Some (change.Statement s)) = record r { current = record r.current { statements = r.current.statements ++ s ∷ [] }; count = r.count + 1 }

-- the same at a line
abbrev pub at_line : {A : Type 0} → ℕ → Result A Cause → Result A Fault
at_line line (Ok x) = Ok x
at_line line (Err c) = Err (record { line = line; cause = c })

-- the workload so far with a line, or its first cause
unfoldable pub line_adds : Reading → ℕ → List ℕ → Result Reading Fault
line_adds r line text = at_line line (line_gives r line text >>= λ c. Ok (with_change r line c))

-- the workload so far with the lines from this one on, or the first faulty line
unfoldable pub lines_add : Reading → ℕ → List (List ℕ) → Result Reading Fault
lines_add r line [] = Ok r
lines_add r line (text ∷ texts) = do
  s ← line_adds r line text
  lines_add s (line + 1) texts

-- before the first line
unfoldable pub empty_reading : Reading
empty_reading = record { node_line = 0; settings = usual_settings; before = []; current = record { line = 0; name = codes "main"; statements = [] }; count = 0 }

-- the workload, when all lines are read
abbrev pub finished : Reading → Workload
finished r = record { node_line = r.node_line; settings = r.settings; parts = r.before ++ r.current ∷ [] }

-- the workload that a text is, or the first faulty line with its first cause
unfoldable pub workload_of : List ℕ → Result Workload Fault
workload_of bytes = do
  r ← lines_add empty_reading 1 (between 10 bytes)
  Ok (finished r)

-- the cause for which reading refused a line
abbrev pub refused_for : {A : Type 0} → Result A Cause → Option Cause
refused_for (Ok x) = None
refused_for (Err c) = Some c

-- the first line with a fault, behind lines that have none, and the first of the causes that it meets
pub record IsFirstFault (bytes : List ℕ) (fault : Fault) : Type 0 where
  pub before : List (List ℕ)
  pub text : List ℕ
  pub after : List (List ℕ)
  pub said : Reading
  pub lines : between 10 bytes ≡ before ++ text ∷ after
  pub number : fault.line ≡ length before + 1
  pub read : lines_add empty_reading 1 before ≡ Ok said
  pub cause : first_met said text ≡ Some fault.cause

-- what a function returned is what reading gives, unless memory ran out
abbrev pub Fails : {Y : Type 0} → LineError → Result Y Fault → Type 0
Fails errors.Memory read = Unit {0}
Fails (errors.Refused f) read = read ≡ Err f

-- the answer is what reading gives, the answer `out of memory` aside
abbrev pub Gives : {X : Type 0} → Result X LineError → Result X Fault → Type 0
Gives (Ok x) read = read ≡ Ok x
Gives (Err e) read = Fails e read
