-- Handles as words. In text 2 a handle that names a kind is the kind's letter, its generation, a dot and its slot.
use Rattle.std.specs.Prelude.{ℕ, ◌+◌, ◌*◌, ◌/◌, ◌%◌, ◌^◌, ◌==◌, nat_lt, List, [], ◌∷◌, ◌++◌, Option, Some, None, if◌then◌else◌}
use Rattle.std.specs.{List.find, List.before_first, List.after_first, Fmt.decimal}
use Rattle.mtapi_values.specs.declared.handles.ObjectKind.TheVariants.{Action, Task, Group, Queue, Mutex, Sem, Rwl, Shmem}
use Rattle.mtapi_values.specs.{declared.handles.ObjectKind.ObjectKind, declared.handles.Layout.Layout}
use Rattle.mtapi_values.specs.declared.handles.Layout.TheVariants.{One, Two}
use Rattle.mtapi_values.specs.Layouts.{object_number, named_kind}
use Rattle.number_text.specs.Lists.{◌>>=◌}
use Rattle.number_text.specs.Numbers.{number, number_within}

-- the letters a, t, g, q, m, s, r and h
abbrev pub kind_letter : ObjectKind → ℕ
kind_letter Action = 97
kind_letter Task = 116
kind_letter Group = 103
kind_letter Queue = 113
kind_letter Mutex = 109
kind_letter Sem = 115
kind_letter Rwl = 114
kind_letter Shmem = 104

-- every kind once
abbrev pub object_kinds : List ObjectKind
object_kinds = Action ∷ Task ∷ Group ∷ Queue ∷ Mutex ∷ Sem ∷ Rwl ∷ Shmem ∷ []

-- the kind with this number
abbrev pub kind_numbered : ℕ → Option ObjectKind
kind_numbered n = find (λ k. object_number k == n) object_kinds

-- the kind with this letter
abbrev pub kind_lettered : ℕ → Option ObjectKind
kind_lettered letter = find (λ k. kind_letter k == letter) object_kinds

-- the generation of a handle
abbrev pub generation : ℕ → ℕ
generation h = h / 2 ^ 32

-- the slot of a handle of layout two
abbrev pub slot : ℕ → ℕ
slot h = h % 2 ^ 24

-- a handle by its kind, where it names one
abbrev pub named_text : Option ObjectKind → ℕ → List ℕ
named_text None h = decimal h
named_text (Some k) h = kind_letter k ∷ (decimal (generation h) ++ 46 ∷ decimal (slot h))

-- a handle as a word
unfoldable pub handle_text : Layout → ℕ → List ℕ
handle_text One h = decimal h
handle_text Two h = if nat_lt 0 (generation h) then named_text (kind_numbered (named_kind h)) h else decimal h

-- the handle of this kind whose generation and slot stand around a dot
unfoldable pub handle_named : ObjectKind → List ℕ → Option ℕ
handle_named k text = do
  g ← number_within 0 4294967295 (before_first (λ b. b == 46) text)
  s ← number_within 0 16777215 (after_first (λ b. b == 46) text)
  Some (g * 2 ^ 32 + object_number k * 2 ^ 24 + s)

-- a handle behind the letter of a kind, and else a number
abbrev pub handle_led : Option ObjectKind → List ℕ → List ℕ → Option ℕ
handle_led (Some k) rest text = handle_named k rest
handle_led None rest text = number text

-- the handle that a word may be
unfoldable pub handle_of_word : List ℕ → Option ℕ
handle_of_word [] = None
handle_of_word (b ∷ bs) = handle_led (kind_lettered b) bs (b ∷ bs)
