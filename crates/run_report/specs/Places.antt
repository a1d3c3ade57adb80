-- The places at which the tasks of a part were made, by their handles.
use Rattle.std.specs.Prelude.{◌≡◌, true, ℕ, ◌+◌, ◌==◌, List, [], ◌∷◌, Bool, false, Option, Some, None, slice_get, if◌then◌else◌}
use Rattle.run_report.specs.Names.{Statement, name_text, Reply}
use Rattle.run_report.specs.declared.sorts.Shown.{Shown}
use Rattle.run_report.specs.declared.sorts.Shown.TheVariants as shows
use Rattle.run_report.specs.Calls.{made_task, shown_of, task_name, call_lines_of}

-- the first value, or else the second
abbrev pub first_or_second : Option ℕ → Option ℕ → Option ℕ
first_or_second (Some x) y = Some x
first_or_second None y = y

-- the place, where this handle was found
abbrev pub place_if : ℕ → ℕ → Option ℕ → Option ℕ
place_if place h None = None
place_if place h (Some k) = if k == h then Some place else None

-- this handle was found
abbrev pub is_found : ℕ → Option ℕ → Bool
is_found h None = false
is_found h (Some k) = k == h

-- the place of the first of these statements that made the task of this handle, where the first of them has this place
unfoldable pub place_from : ℕ → List Statement → List Reply → ℕ → Option ℕ
place_from n [] rs h = None
place_from n (s ∷ ss) [] h = None
place_from n (s ∷ ss) (r ∷ rs) h = if made_task h s r then Some n else place_from (n + 1) ss rs h

-- the name that a statement binds, if there is one
abbrev pub name_bound : Option Statement → List ℕ
name_bound None = []
name_bound (Some s) = name_text s.name

-- the name that the statement at a place binds, if there is one
abbrev pub name_bound_at : List Statement → Option ℕ → List ℕ
name_bound_at ss None = []
name_bound_at ss (Some place) = name_bound (slice_get ss place)

-- the name of the task of a handle, by the place at which it was made
abbrev pub names_by : List Statement → (ℕ → Option ℕ) → ℕ → List ℕ
names_by ss places h = name_bound_at ss (places h)

-- it shows the task that it was given
abbrev pub is_shown_given : Shown → Bool
is_shown_given shows.Given = true
is_shown_given _ = false

abbrev pub shows_given : Statement → Bool
shows_given s = is_shown_given (shown_of s.deed)

-- by these places the lines of the calls are as they have to be
abbrev pub ShowsNames : List Statement → List Reply → (ℕ → Option ℕ) → Type 0
ShowsNames ss rs places = (part : List ℕ) → call_lines_of part (names_by ss places) ss rs ≡ call_lines_of part (task_name ss rs) ss rs
