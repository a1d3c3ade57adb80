-- The names of a part, and what they are bound to.
use Rattle.std.specs.Prelude.{ℕ, List, [], ◌∷◌, ◌==◌, ◌||◌, not, nat_le, length, drop, Bool, true, false, Option, Some, None, is_some, position, slice_get, option_and_then, if◌then◌else◌}
use Rattle.std.specs.List.{list_any}
use Rattle.std.specs.Str.{bytes_eq}
use Rattle.workload_file.specs.declared.table.Word.{Word}
use Rattle.workload_file.specs.declared.table.Word.TheVariants as word
use Rattle.workload_file.specs.declared.table.Sort.{Sort}
use Rattle.workload_file.specs.declared.table.Naming.{Naming}
use Rattle.workload_file.specs.declared.table.Naming.TheVariants as rule
use Rattle.workload_file.specs.declared.workload.Statement.{Statement}
use Rattle.workload_file.specs.declared.reading.Reading.{Reading}
use Rattle.workload_file.specs.Deeds.{binds, is_begin}

-- the name is this one
abbrev pub is_called : List ℕ → Option (List ℕ) → Bool
is_called name None = false
is_called name (Some n) = bytes_eq n name

-- the place of the statement that bound this name
abbrev pub bound_at : List ℕ → List Statement → Option ℕ
bound_at name statements = position (λ s. is_called name s.name) statements

-- there is a statement, and it binds such a thing
abbrev pub is_binding : Sort → Option Statement → Bool
is_binding sort None = false
is_binding sort (Some s) = binds sort s.deed

-- the place of the statement that bound this name, where it bound it to such a thing
unfoldable pub place_of : Sort → List ℕ → List Statement → Option ℕ
place_of sort name statements = option_and_then (λ place. if is_binding sort (slice_get statements place) then Some place else None) (bound_at name statements)

-- the statement has a name
abbrev pub has_second : Naming → Bool
has_second rule.Bare = false
has_second rule.Caller = true
has_second (rule.Binds sort) = true
has_second (rule.Uses sort) = true

-- the name, of the words behind the first: the next word, where there has to be one
abbrev pub name_in : Naming → List (List ℕ) → List ℕ
name_in n [] = []
name_in n (name ∷ rest) = if has_second n then name else []

-- the options: the words behind the name
abbrev pub options_in : Naming → List (List ℕ) → List (List ℕ)
options_in n rest = if has_second n then drop 1 rest else rest

-- bound earlier by this caller; for a caller, used earlier
unfoldable pub is_taken : Reading → Naming → List ℕ → Bool
is_taken r (rule.Binds sort) name = is_some (bound_at name r.current.statements)
is_taken r rule.Caller name = bytes_eq r.current.name name || list_any (λ p. bytes_eq p.name name) r.before
is_taken r rule.Bare name = false
is_taken r (rule.Uses sort) name = false

-- the place of the name that a statement uses, where it uses one that is bound to such a thing
abbrev pub use_in : List Statement → Naming → List ℕ → Option ℕ
use_in before (rule.Uses sort) name = place_of sort name before
use_in before rule.Caller name = None
use_in before rule.Bare name = None
use_in before (rule.Binds sort) name = None

-- used, and not bound earlier by this caller to such a thing
abbrev pub is_unbound : Naming → Option ℕ → Bool
is_unbound (rule.Uses sort) place = not (is_some place)
is_unbound rule.Caller place = false
is_unbound rule.Bare place = false
is_unbound (rule.Binds sort) place = false

-- a node that is not the first statement; a begin that is not in main's part, or not the first one
unfoldable pub is_misplaced : Reading → Word → Bool
is_misplaced r word.Node = not (r.count == 0)
is_misplaced r word.Begin = not (length r.before == 0) || list_any (λ s. is_begin s.deed) r.current.statements
is_misplaced r _ = false

-- a ninth caller line
unfoldable pub is_ninth_caller : Reading → Word → Bool
is_ninth_caller r word.Caller = nat_le 8 (length r.before)
is_ninth_caller r _ = false
