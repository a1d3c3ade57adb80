-- What the reader keeps beside the workload so far.
use Rattle.std.specs.Prelude.{◌≡◌, ℕ, ◌+◌, ◌*◌, ◌^◌, ◌≤◌, nat_eq, nat_lt, List, [], ◌∷◌, length, Option, Some, None, Result, Ok, Err, if◌then◌else◌}
use Rattle.workload_file.specs.declared.reading.Reader.{Reader}
use Rattle.workload_file.specs.declared.reading.Reading.{Reading}
use Rattle.workload_file.specs.declared.reading.LineEffect.{LineEffect}
use Rattle.workload_file.specs.declared.reading.LineEffect.TheVariants as change
use Rattle.workload_file.specs.declared.index.NameIndex.{NameIndex}
use Rattle.std.specs.HashMap.{get}
use Rattle.workload_file.specs.Names.{bound_at, is_called}
use Rattle.workload_file.specs.Values.{is_name}

-- the first value, or else the second
abbrev pub first_of_two : Option ℕ → Option ℕ → Option ℕ
first_of_two (Some x) y = Some x
first_of_two None y = y

-- the number at which the index has a name: its bytes as the digits to base 256, the first the least
unfoldable pub key_of : List ℕ → ℕ
key_of [] = 0
key_of (b ∷ bs) = b + 256 * key_of bs

-- the place that the index has at a number: those of 64 bits stand apart
abbrev pub place_at : NameIndex → ℕ → Option ℕ
place_at index key = if nat_lt key (2 ^ 64) then get nat_eq index.short key else get nat_eq index.long key

-- the place at which the index has a name; it has no other text
abbrev pub found_name : NameIndex → List ℕ → Option ℕ
found_name index name = if is_name name then place_at index (key_of name) else None

-- few enough statements, and the index has each name of this part at the place that bound it
pub record IsReader (r : Reader) : Type 0 where
  pub statements : length r.said.current.statements ≤ r.said.count
  pub count : r.said.count ≤ 20000
  pub names : (name : List ℕ) → found_name r.names name ≡ bound_at name r.said.current.statements

-- the index with one more name, where there is one: the first place of a name stays
abbrev pub with_name : Option (List ℕ) → ℕ → (List ℕ → Option ℕ) → List ℕ → Option ℕ
with_name name place names other = first_of_two (names other) (if is_called other name then Some place else None)

-- the name that a change binds
abbrev pub name_in_effect : LineEffect → Option (List ℕ)
name_in_effect (change.Node s) = None
name_in_effect (change.Caller n) = None
name_in_effect (change.Statement s) = s.name

-- the same, but that the index has this name already, at the place of the next statement
pub record IsNamed (r : Reader) (name : Option (List ℕ)) : Type 0 where
  pub statements : length r.said.current.statements ≤ r.said.count
  pub count : r.said.count ≤ 20000
  pub names : (other : List ℕ) → found_name r.names other ≡ with_name name (length r.said.current.statements) (λ n. bound_at n r.said.current.statements) other

-- the answer, seen without the index
abbrev pub said_of : {E : Type 0} → Result Reader E → Result Reading E
said_of (Ok r) = Ok r.said
said_of (Err e) = Err e

-- what the lines say after one more, where it was read
abbrev pub said_then : {E : Type 0} → Result (Unit {0}) E → Reading → Result Reading E
said_then (Ok done) r = Ok r
said_then (Err e) r = Err e
