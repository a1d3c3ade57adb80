-- Other handles for the objects of a node.
use Rattle.std.specs.Prelude.{◌≡◌, ℕ, ◌≤◌, ◌&&◌, ◌==◌, Option, Some, None, if◌then◌else◌}
use Rattle.mtapi_renaming.specs.Names.{ObjectKind, object_number}

-- 0, which no pool issues, where there is none
abbrev pub or_zero : Option ℕ → ℕ
or_zero None = 0
or_zero (Some h) = h

-- another handle for each handle of each kind; 0 where there is none
abbrev pub Renaming : Type 0
Renaming = ObjectKind → ℕ → ℕ

-- no handle has another one
abbrev pub renames_nothing : Renaming
renames_nothing k h = 0

-- the handle has another one
abbrev pub HasOtherName : Renaming → ObjectKind → ℕ → Type 0
HasOtherName g k h = 1 ≤ g k h

-- and this handle of this kind has this other one
abbrev pub with_pair : ObjectKind → ℕ → ℕ → Renaming → Renaming
with_pair k h other g = λ j a. if (object_number j == object_number k) && (a == h) then other else g j a

-- no two handles of a kind have the same other one
abbrev pub IsOneToOne : Renaming → Type 0
IsOneToOne g = (k : ObjectKind) (a b : ℕ) → HasOtherName g k a → g k a ≡ g k b → a ≡ b
