-- What an op that makes an object is refused for before it is asked whether there is room, and what it may answer then.
use Rattle.std.specs.Prelude.{◌≡◌, ◌↔◌, ℕ, Bool, true, false, Option, Some, None, List, if◌then◌else◌, ℤ}
use Rattle.mtapi_values.specs.declared.kinds.Kind.{Kind}
use Rattle.mtapi_renaming.specs.Names.{ObjectKind, TaskHandle, ActionHandle, Op, Pick, Reply, Ok, Picked, State, Row, unless, gives, never, Allows, after_row, row}
use Rattle.mtapi_renaming.specs.Renaming.{Renaming}
use Rattle.mtapi_renaming.specs.Renamed.{Room, renamed}
use Rattle.mtapi_renaming.specs.Follows.{Follows}
use Rattle.mtapi_renaming.specs.Ops.{renamed_op}
use Rattle.mtapi_renaming.specs.Kinds.{made_kind, CanBe, takes_task, is_handle}

-- what stands behind the limit in the row of a create: the handle of a new object, or nothing where that may not be given
abbrev pub makes_or_not : Row → Bool
makes_or_not (unless c x row) = false
makes_or_not (gives x moves) = is_handle x
makes_or_not never = true

-- what a row answers without being asked for room: where a condition before the limit is met, or where no limit is in the row
unfoldable pub refusal_in : Row → Option Reply
refusal_in (unless c x row) = if makes_or_not row then None else if c then Some x else refusal_in row
refusal_in (gives x moves) = Some x
refusal_in never = None

-- why an op that makes an object is refused, whether there is room or not
abbrev pub refusal_of : State → ℕ → Op → Option Reply
refusal_of s who op = refusal_in (row s who op Ok)

-- what it may answer: the refusal, and where there is none the limit or any handle that may be given
abbrev pub CanAnswer : Option Reply → ObjectKind → State → Reply → Type 0
CanAnswer (Some x) k s r = r ≡ x
CanAnswer None k s r = CanBe k s r

abbrev pub RefusalsTell : Type 0
RefusalsTell = (s : State) (who : ℕ) (op : Op) (k : ObjectKind) (r : Reply) → made_kind op ≡ Some k
    → Allows (row s who op r) r ↔ CanAnswer (refusal_of s who op) k s r

-- an op that makes an object leaves the state as it was where it answers no handle
abbrev pub RefusalsStay : Type 0
RefusalsStay = (s : State) (who : ℕ) (op : Op) (k : ObjectKind) (r : Reply) → made_kind op ≡ Some k → Allows (row s who op r) r → is_handle r ≡ false
    → after_row s (row s who op r) ≡ s

-- no refusal is a handle
abbrev pub RefusalsArePlain : Type 0
RefusalsArePlain = (s : State) (who : ℕ) (op : Op) (k : ObjectKind) (r : Reply) → made_kind op ≡ Some k → refusal_of s who op ≡ Some r → is_handle r ≡ false

-- two nodes that differ in their handles and in their limits alone refuse it alike
abbrev pub RefusalsRename : Type 0
RefusalsRename = (g : Renaming) (x : Room) (s : State) (who : ℕ) (op : Op) (k : ObjectKind) → Follows g s → made_kind op ≡ Some k
    → refusal_of (renamed g x s) who (renamed_op g op) ≡ refusal_of s who op

-- where a worker may take some task, it may be told nothing else
abbrev pub PicksTake : Type 0
PicksTake = (s : State) (who : ℕ) (t : TaskHandle) (a : ActionHandle) (kind : Kind) (args : List ℤ) (r : Reply)
    → Allows (row s who Pick (Picked t a kind args)) (Picked t a kind args) → Allows (row s who Pick r) r → takes_task Pick r ≡ true
