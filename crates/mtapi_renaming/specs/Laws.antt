-- Two nodes that differ in their handles and in their limits alone, step by step.
use Rattle.std.specs.Prelude.{◌≡◌, ◌↔◌, ℕ, true, false, None, Some}
use Rattle.mtapi_renaming.specs.Names.{ObjectKind, Terms, Op, Reply, Handle, State, opening, Row, Allows, after_row, row}
use Rattle.mtapi_renaming.specs.Renaming.{Renaming, renames_nothing, with_pair}
use Rattle.mtapi_renaming.specs.Renamed.{Room, terms_in, renamed}
use Rattle.mtapi_renaming.specs.Follows.{Follows}
use Rattle.mtapi_renaming.specs.Ops.{renamed_op, renamed_reply}
use Rattle.mtapi_renaming.specs.Kinds.{made_kind, live_in, is_live_of, is_full_of, is_fresh_of, limit_of, CanBe, takes_task, is_handle}

-- the row of the renamed state for the renamed op
abbrev pub row_in : Renaming → Room → State → ℕ → Op → Reply → Row
row_in g x s who op r = row (renamed g x s) who (renamed_op g op) r

-- an op that makes nothing: its reply is allowed exactly where the renamed one is allowed in the renamed state; then the state after it
-- renamed is the one after it there, and the renaming has just what was issued
pub record StepRenames (g : Renaming) (x : Room) (s : State) (who : ℕ) (op : Op) (r : Reply) : Type 0 where
  pub allowed : Allows (row s who op r) r ↔ Allows (row_in g x s who op (renamed_reply g op r)) (renamed_reply g op r)
  pub leads : Allows (row s who op r) r → renamed g x (after_row s (row s who op r)) ≡ after_row (renamed g x s) (row_in g x s who op (renamed_reply g op r))
  pub follows : Allows (row s who op r) r → Follows g (after_row s (row s who op r))

abbrev pub StepsRename : Type 0
StepsRename = (g : Renaming) (x : Room) (s : State) (who : ℕ) (op : Op) (r : Reply) → Follows g s → made_kind op ≡ None → StepRenames g x s who op r

-- where the renamed state gives a reply to an op that makes nothing, the state allows just the reply that is renamed to it; which task a
-- worker takes may be chosen, and this says nothing of that
abbrev pub AnswersDecide : Type 0
AnswersDecide = (g : Renaming) (x : Room) (s : State) (who : ℕ) (op : Op) (given r : Reply) → Follows g s → made_kind op ≡ None → takes_task op given ≡ false
    → takes_task op r ≡ false →
    Allows (row_in g x s who op given) given → Allows (row s who op r) r ↔ (renamed_reply g op r ≡ given)

-- an op that makes an object of this kind, with this handle in the state and that other one in the renamed state
pub record CreateRenames (g : Renaming) (x : Room) (s : State) (who : ℕ) (op : Op) (k : ObjectKind) (h other : ℕ) : Type 0 where
  -- what is refused before the limit is refused so on both sides
  pub refused : (r : Reply) → is_handle r ≡ false → (r ≡ limit_of k → ⊥) → Allows (row s who op r) r ↔ Allows (row_in g x s who op r) r
  -- and then the state allows nothing else
  pub refuses : (given r : Reply) → is_handle given ≡ false → (given ≡ limit_of k → ⊥) → Allows (row_in g x s who op given) given
      → Allows (row s who op r) r ↔ (r ≡ given)
  -- where the renamed state makes an object, the state answers the limit if it has no room, and else any handle that may be given
  pub makes : Allows (row_in g x s who op (Handle other)) (Handle other) → (r : Reply) → Allows (row s who op r) r ↔ CanBe k s r
  -- where both states have room, and both handles may be given, both are answered or none
  pub allowed : is_full_of k s ≡ false → is_full_of k (renamed g x s) ≡ false → is_fresh_of k s h ≡ true → is_fresh_of k (renamed g x s) other ≡ true →
      Allows (row s who op (Handle h)) (Handle h) ↔ Allows (row_in g x s who op (Handle other)) (Handle other)
  -- then the state after it, renamed with the new pair, is the one after it there
  pub leads : Allows (row s who op (Handle h)) (Handle h) → Allows (row_in g x s who op (Handle other)) (Handle other) →
      renamed (with_pair k h other g) x (after_row s (row s who op (Handle h))) ≡ after_row (renamed g x s) (row_in g x s who op (Handle other))
  -- and the renaming with the new pair has just what was issued
  pub follows : Allows (row s who op (Handle h)) (Handle h) → Allows (row_in g x s who op (Handle other)) (Handle other)
      → Follows (with_pair k h other g) (after_row s (row s who op (Handle h)))

abbrev pub CreatesRename : Type 0
CreatesRename = (g : Renaming) (x : Room) (s : State) (who : ℕ) (op : Op) (k : ObjectKind) (h other : ℕ) → Follows g s → made_kind op ≡ Some k
    → CreateRenames g x s who op k h other

-- of each kind the same objects are live, and so there are as many
pub record LiveAlike (g : Renaming) (x : Room) (s : State) (k : ObjectKind) : Type 0 where
  pub same : (h : ℕ) → is_live_of k (renamed g x s) (g k h) ≡ is_live_of k s h
  pub count : live_in k (renamed g x s) ≡ live_in k s

abbrev pub LivesAlike : Type 0
LivesAlike = (g : Renaming) (x : Room) (s : State) (k : ObjectKind) → Follows g s → LiveAlike g x s k

-- a node starts so
pub record StartRenames (x : Room) (terms : Terms) : Type 0 where
  pub follows : Follows renames_nothing (opening terms)
  pub renamed : renamed renames_nothing x (opening terms) ≡ opening (terms_in x terms)

abbrev pub StartsRename : Type 0
StartsRename = (x : Room) (terms : Terms) → StartRenames x terms
