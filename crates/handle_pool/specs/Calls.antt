-- Calls of a pool, one after another, as its contracts tell them and as the list of issued objects does.
use Rattle.std.specs.Prelude.{◌≡◌, ◌≢◌, ℕ, ◌≤◌, true, false, List, [], ◌∷◌, Some, None, replicate}
use Rattle.handle_pool.specs.Slots.{Slots, free_slot, slot_value, IsFull, Inserts, without, with_value}
use Rattle.handle_pool.specs.Issued.{Listed, live_object, issue, update, retire, is_full, may_issue}
use Rattle.handle_pool.specs.Stands.{Stands}

-- what a call was given and what it answered
pub data PoolCall (T : Type 0) : Type 0 where
  -- insert(value) gave the handle, or the value back
  Inserted : (value : T) (handle : ℕ) → PoolCall T
  Refused : (value : T) → PoolCall T
  -- remove(handle) gave the value, or nothing
  Removed : (handle : ℕ) (value : T) → PoolCall T
  NotThere : (handle : ℕ) → PoolCall T
  -- get_mut(handle) gave the one value, and left the other
  Wrote : (handle : ℕ) (old new : T) → PoolCall T

module _ {T : Type 0} where
  -- what the contract of the call says of the slots
  abbrev pub SlotsStep : Slots T → PoolCall T → Slots T → Type 0
  SlotsStep old (Inserted value handle) new = (IsFull old → ⊥) × Inserts old new handle value
  SlotsStep old (Refused value) new = IsFull old × (new ≡ old)
  SlotsStep old (Removed handle value) new = (slot_value old handle ≡ Some value) × (new ≡ without old handle)
  SlotsStep old (NotThere handle) new = (slot_value old handle ≡ None) × (new ≡ old)
  SlotsStep old (Wrote handle was now) new = (slot_value old handle ≡ Some was) × (new ≡ with_value old handle now)

  -- these calls lead from the one pool to the other
  abbrev pub SlotsRun : Slots T → List (PoolCall T) → Slots T → Type 0
  SlotsRun old [] new = new ≡ old
  SlotsRun old (call ∷ calls) new = (mid : Slots T) × SlotsStep old call mid × SlotsRun mid calls new

  -- what the list of issued objects allows
  abbrev pub MayAnswer : ℕ → ℕ → List (Listed T) → PoolCall T → Type 0
  MayAnswer max generations l (Inserted value handle) = (is_full generations max l ≡ false) × (may_issue generations handle l ≡ true)
  MayAnswer max generations l (Refused value) = is_full generations max l ≡ true
  MayAnswer max generations l (Removed handle value) = live_object l handle ≡ Some value
  MayAnswer max generations l (NotThere handle) = live_object l handle ≡ None
  MayAnswer max generations l (Wrote handle was now) = live_object l handle ≡ Some was

  -- the list after a call
  abbrev pub list_after : List (Listed T) → PoolCall T → List (Listed T)
  list_after l (Inserted value handle) = issue handle value l
  list_after l (Refused value) = l
  list_after l (Removed handle value) = retire handle l
  list_after l (NotThere handle) = l
  list_after l (Wrote handle was now) = update handle (λ _. now) l

  -- the list after these calls
  abbrev pub list_after_all : List (Listed T) → List (PoolCall T) → List (Listed T)
  list_after_all l [] = l
  list_after_all l (call ∷ calls) = list_after_all (list_after l call) calls

  -- each answer is one that the list as it then is allows
  abbrev pub ListRun : ℕ → ℕ → List (Listed T) → List (PoolCall T) → Type 0
  ListRun max generations l [] = Unit {0}
  ListRun max generations l (call ∷ calls) = MayAnswer max generations l call × ListRun max generations (list_after l call) calls

  -- no call gives this handle
  abbrev pub NeverGives : ℕ → List (PoolCall T) → Type 0
  NeverGives handle [] = Unit {0}
  NeverGives handle (Inserted value other ∷ calls) = (other ≢ handle) × NeverGives handle calls
  NeverGives handle (Refused value ∷ calls) = NeverGives handle calls
  NeverGives handle (Removed other value ∷ calls) = NeverGives handle calls
  NeverGives handle (NotThere other ∷ calls) = NeverGives handle calls
  NeverGives handle (Wrote other was now ∷ calls) = NeverGives handle calls

  -- no handle is given twice
  abbrev pub NoneTwice : List (PoolCall T) → Type 0
  NoneTwice [] = Unit {0}
  NoneTwice (Inserted value handle ∷ calls) = NeverGives handle calls × NoneTwice calls
  NoneTwice (Refused value ∷ calls) = NoneTwice calls
  NoneTwice (Removed handle value ∷ calls) = NoneTwice calls
  NoneTwice (NotThere handle ∷ calls) = NoneTwice calls
  NoneTwice (Wrote handle was now ∷ calls) = NoneTwice calls

  -- what holds after any calls
  pub record KeepsHandles (max generations : ℕ) (calls : List (PoolCall T)) (last : Slots T) : Type 0 where
    -- each answer is one that the list allows: a refusal exactly where the live and the retired ones are max
    pub run : ListRun max generations [] calls
    -- `get` gives the value exactly of the live handles
    pub found : (handle : ℕ) → slot_value last handle ≡ live_object (list_after_all [] calls) handle
    -- no handle is issued twice
    pub none_twice : NoneTwice calls
    pub stands : Stands last (list_after_all [] calls)

  -- the slots of a new pool
  abbrev pub new_slots : ℕ → ℕ → Slots T
  new_slots max generations = record { generations = generations; slots = replicate max (free_slot 1) }

-- over any calls of a new pool
abbrev pub PoolLaw : Type 0 → Type 0
PoolLaw T = (max generations : ℕ) (calls : List (PoolCall T)) (last : Slots T) → max ≤ 65536 → 1 ≤ generations → SlotsRun (new_slots max generations) calls last
    → KeepsHandles max generations calls last
