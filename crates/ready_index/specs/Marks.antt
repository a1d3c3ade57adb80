-- The marks of a ready index.
use Rattle.std.specs.Prelude.{◌≡◌, ℕ, ◌<◌, Bool, true, false, ◌&&◌, ◌==◌, List, Option, None, slice_index_or}
use Rattle.mtapi_values.specs.Conditions.{holds}
use Rattle.mtapi_values.specs.Masks.{in_mask}
use Rattle.ready_index.specs.declared.marks.Mark.{Mark}

-- what a ready index is seen as: how many workers and priorities it has, and for each slot its mark or none
pub record ReadyMarks : Type 0 where
  pub workers : ℕ
  pub priorities : ℕ
  pub marks : List (Option Mark)

-- the mark of a slot
abbrev pub mark_at : List (Option Mark) → ℕ → Option Mark
mark_at marks slot = slice_index_or marks slot None

-- there is a mark, and this worker is in its mask
abbrev pub is_for : ℕ → Option Mark → Bool
is_for worker mark = holds (λ m. in_mask worker m.mask.0) mark

-- the same, and the mark has this priority
abbrev pub is_for_at : ℕ → ℕ → Option Mark → Bool
is_for_at worker priority mark = holds (λ m. in_mask worker m.mask.0 && priority == m.priority) mark

-- no slot has a mark for this worker
abbrev pub HasNoneFor : ℕ → List (Option Mark) → Type 0
HasNoneFor worker marks = (slot : ℕ) → is_for worker (mark_at marks slot) ≡ false

-- the slot has a mark for this worker with this priority, and no mark for this worker has a smaller one
pub record IsFirst (worker priority slot : ℕ) (marks : List (Option Mark)) : Type 0 where
  pub marked : is_for_at worker priority (mark_at marks slot) ≡ true
  pub least : (smaller other : ℕ) → smaller < priority → is_for_at worker smaller (mark_at marks other) ≡ false
