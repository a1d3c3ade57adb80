-- How the sets of a ready index stand for its marks.
use Rattle.std.specs.Prelude.{◌≡◌, ℕ, ◌<◌, ◌≤◌, ◌*◌, Bool, ◌&&◌, ◌==◌, List, [], Option, Some, length, slice_index_or, if◌then◌else◌}
use Rattle.mtapi_values.specs.Masks.{in_mask}
use Rattle.ready_index.specs.declared.marks.Mark.{Mark}
use Rattle.ready_index.specs.Bits.{has_slot, set_of}
use Rattle.ready_index.specs.Marks.{mark_at, is_for_at}

-- the sets of a worker
abbrev pub sets_of : List (List (List ℕ)) → ℕ → List (List ℕ)
sets_of workers worker = slice_index_or workers worker []

-- each worker has a set for each priority, with room for each slot
pub record HaveRoom (max : ℕ) (workers : List (List (List ℕ))) (priorities : ℕ) : Type 0 where
  pub sets : (worker : ℕ) → worker < length workers → length (sets_of workers worker) ≡ priorities
  pub room : (worker priority : ℕ) → worker < length workers → priority < priorities → max ≤ 64 * length (set_of (sets_of workers worker) priority)

-- each mark has a known priority, and the sets of a worker have a slot exactly where its mark is for this worker and has this priority
pub record AreMarks (marks : List (Option Mark)) (workers : List (List (List ℕ))) (priorities : ℕ) : Type 0 where
  pub few_workers : length workers ≤ 16
  pub few_priorities : priorities ≤ 8
  pub few_slots : length marks ≤ 65536
  pub room : HaveRoom (length marks) workers priorities
  pub known : (slot : ℕ) (m : Mark) → mark_at marks slot ≡ Some m → m.priority < priorities
  pub slots : (worker priority slot : ℕ) → worker < length workers
      → has_slot (sets_of workers worker) priority slot ≡ is_for_at worker priority (mark_at marks slot)

-- the new sets have the slot of a mark for this worker as given, and each other slot as the old sets have it
abbrev pub PutsSlot : Mark → ℕ → ℕ → Bool → List (List ℕ) → List (List ℕ) → Type 0
PutsSlot mark worker slot on old new =
    (p s : ℕ) → has_slot new p s ≡ (if in_mask worker mark.mask.0 && (p == mark.priority && s == slot) then on else has_slot old p s)

-- the sets have the same room
pub record SameRoom (old new : List (List ℕ)) : Type 0 where
  pub sets : length new ≡ length old
  pub room : (priority : ℕ) → length (set_of new priority) ≡ length (set_of old priority)
