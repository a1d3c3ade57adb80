-- The index of a pool by ids.
use Rattle.std.specs.Prelude.{◌≡◌, ℕ, ◌<◌, ◌≤◌, Some, List, length, Result, Ok, Err, slice_index_or}
use Rattle.std.specs.List.{Contains, AllPairs}
use Rattle.handle_pool.specs.Slots.{Slots, slot_value, live_count, max_of}
use Rattle.handle_pool.specs.Walks.{HasLive}
use Rattle.keyed_pool.specs.declared.IndexEntry.{IndexEntry}

-- the ids rise from each entry to the later ones
abbrev pub AreRising : List IndexEntry → Type 0
AreRising entries = AllPairs (λ a b. a.id < b.id) entries

-- an entry of the id stands at the place, or all before it have lower ids and all others higher ones
abbrev pub Locates : List IndexEntry → ℕ → Result ℕ ℕ → Type 0
Locates entries id (Ok place) = (place < length entries) × ((d : IndexEntry) → (slice_index_or entries place d).id ≡ id)
Locates entries id (Err place) =
    (place ≤ length entries)
    × (AreRising entries → ((k : ℕ) (d : IndexEntry) → k < place → (slice_index_or entries k d).id < id)
    × ((k : ℕ) (d : IndexEntry) → place ≤ k → k < length entries → id < (slice_index_or entries k d).id))

-- the entries are the ids and handles of the live values, in the order of the ids, with room for as many as there are slots
pub record IsIndexed {T : Type 0} (id : T → ℕ) (p : Slots T) (entries : List IndexEntry) (len room : ℕ) : Type 0 where
  pub rising : AreRising entries
  pub live : (e : IndexEntry) → Contains entries e → HasLive p e.handle (λ v. id v ≡ e.id)
  pub listed : (handle : ℕ) (v : T) → slot_value p handle ≡ Some v → Contains entries (record { id = id v; handle = handle })
  pub counted : length entries ≡ live_count p
  pub measured : len ≡ length entries
  pub fits : max_of p ≤ room
