-- Lists of handles, each handle at the place that it names.
use Rattle.std.specs.Prelude.{◌≡◌, ℕ, Bool, false, ◌||◌, ◌==◌, List, [], ◌∷◌, slice_index_or, slice_set, if◌then◌else◌}
use Rattle.handle_pool.specs.Slots.{slot_of}

-- how many places there are, and the lists, by their numbers
pub record HandleLists : Type 0 where
  pub places : ℕ
  pub lists : List (List ℕ)

-- the list of this number
abbrev pub list_at : List (List ℕ) → ℕ → List ℕ
list_at lists number = slice_index_or lists number []

-- some handle of the list has this place
abbrev pub stands_at : ℕ → List ℕ → Bool
stands_at place [] = false
stands_at place (h ∷ hs) = (slot_of h == place) || stands_at place hs

-- the handle is in the list
abbrev pub has_handle : ℕ → List ℕ → Bool
has_handle handle [] = false
has_handle handle (h ∷ hs) = (h == handle) || has_handle handle hs

-- the list without this handle
abbrev pub without_handle : ℕ → List ℕ → List ℕ
without_handle handle [] = []
without_handle handle (h ∷ hs) = if h == handle then hs else h ∷ without_handle handle hs

-- no list has a handle of this place
abbrev pub NowhereAt : ℕ → List (List ℕ) → Type 0
NowhereAt place lists = (number : ℕ) → stands_at place (list_at lists number) ≡ false

-- the list of this number has become another, and all others are as they were
abbrev pub with_list : HandleLists → ℕ → List ℕ → HandleLists
with_list ls number list = record ls { lists = slice_set ls.lists number list }
