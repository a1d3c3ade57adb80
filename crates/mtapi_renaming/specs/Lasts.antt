-- The handles of a kind that were the last of their slots, from which it is told how many slots have retired.
use Rattle.std.specs.Prelude.{◌≡◌, ℕ, ◌+◌, ◌≤◌, not, ◌==◌, List, [], ◌∷◌, ◌++◌, Some, None, if◌then◌else◌}
use Rattle.mtapi_renaming.specs.Names.{ObjectKind, generation_of, Listed, how_many, Terms, Op, Reply, Handle, State, objects_of, Allows, after_row, row, NodeEntry, after}
use Rattle.mtapi_renaming.specs.Kinds.{made_kind, live_in, is_live_of, is_full_of}
use Rattle.mtapi_renaming.specs.Counts.{most_of}

-- the handles of a list with this generation, in their order
unfoldable pub lasts_in : {T : Type 0} → ℕ → List (Listed T) → List ℕ
lasts_in last [] = []
lasts_in last (r ∷ rs) = if generation_of r.handle == last then r.handle ∷ lasts_in last rs else lasts_in last rs

-- the handles of a kind with the last generation
abbrev pub lasts_of : ObjectKind → State → List ℕ
lasts_of k s = lasts_in s.terms.settings.generations ((objects_of k).list s)

-- how many of these aren't live
abbrev pub gone_of : ObjectKind → State → List ℕ → ℕ
gone_of k s hs = how_many (λ h. not (is_live_of k s h)) hs

-- after any entries a kind has no room exactly where those that are live, and those of the last generation that aren't, are as many as
-- there may be
abbrev pub FullIsTold : Type 0
FullIsTold = (terms : Terms) (L : List NodeEntry) (k : ObjectKind) →
    is_full_of k (after terms L) ≡ (live_in k (after terms L) + gone_of k (after terms L) (lasts_of k (after terms L)) == most_of k (after terms L))

-- after any entries, those that are live and those of the last generation that aren't are no more than there may be
abbrev pub RoomIsKept : Type 0
RoomIsKept = (terms : Terms) (L : List NodeEntry) (k : ObjectKind)
    → live_in k (after terms L) + gone_of k (after terms L) (lasts_of k (after terms L)) ≤ most_of k (after terms L)

-- the list with this handle behind, where it is of the last generation
abbrev pub with_last_handle : ℕ → ℕ → List ℕ → List ℕ
with_last_handle last h hs = if generation_of h == last then hs ++ h ∷ [] else hs

-- a new object's handle stands behind those of its kind, and no other kind's change
pub record MakesLast (s t : State) (k : ObjectKind) (h : ℕ) : Type 0 where
  pub one : lasts_of k t ≡ with_last_handle s.terms.settings.generations h (lasts_of k s)
  pub others : (i : ObjectKind) → (i ≡ k → ⊥) → lasts_of i t ≡ lasts_of i s

abbrev pub CreatesMakeLast : Type 0
CreatesMakeLast = (s : State) (who : ℕ) (op : Op) (k : ObjectKind) (h : ℕ) → made_kind op ≡ Some k → Allows (row s who op (Handle h)) (Handle h)
    → MakesLast s (after_row s (row s who op (Handle h))) k h

-- an op that makes nothing leaves them
abbrev pub OthersKeepLasts : Type 0
OthersKeepLasts = (s : State) (who : ℕ) (op : Op) (r : Reply) (k : ObjectKind) → made_kind op ≡ None → lasts_of k (after_row s (row s who op r)) ≡ lasts_of k s
