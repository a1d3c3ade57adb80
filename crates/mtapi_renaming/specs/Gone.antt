-- How many objects of a kind are live no more: all were made, none of them is live again, and where one ends there is one more.
use Rattle.std.specs.Prelude.{◌≡◌, ℕ, ◌+◌, ◌≤◌, ◌==◌, true, false, List, length, if◌then◌else◌}
use Rattle.mtapi_renaming.specs.Names.{ObjectKind, generation_of, Terms, State, NodeEntry, next, after}
use Rattle.mtapi_renaming.specs.Kinds.{live_in, is_live_of}
use Rattle.mtapi_renaming.specs.Counts.{made_in}
use Rattle.mtapi_renaming.specs.Lasts.{lasts_of, gone_of}

-- how many of the last generation aren't live
abbrev pub gone_in : ObjectKind → State → ℕ
gone_in k s = gone_of k s (lasts_of k s)

-- how many are live, or were the last of their slots: so many slots are taken
abbrev pub taken_in : ObjectKind → State → ℕ
taken_in k s = live_in k s + gone_in k s

-- no more slots are taken than objects were made, and no fewer than there are handles of the last generation
pub record TakenAreMade (s : State) (k : ObjectKind) : Type 0 where
  pub made : taken_in k s ≤ made_in k s
  pub lasts : length (lasts_of k s) ≤ taken_in k s

abbrev pub GoneAreMade : Type 0
GoneAreMade = (terms : Terms) (L : List NodeEntry) (k : ObjectKind) → TakenAreMade (after terms L) k

-- from one state to the other at least so many are gone of the last generation, and so many of the others: those that were made and
-- take no slot
pub record AreGone (s t : State) (k : ObjectKind) (lasts others : ℕ) : Type 0 where
  pub last : gone_in k s + lasts ≤ gone_in k t
  pub other : made_in k s + taken_in k t + others ≤ made_in k t + taken_in k s

-- none is live again
abbrev pub GoneStayGone : Type 0
GoneStayGone = (terms : Terms) (L : List NodeEntry) (e : NodeEntry) (k : ObjectKind) → AreGone (after terms L) (next (after terms L) e) k 0 0

-- one that was live and isn't any more is gone
abbrev pub EndsAreGone : Type 0
EndsAreGone = (terms : Terms) (L : List NodeEntry) (e : NodeEntry) (k : ObjectKind) (h : ℕ) → is_live_of k (after terms L) h ≡ true
    → is_live_of k (next (after terms L) e) h ≡ false →
    AreGone (after terms L) (next (after terms L) e) k (if generation_of h == terms.settings.generations then 1
    else 0) (if generation_of h == terms.settings.generations then 0 else 1)
