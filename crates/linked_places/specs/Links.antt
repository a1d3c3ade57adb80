-- How lists of handles lie in links. No public clause cites this module.
use Rattle.std.specs.Prelude.{◌≡◌, ℕ, zero, suc, ◌+◌, ◌-◌, ◌<◌, ◌≤◌, true, false, List, [], ◌∷◌, length, Option, Some, None, is_none, slice_get, slice_set, if◌then◌else◌}
use Rattle.std.specs.Option.{option_or}
use Rattle.handle_pool.specs.Slots.{slot_of}
use Rattle.linked_places.specs.Lists.{list_at, stands_at}
use Rattle.linked_places.specs.declared.Link.{Link}
use Rattle.linked_places.specs.declared.Ends.{Ends}

-- the link of a handle between these places
abbrev pub link_of : ℕ → Option ℕ → Option ℕ → Link
link_of handle previous next = record { handle = handle; previous = previous; next = next }

-- the handle of a link, if it is there, and those that follow it
abbrev pub walk_at : (Option ℕ → List ℕ) → Option Link → List ℕ
walk_at rest None = []
walk_at rest (Some link) = link.handle ∷ rest link.next

-- the handles from this place on, so many
abbrev pub walk : List Link → ℕ → Option ℕ → List ℕ
walk links zero place = []
walk links (suc count) None = []
walk links (suc count) (Some place) = walk_at (walk links count) (slice_get links place)

-- the handles of a list
abbrev pub linked_handles : List Link → Ends → List ℕ
linked_handles links ends = walk links ends.count ends.first

-- the first place of a list, or what comes after it
abbrev pub first_of : List ℕ → Option ℕ → Option ℕ
first_of [] next = next
first_of (h ∷ hs) next = Some (slot_of h)

-- the last place of a list, or what comes before it
abbrev pub last_of : Option ℕ → List ℕ → Option ℕ
last_of previous [] = previous
last_of previous (h ∷ hs) = last_of (Some (slot_of h)) hs

-- each handle stands at its place, between the places of those beside it
abbrev pub IsChain : List Link → Option ℕ → List ℕ → Option ℕ → Type 0
IsChain links previous [] next = Unit {0}
IsChain links previous (h ∷ hs) next = (slice_get links (slot_of h) ≡ Some (link_of h previous (first_of hs next))) × IsChain links (Some (slot_of h)) hs next

-- no two handles of the list have one place
abbrev pub AreApart : List ℕ → Type 0
AreApart [] = Unit {0}
AreApart (h ∷ hs) = (stands_at (slot_of h) hs ≡ false) × AreApart hs

-- the ends of a list
pub record IsList (links : List Link) (ends : Ends) (hs : List ℕ) : Type 0 where
  pub first : ends.first ≡ first_of hs None
  pub last : ends.last ≡ last_of None hs
  pub count : ends.count ≡ length hs
  pub run : IsChain links None hs None
  pub apart : AreApart hs

-- the links and the ends are those of these lists, and no place is in two lists
pub record IsLinked (links : List Link) (ends : List Ends) (lists : List (List ℕ)) : Type 0 where
  pub size : length lists ≡ length ends
  pub each : (number : ℕ) (e : Ends) → slice_get ends number ≡ Some e → IsList links e (list_at lists number)
  pub apart : (i j place : ℕ) → stands_at place (list_at lists i) ≡ true → stands_at place (list_at lists j) ≡ true → i ≡ j
  pub few : length links ≤ 65536

-- the links once the link of this place is followed by another place
abbrev pub followed_at : List Link → ℕ → Option ℕ → Option Link → List Link
followed_at links place next None = links
followed_at links place next (Some link) = slice_set links place (record link { next = next })

abbrev pub links_followed : List Link → Option ℕ → Option ℕ → List Link
links_followed links None next = links
links_followed links (Some place) next = followed_at links place next (slice_get links place)

-- the links once the link of this place follows another place
abbrev pub following_at : List Link → ℕ → Option ℕ → Option Link → List Link
following_at links place previous None = links
following_at links place previous (Some link) = slice_set links place (record link { previous = previous })

abbrev pub links_following : List Link → Option ℕ → Option ℕ → List Link
links_following links None previous = links
links_following links (Some place) previous = following_at links place previous (slice_get links place)

-- the links and the ends once a handle has come to the end
abbrev pub links_with : List Link → Option ℕ → ℕ → List Link
links_with links last handle = slice_set (links_followed links last (Some (slot_of handle))) (slot_of handle) (link_of handle last None)

abbrev pub ends_with : Ends → ℕ → Ends
ends_with e place = record { first = option_or e.first (Some place); last = Some place; count = e.count + 1 }

-- the links once the place between these two is left out
abbrev pub links_without : List Link → Option ℕ → Option ℕ → List Link
links_without links previous next = links_following (links_followed links previous next) next previous

-- a place below the bound, if there is one
abbrev pub IsBelow : ℕ → Option ℕ → Type 0
IsBelow bound None = Unit {0}
IsBelow bound (Some place) = place < bound

-- the ends of the list without the handle of this link
abbrev pub ends_without : Ends → Link → Ends
ends_without e link = record {
  first = if is_none link.previous then link.next else e.first;
  last = if is_none link.next then link.previous else e.last;
  count = e.count - 1;
}
