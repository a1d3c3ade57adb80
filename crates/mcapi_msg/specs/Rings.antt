-- The rings of an endpoint, as the code keeps them. No public clause cites this module but by `Stands`.
use Rattle.std.specs.Prelude.{ℕ, ◌+◌, ◌==◌, ◌≤◌, List, [], ◌∷◌, ◌++◌, length, Option, Some, None, if◌then◌else◌}
use Rattle.mcapi_msg.specs.declared.messages.Waiting.{Waiting}

-- how many messages may wait, and those of each priority in the order of their sends
pub record RingTable : Type 0 where
  pub limit : ℕ
  pub first : List Waiting
  pub second : List Waiting
  pub third : List Waiting
  pub fourth : List Waiting

abbrev pub empty_rings : ℕ → RingTable
empty_rings limit = record { limit = limit; first = []; second = []; third = []; fourth = [] }

-- how many messages wait
abbrev pub messages_in : RingTable → ℕ
messages_in r = length r.first + length r.second + length r.third + length r.fourth

-- one message more, behind those of its priority
abbrev pub with_last_message : Waiting → RingTable → RingTable
with_last_message w r =
    if w.priority == 0 then record r { first = r.first ++ w ∷ [] }
    else (if w.priority == 1 then record r { second = r.second ++ w ∷ [] }
    else (if w.priority == 2 then record r { third = r.third ++ w ∷ [] }
    else record r { fourth = r.fourth ++ w ∷ [] }))

-- the first of these messages, or else what follows
abbrev pub front_or : Option Waiting → List Waiting → Option Waiting
front_or other [] = other
front_or other (w ∷ ws) = Some w

-- the first message of the first ring that has one
abbrev pub first_in : RingTable → Option Waiting
first_in r = front_or (front_or (front_or (front_or None r.fourth) r.third) r.second) r.first

-- the rings without it
abbrev pub without_front : RingTable → RingTable
without_front r = at_first r.first
  where
    at_fourth : List Waiting → RingTable
    at_fourth [] = r
    at_fourth (w ∷ ws) = record r { fourth = ws }

    at_third : List Waiting → RingTable
    at_third [] = at_fourth r.fourth
    at_third (w ∷ ws) = record r { third = ws }

    at_second : List Waiting → RingTable
    at_second [] = at_third r.third
    at_second (w ∷ ws) = record r { second = ws }

    at_first : List Waiting → RingTable
    at_first [] = at_second r.second
    at_first (w ∷ ws) = record r { first = ws }

-- each ring has room for all messages that may wait; the numbers are the rooms and the lengths
pub record HasRingRoom (limit a b c d i j k l : ℕ) : Type 0 where
  pub few : limit ≤ 256
  pub first : limit ≤ a
  pub second : limit ≤ b
  pub third : limit ≤ c
  pub fourth : limit ≤ d
  pub within : i + j + k + l ≤ limit
