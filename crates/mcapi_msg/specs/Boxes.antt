-- The live endpoints, as the code keeps them.
use Rattle.std.specs.Prelude.{◌≡◌, ℕ, ◌+◌, ◌<◌, ◌≤◌, List, [], ◌∷◌, length, Option, Some, None, ◌==◌, if◌then◌else◌}
use Rattle.handle_pool.specs.Slots.{Slots, live_count, retired_count, max_of, slot_value}
use Rattle.handle_pool.specs.Walks.{OneEach}
use Rattle.mcapi_msg.specs.declared.statuses.MsgStatus.{MsgStatus}
use Rattle.mcapi_msg.specs.declared.statuses.MsgStatus.TheVariants.{EndpointInvalid, NotOwner}
use Rattle.mcapi_msg.specs.declared.boxes.Mailbox.{Mailbox}
use Rattle.mcapi_msg.specs.Rings.{RingTable, empty_rings, messages_in}

-- how many messages may wait at each, and the slots
pub record BoxTable : Type 0 where
  pub limit : ℕ
  pub pool : Slots Mailbox

abbrev pub HasPort : ℕ → Mailbox → Type 0
HasPort port m = m.port ≡ port

-- a new endpoint: no message waits
abbrev pub new_mailbox : ℕ → ℕ → ℕ → Mailbox
new_mailbox port owner limit = record { port = port; owner = owner; rings = empty_rings limit }

-- the endpoint with its rings changed
abbrev pub with_rings : (RingTable → RingTable) → Mailbox → Mailbox
with_rings f m = record m { rings = f m.rings }

-- there is an endpoint, and it has room for one message more
abbrev pub HasSpace : Option Mailbox → Type 0
HasSpace None = ⊥
HasSpace (Some m) = messages_in m.rings < m.rings.limit

-- why an op that only the owner may ask for is refused
abbrev pub owner_refusal : ℕ → Option Mailbox → Option MsgStatus
owner_refusal who None = Some EndpointInvalid
owner_refusal who (Some m) = if m.owner == who then None else Some NotOwner

-- some slot may take a further endpoint
abbrev pub HasFree : Slots Mailbox → Type 0
HasFree p = live_count p + retired_count p < max_of p

-- each of these rings is empty and has this limit
abbrev pub AreEmpty : ℕ → List RingTable → Type 0
AreEmpty limit [] = Unit {0}
AreEmpty limit (r ∷ rs) = (r ≡ empty_rings limit) × AreEmpty limit rs

-- what is kept of the live endpoints and the rings in reserve
pub record IsRingKept (limit : ℕ) (pool : Slots Mailbox) (spare : List RingTable) (capacity : ℕ) : Type 0 where
  pub few : limit ≤ 256
  -- no two live endpoints have one port, and each has the limit
  pub ports : OneEach (λ m. m.port) pool
  pub limits : (h : ℕ) (m : Mailbox) → slot_value pool h ≡ Some m → m.rings.limit ≡ limit
  -- there are rings for every slot without an endpoint
  pub empty : AreEmpty limit spare
  pub count : length spare + live_count pool ≡ max_of pool
  pub room : max_of pool ≤ capacity
