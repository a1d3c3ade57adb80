-- An endpoint, and the messages that wait there.
use Rattle.std.specs.Prelude.{ℕ, Bool, ◌==◌, nat_lt, List, [], ◌∷◌, ◌++◌, Option, Some, None, if◌then◌else◌}
use Rattle.mcapi_msg.specs.declared.messages.Waiting.{Waiting}

-- the last generation of an endpoint's handle
abbrev pub last_endpoint_generation : ℕ
last_endpoint_generation = 4294967295

-- its port, the seat that opened it, and the messages that wait there, in the order of their sends
pub record Endpoint : Type 0 where
  pub port : ℕ
  pub owner : ℕ
  pub waiting : List Waiting

-- a new endpoint: no message waits
abbrev pub new_endpoint : ℕ → ℕ → Endpoint
new_endpoint port owner = record { port = port; owner = owner; waiting = [] }

abbrev pub has_port : ℕ → Endpoint → Bool
has_port port e = e.port == port

-- a message of this seat, with this priority and these bytes
abbrev pub message_of_seat : ℕ → ℕ → List ℕ → Waiting
message_of_seat sender priority msg = record { sender = sender; priority = priority; msg = msg }

-- of a message and one that may have been sent later, the one that is received first: the later one only where its priority is less
abbrev pub sooner : Waiting → Option Waiting → Waiting
sooner w None = w
sooner w (Some later) = if nat_lt later.priority w.priority then later else w

-- the message that is received first, if any waits: it has the least priority, and among these it was sent first
abbrev pub next_of : List Waiting → Option Waiting
next_of [] = None
next_of (w ∷ ws) = Some (sooner w (next_of ws))

-- the messages without the first one of this priority
abbrev pub without_message : ℕ → List Waiting → List Waiting
without_message priority [] = []
without_message priority (w ∷ ws) = if w.priority == priority then ws else w ∷ without_message priority ws

-- the messages of this priority, in the order of their sends
abbrev pub of_priority : ℕ → List Waiting → List Waiting
of_priority priority [] = []
of_priority priority (w ∷ ws) = if w.priority == priority then w ∷ of_priority priority ws else of_priority priority ws

-- the endpoint with one message more, and without the first one of a priority
abbrev pub with_message : Waiting → Endpoint → Endpoint
with_message w e = record e { waiting = e.waiting ++ w ∷ [] }

abbrev pub with_first_gone : ℕ → Endpoint → Endpoint
with_first_gone priority e = record e { waiting = without_message priority e.waiting }
