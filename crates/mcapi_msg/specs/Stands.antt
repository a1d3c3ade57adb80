-- What it means that a post stands for a history.
use Rattle.std.specs.Prelude.{◌≡◌, ℕ, ◌<◌, List, [], ◌∷◌, length}
use Rattle.handle_pool.specs.Issued.{Listed}
use Rattle.handle_pool.specs.Stands.{Stands as SlotsStand}
use Rattle.history.specs.Row.{after_each_move}
use Rattle.mcapi_msg.specs.declared.messages.Waiting.{Waiting}
use Rattle.mcapi_msg.specs.declared.boxes.Mailbox.{Mailbox}
use Rattle.mcapi_msg.specs.declared.ops.MsgOp.{MsgOp}
use Rattle.mcapi_msg.specs.declared.ops.MsgReply.{MsgReply}
use Rattle.mcapi_msg.specs.declared.post.Post.{Post}
use Rattle.mcapi_msg.specs.declared.post.PostTerms.{PostTerms}
use Rattle.mcapi_msg.specs.Endpoints.{last_endpoint_generation, Endpoint, of_priority}
use Rattle.mcapi_msg.specs.Row.{MsgState, apply_msg_move, Allows, moves_of}
use Rattle.mcapi_msg.specs.Rows.{msg_row}
use Rattle.mcapi_msg.specs.Rings.{RingTable}
use Rattle.mcapi_msg.specs.Legal.{MsgEntry, MsgLegal, msg_after}

-- the waiting messages of each priority, in the order of their sends
abbrev pub rings_of : ℕ → List Waiting → RingTable
rings_of limit ws = record {
  limit = limit;
  first = of_priority 0 ws;
  second = of_priority 1 ws;
  third = of_priority 2 ws;
  fourth = of_priority 3 ws;
}

-- the endpoint as the code keeps it: the same port and owner, and for each priority the same waiting messages in their order
abbrev pub kept_as : ℕ → Endpoint → Mailbox
kept_as limit e = record { port = e.port; owner = e.owner; rings = rings_of limit e.waiting }

-- the same objects with other fields
unfoldable pub relisted : {A B : Type 0} → (A → B) → List (Listed A) → List (Listed B)
relisted f [] = []
relisted f (r ∷ rs) = record { handle = r.handle; live = r.live; fields = f r.fields } ∷ relisted f rs

-- each of these messages has a priority below 4
abbrev pub HavePriorities : List Waiting → Type 0
HavePriorities [] = Unit {0}
HavePriorities (w ∷ ws) = (w.priority < 4) × HavePriorities ws

-- the same of all messages at these endpoints
abbrev pub AreInRange : List (Listed Endpoint) → Type 0
AreInRange [] = Unit {0}
AreInRange (r ∷ rs) = HavePriorities r.fields.waiting × AreInRange rs

-- what no op changes
abbrev pub post_terms_of : Post → PostTerms
post_terms_of p = record { seats = p.seats; endpoints = length p.boxes.pool.slots; limit = p.boxes.limit }

-- the slots of the post stand for these endpoints
pub record HoldsEndpoints (p : Post) (l : List (Listed Endpoint)) : Type 0 where
  pub slots : SlotsStand p.boxes.pool (relisted (kept_as p.boxes.limit) l)
  pub generations : p.boxes.pool.generations ≡ last_endpoint_generation
  pub priorities : AreInRange l

abbrev pub post_state_of : Post → List (Listed Endpoint) → MsgState
post_state_of p l = record { terms = post_terms_of p; endpoints = l }

-- the step from p to q, with these endpoints then, is one of the machine's
pub record PostStepsTo (p : Post) (l : List (Listed Endpoint)) (who : ℕ) (op : MsgOp) (r : MsgReply) (q : Post) (k : List (Listed Endpoint)) : Type 0 where
  pub allowed : Allows (msg_row (post_state_of p l) who op r) r
  pub leads : after_each_move apply_msg_move (moves_of (msg_row (post_state_of p l) who op r)) (post_state_of p l) ≡ post_state_of p k
  pub holds : HoldsEndpoints q k
  pub terms : post_terms_of q ≡ post_terms_of p

abbrev pub PostSteps : Post → List (Listed Endpoint) → ℕ → MsgOp → MsgReply → Post → Type 0
PostSteps p l who op r q = (k : List (Listed Endpoint)) × PostStepsTo p l who op r q k

-- the post stands for the list: it is legal, and leads to the endpoints that the post holds
pub record PostStands (p : Post) (L : List MsgEntry) : Type 0 where
  pub legal : MsgLegal (post_terms_of p) L
  pub holds : HoldsEndpoints p (msg_after (post_terms_of p) L).endpoints

-- how many seats these terms give
abbrev pub post_seats : PostTerms → ℕ
post_seats t = t.seats

-- the terms of a small post
abbrev pub some_post_terms : PostTerms
some_post_terms = record { seats = 1; endpoints = 1; limit = 1 }
