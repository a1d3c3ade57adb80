-- What a caller's seat does: it comes into the node, has its client call, and makes further calls.
use Rattle.std.specs.Prelude.{◌≡◌, ◌<◌, ◌^◌, ◌⊎◌, ℕ, Bool, true, false, List, [], ◌∷◌, ◌++◌, take, length, replicate, Result, Ok, Err}
use Rattle.history.specs.Histories.{StartsWith, entry, entries_of}
use Rattle.mtapi_values.specs.declared.statuses.MtapiStatus.{MtapiStatus}
use Rattle.mtapi_machine.specs.declared.ops.Op.{Op}
use Rattle.mtapi_machine.specs.declared.ops.Op.TheVariants.{Initialize, Release, Enter}
use Rattle.mtapi_machine.specs.declared.replies.Reply.TheVariants as reply
use Rattle.mtapi_machine.specs.declared.terms.Terms.{Terms}
use Rattle.mtapi_machine.specs.Legal.{NodeEntry, Legal}
use Rattle.workload_runners.specs.Turns.{Seat, SameNodeSeat}
use Rattle.workload_runners.specs.Runs.{MadeNone}
use Rattle.workload_runners.specs.declared.crew.holder.Held.{Held}
use Rattle.node_with_workers.specs.declared.failure.Failure.{Failure}
use Rattle.node_with_workers.specs.declared.failure.Failure.TheVariants as failure
use Rattle.node_with_workers.specs.declared.failure.NodeFailure.{NodeFailure}
use Rattle.node_with_workers.specs.declared.failure.NodeFailure.TheVariants as node

-- the seat's entries begin with those that it had
abbrev pub SeatGoesOn : Seat → Seat → Type 0
SeatGoesOn old new = take (length old.mine) new.mine ≡ old.mine

-- whatever the seat's entries began with, they begin with still: what a function of a client says that is passed the caller
abbrev pub StillBegins : Seat → Seat → Type 0
StillBegins old new = (had : List NodeEntry) → take (length had) old.mine ≡ had → take (length had) new.mine ≡ had

-- main opened the node, let the further callers in, and made no other call
abbrev pub MainOpens : ℕ → List NodeEntry → Type 0
MainOpens who es = es ≡ entry who Initialize reply.Ok ∷ entry who Release reply.Ok ∷ []

-- a further caller looked until it was let in, and made no other call
abbrev pub CallerEnters : ℕ → List NodeEntry → Type 0
CallerEnters who es = (looks : ℕ) × (es ≡ replicate looks (entry who Enter reply.Pending) ++ entry who Enter reply.Ok ∷ [])

-- These are all entries of a caller of a node with these terms. By the first of them its seat came in, and the others are those of its client's
-- calls: the client's promise holds of the seat before its calls and after them, and of what it was told.
pub record HasCalled {C T : Type 0} (opens : ℕ → List NodeEntry → Type 0) (promise : C → Seat → Seat → T
    → Type 0) (client : C) (t : Terms) (who : ℕ) (told : T) (es : List NodeEntry) : Type 0 where
  pub before : Seat
  pub number : before.number ≡ who
  pub terms : before.terms.node ≡ t
  pub opened : opens who before.mine
  pub after : Seat
  pub same : SameNodeSeat before after
  pub goes_on : StartsWith after.mine before.mine
  pub promised : promise client before after told
  pub all : es ≡ after.mine

-- a caller that has made these calls asked this and was answered the status, in a legal history of a node with these terms
pub record IsCallRefused (t : Terms) (who : ℕ) (es : List NodeEntry) (o : Op) (status : MtapiStatus) : Type 0 where
  pub history : List NodeEntry
  pub own : entries_of who history ≡ es
  pub legal : Legal t (history ++ entry who o (reply.Mtapi status) ∷ [])

-- main asked this node to open, or to let the further callers in once it was open, and was answered the status
abbrev pub IsNotOpened : Terms → ℕ → MtapiStatus → Type 0
IsNotOpened t who status = IsCallRefused t who [] Initialize status ⊎ IsCallRefused t who (entry who Initialize reply.Ok ∷ []) Release status

-- a further caller looked until it was answered the status, in a legal history of a node with these terms, and made no other call
pub record IsKeptOut (t : Terms) (who : ℕ) (status : MtapiStatus) : Type 0 where
  pub history : List NodeEntry
  pub legal : Legal t history
  pub looks : ℕ
  pub own : entries_of who history ≡ replicate looks (entry who Enter reply.Pending) ++ entry who Enter (reply.Mtapi status) ∷ []

-- this holds of the status of a refusal
abbrev pub IfRefused : Failure → (MtapiStatus → Type 0) → Type 0
IfRefused (failure.Refused status) P = P status
IfRefused _ P = Unit {0}

-- where the failure is a refusal it has this status, and the turns shown to the seat weren't used up
abbrev pub SaysOf : Seat → MtapiStatus → Failure → Type 0
SaysOf seat status f = IfRefused f (λ s. (s ≡ status) × (seat.shown < 2 ^ 62))

-- it isn't that a thread was refused
abbrev pub HasThreads : Failure → Type 0
HasThreads (failure.NoThread shown) = ⊥
HasThreads _ = Unit {0}

-- what main was told, and its entries: its client was told this and these are all of them, or main couldn't open the node
abbrev pub Opens : {C T : Type 0} → (C → Seat → Seat → T → Type 0) → C → Terms → ℕ → Result T Failure → List NodeEntry → Type 0
Opens promise client t who (Ok told) es = HasCalled MainOpens promise client t who told es
Opens promise client t who (Err f) es = HasThreads f × IfRefused f (IsNotOpened t who)

-- the same of a further caller, which wasn't let in if its client made no call
abbrev pub Enters : {D U : Type 0} → (D → Seat → Seat → U → Type 0) → D → Terms → ℕ → Result U Failure → List NodeEntry → Type 0
Enters promise client t who (Ok told) es = HasCalled CallerEnters promise client t who told es
Enters promise client t who (Err f) es = HasThreads f × IfRefused f (IsKeptOut t who)

-- main's seat came back, and why the node wasn't opened
pub record IsUnopened {T : Type 0} (seat : Seat) (status : MtapiStatus) (h : Held (Result T Failure)) : Type 0 where
  pub same : SameNodeSeat seat h.seat
  pub failure : Failure
  pub told : h.told ≡ Err failure
  pub started : HasThreads failure
  pub says : SaysOf seat status failure

-- this seat is main's, behind so many workers, and its client made no call
abbrev pub MadeNoCall : ℕ → Seat → Type 0
MadeNoCall workers main = (main.number ≡ workers) × MadeNone main

-- where a thread was refused, main's client made no call
abbrev pub IfNoThread : Failure → ℕ → Type 0
IfNoThread (failure.NoThread shown) workers = MadeNoCall workers shown.main
IfNoThread _ workers = Unit {0}

-- the same where the threads were started by what was handed in
abbrev pub IsUnbegun : ℕ → NodeFailure → Type 0
IsUnbegun workers (node.NoThread main) = MadeNoCall workers main
IsUnbegun workers (node.Failed f) = IfNoThread f workers

-- where no thread was refused, this holds of the failure
abbrev pub IfFailed : NodeFailure → (Failure → Type 0) → Type 0
IfFailed (node.NoThread main) P = Unit {0}
IfFailed (node.Failed f) P = P f

-- the failure is that a thread was refused
abbrev pub is_no_thread : NodeFailure → Bool
is_no_thread (node.NoThread main) = true
is_no_thread (node.Failed f) = false

-- the answer is that a thread was refused
abbrev pub is_thread_refused : {A : Type 0} → Result A NodeFailure → Bool
is_thread_refused (Ok done) = false
is_thread_refused (Err e) = is_no_thread e
