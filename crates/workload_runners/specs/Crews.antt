-- What the threads of a node's callers and workers bring back.
use Rattle.std.specs.Prelude.{◌≡◌, ◌+◌, ◌<◌, ◌≤◌, ◌⊎◌, ℕ, Bool, true, false, suc, List, [], ◌∷◌, ◌++◌, All, Option, None, Result, Ok, Err, IfOk, length, slice_index_or, Vec, vec_len, vec_capacity}
use Rattle.std.specs.List.{AllZip}
use Rattle.std.specs.declared.alloc.Global.{Global}
use Rattle.workload_runners.specs.Names.{StartsWith, entries_of, Op, NodeEntry, Close, Reply, CellView, HasSeenMore, JournaledTerms, fresh_seat, fresh_seats}
use Rattle.mtapi_machine.specs.declared.terms.Terms.{Terms}
use Rattle.workload_runners.specs.Turns.{Seat, SameNodeSeat, AddsOwn, NodeTurned, NodeUnturned}
use Rattle.workload_runners.specs.Rounds.{AtRest}
use Rattle.workload_runners.specs.declared.crew.holder.Held.{Held}
use Rattle.workload_runners.specs.declared.crew.serving.Served.{Served}
use Rattle.workload_runners.specs.declared.crew.end.Ended.{Ended}
use Rattle.workload_runners.specs.declared.crew.callers.UnstartedCallers.{UnstartedCallers}
use Rattle.workload_runners.specs.declared.crew.callers.ReturnedCallers.{ReturnedCallers}
use Rattle.workload_runners.specs.declared.crew.workers.UnstartedThreads.{UnstartedThreads}
use Rattle.workload_runners.specs.declared.crew.workers.Crew.{Crew}

abbrev pub Cell : Type 0
Cell = CellView JournaledTerms

-- what main has seen begins with a history that has all entries of this seat
pub record MainKnows (main s : Seat) : Type 0 where
  pub prefix : List NodeEntry
  pub begins : StartsWith main.seen prefix
  pub own : entries_of s.number prefix ≡ s.mine

-- main met these seats: none made an entry, and main knows what each has done
pub record AreMet (old new : Seat) (before after : List Seat) : Type 0 where
  pub main : HasSeenMore old new
  pub len : length after ≡ length before
  pub others : (k : ℕ) (d e : Seat) → k < length before → HasSeenMore (slice_index_or before k d) (slice_index_or after k e)
  pub knows : All (MainKnows new) after

-- where a start was refused, main closed and made no other call; or the turns were used up, and it made none
abbrev pub GaveUp : Seat → Seat → Type 0
GaveUp old new = ((r : Reply) × NodeTurned old Close r new) ⊎ NodeUnturned old new

-- nothing was given but a seat
abbrev pub is_seat_alone : {A B : Type 0} → Result A B → Bool
is_seat_alone (Ok x) = false
is_seat_alone (Err e) = true

-- this worker's seat came back; unless the turns were used up, it has added such entries
pub record HasServed {A : Type 0} (W : ℕ → List NodeEntry → Type 0) (old : Seat) (o : Served A) : Type 0 where
  pub same : SameNodeSeat old o.seat
  pub did : o.spent ≡ None → AddsOwn W old o.seat

-- this caller's seat came back, and its holder's promise holds of the entries that it has
pub record HasHeld {C T : Type 0} (P : C → Terms → ℕ → T → List NodeEntry → Type 0) (client : C) (old new : Seat) (told : T) : Type 0 where
  pub same : SameNodeSeat old new
  pub kept : P client old.terms.node old.number told new.mine

-- the seats are a new cell's: main's, and one for each client of a further caller; and there is room for what comes back
pub record MayCall {C D U : Type 0} (z : Cell) (h : UnstartedCallers C D U) : Type 0 where
  pub main : h.main ≡ fresh_seat z.terms z.id z.terms.node.settings.workers
  pub seats : h.seats.items ≡ fresh_seats z.terms z.id (z.terms.node.settings.workers + 1) (length h.others.items)
  pub empty : h.room.items ≡ []
  pub untold : h.told.items ≡ []
  pub room : vec_len h.others ≤ vec_capacity h.room
  pub room_told : vec_len h.others ≤ vec_capacity h.told

-- with the seats of a new cell from this number on these clients called, one each; the seats came back, and this was told
abbrev pub EachHeld : {D U : Type 0} → (D → Terms → ℕ → U → List NodeEntry → Type 0) → Cell → ℕ → List D → List Seat → List U → Type 0
EachHeld {D} {U} Q z who [] bs us = (bs ≡ []) × (us ≡ [])
EachHeld {D} {U} Q z who (d ∷ ds) bs us =
    (b : Seat) × (bs' : List Seat) × (u : U) × (us' : List U) × (bs ≡ b ∷ bs') × (us ≡ u ∷ us')
    × HasHeld Q d (fresh_seat z.terms z.id who) b u × EachHeld Q z (suc who) ds bs' us'

-- one more of the further callers came back
pub record IsOneMore {T U : Type 0} (before : ReturnedCallers T U) (c : Held U) (after : ReturnedCallers T U) : Type 0 where
  pub main : after.main ≡ before.main
  pub told : after.told ≡ before.told
  pub seats : after.seats.items ≡ before.seats.items ++ c.seat ∷ []
  pub others : after.others.items ≡ before.others.items ++ c.told ∷ []
  pub len : (vec_len after.seats ≡ vec_len before.seats + 1) × (vec_len after.others ≡ vec_len before.others + 1)
  pub room : (vec_capacity before.seats ≤ vec_capacity after.seats) × (vec_capacity before.others ≤ vec_capacity after.others)

-- main's seat came back, and those of the further callers, each with what its client was told
pub record HaveHeld {C D T U : Type 0} (P : C → Terms → ℕ → T → List NodeEntry → Type 0) (Q : D → Terms → ℕ → U
    → List NodeEntry → Type 0) (z : Cell) (h : UnstartedCallers C D U) (c : ReturnedCallers T U) : Type 0 where
  pub main : HasHeld P h.client h.main c.main c.told
  pub others : EachHeld Q z (z.terms.node.settings.workers + 1) h.others.items c.seats.items c.others.items
  pub len : (vec_len c.seats ≡ vec_len h.others) × (vec_len c.others ≡ vec_len h.others)
  pub room : (vec_capacity h.room ≤ vec_capacity c.seats) × (vec_capacity h.told ≤ vec_capacity c.others)

-- main met these seats, and then made this call, unless the turns were used up
pub record IsEnded (o : Op) (main : Seat) (before : List Seat) (e : Ended) : Type 0 where
  pub met : Seat
  pub meets : AreMet main met before e.others.items
  pub same : SameNodeSeat met e.main
  pub answered : IfOk e.answer (λ r. NodeTurned met o r e.main)

-- main met the further callers, and began the end
pub record IsClosedBy {T U A : Type 0} (before : ReturnedCallers T U) (sets : Vec A Global) (c : Crew T U A) : Type 0 where
  pub told : c.told ≡ before.told
  pub others : c.others ≡ before.others
  pub sets_are : c.sets ≡ sets
  pub room : (vec_len c.seats ≡ vec_len before.seats) × (vec_capacity c.seats ≡ vec_capacity before.seats)
  pub met : Seat
  pub meets : AreMet before.main met before.seats.items c.seats.items
  pub same : SameNodeSeat met c.main
  pub closed : c.spent ≡ None → (r : Reply) × NodeTurned met Close r c.main

-- the callers may call, and the workers' seats are the first of a new cell
pub record AreReady {C D U A : Type 0} (z : Cell) (h : UnstartedThreads C D U A) : Type 0 where
  pub workers : h.workers.items ≡ fresh_seats z.terms z.id 0 (vec_len h.workers)
  pub few : vec_len h.workers ≤ z.terms.node.settings.workers
  pub callers : MayCall z h.callers
  pub none : vec_len h.sets ≡ 0
  pub room : vec_len h.workers + vec_len h.callers.others ≤ vec_capacity h.callers.room
  pub room_sets : vec_len h.workers ≤ vec_capacity h.sets

-- one more worker came back
pub record IsJoined {T U A : Type 0} (before : Crew T U A) (served : Served A) (after : Crew T U A) : Type 0 where
  pub main : after.main ≡ before.main
  pub told : after.told ≡ before.told
  pub others : after.others ≡ before.others
  pub seats : after.seats.items ≡ before.seats.items ++ served.seat ∷ []
  pub len : (vec_len after.seats ≡ vec_len before.seats + 1) × (vec_len after.sets ≡ vec_len before.sets + 1)
  pub room : (vec_capacity before.seats ≤ vec_capacity after.seats) × (vec_capacity before.sets ≤ vec_capacity after.sets)
  pub crew : after.spent ≡ None → before.spent ≡ None
  pub back : after.spent ≡ None → served.spent ≡ None

-- main's part: its holder's promise holds of the seat as it was then; then it met the further callers, and began the end of the node
pub record MainClosed {C T : Type 0} (P : C → Terms → ℕ → T → List NodeEntry → Type 0) (client : C) (old : Seat) (told : T) (callers : List Seat)
    (spent : Option ℕ) (new : Seat) : Type 0 where
  pub held : Seat
  pub did : HasHeld P client old held told
  pub met : Seat
  pub more : HasSeenMore held met
  pub knows : All (MainKnows met) callers
  pub same : SameNodeSeat met new
  pub closed : spent ≡ None → (r : Reply) × NodeTurned met Close r new

-- all seats of main, of the further callers and of so many workers came back: main's, those of the further callers, each with what its client was
-- told, and those of the workers
pub record CameFrom {C D T U A : Type 0} (W : ℕ → List NodeEntry → Type 0) (P : C → Terms → ℕ → T → List NodeEntry → Type 0) (Q : D → Terms → ℕ → U
    → List NodeEntry → Type 0) (z : Cell) (client : C) (others : List D) (n : ℕ) (c : Crew T U A) : Type 0 where
  pub called : List Seat
  pub worked : List Seat
  pub whole : c.seats.items ≡ called ++ worked
  pub main : MainClosed P client (fresh_seat z.terms z.id z.terms.node.settings.workers) c.told called c.spent c.main
  pub callers : EachHeld Q z (z.terms.node.settings.workers + 1) others called c.others.items
  pub workers : AllZip SameNodeSeat (fresh_seats z.terms z.id 0 n) worked
  pub served : c.spent ≡ None → AllZip (AddsOwn W) (fresh_seats z.terms z.id 0 n) worked

-- the same, with a set for each worker
pub record HaveCome {C D T U A : Type 0} (W : ℕ → List NodeEntry → Type 0) (P : C → Terms → ℕ → T → List NodeEntry → Type 0) (Q : D → Terms → ℕ → U
    → List NodeEntry → Type 0) (z : Cell) (h : UnstartedThreads C D U A) (c : Crew T U A) : Type 0 where
  pub came : CameFrom W P Q z h.callers.client h.callers.others.items (vec_len h.workers) c
  pub sets : vec_len c.sets ≡ vec_len h.workers
  pub len : vec_len c.seats ≡ vec_len h.workers + vec_len h.callers.others
  pub room : (vec_capacity h.callers.room ≤ vec_capacity c.seats) × (vec_capacity h.sets ≤ vec_capacity c.sets)

-- all seats of the node came back, with some clients
pub record IsWhole {C D T U A : Type 0} (W : ℕ → List NodeEntry → Type 0) (P : C → Terms → ℕ → T → List NodeEntry → Type 0) (Q : D → Terms → ℕ → U
    → List NodeEntry → Type 0) (z : Cell) (c : Crew T U A) : Type 0 where
  pub client : C
  pub others : List D
  pub came : CameFrom W P Q z client others z.terms.node.settings.workers c
  pub count : z.terms.node.callers ≡ length others + 1

-- the seats of a new cell, dealt to its workers and to these clients
pub record AreDealt {C D U A : Type 0} (z : Cell) (client : C) (others : Vec D Global) (h : UnstartedThreads C D U A) : Type 0 where
  pub ready : AreReady z h
  pub workers : vec_len h.workers ≡ z.terms.node.settings.workers
  pub client_is : h.callers.client ≡ client
  pub others_are : h.callers.others ≡ others
  pub room : vec_len h.workers + vec_len h.callers.others < vec_capacity h.callers.room
