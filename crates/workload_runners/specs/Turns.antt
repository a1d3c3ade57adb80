-- Turns of a seat of a cell over a node with a journal.
use Rattle.std.specs.Prelude.{◌≡◌, ℕ, List, ◌++◌}
use Rattle.workload_runners.specs.Names.{SeatView, Op, Reply, NodeEntry, journal_legal, JournaledTerms}
use Rattle.turn_looks.specs.Turns as looks

-- a seat of such a cell
abbrev pub Seat : Type 0
Seat = SeatView JournaledTerms Op Reply

-- the same seat of the same cell
abbrev pub SameNodeSeat : Seat → Seat → Type 0
SameNodeSeat old new = looks.SameSeat old new

-- the seat made one turn: the op and its reply come behind what other seats did since its last one, and the list is legal
abbrev pub NodeTurned : Seat → Op → Reply → Seat → Type 0
NodeTurned old o r new = looks.Turned journal_legal old o r new

-- the turns were used up, and nothing was added
abbrev pub NodeUnturned : Seat → Seat → Type 0
NodeUnturned old new = looks.Unturned old new

-- the seat added entries of its own, which for its number are as R says
pub record AddsOwn (R : ℕ → List NodeEntry → Type 0) (old new : Seat) : Type 0 where
  pub same : SameNodeSeat old new
  pub own : List NodeEntry
  pub mine : new.mine ≡ old.mine ++ own
  pub is : R old.number own
