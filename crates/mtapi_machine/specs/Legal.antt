-- Legal histories.
use Rattle.std.specs.Prelude.{◌≤◌, List}
use Rattle.history.specs.declared.entries.Entry.{Entry}
use Rattle.history.specs.Legal as of
use Rattle.history.specs.Legal.{Machine}
use Rattle.mtapi_machine.specs.Names.{IsAnswered, AreNodeSettings}
use Rattle.mtapi_machine.specs.declared.ops.Op.{Op}
use Rattle.mtapi_machine.specs.declared.ops.Op.TheVariants.{Finish}
use Rattle.mtapi_machine.specs.declared.replies.Reply.{Reply}
use Rattle.mtapi_machine.specs.declared.terms.Terms.{Terms}
use Rattle.mtapi_machine.specs.State.{State, opening, seats}
use Rattle.mtapi_machine.specs.Moves.{Move, apply}
use Rattle.mtapi_machine.specs.Row.{Row}
use Rattle.mtapi_machine.specs.Rows.{row}

-- who asked what, and the reply
abbrev pub NodeEntry : Type 0
NodeEntry = Entry Op Reply

-- a `finish` brings what its kind answers
abbrev pub IsHonest : Op → Type 0
IsHonest (Finish task done) = IsAnswered done
IsHonest _ = Unit {0}

-- the node as a machine
abbrev pub node : Machine State Op Reply Move
node = record { seats = seats; honest = IsHonest; row = row; apply = apply }

-- the row of an entry's op
abbrev pub row_of : State → NodeEntry → Row
row_of = of.row_of_entry node

-- the entry may come next: it is by a seat, and the op's row allows the reply
abbrev pub IsNext : State → NodeEntry → Type 0
IsNext = of.MayComeNext node

-- the state after it
abbrev pub next : State → NodeEntry → State
next = of.state_after node

-- each entry may come next in its turn
unfoldable pub LegalFrom : State → List NodeEntry → Type 0
unfolding of.EachMayCome
LegalFrom = of.EachMayCome node

-- the state after all entries
unfoldable pub after_from : State → List NodeEntry → State
unfolding of.after_entries
after_from = of.after_entries node

-- the terms are those of a node: each setting is in its range, and there are 1 to 9 callers; so there are at most 25 seats
pub record Fits (terms : Terms) : Type 0 where
  pub settings : AreNodeSettings terms.settings
  pub some_caller : 1 ≤ terms.callers
  pub callers : terms.callers ≤ 9

-- the list is a legal history of a node with these terms
pub record Legal (terms : Terms) (L : List NodeEntry) : Type 0 where
  pub fits : Fits terms
  pub from : LegalFrom (opening terms) L

-- the state at its end
abbrev pub after : Terms → List NodeEntry → State
after terms L = after_from (opening terms) L
