-- A worked history of two tallies: on a node with two workers they add 5 and 7 to one cell under one mutex, and the node is closed.
use Rattle.std.specs.Prelude.{◌≡◌, ℕ, true, false, List, [], ◌∷◌, ◌++◌, ℤ, pos, Some}
use Rattle.mtapi_values.specs.declared.kinds.Kind.TheVariants as kind
use Rattle.history_law.specs.Names.{Completed, entry, Segment, cell_of, Terms, Op, Reply, NodeEntry, Legal, after, node_of, h1, h2, action_of, start, picked}
use Rattle.mtapi_machine.specs.declared.ops.Op.TheVariants as op
use Rattle.mtapi_machine.specs.declared.replies.Reply.TheVariants as reply
use Rattle.mtapi_machine.specs.Tables.{task}
use Rattle.history_law.specs.Words.{some_entry}
use Rattle.history_law.specs.Tally.{record_of, sum_of, number_added, writes_to, NamesOneMutex}

-- a node with two workers; main has the seat behind them
abbrev pub two_workers : Terms
two_workers = node_of 2 4 2

-- an entry of main
abbrev pub asks_of_main : Op → Reply → NodeEntry
asks_of_main o r = entry 2 o r

-- the arguments: the mutex 1, the segment 2, the cell 0, and a number
abbrev pub adds_number : ℤ → List ℤ
adds_number z = pos 1 ∷ pos 2 ∷ pos 0 ∷ z ∷ []

-- a worker's tally gets its mutex and its segment; it reads the one number, writes the other, and ends
abbrev pub gets_both : ℕ → ℕ → NodeEntry
gets_both w h = entry w (op.TallyLock (task h)) (reply.Asked true)

abbrev pub adds_up : ℕ → ℕ → ℤ → ℤ → List NodeEntry
adds_up w h before then =
    entry w (op.TallyRead (task h)) (reply.Number before) ∷ entry w (op.TallyWrite (task h) then) reply.Ok
    ∷ entry w (op.TallyEnd (task h)) (reply.Ended (Completed (then ∷ []))) ∷ []

-- the node opens, both tallies are started, and each worker takes one
abbrev pub tallies_begin : List NodeEntry
tallies_begin =
    asks_of_main op.Initialize reply.Ok
    ∷ asks_of_main (action_of kind.Tally) (reply.Handle h1)
    ∷ asks_of_main (op.MutexCreate 1 false) (reply.Handle h1)
    ∷ asks_of_main (op.ShmemCreate 2 1) (reply.Handle h1)
    ∷ asks_of_main (start (adds_number (pos 5))) (reply.Handle h1)
    ∷ asks_of_main (start (adds_number (pos 7))) (reply.Handle h2)
    ∷ entry 0 op.Pick (picked h1 kind.Tally (adds_number (pos 5)))
    ∷ entry 1 op.Pick (picked h2 kind.Tally (adds_number (pos 7)))
    ∷ []

-- the second tally finds the mutex owned, and the first one adds 5
abbrev pub waits_between : List NodeEntry
waits_between = entry 1 (op.TallyLock (task h2)) reply.Pending ∷ adds_up 0 h1 (pos 0) (pos 5)

-- main closes the node, and both workers stop
abbrev pub closes : List NodeEntry
closes = asks_of_main op.Close reply.Ok ∷ entry 0 op.Pick reply.Stop ∷ entry 1 op.Pick reply.Stop ∷ []

-- the whole history: then the second tally adds 7
unfoldable pub two_tallies : List NodeEntry
two_tallies = tallies_begin ++ gets_both 0 h1
    ∷ (waits_between ++ gets_both 1 h2 ∷ (adds_up 1 h2 (pos 5) (pos 12) ++ (closes ++ asks_of_main op.Final reply.Ok ∷ [])))

-- it is legal and has what the law of tallies asks for; so the cell holds 12, the sum of both
pub record TalliesAddUp : Type 0 where
  pub legal : Legal two_workers two_tallies
  pub one_mutex : NamesOneMutex two_workers two_tallies h1 0 1
  pub no_write : some_entry (writes_to h1 0) two_tallies ≡ false
  pub segment : Segment
  pub found : record_of (after two_workers two_tallies).segments h1 ≡ Some segment
  pub holds : cell_of 0 segment ≡ pos 12
  pub sum : sum_of (number_added h1 0) (after two_workers two_tallies).tasks ≡ pos 12
