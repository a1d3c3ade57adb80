-- What the entries of a seat are worth in a legal history: its part of a run, said of the whole history.
use Rattle.std.specs.Prelude.{ℕ, Bool, true, false, List, [], ◌∷◌}
use Rattle.workload_runners.specs.Names.{entry, entries_of, Statement, Reply, Ok, State, NodeEntry, LegalFrom, Form, MainRan, CallerRan, in_turns, WorkerBy, OnceListed}
use Rattle.mtapi_machine.specs.declared.ops.Op.TheVariants as op
use Rattle.workload_runs.specs.Turns.{turns_of}
use Rattle.workload_runners.specs.Rounds.{WorkerAs}
use Rattle.workload_runners.specs.Carries.{MadeAs, EntersAs}

-- main initializes, and releases at once where no statement does
abbrev pub head_entries : ℕ → Bool → List NodeEntry
head_entries w true = entry w op.Initialize Ok ∷ []
head_entries w false = entry w op.Initialize Ok ∷ entry w op.Release Ok ∷ []

-- what a seat makes whose calls of the phase were done, told by its entries
abbrev pub in_entries : ℕ → Form NodeEntry
in_entries w = record { made = MadeAs w; head = head_entries w; tail = entry w op.Close Ok ∷ entry w op.Final Ok ∷ []; entrance = EntersAs Ok w }

-- what main's entries tell of its part, its turns tell too
abbrev pub MainTurns : Type 0
MainTurns = (w : ℕ) (ss : List Statement) (rs : List Reply) (s : State) (H : List NodeEntry) → OnceListed s → LegalFrom s H
    → MainRan (in_entries w) ss (entries_of w H) rs → MainRan in_turns ss (turns_of w s H) rs

abbrev pub CallerTurns : Type 0
CallerTurns = (w : ℕ) (ss : List Statement) (rs : List Reply) (s : State) (H : List NodeEntry) → OnceListed s → LegalFrom s H
    → CallerRan (in_entries w) ss (entries_of w H) rs → CallerRan in_turns ss (turns_of w s H) rs

abbrev pub WorkerTurns : Type 0
WorkerTurns = (w : ℕ) (s : State) (H : List NodeEntry) → WorkerAs w (entries_of w H) → WorkerBy (turns_of w s H)
