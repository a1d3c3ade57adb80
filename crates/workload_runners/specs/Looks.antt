-- What the looks of one call add to a seat's own entries.
use Rattle.std.specs.Prelude.{◌≡◌, ℕ, ◌+◌, ◌<◌, ◌≤◌, ◌^◌, Bool, true, false, List, [], ◌∷◌, ◌++◌, Option, MatchOption, replicate, ◌==◌}
use Rattle.workload_runners.specs.Names.{entry, Reply, Pending, Allows, NodeEntry, after, is_pending, is_timeout, Wanted, journal_legal}
use Rattle.mtapi_machine.specs.Rows.{row}
use Rattle.workload_runs.specs.Wants.{op_of_look}
use Rattle.turn_looks.specs.Looks as looks
use Rattle.workload_runners.specs.Turns.{Seat, SameNodeSeat}
use Rattle.workload_runners.specs.Replies.{is_answer_found}

-- so many looks that found the thing not ready, none of them the last
abbrev pub node_pends : ℕ → Wanted → ℕ → List NodeEntry
node_pends who w n = replicate n (entry who (op_of_look w false) Pending)

-- some looks found the thing not ready, and one more had the answer. Where there is a limit they are at most so many, and the
-- answer came with `last` exactly at the limit; where there is none, no look is the last. TIMEOUT comes with `last` alone, and the
-- status for turns that are used up never. The look with the answer is the last entry of what the seat has seen, and the answer is one that
-- its row allows in the state after all entries before it
pub record NodeLooked (w : Wanted) (limit : Option ℕ) (old new : Seat) (answer : Reply) : Type 0 where
  pub same : SameNodeSeat old new
  pub pending : ℕ
  pub last : Bool
  pub mine : new.mine ≡ old.mine ++ (node_pends old.number w pending ++ entry old.number (op_of_look w last) answer ∷ [])
  pub bound : MatchOption limit (last ≡ false) (λ n. (pending < n) × (last ≡ (pending + 1 == n)))
  pub decides : last ≡ false → is_pending answer ≡ false
  pub late : is_timeout answer ≡ true → last ≡ true
  pub found : is_pending answer ≡ false → is_answer_found w answer ≡ true
  pub front : List NodeEntry
  pub seen : new.seen ≡ front ++ entry old.number (op_of_look w last) answer ∷ []
  pub allowed : Allows (row (after old.terms.node front) old.number (op_of_look w last) answer) answer

-- some looks found the thing not ready, fewer than the limit where there is one, and then the tickets had run out
abbrev pub NodeStillLooking : Wanted → Option ℕ → Seat → Seat → Type 0
NodeStillLooking w limit old new = looks.StillLooking journal_legal (op_of_look w) Pending limit old new
