-- What a run gives back, and what it begins with.
use Rattle.std.specs.Prelude.{◌≡◌, ℕ, ◌≤◌, ◌^◌, ◌⊎◌, Bool, true, false, [], ◌∷◌, Result, Err}
use Rattle.workload_runners.specs.Names.{entry, Close, Reply, HasRisen}
use Rattle.workload_runners.specs.declared.run.RunError.{RunError}
use Rattle.workload_runners.specs.declared.run.RunError.TheVariants as error
use Rattle.workload_runners.specs.Turns.{Seat}

-- where a run was refused, the count of refused threads rose; `Spent` shows a ticket word of at least 2^62
abbrev pub Causes : ℕ → ℕ → RunError → Type 0
Causes before after (error.Refused main) = HasRisen before after
Causes before after (error.Spent s) = 2 ^ 62 ≤ s
Causes before after error.Memory = Unit {0}

-- the answer is that a thread was refused
abbrev pub is_refused : {A : Type 0} → Result A RunError → Bool
is_refused (Err (error.Refused main)) = true
is_refused _ = false

-- the seat's own calls have no statement among them: it closed, or made no call
abbrev pub MadeNone : Seat → Type 0
MadeNone s = (s.mine ≡ []) ⊎ ((r : Reply) × (s.mine ≡ entry s.number Close r ∷ []))

-- a run that was refused gives main's seat back, the one behind w workers, which made no statement
abbrev pub GivesMain : ℕ → RunError → Type 0
GivesMain w (error.Refused main) = (main.number ≡ w) × MadeNone main
GivesMain w _ = Unit {0}
