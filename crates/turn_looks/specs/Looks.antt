-- What the looks of one call add to a seat's own entries.
use Rattle.std.specs.Prelude.{◌≡◌, ◌≢◌, ℕ, ◌+◌, ◌<◌, ◌≤◌, ◌^◌, ◌==◌, Bool, false, List, [], ◌∷◌, ◌++◌, Option, MatchOption, replicate}
use Rattle.history.specs.declared.entries.Entry.{Entry}
use Rattle.history.specs.Histories.{entry}
use Rattle.turn_cell.specs.Seats.{SeatView}
use Rattle.turn_looks.specs.Turns.{SameSeat, Turned}

module _ {T P Q : Type 0} (legal : T → List (Entry P Q) → Type 0) (op_of : Bool → P) (waits : Q) where
  -- so many looks of this seat that found the thing not ready, none of them the last
  abbrev pub pends : ℕ → ℕ → List (Entry P Q)
  pends who n = replicate n (entry who (op_of false) waits)

  -- the seat made these looks, and nothing else
  pub record Pended (old : SeatView T P Q) (n : ℕ) (new : SeatView T P Q) : Type 0 where
    pub same : SameSeat old new
    pub mine : new.mine ≡ old.mine ++ pends old.number n

  -- some looks found the thing not ready, and one more had the answer. Where there is a limit they are at most so many, and the
  -- answer came with `last` exactly at the limit; where there is none, no look is the last. Without `last` the answer isn't "not yet"
  pub record Looked (limit : Option ℕ) (old new : SeatView T P Q) (answer : Q) : Type 0 where
    pub pending : ℕ
    pub last : Bool
    pub before : SeatView T P Q
    pub pended : Pended old pending before
    pub turned : Turned legal before (op_of last) answer new
    pub mine : new.mine ≡ old.mine ++ (pends old.number pending ++ entry old.number (op_of last) answer ∷ [])
    pub bound : MatchOption limit (last ≡ false) (λ n. (pending < n) × (last ≡ (pending + 1 == n)))
    pub decides : last ≡ false → answer ≢ waits

  -- some looks found the thing not ready, fewer than the limit where there is one, and then the tickets had run out
  pub record StillLooking (limit : Option ℕ) (old new : SeatView T P Q) : Type 0 where
    pub pending : ℕ
    pub pended : Pended old pending new
    pub bound : MatchOption limit (Unit {0}) (λ n. pending < n)
    pub shown : 2 ^ 62 ≤ new.shown
