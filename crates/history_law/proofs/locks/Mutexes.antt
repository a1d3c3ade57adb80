-- What an entry does to the mutex of one handle, and what that leaves of its owner.
use Rattle.history_law.proofs.Names.{◌≡◌, ℕ, ◌+◌, ◌<◌, ◌≤◌, Bool, true, false, cond, Option, Some, None, ◌⊎◌, refl, arith, ◌==◌, ◌&&◌, not, nat_lt, is_some, nat_tests, is_seat, is_other, Mutex, new_mutex, locked_by, unlocked}
use Rattle.history_law.proofs.lists.Counts.{one_if}
use Rattle.history_law.proofs.tallies.Ties.{Owns}

-- by an entry of this seat, of a node with n workers: a caller's look got the mutex, or a caller gave it back; and a tally got it, or
-- gave it back, which only an end of a tally may do (`ending`)
pub data Step (who n : ℕ) (ending : Bool) : Option Mutex → Option Mutex → Bool → Bool → Type 0 where
  stays : (o : Option Mutex) → Step who n ending o o false false
  made : (id : ℕ) (recursive : Bool) → Step who n ending None (Some (new_mutex id recursive)) false false
  taken : (m : Mutex) → is_other who m.owner ≡ false → nat_lt who n ≡ false → Step who n ending (Some m) (Some (locked_by who m)) true false
  given : (m : Mutex) → is_seat who m.owner ≡ true → 1 ≤ m.depth → nat_lt who n ≡ false → Step who n ending (Some m) (Some (unlocked m)) false true
  gone : (m : Mutex) → is_some m.owner ≡ false → Step who n ending (Some m) None false false
  got : (m : Mutex) → is_some m.owner ≡ false → nat_lt who n ≡ true → Step who n ending (Some m) (Some (locked_by who m)) false false
  back : (m : Mutex) → ending ≡ true → m.owner ≡ Some who → m.depth ≡ 1 → nat_lt who n ≡ true → Step who n ending (Some m) (Some (unlocked m)) false false

-- a mutex that nobody owns has depth 0
abbrev pub Free : Option Mutex → Type 0
Free None = Unit {0}
Free (Some m) = is_some m.owner ≡ false → m.depth ≡ 0

pub free_step : (who n : ℕ) (b : Bool) (o p : Option Mutex) (x y : Bool) → Step who n b o p x y → Free o → Free p
free_step who n b o p x y e1 e2 = grind (arith, nat_tests)

-- a worker that owns the mutex goes on owning it, unless it ends its tally
pub owns_step : (who n w id : ℕ) (b : Bool) (o p : Option Mutex) (x y : Bool) → Step who n b o p x y → w < n → Owns w id o
    → Owns w id p ⊎ ((b ≡ true) × (w ≡ who))
owns_step who n w id b o p x y e1 e2 e3 = grind (arith, nat_tests)

-- How often a caller holds it

-- its depth, where this seat is a caller's and owns it
abbrev pub share_of : ℕ → ℕ → Mutex → ℕ
share_of n w m = cond (is_seat w m.owner && not (nat_lt w n)) m.depth 0

abbrev pub share : ℕ → ℕ → Option Mutex → ℕ
share n w None = 0
share n w (Some m) = share_of n w m

pub share_step : (who n w : ℕ) (b : Bool) (o p : Option Mutex) (x y : Bool) → Free o → Step who n b o p x y
    → share n w p + one_if ((who == w) && y) ≡ share n w o + one_if ((who == w) && x)
share_step who n w b _ _ _ _ f (stays o) = refl
share_step who n w b _ _ _ _ f (made id r) = refl
share_step who n w b _ _ _ _ f (taken m c l) = grind (arith, nat_tests)
share_step who n w b _ _ _ _ f (given m c h l) = grind (arith, nat_tests)
share_step who n w b _ _ _ _ f (gone m c) = grind (arith, nat_tests)
share_step who n w b _ _ _ _ f (got m c l) = grind (arith, nat_tests)
share_step who n w b _ _ _ _ f (back m t c k l) = grind (arith, nat_tests)

-- a seat with a share owns it
pub share_owner : (n w : ℕ) (o : Option Mutex) → 1 ≤ share n w o → (m : Mutex) × (o ≡ Some m) × (m.owner ≡ Some w)
share_owner n w o e1 = grind (arith, nat_tests)
