-- A reader and a writer of std, as contracts see them.
use Rattle.std.specs.Prelude.{ℕ, List, Option}

-- the bytes that a reader has left or that a writer holds, where it tells them, and the faults so far
pub record StreamState : Type 0 where
  pub bytes : Option (List ℕ)
  pub faults : ℕ
