-- What is left of a row once conditions before its effect weren't met.
use Rattle.history_law.proofs.Names.{◌≡◌, ℕ, ◌<◌, Bool, false, ◌∙◌, ap, nat_lt, lt-ltb, Reply, State, Row, unless, Allows, after_row, not, nat_tests, arith}

-- the reply is allowed by what is left of the row, which leads to the same state
pub record Goes (s : State) (w : Row) (r : Reply) (v : Row) : Type 0 where
  pub allowed : Allows v r
  pub leads : after_row s w ≡ after_row s v

-- a condition whose reply wasn't given
pub skip : (c : Bool) (x r : Reply) (w : Row) (s : State) → (r ≡ x → ⊥) → Allows (unless c x w) r → Goes s (unless c x w) r w
skip c x r w s e1 e2 = grind (arith, nat_tests)

pub goes_then : (s : State) (u v w : Row) (r : Reply) → Goes s u r v → Goes s v r w → Goes s u r w
goes_then s u v w r g h = record { allowed = h.allowed; leads = g.leads ∙ h.leads }

-- a condition that is known not to be met
pub pass : (c : Bool) (x r : Reply) (w : Row) (s : State) → c ≡ false → Allows (unless c x w) r → Goes s (unless c x w) r w
pass c x r w s e1 e2 = grind (arith, nat_tests)

pub small_not : (w n : ℕ) → w < n → not (nat_lt w n) ≡ false
small_not w n l = ap not (lt-ltb w n l)
