-- The list of one kind of object as its pool has it: the handles may be others, and the fields fewer.
use Rattle.std.specs.Prelude.{◌≡◌, ℕ, Bool, List, [], ◌∷◌}
use Rattle.handle_pool.specs.Issued.{Listed}

module _ {M T : Type 0} (g : ℕ → ℕ) (f : ℕ → M → T) where
  -- the object with the pool's handle, and what the pool keeps of its fields
  abbrev pub turned : Listed M → Listed T
  turned r = record { handle = g r.handle; live = r.live; fields = f r.handle r.fields }

  -- each object of the list so, in its order
  unfoldable pub inside : List (Listed M) → List (Listed T)
  inside [] = []
  inside (r ∷ rs) = turned r ∷ inside rs

  -- no other handle of the list becomes what this handle becomes
  abbrev pub Apart : ℕ → List (Listed M) → Type 0
  Apart h [] = Unit {0}
  Apart h (r ∷ rs) = (g r.handle ≡ g h → r.handle ≡ h) × Apart h rs

  -- two tests that agree on each object of the list
  abbrev pub Agree : (Listed T → Bool) → (Listed M → Bool) → List (Listed M) → Type 0
  Agree p q [] = Unit {0}
  Agree p q (r ∷ rs) = (p (turned r) ≡ q r) × Agree p q rs
