-- Sums over a list, and facts of each of its items.
use Rattle.std.specs.Prelude.{ℕ, ◌+◌, Bool, cond, List, [], ◌∷◌}

-- f of each item, added up
abbrev pub total_by : {A : Type 0} → (A → ℕ) → List A → ℕ
total_by f [] = 0
total_by f (x ∷ xs) = f x + total_by f xs

-- F holds of each item
abbrev pub AllItems : {A : Type 0} → (A → Type 0) → List A → Type 0
AllItems F [] = Unit {0}
AllItems F (x ∷ xs) = F x × AllItems F xs

-- 1 where it is so, and else 0
abbrev pub one_if : Bool → ℕ
one_if b = cond b 1 0
