-- Totals over the views.
use Rattle.turn_cell.proofs.Names.{◌≡◌, ◌≢◌, ℕ, zero, suc, ◌+◌, ◌≤◌, ◌==◌, List, [], ◌∷◌, ◌++◌, set, sym, refl, ap, arith, eq-eqb, ne_eqb, some, some-injective, some-ne-none, get_elem?, total_by, AllItems, one_if}

pub one_same : (a b : ℕ) → a ≡ b → one_if (a == b) ≡ 1
one_same a b e = ap one_if (eq-eqb a b e)

pub one_other : (a b : ℕ) → a ≢ b → one_if (a == b) ≡ 0
one_other a b ne = ap one_if (ne_eqb a b ne)

pub other_if : (a b : ℕ) → one_if (a == b) ≡ 0 → a ≢ b
other_if a b z e = let one = one_same a b e in absurd (omega arith)

module _ {A : Type 0} where
  pub total-set : (f : A → ℕ) (l : List A) (i : ℕ) (v w : A) → get_elem? l i ≡ some v → total_by f (set l i w) + f v ≡ total_by f l + f w
  total-set f [] i v w e = absurd (some-ne-none v (sym e))
  total-set f (x ∷ xs) zero v w e = let same : f x ≡ f v = ap f (some-injective x v e) in omega arith
  total-set f (x ∷ xs) (suc i) v w e = let rest = total-set f xs i v w e in omega arith

  pub part_of_total : (f : A → ℕ) (l : List A) (i : ℕ) (v : A) → get_elem? l i ≡ some v → f v ≤ total_by f l
  part_of_total f [] i v e = absurd (some-ne-none v (sym e))
  part_of_total f (x ∷ xs) zero v e = let same : f x ≡ f v = ap f (some-injective x v e) in omega arith
  part_of_total f (x ∷ xs) (suc i) v e = let rest = part_of_total f xs i v e in omega arith

  pub two_of_total : (f : A → ℕ) (l : List A) (i j : ℕ) (v w : A) → i ≢ j → get_elem? l i ≡ some v → get_elem? l j ≡ some w → f v + f w ≤ total_by f l
  two_of_total f [] i j v w ne e g = absurd (some-ne-none v (sym e))
  two_of_total f (x ∷ xs) zero zero v w ne e g = absurd (ne refl)
  two_of_total f (x ∷ xs) zero (suc j) v w ne e g = let same : f x ≡ f v = ap f (some-injective x v e) in let rest = part_of_total f xs j w g in omega arith
  two_of_total f (x ∷ xs) (suc i) zero v w ne e g = let same : f x ≡ f w = ap f (some-injective x w g) in let rest = part_of_total f xs i v e in omega arith
  two_of_total f (x ∷ xs) (suc i) (suc j) v w ne e g = let rest = two_of_total f xs i j v w (λ h. ne (ap suc h)) e g in omega arith

  pub total-le : (f g : A → ℕ) (l : List A) → ((x : A) → f x ≤ g x) → total_by f l ≤ total_by g l
  total-le f g [] h = omega arith
  total-le f g (x ∷ xs) h = let here = h x in let rest = total-le f g xs h in omega arith

  pub total-append : (f : A → ℕ) (l m : List A) → total_by f (l ++ m) ≡ total_by f l + total_by f m
  total-append f [] m = omega arith
  total-append f (x ∷ xs) m = let rest = total-append f xs m in omega arith

  pub all_zero : (f : A → ℕ) (l : List A) → total_by f l ≡ 0 → AllItems (λ x. f x ≡ 0) l
  all_zero f [] h = tt
  all_zero f (x ∷ xs) h = (omega arith, all_zero f xs (omega arith))

  pub all_both : (F G H : A → Type 0) (l : List A) → ((x : A) → F x → G x → H x) → AllItems F l → AllItems G l → AllItems H l
  all_both F G H [] h a b = tt
  all_both F G H (x ∷ xs) h a b = (h x a.0 b.0, all_both F G H xs h a.1 b.1)
