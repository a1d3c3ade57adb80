-- Marks that are all set, walked one after another.
use Rattle.node_steps.proofs.Names.{◌≡◌, ◌==◌, ℕ, zero, suc, ◌+◌, ◌-◌, ◌<◌, ◌≤◌, Bool, true, false, List, [], ◌∷◌, length, drop, refl, ◌∙◌, ap, arith, slice_index_or, nat_tests, all_marked}

at_end : (left : ℕ) → all_marked left [] ≡ (left == 0)
at_end zero = refl
at_end (suc n) = grind (arith, nat_tests)

-- what is left of a list at a place, where the list has it
opened : (marks : List Bool) (i : ℕ) → i < length marks → drop i marks ≡ slice_index_or marks i false ∷ drop (suc i) marks
opened [] i l = absurd (omega arith)
opened (b ∷ bs) zero l = refl
opened (b ∷ bs) (suc i) l = opened bs i (omega arith)

closed : (marks : List Bool) (i : ℕ) → length marks ≤ i → drop i marks ≡ []
closed [] zero l = refl
closed [] (suc i) l = refl
closed (b ∷ bs) zero l = absurd (omega arith)
closed (b ∷ bs) (suc i) l = closed bs i (omega arith)

one_less : (left : ℕ) (b : Bool) (bs : List Bool) → (left ≡ 0 → ⊥) → b ≡ true → all_marked left (b ∷ bs) ≡ all_marked (left - 1) bs
one_less left b bs e1 e2 = grind (arith, nat_tests)

unmarked : (left : ℕ) (b : Bool) (bs : List Bool) → (left ≡ 0 → ⊥) → b ≡ false → all_marked left (b ∷ bs) ≡ false
unmarked left b bs e1 e2 = grind (arith, nat_tests)

module _ (n left i : ℕ) (marks : List Bool) where
  pub marks_false : i < length marks → (left ≡ 0 → ⊥) → slice_index_or marks i false ≡ false → all_marked n marks ≡ all_marked left (drop i marks)
      → all_marked n marks ≡ false
  marks_false l z e h = h ∙ (ap (all_marked left) (opened marks i l) ∙ unmarked left _ (drop (suc i) marks) z e)

  pub marks_true : i < length marks → (left ≡ 0 → ⊥) → slice_index_or marks i false ≡ true → all_marked n marks ≡ all_marked left (drop i marks)
      → all_marked n marks ≡ all_marked (left - 1) (drop (i + 1) marks)
  marks_true e1 e2 e3 e4 = grind (arith, nat_tests, all_marked, opened, one_less)

  pub marks_end : length marks ≤ i → all_marked n marks ≡ all_marked left (drop i marks) → all_marked n marks ≡ (left == 0)
  marks_end l h = h ∙ (ap (all_marked left) (closed marks i l) ∙ at_end left)
