-- What holds after an entry whose reply passes a test.
use Rattle.history_law.proofs.Names.{nat_tests, arith, ◌≡◌, Bool, true, false, cond, Some, None, refl, ◌||◌}

pub true_false : {A : Type 0} {b : Bool} → b ≡ true → b ≡ false → A
true_false e f = absurd (cc)

-- by whether a test holds
pub whether : {A : Type 0} (b : Bool) → (b ≡ true → A) → (b ≡ false → A) → A
whether b e1 e2 = grind (arith, nat_tests)

-- the same of what speaks of the test
pub on_test : (P : Bool → Type 0) (b : Bool) → (b ≡ true → P true) → (b ≡ false → P false) → P b
on_test P b e1 e2 = grind (arith, nat_tests)

pub none_some : {A B : Type 0} {x : A} → None ≡ Some x → B
none_some e = absurd (cc)

-- where an alternative isn't met, neither part is
pub first_false : (a b : Bool) → (a || b) ≡ false → a ≡ false
first_false a b e1 = grind (arith, nat_tests)

pub second_false : (a b : Bool) → (a || b) ≡ false → b ≡ false
second_false a b e1 = grind (arith, nat_tests)

pub none_first : (a b : Bool) → cond a true b ≡ false → (a ≡ false) × (b ≡ false)
none_first true b e = true_false refl e
none_first false b e = (refl, e)
