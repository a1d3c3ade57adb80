-- What is found in a list.
use Rattle.std.proofs.lemmas.Bool.Decides.{nat_tests}
use Rattle.std.proofs.Common.{arith}
use Rattle.workload_file.proofs.Cited.{◌≡◌, List, [], ◌∷◌, ◌++◌, Bool, true, false, Some, None, refl, find, list_any, list_all, and_parts, or_parts}

pub find_passes : {X : Type 0} (p : X → Bool) (xs : List X) (x : X) → find p xs ≡ Some x → p x ≡ true
find_passes p [] x e = absurd cc
find_passes p (y ∷ ys) x e = grind (arith, nat_tests, find_passes p ys x)

pub find_all : {X : Type 0} (p q : X → Bool) (xs : List X) (x : X) → find p xs ≡ Some x → list_all q xs ≡ true → q x ≡ true
find_all p q [] x e h = absurd cc
find_all p q (y ∷ ys) x e h = grind (arith, nat_tests, find_all p q ys x, and_parts)

pub find_skip : {X : Type 0} (p : X → Bool) (xs ys : List X) (y : X) → list_any p xs ≡ false → p y ≡ true → find p (xs ++ y ∷ ys) ≡ Some y
find_skip p [] ys y h t = rw t refl
find_skip p (x ∷ xs) ys y h t = let both = or_parts (p x) (list_any p xs) h in rw both.0 (find_skip p xs ys y both.1 t)

pub find_nothing : {X : Type 0} (p : X → Bool) (xs ys : List X) → list_any p xs ≡ false → list_any p ys ≡ false → find p (xs ++ ys) ≡ None
find_nothing p [] [] h k = refl
find_nothing p [] (y ∷ ys) h k = let both = or_parts (p y) (list_any p ys) k in rw both.0 (find_nothing p [] ys refl both.1)
find_nothing p (x ∷ xs) ys h k = let both = or_parts (p x) (list_any p xs) h in rw both.0 (find_nothing p xs ys both.1 k)
