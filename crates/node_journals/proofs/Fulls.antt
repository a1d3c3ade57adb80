-- Entries in full, one after another.
use Rattle.std.proofs.Common.{◌≡◌, ℕ, ◌+◌, ◌<◌, List, [], ◌∷◌, ◌++◌, length, get_or, take, map, arith}
use Rattle.std.proofs.lemmas.Bool.Decides.{nat_tests}
use Rattle.std.proofs.lemmas.Grind.{take_at_read}
use Rattle.std.proofs.lemmas.List.{map-append}

pub full_next : {A B : Type 0} (f : A → B) (i : ℕ) (xs : List A) (x : A) (old new : List B) → i < length xs → x ≡ get_or xs i x → old ≡ map f (take i xs)
    → new ≡ old ++ f x ∷ [] → new ≡ map f (take (i + 1) xs)
full_next f i xs x old new e1 e2 e3 e4 = grind (arith, nat_tests, take_at_read, map-append)
