-- Slices as their first and their rest.
use Rattle.std.proofs.lemmas.Bool.Decides.{nat_tests}
use Rattle.std.proofs.Common.{◌≡◌, ℕ, ◌-◌, List, ◌∷◌, ◌++◌, Result, ap, ◌∙◌, append_assoc, take, length, get_or, drop, map, ◌≤◌, arith}
use Rattle.std.specs.Prelude.{OnOk}
use Rattle.std.proofs.lemmas.List.{take_all}
use Rattle.number_text.proofs.Pieces.{joined}
use Rattle.number_text.specs.Lists.{with_commas, led}

pub on_ok : {T E : Type 0} (r : Result T E) (P Q : Type 0) → (P → Q) → OnOk r P → OnOk r Q
on_ok r P Q e1 e2 = grind (arith, nat_tests)

abbrev pub rest_of : {X : Type 0} → List X → List X
rest_of xs = take (length xs - 1) (drop 1 xs)

pub first_rest : {X : Type 0} (xs : List X) (d : X) → 1 ≤ length xs → xs ≡ get_or xs 0 d ∷ rest_of xs
first_rest xs d e1 = grind (arith, nat_tests, take_all)

pub list_more : {X : Type 0} (f : X → List ℕ) (d : X) (first mid out : List ℕ) (xs : List X) → 1 ≤ length xs → mid ≡ first ++ f (get_or xs 0 d)
    → out ≡ mid ++ led 44 (map f (rest_of xs)) → out ≡ first ++ with_commas (map f xs)
list_more f d first mid out xs h a b =
    let split = first_rest xs d h in
    let all : with_commas (map f xs) ≡ f (get_or xs 0 d) ++ led 44 (map f (rest_of xs)) =
    ap (λ l. with_commas (map f l)) split ∙ joined 44 (f (get_or xs 0 d)) (map f (rest_of xs)) in
    rw (b, a, all) (append_assoc first (f (get_or xs 0 d)) (led 44 (map f (rest_of xs))))
