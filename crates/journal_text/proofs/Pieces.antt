-- Words that are put behind others.
use Rattle.std.proofs.lemmas.Bool.Decides.{nat_tests}
use Rattle.journal_text.proofs.Names.{arith, ◌≡◌, ℕ, ◌≤◌, List, ◌∷◌, ◌++◌, length, get_or, Result, Ok, Err, append_assoc, OnOk, join_with_byte, flat_map, joined, led_append, first_rest, rest_of, led}

-- words behind words
pub words_two : {T E : Type 0} (r : Result T E) (out mid new : List ℕ) (a b : List (List ℕ)) → mid ≡ out ++ led 32 a → OnOk r (new ≡ mid ++ led 32 b)
    → OnOk r (new ≡ out ++ led 32 (a ++ b))
words_two (Ok x) out mid new a b e h = rw (h, e, led_append 32 a b) (append_assoc out (led 32 a) (led 32 b))
words_two (Err x) out mid new a b e h = tt

-- words behind the first word of a line
pub words_joined : {T E : Type 0} (r : Result T E) (out mid new : List ℕ) (a : List ℕ) (b : List (List ℕ)) → mid ≡ out ++ a → OnOk r (new ≡ mid ++ led 32 b)
    → OnOk r (new ≡ out ++ join_with_byte 32 (a ∷ b))
words_joined (Ok x) out mid new a b e h = rw (h, e, joined 32 a b) (append_assoc out a (led 32 b))
words_joined (Err x) out mid new a b e h = tt

-- the words of a first value and of the values behind it
pub values_more : {T E V : Type 0} (r : Result T E) (f : V → List (List ℕ)) (d : V) (out mid new : List ℕ) (vs : List V) → 1 ≤ length vs
    → mid ≡ out ++ led 32 (f (get_or vs 0 d)) → OnOk r (new ≡ mid ++ led 32 (flat_map f (rest_of vs))) → OnOk r (new ≡ out ++ led 32 (flat_map f vs))
values_more r f d out mid new vs e1 e2 e3 = grind (arith, nat_tests, flat_map, rest_of, first_rest, words_two)
