-- What a journal keeps of a list with one more entry.
use Rattle.node_core.proofs.Names.{nat_tests, ◌≡◌, ℕ, zero, suc, ◌+◌, ◌≤◌, Bool, true, false, cond, List, [], ◌∷◌, ◌++◌, length, get_or, set, replicate, refl, ap, arith, slice_index, State, NodeEntry, next, after_from, is_dropped, is_pending, kept, counted, counts_next, counts_after, skipped, no_counts, kept_of, skipped_of}

front_more : {A : Type 0} (b : Bool) (a : A) (xs ys zs : List A) → xs ≡ ys ++ zs → cond b xs (a ∷ xs) ≡ cond b ys (a ∷ ys) ++ zs
front_more true a xs ys zs e = e
front_more false a xs ys zs e = ap (λ l. a ∷ l) e

pub kept-append : (s : State) (L : List NodeEntry) (e : NodeEntry) → kept s (L ++ e ∷ []) ≡ kept s L ++ kept_of (is_dropped (after_from s L) e) e
unfolding kept after_from
kept-append s [] e = refl
kept-append s (x ∷ L) e = front_more (is_dropped s x) x _ (kept (next s x) L) _ (kept-append (next s x) L e)

pub counts-append : (s : State) (counts : List ℕ) (L : List NodeEntry) (e : NodeEntry)
    → counts_after s counts (L ++ e ∷ []) ≡ counts_next (after_from s L) (counts_after s counts L) e
unfolding counts_after after_from
counts-append s counts [] e = refl
counts-append s counts (x ∷ L) e = counts-append (next s x) (counts_next s counts x) L e

pub skipped-append : (s : State) (counts : List ℕ) (L : List NodeEntry) (e : NodeEntry)
    → skipped s counts (L ++ e ∷ []) ≡ skipped s counts L ++ skipped_of (is_dropped (after_from s L) e) (slice_index (counts_after s counts L) e.who)
unfolding skipped after_from counts_after
skipped-append s counts [] e = refl
skipped-append s counts (x ∷ L) e = front_more (is_dropped s x) (slice_index counts x.who) _ (skipped (next s x) (counts_next s counts x) L) _
    (skipped-append (next s x) (counts_next s counts x) L e)

-- no number is greater than the list is long

set_le : (xs : List ℕ) (w i v k : ℕ) → get_or xs i 0 ≤ k → v ≤ k → get_or (set xs w v) i 0 ≤ k
set_le [] w i v k a b = a
set_le (x ∷ xs) zero zero v k a b = b
set_le (x ∷ xs) zero (suc i) v k a b = a
set_le (x ∷ xs) (suc w) zero v k a b = a
set_le (x ∷ xs) (suc w) (suc i) v k a b = set_le xs w i v k a b

counted_le : (d p : Bool) (counts : List ℕ) (who k : ℕ) → ((i : ℕ) → get_or counts i 0 ≤ k) → (i : ℕ) → get_or (counted d p counts who) i 0 ≤ k + 1
counted_le true true counts who k h i = set_le counts who i _ (k + 1) (omega (arith, h i)) (omega (arith, h who))
counted_le true false counts who k h i = omega (arith, h i)
counted_le false p counts who k h i = set_le counts who i 0 (k + 1) (omega (arith, h i)) (omega arith)

counts_le : (s : State) (counts : List ℕ) (L : List NodeEntry) (k : ℕ) → ((i : ℕ) → get_or counts i 0 ≤ k) → (i : ℕ)
    → get_or (counts_after s counts L) i 0 ≤ k + length L
unfolding counts_after
counts_le s counts [] k h i = omega (arith, h i)
counts_le s counts (e ∷ L) k h i =
    omega (arith, counts_le (next s e) (counts_next s counts e) L (k + 1) (counted_le (is_dropped s e) (is_pending e.reply) counts e.who k h) i)

zeros : (n i : ℕ) → get_or (replicate n zero) i 0 ≤ 0
zeros zero i = omega arith
zeros (suc n) zero = omega arith
zeros (suc n) (suc i) = zeros n i

pub number_le : (s : State) (L : List NodeEntry) (who : ℕ) → slice_index (counts_after s no_counts L) who ≤ length L
number_le s L who = omega (arith, counts_le s no_counts L 0 (zeros 25) who)
