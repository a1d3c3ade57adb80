-- Each input has one first part and one rest.
use Rattle.std.proofs.lemmas.Bool.Decides.{nat_tests}
use Rattle.journal_text.proofs.Names.{◌≡◌, ◌⊎◌, ℕ, zero, suc, ◌+◌, ◌<◌, ◌≤◌, true, false, List, ◌++◌, length, take, drop, sym, ap, ◌∙◌, inl, inr, arith, length-append, length-take-le, take-append-drop, append-nil, drop_of_length-le, cases_order, take-append_seam, drop-append_seam, begins_journal, IsSplit, OfParts, cases_Bool}

-- A split at a place: past the last byte, or at the first journal

pub split_at : (bytes : List ℕ) (n : ℕ) → n ≤ length bytes → (n ≡ length bytes) ⊎ (begins_journal bytes n ≡ true)
    → ((m : ℕ) → m < n → begins_journal bytes m ≡ false)
    → IsSplit bytes (take n bytes) (drop n bytes)
split_at bytes n e1 e2 e3 = grind (arith, nat_tests, take-append-drop, length-take-le, begins_journal, drop_of_length-le)

-- There is one

pub none_below : (bytes : List ℕ) (n : ℕ) → ((m : ℕ) → m < n → begins_journal bytes m ≡ false) → begins_journal bytes n ≡ false → (m : ℕ) → m < n + 1
    → begins_journal bytes m ≡ false
none_below bytes n e1 e2 m e3 = grind (arith, nat_tests)

parts_at : (bytes : List ℕ) (n : ℕ) → IsSplit bytes (take n bytes) (drop n bytes) → OfParts bytes (λ front rest. Unit {0})
parts_at bytes n s = record { front = take n bytes; rest = drop n bytes; split = s; holds = tt }

seek : (bytes : List ℕ) (left n : ℕ) → n + left ≡ length bytes → ((m : ℕ) → m < n → begins_journal bytes m ≡ false) → OfParts bytes (λ front rest. Unit {0})
seek bytes zero n end first = parts_at bytes n (split_at bytes n (omega (arith, end)) (inl (omega (arith, end))) first)
seek bytes (suc left) n end first =
    elim (cases_Bool (begins_journal bytes n)) [
      | inl here ↦ parts_at bytes n (split_at bytes n (omega (arith, end)) (inr here) first)
      | inr none ↦ seek bytes left (n + 1) (omega (arith, end)) (none_below bytes n first none)
    ]

pub some_split : (bytes : List ℕ) → OfParts bytes (λ front rest. Unit {0})
some_split bytes = seek bytes (length bytes) 0 (omega arith) (λ m less. absurd (omega (arith, less)))

-- and no other

not_shorter : (bytes front rest front' rest' : List ℕ) → IsSplit bytes front rest → IsSplit bytes front' rest' → length front < length front' → ⊥
not_shorter bytes front rest front' rest' e1 e2 e3 = grind (arith, nat_tests, begins_journal, append-nil, length-append)

pub same_split : (bytes front rest front' rest' : List ℕ) → IsSplit bytes front rest → IsSplit bytes front' rest' → (front ≡ front') × (rest ≡ rest')
same_split bytes front rest front' rest' s s' = by (cases_order (length front) (length front'))
  where
    by : (length front ≡ length front') ⊎ ((length front < length front') ⊎ (length front' < length front)) → (front ≡ front') × (rest ≡ rest')
    by (inl same) =
        let both : front ++ rest ≡ front' ++ rest' = sym s.whole ∙ s'.whole in
        let fronts : front ≡ front' = sym (take-append_seam front rest) ∙ ap (λ (xs : List ℕ). take (length front) xs) both
        ∙ ap (λ (k : ℕ). take k (front' ++ rest')) same ∙ take-append_seam front' rest' in
        let rests : rest ≡ rest' = sym (drop-append_seam front rest) ∙ ap (λ (xs : List ℕ). drop (length front) xs) both
        ∙ ap (λ (k : ℕ). drop k (front' ++ rest')) same ∙ drop-append_seam front' rest' in
        (fronts, rests)
    by (inr (inl less)) = absurd (not_shorter bytes front rest front' rest' s s' less)
    by (inr (inr less)) = absurd (not_shorter bytes front' rest' front rest s' s less)
