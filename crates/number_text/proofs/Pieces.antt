-- Texts that are cut at a byte.
use Rattle.std.proofs.lemmas.Bool.Decides.{nat_tests}
use Rattle.std.proofs.Common.{false, ◌≡◌, ℕ, ◌+◌, ◌<◌, ◌≤◌, List, [], ◌∷◌, ◌++◌, Bool, eqb, length, take, drop, Option, Some, None, refl, sym, arith, append_assoc}
use Rattle.std.specs.Prelude.{IfSome, position}
use Rattle.std.specs.List.{position_or_len, slice_split}
use Rattle.std.proofs.lemmas.Bool.{eq-eqb, lt-ltb, le-ltb, false_from_ne_true}
use Rattle.std.proofs.lemmas.List.Sums.{position_or_len_is}
use Rattle.memchr.specs.Find.{IsFirstByte, is_byte}
use Rattle.std.proofs.lemmas.List.Splits.{slice_split_first, slice_split_at, slice_split_none}
use Rattle.number_text.specs.Lists.{between}
use denote.Ref.{Bor}
use Rattle.std.proofs.lemmas.List.{append-nil}
use Rattle.std.specs.List.{AllByRecursion, join_with_byte}
use Rattle.std.proofs.lemmas.List.Elements.{All-from_recursion}
use Rattle.number_text.specs.Lists.{led}

-- where no element passes, the list is one piece
split_none : {X : Type 0} (p : X → Bool) (xs : List X) → length xs ≤ position_or_len p xs → slice_split p xs ≡ xs ∷ []
split_none p [] h = refl
split_none p (x ∷ xs) h = grind (arith, nat_tests, split_none p xs, position_or_len)

pub place_some : {X : Type 0} (p : X → Bool) (xs : List X) (i : ℕ) → position p xs ≡ Some i → (i < length xs) × (position_or_len p xs ≡ i)
place_some p xs i e1 = grind (arith, nat_tests)

pub place_none : {X : Type 0} (p : X → Bool) (xs : List X) → position p xs ≡ None → length xs ≤ position_or_len p xs
place_none p xs e1 = grind (arith, nat_tests)

-- the first place that a search by vectors gives
pub first_place : (byte : ℕ) (text : List ℕ) (r : Option ℕ) → IsFirstByte (is_byte byte) text r → r ≡ position (is_byte byte) text
first_place byte text (Some i) h =
    let e = position_or_len_is (is_byte byte) text i 0 (omega (arith, h.0.high)) (λ k lt. false_from_ne_true _ (h.0.before k (omega arith) lt)) (λ _. h.1) in
    rw (e, lt-ltb i (length text) h.0.high) refl
first_place byte text None h =
    let e = position_or_len_is (is_byte byte) text (length text) 0 (omega arith) (λ k lt. false_from_ne_true _ (h k (omega arith) lt))
    (λ lt. absurd (omega (arith, lt))) in
    rw (e, le-ltb (length text) (length text) (omega arith)) refl

pub between_some : (byte : ℕ) (text : List ℕ) (i : ℕ) → position (λ b. eqb b byte) text ≡ Some i
    → between byte text ≡ take i text ∷ between byte (drop (i + 1) text)
between_some byte text i e1 = grind (arith, nat_tests, place_some, position_or_len, slice_split_first)

pub between_none : (byte : ℕ) (text : List ℕ) → position (λ b. eqb b byte) text ≡ None → between byte text ≡ text ∷ []
between_none byte text e = split_none (λ b. eqb b byte) text (place_none _ text e)

-- what a rest measures
abbrev pub left_len : Option (Bor (List ℕ)) → ℕ
left_len None = 0
left_len (Some rest) = length rest.now + 1

pub after_len : (after : Option (Bor (List ℕ))) (n : ℕ) → IfSome after (λ r. length r.now < n) → left_len after ≤ n
after_len after n e1 = grind (arith, nat_tests)

-- texts joined by a byte: the first, and the others each behind it
pub joined : (byte : ℕ) (text : List ℕ) (texts : List (List ℕ)) → join_with_byte byte (text ∷ texts) ≡ text ++ led byte texts
joined byte text [] = sym (append-nil text)
joined byte text (next ∷ texts) = rw (joined byte next texts) refl

pub led_append : (byte : ℕ) (xs ys : List (List ℕ)) → led byte (xs ++ ys) ≡ led byte xs ++ led byte ys
led_append byte [] ys = refl
led_append byte (x ∷ xs) ys = rw (led_append byte xs ys) (simp append_assoc)

-- texts joined by a byte that none has
unfoldable pub Lacks : ℕ → List ℕ → Type 0
Lacks byte text = AllByRecursion (λ b. eqb b byte ≡ false) text

pub between_joined : (byte : ℕ) (first : List ℕ) (rest : List (List ℕ)) → AllByRecursion (Lacks byte) (first ∷ rest)
    → between byte (join_with_byte byte (first ∷ rest)) ≡ first ∷ rest
unfolding Lacks
between_joined byte first [] h = slice_split_none (λ b. eqb b byte) first (All-from_recursion (λ (b : ℕ). eqb b byte ≡ false) first h.0)
between_joined byte first (next ∷ rest) h =
    grind (arith, nat_tests, between_joined byte next rest h.1, slice_split_at, join_with_byte, All-from_recursion, eq-eqb)
