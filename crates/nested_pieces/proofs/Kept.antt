-- What the types of parts, results and frames keep.
use Rattle.typed_pieces.proofs.Names.{◌≡◌, ◌∙◌, ℕ, List, [], ◌∷◌, Option, Some, ap, map, refl, subst, sym, same_Some, slice_get, slice_set, AreKept, zero, suc, ∥∥₁_elim}
use Rattle.std.proofs.Math.Logic.{∥∥₁_prop}
use Rattle.typed_pieces.specs.Places.{IsKeptAt}
use Rattle.typed_pieces.specs.Split.{JoinsTo}
use Rattle.typed_pieces.proofs.Places.{merely_kept_set}
use Rattle.nested_pieces.specs.Joins.{JoinsAt}

-- the parts of the piece that stands here
pub joins_of : {P D J : Type 0} (promise : P → D → Type 0) (joined : J → List D → D → Type 0) (ps : List P) (i : ℕ) (p : P) (parts : List P) (join : J)
    → slice_get ps i ≡ Some p → JoinsTo promise joined p parts join → ∥ JoinsAt promise joined ps i parts join ∥₁
joins_of promise joined ps i p parts join is here = ∣ (λ q at. subst (λ x. JoinsTo promise joined x parts join) (same_Some p q (sym is ∙ at)) here) ∣₁

-- one more result, which the piece of its place promises, where the two know the same parts
pub put_kept : {P D : Type 0} (promise : P → D → Type 0) (hs ks : List P) (xs : List (Option D)) (i : ℕ) (d : D) → hs ≡ ks
    → ∥ IsKeptAt promise ks i d ∥₁ → ∥ AreKept promise hs xs ∥₁ → ∥ AreKept promise hs (slice_set xs i (Some d)) ∥₁
put_kept promise hs ks xs i d same here old =
    ∥∥₁_elim here ∥∥₁_prop (λ k. merely_kept_set promise hs xs i d (subst (λ l. IsKeptAt promise l i d) (sym same) k) old)

pub all_alike : {P : Type 0} (ps : List P) → map (λ (p : P). p) ps ≡ ps
all_alike [] = refl
all_alike (p ∷ ps) = ap (λ l. p ∷ l) (all_alike ps)

-- the lock of a number is that of the same number among the ids
pub named_at : {A B : Type 0} (f : A → B) (xs : List A) (i : ℕ) (x : A) → slice_get xs i ≡ Some x → slice_get (map f xs) i ≡ Some (f x)
named_at f [] i x is = absurd cc
named_at f (y ∷ ys) zero x is = ap (λ z. Some (f z)) (same_Some y x is)
named_at f (y ∷ ys) (suc i) x is = named_at f ys i x is
