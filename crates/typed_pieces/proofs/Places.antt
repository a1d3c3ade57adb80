-- What a write at a place, and a new table, keep.
use Rattle.typed_pieces.proofs.Names.{◌≡◌, ℕ, ◌⊎◌, List, [], ◌∷◌, Option, Some, None, zero, suc, refl, ap, subst, sym, ◌∙◌, inl, inr, ⊎_elim, slice_get, slice_set, map, IfSome, All, same_Some, none-some, get_or_from_slice_get, slice_get_within, AreFrom, AreKept, IsKeptAt}
use Rattle.std.proofs.Math.Logic.{∥∥₁_map}

-- what stands at a place after a write is what was written, or stood there before
get_set : {X : Type 0} (xs : List X) (i k : ℕ) (x y : X) → slice_get (slice_set xs i x) k ≡ Some y → ((k ≡ i) × (x ≡ y)) ⊎ (slice_get xs k ≡ Some y)
get_set [] i k x y e = inr e
get_set (z ∷ zs) zero zero x y e = inl (refl, same_Some x y e)
get_set (z ∷ zs) zero (suc k) x y e = inr e
get_set (z ∷ zs) (suc i) zero x y e = inr e
get_set (z ∷ zs) (suc i) (suc k) x y e = ⊎_elim (λ p. inl (ap suc p.0, p.1)) (λ q. inr q) (get_set zs i k x y e)

kept_set : {J D : Type 0} (p : J → D → Type 0) (hs : List J) (xs : List (Option D)) (i : ℕ) (d : D) → ((j : J) → slice_get hs i ≡ Some j → p j d)
    → AreKept p hs xs → AreKept p hs (slice_set xs i (Some d))
kept_set {J} {D} p hs xs i d here old k j e at is =
    ⊎_elim
    (λ q. subst (λ v. p j v) (same_Some d e q.1) (here j (subst (λ n. slice_get hs n ≡ Some j) q.0 at)))
    (λ q. old k j e at q)
    (get_set xs i k (Some d) (Some e) is)

-- the results keep what they promise when the result of one more piece comes
pub merely_kept_set : {J D : Type 0} (p : J → D → Type 0) (hs : List J) (xs : List (Option D)) (i : ℕ) (d : D) → ((j : J) → slice_get hs i ≡ Some j → p j d)
    → ∥ AreKept p hs xs ∥₁ → ∥ AreKept p hs (slice_set xs i (Some d)) ∥₁
merely_kept_set p hs xs i d here old = ∥∥₁_map old (kept_set p hs xs i d here)

all_from : {J : Type 0} (hs : List J) → AreFrom hs (map Some hs)
all_from [] i j e = cc
all_from (h ∷ hs) zero j e = same_Some (Some h) (Some j) e
all_from (h ∷ hs) (suc i) j e = all_from hs i j e

-- the results keep what they promise when one is taken, and so does that one
kept_clear : {J D : Type 0} (p : J → D → Type 0) (hs : List J) (xs : List (Option D)) (i : ℕ) → AreKept p hs xs → AreKept p hs (slice_set xs i None)
kept_clear p hs xs i old k j e at is = ⊎_elim (λ q. absurd (none-some e q.1)) (λ q. old k j e at q) (get_set xs i k None (Some e) is)

pub merely_kept_clear : {J D : Type 0} (p : J → D → Type 0) (hs : List J) (xs : List (Option D)) (i : ℕ) (y : Option D) → y ≡ None → ∥ AreKept p hs xs ∥₁
    → ∥ AreKept p hs (slice_set xs i y) ∥₁
merely_kept_clear p hs xs i y none old = subst (λ z. ∥ AreKept p hs (slice_set xs i z) ∥₁) (sym none) (∥∥₁_map old (kept_clear p hs xs i))

pub taken_kept : {J D : Type 0} (p : J → D → Type 0) (hs : List J) (xs : List (Option D)) (i : ℕ) (r : Option D) → slice_get xs i ≡ Some r
    → ∥ AreKept p hs xs ∥₁ → IfSome r (λ d. ∥ IsKeptAt p hs i d ∥₁)
taken_kept p hs xs i None is old = tt
taken_kept p hs xs i (Some d) is old = ∥∥₁_map old (λ all j at. all i j d at is)

-- where each piece waits at its place, it was handed in there
pub from_all : {J : Type 0} (hs ps : List J) (xs : List (Option J)) → hs ≡ ps → xs ≡ map Some ps → AreFrom hs xs
from_all hs ps xs same all = subst (λ ys. AreFrom hs ys) (ap (λ qs. map Some qs) same ∙ sym all) (all_from hs)

no_result : {J D : Type 0} (hs : List J) (i : ℕ) (d : D) → slice_get (map (λ _. None) hs) i ≡ Some (Some d) → ⊥
no_result [] i d is = cc
no_result (h ∷ hs) zero d is = none-some d (same_Some None (Some d) is)
no_result (h ∷ hs) (suc i) d is = no_result hs i d is

-- where there is no result, each keeps what it promises
pub kept_none : {J D : Type 0} (p : J → D → Type 0) (hs ps : List J) (xs : List (Option D)) → xs ≡ map (λ _. None) ps → ∥ AreKept p hs xs ∥₁
kept_none {J} {D} p hs ps xs all = ∣ (λ i j d at is. absurd (no_result ps i d (subst (λ ys. slice_get ys i ≡ Some (Some d)) all is))) ∣₁

-- what holds of each piece that is handed in holds of those that a type names, if they are the same
pub all_ready : {J : Type 0} (P : J → Type 0) (hs ps : List J) → hs ≡ ps → All P ps → ∥ All P hs ∥₁
all_ready P hs ps same all = ∣ subst (λ l. All P l) (sym same) all ∣₁

-- and of the one that was taken of its place
pub taken_ready : {J : Type 0} (P : J → Type 0) (hs : List J) (xs : List (Option J)) (i : ℕ) (r : Option J) → AreFrom hs xs → slice_get xs i ≡ Some r
    → ∥ All P hs ∥₁ → IfSome r (λ j. ∥ P j ∥₁)
taken_ready P hs xs i None from at all = tt
taken_ready P hs xs i (Some j) from at all =
    let here = from i j at in
    ∥∥₁_map all (λ p. subst P (get_or_from_slice_get hs i j j here) (p i j (slice_get_within hs i j here)))
