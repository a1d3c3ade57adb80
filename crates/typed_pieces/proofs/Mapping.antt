-- Of pieces that were made of items.
use Rattle.typed_pieces.proofs.Names.{◌≡◌, List, [], ◌∷◌, Some, suc, refl, ap, map, length, Result, Ok, Err, IfOk, arith, sym, subst, ◌∙◌, All, AllZip, All-map, AreKept}

-- what holds of the piece of each item holds of each piece
pub all_made : {T M : Type 0} (P : M → Type 0) (made : T → M) (xs : List T) (ms : List M) → ms ≡ map made xs → All (λ x. P (made x)) xs → All P ms
all_made P made xs ms are all = subst (λ l. All P l) (sym are) (All-map P made xs all)

zipped : {T M D : Type 0} (R : M → D → Type 0) (made : T → M) (xs : List T) (ds : List D) → length ds ≡ length (map made xs)
    → AreKept R (map made xs) (map Some ds) → AllZip (λ x d. R (made x) d) xs ds
zipped R made [] [] many kept = tt
zipped R made [] (d ∷ ds) many kept = absurd (omega arith)
zipped R made (x ∷ xs) [] many kept = absurd (omega arith)
zipped R made (x ∷ xs) (d ∷ ds) many kept = (kept 0 (made x) d refl refl, zipped R made xs ds (omega arith) (λ i. kept (suc i)))

-- where each result is one that the piece of its place promises, and there are as many, each is one of the item of its place
pub kept_made : {T M D : Type 0} (R : M → D → Type 0) (made : T → M) (xs : List T) (ms : List M) (ds : List D) → ms ≡ map made xs → length ds ≡ length ms
    → AreKept R ms (map Some ds) → AllZip (λ x d. R (made x) d) xs ds
kept_made R made xs ms ds are many kept = zipped R made xs ds (many ∙ ap length are) (subst (λ l. AreKept R l (map Some ds)) are kept)

pub if_ok : {A E : Type 0} (P Q S : A → Type 0) (x : Result A E) → ((a : A) → P a → Q a → S a) → IfOk x P → IfOk x Q → IfOk x S
if_ok P Q S (Ok a) f p q = f a p q
if_ok P Q S (Err e) f p q = tt
