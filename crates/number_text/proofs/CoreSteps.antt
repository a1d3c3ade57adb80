-- The cores of a mask.
use Rattle.std.proofs.Common.{◌≡◌, ℕ, ◌+◌, List, [], ◌∷◌, ◌++◌, true, false, cond, refl, sym, add-one}
use Rattle.std.proofs.lemmas.List.{append-nil}
use Rattle.mtapi_values.specs.Masks.{in_mask}
use Rattle.number_text.specs.Cores.{cores_below}

pub cores_none : (mask : ℕ) → cores_below mask 0 ≡ []
unfolding cores_below
cores_none mask = refl

pub cores_next : (mask n : ℕ) → cores_below mask (n + 1) ≡ cores_below mask n ++ cond (in_mask n mask) (n ∷ []) []
unfolding cores_below
cores_next mask n = rw add-one refl

pub cores_yes : (mask n : ℕ) (xs : List ℕ) → in_mask n mask ≡ true → xs ≡ cores_below mask n → xs ++ n ∷ [] ≡ cores_below mask (n + 1)
cores_yes mask n xs t e = rw (cores_next mask n, t, e) refl

pub cores_no : (mask n : ℕ) (xs : List ℕ) → in_mask n mask ≡ false → xs ≡ cores_below mask n → xs ≡ cores_below mask (n + 1)
cores_no mask n xs f e = rw (cores_next mask n, f, e) (sym (append-nil (cores_below mask n)))
