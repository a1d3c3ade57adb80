-- The sum of holdings is std's sum.
use Rattle.std.proofs.Common.{◌≡◌, ℕ, List, sum, refl}
use Rattle.std.proofs.lemmas.List.Recursion.{is_sum_by}
use Rattle.mtapi_objects.specs.Sems.{total}

pub total_is_sum : (xs : List ℕ) → total xs ≡ sum xs
total_is_sum xs = is_sum_by total (λ x. x) refl (λ _ _. refl) xs
