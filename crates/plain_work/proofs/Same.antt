-- Of answers that are the same.
use Rattle.std.specs.Prelude.{◌≡◌, ℤ, List, Bool, IsTrue}
use Rattle.std.specs.Ordering.{int_eq}
use Rattle.std.specs.Cmp.Lexicographic.{pointwise}
use Rattle.std.specs.Cmp.{signed_Decides}
use Rattle.std.proofs.lemmas.Slice.Eq.{slice_eq-Decides}

pub same_numbers : (xs ys : List ℤ) (r : Bool) → r ≡ pointwise int_eq xs ys → (IsTrue r → xs ≡ ys) × (xs ≡ ys → IsTrue r)
same_numbers xs ys r is = slice_eq-Decides signed_Decides xs ys r is
