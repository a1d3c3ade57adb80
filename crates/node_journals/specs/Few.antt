-- Arguments and answers in little room.
use Rattle.std.specs.Prelude.{List, [], ◌∷◌, ℤ}
use Rattle.action_fn.specs.declared.finished.ActEnd.{ActEnd}
use Rattle.action_fn.specs.declared.finished.ActEnd.TheVariants.{Done, Fails}
use Rattle.node_journals.specs.declared.few.FewArgs.{FewArgs}
use Rattle.node_journals.specs.declared.few.FewArgs.TheVariants.{Nothing, One, Two}
use Rattle.node_journals.specs.declared.few.FewEnd.{FewEnd}
use Rattle.node_journals.specs.declared.few.FewEnd.TheVariants.{Number, Fails as Fails_few}

-- the numbers of a list of few
abbrev pub few_numbers : FewArgs → List ℤ
few_numbers Nothing = []
few_numbers (One x) = x ∷ []
few_numbers (Two x y) = x ∷ y ∷ []

-- the answer that a short one stands for
abbrev pub few_end : FewEnd → ActEnd
few_end (Number z) = Done (z ∷ [])
few_end (Fails_few status) = Fails status
