-- Workers, and the actions that statements make.
use Rattle.std.proofs.Common.{◌≡◌, ℕ, zero, suc, ◌+◌, ◌<◌, Bool, true, false, cond, Option, Some, ℤ, List, [], ◌∷◌, ◌++◌, refl, sym, ◌∙◌, ap, arith}
use Rattle.std.specs.Prelude.{◌||◌}
use Rattle.std.specs.List.{list_any}
use Rattle.std.proofs.lemmas.Bool.Decides.{nat_tests}
use Rattle.std.proofs.lemmas.List.Folds.{list_any-append}
use Rattle.mtapi_objects.specs.Actions.{Action, some_below}
use Rattle.workload_file.specs.declared.workload.Statement.{Statement}
use Rattle.settled_runs.specs.Plain.{action_in, actions_in}
use Rattle.mtapi_values.specs.declared.kinds.Kind.{Kind}
use Rattle.mtapi_values.specs.declared.kinds.Kind.TheVariants.{Add, Mul, Max, Div, Gcd, Echo, Triangle, Fail, Watch, Tally}
use Rattle.mtapi_values.specs.declared.statuses.MtapiStatus.TheVariants.{ErrActionFailed}
use Rattle.action_fn.specs.Answers.{is_pure, answer_of}
use Rattle.settled_workloads.specs.Rows.{fault_by}

pub below_at : (n w : ℕ) (p : ℕ → Bool) → w < n → p w ≡ true → some_below n p ≡ true
below_at zero w p l e = absurd (omega arith)
below_at (suc n) w p l e = grind (arith, nat_tests, below_at n w p)

pub below_next : (n : ℕ) (p : ℕ → Bool) → some_below n p ≡ false → p n ≡ false → some_below (suc n) p ≡ false
below_next n p e d = (λ i. cond (d i) true (some_below n p)) ∙ e

-- one of the actions that these statements make passes exactly where that of one of the statements does
pub any_in : (p : Action → Bool) (ss : List Statement) → list_any p (actions_in ss) ≡ list_any (λ s. list_any p (action_in s.deed)) ss
any_in p [] = refl
any_in p (s ∷ ss) = list_any-append p (action_in s.deed) (actions_in ss) ∙ ap (λ b. list_any p (action_in s.deed) || b) (any_in p ss)

pub any_both : (p : Action → Bool) (xs ys : List Action) → list_any p (xs ++ ys) ≡ (list_any p xs || list_any p ys)
any_both p xs ys = list_any-append p xs ys

-- a kind that isn't pure fails
pub not_pure : (k : Kind) (args : List ℤ) → is_pure k ≡ false → fault_by k args ≡ Some ErrActionFailed
unfolding answer_of
not_pure Add args e = cc
not_pure Mul args e = cc
not_pure Max args e = cc
not_pure Div args e = cc
not_pure Gcd args e = cc
not_pure Echo args e = cc
not_pure Triangle args e = cc
not_pure Fail args e = cc
not_pure Watch args e = refl
not_pure Tally args e = refl
