-- An op of which each handle stands for itself.
use Rattle.node_steps.proofs.Names.{arith, nat_tests, ◌≡◌, ℕ, subst, Op, Reply, renamed_op, PoolNode, Lists, Live, PoolNodeSteps, state_of, Sound}
use Rattle.mtapi_machine.specs.declared.ops.Op.TheVariants as op

same : (o : Op) → renamed_op (λ kind handle. handle) o ≡ o
same o = grind (arith, nat_tests)

-- what a node does with it is what it does with the op
pub does : (n m : PoolNode) (who : ℕ) (o : Op) (r : Reply)
    → ((l : Lists) → Live n l → Sound (state_of n l) → PoolNodeSteps n l who (renamed_op (λ kind handle. handle) o) r m) → (l : Lists) → Live n l
    → Sound (state_of n l)
    → PoolNodeSteps n l who o r m
does n m who o r f l v k = subst (λ (p : Op). PoolNodeSteps n l who p r m) (same o) (f l v k)
