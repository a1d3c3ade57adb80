-- How a closure's run is shown, and read by equal counts.
use Rattle.std.proofs.lemmas.Bool.Decides.{nat_tests}
use Rattle.std.proofs.Common.{arith}
use Rattle.std.proofs.Common.{◌≡◌, IfOk, MutBor, Result, ℕ}
use Rattle.std.specs.Fn.{Once}
use Rattle.run_beside.specs.Pairs.{Ran}

module _ {F S C T : Type 0} (g : Once F (MutBor S × (C × Unit {0})) (T × (MutBor S × Unit {0}))) (count : S → ℕ) (b : F) (carry : C) where
  pub ran_of : (t : T) (p q : MutBor S) (before after : ℕ) → g.post b (p, (carry, tt)) (t, (q, tt)) → count p.now ≡ before → after ≡ count q.now
      → Ran g count b carry before t after
  ran_of t p q before after met first then =
      record { shown = p; first = first; left = q; met = met; then = then }

  -- the same run, read by equal counts
  pub IfOk-alike : {A E : Type 0} (r : Result (A × T) E) (before mid after after' : ℕ) → mid ≡ before
      → IfOk r (λ x. Ran g count b carry mid x.1 after) → after ≡ after' → IfOk r (λ x. Ran g count b carry before x.1 after')
  IfOk-alike r before mid after after' e1 e2 e3 = grind (arith, nat_tests)
