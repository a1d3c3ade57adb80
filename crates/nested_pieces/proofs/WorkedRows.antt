-- The worked rows, by computing.
use Rattle.std.proofs.Common.{◌≡◌, ℕ, arith, refl}
use Rattle.nested_pieces.specs.Worked.{WorkedRounds, WorkedWorks}
unfoldable use Rattle.nested_workers.specs.Rounds.{all_nested}

pub works : WorkedWorks
works = record { pieces = refl; results = refl; counts = refl; none = refl }

four_is_three : (n : ℕ) → n ≡ 4 → n ≡ 3 → ⊥
four_is_three n e f = omega (arith, e, f)

pub rounds : WorkedRounds
unfolding all_nested
rounds = record {
  entries = λ t a k args done s. refl;
  stops = tt;
  leaves = λ t a args. refl;
  runs = λ t a args e. absurd cc;
  goes_on = λ x. x;
  other_seat = λ x. four_is_three 4 refl x.0;
  other_op = λ x. (let e = x.1 in absurd cc);
}
