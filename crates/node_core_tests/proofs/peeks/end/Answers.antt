use Rattle.std.proofs.Common.{◌≡◌, ◌≢◌, ℕ, ◌<◌, List, [], ◌∷◌, map, sym, subst, arith}
use mathlib.Core.Logic.{dite}
use native.Mathlib.Decide.{ℕ_discrete}
use Rattle.turn_cell.specs.Seats.{IsComplete, numbered}
use Rattle.turn_cell.proofs.Counting.{one_same}
use Rattle.peek_board.specs.Marks.{MarksView, seat_of_marks}
use Rattle.node_core_tests.proofs.peeks.end.Goals as goal

-- the seats 0 and 1 are all of two
two_complete : (n : ℕ) (marks : List MarksView) (a b : MarksView) → n ≡ 2 → marks ≡ a ∷ b ∷ [] → a.seat.number ≡ 0 → b.seat.number ≡ 1
    → IsComplete n (map seat_of_marks marks)
two_complete n marks a b two is zero one k below =
    subst (λ (l : List MarksView). 0 < numbered k (map seat_of_marks l)) (sym is) (dite (ℕ_discrete a.seat.number k)
    (λ (e : a.seat.number ≡ k). let here = one_same a.seat.number k e in omega arith)
    (λ (ne : a.seat.number ≢ k). let here = one_same b.seat.number k (omega arith) in omega arith))

pub close_both-requires-clause-seats : goal.close_both-requires-clause-seats
close_both-requires-clause-seats c = two_complete _ _ c.args.worker c.args.caller c.requires.two.0 c.in_ok-marks.ensures c.requires.worker.1 c.requires.caller.1
