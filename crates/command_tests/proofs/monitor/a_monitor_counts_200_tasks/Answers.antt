use Rattle.std.proofs.Common.{◌≡◌, ℕ, sym, ap, subst, ◌∙◌, rules, arith}
use Rattle.turn_cell.specs.Seats.{fresh_seats}
use Rattle.node_core.specs.Logs.{journal_seats}
use Rattle.node_core.specs.declared.journaled.JournaledTerms.{JournaledTerms}
use Rattle.command_tests.proofs.monitor.a_monitor_counts_200_tasks.Goals as goal

-- a node with two workers and three callers has five seats
five_seats : (t : JournaledTerms) → t.node.settings.workers ≡ 2 → t.node.callers ≡ 3 → journal_seats t ≡ 5
five_seats t workers callers = omega arith

pub deal-crew-requires-clause-seats : goal.deal-crew-requires-clause-seats
deal-crew-requires-clause-seats g c =
    let workers : c.in_ok-cell.cell.terms.node.settings.workers ≡ 2 = search rules in
    let callers : c.in_ok-cell.cell.terms.node.callers ≡ 3 = search rules in
    subst (λ (u : JournaledTerms). c.in_ok-cell.seats.items
    ≡ fresh_seats u c.in_ok-cell.cell.id 0 (journal_seats u)) (sym c.in_ok-cell.ensures.terms) c.in_ok-cell.ensures.seats
    ∙ ap (λ (n : ℕ). fresh_seats c.in_ok-cell.cell.terms c.in_ok-cell.cell.id 0 n) (five_seats c.in_ok-cell.cell.terms workers callers)
