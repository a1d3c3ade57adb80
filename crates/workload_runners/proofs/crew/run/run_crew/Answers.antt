use Rattle.std.proofs.Common.{List, ◌∙◌, ◌≡◌, ◌+◌, ap, arith, length, sym, vec_len, ℕ, rules, subst}
use Rattle.turn_cell.specs.Seats.{fresh_seats}
use Rattle.mtapi_machine.specs.declared.terms.Terms.{Terms}
use Rattle.node_core.specs.Logs.{journal_seats, journal_terms}
use Rattle.node_core.specs.declared.journaled.JournaledTerms.{JournaledTerms}
use Rattle.workload_runners.specs.Turns.{Seat}
use Rattle.workload_runners.proofs.CrewSeats.{fresh_length, none_made}
use Rattle.workload_runners.proofs.crew.run.run_crew.Goals as goal

pub deal-requires-clause-count : goal.deal-requires-clause-count
deal-requires-clause-count g c =
    let t = c.in-Ok.ensures.terms in
    let o = c.with-object.ensures.terms in
    let z = c.in-Ok.cell in
    let long = ap (λ (l : List Seat). length l) c.in-Ok.ensures.seats
    ∙ fresh_length z (journal_terms c.with-object.result) 0 (journal_seats (journal_terms c.with-object.result)) in
    let j : journal_seats (journal_terms c.with-object.result) ≡ z.terms.node.settings.workers + z.terms.node.callers = ap journal_seats (sym t) in
    let k : z.terms.node.callers ≡ vec_len c.args.others + 1 =
    ap (λ (u : JournaledTerms). u.node.callers) t ∙ (ap (λ (u : JournaledTerms). u.node.callers) o ∙ c.requires.callers) in
    omega arith

pub deal-requires-clause-fresh : goal.deal-requires-clause-fresh
deal-requires-clause-fresh g c =
    let t = c.in-Ok.ensures.terms in
    let z = c.in-Ok.cell in
    let n = journal_seats (journal_terms c.with-object.result) in
    let long = ap (λ (l : List Seat). length l) c.in-Ok.ensures.seats ∙ fresh_length z (journal_terms c.with-object.result) 0 n in
    let m : n ≡ vec_len c.in-Ok.seats = omega arith in
    c.in-Ok.ensures.seats
    ∙ (ap (λ (x : JournaledTerms). fresh_seats x z.id 0 n) (sym t) ∙ ap (λ (i : ℕ). fresh_seats z.terms z.id 0 i) m)

pub returns-in-Err-clause-unbegun : goal.returns-in-Err-clause-unbegun
returns-in-Err-clause-unbegun g c =
    let z = c.in-Ok.cell in
    let n = ap (λ (u : JournaledTerms). u.node.settings.workers) c.in-Ok.ensures.terms
    ∙ ap (λ (u : JournaledTerms). u.node.settings.workers) c.with-object.ensures.terms in
    none_made z z.terms.node.settings.workers _ c.in-Ok-deal.threads.callers.main c.in-Err.main c.in-Ok-deal.ensures.ready.callers.main n c.in-Err.ensures.lost
