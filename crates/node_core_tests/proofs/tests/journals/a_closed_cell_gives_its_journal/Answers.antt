use Rattle.std.proofs.Common.{◌≡◌, ◌+◌, ◌<◌, ◌∙◌, ap, subst}
use Rattle.mtapi_values.specs.Attributes.{NodeSettings}
use Rattle.node_core.specs.declared.journaled.JournaledTerms.{JournaledTerms}
use Rattle.node_core.specs.Stands.{seat_count}
use Rattle.node_core.specs.Logs.{journal_seats, journal_terms}
use Rattle.node_core.proofs.TwoSeats.{two_taken, two_own, two_complete}
use Rattle.node_core_tests.proofs.tests.journals.a_closed_cell_gives_its_journal.Goals as goal

pub close-requires-clause-complete : goal.close-requires-clause-complete
close-requires-clause-complete g c k l =
    let two : journal_seats (journal_terms c.with-object.result) ≡ 2 =
    ap journal_seats c.with-object.ensures.terms ∙ (ap seat_count c.in_ok-node.ensures.terms ∙ ap (λ (s : NodeSettings). s.workers + 1) c.new.ensures) in
    two_complete _ _ _ _ _ _ _ _ _ _ _ _ two c.in_ok-cell.ensures.seats c.in-Some.ensures.items c.in-Some-pop.ensures.items c.call-idle.ensures.number
    c.call-opened.ensures.number c.in_ok-push.ensures.items c.in_ok-push-2.ensures.items k
    (subst (λ (t : JournaledTerms). k < journal_seats t) c.in_ok-cell.ensures.terms l)

pub call-idle-requires : goal.call-idle-requires
call-idle-requires g c =
    let two : journal_seats (journal_terms c.with-object.result) ≡ 2 =
    ap journal_seats c.with-object.ensures.terms ∙ (ap seat_count c.in_ok-node.ensures.terms ∙ ap (λ (s : NodeSettings). s.workers + 1) c.new.ensures) in
    (two_taken _ _ _ _ _ _ _ _ two c.in_ok-cell.ensures.seats c.in-Some.ensures.items c.in-Some-pop.ensures.items).first_cell

pub close-requires-clause-own : goal.close-requires-clause-own
close-requires-clause-own g c =
    let two : journal_seats (journal_terms c.with-object.result) ≡ 2 =
    ap journal_seats c.with-object.ensures.terms ∙ (ap seat_count c.in_ok-node.ensures.terms ∙ ap (λ (s : NodeSettings). s.workers + 1) c.new.ensures) in
    two_own _ _ _ _ _ _ _ _ _ _ _ _ two c.in_ok-cell.ensures.seats c.in-Some.ensures.items c.in-Some-pop.ensures.items c.call-idle.ensures.cell
    c.call-opened.ensures.cell c.in_ok-push.ensures.items c.in_ok-push-2.ensures.items
