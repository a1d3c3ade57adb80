use Rattle.std.proofs.Common.{List, ◌∙◌, ◌≡◌, sym, subst, None, Ok, rules}
use Rattle.std.proofs.lemmas.List.Elements.{All-push}
use Rattle.turn_cell.specs.Lists.{AllItems}
use Rattle.turn_cell.specs.Seats.{IsComplete, IsSeatOf}
use Rattle.node_core.specs.Keeping.{KeptAs}
use Rattle.node_core.specs.Logs.{journal_seats}
use Rattle.node_core.specs.declared.journaled.JournaledTerms.{JournaledTerms}
use Rattle.workload_runners.specs.Turns.{Seat}
use Rattle.workload_runners.proofs.Meets.{each_of, of_met}
use Rattle.workload_runners.proofs.CrewSeats.{whole_cells}
use Rattle.workload_runners.proofs.WholeCrew.{complete, ran_as, main_same}
use Rattle.workload_runners.proofs.crew.run.end.Goals as goal

pub end_with-main-requires-clause-others : goal.end_with-main-requires-clause-others
end_with-main-requires-clause-others g c =
    let x = c.requires.came in
    whole_cells g.A.Serve.rounds g.C.Holder.promise g.D.Holder.promise c.args.cell x.client x.others c.args.cell.terms.node.settings.workers c.args.crew x.came

pub close-requires-clause-own : goal.close-requires-clause-own
close-requires-clause-own g c =
    let x = c.requires.came in
    let e = c.end_with-main.ensures.ended in
    let cells = whole_cells g.A.Serve.rounds g.C.Holder.promise g.D.Holder.promise c.args.cell x.client x.others c.args.cell.terms.node.settings.workers
    c.args.crew x.came in
    let now = of_met c.args.cell _ _ _ _ e.meets cells in
    let main = (main_same g.A.Serve.rounds g.C.Holder.promise g.D.Holder.promise c.args.cell x.client x.others c.args.crew x.came c.end_with-main.result
    e).cell in
    subst (λ (xs : List Seat). AllItems (λ (s : Seat). s.cell ≡ c.args.cell.id) xs) (sym c.with_main.ensures)
    (each_of (λ (s : Seat). s.cell ≡ c.args.cell.id) _ (All-push (λ (s : Seat). s.cell ≡ c.args.cell.id) c.end_with-main.result.others.items
    c.end_with-main.result.main now main))

pub close-requires-clause-complete : goal.close-requires-clause-complete
close-requires-clause-complete g c =
    let x = c.requires.came in
    subst (λ (xs : List Seat). IsComplete (journal_seats c.args.cell.terms) xs) (sym c.with_main.ensures)
    (complete g.A.Serve.rounds g.C.Holder.promise g.D.Holder.promise c.args.cell x.client x.others c.args.crew x.came c.end_with-main.result
    c.end_with-main.ensures.ended x.count)

pub returns-in-Ok-journal_of-clause-ran : goal.returns-in-Ok-journal_of-clause-ran
returns-in-Ok-journal_of-clause-ran g c client others x =
    let h = c.close.ensures.history in
    let none : c.args.crew.spent ≡ None = search rules in
    let seats = subst (λ (xs : List Seat). AllItems (IsSeatOf c.args.cell.terms h.0) xs) c.with_main.ensures h.3 in
    let kept = subst (λ (t : JournaledTerms). KeptAs t.node c.in-Ok-journal_of.journal h.0) c.close.ensures.terms (c.in-Ok-journal_of.ensures.kept h.0 h.2) in
    ran_as g.A.Serve.rounds g.C.Holder.promise g.D.Holder.promise c.args.cell client others c.args.crew x c.end_with-main.result c.end_with-main.ensures.ended
    none c.in-Ok.last
    c.in-Ok.is h.0 h.1 seats c.in-Ok-journal_of.journal kept c.args.crew.sets
