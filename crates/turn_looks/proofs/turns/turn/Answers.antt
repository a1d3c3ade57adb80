use Rattle.turn_looks.proofs.OwnEntries.{turned_if, unturned_if}
use Rattle.turn_looks.proofs.turns.turn.Goals as goal

pub returns-clause-turned : goal.returns-clause-turned
returns-clause-turned g c =
    let e = c.call.ensures in
    turned_if g.O.Object.legal c.args.seat.now c.call.new.seat c.args.op c.call.result
    (record { cell = e.cell; number = e.number; terms = e.terms }) c.known.ensures.own e.seen e.mine e.own e.legal

pub returns-clause-spent : goal.returns-clause-spent
returns-clause-spent g c =
    let e = c.call.ensures in
    unturned_if c.args.seat.now c.call.new.seat c.call.result (record { cell = e.cell; number = e.number; terms = e.terms }) e.spent e.unchanged
