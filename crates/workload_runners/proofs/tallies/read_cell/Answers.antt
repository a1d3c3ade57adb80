use Rattle.workload_runners.proofs.Names.{◌≡◌, FitsSigned, ReadsCell, fits, fits_from, subst, sym, to_z-of_z, true, w64, ℤ}
use Rattle.workload_runners.proofs.TallySeat.{reads_cell, reads_cell_is}
use Rattle.workload_runners.proofs.tallies.read_cell.Goals as goal

pub number_read-requires : goal.number_read-requires
number_read-requires g c = let x = reads_cell c.args.seat.now c.turn.new.seat c.in-Ok.reply c.args.task c.args.args.now c.requires.may c.in-Ok.ensures.turned in
    (x.0, x.1)

pub returns-in-Ok-clause-read : goal.returns-in-Ok-clause-read
returns-in-Ok-clause-read g c =
    let z = c.number_read.result in
    let z_fits : FitsSigned w64 z = record { sfits = c.number_read.type_inv } in
    subst (λ (y : ℤ). ReadsCell c.args.seat.now c.args.task c.args.args.now y c.turn.new.seat) (sym (to_z-of_z w64 z z_fits))
    (reads_cell_is c.args.seat.now c.turn.new.seat c.in-Ok.reply c.args.task c.args.args.now z c.requires.may c.in-Ok.ensures.turned c.number_read.ensures)

pub returns-in-Ok-clause-range : goal.returns-in-Ok-clause-range
returns-in-Ok-clause-range g c =
    let z = c.number_read.result in
    let z_fits : FitsSigned w64 z = record { sfits = c.number_read.type_inv } in
    subst (λ (y : ℤ). fits y ≡ true) (sym (to_z-of_z w64 z z_fits)) (fits_from z z_fits)
