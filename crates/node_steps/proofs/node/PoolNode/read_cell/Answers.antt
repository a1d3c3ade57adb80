use Rattle.node_steps.proofs.Names.{FitsSigned, w64, to_z-of_z, state_of}
use Rattle.node_steps.proofs.TallySteps.{reads}
use Rattle.node_steps.proofs.node.PoolNode.read_cell.Goals as goal

pub returns : goal.returns
returns c l v sound =
    let kept = c.tally_read-kept.result in
    let fits : FitsSigned w64 kept = record { sfits = c.tally_read-kept.type_inv } in
    let b = c.args.self.now.scheduler in
    let noted = rw (to_z-of_z w64 kept fits) at c.note_tally.ensures in
    rw (to_z-of_z w64 kept fits) (reads c.args.self.now l c.args.who c.args.task c.args.tally v c.requires.tally sound c.in-Locked.mutex c.in-Locked.segment
    c.cell.result kept c.note_tally.new.self c.in-Locked.is c.cell.ensures
    (λ y e. c.tally_read-kept.ensures.reads (state_of c.args.self.now l) y v.resources e) noted)
