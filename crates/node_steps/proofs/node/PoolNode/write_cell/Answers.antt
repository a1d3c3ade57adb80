use Rattle.node_steps.proofs.Names.{◌≡◌, sym, ◌∙◌, ap, FitsSigned, w64, to_z-of_z, Read, state_of, tally_number}
use Rattle.node_steps.proofs.TallySteps.{write_other, writes}
use Rattle.node_steps.proofs.node.PoolNode.write_cell.Goals as goal

pub returns-then-not-is_sum : goal.returns-then-not-is_sum
returns-then-not-is_sum c l v sound =
    let value_fits : FitsSigned w64 c.args.value = c.ranges.value in
    let kept_fits : FitsSigned w64 c.noted.result = record { sfits = c.noted.type_inv } in
    let number_fits : FitsSigned w64 c.number.result = record { sfits = c.number.type_inv } in
    let kept : c.args.tally.state ≡ Read c.in-Read.mutex c.in-Read.segment c.noted.result =
    c.in-Read.is ∙ ap (Read c.in-Read.mutex c.in-Read.segment) (sym (c.noted.ensures ∙ ap tally_number c.in-Read.is)) in
    write_other c.args.self.now l c.args.who c.args.task c.args.tally v c.requires.tally c.in-Read.mutex c.in-Read.segment c.noted.result c.number.result kept
    c.number.ensures c.args.value (simp to_z-of_z at c.if-not-is_sum.ensures.other)

pub returns : goal.returns
returns c l v sound =
    let value_fits : FitsSigned w64 c.args.value = c.ranges.value in
    let kept_fits : FitsSigned w64 c.noted.result = record { sfits = c.noted.type_inv } in
    let number_fits : FitsSigned w64 c.number.result = record { sfits = c.number.type_inv } in
    let kept : c.args.tally.state ≡ Read c.in-Read.mutex c.in-Read.segment c.noted.result =
    c.in-Read.is ∙ ap (Read c.in-Read.mutex c.in-Read.segment) (sym (c.noted.ensures ∙ ap tally_number c.in-Read.is)) in
    let b = c.args.self.now.scheduler in
    let noted = rw (to_z-of_z w64 c.args.value value_fits) at c.note_tally.ensures in
    writes c.args.self.now l c.args.who c.args.task c.args.tally v c.requires.tally c.in-Read.mutex c.in-Read.segment c.noted.result c.number.result kept
    c.number.ensures sound c.cell.result c.args.value c.tally_write.new.self c.note_tally.new.self c.cell.ensures
    (simp to_z-of_z at c.if-not-is_sum.ensures.same) (simp to_z-of_z at (c.tally_write.ensures (state_of c.args.self.now l) v.resources)) noted
