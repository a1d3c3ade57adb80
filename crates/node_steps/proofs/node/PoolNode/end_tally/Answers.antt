use Rattle.node_steps.proofs.Names.{◌≡◌, sym, ◌∙◌, ap, FitsSigned, w64, to_z-of_z, Read, Written, tally_number}
use Rattle.node_steps.proofs.TallySteps.{end_too_large, end_written, end_failed}
use Rattle.node_steps.proofs.node.PoolNode.end_tally.Goals as goal

pub returns-in-None : goal.returns-in-None
returns-in-None c l v sound =
    let kept_fits : FitsSigned w64 c.noted.result = record { sfits = c.noted.type_inv } in
    let number_fits : FitsSigned w64 c.number.result = record { sfits = c.number.type_inv } in
    let kept : c.args.tally.state ≡ Read c.in-Read.mutex c.in-Read.segment c.noted.result =
    c.in-Read.is ∙ ap (Read c.in-Read.mutex c.in-Read.segment) (sym (c.noted.ensures ∙ ap tally_number c.in-Read.is)) in
    end_too_large c.args.self.now l c.args.who c.args.task c.args.tally v c.requires.tally sound c.in-Read.mutex c.in-Read.segment c.noted.result
    c.number.result c.give_back.result c.give_back.new.self kept c.number.ensures (simp to_z-of_z at c.in-None.ensures) c.give_back.ensures

pub returns-in-Written : goal.returns-in-Written
returns-in-Written c l v sound =
    let sum_fits : FitsSigned w64 c.noted-in-Written.result = record { sfits = c.noted-in-Written.type_inv } in
    let sum : c.args.tally.state ≡ Written c.in-Written.mutex c.in-Written.segment c.noted-in-Written.result =
    c.in-Written.is ∙ ap (Written c.in-Written.mutex c.in-Written.segment) (sym (c.noted-in-Written.ensures ∙ ap tally_number c.in-Written.is)) in
    end_written c.args.self.now l c.args.who c.args.task c.args.tally v c.requires.tally sound c.in-Written.mutex c.in-Written.segment c.noted-in-Written.result
    c.give_back-in-Written.result c.give_back-in-Written.new.self sum (rw (simp to_z-of_z at c.one.ensures) at c.give_back-in-Written.ensures)

pub returns-in-Failed : goal.returns-in-Failed
returns-in-Failed c l v sound = end_failed c.args.self.now l c.args.who c.args.task c.args.tally v c.requires.tally c.in-Failed.status c.end_with.new.self
    c.in-Failed.is c.end_with.ensures
