use Rattle.mtapi_top.proofs.run_output.run_of.Goals as goal

pub returns-in-Err-clause-causes : goal.returns-in-Err-clause-causes
returns-in-Err-clause-causes g c = c.without_seat.ensures (g.B.Beside.refusals c.args.beside.now)
    (g.B.Beside.refusals c.run_node.new.beside) c.in-Err.ensures.causes c.in-Err.ensures.counts
