use Rattle.std.proofs.Common.{rules}
use Rattle.node_with_workers.proofs.Lemmas.{run_alone, causes_alone}
use Rattle.node_with_workers.proofs.run.with_servers_alone.Goals as goal

pub returns-clause-run : goal.returns-clause-run
returns-clause-run g c = run_alone g.C.Client.promise _ c.args.client _ c.args.settings _ _ _ c.new-nobody.ensures.items c.in_ok-done.ensures.run

pub returns-in_err-done-clause-causes : goal.returns-in_err-done-clause-causes
returns-in_err-done-clause-causes g c = let r =
    causes_alone g.C.Client.promise c.args.client _ c.args.settings _ c.new-nobody.ensures.len c.in_err-done.ensures.causes in search rules
