use Rattle.std.proofs.Common.{rules}
use Rattle.run_beside.proofs.PairRuns.{ran_of}
use Rattle.run_beside.proofs.beside.fn.pair.scope.Goals as goal

pub returns-in-Ok : goal.returns-in-Ok
returns-in-Ok g c =
    record {
      same = search rules;
      done = search rules;
      ran = ran_of g.F.FnOnce g.B.Beside.refusals c.captures.b c.captures.carry c.b-t.result _ _ _ _ c.b-t.ensures (search rules) (search rules);
      unrun = tt;
      refused = tt;
    }

pub returns-in-Ok-2 : goal.returns-in-Ok-2
returns-in-Ok-2 g c =
    record {
      same = search rules;
      done = search rules;
      ran = ran_of g.F.FnOnce g.B.Beside.refusals c.captures.b c.captures.carry c.b-t-in-Ok-2.result _ _ _ _ c.b-t-in-Ok-2.ensures (search rules)
          (search rules);
      unrun = tt;
      refused = tt;
    }
