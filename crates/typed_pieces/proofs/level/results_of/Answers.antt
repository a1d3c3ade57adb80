use Rattle.typed_pieces.proofs.Names.{rules}
use Rattle.typed_pieces.proofs.Levels.{joining_all, joining_more, joining_none}
use Rattle.typed_pieces.proofs.level.results_of.Goals as goal

pub loop-pending-init : goal.loop-pending-init
loop-pending-init g c = λ pieces parts waits there. joining_none _ _ _ _ _ _ _ _ _ (search rules) (search rules) (search rules) waits there

pub loop-pending-preserved : goal.loop-pending-preserved
loop-pending-preserved g c =
    λ pieces parts waits there.
    joining_more _ _ _ _ _ _ _ _ _ _ _ (search rules) (search rules) c.in_ok-result_of.ensures (c.loop-pending.invariant pieces parts waits there)

pub returns : goal.returns
returns g c = λ pieces parts waits there. joining_all _ _ _ _ _ _ (search (rules, c.loop-pending.pending-iterator.rest.ok.0))
    (c.loop-pending.invariant pieces parts waits there)
