use Rattle.std.proofs.Common.{◌≡◌, drop}
use Rattle.action_fn.specs.Answers.{greatest}
use Rattle.action_fn.proofs.actions.greatest_of.Given as goal

-- the rest of the list, begun with the greatest so far, gives what the whole list gives
abbrev pub invariant-loop-value : goal.invariant-loop-value
invariant-loop-value l = greatest l.so_far (drop l.value-index l.rest) ≡ greatest l.first l.rest
