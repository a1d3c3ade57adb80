use Rattle.job_table.proofs.ListedLemmas.{listed-new}
use Rattle.job_table.proofs.Actions.new.Goals as goal

pub invariant_of-result : goal.invariant_of-result
invariant_of-result c = listed-new _ _ c.args.max c.requires.some c.requires.few c.in_ok-new.ensures.slots c.in_ok-new-2.ensures.places
    c.in_ok-new-2.ensures.lists
