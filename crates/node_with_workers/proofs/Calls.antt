-- After further calls a seat's entries still begin with those that it had, as a client owes of its seat.
use Rattle.node_with_workers.proofs.Names.{◌≡◌, ◌≤◌, List, ◌++◌, length, take, ap, ◌∙◌, arith, length-take, take-append-le, take_all}

-- `grind` picks a lemma up at the first call in its conclusion, which shows the entries before the last call and those of it
pub begins_more : {X : Type 0} (had before more : List X) → take (length had) before ≡ had → take (length had) (before ++ more) ≡ had
begins_more had before more e =
    let long : length had ≤ length before = omega (arith, ap length e, length-take (length had) before) in
    take-append-le (length had) before more long ∙ e

pub begins_same : {X : Type 0} (had : List X) → take (length had) had ≡ had
begins_same had = take_all (length had) had (omega arith)

-- for `#[tactic(auto, using(..))]` on a client's `call`
pub ruleset further_calls = (begins_more, begins_same)
