use Rattle.std.proofs.Common.{◌<◌, ℕ, subst}
use Rattle.journal_check.proofs.Begins.{judged_next}
use Rattle.journal_check.proofs.following.Following.judge.Goals as goal

pub returns-in-None : goal.returns-in-None
returns-in-None c =
    judged_next c.laws.ensures c.args.self.now c.args.entry.now c.go_on.result c.go_on.new.self
    (subst (λ (m : ℕ). c.args.entry.now.who < m) c.seats.ensures c.if-entry-seats.false) c.is_honest.ensures c.go_on.ensures
