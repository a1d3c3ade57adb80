use Rattle.std.proofs.Common.{◌-◌, take, length, refl}
use Rattle.run_check.proofs.Ended.{ends_by, at_last}
use Rattle.run_check.proofs.whole.closes_at_end.Goals as goal

pub returns-then-is_final : goal.returns-then-is_final
returns-then-is_final c =
    let L = c.args.entries.now in
    ends_by c.args.main (take (length L - 1) L) L c.last-item.result c.has_closed.result (at_last L c.last-item.result c.in-len1-up.len_at_least c.last-item.is)
    (c.if-is_final.ensures.0 refl) c.has_closed.ensures
