use Rattle.job_table.proofs.Names.{◌≡◌, true, sym, ◌∙◌, has_job}
use Rattle.job_table.proofs.CoverLemmas.{CoversBefore-with}
use Rattle.job_table.proofs.cover_at.Goals as goal

pub returns-in-Some : goal.returns-in-Some
returns-in-Some c hs index at before =
    let has : has_job c.args.job c.in-Some.action.now ≡ true = sym c.has_job.ensures ∙ c.if-has_job.true in
    rw c.with.ensures (CoversBefore-with c.args.pool.now hs index c.args.job c.args.handle c.in-Some.action.now at (sym c.in-Some.ensures) has c.args.cover
    before)
