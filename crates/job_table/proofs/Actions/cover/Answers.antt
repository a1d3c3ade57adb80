use Rattle.job_table.proofs.Names.{◌≡◌, ◌%◌, ℕ, length, sym, subst, ◌∙◌, arith, Slots, list_at, index-has, Action, Covers, CoversBefore}
use Rattle.job_table.proofs.CoverLemmas.{CoversBefore-zero, Covers-all}
use Rattle.job_table.proofs.ListedLemmas.{past-none, live-at, some-is}
use Rattle.job_table.proofs.Actions.cover.Goals as goal

pub loop-index-init : goal.loop-index-init
loop-index-init c = (c.first-next.ensures, CoversBefore-zero c.self.inside.pool (list_at c.self.inside.jobs.lists (c.args.job % c.max.result)) c.args.job)

pub unreachable-requires : goal.unreachable-requires
unreachable-requires c =
    let hs = list_at c.self.inside.jobs.lists (c.args.job % c.max.result) in
    past-none hs c.loop-index._index (omega (arith, c.loop-index-test.true, c.len-index-end.ensures.count)) (sym c.loop-index.invariant.0 ∙ c.in_default.is)

pub cover_at-cover-requires : goal.cover_at-cover-requires
cover_at-cover-requires c = some-is _ (live-at c.self.inside.pool c.self.inside.jobs
    (c.args.job % c.max.result) c.loop-index._index c.in-Some.handle c.self.invariant (sym c.loop-index.invariant.0 ∙ c.in-Some.is))

pub next-next-requires : goal.next-next-requires
next-next-requires c = (
  c.args.job % c.max.result,
  index-has c.in-Some.handle c.loop-index._index (list_at c.self.inside.jobs.lists (c.args.job % c.max.result))
      (sym c.loop-index.invariant.0 ∙ c.in-Some.is),
)

pub loop-index-preserved : goal.loop-index-preserved
loop-index-preserved c =
    let is = sym c.loop-index.invariant.0 ∙ c.in-Some.is in (
      c.next-next.ensures (c.args.job % c.max.result) c.loop-index._index is,
      c.cover_at-cover.ensures (list_at c.self.inside.jobs.lists (c.args.job % c.max.result)) c.loop-index._index is c.loop-index.invariant.1,
    )

pub returns : goal.returns
returns c =
    let hs = list_at c.self.inside.jobs.lists (c.args.job % c.max.result) in
    let all : c.loop-index._index ≡ length hs = omega (arith, c.loop-index-test.false, c.len-index-end.ensures.count, c.loop-index.auto._index-end) in
    let done = subst (λ (k : ℕ). CoversBefore c.self.inside.pool hs k c.args.job c.loop-index.cover) all c.loop-index.invariant.1 in
    let list = subst (λ (m : ℕ). CoversBefore c.self.inside.pool (list_at c.self.inside.jobs.lists (c.args.job % m))
    (length (list_at c.self.inside.jobs.lists (c.args.job % m))) c.args.job c.loop-index.cover) c.max.ensures.value done in
    subst (λ (p : Slots Action). Covers p c.args.job c.loop-index.cover) c.self.view_is
    (Covers-all c.self.inside.pool c.self.inside.jobs c.args.job c.loop-index.cover c.self.invariant list)
