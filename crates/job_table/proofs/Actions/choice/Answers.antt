use Rattle.job_table.proofs.Names.{◌≡◌, ◌%◌, ℕ, length, sym, subst, ◌∙◌, arith, Slots, slot_value, NoneLive, list_at, index-has, Action, Passes, runs_job_on, NoneBefore}
use Rattle.job_table.proofs.CoverLemmas.{NoneBefore-zero, NoneBefore-one, none-of, runs-job}
use Rattle.job_table.proofs.ListedLemmas.{past-none, live-at}
use Rattle.job_table.proofs.Actions.choice.Goals as goal

pub loop-index-init : goal.loop-index-init
loop-index-init c = (
  c.first-next.ensures,
  NoneBefore-zero c.self.inside.pool (list_at c.self.inside.jobs.lists (c.args.job % c.max.result))
      (Passes (runs_job_on c.args.job c.args.worker)),
)

pub unreachable-requires : goal.unreachable-requires
unreachable-requires c =
    let hs = list_at c.self.inside.jobs.lists (c.args.job % c.max.result) in
    past-none hs c.loop-index._index (omega (arith, c.loop-index-test.true, c.len-index-end.ensures.count)) (sym c.loop-index.invariant.0 ∙ c.in_default.is)

pub next-next-requires : goal.next-next-requires
next-next-requires c = (
  c.args.job % c.max.result,
  index-has c.in-Some.handle c.loop-index._index (list_at c.self.inside.jobs.lists (c.args.job % c.max.result))
      (sym c.loop-index.invariant.0 ∙ c.in-Some.is),
)

pub loop-index-preserved : goal.loop-index-preserved
loop-index-preserved c =
    let hs = list_at c.self.inside.jobs.lists (c.args.job % c.max.result) in
    let is = sym c.loop-index.invariant.0 ∙ c.in-Some.is in
    let a = live-at c.self.inside.pool c.self.inside.jobs (c.args.job % c.max.result) c.loop-index._index c.in-Some.handle c.self.invariant is in (
      c.next-next.ensures (c.args.job % c.max.result) c.loop-index._index is,
      NoneBefore-one c.self.inside.pool hs c.loop-index._index c.in-Some.handle a.0 (Passes (runs_job_on c.args.job c.args.worker)) is a.1
          (c.in_default-runs_at.ensures.none a.0 a.1) c.loop-index.invariant.1,
    )

pub returns : goal.returns
returns c =
    let hs = list_at c.self.inside.jobs.lists (c.args.job % c.max.result) in
    let all : c.loop-index._index ≡ length hs = omega (arith, c.loop-index-test.false, c.len-index-end.ensures.count, c.loop-index.auto._index-end) in
    let test = Passes (runs_job_on c.args.job c.args.worker) in
    let done = subst (λ (k : ℕ). NoneBefore c.self.inside.pool hs k test) all c.loop-index.invariant.1 in
    let list = subst (λ (m : ℕ). NoneBefore c.self.inside.pool (list_at c.self.inside.jobs.lists (c.args.job % m))
    (length (list_at c.self.inside.jobs.lists (c.args.job % m))) test) c.max.ensures.value done in
    subst (λ (p : Slots Action). NoneLive (slot_value p) test) c.self.view_is
    (none-of c.self.inside.pool c.self.inside.jobs c.args.job c.self.invariant (runs_job_on c.args.job c.args.worker)
    (runs-job c.args.job c.args.worker) list)
