use Rattle.task_board.proofs.Names.{◌≡◌, ◌<◌, ℕ, length, sym, subst, ◌∙◌, arith, index-has, seen_in, begins_in, walked, AreRanked, Remarked}
use Rattle.task_board.proofs.RemarkLemmas.{remarked-none, remarked-next, walked-slot, past-none}
use Rattle.task_board.proofs.marks.remark.Goals as goal

pub loop-index-init : goal.loop-index-init
loop-index-init c = (
  c.first_in-next.ensures,
  remarked-none c.args.actions.now (begins_in c.args.queues.now.pool) (seen_in c.args.tasks.now.pool) c.args.job
      (walked c.args.walk c.args.waiting.now c.args.queues.now.pool) c.args.ready.now,
)

pub unreachable-requires : goal.unreachable-requires
unreachable-requires c =
    let hs = walked c.args.walk c.args.waiting.now c.args.queues.now.pool in
    let less : c.loop-index._index < length hs = omega (arith, c.loop-index-test.true, c.count_in-index-end.ensures) in
    past-none hs c.loop-index._index less (sym c.loop-index.invariant.0 ∙ c.in_default.is)

pub refresh_for-requires-clause-place : goal.refresh_for-requires-clause-place
refresh_for-requires-clause-place c =
    let less = walked-slot c.args.tasks.now.pool
    (walked c.args.walk c.args.waiting.now c.args.queues.now.pool) c.loop-index._index c.in-Some.task c.requires.live (sym c.loop-index.invariant.0
    ∙ c.in-Some.is) in
    omega (arith, less, c.requires.places, c.loop-index.invariant.1.slots)

pub refresh_for-requires-clause-ranked : goal.refresh_for-requires-clause-ranked
refresh_for-requires-clause-ranked c = subst (λ (n : ℕ). AreRanked (seen_in c.args.tasks.now.pool) n)
    (sym c.loop-index.invariant.1.priorities) c.requires.ranked

pub next_in-next-requires : goal.next_in-next-requires
next_in-next-requires c = index-has c.in-Some.task c.loop-index._index (walked c.args.walk c.args.waiting.now c.args.queues.now.pool)
    (sym c.loop-index.invariant.0 ∙ c.in-Some.is)

pub loop-index-preserved : goal.loop-index-preserved
loop-index-preserved c =
    let hs = walked c.args.walk c.args.waiting.now c.args.queues.now.pool in
    let is = sym c.loop-index.invariant.0 ∙ c.in-Some.is in
    let less = walked-slot c.args.tasks.now.pool hs c.loop-index._index c.in-Some.task c.requires.live is in (
      c.next_in-next.ensures c.loop-index._index is,
      remarked-next c.args.actions.now (begins_in c.args.queues.now.pool) c.args.tasks.now.pool c.args.job hs c.loop-index._index c.in-Some.task
          c.args.ready.now c.loop-index.ready c.refresh_for.new.ready c.requires.live is
          (omega (arith, less, c.requires.places, c.loop-index.invariant.1.slots)) c.loop-index.invariant.1
          (c.refresh_for.ensures c.args.actions.now c.cover-cover.ensures),
    )

pub returns : goal.returns
returns c =
    let hs = walked c.args.walk c.args.waiting.now c.args.queues.now.pool in
    let all : c.loop-index._index ≡ length hs = omega (arith, c.loop-index-test.false, c.count_in-index-end.ensures, c.loop-index.auto._index-end) in
    subst (λ (k : ℕ). Remarked c.args.actions.now (begins_in c.args.queues.now.pool)
    (seen_in c.args.tasks.now.pool) c.args.job hs k c.args.ready.now c.loop-index.ready) all c.loop-index.invariant.1
