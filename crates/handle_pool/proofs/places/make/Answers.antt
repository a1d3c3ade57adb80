use Rattle.std.proofs.Common.{refl, sym, ap, length, ◌∙◌, arith}
use Rattle.handle_pool.proofs.FreshLemmas.{length-made, make-none, make-push}
use Rattle.handle_pool.proofs.places.make.Goals as goal

pub loop-at-init : goal.loop-at-init
loop-at-init g c = record { items = make-none c.args.row.now.items c.args.made; room = refl }

pub push-requires : goal.push-requires
push-requires g c =
    let kept = c.loop-at.invariant in
    (sym (ap length kept.items ∙ length-made _ _ _ c.requires.0 c.loop-at.auto.at), omega (arith, kept.room, c.loop-at-test.true, c.requires.2))

pub loop-at-preserved : goal.loop-at-preserved
loop-at-preserved g c =
    let kept = c.loop-at.invariant in
    record {
      items = rw (c.push.ensures.0, kept.items) (make-push c.args.row.now.items c.args.made c.loop-at.at c.loop-at.auto.at);
      room = c.push.ensures.1 ∙ kept.room;
    }
