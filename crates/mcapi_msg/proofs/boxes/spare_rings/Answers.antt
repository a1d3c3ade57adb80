use Rattle.mcapi_msg.proofs.Names.{◌∷◌, ap, sym, subst, arith, length, length-append, List, [], RingTable, AreEmpty}
use Rattle.mcapi_msg.proofs.BoxLemmas.{empty_joined}
use Rattle.mcapi_msg.proofs.boxes.spare_rings.Goals as goal

pub loop-index-preserved : goal.loop-index-preserved
loop-index-preserved c = record {
  count = omega (
    arith,
    ap (λ (l : List RingTable). length l) c.push_reserved.ensures.items,
    length-append c.loop-index.spare.items (c.in_ok-new.field-0
        ∷ []),
    c.loop-index.invariant.count,
  );
  empty = subst (AreEmpty c.args.limit) (sym c.push_reserved.ensures.items)
      (empty_joined c.args.limit c.loop-index.spare.items (c.in_ok-new.field-0 ∷ []) c.loop-index.invariant.empty (c.in_ok-new.ensures, tt));
  room = rw c.push_reserved.ensures.capacity c.loop-index.invariant.room;
}
