use Rattle.node_resources.proofs.Names.{refl, ◌∙◌}
use Rattle.node_resources.proofs.TallyLemmas.{no_mutex, no_segment, no_cell, owned, both}
use Rattle.node_resources.proofs.Resources.tally_lock.Goals as goal

pub returns-in_default : goal.returns-in_default
returns-in_default c s v = rw c.tally_mutex.ensures.same
    (no_mutex s c.args.self.now v c.args.who c.args.mutex_id c.args.segment_id c.args.cell (c.in_default.ensures.absent refl))

pub returns-in_default-tally_segment : goal.returns-in_default-tally_segment
returns-in_default-tally_segment c s v =
    let e = c.tally_mutex.ensures.same in
    rw (c.tally_segment.ensures.same ∙ e) (no_segment s c.args.self.now v c.args.who c.args.mutex_id c.args.segment_id c.args.cell c.in-Some.mutex
    c.in-Some.ensures.only c.in-Some.ensures.found (rw (← e) (c.in_default-tally_segment.ensures.absent refl)))

pub returns-then-not-has_cell : goal.returns-then-not-has_cell
returns-then-not-has_cell c s v =
    let e = c.tally_mutex.ensures.same in
    let all = c.tally_segment.ensures.same ∙ e in
    let m = c.in-Some.ensures.found in
    let g = rw e at c.in-Some-tally_segment.ensures.found in
    let one = rw e at c.in-Some-tally_segment.ensures.only in
    let has = c.if-not-has_cell.ensures g.0 (rw (← all) at g.1) in
    rw all (no_cell s c.args.self.now v c.args.who c.args.mutex_id c.args.segment_id c.args.cell c.in-Some.mutex c.in-Some.ensures.only m
    c.in-Some-tally_segment.segment one g has)

pub returns-then-is_owned : goal.returns-then-is_owned
returns-then-is_owned c s v =
    let e = c.tally_mutex.ensures.same in
    let all = c.tally_segment.ensures.same ∙ e in
    let m = c.in-Some.ensures.found in
    let g = rw e at c.in-Some-tally_segment.ensures.found in
    let one = rw e at c.in-Some-tally_segment.ensures.only in
    let has = c.if-not-has_cell.ensures g.0 (rw (← all) at g.1) in
    let is_owned = c.if-is_owned.ensures m.0 (rw (← all) at m.1) in
    rw all (owned s c.args.self.now v c.args.who c.args.mutex_id c.args.segment_id c.args.cell c.in-Some.mutex c.in-Some.ensures.only m
    c.in-Some-tally_segment.segment one g has is_owned)

pub returns : goal.returns
returns c s v =
    let e = c.tally_mutex.ensures.same in
    let all = c.tally_segment.ensures.same ∙ e in
    let m = c.in-Some.ensures.found in
    let g = rw e at c.in-Some-tally_segment.ensures.found in
    let one = rw e at c.in-Some-tally_segment.ensures.only in
    let has = c.if-not-has_cell.ensures g.0 (rw (← all) at g.1) in
    let is_owned = c.if-is_owned.ensures m.0 (rw (← all) at m.1) in
    rw c.take.ensures (rw all (both s c.args.self.now v c.args.who c.args.mutex_id c.args.segment_id c.args.cell c.in-Some.mutex c.in-Some.ensures.only m
    c.in-Some-tally_segment.segment one g has is_owned))
