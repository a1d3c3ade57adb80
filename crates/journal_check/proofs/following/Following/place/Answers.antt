use Rattle.journal_check.proofs.Names.{◌≡◌, ◌<◌, Bool, false, None, Decides, subst, sym, ◌∙◌, Reply, Terms, after, PoolNode, seat_count, is_full_of, refusal_of, JudgesEntry}
use Rattle.std.proofs.lemmas.Result.{IfOk-weaker}
use Rattle.node_steps.specs.Stands.{terms_of}
use Rattle.journal_check.proofs.Creates.{judged_full, judges_same, judges_from}
use Rattle.journal_check.proofs.following.Following.place.Goals as goal

pub returns-then-is_full : goal.returns-then-is_full
returns-then-is_full c =
    let f = c.args.self.now in
    let e = c.args.entry.now in
    judges_same c.laws.ensures f e c.args.kind c.requires.makes c.is_full.new.self c.same_reply.result c.is_full.ensures.same
    (judged_full c.laws.ensures f e c.args.kind c.requires.makes c.requires.accepted c.same_reply.result
    (subst (λ (r : Reply). Decides c.same_reply.result (e.reply ≡ r)) c.limit_of.ensures c.same_reply.ensures) (λ L h. c.is_full.ensures.full L h
    ∙ c.if-is_full.true))

pub make-requires-clause-seat : goal.make-requires-clause-seat
make-requires-clause-seat c = subst (λ (n : PoolNode). c.args.entry.now.who < seat_count (terms_of n)) (sym c.is_full.ensures.same.node) c.requires.seat

pub make-requires-clause-room : goal.make-requires-clause-room
make-requires-clause-room c = (c.requires.room.0, c.is_full.ensures.same.there c.requires.room.0 c.requires.room.1, c.requires.room.2)

pub make-requires-clause-accepted : goal.make-requires-clause-accepted
make-requires-clause-accepted c L h =
    subst (λ (t : Terms). refusal_of (after t L) c.args.entry.now.who c.args.entry.now.op
    ≡ None) (sym c.is_full.ensures.same.terms) (c.requires.accepted L (c.is_full.ensures.same.back L h))

pub make-requires-clause-more : goal.make-requires-clause-more
make-requires-clause-more c L h =
    subst (λ (t : Terms). is_full_of c.args.kind (after t L)
    ≡ false) (sym c.is_full.ensures.same.terms) (c.is_full.ensures.full L (c.is_full.ensures.same.back L h) ∙ c.if-is_full.false)

pub returns : goal.returns
returns c =
    let f = c.args.self.now in
    let e = c.args.entry.now in
    IfOk-weaker c.make.result (λ (passes : Bool). JudgesEntry c.is_full.new.self e passes c.make.new.self)
    (λ (passes : Bool). JudgesEntry f e passes c.make.new.self)
    (λ passes j. judges_from c.laws.ensures f e c.args.kind c.requires.makes c.is_full.new.self c.make.new.self passes c.is_full.ensures.same j) c.make.ensures
