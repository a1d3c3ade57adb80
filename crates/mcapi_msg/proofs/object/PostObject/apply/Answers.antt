use Rattle.mcapi_msg.proofs.PostStands.{goes_on, same_terms}
use Rattle.mcapi_msg.proofs.object.PostObject.apply.Goals as goal

pub returns-clause-terms : goal.returns-clause-terms
returns-clause-terms c = same_terms c.args.self.now c.dispatch.new.self c.requires.room.0 c.args.who c.args.op c.dispatch.result c.requires.room.1
    c.dispatch.ensures

pub returns-clause-stands : goal.returns-clause-stands
returns-clause-stands c L st = goes_on c.args.self.now c.dispatch.new.self L c.args.who c.args.op c.dispatch.result st c.requires.seat
    (c.dispatch.ensures _ st.holds)
