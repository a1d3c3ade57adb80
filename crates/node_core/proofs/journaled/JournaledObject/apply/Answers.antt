use Rattle.node_core.proofs.LogLemmas.{journal_goes_on, number_fits}
use Rattle.node_core.proofs.journaled.JournaledObject.apply.Goals as goal

pub add-requires-clause-room : goal.add-requires-clause-room
add-requires-clause-room c = number_fits c.args.self.now.node c.args.self.now.log c.requires.room.0 c.args.who c.requires.room.1.log c.requires.room.2

pub returns-clause-stands : goal.returns-clause-stands
returns-clause-stands c L st = record {
  node = c.execute.ensures.stands L st.node;
  log = journal_goes_on c.args.self.now.node c.execute.new.self c.args.self.now.log c.add.new.self L c.args.who c.args.op
      c.execute.new.reply c.pends_alike-alike.result st.log c.execute.ensures.terms (c.pends_alike-alike.ensures L st.node) c.add.ensures;
}
