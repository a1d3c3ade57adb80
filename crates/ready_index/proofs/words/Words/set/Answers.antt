use Rattle.ready_index.proofs.WordLemmas.{set_word, set_empty}
use Rattle.ready_index.proofs.words.Words.set.Goals as goal

pub returns-clause-bits : goal.returns-clause-bits
returns-clause-bits c = set_word c.self.inside.words.items c.args.self.now c.args.bit c.index_mut.result.now c.self.view_is c.requires c.index_mut.ensures.value

pub returns-clause-words : goal.returns-clause-words
returns-clause-words c = set_empty c.self.inside.words.items c.args.self.now c.args.bit c.index_mut.result.now c.self.view_is c.requires
