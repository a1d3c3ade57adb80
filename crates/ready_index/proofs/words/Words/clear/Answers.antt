use Rattle.ready_index.proofs.WordLemmas.{clear_word}
use Rattle.ready_index.proofs.words.Words.clear.Goals as goal

pub returns-clause-bits : goal.returns-clause-bits
returns-clause-bits c = clear_word c.self.inside.words.items c.args.self.now c.args.bit c.index_mut.result.now c.self.view_is c.requires
    c.index_mut.ensures.value
