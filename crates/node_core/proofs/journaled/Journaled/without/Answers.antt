use Rattle.node_core.proofs.Names.{refl, opening, terms_of_node}
use Rattle.node_core.proofs.LogLemmas.{logged_none}
use Rattle.node_core.proofs.journaled.Journaled.without.Goals as goal

pub returns-clause-stands : goal.returns-clause-stands
returns-clause-stands c st = record { node = st; log = logged_none (opening (terms_of_node c.args.node)) _ tt refl }
