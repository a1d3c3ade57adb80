use Rattle.node_with_workers.proofs.Lemmas.{main_all}
use Rattle.node_with_workers.proofs.laws.law_main_ends.Goals as goal

pub returns : goal.returns
returns c = λ t history mine last x. main_all t.settings.workers history mine x.close last x.main
