use Rattle.journal_reading.proofs.Complete.{refused_else}
use Rattle.journal_reading.proofs.showing.show.Goals as goal

pub returns-in-Err-clause-complete : goal.returns-in-Err-clause-complete
returns-in-Err-clause-complete g c = λ calm dry. refused_else c.args.view (g.S.Source.left c.args.src.now)
    (g.S.Source.left c.read_all.new.src) c.read_all.result c.in-Ok.bytes _ _ c.read_all.ensures.whole c.in-Ok.is c.deref.ensures.value c.in-Err.ensures.none
