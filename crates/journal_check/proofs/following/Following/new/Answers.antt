use Rattle.journal_check.proofs.Names.{◌≡◌, ◌∙◌, ap, Terms, terms_with, terms_in, room_of}
use Rattle.mtapi_values.specs.Attributes.{NodeSettings}
use Rattle.mtapi_values.specs.declared.handles.Layout.TheVariants.{One}
use Rattle.node_steps.specs.Stands.{terms_of}
use Rattle.journal_check.proofs.Begins.{begun}
use Rattle.journal_check.proofs.following.Following.new.Goals as goal

pub returns-clause-begins : goal.returns-clause-begins
returns-clause-begins c =
    let terms : Terms = terms_with c.args.layout c.args.settings c.args.callers in
    let own : terms_of c.in_ok-node.node ≡ terms_in (room_of terms) terms =
    c.in_ok-node.ensures.terms ∙ ap (λ (s : NodeSettings). terms_with One s c.args.callers) c.set.ensures.becomes in
    begun c.laws.ensures terms c.in_ok-node.node c.new.result c.new-2.result c.in_ok-node.ensures.stands own c.new.ensures c.new-2.ensures.counts
    c.new-2.ensures.lasts c.new-2.ensures.made c.new-2.ensures.gone c.new-2.ensures.freed
