use Rattle.journal_check.proofs.Names.{◌≡◌, ◌∙◌, ap, Terms}
use Rattle.journal_check.proofs.Ended.{judged_ended}
use Rattle.journal_check.proofs.following.Following.go_on.Goals as goal

pub returns : goal.returns
returns c =
    let g = c.execute-2.new.self in
    let judges = c.if-not-execute.ensures.judges in
    let last : c.from.result ≡ g.terms.settings.generations = cc in
    judged_ended c.laws.ensures c.args.self.now g c.args.entry.now c.in-Some.kind c.in-Some.handle c.from.result c.end_one.new.self judges
    c.if-not-execute.ensures.made
    (last ∙ ap (λ (t : Terms). t.settings.generations) judges.terms) c.if-not-is_live.ensures c.if-is_live.ensures c.end_one.ensures
