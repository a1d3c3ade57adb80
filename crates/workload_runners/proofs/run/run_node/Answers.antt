use Rattle.workload_runners.proofs.Names.{◌≡◌, ◌∙◌, ◌∷◌, List, Part, IsRun, IfOk-weaker, arith, subst, sym}
use Rattle.workload_runners.proofs.PartsRun.{first_part}
use Rattle.workload_runners.specs.Parts.{IsUnstopped}
use Rattle.workload_runners.proofs.PartsRun.{rest_of, run_from}
use Rattle.workload_runners.proofs.run.run_node.Goals as goal

pub returns-in-Ok-run_crew-clause-run : goal.returns-in-Ok-run_crew-clause-run
returns-in-Ok-run_crew-clause-run g c =
    let load = c.args.load.now in
    let ran = c.in-Ok-run_crew.ran in
    let p = c.part-item.result in
    let f = first_part c.as_slice-parts.result.now p (let x = c.in-len1-up.len_at_least in omega arith) c.part-item.is in
    let parts : load.parts ≡ p ∷ f.0 = sym c.as_slice-parts.ensures ∙ f.1 in
    let rest = c.in-Ok.ensures ∙ rest_of c.as_slice-parts.result.now f.0 p f.1 in
    IfOk-weaker c.unstopped.result (IsUnstopped ran) (IsRun load)
    (λ j u. subst (IsRun load) (sym u.journal)
    (run_from load f.0 ran _ c.requires.terms c.in-Ok-run_crew.ensures.ran u.main u.others rest parts)) c.unstopped.ensures.run
