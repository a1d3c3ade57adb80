use Rattle.node_with_workers.proofs.Names.{arith, vec_len}
use Rattle.node_core.specs.Stands.{terms_of_node}
use Rattle.node_with_workers.proofs.Lemmas.{causes_from, run_from, says_last, started}
use Rattle.node_with_workers.proofs.run.with_servers_beside.Goals as goal

pub unpacked-requires : goal.unpacked-requires
unpacked-requires g c =
    says_last g.S.Set.Serve.rounds (λ o. o.client)
    (λ b. b.client) g.C.Client.promise g.D.Client.promise _ _ c.args.settings c.in-Ok-ran.ran _ c.in-Ok-ran.ensures.ran

pub returns-in-Ok-unpacked-clause-run : goal.returns-in-Ok-unpacked-clause-run
returns-in-Ok-unpacked-clause-run g c =
    let few = c.requires.few in
    let same = c.len-count.ensures in
    run_from g.S.Set.Serve.rounds (λ o. o.client) (λ b. b.client) g.C.Client.promise g.D.Client.promise _ _ c.args.settings c.in-Ok-ran.ran
    (terms_of_node c.in-Ok.node) _
    (vec_len c.args.others) c.in-Ok.ensures.terms (omega arith) c.in-Ok-ran.ensures.ran c.args.others.items (omega arith) c.in-Ok-entering.ensures
    c.in-Ok-unpacked.done c.in-Ok-unpacked.ensures.all

pub returns-in-Err-unpacked-clause-causes : goal.returns-in-Err-unpacked-clause-causes
returns-in-Err-unpacked-clause-causes g c =
    let few = c.requires.few in
    let same = c.len-count.ensures in
    (causes_from g.S.Set.Serve.rounds (λ o. o.client) (λ b. b.client) g.C.Client.promise g.D.Client.promise _ _ c.args.settings c.in-Ok-ran.ran
    (terms_of_node c.in-Ok.node) _
    (vec_len c.args.others) c.in-Ok.ensures.terms (omega arith) c.in-Ok-ran.ensures.ran c.args.others.items (omega arith) c.in-Ok-entering.ensures
    c.in-Err-unpacked.failure c.in-Err-unpacked.ensures.lost).1

pub returns-in-Err-unpacked-clause-unbegun : goal.returns-in-Err-unpacked-clause-unbegun
returns-in-Err-unpacked-clause-unbegun g c =
    let few = c.requires.few in
    let same = c.len-count.ensures in
    started c.args.settings.workers c.in-Err-unpacked.failure
    (causes_from g.S.Set.Serve.rounds (λ o. o.client) (λ b. b.client) g.C.Client.promise g.D.Client.promise _ _ c.args.settings c.in-Ok-ran.ran
    (terms_of_node c.in-Ok.node) _
    (vec_len c.args.others) c.in-Ok.ensures.terms (omega arith) c.in-Ok-ran.ensures.ran c.args.others.items (omega arith) c.in-Ok-entering.ensures
    c.in-Err-unpacked.failure c.in-Err-unpacked.ensures.lost).0
