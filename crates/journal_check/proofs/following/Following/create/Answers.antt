use Rattle.journal_check.proofs.Names.{◌≡◌, List, Some, None, subst, IsSome, Op, NodeEntry, after, PoolNodeStands, made_kind, refusal_of, renaming_of, renamed_op}
use Rattle.node_steps.specs.Stands.{terms_of}
use Rattle.journal_check.proofs.Creates.{makes_some, refusal_here, judged_refused}
use Rattle.journal_check.proofs.following.Following.create.Goals as goal

pub refusal-requires : goal.refusal-requires
refusal-requires c =
    let f = c.args.self.now in
    let e = c.args.entry.now in
    let op : renamed_op (renaming_of f.names) e.op ≡ c.renamed_op-op.result = cc in
    record { makes = subst (λ (o : Op). IsSome (made_kind o)) op (makes_some (renaming_of f.names) e.op c.args.kind c.requires.makes) }

pub returns-in-Some : goal.returns-in-Some
returns-in-Some c =
    let f = c.args.self.now in
    let e = c.args.entry.now in
    let op : c.renamed_op-op.result ≡ renamed_op (renaming_of f.names) e.op = cc in
    judged_refused c.laws.ensures f e c.args.kind c.requires.makes c.same_reply.result c.in-Some.refused c.same_reply.ensures
    (subst (λ (o : Op). (K : List NodeEntry) → PoolNodeStands f.node K
    → refusal_of (after (terms_of f.node) K) e.who o ≡ Some c.in-Some.refused) op c.in-Some.ensures)

pub place-requires-clause-accepted : goal.place-requires-clause-accepted
place-requires-clause-accepted c =
    let f = c.args.self.now in
    let e = c.args.entry.now in
    let op : c.renamed_op-op.result ≡ renamed_op (renaming_of f.names) e.op = cc in
    refusal_here c.laws.ensures f e c.args.kind c.requires.makes None
    (subst (λ (o : Op). (K : List NodeEntry) → PoolNodeStands f.node K → refusal_of (after (terms_of f.node) K) e.who o ≡ None) op c.in-None.ensures)
