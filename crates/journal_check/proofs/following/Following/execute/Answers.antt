use Rattle.journal_check.proofs.Names.{◌≡◌, List, [], ◌∷◌, ◌++◌, true, Decides, subst, entry, Op, Reply, Allows, row, NodeEntry, after, PoolNodeStands, renaming_of, renamed_op, renamed_reply, takes_task}
use Rattle.node_steps.specs.Stands.{terms_of}
use Rattle.journal_check.proofs.Executes.{executed}
use Rattle.journal_check.proofs.following.Following.execute.Goals as goal

pub returns-clause-judges : goal.returns-clause-judges
returns-clause-judges c =
    let f = c.args.self.now in
    let e = c.args.entry.now in
    let m = c.answer-given.new.node in
    let given = c.answer-given.result in
    let op : c.renamed_op-op.result ≡ renamed_op (renaming_of f.names) e.op = cc in
    let told : c.renamed_answer-told.result ≡ renamed_reply (renaming_of f.names) e.op e.reply = cc in
    executed c.laws.ensures f e m given c.requires.idle c.answer-given.ensures.terms
    (subst (λ (o : Op). (L : List NodeEntry) → PoolNodeStands f.node L → PoolNodeStands m (L ++ entry e.who o given ∷ [])) op c.answer-given.ensures.stands)
    (subst (λ (r : Reply). (L : List NodeEntry) → PoolNodeStands f.node L → takes_task (renamed_op (renaming_of f.names) e.op) r ≡ true
    → Allows (row (after (terms_of f.node) L) e.who (renamed_op (renaming_of f.names) e.op) r) r → given ≡ r) told
    (subst (λ (o : Op). (L : List NodeEntry) → PoolNodeStands f.node L → takes_task o c.renamed_answer-told.result ≡ true
    → Allows (row (after (terms_of f.node) L) e.who o c.renamed_answer-told.result) c.renamed_answer-told.result
    → given ≡ c.renamed_answer-told.result) op c.answer-given.ensures.toward))
    c.same_reply.result
    (subst (λ (r : Reply). Decides c.same_reply.result (r ≡ given)) told c.same_reply.ensures)
