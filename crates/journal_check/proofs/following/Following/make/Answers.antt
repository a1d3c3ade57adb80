use Rattle.journal_check.proofs.Names.{◌≡◌, ℕ, List, [], ◌∷◌, ◌++◌, subst, entry, Op, Handle, NodeEntry, PoolNodeStands, renaming_of, renamed_op, NotesObject}
use Rattle.journal_check.proofs.Makes.{judged_other, judged_stale, judged_idle, judged_made}
use Rattle.journal_check.proofs.following.Following.make.Goals as goal

pub returns-in_default : goal.returns-in_default
returns-in_default c =
    judged_other c.laws.ensures c.args.self.now c.args.entry.now c.args.kind c.requires.makes c.requires.accepted c.requires.more
    (λ h e. c.in_default.not-Handle h e)

pub returns-then-not-is_next : goal.returns-then-not-is_next
returns-then-not-is_next c =
    judged_stale c.laws.ensures c.args.self.now c.args.entry.now c.args.kind c.requires.makes c.requires.accepted c.requires.more c.in-Handle.handle
    c.in-Handle.is
    c.if-not-is_next.ensures

pub returns-in_default-step : goal.returns-in_default-step
returns-in_default-step c =
    let f = c.args.self.now in
    let e = c.args.entry.now in
    let op : c.renamed_op-op.result ≡ renamed_op (renaming_of f.names) e.op = cc in
    let stands : (L : List NodeEntry) → PoolNodeStands f.node L
    → PoolNodeStands c.step.new.self (L ++ entry e.who (renamed_op (renaming_of f.names) e.op) c.step.result ∷ []) =
    subst (λ (o : Op). (L : List NodeEntry) → PoolNodeStands f.node L
    → PoolNodeStands c.step.new.self (L ++ entry e.who o c.step.result ∷ [])) op c.step.ensures.stands in
    judged_idle c.laws.ensures f e c.args.kind c.requires.makes c.requires.accepted c.requires.more c.in-Handle.handle c.in-Handle.is c.if-not-is_next.ensures
    c.step.new.self c.step.ensures.terms
    c.step.result stands (λ h i. c.in_default-step.not-Handle h i)

pub returns : goal.returns
returns c =
    let f = c.args.self.now in
    let e = c.args.entry.now in
    let op : c.renamed_op-op.result ≡ renamed_op (renaming_of f.names) e.op = cc in
    let stands : (L : List NodeEntry) → PoolNodeStands f.node L
    → PoolNodeStands c.step.new.self (L ++ entry e.who (renamed_op (renaming_of f.names) e.op) (Handle c.in-Handle-step.other) ∷ []) =
    subst (λ (o : Op). (L : List NodeEntry) → PoolNodeStands f.node L
    → PoolNodeStands c.step.new.self (L ++ entry e.who o (Handle c.in-Handle-step.other) ∷ [])) op c.in-Handle-step.ensures.stands in
    let last : c.from.result ≡ f.terms.settings.generations = cc in
    let notes : NotesObject c.args.kind f.terms.settings.generations c.in-Handle.handle f.made c.note.new.self =
    subst (λ (m : ℕ). NotesObject c.args.kind m c.in-Handle.handle f.made c.note.new.self) last c.in_ok-note.ensures in
    judged_made c.laws.ensures f e c.args.kind c.requires.makes c.requires.accepted c.requires.more c.in-Handle.handle c.in-Handle.is c.if-not-is_next.ensures
    c.step.new.self c.step.ensures.terms
    c.in-Handle-step.other stands c.add.new.self c.note.new.self c.in_ok-add.ensures.ok notes
