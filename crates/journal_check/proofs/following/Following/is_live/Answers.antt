use Rattle.journal_check.proofs.Names.{◌≡◌, ℕ, List, length, subst, NodeEntry, after, PoolNodeStands, is_live_of, renaming_of}
use Rattle.node_steps.specs.Stands.{terms_of}
use Rattle.journal_check.proofs.Rooms.{live_here}
use Rattle.journal_check.proofs.following.Following.is_live.Goals as goal

pub returns : goal.returns
returns c L h =
    let f = c.args.self.now in
    let told : (K : List NodeEntry) → PoolNodeStands f.node K
    → is_live_of c.args.kind (after (terms_of f.node) K) (renaming_of f.names c.args.kind c.args.handle) ≡ c.is_live.result =
    subst (λ (n : ℕ). (K : List NodeEntry) → PoolNodeStands f.node K
    → is_live_of c.args.kind (after (terms_of f.node) K) n ≡ c.is_live.result) c.other.ensures c.is_live.ensures in
    live_here c.laws.ensures f.node (renaming_of f.names) c.args.kind c.args.handle c.is_live.result told f.terms (after f.terms L) (length L) h.node h.follows
