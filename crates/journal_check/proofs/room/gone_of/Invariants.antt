use Rattle.journal_check.proofs.Names.{◌≡◌, ◌≤◌, ℕ, take, Terms, State, gone_of, Follows, renaming_of, Mirrors}
use Rattle.journal_check.proofs.room.gone_of.Given as goal

abbrev pub invariant-loop-handle : goal.invariant-loop-handle
invariant-loop-handle l = record {
  few : l.gone ≤ l.handle-index;
  told : (terms : Terms) (s : State) (count : ℕ) → Mirrors l.node (renaming_of l.names) terms s count → Follows (renaming_of l.names) s
      → gone_of l.kind s (take l.handle-index l.handles) ≡ l.gone;
}
