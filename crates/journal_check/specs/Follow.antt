-- What a follower is beside the machine's state after the entries so far.
use Rattle.std.specs.Prelude.{◌≡◌, ◌↔◌, ℕ, ◌≤◌, ◌<◌, Bool, true, IsTrue, List, [], ◌∷◌, ◌++◌, length}
use Rattle.mtapi_values.specs.declared.handles.ObjectKind.{ObjectKind}
use Rattle.mtapi_values.specs.declared.handles.Layout.TheVariants.{One}
use Rattle.mtapi_machine.specs.declared.terms.Terms.{Terms}
use Rattle.mtapi_machine.specs.State.{State}
use Rattle.mtapi_machine.specs.Row.{Allows}
use Rattle.mtapi_machine.specs.Legal.{NodeEntry, row_of, IsNext, after}
use Rattle.node_steps.specs.declared.node.PoolNode.{PoolNode}
use Rattle.node_steps.specs.Stands.{PoolNodeStands, terms_of}
use Rattle.mtapi_renaming.specs.Renaming.{Renaming}
use Rattle.mtapi_renaming.specs.Renamed.{Room, terms_in, renamed}
use Rattle.mtapi_renaming.specs.Follows.{Follows}
use Rattle.mtapi_renaming.specs.Counts.{made_in}
use Rattle.mtapi_renaming.specs.Maps.{renaming_of}
use Rattle.journal_check.specs.Made.{TellsState}
use Rattle.journal_check.specs.declared.following.Following.{Following}

-- the last generation of the follower's node: it makes fewer objects than that
abbrev pub last_generation : ℕ
last_generation = 4294967295

-- the room of the follower's node: handles of layout one, the journal's own limits, and generations that don't end
abbrev pub room_of : Terms → Room
room_of terms = record {
  layout = One;
  tasks = terms.settings.tasks;
  actions = terms.settings.actions;
  groups = terms.settings.groups;
  queues = terms.settings.queues;
  objects = terms.settings.objects;
  generations = last_generation;
}

-- the node stands for entries of its own, no more than these many, which lead to the state with other handles
pub record Mirrors (n : PoolNode) (g : Renaming) (terms : Terms) (s : State) (count : ℕ) : Type 0 where
  pub own : List NodeEntry
  pub stands : PoolNodeStands n own
  pub renames : after (terms_of n) own ≡ renamed g (room_of terms) s
  pub few : length own ≤ count

-- the follower has come as far as these entries lead
pub record HasFollowed (f : Following) (L : List NodeEntry) : Type 0 where
  pub node : Mirrors f.node (renaming_of f.names) f.terms (after f.terms L) (length L)
  pub terms : terms_of f.node ≡ terms_in (room_of f.terms) f.terms
  pub follows : Follows (renaming_of f.names) (after f.terms L)
  pub made : TellsState f.made (after f.terms L)
  pub few : (k : ObjectKind) → made_in k (after f.terms L) ≤ length L

-- it has come as far as the other one, with the same node
pub record Same (f g : Following) : Type 0 where
  pub terms : g.terms ≡ f.terms
  pub node : g.node ≡ f.node
  pub there : (L : List NodeEntry) → HasFollowed f L → HasFollowed g L
  pub back : (L : List NodeEntry) → HasFollowed g L → HasFollowed f L

-- of fewer entries than the node has generations, it has judged whether the row of this entry's op allows its reply, and where it does it has come so far
pub record JudgesEntry (f : Following) (e : NodeEntry) (passes : Bool) (g : Following) : Type 0 where
  pub terms : g.terms ≡ f.terms
  pub exact : (L : List NodeEntry) → HasFollowed f L → length L < last_generation → IsTrue passes ↔ Allows (row_of (after f.terms L) e) e.reply
  pub goes_on : (L : List NodeEntry) → HasFollowed f L → length L < last_generation → passes ≡ true → HasFollowed g (L ++ e ∷ [])

-- it has judged whether the entry may come next, and where it may it has come so far
pub record JudgesNext (f : Following) (e : NodeEntry) (passes : Bool) (g : Following) : Type 0 where
  pub terms : g.terms ≡ f.terms
  pub exact : (L : List NodeEntry) → HasFollowed f L → length L < last_generation → IsTrue passes ↔ IsNext (after f.terms L) e
  pub goes_on : (L : List NodeEntry) → HasFollowed f L → length L < last_generation → passes ≡ true → HasFollowed g (L ++ e ∷ [])
