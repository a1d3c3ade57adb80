-- What calls by the handle of a node do.
use Rattle.std.specs.Prelude.{◌≡◌, ℕ, List, [], Some}
use Rattle.mtapi_machine.specs.declared.ops.Op.{Op}
use Rattle.mtapi_machine.specs.declared.replies.Reply.{Reply}
use Rattle.mtapi_machine.specs.Legal.{NodeEntry}
use Rattle.node_core.specs.declared.journaled.JournaledTerms.{JournaledTerms}
use Rattle.node_handle.specs.declared.counted.CountedNode.{CountedNode}
use Rattle.node_handle.specs.declared.held.Held.{Held}
use Rattle.node_handle.specs.declared.held.Held.TheVariants.{Node}
use Rattle.node_handle.specs.declared.handle.NodeHandle.{NodeHandle}
use Rattle.node_handle.specs.Turns.{StandsCounted, MadeOrRefused, terms_counted}

-- this is a node that stands for some history
pub record IsLiveNode (held : Held) : Type 0 where
  pub node : CountedNode
  pub holds : held ≡ Node node
  pub history : List NodeEntry
  pub counts : StandsCounted node history

-- the node was asked
abbrev pub NodeCalled : Held → ℕ → Op → Reply → Held → Type 0
NodeCalled old who op r new = (n : CountedNode) → old ≡ Node n → (m : CountedNode) × (new ≡ Node m) × MadeOrRefused n who op r m

-- the handle holds a node with these terms that nobody has called
pub record IsNewNode (h : NodeHandle) (asked : JournaledTerms) : Type 0 where
  pub node : CountedNode
  pub holds : h.held ≡ Some (Node node)
  pub terms : terms_counted node ≡ asked
  pub counts : StandsCounted node []

-- the handle holds a node that stands for some history
pub record IsLive (h : NodeHandle) : Type 0 where
  pub node : CountedNode
  pub holds : h.held ≡ Some (Node node)
  pub history : List NodeEntry
  pub counts : StandsCounted node history

-- the held node was asked
abbrev pub HandleCalled : NodeHandle → ℕ → Op → Reply → NodeHandle → Type 0
HandleCalled old who op r new = (n : CountedNode) → old.held ≡ Some (Node n) → (m : CountedNode) × (new.held ≡ Some (Node m)) × MadeOrRefused n who op r m
