-- What it means that a node stands for a history.
use Rattle.std.specs.Prelude.{◌≡◌, List}
use Rattle.mtapi_values.specs.declared.handles.Layout.TheVariants.{Two}
use Rattle.mtapi_machine.specs.declared.terms.Terms.{Terms}
use Rattle.mtapi_machine.specs.Legal.{NodeEntry, Legal}
use Rattle.mtapi_layouts.specs.Turns.{inner_entries, outer_entries, AllIssueSmall}
use Rattle.node_steps.specs.Stands.{PoolNodeStands as StandsInside, terms_of as terms_inside}
pub use Rattle.node_steps.specs.Stands.{seat_count}
use Rattle.node_core.specs.declared.node.Node.{Node}

-- what no op changes; handles are those of layout two
abbrev pub terms_of_node : Node → Terms
terms_of_node n = record (terms_inside n.inner) { layout = Two }

-- the node stands for the list that its callers see: the node inside, which has the handles of its pools, stands for this list as it
-- saw it
pub record NodeStands (n : Node) (L : List NodeEntry) : Type 0 where
  -- each entry with the op as its caller asked it, and the reply as the node inside gave it
  pub entries : List NodeEntry
  pub seen : outer_entries entries ≡ L
  pub small : AllIssueSmall entries
  pub inside : StandsInside n.inner (inner_entries entries)
  -- the list is legal under the node's terms
  pub legal : Legal (terms_of_node n) L

-- a node stands for legal histories alone
abbrev pub node_history_of : (n : Node) (L : List NodeEntry) → NodeStands n L → Legal (terms_of_node n) L
node_history_of n L s = s.legal

-- terms of a node: the usual settings, and main alone
abbrev pub some_terms : Terms
some_terms = record {
  layout = Two;
  settings = record { workers = 1; tasks = 1024; actions = 64; groups = 128; queues = 16; objects = 16; priorities = 4; generations = 4294967295 };
  callers = 1;
}
