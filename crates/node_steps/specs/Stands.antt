-- What it means that a node stands for a history.
use Rattle.std.specs.Prelude.{◌≡◌, ℕ, ◌+◌, ◌≤◌, List, length}
use Rattle.mtapi_values.specs.Attributes.{NodeSettings}
use Rattle.node_steps.specs.Names.{Slots, Listed, Action, Task, Queue, records_of, group_slots, Group, Reply, State, terms_with as node_terms, Allows, after_row, row, ResourceTable, ResourceLists, HoldsAll}
use Rattle.mtapi_values.specs.declared.handles.Layout.TheVariants.{One}
use Rattle.mtapi_machine.specs.declared.terms.Terms.{Terms}
use Rattle.mtapi_machine.specs.declared.ops.Op.{Op}
use Rattle.mtapi_machine.specs.Legal.{NodeEntry, IsHonest, Legal, after}
pub use Rattle.node_resources.specs.Holds.{Holds}
use Rattle.node_steps.specs.declared.node.PoolNode.{PoolNode}
use Rattle.node_steps.specs.Keeps.{Keeps}

-- the objects that were ever made
pub record Lists : Type 0 where
  pub actions : List (Listed Action)
  pub tasks : List (Listed Task)
  pub groups : List (Listed Group)
  pub queues : List (Listed Queue)
  pub resources : ResourceLists

-- what no op changes; handles are those of layout one
abbrev pub terms_of : PoolNode → Terms
terms_of n = node_terms One n.scheduler.settings n.core.callers

-- the state of the machine that has these lists, and all else as the node has it
abbrev pub state_of : PoolNode → Lists → State
state_of n l = record {
  terms = terms_of n;
  phase = n.core.phase;
  released = n.core.released;
  stopped = n.core.stopped;
  starts = n.scheduler.tasks.starts;
  ends = n.scheduler.tasks.ends;
  actions = l.actions;
  tasks = l.tasks;
  groups = l.groups;
  queues = l.queues;
  mutexes = l.resources.mutexes;
  sems = l.resources.sems;
  rwls = l.resources.rwls;
  segments = l.resources.segments;
}

-- the node's pools stand for these lists
pub record Pools (settings : NodeSettings) (a : Slots Action) (t : Slots Task) (g : Slots Group) (q : Slots Queue) (r : ResourceTable)
    (l : Lists) : Type 0 where
  pub actions : Holds settings.actions settings.generations a l.actions
  pub tasks : Holds settings.tasks settings.generations t l.tasks
  pub groups : Holds settings.groups settings.generations g l.groups
  pub queues : Holds settings.queues settings.generations q l.queues
  pub resources : HoldsAll settings r l.resources

abbrev pub Live : PoolNode → Lists → Type 0
Live n l = Pools n.scheduler.settings n.scheduler.actions n.scheduler.tasks.pool (group_slots n.scheduler) (records_of n.scheduler.queues.pool) n.resources l

-- the step from n to m, with these lists then, is one of the machine's
pub record StepsTo (n : PoolNode) (l : Lists) (who : ℕ) (op : Op) (r : Reply) (m : PoolNode) (k : Lists) : Type 0 where
  pub allowed : Allows (row (state_of n l) who op r) r
  pub leads : after_row (state_of n l) (row (state_of n l) who op r) ≡ state_of m k
  pub live : Pools n.scheduler.settings m.scheduler.actions m.scheduler.tasks.pool (group_slots m.scheduler) (records_of m.scheduler.queues.pool) m.resources k
  pub terms : terms_of m ≡ terms_of n
  pub starts : m.scheduler.tasks.starts ≤ n.scheduler.tasks.starts + 1
  pub honest : IsHonest op

abbrev pub PoolNodeSteps : PoolNode → Lists → ℕ → Op → Reply → PoolNode → Type 0
PoolNodeSteps n l who op r m = (k : Lists) × StepsTo n l who op r m k

-- the node stands for the list: it is legal, and leads to what the node holds
pub record PoolNodeStands (n : PoolNode) (L : List NodeEntry) : Type 0 where
  pub legal : Legal (terms_of n) L
  pub lists : Lists
  pub state : after (terms_of n) L ≡ state_of n lists
  pub live : Live n lists
  pub starts : n.scheduler.tasks.starts ≤ length L
  pub keeps : Keeps (after (terms_of n) L) n.scheduler

-- a node stands for legal histories alone
abbrev pub history_of : (n : PoolNode) (L : List NodeEntry) → PoolNodeStands n L → Legal (terms_of n) L
history_of n L s = s.legal

-- how many seats these terms give
abbrev pub seat_count : Terms → ℕ
seat_count t = t.settings.workers + t.callers
