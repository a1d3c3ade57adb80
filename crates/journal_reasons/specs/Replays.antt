-- What a replay keeps.
use Rattle.std.specs.Prelude.{ℕ, ◌≤◌, List, length}
use Rattle.mtapi_machine.specs.Legal.{NodeEntry}
use Rattle.node_steps.specs.declared.node.PoolNode.{PoolNode}
use Rattle.node_steps.specs.Stands.{PoolNodeStands}

-- the node stands for some history of no more than these many entries
pub record StandsForSome (n : PoolNode) (most : ℕ) : Type 0 where
  pub entries : List NodeEntry
  pub stands : PoolNodeStands n entries
  pub few : length entries ≤ most
