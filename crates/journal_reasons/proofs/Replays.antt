-- A replay goes on by one entry.
use Rattle.std.proofs.Common.{ℕ, ◌+◌, ◌<◌, ◌^◌, List, [], ◌∷◌, ◌++◌, length, arith, length-append}
use Rattle.mtapi_machine.specs.Legal.{NodeEntry}
use Rattle.node_steps.specs.declared.node.PoolNode.{PoolNode}
use Rattle.node_steps.specs.Stands.{PoolNodeStands}
use Rattle.journal_reasons.specs.Replays.{StandsForSome}

pub has_room : (n : PoolNode) (most : ℕ) → StandsForSome n most → most < 2 ^ 62 → (L : List NodeEntry) × PoolNodeStands n L × (length L < 2 ^ 62 + 16)
has_room n most s few = (s.entries, s.stands, omega (arith, s.few, few))

pub after_one : (n m : PoolNode) (most : ℕ) (e : NodeEntry) → StandsForSome n most
    → ((L : List NodeEntry) → PoolNodeStands n L → PoolNodeStands m (L ++ e ∷ []))
    → StandsForSome m (most + 1)
after_one n m most e s steps = record {
  entries = s.entries ++ e ∷ [];
  stands = steps s.entries s.stands;
  few = omega (arith, s.few, length-append s.entries (e ∷ []));
}

pub before_all : (n : PoolNode) → PoolNodeStands n [] → StandsForSome n 0
before_all n s = record { entries = []; stands = s; few = omega arith }
