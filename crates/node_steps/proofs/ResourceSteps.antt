-- The ops on resources are steps of the machine.
use Rattle.node_steps.proofs.Names.{nat_tests, ◌≡◌, ℕ, true, refl, sym, ap, subst, arith, NodeSettings, Op, Reply, State, after_row, row, IsHonest, renamed_op, ResourceTable, HoldsAll, resource_lists, Does, IsAt, is_mrapi, PoolNode, Lists, Live, PoolNodeSteps, state_of}
use Rattle.mtapi_machine.specs.declared.ops.Op.TheVariants as op
use Rattle.mtapi_renaming.specs.Renaming.{Renaming}
use Rattle.node_resources.specs.declared.gate.Gate.{Gate}
use Rattle.node_resources.specs.Steps.{ResourceSteps}

-- a seat tells nothing with such an op that it could not know
honest : (o : Op) → is_mrapi o ≡ true → IsHonest o
honest o e1 = grind (arith, nat_tests)

-- with other handles it is still such an op
pub stays : (g : Renaming) (o : Op) → is_mrapi (renamed_op g o) ≡ is_mrapi o
stays g o = grind (arith, nat_tests)

-- the gate that the node tells is that of its state
pub is_at : (n : PoolNode) (l : Lists) (g : Gate) → g.phase ≡ n.core.phase → g.workers ≡ n.scheduler.settings.workers → IsAt (state_of n l) g
is_at n l g phase workers = record { layout = refl; phase = sym phase; workers = sym workers }

-- a step of the resources is one of the node
pub carries : (n : PoolNode) (l : Lists) (who : ℕ) (o : Op) (r : Reply) (g : Gate) (new : ResourceTable) → Live n l → is_mrapi o ≡ true → g.phase ≡ n.core.phase
    → g.workers ≡ n.scheduler.settings.workers → ResourceSteps n.resources g who o r new → PoolNodeSteps n l who o r (record n { resources = new })
carries n l who o r g new v is phase workers s = (
  record l { resources = resource_lists (after_row (state_of n l) (row (state_of n l) who o r)) },
  record {
    allowed = d.allowed;
    leads = d.others;
    live = record {
      actions = v.actions;
      tasks = v.tasks;
      groups = v.groups;
      queues = v.queues;
      resources = subst (λ (a : NodeSettings). HoldsAll a new (resource_lists (after_row (state_of n l) (row (state_of n l) who o r))))
          (ap (λ (x : State). x.terms.settings) d.others) d.stands;
    };
    terms = refl;
    starts = omega arith;
    honest = honest o is;
  },
)
  where
    d : Does (state_of n l) who o r new
    d = s (state_of n l) (is_at n l g phase workers) v.resources
