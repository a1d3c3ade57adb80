-- Where a worker begins.
use Rattle.workload_runners.proofs.Names.{[], ◌<◌, ◌≡◌, AtRest, Free, List, NodeEntry, Seat, after, after_from, refl, subst, sym}

-- a worker's seat that has seen nothing has no task
pub new_at_rest : (s : Seat) → s.number < s.terms.node.settings.workers → s.seen ≡ [] → AtRest s
unfolding after_from
new_at_rest s l n = record { worker = l; free = subst (λ (es : List NodeEntry). Free (after s.terms.node es) s.number) (sym n) refl }
