use Rattle.node_core.proofs.Names.{◌≡◌, ◌+◌, ℕ, refl, arith, free_slot, issued_at, retired, AgreesIn, same_fields}
use Rattle.mtapi_values.specs.declared.handles.ObjectKind.TheVariants as kind
use Rattle.handle_pool.specs.Inside.{inside}
use Rattle.node_core.specs.Worked.{one_gone, one_live, same_turn, none_retired}
use Rattle.node_core.proofs.worked.worked_agreement.Goals as goal

not_next : (n : ℕ) → n ≡ n + 1 → ⊥
not_next n e = omega (arith, e)

next_turn : AgreesIn kind.Task same_fields 5 same_turn one_gone → ⊥
unfolding issued_at inside
next_turn a = not_next 1 (a.turns 0 (free_slot 1) refl)

last_turn : AgreesIn kind.Task same_fields 1 none_retired one_live → ⊥
unfolding retired inside
last_turn a = not_next 0 a.retired

pub returns : goal.returns
returns c = record { next_turn = next_turn; last_turn = last_turn }
