-- The ops that C names by numbers.
use Rattle.std.specs.Prelude.{ℕ, ℤ, zero, suc, List, length, nat_le, Option, Some, None, if◌then◌else◌}
use Rattle.action_fn.specs.Answers.{answer_of, is_pure}
use Rattle.mtapi_values.specs.declared.handles.GroupHandle.{GroupHandle}
use Rattle.mtapi_values.specs.declared.kinds.Kind.{Kind}
use Rattle.mtapi_machine.specs.declared.ops.Op.{Op}
use Rattle.mtapi_machine.specs.declared.ops.Op.TheVariants as op

-- a group by its handle, 0 for none
abbrev pub group_by_handle : ℕ → Option GroupHandle
group_by_handle zero = None
group_by_handle (suc n) = Some (record { 0 = suc n })

-- the op with these numbers, where they are 16 at most
abbrev pub op_with_numbers : List ℤ → (List ℤ → Op) → Option Op
op_with_numbers numbers op = if nat_le (length numbers) 16 then Some (op numbers) else None

-- an action of this kind, where there is such a kind
abbrev pub action_op : ℕ → Option Kind → ℕ → Option Op
action_op job None cores = None
action_op job (Some kind) cores = Some (op.ActionCreate job kind (record { 0 = cores }))

-- the end of a task by what its kind answers to these numbers, where the kind is pure
abbrev pub finish_op : ℕ → Option Kind → List ℤ → Option Op
finish_op task None numbers = None
finish_op task (Some kind) numbers =
    if is_pure kind
    then op_with_numbers numbers (λ args. op.Finish (record { 0 = task }) (record { kind = kind; args = args; end = answer_of kind args }))
    else None
