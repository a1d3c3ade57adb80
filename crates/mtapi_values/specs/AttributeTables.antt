-- The tables of attributes: each one's number, range and value, and what `set` and `get` make of them.
use Rattle.std.specs.Prelude.{ℕ, Bool, true, false, ◌&&◌, ◌==◌, nat_le, List, [], ◌∷◌, Result, Ok, Err, if◌then◌else◌}
use Rattle.mtapi_values.specs.declared.statuses.MtapiStatus.{MtapiStatus}
use Rattle.mtapi_values.specs.declared.statuses.MtapiStatus.TheVariants.{ErrAttrNum, ErrAttrReadonly, ErrParameter}
use Rattle.mtapi_values.specs.Attributes.{NodeSettings, ActionAttributes, TaskAttributes, QueueAttributes, MutexAttributes}

-- one attribute of the type S: its number, whether it can be set, the ends of its range, its value, and S with another value
pub record Attribute (S : Type 0) : Type 0 where
  pub number : ℕ
  pub settable : Bool
  pub least : ℕ
  pub greatest : ℕ
  pub value : S → ℕ
  pub changed : ℕ → S → S

-- the value is in the range, both ends included
abbrev pub is_within : ℕ → ℕ → ℕ → Bool
is_within least greatest value = nat_le least value && nat_le value greatest

-- a yes or no as a number, and back
abbrev pub number_of_bool : Bool → ℕ
number_of_bool b = if b then 1 else 0

abbrev pub is_one : ℕ → Bool
is_one value = value == 1

-- what a set of this attribute answers: first whether it can be set, then whether the value is in its range
abbrev pub answer_at : {S : Type 0} → Attribute S → ℕ → Result (Unit {0}) MtapiStatus
answer_at a value = if a.settable then (if is_within a.least a.greatest value then Ok tt else Err ErrParameter) else Err ErrAttrReadonly

-- what `set` answers
abbrev pub set_answer : {S : Type 0} → List (Attribute S) → ℕ → ℕ → Result (Unit {0}) MtapiStatus
set_answer [] number value = Err ErrAttrNum
set_answer (a ∷ table) number value = if number == a.number then answer_at a value else set_answer table number value

-- what holds after `set`: the new value where it was taken, and else all as before
abbrev pub after_set : {S : Type 0} → List (Attribute S) → ℕ → ℕ → S → S
after_set [] number value s = s
after_set (a ∷ table) number value s =
    if number == a.number then (if a.settable && is_within a.least a.greatest value then a.changed value s else s) else after_set table number value s

-- what `get` answers
abbrev pub get_answer : {S : Type 0} → List (Attribute S) → ℕ → S → Result ℕ MtapiStatus
get_answer [] number s = Err ErrAttrNum
get_answer (a ∷ table) number s = if number == a.number then Ok (a.value s) else get_answer table number s

-- an attribute with a range, a yes or no, one of 64 bits, and one that can't be set
abbrev pub ranged : {S : Type 0} → ℕ → ℕ → ℕ → (S → ℕ) → (ℕ → S → S) → Attribute S
ranged number least greatest value changed = record { number = number; settable = true; least = least; greatest = greatest; value = value; changed = changed }

abbrev pub yes_or_no : {S : Type 0} → ℕ → (S → Bool) → (Bool → S → S) → Attribute S
yes_or_no number value changed = ranged number 0 1 (λ s. number_of_bool (value s)) (λ n s. changed (is_one n) s)

abbrev pub bits : {S : Type 0} → ℕ → (S → ℕ) → (ℕ → S → S) → Attribute S
bits number value changed = ranged number 0 18446744073709551615 value changed

abbrev pub read_only : {S : Type 0} → ℕ → (S → Bool) → Attribute S
read_only number value = record { number = number; settable = false; least = 0; greatest = 0; value = λ s. number_of_bool (value s); changed = λ n s. s }

-- the settings of a node
abbrev pub node_attributes : List (Attribute NodeSettings)
node_attributes =
    ranged 1 1 16 (λ s. s.workers) (λ n s. record s { workers = n })
    ∷ ranged 2 1 65536 (λ s. s.tasks) (λ n s. record s { tasks = n })
    ∷ ranged 3 1 1024 (λ s. s.actions) (λ n s. record s { actions = n })
    ∷ ranged 4 1 1024 (λ s. s.groups) (λ n s. record s { groups = n })
    ∷ ranged 5 1 256 (λ s. s.queues) (λ n s. record s { queues = n })
    ∷ ranged 6 1 256 (λ s. s.objects) (λ n s. record s { objects = n })
    ∷ ranged 7 1 8 (λ s. s.priorities) (λ n s. record s { priorities = n })
    ∷ ranged 8 1 4294967295 (λ s. s.generations) (λ n s. record s { generations = n })
    ∷ []

-- the attributes of an action
abbrev pub action_attributes : List (Attribute ActionAttributes)
action_attributes =
    read_only 1 (λ a. a.global)
    ∷ bits 2 (λ a. a.affinity) (λ n a. record a { affinity = n })
    ∷ read_only 3 (λ a. a.domain_shared)
    ∷ []

-- the attributes of a task
abbrev pub task_attributes : List (Attribute TaskAttributes)
task_attributes =
    yes_or_no 1 (λ t. t.detached) (λ b t. record t { detached = b })
    ∷ ranged 2 1 1 (λ t. t.instances) (λ n t. record t { instances = n })
    ∷ ranged 3 0 7 (λ t. t.priority) (λ n t. record t { priority = n })
    ∷ bits 4 (λ t. t.affinity) (λ n t. record t { affinity = n })
    ∷ []

-- the attributes of a queue
abbrev pub queue_attributes : List (Attribute QueueAttributes)
queue_attributes =
    read_only 1 (λ q. q.global)
    ∷ ranged 2 0 7 (λ q. q.priority) (λ n q. record q { priority = n })
    ∷ ranged 3 1 65536 (λ q. q.limit) (λ n q. record q { limit = n })
    ∷ yes_or_no 4 (λ q. q.ordered) (λ b q. record q { ordered = b })
    ∷ yes_or_no 5 (λ q. q.retain) (λ b q. record q { retain = b })
    ∷ read_only 6 (λ q. q.domain_shared)
    ∷ []

-- the attributes of a mutex
abbrev pub mutex_attributes : List (Attribute MutexAttributes)
mutex_attributes = yes_or_no 1 (λ m. m.recursive) (λ b m. record m { recursive = b }) ∷ []
