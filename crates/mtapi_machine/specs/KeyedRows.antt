-- What the rows of queues and of the four kinds of resources share: their objects are found by an id.
use Rattle.std.specs.Prelude.{ℕ, Bool, ◌==◌, nat_lt, not, List, [], ◌∷◌, Option, Some, None, if◌then◌else◌}
use Rattle.mtapi_values.specs.declared.statuses.MtapiStatus.TheVariants as m
use Rattle.mtapi_machine.specs.Names.{MrapiStatus, live_of, any_listed, first_handle}
use Rattle.mtapi_values.specs.declared.statuses.MrapiStatus.TheVariants as c
use Rattle.mtapi_machine.specs.declared.replies.Reply.{Reply}
use Rattle.mtapi_machine.specs.declared.replies.Reply.TheVariants.{Ok, Handle, Mtapi, Mrapi}
use Rattle.mtapi_machine.specs.State.{State, workers, is_open, is_up}
use Rattle.mtapi_machine.specs.Moves.{Sort, Queues, Mutexes, Sems, Rwls, Segments, Fields, all_of, makes, alters, removes}
use Rattle.mtapi_machine.specs.Row.{Row, unless, says, gives, not_yet, on, creates}

-- a kind whose objects have ids: the id of one, and what is answered to a create where a live object has the id, and to a get where none has
pub record Keyed (k : Sort) : Type 0 where
  pub id : Fields k → ℕ
  pub exists : Reply
  pub absent : Reply

abbrev pub keyed_queues : Keyed Queues
keyed_queues = record { id = λ x. x.id; exists = Mtapi m.ErrQueueExists; absent = Mtapi m.ErrQueueInvalid }

abbrev pub keyed_mutexes : Keyed Mutexes
keyed_mutexes = record { id = λ x. x.id; exists = Mrapi c.ErrMutexExists; absent = Mrapi c.ErrMutexIdInvalid }

abbrev pub keyed_sems : Keyed Sems
keyed_sems = record { id = λ x. x.id; exists = Mrapi c.ErrSemExists; absent = Mrapi c.ErrSemIdInvalid }

abbrev pub keyed_rwls : Keyed Rwls
keyed_rwls = record { id = λ x. x.id; exists = Mrapi c.ErrRwlExists; absent = Mrapi c.ErrRwlIdInvalid }

abbrev pub keyed_segments : Keyed Segments
keyed_segments = record { id = λ x. x.id; exists = Mrapi c.ErrShmExists; absent = Mrapi c.ErrShmIdInvalid }

-- the general conditions of an op of MRAPI, and of one that is refused in Closing too; a worker may ask for none
abbrev pub no_worker : State → ℕ → Row → Row
no_worker s who row = unless (nat_lt who (workers s)) (Mrapi c.ErrParameter) row

abbrev pub mrapi : State → ℕ → Row → Row
mrapi s who row = unless (not (is_up s.phase)) (Mrapi c.ErrNodeNotinit) (no_worker s who row)

abbrev pub mrapi_open : State → ℕ → Row → Row
mrapi_open s who row = unless (not (is_open s.phase)) (Mrapi c.ErrNodeNotinit) (no_worker s who row)

-- a list of conditions: the first that is met answers
abbrev pub mrapi_unless : List (Bool × MrapiStatus) → Row → Row
mrapi_unless [] row = row
mrapi_unless (x ∷ xs) row = unless x.0 (Mrapi x.1) (mrapi_unless xs row)

abbrev pub found : Option ℕ → Reply → Row
found None absent = says absent
found (Some h) absent = says (Handle h)

module _ {k : Sort} (o : Keyed k) where
  -- a new object, where no live one has its id
  abbrev pub creates_keyed : State → Reply → Fields k → Row
  creates_keyed s r x = unless (any_listed (λ y. o.id y == o.id x) ((all_of k).list s)) o.exists (creates (all_of k) s r (λ h. makes k h x))

  -- the handle of the live object of an id
  abbrev pub gets : State → ℕ → Row
  gets s id = found (first_handle (λ y. o.id y == id) (live_of ((all_of k).list s))) o.absent

module _ (k : Sort) where
  -- an op on one object: what it is refused for, its reply, and what the object is then
  abbrev pub alters_one : State → ℕ → (Fields k → List (Bool × MrapiStatus)) → (Fields k → Reply) → (Fields k → Fields k) → Row
  alters_one s h causes reply f = on (all_of k) s h (λ x. mrapi_unless (causes x) (gives (reply x) (alters k h f ∷ [])))

  -- the same for a look, which may find the object busy
  abbrev pub looks_one : State → ℕ → Bool → (Fields k → List (Bool × MrapiStatus)) → (Fields k → Bool) → (Fields k → Reply) → (Fields k → Fields k) → Row
  looks_one s h last causes busy reply f =
      on (all_of k) s h (λ x. mrapi_unless (causes x) (if busy x then not_yet last (Mrapi c.Timeout) else gives (reply x) (alters k h f ∷ [])))

  -- the object stops being live
  abbrev pub deletes : State → ℕ → (Fields k → List (Bool × MrapiStatus)) → Row
  deletes s h causes = on (all_of k) s h (λ x. mrapi_unless (causes x) (gives Ok (removes k h ∷ [])))
