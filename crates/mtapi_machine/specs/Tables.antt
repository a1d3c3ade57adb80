-- Worked histories: how the tables of them are written, and what is said of a table. The tables stand in the other files of this name,
-- one a family of ops. Each is a legal history of a small node, and so is the table up to each of its lines. Beside a line stand
-- replies that aren't legal in its place.
use Rattle.std.specs.Prelude.{ℕ, true, false, List, [], ◌∷◌, ◌++◌, Some, None, ℤ}
use Rattle.mtapi_machine.specs.Names.{Kind, MtapiStatus, MrapiStatus, Mask, One, ActionHandle, TaskHandle, GroupHandle, QueueHandle, MutexHandle, SemHandle, RwlHandle, ShmemHandle, ActEnd, entry}
use Rattle.mtapi_machine.specs.declared.terms.Terms.{Terms}
use Rattle.mtapi_machine.specs.declared.ops.Op.{Op}
use Rattle.mtapi_machine.specs.declared.ops.Op.TheVariants as op
use Rattle.mtapi_machine.specs.declared.replies.Reply.{Reply}
use Rattle.mtapi_machine.specs.declared.replies.Reply.TheVariants as reply
use Rattle.mtapi_machine.specs.Legal.{NodeEntry, Legal}

-- who asked what, and the reply; and replies that would not be legal in its place
pub record TableLine : Type 0 where
  pub entry : NodeEntry
  pub wrong : List Reply

-- the history that a table tells
abbrev pub reported : List TableLine → List NodeEntry
reported [] = []
reported (l ∷ ls) = l.entry ∷ reported ls

-- after these entries, none of these replies may come in the place of this entry's
abbrev pub NoneIsLegal : Terms → List NodeEntry → NodeEntry → List Reply → Type 0
NoneIsLegal terms before e [] = Unit {0}
NoneIsLegal terms before e (x ∷ xs) = (Legal terms (before ++ entry e.who e.op x ∷ []) → ⊥) × NoneIsLegal terms before e xs

-- no reply beside a line is legal in its place
abbrev pub WrongIsIllegal : Terms → List NodeEntry → List TableLine → Type 0
WrongIsIllegal terms before [] = Unit {0}
WrongIsIllegal terms before (l ∷ ls) = NoneIsLegal terms before l.entry l.wrong × WrongIsIllegal terms (before ++ l.entry ∷ []) ls

-- the table tells a legal history of a node with these terms
pub record IsWorkedTable (terms : Terms) (table : List TableLine) : Type 0 where
  pub legal : Legal terms (reported table)
  pub wrong : WrongIsIllegal terms [] table

-- Terms

-- so many workers, two callers, and room for so many tasks and actions, and groups, queues and resources of each kind
abbrev pub node_of : ℕ → ℕ → ℕ → Terms
node_of workers tasks others = record {
  layout = One;
  settings = record {
    workers = workers;
    tasks = tasks;
    actions = others;
    groups = others;
    queues = others;
    objects = others;
    priorities = 4;
    generations = 4294967295;
  };
  callers = 2;
}

-- one worker, and room for two tasks and for two objects of each other kind
abbrev pub small : Terms
small = node_of 1 2 2

-- Lines

-- a line with replies that aren't legal in the place of its own
abbrev pub line : ℕ → Op → Reply → List Reply → TableLine
line who o r wrong = record { entry = entry who o r; wrong = wrong }

-- lines of the first worker, and of main and the second caller of a node with one worker
abbrev pub worker : Op → Reply → TableLine
worker o r = line 0 o r []

abbrev pub main : Op → Reply → TableLine
main o r = line 1 o r []

abbrev pub second : Op → Reply → TableLine
second o r = line 2 o r []

-- the same, with a reply that isn't legal in the place of its own
abbrev pub worker_not : Op → Reply → Reply → TableLine
worker_not o r x = line 0 o r (x ∷ [])

abbrev pub main_not : Op → Reply → Reply → TableLine
main_not o r x = line 1 o r (x ∷ [])

abbrev pub second_not : Op → Reply → Reply → TableLine
second_not o r x = line 2 o r (x ∷ [])

-- main is refused with this status, and not answered this
abbrev pub refused : Op → MtapiStatus → Reply → TableLine
refused o c x = main_not o (reply.Mtapi c) x

abbrev pub denied : Op → MrapiStatus → Reply → TableLine
denied o c x = main_not o (reply.Mrapi c) x

-- a seat asks each of these in turn, is answered this, and not that
abbrev pub each : ℕ → List Op → Reply → Reply → List TableLine
each who [] r x = []
each who (o ∷ os) r x = line who o r (x ∷ []) ∷ each who os r x

-- Handles

-- in layout one: of the first place, the next and the third one, and of the first and the next place when they are used again
abbrev pub h1 : ℕ
h1 = 4294967296

abbrev pub h2 : ℕ
h2 = 4294967297

abbrev pub h3 : ℕ
h3 = 4294967298

abbrev pub again1 : ℕ
again1 = 8589934592

abbrev pub again2 : ℕ
again2 = 8589934593

abbrev pub action : ℕ → ActionHandle
action h = record { 0 = h }

abbrev pub task : ℕ → TaskHandle
task h = record { 0 = h }

abbrev pub group : ℕ → GroupHandle
group h = record { 0 = h }

abbrev pub queue : ℕ → QueueHandle
queue h = record { 0 = h }

abbrev pub mutex : ℕ → MutexHandle
mutex h = record { 0 = h }

abbrev pub sem : ℕ → SemHandle
sem h = record { 0 = h }

abbrev pub rwl : ℕ → RwlHandle
rwl h = record { 0 = h }

abbrev pub segment : ℕ → ShmemHandle
segment h = record { 0 = h }

-- Masks

abbrev pub every_core : Mask
every_core = record { 0 = 18446744073709551615 }

abbrev pub first_core : Mask
first_core = record { 0 = 1 }

abbrev pub second_core : Mask
second_core = record { 0 = 2 }

-- Ops

-- an action of job 1 that may run on every core
abbrev pub action_of : Kind → Op
action_of k = op.ActionCreate 1 k every_core

-- a task of job 1 with these arguments, on every core, of priority 0; and one that is a member of a group
abbrev pub start : List ℤ → Op
start args = op.TaskStart 1 args 0 every_core false None

abbrev pub start_of_group : ℕ → List ℤ → Op
start_of_group g args = op.TaskStart 1 args 0 every_core false (Some (group g))

-- a task of this queue with these arguments
abbrev pub put_in : ℕ → List ℤ → Op
put_in q args = op.TaskEnqueue (queue q) args every_core false None

-- a look that isn't the last one, and a last one
abbrev pub look : ℕ → Op
look t = op.TaskLook (task t) false

abbrev pub last_look : ℕ → Op
last_look t = op.TaskLook (task t) true

-- a worker takes this task by the action of the first place
abbrev pub picked : ℕ → Kind → List ℤ → Reply
picked t k args = reply.Picked (task t) (action h1) k args

-- a worker says that its action of this kind ended so
abbrev pub finish : ℕ → Kind → List ℤ → ActEnd → Op
finish t k args e = op.Finish (task t) (record { kind = k; args = args; end = e })
