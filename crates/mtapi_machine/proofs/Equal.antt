-- `==` of ops and of replies says whether the two are equal.
use Rattle.mtapi_machine.proofs.Names.{arith, nat_tests, ◌≡◌, List, ℤ, refl, sym, subst, ap, ◌==◌, Decides, Decides-eqb, Decides-int_eq, sameb, TaskHandle, GroupHandle, QueueHandle, Mask, Kind, MtapiStatus, MrapiStatus, TaskEnd, Op, Reply}
use Rattle.std.specs.Ordering.{int_eq}
use Rattle.std.specs.Cmp.{booleans_Decides}
use Rattle.std.specs.Cmp.Lexicographic.{pointwise}
use Rattle.std.proofs.lemmas.Slice.Eq.{slice_eq-Decides}
use Rattle.mtapi_values.specs.declared.handles.ActionHandle.{ActionHandle}
use Rattle.mtapi_values.specs.declared.handles.MutexHandle.{MutexHandle}
use Rattle.mtapi_values.specs.declared.handles.SemHandle.{SemHandle}
use Rattle.mtapi_values.specs.declared.handles.RwlHandle.{RwlHandle}
use Rattle.mtapi_values.specs.declared.handles.ShmemHandle.{ShmemHandle}
use Rattle.mtapi_values.specs.contracts.kinds.Kind as kind
use Rattle.mtapi_values.specs.contracts.statuses.MtapiStatus as mtapi
use Rattle.mtapi_values.specs.contracts.statuses.MrapiStatus as mrapi
use Rattle.mtapi_values.specs.contracts.ends.TaskEndPartialEq.TheImpl as end_eq
use Rattle.action_fn.specs.declared.finished.Finished.{Finished}
use Rattle.mtapi_machine.specs.declared.ops.Op.TheVariants as ops
use Rattle.mtapi_machine.specs.contracts.ops.Op as op
use Rattle.mtapi_machine.specs.contracts.ops.OpPartialEq.TheImpl as op_eq
use Rattle.mtapi_machine.specs.contracts.replies.Reply as reply
use Rattle.mtapi_machine.specs.contracts.replies.ReplyPartialEq.TheImpl as reply_eq
use Rattle.mtapi_machine.proofs.Derived.{decides_so, option_decides, bare_decides, none_decide, one_decides, more_decide, ◌⊕◌, derived_decides}

-- handles, masks, kinds, statuses and arguments
actions_decide : (a b : ActionHandle) → Decides (a.0 == b.0) (a ≡ b)
actions_decide a b = decides_so (a.0 == b.0) (λ e i. record { 0 = e i }) (λ e. ap (λ (h : ActionHandle). h.0) e) (Decides-eqb a.0 b.0)

tasks_decide : (a b : TaskHandle) → Decides (a.0 == b.0) (a ≡ b)
tasks_decide a b = decides_so (a.0 == b.0) (λ e i. record { 0 = e i }) (λ e. ap (λ (h : TaskHandle). h.0) e) (Decides-eqb a.0 b.0)

groups_decide : (a b : GroupHandle) → Decides (a.0 == b.0) (a ≡ b)
groups_decide a b = decides_so (a.0 == b.0) (λ e i. record { 0 = e i }) (λ e. ap (λ (h : GroupHandle). h.0) e) (Decides-eqb a.0 b.0)

queues_decide : (a b : QueueHandle) → Decides (a.0 == b.0) (a ≡ b)
queues_decide a b = decides_so (a.0 == b.0) (λ e i. record { 0 = e i }) (λ e. ap (λ (h : QueueHandle). h.0) e) (Decides-eqb a.0 b.0)

mutexes_decide : (a b : MutexHandle) → Decides (a.0 == b.0) (a ≡ b)
mutexes_decide a b = decides_so (a.0 == b.0) (λ e i. record { 0 = e i }) (λ e. ap (λ (h : MutexHandle). h.0) e) (Decides-eqb a.0 b.0)

sems_decide : (a b : SemHandle) → Decides (a.0 == b.0) (a ≡ b)
sems_decide a b = decides_so (a.0 == b.0) (λ e i. record { 0 = e i }) (λ e. ap (λ (h : SemHandle). h.0) e) (Decides-eqb a.0 b.0)

rwls_decide : (a b : RwlHandle) → Decides (a.0 == b.0) (a ≡ b)
rwls_decide a b = decides_so (a.0 == b.0) (λ e i. record { 0 = e i }) (λ e. ap (λ (h : RwlHandle). h.0) e) (Decides-eqb a.0 b.0)

segments_decide : (a b : ShmemHandle) → Decides (a.0 == b.0) (a ≡ b)
segments_decide a b = decides_so (a.0 == b.0) (λ e i. record { 0 = e i }) (λ e. ap (λ (h : ShmemHandle). h.0) e) (Decides-eqb a.0 b.0)

masks_decide : (a b : Mask) → Decides (a.0 == b.0) (a ≡ b)
masks_decide a b = decides_so (a.0 == b.0) (λ e i. record { 0 = e i }) (λ e. ap (λ (m : Mask). m.0) e) (Decides-eqb a.0 b.0)

kinds_decide : (a b : Kind) → Decides (sameb kind.the_type a b) (a ≡ b)
kinds_decide a b = bare_decides kind.the_type tt a b

mtapi_decide : (a b : MtapiStatus) → Decides (sameb mtapi.the_type a b) (a ≡ b)
mtapi_decide a b = bare_decides mtapi.the_type tt a b

mrapi_decide : (a b : MrapiStatus) → Decides (sameb mrapi.the_type a b) (a ≡ b)
mrapi_decide a b = bare_decides mrapi.the_type tt a b

args_decide : (a b : List ℤ) → Decides (pointwise int_eq a b) (a ≡ b)
args_decide a b = slice_eq-Decides Decides-int_eq a b (pointwise int_eq a b) refl

-- the ends of tasks
pub end_decides : (a b : TaskEnd) → Decides (end_eq.ghosts.eq a b) (a ≡ b)
end_decides a b = grind (arith, nat_tests, derived_decides, one_decides, args_decide, none_decide, mtapi_decide)

-- replies
pub reply_decides : (a b : Reply) → Decides (reply_eq.ghosts.eq a b) (a ≡ b)
reply_decides a b = derived_decides reply.enum (λ c. Unit {0}) _ (
    none_decide ⊕ one_decides Decides-eqb ⊕ one_decides Decides-int_eq ⊕ one_decides end_decides ⊕ more_decide tasks_decide (one_decides end_decides)
    ⊕ none_decide ⊕ more_decide tasks_decide (more_decide actions_decide (more_decide kinds_decide (one_decides args_decide))) ⊕ none_decide
    ⊕ none_decide ⊕ one_decides booleans_Decides ⊕ one_decides mtapi_decide ⊕ one_decides mrapi_decide ⊕ tt) a b tt

-- ops, but for the answer that a worker hands in: it is told by its kind and its arguments alone
abbrev pub IsNoFinish : Op → Type 0
IsNoFinish (ops.Finish t done) = ⊥
IsNoFinish _ = Unit {0}

pub op_decides : (a b : Op) → IsNoFinish b → Decides (op_eq.ghosts.eq a b) (a ≡ b)
op_decides a b q = derived_decides op.enum (λ c. IsNoFinish (op.the_make c)) _ (
    none_decide ⊕ none_decide ⊕ none_decide ⊕ none_decide ⊕ none_decide ⊕ one_decides Decides-eqb
    ⊕ more_decide Decides-eqb (more_decide kinds_decide (one_decides masks_decide)) ⊕ one_decides actions_decide ⊕ one_decides actions_decide
    ⊕ one_decides actions_decide
    ⊕ more_decide Decides-eqb (more_decide args_decide (more_decide Decides-eqb (more_decide masks_decide
    (more_decide booleans_Decides (one_decides (option_decides groups_decide))))))
    ⊕ more_decide queues_decide (more_decide args_decide (more_decide masks_decide (more_decide booleans_Decides (one_decides (option_decides groups_decide)))))
    ⊕ more_decide tasks_decide (one_decides booleans_Decides) ⊕ one_decides tasks_decide ⊕ none_decide ⊕ one_decides groups_decide
    ⊕ more_decide groups_decide (one_decides booleans_Decides) ⊕ more_decide groups_decide (one_decides booleans_Decides)
    ⊕ more_decide Decides-eqb (more_decide Decides-eqb (more_decide Decides-eqb (more_decide Decides-eqb
    (more_decide booleans_Decides (one_decides booleans_Decides)))))
    ⊕ one_decides Decides-eqb ⊕ one_decides queues_decide ⊕ one_decides queues_decide ⊕ one_decides queues_decide ⊕ none_decide
    ⊕ (
      λ x y q. absurd q,
      one_decides tasks_decide ⊕ one_decides tasks_decide ⊕ one_decides tasks_decide ⊕ one_decides tasks_decide
          ⊕ more_decide tasks_decide (one_decides Decides-int_eq) ⊕ one_decides tasks_decide ⊕ more_decide Decides-eqb (one_decides booleans_Decides)
          ⊕ one_decides Decides-eqb ⊕ one_decides mutexes_decide ⊕ more_decide mutexes_decide (one_decides booleans_Decides)
          ⊕ more_decide mutexes_decide (one_decides Decides-eqb) ⊕ more_decide Decides-eqb (one_decides Decides-eqb) ⊕ one_decides Decides-eqb
          ⊕ one_decides sems_decide ⊕ more_decide sems_decide (one_decides booleans_Decides) ⊕ one_decides sems_decide
          ⊕ more_decide Decides-eqb (one_decides Decides-eqb) ⊕ one_decides Decides-eqb ⊕ one_decides rwls_decide
          ⊕ more_decide rwls_decide (more_decide booleans_Decides (one_decides booleans_Decides)) ⊕ more_decide rwls_decide (one_decides booleans_Decides)
          ⊕ more_decide Decides-eqb (one_decides Decides-eqb) ⊕ one_decides Decides-eqb ⊕ one_decides segments_decide ⊕ one_decides segments_decide
          ⊕ one_decides segments_decide ⊕ more_decide segments_decide (one_decides Decides-eqb)
          ⊕ more_decide segments_decide (more_decide Decides-eqb (one_decides Decides-int_eq)) ⊕ tt,
    )) a b (subst IsNoFinish (sym (op.the_eta b)) q)

pub no_finish : (a : Op) → ((t : TaskHandle) (done : Finished) → a ≡ ops.Finish t done → ⊥) → IsNoFinish a
no_finish a e1 = grind (arith, nat_tests)
