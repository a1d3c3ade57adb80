-- The tests of equality decide it.
use Rattle.mtapi_renaming.proofs.Names.{arith, nat_tests, ◌≡◌, ℕ, ◌&&◌, List, refl, sym, ◌∙◌, ap, ◌==◌, beq, Decides, int_eq, signed_Decides, booleans_Decides, signed_items, pointwise, Decides-eqb, Kind, MtapiStatus, MrapiStatus, mtapi_number, mrapi_number, TaskHandle, ActionHandle, TaskEnd, ActEnd, kind_number, Reply, Ok, Handle, Number, Ended, Given, Pending, Picked, Idle, Stop, Asked, Mtapi, Mrapi, same_end, same_act, same_reply}
use Rattle.mtapi_values.specs.declared.kinds.Kind.TheVariants as k
use Rattle.mtapi_values.specs.declared.statuses.MtapiStatus.TheVariants as t
use Rattle.mtapi_values.specs.declared.statuses.MrapiStatus.TheVariants as r
use Rattle.std.specs.Prelude.{find, Option, Some}
use Rattle.mtapi_values.specs.Statuses.{mtapi_all, mrapi_all}
use Rattle.mtapi_values.specs.Kinds.{kind_all}
use Rattle.mtapi_machine.proofs.Changes.{some_same}
use Rattle.mtapi_machine.proofs.Derived.{both_decide, decides_so}

-- a status and a kind are told by their numbers, by which each is found among all
abbrev by_number : {X : Type 0} → (X → ℕ) → List X → ℕ → Option X
by_number number all n = find (λ x. number x == n) all

mtapi-number : (c : MtapiStatus) → by_number mtapi_number mtapi_all (mtapi_number c) ≡ Some c
mtapi-number t.Success = refl
mtapi-number c = refl

mrapi-number : (c : MrapiStatus) → by_number mrapi_number mrapi_all (mrapi_number c) ≡ Some c
mrapi-number r.Success = refl
mrapi-number c = refl

kind-number : (c : Kind) → by_number kind_number kind_all (kind_number c) ≡ Some c
kind-number k.Add = refl
kind-number c = refl

number_decides : {X : Type 0} (number : X → ℕ) (all : List X) → ((x : X) → by_number number all (number x) ≡ Some x) → (a b : X)
    → Decides (number a == number b) (a ≡ b)
number_decides number all found a b = decides_so (number a == number b) (λ e. some_same (sym (found a) ∙ ap (by_number number all) e ∙ found b)) (ap number)
    (Decides-eqb (number a) (number b))

mtapi_decides : (a b : MtapiStatus) → Decides (mtapi_number a == mtapi_number b) (a ≡ b)
mtapi_decides = number_decides mtapi_number mtapi_all mtapi-number

mrapi_decides : (a b : MrapiStatus) → Decides (mrapi_number a == mrapi_number b) (a ≡ b)
mrapi_decides = number_decides mrapi_number mrapi_all mrapi-number

kind_decides : (a b : Kind) → Decides (kind_number a == kind_number b) (a ≡ b)
kind_decides = number_decides kind_number kind_all kind-number

pub end_decides : (a b : TaskEnd) → Decides (same_end a b) (a ≡ b)
end_decides a b = grind (arith, nat_tests, decides_so, signed_items, mtapi_decides)

pub act_decides : (a b : ActEnd) → Decides (same_act a b) (a ≡ b)
act_decides a b = grind (arith, nat_tests, decides_so, signed_items, mtapi_decides)

unfoldable pub task_in : Reply → ℕ
task_in (Given v b) = v.0
task_in (Picked v w z xs) = v.0
task_in _ = 0

unfoldable pub action_in : Reply → ℕ
action_in (Picked v w z xs) = w.0
action_in _ = 0

given_decides : (u v : TaskHandle) (a b : TaskEnd) → Decides ((u.0 == v.0) && same_end a b) (Given u a ≡ Given v b)
unfolding task_in
given_decides u v a b = grind (arith, nat_tests, decides_so, both_decide, Decides-eqb, end_decides)

picked_decides : (u v : TaskHandle) (a b : ActionHandle) (c d : Kind) (xs ys : List _)
    → Decides ((u.0 == v.0) && (a.0 == b.0) && (kind_number c == kind_number d) && pointwise int_eq xs ys) (Picked u a c xs ≡ Picked v b d ys)
unfolding task_in action_in
picked_decides u v a b c d xs ys =
    decides_so ((u.0 == v.0) && (a.0 == b.0) && (kind_number c == kind_number d)
    && pointwise int_eq xs ys) (λ e i. Picked (record { 0 = e.0.0.0 i }) (record { 0 = e.0.0.1 i }) (e.0.1 i) (e.1 i))
    (λ e. (((ap task_in e, ap action_in e), let f : c ≡ d = cc in f), let f : xs ≡ ys = cc in f))
    (both_decide _ (pointwise int_eq xs ys)
    (both_decide _ (kind_number c == kind_number d) (both_decide (u.0 == v.0) (a.0 == b.0) (Decides-eqb u.0 v.0) (Decides-eqb a.0 b.0)) (kind_decides c d))
    (signed_items xs ys))

pub reply_decides : (a b : Reply) → Decides (same_reply a b) (a ≡ b)
reply_decides Ok Ok = (λ i. refl, λ i. refl)
reply_decides (Handle a) (Handle b) = decides_so (a == b) (λ e. ap Handle e) (λ e. cc) (Decides-eqb a b)
reply_decides (Number a) (Number b) = decides_so (int_eq a b) (λ e. ap Number e) (λ e. cc) (signed_Decides a b)
reply_decides (Ended a) (Ended b) = decides_so (same_end a b) (λ e. ap Ended e) (λ e. cc) (end_decides a b)
reply_decides (Given u a) (Given v b) = given_decides u v a b
reply_decides Pending Pending = (λ i. refl, λ i. refl)
reply_decides (Picked u a c xs) (Picked v b d ys) = picked_decides u v a b c d xs ys
reply_decides Idle Idle = (λ i. refl, λ i. refl)
reply_decides Stop Stop = (λ i. refl, λ i. refl)
reply_decides (Asked a) (Asked b) = decides_so (beq a b) (λ e. ap Asked e) (λ e. cc) (booleans_Decides a b)
reply_decides (Mtapi a) (Mtapi b) = decides_so (mtapi_number a == mtapi_number b) (λ e. ap Mtapi e) (λ e. cc) (mtapi_decides a b)
reply_decides (Mrapi a) (Mrapi b) = decides_so (mrapi_number a == mrapi_number b) (λ e. ap Mrapi e) (λ e. cc) (mrapi_decides a b)
reply_decides a b = (λ i. absurd (cc), λ i. absurd (cc))
