-- What a wait for any member of a group says of places.
use Rattle.typed_pieces.proofs.Names.{◌≡◌, ◌<◌, ◌^◌, ℕ, ℤ, pos, negsuc, Option, Result, Ok, Err, inl, inr, refl, subst, sym, arith, OkIff, unsigned_abs, nat_tests, TaskHandle, MtapiStatus, Reply, Wanted, given, handle_told, mtapi_standard, Seat, AnswersReply, Called, Waited, with_handle_number}
use Rattle.std.specs.Int.{FitsUnsignedBits}
use Rattle.std.specs.Result.{result_ok}
use Rattle.mtapi_values.specs.declared.ends.TaskEnd.{TaskEnd}
use Rattle.mtapi_machine.specs.declared.ops.Op.{Op}
use Rattle.typed_pieces.specs.declared.refusal.PieceRefusal.{PieceRefusal}
use Rattle.typed_pieces.specs.Told.{as_place, with_status_alone, first_place, place_alone, place_in_end}

-- what a conversion to 32 bits gives is the place
pub place_is : {E : Type 0} (z : ℤ) (r : Result ℕ E) → OkIff r (FitsUnsignedBits 32 z) (unsigned_abs z) → result_ok r ≡ as_place z
place_is (pos n) (Ok x) p = let low : n < 2 ^ 32 = p.0 in let same : x ≡ n = p.1 in grind (arith, nat_tests, low, same)
place_is (pos n) (Err e) over = grind (arith, nat_tests)
place_is (negsuc n) (Ok x) p = absurd p.0
place_is (negsuc n) (Err e) over = refl

place_told : (r : Reply) (member : TaskHandle × TaskEnd) → AnswersReply mtapi_standard given r (Ok member)
    → AnswersReply mtapi_standard first_place r (Ok (place_in_end member.1))
place_told r member e1 = grind (arith, nat_tests)

refusal_told : (r : Reply) (status : MtapiStatus) → AnswersReply mtapi_standard given r (Err status) → AnswersReply mtapi_standard first_place r (Err status)
refusal_told r status e1 = grind (arith, nat_tests)

place_waited : (w : Wanted) (limit : Option ℕ) (old new : Seat) (x : Result (TaskHandle × TaskEnd) MtapiStatus) → Waited mtapi_standard given w limit old new x
    → Waited mtapi_standard first_place w limit old new (place_alone x)
place_waited w limit old new (Ok member) (inl a) = inl (a.0, a.1, place_told a.0 member a.2)
place_waited w limit old new (Ok member) (inr a) = absurd cc
place_waited w limit old new (Err status) (inl a) = inl (a.0, a.1, refusal_told a.0 status a.2)
place_waited w limit old new (Err status) (inr a) = inr (a.0, cc)

-- a wait for any member of a group, with the place alone
pub waited : (w : Wanted) (limit : Option ℕ) (old new : Seat) (x : Result (TaskHandle × TaskEnd) MtapiStatus) (y : Result (Option ℕ) MtapiStatus)
    → Waited mtapi_standard given w limit old new x → y ≡ place_alone x → Waited mtapi_standard first_place w limit old new y
waited w limit old new x y a is = subst (λ (z : Result (Option ℕ) MtapiStatus). Waited mtapi_standard first_place w limit old new z) (sym is)
    (place_waited w limit old new x a)

-- An answer with the call's name has the same status

pub called_named : {H : Type 0} (number : H → ℕ) (o : Op) (old new : Seat) (x : Result H MtapiStatus) (y : Result H PieceRefusal)
    → Called mtapi_standard handle_told o old new (with_handle_number number x) → with_status_alone y ≡ x
    → Called mtapi_standard handle_told o old new (with_handle_number number (with_status_alone y))
called_named number o old new x y called same = subst (λ a. Called mtapi_standard handle_told o old new (with_handle_number number a)) (sym same) called

pub waited_named : {A : Type 0} (read : Reply
    → Option A) (w : Wanted) (limit : Option ℕ) (old new : Seat) (x : Result A MtapiStatus) (y : Result A PieceRefusal)
    → Waited mtapi_standard read w limit old new x → with_status_alone y ≡ x → Waited mtapi_standard read w limit old new (with_status_alone y)
waited_named read w limit old new x y waited same = subst (λ a. Waited mtapi_standard read w limit old new a) (sym same) waited
