-- What the calls of a mailer answer follows from the rows of their ops.
use Rattle.mcapi_msg.proofs.Names.{◌≡◌, ◌≢◌, ◌⊎◌, ℕ, Bool, true, false, List, [], ◌∷◌, ◌++◌, Option, Result, Ok, Err, inl, inr, refl, ◌∙◌, ap, subst, arith, IfOk, OnErr, nat_tests, entry, live_object, first_handle, pends, Looked, EndpointHandle, Waiting, MsgOp, MsgReply, MsgStatus, has_port, next_of, MsgState, opening_post, MsgRow, says, live, Allows, msg_row, no_message, MsgEntry, MsgIsNext, MsgLegal, PostSeat, is_spent, Done, NamesEndpoint, Hands, state_at, IsAnswer, MsgAnsweredBy, MsgCalled, look_for, MsgLooks, RanOut, Received, TimedOut}
use Rattle.std.proofs.lemmas.Result.{IfOk-weaker}
use Rattle.handle_pool.specs.Issued.{live_of}
use Rattle.history.proofs.Row.{AllDeeds, deeds, on_live}
use Rattle.turn_looks.specs.Turns.{SameSeat, Turned, Unturned}
use Rattle.mcapi_msg.specs.declared.ops.MsgOp.TheVariants as op
use Rattle.mcapi_msg.specs.declared.ops.MsgReply.TheVariants as reply
use Rattle.mcapi_msg.specs.declared.statuses.MsgStatus.TheVariants as status
use Rattle.mcapi_msg.specs.Legal.{MsgLegalFrom}
use Rattle.mcapi_msg.proofs.Histories.{Legal-rest, first-legal}

-- each reply of the row is so
abbrev pub AllSays : (MsgReply → Type 0) → MsgRow → Type 0
AllSays P w = AllDeeds (λ x ms. P x) w

pub said : (P : MsgReply → Type 0) (w : MsgRow) (r : MsgReply) → AllSays P w → Allows w r → P r
said P = deeds (λ x ms. P x)

on_given : {T : Type 0} (P : MsgReply → Type 0) (o : Option T) (x : MsgReply) (f : T → MsgRow) → P x → ((y : T) → AllSays P (f y))
    → AllSays P (live o (says x) f)
on_given P o x f p g = on_live (λ y ms. P y) o (says x) f p (λ y e. g y)

-- the turn's entry is one that may come next
next_at : (old new : PostSeat) (o : MsgOp) (r : MsgReply) (t : Turned MsgLegal old o r new) → MsgIsNext (state_at old new o r t) (entry old.number o r)
next_at old new o r t =
    first-legal _ _ (Legal-rest (opening_post new.terms) (old.seen ++ t.between) (entry old.number o r
    ∷ []) (subst (λ (l : List MsgEntry). MsgLegalFrom (opening_post new.terms) l) t.seen t.legal.from))

pub by_row : (old new : PostSeat) (o : MsgOp) (r : MsgReply) (t : Turned MsgLegal old o r new) → Allows (msg_row (state_at old new o r t) old.number o r) r
by_row old new o r t = (next_at old new o r t).allowed

module _ {A : Type 0} (P : MsgReply → Result A MsgStatus → Type 0) (o : MsgOp) (all : (s : MsgState) (who : ℕ) (r : MsgReply)
    → AllSays (IsAnswer P) (msg_row s who o r)) where
  -- there is an answer to the reply of each turn
  pub has_answer : (old new : PostSeat) (x : Result MsgReply ℕ) → IfOk x (λ r. Turned MsgLegal old o r new) → IfOk x (IsAnswer P)
  has_answer old new x k =
      IfOk-weaker x (λ r. Turned MsgLegal old o r new) (IsAnswer P)
      (λ r t. said (IsAnswer P) (msg_row (state_at old new o r t) old.number o r) r (all (state_at old new o r t) old.number r) (by_row old new o r t)) k

pub called : {A : Type 0} (P : MsgReply → Result A MsgStatus → Type 0) (o : MsgOp) (old new : PostSeat) (y : Result MsgReply ℕ) (x : Result A MsgStatus)
    → IfOk y (λ r. Turned MsgLegal old o r new) → OnErr y (Unturned old new) → MsgAnsweredBy P y x → MsgCalled P o old new x
called P o old new y x e1 e2 e3 = grind (arith, nat_tests, said, by_row)

names_code : (c : MsgStatus) → is_spent c ≡ false → IsAnswer NamesEndpoint (reply.Refused c)
names_code c e = (Err c, (refl, e))

done_code : (c : MsgStatus) → is_spent c ≡ false → IsAnswer Done (reply.Refused c)
done_code c e = (Err c, (refl, e))

hands_code : (c : MsgStatus) → is_spent c ≡ false → IsAnswer Hands (reply.Refused c)
hands_code c e = (Err c, (refl, e))

pub open_says : (port : ℕ) (s : MsgState) (who : ℕ) (r : MsgReply) → AllSays (IsAnswer NamesEndpoint) (msg_row s who (op.Open port) r)
open_says port s who r = grind (arith, nat_tests)

pub find_says : (port : ℕ) (s : MsgState) (who : ℕ) (r : MsgReply) → AllSays (IsAnswer NamesEndpoint) (msg_row s who (op.Find port) r)
find_says port s who r = on_given (IsAnswer NamesEndpoint) (first_handle (has_port port) (live_of s.endpoints)) _ _ (names_code _ refl)
    (λ h. (Ok (record { 0 = h }), refl))

pub send_says : (to : EndpointHandle) (priority : ℕ) (msg : List ℕ) (s : MsgState) (who : ℕ) (r : MsgReply)
    → AllSays (IsAnswer Done) (msg_row s who (op.Send to priority msg) r)
send_says to priority msg s who r = on_given (IsAnswer Done) (live_object s.endpoints to.0) _ _ (done_code _ refl)
    (λ e. (done_code _ refl, (done_code _ refl, (Ok tt, refl))))

pub shut_says : (h : EndpointHandle) (s : MsgState) (who : ℕ) (r : MsgReply) → AllSays (IsAnswer Done) (msg_row s who (op.Shut h) r)
shut_says h s who r = on_given (IsAnswer Done) (live_object s.endpoints h.0) _ _ (done_code _ refl) (λ e. (done_code _ refl, (Ok tt, refl)))

-- a look gives a message or a status, or Pending where more looks may come; Timeout comes with the last one
record LookSays (last : Bool) (r : MsgReply) : Type 0 where
  answers : r ≢ reply.Pending → IsAnswer Hands r
  pends : r ≡ reply.Pending → last ≡ false
  late : r ≡ reply.Refused status.Timeout → last ≡ true

status_of : MsgReply → MsgStatus
status_of (reply.Refused c) = c
status_of _ = status.Spent

is_late : MsgStatus → Bool
is_late status.Timeout = true
is_late _ = false

is_pending : MsgReply → Bool
is_pending reply.Pending = true
is_pending _ = false

late_no : (c : MsgStatus) → is_late c ≡ false → reply.Refused c ≡ reply.Refused status.Timeout → ⊥
unfolding is_late status_of
late_no c e k = let same = ap (λ x. is_late (status_of x)) k in absurd (cc)

refusal_says : (last : Bool) (c : MsgStatus) → is_spent c ≡ false → is_late c ≡ false → LookSays last (reply.Refused c)
unfolding is_pending
refusal_says last c e1 e2 = grind (arith, nat_tests, hands_code, late_no)

nothing_says : (last : Bool) → LookSays last (no_message last)
unfolding is_pending status_of is_late
nothing_says true = record { answers = λ n. hands_code _ refl; pends = λ k. absurd (no (ap is_pending k)); late = λ k. refl }
  where
    no : false ≡ true → ⊥
    no k = cc
nothing_says false = record { answers = λ n. absurd (n refl); pends = λ k. refl; late = λ k. absurd (no (ap is_pending k)) }
  where
    no : true ≡ false → ⊥
    no k = cc

got_says : (last : Bool) (w : Waiting) → LookSays last (reply.Got w.sender w.priority w.msg)
got_says last w = record { answers = λ n. (Ok _, refl); pends = λ k. absurd (cc); late = λ k. absurd (cc) }

look_says : (h : EndpointHandle) (last : Bool) (s : MsgState) (who : ℕ) (r : MsgReply) → AllSays (LookSays last) (msg_row s who (look_for h last) r)
unfolding is_late
look_says h last s who r = grind (arith, nat_tests, on_given, live_object, refusal_says, next_of, nothing_says, got_says)

at_look : (h : EndpointHandle) (limit : Option ℕ) (old new : PostSeat) (r : MsgReply) (l : Looked MsgLegal (look_for h) reply.Pending limit old new r)
    → LookSays l.last r
at_look h limit old new r l =
    said (LookSays l.last) _ r (look_says h l.last (state_at l.before new (look_for h l.last) r l.turned) l.before.number r)
    (by_row l.before new (look_for h l.last) r l.turned)

pending_apart : (r : MsgReply) → (r ≡ reply.Pending) ⊎ (r ≢ reply.Pending)
pending_apart r = grind (arith, nat_tests)

pub look_answer : (h : EndpointHandle) (limit : Option ℕ) (old new : PostSeat) (x : Result MsgReply ℕ)
    → IfOk x (λ r. Looked MsgLegal (look_for h) reply.Pending limit old new r) → IfOk x (IsAnswer Hands)
look_answer h limit old new x k =
    IfOk-weaker x (λ r. Looked MsgLegal (look_for h) reply.Pending limit old new r) (IsAnswer Hands)
    (λ r l. elim (pending_apart r) [
      | inl pending ↦ absurd (l.decides ((at_look h limit old new r l).pends pending) pending)
      | inr other ↦ (at_look h limit old new r l).answers other
    ]) k

looks : (h : EndpointHandle) (limit : Option ℕ) (old new : PostSeat) (r : MsgReply) (x : Result (ℕ × ℕ × List ℕ) MsgStatus)
    → Looked MsgLegal (look_for h) reply.Pending limit old new r → Hands r x → MsgLooks h limit old new x
looks h limit old new r x l a = record {
  said = r;
  looked = l;
  by_row = subst (λ (n : ℕ). Allows (msg_row (state_at l.before new (look_for h l.last) r l.turned) n (look_for h l.last) r) r) l.pended.same.number
      (by_row l.before new (look_for h l.last) r l.turned);
  late = (at_look h limit old new r l).late;
  answer = a;
}

pub received : (h : EndpointHandle) (limit : Option ℕ) (old new : PostSeat) (y : Result MsgReply ℕ) (x : Result (ℕ × ℕ × List ℕ) MsgStatus)
    → IfOk y (λ r. Looked MsgLegal (look_for h) reply.Pending limit old new r) → OnErr y (RanOut h limit old new) → MsgAnsweredBy Hands y x
    → Received h limit old new x
received h limit old new y x e1 e2 e3 = grind (arith, nat_tests, looks)

same_status : {A : Type 0} (c d : MsgStatus) → ◌≡◌ {A = Result A MsgStatus} (Err c) (Err d) → c ≡ d
same_status c d k = cc

pub timeout_of : (h : EndpointHandle) (limit : Option ℕ) (old new : PostSeat) (x : Result (ℕ × ℕ × List ℕ) MsgStatus) → Received h limit old new x
    → x ≡ Err status.Timeout → TimedOut h limit old new
timeout_of h limit old new x e1 e2 = grind (arith, nat_tests)

pub spent_of : (h : EndpointHandle) (limit : Option ℕ) (old new : PostSeat) (x : Result (ℕ × ℕ × List ℕ) MsgStatus) → Received h limit old new x
    → x ≡ Err status.Spent → RanOut h limit old new
spent_of h limit old new x e1 e2 = grind (arith, nat_tests)

-- the seat stays the same
pub called_same : {A : Type 0} (P : MsgReply → Result A MsgStatus → Type 0) (o : MsgOp) (old new : PostSeat) (x : Result A MsgStatus) → MsgCalled P o old new x
    → SameSeat old new
called_same P o old new x c = elim c [ inl a ↦ a.turned.same | inr u ↦ u.0.same ]

pub then_same : (a b c : PostSeat) → SameSeat a b → SameSeat b c → SameSeat a c
then_same a b c s t = record { cell = t.cell ∙ s.cell; number = t.number ∙ s.number; terms = t.terms ∙ s.terms }

pub received_same : (h : EndpointHandle) (limit : Option ℕ) (old new : PostSeat) (x : Result (ℕ × ℕ × List ℕ) MsgStatus) → Received h limit old new x
    → SameSeat old new
received_same h limit old new x e1 = grind (arith, nat_tests)
