-- Each op of a post is a step of the machine.
use Rattle.mcapi_msg.proofs.Names.{◌≡◌, ◌⊎◌, ℕ, ◌<◌, ◌≤◌, Bool, true, false, not, cond, List, [], ◌∷◌, length, Option, Some, None, refl, sym, ap, subst, ◌∙◌, inl, inr, arith, ◌==◌, nat_lt, eqb-true, eq-eqb, nat_tests, Slots, slot_value, max_of, IsFull, Inserts, with_value, without, NoneLive, HasLive, OneEach, Listed, lookup, live_object, any_listed, with_fields, gone, update, retire, IsFull-limit, IsFull-room, may_issue-insert, Stands-insert, Stands-update, Stands-remove, max_of-insert, max_of-with_value, max_of-without, EndpointHandle, Waiting, Mailbox, MsgOp, MsgReply, Got, Refused, MsgStatus, Post, last_endpoint_generation, Endpoint, new_endpoint, has_port, message_of_seat, next_of, with_message, with_first_gone, MsgState, MsgMove, apply_msg_move, MsgRow, unless, gives, says, only, live, Allows, moves_of, after_each_move, msg_row, names, no_message, messages_in, with_last_message, first_in, without_front, BoxTable, HasPort, HasFree, HasSpace, new_mailbox, with_rings, owner_refusal, rings_of, kept_as, HavePriorities, AreInRange, HoldsEndpoints, post_state_of, PostSteps, same_Some}
use Rattle.std.specs.Prelude.{◌&&◌}
use Rattle.handle_pool.specs.Issued.{live_of, issue, change, is_full, may_issue}
use Rattle.handle_pool.specs.Stands.{Stands as SlotsStand}
use Rattle.handle_pool.proofs.AnswerLemmas.{any-live, any-none, first_live-only, first_live-absent}
use Rattle.mcapi_msg.specs.declared.ops.MsgOp.TheVariants as op
use Rattle.mcapi_msg.specs.declared.ops.MsgReply.TheVariants.{Ok}
use Rattle.mcapi_msg.specs.declared.statuses.MsgStatus.TheVariants.{PortTaken, EndpointLimit, EndpointInvalid, PortUnknown, PriorityRange, Full, NotOwner}
use Rattle.mcapi_msg.specs.Stands.{relisted}
use Rattle.mcapi_msg.proofs.RingLemmas.{rings-more, count-rings, range-more, range-without, rings-take, take-none}
use Rattle.mcapi_msg.proofs.Relisted.{any-relisted, first-relisted, at-back, at-none, is_full-relisted, may_issue-relisted, issue-relisted, retire-relisted, update-relisted}

-- from the state s the row w gives the reply r and leads to t
pub record Gives (s : MsgState) (w : MsgRow) (r : MsgReply) (t : MsgState) : Type 0 where
  pub allowed : Allows w r
  pub leads : after_each_move apply_msg_move (moves_of w) s ≡ t

gives_this : (s : MsgState) (r : MsgReply) (ms : List MsgMove) → Gives s (gives r ms) r (after_each_move apply_msg_move ms s)
gives_this s r ms = record { allowed = refl; leads = refl }

says_this : (s : MsgState) (r : MsgReply) → Gives s (says r) r s
says_this s r = record { allowed = refl; leads = refl }

met : (s : MsgState) (c : Bool) (x : MsgReply) (w : MsgRow) → c ≡ true → Gives s (unless c x w) x s
met s c x w e1 = grind (arith, nat_tests)

past : (s t : MsgState) (c : Bool) (x r : MsgReply) (w : MsgRow) → c ≡ false → Gives s w r t → Gives s (unless c x w) r t
past s t c x r w e1 e2 = grind (arith, nat_tests)

allows : (b : Bool) (s t : MsgState) (r : MsgReply) (v : MsgRow) → b ≡ true → Gives s v r t → Gives s (only b v) r t
allows b s t r v e1 e2 = grind (arith, nat_tests)

module _ {T : Type 0} where
  at_some : (s t : MsgState) (o : Option T) (x : T) (other : MsgRow) (r : MsgReply) (f : T → MsgRow) → o ≡ Some x → Gives s (f x) r t
      → Gives s (live o other f) r t
  at_some s t o x other r f e g = subst (λ (p : Option T). Gives s (live p other f) r t) (sym e) g

  at_none : (s : MsgState) (o : Option T) (r : MsgReply) (f : T → MsgRow) → o ≡ None → Gives s (live o (says r) f) r s
  at_none s o r f e = subst (λ (p : Option T). Gives s (live p (says r) f) r s) (sym e) (says_this s r)

-- a step that leaves the post as it was
stays : (p : Post) (l : List (Listed Endpoint)) (who : ℕ) (o : MsgOp) (r : MsgReply) → HoldsEndpoints p l
    → Gives (post_state_of p l) (msg_row (post_state_of p l) who o r) r (post_state_of p l) → PostSteps p l who o r p
stays p l who o r v g = (l, record { allowed = g.allowed; leads = g.leads; holds = v; terms = refl })

-- a step to other slots
goes : (p : Post) (b : BoxTable) (l k : List (Listed Endpoint)) (who : ℕ) (o : MsgOp) (r : MsgReply) → HoldsEndpoints p l → b.limit ≡ p.boxes.limit
    → SlotsStand b.pool (relisted (kept_as p.boxes.limit) k) → b.pool.generations ≡ p.boxes.pool.generations → max_of b.pool ≡ max_of p.boxes.pool
    → AreInRange k
    → Gives (post_state_of p l) (msg_row (post_state_of p l) who o r) r (post_state_of p k) → PostSteps p l who o r (record p { boxes = b })
goes p b l k who o r e1 e2 e3 e4 e5 e6 e7 = grind (arith, nat_tests)

-- what the slots say of the endpoints
live_at : (p : Post) (l : List (Listed Endpoint)) (h : ℕ) (m : Mailbox) → HoldsEndpoints p l → slot_value p.boxes.pool h ≡ Some m
    → (e : Endpoint) × (live_object l h ≡ Some e) × (kept_as p.boxes.limit e ≡ m)
live_at p l h m v found = at-back (kept_as p.boxes.limit) l h m (sym (v.slots.found h) ∙ found)

not_live : (p : Post) (l : List (Listed Endpoint)) (h : ℕ) → HoldsEndpoints p l → slot_value p.boxes.pool h ≡ None → live_object l h ≡ None
not_live p l h v off = at-none (kept_as p.boxes.limit) l h (sym (v.slots.found h) ∙ off)

abbrev box_port : ℕ → Mailbox → Bool
box_port port m = m.port == port

taken_port : (p : Post) (l : List (Listed Endpoint)) (port h : ℕ) → HoldsEndpoints p l → HasLive p.boxes.pool h (HasPort port)
    → any_listed (has_port port) l ≡ true
taken_port p l port h v has =
    sym (any-relisted (kept_as p.boxes.limit) (box_port port) l)
    ∙ any-live p.boxes.pool (relisted (kept_as p.boxes.limit) l) (box_port port) h has.0 v.slots has.1 (eq-eqb has.0.port port has.2)

passes_not : (p : Slots Mailbox) (port : ℕ) → NoneLive (slot_value p) (HasPort port) → NoneLive (slot_value p) (λ m. box_port port m ≡ true)
passes_not p port none h m found is = none h m found (eqb-true m.port port is)

free_port : (p : Post) (l : List (Listed Endpoint)) (port : ℕ) → HoldsEndpoints p l → NoneLive (slot_value p.boxes.pool) (HasPort port)
    → any_listed (has_port port) l ≡ false
free_port p l port v none =
    sym (any-relisted (kept_as p.boxes.limit) (box_port port) l)
    ∙ any-none p.boxes.pool (relisted (kept_as p.boxes.limit) l) (box_port port) v.slots (passes_not p.boxes.pool port none)

full_at : (p : Post) (l : List (Listed Endpoint)) → HoldsEndpoints p l
    → is_full last_endpoint_generation (max_of p.boxes.pool) l ≡ is_full p.boxes.pool.generations (max_of p.boxes.pool) (relisted (kept_as p.boxes.limit) l)
full_at p l v = (λ i. is_full (sym v.generations i) (max_of p.boxes.pool) l)
    ∙ sym (is_full-relisted (kept_as p.boxes.limit) p.boxes.pool.generations (max_of p.boxes.pool) l)

range-issue : (h : ℕ) (e : Endpoint) (l : List (Listed Endpoint)) → HavePriorities e.waiting → AreInRange l → AreInRange (issue h e l)
unfolding issue
range-issue h e [] a r = (a, tt)
range-issue h e (x ∷ l) a r = (r.0, range-issue h e l a r.1)

range-change : (h : ℕ) (f : Listed Endpoint → Listed Endpoint) (l : List (Listed Endpoint))
    → ((r : Listed Endpoint) → HavePriorities r.fields.waiting → HavePriorities (f r).fields.waiting) → AreInRange l → AreInRange (change h f l)
unfolding change
range-change h f [] k r = tt
range-change h f (x ∷ l) k r = pick (x.live && (x.handle == h)) (range-change h f l k r.1)
  where
    pick : (b : Bool) → AreInRange (change h f l) → AreInRange (cond b (f x ∷ l) (x ∷ change h f l))
    pick true more = (k x r.0, r.1)
    pick false more = (r.0, more)

in_range : (h : ℕ) (l : List (Listed Endpoint)) (e : Endpoint) → AreInRange l → live_object l h ≡ Some e → HavePriorities e.waiting
unfolding live_of
in_range h [] e r found = absurd (cc)
in_range h (x ∷ l) e r found = pick x.live (x.handle == h) refl found (λ more. in_range h l e r.1 more)
  where
    same : (a b : Endpoint) → Some a ≡ Some b → a ≡ b
    same a b k = cc

    pick : (a b : Bool) → (x.handle == h) ≡ b → lookup (cond a ((x.handle, x.fields) ∷ live_of l) (live_of l)) h ≡ Some e
        → (live_object l h ≡ Some e → HavePriorities e.waiting) → HavePriorities e.waiting
    pick true true is k more = subst (λ (y : Endpoint). HavePriorities y.waiting)
        (same x.fields e (sym (ap (λ b. cond b (Some x.fields) (live_object l h)) is) ∙ k)) r.0
    pick true false is k more = more (sym (ap (λ b. cond b (Some x.fields) (live_object l h)) is) ∙ k)
    pick false b is k more = more k

-- Open
pub open_taken : (p : Post) (l : List (Listed Endpoint)) (who port h : ℕ) → HoldsEndpoints p l → HasLive p.boxes.pool h (HasPort port)
    → PostSteps p l who (op.Open port) (Refused PortTaken) p
open_taken p l who port h v has = stays p l who (op.Open port) (Refused PortTaken) v (met _ _ _ _ (taken_port p l port h v has))

pub open_full : (p : Post) (l : List (Listed Endpoint)) (who port : ℕ) → HoldsEndpoints p l → NoneLive (slot_value p.boxes.pool) (HasPort port)
    → IsFull p.boxes.pool
    → PostSteps p l who (op.Open port) (Refused EndpointLimit) p
open_full p l who port e1 e2 e3 = grind (arith, nat_tests, stays, past, free_port, met, full_at, IsFull-limit)

pub open_made : (p : Post) (b : BoxTable) (l : List (Listed Endpoint)) (who port h : ℕ) → HoldsEndpoints p l → NoneLive (slot_value p.boxes.pool) (HasPort port)
    → (IsFull p.boxes.pool → ⊥) → b.limit ≡ p.boxes.limit → Inserts p.boxes.pool b.pool h (new_mailbox port who p.boxes.limit)
    → PostSteps p l who (op.Open port) (names h) (record p { boxes = b })
open_made p b l who port h v none room limit inserts =
    let f : Endpoint → Mailbox = kept_as p.boxes.limit in
    let m : Mailbox = new_mailbox port who p.boxes.limit in
    let may : may_issue last_endpoint_generation h l ≡ true =
    (λ i. may_issue (sym v.generations i) h l)
    ∙ (sym (may_issue-relisted f p.boxes.pool.generations h l) ∙ may_issue-insert p.boxes.pool b.pool (relisted f l) h m v.slots inserts) in
    goes p b l (issue h (new_endpoint port who) l) who (op.Open port) (names h) v limit
    (subst (λ (k : List (Listed Mailbox)). SlotsStand b.pool k) (sym (issue-relisted f h (new_endpoint port who) l))
    (Stands-insert p.boxes.pool b.pool (relisted f l) h m v.slots inserts))
    (ap (λ (x : Slots Mailbox). x.generations) inserts.now) (max_of-insert p.boxes.pool b.pool h m inserts)
    (range-issue h (new_endpoint port who) l tt v.priorities)
    (past _ _ _ _ _ _ (free_port p l port v none)
    (past _ _ _ _ _ _ (full_at p l v ∙ IsFull-room p.boxes.pool (relisted f l) v.slots room) (allows _ _ _ _ _ may (gives_this _ _ _))))

-- Find
pub find_found : (p : Post) (l : List (Listed Endpoint)) (who port h : ℕ) → HoldsEndpoints p l → HasLive p.boxes.pool h (HasPort port)
    → OneEach (λ m. m.port) p.boxes.pool → PostSteps p l who (op.Find port) (names h) p
find_found p l who port h v has one =
    stays p l who (op.Find port) (names h) v
    (at_some _ _ _ h _ _ _
    (sym (first-relisted (kept_as p.boxes.limit) (box_port port) l)
    ∙ first_live-only p.boxes.pool (relisted (kept_as p.boxes.limit) l) (box_port port) h has.0 v.slots has.1 (eq-eqb has.0.port port has.2)
    (λ k w found is. one.only k h w has.0 found has.1 (eqb-true w.port port is ∙ sym has.2)))
    (says_this _ _))

pub find_absent : (p : Post) (l : List (Listed Endpoint)) (who port : ℕ) → HoldsEndpoints p l → NoneLive (slot_value p.boxes.pool) (HasPort port)
    → PostSteps p l who (op.Find port) (Refused PortUnknown) p
find_absent p l who port v none =
    stays p l who (op.Find port) (Refused PortUnknown) v
    (at_none _ _ _ _ (sym (first-relisted (kept_as p.boxes.limit) (box_port port) l)
    ∙ first_live-absent p.boxes.pool (relisted (kept_as p.boxes.limit) l) (box_port port) v.slots (passes_not p.boxes.pool port none)))

-- Send
pub send_invalid : (p : Post) (l : List (Listed Endpoint)) (who : ℕ) (to : EndpointHandle) (priority : ℕ) (msg : List ℕ) → HoldsEndpoints p l
    → slot_value p.boxes.pool to.0 ≡ None → PostSteps p l who (op.Send to priority msg) (Refused EndpointInvalid) p
send_invalid p l who to priority msg v off = stays p l who (op.Send to priority msg) (Refused EndpointInvalid) v (at_none _ _ _ _ (not_live p l to.0 v off))

above : (n : ℕ) → 4 ≤ n → not (nat_lt n 4) ≡ true
above n e1 = grind (arith, nat_tests)

below : (n : ℕ) → n < 4 → not (nat_lt n 4) ≡ false
below n e1 = grind (arith, nat_tests)

pub send_range : (p : Post) (l : List (Listed Endpoint)) (who : ℕ) (to : EndpointHandle) (priority : ℕ) (msg : List ℕ) (m : Mailbox) → HoldsEndpoints p l
    → slot_value p.boxes.pool to.0 ≡ Some m → 4 ≤ priority → PostSteps p l who (op.Send to priority msg) (Refused PriorityRange) p
send_range p l who to priority msg m e1 e2 e3 = grind (arith, nat_tests, live_at, stays, at_some, met, above)

-- as many messages wait as the rings hold
count_at : (p : Post) (l : List (Listed Endpoint)) (h : ℕ) (m : Mailbox) (e : Endpoint) → HoldsEndpoints p l → live_object l h ≡ Some e
    → kept_as p.boxes.limit e ≡ m
    → (length e.waiting == p.boxes.limit) ≡ (messages_in m.rings == m.rings.limit)
count_at p l h m e v is kept =
    (λ i. sym (count-rings p.boxes.limit e.waiting (in_range h l e v.priorities is)) i == p.boxes.limit)
    ∙ ap (λ (x : Mailbox). messages_in x.rings == x.rings.limit) kept

pub send_full : (p : Post) (l : List (Listed Endpoint)) (who : ℕ) (to : EndpointHandle) (priority : ℕ) (msg : List ℕ) (m : Mailbox) → HoldsEndpoints p l
    → slot_value p.boxes.pool to.0 ≡ Some m → priority < 4 → (messages_in m.rings == m.rings.limit) ≡ true
    → PostSteps p l who (op.Send to priority msg) (Refused Full) p
send_full p l who to priority msg m v found small full =
    let e = live_at p l to.0 m v found in
    stays p l who (op.Send to priority msg) (Refused Full) v
    (at_some _ _ _ e.0 _ _ _ e.1 (past _ _ _ _ _ _ (below priority small) (met _ _ _ _ (count_at p l to.0 m e.0 v e.1 e.2 ∙ full))))

-- the slots after a change of one endpoint
update_stands : (p : Post) (b : BoxTable) (l : List (Listed Endpoint)) (h : ℕ) (m n : Mailbox) (e : Endpoint) (g : Endpoint → Endpoint) → HoldsEndpoints p l
    → slot_value p.boxes.pool h ≡ Some m → live_object l h ≡ Some e → kept_as p.boxes.limit (g e) ≡ n → b.pool ≡ with_value p.boxes.pool h n
    → SlotsStand b.pool (relisted (kept_as p.boxes.limit) (update h g l))
update_stands p b l h m n e g v found is kept new =
    subst (λ (q : Slots Mailbox). SlotsStand q (relisted (kept_as p.boxes.limit) (update h g l))) (sym new)
    (subst (λ (k : List (Listed Mailbox)). SlotsStand (with_value p.boxes.pool h n) k) (sym (update-relisted (kept_as p.boxes.limit) h g e n l is kept))
    (Stands-update p.boxes.pool (relisted (kept_as p.boxes.limit) l) h (λ _. n) m v.slots found))

pub send_put : (p : Post) (b : BoxTable) (l : List (Listed Endpoint)) (who : ℕ) (to : EndpointHandle) (priority : ℕ) (msg : List ℕ) (m : Mailbox)
    → HoldsEndpoints p l
    → slot_value p.boxes.pool to.0 ≡ Some m → priority < 4 → (messages_in m.rings == m.rings.limit) ≡ false → b.limit ≡ p.boxes.limit
    → b.pool ≡ with_value p.boxes.pool to.0 (with_rings (with_last_message (message_of_seat who priority msg)) m)
    → PostSteps p l who (op.Send to priority msg) Ok (record p { boxes = b })
send_put p b l who to priority msg m v found small room limit new =
    let w : Waiting = message_of_seat who priority msg in
    let e = live_at p l to.0 m v found in
    let n : Mailbox = with_rings (with_last_message w) m in
    let kept : kept_as p.boxes.limit (with_message w e.0) ≡ n =
    (λ i. record { port = e.0.port; owner = e.0.owner; rings = rings-more p.boxes.limit w e.0.waiting small i }) ∙ ap (with_rings (with_last_message w)) e.2 in
    goes p b l (update to.0 (with_message w) l) who (op.Send to priority msg) Ok v limit
    (update_stands p b l to.0 m n e.0 (with_message w) v found e.1 kept new)
    (ap (λ (x : Slots Mailbox). x.generations) new) (ap max_of new ∙ max_of-with_value p.boxes.pool to.0 n)
    (range-change to.0 (with_fields (with_message w)) l (λ r k. range-more w r.fields.waiting k small) v.priorities)
    (at_some _ _ _ e.0 _ _ _ e.1 (past _ _ _ _ _ _ (below priority small) (past _ _ _ _ _ _ (count_at p l to.0 m e.0 v e.1 e.2 ∙ room) (gives_this _ _ _))))

-- Recv and Shut
refused : (o : Option Mailbox) (who : ℕ) (c : MsgStatus) → owner_refusal who o ≡ Some c
    → ((o ≡ None) × (c ≡ EndpointInvalid)) ⊎ ((m : Mailbox) × (o ≡ Some m) × ((m.owner == who) ≡ false) × (c ≡ NotOwner))
refused o who c e1 = grind (arith, nat_tests)

pub owner_found : (o : Option Mailbox) (who : ℕ) → owner_refusal who o ≡ None → (m : Mailbox) × (o ≡ Some m) × ((m.owner == who) ≡ true)
owner_found o who e1 = grind (arith, nat_tests)

same_owner : (p : Post) (m : Mailbox) (e : Endpoint) (who : ℕ) (b : Bool) → kept_as p.boxes.limit e ≡ m → (m.owner == who) ≡ b → not (e.owner == who) ≡ not b
same_owner p m e who b kept is = ap not (ap (λ (x : Mailbox). x.owner == who) kept ∙ is)

-- an op of the owner, refused
owned_refused : (p : Post) (l : List (Listed Endpoint)) (who : ℕ) (h : EndpointHandle) (o : MsgOp) (c : MsgStatus) (f : Endpoint → MsgRow) → HoldsEndpoints p l
    → ((r : MsgReply) → msg_row (post_state_of p l) who o r
    ≡ live (live_object l h.0) (says (Refused EndpointInvalid)) (λ e. unless (not (e.owner == who)) (Refused NotOwner) (f e)))
    → owner_refusal who (slot_value p.boxes.pool h.0) ≡ Some c → PostSteps p l who o (Refused c) p
owned_refused p l who h o c f v is off = elim (refused (slot_value p.boxes.pool h.0) who c off) [
  | inl none ↦
      rw none.1 (stays p l who o (Refused EndpointInvalid) v
      (subst (λ (w : MsgRow). Gives (post_state_of p l) w (Refused EndpointInvalid) (post_state_of p l)) (sym (is (Refused EndpointInvalid)))
      (at_none _ _ _ _ (not_live p l h.0 v none.0))))
  | inr other ↦
      let e = live_at p l h.0 other.0 v other.1 in
      rw other.3 (stays p l who o (Refused NotOwner) v
      (subst (λ (w : MsgRow). Gives (post_state_of p l) w (Refused NotOwner) (post_state_of p l)) (sym (is (Refused NotOwner)))
      (at_some _ _ _ e.0 _ _ _ e.1 (met _ _ _ _ (same_owner p other.0 e.0 who false e.2 other.2)))))
]

pub recv_refused : (p : Post) (l : List (Listed Endpoint)) (who : ℕ) (h : EndpointHandle) (last : Bool) (c : MsgStatus) → HoldsEndpoints p l
    → owner_refusal who (slot_value p.boxes.pool h.0) ≡ Some c → PostSteps p l who (op.Recv h last) (Refused c) p
recv_refused p l who h last c v off = owned_refused p l who h (op.Recv h last) c _ v (λ r. refl) off

pub shut_refused : (p : Post) (l : List (Listed Endpoint)) (who : ℕ) (h : EndpointHandle) (c : MsgStatus) → HoldsEndpoints p l
    → owner_refusal who (slot_value p.boxes.pool h.0) ≡ Some c → PostSteps p l who (op.Shut h) (Refused c) p
shut_refused p l who h c v off = owned_refused p l who h (op.Shut h) c _ v (λ r. refl) off

-- a message that goes first
pub recv_got : (p : Post) (b : BoxTable) (l : List (Listed Endpoint)) (who : ℕ) (h : EndpointHandle) (last : Bool) (m : Mailbox) (w : Waiting)
    → HoldsEndpoints p l
    → slot_value p.boxes.pool h.0 ≡ Some m → (m.owner == who) ≡ true → first_in m.rings ≡ Some w → b.limit ≡ p.boxes.limit
    → b.pool ≡ with_value p.boxes.pool h.0 (with_rings without_front m)
    → PostSteps p l who (op.Recv h last) (Got w.sender w.priority w.msg) (record p { boxes = b })
recv_got p b l who h last m w v found mine first limit new = by_next (next_of e.0.waiting) refl
  where
    e : (e : Endpoint) × (live_object l h.0 ≡ Some e) × (kept_as p.boxes.limit e ≡ m)
    e = live_at p l h.0 m v found

    front : first_in (rings_of p.boxes.limit e.0.waiting) ≡ Some w
    front = ap (λ (x : Mailbox). first_in x.rings) e.2 ∙ first

    range : HavePriorities e.0.waiting
    range = in_range h.0 l e.0 v.priorities e.1

    got : (x : Waiting) → next_of e.0.waiting ≡ Some x → x ≡ w → PostSteps p l who (op.Recv h last) (Got w.sender w.priority w.msg) (record p { boxes = b })
    got x is same =
        let next : next_of e.0.waiting ≡ Some w = is ∙ ap Some same in
        let kept : kept_as p.boxes.limit (with_first_gone w.priority e.0) ≡ with_rings without_front m =
        (λ i. record { port = e.0.port; owner = e.0.owner; rings = sym (rings-take p.boxes.limit e.0.waiting w range next).1 i })
        ∙ ap (with_rings without_front) e.2 in
        goes p b l (update h.0 (with_first_gone w.priority) l) who (op.Recv h last) (Got w.sender w.priority w.msg) v limit
        (update_stands p b l h.0 m (with_rings without_front m) e.0 (with_first_gone w.priority) v found e.1 kept new)
        (ap (λ (x : Slots Mailbox). x.generations) new) (ap max_of new ∙ max_of-with_value p.boxes.pool h.0 (with_rings without_front m))
        (range-change h.0 (with_fields (with_first_gone w.priority)) l (λ r k. range-without w.priority r.fields.waiting k) v.priorities)
        (at_some _ _ _ e.0 _ _ _ e.1 (past _ _ _ _ _ _ (same_owner p m e.0 who true e.2 mine) (at_some _ _ _ w _ _ _ next (gives_this _ _ _))))

    by_next : (o : Option Waiting) → next_of e.0.waiting ≡ o → PostSteps p l who (op.Recv h last) (Got w.sender w.priority w.msg) (record p { boxes = b })
    by_next None is = let none = sym (take-none p.boxes.limit e.0.waiting is).0 ∙ front in absurd (cc)
    by_next (Some x) is = got x is (same_Some x w (sym (rings-take p.boxes.limit e.0.waiting x range is).0 ∙ front))

-- no message waits
pub recv_none : (p : Post) (l : List (Listed Endpoint)) (who : ℕ) (h : EndpointHandle) (last : Bool) (m : Mailbox) → HoldsEndpoints p l
    → slot_value p.boxes.pool h.0 ≡ Some m → (m.owner == who) ≡ true → first_in m.rings ≡ None → PostSteps p l who (op.Recv h last) (no_message last) p
recv_none p l who h last m v found mine first = by_next (next_of e.0.waiting) refl
  where
    e : (e : Endpoint) × (live_object l h.0 ≡ Some e) × (kept_as p.boxes.limit e ≡ m)
    e = live_at p l h.0 m v found

    front : first_in (rings_of p.boxes.limit e.0.waiting) ≡ None
    front = ap (λ (x : Mailbox). first_in x.rings) e.2 ∙ first

    by_next : (o : Option Waiting) → next_of e.0.waiting ≡ o → PostSteps p l who (op.Recv h last) (no_message last) p
    by_next None is =
        stays p l who (op.Recv h last) (no_message last) v
        (at_some _ _ _ e.0 _ _ _ e.1 (past _ _ _ _ _ _ (same_owner p m e.0 who true e.2 mine) (at_none _ _ _ _ is)))
    by_next (Some x) is = let some = sym (rings-take p.boxes.limit e.0.waiting x (in_range h.0 l e.0 v.priorities e.1) is).0 ∙ front in absurd (cc)

pub shut_done : (p : Post) (b : BoxTable) (l : List (Listed Endpoint)) (who : ℕ) (h : EndpointHandle) (m : Mailbox) → HoldsEndpoints p l
    → slot_value p.boxes.pool h.0 ≡ Some m → (m.owner == who) ≡ true → b.limit ≡ p.boxes.limit → b.pool ≡ without p.boxes.pool h.0
    → PostSteps p l who (op.Shut h) Ok (record p { boxes = b })
shut_done p b l who h m v found mine limit new =
    let f : Endpoint → Mailbox = kept_as p.boxes.limit in
    let e = live_at p l h.0 m v found in
    goes p b l (retire h.0 l) who (op.Shut h) Ok v limit
    (subst (λ (q : Slots Mailbox). SlotsStand q (relisted f (retire h.0 l))) (sym new)
    (subst (λ (k : List (Listed Mailbox)). SlotsStand (without p.boxes.pool h.0) k) (sym (retire-relisted f h.0 l))
    (Stands-remove p.boxes.pool (relisted f l) h.0 m v.slots found)))
    (ap (λ (x : Slots Mailbox). x.generations) new) (ap max_of new ∙ max_of-without p.boxes.pool h.0)
    (range-change h.0 gone l (λ r k. k) v.priorities)
    (at_some _ _ _ e.0 _ _ _ e.1 (past _ _ _ _ _ _ (same_owner p m e.0 who true e.2 mine) (gives_this _ _ _)))

pub free_full : (p : Slots Mailbox) → HasFree p → IsFull p → ⊥
free_full p room full = omega arith

-- a mailbox that isn't full has room
pub has_space : (o : Option Mailbox) (m : Mailbox) → o ≡ Some m → (messages_in m.rings == m.rings.limit) ≡ false → messages_in m.rings ≤ m.rings.limit
    → HasSpace o
has_space o m e1 e2 e3 = grind (arith, nat_tests)

-- the same with the slots as the look left them
pub recv_left : (p : Post) (b : BoxTable) (l : List (Listed Endpoint)) (who : ℕ) (h : EndpointHandle) (last known : Bool) (m : Mailbox) → HoldsEndpoints p l
    → slot_value p.boxes.pool h.0 ≡ Some m → (m.owner == who) ≡ true → first_in m.rings ≡ None → b ≡ p.boxes → last ≡ known
    → PostSteps p l who (op.Recv h last) (no_message known) (record p { boxes = b })
recv_left p b l who h last known m v found mine first same is =
    subst (λ (x : BoxTable). PostSteps p l who (op.Recv h last) (no_message known) (record p { boxes = x })) (sym same)
    (subst (λ (k : Bool). PostSteps p l who (op.Recv h last) (no_message k) p) is (recv_none p l who h last m v found mine first))
