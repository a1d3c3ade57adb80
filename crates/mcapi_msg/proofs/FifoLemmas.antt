-- What waits at an endpoint of one sender with one priority is what was sent and not yet received.
use Rattle.mcapi_msg.proofs.Names.{nat_tests, ◌≡◌, ℕ, ◌+◌, Bool, true, false, cond, ◌&&◌, List, [], ◌∷◌, ◌++◌, Some, None, refl, sym, ap, subst, ◌∙◌, arith, append_assoc, ◌==◌, append-nil, eqb-true, StartsWith, Listed, how_many, lookup, live_object, first_handle, update, retire, with_fields, EndpointHandle, Waiting, MsgOp, MsgReply, PostTerms, last_endpoint_generation, Endpoint, new_endpoint, has_port, message_of_seat, next_of, without_message, of_priority, with_message, with_first_gone, MsgState, opening_post, MsgMove, apply_msg_move, after_each_move, gives, msg_handle_of, opens, msg_row, names, no_message, MsgEntry, MsgIsNext, msg_row_of, msg_next, MsgLegal}
use Rattle.handle_pool.specs.Issued.{live_of, listed, may_issue, issue}
use Rattle.handle_pool.specs.Stands.{Distinct}
use Rattle.handle_pool.proofs.ListedLemmas.{at-issue, at-update, at-retire, Distinct-issue, Distinct-update, Distinct-retire, listed-issue, listed-change}
use Rattle.history.proofs.Row.{AllDeeds, deeds, on_live, on_only}
use Rattle.mcapi_msg.specs.declared.ops.MsgOp.TheVariants as op
use Rattle.mcapi_msg.specs.Legal.{MsgLegalFrom}
use Rattle.mcapi_msg.specs.Fifo.{put_by, got_by, sent_to, received_at}
use Rattle.mcapi_msg.proofs.RingLemmas.{IsFirst, first-is, of-more, of-without}

-- the bytes of the messages of this sender
abbrev from : ℕ → List Waiting → List (List ℕ)
from sender [] = []
from sender (w ∷ ws) = cond (w.sender == sender) (w.msg ∷ from sender ws) (from sender ws)

from-more : (sender : ℕ) (w : Waiting) (ws : List Waiting) → from sender (ws ++ w ∷ []) ≡ from sender ws ++ cond (w.sender == sender) (w.msg ∷ []) []
from-more sender w [] = pick (w.sender == sender)
  where
    pick : (b : Bool) → cond b (w.msg ∷ []) [] ≡ [] ++ cond b (w.msg ∷ []) []
    pick true = refl
    pick false = refl
from-more sender w (x ∷ ws) = pick (x.sender == sender) (from-more sender w ws)
  where
    pick : (b : Bool) → from sender (ws ++ w ∷ []) ≡ from sender ws ++ cond (w.sender == sender) (w.msg ∷ []) []
        → cond b (x.msg ∷ from sender (ws ++ w ∷ [])) (from sender (ws ++ w ∷ []))
        ≡ cond b (x.msg ∷ from sender ws) (from sender ws) ++ cond (w.sender == sender) (w.msg ∷ []) []
    pick true e = ap (λ (l : List (List ℕ)). x.msg ∷ l) e
    pick false e = e

-- those that wait, of one sender with one priority
abbrev flow : ℕ → ℕ → List Waiting → List (List ℕ)
flow sender priority ws = from sender (of_priority priority ws)

flow-more : (sender priority who p : ℕ) (msg : List ℕ) (ws : List Waiting)
    → flow sender priority (ws ++ message_of_seat who p msg ∷ []) ≡ flow sender priority ws ++ cond ((who == sender) && (p == priority)) (msg ∷ []) []
flow-more sender priority who p msg ws = grind (arith, nat_tests, of-more, from-more, of_priority, append-nil)

flow-first : (sender priority : ℕ) (w : Waiting) (ws : List Waiting) → IsFirst w ws
    → flow sender priority ws ≡ cond ((w.sender == sender) && (w.priority == priority)) (w.msg ∷ []) [] ++ flow sender priority (without_message w.priority ws)
flow-first sender priority w ws e1 = grind (arith, nat_tests, without_message, of_priority, of-without, eqb-true)

-- a handle that was never issued isn't live
unlisted : (h : ℕ) (l : List (Listed Endpoint)) → listed h l ≡ 0 → live_object l h ≡ None
unfolding listed live_of
unlisted h [] e = refl
unlisted h (r ∷ rs) e = pick (r.handle == h) refl r.live e (λ k. unlisted h rs k)
  where
    pick : (b : Bool) → (r.handle == h) ≡ b → (live : Bool) → cond b 1 0 + how_many (λ x. x.handle == h) rs ≡ 0
        → (how_many (λ x. x.handle == h) rs ≡ 0 → live_object rs h ≡ None) → lookup (cond live ((r.handle, r.fields) ∷ live_of rs) (live_of rs)) h ≡ None
    pick true is live k more = absurd (omega arith)
    pick false is true k more = ap (λ b. cond b (Some r.fields) (live_object rs h)) is ∙ more (omega arith)
    pick false is false k more = more (omega arith)

issued_new : (last h : ℕ) (l : List (Listed Endpoint)) → may_issue last h l ≡ true → listed h l ≡ 0
unfolding may_issue
issued_new last h l e1 = grind (arith, nat_tests)

module _ (endpoint : EndpointHandle) (sender priority : ℕ) where
  -- of what was sent, what wasn't received waits there, in its order, while the endpoint is live
  record Flows (l : List (Listed Endpoint)) (sent got : List (List ℕ)) : Type 0 where
    distinct : Distinct (live_of l)
    live : (e : Endpoint) → live_object l endpoint.0 ≡ Some e → sent ≡ got ++ flow sender priority e.waiting
    begins : StartsWith sent got
    unissued : listed endpoint.0 l ≡ 0 → (sent ≡ []) × (got ≡ [])

  -- an entry that puts and receives nothing there, and leaves the endpoints
  stays : (l : List (Listed Endpoint)) (sent got : List (List ℕ)) → Flows l sent got → Flows l (sent ++ []) (got ++ [])
  stays l sent got f = subst (λ (x : List (List ℕ)). Flows l x (got ++ [])) (sym (append-nil sent))
      (subst (λ (x : List (List ℕ)). Flows l sent x) (sym (append-nil got)) f)

  same_some : (x y : Endpoint) → Some x ≡ Some y → x ≡ y
  same_some x y e = cc

  -- where the endpoint is live, what waits there tells all
  flows-live : (l : List (Listed Endpoint)) (sent got : List (List ℕ)) (x : Endpoint) → Distinct (live_of l) → live_object l endpoint.0 ≡ Some x
      → sent ≡ got ++ flow sender priority x.waiting → Flows l sent got
  flows-live l sent got x e1 e2 e3 = grind (arith, nat_tests, same_some, unlisted)

  -- where the endpoint is as it was
  flows-other : (l m : List (Listed Endpoint)) (sent got : List (List ℕ)) → Flows l sent got → Distinct (live_of m)
      → live_object m endpoint.0 ≡ live_object l endpoint.0 → (listed endpoint.0 m ≡ 0 → listed endpoint.0 l ≡ 0) → Flows m sent got
  flows-other l m sent got e1 e2 e3 e4 = grind (arith, nat_tests)

  -- where the endpoint isn't live any more
  flows-gone : (l m : List (Listed Endpoint)) (sent got : List (List ℕ)) → Flows l sent got → Distinct (live_of m) → live_object m endpoint.0 ≡ None
      → (listed endpoint.0 m ≡ 0 → listed endpoint.0 l ≡ 0) → Flows m sent got
  flows-gone l m sent got e1 e2 e3 e4 = grind (arith, nat_tests)

  flows-issue : (l : List (Listed Endpoint)) (sent got : List (List ℕ)) (h port who : ℕ) → Flows l sent got → may_issue last_endpoint_generation h l ≡ true
      → Flows (issue h (new_endpoint port who) l) sent got
  flows-issue l sent got h port who f may = pick (h == endpoint.0) refl
    where
      new : listed h l ≡ 0
      new = issued_new last_endpoint_generation h l may

      off : live_object l h ≡ None
      off = unlisted h l (issued_new last_endpoint_generation h l may)

      now : live_object (issue h (new_endpoint port who) l) endpoint.0 ≡ cond (h == endpoint.0) (Some (new_endpoint port who)) (live_object l endpoint.0)
      now = at-issue h endpoint.0 (new_endpoint port who) l (unlisted h l (issued_new last_endpoint_generation h l may))

      distinct : Distinct (live_of (issue h (new_endpoint port who) l))
      distinct = Distinct-issue h (new_endpoint port who) l f.distinct (unlisted h l (issued_new last_endpoint_generation h l may))

      pick : (b : Bool) → (h == endpoint.0) ≡ b → Flows (issue h (new_endpoint port who) l) sent got
      pick true e =
          let none = f.unissued (ap (λ (n : ℕ). listed n l) (sym (eqb-true h endpoint.0 e)) ∙ new) in
          flows-live _ sent got (new_endpoint port who) distinct (now ∙ ap (λ b. cond b (Some (new_endpoint port who)) (live_object l endpoint.0)) e) (none.0
          ∙ ap (λ (x : List (List ℕ)). x ++ []) (sym none.1))
      pick false e =
          flows-other l _ sent got f distinct (now ∙ ap (λ b. cond b (Some (new_endpoint port who)) (live_object l endpoint.0)) e)
          (λ k. let more = listed-issue endpoint.0 h (new_endpoint port who) l in omega (arith, more, k))

  -- the live endpoint k changes, and keeps its handle
  now_updated : (l : List (Listed Endpoint)) (k : ℕ) (g : Endpoint → Endpoint) (e : Endpoint) (b : Bool) → live_object l k ≡ Some e → (k == endpoint.0) ≡ b
      → live_object (update k g l) endpoint.0 ≡ cond b (Some (g e)) (live_object l endpoint.0)
  now_updated l k g e b is same = at-update k endpoint.0 g e l is ∙ ap (λ c. cond c (Some (g e)) (live_object l endpoint.0)) same

  here : (l : List (Listed Endpoint)) (k : ℕ) (e : Endpoint) → live_object l k ≡ Some e → (k == endpoint.0) ≡ true → live_object l endpoint.0 ≡ Some e
  here l k e is same = ap (live_object l) (sym (eqb-true k endpoint.0 same)) ∙ is

  flows-put : (l : List (Listed Endpoint)) (sent got : List (List ℕ)) (k who p : ℕ) (msg : List ℕ) (e : Endpoint) → Flows l sent got → live_object l k ≡ Some e
      → Flows (update k (with_message (message_of_seat who p msg)) l) (sent
      ++ cond ((k == endpoint.0) && ((who == sender) && (p == priority))) (msg ∷ []) []) (got
      ++ [])
  flows-put l sent got k who p msg e f is = pick (k == endpoint.0) refl
    where
      put : List (List ℕ)
      put = cond ((who == sender) && (p == priority)) (msg ∷ []) []

      distinct : Distinct (live_of (update k (with_message (message_of_seat who p msg)) l))
      distinct = Distinct-update k (with_message (message_of_seat who p msg)) l f.distinct

      pick : (b : Bool) → (k == endpoint.0) ≡ b
          → Flows (update k (with_message (message_of_seat who p msg)) l) (sent ++ cond (b && ((who == sender) && (p == priority))) (msg ∷ []) []) (got ++ [])
      pick true same =
          flows-live _ _ _ (with_message (message_of_seat who p msg) e) distinct (now_updated l k (with_message (message_of_seat who p msg)) e true is same)
          (ap (λ (x : List (List ℕ)). x ++ cond ((who == sender) && (p == priority)) (msg ∷ []) []) (f.live e (here l k e is same))
          ∙ (append_assoc got (flow sender priority e.waiting) (cond ((who == sender) && (p == priority)) (msg ∷ []) [])
          ∙ (ap (λ (x : List (List ℕ)). got ++ x) (sym (flow-more sender priority who p msg e.waiting))
          ∙ ap (λ (x : List (List ℕ)). x ++ flow sender priority (e.waiting ++ message_of_seat who p msg ∷ [])) (sym (append-nil got)))))
      pick false same =
          stays _ sent got (flows-other l _ sent got f distinct (now_updated l k (with_message (message_of_seat who p msg)) e false is same)
          (λ n. sym (listed-change endpoint.0 k (with_fields (with_message (message_of_seat who p msg))) (λ r. refl) l) ∙ n))

  flows-take : (l : List (Listed Endpoint)) (sent got : List (List ℕ)) (k : ℕ) (w : Waiting) (e : Endpoint) → Flows l sent got → live_object l k ≡ Some e
      → next_of e.waiting ≡ Some w
      → Flows (update k (with_first_gone w.priority) l) (sent ++ []) (got
      ++ cond ((k == endpoint.0) && ((w.sender == sender) && (w.priority == priority))) (w.msg ∷ []) [])
  flows-take l sent got k w e f is first = pick (k == endpoint.0) refl
    where
      distinct : Distinct (live_of (update k (with_first_gone w.priority) l))
      distinct = Distinct-update k (with_first_gone w.priority) l f.distinct

      pick : (b : Bool) → (k == endpoint.0) ≡ b
          → Flows (update k (with_first_gone w.priority) l) (sent ++ []) (got ++ cond (b && ((w.sender == sender) && (w.priority == priority))) (w.msg ∷ []) [])
      pick true same =
          flows-live _ _ _ (with_first_gone w.priority e) distinct (now_updated l k (with_first_gone w.priority) e true is same)
          (append-nil sent
          ∙ (f.live e (here l k e is same)
          ∙ (ap (λ (x : List (List ℕ)). got ++ x) (flow-first sender priority w e.waiting (first-is e.waiting w first))
          ∙ sym (append_assoc got (cond ((w.sender == sender) && (w.priority == priority)) (w.msg ∷ []) [])
          (flow sender priority (without_message w.priority e.waiting))))))
      pick false same =
          stays _ sent got (flows-other l _ sent got f distinct (now_updated l k (with_first_gone w.priority) e false is same)
          (λ n. sym (listed-change endpoint.0 k (with_fields (with_first_gone w.priority)) (λ r. refl) l) ∙ n))

  flows-shut : (l : List (Listed Endpoint)) (sent got : List (List ℕ)) (k : ℕ) → Flows l sent got → Flows (retire k l) sent got
  flows-shut l sent got k e1 = grind (arith, nat_tests, listed-change, flows-gone, Distinct-retire, at-retire, live_object, flows-other)

  -- what an entry with this reply and these moves leaves
  abbrev After : MsgState → ℕ → MsgOp → List (List ℕ) → List (List ℕ) → MsgReply → List MsgMove → Type 0
  After s who o sent got r ms = Flows (after_each_move apply_msg_move ms s).endpoints (sent ++ put_by endpoint sender priority who o r) (got
      ++ got_by endpoint sender priority o r)

  looked : (last : Bool) (s : MsgState) (who : ℕ) (h : EndpointHandle) (sent got : List (List ℕ)) → Flows s.endpoints sent got
      → After s who (op.Recv h last) sent got (no_message last) []
  looked last s who h sent got e1 = grind (arith, nat_tests, stays)

  row_flows : (s : MsgState) (who : ℕ) (o : MsgOp) (r : MsgReply) (sent got : List (List ℕ)) → Flows s.endpoints sent got
      → AllDeeds (After s who o sent got) (msg_row s who o r)
  row_flows s who (op.Open port) r sent got f = (
    stays _ sent got f,
    (
      stays _ sent got f,
      on_only (After s who (op.Open port) sent got) (may_issue last_endpoint_generation (msg_handle_of r) s.endpoints)
          (gives (names (msg_handle_of r)) (opens (msg_handle_of r) (new_endpoint port who) ∷ []))
          (λ may. stays _ sent got (flows-issue s.endpoints sent got (msg_handle_of r) port who f may)),
    ),
  )
  row_flows s who (op.Find port) r sent got f =
      on_live (After s who (op.Find port) sent got) (first_handle (has_port port) (live_of s.endpoints)) _ _ (stays _ sent got f) (λ h is. stays _ sent got f)
  row_flows s who (op.Send to p msg) r sent got f =
      on_live (After s who (op.Send to p msg) sent got) (live_object s.endpoints to.0) _ _ (stays _ sent got f)
      (λ e is. (stays _ sent got f, (stays _ sent got f, flows-put s.endpoints sent got to.0 who p msg e f is)))
  row_flows s who (op.Recv h last) r sent got f =
      on_live (After s who (op.Recv h last) sent got) (live_object s.endpoints h.0) _ _ (stays _ sent got f)
      (λ e is. (
        stays _ sent got f,
        on_live (After s who (op.Recv h last) sent got) (next_of e.waiting) _ _ (looked last s who h sent got f)
            (λ w first. flows-take s.endpoints sent got h.0 w e f is first),
      ))
  row_flows s who (op.Shut h) r sent got f =
      on_live (After s who (op.Shut h) sent got) (live_object s.endpoints h.0) _ _ (stays _ sent got f)
      (λ e is. (stays _ sent got f, stays _ sent got (flows-shut s.endpoints sent got h.0 f)))

  step : (s : MsgState) (e : MsgEntry) (sent got : List (List ℕ)) → MsgIsNext s e → Flows s.endpoints sent got
      → Flows (msg_next s e).endpoints (sent ++ put_by endpoint sender priority e.who e.op e.reply) (got ++ got_by endpoint sender priority e.op e.reply)
  step s e sent got n f = deeds (After s e.who e.op sent got) (msg_row_of s e) e.reply (row_flows s e.who e.op e.reply sent got f) n.allowed

  along : (s : MsgState) (L : List MsgEntry) (sent got : List (List ℕ)) → MsgLegalFrom s L → Flows s.endpoints sent got
      → StartsWith (sent ++ sent_to endpoint sender priority L) (got ++ received_at endpoint sender priority L)
  unfolding MsgLegalFrom sent_to received_at
  along s [] sent got h f = (f.begins.0, append-nil sent ∙ (f.begins.1 ∙ ap (λ (x : List (List ℕ)). x ++ f.begins.0) (sym (append-nil got))))
  along s (e ∷ L) sent got h f =
      let more = along (msg_next s e) L (sent ++ put_by endpoint sender priority e.who e.op e.reply) (got
      ++ got_by endpoint sender priority e.op e.reply) h.1 (step s e sent got h.0 f) in (
        more.0,
        sym (append_assoc sent (put_by endpoint sender priority e.who e.op e.reply) (sent_to endpoint sender priority L))
            ∙ (more.1 ∙ ap (λ (x : List (List ℕ)). x
            ++ more.0) (append_assoc got (got_by endpoint sender priority e.op e.reply) (received_at endpoint sender priority L))),
      )

  -- the law
  pub in_order : (t : PostTerms) (L : List MsgEntry) → MsgLegal t L → StartsWith (sent_to endpoint sender priority L) (received_at endpoint sender priority L)
  unfolding live_of listed
  in_order t L h = along (opening_post t) L [] [] h.from (record {
    distinct = tt;
    live = λ e k. absurd (cc);
    begins = ([], refl);
    unissued = λ k. (refl, refl);
  })
