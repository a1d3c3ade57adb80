-- A new post stands for the empty list, and each step goes on with the list.
use Rattle.mcapi_msg.proofs.Names.{nat_tests, ◌≡◌, ℕ, ◌<◌, ◌≤◌, List, [], ◌∷◌, ◌++◌, length, replicate, ◌∙◌, ap, arith, length-replicate, entry, free_slot, Listed, Stands-new, MsgOp, MsgReply, Post, last_endpoint_generation, Endpoint, BoxTable, MsgEntry, msg_after, post_terms_of, HoldsEndpoints, PostSteps, post_state_of, PostStands}
use Rattle.mcapi_msg.specs.Legal.{MsgLegalFrom, msg_after_from}
use Rattle.mcapi_msg.specs.Stands.{relisted}
use Rattle.mcapi_msg.proofs.Histories.{Legal-one, after-one, after-terms}

pub new_post : (seats endpoints limit : ℕ) (b : BoxTable) → 1 ≤ seats → seats ≤ 25 → 1 ≤ endpoints → endpoints ≤ 64 → 1 ≤ limit → limit ≤ 256 → b.limit ≡ limit
    → b.pool.generations ≡ last_endpoint_generation → b.pool.slots ≡ replicate endpoints (free_slot 1) → PostStands (record { seats = seats; boxes = b }) []
unfolding MsgLegalFrom msg_after_from relisted
new_post seats endpoints limit b x y z u v w is generations slots =
    let size : length b.pool.slots ≡ endpoints = ap (λ l. length l) slots ∙ length-replicate endpoints (free_slot 1) in
    record {
      legal = record {
        fits = record { some_seat = x; seats = y; some_endpoint = rw size z; endpoints = rw size u; some_message = rw is v; messages = rw is w };
        from = tt;
      };
      holds = record {
        slots = Stands-new b.pool endpoints (rw generations (omega arith)) (omega arith) slots;
        generations = generations;
        priorities = tt;
      };
    }

-- one more entry
pub goes_on : (p q : Post) (L : List MsgEntry) (who : ℕ) (o : MsgOp) (r : MsgReply) → PostStands p L → who < p.seats
    → PostSteps p (msg_after (post_terms_of p) L).endpoints who o r q → PostStands q (L ++ entry who o r ∷ [])
goes_on p q L who o r e1 e2 e3 = grind (arith, nat_tests, Legal-one, post_state_of, post_terms_of, after-terms, after-one)

pub same_terms : (p q : Post) (L : List MsgEntry) (who : ℕ) (o : MsgOp) (r : MsgReply) → PostStands p L
    → ((l : List (Listed Endpoint)) → HoldsEndpoints p l → PostSteps p l who o r q) → post_terms_of q ≡ post_terms_of p
same_terms p q L who o r st s = (s _ st.holds).1.terms
