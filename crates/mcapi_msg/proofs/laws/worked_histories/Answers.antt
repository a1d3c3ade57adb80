-- The worked histories and the rows of the words, computed.
use Rattle.mcapi_msg.proofs.Names.{refl, nat_tests, arith, ◌≡◌, List, [], ◌∷◌, ap, MsgReply, Refused, opening_post, MsgEntry, FitsPost, MsgLegal}
use Rattle.handle_pool.specs.Issued.{live_of, issue, change, listed, issued_at, retired, is_full, may_issue}
use Rattle.mcapi_msg.specs.declared.statuses.MsgStatus.TheVariants as status
use Rattle.mcapi_msg.specs.Fifo.{sent_to, received_at}
use Rattle.mcapi_msg.specs.Worked.{usual_post, exchange, used_again, sent_in_order, urgent_left, newest_first, handed_twice, full_early, stranger_served, timeout_early, never_decides, issued_twice, no_seat}
use Rattle.mcapi_msg.specs.WorkedWords.{crossed, made_up}
use Rattle.mcapi_msg.proofs.Replays.{replay, legal_if, replay_if}
use Rattle.mcapi_msg.proofs.laws.worked_histories.Goals as goal

usual_fits : FitsPost usual_post
usual_fits = grind (arith, nat_tests)

legal : (L : List MsgEntry) → replay (opening_post usual_post) L ≡ L → MsgLegal usual_post L
legal L e = record { fits = usual_fits; from = legal_if _ _ e }

-- the reply of the last entry, and the number of entries
last_reply : List MsgEntry → MsgReply
last_reply [] = Refused status.Spent
last_reply (e ∷ []) = e.reply
last_reply (e ∷ f ∷ es) = last_reply (f ∷ es)

illegal : (L : List MsgEntry) → (last_reply (replay (opening_post usual_post) L) ≡ last_reply L → ⊥) → MsgLegal usual_post L → ⊥
illegal L differs h = differs (ap last_reply (replay_if _ _ h.from))

pub returns-clause-histories : goal.returns-clause-histories
unfolding exchange used_again sent_in_order urgent_left newest_first handed_twice full_early stranger_served timeout_early never_decides issued_twice no_seat
    replay last_reply live_of issue change listed issued_at retired is_full may_issue
returns-clause-histories c = record {
  exchange_legal = legal exchange refl;
  used_again_legal = legal used_again refl;
  in_order_legal = legal sent_in_order refl;
  urgent_left_illegal = illegal urgent_left (λ h. cc);
  newest_first_illegal = illegal newest_first (λ h. cc);
  handed_twice_illegal = illegal handed_twice (λ h. cc);
  full_early_illegal = illegal full_early (λ h. cc);
  stranger_served_illegal = illegal stranger_served (λ h. cc);
  timeout_early_illegal = illegal timeout_early (λ h. cc);
  never_decides_illegal = illegal never_decides (λ h. cc);
  issued_twice_illegal = illegal issued_twice (λ h. cc);
  no_seat_illegal = illegal no_seat (λ h. cc);
  used_up_full = refl;
}

pub returns-clause-words : goal.returns-clause-words
unfolding crossed made_up newest_first handed_twice sent_to received_at
returns-clause-words c = grind (arith, nat_tests)
