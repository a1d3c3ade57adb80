-- A list is legal exactly where its replay is the list itself.
use Rattle.std.proofs.Common.{◌≡◌, Bool, true, false, cond, List, [], ◌∷◌, Option, Some, None, refl, ap, lt-ltb, ltb-true}
use Rattle.std.proofs.lemmas.Bool.{and_parts}
use Rattle.std.specs.Prelude.{nat_lt, ◌&&◌}
use Rattle.history.specs.declared.entries.Entry.{Entry}
use Rattle.history.specs.Legal.{Machine, MayComeNext, row_of_entry, state_after, EachMayCome}
use Rattle.history.specs.Replay.{answer_of_row, said_with, put_entry, retold, replay_rows}
use Rattle.history.proofs.Row.{Allows-answer, answer-allowed}

module _ {Op Reply : Type 0} where
  said_same : (e : Entry Op Reply) (p : Op) (o : Option Reply) → said_with e.who p o ≡ Some e → (o ≡ Some e.reply) × (p ≡ e.op)
  said_same e p None h = absurd (cc)
  said_same e p (Some x) h = (ap (λ (y : Option (Entry Op Reply)). reply_of y) h, ap (λ (y : Option (Entry Op Reply)). op_of y) h)
    where
      reply_of : Option (Entry Op Reply) → Option Reply
      reply_of None = None
      reply_of (Some y) = Some y.reply

      op_of : Option (Entry Op Reply) → Op
      op_of None = p
      op_of (Some y) = y.op

  put_same : (o : Option (Entry Op Reply)) (e : Entry Op Reply) (es fs : List (Entry Op Reply)) → put_entry o fs ≡ e ∷ es → (o ≡ Some e) × (fs ≡ es)
  put_same None e es fs h = absurd (cc)
  put_same (Some x) e es fs h = (ap Some (cc), cc)

-- an op may be asked exactly where it is sound, and correcting leaves it as it is
module _ {State Op Reply Move : Type 0} (m : Machine State Op Reply Move) (sound : Op → Bool) (corrected : Op → Op)
    (sound_if : (op : Op) → m.honest op → (sound op ≡ true) × (corrected op ≡ op)) (honest_if : (op : Op) → sound op ≡ true → corrected op ≡ op
    → m.honest op) where
  -- an entry may be next exactly where it is the machine's own
  retold_if : (s : State) (e : Entry Op Reply) → MayComeNext m s e → retold m sound corrected s e ≡ Some e
  retold_if s e h =
      let k = sound_if e.op h.honest in
      λ i. cond (lt-ltb _ _ h.seat i && k.0 i) (said_with e.who (k.1 i) (answer-allowed (row_of_entry m s e) e.reply h.allowed i)) None

  next_in : (s : State) (e : Entry Op Reply) (b : Bool) → (nat_lt e.who (m.seats s) && sound e.op) ≡ b
      → cond b (said_with e.who (corrected e.op) (answer_of_row (row_of_entry m s e))) None ≡ Some e
      → MayComeNext m s e
  next_in s e true d h =
      let k = and_parts _ _ d in
      let x = said_same e _ _ h in
      record { seat = ltb-true _ _ k.0; honest = honest_if e.op k.1 x.1; allowed = Allows-answer (row_of_entry m s e) _ x.0 }
  next_in s e false d h = absurd (cc)

  -- the law: a list is legal exactly where its replay is the list itself
  pub replay_if : (s : State) (L : List (Entry Op Reply)) → EachMayCome m s L → replay_rows m sound corrected s L ≡ L
  unfolding EachMayCome replay_rows
  replay_if s [] h = refl
  replay_if s (e ∷ es) h = λ i. put_entry (retold_if s e h.0 i) (replay_if (state_after m s e) es h.1 i)

  pub legal_if : (s : State) (L : List (Entry Op Reply)) → replay_rows m sound corrected s L ≡ L → EachMayCome m s L
  unfolding EachMayCome replay_rows
  legal_if s [] h = tt
  legal_if s (e ∷ es) h =
      let p = put_same (retold m sound corrected s e) e es (replay_rows m sound corrected (state_after m s e) es) h in
      (next_in s e _ refl p.0, legal_if (state_after m s e) es p.1)
