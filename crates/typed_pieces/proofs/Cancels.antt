-- A cancel that the node carried out is the last call of its seat.
use Rattle.typed_pieces.proofs.Names.{◌≡◌, ℕ, [], ◌∷◌, ◌++◌, Result, Ok, Err, inl, inr, ap, sym, ◌∙◌, arith, nat_tests, entry, TaskHandle, MtapiStatus, Reply, AnswersReply, Called, done, mtapi_standard, Seat}
use Rattle.mtapi_machine.specs.declared.ops.Op.TheVariants.{TaskCancel}
use Rattle.mtapi_machine.specs.declared.replies.Reply.TheVariants as reply
use Rattle.typed_pieces.specs.Cancels.{HasCancelled}

-- the reply from which it is read that a call was carried out
pub read_done : (r : Reply) (u : Unit {0}) → AnswersReply mtapi_standard done r (Ok u) → r ≡ reply.Ok
read_done r u e1 = grind (arith, nat_tests)

pub has_cancelled : (task : TaskHandle) (old new : Seat) (x : Result (Unit {0}) MtapiStatus) (u : Unit {0})
    → Called mtapi_standard done (TaskCancel task) old new x → x ≡ Ok u → HasCancelled task new
has_cancelled task old new (Ok v) u (inl c) is = record {
  before = old.mine;
  last =
      c.1.mine
      ∙ (ap (λ (r : Reply). old.mine ++ entry old.number (TaskCancel task) r ∷ []) (read_done c.0 v c.2)
      ∙ ap (λ (n : ℕ). old.mine ++ entry n (TaskCancel task) reply.Ok ∷ []) (sym c.1.same.number));
}
has_cancelled task old new (Ok v) u (inr c) is = absurd (cc)
has_cancelled task old new (Err e) u c is = absurd (cc)
