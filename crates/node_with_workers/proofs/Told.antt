-- What the calls of one seat add up to, for the promise of a client.
use Rattle.node_with_workers.proofs.Names.{nat_tests, ◌≡◌, ℕ, List, [], ◌∷◌, ◌++◌, Result, Ok, Err, inl, inr, refl, sym, ◌∙◌, ap, subst, append_assoc, arith, append-nil, entry, MtapiStatus, Op, Reply, NodeEntry, Seat, SameNodeSeat, AnswersReply, Called, with_handle_number, mtapi_standard, handle_told}
use Rattle.mtapi_machine.specs.declared.replies.Reply.TheVariants as reply
use Rattle.node_with_workers.specs.Told.{CallsInOrder, WentOn}

-- Entries in order

pub in_order_behind : (xs before es : List NodeEntry) → CallsInOrder xs es → CallsInOrder xs (before ++ es)
in_order_behind [] before es o = tt
in_order_behind (x ∷ xs) before es o = (before ++ o.0, o.1, ap (λ (l : List NodeEntry). before ++ l) o.2 ∙ sym (append_assoc before o.0 (x ∷ o.1)), o.3)

pub in_order_then : (xs ys es fs : List NodeEntry) → CallsInOrder xs es → CallsInOrder ys fs → CallsInOrder (xs ++ ys) (es ++ fs)
in_order_then [] ys es fs o p = in_order_behind ys es fs p
in_order_then (x ∷ xs) ys es fs o p = (
  o.0,
  o.1 ++ fs,
  ap (λ (l : List NodeEntry). l ++ fs) o.2
      ∙ append_assoc o.0 (x ∷ o.1) fs,
  in_order_then xs ys o.1 fs o.3 p,
)

pub in_order_alone : (x : NodeEntry) → CallsInOrder (x ∷ []) (x ∷ [])
in_order_alone x = ([], [], refl, tt)

-- Further calls

pub went_nowhere : (old new : Seat) → SameNodeSeat old new → new.mine ≡ old.mine → WentOn [] old new
went_nowhere old new s m = record { same = s; more = []; mine = m ∙ sym (append-nil old.mine); asked = tt }

pub went_then : (xs ys : List NodeEntry) (a b c : Seat) → WentOn xs a b → WentOn ys b c → WentOn (xs ++ ys) a c
went_then xs ys a b c x y = record {
  same = record { cell = y.same.cell ∙ x.same.cell; number = y.same.number ∙ x.same.number; terms = y.same.terms ∙ x.same.terms };
  more = x.more ++ y.more;
  mine = y.mine ∙ (ap (λ (es : List NodeEntry). es ++ y.more) x.mine ∙ append_assoc a.mine x.more y.more);
  asked = in_order_then xs ys x.more y.more x.asked y.asked;
}

-- What was answered

-- the reply from which this answer is read
read_handle : (r : Reply) (h : ℕ) → AnswersReply mtapi_standard handle_told r (Ok h) → r ≡ reply.Handle h
read_handle r h e1 = grind (arith, nat_tests)

-- a call that made one turn and was told this
told_once : (o : Op) (old new : Seat) (r s : Reply) (same : SameNodeSeat old new) → new.mine ≡ old.mine ++ entry old.number o r ∷ [] → r ≡ s
    → WentOn (entry old.number o s ∷ []) old new
told_once o old new r s same m is = record {
  same = same;
  more = entry old.number o s ∷ [];
  mine = m ∙ ap (λ (x : Reply). old.mine ++ entry old.number o x ∷ []) is;
  asked = in_order_alone (entry old.number o s);
}

pub made_told : (o : Op) (old new : Seat) (x : Result ℕ MtapiStatus) (h : ℕ) → Called mtapi_standard handle_told o old new x → x ≡ Ok h
    → WentOn (entry old.number o (reply.Handle h) ∷ []) old new
made_told o old new (Ok k) h (inl c) is = told_once o old new c.0 (reply.Handle h) c.1.same c.1.mine (read_handle c.0 k c.2 ∙ cc)
made_told o old new (Ok k) h (inr c) is = absurd (cc)
made_told o old new (Err e) h c is = absurd (cc)

-- a call that gave this handle, by an op that is this one
pub given_told : {H : Type 0} (number : H → ℕ) (o p : Op) (old new : Seat) (x : Result H MtapiStatus) (h : H)
    → o ≡ p → Called mtapi_standard handle_told o old new (with_handle_number number x) → x ≡ Ok h
    → WentOn (entry old.number p (reply.Handle (number h)) ∷ []) old new
given_told number o p old new x h same called is =
    made_told p old new (with_handle_number number x) (number h)
    (subst (λ (q : Op). Called mtapi_standard handle_told q old new (with_handle_number number x)) same called)
    (ap (with_handle_number number) is)

-- One more call behind others, each with the number of the first seat

pub went_none : (a : Seat) → WentOn [] a a
went_none a = went_nowhere a a (record { cell = refl; number = refl; terms = refl }) refl

one_more : (xs : List NodeEntry) (o : Op) (r : Reply) (a b c : Seat) → WentOn xs a b → WentOn (entry b.number o r ∷ []) b c
    → WentOn (xs ++ entry a.number o r ∷ []) a c
one_more xs o r a b c x y = went_then xs (entry a.number o r ∷ []) a b c x (subst (λ (n : ℕ). WentOn (entry n o r ∷ []) b c) x.same.number y)

pub then_given : {H : Type 0} (number : H → ℕ) (xs : List NodeEntry) (o : Op) (a b c : Seat) (x : Result H MtapiStatus) (h : H)
    → WentOn xs a b → Called mtapi_standard handle_told o b c (with_handle_number number x) → x ≡ Ok h
    → WentOn (xs ++ entry a.number o (reply.Handle (number h)) ∷ []) a c
then_given number xs o a b c x h w called is = one_more xs o (reply.Handle (number h)) a b c w (given_told number o o b c x h refl called is)
