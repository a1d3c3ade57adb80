-- The state in which a seat made a turn.
use Rattle.workload_runners.proofs.Names.{[], ◌++◌, ◌∷◌, IsNext, Legal-rest, LegalFrom, List, NodeEntry, Op, Reply, Seat, State, NodeTurned, after, entry, opening, subst}

first_legal : (s : State) (e : NodeEntry) → LegalFrom s (e ∷ []) → IsNext s e
unfolding LegalFrom
first_legal s e h = h.0

-- the state in which the turn was made
abbrev pub state_at : (old new : Seat) (o : Op) (r : Reply) → NodeTurned old o r new → State
state_at old new o r t = after new.terms.node (old.seen ++ t.between)

pub turned_next : (old new : Seat) (o : Op) (r : Reply) (t : NodeTurned old o r new) → IsNext (state_at old new o r t) (entry old.number o r)
turned_next old new o r t =
    first_legal _ _ (Legal-rest (opening new.terms.node) (old.seen ++ t.between) (entry old.number o r
    ∷ []) (subst (λ (l : List NodeEntry). LegalFrom (opening new.terms.node) l) t.seen t.legal.from))
