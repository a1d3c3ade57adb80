-- What bounds a history: its seats, the marks of stopped workers, and the phase before the node is closed.
use Rattle.history_law.proofs.Names.{◌≡◌, ℕ, true, false, List, [], ◌∷◌, refl, ◌∙◌, ap, entry, Op, Initialize, Close, Final, Reply, Open, Terms, State, opening, seats, is_new, is_past_open, Move, phase_is, stops, apply, after_moves, NodeEntry, IsNext, LegalFrom, next, after_from, after, rest_keeps, closes, NoClose, BySeats, cond_both, not, length, nat_tests, arith}
use Rattle.std.proofs.Math.ListN.{length-set}
use Rattle.history_law.proofs.SeatMoves.{May, by_moves}
use Rattle.history_law.proofs.Others.{phase_stays, terms_stay}
use Rattle.history_law.proofs.Answered.{true_false}

-- The marks of stopped workers

room_move : (who : ℕ) (o : Op) (s : State) (x : Move) → May s who o x → length s.stopped ≡ 25 → length (apply x s).stopped ≡ 25
room_move who o s (stops y) k v = length-set s.stopped y true ∙ v
room_move who o s x k v = rest_keeps (λ t. length t.stopped ≡ 25) (λ t g q m c r y p. p) x s v

room_stays : (s : State) (L : List NodeEntry) → LegalFrom s L → length s.stopped ≡ 25 → length (after_from s L).stopped ≡ 25
unfolding LegalFrom after_from
room_stays s [] l v = v
room_stays s (e ∷ es) l v = room_stays (next s e) es l.1 (by_moves (λ t. length t.stopped ≡ 25) s e l.0 (room_move e.who e.op) v)

pub stopped_room : (terms : Terms) (L : List NodeEntry) → LegalFrom (opening terms) L → length (after terms L).stopped ≡ 25
stopped_room terms L l = room_stays (opening terms) L l refl

-- The phase

early_next : (s : State) (who : ℕ) (o : Op) (r : Reply) → IsNext s (entry who o r) → closes o ≡ false → is_past_open s.phase ≡ false
    → is_past_open (next s (entry who o r)).phase ≡ false
unfolding LegalFrom after_from
early_next s who Initialize r n c l = cond_both (not (is_new s.phase)) [] (phase_is Open ∷ []) (λ q. is_past_open (after_moves q s).phase
    ≡ false) (λ e. l) (λ e. refl)
early_next s who Close r n c l = true_false refl c
early_next s who Final r n c l = true_false refl c
early_next s who o r n c l = ap is_past_open (phase_stays s (entry who o r ∷ []) (n, tt) (refl, tt)) ∙ l

pub early_stays : (s : State) (L : List NodeEntry) → LegalFrom s L → NoClose L → is_past_open s.phase ≡ false → is_past_open (after_from s L).phase ≡ false
unfolding LegalFrom after_from
early_stays s [] l n v = v
early_stays s (e ∷ es) l n v = early_stays (next s e) es l.1 n.1 (early_next s e.who e.op e.reply l.0 n.0 v)

-- The seats

one_terms : (s : State) (e : NodeEntry) → IsNext s e → (next s e).terms ≡ s.terms
unfolding LegalFrom after_from
one_terms s e n = terms_stay s (e ∷ []) (n, tt)

pub by_seats : (s : State) (L : List NodeEntry) → LegalFrom s L → BySeats (seats s) L
unfolding LegalFrom
by_seats s [] l = tt
by_seats s (e ∷ es) l = grind (arith, nat_tests, one_terms s e l.0, by_seats (next s e) es l.1)
