-- What an Ok `enter` and an Ok `final` stand behind.
use Rattle.history_law.proofs.Names.{◌≡◌, ℕ, zero, suc, ◌<◌, Bool, true, false, List, [], ◌∷◌, ◌++◌, refl, ◌∙◌, ap, arith, ◌==◌, ◌&&◌, not, MatchBool, true_from_ne_false, nat_tests, marked, all_marked, entry, Terms, Op, Reply, Ok, Pending, Mtapi, State, opening, workers, is_past_open, Move, stops, apply, Allows, after_row, row, IsMade, is_pick, NodeEntry, IsNext, next, LegalFrom, Legal, after_from, after, Legal-front, fst_true, snd_true, rest_keeps, some_entry, is_release_op, says_ok, says_stop, is_released, is_stop_of}
use Rattle.history_law.proofs.Others.{release_move}
use Rattle.history_law.proofs.lists.Slots.{set_apart, read_replicate}
use Rattle.mtapi_values.specs.declared.statuses.MtapiStatus.TheVariants as m
use Rattle.mtapi_machine.specs.declared.ops.Op.TheVariants as op
use Rattle.mtapi_machine.proofs.Moves.{by_moves as made_moves}
use Rattle.history_law.proofs.Answered.{true_false, whether, on_test}
use Rattle.history_law.proofs.Accepted.{stands_after, final_marked}
use Rattle.history_law.proofs.SeatMoves.{May, by_moves, kept_without}
use Rattle.history_law.proofs.lists.Objects.{cut_from}

-- Release

enter_reads : (a b : Bool) (X : Type 0) → MatchBool a (Ok ≡ Mtapi m.ErrNodeNotinit) (MatchBool (not b) (Ok ≡ Pending) X) → b ≡ true
enter_reads a b X e1 = grind (arith, nat_tests)

row_release : (s : State) (who : ℕ) (o : Op) (r : Reply) → is_release_op o ≡ true → says_ok r ≡ false → Allows (row s who o r) r
    → (after_row s (row s who o r)).released ≡ s.released
row_release s who o r e1 e2 e3 = grind (arith, nat_tests)

next_released : (s : State) (e : NodeEntry) → IsNext s e → is_released e ≡ false → (next s e).released ≡ s.released
next_released s e n i = on_test (λ b. (b && says_ok e.reply) ≡ false → (next s e).released ≡ s.released) (is_release_op e.op)
    (λ j k. row_release s e.who e.op e.reply j k n.allowed)
    (λ j k. by_moves (λ t. t.released ≡ s.released) s e n (λ t x y z. release_move e.who e.op j s t x y z) refl) i

unreleased : (s : State) (L : List NodeEntry) → LegalFrom s L → some_entry is_released L ≡ false → (after_from s L).released ≡ s.released
unreleased s L l n = kept_without is_released (λ t. t.released ≡ s.released) (λ t e i m v. next_released t e i m ∙ v) s L l n refl

pub enter_behind : (terms : Terms) (A B : List NodeEntry) (who : ℕ) → Legal terms (A ++ entry who op.Enter Ok ∷ B) → some_entry is_released A ≡ true
enter_behind terms A B who l = true_from_ne_false (some_entry is_released A) (λ i.
    let n : IsNext (after terms A) (entry who op.Enter Ok) = cut_from (opening terms) A B (entry who op.Enter Ok) l.from in
    let r : (after terms A).released ≡ true = enter_reads (is_past_open (after terms A).phase) (after terms A).released _ n.allowed in
    let u : (after terms A).released ≡ false = unreleased (opening terms) A (Legal-front (opening terms) A (entry who op.Enter Ok ∷ B) l.from) i in
    true_false r u)

-- Stops

other_stops : (o : Op) (s : State) (who w : ℕ) (v : Bool) (x : Move) → (who == w) ≡ false → May s who o x → marked w s.stopped ≡ v
    → marked w (apply x s).stopped ≡ v
other_stops o s who w v (stops y) n k e = set_apart s.stopped y w true false (ap (λ (i : ℕ). i == w) k ∙ n) ∙ e
other_stops o s who w v x n k e = rest_keeps (λ t. marked w t.stopped ≡ v) (λ t g q m c r y p. p) x s e

no_pick : (o : Op) (s : State) (w : ℕ) (v : Bool) (x : Move) → is_pick o ≡ false → IsMade s o x → marked w s.stopped ≡ v → marked w (apply x s).stopped ≡ v
no_pick o s w v (stops y) n k e = true_false k.by n
no_pick o s w v x n k e = rest_keeps (λ t. marked w t.stopped ≡ v) (λ t g q m c r y p. p) x s e

row_stops : (s : State) (w who : ℕ) (o : Op) (r : Reply) → is_pick o ≡ true → says_stop r ≡ false → Allows (row s who o r) r
    → marked w (after_row s (row s who o r)).stopped ≡ marked w s.stopped
row_stops s w who o r e1 e2 e3 = grind (arith, nat_tests)

next_stops : (s : State) (e : NodeEntry) (w : ℕ) → IsNext s e → is_stop_of w e ≡ false → marked w (next s e).stopped ≡ marked w s.stopped
next_stops s e w n i = on_test (λ b. (b && says_stop e.reply) ≡ false → marked w (next s e).stopped ≡ marked w s.stopped) (e.who == w)
    (λ j k. whether (is_pick e.op) (λ j. row_stops s w e.who e.op e.reply j k n.allowed)
    (λ j. made_moves (λ t. marked w t.stopped ≡ marked w s.stopped) s e (λ t x y z. no_pick e.op t w (marked w s.stopped) x j y z) refl))
    (λ j k. by_moves (λ t. marked w t.stopped ≡ marked w s.stopped) s e n (λ t x y z. other_stops e.op t e.who w (marked w s.stopped) x j y z) refl) i

unstopped : (s : State) (L : List NodeEntry) (w : ℕ) → LegalFrom s L → some_entry (is_stop_of w) L ≡ false
    → marked w (after_from s L).stopped ≡ marked w s.stopped
unstopped s L w l n = kept_without (is_stop_of w) (λ t. marked w t.stopped ≡ marked w s.stopped) (λ t e i m v. next_stops t e w i m ∙ v) s L l n refl

each_marked : (n w : ℕ) (l : List Bool) → all_marked n l ≡ true → w < n → marked w l ≡ true
each_marked zero w l e i = absurd (omega arith)
each_marked (suc n) w [] e i = absurd (cc)
each_marked (suc n) zero (b ∷ bs) e i = fst_true b _ e
each_marked (suc n) (suc w) (b ∷ bs) e i = each_marked n w bs (snd_true b _ e) (omega arith)

pub final_behind : (terms : Terms) (A B : List NodeEntry) (who w : ℕ) → Legal terms (A ++ entry who op.Final Ok ∷ B) → w < terms.settings.workers
    → some_entry (is_stop_of w) A ≡ true
final_behind terms A B who w l less = true_from_ne_false (some_entry (is_stop_of w) A) (λ i.
    let n : IsNext (after terms A) (entry who op.Final Ok) = cut_from (opening terms) A B (entry who op.Final Ok) l.from in
    let same : workers (after terms A) ≡ terms.settings.workers = ap (λ (t : Terms). t.settings.workers) (stands_after terms A).0 in
    let r : marked w (after terms A).stopped ≡ true =
    each_marked (workers (after terms A)) w (after terms A).stopped (final_marked (after terms A) who n) (omega arith) in
    let u : marked w (after terms A).stopped ≡ false =
    unstopped (opening terms) A w (Legal-front (opening terms) A (entry who op.Final Ok ∷ B) l.from) i ∙ read_replicate 25 w false in
    true_false r u)
