-- What a journal shows of one seat's turns.
use Rattle.workload_runs.proofs.Names.{◌≡◌, ℕ, zero, suc, ◌+◌, ◌<◌, Bool, true, false, not, cond, List, [], ◌∷◌, length, get_or, set, refl, sym, ◌∙◌, ap, subst, arith, ◌==◌, replicate, Terms, State, opening, NodeEntry, next, is_dropped, is_pending, counted, counts_next, no_counts, line_with, Turn}
use Rattle.std.proofs.Common.{◌≢◌}
use Rattle.std.proofs.Math.ListN.{length-set}
use Rattle.std.proofs.lemmas.Bool.Decides.{nat_tests}
use Rattle.std.proofs.lemmas.List.{get_or-set_same, get_or-set_other}
use Rattle.mtapi_machine.specs.Kept.{kept, skipped}
use Rattle.workload_runs.specs.Lines.{lines_of}
use Rattle.workload_runs.specs.Turns.{turns_of, lines_left}

same_seat : (a b : ℕ) → (a == b) ≡ true → a ≡ b
same_seat a b e = grind (arith, nat_tests)

other_seat : (a b : ℕ) → (a == b) ≡ false → b ≢ a
other_seat a b e f = grind (arith, nat_tests)

counted_length : (d p : Bool) (counts : List ℕ) (who : ℕ) → length (counted d p counts who) ≡ length counts
counted_length true true counts who = length-set counts who _
counted_length true false counts who = refl
counted_length false p counts who = length-set counts who 0

-- one entry more in front, dropped or not (d), answered Pending or not (p), by this seat or not (b)
one_more : (who : ℕ) (e : NodeEntry) (counts : List ℕ) (d p b : Bool) (T : List Turn) (K : List NodeEntry) (S : List ℕ) → who < length counts
    → (e.who == who) ≡ b → is_pending e.reply ≡ p
    → lines_of who K S ≡ lines_left (get_or (counted d p counts e.who) who 0) T
    → lines_of who (cond d K (e ∷ K)) (cond d S (get_or counts e.who 0 ∷ S))
    ≡ lines_left (get_or counts who 0) (cond b (record { op = e.op; reply = e.reply; stays = not d } ∷ T) T)
unfolding lines_of lines_left
one_more who e counts true true true T K S room is pend more =
    let here = same_seat e.who who is in
    more ∙ ap (λ n. lines_left n T) (ap (λ x. get_or (set counts x (get_or counts x 0 + 1)) who 0) here ∙ get_or-set_same counts who _ 0 room)
    ∙ (λ i. lines_left (cond (sym pend i) (get_or counts who 0 + 1) (get_or counts who 0)) T)
one_more who e counts true true false T K S room is pend more =
    more ∙ ap (λ n. lines_left n T) (get_or-set_other counts e.who who _ 0 (other_seat e.who who is))
one_more who e counts true false true T K S room is pend more = more ∙ (λ i. lines_left (cond (sym pend i) (get_or counts who 0 + 1) (get_or counts who 0)) T)
one_more who e counts true false false T K S room is pend more = more
one_more who e counts false p true T K S room is pend more =
    let here = same_seat e.who who is in
    let rest = more ∙ ap (λ n. lines_left n T) (ap (λ x. get_or (set counts x 0) who 0) here ∙ get_or-set_same counts who 0 0 room) in
    (λ i. cond (is i) (line_with e.op e.reply (get_or counts e.who 0) ∷ lines_of who K S) (lines_of who K S))
    ∙ (λ i. line_with e.op e.reply (get_or counts (here i) 0) ∷ rest i)
one_more who e counts false p false T K S room is pend more =
    (λ i. cond (is i) (line_with e.op e.reply (get_or counts e.who 0) ∷ lines_of who K S) (lines_of who K S)) ∙ more
    ∙ ap (λ n. lines_left n T) (get_or-set_other counts e.who who 0 0 (other_seat e.who who is))

-- the lines of a seat, from any state and any numbers on
pub lines_are_left : (who : ℕ) (s : State) (counts : List ℕ) (L : List NodeEntry) → who < length counts
    → lines_of who (kept s L) (skipped s counts L) ≡ lines_left (get_or counts who 0) (turns_of who s L)
unfolding turns_of kept skipped lines_of lines_left
lines_are_left who s counts [] room = refl
lines_are_left who s counts (e ∷ es) room =
    one_more who e counts (is_dropped s e) (is_pending e.reply) (e.who == who) _ _ _ room refl refl
    (lines_are_left who (next s e) (counts_next s counts e) es
    (subst (λ (x : ℕ). who < x) (sym (counted_length (is_dropped s e) (is_pending e.reply) counts e.who)) room))

zero_at : (k who : ℕ) → get_or (replicate k zero) who 0 ≡ 0
zero_at zero who = refl
zero_at (suc k) zero = refl
zero_at (suc k) (suc who) = zero_at k who

pub journal_lines : (terms : Terms) (L : List NodeEntry) (who : ℕ) → who < 25
    → lines_of who (kept (opening terms) L) (skipped (opening terms) no_counts L) ≡ lines_left 0 (turns_of who (opening terms) L)
journal_lines terms L who small = lines_are_left who (opening terms) no_counts L small
    ∙ ap (λ n. lines_left n (turns_of who (opening terms) L)) (zero_at 25 who)
