-- A line that was written is read as the same entry.
use Rattle.std.proofs.lemmas.Bool.Decides.{nat_tests}
use Rattle.journal_text.proofs.Names.{◌≡◌, ℕ, ◌+◌, ◌-◌, ◌<◌, ◌^◌, List, [], ◌∷◌, ◌++◌, true, cond, eqb, Some, refl, ap, ◌∙◌, arith, inl, inr, codes, nat_lt, drop, AllByRecursion, list_all, join_with_byte, bytes_eq, decimal, and_from, cases_Bool, lt-ltb, ltb-false, bytes_eq-Decides, Layout, NodeEntry, IsHonest, Op, Reply, number_within, number_written, within_written, Head, values_words, values_onto, op_row, op_spelled, op_of, reply_row, reply_spelled, reply_of, seat_text, op_texts, reply_texts, skipped_texts, entry_texts, entry_text, seat_of, op_from, reply_from, skipped_from, entry_by, entry_from, has_words, is_seated, if_spelled, entry_of_line, ValueFits, EntryFits, HeadFits}
use Rattle.number_text.specs.Lists.{◌>>=◌}
use Rattle.journal_text.proofs.OpsAgain.{op_word_again, op_shapes, op_again, reply_word_again, reply_shapes, reply_again}
use Rattle.journal_text.proofs.ValuesAgain.{values_again}
use Rattle.journal_text.proofs.Plain.{is_plain, is_above, all_append, between_words, joined_above, decimal_plain, op_plain, reply_plain, values_plain}

pub bytes_same : (a : List ℕ) → bytes_eq a a ≡ true
bytes_same a = (bytes_eq-Decides a a).1 refl

-- ---- parts

led_seat : (head : Head) (b : ℕ) (bs : List ℕ) (n : ℕ) → number_within 0 255 bs ≡ Some n
    → seat_of head (b ∷ bs) ≡ Some (cond (eqb b 119) n (head.settings.workers + n))
unfolding seat_of
led_seat head b bs n e = rw e refl

seat_again : (head : Head) (who : ℕ) → HeadFits head → who < head.settings.workers + head.callers
    → seat_of head (seat_text head.settings.workers who) ≡ Some who
seat_again head who f lt =
    let workers = f.settings.workers.1 in
    elim (cases_Bool (nat_lt who head.settings.workers)) [
      | inl t ↦ rw t (led_seat head 119 (decimal who) who
          (within_written 0 255 who (omega (arith, f.few, workers)) (omega arith) (omega (arith, f.few, workers))))
      | inr t ↦
          let above = ltb-false who head.settings.workers t in
          let n = who - head.settings.workers in
          let back : head.settings.workers + (who - head.settings.workers) ≡ who = omega arith in
          rw t (led_seat head 99 (decimal n) n (within_written 0 255 n (omega (arith, f.few, workers)) (omega arith) (omega (arith, f.few, workers)))
          ∙ ap Some back)
    ]

op_from_again : (l : Layout) (o : Op) (ws : List (List ℕ)) → IsHonest o → AllByRecursion ValueFits (op_spelled o).1
    → op_from (op_texts l o ++ ws) ≡ Some (o, ws)
unfolding op_from
op_from_again l o ws e1 e2 = grind (arith, nat_tests, op_spelled, values_onto, op_row, values_words, op_of, op_word_again, op_shapes, values_again, op_again)

reply_from_again : (l : Layout) (r : Reply) (ws : List (List ℕ)) → AllByRecursion ValueFits (reply_spelled r).1
    → reply_from (reply_texts l r ++ ws) ≡ Some (r, ws)
unfolding reply_from
reply_from_again l r ws e1 = grind (arith, nat_tests, reply_word_again, reply_shapes, values_again, reply_again)

skipped_again : (n : ℕ) → n < 2 ^ 64 → skipped_from (skipped_texts n) ≡ Some n
unfolding skipped_from
skipped_again n e1 = grind (arith, nat_tests, nat_lt, number_written, ltb-false)

-- ---- entries

entry_from_again : (head : Head) (e : NodeEntry) (n : ℕ) → HeadFits head → EntryFits head e n
    → entry_from head (seat_text head.settings.workers e.who ∷ entry_texts head.layout e n) ≡ Some (e, n)
unfolding entry_from entry_by
entry_from_again head e n e1 e2 = grind (arith, nat_tests, seat_again, op_from_again, reply_from_again, skipped_again)

seat_plain : (workers who : ℕ) → who < 2 ^ 64 → is_plain (seat_text workers who) ≡ true
seat_plain workers who e1 = grind (arith, nat_tests, nat_lt, decimal_plain)

skipped_plain : (n : ℕ) → n < 2 ^ 64 → list_all is_plain (skipped_texts n) ≡ true
skipped_plain n e1 = grind (arith, nat_tests, nat_lt, and_from, decimal_plain)

entry_plain : (head : Head) (e : NodeEntry) (n : ℕ) → HeadFits head → EntryFits head e n
    → list_all is_plain (seat_text head.settings.workers e.who ∷ entry_texts head.layout e n) ≡ true
entry_plain head e n e1 e2 = grind (arith, nat_tests, all_append, and_from, reply_plain, values_plain, skipped_plain, op_plain, seat_plain)

if_spelled_again : (head : Head) (line : List ℕ) (e : NodeEntry) (n : ℕ) → has_words head.layout e ≡ true → is_seated head e ≡ true → entry_text head e n ≡ line
    → if_spelled head line (e, n) ≡ Some (e, n)
if_spelled_again head line e n a b same = rw (a, b, same, bytes_same line) refl

pub entry_again : (head : Head) (e : NodeEntry) (n : ℕ) → HeadFits head → EntryFits head e n → entry_of_line head (entry_text head e n) ≡ Some (e, n)
unfolding entry_of_line entry_text
entry_again head e n g f =
    let seat = seat_text head.settings.workers e.who in
    let ws = entry_texts head.layout e n in
    let line = join_with_byte 32 (seat ∷ ws) in
    ap (λ t. entry_from head t >>= if_spelled head line) (between_words seat ws (entry_plain head e n g f))
    ∙ ap (λ r. r >>= if_spelled head line) (entry_from_again head e n g f)
    ∙ if_spelled_again head line e n f.place.words (lt-ltb e.who _ f.place.seat) refl

-- a line has no line feed
pub entry_above : (head : Head) (e : NodeEntry) (n : ℕ) → HeadFits head → EntryFits head e n → is_above 10 (entry_text head e n) ≡ true
unfolding entry_text
entry_above head e n g f = joined_above (seat_text head.settings.workers e.who ∷ entry_texts head.layout e n) (entry_plain head e n g f)
