-- A table of worked lines is decided by computing: its replay is the history that it tells, and at each line the machine's own reply
-- differs from the wrong ones.
use Rattle.mtapi_machine.proofs.Names.{rules, not, ◌≡◌, ℕ, ◌≤◌, Bool, true, false, List, ◌∷◌, ◌++◌, Option, Some, None, refl, ◌∙◌, ap, arith, ◌&&◌, nat_tests, entry, Terms, Reply, State, opening, NodeEntry, IsNext, Fits, row_of, next, LegalFrom, after_from, Legal, answer_of_row, replay, TableLine, reported, NoneIsLegal, WrongIsIllegal, IsWorkedTable, node_of, []}
use Rattle.mtapi_machine.specs.contracts.replies.ReplyPartialEq.TheImpl as reply_eq
use Rattle.mtapi_machine.proofs.Equal.{reply_decides}
use Rattle.mtapi_machine.proofs.Replays.{answer-allowed, is_at_most, legal_if}
use Rattle.mtapi_machine.proofs.Lists.{Legal-rest, after-one}

-- the machine's own reply isn't this one
abbrev rejected : Option Reply → Reply → Bool
rejected None x = true
rejected (Some y) x = not (reply_eq.ghosts.eq y x)

same_reply : (r : Reply) → reply_eq.ghosts.eq r r ≡ true
same_reply r = (reply_decides r r).1 refl

rejected_next : (s : State) (e : NodeEntry) → rejected (answer_of_row (row_of s e)) e.reply ≡ true → IsNext s e → ⊥
rejected_next s e e1 e2 = grind (arith, nat_tests, answer-allowed, row_of, same_reply)

abbrev none_is_next : State → NodeEntry → List Reply → Bool
none_is_next s e [] = true
none_is_next s e (x ∷ xs) = rejected (answer_of_row (row_of s (entry e.who e.op x))) x && none_is_next s e xs

-- at each line the machine's own reply differs from the wrong ones
unfoldable pub wrong_differ : State → List TableLine → Bool
wrong_differ s [] = true
wrong_differ s (l ∷ ls) = none_is_next s l.entry l.wrong && wrong_differ (next s l.entry) ls

both_are : (a b : Bool) → (a && b) ≡ true → (a ≡ true) × (b ≡ true)
both_are a b e1 = grind (arith, nat_tests)

pub last_is_next : (terms : Terms) (before : List NodeEntry) (e : NodeEntry) → Legal terms (before ++ e ∷ []) → IsNext (after_from (opening terms) before) e
unfolding LegalFrom
last_is_next terms before e h = (Legal-rest (opening terms) before (e ∷ []) h.from).0

none_if : (terms : Terms) (before : List NodeEntry) (e : NodeEntry) (xs : List Reply) → none_is_next (after_from (opening terms) before) e xs ≡ true
    → NoneIsLegal terms before e xs
none_if terms before e [] h = tt
none_if terms before e (x ∷ xs) h =
    let p = both_are _ _ h in
    (λ k. rejected_next _ (entry e.who e.op x) p.0 (last_is_next terms before _ k), none_if terms before e xs p.1)

wrong_from : (terms : Terms) (before : List NodeEntry) (table : List TableLine) → wrong_differ (after_from (opening terms) before) table ≡ true
    → WrongIsIllegal terms before table
unfolding wrong_differ
wrong_from terms before [] h = tt
wrong_from terms before (l ∷ ls) h =
    let p = both_are _ _ h in (
      none_if terms before l.entry l.wrong p.0,
      wrong_from terms (before ++ l.entry ∷ []) ls (ap (λ s. wrong_differ s ls) (after-one (opening terms) before l.entry) ∙ p.1),
    )

pub works_if : (terms : Terms) (table : List TableLine) → Fits terms → replay (opening terms) (reported table) ≡ reported table
    → wrong_differ (opening terms) table ≡ true → IsWorkedTable terms table
unfolding after_from
works_if terms table f h k = record { legal = record { fits = f; from = legal_if _ _ h }; wrong = wrong_from terms [] table k }

-- by these each table works that computes
pub ruleset worked = (rules, works_if, is_at_most)

-- the terms of the tables
pub fits_of : (workers tasks others : ℕ) → 1 ≤ workers → workers ≤ 16 → 1 ≤ tasks → tasks ≤ 1024 → 1 ≤ others → others ≤ 256
    → Fits (node_of workers tasks others)
fits_of workers tasks others e1 e2 e3 e4 e5 e6 = grind (arith, nat_tests)
