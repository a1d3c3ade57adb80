-- A list is legal exactly where it has no first illegal entry.
use Rattle.mtapi_renaming.proofs.Names.{◌≡◌, ℕ, suc, ◌+◌, ◌≤◌, ◌<◌, Bool, true, false, cond, List, [], ◌∷◌, length, take, Option, Some, None, refl, subst, arith, nat_lt, nat_le, Decides, nat_tests, is_pure, answer_of, Terms, Op, Finish, Reply, State, opening, seats, Row, unless, gives, never, Allows, NodeEntry, IsHonest, row_of, IsNext, next, LegalFrom, answer_of_row, is_honest, is_answer, may_come, first_illegal, IsDecided}
use Rattle.std.specs.Prelude.{option_map}
use Rattle.mtapi_machine.specs.Legal.{Fits}
use Rattle.mtapi_machine.proofs.Derived.{both_decide, decides_so}
use Rattle.mtapi_renaming.proofs.Equality.{act_decides, reply_decides}

lt_decides : (a b : ℕ) → Decides (nat_lt a b) (a < b)
lt_decides a b = (λ i. grind (arith, nat_tests), λ i. grind (arith, nat_tests))

le_decides : (a b : ℕ) → Decides (nat_le a b) (a ≤ b)
le_decides a b = (λ i. grind (arith, nat_tests), λ i. grind (arith, nat_tests))

true_decides : (b : Bool) → Decides b (b ≡ true)
true_decides b = (λ i. i, λ i. i)

honest_decides : (o : Op) → Decides (is_honest o) (IsHonest o)
honest_decides (Finish t d) =
    decides_so (is_honest (Finish t d)) (λ e. record { pure = e.0.0; few = e.0.1; answer = e.1 }) (λ h. ((h.pure, h.few), h.answer))
    (both_decide _ _ (both_decide (is_pure d.kind) (nat_le (length d.args) 16) (true_decides (is_pure d.kind)) (le_decides (length d.args) 16))
    (act_decides d.end (answer_of d.kind d.args)))
honest_decides o = (λ i. tt, λ i. refl)

answer_decides : (w : Row) (r : Reply) → Decides (is_answer (answer_of_row w) r) (Allows w r)
answer_decides (unless true x w) r = reply_decides r x
answer_decides (unless false x w) r = answer_decides w r
answer_decides (gives x ms) r = reply_decides r x
answer_decides never r = (λ i. absurd (cc), λ i. absurd i)

come_decides : (s : State) (e : NodeEntry) → Decides (may_come s e) (IsNext s e)
come_decides s e =
    decides_so (may_come s e) (λ i. record { seat = i.0.0; honest = i.0.1; allowed = i.1 }) (λ n. ((n.seat, n.honest), n.allowed))
    (both_decide _ _ (both_decide (nat_lt e.who (seats s)) (is_honest e.op) (lt_decides e.who (seats s)) (honest_decides e.op))
    (answer_decides (row_of s e) e.reply))

legal_none : (s : State) (L : List NodeEntry) → LegalFrom s L → first_illegal s L ≡ None
unfolding LegalFrom first_illegal
legal_none s [] l = refl
legal_none s (e ∷ es) l = λ i. cond ((come_decides s e).1 l.0 i) (option_map (λ n. n + 1) (legal_none (next s e) es l.1 i)) (Some 1)

none_legal : (s : State) (L : List NodeEntry) → first_illegal s L ≡ None → LegalFrom s L
unfolding LegalFrom first_illegal
none_legal s [] i = tt
none_legal s (e ∷ es) i = elim (may_come s e) as (λ b. may_come s e ≡ b → IsNext s e × LegalFrom (next s e) es) [
  | true ↦
      λ d. ((come_decides s e).0 d, none_legal (next s e) es (grind (arith, i, d)))
  | false ↦ λ d. absurd (grind (arith, i, d))
] refl

-- n is the least number such that the first n entries aren't legal from this state on
record IsLeast (s : State) (L : List NodeEntry) (n : ℕ) : Type 0 where
  some : 1 ≤ n
  within : n ≤ length L
  before : (m : ℕ) → m < n → LegalFrom s (take m L)
  illegal : LegalFrom s (take n L) → ⊥

-- the first entry may not come
first_bad : (s : State) (e : NodeEntry) (es : List NodeEntry) → may_come s e ≡ false → IsLeast s (e ∷ es) 1
unfolding LegalFrom
first_bad s e es i = grind (arith, nat_tests, come_decides)

-- it may, and a later one is the first that may not
later_bad : (s : State) (e : NodeEntry) (es : List NodeEntry) (n : ℕ) → may_come s e ≡ true → IsLeast (next s e) es n → IsLeast s (e ∷ es) (suc n)
unfolding LegalFrom
later_bad s e es n i j = grind (arith, nat_tests, come_decides)

least : (s : State) (L : List NodeEntry) (n : ℕ) → first_illegal s L ≡ Some n → IsLeast s L n
unfolding first_illegal
least s [] n i = absurd (cc)
least s (e ∷ es) n i = by_test (λ m f. least (next s e) es m f) (may_come s e) refl i
  where
    by_rest : ((m : ℕ) → first_illegal (next s e) es ≡ Some m → IsLeast (next s e) es m) → (o : Option ℕ) → first_illegal (next s e) es ≡ o
        → may_come s e ≡ true → option_map (λ m. m + 1) o ≡ Some n → IsLeast s (e ∷ es) n
    by_rest more None f d j = absurd (cc)
    by_rest more (Some m) f d j = let k : m + 1 ≡ n = cc in let same : suc m ≡ n = omega (arith, k) in
        subst (λ (x : ℕ). IsLeast s (e ∷ es) x) same (later_bad s e es m d (more m f))

    by_test : ((m : ℕ) → first_illegal (next s e) es ≡ Some m → IsLeast (next s e) es m) → (b : Bool) → may_come s e ≡ b
        → cond b (option_map (λ m. m + 1) (first_illegal (next s e) es)) (Some 1) ≡ Some n → IsLeast s (e ∷ es) n
    by_test more true d j = by_rest more (first_illegal (next s e) es) refl d j
    by_test more false d j = let k : 1 ≡ n = cc in subst (λ (x : ℕ). IsLeast s (e ∷ es) x) k (first_bad s e es d)

pub judged : (terms : Terms) (L : List NodeEntry) → Fits terms → IsDecided terms L
judged terms L fits = record {
  legal = (λ l. legal_none (opening terms) L l.from, λ i. record { fits = fits; from = none_legal (opening terms) L i });
  illegal = λ n i. let l = least (opening terms) L n i in record {
    some = l.some;
    within = l.within;
    before = λ m k. record { fits = fits; from = l.before m k };
    illegal = λ h. l.illegal h.from;
  };
}
