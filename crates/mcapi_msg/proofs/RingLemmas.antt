-- What the rings of an endpoint say of the messages that wait there.
use Rattle.mcapi_msg.proofs.Names.{◌≡◌, ℕ, zero, suc, ◌+◌, ◌<◌, ◌≤◌, Bool, true, false, cond, List, [], ◌∷◌, ◌++◌, length, Option, Some, None, refl, sym, ap, subst, ◌∙◌, arith, ◌==◌, nat_lt, eq-eqb, nat_tests, Waiting, sooner, next_of, without_message, of_priority, RingTable, messages_in, with_last_message, first_in, without_front, rings_of, HavePriorities, same_Some}

-- a message more at the end, and at the front
abbrev with_behind : Bool → Waiting → List Waiting → List Waiting
with_behind b w l = cond b (l ++ w ∷ []) l

abbrev with_ahead : Bool → Waiting → List Waiting → List Waiting
with_ahead b w l = cond b (w ∷ l) l

-- one message more
pub of-more : (p : ℕ) (w : Waiting) (ws : List Waiting) → of_priority p (ws ++ w ∷ []) ≡ cond (w.priority == p) (of_priority p ws ++ w ∷ []) (of_priority p ws)
of-more p w [] = refl
of-more p w (x ∷ ws) = pick (x.priority == p) (w.priority == p) (of-more p w ws)
  where
    pick : (b c : Bool) → of_priority p (ws ++ w ∷ []) ≡ cond c (of_priority p ws ++ w ∷ []) (of_priority p ws)
        → cond b (x ∷ of_priority p (ws ++ w ∷ [])) (of_priority p (ws ++ w ∷ []))
        ≡ cond c (cond b (x ∷ of_priority p ws) (of_priority p ws) ++ w ∷ []) (cond b (x ∷ of_priority p ws) (of_priority p ws))
    pick true true e = ap (λ (l : List Waiting). x ∷ l) e
    pick true false e = ap (λ (l : List Waiting). x ∷ l) e
    pick false true e = e
    pick false false e = e

pub rings-more : (limit : ℕ) (w : Waiting) (ws : List Waiting) → w.priority < 4 → rings_of limit (ws ++ w ∷ []) ≡ with_last_message w (rings_of limit ws)
rings-more limit w ws e1 = grind (arith, nat_tests, of-more, of_priority, rings_of)

-- how many wait
pub count-rings : (limit : ℕ) (ws : List Waiting) → HavePriorities ws → messages_in (rings_of limit ws) ≡ length ws
count-rings limit [] r = refl
count-rings limit (w ∷ ws) r = pick (w.priority == 0) (w.priority == 1) (w.priority == 2) (w.priority == 3) refl refl refl refl (count-rings limit ws r.1)
  where
    none : (n : ℕ) → n < 4 → (n == 0) ≡ false → (n == 1) ≡ false → (n == 2) ≡ false → (n == 3) ≡ false → ⊥
    none n small a b c d = grind (arith, nat_tests)

    two : (n p q : ℕ) → (n == p) ≡ true → (n == q) ≡ true → (p == q) ≡ false → ⊥
    two n p q e f g = grind (arith, nat_tests)

    pick : (a b c d : Bool) → (w.priority == 0) ≡ a → (w.priority == 1) ≡ b → (w.priority == 2) ≡ c → (w.priority == 3) ≡ d
        → messages_in (rings_of limit ws) ≡ length ws →
        length (with_ahead a w (of_priority 0 ws)) + length (with_ahead b w (of_priority 1 ws)) + length (with_ahead c w (of_priority 2 ws))
        + length (with_ahead d w (of_priority 3 ws)) ≡ length (w ∷ ws)
    pick true false false false e f g h k = omega arith
    pick false true false false e f g h k = omega arith
    pick false false true false e f g h k = omega arith
    pick false false false true e f g h k = omega arith
    pick false false false false e f g h k = absurd (none w.priority r.0 e f g h)
    pick true true c d e f g h k = absurd (two w.priority 0 1 e f refl)
    pick true false true d e f g h k = absurd (two w.priority 0 2 e g refl)
    pick true false false true e f g h k = absurd (two w.priority 0 3 e h refl)
    pick false true true d e f g h k = absurd (two w.priority 1 2 f g refl)
    pick false true false true e f g h k = absurd (two w.priority 1 3 f h refl)
    pick false false true true e f g h k = absurd (two w.priority 2 3 g h refl)

-- in range
pub range-more : (w : Waiting) (ws : List Waiting) → HavePriorities ws → w.priority < 4 → HavePriorities (ws ++ w ∷ [])
range-more w [] r s = (s, tt)
range-more w (x ∷ ws) r s = (r.0, range-more w ws r.1 s)

pub range-without : (p : ℕ) (ws : List Waiting) → HavePriorities ws → HavePriorities (without_message p ws)
range-without p [] r = tt
range-without p (w ∷ ws) r = pick (w.priority == p) (range-without p ws r.1)
  where
    pick : (b : Bool) → HavePriorities (without_message p ws) → HavePriorities (cond b ws (w ∷ without_message p ws))
    pick true k = r.1
    pick false k = (r.0, k)

-- the rings without the first message of a priority
abbrev pub dropped : Bool → List Waiting → List Waiting
dropped b [] = []
dropped b (w ∷ ws) = cond b ws (w ∷ ws)

pub of-without : (p q : ℕ) (ws : List Waiting) → of_priority q (without_message p ws) ≡ dropped (p == q) (of_priority q ws)
of-without p q [] = refl
of-without p q (w ∷ ws) = pick (w.priority == p) (w.priority == q) (p == q) refl refl refl (of-without p q ws)
  where
    clash : (n p q : ℕ) → (n == p) ≡ true → (n == q) ≡ true → (p == q) ≡ false → ⊥
    clash n p q e f g = grind (arith, nat_tests)

    differ : (n p q : ℕ) → (n == p) ≡ true → (n == q) ≡ false → (p == q) ≡ true → ⊥
    differ n p q e f g = grind (arith, nat_tests)

    other : (n p q : ℕ) → (n == p) ≡ false → (n == q) ≡ true → (p == q) ≡ true → ⊥
    other n p q e f g = grind (arith, nat_tests)

    kept : (l : List Waiting) → l ≡ dropped false l
    kept [] = refl
    kept (x ∷ l) = refl

    pick : (b c d : Bool) → (w.priority == p) ≡ b → (w.priority == q) ≡ c → (p == q) ≡ d → of_priority q (without_message p ws) ≡ dropped d (of_priority q ws)
        → of_priority q (cond b ws (w ∷ without_message p ws)) ≡ dropped d (cond c (w ∷ of_priority q ws) (of_priority q ws))
    pick true true true e f g k = refl
    pick true true false e f g k = absurd (clash w.priority p q e f g)
    pick true false true e f g k = absurd (differ w.priority p q e f g)
    pick true false false e f g k = kept (of_priority q ws)
    pick false true true e f g k = absurd (other w.priority p q e f g)
    pick false true false e f g k = ap (λ b. cond b (w ∷ of_priority q (without_message p ws)) (of_priority q (without_message p ws))) f
        ∙ ap (λ (l : List Waiting). w ∷ l) (k ∙ sym (kept (of_priority q ws)))
    pick false false d e f g k = ap (λ b. cond b (w ∷ of_priority q (without_message p ws)) (of_priority q (without_message p ws))) f ∙ k

-- the message that is received first is the first of its priority, and no message has a smaller one
pub record IsFirst (w : Waiting) (ws : List Waiting) : Type 0 where
  pub rest : List Waiting
  pub front : of_priority w.priority ws ≡ w ∷ rest
  pub none : (q : ℕ) → q < w.priority → of_priority q ws ≡ []

own : (w : Waiting) → (w.priority == w.priority) ≡ true
own w = eq-eqb w.priority w.priority refl

pub first-is : (ws : List Waiting) (w : Waiting) → next_of ws ≡ Some w → IsFirst w ws
first-is [] w e = absurd (cc)
first-is (x ∷ ws) w e = pick (next_of ws) refl e (λ y is. first-is ws y is)
  where
    same : {A : Type 0} (a b : A) → Some a ≡ Some b → a ≡ b
    same a b k = cc

    empty : (l : List Waiting) → next_of l ≡ None → l ≡ []
    empty [] k = refl
    empty (y ∷ l) k = absurd (cc)

    one : (q : ℕ) → q < x.priority → (x.priority == q) ≡ false
    one q small = grind (arith, nat_tests)

    mine : IsFirst x ws → IsFirst x (x ∷ ws)
    mine f = record {
      rest = x ∷ f.rest;
      front = ap (λ b. cond b (x ∷ of_priority x.priority ws) (of_priority x.priority ws)) (own x) ∙ ap (λ (l : List Waiting). x ∷ l) f.front;
      none = λ q small. ap (λ b. cond b (x ∷ of_priority q ws) (of_priority q ws)) (one q small) ∙ f.none q small;
    }

    lone : IsFirst x (x ∷ [])
    lone = record { rest = []; front = ap (λ b. cond b (x ∷ []) []) (own x); none = λ q small. ap (λ b. cond b (x ∷ []) []) (one q small) }

    test : (a b : ℕ) → nat_lt a b ≡ true → a < b
    test a b k = grind (arith, nat_tests)

    untest : (a b : ℕ) → nat_lt a b ≡ false → b ≤ a
    untest a b k = grind (arith, nat_tests)

    below : (q : ℕ) (y : Waiting) → q < y.priority → y.priority < x.priority → (x.priority == q) ≡ false
    below q y a b = grind (arith, nat_tests)

    away : (y : Waiting) → y.priority < x.priority → (x.priority == y.priority) ≡ false
    away y b = grind (arith, nat_tests)

    earlier : (y : Waiting) → IsFirst y ws → x.priority ≤ y.priority → IsFirst x (x ∷ ws)
    earlier y f least = record {
      rest = of_priority x.priority ws;
      front = ap (λ b. cond b (x ∷ of_priority x.priority ws) (of_priority x.priority ws)) (own x);
      none = λ q small. ap (λ b. cond b (x ∷ of_priority q ws) (of_priority q ws)) (one q small) ∙ f.none q (omega arith);
    }

    later : (y : Waiting) → IsFirst y ws → y.priority < x.priority → IsFirst y (x ∷ ws)
    later y f less = record {
      rest = f.rest;
      front = ap (λ b. cond b (x ∷ of_priority y.priority ws) (of_priority y.priority ws)) (away y less) ∙ f.front;
      none = λ q small. ap (λ b. cond b (x ∷ of_priority q ws) (of_priority q ws)) (below q y small less) ∙ f.none q small;
    }

    by_test : (y : Waiting) (b : Bool) → nat_lt y.priority x.priority ≡ b → IsFirst y ws → cond b y x ≡ w → IsFirst w (x ∷ ws)
    by_test y true t f is = subst (λ (v : Waiting). IsFirst v (x ∷ ws)) is (later y f (test _ _ t))
    by_test y false t f is = subst (λ (v : Waiting). IsFirst v (x ∷ ws)) is (earlier y f (untest _ _ t))

    pick : (o : Option Waiting) → next_of ws ≡ o → Some (sooner x o) ≡ Some w → ((y : Waiting) → next_of ws ≡ Some y → IsFirst y ws) → IsFirst w (x ∷ ws)
    pick None is k more = subst (λ (v : Waiting). IsFirst v (x ∷ ws)) (same x w k) (subst (λ (l : List Waiting). IsFirst x (x ∷ l)) (sym (empty ws is)) lone)
    pick (Some y) is k more = by_test y _ refl (more y is) (same _ _ k)

pub take-none : (limit : ℕ) (ws : List Waiting) → next_of ws ≡ None
    → (first_in (rings_of limit ws) ≡ None) × (without_front (rings_of limit ws) ≡ rings_of limit ws)
take-none limit [] e = (refl, refl)
take-none limit (w ∷ ws) e = absurd (cc)

-- the priority of the message that is received first is below 4
pub range-first : (ws : List Waiting) (w : Waiting) → HavePriorities ws → next_of ws ≡ Some w → w.priority < 4
range-first [] w r e = absurd (cc)
range-first (x ∷ ws) w r e = pick (next_of ws) refl e (λ y is. range-first ws y r.1 is)
  where
    either : (y : Waiting) (b : Bool) → y.priority < 4 → (cond b y x).priority < 4
    either y true s = s
    either y false s = r.0

    pick : (o : Option Waiting) → next_of ws ≡ o → Some (sooner x o) ≡ Some w → ((y : Waiting) → next_of ws ≡ Some y → y.priority < 4) → w.priority < 4
    pick None is k more = subst (λ (v : Waiting). v.priority < 4) (same_Some x w k) r.0
    pick (Some y) is k more = subst (λ (v : Waiting). v.priority < 4) (same_Some _ w k) (either y (nat_lt y.priority x.priority) (more y is))

kept : (l : List Waiting) → l ≡ dropped false l
kept l = grind (arith, nat_tests)

abbrev table : ℕ → List Waiting → List Waiting → List Waiting → List Waiting → RingTable
table limit a b c d = record { limit = limit; first = a; second = b; third = c; fourth = d }

abbrev table_without : ℕ → ℕ → List Waiting → List Waiting → List Waiting → List Waiting → RingTable
table_without limit p a b c d = table limit (dropped (p == 0) a) (dropped (p == 1) b) (dropped (p == 2) c) (dropped (p == 3) d)

table-without : (limit p : ℕ) (ws : List Waiting)
    → rings_of limit (without_message p ws) ≡ table_without limit p (of_priority 0 ws) (of_priority 1 ws) (of_priority 2 ws) (of_priority 3 ws)
table-without limit p ws i = table limit (of-without p 0 ws i) (of-without p 1 ws i) (of-without p 2 ws i) (of-without p 3 ws i)

-- what a take of these rings gives and leaves
abbrev TakesOf : ℕ → Waiting → RingTable → RingTable → Type 0
TakesOf limit w old new = (first_in old ≡ Some w) × (without_front old ≡ new)

takes_first : (limit : ℕ) (w : Waiting) (rest a b c d : List Waiting) → a ≡ w ∷ rest → TakesOf limit w (table limit a b c d) (table_without limit 0 a b c d)
takes_first limit w rest a b c d e1 = grind (arith, nat_tests)

takes_second : (limit : ℕ) (w : Waiting) (rest a b c d : List Waiting) → a ≡ [] → b ≡ w ∷ rest
    → TakesOf limit w (table limit a b c d) (table_without limit 1 a b c d)
takes_second limit w rest a b c d e1 e2 = grind (arith, nat_tests)

takes_third : (limit : ℕ) (w : Waiting) (rest a b c d : List Waiting) → a ≡ [] → b ≡ [] → c ≡ w ∷ rest
    → TakesOf limit w (table limit a b c d) (table_without limit 2 a b c d)
takes_third limit w rest a b c d e1 e2 e3 = grind (arith, nat_tests)

takes_fourth : (limit : ℕ) (w : Waiting) (rest a b c d : List Waiting) → a ≡ [] → b ≡ [] → c ≡ [] → d ≡ w ∷ rest
    → TakesOf limit w (table limit a b c d) (table_without limit 3 a b c d)
takes_fourth limit w rest a b c d e1 e2 e3 e4 = grind (arith, nat_tests)

-- a take gives the message that is received first, and leaves the others
pub rings-take : (limit : ℕ) (ws : List Waiting) (w : Waiting) → HavePriorities ws → next_of ws ≡ Some w
    → TakesOf limit w (rings_of limit ws) (rings_of limit (without_message w.priority ws))
rings-take limit ws w r e =
    subst (TakesOf limit w (rings_of limit ws)) (sym (table-without limit w.priority ws))
    (at w.priority refl (range-first ws w r e) (first-is ws w e))
  where
    front : (p : ℕ) (f : IsFirst w ws) → w.priority ≡ p → of_priority p ws ≡ w ∷ f.rest
    front p f is = subst (λ (n : ℕ). of_priority n ws ≡ w ∷ f.rest) is f.front

    empty : (p q : ℕ) (f : IsFirst w ws) → w.priority ≡ p → q < p → of_priority q ws ≡ []
    empty p q f is small = f.none q (omega arith)

    at : (p : ℕ) → w.priority ≡ p → p < 4 → IsFirst w ws
        → TakesOf limit w (rings_of limit ws) (table_without limit p (of_priority 0 ws) (of_priority 1 ws) (of_priority 2 ws) (of_priority 3 ws))
    at zero is small f = takes_first limit w f.rest _ _ _ _ (front 0 f is)
    at (suc zero) is small f = takes_second limit w f.rest _ _ _ _ (empty 1 0 f is (omega arith)) (front 1 f is)
    at (suc (suc zero)) is small f = takes_third limit w f.rest _ _ _ _ (empty 2 0 f is (omega arith)) (empty 2 1 f is (omega arith)) (front 2 f is)
    at (suc (suc (suc zero))) is small f = takes_fourth limit w f.rest _ _ _ _ (empty 3 0 f is (omega arith)) (empty 3 1 f is (omega arith))
        (empty 3 2 f is (omega arith)) (front 3 f is)
    at (suc (suc (suc (suc n)))) is small f = absurd (omega arith)
