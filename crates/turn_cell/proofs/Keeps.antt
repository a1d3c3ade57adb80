-- Each step keeps the rule.
use Rattle.std.proofs.lemmas.Bool.Decides.{nat_tests}
use Rattle.turn_cell.proofs.Names.{◌≡◌, ◌≢◌, ℕ, ◌+◌, ◌%◌, ◌^◌, ◌<◌, ◌≤◌, ◌==◌, inl, inr, ⊎_elim, Bool, true, false, List, [], ◌∷◌, ◌++◌, length, set, get_or, sym, refl, ap, ◌∙◌, subst, arith, Option, Some, length-append, dite, ℕ_discrete, none, some, get_elem?, State, Me, Act, keeps, takes, gives, step, Valid, homes_after, carried_after, Allows, at_set, set_again, Entry, Part, Idle, Waits, Holds, StartsWith, starts_self, starts_longer, own_more, other_more, total_by, AllItems, one_if, waits_or_holds, holds_turn, has_number, has_ticket, has_turn, count, after_draw, after_take, after_pass, part_entry, FitsPart, Invariant, drew, TookObject, looked, passed}
use Rattle.std.proofs.lemmas.Bool.{eqb-true}
use mathlib.Core.Option.{Option as Maybe}
use prog.Atomic.{either}
use Rattle.turn_cell.specs.declared.parts.Stage.{Stage}
use Rattle.turn_cell.proofs.Counting.{one_same, one_other, other_if, total-set, part_of_total, two_of_total, total-le, all_zero, all_both}
use Rattle.turn_cell.proofs.OnePart.{one_part}

module _ {O T P Q : Type 0} (terms_of : O → T) (seat_count : T → ℕ) (legal : T → List (Entry P Q) → Type 0) (stands : O → List (Entry P Q) → Type 0) where
  abbrev E : Type 0
  E = Entry P Q

  abbrev D : Type 0
  D = Part T P Q

  abbrev S : Type 0
  S = State (Option O) (List D)

  abbrev F : T → List E → ℕ → D → Type 0
  F = FitsPart terms_of seat_count legal stands

  abbrev K : T → S → Type 0
  K = Invariant terms_of seat_count legal stands

  -- the views after one seat of one part has moved. The others have other numbers, and not its ticket k
  each_moved : (t : T) (h h' : List E) (n n' : ℕ) (views : List (List D)) (id : ℕ) (p q : D) (k : ℕ) → get_elem? views id ≡ some (p ∷ [])
      → ((i : ℕ) (v : List D) → get_elem? views i ≡ some v → AllItems (F t h n) v) → ((k : ℕ) → count (has_number k) views ≤ 1)
      → ((k : ℕ) → count (has_ticket k) views ≤ 1)
      → ((x : D) → F t h n x → x.number ≢ p.number → (has_ticket k p ≡ 1 → has_ticket k x ≡ 0) → F t h' n' x) → F t h' n' q
      → (i : ℕ) (v : List D) → get_elem? (set views id (q ∷ [])) i ≡ some v → AllItems (F t h' n') v
  each_moved t h h' n n' views id p q k at each numbers turns others mine i v e = ⊎_elim
      (λ (z : (i ≡ id) × ((q ∷ []) ≡ v)). subst (AllItems (F t h' n')) z.1 (mine, tt))
      (λ (z : (i ≢ id) × (get_elem? views i ≡ some v)).
      let two = two_of_total (total_by (has_number p.number)) views i id v (p ∷ []) z.0 z.1 at in
      let pair = two_of_total (total_by (has_ticket k)) views i id v (p ∷ []) z.0 z.1 at in
      let one = one_same p.number p.number refl in
      let most = numbers p.number in
      let most_turns = turns k in
      let none_here : total_by (has_number p.number) v ≡ 0 = omega arith in
      let Not : D → Type 0 = λ x. has_ticket k p ≡ 1 → has_ticket k x ≡ 0 in
      let not_this : AllItems Not v = dite (ℕ_discrete (has_ticket k p) 1)
      (λ is. all_both (λ x. has_ticket k x ≡ 0) (λ x. has_ticket k x
      ≡ 0) Not v (λ x a b _. a) (all_zero (has_ticket k) v (omega arith)) (all_zero (has_ticket k) v (omega arith)))
      (λ no. all_both (λ x. has_number p.number x ≡ 0) (λ x. has_number p.number x
      ≡ 0) Not v (λ x a b is. absurd (no is)) (all_zero (has_number p.number) v none_here) (all_zero (has_number p.number) v none_here)) in
      let G : D → Type 0 = λ x. (x.number ≢ p.number) × Not x in
      let both : AllItems G v = all_both (λ x. has_number p.number x
      ≡ 0) Not G v (λ x a b. (other_if x.number p.number a, b)) (all_zero (has_number p.number) v none_here) not_this in
      all_both (F t h n) G (F t h' n') v (λ x f g. others x f g.0 g.1) (each i v z.1) both)
      (at_set views id i (q ∷ []) v e)

  -- the seat keeps its number
  numbers_moved : (views : List (List D)) (id : ℕ) (p q : D) → get_elem? views id ≡ some (p ∷ []) → q.number ≡ p.number
      → ((k : ℕ) → count (has_number k) views ≤ 1)
      → (k : ℕ) → count (has_number k) (set views id (q ∷ [])) ≤ 1
  numbers_moved views id p q at same numbers k =
      let moved = total-set (total_by (has_number k)) views id (p ∷ []) (q ∷ []) at in
      let alike : has_number k q ≡ has_number k p = ap (λ (n : ℕ). one_if (n == k)) same in
      let most = numbers k in omega arith

  fits_later : (t : T) (h : List E) (n n' : ℕ) (x : D) → n ≤ n' → F t h n x → F t h n' x
  fits_later t h n n' x le f = let shown = f.shown in
      record { terms = f.terms; number = f.number; seen = f.seen; mine = f.mine; seen_mine = f.seen_mine; shown = omega arith; holds = f.holds }

  none_out : (c lo n k : ℕ) → (0 < c → (lo ≤ k) × (k < n)) → n ≡ k → c ≡ 0
  none_out c lo n k h e = dite (ℕ_discrete c 0) (λ z. z) (λ nz. let u = h (omega arith) in absurd (omega arith))

  -- one ticket more
  draw_new : (t : T) (s : S) (r : K t s) (id : ℕ) (p : D) → get_elem? s.views id ≡ some (p ∷ []) → p.stage ≡ Idle → r.tickets < 2 ^ 62
      → K t record { words = length r.history ∷ (r.tickets + 1) ∷ []; homes = s.homes; views = set s.views id (after_draw p r.tickets true ∷ []) }
  draw_new t s r id p at idle below =
      let q : D = after_draw p r.tickets true in
      let f : F t r.history r.tickets p = (r.each id (p ∷ []) at).0 in
      let order = r.order in
      let views' : List (List D) = set s.views id (q ∷ []) in
      record {
        history = r.history;
        tickets = r.tickets + 1;
        words = refl;
        order = omega arith;
        most = omega arith;
        lawful = r.lawful;
        place = ⊎_elim (λ (z : (o : O) × (s.homes ≡ some (Some o) ∷ []) × stands o r.history × (terms_of o ≡ t)). inl z)
            (λ (z : (s.homes ≡ none ∷ []) × (0 < count (has_turn (length r.history)) s.views)).
            let moved = total-set (total_by (has_turn (length r.history))) s.views id (p ∷ []) (q ∷ []) at in
            let was : has_turn (length r.history) p ≡ 0 = ap (holds_turn (length r.history)) idle in
            let more = z.1 in inr (z.0, omega arith))
            r.place;
        each = each_moved t r.history r.history r.tickets (r.tickets
            + 1) s.views id p q 0 at r.each r.numbers r.turns (λ x g _ _. fits_later t r.history r.tickets (r.tickets + 1) x (omega arith) g)
            record { terms = f.terms; number = f.number; seen = f.seen; mine = f.mine; seen_mine = f.seen_mine; shown = omega arith; holds = λ k e. cc };
        numbers = numbers_moved s.views id p q at refl r.numbers;
        turns = λ k.
            let moved = total-set (total_by (has_ticket k)) s.views id (p ∷ []) (q ∷ []) at in
            let was : has_ticket k p ≡ 0 = ap (waits_or_holds k) idle in
            let most = r.turns k in
            dite (ℕ_discrete r.tickets k)
            (λ e. let one = one_same r.tickets k e in let none_yet = none_out (count (has_ticket k) s.views) (length r.history) r.tickets k (r.in_line k) e in
            omega arith)
            (λ ne. let zero_now = one_other r.tickets k ne in omega arith);
        in_line = λ k some_out.
            let moved = total-set (total_by (has_ticket k)) s.views id (p ∷ []) (q ∷ []) at in
            let was : has_ticket k p ≡ 0 = ap (waits_or_holds k) idle in
            dite (ℕ_discrete r.tickets k) (λ e. (omega arith, omega arith))
            (λ ne. let zero_now = one_other r.tickets k ne in let line = r.in_line k (omega arith) in (line.0, omega arith));
      }

  -- the word was shown
  draw_none : (t : T) (s : S) (r : K t s) (id : ℕ) (p : D) → get_elem? s.views id ≡ some (p ∷ []) → p.stage ≡ Idle
      → K t record { words = length r.history ∷ r.tickets ∷ []; homes = s.homes; views = set s.views id (after_draw p r.tickets false ∷ []) }
  draw_none t s r id p at idle =
      let q : D = after_draw p r.tickets false in
      let f : F t r.history r.tickets p = (r.each id (p ∷ []) at).0 in
      let order = r.order in
      record {
        history = r.history;
        tickets = r.tickets;
        words = refl;
        order = r.order;
        most = r.most;
        lawful = r.lawful;
        place = ⊎_elim (λ (z : (o : O) × (s.homes ≡ some (Some o) ∷ []) × stands o r.history × (terms_of o ≡ t)). inl z)
            (λ (z : (s.homes ≡ none ∷ []) × (0 < count (has_turn (length r.history)) s.views)).
            let moved = total-set (total_by (has_turn (length r.history))) s.views id (p ∷ []) (q ∷ []) at in
            let was : has_turn (length r.history) p ≡ 0 = ap (holds_turn (length r.history)) idle in
            let more = z.1 in inr (z.0, omega arith))
            r.place;
        each = each_moved t r.history r.history r.tickets r.tickets s.views id p q 0 at r.each r.numbers r.turns (λ x g _ _. g)
            record { terms = f.terms; number = f.number; seen = f.seen; mine = f.mine; seen_mine = f.seen_mine; shown = omega arith; holds = λ k e. cc };
        numbers = numbers_moved s.views id p q at refl r.numbers;
        turns = λ k.
            let moved = total-set (total_by (has_ticket k)) s.views id (p ∷ []) (q ∷ []) at in
            let was : has_ticket k p ≡ 0 = ap (waits_or_holds k) idle in
            let most = r.turns k in omega arith;
        in_line = λ k some_out.
            let moved = total-set (total_by (has_ticket k)) s.views id (p ∷ []) (q ∷ []) at in
            let was : has_ticket k p ≡ 0 = ap (waits_or_holds k) idle in
            r.in_line k (omega arith);
      }

  draw_either : (t : T) (s : S) (r : K t s) (id : ℕ) (p : D) (first : ℕ) → get_elem? s.views id ≡ some (p ∷ []) → p.stage ≡ Idle → first < 2 ^ 62 → (b : Bool)
      → (r.tickets == first) ≡ b
      → K t record { words = length r.history ∷ either b (first + 1) r.tickets ∷ []; homes = s.homes; views = set s.views id (after_draw p r.tickets b ∷ []) }
  draw_either t s r id p first e1 e2 e3 b e4 = grind (arith, nat_tests, eqb-true, after_draw, draw_new, draw_none)

  draws_at : (t : T) (slots id first : ℕ) (p : D) → p.stage ≡ Idle → first < 2 ^ 62
      → Allows (K t) slots id (p ∷ [], []) 1 (λ n. either (n == first) (first + 1) n)
      (drew terms_of seat_count legal stands (step slots 1 first (first + 1) none) (p ∷ [], []))
  draws_at t slots id first p idle below s r len at small =
      let Drew : List ℕ → Type 0 = λ ws. (w : List D) × (a : Act (Option O)) × (Valid s.homes [] a)
      × K t record {
        words = set ws 1 (either (get_or ws 1 0 == first) (first + 1) (get_or ws 1 0));
        homes = homes_after s.homes [] a;
        views = set s.views id w;
      }
      × drew terms_of seat_count legal stands (step slots 1 first (first + 1) none) (p ∷ [], []) (get_or ws 1 0) (w, carried_after [] a) in
      subst Drew (sym r.words) (
        after_draw p r.tickets (r.tickets == first)
            ∷ [],
        keeps,
        tt,
        draw_either t s r id p first at idle below (r.tickets == first) refl,
        λ p' e. let same =
            one_part p p' (ap (λ (m : Me (Option O) (List D)). m.0) e) in ap (λ (x : D). (after_draw x r.tickets (r.tickets == first) ∷ [], [])) same,
      )

  pub draws : (t : T) (slots id first : ℕ) (p : D) (m : Me (Option O) (List D)) → m ≡ (p ∷ [], []) → p.stage ≡ Idle → first < 2 ^ 62
      → Allows (K t) slots id m 1 (λ n. either (n == first) (first + 1) n) (drew terms_of seat_count legal stands (step slots 1 first (first + 1) none) m)
  draws t slots id first p m is idle below =
      subst (λ (m : Me (Option O) (List D)). Allows (K t) slots id m 1 (λ n. either (n == first) (first + 1) n)
      (drew terms_of seat_count legal stands (step slots 1 first (first + 1) none) m)) (sym is) (draws_at t slots id first p idle below)

  turns_below : (h : ℕ) (st : Stage) → holds_turn h st ≤ waits_or_holds h st
  turns_below h st = grind (arith, nat_tests)

  -- who waits for its turn, which has come, finds that no one holds it
  nobody_holds : (views : List (List D)) (id : ℕ) (p : D) (h k : ℕ) → get_elem? views id ≡ some (p ∷ []) → p.stage ≡ Waits k → h ≡ k
      → count (has_ticket h) views ≤ 1
      → 0 < count (has_turn h) views → ⊥
  nobody_holds views id p h k at is here most some_turn =
      let tickets_less = total-set (total_by (has_ticket h)) views id (p ∷ []) [] at in
      let turns_less = total-set (total_by (has_turn h)) views id (p ∷ []) [] at in
      let mine : has_ticket h p ≡ 1 = ap (waits_or_holds h) is ∙ one_same k h (sym here) in
      let not_mine : has_turn h p ≡ 0 = ap (holds_turn h) is in
      let below = total-le (total_by (has_turn h)) (total_by (has_ticket h)) (set views id [])
      (λ v. total-le (has_turn h) (has_ticket h) v (λ x. turns_below h x.stage)) in
      omega arith

  take_keeps : (t : T) (s : S) (r : K t s) (id : ℕ) (p : D) (k : ℕ) → get_elem? s.views id ≡ some (p ∷ []) → p.stage ≡ Waits k → length r.history ≡ k
      → K t record { words = length r.history ∷ r.tickets ∷ []; homes = none ∷ []; views = set s.views id (after_take p r.history k ∷ []) }
  take_keeps t s r id p k at waits here =
      let q : D = after_take p r.history k in
      let f : F t r.history r.tickets p = (r.each id (p ∷ []) at).0 in
      let alike : (j : ℕ) → has_ticket j p ≡ has_ticket j q = λ j. ap (waits_or_holds j) waits in
      let moved : (j : ℕ) → count (has_ticket j) (set s.views id (q ∷ [])) ≡ count (has_ticket j) s.views = λ j.
      let m = total-set (total_by (has_ticket j)) s.views id (p ∷ []) (q ∷ []) at in let same = alike j in omega arith in
      record {
        history = r.history;
        tickets = r.tickets;
        words = refl;
        order = r.order;
        most = r.most;
        lawful = r.lawful;
        place =
            let m = total-set (total_by (has_turn (length r.history))) s.views id (p ∷ []) (q ∷ []) at in
            let now = one_same k (length r.history) (sym here) in
            let was : has_turn (length r.history) p ≡ 0 = ap (holds_turn (length r.history)) waits in
            inr (refl, omega arith);
        each = each_moved t r.history r.history r.tickets r.tickets s.views id p q 0 at r.each r.numbers r.turns (λ x g _ _. g)
            record {
              terms = f.terms;
              number = f.number;
              seen = starts_self r.history;
              mine = f.mine;
              seen_mine = f.mine;
              shown = f.shown;
              holds = λ j e. (refl, let i : k ≡ j = cc in sym i ∙ sym here);
            };
        numbers = numbers_moved s.views id p q at refl r.numbers;
        turns = λ j. let m = moved j in let most = r.turns j in omega arith;
        in_line = λ j out. let m = moved j in r.in_line j (omega arith);
      }

  stay_keeps : (t : T) (s : S) (r : K t s) (id : ℕ) (v : List D) → get_elem? s.views id ≡ some v
      → K t record { words = length r.history ∷ r.tickets ∷ []; homes = s.homes; views = set s.views id v }
  stay_keeps t s r id v e1 = grind (arith, nat_tests, set_again)

  looks_at : (t : T) (slots id : ℕ) (p : D) (k : ℕ) → p.stage ≡ Waits k
      → Allows (K t) slots id (p ∷ [], []) 0 (λ n. n) (looked terms_of seat_count legal stands (step slots 0 0 0 none) (p ∷ [], []))
  looks_at t slots id p k waits s r len at small =
      let Looked : List ℕ → Type 0 = λ ws. (w : List D) × (a : Act (Option O)) × (Valid s.homes [] a)
      × K t record { words = set ws 0 (get_or ws 0 0); homes = homes_after s.homes [] a; views = set s.views id w }
      × looked terms_of seat_count legal stands (step slots 0 0 0 none) (p ∷ [], []) (get_or ws 0 0) (w, carried_after [] a) in
      let f : F t r.history r.tickets p = (r.each id (p ∷ []) at).0 in
      let n : ℕ = length r.history in
      subst Looked (sym r.words) (dite (ℕ_discrete n k)
      (λ here. ⊎_elim
      (λ (z : (o : O) × (s.homes ≡ some (Some o) ∷ []) × stands o r.history × (terms_of o ≡ t)).
      let line = r.in_line k (let part = part_of_total (total_by (has_ticket k)) s.views id (p ∷ []) at in let mine : has_ticket k p ≡ 1 =
      ap (waits_or_holds k) waits ∙ one_same k k refl in omega arith) in
      let most = r.most in
      let Out : List (Maybe (Option O)) → Type 0 =
      λ hs. K t record { words = length r.history ∷ r.tickets ∷ []; homes = set hs 0 none; views = set s.views id (after_take p r.history k ∷ []) } in (
        after_take p r.history k ∷ [],
        takes 0 (Some z.0),
        ap (λ (hs : List (Maybe (Option O))). get_elem? hs 0) z.1,
        subst Out (sym z.1) (take_keeps t s r id p k at waits here),
        λ p' k' e is. let same = one_part p p' (ap (λ (m : Me (Option O) (List D)). m.0) e) in
            let also : p'.stage ≡ Waits k = subst (λ (x : D). x.stage ≡ Waits k) same waits in
            let number : k ≡ k' = cc in
            let after : Me (Option O) (List D) = (after_take p r.history k ∷ [], (0, Some z.0) ∷ []) in
            let before : Me (Option O) (List D) = (p ∷ [], []) in
            let Result : D × ℕ → Type 0 = λ x. (n ≡ x.1 → (o : O) × TookObject terms_of seat_count legal stands x.0 x.1 o (Some o) after)
            × (n ≢ x.1 → after ≡ before) in
            subst Result (λ i. (same i, number i)) (
              (λ _. (
                z.0,
                record {
                  history = r.history;
                  after = refl;
                  stood = z.2;
                  same_terms = z.3 ∙ sym f.terms;
                  begins = f.seen;
                  own = f.mine;
                  short = omega arith;
                  seat = subst (λ (x : T). p.number < seat_count x) (sym f.terms) f.number;
                },
              )),
              λ ne. absurd (ne here),
            ),
      ))
      (λ (z : (s.homes ≡ none ∷ []) × (0 < count (has_turn n) s.views)). absurd (nobody_holds s.views id p n k at waits here (r.turns n) z.1))
      r.place)
      (λ ne. (
        p ∷ [],
        keeps,
        tt,
        stay_keeps t s r id (p ∷ []) at,
        λ p' k' e is. let same = one_part p p' (ap (λ (m : Me (Option O) (List D)). m.0) e) in
            let also : p'.stage ≡ Waits k = subst (λ (x : D). x.stage ≡ Waits k) same waits in
            let number : k ≡ k' = cc in
            (λ here. absurd (ne (here ∙ sym number)), λ _. refl),
      )))

  pub looks : (t : T) (slots id : ℕ) (p : D) (k : ℕ) (m : Me (Option O) (List D)) → m ≡ (p ∷ [], []) → p.stage ≡ Waits k
      → Allows (K t) slots id m 0 (λ n. n) (looked terms_of seat_count legal stands (step slots 0 0 0 none) m)
  looks t slots id p k m is waits =
      subst (λ (m : Me (Option O) (List D)). Allows (K t) slots id m 0 (λ n. n) (looked terms_of seat_count legal stands (step slots 0 0 0 none) m)) (sym is)
      (looks_at t slots id p k waits)

  -- another seat, at one entry more
  others_pass : (t : T) (h : List E) (n : ℕ) (e : E) (p x : D) → e.who ≡ p.number → has_ticket (length h) p ≡ 1 → F t h n x → x.number ≢ p.number
      → (has_ticket (length h) p ≡ 1 → has_ticket (length h) x ≡ 0) → F t (h ++ e ∷ []) n x
  others_pass t h n e p x e1 e2 e3 e4 e5 = grind (arith, nat_tests, starts_longer, other_more, has_ticket, waits_or_holds, one_same)

  pass_keeps : (t : T) (s : S) (r : K t s) (id : ℕ) (p : D) (k : ℕ) (op : P) (reply : Q) (o : O) → ((x : O) (l : List E) → stands x l → legal (terms_of x) l)
      → get_elem? s.views id ≡ some (p ∷ []) → p.stage ≡ Holds k → terms_of o ≡ p.terms → stands o (p.seen ++ part_entry p op reply ∷ [])
      → K t record {
        words = (length r.history + 1) ∷ r.tickets ∷ [];
        homes = some (Some o) ∷ [];
        views = set s.views id (after_pass p (part_entry p op reply) ∷ []);
      }
  pass_keeps t s r id p k op reply o law at holds same_terms stood =
      let e : E = part_entry p op reply in
      let q : D = after_pass p e in
      let f : F t r.history r.tickets p = (r.each id (p ∷ []) at).0 in
      let h : List E = r.history in
      let n : ℕ = length h in
      let whole : p.seen ≡ h = (f.holds k holds).0 in
      let turn : has_ticket n p ≡ 1 = ap (waits_or_holds n) holds ∙ one_same k n (f.holds k holds).1 in
      let part = part_of_total (total_by (has_ticket n)) s.views id (p ∷ []) at in
      let line = r.in_line n (omega arith) in
      let terms' : terms_of o ≡ t = same_terms ∙ f.terms in
      let stood' : stands o (h ++ e ∷ []) = subst (λ (l : List E). stands o (l ++ e ∷ [])) whole stood in
      record {
        history = h ++ e ∷ [];
        tickets = r.tickets;
        words = ap (λ (m : ℕ). m ∷ r.tickets ∷ []) (let long = length-append h (e ∷ []) in omega arith);
        order = let long = length-append h (e ∷ []) in omega arith;
        most = r.most;
        lawful = subst (λ (x : T). legal x (h ++ e ∷ [])) terms' (law o (h ++ e ∷ []) stood');
        place = inl (o, refl, stood', terms');
        each = each_moved t h (h ++ e ∷ []) r.tickets r.tickets s.views id p q n at r.each r.numbers r.turns
            (λ x g ne not_this. others_pass t h r.tickets e p x refl turn g ne not_this)
            record {
              terms = f.terms;
              number = f.number;
              seen = subst (λ (l : List E). StartsWith (h ++ e ∷ []) (l ++ e ∷ [])) (sym whole) (starts_self (h ++ e ∷ []));
              mine = own_more p.number h e refl ∙ ap (λ (l : List E). l ++ e ∷ []) f.mine;
              seen_mine = own_more p.number p.seen e refl ∙ ap (λ (l : List E). l ++ e ∷ []) f.seen_mine;
              shown = f.shown;
              holds = λ j is. cc;
            };
        numbers = numbers_moved s.views id p q at refl r.numbers;
        turns = λ j. let m = total-set (total_by (has_ticket j)) s.views id (p ∷ []) (q ∷ []) at in let most = r.turns j in omega arith;
        in_line = λ j out.
            let long = length-append h (e ∷ []) in
            let m = total-set (total_by (has_ticket j)) s.views id (p ∷ []) (q ∷ []) at in
            let most = r.turns j in
            let l = r.in_line j (omega arith) in
            dite (ℕ_discrete n j) (λ (is : n ≡ j). let again : has_ticket j p ≡ 1 = subst (λ (i : ℕ). has_ticket i p ≡ 1) is turn in
            absurd (omega arith)) (λ ne. (omega arith, l.1));
      }

  passes_at : (t : T) (slots id : ℕ) (p : D) (k : ℕ) (op : P) (reply : Q) (o : O) (ops : List P) (replies : List Q)
      → ((x : O) (l : List E) → stands x l → legal (terms_of x) l)
      → ops ≡ op ∷ [] → replies ≡ reply ∷ [] → p.stage ≡ Holds k → terms_of o ≡ p.terms → stands o (p.seen ++ part_entry p op reply ∷ [])
      → Allows (K t) slots id (
        p ∷ [],
        (0, Some o)
            ∷ [],
      ) 0 (λ n. (n + 1) % 2 ^ 64) (passed terms_of seat_count legal stands ops replies (step slots 0 1 0 none) (p ∷ [], (0, Some o) ∷ []))
  passes_at t slots id p k op reply o ops replies law said replied holds same_terms stood s r len at small =
      let c : List (ℕ × Option O) = (0, Some o) ∷ [] in
      let w : List D = after_pass p (part_entry p op reply) ∷ [] in
      let Passed : List ℕ → Type 0 = λ ws. (w : List D) × (a : Act (Option O)) × (Valid s.homes c a)
      × K t record { words = set ws 0 ((get_or ws 0 0 + 1) % 2 ^ 64); homes = homes_after s.homes c a; views = set s.views id w }
      × passed terms_of seat_count legal stands ops replies (step slots 0 1 0 none) (p ∷ [], c) (get_or ws 0 0) (w, carried_after c a) in
      let kept = pass_keeps t s r id p k op reply o law at holds same_terms stood in
      let order = r.order in let most = r.most in
      let plain : length r.history + 1 ≡ (length r.history + 1) % 2 ^ 64 = omega arith in
      let Home : List (Maybe (Option O)) → Type 0 =
      λ hs. K t record { words = ((length r.history + 1) % 2 ^ 64) ∷ r.tickets ∷ []; homes = set hs 0 (some (Some o)); views = set s.views id w } in
      let after : K t record { words = ((length r.history + 1) % 2 ^ 64) ∷ r.tickets ∷ []; homes = some (Some o) ∷ []; views = set s.views id w } =
      subst (λ (n : ℕ). K t record { words = n ∷ r.tickets ∷ []; homes = some (Some o) ∷ []; views = set s.views id w }) plain kept in
      subst Passed (sym r.words) (
        w,
        gives,
        tt,
        ⊎_elim (λ (z : (o : O) × (s.homes ≡ some (Some o) ∷ []) × stands o r.history × (terms_of o ≡ t)). subst Home (sym z.1) after)
            (λ (z : (s.homes ≡ none ∷ []) × (0 < count (has_turn (length r.history)) s.views)). subst Home (sym z.0) after) r.place,
        λ p' op' reply' e said' replied'.
            let same = one_part p p' e in
            let same_op : op ≡ op' = cc in
            let same_reply : reply ≡ reply' = cc in
            λ i. (after_pass (same i) (part_entry (same i) (same_op i) (same_reply i)) ∷ [], []),
      )

  pub passes : (t : T) (slots id : ℕ) (p : D) (k : ℕ) (op : P) (reply : Q) (o : O) (ops : List P) (replies : List Q) (m : Me (Option O) (List D))
      → ((x : O) (l : List E) → stands x l → legal (terms_of x) l)
      → ops ≡ op ∷ [] → replies ≡ reply ∷ [] → p.stage ≡ Holds k → terms_of o ≡ p.terms → stands o (p.seen ++ part_entry p op reply ∷ [])
      → m ≡ (p ∷ [], (0, Some o) ∷ [])
      → Allows (K t) slots id m 0 (λ n. (n + 1) % 2 ^ 64) (passed terms_of seat_count legal stands ops replies (step slots 0 1 0 none) m)
  passes t slots id p k op reply o ops replies m law said replied holds same_terms stood is =
      subst (λ (m : Me (Option O) (List D)). Allows (K t) slots id m 0 (λ n. (n + 1) % 2 ^ 64)
      (passed terms_of seat_count legal stands ops replies (step slots 0 1 0 none) m)) (sym is)
      (passes_at t slots id p k op reply o ops replies law said replied holds same_terms stood)
