-- Steps that change which seat has a part, and the one where each part sees the history.
use Rattle.std.proofs.lemmas.Bool.Decides.{nat_tests}
use Rattle.turn_cell.proofs.Names.{◌≡◌, ◌≢◌, ℕ, ◌+◌, ◌<◌, inl, inr, ⊎_elim, List, [], ◌∷◌, ◌++◌, map, length, set, get_or, sym, refl, ap, ◌∙◌, subst, arith, Option, Some, none, some, get_elem?, State, Me, Act, keeps, step, Valid, homes_after, carried_after, Allows, Splits, Joins, at_set, at_snoc, set_else, Entry, Part, starts_self, total_by, AllItems, has_number, has_ticket, has_turn, count, foremost_part, parts_behind, having_seen, FitsPart, Invariant, Knows, observed}
use Rattle.turn_cell.proofs.Counting.{total-set, total-append}

module _ {O T P Q : Type 0} (terms_of : O → T) (seat_count : T → ℕ) (legal : T → List (Entry P Q) → Type 0) (stands : O → List (Entry P Q) → Type 0) where
  abbrev E : Type 0
  E = Entry P Q

  abbrev D : Type 0
  D = Part T P Q

  abbrev S : Type 0
  S = State (Option O) (List D)

  abbrev F : T → List E → ℕ → D → Type 0
  F = FitsPart terms_of seat_count legal stands

  abbrev K : T → S → Type 0
  K = Invariant terms_of seat_count legal stands

  all_append : (G : D → Type 0) (v w : List D) → AllItems G v → AllItems G w → AllItems G (v ++ w)
  all_append G [] w a b = b
  all_append G (x ∷ v) w a b = (a.0, all_append G v w a.1 b)

  all_map : (G H : D → Type 0) (f : D → D) (v : List D) → ((x : D) → G x → H (f x)) → AllItems G v → AllItems H (map f v)
  all_map G H f [] h a = tt
  all_map G H f (x ∷ v) h a = (h x a.0, all_map G H f v h a.1)

  all_also : (G H : D → Type 0) (v : List D) → ((x : D) → G x → H x) → AllItems G v → AllItems H v
  all_also G H [] h a = tt
  all_also G H (x ∷ v) h a = (h x a.0, all_also G H v h a.1)

  total-map : (c : D → ℕ) (f : D → D) (v : List D) → ((x : D) → c (f x) ≡ c x) → total_by c (map f v) ≡ total_by c v
  total-map c f [] h = refl
  total-map c f (x ∷ v) h = let here = h x in let more = total-map c f v h in omega arith

  -- other views, which have the same parts in all, or parts that have seen more
  other_views : (t : T) (s : S) (r : K t s) (views : List (List D)) → ((k : ℕ) → count (has_number k) views ≡ count (has_number k) s.views)
      → ((k : ℕ) → count (has_ticket k) views ≡ count (has_ticket k) s.views)
      → ((k : ℕ) → count (has_turn k) views ≡ count (has_turn k) s.views)
      → ((i : ℕ) (v : List D) → get_elem? views i ≡ some v → AllItems (F t r.history r.tickets) v)
      → K t record { words = length r.history ∷ r.tickets ∷ []; homes = s.homes; views = views }
  other_views t s r views numbers tickets turns each = record {
    history = r.history;
    tickets = r.tickets;
    words = refl;
    order = r.order;
    most = r.most;
    lawful = r.lawful;
    place = ⊎_elim (λ (z : (o : O) × (s.homes ≡ some (Some o) ∷ []) × stands o r.history × (terms_of o ≡ t)). inl z)
        (λ (z : (s.homes ≡ none ∷ []) × (0 < count (has_turn (length r.history)) s.views)). let same = turns (length r.history) in let out = z.1 in
        inr (z.0, omega arith)) r.place;
    each = each;
    numbers = λ k. let same = numbers k in let most = r.numbers k in omega arith;
    turns = λ k. let same = tickets k in let most = r.turns k in omega arith;
    in_line = λ k out. let same = tickets k in r.in_line k (omega arith);
  }

  at_words : (t : T) (s : S) (r : K t s) (views : List (List D)) → K t record { words = length r.history ∷ r.tickets ∷ []; homes = s.homes; views = views }
      → K t record { words = s.words; homes = s.homes; views = views }
  at_words t s r views k = subst (λ (ws : List ℕ). K t record { words = ws; homes = s.homes; views = views }) (sym r.words) k

  cut_count : (c : D → ℕ) (views : List (List D)) (id : ℕ) (v left right : List D) → get_elem? views id ≡ some v
      → total_by c left + total_by c right ≡ total_by c v
      → count c (set views id left ++ right ∷ []) ≡ count c views
  cut_count c views id v left right at e = let a = total-set (total_by c) views id v left at in let b =
      total-append (total_by c) (set views id left) (right ∷ []) in
      omega arith

  pub cuts : (t : T) (id : ℕ) (v left right : List D) → left ++ right ≡ v → Splits (K t) id v left right
  cuts t id v left right e s r at =
      let known : AllItems (F t r.history r.tickets) v = r.each id v at in
      let fewer : (c : D → ℕ) → count c (set s.views id left ++ right ∷ []) ≡ count c s.views = λ c.
      cut_count c s.views id v left right at (sym (total-append c left right) ∙ ap (total_by c) e) in
      let halves : AllItems (F t r.history r.tickets) left × AllItems (F t r.history r.tickets) right =
      split_all (F t r.history r.tickets) left right (subst (AllItems (F t r.history r.tickets)) (sym e) known) in
      at_words t s r (set s.views id left ++ right
      ∷ []) (other_views t s r (set s.views id left ++ right ∷ []) (λ k. fewer (has_number k)) (λ k. fewer (has_ticket k)) (λ k. fewer (has_turn k))
      (λ i w here. ⊎_elim
      (λ (z : get_elem? (set s.views id left) i ≡ some w). ⊎_elim (λ (y : (i ≡ id) × (left ≡ w)). subst (AllItems (F t r.history r.tickets)) y.1 halves.0)
      (λ (y : (i ≢ id) × (get_elem? s.views i ≡ some w)). r.each i w y.1) (at_set s.views id i left w z))
      (λ (z : right ≡ w). subst (AllItems (F t r.history r.tickets)) z halves.1)
      (at_snoc (set s.views id left) right w i here)))
    where
      split_all : (G : D → Type 0) (v w : List D) → AllItems G (v ++ w) → AllItems G v × AllItems G w
      split_all G [] w a = (tt, a)
      split_all G (x ∷ v) w a = let r = split_all G v w a.1 in ((a.0, r.0), r.1)

  pub glues : (t : T) (id other : ℕ) (v w : List D) → Joins (K t) id v other w (v ++ w) []
  glues t id other v w s r at apart also =
      let mid : List (List D) = set s.views id (v ++ w) in
      let there : get_elem? s.views other ≡ some w = sym (set_else s.views id other (v ++ w) apart) ∙ also in
      let same : (c : D → ℕ) → count c (set mid other []) ≡ count c s.views = λ c.
      let a = total-set (total_by c) s.views id v (v ++ w) at in let b = total-set (total_by c) mid other w [] also in let both = total-append c v w in
      omega arith in
      let whole : AllItems (F t r.history r.tickets) (v ++ w) = all_append (F t r.history r.tickets) v w (r.each id v at) (r.each other w there) in
      at_words t s r (set mid other []) (other_views t s r (set mid other []) (λ k. same (has_number k)) (λ k. same (has_ticket k)) (λ k. same (has_turn k))
      (λ i x here. ⊎_elim
      (λ (z : (i ≡ other) × ([] ≡ x)). subst (AllItems (F t r.history r.tickets)) z.1 tt)
      (λ (z : (i ≢ other) × (get_elem? mid i ≡ some x)). ⊎_elim (λ (y : (i ≡ id) × ((v ++ w) ≡ x)). subst (AllItems (F t r.history r.tickets)) y.1 whole)
      (λ (y : (i ≢ id) × (get_elem? s.views i ≡ some x)). r.each i x y.1) (at_set s.views id i (v ++ w) x z.1))
      (at_set mid other i [] x here)))

  shown_fits : (t : T) (h : List E) (n : ℕ) (p : D) → F t h n p → F t h n (having_seen h p)
  shown_fits t h n p f = record {
    terms = f.terms;
    number = f.number;
    seen = starts_self h;
    mine = f.mine;
    seen_mine = f.mine;
    shown = f.shown;
    holds = λ k is. (refl, (f.holds k is).1);
  }

  knows : (t : T) (h : List E) (n : ℕ) → legal t h → (p : D) → F t h n p → Knows terms_of seat_count legal stands h p
  knows t h n lawful p f = record { lawful = subst (λ (x : T). legal x h) (sym f.terms) lawful; begins = f.seen; own = f.mine }

  pub gathers : (t : T) (slots id : ℕ) (m : Me (Option O) (List D))
      → Allows (K t) slots id m 0 (λ n. n) (observed terms_of seat_count legal stands (step slots 0 0 0 none) m)
  gathers t slots id m s r len at small =
      let v : List D = m.0 in
      let c : List (ℕ × Option O) = m.1 in
      let h : List E = r.history in
      let w : List D = map (having_seen h) v in
      let known : AllItems (F t h r.tickets) v = r.each id v at in
      let same : (f : D → ℕ) → ((x : D) → f (having_seen h x) ≡ f x) → count f (set s.views id w) ≡ count f s.views = λ f e.
      let a = total-set (total_by f) s.views id v w at in let b = total-map f (having_seen h) v e in omega arith in
      let Gathered : List ℕ → Type 0 = λ ws. (w : List D) × (a : Act (Option O)) × (Valid s.homes c a)
      × K t record { words = set ws 0 (get_or ws 0 0); homes = homes_after s.homes c a; views = set s.views id w }
      × observed terms_of seat_count legal stands (step slots 0 0 0 none) m (get_or ws 0 0) (w, carried_after c a) in
      subst Gathered (sym r.words) (
        w,
        keeps,
        tt,
        other_views t s r (set s.views id w) (λ k. same (has_number k) (λ x. refl)) (λ k. same (has_ticket k) (λ x. refl)) (λ k. same (has_turn k) (λ x. refl))
            (λ i x here. ⊎_elim (λ (y : (i ≡ id) × (w ≡ x)). subst (AllItems (F t h r.tickets)) y.1
            (all_map (F t h r.tickets) (F t h r.tickets) (having_seen h) v (shown_fits t h r.tickets) known))
            (λ (y : (i ≢ id) × (get_elem? s.views i ≡ some x)). r.each i x y.1) (at_set s.views id i w x here)),
        (h, refl, all_also (F t h r.tickets) (Knows terms_of seat_count legal stands h) v (knows t h r.tickets r.lawful) known),
      )

  pub record Met (pa pb : D) (ma mb : Me (Option O) (List D)) : Type 0 where
    pub history : List E
    pub one : ma ≡ (having_seen history pa ∷ [], [])
    pub two : mb ≡ (having_seen history pb ∷ [], [])
    pub first_knows : Knows terms_of seat_count legal stands history pa
    pub second_knows : Knows terms_of seat_count legal stands history pb

  pub meets : (pa pb : D) (ma mb mt mj ml ma' mb' : Me (Option O) (List D)) → ma ≡ (pa ∷ [], []) → mb ≡ (pb ∷ [], []) → mt ≡ (mb.0, [])
      → mj ≡ (ma.0 ++ mt.0, ma.1)
      → ((h : List E) × (ml ≡ (map (having_seen h) mj.0, mj.1)) × AllItems (Knows terms_of seat_count legal stands h) mj.0) → ma' ≡ (foremost_part ml.0, ml.1)
      → mb' ≡ (parts_behind ml.0, []) → Met pa pb ma' mb'
  meets pa pb ma mb mt mj ml ma' mb' e1 e2 e3 e4 e5 e6 e7 = grind (arith, nat_tests)
