-- All seats in one, and what the table then holds.
use Rattle.std.proofs.lemmas.Bool.Decides.{nat_tests}
use Rattle.turn_cell.proofs.Names.{◌≡◌, ◌≢◌, ℕ, suc, ◌<◌, ◌==◌, inl, inr, ⊎_elim, List, [], ◌∷◌, ◌++◌, length, set, sym, refl, ap, ◌∙◌, subst, arith, Option, Some, dite, ℕ_discrete, none, some, some-injective, get_elem?, State, Me, Final, Seen, TableId, at_set, Entry, Part, entries_of, total_by, AllItems, one_if, SeatView, IsComplete, IsSeatOf, view_of, IsPartOf, within, is_idle, Gathers, holds_turn, has_number, has_turn, count, FitsPart, Invariant}
use mathlib.Core.Option.{Option as Maybe}
use Rattle.turn_cell.proofs.Counting.{one_same, total-set, total-append, two_of_total}

module _ {A : Type 0} where
  pub all_then : (G : A → Type 0) (v w : List A) → AllItems G v → AllItems G w → AllItems G (v ++ w)
  all_then G [] w a b = b
  all_then G (x ∷ v) w a b = (a.0, all_then G v w a.1 b)

  pub all_before : (G : A → Type 0) (v w : List A) → AllItems G (v ++ w) → AllItems G v
  all_before G [] w a = tt
  all_before G (x ∷ v) w a = (a.0, all_before G v w a.1)

  pub all_after : (G : A → Type 0) (v w : List A) → AllItems G (v ++ w) → AllItems G w
  all_after G [] w a = a
  all_after G (x ∷ v) w a = all_after G v w a.1

  pub all_also : (G H : A → Type 0) (v : List A) → ((x : A) → G x → H x) → AllItems G v → AllItems H v
  all_also G H [] h a = tt
  all_also G H (x ∷ v) h a = (h x a.0, all_also G H v h a.1)

  find : (f : A → ℕ) (l : List A) → 0 < total_by f l → (i : ℕ) × (x : A) × (get_elem? l i ≡ some x) × (0 < f x)
  find f [] h = absurd (omega arith)
  find f (x ∷ l) h = dite (ℕ_discrete (f x) 0) (λ z. let r = find f l (omega arith) in (suc r.0, r.1, r.2, r.3)) (λ nz. (0, x, refl, omega arith))

module _ {T P Q : Type 0} where
  within_more : (v w : List (Part T P Q)) (f : SeatView T P Q) → within v f → within (v ++ w) f
  within_more [] w f h = absurd h
  within_more (p ∷ v) w f h = ⊎_elim (λ (a : IsPartOf f p). inl a) (λ (b : within v f). inr (within_more v w f b)) h

  within_last : (v w : List (Part T P Q)) (f : SeatView T P Q) → within w f → within (v ++ w) f
  within_last [] w f h = h
  within_last (p ∷ v) w f h = inr (within_last v w f h)

  more_at : (v : List (Part T P Q)) (p : Part T P Q) (f : SeatView T P Q) (popped : List (SeatView T P Q)) → is_idle p → IsPartOf f p → Gathers popped v
      → Gathers (f ∷ popped) (v ++ p ∷ [])
  more_at v p f popped idle same g = record {
    idle = all_then is_idle v (p ∷ []) g.idle (idle, tt);
    numbers = λ k. let a = total-append (has_number k) v (p ∷ []) in let b = g.numbers k in let c : has_number k p ≡ one_if (f.number == k) =
        ap (λ (n : ℕ). one_if (n == k)) same.0 in omega arith;
    all = (within_last v (p ∷ []) f (inl same), all_also (within v) (within (v ++ p ∷ [])) popped (within_more v (p ∷ [])) g.all);
  }

  pub gathers_more : {O : Type 0} (d : T) (z : TableId) (v v' : List (Part T P Q)) (m : Me O (List (Part T P Q))) (p : Part T P Q) (f : SeatView T P Q)
      (popped : List (SeatView T P Q)) → m ≡ (p ∷ [], []) → is_idle p → view_of d z m.0 ≡ f → v' ≡ v ++ m.0 → Gathers popped v → Gathers (f ∷ popped) v'
  gathers_more {O} d z v v' m p f popped is idle view joined g =
      let view : view_of d z (p ∷ []) ≡ f = ap (λ (m : Me O (List (Part T P Q))). view_of d z m.0) (sym is) ∙ view in
      let whole : v ++ p ∷ [] ≡ v' = ap (λ (m : Me O (List (Part T P Q))). v ++ m.0) (sym is) ∙ sym joined in
      subst (Gathers (f ∷ popped)) whole (more_at v p f popped idle (
        ap (λ (x : SeatView T P Q). x.number) view,
        ap (λ (x : SeatView T P Q). x.terms) view,
        ap (λ (x : SeatView T P Q). x.seen) view,
        ap
            (λ (x : SeatView T P Q). x.mine) view,
      ) g)

  none_holds : (h : ℕ) (v : List (Part T P Q)) → AllItems is_idle v → total_by (has_turn h) v ≡ 0
  none_holds h [] a = refl
  none_holds h (p ∷ v) a = let here : has_turn h p ≡ 0 = ap (holds_turn h) a.0 in let rest = none_holds h v a.1 in omega arith

module _ {O T P Q : Type 0} (terms_of : O → T) (seat_count : T → ℕ) (legal : T → List (Entry P Q) → Type 0) (stands : O → List (Entry P Q) → Type 0) where
  abbrev D : Type 0
  D = Part T P Q

  abbrev S : Type 0
  S = State (Option O) (List D)

  abbrev F : T → List (Entry P Q) → ℕ → D → Type 0
  F = FitsPart terms_of seat_count legal stands

  abbrev K : T → S → Type 0
  K = Invariant terms_of seat_count legal stands

  holder : (t : T) (h : List (Entry P Q)) (n : ℕ) (w : List D) → AllItems (F t h n) w → 0 < total_by (has_turn (length h)) w
      → (k : ℕ) × (k < seat_count t) × (0 < total_by (has_number k) w)
  holder t h n [] a out = absurd (omega arith)
  holder t h n (p ∷ w) a out = dite (ℕ_discrete (has_turn (length h) p) 0)
      (λ z. let r = holder t h n w a.1 (omega arith) in (r.0, r.1, omega arith))
      (λ nz. let one = one_same p.number p.number refl in (p.number, a.0.number, omega arith))

  -- who has each seat's part, and holds no turn, knows that the object is at home
  at_home : (t : T) (s : S) (r : K t s) (id : ℕ) (v : List D) → get_elem? s.views id ≡ some v → AllItems is_idle v
      → ((k : ℕ) → k < seat_count t → 0 < total_by (has_number k) v)
      → (o : O) × (s.homes ≡ some (Some o) ∷ []) × stands o r.history × (terms_of o ≡ t)
  at_home t s r id v at idle complete = ⊎_elim
      (λ (z : (o : O) × (s.homes ≡ some (Some o) ∷ []) × stands o r.history × (terms_of o ≡ t)). z)
      (λ (z : (s.homes ≡ none ∷ []) × (0 < count (has_turn (length r.history)) s.views)).
      let h : ℕ = length r.history in
      let less = total-set (total_by (has_turn h)) s.views id v [] at in
      let none_here = none_holds h v idle in
      let out = z.1 in
      let other = find (total_by (has_turn h)) (set s.views id []) (omega arith) in
      let i : ℕ = other.0 in let w : List D = other.1 in let holds = other.3 in
      ⊎_elim
      (λ (y : (i ≡ id) × ([] ≡ w)). let empty : total_by (has_turn h) w ≡ 0 = ap (total_by (has_turn h)) (sym y.1) in absurd (omega arith))
      (λ (y : (i ≢ id) × (get_elem? s.views i ≡ some w)).
      let who = holder t r.history r.tickets w (r.each i w y.1) holds in
      let two = two_of_total (total_by (has_number who.0)) s.views i id w v y.0 y.1 at in
      let mine = complete who.0 who.1 in let theirs = who.2 in let most = r.numbers who.0 in
      absurd (omega arith))
      (at_set s.views id i [] w other.2))
      r.place

  of_seat : (t : T) (h : List (Entry P Q)) (n : ℕ) (v : List D) (f : SeatView T P Q) → AllItems (F t h n) v → within v f → IsSeatOf t h f
  of_seat t h n [] f a w = absurd w
  of_seat t h n (p ∷ v) f a w = grind (arith, nat_tests, of_seat t h n v f a.1, entries_of)

  pub record Ended (t : T) (seats : List (SeatView T P Q)) (y : Option O) : Type 0 where
    pub object : O
    pub is : y ≡ Some object
    pub history : List (Entry P Q)
    pub terms : terms_of object ≡ t
    pub lawful : legal t history
    pub stood : stands object history
    pub all : AllItems (IsSeatOf t history) seats

  pub ends : (t : T) (id : ℕ) (v : List D) (seats : List (SeatView T P Q)) (ws : List ℕ) (xs : List (Option O)) (y : Option O) → Gathers seats v
      → IsComplete (seat_count t) seats
      → Final (Seen (K t) id v) ws xs → get_elem? xs 0 ≡ some y → Ended t seats y
  ends t id v seats ws xs y g complete final after_take =
      let s : S = final.0 in
      let r : K t s = final.1.0 in
      let at = final.1.1 in
      let home = at_home t s r id v at g.idle (λ k below. let all = complete k below in let same = g.numbers k in omega arith) in
      let there : get_elem? xs 0 ≡ some (Some home.0) = final.4 0 (Some home.0) (ap (λ (hs : List (Maybe (Option O))). get_elem? hs 0) home.1) in
      record {
        object = home.0;
        is = some-injective y (Some home.0) (sym after_take ∙ there);
        history = r.history;
        terms = home.3;
        lawful = r.lawful;
        stood = home.2;
        all = all_also (within v) (IsSeatOf t r.history) seats (λ f w. of_seat t r.history r.tickets v f (r.each id v at) w) g.all;
      }
