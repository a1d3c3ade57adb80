-- What a meeting leaves: each seat has the entries that it had.
use Rattle.workload_runners.proofs.Names.{[], ◌++◌, ◌+◌, ◌<◌, ◌∙◌, ◌∷◌, ◌≡◌, ◌≤◌, All, AllZip, AreMet, Cell, HasSeenMore, MainKnows, List, NodeEntry, Seat, StartsWith, AllItems, ap, append-nil, append_assoc, arith, dite, entries_of, get_or, length, length-set, refl, set, subst, suc, sym, zero, ℕ, ℕ_discrete}

pub seen_nothing_more : (a : Seat) → HasSeenMore a a
seen_nothing_more a = record { cell = refl; number = refl; terms = refl; seen = ([], sym (append-nil a.seen)); mine = refl; shown = refl }

pub starts_then : (a b c : List NodeEntry) → StartsWith b a → StartsWith c b → StartsWith c a
starts_then a b c x y = (x.0 ++ y.0, y.1 ∙ (ap (λ (l : List NodeEntry). l ++ y.0) x.1 ∙ append_assoc a x.0 y.0))

pub seen_then : (a b c : Seat) → HasSeenMore a b → HasSeenMore b c → HasSeenMore a c
seen_then a b c x y = record {
  cell = y.cell ∙ x.cell;
  number = y.number ∙ x.number;
  terms = y.terms ∙ x.terms;
  seen = starts_then a.seen b.seen c.seen x.seen y.seen;
  mine = y.mine ∙ x.mine;
  shown = y.shown ∙ x.shown;
}

pub knows_more : (m n s : Seat) → HasSeenMore m n → MainKnows m s → MainKnows n s
knows_more m n s h k = record { prefix = k.prefix; begins = starts_then k.prefix m.seen n.seen k.begins h.seen; own = k.own }

module _ {X Y : Type 0} where
  pub zip_of : (R : X → Y → Type 0) (xs : List X) (ys : List Y) → length ys ≡ length xs
      → ((k : ℕ) (d : X) (e : Y) → k < length xs → R (get_or xs k d) (get_or ys k e)) → AllZip R xs ys
  zip_of R [] [] l f = tt
  zip_of R [] (y ∷ ys) l f = absurd (omega arith)
  zip_of R (x ∷ xs) [] l f = absurd (omega arith)
  zip_of R (x ∷ xs) (y ∷ ys) l f = (f 0 x y (omega arith), zip_of R xs ys (omega arith) (λ k d e h. f (suc k) d e (omega arith)))

  pub zip_front : (R : X → Y → Type 0) (xs zs : List X) (ws : List Y) → AllZip R (xs ++ zs) ws
      → (us : List Y) × (vs : List Y) × (ws ≡ us ++ vs) × AllZip R xs us × AllZip R zs vs
  zip_front R [] zs ws a = ([], ws, refl, tt, a)
  zip_front R (x ∷ xs) zs [] a = absurd a
  zip_front R (x ∷ xs) zs (w ∷ ws) a = let r = zip_front R xs zs ws a.1 in (w ∷ r.0, r.1, ap (λ (l : List Y). w ∷ l) r.2, (a.0, r.3), r.4)

pub each_of : {X : Type 0} (F : X → Type 0) (xs : List X) → All F xs → AllItems F xs
each_of F [] a = tt
each_of F (x ∷ xs) a = (a 0 x (omega arith), each_of F xs (λ k d h. a (suc k) d (omega arith)))

pub met_zip : {old new : Seat} {before after : List Seat} → AreMet old new before after → AllZip HasSeenMore before after
met_zip {old} {new} {before} {after} m = zip_of HasSeenMore before after m.len m.others

-- what main knows of seats, it knows of them after they have met others
pub known_more : (m : Seat) (ys zs : List Seat) → AllItems (MainKnows m) ys → AllZip HasSeenMore ys zs → AllItems (MainKnows m) zs
known_more m [] [] a b = tt
known_more m [] (z ∷ zs) a b = absurd b
known_more m (y ∷ ys) [] a b = absurd b
known_more m (y ∷ ys) (z ∷ zs) a b = (
  record { prefix = a.0.prefix; begins = a.0.begins; own = (ap (λ (n : ℕ). entries_of n a.0.prefix) b.0.number ∙ a.0.own) ∙ sym b.0.mine },
  known_more m ys zs a.1 b.1,
)

-- One seat after the other

set_same : (ys : List Seat) (n : ℕ) (s e : Seat) → n < length ys → get_or (set ys n s) n e ≡ s
set_same [] n s e l = absurd (omega arith)
set_same (y ∷ ys) zero s e l = refl
set_same (y ∷ ys) (suc n) s e l = set_same ys n s e (omega arith)

set_other : (ys : List Seat) (n k : ℕ) (s e : Seat) → (k ≡ n → ⊥) → get_or (set ys n s) k e ≡ get_or ys k e
set_other [] n k s e ne = refl
set_other (y ∷ ys) zero zero s e ne = absurd (ne refl)
set_other (y ∷ ys) zero (suc k) s e ne = refl
set_other (y ∷ ys) (suc n) zero s e ne = refl
set_other (y ∷ ys) (suc n) (suc k) s e ne = set_other ys n k s e (λ q. ne (ap suc q))

-- main met the first n of these seats
pub record MetSoFar (old new : Seat) (before after : List Seat) (n : ℕ) : Type 0 where
  pub main : HasSeenMore old new
  pub len : length after ≡ length before
  pub others : (k : ℕ) (d e : Seat) → k < length before → HasSeenMore (get_or before k d) (get_or after k e)
  pub knows : (k : ℕ) (d : Seat) → k < n → k < length after → MainKnows new (get_or after k d)

same_at : (xs : List Seat) (k : ℕ) (d e : Seat) → k < length xs → get_or xs k d ≡ get_or xs k e
same_at [] k d e l = absurd (omega arith)
same_at (x ∷ xs) zero d e l = refl
same_at (x ∷ xs) (suc k) d e l = same_at xs k d e (omega arith)

pub met_none : (m : Seat) (xs : List Seat) → MetSoFar m m xs xs 0
met_none m xs = record {
  main = seen_nothing_more m;
  len = refl;
  others = λ k d e l. subst (λ (s : Seat). HasSeenMore (get_or xs k d) s) (same_at xs k d e l) (seen_nothing_more (get_or xs k d));
  knows = λ k d l h. absurd (omega arith);
}

pub met_more : (a m m' s s' : Seat) (xs ys zs : List Seat) (n : ℕ) → MetSoFar a m xs ys n → n < length ys → s ≡ get_or ys n s → HasSeenMore m m'
    → HasSeenMore s s' → m'.seen ≡ s'.seen → entries_of s'.number s'.seen ≡ s'.mine → zs ≡ set ys n s' → MetSoFar a m' xs zs (n + 1)
met_more a m m' s s' xs ys zs n x l at more other one own is =
    let long : length zs ≡ length ys = ap (λ (v : List Seat). length v) is ∙ length-set ys n s' in
    record {
      main = seen_then a m m' x.main more;
      len = long ∙ x.len;
      others = λ k d e h. subst (λ (v : List Seat). HasSeenMore (get_or xs k d) (get_or v k e)) (sym is)
          (dite (ℕ_discrete k n) (λ q. at_place k d e h q)
          (λ q. subst (λ (w : Seat). HasSeenMore (get_or xs k d) w) (sym (set_other ys n k s' e q)) (x.others k d e h)));
      knows = λ k d h j. subst (λ (v : List Seat). MainKnows m' (get_or v k d)) (sym is)
          (dite (ℕ_discrete k n) (λ q. known_place k d q)
          (λ q. subst (λ (w : Seat). MainKnows m' w) (sym (set_other ys n k s' d q))
          (knows_more m m' (get_or ys k d) more (x.knows k d (omega arith) (omega arith)))));
    }
  where
    at_place : (k : ℕ) (d e : Seat) → k < length xs → k ≡ n → HasSeenMore (get_or xs k d) (get_or (set ys n s') k e)
    at_place k d e h q =
        let here : get_or ys k s ≡ s = ap (λ (j : ℕ). get_or ys j s) q ∙ sym at in
        let there : get_or (set ys n s') k e ≡ s' = ap (λ (j : ℕ). get_or (set ys n s') j e) q ∙ set_same ys n s' e l in
        subst (λ (w : Seat). HasSeenMore (get_or xs k d) w) (sym there)
        (seen_then (get_or xs k d) s s' (subst (λ (w : Seat). HasSeenMore (get_or xs k d) w) here (x.others k d s h)) other)

    known_place : (k : ℕ) (d : Seat) → k ≡ n → MainKnows m' (get_or (set ys n s') k d)
    known_place k d q =
        let there : get_or (set ys n s') k d ≡ s' = ap (λ (j : ℕ). get_or (set ys n s') j d) q ∙ set_same ys n s' d l in
        subst (λ (w : Seat). MainKnows m' w) (sym there) (record { prefix = s'.seen; begins = ([], one ∙ sym (append-nil s'.seen)); own = own })

pub met_all : (a m : Seat) (xs ys : List Seat) (n : ℕ) → length ys ≤ n → MetSoFar a m xs ys n → AreMet a m xs ys
met_all a m xs ys n l x = record { main = x.main; len = x.len; others = x.others; knows = λ k d h. x.knows k d (omega arith) h }

pub of_met : (z : Cell) (a m : Seat) (xs ys : List Seat) → AreMet a m xs ys → All (λ (s : Seat). s.cell ≡ z.id) xs → All (λ (s : Seat). s.cell ≡ z.id) ys
of_met z a m xs ys x all = λ k d h. let n = x.len in (x.others k d d (omega arith)).cell ∙ all k d (omega arith)
