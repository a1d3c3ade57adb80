-- How a caller executes its statements, and its whole part.
use Rattle.std.proofs.lemmas.Bool.Decides.{nat_tests}
use Rattle.workload_runners.proofs.Names.{[], ◌++◌, ◌∷◌, ◌≡◌, ◌≤◌, AddsOwn, Bool, CallerAs, Carried, CarriedAs, EntersAs, Entrance, Initialize, List, NodeLooked, Looking, MadeAs, MainAs, NodeEntry, None, Once, Op, OpensAs, Release, Reply, Seat, StatedAs, Statement, Timeout, NodeTurned, Wanted, ap, append-nil, append_assoc, arith, call_of, entry, false, handle_of, has_begin, if◌then◌else◌, is_ok, length, looks_of, op_of_look, refl, subst, suc, sym, take, true, waits, zero, ℕ}
use Rattle.workload_runners.proofs.Adds.{adds_none, adds_then, adds_as}

pub stated_once : (old new : Seat) (o : Op) (r : Reply) (h : ℕ) → h ≡ handle_of r → NodeTurned old o r new → AddsOwn (StatedAs (Once o) h) old new
stated_once old new o r h e t = record { same = t.same; own = _; mine = t.mine; is = record { reply = r; made = refl; is = e } }

-- the statements so far: what is left may follow
pub record SoFar (bound now : List ℕ) (done : List Statement) (w : ℕ) (own : List NodeEntry) : Type 0 where
  pub replies : List Reply
  pub goes : (rest : List Statement) (es : List NodeEntry) (rs : List Reply) → Carried (MadeAs w) now rest es rs
      → Carried (MadeAs w) bound (done ++ rest) (own ++ es) (replies ++ rs)

pub none_so_far : (a : Seat) (bound : List ℕ) → AddsOwn (SoFar bound bound []) a a
none_so_far a bound = adds_none (SoFar bound bound []) a (record { replies = []; goes = λ rest es rs c. c })

pub more_so_far : (a b c : Seat) (bound now : List ℕ) (done : List Statement) (s : Statement) (h : ℕ) → AddsOwn (SoFar bound now done) a b
    → AddsOwn (StatedAs (call_of now s.deed) h) b c → AddsOwn (SoFar bound (now ++ h ∷ []) (done ++ s ∷ [])) a c
unfolding Carried
more_so_far a b c bound now done s h x y =
    adds_then (SoFar bound (now ++ h ∷ []) (done ++ s ∷ [])) (SoFar bound now done) (StatedAs (call_of now s.deed) h) a b c x y (λ xs ys p q. record {
      replies = p.replies ++ q.reply ∷ [];
      goes = λ rest es rs more.
          subst (λ (ss : List Statement). Carried (MadeAs a.number) bound ss ((xs ++ ys) ++ es) ((p.replies ++ q.reply ∷ []) ++ rs))
          (sym (append_assoc done (s ∷ []) rest))
          (subst (λ (us : List NodeEntry). Carried (MadeAs a.number) bound (done ++ s ∷ rest) us ((p.replies ++ q.reply ∷ []) ++ rs))
          (sym (append_assoc xs ys es))
          (subst (λ (qs : List Reply). Carried (MadeAs a.number) bound (done ++ s ∷ rest) (xs ++ (ys ++ es)) qs)
          (sym (append_assoc p.replies (q.reply ∷ []) rs))
          (p.goes (s ∷ rest) (ys ++ es) (q.reply ∷ rs)
          (ys, es, refl, q.made, subst (λ (n : ℕ). Carried (MadeAs a.number) (now ++ n ∷ []) rest es rs) q.is more))));
    })

pub carried_out : (a b : Seat) (bound now : List ℕ) (done : List Statement) → AddsOwn (SoFar bound now done) a b → AddsOwn (CarriedAs bound done) a b
unfolding Carried
carried_out a b bound now done x = adds_as (CarriedAs bound done) (SoFar bound now done) a b x (λ es p. record {
  replies = p.replies;
  carried =
      subst (λ (qs : List Reply). Carried (MadeAs a.number) bound done es qs) (append-nil p.replies)
      (subst (λ (us : List NodeEntry). Carried (MadeAs a.number) bound done us (p.replies ++ [])) (append-nil es)
      (subst (λ (ss : List Statement). Carried (MadeAs a.number) bound ss (es ++ []) (p.replies ++ [])) (append-nil done) (p.goes [] [] [] refl)));
})

pub all_taken : (ss : List Statement) (i : ℕ) → length ss ≤ i → take i ss ≡ ss
all_taken [] zero l = refl
all_taken [] (suc i) l = refl
all_taken (x ∷ ss) zero l = absurd (omega (arith, l))
all_taken (x ∷ ss) (suc i) l = ap (λ k. x ∷ k) (all_taken ss i (omega (arith, l)))

-- Main's part

-- A further caller's part

pub enters : (a b : Seat) (r : Reply) → NodeLooked Entrance None a b r → AddsOwn (EntersAs r) a b
enters a b r l = record { same = l.same; own = _; mine = l.mine; is = record { pending = l.pending; is = refl; decides = l.decides l.bound } }

pub refused_adds : (ss : List Statement) (a b : Seat) (r : Reply) → is_ok r ≡ false → NodeLooked Entrance None a b r → AddsOwn (CallerAs ss) a b
unfolding Carried
refused_adds ss a b r e l = adds_as (CallerAs ss) (EntersAs r) a b (enters a b r l)
    (λ es p. record {
      reply = r;
      front = es;
      own = [];
      is = sym (append-nil es);
      enters = p;
      carried = subst (λ (d : Bool). CarriedAs [] (if d then ss else []) a.number []) (sym e) (record { replies = []; carried = refl });
    })
