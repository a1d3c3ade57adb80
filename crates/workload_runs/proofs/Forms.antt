-- From one form to another: what a seat makes, told in the one, is told in the other.
use Rattle.workload_runs.proofs.Names.{◌≡◌, ℕ, Bool, List, [], ◌∷◌, ◌++◌, refl, sym, ◌∙◌, ap, subst, append_assoc, Deed, Statement, Reply, handle_of, call_of, has_begin, Form, MainRan, CallerRan}
use Rattle.std.proofs.lemmas.List.{append-nil}
use Rattle.workload_runs.specs.Parts.{Carried}

-- Places in what the one form tells: at each of them these are left of the one form, and all this of the other
module _ {E F K : Type 0} (left : K → List E → Type 0) (whole : K → List F) where
  -- from one place to another, at which these are left
  pub record Told (k : K) (rest : List E) (P : List F → Type 0) : Type 0 where
    pub front : List F
    pub behind : K
    pub is : whole k ≡ front ++ whole behind
    pub shows : P front
    pub left_is : left behind rest

  pub told_as : (k : K) (rest : List E) (P Q : List F → Type 0) → ((fs : List F) → P fs → Q fs) → Told k rest P → Told k rest Q
  told_as k rest P Q f x = record { front = x.front; behind = x.behind; is = x.is; shows = f x.front x.shows; left_is = x.left_is }

  pub told_then : (k : K) (mid rest : List E) (P Q R : List F → Type 0) → ((xs ys : List F) → P xs → Q ys → R (xs ++ ys)) → (x : Told k mid P)
      → Told x.behind rest Q → Told k rest R
  told_then k mid rest P Q R f x y = record {
    front = x.front ++ y.front;
    behind = y.behind;
    is = x.is ∙ (ap (λ (l : List F). x.front ++ l) y.is ∙ sym (append_assoc x.front y.front (whole y.behind)));
    shows = f x.front y.front x.shows y.shows;
    left_is = y.left_is;
  }

  module _ (from : Form E) (to : Form F) where
    -- each piece that the one form tells, the other tells
    pub record Tells : Type 0 where
      pub made : (bound : List ℕ) (d : Deed) (es : List E) (r : Reply) → from.made (call_of bound d) es r → (k : K) (rest : List E) → left k (es ++ rest)
          → Told k rest (λ fs. to.made (call_of bound d) fs r)
      pub head : (b : Bool) (k : K) (rest : List E) → left k (from.head b ++ rest) → Told k rest (λ fs. fs ≡ to.head b)
      pub tail : (k : K) → left k from.tail → whole k ≡ to.tail
      pub entered : (es : List E) → from.entrance es → (k : K) (rest : List E) → left k (es ++ rest) → Told k rest to.entrance
      pub none : (k : K) → left k [] → whole k ≡ []

    module _ (t : Tells) where
      carried_told : (bound : List ℕ) (ss : List Statement) (es : List E) (rs : List Reply) → Carried from.made bound ss es rs → (k : K) (rest : List E)
          → left k (es ++ rest) → Told k rest (λ fs. Carried to.made bound ss fs rs)
      unfolding Carried
      carried_told bound [] es [] c k rest l =
          record { front = []; behind = k; is = refl; shows = refl; left_is = subst (λ (u : List E). left k (u ++ rest)) c l }
      carried_told bound [] es (r ∷ rs) c k rest l = absurd c
      carried_told bound (s ∷ ss) es [] c k rest l = absurd c
      carried_told bound (s ∷ ss) es (r ∷ rs) c k rest l =
          let x = t.made bound s.deed c.0 r c.3 k (c.1 ++ rest) (subst (left k) (ap (λ (u : List E). u ++ rest) c.2 ∙ append_assoc c.0 c.1 rest) l) in
          let y = carried_told (bound ++ handle_of r ∷ []) ss c.1 rs c.4 x.behind rest x.left_is in
          told_then k (c.1 ++ rest) rest _ _ (λ (fs : List F). Carried to.made bound (s ∷ ss) fs (r ∷ rs)) (λ xs ys a b. (xs, ys, refl, a, b)) x y

      pub main_told : (ss : List Statement) (es : List E) (rs : List Reply) → MainRan from ss es rs → (k : K) → left k es → MainRan to ss (whole k) rs
      main_told ss es rs m k l =
          let h = t.head (has_begin ss) k (m.body ++ from.tail) (subst (left k) m.is l) in
          let x = carried_told [] ss m.body rs m.carried h.behind from.tail h.left_is in
          let rest : whole h.behind ≡ x.front ++ to.tail = x.is ∙ ap (λ (u : List F). x.front ++ u) (t.tail x.behind x.left_is) in
          record { body = x.front; is = h.is ∙ (λ i. h.shows i ++ rest i); carried = x.shows }

      pub caller_told : (ss : List Statement) (es : List E) (rs : List Reply) → CallerRan from ss es rs → (k : K) → left k es → CallerRan to ss (whole k) rs
      caller_told ss es rs m k l =
          let f = t.entered m.front m.entered k m.body (subst (left k) m.is l) in
          let x = carried_told [] ss m.body rs m.carried f.behind [] (subst (left f.behind) (sym (append-nil m.body)) f.left_is) in
          let rest : whole f.behind ≡ x.front = x.is ∙ (ap (λ (u : List F). x.front ++ u) (t.none x.behind x.left_is) ∙ append-nil x.front) in
          record { front = f.front; body = x.front; entered = f.shows; is = f.is ∙ ap (λ (u : List F). f.front ++ u) rest; carried = x.shows }
