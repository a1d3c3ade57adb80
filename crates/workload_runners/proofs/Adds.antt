-- One part's entries behind another's.
use Rattle.workload_runners.proofs.Names.{[], ◌++◌, ◌∙◌, ◌∷◌, ◌≡◌, AddsOwn, AllZip, HasSeenMore, List, NodeEntry, SameNodeSeat, Seat, ap, append-nil, append_assoc, refl, subst, sym, ℕ}

pub same_seat : (a : Seat) → SameNodeSeat a a
same_seat a = record { cell = refl; number = refl; terms = refl }

pub same_then : (a b c : Seat) → SameNodeSeat a b → SameNodeSeat b c → SameNodeSeat a c
same_then a b c s t = record { cell = t.cell ∙ s.cell; number = t.number ∙ s.number; terms = t.terms ∙ s.terms }

-- entries that depend on the seat's number, behind others
pub mine_then : (a b c : Seat) (f g : ℕ → List NodeEntry) → SameNodeSeat a b → b.mine ≡ a.mine ++ f a.number → c.mine ≡ b.mine ++ g b.number
    → c.mine ≡ a.mine ++ (f a.number ++ g a.number)
mine_then a b c f g s p q =
    q ∙ (ap (λ (n : ℕ). b.mine ++ g n) s.number ∙ (ap (λ (m : List NodeEntry). m ++ g a.number) p ∙ append_assoc a.mine (f a.number) (g a.number)))

module _ (R : ℕ → List NodeEntry → Type 0) where
  pub adds_none : (a : Seat) → R a.number [] → AddsOwn R a a
  adds_none a r = record { same = same_seat a; own = []; mine = sym (append-nil a.mine); is = r }

  pub adds_then : (P Q : ℕ → List NodeEntry → Type 0) (a b c : Seat) → AddsOwn P a b → AddsOwn Q b c
      → ((xs ys : List NodeEntry) → P a.number xs → Q a.number ys → R a.number (xs ++ ys)) → AddsOwn R a c
  adds_then P Q a b c x y f = record {
    same = same_then a b c x.same y.same;
    own = x.own ++ y.own;
    mine = y.mine ∙ (ap (λ (m : List NodeEntry). m ++ y.own) x.mine ∙ append_assoc a.mine x.own y.own);
    is = f x.own y.own x.is (subst (λ (n : ℕ). Q n y.own) x.same.number y.is);
  }

  pub adds_as : (P : ℕ → List NodeEntry → Type 0) (a b : Seat) → AddsOwn P a b → ((es : List NodeEntry) → P a.number es → R a.number es) → AddsOwn R a b
  adds_as P a b x f = record { same = x.same; own = x.own; mine = x.mine; is = f x.own x.is }

  -- where it had none, its entries are these
  pub all_own : (a b : Seat) → a.mine ≡ [] → AddsOwn R a b → R a.number b.mine
  all_own a b none x = subst (λ (l : List NodeEntry). R a.number l) (sym (x.mine ∙ ap (λ (l : List NodeEntry). l ++ x.own) none)) x.is

  pub adds_more : (a b c : Seat) → AddsOwn R a b → HasSeenMore b c → AddsOwn R a c
  adds_more a b c x m = record {
    same = same_then a b c x.same (record { cell = m.cell; number = m.number; terms = m.terms });
    own = x.own;
    mine = m.mine ∙ x.mine;
    is = x.is;
  }

  pub all_more : (xs ys zs : List Seat) → AllZip (AddsOwn R) xs ys → AllZip HasSeenMore ys zs → AllZip (AddsOwn R) xs zs
  all_more [] [] [] a b = tt
  all_more [] [] (z ∷ zs) a b = absurd b
  all_more [] (y ∷ ys) zs a b = absurd a
  all_more (x ∷ xs) [] zs a b = absurd a
  all_more (x ∷ xs) (y ∷ ys) [] a b = absurd b
  all_more (x ∷ xs) (y ∷ ys) (z ∷ zs) a b = (adds_more x y z a.0 b.0, all_more xs ys zs a.1 b.1)
