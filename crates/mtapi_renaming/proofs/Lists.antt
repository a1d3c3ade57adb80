-- What a list of objects answers once its handles are others, and what its changes leave of the renaming.
use Rattle.mtapi_renaming.proofs.Names.{◌≡◌, ℕ, Bool, true, false, ◌&&◌, List, [], ◌∷◌, Some, refl, sym, ap, ◌==◌, option_map, eqb-true, eq-eqb, ObjectKind, Listed, live_of, live_object, any_listed, first_handle, count_listed, issue, change, change_all, inside, Apart, Agree, at-inside, count-inside, same_tests, Renaming, HasOtherName, IsOneToOne, renamed_list, HasEach, arith, nat_tests}
use Rattle.handle_pool.specs.Inside.{turned as turned_one}

-- two handles are told apart by their other ones, where the first has another
pub same_test : (g : Renaming) → IsOneToOne g → (k : ObjectKind) (a b : ℕ) → HasOtherName g k a → (g k a == g k b) ≡ (a == b)
same_test g one k a b has = same_tests (g k a == g k b) (a == b) (λ e. eq-eqb a b (one k a b has (eqb-true (g k a) (g k b) e)))
    (λ e. eq-eqb (g k a) (g k b) (ap (g k) (eqb-true a b e)))

module _ {T : Type 0} (g : Renaming) (one : IsOneToOne g) (k : ObjectKind) (f : T → T) (P : T → Type 0) where
  -- a handle of the list stands apart from any other handle
  pub apart : (h : ℕ) (l : List (Listed T)) → HasEach g k P l → Apart (g k) (λ i x. f x) h l
  apart h [] n = tt
  apart h (r ∷ rs) n = (λ e. one k r.handle h n.0.0 e, apart h rs n.1)

  -- the live object of a handle
  pub found-renamed : (h : ℕ) (l : List (Listed T)) → HasEach g k P l → live_object (renamed_list (g k) f l) (g k h) ≡ option_map f (live_object l h)
  found-renamed h l n = at-inside (g k) (λ i x. f x) h l (apart h l n)

  -- what is read of the live objects by a test
  module _ (q m : T → Bool) (same : (x : T) → P x → q (f x) ≡ m x) where
    pub same_any : (l : List (Listed T)) → HasEach g k P l → any_listed q (renamed_list (g k) f l) ≡ any_listed m l
    unfolding live_of inside
    same_any [] n = refl
    same_any (r ∷ rs) n = grind (arith, same r.fields n.0.1, same_any rs n.1)

    pub same_first : (l : List (Listed T)) → HasEach g k P l → first_handle q (live_of (renamed_list (g k) f l)) ≡ option_map (g k) (first_handle m (live_of l))
    unfolding live_of inside
    same_first [] n = refl
    same_first (r ∷ rs) n = grind (arith, same r.fields n.0.1, same_first rs n.1)

    pub same_count : (l : List (Listed T)) → HasEach g k P l → count_listed q (renamed_list (g k) f l) ≡ count_listed m l
    same_count l n = count-inside (g k) (λ i x. f x) (λ r. r.live && q r.fields) (λ r. r.live && m r.fields) l (agree l n)
      where
        agree : (xs : List (Listed T)) → HasEach g k P xs → Agree (g k) (λ i x. f x) (λ r. r.live && q r.fields) (λ r. r.live && m r.fields) xs
        agree [] n = tt
        agree (r ∷ rs) n = (ap (λ (b : Bool). r.live && b) (same r.fields n.0.1), agree rs n.1)

    -- every live object that passes changes
    pub change_all-renamed : (F G : Listed T → Listed T) → ((r : Listed T) → turned_one (g k) (λ i x. f x) (F r) ≡ G (turned_one (g k) (λ i x. f x) r)) →
        (l : List (Listed T)) → HasEach g k P l → renamed_list (g k) f (change_all m F l) ≡ change_all q G (renamed_list (g k) f l)
    unfolding change_all inside
    change_all-renamed F G to [] n = refl
    change_all-renamed F G to (r ∷ rs) n = grind (arith, to r, same r.fields n.0.1, change_all-renamed F G to rs n.1)

-- a handle that is another one's
pub record IsOther (g : Renaming) (k : ObjectKind) (other : ℕ) : Type 0 where
  pub own : ℕ
  pub has : HasOtherName g k own
  pub is : other ≡ g k own

module _ {T : Type 0} (g : Renaming) (k : ObjectKind) (P : T → Type 0) where
  -- so is each that names a live object of the renamed list
  pub found-other : (f : T → T) (h : ℕ) (x : T) (l : List (Listed T)) → HasEach g k P l → live_object (renamed_list (g k) f l) h ≡ Some x → IsOther g k h
  unfolding live_of inside
  found-other f h x [] n e = absurd (cc)
  found-other f h x (r ∷ rs) n e = elim (g k r.handle == h) as (λ b. (g k r.handle == h) ≡ b → IsOther g k h) [
    | true ↦
        λ i. record { own = r.handle; has = n.0.0; is = sym (eqb-true (g k r.handle) h i) }
    | false ↦ λ i. found-other f h x rs n.1 (grind arith)
  ] refl

  -- the live object of a handle, and the handle
  pub found-has : (h : ℕ) (x : T) (l : List (Listed T)) → HasEach g k P l → live_object l h ≡ Some x → HasOtherName g k h × P x
  unfolding live_of
  found-has h x [] n e = absurd (cc)
  found-has h x (r ∷ rs) n e = grind (arith, nat_tests, n.0.0, n.0.1, found-has h x rs n.1)

  -- the handle of the first live object that passes
  pub first-has : (m : T → Bool) (l : List (Listed T)) (h : ℕ) → HasEach g k P l → first_handle m (live_of l) ≡ Some h → HasOtherName g k h
  unfolding live_of
  first-has m [] h n e = absurd (cc)
  first-has m (r ∷ rs) h n e = grind (arith, n.0.0, first-has m rs h n.1)

  -- what the changes of a list leave of the renaming

  pub has-change : (h : ℕ) (F : Listed T → Listed T) → ((r : Listed T) → (F r).handle ≡ r.handle) → ((r : Listed T) → P r.fields → P (F r).fields)
      → (l : List (Listed T)) → HasEach g k P l → HasEach g k P (change h F l)
  unfolding change
  has-change h F same keeps [] n = tt
  has-change h F same keeps (r ∷ rs) n = grind (arith, same r, keeps r n.0.1, n.0, n.1, has-change h F same keeps rs n.1)

  pub has-change_all : (p : T → Bool) (F : Listed T → Listed T) → ((r : Listed T) → (F r).handle ≡ r.handle) → ((r : Listed T) → P r.fields → P (F r).fields)
      → (l : List (Listed T)) → HasEach g k P l → HasEach g k P (change_all p F l)
  unfolding change_all
  has-change_all p F same keeps [] n = tt
  has-change_all p F same keeps (r ∷ rs) n = grind (arith, same r, keeps r n.0.1, n.0, has-change_all p F same keeps rs n.1)

  pub has-issue : (h : ℕ) (v : T) (l : List (Listed T)) → HasOtherName g k h → P v → HasEach g k P l → HasEach g k P (issue h v l)
  unfolding issue
  has-issue h v [] some p n = ((some, p), tt)
  has-issue h v (r ∷ rs) some p n = (n.0, has-issue h v rs some p n.1)
