-- What a change of one listed object leaves.
use Rattle.mtapi_machine.proofs.Names.{◌≡◌, ℕ, Bool, true, false, cond, List, ◌∷◌, Some, refl, sym, ◌∙◌, ap, ◌==◌, ◌&&◌, Listed, live_of, lookup, live_object, change, update, with_fields, []}

pub some_same : {T : Type 0} {a b : T} → Some a ≡ Some b → a ≡ b
some_same h = cc

module _ {T : Type 0} where
  -- a change that changes nothing
  pub update-same : (h : ℕ) (f : T → T) (v : T) (l : List (Listed T)) → live_object l h ≡ Some v → f v ≡ v → update h f l ≡ l
  unfolding live_of change
  update-same h f v [] e s = refl
  update-same h f v (r ∷ rs) e s = by_live (λ k. update-same h f v rs k s) r.live refl e
    where
      by_handle : (live_object rs h ≡ Some v → update h f rs ≡ rs) → (b : Bool) → cond b (Some r.fields) (live_object rs h) ≡ Some v
          → cond b (with_fields f r ∷ rs) (r ∷ update h f rs) ≡ r ∷ rs
      by_handle rest true k = ap (λ (x : T). record { handle = r.handle; live = r.live; fields = x } ∷ rs) (ap f (some_same k) ∙ s ∙ sym (some_same k))
      by_handle rest false k = ap (λ (x : List (Listed T)). r ∷ x) (rest k)

      by_live : (live_object rs h ≡ Some v → update h f rs ≡ rs) → (a : Bool) → r.live ≡ a
          → lookup (cond a ((r.handle, r.fields) ∷ live_of rs) (live_of rs)) h ≡ Some v
          → cond (r.live && (r.handle == h)) (with_fields f r ∷ rs) (r ∷ update h f rs) ≡ r ∷ rs
      by_live rest true d k = (λ i. cond (d i && (r.handle == h)) (with_fields f r ∷ rs) (r ∷ update h f rs)) ∙ by_handle rest (r.handle == h) k
      by_live rest false d k = (λ i. cond (d i && (r.handle == h)) (with_fields f r ∷ rs) (r ∷ update h f rs)) ∙ ap (λ (x : List (Listed T)). r ∷ x) (rest k)

  -- a change of a live object is found at its handle
  pub at-update : (h : ℕ) (f : T → T) (v : T) (l : List (Listed T)) → live_object l h ≡ Some v → live_object (update h f l) h ≡ Some (f v)
  unfolding live_of change
  at-update h f v [] e = absurd (cc)
  at-update h f v (r ∷ rs) e = by_live (λ k. at-update h f v rs k) r.live e
    where
      lost : (live_object rs h ≡ Some v → live_object (update h f rs) h ≡ Some (f v)) → live_object rs h ≡ Some v → live_object (update h f rs) h ≡ Some (f v)
      lost rest k = rest k

      by_handle : (live_object rs h ≡ Some v → live_object (update h f rs) h ≡ Some (f v)) → (b : Bool) → (r.handle == h) ≡ b
          → cond b (Some r.fields) (live_object rs h) ≡ Some v →
          live_object (cond b (record { handle = r.handle; live = true; fields = f r.fields }
          ∷ rs) (record { handle = r.handle; live = true; fields = r.fields } ∷ update h f rs)) h ≡ Some (f v)
      by_handle rest true d k = (λ i. cond (d i) (Some (f r.fields)) (live_object rs h)) ∙ ap (λ x. Some (f x)) (some_same k)
      by_handle rest false d k = (λ i. cond (d i) (Some r.fields) (live_object (update h f rs) h)) ∙ rest k

      by_live : (live_object rs h ≡ Some v → live_object (update h f rs) h ≡ Some (f v)) → (a : Bool)
          → live_object (record { handle = r.handle; live = a; fields = r.fields } ∷ rs) h ≡ Some v →
          live_object (update h f (record { handle = r.handle; live = a; fields = r.fields } ∷ rs)) h ≡ Some (f v)
      by_live rest true k = by_handle rest (r.handle == h) refl k
      by_live rest false k = rest k
