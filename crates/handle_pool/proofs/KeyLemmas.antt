-- Live values by a key: what a list of issued objects answers for one, from the slots that stand for it.
use Rattle.handle_pool.proofs.Names.{◌≡◌, ℕ, true, false, List, Some, None, sym, ◌∙◌, ◌==◌, eqb-true, eq-eqb, Slots, slot_value, SomeLive, NoneLive, HasLive, OneEach, Listed, live_of, any_listed, first_handle, Stands}
use Rattle.handle_pool.proofs.AnswerLemmas.{any-live, any-none, first_live-only, first_live-absent}

module _ {T : Type 0} (key : T → ℕ) where
  -- some live object has the key
  pub any-key : (p : Slots T) (l : List (Listed T)) (id : ℕ) → Stands p l → SomeLive (slot_value p) (λ v. key v ≡ id) → any_listed (λ v. key v == id) l ≡ true
  any-key p l id stands some = any-live p l (λ v. key v == id) some.0 some.1 stands some.2 (eq-eqb (key some.1) id some.3)

  -- none has it
  pub any-no_key : (p : Slots T) (l : List (Listed T)) (id : ℕ) → Stands p l → NoneLive (slot_value p) (λ v. key v ≡ id)
      → any_listed (λ v. key v == id) l ≡ false
  any-no_key p l id stands none = any-none p l (λ v. key v == id) stands (λ h v found same. none h v found (eqb-true (key v) id same))

  -- the live object with the key, where no two have one
  pub first_live-key : (p : Slots T) (l : List (Listed T)) (id h : ℕ) → Stands p l → OneEach key p → HasLive p h (λ v. key v ≡ id)
      → first_handle (λ v. key v == id) (live_of l) ≡ Some h
  first_live-key p l id h stands each has =
      first_live-only p l (λ v. key v == id) h has.0 stands has.1 (eq-eqb (key has.0) id has.2)
      (λ k w found same. each.only k h w has.0 found has.1 (eqb-true (key w) id same ∙ sym has.2))

  pub first_live-no_key : (p : Slots T) (l : List (Listed T)) (id : ℕ) → Stands p l → NoneLive (slot_value p) (λ v. key v ≡ id)
      → first_handle (λ v. key v == id) (live_of l) ≡ None
  first_live-no_key p l id stands none = first_live-absent p l (λ v. key v == id) stands (λ h v found same. none h v found (eqb-true (key v) id same))
