-- Lists of the same handles, in the same order: what is read of the handles alone is the same.
use Rattle.mtapi_renaming.proofs.Names.{◌≡◌, ℕ, suc, ◌+◌, Bool, false, ◌&&◌, cond, List, [], ◌∷◌, length, refl, ap, ◌==◌, not, TaskEnd, slot_of, Listed, how_many, change, change_all, with_fields, gone, listed, issued_at, Task, is_unended, end_each, ended, freed, let_go, arith}

module _ {T : Type 0} where
  -- an object keeps its handle, and isn't live again
  pub record KeepsHandle (r q : Listed T) : Type 0 where
    pub handle : q.handle ≡ r.handle
    pub dead : r.live ≡ false → q.live ≡ false

  pub keeps_itself : (r : Listed T) → KeepsHandle r r
  keeps_itself r = record { handle = refl; dead = λ e. e }

  pub keeps-fields : (f : T → T) (r : Listed T) → KeepsHandle r (with_fields f r)
  keeps-fields f r = record { handle = refl; dead = λ e. e }

  pub keeps-gone : (r : Listed T) → KeepsHandle r (gone r)
  keeps-gone r = record { handle = refl; dead = λ e. refl }

-- a list of the same handles, in the same order, in which nothing is live again
abbrev pub SameHandles : {T : Type 0} → List (Listed T) → List (Listed T) → Type 0
SameHandles [] [] = Unit {0}
SameHandles [] (q ∷ qs) = ⊥
SameHandles (r ∷ rs) [] = ⊥
SameHandles (r ∷ rs) (q ∷ qs) = KeepsHandle r q × SameHandles rs qs

module _ {T : Type 0} where
  pub handles-same : (l : List (Listed T)) → SameHandles l l
  handles-same [] = tt
  handles-same (r ∷ rs) = (keeps_itself r, handles-same rs)

  pub handles-change : (h : ℕ) (F : Listed T → Listed T) → ((r : Listed T) → KeepsHandle r (F r)) → (l : List (Listed T)) → SameHandles l (change h F l)
  unfolding change
  handles-change h F same [] = tt
  handles-change h F same (r ∷ rs) = grind (arith, same r, keeps_itself r, handles-same rs, handles-change h F same rs)

  pub handles-change_all : (p : T → Bool) (F : Listed T → Listed T) → ((r : Listed T) → KeepsHandle r (F r)) → (l : List (Listed T))
      → SameHandles l (change_all p F l)
  unfolding change_all
  handles-change_all p F same [] = tt
  handles-change_all p F same (r ∷ rs) = grind (arith, same r, keeps_itself r, handles-change_all p F same rs)

  -- what is read of the handles alone
  same_count : (p : ℕ → Bool) (l m : List (Listed T)) → SameHandles l m → how_many (λ r. p r.handle) m ≡ how_many (λ r. p r.handle) l
  same_count p [] [] v = refl
  same_count p (r ∷ rs) (q ∷ qs) v = λ i. cond {A = ℕ} (p (v.0.handle i)) 1 0 + same_count p rs qs v.1 i
  same_count p l m v = absurd v

  pub listed-same : (h : ℕ) (l m : List (Listed T)) → SameHandles l m → listed h m ≡ listed h l
  unfolding listed
  listed-same h l m v = same_count (λ a. a == h) l m v

  pub issued_at-same : (h : ℕ) (l m : List (Listed T)) → SameHandles l m → issued_at h m ≡ issued_at h l
  unfolding issued_at
  issued_at-same h l m v = same_count (λ a. slot_of a == slot_of h) l m v

  pub length-same : (l m : List (Listed T)) → SameHandles l m → length m ≡ length l
  length-same [] [] v = refl
  length-same (r ∷ rs) (q ∷ qs) v = ap suc (length-same rs qs v.1)
  length-same l m v = absurd v

pub keeps-ended : (e : TaskEnd) (n : ℕ) (r : Listed Task) → KeepsHandle r (ended e n r)
keeps-ended e n r = record { handle = refl; dead = λ d. ap (λ (b : Bool). b && not r.fields.notes.detached) d }

pub keeps-freed : (r : Listed Task) → KeepsHandle r (freed r)
keeps-freed r = record { handle = refl; dead = λ e. refl }

pub keeps-let_go : (r : Listed Task) → KeepsHandle r (let_go r)
keeps-let_go r = record { handle = refl; dead = λ d. ap (λ (b : Bool). b && is_unended r.fields) d }

pub handles-ends : (p : Task → Bool) (e : TaskEnd) (n : ℕ) (l : List (Listed Task)) → SameHandles l (end_each p e n l)
unfolding end_each
handles-ends p e n [] = tt
handles-ends p e n (r ∷ rs) = grind (arith, keeps-ended e n r, keeps_itself r, handles-ends p e n rs, handles-ends p e (n + 1) rs)
