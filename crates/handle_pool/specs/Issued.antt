-- The list of one kind of object: each object that was ever made, in the order of issue. No object ever leaves it.
use Rattle.std.specs.Prelude.{ℕ, ◌+◌, Bool, true, false, not, ◌&&◌, ◌==◌, nat_le, List, [], ◌∷◌, ◌++◌, length, Option, Some, None, if◌then◌else◌}
use Rattle.handle_pool.specs.Slots.{slot_of, generation_of}

-- an object that was made: its handle, whether it is live, and its fields
pub record Listed (T : Type 0) : Type 0 where
  pub handle : ℕ
  pub live : Bool
  pub fields : T

-- how many of these pass
abbrev pub how_many : {X : Type 0} → (X → Bool) → List X → ℕ
how_many p [] = 0
how_many p (x ∷ xs) = (if p x then 1 else 0) + how_many p xs

module _ {T : Type 0} where
  -- the live objects, each with its handle
  unfoldable pub live_of : List (Listed T) → List (ℕ × T)
  live_of [] = []
  live_of (r ∷ rs) = if r.live then (r.handle, r.fields) ∷ live_of rs else live_of rs

  -- the fields beside this handle
  abbrev pub lookup : List (ℕ × T) → ℕ → Option T
  lookup [] h = None
  lookup (e ∷ es) h = if e.0 == h then Some e.1 else lookup es h

  -- the live object of this handle
  abbrev pub live_object : List (Listed T) → ℕ → Option T
  live_object l h = lookup (live_of l) h

  -- one of these objects passes
  abbrev pub any_live : (T → Bool) → List (ℕ × T) → Bool
  any_live p [] = false
  any_live p (e ∷ es) = if p e.1 then true else any_live p es

  -- some live object passes
  abbrev pub any_listed : (T → Bool) → List (Listed T) → Bool
  any_listed p l = any_live p (live_of l)

  -- the handle of the first of these objects that passes
  abbrev pub first_handle : (T → Bool) → List (ℕ × T) → Option ℕ
  first_handle p [] = None
  first_handle p (e ∷ es) = if p e.1 then Some e.0 else first_handle p es

  -- the handles of these objects that pass, in their order
  abbrev pub handles_of : (T → Bool) → List (ℕ × T) → List ℕ
  handles_of p [] = []
  handles_of p (e ∷ es) = if p e.1 then e.0 ∷ handles_of p es else handles_of p es

  -- the live objects that pass are so many
  abbrev pub count_listed : (T → Bool) → List (Listed T) → ℕ
  count_listed p l = how_many (λ r. r.live && p r.fields) l

  -- a new live object at the end
  unfoldable pub issue : ℕ → T → List (Listed T) → List (Listed T)
  issue h v l = l ++ record { handle = h; live = true; fields = v } ∷ []

  -- the list with the live object of this handle changed
  unfoldable pub change : ℕ → (Listed T → Listed T) → List (Listed T) → List (Listed T)
  change h f [] = []
  change h f (r ∷ rs) = if r.live && (r.handle == h) then f r ∷ rs else r ∷ change h f rs

  -- the list with every live object that passes changed
  unfoldable pub change_all : (T → Bool) → (Listed T → Listed T) → List (Listed T) → List (Listed T)
  change_all p f [] = []
  change_all p f (r ∷ rs) = (if r.live && p r.fields then f r else r) ∷ change_all p f rs

  -- the object with its fields changed
  abbrev pub with_fields : (T → T) → Listed T → Listed T
  with_fields f r = record r { fields = f r.fields }

  -- the object, live no more
  abbrev pub gone : Listed T → Listed T
  gone r = record r { live = false }

  -- the fields of the live object of this handle change
  abbrev pub update : ℕ → (T → T) → List (Listed T) → List (Listed T)
  update h f l = change h (with_fields f) l

  -- the live object of this handle stops being live
  abbrev pub retire : ℕ → List (Listed T) → List (Listed T)
  retire h l = change h gone l

  -- how many objects were issued under this handle
  unfoldable pub listed : ℕ → List (Listed T) → ℕ
  listed h l = how_many (λ r. r.handle == h) l

  -- how many objects were issued in the slot of this handle
  unfoldable pub issued_at : ℕ → List (Listed T) → ℕ
  issued_at h l = how_many (λ r. slot_of r.handle == slot_of h) l

  -- how many objects aren't live and had a handle of the last generation
  unfoldable pub retired : ℕ → List (Listed T) → ℕ
  retired last l = how_many (λ r. not r.live && (generation_of r.handle == last)) l

  -- no further object can be made: the live and the retired ones are as many as there may be
  unfoldable pub is_full : ℕ → ℕ → List (Listed T) → Bool
  is_full last max l = length (live_of l) + retired last l == max

  -- the handle may be given to a new object: it is new, and its slot's next generation, which is no later than the last
  unfoldable pub may_issue : ℕ → ℕ → List (Listed T) → Bool
  may_issue last h l = (listed h l == 0) && nat_le (generation_of h) last && (generation_of h == issued_at h l + 1)
