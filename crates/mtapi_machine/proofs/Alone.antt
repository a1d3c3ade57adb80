-- Where a row allows a status, it allows no other reply of the same entry: a reply is read only for what it chooses, and whether a
-- status answers doesn't hang on that.
use Rattle.mtapi_machine.proofs.Names.{arith, nat_tests, ◌≡◌, ℕ, Bool, true, false, List, Option, refl, sym, ◌∙◌, if◌then◌else◌, Op, Pick, Reply, Handle, State, is_stop, Move, Row, unless, gives, never, Allows, only, live, picks, row, is_status}

-- where the first row allows a status, the second one allows nothing else
record Alone (v w : Row) (x y : Reply) : Type 0 where
  pub alone : Allows v x → is_status x ≡ true → Allows w y → y ≡ x

-- the row allows no status
record Silent (v : Row) (x : Reply) : Type 0 where
  pub silent : Allows v x → is_status x ≡ true → ⊥

one_reply : (v : Row) (x y : Reply) → Allows v x → Allows v y → y ≡ x
one_reply (unless true z v) x y a b = b ∙ sym a
one_reply (unless false z v) x y a b = one_reply v x y a b
one_reply (gives z ms) x y a b = b ∙ sym a
one_reply never x y a b = absurd a

same_alone : {v : Row} {x y : Reply} → Alone v v x y
same_alone {v} {x} {y} = record { alone = λ a s b. one_reply v x y a b }

silent_alone : {v w : Row} {x y : Reply} → Silent v x → Alone v w x y
silent_alone h = record { alone = λ a s b. absurd (h.silent a s) }

unless_alone : {c : Bool} {z : Reply} {v w : Row} {x y : Reply} → Alone v w x y → Alone (unless c z v) (unless c z w) x y
unless_alone {c} {z} {v} {w} {x} {y} h = record { alone = by c }
  where
    by : (d : Bool) → Allows (unless d z v) x → is_status x ≡ true → Allows (unless d z w) y → y ≡ x
    by true a s b = b ∙ sym a
    by false a s b = h.alone a s b

gives_silent : (z : Reply) {ms : List Move} {x : Reply} → is_status z ≡ false → Silent (gives z ms) x
gives_silent z e1 = grind (arith, nat_tests)

only_silent : (c : Bool) {v : Row} {x : Reply} → Silent v x → Silent (only c v) x
only_silent c e1 = grind (arith, nat_tests)

live_alone : {T : Type 0} (o : Option T) (n : Row) (f g : T → Row) (x y : Reply) → ((t : T) → Alone (f t) (g t) x y) → Alone (live o n f) (live o n g) x y
live_alone o n f g x y e1 = grind (arith, nat_tests, same_alone)

-- what makes an object gives a handle, where it may be issued
made_alone : (p q : Bool) (h k : ℕ) (ms ns : List Move) {x y : Reply} → Alone (only p (gives (Handle h) ms)) (only q (gives (Handle k) ns)) x y
made_alone p q h k ms ns = silent_alone (only_silent p (gives_silent (Handle h) refl))

-- a worker takes a task or is idle
picks_silent : (s : State) (w : ℕ) (r x : Reply) → Silent (picks s w r) x
picks_silent s w r x = grind (arith, nat_tests)

picks_alone : (c : Bool) (s : State) (w : ℕ) (v : Row) (q r x y : Reply) → Alone (if c then v else picks s w q) (if c then v else picks s w r) x y
picks_alone c s w v q r x y = grind (arith, nat_tests, same_alone, silent_alone, picks_silent)

-- the rows of the ops that make objects, and of pick, read the reply; those of all others don't
rows_alone : (s : State) (who : ℕ) (op : Op) (x y : Reply) → Alone (row s who op x) (row s who op y) x y
rows_alone s who Pick x y = unless_alone (unless_alone (unless_alone (picks_alone (is_stop s) s who _ x y x y)))
rows_alone s who op x y = grind (arith, nat_tests, same_alone, unless_alone, live_alone, made_alone)

pub row_alone : (s : State) (who : ℕ) (op : Op) (x y : Reply) → Allows (row s who op x) x → is_status x ≡ true → Allows (row s who op y) y → y ≡ x
row_alone s who op x y a s' b = (rows_alone s who op x y).alone a s' b
