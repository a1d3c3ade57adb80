-- What is gone in a state, over its moves and over entries.
use Rattle.mtapi_renaming.proofs.Names.{◌≡◌, ℕ, ◌+◌, ◌≤◌, Bool, true, false, cond, List, [], ◌∷◌, ◌++◌, length, refl, sym, ◌∙◌, subst, arith, ◌==◌, is_some, ObjectKind, generation_of, live_object, retired, Terms, Op, State, objects_of, opening, Move, apply, NodeEntry, next, after, IsMade, after-one, by_moves, is_live_of, made_in, lasts_of, gone_of, TakenAreMade, AreGone, live_of}
use Rattle.mtapi_renaming.proofs.CountMoves.{each_move, live_is, alive_is}
use Rattle.mtapi_renaming.proofs.Lasts.{retired-gone}
use Rattle.mtapi_renaming.proofs.LastMoves.{OnceIn, once_after, terms_stay, terms_after, gone_is}
use Rattle.mtapi_renaming.proofs.Gone.{Goes, goes_first, goes_then, ListGoes, taken-made, lasts-taken, goes-same, goes-issue, goes-ends, live-issue}

-- how many of a kind aren't live and were of the last generation
abbrev retired_in : ObjectKind → State → ℕ
retired_in k s = retired s.terms.settings.generations ((objects_of k).list s)

-- they are told by their handles
retired_told : (k : ObjectKind) (s : State) → OnceIn k s → retired_in k s ≡ gone_of k s (lasts_of k s)
retired_told k s w = retired-gone s.terms.settings.generations ((objects_of k).list s) w ∙ sym (gone_is k s (lasts_of k s))

pub gone_made : (terms : Terms) (L : List NodeEntry) (k : ObjectKind) → TakenAreMade (after terms L) k
gone_made terms L k =
    let s = after terms L in
    let told = retired_told k s (once_after terms L k) in
    let live = live_is k s in
    let made : length (live_of ((objects_of k).list s)) + retired_in k s ≤ made_in k s = taken-made s.terms.settings.generations ((objects_of k).list s) in
    let lasts : length (lasts_of k s) ≤ length (live_of ((objects_of k).list s)) + retired_in k s =
    lasts-taken s.terms.settings.generations ((objects_of k).list s) in
    record { made = omega (arith, told, live, made); lasts = omega (arith, told, live, lasts) }

-- of a kind, from one state to the other
abbrev GoesIn : ℕ → ℕ → ObjectKind → State → State → Type 0
GoesIn lasts others k s t = ListGoes lasts others s.terms.settings.generations t.terms.settings.generations ((objects_of k).list s) ((objects_of k).list t)

goes_nowhere : (a b c : ℕ) → Goes 0 0 a b c a b c
goes_nowhere a b c = record { last = omega arith; other = omega arith }

-- so it goes by the terms of the first state, and by those of the other
goes_in : (lasts others : ℕ) (k : ObjectKind) (s : State) (m : Move)
    → ListGoes lasts others s.terms.settings.generations s.terms.settings.generations ((objects_of k).list s) ((objects_of k).list (apply m s))
    → GoesIn lasts others k s (apply m s)
goes_in lasts others k s m = subst (λ (x : Terms). ListGoes lasts others s.terms.settings.generations x.settings.generations ((objects_of k).list s)
    ((objects_of k).list (apply m s))) (sym (terms_stay s m))

move_goes : (o : Op) (s : State) (m : Move) → IsMade s o m → (k : ObjectKind) → GoesIn 0 0 k s (apply m s)
move_goes o s m i k =
    let last = s.terms.settings.generations in
    goes_in 0 0 k s m (each_move (λ T o l q. ListGoes 0 0 last last l q) s o m i (λ T o h v j. goes-issue last h v (o.list s))
    (λ T o l q. goes-same last l q) k)

next_goes : (s : State) (e : NodeEntry) (k : ObjectKind) → GoesIn 0 0 k s (next s e)
next_goes s e k = by_moves (λ t. GoesIn 0 0 k s t) s e (λ t m i v. goes_then v (move_goes e.op t m i k)) (goes_nowhere _ _ _)

-- the same by their handles
gone_after : (terms : Terms) (L : List NodeEntry) (e : NodeEntry) (k : ObjectKind) (lasts others : ℕ)
    → GoesIn lasts others k (after terms L) (next (after terms L) e) → AreGone (after terms L) (next (after terms L) e) k lasts others
gone_after terms L e k lasts others v =
    let s = after terms L in
    let t = next s e in
    let once : OnceIn k t = subst (OnceIn k) (after-one (opening terms) L e) (once_after terms (L ++ e ∷ []) k) in
    let before : retired_in k s ≡ gone_of k s (lasts_of k s) = retired_told k s (once_after terms L k) in
    let then : retired_in k t ≡ gone_of k t (lasts_of k t) = retired_told k t once in
    let own = live_is k s in
    let others_own = live_is k t in
    let a : retired_in k s + lasts ≤ retired_in k t = v.last in
    let b : made_in k s + (length (live_of ((objects_of k).list t)) + retired_in k t) + others
    ≤ made_in k t + (length (live_of ((objects_of k).list s)) + retired_in k s) = v.other in
    record { last = omega (arith, before, then, a); other = omega (arith, before, then, b, own, others_own) }

pub gone_stay : (terms : Terms) (L : List NodeEntry) (e : NodeEntry) (k : ObjectKind) → AreGone (after terms L) (next (after terms L) e) k 0 0
gone_stay terms L e k = gone_after terms L e k 0 0 (next_goes (after terms L) e k)

-- an object that ends

module _ (j : ℕ) where
  -- one more of the last generation, or of the others
  abbrev EndsIn : ObjectKind → State → State → Type 0
  EndsIn k s t = GoesIn (cond (generation_of j == s.terms.settings.generations) 1 0) (cond (generation_of j == s.terms.settings.generations) 0 1) k s t

  never : {A : Type 0} (b : Bool) → b ≡ true → b ≡ false → A
  never b e d = absurd (cc)

  move_ends : (o : Op) (s : State) (m : Move) → IsMade s o m → (k : ObjectKind) → is_live_of k s j ≡ true → is_live_of k (apply m s) j ≡ false
      → EndsIn k s (apply m s)
  move_ends o s m i k some none =
      let last = s.terms.settings.generations in
      goes_in _ _ k s m (each_move (λ T o l q. is_some (live_object l j) ≡ true → is_some (live_object q j) ≡ false
      → ListGoes (cond (generation_of j == last) 1 0) (cond (generation_of j == last) 0 1) last last l q) s o m i
      (λ T o h v e a b. never _ (live-issue h j v (o.list s) a) b) (λ T o l q. goes-ends last j l q) k (sym (alive_is k s j)
      ∙ some) (sym (alive_is k (apply m s) j) ∙ none))

  -- of the state so far: the terms stay, and where the object has ended, one more is gone
  record Ended (k : ObjectKind) (s t : State) : Type 0 where
    terms : t.terms ≡ s.terms
    goes : GoesIn 0 0 k s t
    ended : is_live_of k t j ≡ false → EndsIn k s t

  ended_then : (k : ObjectKind) (s t : State) (o : Op) (m : Move) → IsMade t o m → Ended k s t → Ended k s (apply m t)
  ended_then k s t o m i v = record {
    terms = terms_stay t m ∙ v.terms;
    goes = goes_then v.goes (move_goes o t m i k);
    ended = λ none. by_live (is_live_of k t j) refl none;
  }
    where
      by_live : (b : Bool) → is_live_of k t j ≡ b → is_live_of k (apply m t) j ≡ false → EndsIn k s (apply m t)
      by_live true some none =
          goes_then v.goes
          (subst (λ (x : Terms). GoesIn (cond (generation_of j == x.settings.generations) 1 0) (cond (generation_of j == x.settings.generations) 0 1) k t
          (apply m t)) v.terms (move_ends o t m i k some none))
      by_live false over none = goes_first (v.ended over) (move_goes o t m i k)

  next_ends : (s : State) (e : NodeEntry) (k : ObjectKind) → is_live_of k s j ≡ true → is_live_of k (next s e) j ≡ false → EndsIn k s (next s e)
  next_ends s e k some none =
      let all : Ended k s (next s e) =
      by_moves (λ t. Ended k s t) s e (λ t m i v. ended_then k s t e.op m i v)
      (record { terms = refl; goes = goes_nowhere _ _ _; ended = λ off. never _ some off }) in all.ended none

  pub ends_gone : (terms : Terms) (L : List NodeEntry) (e : NodeEntry) (k : ObjectKind) → is_live_of k (after terms L) j ≡ true
      → is_live_of k (next (after terms L) e) j ≡ false →
      AreGone (after terms L) (next (after terms L) e) k (cond (generation_of j == terms.settings.generations) 1 0)
      (cond (generation_of j == terms.settings.generations) 0 1)
  ends_gone terms L e k some none =
      subst (λ (x : Terms). AreGone (after terms L) (next (after terms L) e) k (cond (generation_of j == x.settings.generations) 1 0)
      (cond (generation_of j == x.settings.generations) 0 1)) (terms_after terms L)
      (gone_after terms L e k _ _ (next_ends (after terms L) e k some none))
