-- Which calls the front of a list of lines is made by.
use Rattle.std.proofs.lemmas.Bool.Decides.{nat_tests}
use Rattle.run_check.proofs.Names.{◌≡◌, ℕ, suc, ◌+◌, ◌-◌, ◌≤◌, Bool, true, false, List, [], ◌∷◌, ◌++◌, Option, None, arith, refl, sym, ◌∙◌, ap, subst, length, take, drop, get_or, take-length, Op, Reply, is_pending, Wanted, Looking, op_of_look, waits, IsTimed, Line, line_with, before_it, looks_before, Takes, DecidesAs}
use Rattle.std.proofs.Common.{Some}
use Rattle.mtapi_values.specs.declared.timeouts.Timeout.{Timeout}
use Rattle.mtapi_machine.specs.declared.replies.Reply.TheVariants as reply
use Rattle.run_check.specs.Takes.{Decides}

pub is_the_reply : (r : Reply) → is_pending r ≡ true → r ≡ reply.Pending
is_the_reply reply.Pending p = refl
is_the_reply _ p = absurd (let x = p in cc)

-- what stands in front of a list that isn't empty
pub at_front : {A : Type 0} (L : List A) (l : A) → 1 ≤ length L → l ≡ get_or L 0 l → L ≡ l ∷ take (length L - 1) (drop 1 L)
at_front [] l m e = absurd (omega (arith, m))
at_front (x ∷ L) l m e =
    let long : suc (length L) - 1 ≡ length L = omega (arith) in
    ap (λ z. z ∷ L) (sym e) ∙ ap (λ z. l ∷ z) (sym (take-length L) ∙ ap (λ n. take n L) (sym long))

abbrev pub behind_first : {A : Type 0} → List A → List A
behind_first L = take (length L - 1) (drop 1 L)

two_front : (L : List Line) (l d : Line) → 1 ≤ length L → l ≡ get_or L 0 l → 1 ≤ length (behind_first L) → d ≡ get_or (behind_first L) 0 d
    → L ≡ l ∷ d ∷ behind_first (behind_first L)
two_front L l d some at more next = at_front L l some at ∙ ap (λ z. l ∷ z) (at_front (behind_first L) d more next)

module _ (w : Wanted) (timeout : Timeout) where
  -- a look that decides at once
  pub alone : (L : List Line) (l : Line) → 1 ≤ length L → l ≡ get_or L 0 l → Decides w timeout 0 l
      → Takes (Looking (waits w) (op_of_look w) timeout) L (behind_first L) l.reply
  alone L l some at d = record {
    front = l ∷ [];
    is = at_front L l some at;
    made = record {
      first = None;
      beside = l.beside;
      last = d.last;
      is = ap (λ o. line_with o l.reply l.beside ∷ []) d.is;
      none_kept = λ _. refl;
      decides = d.shows.decides;
      within = d.shows.within;
      late = d.shows.late;
    };
  }

  -- a kept look, and one that decides
  pub behind_kept : (L : List Line) (l d : Line) → 1 ≤ length L → l ≡ get_or L 0 l → 1 ≤ length (behind_first L) → d ≡ get_or (behind_first L) 0 d
      → is_pending l.reply ≡ true → l.op ≡ op_of_look w false → waits w ≡ true → Decides w timeout (l.beside + 1) d
      → Takes (Looking (waits w) (op_of_look w) timeout) L (behind_first (behind_first L)) d.reply
  behind_kept L l d some at more next pending asks stands decides = record {
    front = l ∷ d ∷ [];
    is = two_front L l d some at more next;
    made = record {
      first = Some l.beside;
      beside = d.beside;
      last = decides.last;
      is = ap (λ o. line_with o l.reply l.beside ∷ d ∷ []) asks ∙ ap (λ r. line_with (op_of_look w false) r l.beside ∷ d ∷ []) (is_the_reply l.reply pending)
          ∙ ap (λ o. line_with (op_of_look w false) reply.Pending l.beside ∷ line_with o d.reply d.beside ∷ []) decides.is;
      none_kept = λ no. absurd (cc);
      decides = decides.shows.decides;
      within = decides.shows.within;
      late = decides.shows.late;
    };
  }

  -- what the front of the lines is, where a call that looks made it
  pub data LookFront (l : Line) (ls rest : List Line) (r : Reply) : Type 0 where
    at_once : rest ≡ ls → r ≡ l.reply → is_pending l.reply ≡ false → Decides w timeout 0 l → LookFront l ls rest r
    kept_one : (d : Line) → ls ≡ d ∷ rest → r ≡ d.reply → is_pending l.reply ≡ true → l.op ≡ op_of_look w false → waits w ≡ true
        → Decides w timeout (l.beside + 1) d
        → LookFront l ls rest r

  by_first : (l : Line) (ls rest front : List Line) (r : Reply) (first : Option ℕ) (beside : ℕ) (last : Bool) → l ∷ ls ≡ front ++ rest
      → front ≡ before_it (op_of_look w false) first ++ line_with (op_of_look w last) r beside ∷ [] → (waits w ≡ false → first ≡ None)
      → DecidesAs timeout last (looks_before first + (beside + 1)) r → LookFront l ls rest r
  by_first l ls rest front r None beside last is made none shows = grind (arith, nat_tests, op_of_look, is_pending)
  by_first l ls rest front r (Some n) beside last is made none shows =
      let e : l ∷ ls ≡ line_with (op_of_look w false) reply.Pending n ∷ line_with (op_of_look w last) r beside ∷ rest = is ∙ ap (λ f. f ++ rest) made in
      let here : l ≡ line_with (op_of_look w false) reply.Pending n = cc in
      let behind : ls ≡ line_with (op_of_look w last) r beside ∷ rest = cc in
      kept_one (line_with (op_of_look w last) r beside) behind refl (ap (λ z. is_pending z.reply) here) (ap (λ z. z.op) here) (stands (waits w) none)
      (record { last = last; is = refl; shows = subst (λ (z : Line). DecidesAs timeout last ((z.beside + 1) + (beside + 1)) r) (sym here) shows })
    where
      stands : (b : Bool) → (b ≡ false → Some n ≡ None) → b ≡ true
      stands true none = refl
      stands false none = absurd (let x = none refl in cc)

  pub look_front : (l : Line) (ls rest : List Line) (r : Reply) → Takes (Looking (waits w) (op_of_look w) timeout) (l ∷ ls) rest r → LookFront l ls rest r
  look_front l ls rest r t = by_first l ls rest t.front r t.made.first t.made.beside t.made.last t.is t.made.is t.made.none_kept
      (record { decides = t.made.decides; within = t.made.within; late = t.made.late })

  -- where the look doesn't decide, none was kept and the next does, and else the next doesn't decide
  pub no_front : (L : List Line) (l d : Line) (rest : List Line) (r : Reply) → 1 ≤ length L → l ≡ get_or L 0 l → 1 ≤ length (behind_first L)
      → d ≡ get_or (behind_first L) 0 d → is_pending l.reply ≡ true → (Decides w timeout (l.beside + 1) d → ⊥)
      → Takes (Looking (waits w) (op_of_look w) timeout) L rest r → ⊥
  no_front L l d rest r some at more next pending not t = by (look_front l (d ∷ behind_first (behind_first L)) rest r
      (subst (λ (z : List Line). Takes (Looking (waits w) (op_of_look w) timeout) z rest r) (two_front L l d some at more next) t))
    where
      by : LookFront l (d ∷ behind_first (behind_first L)) rest r → ⊥
      by (at_once a b decided e) = absurd (cc)
      by (kept_one x is b p o s e) =
          let here : d ≡ x = cc in
          not (subst (λ (z : Line). Decides w timeout (l.beside + 1) z) (sym here) e)

-- an op that is neither look
pub no_look : (w : Wanted) → IsTimed w → (o : Op) → (o ≡ op_of_look w true → ⊥) → (o ≡ op_of_look w false → ⊥) → (last : Bool) → o ≡ op_of_look w last → ⊥
no_look w timed o a b true e = a e
no_look w timed o a b false e = b e
