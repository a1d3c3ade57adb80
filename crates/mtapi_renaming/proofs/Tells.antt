-- What an op that makes an object is refused for tells what it may answer; it is no handle, and leaves the state as it was.
use Rattle.mtapi_renaming.proofs.Names.{nat_tests, ◌≡◌, ◌↔◌, ℕ, Bool, true, false, cond, [], ◌∷◌, Option, Some, None, refl, sym, ◌∙◌, ap, subst, arith, MatchBool, ObjectKind, Op, Reply, Ok, Handle, State, Objects, actions, tasks, Move, all_of, makes_action, starts_task, makes, is_fresh, Row, unless, after_row, Allows, says, handle_of, creates, row, is_kind_full, made_kind, is_full_of, is_fresh_of, limit_of, CanBe, is_handle, makes_or_not, refusal_in, refusal_of, CanAnswer}
use Rattle.mtapi_renaming.proofs.Rows.{is_plain}
use Rattle.mtapi_renaming.proofs.Creates.{can_be, stays_in, creates_none, full_same, fresh_same, limit_same}
use Rattle.mtapi_renaming.proofs.CreateRows.{HoldsInParts, create_row}

-- the rows of an op for each reply: there is a limit in them or a refusal behind the conditions, and what they are refused for tells
-- what they allow; it is no handle, and where no handle is answered, the state stays
record Tells (s : State) (k : ObjectKind) (own : Reply → Row) : Type 0 where
  asks : makes_or_not (own Ok) ≡ false
  why : Option Reply
  is : refusal_in (own Ok) ≡ why
  tells : (r : Reply) → Allows (own r) r ↔ CanAnswer why k s r
  plain : (r : Reply) → why ≡ Some r → is_handle r ≡ false
  stays : (r : Reply) → Allows (own r) r → is_handle r ≡ false → after_row s (own r) ≡ s

no_handle_in : (y : Reply) → is_plain y ≡ true → is_handle y ≡ false
no_handle_in y i = grind (arith, nat_tests)

module _ {s : State} where
  says_tells : {k : ObjectKind} (y : Reply) → is_plain y ≡ true → Tells s k (λ r. says y)
  unfolding refusal_in
  says_tells y p = record {
    asks = no_handle_in y p;
    why = Some y;
    is = refl;
    tells = λ r. (λ i. i, λ i. i);
    plain = λ r e. grind (arith, no_handle_in y p);
    stays = λ r i e. refl;
  }

  unless_tells : {k : ObjectKind} {a : Bool} {y : Reply} {own : Reply → Row} → is_plain y ≡ true → Tells s k own → Tells s k (λ r. unless a y (own r))
  unfolding refusal_in
  unless_tells {a = true} {y = y} p v = record {
    asks = refl;
    why = Some y;
    is = ap (λ (b : Bool). cond b None (Some y)) v.asks;
    tells = λ r. (λ i. i, λ i. i);
    plain = λ r e. grind (arith, no_handle_in y p);
    stays = λ r i e. refl;
  }
  unless_tells {a = false} {own = own} p v =
      record {
        asks = refl;
        why = v.why;
        is = ap (λ (b : Bool). cond b None (refusal_in (own Ok))) v.asks ∙ v.is;
        tells = v.tells;
        plain = v.plain;
        stays = v.stays;
      }

  creates_tells : {T : Type 0} {k : ObjectKind} (o : Objects T) (make : ℕ → Move) → is_full_of k s ≡ is_kind_full o s
      → ((h : ℕ) → is_fresh_of k s h ≡ is_fresh o s h)
      → limit_of k ≡ o.limit → Tells s k (λ r. creates o s r make)
  creates_tells {T} {k} o make e d l = record {
    asks = refl;
    why = None;
    is = creates_none o s make;
    tells = λ r.
        let can : CanBe k s r ≡ MatchBool (is_kind_full o s) (r ≡ o.limit) ((is_fresh o s (handle_of r) ≡ true) × (r ≡ Handle (handle_of r))) =
        λ i. MatchBool (e i) (r ≡ l i) ((d (handle_of r) i ≡ true) × (r ≡ Handle (handle_of r))) in
        subst (λ (A : Type 0). Allows (creates o s r make) r
        ↔ A) (sym can) (can_be (is_kind_full o s) (is_fresh o s (handle_of r)) o.limit r (make (handle_of r) ∷ []));
    plain = λ r e. absurd (cc);
    stays = λ r. stays_in s (is_kind_full o s) (is_fresh o s (handle_of r)) o.limit r (make (handle_of r) ∷ []);
  }

  create_tells : (who : ℕ) (o : Op) (k : ObjectKind) → made_kind o ≡ Some k → Tells s k (λ r. row s who o r)
  create_tells who o k i = create_row parts who k o i
    where
      parts : HoldsInParts s (Tells s)
      parts = record {
        refusal = λ y p. says_tells y p;
        condition = λ p v. unless_tells p v;
        action = λ a. creates_tells actions (λ b. makes_action b a) refl (λ h. refl) refl;
        task = λ t. creates_tells tasks (λ b. starts_task b t) refl (λ h. refl) refl;
        sort = λ t v. creates_tells (all_of t) (λ b. makes t b v) (full_same t s) (λ h. fresh_same t s h) (limit_same t);
      }

pub refusals_tell : (s : State) (who : ℕ) (o : Op) (k : ObjectKind) (r : Reply) → made_kind o ≡ Some k
    → Allows (row s who o r) r ↔ CanAnswer (refusal_of s who o) k s r
refusals_tell s who o k r i = let v = create_tells {s = s} who o k i in
    subst (λ (x : Option Reply). Allows (row s who o r) r ↔ CanAnswer x k s r) (sym v.is) (v.tells r)

pub refusals_plain : (s : State) (who : ℕ) (o : Op) (k : ObjectKind) (r : Reply) → made_kind o ≡ Some k → refusal_of s who o ≡ Some r → is_handle r ≡ false
refusals_plain s who o k r i e = let v = create_tells {s = s} who o k i in v.plain r (sym v.is ∙ e)

pub refusals_stay : (s : State) (who : ℕ) (o : Op) (k : ObjectKind) (r : Reply) → made_kind o ≡ Some k → Allows (row s who o r) r → is_handle r ≡ false
    → after_row s (row s who o r) ≡ s
refusals_stay s who o k r i = (create_tells {s = s} who o k i).stays r
