-- The lines of a part, from what its statements leave behind.
use Rattle.std.proofs.lemmas.Bool.Decides.{nat_tests}
use Rattle.run_check.proofs.Names.{◌≡◌, ℕ, ◌+◌, ◌<◌, ◌≤◌, Bool, true, false, List, [], ◌∷◌, ◌++◌, refl, sym, ◌∙◌, ap, subst, length, get_or, drop, Option, None, arith, append_assoc, length-drop, ◌&&◌, ◌==◌, ◌↔◌, IsTrue, IfSome, IfNone, append-nil, nil_from_length, drop_more, Decides-eqb, Statement, Op, Reply, handle_of, call_of, Carried, MainRan, CallerRan, has_begin, Line, line_with, MadeLines, head_lines, tail_of_main, in_lines, is_work, all_work, CarriedTo}
use Rattle.std.proofs.Common.{Some}
use Rattle.mtapi_machine.specs.declared.replies.Reply.TheVariants as replies
use Rattle.mtapi_machine.specs.declared.ops.Op.TheVariants as ops
use Rattle.run_check.specs.Starts.{EntersLine}
use Rattle.run_check.proofs.Same.{takes_same}

-- what the statements made, with anything behind it
pub to_rest : (bound : List ℕ) (ss : List Statement) (body rest : List Line) (rs : List Reply) → Carried MadeLines bound ss body rs
    → CarriedTo bound ss (body ++ rest) rest
unfolding Carried CarriedTo
to_rest bound [] body rest [] c = ap (λ l. l ++ rest) c
to_rest bound [] body rest (r ∷ rs) c = absurd c
to_rest bound (s ∷ ss) body rest [] c = absurd c
to_rest bound (s ∷ ss) body rest (r ∷ rs) c = (
  c.1 ++ rest,
  r,
  record {
    front = c.0;
    is = ap (λ l. l ++ rest) c.2 ∙ append_assoc c.0 c.1 rest;
    made = c.3;
  },
  to_rest (bound ++ handle_of r ∷ []) ss c.1 rest rs c.4,
)

-- the part of the lines that the statements made
pub record Body (bound : List ℕ) (ss : List Statement) (lines rest : List Line) : Type 0 where
  pub body : List Line
  pub replies : List Reply
  pub is : lines ≡ body ++ rest
  pub carried : Carried MadeLines bound ss body replies

pub from_rest : (bound : List ℕ) (ss : List Statement) (lines rest : List Line) → CarriedTo bound ss lines rest → Body bound ss lines rest
unfolding Carried CarriedTo
from_rest bound [] lines rest c = record { body = []; replies = []; is = c; carried = refl }
from_rest bound (s ∷ ss) lines rest c =
    let more = from_rest (bound ++ handle_of c.1 ∷ []) ss c.0 rest c.3 in
    record {
      body = c.2.front ++ more.body;
      replies = c.1 ∷ more.replies;
      is = c.2.is ∙ (ap (λ l. c.2.front ++ l) more.is ∙ sym (append_assoc c.2.front more.body rest));
      carried = (c.2.front, more.body, refl, c.2.made, more.carried);
    }

-- one list alone is left behind the statements
pub rest_same : (bound : List ℕ) (ss : List Statement) (lines rest other : List Line) → CarriedTo bound ss lines rest → CarriedTo bound ss lines other
    → rest ≡ other
unfolding CarriedTo
rest_same bound [] lines rest other c d = sym c ∙ d
rest_same bound (s ∷ ss) lines rest other c d =
    let same = takes_same (call_of bound s.deed) lines c.0 d.0 c.1 d.1 c.2 d.2 in
    rest_same (bound ++ handle_of d.1 ∷ []) ss d.0 rest other
    (subst (λ (q : Reply). CarriedTo (bound ++ handle_of q ∷ []) ss d.0 rest) same.1
    (subst (λ (z : List Line). CarriedTo (bound ++ handle_of c.1 ∷ []) ss z rest) same.0 c.3)) d.3

module _ (ss : List Statement) (lines : List Line) where
  abbrev pub SomeMain : Type 0
  SomeMain = (rs : List Reply) × MainRan in_lines ss lines rs

  abbrev pub SomeCaller : Type 0
  SomeCaller = (rs : List Reply) × CallerRan in_lines ss lines rs

  -- main's lines behind their head
  pub main_left : (left : List Line) → lines ≡ head_lines (has_begin ss) ++ left → SomeMain → CarriedTo [] ss left tail_of_main
  main_left left e1 e2 = grind (arith, nat_tests, head_lines, has_begin, tail_of_main, to_rest)

  pub main_is : (left : List Line) → lines ≡ head_lines (has_begin ss) ++ left → CarriedTo [] ss left tail_of_main → SomeMain
  main_is left e1 e2 = grind (arith, nat_tests, from_rest, tail_of_main, head_lines, has_begin)

  pub caller_left : (first : Line) (rest : List Line) → lines ≡ first ∷ rest → SomeCaller → CarriedTo [] ss rest []
  caller_left first rest is m =
      let e : first ∷ rest ≡ line_with ops.Enter replies.Ok m.1.entered.0 ∷ m.1.body = sym is ∙ (m.1.is ∙ ap (λ f. f ++ m.1.body) m.1.entered.1) in
      let behind : rest ≡ m.1.body = cc in
      subst (λ (z : List Line). CarriedTo [] ss z []) (append-nil m.1.body ∙ sym behind) (to_rest [] ss m.1.body [] m.0 m.1.carried)

  pub caller_is : (first : Line) (rest : List Line) → lines ≡ first ∷ rest → EntersLine first → CarriedTo [] ss rest [] → SomeCaller
  caller_is first rest is enters c =
      let b = from_rest [] ss rest [] c in
      let here : first ≡ line_with ops.Enter replies.Ok first.beside =
      ap (λ o. line_with o first.reply first.beside) enters.0 ∙ ap (λ r. line_with ops.Enter r first.beside) enters.1 in (
        b.replies,
        record {
          front = first ∷ [];
          body = b.body;
          entered = (first.beside, ap (λ l. l ∷ []) here);
          is = is ∙ ap (λ l. first ∷ l) (b.is ∙ append-nil b.body);
          carried = b.carried;
        },
      )

  pub main_some : (left rest : List Line) (b : Bool) → lines ≡ head_lines (has_begin ss) ++ left → CarriedTo [] ss left rest → IsTrue b ↔ (rest ≡ tail_of_main)
      → IsTrue b ↔ SomeMain
  main_some left rest b e1 e2 e3 = grind (arith, nat_tests, main_is, rest_same, tail_of_main, main_left)

  pub main_none : (left : List Line) → lines ≡ head_lines (has_begin ss) ++ left → ((rest : List Line) → CarriedTo [] ss left rest → ⊥)
      → IsTrue false ↔ SomeMain
  main_none left is none = (λ t. absurd (let x = t in cc), λ m. absurd (none tail_of_main (main_left left is m)))

  pub caller_some : (first : Line) (left rest : List Line) (b : Bool) → lines ≡ first ∷ left → EntersLine first → CarriedTo [] ss left rest
      → IsTrue b ↔ (rest ≡ [])
      → IsTrue b ↔ SomeCaller
  caller_some first left rest b is enters c same = (
    λ t. caller_is first left is enters (subst (λ (z : List Line). CarriedTo [] ss left z) (same.0 t) c),
    λ m. same.1
        (rest_same [] ss left rest [] c (caller_left first left is m)),
  )

  pub caller_none : (first : Line) (left : List Line) → lines ≡ first ∷ left → ((rest : List Line) → CarriedTo [] ss left rest → ⊥) → IsTrue false ↔ SomeCaller
  caller_none first left is none = (λ t. absurd (let x = t in cc), λ m. absurd (none [] (caller_left first left is m)))

-- what is there, where something is
pub some_of : {A : Type 0} (P : A → Type 0) (o : Option A) (x : A) → o ≡ Some x → IfSome o P → P x
some_of {A} P o x e i = subst (λ (z : Option A). IfSome z P) e i

pub none_of : {A : Type 0} {P : Type 0} (o : Option A) → o ≡ None → IfNone o P → P
none_of {A} {P} o e i = subst (λ (z : Option A). IfNone z P) e i

pub is_nil : (l : List Line) (b : Bool) → b ≡ (length l == 0) → IsTrue b ↔ (l ≡ [])
is_nil l b e = (λ t. nil_from_length l (omega (arith, (Decides-eqb (length l) 0).0 (sym e ∙ t))), λ n. e ∙ (Decides-eqb (length l) 0).1 (ap length n))

-- Workers

pub work_more : (ls : List Line) (i : ℕ) (l : Line) (o : Op) (r : Reply) (b : Bool) → i < length ls → l ≡ get_or ls i l → o ≡ l.op → r ≡ l.reply
    → b ≡ is_work o r → all_work (drop i ls) ≡ (b && all_work (drop (i + 1) ls))
unfolding all_work
work_more ls i l o r b here is asks says e = ap all_work (drop_more ls i l here ∙ ap (λ x. x ∷ drop (i + 1) ls) (sym is))
    ∙ ap (λ x. x && all_work (drop (i + 1) ls)) (sym (e ∙ (ap (λ z. is_work z r) asks ∙ ap (λ z. is_work l.op z) says)))

pub work_none : (ls : List Line) (i : ℕ) → length ls ≤ i → all_work (drop i ls) ≡ true
unfolding all_work
work_none ls i past = ap all_work (nil_from_length (drop i ls) (omega (arith, length-drop i ls, past)))
