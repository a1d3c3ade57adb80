-- What a seat asks next, from the lines that it made.
use Rattle.std.specs.Prelude.{◌==◌, not, ◌&&◌, ◌⊎◌, nat_lt}
use Rattle.std.proofs.Common.{◌≡◌, ℕ, suc, ◌+◌, ◌<◌, ◌≤◌, Bool, true, false, cond, List, [], ◌∷◌, ◌++◌, length, Option, None, Some, inl, inr, refl, sym, ◌∙◌, ap, subst, arith, append_assoc}
use Rattle.std.proofs.lemmas.Bool.Decides.{nat_tests}
use Rattle.std.proofs.lemmas.List.{append-nil, length-append}
use Rattle.history.specs.Histories.{entry}
use Rattle.mtapi_values.specs.Timeouts.{looks_of}
use Rattle.workload_file.specs.declared.workload.Statement.{Statement}
use Rattle.workload_file.specs.declared.workload.Part.{Part}
use Rattle.workload_file.specs.declared.workload.Workload.{Workload}
use Rattle.mtapi_machine.specs.declared.ops.Op.{Op}
use Rattle.mtapi_machine.specs.declared.ops.Op.TheVariants as op
use Rattle.mtapi_machine.specs.declared.replies.Reply.{Reply}
use Rattle.mtapi_machine.specs.declared.replies.Reply.TheVariants as reply
use Rattle.mtapi_machine.specs.Legal.{NodeEntry}
use Rattle.mtapi_machine.specs.Row.{handle_of}
use Rattle.mtapi_machine.specs.Kept.{is_pending}
use Rattle.workload_runs.specs.Calls.{Call, Once, Looking, call_of}
use Rattle.workload_runs.specs.Lines.{Line, line_with, lines_of, before_it, MadeLines, head_lines, tail_of_main, KeepsTimeout, in_lines}
use Rattle.workload_runs.specs.Parts.{Carried, MainRan, CallerRan, CallersRan, PartsRan, has_begin}
use Rattle.workload_runs.specs.RunOf.{is_work, all_work}
use Rattle.run_report.specs.Replies.{decided}
use Rattle.begun_runs.specs.Begun.{Begun}
use Rattle.begun_runs.proofs.Fronts.{fronts_of_begun}
use Rattle.begun_runs.specs.Asks.{AskedBy, AsksOp, AsksNext, AsksPart, main_head, MainAsks, CallerAsks, MayMake, worker, main, caller, EachIsAsked}

-- the replies of these lines that decide
unfoldable pub decided_in : List Line → List Reply
decided_in [] = []
decided_in (l ∷ ls) = cond (not (is_pending l.reply)) (l.reply ∷ decided_in ls) (decided_in ls)

-- those of a seat's lines are those of its entries
pub decided_lines : (who : ℕ) (es : List NodeEntry) (ns : List ℕ) → length es ≡ length ns → decided who es ≡ decided_in (lines_of who es ns)
unfolding decided lines_of decided_in
decided_lines who [] ns l = refl
decided_lines who (e ∷ es) [] l = absurd (omega arith)
decided_lines who (e ∷ es) (n ∷ ns) l = grind (arith, nat_tests, decided_lines who es ns (omega arith))

-- these lines are of these ops, and each decides
AreOf : List Op → List Line → Type 0
AreOf [] ls = ls ≡ []
AreOf (o ∷ os) [] = ⊥
AreOf (o ∷ os) (l ∷ ls) = (l.op ≡ o) × (is_pending l.reply ≡ false) × AreOf os ls

nothing_ends : {A : Type 0} (xs ys : List A) (x : A) → [] ≡ xs ++ x ∷ ys → ⊥
nothing_ends [] ys x e = cc
nothing_ends (y ∷ xs) ys x e = cc

pub decided_first : (l : Line) (ls : List Line) → is_pending l.reply ≡ false → decided_in (l ∷ ls) ≡ l.reply ∷ decided_in ls
unfolding decided_in
decided_first l ls e = λ i. cond (not (e i)) (l.reply ∷ decided_in ls) (decided_in ls)

pub decided_later : (l : Line) (ls : List Line) → is_pending l.reply ≡ true → decided_in (l ∷ ls) ≡ decided_in ls
unfolding decided_in
decided_later l ls e = λ i. cond (not (e i)) (l.reply ∷ decided_in ls) (decided_in ls)

pub decided_none : decided_in [] ≡ []
unfolding decided_in
decided_none = refl

-- of the ops of these lines, one line's is the next
asks_op : (os : List Op) (T A B : List Line) (l : Line) → AreOf os T → T ≡ A ++ l ∷ B → AsksOp os (decided_in A) l.op
unfolding AreOf AsksOp
asks_op [] T A B l are e = nothing_ends A B l (sym are ∙ e)
asks_op (o ∷ os) [] A B l are e = absurd are
asks_op (o ∷ os) (t ∷ T) [] B l are e =
    subst (λ rs. AsksOp (o ∷ os) rs l.op) (sym decided_none) (let here : t ≡ l = cc in ap (λ z. z.op) (sym here) ∙ are.0)
asks_op (o ∷ os) (t ∷ T) (a ∷ A) B l are e =
    let here : t ≡ a = cc in
    let more : T ≡ A ++ l ∷ B = cc in
    subst (λ rs. AsksOp (o ∷ os) rs l.op) (sym (decided_first a A (ap (λ z. is_pending z.reply) (sym here) ∙ are.1))) (asks_op os T A B l are.2 more)

-- the lines of a call: one that decides, or a look that doesn't and one that does
pub data FrontOf (c : Call) (front : List Line) (r : Reply) : Type 0 where
  one : (p : Op) (n : ℕ) → front ≡ line_with p r n ∷ [] → AskedBy c p → is_pending r ≡ false → FrontOf c front r
  two : (q p : Op) (m n : ℕ) → front ≡ line_with q reply.Pending m ∷ line_with p r n ∷ [] → AskedBy c q → AskedBy c p → is_pending r ≡ false → FrontOf c front r

pub front_of : (c : Call) (front : List Line) (r : Reply) → MadeLines c front r → FrontOf c front r
front_of (Once o) front r m = one o 0 m.0 refl m.1
front_of (Looking waits o timeout) front r m = by m.first m.is
  where
    never_last : (bound : Option ℕ) (last : Bool) (looks : ℕ) → KeepsTimeout bound last looks → bound ≡ None → last ≡ false
    never_last None last looks k e = k
    never_last (Some most) last looks k e = absurd (cc)

    decides_by : looks_of timeout ≡ None → m.last ≡ false
    decides_by e = never_last (looks_of timeout) m.last _ m.within e

    by : (first : Option ℕ) → front ≡ before_it (o false) first ++ line_with (o m.last) r m.beside ∷ [] → FrontOf (Looking waits o timeout) front r
    by None e = one (o m.last) m.beside e (m.last, refl, decides_by) m.decides
    by (Some n) e = two (o false) (o m.last) n m.beside e (false, refl, λ _. refl) (m.last, refl, decides_by) m.decides

-- the first call's lines, and what is told of those behind them
module _ (bound : List ℕ) (s : Statement) (ss : List Statement) (tail : List Op) (r : Reply) (rest T B : List Line) (l : Line)
    (go : (X : List Line) → rest ++ T ≡ X ++ l ∷ B → AsksNext (bound ++ handle_of r ∷ []) ss tail (decided_in X) l.op) where
  at_none : (p : Op) → AskedBy (call_of bound s.deed) p → l.op ≡ p → AsksNext bound (s ∷ ss) tail (decided_in []) l.op
  unfolding AsksNext
  at_none p asked is = subst (λ (x : List Reply). AsksNext bound (s ∷ ss) tail x l.op) (sym decided_none)
      (subst (λ (x : Op). AskedBy (call_of bound s.deed) x) (sym is) asked)

  last_line : (p : Op) (n : ℕ) → AskedBy (call_of bound s.deed) p → is_pending r ≡ false → (X : List Line) → line_with p r n ∷ (rest ++ T) ≡ X ++ l ∷ B
      → AsksNext bound (s ∷ ss) tail (decided_in X) l.op
  unfolding AsksNext
  last_line p n asked decides [] q = let here : line_with p r n ≡ l = cc in at_none p asked (ap (λ z. z.op) (sym here))
  last_line p n asked decides (a ∷ X) q =
      let here : line_with p r n ≡ a = cc in
      let more : rest ++ T ≡ X ++ l ∷ B = cc in
      subst (λ (x : List Reply). AsksNext bound (s ∷ ss) tail x l.op)
      (sym (subst (λ (z : Line). decided_in (z ∷ X) ≡ r ∷ decided_in X) here (decided_first (line_with p r n) X decides))) (go X more)

  asks_front : (front : List Line) → FrontOf (call_of bound s.deed) front r → (X : List Line) → front ++ (rest ++ T) ≡ X ++ l ∷ B
      → AsksNext bound (s ∷ ss) tail (decided_in X) l.op
  asks_front front (one p n is asked decides) X q = last_line p n asked decides X (ap (λ (f : List Line). f ++ (rest ++ T)) (sym is) ∙ q)
  asks_front front (two o p m n is looks asked decides) [] q =
      let all : line_with o reply.Pending m ∷ line_with p r n ∷ (rest ++ T) ≡ l ∷ B = ap (λ (f : List Line). f ++ (rest ++ T)) (sym is) ∙ q in
      let here : line_with o reply.Pending m ≡ l = cc in
      at_none o looks (ap (λ z. z.op) (sym here))
  asks_front front (two o p m n is looks asked decides) (a ∷ X) q =
      let all : line_with o reply.Pending m ∷ line_with p r n ∷ (rest ++ T) ≡ a ∷ (X ++ l ∷ B) = ap (λ (f : List Line). f ++ (rest ++ T)) (sym is) ∙ q in
      let here : line_with o reply.Pending m ≡ a = cc in
      let more : line_with p r n ∷ (rest ++ T) ≡ X ++ l ∷ B = cc in
      subst (λ (x : List Reply). AsksNext bound (s ∷ ss) tail x l.op)
      (sym (subst (λ (z : Line). decided_in (z ∷ X) ≡ decided_in X) here (decided_later (line_with o reply.Pending m) X refl)))
      (last_line p n asked decides X more)

asks_next : (bound : List ℕ) (ss : List Statement) (tail : List Op) (T body : List Line) (rs : List Reply) (A B : List Line) (l : Line)
    → Carried MadeLines bound ss body rs → AreOf tail T → body ++ T ≡ A ++ l ∷ B → AsksNext bound ss tail (decided_in A) l.op
unfolding Carried AsksNext
asks_next bound [] tail T body [] A B l c are e = asks_op tail T A B l are (subst (λ (b : List Line). b ++ T ≡ A ++ l ∷ B) c e)
asks_next bound [] tail T body (r ∷ rs) A B l c are e = absurd c
asks_next bound (s ∷ ss) tail T body [] A B l c are e = absurd c
asks_next bound (s ∷ ss) tail T body (r ∷ rs) A B l c are e =
    asks_front bound s ss tail r c.1 T B l (λ X q. asks_next (bound ++ handle_of r ∷ []) ss tail T c.1 rs X B l c.4 are q) c.0
    (front_of (call_of bound s.deed) c.0 r c.3) A
    (sym (append_assoc c.0 c.1 T) ∙ (ap (λ (b : List Line). b ++ T) (sym c.2) ∙ e))

asks_part : (os : List Op) (H : List Line) (ss : List Statement) (tail : List Op) (T body : List Line) (rs : List Reply) (A B : List Line) (l : Line)
    → AreOf os H → Carried MadeLines [] ss body rs → AreOf tail T → H ++ (body ++ T) ≡ A ++ l ∷ B → AsksPart os ss tail (decided_in A) l.op
unfolding AreOf AsksPart
asks_part [] H ss tail T body rs A B l head c are e =
    asks_next [] ss tail T body rs A B l c are (subst (λ (h : List Line). h ++ (body ++ T) ≡ A ++ l ∷ B) head e)
asks_part (o ∷ os) [] ss tail T body rs A B l head c are e = absurd head
asks_part (o ∷ os) (h ∷ H) ss tail T body rs [] B l head c are e =
    let here : h ≡ l = cc in
    subst (λ (x : List Reply). AsksPart (o ∷ os) ss tail x l.op) (sym decided_none) (ap (λ z. z.op) (sym here) ∙ head.0)
asks_part (o ∷ os) (h ∷ H) ss tail T body rs (a ∷ A) B l head c are e =
    let here : h ≡ a = cc in
    let more : H ++ (body ++ T) ≡ A ++ l ∷ B = cc in
    subst (λ (x : List Reply). AsksPart (o ∷ os) ss tail x l.op) (sym (decided_first a A (ap (λ z. is_pending z.reply) (sym here) ∙ head.1)))
    (asks_part os H ss tail T body rs A B l head.2 c are more)

heads_are : (b : Bool) → AreOf (main_head b) (head_lines b)
unfolding AreOf
heads_are true = (refl, refl, refl)
heads_are false = (refl, refl, (refl, refl, refl))

tails_are : AreOf (op.Close ∷ op.Final ∷ []) tail_of_main
unfolding AreOf
tails_are = (refl, refl, (refl, refl, refl))

entered_is : (looks : ℕ) → AreOf (op.Enter ∷ []) (line_with op.Enter reply.Ok looks ∷ [])
unfolding AreOf
entered_is looks = (refl, refl, refl)

none_are : AreOf [] []
unfolding AreOf
none_are = refl

main_asks : (ss : List Statement) (lines A B : List Line) (l : Line) (rs : List Reply) → MainRan in_lines ss lines rs → lines ≡ A ++ l ∷ B
    → MainAsks ss (decided_in A) l.op
main_asks ss lines A B l rs m e =
    asks_part (main_head (has_begin ss)) (head_lines (has_begin ss)) ss (op.Close ∷ op.Final ∷ []) tail_of_main m.body rs A B l (heads_are (has_begin ss))
    m.carried tails_are (sym m.is ∙ e)

caller_asks : (ss : List Statement) (lines A B : List Line) (l : Line) (rs : List Reply) → CallerRan in_lines ss lines rs → lines ≡ A ++ l ∷ B
    → CallerAsks ss (decided_in A) l.op
caller_asks ss lines A B l rs m e =
    asks_part (op.Enter ∷ []) (line_with op.Enter reply.Ok m.entered.0 ∷ []) ss [] [] m.body rs A B l (entered_is m.entered.0) m.carried none_are
    (ap (λ (x : List Line). line_with op.Enter reply.Ok m.entered.0 ∷ x) (append-nil m.body)
    ∙ (ap (λ (f : List Line). f ++ m.body) (sym m.entered.1) ∙ (sym m.is ∙ e)))

-- a worker's line is work, or the last one
worker_makes : (work A B : List Line) (l stop : Line) → all_work work ≡ true → work ++ stop ∷ [] ≡ A ++ l ∷ B
    → (is_work l.op l.reply ≡ true) ⊎ (l ≡ stop)
unfolding all_work
worker_makes [] [] B l stop w e = inr (let here : stop ≡ l = cc in sym here)
worker_makes [] (a ∷ A) B l stop w e = absurd (nothing_ends A B l (cc))
worker_makes (x ∷ work) [] B l stop w e = inl (let here : x ≡ l = cc in subst (λ (z : Line). is_work z.op z.reply ≡ true) here (first (is_work x.op x.reply) w))
  where
    first : (b : Bool) → (b && all_work work) ≡ true → b ≡ true
    first true q = refl
    first false q = absurd (cc)
worker_makes (x ∷ work) (a ∷ A) B l stop w e = worker_makes work A B l stop (later (is_work x.op x.reply) w) (cc)
  where
    later : (b : Bool) → (b && all_work work) ≡ true → all_work work ≡ true
    later true q = q
    later false q = absurd (cc)

-- the lines of a seat over two lists, of which the second begins with its entry
lines_split : (who : ℕ) (es : List NodeEntry) (e : NodeEntry) (rest : List NodeEntry) (ns : List ℕ) (n : ℕ) (beside : List ℕ) → length es ≡ length ns
    → (e.who == who) ≡ true
    → lines_of who ((es ++ e ∷ []) ++ rest) ((ns ++ n ∷ []) ++ beside) ≡ lines_of who es ns ++ line_with e.op e.reply n ∷ lines_of who rest beside
unfolding lines_of
lines_split who [] e rest [] n beside even is =
    λ i. cond (is i) (line_with e.op e.reply n ∷ lines_of who rest beside) (lines_of who rest beside)
lines_split who [] e rest (m ∷ ns) n beside even is = absurd (omega (arith, even))
lines_split who (x ∷ es) e rest [] n beside even is = absurd (omega (arith, even))
lines_split who (x ∷ es) e rest (m ∷ ns) n beside even is = both (x.who == who) _ _ _ (lines_split who es e rest ns n beside (omega (arith, even)) is)
  where
    both : (b : Bool) (xs ys zs : List Line) → xs ≡ ys ++ zs → cond b (line_with x.op x.reply m ∷ xs) xs ≡ cond b (line_with x.op x.reply m ∷ ys) ys ++ zs
    both true xs ys zs q = ap (λ (l : List Line). line_with x.op x.reply m ∷ l) q
    both false xs ys zs q = q

-- the part of a further caller's seat
pub record PartAt (made : ℕ → List Line) (who : ℕ) (ps : List Part) (w : ℕ) : Type 0 where
  pub before : List Part
  pub part : Part
  pub behind : List Part
  pub is : ps ≡ before ++ part ∷ behind
  pub at : w ≡ who + length before
  pub replies : List Reply
  pub ran : CallerRan in_lines part.statements (made w) replies

first_or_later : (made : ℕ → List Line) (who : ℕ) (p : Part) (ps : List Part) (rs : List Reply) (w : ℕ) → CallerRan in_lines p.statements (made who) rs
    → who ≤ w → (suc who ≤ w → PartAt made (suc who) ps w) → PartAt made who (p ∷ ps) w
first_or_later made who p ps rs w c low more = by (w == who) refl
  where
    by : (b : Bool) → (w == who) ≡ b → PartAt made who (p ∷ ps) w
    by true q =
        let same : w ≡ who = grind (arith, nat_tests) in
        record {
          before = [];
          part = p;
          behind = ps;
          is = refl;
          at = omega (arith, same);
          replies = rs;
          ran = subst (λ (x : ℕ). CallerRan in_lines p.statements (made x) rs) (sym same) c;
        }
    by false q =
        let past : suc who ≤ w = grind (arith, nat_tests) in
        let x = more past in
        let y = x.at in
        record {
          before = p ∷ x.before;
          part = x.part;
          behind = x.behind;
          is = ap (λ (l : List Part). p ∷ l) x.is;
          at = omega (arith, y);
          replies = x.replies;
          ran = x.ran;
        }

pub part_at : (made : ℕ → List Line) (who : ℕ) (ps : List Part) (rss : List (List Reply)) (w : ℕ) → CallersRan in_lines made who ps rss → who ≤ w
    → w < who + length ps
    → PartAt made who ps w
unfolding CallersRan
part_at made who [] rss w c low high = absurd (omega (arith, low, high))
part_at made who (p ∷ ps) [] w c low high = absurd c
part_at made who (p ∷ ps) (rs ∷ rss) w c low high =
    first_or_later made who p ps rs w c.0 low (λ past. part_at made (suc who) ps rss w c.1 past (omega (arith, high)))

-- Each seat

module _ (load : Workload) (es : List NodeEntry) (e : NodeEntry) (ns : List ℕ) (n : ℕ) (b : Begun load (es ++ e ∷ []) (ns ++ n ∷ [])) where
  -- there are as many numbers as entries before the last one
  even : length es ≡ length ns
  even = let x = b.even in grind (arith, length-append)

  abbrev made : ℕ → List Line
  made who = lines_of who ((es ++ e ∷ []) ++ b.rest) ((ns ++ n ∷ []) ++ b.beside)

  -- the lines of its seat
  split : (who : ℕ) → e.who ≡ who → made who ≡ lines_of who es ns ++ line_with e.op e.reply n ∷ lines_of who b.rest b.beside
  split who is = lines_split who es e b.rest ns n b.beside even (grind (arith, nat_tests))

  decided_are : (who : ℕ) → decided_in (lines_of who es ns) ≡ decided who es
  decided_are who = sym (decided_lines who es ns even)

  by_worker : e.who < load.settings.workers → MayMake load es e
  by_worker small =
      let w = b.run.workers e.who small in
      worker e small (made_so (worker_makes w.work (lines_of e.who es ns) (lines_of e.who b.rest b.beside) (line_with e.op e.reply n)
      (line_with op.Pick reply.Stop w.beside)
      w.works (sym w.is ∙ split e.who refl)))
    where
      made_so : {m : ℕ} → (is_work e.op e.reply ≡ true) ⊎ (line_with e.op e.reply n ≡ line_with op.Pick reply.Stop m)
          → (is_work e.op e.reply ≡ true) ⊎ (e ≡ entry e.who op.Pick reply.Stop)
      made_so (inl works) = inl works
      made_so (inr is) = inr (λ i. entry e.who (is i).op (is i).reply)

  by_main : (ps : List Part) (rss : List (List Reply)) → load.parts ≡ ps → PartsRan in_lines made load.settings.workers ps rss → e.who ≡ load.settings.workers
      → MayMake load es e
  by_main [] rss are ran is = absurd ran
  by_main (p ∷ ps) [] are ran is = absurd ran
  by_main (p ∷ ps) (rs ∷ rss) are ran is =
      main e p ps are is (subst (λ (x : List Reply). MainAsks p.statements x e.op) (decided_are e.who)
      (main_asks p.statements (made e.who) (lines_of e.who es ns) (lines_of e.who b.rest b.beside) (line_with e.op e.reply n) rs
      (subst (λ (w : ℕ). MainRan in_lines p.statements (made w) rs) (sym is) ran.0) (split e.who refl)))

  by_caller : (ps : List Part) (rss : List (List Reply)) → load.parts ≡ ps → PartsRan in_lines made load.settings.workers ps rss
      → suc load.settings.workers ≤ e.who → e.who < load.settings.workers + length ps → MayMake load es e
  by_caller [] rss are ran low high = absurd ran
  by_caller (p ∷ ps) [] are ran low high = absurd ran
  by_caller (p ∷ ps) (rs ∷ rss) are ran low high =
      let x = part_at made (suc load.settings.workers) ps rss e.who ran.1 low (omega (arith, high)) in
      let y = x.at in
      caller e p x.before x.behind x.part (are ∙ ap (λ (l : List Part). p ∷ l) x.is) (omega (arith, y))
      (subst (λ (z : List Reply). CallerAsks x.part.statements z e.op) (decided_are e.who)
      (caller_asks x.part.statements (made e.who) (lines_of e.who es ns) (lines_of e.who b.rest b.beside) (line_with e.op e.reply n) x.replies x.ran
      (split e.who refl)))

next_is_asked : (load : Workload) (es : List NodeEntry) (e : NodeEntry) (ns : List ℕ) (n : ℕ) → e.who < load.settings.workers + length load.parts
    → Begun load (es ++ e ∷ []) (ns ++ n ∷ []) → MayMake load es e
next_is_asked load es e ns n seat b = by (nat_lt e.who load.settings.workers) (e.who == load.settings.workers) refl refl
  where
    by : (below here : Bool) → nat_lt e.who load.settings.workers ≡ below → (e.who == load.settings.workers) ≡ here → MayMake load es e
    by true here p q = by_worker load es e ns n b (grind (arith, nat_tests))
    by false true p q = by_main load es e ns n b load.parts b.run.replies refl b.run.parts (grind (arith, nat_tests))
    by false false p q = by_caller load es e ns n b load.parts b.run.replies refl b.run.parts (grind (arith, nat_tests)) seat

-- numbers beside a list, cut behind one of its elements
record Cut (es : List NodeEntry) (ns : List ℕ) : Type 0 where
  pub front : List ℕ
  pub one : ℕ
  pub back : List ℕ
  pub is : ns ≡ (front ++ one ∷ []) ++ back
  pub even : length es ≡ length front

cut : (es : List NodeEntry) (e : NodeEntry) (more : List NodeEntry) (ns : List ℕ) → length (es ++ e ∷ more) ≡ length ns → Cut es ns
cut [] e more [] even = absurd (omega (arith, even))
cut [] e more (n ∷ ns) even = record { front = []; one = n; back = ns; is = refl; even = refl }
cut (x ∷ es) e more [] even = absurd (omega (arith, even))
cut (x ∷ es) e more (n ∷ ns) even =
    let c = cut es e more ns (omega (arith, even)) in
    let same = c.even in
    record { front = n ∷ c.front; one = c.one; back = c.back; is = ap (λ (l : List ℕ). n ∷ l) c.is; even = omega (arith, same) }

pub each_is_asked : EachIsAsked
each_is_asked load es more e ns seat b =
    let c = cut es e more ns b.even in
    let same = c.even in
    let whole : Begun load ((es ++ e ∷ []) ++ more) ((c.front ++ c.one ∷ []) ++ c.back) =
    subst (λ (l : List NodeEntry). Begun load l ((c.front ++ c.one ∷ []) ++ c.back)) (sym (append_assoc es (e ∷ []) more))
    (subst (λ (l : List ℕ). Begun load (es ++ e ∷ more) l) c.is b) in
    next_is_asked load es e c.front c.one seat
    (fronts_of_begun load (es ++ e ∷ []) more (c.front ++ c.one ∷ []) c.back (grind (arith, length-append)) whole)
