-- What a seat asks by how many replies it has, and that main closes behind the callers, and finalizes last.
use Rattle.std.specs.Prelude.{◌==◌, not, ◌⊎◌, drop, map, slice_get, Some}
use Rattle.std.proofs.lemmas.Bool.Decides.{nat_tests}
use Rattle.std.proofs.Common.{◌≡◌, ℕ, suc, ◌+◌, ◌<◌, ◌≤◌, Bool, true, false, cond, List, [], ◌∷◌, ◌++◌, length, inl, inr, refl, sym, ◌∙◌, ap, subst, arith, append_assoc}
use Rattle.std.proofs.lemmas.List.{append-nil, length-append, length-map}
use Rattle.history.specs.Histories.{entry, entries_of}
use Rattle.workload_file.specs.declared.workload.Statement.{Statement}
use Rattle.workload_file.specs.declared.workload.Part.{Part}
use Rattle.workload_file.specs.declared.workload.Workload.{Workload}
use Rattle.mtapi_machine.specs.declared.ops.Op.{Op}
use Rattle.mtapi_machine.specs.declared.ops.Op.TheVariants as op
use Rattle.mtapi_machine.specs.declared.replies.Reply.{Reply}
use Rattle.mtapi_machine.specs.declared.replies.Reply.TheVariants as reply
use Rattle.mtapi_machine.specs.Legal.{NodeEntry}
use Rattle.mtapi_machine.specs.Row.{handle_of}
use Rattle.mtapi_machine.specs.Kept.{is_pending}
use Rattle.workload_runs.specs.Calls.{Call, call_of}
use Rattle.workload_runs.specs.Lines.{Line, line_with, lines_of, MadeLines, in_lines}
use Rattle.workload_runs.specs.Parts.{Carried, CallerRan, CallersRan, PartsRan}
use Rattle.workload_runs.specs.RunOf.{RunOf, ClosesAtEnd, is_work}
use Rattle.run_report.specs.Replies.{decided, decides}
use Rattle.begun_runs.specs.Asks.{AskedBy, AsksOp, AsksNext, AsksPart, MainAsks, CallerAsks, MayMake, worker, main, caller}
use Rattle.begun_runs.specs.Begun.{Begun}
use Rattle.begun_runs.specs.Halts.{reply_handles, SomeLacks, calls_ahead}
use Rattle.begun_runs.proofs.Fronts.{begun_whole}
use Rattle.begun_runs.proofs.Next.{decided_in, decided_none, decided_first, decided_later, decided_lines, FrontOf, one, two, front_of, each_is_asked}

-- Who makes an entry

pub record ByWorker (load : Workload) (e : NodeEntry) : Type 0 where
  pub small : e.who < load.settings.workers
  pub makes : (is_work e.op e.reply ≡ true) ⊎ (e ≡ entry e.who op.Pick reply.Stop)

pub record ByMain (load : Workload) (es : List NodeEntry) (e : NodeEntry) : Type 0 where
  pub part : Part
  pub others : List Part
  pub are : load.parts ≡ part ∷ others
  pub at : e.who ≡ load.settings.workers
  pub asks : MainAsks part.statements (decided e.who es) e.op

pub record ByCaller (load : Workload) (es : List NodeEntry) (e : NodeEntry) : Type 0 where
  pub first : Part
  pub earlier : List Part
  pub later : List Part
  pub part : Part
  pub are : load.parts ≡ first ∷ (earlier ++ part ∷ later)
  pub at : e.who ≡ load.settings.workers + (1 + length earlier)
  pub asks : CallerAsks part.statements (decided e.who es) e.op

pub data Maker (load : Workload) (es : List NodeEntry) (e : NodeEntry) : Type 0 where
  by_worker : ByWorker load e → Maker load es e
  by_main : ByMain load es e → Maker load es e
  by_caller : ByCaller load es e → Maker load es e

pub maker_of : (load : Workload) (es : List NodeEntry) (e : NodeEntry) → MayMake load es e → Maker load es e
maker_of load es _ (worker e small w) = by_worker (record { small = small; makes = w })
maker_of load es _ (main e p ps are at asks) = by_main (record { part = p; others = ps; are = are; at = at; asks = asks })
maker_of load es _ (caller e q qs ps p are at asks) =
    by_caller (record { first = q; earlier = qs; later = ps; part = p; are = are; at = at; asks = asks })

-- What is asked behind so many replies

next_on : (bound : List ℕ) (ss : List Statement) (t : Statement) (tail : List Op) (rs : List Reply) (p : Op) → slice_get ss (length rs) ≡ Some t
    → AsksNext bound ss tail rs p → AskedBy (call_of (bound ++ map handle_of rs) t.deed) p
unfolding AsksNext
next_on bound [] t tail rs p e a = absurd (cc)
next_on bound (s ∷ ss) t tail [] p e a =
    let here : s ≡ t = cc in
    subst (λ (b : List ℕ). AskedBy (call_of b t.deed) p) (sym (append-nil bound)) (subst (λ (x : Statement). AskedBy (call_of bound x.deed) p) here a)
next_on bound (s ∷ ss) t tail (r ∷ rs) p e a =
    subst (λ (b : List ℕ). AskedBy (call_of b t.deed) p) (append_assoc bound (handle_of r ∷ []) (map handle_of rs))
    (next_on (bound ++ handle_of r ∷ []) ss t tail rs p e a)

-- the statement behind so many is the next one
pub part_on : (os : List Op) (ss : List Statement) (place : ℕ) (t : Statement) (tail : List Op) (rs : List Reply) (p : Op) → slice_get ss place ≡ Some t
    → length rs ≡ length os + place → AsksPart os ss tail rs p → AskedBy (call_of (map handle_of (drop (length os) rs)) t.deed) p
unfolding AsksPart
part_on [] ss place t tail rs p is e a = let same : length rs ≡ place = omega (arith, e) in next_on [] ss t tail rs p (ap (slice_get ss) same ∙ is) a
part_on (o ∷ os) ss place t tail [] p is e a = absurd (omega (arith, e))
part_on (o ∷ os) ss place t tail (r ∷ rs) p is e a = part_on os ss place t tail rs p is (omega (arith, e)) a

-- an op behind the statements, where so many more replies came than there are statements
abbrev Behind : List Op → ℕ → List Reply → Op → Type 0
Behind tail n rs p = (ts : List Reply) × (length ts + n ≡ length rs) × AsksOp tail ts p

next_behind : (bound : List ℕ) (ss : List Statement) (tail : List Op) (rs : List Reply) (p : Op) → length ss ≤ length rs → AsksNext bound ss tail rs p
    → Behind tail (length ss) rs p
unfolding AsksNext
next_behind bound [] tail rs p l a = (rs, omega arith, a)
next_behind bound (s ∷ ss) tail [] p l a = absurd (omega (arith, l))
next_behind bound (s ∷ ss) tail (r ∷ rs) p l a =
    let x = next_behind (bound ++ handle_of r ∷ []) ss tail rs p (omega (arith, l)) a in let e = x.1 in (x.0, omega (arith, e), x.2)

pub part_behind : (os : List Op) (ss : List Statement) (tail : List Op) (rs : List Reply) (p : Op) → length os + length ss ≤ length rs
    → AsksPart os ss tail rs p
    → Behind tail (length os + length ss) rs p
unfolding AsksPart
part_behind [] ss tail rs p l a =
    let x = next_behind [] ss tail rs p (omega (arith, l)) a in let e = x.1 in (x.0, omega (arith, e), x.2)
part_behind (o ∷ os) ss tail [] p l a = absurd (omega (arith, l))
part_behind (o ∷ os) ss tail (r ∷ rs) p l a =
    let x = part_behind os ss tail rs p (omega (arith, l)) a in let e = x.1 in (x.0, omega (arith, e), x.2)

-- the first of main's two last ops, and the second one
pub asks_first : (ts : List Reply) (p : Op) → length ts ≡ 0 → AsksOp (op.Close ∷ op.Final ∷ []) ts p → p ≡ op.Close
unfolding AsksOp
asks_first [] p e a = a
asks_first (t ∷ ts) p e a = absurd (omega (arith, e))

pub asks_second : (ts : List Reply) (p : Op) → 1 ≤ length ts → AsksOp (op.Close ∷ op.Final ∷ []) ts p → (length ts ≡ 1) × (p ≡ op.Final)
unfolding AsksOp
asks_second [] p l a = absurd (omega (arith, l))
asks_second (t ∷ []) p l a = (refl, a)
asks_second (t ∷ u ∷ ts) p l a = absurd a

-- The replies of lists behind one another

either_first : {A : Type 0} (b : Bool) (r : A) (xs ys zs : List A) → xs ≡ ys ++ zs → cond b (r ∷ xs) xs ≡ cond b (r ∷ ys) ys ++ zs
either_first true r xs ys zs e = ap (λ l. r ∷ l) e
either_first false r xs ys zs e = e

pub decided_append : (who : ℕ) (L M : List NodeEntry) → decided who (L ++ M) ≡ decided who L ++ decided who M
unfolding decided
decided_append who [] M = refl
decided_append who (x ∷ L) M = either_first (decides who x) x.reply (decided who (L ++ M)) (decided who L) (decided who M) (decided_append who L M)

in_append : (L M : List Line) → decided_in (L ++ M) ≡ decided_in L ++ decided_in M
unfolding decided_in
in_append [] M = refl
in_append (x ∷ L) M = either_first (not (is_pending x.reply)) x.reply (decided_in (L ++ M)) (decided_in L) (decided_in M) (in_append L M)

-- an entry of another seat, and one that is Pending
pub none_of_other : (who : ℕ) (x : NodeEntry) → (x.who == who) ≡ false → decided who (x ∷ []) ≡ []
unfolding decided
none_of_other who x e1 = grind (arith, nat_tests)

pub none_pending : (who : ℕ) (x : NodeEntry) → is_pending x.reply ≡ true → decided who (x ∷ []) ≡ []
unfolding decided
none_pending who x e1 = grind (arith, nat_tests)

pub one_decided : (who : ℕ) (x : NodeEntry) → (x.who == who) ≡ true → is_pending x.reply ≡ false → length (decided who (x ∷ [])) ≡ 1
unfolding decided
one_decided who x e1 e2 = grind (arith, nat_tests)

none_without : (who : ℕ) (L : List NodeEntry) → entries_of who L ≡ [] → decided who L ≡ []
unfolding decided
none_without who [] e = refl
none_without who (x ∷ L) e = grind (arith, nat_tests, none_without who L)

-- The calls of a further caller

front_decides : (c : Call) (front : List Line) (r : Reply) → FrontOf c front r → length (decided_in front) ≡ 1
front_decides c front r (one p n is asked decides) =
    ap (λ (f : List Line). length (decided_in f)) is
    ∙ (ap (λ (l : List Reply). length l) (decided_first (line_with p r n) [] decides) ∙ ap (λ (l : List Reply). suc (length l)) decided_none)
front_decides c front r (two q p m n is looks asked decides) =
    ap (λ (f : List Line). length (decided_in f)) is
    ∙ (ap (λ (l : List Reply). length l) (decided_later (line_with q reply.Pending m) (line_with p r n ∷ []) refl)
    ∙ (ap (λ (l : List Reply). length l) (decided_first (line_with p r n) [] decides) ∙ ap (λ (l : List Reply). suc (length l)) decided_none))

carried_count : (bound : List ℕ) (ss : List Statement) (body : List Line) (rs : List Reply) → Carried MadeLines bound ss body rs
    → length (decided_in body) ≡ length ss
unfolding Carried
carried_count bound [] body [] c = ap (λ (b : List Line). length (decided_in b)) c ∙ ap (λ (l : List Reply). length l) decided_none
carried_count bound [] body (r ∷ rs) c = absurd c
carried_count bound (s ∷ ss) body [] c = absurd c
carried_count bound (s ∷ ss) body (r ∷ rs) c =
    let first = front_decides (call_of bound s.deed) c.0 r (front_of (call_of bound s.deed) c.0 r c.3) in
    let others = carried_count (bound ++ handle_of r ∷ []) ss c.1 rs c.4 in
    let whole : length (decided_in body) ≡ length (decided_in c.0 ++ decided_in c.1) =
    ap (λ (l : List Reply). length l) (ap decided_in c.2 ∙ in_append c.0 c.1) in
    let split = length-append (decided_in c.0) (decided_in c.1) in
    omega (arith, whole, split, first, others)

caller_count : (ss : List Statement) (ls : List Line) (rs : List Reply) → CallerRan in_lines ss ls rs → length (decided_in ls) ≡ suc (length ss)
caller_count ss ls rs c =
    let enters : length (decided_in c.front) ≡ 1 =
    ap (λ (f : List Line). length (decided_in f)) c.entered.1
    ∙ (ap (λ (l : List Reply). length l) (decided_first (line_with op.Enter reply.Ok c.entered.0) [] refl)
    ∙ ap (λ (l : List Reply). suc (length l)) decided_none) in
    let others = carried_count [] ss c.body rs c.carried in
    let whole : length (decided_in ls) ≡ length (decided_in c.front ++ decided_in c.body) =
    ap (λ (l : List Reply). length l) (ap decided_in c.is ∙ in_append c.front c.body) in
    let split = length-append (decided_in c.front) (decided_in c.body) in
    omega (arith, whole, split, enters, others)

-- each further caller of a run makes its statements
abbrev EachMakes : List NodeEntry → ℕ → List Part → Type 0
EachMakes L who [] = Unit {0}
EachMakes L who (p ∷ ps) = (length (decided who L) ≡ suc (length p.statements)) × EachMakes L (suc who) ps

callers_make : (L : List NodeEntry) (ns : List ℕ) (who : ℕ) (ps : List Part) (rss : List (List Reply)) → length L ≡ length ns
    → CallersRan in_lines (λ w. lines_of w L ns) who ps rss
    → EachMakes L who ps
unfolding CallersRan
callers_make L ns who [] rss even c = tt
callers_make L ns who (p ∷ ps) [] even c = absurd c
callers_make L ns who (p ∷ ps) (rs ∷ rss) even c = (
  ap (λ (l : List Reply). length l) (decided_lines who L ns even) ∙ caller_count p.statements (lines_of who L ns) rs c.0,
  callers_make L ns (suc who) ps rss even c.1,
)

-- a caller that has something to make behind a list, and all of which is by callers behind this seat
record Lacks (L M : List NodeEntry) (seat : ℕ) : Type 0 where
  pub who : ℕ
  pub further : seat < who
  pub some : 1 ≤ length (decided who M)

some_behind : (seat : ℕ) (es L M : List NodeEntry) (who : ℕ) (ps : List Part) → seat < who
    → ((w : ℕ) → seat < w → length (decided w L) ≡ length (decided w es))
    → EachMakes (L ++ M) who ps → SomeLacks es who ps → Lacks L M seat
some_behind seat es L M who [] far alike makes lacks = absurd lacks
some_behind seat es L M who (p ∷ ps) far alike makes (inl few) =
    let here = alike who far in
    let all = makes.0 in
    let split : length (decided who (L ++ M)) ≡ length (decided who L ++ decided who M) = ap (λ (l : List Reply). length l) (decided_append who L M) in
    let both = length-append (decided who L) (decided who M) in
    let known : length (reply_handles who es) ≡ length (decided who es) = length-map (decided who es) handle_of in
    record { who = who; further = far; some = omega (arith, here, all, split, both, few, known) }
some_behind seat es L M who (p ∷ ps) far alike makes (inr more) = some_behind seat es L M (suc who) ps (omega (arith, far)) alike makes.1 more

-- Two cuts of one list

data TwoCuts {A : Type 0} (L : List A) (x : A) (M : List A) (X : List A) (y : A) (Z : List A) : Type 0 where
  cut_before : (C : List A) → X ≡ L ++ x ∷ C → TwoCuts L x M X y Z
  cut_here : x ≡ y → M ≡ Z → TwoCuts L x M X y Z
  cut_behind : (C : List A) → Z ≡ C ++ x ∷ M → TwoCuts L x M X y Z

two_cuts : {A : Type 0} (L : List A) (x : A) (M X : List A) (y : A) (Z : List A) → L ++ x ∷ M ≡ X ++ y ∷ Z → TwoCuts L x M X y Z
two_cuts [] x M [] y Z e = cut_here (cc) (cc)
two_cuts [] x M (b ∷ X) y Z e = cut_before X (let here : x ≡ b = cc in ap (λ a. a ∷ X) (sym here))
two_cuts (a ∷ L) x M [] y Z e = cut_behind L (let rest : L ++ x ∷ M ≡ Z = cc in sym rest)
two_cuts {A = A} (a ∷ L) x M (b ∷ X) y Z e = under (two_cuts L x M X y Z (cc)) (cc)
  where
    under : TwoCuts L x M X y Z → a ≡ b → TwoCuts (a ∷ L) x M (b ∷ X) y Z
    under (cut_before C is) here = cut_before C (ap (λ (l : List A). b ∷ l) is ∙ ap (λ z. z ∷ (L ++ x ∷ C)) (sym here))
    under (cut_here is rest) here = cut_here is rest
    under (cut_behind C is) here = cut_behind C is

-- Main's last two entries in a run

module _ (load : Workload) (p : Part) (ps : List Part) (are : load.parts ≡ p ∷ ps) (R : List NodeEntry) (N : List ℕ) (even : length R
    ≡ length N) (run : RunOf load R N) where
  abbrev seat : ℕ
  seat = load.settings.workers

  abbrev ahead : ℕ
  ahead = calls_ahead p.statements + length p.statements

  abbrev ends : ClosesAtEnd seat R
  ends = run.ends

  abbrev close : NodeEntry
  close = entry seat op.Close reply.Ok

  abbrev final : NodeEntry
  final = entry seat op.Final reply.Ok

  abbrev all_but_last : List NodeEntry
  all_but_last = ends.before ++ close ∷ ends.behind

  -- main makes an entry of one of these two ops behind so many replies
  asks_at : (A : List NodeEntry) (e : NodeEntry) (B : List NodeEntry) → e.who ≡ seat → R ≡ A ++ e ∷ B → MainAsks p.statements (decided seat A) e.op
  asks_at A e B is cut =
      by (maker_of load A e (each_is_asked load A B e N (let some = ap (λ (l : List Part). length l) are in omega (arith, is, some)) begun))
    where
      begun : Begun load (A ++ e ∷ B) N
      begun = subst (λ (l : List NodeEntry). Begun load l N) cut (begun_whole load R N even run)

      same_part : (q : Part) (qs : List Part) → load.parts ≡ q ∷ qs → q ≡ p
      same_part q qs q_are = let both : q ∷ qs ≡ p ∷ ps = sym q_are ∙ are in cc

      by : Maker load A e → MainAsks p.statements (decided seat A) e.op
      by (by_worker w) = let small = w.small in absurd (omega (arith, is, small))
      by (by_main m) =
          subst (λ (z : Part). MainAsks z.statements (decided seat A) e.op) (same_part m.part m.others m.are)
          (subst (λ (w : ℕ). MainAsks m.part.statements (decided w A) e.op) is m.asks)
      by (by_caller c) = let at = c.at in absurd (omega (arith, is, at))

  -- it makes the first of them behind just so many, and the second one behind one more
  close_early : (A : List NodeEntry) (e : NodeEntry) (B : List NodeEntry) → e.who ≡ seat → e.op ≡ op.Close → R ≡ A ++ e ∷ B
      → suc ahead ≤ length (decided seat A) → ⊥
  close_early A e B is op_is cut many =
      let x = part_behind _ p.statements (op.Close ∷ op.Final ∷ []) (decided seat A) e.op (omega (arith, many)) (asks_at A e B is cut) in
      let count = x.1 in
      let final = (asks_second x.0 e.op (omega (arith, many, count)) x.2).1 in
      absurd (cc)

  final_early : (A : List NodeEntry) (e : NodeEntry) (B : List NodeEntry) → e.who ≡ seat → R ≡ A ++ e ∷ B → suc (suc ahead) ≤ length (decided seat A) → ⊥
  final_early A e B is cut many =
      let x = part_behind _ p.statements (op.Close ∷ op.Final ∷ []) (decided seat A) e.op (omega (arith, many)) (asks_at A e B is cut) in
      let count = x.1 in
      let one = (asks_second x.0 e.op (omega (arith, many, count)) x.2).0 in
      omega (arith, many, count, one)

  -- one more reply of main behind an entry of its own
  one_more : (A : List NodeEntry) (x : NodeEntry) (C : List NodeEntry) → x.who ≡ seat → is_pending x.reply ≡ false
      → suc (length (decided seat A)) ≤ length (decided seat (A ++ x ∷ C))
  one_more A x C is told =
      let whole : length (decided seat (A ++ x ∷ C)) ≡ length (decided seat A ++ decided seat (x ∷ C)) =
      ap (λ (l : List Reply). length l) (decided_append seat A (x ∷ C)) in
      let split = length-append (decided seat A) (decided seat (x ∷ C)) in
      let rest : length (decided seat (x ∷ C)) ≡ length (decided seat (x ∷ []) ++ decided seat C) =
      ap (λ (l : List Reply). length l) (decided_append seat (x ∷ []) C) in
      let split_rest = length-append (decided seat (x ∷ [])) (decided seat C) in
      let here = one_decided seat x (grind (arith, nat_tests, is)) told in
      omega (arith, whole, split, rest, split_rest, here)

  -- main doesn't close while a further caller lacks something
  pub closes_behind : (A : List NodeEntry) (x : NodeEntry) (B es : List NodeEntry) → x.who ≡ seat → x.op ≡ op.Close → is_pending x.reply ≡ false
      → R ≡ A ++ x ∷ B → ahead ≤ length (decided seat A) → ((w : ℕ) → seat < w → length (decided w A) ≡ length (decided w es)) → SomeLacks es (suc seat) ps → ⊥
  closes_behind A x B es is op_is told cut many alike lacks = by (two_cuts A x B ends.before close (ends.behind ++ final ∷ []) (sym cut ∙ ends.closes))
    where
      makes : (qs : List Part) (rss : List (List Reply)) → load.parts ≡ qs → PartsRan in_lines (λ w. lines_of w R N) seat qs rss → EachMakes R (suc seat) ps
      makes [] rss q_are ran = absurd ran
      makes (q ∷ qs) [] q_are ran = absurd ran
      makes (q ∷ qs) (rs ∷ rss) q_are ran =
          let both : q ∷ qs ≡ p ∷ ps = sym q_are ∙ are in
          let tails : qs ≡ ps = cc in
          subst (λ (l : List Part). EachMakes R (suc seat) l) tails (callers_make R N (suc seat) qs rss even ran.1)

      lack : Lacks A (x ∷ B) seat
      lack = some_behind seat es A (x ∷ B) (suc seat) ps (omega arith) alike
          (subst (λ (l : List NodeEntry). EachMakes l (suc seat) ps) cut (makes load.parts run.replies refl run.parts)) lacks

      not_main : (e : NodeEntry) → e.who ≡ seat → decided lack.who (e ∷ []) ≡ []
      not_main e at = let far = lack.further in none_of_other lack.who e (grind (arith, nat_tests, at, far))

      none_last : decided lack.who (ends.behind ++ final ∷ []) ≡ []
      none_last =
          decided_append lack.who ends.behind (final ∷ [])
          ∙ (ap (λ (l : List Reply). l ++ decided lack.who (final ∷ [])) (none_without lack.who ends.behind (ends.callers_ended lack.who lack.further))
          ∙ not_main final refl)

      by : TwoCuts A x B ends.before close (ends.behind ++ final ∷ []) → ⊥
      by (cut_before C earlier) =
          close_early ends.before close (ends.behind ++ final ∷ []) refl refl ends.closes
          (let more = one_more A x C is told in
          let at : length (decided seat ends.before) ≡ length (decided seat (A ++ x ∷ C)) = ap (λ (l : List NodeEntry). length (decided seat l)) earlier in
          omega (arith, more, at, many))
      by (cut_here here rest) =
          let none : decided lack.who (x ∷ B) ≡ [] =
          decided_append lack.who (x ∷ []) B
          ∙ (ap (λ (l : List Reply). l ++ decided lack.who B) (not_main x is) ∙ (ap (decided lack.who) rest ∙ none_last)) in
          let zero : length (decided lack.who (x ∷ B)) ≡ 0 = ap (λ (l : List Reply). length l) none in
          let some = lack.some in omega (arith, zero, some)
      by (cut_behind C later) =
          let whole : length (decided lack.who C ++ decided lack.who (x ∷ B)) ≡ 0 =
          ap (λ (l : List Reply). length l) (sym (decided_append lack.who C (x ∷ B)) ∙ (ap (decided lack.who) (sym later) ∙ none_last)) in
          let split = length-append (decided lack.who C) (decided lack.who (x ∷ B)) in
          let some = lack.some in omega (arith, whole, split, some)

  -- main's last step is answered Ok
  pub finals_well : (A : List NodeEntry) (x : NodeEntry) (B : List NodeEntry) → x.who ≡ seat → is_pending x.reply ≡ false → R ≡ A ++ x ∷ B
      → suc ahead ≤ length (decided seat A) → x.reply ≡ reply.Ok
  finals_well A x B is told cut many = by (two_cuts A x B all_but_last final [] (sym cut ∙ whole))
    where
      whole : R ≡ all_but_last ++ final ∷ []
      whole = ends.closes ∙ sym (append_assoc ends.before (close ∷ ends.behind) (final ∷ []))

      by : TwoCuts A x B all_but_last final [] → x.reply ≡ reply.Ok
      by (cut_before C earlier) =
          absurd (final_early all_but_last final [] refl whole
          (let more = one_more A x C is told in
          let at : length (decided seat all_but_last) ≡ length (decided seat (A ++ x ∷ C)) = ap (λ (l : List NodeEntry). length (decided seat l)) earlier in
          omega (arith, more, at, many)))
      by (cut_here here rest) = ap (λ (z : NodeEntry). z.reply) here
      by (cut_behind [] later) = absurd (cc)
      by (cut_behind (c ∷ C) later) = absurd (cc)
