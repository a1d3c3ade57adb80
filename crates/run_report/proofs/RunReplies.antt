-- The report of a run reads for each statement the reply to which its own call came.
use Rattle.run_report.proofs.Names.{nat_tests, ◌≡◌, ℕ, suc, ◌+◌, Bool, false, not, cond, List, [], ◌∷◌, ◌++◌, length, Option, refl, sym, ◌∙◌, ap, arith, take, drop, map, append-nil, Statement, Part, Op, Reply, handle_of, NodeEntry, has_begin, Carried, MainRan, CallerRan, CallersRan, PartsRan, Told, decided, calls_before, further_told, all_told}
use Rattle.mtapi_machine.specs.Kept.{is_pending}
use Rattle.workload_runs.specs.Calls.{Call, call_of}
use Rattle.workload_runs.specs.Lines.{Line, line_with, lines_of, before_it, MadeLines, head_lines, tail_of_main, in_lines}
use Rattle.run_report.specs.RunReplies.{ReadsTheRun}

-- the replies of these lines that decide
pub decided_in : List Line → List Reply
decided_in [] = []
decided_in (l ∷ ls) = cond (not (is_pending l.reply)) (l.reply ∷ decided_in ls) (decided_in ls)

-- those of a seat's lines are those of its entries
decided_lines : (who : ℕ) (es : List NodeEntry) (ns : List ℕ) → length es ≡ length ns → decided who es ≡ decided_in (lines_of who es ns)
unfolding decided lines_of decided_in
decided_lines who [] ns l = refl
decided_lines who (e ∷ es) [] l = absurd (omega arith)
decided_lines who (e ∷ es) (n ∷ ns) l = grind (arith, nat_tests, decided_lines who es ns (omega arith))

decided_append : (a b : List Line) → decided_in (a ++ b) ≡ decided_in a ++ decided_in b
unfolding decided_in
decided_append [] b = refl
decided_append (l ∷ ls) b = grind (arith, nat_tests, decided_append ls b)

one_reply : (o : Op) (r : Reply) (n : ℕ) → is_pending r ≡ false → decided_in (line_with o r n ∷ []) ≡ r ∷ []
unfolding decided_in
one_reply o r n e = λ i. cond (not (e i)) (r ∷ []) []

before_none : (o : Op) (first : Option ℕ) → decided_in (before_it o first) ≡ []
unfolding decided_in
before_none o first = grind (arith, nat_tests)

-- the lines of a call have one such reply, the one to which it comes
made_reads : (c : Call) (lines : List Line) (r : Reply) → MadeLines c lines r → decided_in lines ≡ r ∷ []
made_reads c lines r e1 = grind (arith, nat_tests, one_reply, decided_append, before_it, before_none)

-- the lines of statements have one for each
carried_reads : (bound : List ℕ) (ss : List Statement) (lines : List Line) (rs : List Reply) → Carried MadeLines bound ss lines rs → decided_in lines ≡ rs
unfolding Carried decided_in
carried_reads bound [] lines [] c = ap decided_in c
carried_reads bound [] lines (r ∷ rs) c = absurd c
carried_reads bound (s ∷ ss) lines [] c = absurd c
carried_reads bound (s ∷ ss) lines (r ∷ rs) c =
    grind (arith, nat_tests, carried_reads (bound ++ handle_of r ∷ []) ss c.1 rs c.4, decided_append, made_reads, call_of, handle_of)

-- the first ones, as many as there are statements, are the replies to them
carried_first : (bound : List ℕ) (ss : List Statement) (lines : List Line) (rs more : List Reply) → Carried MadeLines bound ss lines rs
    → take (length ss) (rs ++ more) ≡ rs
unfolding Carried
carried_first bound [] lines [] more c = refl
carried_first bound [] lines (r ∷ rs) more c = absurd c
carried_first bound (s ∷ ss) lines [] more c = absurd c
carried_first bound (s ∷ ss) lines (r ∷ rs) more c = ap (λ l. r ∷ l) (carried_first (bound ++ handle_of r ∷ []) ss c.1 rs more c.4)

-- main's calls before those of its statements are left out
head_reads : (b : Bool) (rest : List Line) → drop (cond b 1 2) (decided_in (head_lines b ++ rest)) ≡ decided_in rest
unfolding decided_in
head_reads b rest = grind (arith, nat_tests)

-- and so are those behind them
main_reads : (ss : List Statement) (lines : List Line) (all rs : List Reply) → all ≡ decided_in lines → MainRan in_lines ss lines rs
    → take (length ss) (drop (calls_before ss) all) ≡ rs
main_reads ss lines all rs is m =
    ap (λ l. take (length ss) (drop (calls_before ss) l)) (is ∙ ap decided_in m.is)
    ∙ ap (take (length ss)) (head_reads (has_begin ss) (m.body ++ tail_of_main) ∙ decided_append m.body tail_of_main)
    ∙ ap (λ l. take (length ss) (l ++ decided_in tail_of_main)) (carried_reads [] ss m.body rs m.carried)
    ∙ carried_first [] ss m.body rs (decided_in tail_of_main) m.carried

caller_reads : (ss : List Statement) (lines : List Line) (all rs : List Reply) → all ≡ decided_in lines → CallerRan in_lines ss lines rs
    → take (length ss) (drop 1 all) ≡ rs
unfolding decided_in
caller_reads ss lines all rs is m =
    ap (λ l. take (length ss) (drop 1 l)) (is ∙ ap decided_in (m.is ∙ ap (λ (l : List Line). l ++ m.body) m.entered.1))
    ∙ ap (take (length ss)) (carried_reads [] ss m.body rs m.carried ∙ sym (append-nil rs))
    ∙ carried_first [] ss m.body rs [] m.carried

next_seat : (who : ℕ) → suc who ≡ who + 1
next_seat who = omega arith

module _ (es : List NodeEntry) (ns : List ℕ) (same : length es ≡ length ns) where
  abbrev lines : ℕ → List Line
  lines who = lines_of who es ns

  callers_read : (who : ℕ) (ps : List Part) (rss : List (List Reply)) → CallersRan in_lines lines who ps rss
      → map (λ t. t.replies) (further_told who es ps) ≡ rss
  unfolding CallersRan further_told
  callers_read who [] [] c = refl
  callers_read who [] (rs ∷ rss) c = absurd c
  callers_read who (p ∷ ps) [] c = absurd c
  callers_read who (p ∷ ps) (rs ∷ rss) c =
      let first = caller_reads p.statements (lines who) (decided who es) rs (decided_lines who es ns same) c.0 in
      let more = ap (λ n. map (λ (t : Told). t.replies) (further_told n es ps)) (sym (next_seat who)) ∙ callers_read (suc who) ps rss c.1 in
      (λ i. first i ∷ more i)

  parts_read : (main : ℕ) (ps : List Part) (rss : List (List Reply)) → PartsRan in_lines lines main ps rss → map (λ t. t.replies) (all_told main es ps) ≡ rss
  parts_read main [] rss c = absurd c
  parts_read main (p ∷ ps) [] c = absurd c
  parts_read main (p ∷ ps) (rs ∷ rss) c =
      let first = main_reads p.statements (lines main) (decided main es) rs (decided_lines main es ns same) c.0 in
      let more = ap (λ n. map (λ (t : Told). t.replies) (further_told n es ps)) (sym (next_seat main)) ∙ callers_read (suc main) ps rss c.1 in
      (λ i. first i ∷ more i)

pub reads_the_run : ReadsTheRun
reads_the_run load es ns same run = parts_read es ns same load.settings.workers load.parts run.replies run.parts
