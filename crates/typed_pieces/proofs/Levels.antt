-- Of pieces that wait for their parts.
use Rattle.typed_pieces.proofs.Names.{◌≡◌, zero, suc, map, Some, List, [], ◌∷◌, ◌++◌, length, take, drop, refl, sym, ap, subst, ◌∙◌, append_assoc, Vec, arith, Global, append-nil, nil_from_length, same_from_push, Pending, AreKept, AllKept, IsKeptBy, AreOpen, GivesResult, Waits, parts_of, pending_of, ℕ, ◌+◌, take-add, drop-drop}
use Rattle.typed_pieces.specs.declared.split.Outcome.{Outcome}
use Rattle.typed_pieces.specs.declared.split.Outcome.TheVariants as outcome
use Rattle.typed_pieces.specs.declared.level.Pending.TheVariants as pending

-- one more of the results was moved
pub moved_more : {X : Type 0} (xs first results more left : List X) (k n : ℕ) → n ≡ k + 1 → first ≡ take k xs → results ≡ drop k xs
    → more ≡ first ++ take 1 results → left ≡ drop 1 results → (more ≡ take n xs) × (left ≡ drop n xs)
moved_more {X} xs first results more left k n next is rest moved gone = (
  moved ∙ ((λ i. is i ++ take 1 (rest i)) ∙ (sym (take-add k 1 xs) ∙ ap (λ (m : ℕ). take m xs) (sym next))),
  gone ∙ (ap (λ (l : List X). drop 1 l) rest ∙ (drop-drop 1 k xs ∙ ap (λ (m : ℕ). drop m xs) (sym next))),
)

module _ {P D : Type 0} (promise : P → D → Type 0) where
  -- one more piece has its result
  kept_more : (ps : List P) (ds : List D) (p : P) (d : D) → AllKept promise ps ds → promise p d → AllKept promise (ps ++ p ∷ []) (ds ++ d ∷ [])
  kept_more [] ds p d all here = (d, [], ap (λ l. l ++ d ∷ []) all, here, refl)
  kept_more (q ∷ ps) ds p d all here = (all.0, all.1 ++ d ∷ [], ap (λ l. l ++ d ∷ []) all.2, all.3, kept_more ps all.1 p d all.4 here)

  -- the first pieces have the first results, and the others the others
  kept_both : (own others : List P) (ds : List D) → AllKept promise (own ++ others) ds
      → AllKept promise own (take (length own) ds) × AllKept promise others (drop (length own) ds)
  kept_both [] others ds all = (refl, all)
  kept_both (p ∷ own) others ds all =
      let both = kept_both own others all.1 all.4 in (
        (all.0, take (length own) all.1, ap (λ l. take (suc (length own)) l) all.2, all.3, both.0),
        subst (λ l. AllKept promise others (drop (suc (length own)) l)) (sym all.2) both.1,
      )

  -- the first result is that of the first piece
  kept_first : (ps : List P) (d : D) (ds : List D) → AllKept promise ps (d ∷ ds)
      → (q : P) × (qs : List P) × (ps ≡ q ∷ qs) × promise q d × AllKept promise qs ds
  kept_first [] d ds all = absurd cc
  kept_first (p ∷ ps) d ds all =
      let is = all.2 in
      let head : d ≡ all.0 = cc in
      let tail : ds ≡ all.1 = cc in
      (p, ps, refl, subst (λ y. promise p y) (sym head) all.3, subst (λ l. AllKept promise ps l) (sym tail) all.4)

  -- where no result is left, no piece is
  kept_none : (ps : List P) → AllKept promise ps [] → ps ≡ []
  kept_none [] all = refl
  kept_none (p ∷ ps) all = let is = all.2 in absurd cc

  -- the last of the results of one piece is its result
  pub kept_last : (p : P) (results left : List D) (d : D) → AllKept promise (p ∷ []) results → results ≡ left ++ d ∷ [] → promise p d
  kept_last p results left d all is =
      let one = same_from_push [] left all.0 d (sym (all.2 ∙ ap (λ l. all.0 ∷ l) all.4) ∙ is) in subst (λ y. promise p y) one.1 all.3

  -- one piece has one result
  pub kept_one : (p : P) (results : List D) → AllKept promise (p ∷ []) results → length results ≡ 1
  kept_one p results all = ap length (all.2 ∙ ap (λ l. all.0 ∷ l) all.4)

  -- what a run of pieces says of the results at their places, of each piece and its result
  pub kept_at : {W : Type 0} (piece : W → P) (ws : List W) (ps : List P) (ds : List D)
      → map piece ws ≡ ps → length ds ≡ length ws → AreKept (λ w d. promise (piece w) d) ws (map Some ds) → AllKept promise ps ds
  kept_at piece [] ps ds same many kept = subst (λ l. AllKept promise l ds) same (nil_from_length ds many)
  kept_at piece (w ∷ ws) ps [] same many kept = absurd (omega arith)
  kept_at piece (w ∷ ws) ps (d ∷ ds) same many kept =
      subst (λ l. AllKept promise l (d ∷ ds)) same
      (d, ds, refl, kept zero w d refl refl, kept_at piece ws (map piece ws) ds refl (omega arith) (λ i v e at is. kept (suc i) v e at is))

module _ {P D J : Type 0} (promise : P → D → Type 0) (joined : J → List D → D → Type 0) where
  -- what came of each piece of a level stands there
  pub waits_many : (ps : List P) (level : List (Pending D J)) (parts : List P) → Waits promise joined ps level parts → length ps ≡ length level
  waits_many ps [] parts w = ap length w.0
  waits_many ps (pending.Done d ∷ level) parts w = ap length w.2 ∙ ap suc (waits_many w.1 level parts w.4)
  waits_many ps (pending.Joins count join ∷ level) parts w = ap length w.4 ∙ ap suc (waits_many w.1 level w.3 w.8)

  -- one more piece of the level has run
  waits_more : (ps : List P) (level : List (Pending D J)) (parts : List P) (p : P) (o : Outcome P D J) → Waits promise joined ps level parts
      → IsKeptBy promise joined p o → Waits promise joined (ps ++ p ∷ []) (level ++ pending_of o ∷ []) (parts ++ parts_of o)
  waits_more ps [] parts p (outcome.Done d) w kept = (p, [], ap (λ l. l ++ p ∷ []) w.0, kept, (refl, ap (λ l. l ++ []) w.1))
  waits_more ps [] parts p (outcome.Parts own join) w kept =
      (p, [], own.items, [], ap (λ l. l ++ p ∷ []) w.0, ap (λ l. l ++ own.items) w.1 ∙ sym (append-nil own.items), refl, kept, (refl, refl))
  waits_more ps (pending.Done d ∷ level) parts p o w kept =
      (w.0, w.1 ++ p ∷ [], ap (λ l. l ++ p ∷ []) w.2, w.3, waits_more w.1 level parts p o w.4 kept)
  waits_more ps (pending.Joins count join ∷ level) parts p o w kept =
      let own = ap (λ l. l ++ parts_of o) w.5 ∙ append_assoc w.2 w.3 (parts_of o) in
      (w.0, w.1 ++ p ∷ [], w.2, w.3 ++ parts_of o, ap (λ l. l ++ p ∷ []) w.4, own, w.6, w.7, waits_more w.1 level w.3 p o w.8 kept)

  -- of the pieces of a level, the first have run, and these are left
  pub record Running (pieces : List P) (level : List (Pending D J)) (parts : List P) (outcomes : List (Outcome P D J)) : Type 0 where
    pub ran : List P
    pub others : List P
    pub all : pieces ≡ ran ++ others
    pub waits : Waits promise joined ran level parts
    pub kept : AllKept (IsKeptBy promise joined) others outcomes

  pub running_none : (pieces : List P) (level : List (Pending D J)) (parts : List P) (outcomes rest : List (Outcome P D J))
      → level ≡ [] → parts ≡ [] → rest ≡ outcomes → AllKept (IsKeptBy promise joined) pieces outcomes → Running pieces level parts rest
  running_none pieces level parts outcomes rest none empty same kept =
      record {
        ran = [];
        others = pieces;
        all = refl;
        waits = subst (λ l. Waits promise joined [] l parts) (sym none) (refl, empty);
        kept = subst (λ l. AllKept (IsKeptBy promise joined) pieces l) (sym same) kept;
      }

  pub running_more : (pieces : List P) (level after : List (Pending D J)) (parts with_own : List P) (o : Outcome P D J) (rest outcomes : List (Outcome P D J))
      → after ≡ level ++ pending_of o ∷ [] → with_own ≡ parts ++ parts_of o → rest ≡ o ∷ outcomes → Running pieces level parts rest
      → Running pieces after with_own outcomes
  running_more pieces level after parts with_own o rest outcomes is own next r =
      let k = kept_first (IsKeptBy promise joined) r.others o outcomes (subst (λ l. AllKept (IsKeptBy promise joined) r.others l) next r.kept) in
      let w = waits_more r.ran level parts k.0 o r.waits k.3 in
      record {
        ran = r.ran ++ k.0 ∷ [];
        others = k.1;
        all = r.all ∙ (ap (λ l. r.ran ++ l) k.2 ∙ sym (append_assoc r.ran (k.0 ∷ []) k.1));
        waits = subst (λ l. Waits promise joined (r.ran ++ k.0 ∷ []) l with_own) (sym is)
            (subst (λ l. Waits promise joined (r.ran ++ k.0 ∷ []) (level ++ pending_of o ∷ []) l) (sym own) w);
        kept = k.4;
      }

  -- all have run
  pub running_all : (pieces : List P) (level : List (Pending D J)) (parts : List P) (outcomes : List (Outcome P D J))
      → length outcomes ≡ 0 → Running pieces level parts outcomes → Waits promise joined pieces level parts
  running_all pieces level parts outcomes none r =
      let left = subst (λ l. AllKept (IsKeptBy promise joined) r.others l) (nil_from_length outcomes none) r.kept in
      let over = kept_none (IsKeptBy promise joined) r.others left in
      subst (λ l. Waits promise joined l level parts) (sym (r.all ∙ (ap (λ l. r.ran ++ l) over ∙ append-nil r.ran))) r.waits

  -- of the pieces of a level, the first have their results
  pub record Joining (pieces : List P) (out : List D) (level : List (Pending D J)) (results : List D) : Type 0 where
    pub done : List P
    pub others : List P
    pub parts : List P
    pub all : pieces ≡ done ++ others
    pub kept : AllKept promise done out
    pub waits : Waits promise joined others level parts
    pub there : AllKept promise parts results

  pub joining_none : (pieces parts : List P) (out : List D) (level rest : List (Pending D J)) (results left : List D)
      → out ≡ [] → rest ≡ level → left ≡ results → Waits promise joined pieces level parts → AllKept promise parts results
      → Joining pieces out rest left
  joining_none pieces parts out level rest results left none same all w there =
      record {
        done = [];
        others = pieces;
        parts = parts;
        all = refl;
        kept = none;
        waits = subst (λ l. Waits promise joined pieces l parts) (sym same) w;
        there = subst (λ l. AllKept promise parts l) (sym all) there;
      }

  joins_more : (pieces : List P) (out : List D) (x : Pending D J) (level : List (Pending D J)) (results left : List D) (d : D)
      → GivesResult joined x results d left → Joining pieces out (x ∷ level) results → Joining pieces (out ++ d ∷ []) level left
  joins_more pieces out (pending.Done e) level results left d gives j =
      let w = j.waits in
      record {
        done = j.done ++ w.0 ∷ [];
        others = w.1;
        parts = j.parts;
        all = j.all ∙ (ap (λ l. j.done ++ l) w.2 ∙ sym (append_assoc j.done (w.0 ∷ []) w.1));
        kept = kept_more promise j.done out w.0 d j.kept (subst (λ y. promise w.0 y) (sym gives.0) w.3);
        waits = w.4;
        there = subst (λ l. AllKept promise j.parts l) (sym gives.1) j.there;
      }
  joins_more pieces out (pending.Joins count join) level results left d gives j =
      let w = j.waits in
      let both = kept_both promise w.2 w.3 results (subst (λ l. AllKept promise l results) w.5 j.there) in
      record {
        done = j.done ++ w.0 ∷ [];
        others = w.1;
        parts = w.3;
        all = j.all ∙ (ap (λ l. j.done ++ l) w.4 ∙ sym (append_assoc j.done (w.0 ∷ []) w.1));
        kept = kept_more promise j.done out w.0 d j.kept (w.7 (take count results) d (subst (λ n. AllKept promise w.2 (take n results)) w.6 both.0) gives.0);
        waits = w.8;
        there = subst (λ l. AllKept promise w.3 l) (sym gives.1) (subst (λ n. AllKept promise w.3 (drop n results)) w.6 both.1);
      }

  pub joining_more : (pieces : List P) (out more : List D) (x : Pending D J) (rest level : List (Pending D J)) (results left : List D) (d : D)
      → more ≡ out ++ d ∷ [] → rest ≡ x ∷ level → GivesResult joined x results d left → Joining pieces out rest results → Joining pieces more level left
  joining_more pieces out more x rest level results left d is next gives j =
      subst (λ l. Joining pieces l level left) (sym is)
      (joins_more pieces out x level results left d gives (subst (λ l. Joining pieces out l results) next j))

  pub joining_all : (pieces : List P) (out : List D) (level : List (Pending D J)) (results : List D)
      → length level ≡ 0 → Joining pieces out level results → AllKept promise pieces out
  joining_all pieces out level results none j =
      let w = subst (λ l. Waits promise joined j.others l j.parts) (nil_from_length level none) j.waits in
      subst (λ l. AllKept promise l out) (sym (j.all ∙ (ap (λ l. j.done ++ l) w.0 ∙ append-nil j.done))) j.kept

  -- one more level is open, with its parts
  pub open_next : (pieces : List P) (levels more : List (Vec (Pending D J) Global)) (level : Vec (Pending D J) Global) (parts next : List P)
      → more ≡ levels ++ level ∷ [] → AreOpen promise joined pieces levels parts → Waits promise joined parts level.items next
      → AreOpen promise joined pieces more next
  open_next pieces [] more level parts next is o w =
      subst (λ l. AreOpen promise joined pieces l next) (sym is) (next, subst (λ l. Waits promise joined l level.items next) (sym o) w, refl)
  open_next pieces (l ∷ levels) more level parts next is o w =
      subst (λ l. AreOpen promise joined pieces l next) (sym is) (o.0, o.1, open_next o.0 levels (levels ++ level ∷ []) level parts next refl o.2 w)

  -- without the last level
  open_less : (pieces : List P) (levels : List (Vec (Pending D J) Global)) (level : Vec (Pending D J) Global) (parts : List P)
      → AreOpen promise joined pieces (levels ++ level ∷ []) parts
      → (own : List P) × AreOpen promise joined pieces levels own × Waits promise joined own level.items parts
  open_less pieces [] level parts o = (pieces, refl, subst (λ l. Waits promise joined pieces level.items l) o.2 o.1)
  open_less pieces (l ∷ levels) level parts o = let r = open_less o.0 levels level parts o.2 in (r.0, (o.0, o.1, r.1), r.2)

  -- the results of the first pieces, with the last level joined
  pub rises : (pieces : List P) (levels less : List (Vec (Pending D J) Global)) (level : Vec (Pending D J) Global) (results up : List D)
      → levels ≡ less ++ level ∷ []
      → ((ps parts : List P) → Waits promise joined ps level.items parts → AllKept promise parts results → AllKept promise ps up)
      → (own : List P) × AreOpen promise joined pieces levels own × AllKept promise own results
      → (own : List P) × AreOpen promise joined pieces less own × AllKept promise own up
  rises pieces levels less level results up last joins (own, opened, kept) =
      let r = open_less pieces less level own (subst (λ l. AreOpen promise joined pieces l own) last opened) in
      (r.0, r.1, joins r.0 own r.2 kept)

  -- where no level is left, the results are those of the first pieces
  pub risen : (pieces : List P) (levels : List (Vec (Pending D J) Global)) (results : List D)
      → levels ≡ [] → (own : List P) × AreOpen promise joined pieces levels own × AllKept promise own results → AllKept promise pieces results
  risen pieces levels results none (own, opened, kept) =
      let same : pieces ≡ own = subst (λ l. AreOpen promise joined pieces l own) none opened in
      subst (λ l. AllKept promise l results) (sym same) kept

  -- no level is open
  pub open_none : (pieces : List P) (levels : List (Vec (Pending D J) Global)) (parts : List P)
      → levels ≡ [] → pieces ≡ parts → AreOpen promise joined pieces levels parts
  open_none pieces levels parts none same = subst (λ l. AreOpen promise joined pieces l parts) (sym none) same

  -- the last level has no parts
  pub open_end : (pieces : List P) (levels : List (Vec (Pending D J) Global)) (parts : List P)
      → length parts ≡ 0 → AreOpen promise joined pieces levels parts → AreOpen promise joined pieces levels []
  open_end pieces levels parts none o = subst (λ l. AreOpen promise joined pieces levels l) (nil_from_length parts none) o
