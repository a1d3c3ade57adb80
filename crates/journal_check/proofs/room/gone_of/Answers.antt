use Rattle.journal_check.proofs.Names.{◌≡◌, ◌+◌, ◌≤◌, ℕ, true, false, List, get_or, sym, subst, ap, arith, ◌∙◌, take_all, NodeEntry, after, PoolNodeStands, is_live_of, gone_of, renaming_of}
use Rattle.node_steps.specs.Stands.{terms_of}
use Rattle.journal_check.proofs.Rooms.{live_here, gone_next}
use Rattle.journal_check.proofs.room.gone_of.Goals as goal
use Rattle.journal_check.proofs.room.gone_of.Goals.{then-not-is_live, else-not-is_live}

pub loop-handle-preserved : goal.loop-handle-preserved
loop-handle-preserved c =
    let k = c.args.kind in
    let hs = c.args.handles.now in
    let i = c.loop-handle.handle-index in
    let n = c.args.node.now in
    let g = renaming_of c.args.names.now in
    let told : (L : List NodeEntry) → PoolNodeStands n L → is_live_of k (after (terms_of n) L) (g k (get_or hs i 0)) ≡ c.is_live.result =
    subst (λ (h : ℕ). (L : List NodeEntry) → PoolNodeStands n L → is_live_of k (after (terms_of n) L) h ≡ c.is_live.result) c.other.ensures c.is_live.ensures in
    elim c.if-not-is_live.branch [
      | then-not-is_live w ↦
          (let gone : c.is_live.result ≡ false = w.if-not-is_live.true in
          let last : c.if-not-is_live.gone ≡ c.loop-handle.gone + 1 = w.gone-is in
          let before : c.loop-handle.gone ≤ c.loop-handle.handle-index = c.loop-handle.invariant.few in
          record {
            few = omega (arith, last, before);
            told = λ terms s count m f.
                gone_next k s hs i 0 c.loop-handle.gone false c.loop-handle-test.true
                (live_here c.laws.ensures n g k (get_or hs i 0) c.is_live.result told terms s count m f
                ∙ gone) (c.loop-handle.invariant.told terms s count m f) ∙ sym last;
          })
      | else-not-is_live w ↦
          (let live : c.is_live.result ≡ true = w.if-not-is_live.false in
          let last : c.if-not-is_live.gone ≡ c.loop-handle.gone = w.gone-is in
          let before : c.loop-handle.gone ≤ c.loop-handle.handle-index = c.loop-handle.invariant.few in
          record {
            few = omega (arith, last, before);
            told = λ terms s count m f.
                gone_next k s hs i 0 c.loop-handle.gone true c.loop-handle-test.true
                (live_here c.laws.ensures n g k (get_or hs i 0) c.is_live.result told terms s count m f
                ∙ live) (c.loop-handle.invariant.told terms s count m f)
                ∙ unmoved c.loop-handle.gone ∙ sym last;
          })
    ]
  where
    unmoved : (m : ℕ) → m + 0 ≡ m
    unmoved m = omega arith

pub returns-clause-told : goal.returns-clause-told
returns-clause-told c terms s count m f =
    let hs = c.args.handles.now in
    sym (ap (λ (l : List ℕ). gone_of c.args.kind s l) (take_all c.loop-handle.handle-index hs c.loop-handle-test.false))
    ∙ c.loop-handle.invariant.told terms s count m f
