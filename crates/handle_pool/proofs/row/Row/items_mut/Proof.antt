-- `items_mut` lends the items, and the row follows them. Assumes `Logic`.
use Rattle.handle_pool.proofs.Names.{◌≡◌, ℕ, ◌+◌, ◌*◌, ◌<◌, ◌^◌, List, [], ◌∷◌, length, refl, sym, subst, arith, after, apart, times_below, proved, Fml, GName, flft, fsep, ftrue, full_share, ent, sep, id⊢, ◌⊑◌, fact, tables, Array, usize, yes, no, follows, row, whole_in, whole_out, cell_at, mem, part_of, layouts, Laws, uint_vals, uint_Tells, RattleType, block_ptr, MutRef, mut_vals, mut_Tells, plain, MutSlice, slice_val, nothing, heard, Stays, walk_of, stay_dropped, Goes-dropped, Goes-spent_ref, says, ends_at, inst_fn, Fn, named, w64, a_type, Val, Ura, alloc_all, pass_all, free_all, look_at, get, through, sets, sets_last, env, ‵, raw, ◌⊛◌, some, later, given, ◌$◌, ◌∵◌, !, at_ret, qed, done, move, keep, drop, use1, split, split3, join, fsplit3, fjoin, fpack, frame, group, await, pick, learn, rewrite, suffices, Logic, sem, agg, whole, sub, look_in, enter, of_opd, load, stop, fld, no_more, and_then, first, blocks, exec, returns, with_items, Row}
use Rattle.std.proofs.ptr.Rows as rows
use denote.FollowSlice.{Elements, lends_Elements}
use types.SemTy.{cells}
use Rattle.handle_pool.specs.contracts.row.Row.items_mut as f
use Rattle.handle_pool.proofs.RowSteps.{R, RowOf, Held, sz, Items, Spare, row_made, row_opens}
use Rattle.handle_pool.proofs.row.Row.items_mut.Statement.{statement}
use Rattle.handle_pool.proofs.row.Row.items_mut.Code as code

module _ (X : RattleType) where
  abbrev fn' : Fn
  fn' = inst_fn (layouts (a_type ∷ []) (X, tt)) code.function

  abbrev stayed : Stays (f.ended X).signature.params (f.ended X).kept
  stayed = (stay_dropped _ no, (stay_dropped _ yes, tt))

module _ (X : RattleType) (L : Laws X) {M : Type 1} {𝓤 : Ura M} (𝓛 : Logic 𝓤) (d : Row X.Denot) (us : List Val) (b o rb ro : ℕ) where
  -- all but the items
  abbrev Rest : Fml
  Rest = fsep (Spare X d.room (length d.items) b o) (fsep (Held X d us) (cell_at full_share (RowOf X).mir us rb ro))

  -- with other items, as many, it makes a row again
  back : d.at ≡ block_ptr b o → length d.items < d.room + 1 → d.room * sz X < 2 ^ 63 → (ys : List X.Denot) → length ys ≡ length d.items
      → ent 𝓤 (sep 𝓤 (sem 𝓛 (cells (mem (R X)) ys b o)) (sem 𝓛 Rest)) (sem 𝓛 ((mem (RowOf X)).own_at (with_items d ys) rb ro))
  unfolding part_of
  back at le fit ys same =
      qed 𝓛 (‵ (cells (mem (R X)) ys b o) ∷ ‵ Rest ∷ []) ∵ use1 𝓛 (‵ (row (R X) full_share ys b o)) (whole_out 𝓛 (R X) ys b o) $
      use1 𝓛 (‵ (Items X ys b o)) (rows.whole (record { row = X; laws = L }) 𝓛 full_share (length ys) ys b o refl) $ move ! (1 ∷ []) $ fsplit3 ! $ move ! (3 ∷ 0
      ∷ 1 ∷ []) $
      rewrite ! 1 (λ (k : ℕ). ‵ (Spare X d.room k b o)) (sym same) refl $
      row_made X L ! d ys us b o at (subst (λ (k : ℕ). k < d.room + 1) (sym same) le) fit $ move ! (1 ∷ 0 ∷ []) $ fjoin ! $
      fpack ! (List Val) (λ ws. fsep (cell_at full_share (RowOf X).mir ws rb ro) ((RowOf X).own_val (with_items d ys) ws)) us $ done !

pub items_mut_spec : {M : Type 1} → statement M
items_mut_spec 𝓤 𝓛 𝓜 𝓡 wired X L =
    let c = f.clauses X 𝓛 𝓜.mem 𝓡.returns in let W = walk_of 𝓛 (f.ended X) (stayed X) c in let 𝓣 = tables 𝓤 𝓛.H 𝓜 𝓡 𝓡.env in
    proved 𝓛 (f.ended X) (stayed X) c 𝓜 𝓡 (
      Goes-spent_ref 𝓛 2 (0
          ∷ []) tt (plain (λ _. RowOf X)),
      (Goes-dropped 𝓛 2 (plain (λ _. usize)) yes (λ κs x w. refl), tt),
    )
    (f.Key.name (layouts (a_type ∷ []) (X, tt))) (fn' X) (code.unfolded 𝓤 𝓛.H 𝓜 𝓡 wired (X, tt))
    (λ κs. (mut_vals, (uint_vals w64, tt))) (λ κs. (mut_Tells (named 0) κs.0 (RowOf X), (uint_Tells w64, tt))) (λ κs qs bounds a _ are.
    let κ = κs.0 in let q = qs.0 in let d = a.0.now in let n = a.1.0 in let rb = a.0.ref_ptr.0 in let ro = a.0.ref_ptr.1 in let γ = a.0.ghost_name in let xs =
    d.items in
    let y : W.Ghost = ((κs, qs, bounds, a, (mut_vals a.0, (uint_vals w64 n, tt))), tt) in
    qed 𝓛 (((‵ (flft κ q) ⊛ ‵ (flft κs.1.0 qs.1.0) ⊛ ‵ ftrue) ⊛ ‵ ((MutRef (named 0) κ (RowOf X)).own_val a.0 (mut_vals a.0)) ⊛ ‵
    (usize.own_val n (uint_vals w64 n)) ⊛ ‵ ftrue)
    ∷ (raw (fact 𝓤 (κs.1.0 ⊑ X.lives)) ⊛ raw (fact 𝓤 (n ≡ length d.items))) ∷ []) ∵
    split ! $ split3 ! $ move ! (4 ∷ []) $ split ! $ drop ! $ heard ! _ (λ is. move ! (3 ∷ []) $ split3 ! $ keep ! (0 ∷ 3 ∷ 4 ∷ []) $
    enter ! _ _ _ _ _ $ alloc_all ! (λ l. pass_all ! refl ((tt, tt), ((tt, record { fits = are.1.0.1 }), tt)) $
    fsplit3 ! $ move ! (1 ∷ 2 ∷ 3 ∷ []) $
    row_opens X L ! tt d rb ro (λ us b o at word_is le fit.
    let fn = are.1.0.1 in
    let room : (length xs < 2 ^ 64) × (length xs * sz X < 2 ^ 63) =
    (subst (λ (k : ℕ). k < 2 ^ 64) is fn, times_below (length xs) d.room (sz X) (2 ^ 63) (omega arith) fit) in
    -- let at = self.at;
    sets ! (of_opd ! (load ! (through ! refl (fld ! refl (stop !))) (look_in ! 3 (sub ! 0 refl (whole !))))) refl (tt, tt) $
    -- slice::from_raw_parts_mut(at, count)
    first ! $ blocks ! $ sets_last ! (agg ! (and_then ! (get ! refl) (and_then ! (get ! refl) (no_more !)))) refl (tt, (tt, (record { fits = fn }, tt))) $
    exec ! 𝓣.C 𝓣.Λ (env (fn' X).locals l) (after 2 (fn' X).body) (at_ret _ (W.post y)) $
    sets ! (of_opd ! (get ! refl)) refl (tt, (tt, (record { fits = fn }, tt))) $
    -- [the items; the room after them; the word; the row's cell; the open borrow; what is seen of it, in two entries]
    use1 𝓛 (given (length xs ≡ length xs) (‵ (row (R X) full_share xs b o))) (apart (record { row = X; laws = L }) 𝓛 full_share (length xs) xs b o) $ learn !
    (λ _.
    use1 𝓛 (‵ (cells (mem (R X)) xs b o)) (whole_in 𝓛 (R X) xs b o) $
    rewrite ! 3 (λ (ws : List Val). ‵ (cell_at full_share (RowOf X).mir ws rb ro)) (sym word_is) refl $
    move ! (2 ∷ 3 ∷ []) $ fjoin ! $ move ! (2 ∷ 0 ∷ []) $ fjoin ! $ move ! (2 ∷ 3 ∷ 4 ∷ 1 ∷ 0 ∷ []) $ group ! 5 $
    use1 𝓛 (later (some (λ (γ' : GName). raw
    (Elements 𝓛 (RowOf X) (R X) (with_items d) (named 0) κ q rb ro b o γ xs room (sem 𝓛 (Rest X L 𝓛 d us b o rb ro))
    (back X L 𝓛 d us b o rb ro at le fit) γ'))))
    (lends_Elements 𝓛 (RowOf X) (R X) (with_items d) (named 0) κ q rb ro b o γ xs room (sem 𝓛 (Rest X L 𝓛 d us b o rb ro)) (back X L 𝓛 d us b o rb ro at le fit)
    ((RowOf X).coded.code d) ((RowOf X).coded.code d)) $ await ! tt $ pick ! (λ γ'.
    returns ! (look_at ! 0 refl) $ free_all ! refl $ keep ! (0 ∷ 2 ∷ []) $
    let lent = λ (k : ℕ). (MutSlice (named 0) κ (R X)).own_val (record { ref_ptr = (b, o); ghost_name = γ'; now = xs }) (slice_val (b, o) k ∷ []) in
    use1 𝓛 (‵ (lent (length xs)) ⊛ ‵ (flft κ q) ⊛ ‵ (follows (RowOf X) (Array (R X) 0) γ γ' (with_items d))) (id⊢ 𝓤 _) $ split3 ! $
    rewrite ! 0 (λ (k : ℕ). ‵ (lent k)) (sym is) refl $
    -- [the items; a token; what the row follows; a token]
    suffices ! _ (ends_at 𝓛 (f.ended X) (stayed X) c y (slice_val (b, o) n) (record { ref_ptr = (b, o); ghost_name = γ'; now = xs }) (tt, (tt, tt))
    (tt, (tt, tt))) $
    nothing ! $ nothing ! $ join ! $ nothing ! $ join ! $ nothing ! $ move ! (5 ∷ 0 ∷ []) $ join ! $ move ! (3 ∷ 0
    ∷ []) $ join ! $ group ! 3 $ frame ! $ says ! refl $ done !))))))
