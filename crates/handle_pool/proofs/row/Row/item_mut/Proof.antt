-- `item_mut` lends one item, and the row follows it. Assumes `Logic`.
use Rattle.handle_pool.proofs.Names.{◌≡◌, ℕ, ◌+◌, ◌*◌, ◌<◌, ◌^◌, zero, suc, List, [], ◌∷◌, length, get_or, set, Some, slice_get, refl, sym, subst, arith, length-set, MutBor, after, apart, one_below, times_below, proved, Fml, GName, flft, fsep, ftrue, full_share, ent, sep, id⊢, ◌⊑◌, fact, tables, usize, yes, no, follows, Part, lends_Part, row, others, takes, puts, place_is, cell_at, mem, part_at, part_of, shares, layouts, Laws, uint_vals, uint_Tells, RattleType, block_ptr, MutRef, mut_vals, mut_Tells, plain, nothing, heard, Stays, walk_of, stay_dropped, Goes-dropped, Goes-spent_ref, says, ends_at, inst_fn, Fn, named, w64, a_type, Val, vptr, Ura, alloc_all, pass_all, free_all, look_at, get, through, sets, sets_last, env, ‵, raw, ◌⊛◌, some, later, given, ◌$◌, ◌∵◌, !, at_ret, qed, done, move, keep, drop, use1, split, split3, join, fsplit, fsplit3, fjoin, fpack, frame, group, await, use2, pick, learn, rewrite, suffices, Logic, sem, whole, sub, look_in, addr, bin, size_lit, enter, of_opd, load, stop, fld, first, blocks, exec, returns, with_item, Row}
use Rattle.std.proofs.ptr.Rows as rows
use denote.Index.{place as nth}
use Rattle.handle_pool.specs.contracts.row.Row.item_mut as f
use Rattle.handle_pool.proofs.RowSteps.{R, RowOf, Held, sz, Items, Spare, row_made, row_opens}
use Rattle.handle_pool.proofs.row.Row.item_mut.Statement.{statement}
use Rattle.handle_pool.proofs.row.Row.item_mut.Code as code

module _ (X : RattleType) where
  abbrev fn' : Fn
  fn' = inst_fn (layouts (a_type ∷ []) (X, tt)) code.function

  abbrev stayed : Stays (f.ended X).signature.params (f.ended X).kept
  stayed = (stay_dropped _ no, (stay_dropped _ yes, tt))

module _ (X : RattleType) (L : Laws X) {M : Type 1} {𝓤 : Ura M} (𝓛 : Logic 𝓤) (d : Row X.Denot) (us : List Val) (b o rb ro : ℕ) where
  -- all but the item
  abbrev Rest : ℕ → Fml
  Rest i = fsep (others (shares (R X)) full_share d.items i b o)
      (fsep (Spare X d.room (length d.items) b o) (fsep (Held X d us) (cell_at full_share (RowOf X).mir us rb ro)))

  -- with another item it makes a row again
  back : (i : ℕ) → i < length d.items → d.at ≡ block_ptr b o → length d.items < d.room + 1 → d.room * sz X < 2 ^ 63 → (w : X.Denot)
      → ent 𝓤 (sep 𝓤 (sem 𝓛 ((mem (R X)).own_at w b (i * sz X + o))) (sem 𝓛 (Rest i))) (sem 𝓛 ((mem (RowOf X)).own_at (with_item d i w) rb ro))
  unfolding part_of
  back i inside at le fit w =
      let ys = set d.items i w in
      let same : length ys ≡ length d.items = length-set d.items i w in
      qed 𝓛 (‵ (part_at (R X) full_share w b (i * sz X + o)) ∷ ‵ (Rest i) ∷ []) ∵ move ! (1 ∷ []) $ fsplit ! $ move ! (2 ∷ 0 ∷ []) $
      rewrite ! 0 (λ (k : ℕ). ‵ (part_at (R X) full_share w b k)) (sym (place_is (sz X) o i)) refl $
      use2 𝓛 (‵ (row (R X) full_share ys b o)) (puts (shares (R X)) full_share 𝓛 d.items i w b o inside) $
      use1 𝓛 (‵ (Items X ys b o)) (rows.whole (record { row = X; laws = L }) 𝓛 full_share (length ys) ys b o refl) $ move ! (1 ∷ []) $ fsplit3 ! $ move ! (3 ∷ 0
      ∷ 1 ∷ []) $
      rewrite ! 1 (λ (k : ℕ). ‵ (Spare X d.room k b o)) (sym same) refl $
      row_made X L ! d ys us b o at (subst (λ (k : ℕ). k < d.room + 1) (sym same) le) fit $ move ! (1 ∷ 0 ∷ []) $ fjoin ! $
      fpack ! (List Val) (λ ws. fsep (cell_at full_share (RowOf X).mir ws rb ro) ((RowOf X).own_val (with_item d i w) ws)) us $ done !

some_at : {X : Type 0} (xs : List X) (i : ℕ) (d : X) → i < length xs → slice_get xs i ≡ Some (get_or xs i d)
some_at [] i d inside = absurd (omega (arith, inside))
some_at (x ∷ xs) zero d inside = refl
some_at (x ∷ xs) (suc i) d inside = some_at xs i d (omega (arith, inside))

pub item_mut_spec : {M : Type 1} → statement M
item_mut_spec 𝓤 𝓛 𝓜 𝓡 wired X L =
    let c = f.clauses X 𝓛 𝓜.mem 𝓡.returns in let W = walk_of 𝓛 (f.ended X) (stayed X) c in let 𝓣 = tables 𝓤 𝓛.H 𝓜 𝓡 𝓡.env in
    proved 𝓛 (f.ended X) (stayed X) c 𝓜 𝓡 (
      Goes-spent_ref 𝓛 2 (0
          ∷ []) tt (plain (λ _. RowOf X)),
      (Goes-dropped 𝓛 2 (plain (λ _. usize)) yes (λ κs x w. refl), tt),
    )
    (f.Key.name (layouts (a_type ∷ []) (X, tt))) (fn' X) (code.unfolded 𝓤 𝓛.H 𝓜 𝓡 wired (X, tt))
    (λ κs. (mut_vals, (uint_vals w64, tt))) (λ κs. (mut_Tells (named 0) κs.0 (RowOf X), (uint_Tells w64, tt))) (λ κs qs bounds a _ are.
    let κ = κs.0 in let q = qs.0 in let d = a.0.now in let n = a.1.0 in let rb = a.0.ref_ptr.0 in let ro = a.0.ref_ptr.1 in let γ = a.0.ghost_name in let xs =
    d.items in
    let y : W.Ghost = ((κs, qs, bounds, a, (mut_vals a.0, (uint_vals w64 n, tt))), tt) in
    qed 𝓛 (((‵ (flft κ q) ⊛ ‵ (flft κs.1.0 qs.1.0) ⊛ ‵ ftrue) ⊛ ‵ ((MutRef (named 0) κ (RowOf X)).own_val a.0 (mut_vals a.0)) ⊛ ‵
    (usize.own_val n (uint_vals w64 n)) ⊛ ‵ ftrue)
    ∷ (raw (fact 𝓤 (κs.1.0 ⊑ X.lives)) ⊛ raw (fact 𝓤 (n < length d.items))) ∷ []) ∵
    split ! $ split3 ! $ move ! (4 ∷ []) $ split ! $ drop ! $ heard ! _ (λ is. move ! (3 ∷ []) $ split3 ! $ keep ! (0 ∷ 3 ∷ 4 ∷ []) $
    enter ! _ _ _ _ _ $ alloc_all ! (λ l. pass_all ! refl ((tt, tt), ((tt, record { fits = are.1.0.1 }), tt)) $
    fsplit3 ! $ move ! (1 ∷ 2 ∷ 3 ∷ []) $
    row_opens X L ! tt d rb ro (λ us b o at word_is le fit.
    let fn = are.1.0.1 in
    let E : rows.El = record { row = X; laws = L } in
    let x = get_or xs n (rows.hd xs (omega (arith, is))) in
    let tiny : sz X < 2 ^ 64 = let h : sz X < 2 ^ 63 = one_below d.room (sz X) (2 ^ 63) (omega (arith, is, le)) fit in omega (arith, h) in
    let offset : n * sz X < 2 ^ 64 = let h : n * sz X < 2 ^ 63 = times_below n d.room (sz X) (2 ^ 63) (omega (arith, is, le)) fit in omega (arith, h) in
    let p = n * sz X + o in
    -- let at = self.at;
    sets ! (of_opd ! (load ! (through ! refl (fld ! refl (stop !))) (look_in ! 3 (sub ! 0 refl (whole !))))) refl (tt, tt) $
    use1 𝓛 (given (length xs ≡ length xs) (‵ (row (R X) full_share xs b o))) (apart E 𝓛 full_share (length xs) xs b o) $ learn ! (λ _.
    use1 𝓛 (‵ (part_at (R X) full_share x b (nth (sz X) o n)) ⊛ ‵ (others (shares (R X)) full_share xs n b o))
    (takes (shares (R X)) full_share 𝓛 xs n (rows.hd xs (omega (arith, is))) b o is) $ split ! $
    rewrite ! 0 (λ (k : ℕ). ‵ (part_at (R X) full_share x b k)) (place_is (sz X) o n) refl $
    -- [the item; the others; the room after them; the word and the right; the row's cell; the open borrow; what is seen of it, in two entries]
    rewrite ! 4 (λ (ws : List Val). ‵ (cell_at full_share (RowOf X).mir ws rb ro)) (sym word_is) refl $
    -- &mut *at.add(place)
    first ! $ blocks ! $
    sets ! (bin ! (get ! refl) (size_lit ! (record { fits = tiny })) (record { fits = offset })) refl (tt, record { fits = offset }) $
    sets ! (bin ! (get ! refl) (get ! refl) tt) refl (tt, tt) $
    sets_last ! (addr ! (through ! refl (stop !))) refl (tt, tt) $
    exec ! 𝓣.C 𝓣.Λ (env (fn' X).locals l) (after 2 (fn' X).body) (at_ret _ (W.post y)) $
    sets ! (of_opd ! (get ! refl)) refl (tt, tt) $
    move ! (3 ∷ 4 ∷ []) $ fjoin ! $ move ! (3 ∷ 0 ∷ []) $ fjoin ! $ move ! (2 ∷ 0 ∷ []) $ fjoin ! $ move ! (2 ∷ 3 ∷ 4 ∷ 1 ∷ 0 ∷ []) $ group ! 5 $
    use1 𝓛 (later (some (λ (γ' : GName). raw
    (Part 𝓛 (RowOf X) (R X) (with_item d n) (named 0) κ q rb ro b p γ (sem 𝓛 (Rest X L 𝓛 d us b o rb ro n))
    (back X L 𝓛 d us b o rb ro n is at le fit) x γ'))))
    (lends_Part 𝓛 (RowOf X) (R X) (with_item d n) (named 0) κ q rb ro b p γ (sem 𝓛 (Rest X L 𝓛 d us b o rb ro n)) (back X L 𝓛 d us b o rb ro n is at le fit)
    ((RowOf X).coded.code d) ((RowOf X).coded.code d) x) $ await ! tt $ pick ! (λ γ'.
    returns ! (look_at ! 0 refl) $ free_all ! refl $ keep ! (0 ∷ 2 ∷ []) $
    let lent : MutBor X.Denot = record { ref_ptr = (b, p); ghost_name = γ'; now = x } in
    use1 𝓛 (‵ ((MutRef (named 0) κ (R X)).own_val lent (vptr b p ∷ [])) ⊛ ‵ (flft κ q) ⊛ ‵ (follows (RowOf X) (R X) γ γ' (with_item d n)))
    (id⊢ 𝓤 _) $ split3 ! $
    -- [the item; a token; what the row follows; a token]
    suffices ! _ (ends_at 𝓛 (f.ended X) (stayed X) c y (vptr b p) lent (tt, (tt, tt)) (tt, (tt, tt))) $
    nothing ! $ nothing ! $ join ! $ nothing ! $ join ! $ nothing ! $ move ! (5 ∷ 0 ∷ []) $ join ! $ move ! (3 ∷ 0 ∷ []) $ join ! $ group ! 3 $ frame ! $
    says ! (some_at xs n (rows.hd xs (omega (arith, is))) is) $ done !))))))
