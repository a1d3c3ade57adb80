-- `items` reads the block's address through a `&`, and lends the items. Assumes `Logic`.
use Rattle.handle_pool.proofs.Names.{◌≡◌, ℕ, ◌+◌, ◌*◌, ◌<◌, ◌^◌, List, [], ◌∷◌, length, refl, ap, subst, arith, times_below, after, proved, Fml, Lft, fhide, flft, ftrue, ent, sep, ◌⊑◌, fact, tables, RefOf, usize, yes, hidden_shr, mem, layouts, param, uint_vals, uint_Tells, RattleType, Ptr, RawPtr, InBlock, block_of, count_of, ptr_row_laws, ShrRef, shr_vals, shr_Tells, plain, slice_val, nothing, heard, in_block_says, lent_out, shape, Struct, Struct-row_laws, Stays, walk_of, stay_dropped, Goes-dropped, says, ends_at, inst_fn, Fn, named, w64, a_type, Val, Ura, alloc_all, pass_all, free_all, look_at, get, through, sets, sets_last, env, ‵, raw, ◌⊛◌, ◌$◌, ◌∵◌, !, at_ret, qed, done, move, keep, drop, use1, split, split3, join, fsplit, fjoin, feq_i, flt_l, flt_i, suffices, Logic, sem, agg, enter, of_opd, load, look, stop, fld, no_more, and_then, first, blocks, exec, returns}
use Rattle.std.proofs.Words.{pointer_in, pointer_out}
use denote.Opens.{shr_dup, unhide, hide}
use Rattle.handle_pool.specs.contracts.row.Row as C
use Rattle.handle_pool.specs.contracts.row.Row.items as f
use Rattle.handle_pool.proofs.row.Row.items.Statement.{statement}
use Rattle.handle_pool.proofs.row.Row.items.Code as code

module _ (X : RattleType) where
  abbrev fn' : Fn
  fn' = inst_fn (layouts (a_type ∷ []) (X, tt)) code.function

  abbrev R : RattleType
  R = param 0 X

  abbrev RowOf : RattleType
  RowOf = C.the_row R

  abbrev Words : RattleType
  Words = Struct (shape (C.the_type R))

  abbrev stayed : Stays (f.ended X).signature.params (f.ended X).kept
  stayed = (stay_dropped _ yes, (stay_dropped _ yes, tt))

module _ (X : RattleType) {M : Type 1} {𝓤 : Ura M} (𝓛 : Logic 𝓤) (κ : Lft) (b o : ℕ) (p : Ptr) where
  abbrev Seen : Fml
  Seen = hidden_shr (Words X) κ (p, tt) b o

  -- a `&` to the row shows a `&` to its one word
  shows_at : ent 𝓤 (sem 𝓛 Seen) (sep 𝓤 (sem 𝓛 (hidden_shr RawPtr κ p b (o + 0))) (sem 𝓛 Seen))
  shows_at =
      qed 𝓛 (‵ Seen ∷ []) ∵
      shr_dup ! (Words X) (Struct-row_laws (shape (C.the_type (R X))) (ptr_row_laws, tt)) (p, tt) b o κ $ unhide ! $ fsplit ! $ fsplit ! $ hide ! $ keep ! (0
      ∷ 3 ∷ []) $ done !

pub items_spec : {M : Type 1} → statement M
items_spec 𝓤 𝓛 𝓜 𝓡 wired X L =
    let c = f.clauses X 𝓛 𝓜.mem 𝓡.returns in let W = walk_of 𝓛 (f.ended X) (stayed X) c in let 𝓣 = tables 𝓤 𝓛.H 𝓜 𝓡 𝓡.env in
    proved 𝓛 (f.ended X) (stayed X) c 𝓜 𝓡 (
      Goes-dropped 𝓛 2 (RefOf (0 ∷ []) tt (plain (λ _. RowOf X)) (λ _. tt)) yes (λ κs x w. refl),
      (Goes-dropped 𝓛 2 (plain (λ _. usize)) yes (λ κs x w. refl), tt),
    )
    (f.Key.name (layouts (a_type ∷ []) (X, tt))) (fn' X) (code.unfolded 𝓤 𝓛.H 𝓜 𝓡 wired (X, tt))
    (λ κs. (shr_vals, (uint_vals w64, tt))) (λ κs. (shr_Tells (named 0) κs.0 (RowOf X), (uint_Tells w64, tt))) (λ κs qs bounds a _ are.
    let κ = κs.0 in let q = qs.0 in let d = a.0.now in let n = a.1.0 in let b = a.0.ref_ptr.0 in let o = a.0.ref_ptr.1 in
    let y : W.Ghost = ((κs, qs, bounds, a, (shr_vals a.0, (uint_vals w64 n, tt))), tt) in
    qed 𝓛 (((‵ (flft κ q) ⊛ ‵ (flft κs.1.0 qs.1.0) ⊛ ‵ ftrue) ⊛ ‵ ((ShrRef (named 0) κ (RowOf X)).own_val a.0 (shr_vals a.0)) ⊛ ‵
    (usize.own_val n (uint_vals w64 n)) ⊛ ‵ ftrue)
    ∷ (raw (fact 𝓤 (κs.1.0 ⊑ X.lives)) ⊛ raw (fact 𝓤 (n ≡ length d.items))) ∷ []) ∵
    split ! $ split3 ! $ move ! (4 ∷ []) $ split ! $ drop ! $ heard ! _ (λ is. move ! (3 ∷ []) $ split3 ! $ keep ! (0 ∷ 3 ∷ 4 ∷ []) $
    -- [the `&`; the two tokens]
    fsplit ! $ drop ! $
    use1 𝓛 (‵ (hidden_shr (Words X) κ (d.at, tt) b o) ⊛ ‵ (fhide (C.the_lent (R X) d d.at κ)))
    (lent_out 𝓛 (C.struct (R X)) (C.the_codes X.Denot X.coded) (C.the_heap (R X)) (C.the_lent (R X)) κ d b o) $ split ! $
    move ! (1 ∷ []) $ unhide ! $ fsplit ! $ fsplit ! $ flt_l !
    (λ le. flt_l ! (λ fit. fsplit ! $ use1 𝓛 (raw (fact 𝓤 (InBlock d.at))) (in_block_says 𝓛 d.at) $ heard ! (InBlock d.at)
    (λ inb. fsplit ! $ drop ! $ hide ! $
    -- [the items; the row's word; the two tokens]
    move ! (1 ∷ 2 ∷ []) $ enter ! _ _ _ _ _ $ alloc_all ! (λ l. pass_all ! refl ((tt, tt), ((tt, record { fits = are.1.0.1 }), tt)) $
    pointer_in ! tt d.at inb b (o + 0) (shows_at X 𝓛 κ b o d.at) (λ q'.
    let at : ℕ × ℕ = (block_of d.at, count_of d.at) in
    let fn = are.1.0.1 in
    -- let at = self.at;
    sets ! (of_opd ! (load ! (through ! refl (fld ! refl (stop !))) (look ! 1 refl))) refl (tt, tt) $
    pointer_out ! tt d.at inb b (o + 0) $
    -- slice::from_raw_parts(at, count)
    first ! $ blocks ! $ sets_last ! (agg ! (and_then ! (get ! refl) (and_then ! (get ! refl) (no_more !)))) refl (tt, (tt, (record { fits = fn }, tt))) $
    exec ! 𝓣.C 𝓣.Λ (env (fn' X).locals l) (after 2 (fn' X).body) (at_ret _ (W.post y)) $
    sets ! (of_opd ! (get ! refl)) refl (tt, (tt, (record { fits = fn }, tt))) $
    returns ! (look_at ! 0 refl) $ free_all ! refl $ keep ! (2 ∷ 0 ∷ 3 ∷ []) $
    -- [the items; the two tokens]
    suffices ! _ (ends_at 𝓛 (f.ended X) (stayed X) c y (slice_val at n) (record { ref_ptr = at; now = d.items }) (tt, (tt, tt)) (tt, (tt, tt))) $ says ! refl $
    flt_i ! (length d.items * (mem (R X)).size) (2 ^ 63) (times_below (length d.items) d.room (mem (R X)).size (2 ^ 63) (omega arith) fit) $
    flt_i ! (length d.items) (2 ^ 64) (subst (λ (k : ℕ). k < 2 ^ 64) is fn) $ fjoin ! $
    feq_i ! (List Val) (slice_val at n ∷ []) (slice_val at (length d.items) ∷ []) (ap (λ (k : ℕ). slice_val at k ∷ []) is) $ fjoin ! $ fjoin ! $
    nothing ! $ nothing ! $ join ! $ nothing ! $ join ! $ nothing ! $ move ! (4 ∷ 0 ∷ []) $ join ! $ move ! (3 ∷ 0 ∷ []) $ join ! $ done !)))))))
