-- `free` makes the items room again, and gives the block back. Assumes `Logic`.
use Rattle.handle_pool.proofs.Names.{◌≡◌, ℕ, ◌+◌, ◌-◌, ◌*◌, ◌<◌, ◌^◌, List, [], ◌∷◌, ◌++◌, length, refl, sym, ap, subst, ◌∙◌, arith, as_raw, as_written, after, one_below, proved, flft, froom, fsep, ftrue, emp, id⊢, ◌⊑◌, fact, fact_i, tables, RefOf, unit, usize, yes, no, layout, layouts, param_laws, uint_vals, uint_Tells, RattleType, Ptr, block_ptr, ptr_val, ShrRef, shr_vals, shr_Tells, plain, nothing, heard, only, T, calls_at_last, triple_of, framed, Stays, walk_of, stay_dropped, Goes-dropped, ends_at, inst_fn, Fn, named, w64, a_type, ty_array, ty_unit, Val, WT, has_ty, vint, vptr, vunit, vstruct, vcons, vnil, capped_is, capped_fits, size, align, capped, size-raw, align-raw, WpFn, lands_last, alloc_all, pass_all, free_all, look_at, get, get_in, sets, env, ‵, raw, ◌⊛◌, prop, some, later, ◌$◌, ◌∵◌, !, at_ret, qed, done, move, keep, drop, use0, use1, use2, feq_i, feq_l, flt_i, split, split3, join, fsplit, fjoin, await, pick, regoal, rewrite, suffices, whole, sub, enter, of_opd, stop, fld, bin, size_lit, align_word, and_then, no_more, unit_lit, first, blocks, exec, returns, chunk}
use Rattle.std.proofs.VecSteps.El.{no_al}
use Rattle.std.proofs.VecSteps.Rows.{all_room}
use Rattle.std.specs.contracts.alloc.Global as G
use Rattle.std.specs.contracts.impls.GlobalAllocator.deallocate as g
use Rattle.std.proofs.impls.GlobalAllocator.deallocate.Met.{met}
use mir.Raw.{raw as bare}
use Rattle.handle_pool.specs.contracts.row.Row.free as f
use Rattle.handle_pool.proofs.RowSteps.{R, RowOf, sz, row_had}
use Rattle.handle_pool.proofs.row.Row.TheLaws.{lowers}
use Rattle.handle_pool.proofs.row.Row.free.Statement.{statement}
use Rattle.handle_pool.proofs.row.Row.free.Code as code

module _ (X : RattleType) where
  abbrev fn' : Fn
  fn' = inst_fn (layouts (a_type ∷ []) (X, tt)) code.function

  abbrev stayed : Stays (f.ended X).signature.params (f.ended X).kept
  stayed = (stay_dropped _ no, (stay_dropped _ yes, (stay_dropped _ yes, tt)))

pub free_spec : {M : Type 1} → statement M
free_spec 𝓤 𝓛 𝓜 𝓡 wired X L =
    let c = f.clauses X 𝓛 𝓜.mem 𝓡.returns in let W = walk_of 𝓛 (f.ended X) (stayed X) c in let 𝓣 = tables 𝓤 𝓛.H 𝓜 𝓡 𝓡.env in
    let low = lowers (R X) (param_laws 0 X L) in
    proved 𝓛 (f.ended X) (stayed X) c 𝓜 𝓡 (
      Goes-dropped 𝓛 2 (plain (λ _. RowOf X)) no (λ κs x w. refl),
      (
        Goes-dropped 𝓛 2 (RefOf (0 ∷ []) tt (plain (λ _. G.the_row)) (λ _. tt)) yes (λ κs x w. refl),
        (Goes-dropped 𝓛 2 (plain (λ _. usize)) yes (λ κs x w. refl), tt),
      ),
    )
    (f.Key.name (layouts (a_type ∷ []) (X, tt))) (fn' X) (code.unfolded 𝓤 𝓛.H 𝓜 𝓡 wired (X, tt))
    (λ κs. ((λ d. low.lowered d ∷ []), (shr_vals, (uint_vals w64, tt)))) (λ κs. (low.val_is, (shr_Tells (named 0) κs.0 G.the_row, (uint_Tells w64, tt))))
    (λ κs qs bounds a _ are.
    let κ = κs.0 in let q = qs.0 in let d = a.0 in let r = a.1.0 in let n = a.1.1.0 in
    let y : W.Ghost = ((κs, qs, bounds, a, (low.lowered d ∷ [], (shr_vals r, (uint_vals w64 n, tt)))), tt) in
    qed 𝓛 (((‵ (flft κ q) ⊛ ‵ (flft κs.1.0 qs.1.0) ⊛ ‵ ftrue) ⊛ ‵ ((RowOf X).own_val d (low.lowered d ∷ [])) ⊛ ‵
    ((ShrRef (named 0) κ G.the_row).own_val r (shr_vals r)) ⊛ ‵ (usize.own_val n (uint_vals w64 n)) ⊛ ‵ ftrue)
    ∷ (raw (fact 𝓤 (κs.1.0 ⊑ X.lives)) ⊛ raw (fact 𝓤 ((n ≡ d.room) × (0 < n)))) ∷ []) ∵
    split ! $ split3 ! $ move ! (4 ∷ []) $ split ! $ drop ! $ heard ! _ (λ asked. move ! (3 ∷ []) $ split3 ! $ keep ! (0 ∷ 1 ∷ 3 ∷ 4 ∷ []) $
    row_had X L ! d (low.lowered d ∷ []) (λ b o e word_is le fit.
    regoal ! (λ (p : Ptr). prop (WpFn 𝓤 𝓛.H 𝓣.C 𝓣.Λ (fn' X) (vstruct (vcons (ptr_val p) vnil) ∷ (shr_vals r ++ (uint_vals w64 n ++ []))) (W.post y))) e refl $
    let fn = are.1.1.0.1 in
    let τ = ty_array (layout X) n in
    let bytes : n * sz X < 2 ^ 64 = let h : n * sz X < 2 ^ 63 = subst (λ (k : ℕ). k * sz X < 2 ^ 63) (sym asked.0) fit in omega (arith, h) in
    let tiny : sz X < 2 ^ 64 = one_below n (sz X) (2 ^ 64) asked.1 bytes in
    -- [the items; the room after them; the word and the right; the allocator; the two tokens]
    move ! (1 ∷ []) $ as_written ! (ty_array (layout X) (d.room - length d.items)) b (o + length d.items * sz X) $ move ! (1 ∷ 0 ∷ []) $
    use2 𝓛 (‵ (froom (ty_array (layout X) d.room) b o))
    (all_room (record { row = X; laws = L; al = no_al }) 𝓛 b o (length d.items) d.room d.items (omega (arith, le))) $
    as_raw ! (ty_array (layout X) d.room) b o $ move ! (1 ∷ []) $ fsplit ! $ drop ! $
    rewrite ! 0 (λ (p : Ptr). ‵ (chunk (bare (ty_array (layout X) d.room)) p)) e refl $ move ! (1 ∷ 0 ∷ []) $ fjoin ! $
    rewrite ! 0 (λ (k : ℕ). ‵ (fsep (froom (bare (ty_array (layout X) k)) b o) (chunk (bare (ty_array (layout X) k)) (block_ptr b o)))) (sym asked.0) refl $
    move ! (1 ∷ []) $ fsplit ! $ drop ! $
    -- [the allocator; the block; the two tokens]
    enter ! _ _ _ _ _ $ alloc_all ! (λ l. pass_all ! refl ((tt, (tt, tt)), ((tt, tt), ((tt, record { fits = fn }), tt))) $
    sets ! (of_opd ! (get_in ! (fld ! refl (stop !)) (sub ! 0 refl (whole !)))) refl (tt, tt) $
    first ! $ blocks ! $
    sets ! (of_opd ! (get ! refl)) refl (tt, tt) $
    sets ! (bin ! (get ! refl) (size_lit ! (record { fits = tiny })) (record { fits = bytes })) refl (tt, record { fits = bytes }) $
    let s = n * sz X in let al = capped (align (layout X)) in
    let D = triple_of 𝓛 g.signature (g.spec 𝓛 𝓜.mem 𝓡.returns) in
    let z : D.Ghost = (
      (
        (κ, tt),
        (q, tt),
        tt,
        (r, (block_ptr b o, (s, (al, tt)))),
        (shr_vals r, (vptr b o ∷ [], (vint w64 s ∷ [], (vint w64 al ∷ [], tt)))),
      ),
      bare τ,
    ) in
    let laid : (capped (size (bare τ)) ≡ s) × (capped (align (bare τ)) ≡ al) = (ap capped (size-raw τ) ∙ capped_is s bytes, ap capped (align-raw (layout X))) in
    move ! (1 ∷ []) $ use0 𝓛 (raw (fact 𝓤 ((capped (size (bare τ)) ≡ s) × (capped (align (bare τ)) ≡ al))))
    (fact_i 𝓤 ((capped (size (bare τ)) ≡ s) × (capped (align (bare τ)) ≡ al)) (emp 𝓤) laid) $ join ! $
    nothing ! $ flt_i ! al (2 ^ 64) (capped_fits (align (layout X))) $ feq_i ! (List Val) (vint w64 al ∷ []) (vint w64 al ∷ []) refl $ fjoin ! $ fjoin ! $
    flt_i ! s (2 ^ 64) bytes $ feq_i ! (List Val) (vint w64 s ∷ []) (vint w64 s ∷ []) refl $ fjoin ! $ fjoin ! $
    feq_i ! (List Val) (vptr b o ∷ []) (vptr b o ∷ []) refl $ fjoin ! $
    move ! (2 ∷ []) $ feq_i ! (List Val) (shr_vals r) (shr_vals r) refl $ fjoin ! $ fjoin ! $
    move ! (2 ∷ []) $ nothing ! $ move ! (1 ∷ 0 ∷ []) $ join ! $ join ! $ use2 𝓛 (raw (D.pre z)) (id⊢ 𝓤 _) $
    calls_at_last ! (framed 𝓤 𝓛.H 𝓜 (tables 𝓤 𝓛.H 𝓜 𝓡 𝓡.env)) D (met 𝓤 𝓛 𝓜 𝓡 (code.calls-std_heap::GlobalAllocator::deallocate 𝓡.env wired)) z
    (and_then ! (get ! refl) (and_then ! (get ! refl) (and_then ! (get ! refl) (and_then ! (align_word !) (no_more !))))) (λ v.
    use1 𝓛 (later (some (λ (u : Unit {0}). ((‵ (flft κ q) ⊛ ‵ ftrue) ⊛ ‵ (unit.own_val u (v ∷ []))) ⊛
    some (λ (ws : Unit {0} × (Unit {0} × (Unit {0} × (Unit {0} × Unit {0})))). ‵ (fsep ftrue (fsep ftrue (fsep ftrue (fsep ftrue ftrue)))) ⊛ ‵ ftrue))))
    (id⊢ 𝓤 _) $ await ! tt $ pick ! (λ u.
    split ! $ split ! $ split ! $ move ! (2 ∷ []) $ feq_l ! (λ is_unit.
    lands_last ! refl (subst (λ (w : Val). T (has_ty ty_unit w) × WT w) (sym (ap only is_unit)) (tt, tt)) $
    exec ! 𝓣.C 𝓣.Λ (env (fn' X).locals l) (after 2 (fn' X).body) (at_ret _ (W.post y)) $
    sets ! (of_opd ! (unit_lit !)) refl (tt, tt) $
    returns ! (look_at ! 0 refl) $ free_all ! refl $ keep ! (0 ∷ 3 ∷ []) $
    suffices ! _ (ends_at 𝓛 (f.ended X) (stayed X) c y vunit tt (tt, (tt, (tt, tt))) (tt, (tt, (tt, tt)))) $
    nothing ! $ feq_i ! (List Val) (vunit ∷ []) (vunit ∷ []) refl $ nothing ! $ nothing ! $ fjoin ! $ nothing ! $ fjoin ! $ nothing ! $ fjoin ! $ join ! $
    nothing ! $ move ! (4 ∷ 0 ∷ []) $ join ! $ move ! (3 ∷ 0 ∷ []) $ join ! $ join ! $ done !)))))))
