-- `push` writes one item more into the room after the items. Assumes `Logic`.
use Rattle.handle_pool.proofs.Names.{◌≡◌, ℕ, ◌+◌, ◌-◌, ◌*◌, ◌<◌, ◌^◌, List, [], ◌∷◌, ◌++◌, length, refl, sym, subst, arith, after, length_push, times_below, one_below, flft, froom, ftrue, full_share, ent, sep, ◌⊑◌, fact, tables, usize, yes, no, cell_at, part_at, layout, layouts, param_laws, uint_vals, RattleType, MutRef, mut_vals, plain, closes, nothing, heard, Stays, walk_of, stay_dropped, stay_ref, Goes-dropped, Goes-ref, says, ends_at, inst_fn, Fn, named, w64, a_type, ty_array, Val, vunit, WpFn, Array, as_raw, as_written, alloc_all, pass_all, free_all, look_at, get, through, sets, env, ‵, raw, ◌⊛◌, ◌$◌, ◌∵◌, !, at_ret, qed, done, move, keep, drop, use1, use2, feq_i, split, split3, join, fsplit3, frame, group, rewrite, suffices, whole, sub, look_in, enter, of_opd, load, stop, fld, bin, size_lit, unit_lit, init, assigns_last, first, blocks, exec, returns, proved_at}
use Rattle.std.proofs.ptr.Rows as rows
use denote.Triple.Entry.{on_entry}
use Rattle.handle_pool.specs.contracts.row.Row.push as f
use Rattle.handle_pool.proofs.RowSteps.{one_value, R, RowOf, sz, Spare, row_made, row_opens}
use Rattle.handle_pool.proofs.row.Row.push.Statement.{statement}
use Rattle.handle_pool.proofs.row.Row.push.Code as code

module _ (X : RattleType) where
  abbrev fn' : Fn
  fn' = inst_fn (layouts (a_type ∷ []) (X, tt)) code.function

  abbrev stayed : Stays (f.ended X).signature.params (f.ended X).kept
  stayed = (stay_ref (0 ∷ []) tt (plain (λ _. RowOf X)), (stay_dropped _ yes, (stay_dropped _ no, tt)))

pub push_spec : {M : Type 1} → statement M
push_spec 𝓤 𝓛 𝓜 𝓡 wired X L =
    let c = f.clauses X 𝓛 𝓜.mem 𝓡.returns in let W = walk_of 𝓛 (f.ended X) (stayed X) c in let 𝓣 = tables 𝓤 𝓛.H 𝓜 𝓡 𝓡.env in
    proved_at 𝓛 (f.ended X) (stayed X) c 𝓜 𝓡 (
      Goes-ref 𝓛 2 0 tt (plain (λ _. RowOf X)),
      (Goes-dropped 𝓛 2 (plain (λ _. usize)) yes (λ κs x w. refl), (Goes-dropped 𝓛 2 (plain (λ _. R X)) no (λ κs x w. refl), tt)),
    )
    (f.Key.name (layouts (a_type ∷ []) (X, tt))) (fn' X) (code.unfolded 𝓤 𝓛.H 𝓜 𝓡 wired (X, tt))
    (λ y are.
    let κs = y.0.0 in let qs = y.0.1 in let bounds = y.0.2 in let a = y.0.3 in
    let κ = κs.0 in let q = qs.0 in let d = a.0.now in let n = a.1.0 in let x = a.1.1.0 in let rb = a.0.ref_ptr.0 in let ro = a.0.ref_ptr.1 in let xs =
    d.items in
    let Goal : List Val → List Val → List Val → Type 1 = λ us ns vs.
    ent 𝓤 (sep 𝓤 (on_entry 𝓛 (f.signature X) κs qs a (us, (ns, (vs, tt)))) ((c κs a).requires tt))
    (WpFn 𝓤 𝓛.H 𝓣.C 𝓣.Λ (fn' X) (us ++ (ns ++ (vs ++ []))) (W.post ((κs, qs, bounds, a, (us, (ns, (vs, tt)))), tt))) in
    let one = one_value (layout X) y.0.4.1.1.0 (((param_laws 0 X L).lawful 𝓛).typed x y.0.4.1.1.0 are.1.1.0) in
    let v = one.0 in let good = one.2 in let fn = are.1.0.1 in
    subst (λ (us : List Val). Goal us y.0.4.1.0 y.0.4.1.1.0) (sym are.0.0) (
    subst (λ (ns : List Val). Goal (mut_vals a.0) ns y.0.4.1.1.0) (sym are.1.0.0) (
    subst (λ (vs : List Val). Goal (mut_vals a.0) (uint_vals w64 n) vs) (sym one.1) (
    let z : W.Ghost = ((κs, qs, bounds, a, (mut_vals a.0, (uint_vals w64 n, (v ∷ [], tt)))), tt) in
    qed 𝓛 (((‵ (flft κ q) ⊛ ‵ (flft κs.1.0 qs.1.0) ⊛ ‵ ftrue) ⊛ ‵ ((MutRef (named 0) κ (RowOf X)).own_val a.0 (mut_vals a.0)) ⊛ ‵
    (usize.own_val n (uint_vals w64 n)) ⊛ ‵ ((R X).own_val x (v ∷ [])) ⊛ ‵ ftrue)
    ∷ (raw (fact 𝓤 (κs.1.0 ⊑ X.lives)) ⊛ raw (fact 𝓤 ((n ≡ length xs) × (n < d.room)))) ∷ []) ∵
    split ! $ split3 ! $ move ! (4 ∷ []) $ split ! $ drop ! $ heard ! _
    (λ asked. move ! (3 ∷ []) $ split3 ! $ move ! (2 ∷ []) $ split ! $ keep ! (2 ∷ 4 ∷ 5 ∷ 0 ∷ []) $
    -- [self; the two tokens; the item]
    enter ! _ _ _ _ _ $ alloc_all ! (λ l. pass_all ! refl ((tt, tt), ((tt, record { fits = fn }), (good, tt))) $
    fsplit3 ! $ move ! (1 ∷ 2 ∷ 3 ∷ []) $
    row_opens X L ! tt d rb ro (λ us b o at word_is le fit.
    let offset : n * sz X < 2 ^ 64 = let h : n * sz X < 2 ^ 63 = times_below n d.room (sz X) (2 ^ 63) (omega (arith, asked)) fit in omega (arith, h) in
    let tiny : sz X < 2 ^ 64 = let h : sz X < 2 ^ 63 = one_below d.room (sz X) (2 ^ 63) (omega (arith, asked)) fit in omega (arith, h) in
    let E : rows.El = record { row = X; laws = L } in
    -- [the items; the room after them; the word; the row's cell; the open borrow; what is seen of it, in two entries; self's address; a token; the item]
    -- let at = self.at;
    sets ! (of_opd ! (load ! (through ! refl (fld ! refl (stop !))) (look_in ! 3 (sub ! 0 refl (whole !))))) refl (tt, tt) $
    rewrite ! 0 (λ (k : ℕ). ‵ (part_at (Array (R X) k) full_share xs b o)) (sym asked.0) refl $
    rewrite ! 1 (λ (k : ℕ). ‵ (Spare X d.room k b o)) (sym asked.0) refl $
    move ! (1 ∷ []) $ as_written ! (ty_array (layout X) (d.room - n)) b (o + n * sz X) $
    use1 𝓛 (‵ (froom (layout X) b (n * sz X + o)) ⊛ ‵ (froom (ty_array (layout X) (d.room - (n + 1))) b (o + (n + 1) * sz X)))
    (rows.spare E 𝓛 b o n d.room asked.1) $ split ! $
    -- [the place; the room after it; the items; the word; ..]
    first ! $ blocks ! $
    sets ! (bin ! (get ! refl) (size_lit ! (record { fits = tiny })) (record { fits = offset })) refl (tt, record { fits = offset }) $
    sets ! (bin ! (get ! refl) (get ! refl) tt) refl (tt, tt) $
    sets ! (of_opd ! (get ! refl)) refl good $
    assigns_last ! (of_opd ! (get ! refl)) (through ! refl (stop !)) (init ! 0 refl good) $
    exec ! 𝓣.C 𝓣.Λ (env (fn' X).locals l) (after 2 (fn' X).body) (at_ret _ (W.post z)) $
    sets ! (of_opd ! (unit_lit !)) refl (tt, tt) $
    -- [the place, with the item's word; the room after it; the items; the word; the row's cell; the open borrow; what is seen of it, in two entries; self's address; a token; the item]
    let ys = xs ++ x ∷ [] in
    let count : n + 1 ≡ length ys = omega (arith, length_push xs x, asked.0) in
    let le' : length ys < d.room + 1 = omega (arith, count, asked.1) in
    move ! (0 ∷ 10 ∷ []) $ use2 𝓛 (‵ (part_at (R X) full_share x b (n * sz X + o))) (rows.el_in E 𝓛 full_share x b (n * sz X + o) v) $
    move ! (2 ∷ 0 ∷ []) $ use2 𝓛 (‵ (part_at (Array (R X) (n + 1)) full_share ys b o)) (rows.snoc E 𝓛 b o n xs x) $
    rewrite ! 0 (λ (k : ℕ). ‵ (part_at (Array (R X) k) full_share ys b o)) count refl $
    move ! (1 ∷ []) $ as_raw ! (ty_array (layout X) (d.room - (n + 1))) b (o
    + (n + 1) * sz X) $ rewrite ! 0 (λ (k : ℕ). ‵ (Spare X d.room k b o)) count refl $ move ! (1 ∷ 0 ∷ []) $
    row_made X L ! d ys us b o at le' fit $ rewrite ! 1 (λ (ws : List Val). ‵ (cell_at full_share (RowOf X).mir ws rb ro)) (sym word_is) refl $ move ! (1 ∷ 0
    ∷ []) $
    closes ! tt (RowOf X) (record d { items = ys }) us rb ro $
    returns ! (look_at ! 0 refl) $ free_all ! refl $
    -- [two parts of self; a token; self's address; a token]
    move ! (3 ∷ []) $
    suffices ! _ (ends_at 𝓛 (f.ended X) (stayed X) c z vunit tt (record d { items = ys }, (tt, (tt, tt))) (tt, (tt, (tt, tt)))) $ says ! (refl, refl, refl) $
    group ! 3 $ nothing ! $ nothing ! $ join ! $ nothing ! $ join ! $ move ! (1 ∷ 0 ∷ []) $ join ! $
    nothing ! $ move ! (3 ∷ 0 ∷ []) $ join ! $ move ! (2 ∷ 0 ∷ []) $ join ! $ frame ! $ frame ! $ feq_i ! _ (vunit ∷ []) _ refl $ done !)))))))
