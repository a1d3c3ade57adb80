-- `allocate` asks the heap for a block, and makes a row of no items of it. Assumes `Logic`.
use Rattle.handle_pool.proofs.Names.{◌≡◌, ℕ, ◌+◌, ◌-◌, ◌*◌, ◌<◌, ◌^◌, Bool, true, false, List, [], ◌∷◌, ◌++◌, refl, ap, ◌∙◌, arith, after, head, arm_body, one_below, proved, block_if_ok, flft, froom, fsep, ftrue, ent, ex, fst∗, guard, never, sep, emp, id⊢, ◌⊑◌, fact, fact_i, tables, RefOf, usize, yes, Is, layout, layouts, uint_vals, uint_Tells, RattleType, Valss, Ptr, block_ptr, in_a_block, null_ptr, ptr_val, room_for, ShrRef, shr_vals, shr_Tells, plain, nothing, heard, only, owned, shape, Struct, Struct-Makes, within, calls_at, triple_of, framed, Stays, walk_of, stay_dropped, Goes-dropped, says, ends_at, lit<, inst_fn, Fn, Ty, named, w64, a_type, ty_array, Val, of_list, vint, vptr, vstruct, vcons, vnil, capped_is, capped_fits, size, align, capped, size-raw, align-raw, Env, Wp, after_seq, at_return, Ura, alloc_all, pass_all, free_all, look_at, get, get_in, get_tag, lands_as, sets, sets_last, env, Goal, Item, Seq, any_q, ‵, raw, ◌⊛◌, some, later, given, ◌$◌, ◌∵◌, !, at_ret, qed, check, show, done, move, keep, drop, use0, use1, use2, feq_i, feq_l, flt_i, fpack, fpick, split, split3, join, fsplit, fjoin, await, pick, learn, rewrite, suffices, Logic, sem, agg, whole, enter, of_opd, stop, fld, bin, lit, size_lit, align_word, and_then, no_more, first, exec, returns, switches_on, chunk, Row}
use Rattle.std.proofs.ResultValues.{ok_of, err_of}
use Rattle.std.proofs.alloc.Calls.{Answer, answer_val, got, Answer-typed}
use Rattle.std.proofs.ptr.Rows as rows
use Rattle.std.specs.contracts.alloc.AllocError as AE
use Rattle.std.specs.contracts.alloc.Global as G
use Rattle.std.specs.contracts.impls.GlobalAllocator.allocate as g
use Rattle.std.specs.contracts.result.Result as RS
use Rattle.std.specs.declared.result.Result.TheVariants.{Ok, Err}
use Rattle.std.proofs.impls.GlobalAllocator.allocate.Met.{met}
use denote.Struct.Declared as Declared
use mir.Raw.{raw as bare}
use mir.Syntax.{Body}
use types.Kit.{Post as After}
use types.Match.{live, vrt, in_variant}
use Rattle.handle_pool.specs.contracts.row.Row as C
use Rattle.handle_pool.specs.contracts.row.Row.allocate as f
use Rattle.handle_pool.proofs.RowSteps.{R, RowOf, sz, Items, row_made}
use Rattle.handle_pool.proofs.row.Row.allocate.Statement.{statement}
use Rattle.handle_pool.proofs.row.Row.allocate.Code as code

module _ {M : Type 1} {𝓤 : Ura M} (𝓛 : Logic 𝓤) (τ : Ty) where
  -- the word that the heap answered is that of a block, with its bytes, or of none
  answer_word : (v : Val) (r : Answer.Denot) → ent 𝓤 (sep 𝓤 (sem 𝓛 (Answer.own_val r (v ∷ []))) (sem 𝓛 (block_if_ok chunk τ r)))
      (ex 𝓤 (λ (c : Bool × (ℕ × ℕ)). guard 𝓤 (v ≡ answer_val c.0 c.1.0 c.1.1) (sem 𝓛 (got chunk τ c.0 c.1.0 c.1.1))))
  answer_word v (Ok p) =
      qed 𝓛 (‵ (Answer.own_val (Ok p) (v ∷ [])) ∷ ‵ (fsep (room_for τ p) (chunk τ p)) ∷ []) ∵
      fpick ! (λ us. fsplit ! $ feq_l ! (λ e. fpick ! (λ vss. fsplit ! $ feq_l ! (λ e'. fsplit ! $ feq_l ! (λ e''. drop ! $
      in_a_block ! p (λ z. fsep (room_for τ z) (chunk τ z)) (fst∗ 𝓤 (never 𝓤) (sem 𝓛 (chunk τ null_ptr))) (λ b o at.
      show ! (λ (c : Bool × (ℕ × ℕ)). guard 𝓤 (v ≡ answer_val c.0 c.1.0 c.1.1) (sem 𝓛 (got chunk τ c.0 c.1.0 c.1.1))) (true, (b, o)) $
      check ! (ap only e ∙ ap (λ (ws : List Val). live 0 (of_list ws)) (e'
      ∙ ap (λ (ws : List Val). ws ++ []) (e'' ∙ ap (λ (z : Ptr). ptr_val z ∷ []) at))) $ done !))))))
  answer_word v (Err n) =
      qed 𝓛 (‵ (Answer.own_val (Err n) (v ∷ [])) ∷ ‵ ftrue ∷ []) ∵
      fpick ! (λ us. fsplit ! $ feq_l ! (λ e. fpick ! (λ vss. fsplit ! $ feq_l ! (λ e'. fsplit ! $ fpick ! (λ none. fsplit ! $ feq_l ! (λ e''. keep ! [] $
      show ! (λ (c : Bool × (ℕ × ℕ)). guard 𝓤 (v ≡ answer_val c.0 c.1.0 c.1.1) (sem 𝓛 (got chunk τ c.0 c.1.0 c.1.1))) (false, (0, 0)) $
      check ! (ap only e ∙ ap (λ (ws : List Val). live 1 (of_list ws)) (e' ∙ ap (λ (ws : List Val). ws ++ []) e'')) $ done !))))))

module _ {M : Type 1} {𝓤 : Ura M} {𝓛 : Logic 𝓤} {K : Type 0} {Γ : List (Item 𝓤)} {G : Goal 𝓤 𝓛.H} (τ : Ty) where
  -- the heap gave a block, or it refused
  given_or_refused : K → (v : Val) (y : Bool) (b o : ℕ) → v ≡ answer_val y b o
      → (v ≡ answer_val true b o → Seq K 𝓛 (‵ (froom τ b o) ∷ ‵ (chunk τ (block_ptr b o)) ∷ Γ) G) → (v ≡ answer_val false b o → Seq K 𝓛 Γ G)
      → Seq K 𝓛 (‵ (got chunk τ y b o) ∷ Γ) G
  given_or_refused t v false b o said with_block without = drop t $ without said
  given_or_refused t v true b o said with_block without = fsplit t $ with_block said

module _ (X : RattleType) where
  abbrev fn' : Fn
  fn' = inst_fn (layouts (a_type ∷ []) (X, tt)) code.function

  abbrev stayed : Stays (f.ended X).signature.params (f.ended X).kept
  stayed = (stay_dropped _ yes, (stay_dropped _ yes, tt))

  abbrev Out : RattleType
  Out = RS.the_row (RowOf X) AE.the_row

pub allocate_spec : {M : Type 1} → statement M
allocate_spec 𝓤 𝓛 𝓜 𝓡 wired X L =
    let c = f.clauses X 𝓛 𝓜.mem 𝓡.returns in let W = walk_of 𝓛 (f.ended X) (stayed X) c in let 𝓣 = tables 𝓤 𝓛.H 𝓜 𝓡 𝓡.env in
    proved 𝓛 (f.ended X) (stayed X) c 𝓜 𝓡 (
      Goes-dropped 𝓛 2 (RefOf (0 ∷ []) tt (plain (λ _. G.the_row)) (λ _. tt)) yes (λ κs x w. refl),
      (Goes-dropped 𝓛 2 (plain (λ _. usize)) yes (λ κs x w. refl), tt),
    )
    (f.Key.name (layouts (a_type ∷ []) (X, tt))) (fn' X) (code.unfolded 𝓤 𝓛.H 𝓜 𝓡 wired (X, tt))
    (λ κs. (shr_vals, (uint_vals w64, tt))) (λ κs. (shr_Tells (named 0) κs.0 G.the_row, (uint_Tells w64, tt))) (λ κs qs bounds a _ are.
    let κ = κs.0 in let q = qs.0 in let r = a.0 in let n = a.1.0 in let fn = are.1.0.1 in
    let y : W.Ghost = ((κs, qs, bounds, a, (shr_vals r, (uint_vals w64 n, tt))), tt) in
    qed 𝓛 (((‵ (flft κ q) ⊛ ‵ (flft κs.1.0 qs.1.0) ⊛ ‵ ftrue) ⊛ ‵ ((ShrRef (named 0) κ G.the_row).own_val r (shr_vals r)) ⊛ ‵
    (usize.own_val n (uint_vals w64 n)) ⊛ ‵ ftrue)
    ∷ (raw (fact 𝓤 (κs.1.0 ⊑ X.lives)) ⊛ raw (fact 𝓤 ((n * sz X < 2 ^ 63) × (0 < n)))) ∷ []) ∵
    split ! $ split3 ! $ move ! (4 ∷ []) $ split ! $ drop ! $ heard ! _ (λ asked. move ! (3 ∷ []) $ split3 ! $ keep ! (0 ∷ 3 ∷ 4 ∷ []) $ fsplit ! $ drop ! $
    let τ = ty_array (layout X) n in
    let bytes : n * sz X < 2 ^ 64 = let h : n * sz X < 2 ^ 63 = asked.0 in omega (arith, h) in
    let tiny : sz X < 2 ^ 64 = one_below n (sz X) (2 ^ 64) asked.1 bytes in
    let s = n * sz X in let al = capped (align (layout X)) in
    let D = triple_of 𝓛 g.signature (g.spec 𝓛 𝓜.mem 𝓡.returns) in
    let z : D.Ghost = (((κ, tt), (q, tt), tt, (r, (s, (al, tt))), (shr_vals r, (vint w64 s ∷ [], (vint w64 al ∷ [], tt)))), bare τ) in
    let laid : (capped (size (bare τ)) ≡ s) × (capped (align (bare τ)) ≡ al) = (ap capped (size-raw τ) ∙ capped_is s bytes, ap capped (align-raw (layout X))) in
    -- [the allocator; the two tokens]
    enter ! _ _ _ _ _ $ alloc_all ! (λ l. pass_all ! refl ((tt, tt), ((tt, record { fits = fn }), tt)) $
    let En : Env 𝓤 𝓛.H = env (fn' X).locals l in
    let both : Body = head (after 2 (fn' X).body) in
    let Then : After 𝓤 𝓛.H = any_q (after_seq 𝓤 𝓛.H (Wp 𝓤 𝓛.H 𝓣.C 𝓣.Λ En (after 3 (fn' X).body) (at_return 𝓤 𝓛.H En (W.post y)))
    (at_return 𝓤 𝓛.H En (W.post y))) in
    sets ! (bin ! (get ! refl) (size_lit ! (record { fits = tiny })) (record { fits = bytes })) refl (tt, record { fits = bytes }) $
    use0 𝓛 (raw (fact 𝓤 ((capped (size (bare τ)) ≡ s) × (capped (align (bare τ)) ≡ al))))
    (fact_i 𝓤 ((capped (size (bare τ)) ≡ s) × (capped (align (bare τ)) ≡ al)) (emp 𝓤) laid) $
    nothing ! $ flt_i ! al (2 ^ 64) (capped_fits (align (layout X))) $ feq_i ! (List Val) (vint w64 al ∷ []) (vint w64 al ∷ []) refl $ fjoin ! $ fjoin ! $
    flt_i ! s (2 ^ 64) bytes $ feq_i ! (List Val) (vint w64 s ∷ []) (vint w64 s ∷ []) refl $ fjoin ! $ fjoin ! $
    move ! (2 ∷ []) $ feq_i ! (List Val) (shr_vals r) (shr_vals r) refl $ fjoin ! $ fjoin ! $
    move ! (2 ∷ []) $ nothing ! $ move ! (1 ∷ 0 ∷ []) $ join ! $ join ! $ use2 𝓛 (raw (D.pre z)) (id⊢ 𝓤 _) $
    calls_at ! (framed 𝓤 𝓛.H 𝓜 (tables 𝓤 𝓛.H 𝓜 𝓡 𝓡.env)) D (met 𝓤 𝓛 𝓜 𝓡 (code.calls-std_heap::GlobalAllocator::allocate 𝓡.env wired)) z
    (and_then ! (get ! refl) (and_then ! (get ! refl) (and_then ! (align_word !) (no_more !)))) (λ v.
    use1 𝓛 (later (some (λ (u : Answer.Denot). ((‵ (flft κ q) ⊛ ‵ ftrue) ⊛ ‵ (Answer.own_val u (v ∷ []))) ⊛
    some (λ (ws : Unit {0} × (Unit {0} × (Unit {0} × Unit {0}))). ‵ (fsep ftrue (fsep ftrue (fsep ftrue ftrue))) ⊛ ‵ (block_if_ok chunk (bare τ) u)))))
    (id⊢ 𝓤 _) $ await ! tt $ pick ! (λ u.
    split ! $ move ! (1 ∷ []) $ pick ! (λ ws. split ! $ drop ! $ move ! (1 ∷ []) $ split ! $ split ! $ move ! (2 ∷ 3 ∷ []) $
    use2 𝓛 (some (λ (w : Bool × (ℕ × ℕ)). given (v ≡ answer_val w.0 w.1.0 w.1.1) (‵ (got chunk (bare τ) w.0 w.1.0 w.1.1))))
    (answer_word 𝓛 (bare τ) v u) $ pick ! (λ w. learn ! (λ said.
    given_or_refused (bare τ) ! v w.0 w.1.0 w.1.1 said
    (λ e. let b = w.1.0 in let o = w.1.1 in
    let d : Row X.Denot = record { at = block_ptr b o; items = []; room = n } in
    let it = vstruct (vcons (vptr b o) vnil) in
    lands_as ! e refl (Answer-typed true b o) $ first ! $ switches_on ! (get_tag ! (vrt ! refl (fld ! refl (stop !))) (whole !)) $ exec ! 𝓣.C 𝓣.Λ En
    (arm_body 0 both) Then $
    sets ! (of_opd ! (get_in ! (vrt ! refl (fld ! refl (stop !))) (in_variant ! 0 0 refl refl (whole !)))) refl (tt, tt) $
    sets ! (of_opd ! (get ! refl)) refl (tt, tt) $
    sets ! (agg ! (and_then ! (get ! refl) (no_more !))) refl (tt, (tt, tt)) $
    sets_last ! (agg ! (and_then ! (lit ! tt) (and_then ! (get ! refl) (no_more !)))) refl (tt, (record { fits = lit< tt }, ((tt, tt), tt))) $
    exec ! 𝓣.C 𝓣.Λ En (after 3 (fn' X).body) (at_ret En (W.post y)) $ sets ! (of_opd ! (get ! refl)) refl (tt, (record { fits = lit< tt }, ((tt, tt), tt))) $
    -- [the room; the right; a token; nothing; a token]
    let none : n ≡ n - 0 = omega arith in
    let start : o ≡ o + 0 * sz X = omega arith in
    move ! (1 ∷ []) $ nothing ! $ feq_i ! (List Val) (vptr b o ∷ []) (vptr b o ∷ []) refl $ fjoin ! $ feq_i ! (List Val) (it ∷ []) (it ∷ []) refl $ fjoin ! $
    fpack ! (Valss (shape (C.the_type (R X))).fields) (within (shape (C.the_type (R X))) (block_ptr b o, tt) (it ∷ [])) (vptr b o ∷ [], tt) $ fjoin ! $
    rewrite ! 1 (λ (k : ℕ). ‵ (froom (bare (ty_array (layout X) k)) b o)) none refl $
    rewrite ! 1 (λ (k : ℕ). ‵ (froom (bare (ty_array (layout X) (n - 0))) b k)) start refl $ move ! (1 ∷ 0 ∷ []) $
    use0 𝓛 (‵ (Items X [] b o)) (rows.empty (record { row = X; laws = L }) 𝓛 [] b o refl) $
    row_made X L ! d [] (it ∷ []) b o refl (omega arith) asked.0 $
    use1 𝓛 (‵ ((Out X).own_val (Ok d) (live 0 (of_list (it ∷ [])) ∷ []))) (ok_of 𝓛 (RowOf X) AE.the_row d it) $
    returns ! (look_at ! 0 refl) $ free_all ! refl $
    suffices ! _ (ends_at 𝓛 (f.ended X) (stayed X) c y (live 0 (of_list (it ∷ []))) (Ok d) (tt, (tt, tt)) (tt, (tt, tt))) $ says ! (refl, refl) $
    nothing ! $ nothing ! $ join ! $ nothing ! $ join ! $ nothing ! $ move ! (5 ∷ 0 ∷ []) $ join ! $ move ! (3 ∷ 0 ∷ []) $ join ! $ keep ! (0 ∷ 1 ∷ 2
    ∷ []) $ done !)
    (λ e. let b = w.1.0 in let o = w.1.1 in
    let no = vstruct vnil in
    lands_as ! e refl (Answer-typed false b o) $ first ! $ switches_on ! (get_tag ! (vrt ! refl (fld ! refl (stop !))) (whole !)) $ exec ! 𝓣.C 𝓣.Λ En
    (arm_body 1 both) Then $
    sets ! (of_opd ! (get_in ! (vrt ! refl (fld ! refl (stop !))) (in_variant ! 1 0 refl refl (whole !)))) refl (tt, tt) $
    sets_last ! (agg ! (and_then ! (lit ! tt) (and_then ! (get ! refl) (no_more !)))) refl (tt, (record { fits = lit< tt }, (tt, tt))) $
    exec ! 𝓣.C 𝓣.Λ En (after 3 (fn' X).body) (at_ret En (W.post y)) $ sets ! (of_opd ! (get ! refl)) refl (tt, (record { fits = lit< tt }, (tt, tt))) $
    owned ! (Struct (Declared.shape AE.the_type)) (Is (Struct (Declared.shape AE.the_type))) (Struct-Makes 𝓛 (Declared.shape AE.the_type) tt) tt (no
    ∷ []) (tt, (refl, tt)) $
    use1 𝓛 (‵ ((Out X).own_val (Err (record {})) (live 1 (of_list (no ∷ [])) ∷ []))) (err_of 𝓛 (RowOf X) AE.the_row (record {}) no) $
    returns ! (look_at ! 0 refl) $ free_all ! refl $
    suffices ! _ (ends_at 𝓛 (f.ended X) (stayed X) c y (live 1 (of_list (no ∷ []))) (Err (record {})) (tt, (tt, tt)) (tt, (tt, tt))) $ says ! tt $
    nothing ! $ nothing ! $ join ! $ nothing ! $ join ! $ nothing ! $ move ! (5 ∷ 0 ∷ []) $ join ! $ move ! (3 ∷ 0 ∷ []) $ join ! $ keep ! (0 ∷ 1 ∷ 2
    ∷ []) $ done !)))))))))
