-- A worker's seat that has made no entry is at rest.
use Rattle.node_bridge.proofs.Names.{◌≡◌, ℕ, ◌<◌, ◌==◌, Bool, false, cond, List, [], ◌∷◌, ◌++◌, refl, ◌∙◌, ap, arith, nat_tests, entry, entries_of, Kind, ActionHandle, opening, NodeEntry, work_stays, entries-append, job_of_kind, pure_kinds, mask_of_all, images, opening_entries, image, UnusedWorkersRest, creates_actions}
use Rattle.mtapi_machine.specs.declared.ops.Op.TheVariants as op
use Rattle.mtapi_machine.specs.declared.replies.Reply.TheVariants as reply
use Rattle.node_bridge.proofs.Images.{images_own}

apart : (w who : ℕ) → w < who → (who == w) ≡ false
apart w who l = grind (arith, nat_tests)

none_of : (b : Bool) (x : NodeEntry) (l : List NodeEntry) → b ≡ false → l ≡ [] → cond b (x ∷ l) l ≡ []
none_of b x l e1 e2 = grind (arith, nat_tests)

no_creates : (w who : ℕ) (ks : List Kind) (hs : List ActionHandle) → (who == w) ≡ false → entries_of w (creates_actions who ks hs) ≡ []
no_creates w who (k ∷ ks) (h ∷ hs) e =
    none_of (who == w) (entry who (op.ActionCreate (job_of_kind k) k mask_of_all) (reply.Handle h.0)) (entries_of w (creates_actions who ks hs)) e
    (no_creates w who ks hs e)
no_creates w who ks hs e = refl

no_opening : (w who : ℕ) (hs : List ActionHandle) → (who == w) ≡ false → entries_of w (opening_entries who hs) ≡ []
unfolding opening_entries
no_opening w who hs e = none_of (who == w) (entry who op.Initialize reply.Ok) (entries_of w (creates_actions who pure_kinds hs)) e
    (no_creates w who pure_kinds hs e)

pub unused_workers_rest : UnusedWorkersRest
unfolding images
unused_workers_rest s legal own w = record {
  worker = w;
  free = (work_stays (opening s.terms.node) (image s.terms s.seen) s.number legal.image.from others).free refl;
}
  where
    others : entries_of s.number (image s.terms s.seen) ≡ []
    others =
        entries-append s.number (opening_entries s.terms.node.settings.workers s.terms.opened) (images s.terms.opened s.seen)
        ∙ (ap (λ (l : List NodeEntry). l ++ entries_of s.number (images s.terms.opened s.seen))
        (no_opening s.number s.terms.node.settings.workers s.terms.opened (apart s.number s.terms.node.settings.workers w))
        ∙ (images_own s.terms.opened s.number s.seen ∙ ap (λ l. images s.terms.opened l) own))
