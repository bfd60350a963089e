-- What a whole update comes to.
use Rattle.std.proofs.Common.{◌≡◌, ℕ, ◌+◌, ◌≤◌, ◌<◌, false, cond, Option, Some, None, Ok, Err, refl, sym, ap, subst, ◌∙◌, arith}
use Rattle.std.specs.Prelude.{option_map, is_some}
use Rattle.std.specs.FinMap as fin
use Rattle.ax_node.specs.Look.{Look, blank_look}
use Rattle.ax_trees.specs.Trees.{Trees, bare, tree, has, height}
use Rattle.ax_trees.specs.Nodes.{node_at}
use Rattle.ax_trees.proofs.Times.{has-node}
use Rattle.ax_tree.specs.declared.update.Refusal.{Refusal}
use Rattle.ax_tree.specs.declared.update.Refusal.TheVariants.{BadClear}
use Rattle.ax_tree.specs.declared.update.TreeUpdate.{TreeUpdate}
use Rattle.ax_tree.specs.UpdateRule.{least, least_pending, completed, finished, draft_of, started, missing}
use Rattle.ax_tree.proofs.Drafts.{has-draft, height-draft}
use Rattle.ax_mirror.specs.declared.entries.Entry.{Entry}
use Rattle.ax_mirror.specs.declared.draft.Draft.{Draft}
use Rattle.ax_mirror.specs.Placed.{Nodes, place, told_node, told_place}
use Rattle.ax_mirror.specs.Kept.{KeepsDraft, HoldsTree}
use Rattle.ax_mirror.specs.Steps.{Makes, Unmade, Settled, IsSettled, MakesDraft, GivesTrees, all_taken, updated}
use Rattle.ax_mirror.specs.Begins.{missing_in}
use Rattle.ax_mirror.specs.Finishes.{Finished}
use Rattle.ax_mirror.proofs.Looks.{is_some-map}
use Rattle.ax_mirror.proofs.Hangs.{reached}
use Rattle.ax_mirror.proofs.Together.{is_there}
use Rattle.ax_mirror.proofs.Finishes.{lacks, entry_lacks}

module _ {X : Type 0} where
  pub height-completed : (b : X) (w : Trees (Option X)) → height (completed b w) ≡ height w
  height-completed b bare = refl
  height-completed b (tree i o k r) = grind (arith, height-completed b k, height-completed b r)

none_of : (o p : Option ℕ) → least o p ≡ None → (o ≡ None) × (p ≡ None)
none_of None p h = (refl, h)
none_of (Some y) None h = absurd (cc)
none_of (Some y) (Some z) h = absurd (cc)

module _ {X : Type 0} where
  pub draft-completed : (b : X) (w : Trees (Option X)) → least_pending w ≡ None → draft_of (completed b w) ≡ w
  draft-completed b bare h = refl
  draft-completed b (tree i None k r) h = absurd (let n : Some i ≡ None = (none_of (Some i) (least (least_pending k) (least_pending r)) h).0 in cc)
  draft-completed b (tree i (Some x) k r) h =
      let n : (least_pending k ≡ None) × (least_pending r ≡ None) = none_of (least_pending k) (least_pending r) h in
      let a : draft_of (completed b k) ≡ k = draft-completed b k n.0 in
      let c : draft_of (completed b r) ≡ r = draft-completed b r n.1 in
      rw (a, c) refl

  never_lacks : (f : Trees X) (z : ℕ) → lacks (node_at (draft_of f) z) ≡ false
  never_lacks bare z = refl
  never_lacks (tree i x k r) z = grind (arith, never_lacks k z, never_lacks r z)

settle : (o p : Option Entry) → Unmade o p → IsSettled o → IsSettled p
settle o None u s = tt
settle None (Some e) u s = absurd u
settle (Some d) (Some e) u s = (u.1 s.0, subst (λ l. l ≤ 256) (sym u.0) s.1)

-- what holds trees is settled
pub all_settled : (m : Nodes) (root : Option ℕ) (f : Trees Look) → HoldsTree m root f → (z : ℕ) (o : Option Entry) → fin.get m z ≡ o → IsSettled o
all_settled m root f h z None g = tt
all_settled m root f h z (Some x) g =
    let w : Trees (Option Look) = draft_of f in
    let p : x.pending ≡ false = entry_lacks (Some x) ∙ ap lacks (ap (option_map told_node) (sym g)) ∙ ap lacks (h.keeps.stands.at z) ∙ never_lacks f z in
    let l : x.level < height (draft_of f) + 1 = reached (place m) None 1 w z x.above x.level h.keeps.hung (is_there m z x w (sym g) h.keeps.stands) (ap (option_map told_place) g) in
    let s : height (draft_of f) ≡ height f = height-draft f in
    let q : height f ≤ 256 = h.low in
    (p, omega arith)

pub settled_of : (d e : Draft) (f : Trees Look) → HoldsTree d.nodes d.root f → Makes d e → Settled e.nodes e.made
settled_of d e f h k = λ z c. settle (fin.get d.nodes z) (fin.get e.nodes z) (k.unmade z c) (all_settled d.nodes d.root f h z (fin.get d.nodes z) refl)

pub missing_same : (m : Nodes) (root : Option ℕ) (f : Trees Look) (o : Option ℕ) → HoldsTree m root f → missing_in m o ≡ missing f o
missing_same m root f None h = refl
missing_same m root f (Some z) h =
    let s : is_some (fin.get m z) ≡ has f z = sym (is_some-map told_node (fin.get m z)) ∙ ap is_some (h.keeps.stands.at z) ∙ sym (has-node (draft_of f) z) ∙ has-draft f z in
    ap (λ b. cond b None (Some z)) s

pub refused_clear : (u : TreeUpdate) (f : Trees Look) (z : ℕ) → missing f u.clear ≡ Some z → updated u f ≡ Err (BadClear z)
refused_clear u f z m = rw m refl

pub refused_node : (u : TreeUpdate) (f : Trees Look) (r : Refusal) → missing f u.clear ≡ None → all_taken (started u.root u.clear (draft_of f)) u.nodes ≡ Err r → updated u f ≡ Err r
refused_node u f r m a = rw (m, a) refl

pub refused_end : (u : TreeUpdate) (f : Trees Look) (v : Trees (Option Look)) (r : Refusal) → missing f u.clear ≡ None → all_taken (started u.root u.clear (draft_of f)) u.nodes ≡ Ok v → finished blank_look v ≡ Err r → updated u f ≡ Err r
refused_end u f v r m a e = rw (m, a, e) refl

pub gives_trees : (u : TreeUpdate) (f : Trees Look) (e : Draft) → missing f u.clear ≡ None → MakesDraft e (all_taken (started u.root u.clear (draft_of f)) u.nodes) → Finished e.nodes e.made → Settled e.nodes e.made → GivesTrees e (updated u f)
gives_trees u f e m g fin s =
    let v : Trees (Option Look) = g.next in
    let a : all_taken (started u.root u.clear (draft_of f)) u.nodes ≡ Ok v = g.is in
    let t : (least_pending v ≡ None) × (height v ≤ 256) × (finished blank_look v ≡ Ok (completed blank_look v)) = fin e.root v g.keeps s in
    let t2 : finished blank_look v ≡ Ok (completed blank_look v) = t.2 in
    let h : height (completed blank_look v) ≡ height v = height-completed blank_look v in
    let l : height v ≤ 256 = t.1 in
    record {
      next = completed blank_look v;
      is = rw (m, a) t2;
      holds = record {
        keeps = subst (λ (w : Trees (Option Look)). KeepsDraft e.nodes e.root w) (sym (draft-completed blank_look v t.0)) g.keeps;
        low = omega arith;
      };
    }
