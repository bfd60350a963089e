-- What is merged, while an update is applied.
use Rattle.std.proofs.Common.{None, arith, false, refl, sym, true, ℕ, Bool, ◌∙◌, ◌||◌, ◌≡◌}
use Rattle.std.proofs.lemmas.Bool.Decides.{eqb_tells}
use Rattle.ax_laws.specs.Merge.{ReachFits, RootsFit, merged}
use Rattle.ax_tree.specs.UpdateRule.{draft_of}
use Rattle.ax_trees.specs.Nodes.{root_below}
use Rattle.ax_trees.specs.Trees.{Trees, bare, has, tree}
use Rattle.ax_trees.proofs.Trees.{by_go, root_below_in}
use Rattle.ax_tree.proofs.Drafts.{has_root-draft, root_below-draft, root_known-draft}

pub merged_from_either : {X : Type 0} (f : X) (go : ℕ → Bool) (w k : Trees X) (z : ℕ) → has (merged f go w k) z ≡ true → (has w z || has k z) ≡ true
merged_from_either f go bare k z h = grind arith
merged_from_either f go (tree c e w r) k z h = grind (arith, merged_from_either f go w (root_below k c) z, merged_from_either f go r k z, root_below_in k c z)

pub roots_fit-draft : {X : Type 0} (held : ℕ → Bool) (w k : Trees X) → RootsFit held w k → RootsFit held (draft_of w) (draft_of k)
roots_fit-draft held w k fits = record { stands = λ z t h. has_root-draft k z ∙ fits.stands z (sym (has_root-draft w z) ∙ t) h }

pub reach_fits-draft : {X : Type 0} (go held : ℕ → Bool) (w k : Trees X) → ReachFits go held w k → ReachFits go held (draft_of w) (draft_of k)
reach_fits-draft go held bare k b = b
reach_fits-draft go held (tree c e w r) k b = (
  λ g. rw (root_below-draft k c) (roots_fit-draft held w (root_below k c) (b.0 g).0, reach_fits-draft go held w (root_below k c) (b.0 g).1),
  reach_fits-draft go held r k b.1,
)

pub merged-draft : {X : Type 0} (f : X) (go held : ℕ → Bool) (w k : Trees X) → ((z : ℕ) → go z ≡ false → held z ≡ true) → RootsFit held w k → ReachFits go held w k
    → merged None go (draft_of w) (draft_of k) ≡ draft_of (merged f go w k)
merged-draft f go held bare k stay fits deeper = refl
merged-draft f go held (tree c e w r) k stay fits deeper =
    let rest : merged None go (draft_of r) (draft_of k) ≡ draft_of (merged f go r k) =
    merged-draft f go held r k stay (record { stands = λ z t h. fits.stands z (grind (arith, t)) h }) deeper.1 in
    by_go (go c)
    (λ g. rw (g, root_below-draft k c, merged-draft f go held w (root_below k c) stay (deeper.0 g).0 (deeper.0 g).1, rest))
    (λ g. rw (g, root_below-draft k c, rest, root_known-draft f k c (fits.stands c (grind (arith, eqb_tells c c)) (stay c g))))
