-- From what a client shows to what the law of reached nodes wants.
use Rattle.std.proofs.Common.{Bool, arith, not, sym, true, ℕ, ◌||◌, ◌∙◌, ◌≡◌}
use Rattle.std.proofs.lemmas.Bool.Decides.{eqb_tells}
use Rattle.std.proofs.lemmas.Bool.{false_from_ne_true}
use Rattle.ax_laws.specs.Merge.{ReachFits, RootsFit}
use Rattle.ax_tree.specs.SerialRule.{reached_fit, stand_under}
use Rattle.ax_trees.specs.Nodes.{below, root_below}
use Rattle.ax_trees.specs.Trees.{IsDistinct, Trees, bare, has, has_root, tree}
use Rattle.ax_trees.proofs.Trees.{all_roots_at, below_absent, below_child, below_in, by_go, root_below_absent, root_in}

pub roots_fit_from : {X : Type 0} (c : Trees X) (y : ℕ) (w : Trees X) → stand_under c y w ≡ true → RootsFit (has c) w (below c y)
roots_fit_from c y w h = record { stands = λ z t g. grind (arith, all_roots_at (λ x. not (has c x) || has_root (below c y) x) w z h t) }

pub reach_fits_from : {X : Type 0} (c : Trees X) (go : ℕ → Bool) (w k : Trees X) → IsDistinct c → reached_fit c go w ≡ true
    → ((z : ℕ) → has_root w z ≡ true → root_below k z ≡ below c z)
    → ReachFits go (has c) w k
reach_fits_from c go bare k d h same = tt
reach_fits_from c go (tree i e w r) k d h same =
    let at : root_below k i ≡ below c i = same i (grind (arith, eqb_tells i i)) in (
      λ g. let under : stand_under c i w ≡ true = grind (arith, h, g) in
          let fits : RootsFit (has c) w (below c i) = roots_fit_from c i w under in
          rw at (
            fits,
            reach_fits_from c go w (below c i) d (grind (arith, h, g))
                (λ z t. by_go (has c z)
                (λ g'. below_child c i z d (fits.stands z t g'))
                (λ g'. root_below_absent (below c i) z (false_from_ne_true (has_root (below c i) z) (λ q. grind (arith, root_in (below c i) z, below_in c i z))) ∙ sym (below_absent c z g'))),
          ),
      reach_fits_from c go r k d (grind (arith, h)) (λ z t. same z (grind (arith, t))),
    )
