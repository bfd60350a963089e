-- Which updates are accepted, and with which result.
use Rattle.std.proofs.Common.{Bool, None, Ok, Option, Some, ap, arith, eqb, false, map, refl, sym, true, ℕ, ◌∙◌, ◌∷◌, ◌≡◌, ◌≤◌}
use Rattle.std.proofs.lemmas.List.{append-nil}
use Rattle.std.proofs.lemmas.Bool.Decides.{eqb_tells}
use Rattle.std.proofs.lemmas.Bool.{false≢true}
use Rattle.std.proofs.Math.Path.{fun_ext}
use Rattle.ax_laws.specs.Merge.{ReachFits, RootsFit, merged}
use Rattle.ax_tree.specs.UpdateRule.{and_then, nodes_taken}
use Rattle.ax_tree.specs.SerialRule.{all_of, listed}
use Rattle.ax_tree.specs.UpdateRule.{draft_node, draft_of, finished, missing, started, trees_after}
use Rattle.ax_trees.specs.Changes.{with_node}
use Rattle.ax_trees.specs.Nodes.{below}
use Rattle.ax_trees.specs.Trees.{IsDistinct, Trees, bare, has, height, is_root, roots, tree}
use Rattle.ax_tree.proofs.Drafts.{below-draft, distinct-draft, has-draft, is_root-draft, listed-draft, passes, roots-draft, with_node-draft}
use Rattle.ax_laws.proofs.MergedDrafts.{merged-draft, reach_fits-draft, roots_fit-draft}
use Rattle.ax_laws.proofs.LawOfReach.{law_reach}
use Rattle.ax_laws.proofs.Merged.{merged_all, reach_fits_none, roots_fit_none}
use Rattle.ax_trees.proofs.Changed.{distinct_with_node, has-with_node_known, has_with_node, with_node-with_node}

-- the law among trees with pending nodes
pub lifted_law : {X : Type 0} (go : ℕ → Bool) (t : Trees (Option X)) (x : ℕ) (d : X) (w : Trees X) → IsDistinct t → IsDistinct w → has t x ≡ true
    → RootsFit (has t) (draft_of w) (below t x) → ReachFits go (has t) (draft_of w) (below t x)
    → nodes_taken None (λ z. false) t (map draft_node (record { id = x; known = d; children = roots w } ∷ listed go w)) ≡ Ok (with_node t x (Some d) (merged None go (draft_of w) (below t x)))
lifted_law go t x d w dt dw h fits deeper =
    rw (listed-draft go w, ← (roots-draft w)) (law_reach None go t x (Some d) (draft_of w) dt (distinct-draft w dw) h fits deeper)

pub accept_plain : {X : Type 0} (b : X) (go : ℕ → Bool) (t : Trees X) (x : ℕ) (d : X) (w : Trees X) → IsDistinct t → IsDistinct w → has t x ≡ true
    → RootsFit (has t) w (below t x) → ReachFits go (has t) w (below t x)
    → ((z : ℕ) → go z ≡ false → has t z ≡ true)
    → height (with_node t x d (merged d go w (below t x))) ≤ 256
    → trees_after b (record { clear = None; root = None; nodes = record { id = x; known = d; children = roots w } ∷ listed go w }) t ≡ Ok (with_node t x d (merged d go w (below t x)))
accept_plain b go t x d w dt dw h fits deeper stay low =
    let same : has (draft_of t) ≡ has t = fun_ext (has-draft t) in
    let fits' : RootsFit (has (draft_of t)) (draft_of w) (below (draft_of t) x) = rw (same, below-draft t x) (roots_fit-draft (has t) w (below t x) fits) in
    let below' : ReachFits go (has (draft_of t)) (draft_of w) (below (draft_of t) x) = rw (same, below-draft t x) (reach_fits-draft go (has t) w (below t x) deeper) in
    let ran : nodes_taken None (λ z. false) (draft_of t) (map draft_node (record { id = x; known = d; children = roots w } ∷ listed go w)) ≡ Ok (draft_of (with_node t x d (merged d go w (below t x)))) =
    lifted_law go (draft_of t) x d w (distinct-draft t dt) dw (has-draft t x ∙ h) fits' below'
    ∙ rw (below-draft t x, merged-draft d go (has t) w (below t x) stay fits deeper, with_node-draft t x d (merged d go w (below t x))) in
    ap (λ o. and_then o (finished b)) ran ∙ passes b (with_node t x d (merged d go w (below t x))) low

pub accept_cleared : {X : Type 0} (b : X) (t : Trees X) (x : ℕ) (d : X) (w : Trees X) → IsDistinct t → IsDistinct w → has t x ≡ true
    → ((z : ℕ) → has w z ≡ true → has (with_node t x d bare) z ≡ false)
    → height (with_node t x d w) ≤ 256
    → trees_after b (record { clear = Some x; root = None; nodes = record { id = x; known = d; children = roots w } ∷ listed (λ _. true) w }) t ≡ Ok (with_node t x d w)
accept_cleared {X} b t x d w dt dw h apart low =
    let h' : has (draft_of t) x ≡ true = has-draft t x ∙ h in
    let t₀ : Trees (Option X) = with_node (draft_of t) x None bare in
    let apart' : (z : ℕ) → has (draft_of w) z ≡ true → has (with_node (draft_of t) x None bare) z ≡ false =
    λ z g. has-with_node_known (draft_of t) x None (Some d) bare z ∙ (ap (λ v. has v z) (with_node-draft t x d bare) ∙ (has-draft (with_node t x d bare) z ∙ apart z (sym (has-draft w z) ∙ g))) in
    let dt₀ : IsDistinct (with_node (draft_of t) x None bare) = distinct_with_node (draft_of t) x None bare (distinct-draft t dt) h' tt (λ z g. absurd (false≢true g)) in
    let ran : nodes_taken None (λ z. false) (with_node (draft_of t) x None bare) (map draft_node (record { id = x; known = d; children = roots w } ∷ listed (λ _. true) w)) ≡ Ok (draft_of (with_node t x d w)) =
    lifted_law (λ _. true) (with_node (draft_of t) x None bare) x d w dt₀ dw (has_with_node (draft_of t) x None bare h')
    (roots_fit_none (has (with_node (draft_of t) x None bare)) (draft_of w) (below (with_node (draft_of t) x None bare) x) apart')
    (reach_fits_none (λ _. true) (has (with_node (draft_of t) x None bare)) (draft_of w) (below (with_node (draft_of t) x None bare) x) apart')
    ∙ rw (merged_all None (draft_of w) (below (with_node (draft_of t) x None bare) x), with_node-with_node (draft_of t) x None bare (Some d) (draft_of w) h', with_node-draft t x d w) in
    rw h (ap (λ o. and_then o (finished b)) ran ∙ passes b (with_node t x d w) low)

pub accept_rooted : {X : Type 0} (b : X) (t : Trees X) (c : Option ℕ) (r : ℕ) (d : X) (w : Trees X) → is_root t r ≡ false → missing t c ≡ None → IsDistinct (tree r d w bare)
    → height (tree r d w bare) ≤ 256
    → trees_after b (record { clear = c; root = Some r; nodes = all_of (tree r d w bare) }) t ≡ Ok (tree r d w bare)
accept_rooted {X} b t c r d w other there dw low =
    let t₀ : Trees (Option X) = tree r None bare bare in
    let self : eqb r r ≡ true = grind (arith, eqb_tells r r) in
    let begins : started (Some r) c (draft_of t) ≡ t₀ = rw (is_root-draft t r, other) in
    let apart : (z : ℕ) → has (draft_of w) z ≡ true → has t₀ z ≡ false =
    λ z g. grind (arith, eqb_tells r z, dw.0, has-draft w z) in
    let ran : nodes_taken None (λ z. false) t₀ (map draft_node (record { id = r; known = d; children = roots w } ∷ listed (λ _. true) w)) ≡ Ok (draft_of (tree r d w bare)) =
    lifted_law (λ _. true) t₀ r d w (refl, refl, record { apart = λ z g. absurd (false≢true g) }, tt, tt) dw.3 (grind (arith, self))
    (roots_fit_none (has t₀) (draft_of w) (below t₀ r) apart)
    (reach_fits_none (λ _. true) (has t₀) (draft_of w) (below t₀ r) apart)
    ∙ rw (merged_all None (draft_of w) (below t₀ r), self) in
    rw (there, append-nil (listed (λ _. true) w), begins) (ap (λ o. and_then o (finished b)) ran ∙ passes b (tree r d w bare) low)
