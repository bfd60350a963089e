-- The law of reached nodes: they are accepted, and they make the merge.
use Rattle.std.proofs.Common.{Bool, List, Ok, ap, arith, eqb, false, refl, sym, true, ℕ, ◌||◌, ◌∙◌, ◌∷◌, ◌≡◌}
use Rattle.std.proofs.lemmas.Bool.{false_from_ne_true, false≢true}
use Rattle.std.proofs.Math.Path.{fun_ext}
use Rattle.ax_laws.specs.Merge.{ReachFits, RootsFit, merged}
use Rattle.ax_tree.specs.InStep.{lists}
use Rattle.ax_tree.specs.UpdateRule.{arranged, node_taken, nodes_taken, only}
use Rattle.ax_tree.specs.SerialRule.{listed}
use Rattle.ax_trees.specs.Changes.{with_node}
use Rattle.ax_trees.specs.Nodes.{Node, below}
use Rattle.ax_trees.specs.Trees.{IsDistinct, Trees, bare, has, roots, tree}
use Rattle.ax_tree.proofs.Arranged.{arranged_from, distinct_arranged, only_in}
use Rattle.ax_laws.proofs.Parts.{nodes_left, nodes_right, over}
use Rattle.ax_laws.proofs.Siblings.{first_taken, law_siblings, located}
use Rattle.ax_trees.proofs.Changed.{outside, with_node_from, with_node_here, with_node_in, with_node_past}
use Rattle.ax_trees.proofs.Lists.{swap_left, swap_right}
use Rattle.ax_trees.proofs.Trees.{below_in, by_go, contains_roots, distinct_below, root_in}

pub nodes_ext : {X : Type 0} (f : X) (p q : ℕ → Bool) (w : Trees X) (us : List (Node X)) → ((z : ℕ) → p z ≡ q z) → nodes_taken f p w us ≡ nodes_taken f q w us
nodes_ext f p q w us h = ap (λ o. nodes_taken f o w us) (fun_ext h)

-- what is done to the children of x alone is done to the tree
pub nodes_at : {X : Type 0} (f : X) (out : ℕ → Bool) (t : Trees X) (x : ℕ) (e : X) (j : Trees X) (us : List (Node X)) (j' : Trees X) → has t x ≡ true
    → ((z : ℕ) → lists us z ≡ true → has (with_node t x e bare) z ≡ false)
    → nodes_taken f (λ z. out z || has (with_node t x e bare) z) j us ≡ Ok j'
    → nodes_taken f out (with_node t x e j) us ≡ Ok (with_node t x e j')
nodes_at f out bare x e j us j' h n g = absurd (false≢true h)
nodes_at {X} f out (tree i a k r) x e j us j' h n g =
    by_go (eqb i x)
    (λ q. rw (with_node_here i a k r x e j q, with_node_here i a k r x e j' q)
    (nodes_left f out i e j r us j' (λ z l. grind (arith, n z l)) (rw (with_node_here i a k r x e bare q) at g)))
    (λ q. by_go (has k x)
    (λ q'. rw (with_node_in i a k r x e j q q', with_node_in i a k r x e j' q q')
    (nodes_left f out i a (with_node k x e j) r us (with_node k x e j') (λ z l. grind (arith, n z l))
    (nodes_at f (λ z. out z || (eqb i z || has r z)) k x e j us j' q' (λ z l. grind (arith, n z l))
    (nodes_ext f (λ z. (out z || (eqb i z || has r z)) || has (with_node k x e bare) z) (λ z. out z || (eqb i z || (has (with_node k x e bare) z || has r z))) j us
    (λ z. swap_left (out z) (eqb i z) (has (with_node k x e bare) z) (has r z))
    ∙ (rw (with_node_in i a k r x e bare q q') at g)))))
    (λ q'. rw (with_node_past i a k r x e j q q', with_node_past i a k r x e j' q q')
    (nodes_right f out i a k (with_node r x e j) us (λ z l. (grind (arith, n z l), grind (arith, n z l)))
    ∙ ap (over (tree i a k))
    (nodes_at f (λ z. out z || (eqb i z || has k z)) r x e j us j' (grind (arith, h)) (λ z l. grind (arith, n z l))
    (nodes_ext f (λ z. (out z || (eqb i z || has k z)) || has (with_node r x e bare) z) (λ z. out z || (eqb i z || (has k z || has (with_node r x e bare) z))) j us
    (λ z. swap_right (out z) (eqb i z) (has k z) (has (with_node r x e bare) z))
    ∙ (rw (with_node_past i a k r x e bare q q') at g))))))

-- The law: x and what is reached below it are listed.
pub law_reach : {X : Type 0} (f : X) (go : ℕ → Bool) (t : Trees X) (x : ℕ) (d : X) (w : Trees X)
    → IsDistinct t → IsDistinct w → has t x ≡ true
    → RootsFit (has t) w (below t x) → ReachFits go (has t) w (below t x)
    → nodes_taken f (λ z. false) t (record { id = x; known = d; children = roots w } ∷ listed go w) ≡ Ok (with_node t x d (merged f go w (below t x)))
law_reach f go t x d w dt dw h fits deeper =
    let dk : IsDistinct (below t x) = distinct_below t x dt in
    let dp : IsDistinct (arranged f (roots w) (below t x)) = distinct_arranged f w (below t x) dw dk (λ z u g. fits.stands z u (below_in t x z g)) in
    let out_held : (z : ℕ) → has (with_node t x d bare) z ≡ true → has t z ≡ true = λ z g. grind (arith, with_node_from t x d bare z) in
    let first : node_taken f (λ z. false) t (record { id = x; known = d; children = roots w }) ≡ Ok (with_node t x d (arranged f (roots w) (below t x))) =
    first_taken f (has t) (λ z. false) t x d w dw h
    (λ z u n. (
      refl,
      let not_held : has t z ≡ false = false_from_ne_true (has t z) (λ g. absurd (false≢true (sym n ∙ fits.stands z u g))) in
          false_from_ne_true (has (with_node t x d (only (below t x) (roots w))) z) (λ g. grind (arith, with_node_from t x d (only (below t x) (roots w)) z, only_in (below t x) (roots w) z, below_in t x z)),
    )) in
    let depth : nodes_taken f (λ z. false || has (with_node t x d bare) z) (arranged f (roots w) (below t x)) (listed go w) ≡ Ok (merged f go w (below t x)) =
    law_siblings f go (has t) (has (with_node t x d bare)) w (below t x) dw dp (λ z g. below_in t x z g) (λ z _ g. out_held z g) fits deeper in
    let apart : (z : ℕ) → lists (listed go w) z ≡ true → has (with_node t x d bare) z ≡ false =
    λ z l. false_from_ne_true (has (with_node t x d bare) z) (λ g.
    let p : has (arranged f (roots w) (below t x)) z ≡ true = located f go (has t) w (below t x) z fits deeper (out_held z g) l in
    grind (arith, outside t x d z dt h, out_held z g, arranged_from f (roots w) (below t x) z, contains_roots w z, fits.stands z, root_in (below t x) z)) in
    rw first (nodes_at f (λ z. false) t x d (arranged f (roots w) (below t x)) (listed go w) (merged f go w (below t x)) h apart depth)
