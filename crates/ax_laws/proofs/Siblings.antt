-- The law of reached nodes, for the children of a listed node.
use Rattle.std.proofs.Common.{Bool, None, Ok, [], arith, eqb, false, refl, sym, true, ℕ, ◌||◌, ◌∙◌, ◌≡◌}
use Rattle.std.proofs.lemmas.Bool.Decides.{eqb_tells}
use Rattle.std.proofs.lemmas.Bool.{false_from_ne_true, false≢true}
use Rattle.ax_laws.specs.Merge.{ReachFits, RootsFit, merged}
use Rattle.ax_tree.specs.InStep.{lists}
use Rattle.ax_tree.specs.UpdateRule.{arranged, bad_child, first_repeated, node_taken, nodes_taken, only}
use Rattle.ax_tree.specs.SerialRule.{listed}
use Rattle.ax_trees.specs.Changes.{with_node}
use Rattle.ax_trees.specs.Lists.{first_that}
use Rattle.ax_trees.specs.Nodes.{below, root_below, root_known}
use Rattle.ax_trees.specs.Trees.{IsDistinct, Trees, bare, has, has_root, roots, tree}
use Rattle.ax_tree.proofs.Arranged.{arranged_from, distinct_arranged, first_repeated_none, only_in}
use Rattle.ax_laws.proofs.MergedDrafts.{merged_from_either}
use Rattle.ax_laws.proofs.Listed.{listed_has, lists-append}
use Rattle.ax_laws.proofs.Parts.{nodes_left, nodes_right, nodes_taken-append}
use Rattle.ax_trees.proofs.Changed.{with_node_self}
use Rattle.ax_trees.proofs.Trees.{below_self, by_go, contains_roots, first_that_none, root_below_in, root_in}

-- a listed node that is held stands in the picked trees
pub located : {X : Type 0} (f : X) (go held : ℕ → Bool) (w k : Trees X) (z : ℕ) → RootsFit held w k → ReachFits go held w k
    → held z ≡ true → lists (listed go w) z ≡ true → has (arranged f (roots w) k) z ≡ true
located f go held bare k z fits deeper h l = l
located f go held (tree c e w r) k z fits deeper h l =
    let rest : RootsFit held r k = record { stands = λ y t g. fits.stands y (grind (arith, t)) g } in
    let right : lists (listed go r) z ≡ true → has (arranged f (roots r) k) z ≡ true = located f go held r k z rest deeper.1 h in
    let left : go c ≡ true → lists (listed go w) z ≡ true → has (arranged f (roots w) (root_below k c)) z ≡ true =
    λ g. located f go held w (root_below k c) z (deeper.0 g).0 (deeper.0 g).1 h in
    let stands : go c ≡ true → has_root w z ≡ true → has_root (root_below k c) z ≡ true = λ g t. (deeper.0 g).0.stands z t h in
    grind (arith, lists-append (listed go w) (listed go r) z, arranged_from f (roots w) (root_below k c) z, contains_roots w z, root_in (root_below k c) z)

-- the first of the reached nodes
pub first_taken : {X : Type 0} (f : X) (held out : ℕ → Bool) (t : Trees X) (x : ℕ) (d : X) (w : Trees X) → IsDistinct w → has t x ≡ true
    → ((z : ℕ) → has_root w z ≡ true → has_root (below t x) z ≡ false → (out z ≡ false) × (has (with_node t x d (only (below t x) (roots w))) z ≡ false))
    → node_taken f out t (record { id = x; known = d; children = roots w }) ≡ Ok (with_node t x d (arranged f (roots w) (below t x)))
first_taken f held out t x d w dw h free =
    let twice : first_repeated [] (roots w) ≡ None = first_repeated_none w [] dw (λ z _. refl) in
    let good : first_that (bad_child out t (record { id = x; known = d; children = roots w })) (roots w) ≡ None =
    first_that_none (bad_child out t (record { id = x; known = d; children = roots w })) w (λ z g. grind (arith, free z g)) in
    rw (h, twice, good)

-- the root of the first tree is listed
pub taken_root : {X : Type 0} (f : X) (held out : ℕ → Bool) (c : ℕ) (l e : X) (w k rest : Trees X) → IsDistinct w → has w c ≡ false → RootsFit held w k
    → ((z : ℕ) → has k z ≡ true → held z ≡ true)
    → ((z : ℕ) → has w z ≡ true → out z ≡ true → held z ≡ true)
    → ((z : ℕ) → has w z ≡ true → has rest z ≡ true → held z ≡ true)
    → node_taken f out (tree c l k rest) (record { id = c; known = e; children = roots w }) ≡ Ok (tree c e (arranged f (roots w) k) rest)
taken_root {X} f held out c l e w k rest dw nc fits hk ho hr =
    let h : has (tree c l k rest) c ≡ true = grind (arith, eqb_tells c c) in
    first_taken f held out (tree c l k rest) c e w dw h
    (rw (below_self c l k rest, with_node_self c l e k rest (only k (roots w)))
    (λ z t n. let w' : has w z ≡ true = root_in w z t in
    let not_held : held z ≡ false = false_from_ne_true (held z) (λ g. absurd (false≢true (sym n ∙ fits.stands z t g))) in
    grind (arith, eqb_tells c z, hk z, ho z, hr z, only_in k (roots w) z)))
    ∙ rw (below_self c l k rest, with_node_self c l e k rest (arranged f (roots w) k))

-- what the siblings after c find outside themselves
pub right_held : {X : Type 0} (held out : ℕ → Bool) (c : ℕ) (e : X) (w r k j : Trees X) → IsDistinct (tree c e w r)
    → ((z : ℕ) → has k z ≡ true → held z ≡ true)
    → ((z : ℕ) → has (tree c e w r) z ≡ true → out z ≡ true → held z ≡ true)
    → ((z : ℕ) → has j z ≡ true → (has w z || has (root_below k c) z) ≡ true)
    → (z : ℕ) → has r z ≡ true → (out z || (eqb c z || has j z)) ≡ true → held z ≡ true
right_held held out c e w r k j d hk ho hj z h o =
    grind (arith, eqb_tells c z, hk z, ho z, hj z, d.2.apart z, d.1, root_below_in k c z)

-- none of the later siblings' listed nodes stands at c
pub right_apart : {X : Type 0} (f : X) (go held : ℕ → Bool) (c : ℕ) (e : X) (w r k j : Trees X) → IsDistinct (tree c e w r) → IsDistinct (arranged f (roots (tree c e w r)) k)
    → ((z : ℕ) → has k z ≡ true → held z ≡ true)
    → RootsFit held r k → ReachFits go held r k
    → ((z : ℕ) → has j z ≡ true → (has w z || has (root_below k c) z) ≡ true)
    → (z : ℕ) → lists (listed go r) z ≡ true → (eqb c z ≡ false) × (has j z ≡ false)
right_apart f go held c e w r k j d dp hk fits deeper hj z l =
    let h : has r z ≡ true = listed_has go r z l in
    let at : held z ≡ true → has (arranged f (roots r) k) z ≡ true = λ g. located f go held r k z fits deeper g l in (
      grind (arith, eqb_tells c z, d.1),
      false_from_ne_true (has j z) (λ g. grind (arith, hj z g, hk z, d.2.apart z, dp.2.apart z, root_below_in k c z)),
    )

pub siblings_skipped : {X : Type 0} (f : X) (go out : ℕ → Bool) (c : ℕ) (e : X) (w r k : Trees X) → go c ≡ false
    → ((z : ℕ) → lists (listed go r) z ≡ true → (eqb c z ≡ false) × (has (root_below k c) z ≡ false))
    → nodes_taken f (λ z. out z || (eqb c z || has (root_below k c) z)) (arranged f (roots r) k) (listed go r) ≡ Ok (merged f go r k)
    → nodes_taken f out (arranged f (roots (tree c e w r)) k) (listed go (tree c e w r)) ≡ Ok (merged f go (tree c e w r) k)
siblings_skipped f go out c e w r k g apart ih =
    rw (g, nodes_right f out c (root_known f k c) (root_below k c) (arranged f (roots r) k) (listed go r) apart, ih)

pub siblings_taken : {X : Type 0} (f : X) (go out : ℕ → Bool) (c : ℕ) (e : X) (w r k : Trees X) → go c ≡ true
    → node_taken f out (arranged f (roots (tree c e w r)) k) (record { id = c; known = e; children = roots w }) ≡ Ok (tree c e (arranged f (roots w) (root_below k c)) (arranged f (roots r) k))
    → ((z : ℕ) → lists (listed go w) z ≡ true → eqb c z ≡ false)
    → nodes_taken f (λ z. out z || (eqb c z || has (arranged f (roots r) k) z)) (arranged f (roots w) (root_below k c)) (listed go w) ≡ Ok (merged f go w (root_below k c))
    → ((z : ℕ) → lists (listed go r) z ≡ true → (eqb c z ≡ false) × (has (merged f go w (root_below k c)) z ≡ false))
    → nodes_taken f (λ z. out z || (eqb c z || has (merged f go w (root_below k c)) z)) (arranged f (roots r) k) (listed go r) ≡ Ok (merged f go r k)
    → nodes_taken f out (arranged f (roots (tree c e w r)) k) (listed go (tree c e w r)) ≡ Ok (merged f go (tree c e w r) k)
siblings_taken f go out c e w r k g first apart_w ih_w apart_r ih_r =
    rw (
      g,
      first,
      nodes_taken-append f out (tree c e (arranged f (roots w) (root_below k c)) (arranged f (roots r) k)) (listed go w) (listed go r),
      nodes_left f out c e (arranged f (roots w) (root_below k c)) (arranged f (roots r) k) (listed go w) (merged f go w (root_below k c)) apart_w ih_w,
      nodes_right f out c e (merged f go w (root_below k c)) (arranged f (roots r) k) (listed go r) apart_r,
      ih_r,
    )

-- the law of the reached nodes, for a list of siblings whose parent has been listed
pub law_siblings : {X : Type 0} (f : X) (go held out : ℕ → Bool) (w k : Trees X) → IsDistinct w → IsDistinct (arranged f (roots w) k)
    → ((z : ℕ) → has k z ≡ true → held z ≡ true)
    → ((z : ℕ) → has w z ≡ true → out z ≡ true → held z ≡ true)
    → RootsFit held w k → ReachFits go held w k
    → nodes_taken f out (arranged f (roots w) k) (listed go w) ≡ Ok (merged f go w k)
law_siblings f go held out bare k dw dp hk ho fits deeper = refl
law_siblings {X} f go held out (tree c e w r) k dw dp hk ho fits deeper =
    let rest : RootsFit held r k = record { stands = λ y t g. fits.stands y (grind (arith, t)) g } in
    let ih_r : (j : Trees X) → ((z : ℕ) → has j z ≡ true → (has w z || has (root_below k c) z) ≡ true)
    → nodes_taken f (λ z. out z || (eqb c z || has j z)) (arranged f (roots r) k) (listed go r) ≡ Ok (merged f go r k) =
    λ j hj. law_siblings f go held (λ z. out z || (eqb c z || has j z)) r k dw.4 dp.4 hk (right_held held out c e w r k j dw hk ho hj) rest deeper.1 in
    let apart : (j : Trees X) → ((z : ℕ) → has j z ≡ true → (has w z || has (root_below k c) z) ≡ true)
    → (z : ℕ) → lists (listed go r) z ≡ true → (eqb c z ≡ false) × (has j z ≡ false) =
    λ j hj. right_apart f go held c e w r k j dw dp hk rest deeper.1 hj in
    let hkk : (z : ℕ) → has (root_below k c) z ≡ true → held z ≡ true = λ z h. hk z (root_below_in k c z h) in
    by_go (go c)
    (λ g. siblings_taken f go out c e w r k g
    (taken_root f held out c (root_known f k c) e w (root_below k c) (arranged f (roots r) k) dw.3 dw.0 (deeper.0 g).0 hkk
    (λ z h o. ho z (grind (arith, h)) o)
    (λ z h o. grind (arith, arranged_from f (roots r) k z, contains_roots r z, root_in r z, hk z, dw.2.apart z)))
    (λ z l. grind (arith, eqb_tells c z, listed_has go w z, dw.0))
    (law_siblings f go held (λ z. out z || (eqb c z || has (arranged f (roots r) k) z)) w (root_below k c) dw.3
    (distinct_arranged f w (root_below k c) dw.3 dp.3 (λ z t h. (deeper.0 g).0.stands z t (hkk z h)))
    hkk
    (λ z h o. grind (arith, eqb_tells c z, dw.0, ho z, arranged_from f (roots r) k z, contains_roots r z, root_in r z, hk z, dw.2.apart z))
    (deeper.0 g).0 (deeper.0 g).1)
    (apart (merged f go w (root_below k c)) (merged_from_either f go w (root_below k c)))
    (ih_r (merged f go w (root_below k c)) (merged_from_either f go w (root_below k c))))
    (λ g. siblings_skipped f go out c e w r k g (apart (root_below k c) (λ z h. grind (arith, h))) (ih_r (root_below k c) (λ z h. grind (arith, h))))
