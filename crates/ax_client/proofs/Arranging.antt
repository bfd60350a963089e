-- A node whose children are arranged anew: which ids stay, and that the trees stay distinct. It belongs in ax_tree, beside the update rule; the mirror has the same for drafts.
use Rattle.std.proofs.Common.{ℕ, ◌≡◌, true, false, cond, not, ◌||◌, eqb, List, [], ◌∷◌, None, refl, sym, ap, subst, ◌∙◌, arith}
use Rattle.std.proofs.lemmas.Bool.{eqb-true, false_from_ne_true, false≢true}
use Rattle.std.proofs.lemmas.Bool.Decides.{eqb_tells}
use Rattle.ax_trees.specs.Trees.{Trees, bare, tree, has, has_root, roots, IsDistinct}
use Rattle.ax_trees.specs.Nodes.{Node, below, root_known, root_below}
use Rattle.ax_trees.specs.Changes.{with_node}
use Rattle.ax_trees.specs.Lists.{contains, first_that}
use Rattle.ax_trees.proofs.Trees.{by_go, root_in, below_in, distinct_below}
use Rattle.ax_trees.proofs.Changed.{outside, with_node_from, has_with_node_more, has_with_node_in, has_with_node_cases, distinct_with_node}
use Rattle.ax_tree.specs.UpdateRule.{only, arranged, first_repeated, bad_child}
use Rattle.ax_tree.proofs.Arranged.{arranged_from, only_in, distinct_arranged}
use Rattle.ax_client.specs.Steps.{unlisted}
use Rattle.ax_tree.proofs.Taken.{twice_apart, none_that, not_seen}

module _ {X : Type 0} where
  pub unlisted_in : (k : Trees X) (cs : List ℕ) (z : ℕ) → has (unlisted k cs) z ≡ true → has k z ≡ true
  unlisted_in bare cs z h = h
  unlisted_in (tree i x k r) cs z h = grind (arith, h, unlisted_in r cs z)

  pub unlisted_only : (k : Trees X) (cs : List ℕ) (z : ℕ) → IsDistinct k → has (unlisted k cs) z ≡ true → has (only k cs) z ≡ false
  unlisted_only bare cs z d h = refl
  unlisted_only (tree i x k r) cs z d h =
      grind (arith, h, eqb_tells i z, d.0, d.1, d.2.apart z, unlisted_in r cs z, only_in r cs z, unlisted_only r cs z d.4)

  unlisted_or_only : (k : Trees X) (cs : List ℕ) (z : ℕ) → has k z ≡ true → (has (unlisted k cs) z || has (only k cs) z) ≡ true
  unlisted_or_only bare cs z h = h
  unlisted_or_only (tree i x k r) cs z h = grind (arith, h, unlisted_or_only r cs z)

  -- what stands below an unlisted id is unlisted
  pub unlisted_below : (k : Trees X) (cs : List ℕ) (y z : ℕ) → IsDistinct k → has (unlisted k cs) y ≡ true → has (below k y) z ≡ true → has (unlisted k cs) z ≡ true
  unlisted_below bare cs y z d h b = h
  unlisted_below (tree i x k r) cs y z d h b =
      grind (arith, h, b, eqb_tells i y, d.0, d.1, d.2.apart y, unlisted_in r cs y, below_in k y z, unlisted_below r cs y z d.4)

  pub stays : (w : Trees X) (y z : ℕ) (e : X) → has w z ≡ true → has (below w y) z ≡ false → has (with_node w y e bare) z ≡ true
  stays bare y z e h n = h
  stays (tree i a k r) y z e h n = grind (arith, h, n, stays k y z e, stays r y z e)

  -- what stays is what isn't taken out
  pub kept_is : (w : Trees X) (y : ℕ) (e : X) (cs : List ℕ) (z : ℕ) → IsDistinct w → has w y ≡ true → has w z ≡ true → has (with_node w y e (only (below w y) cs)) z ≡ not (has (unlisted (below w y) cs) z)
  kept_is w y e cs z d h t =
      by_go (has (unlisted (below w y) cs) z)
      (λ q. let under : has (below w y) z ≡ true = unlisted_in (below w y) cs z q in
      let no : has (only (below w y) cs) z ≡ false = unlisted_only (below w y) cs z (distinct_below w y d) q in
      let no' : has (with_node w y e bare) z ≡ false = outside w y e z d h under in
      rw q (false_from_ne_true (has (with_node w y e (only (below w y) cs)) z) (λ g. grind (arith, has_with_node_cases w y e (only (below w y) cs) z g, no, no'))))
      (λ q. rw q (by_go (has (below w y) z)
      (λ b. has_with_node_in w y e (only (below w y) cs) z h (grind (arith, unlisted_or_only (below w y) cs z b, q)))
      (λ b. has_with_node_more w y e (only (below w y) cs) z (stays w y z e t b))))

  pub kept_there : (w : Trees X) (y : ℕ) (e : X) (cs : List ℕ) (z : ℕ) → has (with_node w y e (only (below w y) cs)) z ≡ true → has w z ≡ true
  kept_there w y e cs z h = grind (arith, with_node_from w y e (only (below w y) cs) z h, only_in (below w y) cs z, below_in w y z)

  root_known_only : (f : X) (k : Trees X) (all : List ℕ) (c : ℕ) → contains all c ≡ true → root_known f (only k all) c ≡ root_known f k c
  root_known_only f bare all c h = refl
  root_known_only f (tree i e k r) all c h =
      by_go (contains all i)
      (λ q. rw q (ap (cond (eqb i c) e) (root_known_only f r all c h)))
      (λ q. let no : eqb i c ≡ false = false_from_ne_true (eqb i c) (λ g. let t : contains all i ≡ true = subst (λ j. contains all j ≡ true) (sym (eqb-true i c g)) h in false≢true (sym q ∙ t)) in
      rw (q, no) (root_known_only f r all c h))

  root_below_only : (k : Trees X) (all : List ℕ) (c : ℕ) → contains all c ≡ true → root_below (only k all) c ≡ root_below k c
  root_below_only bare all c h = refl
  root_below_only (tree i e k r) all c h =
      by_go (contains all i)
      (λ q. rw q (ap (cond (eqb i c) k) (root_below_only r all c h)))
      (λ q. let no : eqb i c ≡ false = false_from_ne_true (eqb i c) (λ g. let t : contains all i ≡ true = subst (λ j. contains all j ≡ true) (sym (eqb-true i c g)) h in false≢true (sym q ∙ t)) in
      rw (q, no) (root_below_only r all c h))

  arranged_only : (f : X) (cs all : List ℕ) (k : Trees X) → ((z : ℕ) → contains cs z ≡ true → contains all z ≡ true) → arranged f cs (only k all) ≡ arranged f cs k
  arranged_only f [] all k h = refl
  arranged_only f (c ∷ cs) all k h =
      let c' : contains all c ≡ true = h c (grind (arith, eqb_tells c c)) in
      rw (root_known_only f k all c c', root_below_only k all c c', arranged_only f cs all k (λ z t. h z (grind (arith, t)))) refl

  pub distinct_only : (k : Trees X) (cs : List ℕ) → IsDistinct k → IsDistinct (only k cs)
  distinct_only bare cs d = tt
  distinct_only (tree i e k r) cs d =
      by_go (contains cs i)
      (λ q. rw q (
        d.0,
        false_from_ne_true (has (only r cs) i) (λ g. grind (arith, only_in r cs i g, d.1)),
        record { apart = λ z t. false_from_ne_true (has (only r cs) z) (λ g. grind (arith, only_in r cs z g, d.2.apart z t)) },
        d.3,
        distinct_only r cs d.4,
      ))
      (λ q. rw q (distinct_only r cs d.4))

  pub root_of_only : (k : Trees X) (cs : List ℕ) (z : ℕ) → contains cs z ≡ true → has_root k z ≡ true → has_root (only k cs) z ≡ true
  root_of_only bare cs z c h = h
  root_of_only (tree i e k r) cs z c h =
      by_go (eqb i z)
      (λ q. let c' : contains cs i ≡ true = subst (λ y. contains cs y ≡ true) (sym (eqb-true i z q)) c in grind (arith, q, c'))
      (λ q. grind (arith, h, q, root_of_only r cs z c))

  -- a leaf for each id
  abbrev leaves : X → List ℕ → Trees X
  leaves e [] = bare
  leaves e (c ∷ cs) = tree c e bare (leaves e cs)

  has_leaves : (e : X) (cs : List ℕ) (z : ℕ) → has (leaves e cs) z ≡ contains cs z
  has_leaves e [] z = refl
  has_leaves e (c ∷ cs) z = grind (arith, has_leaves e cs z)

  root_leaves : (e : X) (cs : List ℕ) (z : ℕ) → has_root (leaves e cs) z ≡ contains cs z
  root_leaves e [] z = refl
  root_leaves e (c ∷ cs) z = grind (arith, root_leaves e cs z)

  roots-leaves : (e : X) (cs : List ℕ) → roots (leaves e cs) ≡ cs
  roots-leaves e [] = refl
  roots-leaves e (c ∷ cs) = ap (λ js. c ∷ js) (roots-leaves e cs)

distinct_leaves : {X : Type 0} (e : X) (seen cs : List ℕ) → first_repeated seen cs ≡ None → IsDistinct (leaves e cs)
distinct_leaves e seen [] h = tt
distinct_leaves e seen (c ∷ cs) h =
    let n = not_seen _ _ _ h in (
      refl,
      has_leaves e cs c ∙ twice_apart (c ∷ seen) cs c n.1 (grind (arith, eqb_tells c c)),
      record { apart = λ z t. absurd (false≢true t) },
      tt,
      distinct_leaves e (c ∷ seen) cs n.1,
    )

-- a listed id that is no old child doesn't stay
pub no_bad : {X : Type 0} (w : Trees X) (u : Node X) → first_that (bad_child (λ z. false) w u) u.children ≡ None
    → (z : ℕ) → contains u.children z ≡ true → has_root (below w u.id) z ≡ false → has (with_node w u.id u.known (only (below w u.id) u.children)) z ≡ false
no_bad w u h z c t = let b : bad_child (λ z. false) w u z ≡ false = none_that (bad_child (λ z. false) w u) u.children z h c in rw t at b

-- the trees stay distinct
pub distinct_taken : {X : Type 0} (e : X) (w : Trees X) (u : Node X) → IsDistinct w → has w u.id ≡ true → first_repeated [] u.children ≡ None
    → ((z : ℕ) → contains u.children z ≡ true → has_root (below w u.id) z ≡ false → has (with_node w u.id u.known (only (below w u.id) u.children)) z ≡ false)
    → IsDistinct (with_node w u.id u.known (arranged e u.children (below w u.id)))
distinct_taken {X} e w u d h once good =
    let k : Trees X = below w u.id in
    let kk : Trees X = only (below w u.id) u.children in
    let dp : IsDistinct (arranged e (roots (leaves e u.children)) kk) = distinct_arranged e (leaves e u.children) kk (distinct_leaves e [] u.children once) (distinct_only k u.children (distinct_below w u.id d))
    (λ z t g. let c : contains u.children z ≡ true = sym (root_leaves e u.children z) ∙ t in
    by_go (has_root k z)
    (λ q. root_of_only k u.children z c q)
    (λ q. absurd (false≢true (sym (good z c q) ∙ has_with_node_in w u.id u.known kk z h g)))) in
    let dq : IsDistinct (arranged e u.children k) = subst (λ v. IsDistinct v) (ap (λ js. arranged e js kk) (roots-leaves e u.children) ∙ arranged_only e u.children u.children k (λ z c. c)) dp in
    distinct_with_node w u.id u.known (arranged e u.children k) d h dq
    (λ z g. by_go (has k z)
    (λ q. outside w u.id u.known z d h q)
    (λ q. let c : contains u.children z ≡ true = grind (arith, arranged_from e u.children k z g, q) in
    let t : has_root k z ≡ false = false_from_ne_true (has_root k z) (λ r. false≢true (sym q ∙ root_in k z r)) in
    false_from_ne_true (has (with_node w u.id u.known bare) z) (λ r. false≢true (sym (good z c t) ∙ has_with_node_more w u.id u.known kk z r))))
