-- One node's data: the listed children stand once each, and no id stands twice afterwards.
use Rattle.std.proofs.Common.{ℕ, ◌≡◌, Bool, true, false, cond, eqb, List, [], ◌∷◌, ◌||◌, refl, sym, ap, ◌∙◌, subst, arith, Option, None, Some}
use Rattle.std.proofs.lemmas.Bool.Decides.{eqb_tells}
use Rattle.std.proofs.lemmas.Bool.{false_from_ne_true, false≢true, eqb-true}
use Rattle.ax_trees.specs.Trees.{Trees, bare, tree, has, has_root, roots, IsDistinct}
use Rattle.ax_trees.specs.Nodes.{Node, below, root_known, root_below}
use Rattle.ax_trees.specs.Changes.{with_node}
use Rattle.ax_trees.specs.Lists.{contains, first_that}
use Rattle.ax_tree.specs.UpdateRule.{first_repeated, only, arranged}
use Rattle.ax_trees.proofs.Trees.{by_go, root_in, distinct_below}
use Rattle.ax_trees.proofs.Changed.{outside, distinct_with_node, has_with_node_in, has_with_node_more}
use Rattle.ax_tree.proofs.Arranged.{arranged_from, only_in, distinct_arranged}

-- ---- lists without repeats

pub not_seen : (b : Bool) (c : ℕ) (o : Option ℕ) → cond b (Some c) o ≡ None → (b ≡ false) × (o ≡ None)
not_seen true c o h = absurd (cc)
not_seen false c o h = (refl, h)

pub twice_apart : (seen cs : List ℕ) (z : ℕ) → first_repeated seen cs ≡ None → contains seen z ≡ true → contains cs z ≡ false
twice_apart seen [] z h s = refl
twice_apart seen (c ∷ cs) z h s =
    let n = not_seen _ _ _ h in
    let no : eqb c z ≡ false = false_from_ne_true (eqb c z) (λ g. let t : contains seen c ≡ true = subst (λ j. contains seen j ≡ true) (sym (eqb-true c z g)) s in false≢true (sym n.0 ∙ t)) in
    let later : contains cs z ≡ false = twice_apart (c ∷ seen) cs z n.1 (grind (arith, s)) in
    rw no later

-- where none passes a test, each fails it
pub none_that : (p : ℕ → Bool) (cs : List ℕ) (z : ℕ) → first_that p cs ≡ None → contains cs z ≡ true → p z ≡ false
none_that p [] z h c = absurd (false≢true c)
none_that p (x ∷ cs) z h c =
    let n = not_seen _ _ _ h in
    by_go (eqb x z)
    (λ q. ap p (sym (eqb-true x z q)) ∙ n.0)
    (λ q. none_that p cs z n.1 (grind (arith, c, q)))

-- a leaf for each id
abbrev leaves : {X : Type 0} → X → List ℕ → Trees X
leaves d [] = bare
leaves d (c ∷ cs) = tree c d bare (leaves d cs)

has_leaves : {X : Type 0} (d : X) (cs : List ℕ) (z : ℕ) → has (leaves d cs) z ≡ contains cs z
has_leaves d [] z = refl
has_leaves d (c ∷ cs) z = grind (arith, has_leaves d cs z)

root_leaves : {X : Type 0} (d : X) (cs : List ℕ) (z : ℕ) → has_root (leaves d cs) z ≡ contains cs z
root_leaves d [] z = refl
root_leaves d (c ∷ cs) z = grind (arith, root_leaves d cs z)

roots-leaves : {X : Type 0} (d : X) (cs : List ℕ) → roots (leaves d cs) ≡ cs
roots-leaves d [] = refl
roots-leaves d (c ∷ cs) = ap (λ js. c ∷ js) (roots-leaves d cs)

distinct_leaves : {X : Type 0} (d : X) (seen cs : List ℕ) → first_repeated seen cs ≡ None → IsDistinct (leaves d cs)
distinct_leaves d seen [] h = tt
distinct_leaves d seen (c ∷ cs) h =
    let n : (contains seen c ≡ false) × (first_repeated (c ∷ seen) cs ≡ None) = not_seen _ _ _ h in (
      refl,
      has_leaves d cs c ∙ twice_apart (c ∷ seen) cs c n.1 (grind (arith, eqb_tells c c)),
      record { apart = λ z t. absurd (false≢true t) },
      tt,
      distinct_leaves d (c ∷ seen) cs n.1,
    )

-- ---- the listed trees alone

root_known_only : {X : Type 0} (f : X) (k : Trees X) (all : List ℕ) (c : ℕ) → contains all c ≡ true → root_known f (only k all) c ≡ root_known f k c
root_known_only f bare all c h = refl
root_known_only f (tree i e k r) all c h =
    by_go (contains all i)
    (λ q. rw q (ap (cond (eqb i c) e) (root_known_only f r all c h)))
    (λ q. let no : eqb i c ≡ false = false_from_ne_true (eqb i c) (λ g. let t : contains all i ≡ true = subst (λ j. contains all j ≡ true) (sym (eqb-true i c g)) h in false≢true (sym q ∙ t)) in
    rw (q, no) (root_known_only f r all c h))

root_below_only : {X : Type 0} (k : Trees X) (all : List ℕ) (c : ℕ) → contains all c ≡ true → root_below (only k all) c ≡ root_below k c
root_below_only bare all c h = refl
root_below_only (tree i e k r) all c h =
    by_go (contains all i)
    (λ q. rw q (ap (cond (eqb i c) k) (root_below_only r all c h)))
    (λ q. let no : eqb i c ≡ false = false_from_ne_true (eqb i c) (λ g. let t : contains all i ≡ true = subst (λ j. contains all j ≡ true) (sym (eqb-true i c g)) h in false≢true (sym q ∙ t)) in
    rw (q, no) (root_below_only r all c h))

arranged_only : {X : Type 0} (f : X) (cs all : List ℕ) (k : Trees X) → ((z : ℕ) → contains cs z ≡ true → contains all z ≡ true) → arranged f cs (only k all) ≡ arranged f cs k
arranged_only f [] all k h = refl
arranged_only f (c ∷ cs) all k h =
    let c' : contains all c ≡ true = h c (grind (arith, eqb_tells c c)) in
    rw (root_known_only f k all c c', root_below_only k all c c', arranged_only f cs all k (λ z t. h z (grind (arith, t)))) refl

distinct_only : {X : Type 0} (k : Trees X) (cs : List ℕ) → IsDistinct k → IsDistinct (only k cs)
distinct_only bare cs d = tt
distinct_only (tree i e k r) cs d =
    by_go (contains cs i)
    (λ q. rw q (
      d.0,
      false_from_ne_true (has (only r cs) i) (λ g. grind (arith, only_in r cs i g, d.1)),
      record { apart = λ z t. false_from_ne_true (has (only r cs) z) (λ g. grind (arith, only_in r cs z g, d.2.apart z t)) },
      d.3,
      distinct_only r cs d.4,
    ))
    (λ q. rw q (distinct_only r cs d.4))

root_of_only : {X : Type 0} (k : Trees X) (cs : List ℕ) (z : ℕ) → contains cs z ≡ true → has_root k z ≡ true → has_root (only k cs) z ≡ true
root_of_only bare cs z c h = h
root_of_only (tree i e k r) cs z c h =
    by_go (eqb i z)
    (λ q. let c' : contains cs i ≡ true = subst (λ y. contains cs y ≡ true) (sym (eqb-true i z q)) c in grind (arith, q, c'))
    (λ q. grind (arith, h, q, root_of_only r cs z c))

-- an id among the listed trees is a listed root, or stands below one
pub only_cases : {X : Type 0} (k : Trees X) (cs : List ℕ) (z : ℕ) → IsDistinct k → has (only k cs) z ≡ true
    → (c : ℕ) × (contains cs c ≡ true) × (has_root k c ≡ true) × ((eqb c z || has (root_below k c) z) ≡ true)
only_cases bare cs z d h = absurd (false≢true h)
only_cases {X} (tree i e k r) cs z d h =
    by_go (contains cs i)
    (λ q. let h' : (eqb i z || (has k z || has (only r cs) z)) ≡ true = rw q at h in
    let self : eqb i i ≡ true = grind (arith, eqb_tells i i) in
    by_go (eqb i z || has k z)
    (λ b. (i, q, grind (arith, self), rw self b))
    (λ b. later i e k r z d (only_cases r cs z d.4 (grind (arith, h', b)))))
    (λ q. later i e k r z d (only_cases r cs z d.4 (rw q at h)))
  where
    later : {E : Type 0} (i : ℕ) (e : E) (k r : Trees E) (z : ℕ) → IsDistinct (tree i e k r)
        → (c : ℕ) × (contains cs c ≡ true) × (has_root r c ≡ true) × ((eqb c z || has (root_below r c) z) ≡ true)
        → (c : ℕ) × (contains cs c ≡ true) × (has_root (tree i e k r) c ≡ true) × ((eqb c z || has (root_below (tree i e k r) c) z) ≡ true)
    later i e k r z d w =
        let no : eqb i w.0 ≡ false = false_from_ne_true (eqb i w.0) (λ g. let t = root_in r w.0 w.2 in grind (arith, g, eqb_tells i w.0, d.1, t)) in
        let t : has_root r w.0 ≡ true = w.2 in
        (w.0, w.1, grind (arith, t), rw no w.3)

-- ---- the tree after the data

pub distinct_taken : {X : Type 0} (d : X) (w : Trees X) (u : Node X) → IsDistinct w → has w u.id ≡ true → first_repeated [] u.children ≡ None
    → ((z : ℕ) → contains u.children z ≡ true → has_root (below w u.id) z ≡ false → has (with_node w u.id u.known (only (below w u.id) u.children)) z ≡ false)
    → IsDistinct (with_node w u.id u.known (arranged d u.children (below w u.id)))
distinct_taken {X} d w u dw there once good =
    let y : ℕ = u.id in
    let cs : List ℕ = u.children in
    let old : Trees X = below w u.id in
    let kk : Trees X = only (below w u.id) u.children in
    let dp : IsDistinct (arranged d (roots (leaves d cs)) kk) =
    distinct_arranged d (leaves d cs) kk (distinct_leaves d [] cs once) (distinct_only old cs (distinct_below w y dw))
    (λ z t h. let c : contains cs z ≡ true = sym (root_leaves d cs z) ∙ t in
    by_go (has_root old z)
    (λ q. root_of_only old cs z c q)
    (λ q. absurd (false≢true (sym (good z c q) ∙ has_with_node_in w y u.known kk z there h)))) in
    let dq : IsDistinct (arranged d cs old) =
    subst (λ v. IsDistinct v) (ap (λ js. arranged d js kk) (roots-leaves d cs) ∙ arranged_only d cs cs old (λ z c. c)) dp in
    distinct_with_node w y u.known (arranged d cs old) dw there dq
    (λ z h. by_go (has old z)
    (λ q. outside w y u.known z dw there q)
    (λ q. let c : contains cs z ≡ true = grind (arith, arranged_from d cs old z h, q) in
    let t : has_root old z ≡ false = false_from_ne_true (has_root old z) (λ g. false≢true (sym q ∙ root_in old z g)) in
    false_from_ne_true (has (with_node w y u.known bare) z) (λ g. false≢true (sym (good z c t) ∙ has_with_node_more w y u.known kk z g))))
