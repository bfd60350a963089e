-- What a walk down a tree has still to visit.
use Rattle.std.proofs.Common.{ℕ, zero, suc, ◌≤◌, ◌+◌, ◌-◌, ◌<◌, ◌≡◌, max, true, false, cond, ◌||◌, eqb, List, [], ◌∷◌, ◌++◌, length, reverse, take, get_or, Option, Some, None, refl, sym, ap, ◌∙◌, subst, arith, append_assoc, length-append}
use Rattle.std.proofs.lemmas.List.{append-nil, reverse-append, reverse-reverse, take_more}
use Rattle.std.specs.Prelude.{option_map}
use Rattle.std.proofs.lemmas.Bool.Decides.{eqb_tells}
use Rattle.std.proofs.lemmas.Bool.{false_from_ne_true}
use Rattle.ax_node.specs.Look.{Look}
use Rattle.ax_node.specs.declared.node.NodeData.{NodeData}
use Rattle.ax_tree.specs.Tree.{data_of}
use Rattle.ax_trees.specs.Trees.{Trees, bare, tree, has, ids, roots, height, IsDistinct, AreApart}
use Rattle.ax_trees.specs.Nodes.{Node, node_at, below, children, pre, tree_at}
use Rattle.ax_trees.proofs.Trees.{agree, by_go, distinct_below, below_absent}
use Rattle.ax_trees.proofs.Grown.{node_none, node_some}
use Rattle.ax_trees.proofs.Nodes.{distinct_tree_at, node_tree_at, node_below, tree_at_is}
use Rattle.ax_trees.proofs.Parents.{listed_children, node_children}

module _ {X : Type 0} where
  -- the trees of f, then those of g
  abbrev pub beside : Trees X → Trees X → Trees X
  beside bare g = g
  beside (tree i x k r) g = tree i x k (beside r g)

  pub roots-beside : (f g : Trees X) → roots (beside f g) ≡ roots f ++ roots g
  roots-beside bare g = refl
  roots-beside (tree i x k r) g = ap (λ js. i ∷ js) (roots-beside r g)

  pub ids-beside : (f g : Trees X) → ids (beside f g) ≡ ids f ++ ids g
  ids-beside bare g = refl
  ids-beside (tree i x k r) g = ap (λ js. i ∷ (ids k ++ js)) (ids-beside r g) ∙ ap (λ js. i ∷ js) (sym (append_assoc (ids k) (ids r) (ids g)))

  pub has-beside : (f g : Trees X) (z : ℕ) → has (beside f g) z ≡ (has f z || has g z)
  has-beside bare g z = refl
  has-beside (tree i x k r) g z = grind (arith, has-beside r g z)

  pub height-beside : (f g : Trees X) → height (beside f g) ≡ max (height f) (height g)
  height-beside bare g = omega arith
  height-beside (tree i x k r) g = omega (arith, height-beside r g)

  pub node_beside : (f g : Trees X) (z : ℕ) → node_at (beside f g) z ≡ cond (has f z) (node_at f z) (node_at g z)
  node_beside bare g z = refl
  node_beside (tree i x k r) g z =
      by_go (eqb i z) (λ q. rw q refl) (λ q. by_go (has k z) (λ p. rw (q, p) refl) (λ p. rw (q, p) (node_beside r g z)))

  pub distinct_beside : (f g : Trees X) → IsDistinct f → IsDistinct g → AreApart f g → IsDistinct (beside f g)
  distinct_beside bare g d e a = e
  distinct_beside (tree i x k r) g d e a = (
    d.0,
    grind (arith, has-beside r g i, d.1, a.apart i, eqb_tells i i),
    record { apart = λ z h. grind (arith, has-beside r g z, d.2.apart z h, a.apart z, h) },
    d.3,
    distinct_beside r g d.4 e (record { apart = λ z h. a.apart z (grind (arith, h)) }),
  )

  -- w is a part of f: each of its ids has there the node that it has in f
  pub record IsPart (w f : Trees X) : Type 0 where
    pub distinct : IsDistinct w
    pub same : (z : ℕ) → has w z ≡ true → node_at w z ≡ node_at f z

  node_inside : (i : ℕ) (x : X) (k r : Trees X) (z : ℕ) → IsDistinct (tree i x k r) → has k z ≡ true → node_at (tree i x k r) z ≡ node_at k z
  node_inside i x k r z d h = let no : eqb i z ≡ false = grind (arith, eqb_tells i z, d.0, h) in rw (no, h) refl

  node_after : (i : ℕ) (x : X) (k r : Trees X) (z : ℕ) → IsDistinct (tree i x k r) → has r z ≡ true → node_at (tree i x k r) z ≡ node_at r z
  node_after i x k r z d h =
      let no : eqb i z ≡ false = grind (arith, eqb_tells i z, d.1, h) in
      let none : has k z ≡ false = false_from_ne_true (has k z) (λ g. grind (arith, d.2.apart z g, h)) in
      rw (no, none) refl

  -- after its first node, a walk has the trees below it and the others
  pub part_next : (i : ℕ) (x : X) (k r f : Trees X) → IsPart (tree i x k r) f → IsPart (beside k r) f
  part_next i x k r f p = record {
    distinct = distinct_beside k r p.distinct.3 p.distinct.4 p.distinct.2;
    same = λ z h. node_beside k r z ∙ by_go (has k z)
        (λ q. rw q (sym (node_inside i x k r z p.distinct q) ∙ p.same z (grind (arith, q))))
        (λ q. let late : has r z ≡ true = grind (arith, has-beside k r z, h, q) in
        rw q (sym (node_after i x k r z p.distinct late) ∙ p.same z (grind (arith, late))));
  }

  part_others : (i : ℕ) (x : X) (k r f : Trees X) → IsPart (tree i x k r) f → IsPart r f
  part_others i x k r f p = record {
    distinct = p.distinct.4;
    same = λ z h. sym (node_after i x k r z p.distinct h) ∙ p.same z (grind (arith, h));
  }

  part_first : (i : ℕ) (x : X) (k r f : Trees X) → IsPart (tree i x k r) f → node_at f i ≡ Some (record { id = i; known = x; children = roots k })
  part_first i x k r f p = let self : eqb i i ≡ true = grind (arith, eqb_tells i i) in sym (p.same i (grind (arith, self))) ∙ (rw self refl)

-- ---- heights

-- how high the trees of the listed nodes are
abbrev pub heights : {X : Type 0} → Trees X → List ℕ → ℕ
heights f [] = 0
heights f (z ∷ zs) = max (suc (height (below f z))) (heights f zs)

heights-part : {X : Type 0} (w f : Trees X) → IsDistinct f → IsPart w f → height w ≡ heights f (roots w)
heights-part bare f d p = refl
heights-part (tree i x k r) f d p =
    let at : node_at f i ≡ Some (record { id = i; known = x; children = roots k }) = part_first i x k r f p in
    let tops : roots (below f i) ≡ roots k = node_children f i ∙ ap listed_children at in
    let inner : below f i ≡ k = agree (below f i) k (distinct_below f i d) p.distinct.3 tops (λ z g h.
    node_below f i z d g ∙ (sym (p.same z (grind (arith, h))) ∙ node_inside i x k r z p.distinct h)) in
    let rest : height r ≡ heights f (roots r) = heights-part r f d (part_others i x k r f p) in
    let deep : height (below f i) ≡ height k = ap height inner in
    omega (arith, rest, deep)

pub height_is : {X : Type 0} (f : Trees X) (z : ℕ) → IsDistinct f → height (below f z) ≡ heights f (children f z)
height_is f z d = heights-part (below f z) f d (record { distinct = distinct_below f z d; same = λ y h. node_below f z y d h })

pub heights_next : {X : Type 0} (f : Trees X) (zs : List ℕ) (i z : ℕ) → i < length zs → z ≡ get_or zs i z → heights f (take (i + 1) zs) ≡ max (heights f (take i zs)) (suc (height (below f z)))
heights_next f zs i z h e = ap (heights f) (take_more zs i z h ∙ ap (λ y. take i zs ++ y ∷ []) (sym e)) ∙ joined (take i zs)
  where
    joined : (ys : List ℕ) → heights f (ys ++ z ∷ []) ≡ max (heights f ys) (suc (height (below f z)))
    joined [] = omega arith
    joined (y ∷ ys) = omega (arith, joined ys)

pub heights_at : {X : Type 0} (f : Trees X) (zs : List ℕ) (i z : ℕ) → i < length zs → z ≡ get_or zs i z → height (below f z) < heights f zs
heights_at f zs i z h e =
    let next : heights f (take (i + 1) zs) ≡ max (heights f (take i zs)) (suc (height (below f z))) = heights_next f zs i z h e in
    omega (arith, next, front (i + 1) zs)
  where
    front : (n : ℕ) (ys : List ℕ) → heights f (take n ys) ≤ heights f ys
    front zero ys = omega arith
    front (suc n) [] = omega arith
    front (suc n) (y ∷ ys) = omega (arith, front n ys)

-- ---- in pre-order

pub reverse-push : (js : List ℕ) (i : ℕ) → reverse (js ++ i ∷ []) ≡ i ∷ reverse js
reverse-push js i = reverse-append js (i ∷ [])

-- the trees that are still to be visited have their roots on the stack, the first on top
pub record WalkLeft {X : Type 0} (f : Trees X) (id : ℕ) (out stack : List ℕ) : Type 0 where
  pub left : Trees X
  pub part : IsPart left f
  pub top : roots left ≡ reverse stack
  pub rest : out ++ ids left ≡ pre f id

pub walk_begins : {X : Type 0} (f : Trees X) (id : ℕ) (out none stack : List ℕ) → IsDistinct f → has f id ≡ true → out ≡ [] → none ≡ [] → stack ≡ none ++ id ∷ [] → WalkLeft f id out stack
walk_begins f id out none stack d h eo en es = record {
  left = tree_at f id;
  part = record { distinct = distinct_tree_at f id d; same = λ z g. node_tree_at f id z d h g };
  top = ap roots (tree_at_is f id h).1 ∙ sym (ap reverse (es ∙ ap (λ js. js ++ id ∷ []) en));
  rest = ap (λ js. js ++ ids (tree_at f id)) eo;
}

-- the first tree of what is left
pub record WalkNext {X : Type 0} (f : Trees X) (id : ℕ) (out stack : List ℕ) (next : ℕ) : Type 0 where
  pub known : X
  pub inner : Trees X
  pub others : Trees X
  pub part : IsPart (tree next known inner others) f
  pub top : roots others ≡ reverse stack
  pub rest : out ++ ids (tree next known inner others) ≡ pre f id

pub walk_next : {X : Type 0} (f : Trees X) (id : ℕ) (out stack popped : List ℕ) (next : ℕ) → WalkLeft f id out stack → stack ≡ popped ++ next ∷ [] → WalkNext f id out popped next
walk_next {X} f id out stack popped next l e = go l.left l.part (l.top ∙ ap reverse e ∙ reverse-push popped next) l.rest
  where
    go : (w : Trees X) → IsPart w f → roots w ≡ next ∷ reverse popped → out ++ ids w ≡ pre f id → WalkNext f id out popped next
    go bare p h r = absurd (cc)
    go (tree i x k o) p h r =
        let same : i ≡ next = cc in
        let top : roots o ≡ reverse popped = cc in
        let q = subst (λ j. IsPart (tree j x k o) f × (out ++ ids (tree j x k o) ≡ pre f id)) same (p, r) in
        record { known = x; inner = k; others = o; part = q.0; top = top; rest = q.1 }

-- the node that is looked up lists the roots of the trees below it
next_children : (f : Trees Look) (id : ℕ) (out stack : List ℕ) (next : ℕ) (n : NodeData) (w : WalkNext f id out stack next) → Some n ≡ option_map data_of (node_at f next) → n.children ≡ roots w.inner
next_children f id out stack next n w e =
    let at : node_at f next ≡ Some (record { id = next; known = w.known; children = roots w.inner }) = part_first next w.known w.inner w.others f w.part in
    let same : ◌≡◌ {A = Option NodeData} (Some n) (Some (data_of (record { id = next; known = w.known; children = roots w.inner }))) = e ∙ ap (option_map data_of) at in
    let one : n ≡ data_of (record { id = next; known = w.known; children = roots w.inner }) = cc in
    ap (λ (d : NodeData). d.children) one

pub walk_goes_on : (f : Trees Look) (id : ℕ) (out popped stack out' : List ℕ) (next : ℕ) (n : NodeData) → WalkNext f id out popped next → out' ≡ out ++ next ∷ [] → Some n ≡ option_map data_of (node_at f next)
    → stack ≡ popped ++ reverse n.children → WalkLeft f id out' stack
walk_goes_on f id out popped stack out' next n w eo en es = record {
  left = beside w.inner w.others;
  part = part_next next w.known w.inner w.others f w.part;
  top = roots-beside w.inner w.others ∙ ap (λ js. roots w.inner ++ js) w.top ∙ ap (λ js. js ++ reverse popped) (sym (next_children f id out popped next n w en))
      ∙ sym (ap reverse es ∙ reverse-append popped (reverse n.children) ∙ ap (λ js. js ++ reverse popped) (reverse-reverse n.children));
  rest = ap (λ js. js ++ ids (beside w.inner w.others)) eo ∙ append_assoc out (next ∷ []) (ids (beside w.inner w.others))
      ∙ ap (λ js. out ++ (next ∷ js)) (ids-beside w.inner w.others) ∙ w.rest;
}

pub walk_there : (f : Trees Look) (id : ℕ) (out popped : List ℕ) (next : ℕ) → WalkNext f id out popped next → None ≡ option_map data_of (node_at f next) → ⊥
walk_there f id out popped next w e =
    let at : node_at f next ≡ Some (record { id = next; known = w.known; children = roots w.inner }) = part_first next w.known w.inner w.others f w.part in
    let none : ◌≡◌ {A = Option NodeData} None (Some (data_of (record { id = next; known = w.known; children = roots w.inner }))) = e ∙ ap (option_map data_of) at in
    cc

pub walk_smaller : {X : Type 0} (f : Trees X) (id : ℕ) (out popped out' : List ℕ) (next : ℕ) → WalkNext f id out popped next → out' ≡ out ++ next ∷ []
    → length (pre f id) - length out' < length (pre f id) - length out
walk_smaller f id out popped out' next w e =
    let a = ap length w.rest in
    let b = ap length e in
    omega (arith, a, b, length-append out (ids (tree next w.known w.inner w.others)), length-append out (next ∷ []))

pub walk_ends : {X : Type 0} (f : Trees X) (id : ℕ) (out stack : List ℕ) → WalkLeft f id out stack → stack ≡ [] → out ≡ pre f id
walk_ends {X} f id out stack l e = go l.left (l.top ∙ ap reverse e) l.rest
  where
    go : (w : Trees X) → roots w ≡ [] → out ++ ids w ≡ pre f id → out ≡ pre f id
    go bare h r = sym (append-nil out) ∙ r
    go (tree i x k o) h r = absurd (cc)

-- ---- what isn't there

pub tree_at_none : {X : Type 0} (f : Trees X) (z : ℕ) → has f z ≡ false → tree_at f z ≡ bare
tree_at_none bare z h = refl
tree_at_none (tree i x k r) z h = grind (arith, h, tree_at_none r z)

-- a look-up tells whether an id is there
pub there_from : (f : Trees Look) (z : ℕ) (n : NodeData) → Some n ≡ option_map data_of (node_at f z) → has f z ≡ true
there_from f z n e = by_go (has f z) (λ q. q) (λ q. absurd (let no : ◌≡◌ {A = Option NodeData} (Some n) None = e ∙ ap (option_map data_of) (node_none f z q) in cc))

pub absent_from : (f : Trees Look) (z : ℕ) → None ≡ option_map data_of (node_at f z) → has f z ≡ false
absent_from f z e = false_from_ne_true (has f z) (λ q.
    let n : (u : Node Look) × (node_at f z ≡ Some u) = node_some f z q in
    let no : ◌≡◌ {A = Option NodeData} None (Some (data_of n.0)) = e ∙ ap (option_map data_of) n.1 in cc)

-- the children of a node that was looked up
pub children_from : (f : Trees Look) (z : ℕ) (n : NodeData) → Some n ≡ option_map data_of (node_at f z) → n.children ≡ children f z
children_from f z n e = go (node_at f z) refl
  where
    go : (o : Option (Node Look)) → node_at f z ≡ o → n.children ≡ children f z
    go None a = absurd (let no : ◌≡◌ {A = Option NodeData} (Some n) None = e ∙ ap (option_map data_of) a in cc)
    go (Some u) a =
        let same : ◌≡◌ {A = Option NodeData} (Some n) (Some (data_of u)) = e ∙ ap (option_map data_of) a in
        let one : n ≡ data_of u = cc in
        ap (λ (d : NodeData). d.children) one ∙ sym (node_children f z ∙ ap listed_children a)

pub no_children : (f : Trees Look) (z : ℕ) → None ≡ option_map data_of (node_at f z) → children f z ≡ []
no_children f z e = ap roots (below_absent f z (absent_from f z e))
