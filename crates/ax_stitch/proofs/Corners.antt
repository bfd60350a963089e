-- Where a node stands, by its container. Belongs in ax_rules.
use Rattle.std.proofs.Common.{ℕ, zero, suc, ◌<◌, ◌≤◌, ◌≡◌, Bor, ℤ, true, false, ◌||◌, ◌==◌, eqb, cond, find, List, [], ◌∷◌, ◌++◌, reverse, filter_map, Option, Some, None, refl, sym, ap, ◌∙◌, arith, option_map, option_and_then}
use Rattle.std.specs.List.{cons_option}
use Rattle.std.specs.Option.{option_copied}
use Rattle.std.proofs.lemmas.List.{reverse-append}
use Rattle.std.proofs.lemmas.Bool.{false≢true, eqb-true}
use Rattle.std.proofs.lemmas.Int.{ints}
use Rattle.ax_base.specs.declared.position.Place.{Place}
use Rattle.ax_node.specs.Look.{Look, look_of}
use Rattle.ax_node.specs.declared.node.NodeData.{NodeData}
use Rattle.ax_trees.specs.Trees.{Trees, bare, tree, has, roots, IsDistinct}
use Rattle.ax_trees.specs.Nodes.{Node, node_at, below, chain, depth, parent}
use Rattle.ax_trees.proofs.Trees.{by_go, below_absent}
use Rattle.ax_trees.proofs.Grown.{node_some}
use Rattle.ax_trees.proofs.Sizes.{depth_there}
use Rattle.ax_views.proofs.Climbing.{is_above, chain_top, none_over_top}
use Rattle.ax_tree.specs.Tree.{Tree, node, as_node, data_of}
use Rattle.ax_tree.specs.Forest.{Forest, live_tree}
use Rattle.ax_rules.specs.Sequences.{first_of}
use Rattle.ax_rules.specs.Looks.{attr, node_in, line_up}
use Rattle.ax_rules.specs.Rows.{container_key}
use Rattle.ax_rules.specs.Extents.{Origin, base_among, origin_under, origins, base_in, base_of, extent_at, extent_in, extent_of, place_extent}
use Rattle.ax_stitch.specs.Origins.{AreNear, origin_on, origin_at}

-- a node and all above it, cut at the node
pub record IsLine (w : Trees Look) (z : ℕ) : Type 0 where
  pub node : Node Look
  pub at : node_at w z ≡ Some node
  pub id : node.id ≡ z
  pub above : List (Node Look)
  pub whole : line_up w z ≡ node ∷ above
  pub found : (c : ℕ) → find (λ (o : Origin). o.node == c) (origins above) ≡ cond (has (below w c) z) (origin_at w c) None

node_id : (w : Trees Look) (z : ℕ) (n : Node Look) → node_at w z ≡ Some n → n.id ≡ z
node_id bare z n h = absurd (cc)
node_id (tree i x k r) z n h = by_go (i == z)
    (λ q. let e : ◌≡◌ {A = Option (Node Look)} (Some (record { id = i; known = x; children = roots k })) (Some n) = rw q at h in
    let same : ◌≡◌ {A = Node Look} (record { id = i; known = x; children = roots k }) n = cc in
    sym (ap (λ (v : Node Look). v.id) same) ∙ eqb-true i z q)
    (λ q. by_go (has k z) (λ g. node_id k z n (rw (q, g) at h)) (λ g. node_id r z n (rw (q, g) at h)))

pub line_front : (w : Trees Look) (z : ℕ) (n : Node Look) (xs : List ℕ) → node_at w z ≡ Some n → chain w z ≡ xs ++ z ∷ [] → line_up w z ≡ n ∷ filter_map (node_at w) (reverse xs)
line_front w z n xs e h =
    ap (λ l. filter_map (node_at w) (reverse l)) h
    ∙ (ap (filter_map (node_at w)) (reverse-append xs (z ∷ [])) ∙ ap (λ o. cons_option o (filter_map (node_at w) (reverse xs))) e)

pub origin_head : (w : Trees Look) (z : ℕ) (n : Node Look) (above : List (Node Look)) → line_up w z ≡ n ∷ above → origin_at w z ≡ Some (origin_under (origins above) n)
unfolding origin_at
origin_head w z n above e = ap (λ l. first_of (origins l)) e

-- the origin of c among those of z and all above it
found_here : (w : Trees Look) (z c : ℕ) (l : IsLine w z) → find (λ (o : Origin). o.node == c) (origins (line_up w z)) ≡ cond (eqb z c || has (below w c) z) (origin_at w c) None
unfolding origin_under
found_here w z c l =
    ap (λ v. find (λ (o : Origin). o.node == c) (origins v)) l.whole
    ∙ by_go (z == c)
    (λ q. let same : z ≡ c = eqb-true z c q in
    let here : l.node.id == c ≡ true = ap (λ i. i == c) l.id ∙ q in
    rw (here, q) (sym (ap (origin_at w) (sym same) ∙ origin_head w z l.node l.above l.whole)))
    (λ q. let here : l.node.id == c ≡ false = ap (λ i. i == c) l.id ∙ q in rw (here, q) (l.found c))

pub line_is : (d : ℕ) (w : Trees Look) (z : ℕ) → IsDistinct w → has w z ≡ true → depth w z ≤ d → IsLine w z
line_is zero w z i h l = absurd (let a = depth_there w z h in omega arith)
line_is (suc d) w z i h l = go (λ y g b. line_is d w y i g b) (parent w z) refl
  where
    n : (u : Node Look) × (node_at w z ≡ Some u)
    n = node_some w z h

    go : ((y : ℕ) → has w y ≡ true → depth w y ≤ d → IsLine w y) → (o : Option ℕ) → parent w z ≡ o → IsLine w z
    go ih None e = record {
      node = n.0;
      at = n.1;
      id = node_id w z n.0 n.1;
      above = [];
      whole = line_front w z n.0 [] n.1 (chain_top w z i h e);
      found = λ c. let no = none_over_top w c z i e in rw no refl;
    }
    go ih (Some y) e =
        let a = is_above w z y i e in
        let up = ih y a.up (let b = a.deep in omega arith) in
        record {
          node = n.0;
          at = n.1;
          id = node_id w z n.0 n.1;
          above = line_up w y;
          whole = line_front w z n.0 (chain w y) n.1 a.on;
          found = λ c. found_here w y c up ∙ ap (λ b. cond b (origin_at w c) None) (sym (a.under c));
        }

-- the container, where it is above z
abbrev pub over_of : Trees Look → ℕ → Look → Option ℕ
over_of w z x = option_and_then (λ c. cond (has (below w c) z) (Some c) None) (node_in (attr x container_key))

among : (w : Trees Look) (z : ℕ) (l : IsLine w z) → base_among (origins l.above) l.node.known ≡ option_and_then (λ c. origin_at w c) (over_of w z l.node.known)
unfolding base_among
among w z l = go (node_in (attr l.node.known container_key))
  where
    go : (o : Option ℕ) → option_and_then (λ c. find (λ (o : Origin). o.node == c) (origins l.above)) o ≡ option_and_then (λ c. origin_at w c) (option_and_then (λ c. cond (has (below w c) z) (Some c) None) o)
    go None = refl
    go (Some c) = l.found c ∙ by_go (has (below w c) z) (λ q. rw q refl) (λ q. rw q refl)

origin_id : (w : Trees Look) (z : ℕ) → IsLine w z → option_map (λ (o : Origin). o.node) (origin_at w z) ≡ Some z
unfolding origin_under
origin_id w z l = ap (option_map (λ (o : Origin). o.node)) (origin_head w z l.node l.above l.whole) ∙ ap Some l.id

pub base_told : (m : Tree) (z : ℕ) (n : Node Look) → IsDistinct m.trees → has m.trees z ≡ true → node_at m.trees z ≡ Some n → base_of m z ≡ over_of m.trees z n.known
unfolding base_of
base_told m z n d h e =
    let l = line_is (depth m.trees z) m.trees z d h (omega arith) in
    let both : ◌≡◌ {A = Option (Node Look)} (Some l.node) (Some n) = sym l.at ∙ e in
    let same : l.node ≡ n = cc in
    ap base_in l.whole
    ∙ (ap (option_map (λ (o : Origin). o.node)) (among m.trees z l)
    ∙ (ends (over_of m.trees z l.node.known) (above (node_in (attr l.node.known container_key)))
    ∙ ap (λ (v : Node Look). over_of m.trees z v.known) same))
  where
    above : (o : Option ℕ) (c : ℕ) → option_and_then (λ c. cond (has (below m.trees c) z) (Some c) None) o ≡ Some c → has m.trees c ≡ true
    above None c e = absurd (cc)
    above (Some b) c e = by_go (has (below m.trees b) z)
        (λ q. let s : ◌≡◌ {A = Option ℕ} (Some b) (Some c) = rw q at e in
        let same : b ≡ c = cc in
        by_go (has m.trees c) (λ g. g) (λ g. absurd (false≢true (ap (λ (v : Trees Look). has v z) (sym (below_absent m.trees c g)) ∙ (ap (λ i. has (below m.trees i) z) (sym same) ∙ q)))))
        (λ q. absurd (let s : ◌≡◌ {A = Option ℕ} None (Some c) = rw q at e in cc))

    ends : (o : Option ℕ) → ((c : ℕ) → o ≡ Some c → has m.trees c ≡ true) → option_map (λ (o : Origin). o.node) (option_and_then (λ c. origin_at m.trees c) o) ≡ o
    ends None k = refl
    ends (Some c) k = let g = k c refl in origin_id m.trees c (line_is (depth m.trees c) m.trees c d g (omega arith))

pub origin_told : (m : Tree) (z : ℕ) (n : Node Look) → IsDistinct m.trees → has m.trees z ≡ true → node_at m.trees z ≡ Some n
    → origin_at m.trees z ≡ Some (origin_on n (option_and_then (λ c. origin_at m.trees c) (over_of m.trees z n.known)))
unfolding origin_under
origin_told m z n d h e =
    let l = line_is (depth m.trees z) m.trees z d h (omega arith) in
    let both : ◌≡◌ {A = Option (Node Look)} (Some l.node) (Some n) = sym l.at ∙ e in
    let same : l.node ≡ n = cc in
    origin_head m.trees z l.node l.above l.whole
    ∙ (ap (λ b. Some (origin_on l.node b)) (among m.trees z l)
    ∙ ap (λ (v : Node Look). Some (origin_on v (option_and_then (λ c. origin_at m.trees c) (over_of m.trees z v.known)))) same)

pub extent_told : (m : Tree) (z : ℕ) (n : Node Look) → IsDistinct m.trees → has m.trees z ≡ true → node_at m.trees z ≡ Some n → extent_of m z ≡ option_map (extent_at n.known) (origin_at m.trees z)
unfolding extent_of origin_at
extent_told m z n d h e =
    let l = line_is (depth m.trees z) m.trees z d h (omega arith) in
    let both : ◌≡◌ {A = Option (Node Look)} (Some l.node) (Some n) = sym l.at ∙ e in
    let same : l.node ≡ n = cc in
    ap extent_in l.whole
    ∙ (ap (λ (v : Node Look). option_map (extent_at v.known) (first_of (origins (l.node ∷ l.above)))) same
    ∙ ap (λ v. option_map (extent_at n.known) (first_of (origins v))) (sym l.whole))

-- ---- what the bodies ask

pub node_of_told : (m : Tree) (z : ℕ) (r : Option (Bor NodeData)) (b : Bor NodeData) → option_copied r ≡ node m z → r ≡ Some b → node_at m.trees z ≡ Some (as_node b.now)
node_of_told m z r b e s = go (node_at m.trees z) (sym (ap option_copied s) ∙ e)
  where
    go : (o : Option (Node Look)) → ◌≡◌ {A = Option NodeData} (Some b.now) (option_map data_of o) → o ≡ Some (as_node b.now)
    go None h = absurd (cc)
    go (Some u) h =
        let same : b.now ≡ data_of u = cc in
        sym (ap (λ (d : NodeData). Some (as_node d)) same)

pub base_there : (m : Tree) (z : ℕ) (r : Option (Bor NodeData)) (b : Bor NodeData) (c : ℕ) → IsDistinct m.trees → has m.trees z ≡ true → option_copied r ≡ node m z → r ≡ Some b
    → Some c ≡ node_in (attr (look_of b.now) container_key) → has (below m.trees c) z ≡ true → base_of m z ≡ Some c
base_there m z r b c d h e s k g =
    base_told m z (as_node b.now) d h (node_of_told m z r b e s)
    ∙ (ap (option_and_then (λ c. cond (has (below m.trees c) z) (Some c) None)) (sym k) ∙ ap (λ v. cond v (Some c) None) g)

pub base_not : (m : Tree) (z : ℕ) (r : Option (Bor NodeData)) (b : Bor NodeData) (c : ℕ) → IsDistinct m.trees → has m.trees z ≡ true → option_copied r ≡ node m z → r ≡ Some b
    → Some c ≡ node_in (attr (look_of b.now) container_key) → has (below m.trees c) z ≡ false → base_of m z ≡ None
base_not m z r b c d h e s k g =
    base_told m z (as_node b.now) d h (node_of_told m z r b e s)
    ∙ (ap (option_and_then (λ c. cond (has (below m.trees c) z) (Some c) None)) (sym k) ∙ ap (λ v. cond v (Some c) None) g)

pub base_none : (m : Tree) (z : ℕ) (r : Option (Bor NodeData)) (b : Bor NodeData) → IsDistinct m.trees → has m.trees z ≡ true → option_copied r ≡ node m z → r ≡ Some b
    → None ≡ node_in (attr (look_of b.now) container_key) → base_of m z ≡ None
base_none m z r b d h e s k =
    base_told m z (as_node b.now) d h (node_of_told m z r b e s) ∙ ap (option_and_then (λ c. cond (has (below m.trees c) z) (Some c) None)) (sym k)

higher : (d : ℕ) (w : Trees Look) (z c : ℕ) → IsDistinct w → has w z ≡ true → depth w z ≤ d → has (below w c) z ≡ true → depth w c < depth w z
higher zero w z c i h l g = absurd (let a = depth_there w z h in omega arith)
higher (suc d) w z c i h l g = go (λ y u b k. higher d w y c i u b k) (parent w z) refl
  where
    go : ((y : ℕ) → has w y ≡ true → depth w y ≤ d → has (below w c) y ≡ true → depth w c < depth w y) → (o : Option ℕ) → parent w z ≡ o → depth w c < depth w z
    go ih None e = absurd (false≢true (sym (none_over_top w c z i e) ∙ g))
    go ih (Some y) e =
        let a = is_above w z y i e in
        let b = a.deep in
        by_go (y == c)
        (λ q. let same : depth w y ≡ depth w c = ap (depth w) (eqb-true y c q) in omega arith)
        (λ q. let deeper : has (below w c) y ≡ true = grind (arith, q, g, a.under c) in
        let less = ih y a.up (omega arith) deeper in omega arith)

-- the container of z
pub record IsOver (w : Trees Look) (z c : ℕ) : Type 0 where
  pub there : has w c ≡ true
  pub less : depth w c < depth w z

pub over_is : (m : Tree) (z c : ℕ) → IsDistinct m.trees → has m.trees z ≡ true → Some c ≡ base_of m z → IsOver m.trees z c
over_is m z c d h e = record { there = has_over; less = higher (depth m.trees z) m.trees z c d h (omega arith) below_it }
  where
    n : (u : Node Look) × (node_at m.trees z ≡ Some u)
    n = node_some m.trees z h

    over : over_of m.trees z n.0.known ≡ Some c
    over = sym (e ∙ base_told m z n.0 d h n.1)

    under : (o : Option ℕ) → option_and_then (λ c. cond (has (below m.trees c) z) (Some c) None) o ≡ Some c → has (below m.trees c) z ≡ true
    under None s = absurd (cc)
    under (Some b) s = by_go (has (below m.trees b) z)
        (λ q. let t : ◌≡◌ {A = Option ℕ} (Some b) (Some c) = rw q at s in
        let same : b ≡ c = cc in
        ap (λ i. has (below m.trees i) z) (sym same) ∙ q)
        (λ q. absurd (let t : ◌≡◌ {A = Option ℕ} None (Some c) = rw q at s in cc))

    below_it : has (below m.trees c) z ≡ true
    below_it = under (node_in (attr n.0.known container_key)) over

    has_over : has m.trees c ≡ true
    has_over = by_go (has m.trees c) (λ g. g) (λ g. absurd (false≢true (ap (λ (v : Trees Look). has v z) (sym (below_absent m.trees c g)) ∙ below_it)))

pub near_more : (j k : ℕ) (o : Origin) → j ≤ k → AreNear j o → AreNear k o
near_more j k o l h =
    let a = h.0.0 in let b = h.0.1 in let c = h.1.0 in let d = h.1.1 in
    ((omega (arith, ints), omega (arith, ints)), (omega (arith, ints), omega (arith, ints)))

pub corner_some : (m : Tree) (z : ℕ) (r : Option (Bor NodeData)) (b : Bor NodeData) (c : ℕ) (o : Origin) → IsDistinct m.trees → has m.trees z ≡ true → option_copied r ≡ node m z → r ≡ Some b
    → Some c ≡ base_of m z → origin_at m.trees c ≡ Some o → origin_at m.trees z ≡ Some (origin_on (as_node b.now) (Some o))
corner_some m z r b c o d h e s k g =
    let n = node_of_told m z r b e s in
    origin_told m z (as_node b.now) d h n
    ∙ (ap (λ v. Some (origin_on (as_node b.now) (option_and_then (λ c. origin_at m.trees c) v))) (sym (k ∙ base_told m z (as_node b.now) d h n)) ∙ ap (λ v. Some (origin_on (as_node b.now) v)) g)

pub corner_none : (m : Tree) (z : ℕ) (r : Option (Bor NodeData)) (b : Bor NodeData) → IsDistinct m.trees → has m.trees z ≡ true → option_copied r ≡ node m z → r ≡ Some b
    → None ≡ base_of m z → origin_at m.trees z ≡ Some (origin_on (as_node b.now) None)
corner_none m z r b d h e s k =
    let n = node_of_told m z r b e s in
    origin_told m z (as_node b.now) d h n
    ∙ ap (λ v. Some (origin_on (as_node b.now) (option_and_then (λ c. origin_at m.trees c) v))) (sym (k ∙ base_told m z (as_node b.now) d h n))

pub bounds_are : (f : Forest) (p : Place) (m : Tree) (r : Option (Bor NodeData)) (b : Bor NodeData) (o : Origin) (x y w h : ℤ) → Some m ≡ live_tree f p.tree → IsDistinct m.trees → has m.trees p.node ≡ true
    → option_copied r ≡ node m p.node → r ≡ Some b → origin_at m.trees p.node ≡ Some o → x ≡ o.x → y ≡ o.y → w ≡ b.now.rect.w → h ≡ b.now.rect.h
    → place_extent f p ≡ Some (record { x = x; y = y; w = w; h = h })
unfolding place_extent
bounds_are f p m r b o x y w h l d g e s k ex ey ew eh =
    ap (option_and_then (λ (m : Tree). extent_of m p.node)) (sym l)
    ∙ (extent_told m p.node (as_node b.now) d g (node_of_told m p.node r b e s)
    ∙ (ap (option_map (extent_at (look_of b.now))) k
    ∙ (λ z. Some (record { x = sym ex z; y = sym ey z; w = sym ew z; h = sym eh z }))))
