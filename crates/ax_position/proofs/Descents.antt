-- The rows of a node, of its children and of what hangs at it.
use Rattle.std.proofs.Common.{ℕ, zero, suc, ◌+◌, ◌-◌, ◌*◌, ◌<◌, ◌≤◌, ◌≡◌, Bool, true, false, ◌&&◌, eqb, List, [], ◌∷◌, ◌++◌, flat_map, length, take, drop, get_or, Bor, Option, Some, None, refl, sym, ap, ◌∙◌, arith, append_assoc, append-nil, option_map, option_and_then}
use Rattle.std.specs.Prelude.{is_some, not}
use Rattle.std.specs.Option.{option_copied}
use Rattle.std.proofs.lemmas.List.{take_more, take_all, take-append-drop}
use Rattle.std.proofs.lemmas.List.Concat.{flat_map-append}
use Rattle.std.proofs.lemmas.Bool.Decides.{eqb_tells}
use Rattle.ax_base.specs.declared.position.Place.{Place}
use Rattle.ax_node.specs.Look.{Look, look_of}
use Rattle.ax_node.specs.declared.node.NodeData.{NodeData}
use Rattle.ax_trees.specs.Trees.{Trees, bare, tree, has, has_root, roots, root_of, height, is_bare, IsDistinct, IsTree}
use Rattle.ax_trees.specs.Nodes.{below, children, tree_at}
use Rattle.ax_trees.specs.Lists.{is_nil}
use Rattle.ax_trees.proofs.Trees.{root_in, below_in}
use Rattle.ax_trees.proofs.Nodes.{tree_at_is}
use Rattle.ax_tree.specs.Tree.{Tree, node, data_of}
use Rattle.ax_tree.specs.Forest.{Forest, IsSound, live_tree, hosted_by}
use Rattle.ax_rules.specs.Stitched.{place_at}
use Rattle.ax_rules.specs.StitchedTree.{PlacedLook, beside, joined_in, joined_of, joined_at, joined_from}
use Rattle.ax_views.proofs.Walking.{height_is, heights_at, children_from}
use Rattle.ax_stitch.specs.Levels.{hung_root, root_at}
use Rattle.ax_stitch.proofs.Parts.{child_parts, whole_tree}
use Rattle.ax_place_laws.specs.Lists.{hung_tree}
use Rattle.ax_position.specs.declared.targets.Targets.{Targets}
use Rattle.ax_position.specs.declared.targets.Within.{Within}
use Rattle.ax_position.specs.Walks.{Row, row_of, folded, tree_rows, node_rows, within_of, IsSettled}

-- ---- lists

pub folded-append : {S : Type 0} (seen : S → Row → S) (s : S) (xs ys : List Row) → folded seen s (xs ++ ys) ≡ folded seen (folded seen s xs) ys
folded-append seen s [] ys = refl
folded-append seen s (x ∷ xs) ys = folded-append seen (seen s x) xs ys

-- a settled state stays
pub folded_settled : {S : Type 0} (seen : S → Row → S) (s : S) (rs : List Row) → IsSettled seen s → folded seen s rs ≡ s
folded_settled seen s [] h = refl
folded_settled seen s (r ∷ rs) h = ap (λ v. folded seen v rs) (h.stays r) ∙ folded_settled seen s rs h

-- ---- the rows of a node

rows-beside : (p : Targets) (v : Within) (a b : Trees PlacedLook) → tree_rows p v (beside a b) ≡ tree_rows p v a ++ tree_rows p v b
rows-beside p v bare b = refl
rows-beside p v (tree i x k r) b =
    let rest = rows-beside p v r b in
    rw rest (simp append_assoc)

bare-beside : (a b : Trees PlacedLook) → is_bare (beside a b) ≡ (is_bare a && is_bare b)
bare-beside bare b = refl
bare-beside (tree i x k r) b = refl

bare-joined : (h : Place → Trees PlacedLook) (t : ℕ) (u : Trees Look) → is_bare (joined_in h t u) ≡ is_nil (roots u)
bare-joined h t bare = refl
bare-joined h t (tree i x k r) = refl

rows_split : (h : Place → Trees PlacedLook) (p : Targets) (v : Within) (t i : ℕ) (x : Look) (a b : Trees Look)
    → tree_rows p v (joined_in h t (tree i x a b)) ≡ tree_rows p v (joined_in h t (tree i x a bare)) ++ tree_rows p v (joined_in h t b)
rows_split h p v t i x a b = simp append-nil

-- the look of a node
record HasLook (w : Trees Look) (z : ℕ) (d : NodeData) : Type 0 where
  known : Look
  tree_is : tree_at w z ≡ tree z known (below w z) bare
  look : look_of d ≡ known

look_there : (m : Tree) (z : ℕ) (d : NodeData) → has m.trees z ≡ true → node m z ≡ Some d → HasLook m.trees z d
look_there m z d h e =
    let a = tree_at_is m.trees z h in
    let s : ◌≡◌ {A = Option NodeData} (Some d) (Some (data_of (record { id = z; known = a.0; children = roots (below m.trees z) }))) = sym e ∙ ap (option_map data_of) a.2 in
    let same : d ≡ data_of (record { id = z; known = a.0; children = roots (below m.trees z) }) = cc in
    record { known = a.0; tree_is = a.1; look = ap look_of same }

pub node_rows_are : (n : ℕ) (f : Forest) (p : Targets) (a : Within) (t : ℕ) (m : Tree) (z : ℕ) (d : NodeData) → IsDistinct m.trees → has m.trees z ≡ true → node m z ≡ Some d
    → node_rows n f p a t m.trees z
    ≡ row_of (place_at t z) (look_of d) (is_nil (children m.trees z) && is_bare (hung_tree n f (place_at t z))) (within_of p (place_at t z) a)
    ∷ (flat_map (node_rows n f p (within_of p (place_at t z) a) t m.trees) (children m.trees z) ++ tree_rows p (within_of p (place_at t z) a) (hung_tree n f (place_at t z)))
node_rows_are n f p a t m z d w h e =
    let l = look_there m z d h e in
    let q = place_at t z in
    let v = within_of p q a in
    let u = below m.trees z in
    let g = hung_tree n f in
    ap (λ b. tree_rows p a (joined_in g t b)) l.tree_is
    ∙ (ap (λ xs. row_of q l.known (is_bare (beside (joined_in g t u) (g q))) v ∷ xs) (append-nil (tree_rows p v (beside (joined_in g t u) (g q))) ∙ rows-beside p v (joined_in g t u) (g q))
    ∙ (ap (λ b. row_of q l.known b v ∷ (tree_rows p v (joined_in g t u) ++ tree_rows p v (g q))) (bare-beside (joined_in g t u) (g q) ∙ ap (λ b. b && is_bare (g q)) (bare-joined g t u))
    ∙ (ap (λ x. row_of q x (is_nil (roots u) && is_bare (g q)) v ∷ (tree_rows p v (joined_in g t u) ++ tree_rows p v (g q))) (sym l.look)
    ∙ ap (λ xs. row_of q (look_of d) (is_nil (roots u) && is_bare (g q)) v ∷ (xs ++ tree_rows p v (g q))) (sym (child_parts (λ b. tree_rows p v (joined_in g t b)) refl (rows_split g p v t) m.trees z w)))))

-- ---- what hangs at a place

-- the root of a tree that hangs there, one level deeper
pub record Hangs (n : ℕ) (f : Forest) (q r : Place) (m : Tree) : Type 0 where
  pub rest : ℕ
  pub levels : n ≡ suc rest
  pub hosted : hosted_by f q ≡ Some r.tree
  pub live : live_tree f r.tree ≡ Some m
  pub rooted : root_of m.trees ≡ Some r.node

pub hangs : (n : ℕ) (f : Forest) (q r : Place) → hung_root n f q ≡ Some r → (m : Tree) × Hangs n f q r m
hangs zero f q r h = absurd (cc)
hangs (suc n) f q r h = go (hosted_by f q) refl h
  where
    root : (c : ℕ) → hosted_by f q ≡ Some c → (m : Tree) → live_tree f c ≡ Some m → (o : Option ℕ) → root_of m.trees ≡ o → option_map (place_at c) o ≡ Some r → (m : Tree) × Hangs (suc n) f q r m
    root c e m l None s k = absurd (cc)
    root c e m l (Some i) s k =
        let same : place_at c i ≡ r = cc in
        let t : c ≡ r.tree = ap (λ (v : Place). v.tree) same in
        (m, record { rest = n; levels = refl; hosted = e ∙ ap Some t; live = ap (live_tree f) (sym t) ∙ l; rooted = s ∙ ap (λ (v : Place). Some v.node) same })

    live : (c : ℕ) → hosted_by f q ≡ Some c → (o : Option Tree) → live_tree f c ≡ o → option_and_then (λ (m : Tree). option_map (place_at c) (root_of m.trees)) o ≡ Some r → (m : Tree) × Hangs (suc n) f q r m
    live c e None l k = absurd (cc)
    live c e (Some m) l k = root c e m l (root_of m.trees) refl k

    go : (o : Option ℕ) → hosted_by f q ≡ o → option_and_then (root_at f) o ≡ Some r → (m : Tree) × Hangs (suc n) f q r m
    go None e k = absurd (cc)
    go (Some c) e k = live c e (live_tree f c) refl k

pub hung_rows : (n : ℕ) (f : Forest) (p : Targets) (q r : Place) (v : Within) (m : Tree) (h : Hangs n f q r m) → IsTree m.trees → tree_rows p v (hung_tree n f q) ≡ node_rows h.rest f p v r.tree m.trees r.node
hung_rows n f p q r v m h w =
    ap (λ k. tree_rows p v (hung_tree k f q)) h.levels
    ∙ (ap (λ o. tree_rows p v (joined_at (joined_from (suc h.rest) f) o)) h.hosted
    ∙ (ap (λ o. tree_rows p v (joined_of (hung_tree h.rest f) r.tree o)) h.live
    ∙ ap (λ u. tree_rows p v (joined_in (hung_tree h.rest f) r.tree u)) (sym (whole_tree m.trees r.node w.one_root h.rooted))))

hung_bare_some : (n : ℕ) (f : Forest) (q r : Place) → hung_root n f q ≡ Some r → is_bare (hung_tree n f q) ≡ false
hung_bare_some n f q r e =
    let h = hangs n f q r e in
    let k = h.1 in
    ap (λ k. is_bare (hung_tree k f q)) k.levels
    ∙ (ap (λ o. is_bare (joined_at (joined_from (suc k.rest) f) o)) k.hosted
    ∙ (ap (λ o. is_bare (joined_of (hung_tree k.rest f) r.tree o)) k.live ∙ go (hung_tree k.rest f) h.0.trees k.rooted))
  where
    go : (g : Place → Trees PlacedLook) (w : Trees Look) → root_of w ≡ Some r.node → is_bare (joined_in g r.tree w) ≡ false
    go g bare s = absurd (cc)
    go g (tree i x a b) s = refl

pub hung_none : (n : ℕ) (f : Forest) (q : Place) → hung_root n f q ≡ None → hung_tree n f q ≡ bare
hung_none zero f q h = go (hosted_by f q)
  where
    go : (o : Option ℕ) → joined_at (joined_from zero f) o ≡ bare
    go None = refl
    go (Some c) = refl
hung_none (suc n) f q h = go (hosted_by f q) h
  where
    root : (c : ℕ) (w : Trees Look) → option_map (place_at c) (root_of w) ≡ None → joined_in (hung_tree n f) c w ≡ bare
    root c bare k = refl
    root c (tree i x a b) k = absurd (cc)

    live : (c : ℕ) (o : Option Tree) → option_and_then (λ (m : Tree). option_map (place_at c) (root_of m.trees)) o ≡ None → joined_of (hung_tree n f) c o ≡ bare
    live c None k = refl
    live c (Some m) k = root c m.trees k

    go : (o : Option ℕ) → option_and_then (root_at f) o ≡ None → joined_at (joined_from (suc n) f) o ≡ bare
    go None k = refl
    go (Some c) k = live c (live_tree f c) k

-- nothing hangs there exactly where there is no root
pub hung_bare : (n : ℕ) (f : Forest) (q : Place) (o : Option Place) → hung_root n f q ≡ o → is_bare (hung_tree n f q) ≡ not (is_some o)
hung_bare n f q None h = ap is_bare (hung_none n f q h)
hung_bare n f q (Some r) h = hung_bare_some n f q r h

-- ---- what a body has walked

pub child_there : (m : Tree) (z c i : ℕ) (xs : List ℕ) → xs ≡ children m.trees z → i < length xs → c ≡ get_or xs i c → has m.trees c ≡ true
child_there m z c i xs e l g =
    below_in m.trees z c (root_in (below m.trees z) c (listed (below m.trees z) i (let n = ap (λ ys. length ys) e in omega (arith, n, l)) (g ∙ ap (λ ys. get_or ys i c) e)))
  where
    listed : {X : Type 0} (u : Trees X) (i : ℕ) → i < length (roots u) → c ≡ get_or (roots u) i c → has_root u c ≡ true
    listed bare i l g = absurd (omega (arith, l))
    listed (tree j x a b) zero l g = let self : eqb j c ≡ true = grind (arith, eqb_tells j c, g) in grind (arith, self)
    listed (tree j x a b) (suc i) l g = let rest = listed b i (omega (arith, l)) g in grind (arith, rest)

pub child_falls : (m : Tree) (z c i n t : ℕ) (xs : List ℕ) → IsDistinct m.trees → xs ≡ children m.trees z → i < length xs → c ≡ get_or xs i c → n * 300 + height (below m.trees z) ≤ t → n * 300 + height (below m.trees c) < t
child_falls m z c i n t xs d e l g h =
    let less = heights_at m.trees (children m.trees z) i c (let n = ap (λ ys. length ys) e in omega (arith, n, l)) (g ∙ ap (λ ys. get_or ys i c) e) in
    let whole = height_is m.trees z d in
    omega (arith, less, whole, h)

flat_more : {A : Type 0} (r : ℕ → List A) (xs : List ℕ) (i c : ℕ) → i < length xs → c ≡ get_or xs i c → flat_map r (take (i + 1) xs) ≡ flat_map r (take i xs) ++ r c
flat_more r xs i c l g =
    ap (flat_map r) (take_more xs i c l ∙ ap (λ y. take i xs ++ y ∷ []) (sym g))
    ∙ (flat_map-append r (take i xs) (c ∷ []) ∙ ap (λ l. flat_map r (take i xs) ++ l) (append-nil (r c)))

pub walked_more : {S : Type 0} (seen : S → Row → S) (r : ℕ → List Row) (from now later : S) (xs : List ℕ) (i c : ℕ) → i < length xs → c ≡ get_or xs i c → now ≡ folded seen from (flat_map r (take i xs))
    → later ≡ folded seen now (r c) → later ≡ folded seen from (flat_map r (take (i + 1) xs))
walked_more seen r from now later xs i c l g h k =
    k ∙ (ap (λ s. folded seen s (r c)) h ∙ (sym (folded-append seen from (flat_map r (take i xs)) (r c)) ∙ ap (folded seen from) (sym (flat_more r xs i c l g))))

-- the place, and its children
pub record Walked {S : Type 0} (seen : S → Row → S) (n : ℕ) (f : Forest) (p : Targets) (a : Within) (t : ℕ) (m : Tree) (z : ℕ) (from to : S) : Type 0 where
  pub rows : folded seen from (node_rows n f p a t m.trees z) ≡ folded seen to (tree_rows p (within_of p (place_at t z) a) (hung_tree n f (place_at t z)))

pub walked : {S : Type 0} (seen : S → Row → S) (n : ℕ) (f : Forest) (p : Targets) (a : Within) (t : ℕ) (m : Tree) (z : ℕ) (d : NodeData) (xs : List ℕ) (i : ℕ) (root : Option Place) (leaf : Bool) (within : Within) (from next to : S)
    → IsDistinct m.trees → has m.trees z ≡ true → Some d ≡ node m z → xs ≡ d.children → root ≡ hung_root n f (place_at t z) → leaf ≡ (is_nil xs && not (is_some root)) → within ≡ (within_of p (place_at t z) a)
    → next ≡ seen from (row_of (place_at t z) (look_of d) leaf within) → length xs ≤ i → to ≡ folded seen next (flat_map (node_rows n f p within t m.trees) (take i xs))
    → Walked seen n f p a t m z from to
walked seen n f p a t m z d xs i root leaf within from next to w h e x o l v s stop g =
    let q = place_at t z in
    let kids : xs ≡ children m.trees z = x ∙ children_from m.trees z d e in
    let all : take i xs ≡ children m.trees z = take_all i xs stop ∙ kids in
    let leaf_is : leaf ≡ (is_nil (children m.trees z) && is_bare (hung_tree n f q)) =
    l ∙ (ap (λ ys. is_nil ys && not (is_some root)) kids ∙ ap (λ b. is_nil (children m.trees z) && b) (sym (hung_bare n f q root (sym o)))) in
    record {
      rows =
          ap (folded seen from) (node_rows_are n f p a t m z d w h (sym e))
          ∙ (folded-append seen (seen from (row_of q (look_of d) (is_nil (children m.trees z) && is_bare (hung_tree n f q)) (within_of p q a))) (flat_map (node_rows n f p (within_of p q a) t m.trees) (children m.trees z))
          (tree_rows p (within_of p q a) (hung_tree n f q))
          ∙ ap (λ u. folded seen u (tree_rows p (within_of p q a) (hung_tree n f q)))
          (ap (λ b. folded seen (seen from (row_of q (look_of d) b (within_of p q a))) (flat_map (node_rows n f p (within_of p q a) t m.trees) (children m.trees z))) (sym leaf_is)
          ∙ (ap (λ b. folded seen (seen from (row_of q (look_of d) leaf b)) (flat_map (node_rows n f p b t m.trees) (children m.trees z))) (sym v)
          ∙ (ap (λ u. folded seen u (flat_map (node_rows n f p within t m.trees) (children m.trees z))) (sym s)
          ∙ (ap (λ ys. folded seen next (flat_map (node_rows n f p within t m.trees) ys)) (sym all) ∙ sym g)))));
    }

pub walked_lone : {S : Type 0} (seen : S → Row → S) (n : ℕ) (f : Forest) (p : Targets) (a : Within) (t : ℕ) (m : Tree) (z : ℕ) (from to : S)
    → Walked seen n f p a t m z from to → None ≡ hung_root n f (place_at t z) → to ≡ folded seen from (node_rows n f p a t m.trees z)
walked_lone seen n f p a t m z from to w e =
    sym (w.rows ∙ ap (λ u. folded seen to (tree_rows p (within_of p (place_at t z) a) u)) (hung_none n f (place_at t z) (sym e)))

pub top_there : {X : Type 0} (w : Trees X) (r : ℕ) → root_of w ≡ Some r → has w r ≡ true
top_there bare r k = absurd (cc)
top_there (tree i x a b) r k = let same : i ≡ r = cc in let self : eqb i r ≡ true = grind (arith, same, eqb_tells i r) in grind (arith, self)

-- the tree m that hangs at q by its root r
pub record Hung (n : ℕ) (f : Forest) (q r : Place) (m : Tree) : Type 0 where
  pub rest : ℕ
  pub levels : n ≡ rest + 1
  pub live : live_tree f r.tree ≡ Some m
  pub formed : IsTree m.trees
  pub there : has m.trees r.node ≡ true
  pub rows : (p : Targets) (v : Within) → tree_rows p v (hung_tree n f q) ≡ node_rows rest f p v r.tree m.trees r.node

pub hung_there : (n : ℕ) (f : Forest) (q r : Place) → IsSound f → hung_root n f q ≡ Some r → (m : Tree) × Hung n f q r m
hung_there n f q r w e =
    let h = hangs n f q r e in
    let k = h.1 in
    let t = (w.live r.tree h.0 k.live).well_formed in
    let levels : n ≡ k.rest + 1 = let a = k.levels in omega (arith, a) in (
      h.0,
      record {
        rest = k.rest;
        levels = levels;
        live = k.live;
        formed = t;
        there = top_there h.0.trees r.node k.rooted;
        rows = λ p v. hung_rows n f p q r v h.0 k t;
      },
    )

pub walked_hung : {S : Type 0} (seen : S → Row → S) (n : ℕ) (f : Forest) (p : Targets) (a within : Within) (t : ℕ) (m : Tree) (z k : ℕ) (r : Place) (b : Tree) (from to end : S)
    → Walked seen n f p a t m z from to → within ≡ (within_of p (place_at t z) a) → IsSound f → Some r ≡ hung_root n f (place_at t z) → Some b ≡ live_tree f r.tree → k ≡ n - 1
    → end ≡ folded seen to (node_rows k f p within r.tree b.trees r.node) → end ≡ folded seen from (node_rows n f p a t m.trees z)
walked_hung seen n f p a within t m z k r b from to end w v y e l s g =
    let h = hung_there n f (place_at t z) r y (sym e) in
    let both : ◌≡◌ {A = Option Tree} (Some h.0) (Some b) = sym h.1.live ∙ sym l in
    let same : h.0 ≡ b = cc in
    let rest : k ≡ h.1.rest = let a = h.1.levels in omega (arith, a, s) in
    g ∙ sym (w.rows
    ∙ (ap (λ c. folded seen to (tree_rows p c (hung_tree n f (place_at t z)))) (sym v)
    ∙ (ap (folded seen to) (h.1.rows p within)
    ∙ (ap (λ j. folded seen to (node_rows j f p within r.tree h.0.trees r.node)) (sym rest)
    ∙ ap (λ (u : Tree). folded seen to (node_rows k f p within r.tree u.trees r.node)) same))))

-- ---- where the state is settled among the children, or behind them

pub settled_early : {S : Type 0} (seen : S → Row → S) (n : ℕ) (f : Forest) (p : Targets) (a : Within) (t : ℕ) (m : Tree) (z : ℕ) (d : NodeData) (xs : List ℕ) (i : ℕ) (root : Option Place) (leaf : Bool) (within : Within) (from next to : S)
    → IsDistinct m.trees → has m.trees z ≡ true → Some d ≡ node m z → xs ≡ d.children → root ≡ hung_root n f (place_at t z) → leaf ≡ (is_nil xs && not (is_some root)) → within ≡ (within_of p (place_at t z) a)
    → next ≡ seen from (row_of (place_at t z) (look_of d) leaf within) → to ≡ folded seen next (flat_map (node_rows n f p within t m.trees) (take i xs)) → IsSettled seen to
    → to ≡ folded seen from (node_rows n f p a t m.trees z)
settled_early seen n f p a t m z d xs i root leaf within from next to w h e x o l v s g k =
    let rows = node_rows n f p within t m.trees in
    let parts : flat_map rows xs ≡ flat_map rows (take i xs) ++ flat_map rows (drop i xs) = ap (flat_map rows) (sym (take-append-drop i xs)) ∙ flat_map-append rows (take i xs) (drop i xs) in
    let all : folded seen next (flat_map rows (take (length xs) xs)) ≡ to =
    ap (λ ys. folded seen next (flat_map rows ys)) (take_all (length xs) xs (omega arith))
    ∙ (ap (folded seen next) parts
    ∙ (folded-append seen next (flat_map rows (take i xs)) (flat_map rows (drop i xs))
    ∙ (ap (λ u. folded seen u (flat_map rows (drop i xs))) (sym g) ∙ folded_settled seen to (flat_map rows (drop i xs)) k))) in
    let whole = walked seen n f p a t m z d xs (length xs) root leaf within from next to w h e x o l v s (omega arith) (sym all) in
    sym (whole.rows ∙ folded_settled seen to (tree_rows p (within_of p (place_at t z) a) (hung_tree n f (place_at t z))) k)

pub node_is : (m : Tree) (z : ℕ) (r : Option (Bor NodeData)) (b : Bor NodeData) → option_copied r ≡ node m z → r ≡ Some b → Some b.now ≡ node m z
node_is m z r b e s = sym (ap option_copied s) ∙ e
