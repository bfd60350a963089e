-- What a walk down one tree finds.
use Rattle.std.proofs.Common.{ℕ, zero, suc, ◌+◌, ◌-◌, ◌<◌, ◌≤◌, ◌≡◌, Bor, Bool, true, false, not, ◌&&◌, ◌||◌, eqb, List, [], ◌∷◌, ◌++◌, length, take, drop, get_or, Option, Some, None, refl, sym, ap, ap₂, ◌∙◌, subst, arith, option_map, option_and_then, option_to_list}
use Rattle.std.specs.Prelude.{if◌then◌else◌, is_some}
use Rattle.std.specs.List.{list_any}
use Rattle.std.specs.Option.{option_copied}
use Rattle.std.proofs.lemmas.List.{take-append-drop}
use Rattle.std.proofs.lemmas.Bool.{false≢true, false_from_ne_true, eqb-true}
use Rattle.std.proofs.lemmas.Bool.Decides.{eqb_tells}
use Rattle.ax_base.specs.declared.position.Place.{Place}
use Rattle.ax_base.specs.declared.rect.Point.{Point}
use Rattle.ax_node.specs.Look.{Look, look_of}
use Rattle.ax_node.specs.declared.node.NodeData.{NodeData}
use Rattle.ax_trees.specs.Trees.{Trees, bare, tree, has, has_root, roots, root_of, height, IsDistinct, IsSingle, IsTree}
use Rattle.ax_trees.specs.Nodes.{Node, node_at, below, root_below, children, depth, chain}
use Rattle.ax_trees.specs.Spots.{or_else}
use Rattle.ax_trees.proofs.Trees.{root_in, below_child, distinct_below, has_root_is_root, root_of_in}
use Rattle.ax_trees.proofs.Chains.{chain_of_root}
use Rattle.ax_trees.proofs.Grown.{node_some}
use Rattle.ax_trees.proofs.Parents.{parent_of_child}
use Rattle.ax_trees.proofs.Sizes.{depth_height, depth_there}
use Rattle.ax_views.proofs.Climbing.{IsAbove, is_above}
use Rattle.ax_tree.specs.Tree.{Tree, node, as_node}
use Rattle.ax_tree.specs.Forest.{Forest, IsSound, first_tree, live_tree, hosted_by}
use Rattle.ax_rules.specs.Looks.{attr, is_set}
use Rattle.ax_rules.specs.Rows.{clips_key}
use Rattle.ax_rules.specs.Stitched.{Placed, place_at, stitched, has_place}
use Rattle.ax_rules.specs.Extents.{Origin, origin_under, origins, extent_at, extent_of, place_extent, holds, extent_holds}
use Rattle.ax_rules.specs.Hit.{clips, hit_of}
use Rattle.ax_hit.proofs.Lasts.{hit_is}
use Rattle.ax_stitch.specs.Origins.{AreNear, origin_at}
use Rattle.ax_stitch.specs.Levels.{levels_below, root_at, hung_root}
use Rattle.ax_stitch.proofs.Lists.{step_back}
use Rattle.ax_stitch.proofs.Places.{there_stands, level_from}
use Rattle.ax_stitch.proofs.Sound.{sound_formed, sound_tree}
use Rattle.ax_stitch.proofs.Listed.{child_root, child_lower}
use Rattle.ax_stitch.proofs.Hung.{hung_is, hung_there, hung_rooted, hung_level}
use Rattle.ax_stitch.proofs.Under.{placed}
use Rattle.ax_stitch.proofs.Corners.{near_more, IsLine, line_is, line_front, origin_head, node_of_told, extent_told}
use Rattle.ax_hit.specs.Trails.{AllNear}
use Rattle.ax_hit.specs.Hits.{hides, hit_one, hits_in, hits_of, hits_hung, hits_from, hit_below, hit_from, rest_of, origins_over, last_some}

-- ---- what a node says of the point

or_false : (b : Bool) → (b || false) ≡ b
or_false true = refl
or_false false = refl

origin_is : (m : Tree) (z : ℕ) (b : Bor NodeData) (os : List Origin) → IsDistinct m.trees → has m.trees z ≡ true → node_at m.trees z ≡ Some (as_node b.now) → os ≡ origins_over m.trees z
    → origin_at m.trees z ≡ Some (origin_under os (as_node b.now))
origin_is m z b os d h n e =
    let l = line_is (depth m.trees z) m.trees z d h (omega arith) in
    let both : ◌≡◌ {A = Option (Node Look)} (Some l.node) (Some (as_node b.now)) = sym l.at ∙ n in
    let same : l.node ≡ as_node b.now = cc in
    let over : origins l.above ≡ os = sym (e ∙ ap (λ v. origins (rest_of v)) l.whole) in
    origin_head m.trees z l.node l.above l.whole ∙ ap₂ (λ v u. Some (origin_under v u)) over same

held_is : (f : Forest) (at : Point) (t z : ℕ) (m : Tree) (b : Bor NodeData) (os : List Origin) (o : Origin) → live_tree f t ≡ Some m → IsDistinct m.trees → has m.trees z ≡ true
    → node_at m.trees z ≡ Some (as_node b.now) → os ≡ origins_over m.trees z → o ≡ origin_under os (as_node b.now) → extent_holds f at (place_at t z) ≡ holds (extent_at (look_of b.now) o) at
unfolding extent_holds place_extent
held_is f at t z m b os o l d h n e k =
    ap (λ v. list_any (λ a. holds a at) (option_to_list (option_and_then (λ (m : Tree). extent_of m z) v))) l
    ∙ (ap (λ v. list_any (λ a. holds a at) (option_to_list v)) (extent_told m z (as_node b.now) d h n ∙ ap (option_map (extent_at (look_of b.now))) (origin_is m z b os d h n e ∙ ap Some (sym k)))
    ∙ or_false (holds (extent_at (look_of b.now) o) at))

clips_is : (f : Forest) (t z : ℕ) (m : Tree) (b : Bor NodeData) → has_place (stitched f) (place_at t z) ≡ true → IsSound f → live_tree f t ≡ Some m → node_at m.trees z ≡ Some (as_node b.now)
    → clips (stitched f) (place_at t z) ≡ is_set (attr (look_of b.now) clips_key)
unfolding clips
clips_is f t z m b h w l n =
    let s = placed f (place_at t z) h (sound_formed 8 f t w) in
    let i = s.1 in
    let both : ◌≡◌ {A = Option Tree} (Some i.tree) (Some m) = sym i.live ∙ l in
    let same : i.tree ≡ m = cc in
    let nodes : ◌≡◌ {A = Option (Node Look)} (Some (record { id = z; known = s.0.look; children = i.children })) (Some (as_node b.now)) = sym i.look ∙ (ap (λ (v : Tree). node_at v.trees z) same ∙ n) in
    let one : ◌≡◌ {A = Node Look} (record { id = z; known = s.0.look; children = i.children }) (as_node b.now) = cc in
    let look : s.0.look ≡ look_of b.now = ap (λ (v : Node Look). v.known) one in
    ap (λ o. list_any (λ (s : Placed). is_set (attr s.look clips_key)) (option_to_list o)) i.found
    ∙ (or_false (is_set (attr s.0.look clips_key)) ∙ ap (λ x. is_set (attr x clips_key)) look)

-- how a node stands in the walk
pub record IsVisit (n : ℕ) (f : Forest) (t z : ℕ) (m : Tree) : Type 0 where
  pub live : live_tree f t ≡ Some m
  pub there : has m.trees z ≡ true
  pub level : levels_below 8 f t ≡ Some n
  pub sound : IsSound f
  pub is_tree : IsTree m.trees

pub visited : (n : ℕ) (f : Forest) (t z : ℕ) (m : Tree) → live_tree f t ≡ Some m → has m.trees z ≡ true → levels_below 8 f t ≡ Some n → IsSound f → IsVisit n f t z m
visited n f t z m l h v s = record { live = l; there = h; level = v; sound = s; is_tree = sound_tree f t m s l }

hides_is : (n : ℕ) (f : Forest) (at : Point) (t z : ℕ) (m : Tree) (b : Bor NodeData) (here clipped : Bool) → IsVisit n f t z m → node_at m.trees z ≡ Some (as_node b.now)
    → extent_holds f at (place_at t z) ≡ here → clipped ≡ is_set (attr (look_of b.now) clips_key) → hides f at (place_at t z) ≡ (clipped && not here)
hides_is n f at t z m b here clipped v e h c =
    let stands = there_stands f (place_at t z) n m v.level v.live v.there (sound_formed 8 f t v.sound) in
    ap₂ (λ x y. x && not y) (clips_is f t z m b stands v.sound v.live e ∙ sym c) h

-- ---- the last hit of a node

hit_told : (n : ℕ) (f : Forest) (at : Point) (t z : ℕ) (inner : Trees Look) (hidden here : Bool) (hung below : Option Place) → hides f at (place_at t z) ≡ hidden → extent_holds f at (place_at t z) ≡ here
    → hit_below n f at (place_at t z) ≡ hung → hits_in (extent_holds f at) (hides f at) (hit_below n f at) t inner ≡ below
    → hit_from n f at t z inner ≡ (if hidden then None else or_else hung (or_else below (if here then Some (place_at t z) else None)))
hit_told n f at t z inner hidden here hung below a b c d =
    λ i. if a i then None else or_else (c i) (or_else (d i) (if b i then Some (place_at t z) else None))

-- among the children, the last that has one
hits_listed : (held hidden : Place → Bool) (h : Place → Option Place) (t : ℕ) (w k : Trees Look) → IsDistinct k → ((z : ℕ) → has_root k z ≡ true → root_below k z ≡ below w z)
    → hits_in held hidden h t k ≡ last_some (λ z. hit_one held hidden h (place_at t z) (hits_in held hidden h t (below w z))) (roots k)
hits_listed held hidden h t w bare d e = refl
hits_listed held hidden h t w (tree j x a b) d e =
    let self : eqb j j ≡ true = grind (arith, eqb_tells j j) in
    let inner : a ≡ below w j = (rw self at (e j (grind (arith, self)))) in
    let rest = hits_listed held hidden h t w b d.4 (λ z g.
    let other : eqb j z ≡ false = false_from_ne_true (eqb j z) (λ q. let same : j ≡ z = eqb-true j z q in false≢true (sym d.1 ∙ (ap (has b) same ∙ root_in b z g))) in
    rw other at (e z (rw other g))) in
    ap (λ o. or_else o (hit_one held hidden h (place_at t j) (hits_in held hidden h t a))) rest
    ∙ ap (λ v. or_else (last_some (λ z. hit_one held hidden h (place_at t z) (hits_in held hidden h t (below w z))) (roots b)) (hit_one held hidden h (place_at t j) (hits_in held hidden h t v))) inner

hits_below : (held hidden : Place → Bool) (h : Place → Option Place) (t z : ℕ) (w : Trees Look) → IsDistinct w
    → hits_in held hidden h t (below w z) ≡ last_some (λ z. hit_one held hidden h (place_at t z) (hits_in held hidden h t (below w z))) (children w z)
hits_below held hidden h t z w d = hits_listed held hidden h t w (below w z) (distinct_below w z d) (λ y g. below_child w z y d g)

-- ---- what hangs at a node

pub none_hung : (n : ℕ) (f : Forest) (at : Point) (p : Place) → None ≡ hung_root n f p → hit_below n f at p ≡ None
none_hung zero f at p e = go (hosted_by f p)
  where
    go : (o : Option ℕ) → hits_hung (hits_from 0 (extent_holds f at) (hides f at) f) o ≡ None
    go None = refl
    go (Some c) = refl
none_hung (suc n) f at p e = go (hosted_by f p) e
  where
    in_trees : (c : ℕ) (w : Trees Look) → None ≡ option_map (place_at c) (root_of w) → hits_in (extent_holds f at) (hides f at) (hit_below n f at) c w ≡ None
    in_trees c bare k = refl
    in_trees c (tree i x a b) k = absurd (cc)

    in_tree : (c : ℕ) (o : Option Tree) → None ≡ option_and_then (λ (m : Tree). option_map (place_at c) (root_of m.trees)) o → hits_of (extent_holds f at) (hides f at) (hit_below n f at) c o ≡ None
    in_tree c None k = refl
    in_tree c (Some m) k = in_trees c m.trees k

    go : (o : Option ℕ) → None ≡ option_and_then (root_at f) o → hits_hung (hits_from (suc n) (extent_holds f at) (hides f at) f) o ≡ None
    go None k = refl
    go (Some c) k = in_tree c (live_tree f c) k

rooted : (held hidden : Place → Bool) (h : Place → Option Place) (c r : ℕ) (w : Trees Look) → IsSingle w → root_of w ≡ Some r → hits_in held hidden h c w ≡ hit_one held hidden h (place_at c r) (hits_in held hidden h c (below w r))
rooted held hidden h c r bare s e = absurd (cc)
rooted held hidden h c r (tree i x a b) s e =
    let same : i ≡ r = cc in
    let self : eqb i r ≡ true = grind (arith, same, eqb_tells i r) in
    ap (λ v. or_else (hits_in held hidden h c v) (hit_one held hidden h (place_at c i) (hits_in held hidden h c a))) s
    ∙ (ap (λ j. hit_one held hidden h (place_at c j) (hits_in held hidden h c a)) same ∙ (rw self refl))

some_hung : (n : ℕ) (f : Forest) (at : Point) (p : Place) (c r k : ℕ) (m : Tree) → n ≡ suc k → hosted_by f p ≡ Some c → live_tree f c ≡ Some m → IsSingle m.trees → root_of m.trees ≡ Some r
    → hit_below n f at p ≡ hit_from k f at c r (below m.trees r)
some_hung n f at p c r k m e h l s g =
    ap (λ j. hit_below j f at p) e
    ∙ (ap (hits_hung (hits_from (suc k) (extent_holds f at) (hides f at) f)) h
    ∙ (ap (hits_of (extent_holds f at) (hides f at) (hit_below k f at) c) l ∙ rooted (extent_holds f at) (hides f at) (hit_below k f at) c r m.trees s g))

-- ---- what the body knows

pub record Facts (f : Forest) (at : Point) (p : Place) (hidden here : Bool) : Type 0 where
  pub hid : hides f at p ≡ hidden
  pub held : extent_holds f at p ≡ here

pub facts : (n : ℕ) (f : Forest) (at : Point) (t z : ℕ) (m : Tree) (r : Option (Bor NodeData)) (b : Bor NodeData) (os : List Origin) (o : Origin) (here hidden : Bool) → IsVisit n f t z m → option_copied r ≡ node m z
    → r ≡ Some b → os ≡ origins_over m.trees z → o ≡ origin_under os (as_node b.now) → here ≡ holds (extent_at (look_of b.now) o) at → hidden ≡ (is_set (attr (look_of b.now) clips_key) && not here)
    → Facts f at (place_at t z) hidden here
facts n f at t z m r b os o here hidden v e s line origin h k =
    let told = node_of_told m z r b e s in
    let held = held_is f at t z m b os o v.live v.is_tree.distinct v.there told line origin ∙ sym h in
    record { hid = hides_is n f at t z m b here (is_set (attr (look_of b.now) clips_key)) v told held refl ∙ sym k; held = held }

pub ends_hidden : (n : ℕ) (f : Forest) (at : Point) (t z : ℕ) (inner : Trees Look) (hidden here : Bool) → Facts f at (place_at t z) hidden here → hidden ≡ true → None ≡ hit_from n f at t z inner
ends_hidden n f at t z inner hidden here x h = sym (ap (λ b. if b then None else or_else (hit_below n f at (place_at t z)) (or_else (hits_in (extent_holds f at) (hides f at) (hit_below n f at) t inner) (if extent_holds f at (place_at t z) then Some (place_at t z) else None))) (x.hid ∙ h))

some_first : (o r : Option Place) → is_some o ≡ true → or_else o r ≡ o
some_first None r h = absurd (false≢true h)
some_first (Some x) r h = refl

pub none_is : (o : Option Place) → is_some o ≡ false → o ≡ None
none_is None h = refl
none_is (Some x) h = absurd (false≢true (sym h))

pub ends_hung : (n : ℕ) (f : Forest) (at : Point) (t z : ℕ) (inner : Trees Look) (hidden here : Bool) (found : Option Place) → Facts f at (place_at t z) hidden here → hidden ≡ false
    → hit_below n f at (place_at t z) ≡ found → is_some found ≡ true → found ≡ hit_from n f at t z inner
ends_hung n f at t z inner hidden here found x h e s =
    let below = hits_in (extent_holds f at) (hides f at) (hit_below n f at) t inner in
    sym (hit_told n f at t z inner false here found below (x.hid ∙ h) x.held e refl ∙ some_first found (or_else below (if here then Some (place_at t z) else None)) s)

last_some-append : (hits : ℕ → Option Place) (xs ys : List ℕ) → last_some hits (xs ++ ys) ≡ or_else (last_some hits ys) (last_some hits xs)
last_some-append hits [] ys = none (last_some hits ys)
  where
    none : (o : Option Place) → o ≡ or_else o None
    none None = refl
    none (Some x) = refl
last_some-append hits (x ∷ xs) ys = ap (λ o. or_else o (hits x)) (last_some-append hits xs ys) ∙ assoc (last_some hits ys) (last_some hits xs) (hits x)
  where
    assoc : (a b c : Option Place) → or_else (or_else a b) c ≡ or_else a (or_else b c)
    assoc None b c = refl
    assoc (Some y) b c = refl

goes_back : (hits : ℕ → Option Place) (xs : List ℕ) (i j x : ℕ) (found : Option Place) → i ≡ j + 1 → i ≤ length xs → x ≡ get_or xs j x → last_some hits (drop i xs) ≡ None → found ≡ hits x
    → last_some hits (drop j xs) ≡ found
goes_back hits xs i j x found e l g n h = ap (last_some hits) (step_back xs i j x e l g) ∙ (ap (λ o. or_else o (hits x)) n ∙ sym h)

pub still_none : (hits : ℕ → Option Place) (xs : List ℕ) (i j x : ℕ) (found : Option Place) → i ≡ j + 1 → i ≤ length xs → x ≡ get_or xs j x → last_some hits (drop i xs) ≡ None → found ≡ hits x → is_some found ≡ false
    → last_some hits (drop j xs) ≡ None
still_none hits xs i j x found e l g n h s = goes_back hits xs i j x found e l g n h ∙ none_is found s

found_last : (hits : ℕ → Option Place) (xs : List ℕ) (j : ℕ) (found : Option Place) → last_some hits (drop j xs) ≡ found → is_some found ≡ true → last_some hits xs ≡ found
found_last hits xs j found e s =
    ap (last_some hits) (sym (take-append-drop j xs)) ∙ (last_some-append hits (take j xs) (drop j xs) ∙ (ap (λ o. or_else o (last_some hits (take j xs))) e ∙ some_first found (last_some hits (take j xs)) s))

pub ends_child : (n : ℕ) (f : Forest) (at : Point) (t z : ℕ) (m : Tree) (hidden here : Bool) (xs : List ℕ) (i j x : ℕ) (found : Option Place) → Facts f at (place_at t z) hidden here → hidden ≡ false
    → hit_below n f at (place_at t z) ≡ None → IsDistinct m.trees → xs ≡ children m.trees z → i ≡ j + 1 → i ≤ length xs → x ≡ get_or xs j x → last_some (λ y. hit_from n f at t y (below m.trees y)) (drop i xs) ≡ None
    → found ≡ hit_from n f at t x (below m.trees x) → is_some found ≡ true → found ≡ hit_from n f at t z (below m.trees z)
ends_child n f at t z m hidden here xs i j x found a h hung d c e l g last found_is s =
    let hits : ℕ → Option Place = λ y. hit_from n f at t y (below m.trees y) in
    let inner = hits_below (extent_holds f at) (hides f at) (hit_below n f at) t z m.trees d ∙ (ap (last_some hits) (sym c) ∙ found_last hits xs j found (goes_back hits xs i j x found e l g last found_is) s) in
    sym (hit_told n f at t z (below m.trees z) false here None found (a.hid ∙ h) a.held hung inner ∙ some_first found (if here then Some (place_at t z) else None) s)

pub ends_here : (n : ℕ) (f : Forest) (at : Point) (t z : ℕ) (m : Tree) (hidden here : Bool) (xs : List ℕ) (i : ℕ) (own : Option Place) → Facts f at (place_at t z) hidden here → hidden ≡ false
    → hit_below n f at (place_at t z) ≡ None → IsDistinct m.trees → xs ≡ children m.trees z → i ≤ 0 → last_some (λ y. hit_from n f at t y (below m.trees y)) (drop i xs) ≡ None
    → own ≡ (if here then Some (place_at t z) else None) → own ≡ hit_from n f at t z (below m.trees z)
ends_here n f at t z m hidden here xs i own a h hung d c l last o =
    let hits : ℕ → Option Place = λ y. hit_from n f at t y (below m.trees y) in
    let zero_is : i ≡ 0 = omega arith in
    let whole : last_some hits xs ≡ None = sym (ap (λ k. last_some hits (drop k xs)) zero_is) ∙ last in
    let inner = hits_below (extent_holds f at) (hides f at) (hit_below n f at) t z m.trees d ∙ (ap (last_some hits) (sym c) ∙ whole) in
    o ∙ sym (hit_told n f at t z (below m.trees z) false here None None (a.hid ∙ h) a.held hung inner)

-- where a tree without a hit hangs
pub ends_lone : (n : ℕ) (f : Forest) (at : Point) (t z : ℕ) (m : Tree) (hidden here : Bool) (own : Option Place) → Facts f at (place_at t z) hidden here → hidden ≡ false → hit_below n f at (place_at t z) ≡ None
    → children m.trees z ≡ [] → own ≡ (if here then Some (place_at t z) else None) → own ≡ hit_from n f at t z (below m.trees z)
ends_lone n f at t z m hidden here own a h hung c o = o ∙ sym (hit_told n f at t z (below m.trees z) false here None None (a.hid ∙ h) a.held hung (none (below m.trees z) c))
  where
    none : (w : Trees Look) → roots w ≡ [] → hits_in (extent_holds f at) (hides f at) (hit_below n f at) t w ≡ None
    none bare e = refl
    none (tree i x a b) e = absurd (cc)

-- after a hung tree without a hit
pub passed_hung : (n k : ℕ) (f : Forest) (at : Point) (p q : Place) (m : Tree) (found : Option Place) → Some q ≡ hung_root n f p → Some m ≡ live_tree f q.tree → IsTree m.trees → n ≡ k + 1
    → found ≡ hit_from k f at q.tree q.node (below m.trees q.node) → hit_below n f at p ≡ found
passed_hung n k f at p q m found e l w s h =
    let i = hung_is n f p q e in
    let both : ◌≡◌ {A = Option Tree} (Some m) (Some i.tree) = l ∙ i.live in
    let same : m ≡ i.tree = cc in
    some_hung n f at p q.tree q.node k m (omega arith) i.hosted (sym l) w.one_root (ap (λ (v : Tree). root_of v.trees) same ∙ i.root) ∙ sym h

-- ---- the trees that the walk goes into

pub record IsStart (n : ℕ) (f : Forest) (q : Place) (m : Tree) : Type 0 where
  pub there : has m.trees q.node ≡ true
  pub level : levels_below 8 f q.tree ≡ Some n
  pub line : [] ≡ origins_over m.trees q.node

root_line : (w : Trees Look) (r : ℕ) → IsTree w → root_of w ≡ Some r → [] ≡ origins_over w r
root_line w r t e =
    let h : has w r ≡ true = root_of_in w r e in
    let n = node_some w r h in
    let c : chain w r ≡ r ∷ [] = chain_of_root w r t.distinct (has_root_is_root w r e) in
    sym (ap (λ v. origins (rest_of v)) (line_front w r n.0 [] n.1 c))

pub hung_start : (n : ℕ) (f : Forest) (p q : Place) (inner : Tree) → Some q ≡ hung_root n f p → Some inner ≡ live_tree f q.tree → IsSound f → levels_below 8 f p.tree ≡ Some n → IsStart (n - 1) f q inner
hung_start n f p q inner e l s level = record {
  there = hung_there n f p q inner e l;
  level = hung_level n f p q e level;
  line = root_line inner.trees q.node (sound_tree f q.tree inner s (sym l)) (hung_rooted n f p q inner e l);
}

pub first_start : (f : Forest) (t r : ℕ) (m : Tree) → first_tree f ≡ Some t → Some m ≡ live_tree f t → IsSound f → root_of m.trees ≡ Some r → IsStart 7 f (place_at t r) m
first_start f t r m e l s root = record {
  there = root_of_in m.trees r root;
  level = level_from 0 8 7 f t t e refl refl;
  line = root_line m.trees r (sound_tree f t m s (sym l)) root;
}

near_all : (j k : ℕ) (os : List Origin) → j ≤ k → AllNear j os → AllNear k os
near_all j k [] l a = tt
near_all j k (o ∷ os) l a = (near_more j k o l a.0, near_all j k os l a.1)

pub all_near : (j : ℕ) (w : Trees Look) (z : ℕ) (os : List Origin) → height w ≤ 256 → AllNear (depth w z - 1) os → AllNear 255 os
all_near j w z os low a = near_all (depth w z - 1) 255 os (let d = depth_height w z in omega arith) a

pub record IsNext (m : Tree) (z x : ℕ) (o : Origin) (os deeper : List Origin) : Type 0 where
  pub there : has m.trees x ≡ true
  pub lower : height (below m.trees x) < height (below m.trees z)
  pub line : deeper ≡ origins_over m.trees x
  pub near : AllNear (depth m.trees x - 1) deeper

pub child_next : (n : ℕ) (f : Forest) (t z : ℕ) (m : Tree) (r : Option (Bor NodeData)) (b : Bor NodeData) (o : Origin) (os deeper : List Origin) (xs : List ℕ) (j x : ℕ) → IsVisit n f t z m → option_copied r ≡ node m z → r ≡ Some b
    → os ≡ origins_over m.trees z → o ≡ origin_under os (as_node b.now) → ((k : ℕ) → AllNear k os → AreNear (suc k) o) → AllNear (depth m.trees z - 1) os → deeper ≡ o ∷ os
    → xs ≡ children m.trees z → j < length xs → x ≡ get_or xs j x → IsNext m z x o os deeper
child_next n f t z m r b o os deeper xs j x v e s line origin near all d c l g = record {
  there = above.there;
  lower = child_lower m.trees z x j xs w c l g;
  line = d ∙ ((λ i. origin_z i ∷ line i) ∙ sym whole);
  near = subst (AllNear (depth m.trees x - 1)) (sym d) (first, near_all (depth m.trees z - 1) (depth m.trees x - 1) os (let a = above.deep in omega arith) all);
}
  where
    w : IsDistinct m.trees
    w = v.is_tree.distinct

    root : has_root (below m.trees z) x ≡ true
    root = child_root m.trees z x j xs c l g

    above : IsAbove m.trees x z
    above = is_above m.trees x z w (parent_of_child m.trees z x w root)

    node_x : (u : Node Look) × (node_at m.trees x ≡ Some u)
    node_x = node_some m.trees x above.there

    told : node_at m.trees z ≡ Some (as_node b.now)
    told = node_of_told m z r b e s

    line_z : IsLine m.trees z
    line_z = line_is (depth m.trees z) m.trees z w v.there (omega arith)

    origin_z : o ≡ origin_under (origins_over m.trees z) (as_node b.now)
    origin_z = origin ∙ ap (λ p. origin_under p (as_node b.now)) line

    whole : origins_over m.trees x ≡ origin_under (origins_over m.trees z) (as_node b.now) ∷ origins_over m.trees z
    whole =
        let both : ◌≡◌ {A = Option (Node Look)} (Some line_z.node) (Some (as_node b.now)) = sym line_z.at ∙ told in
        let same : line_z.node ≡ as_node b.now = cc in
        let rest : origins line_z.above ≡ origins_over m.trees z = sym (ap (λ v. origins (rest_of v)) line_z.whole) in
        ap (λ v. origins (rest_of v)) (line_front m.trees x node_x.0 (chain m.trees z) node_x.1 above.on)
        ∙ (ap origins line_z.whole ∙ ap₂ (λ p q. origin_under p q ∷ p) rest same)

    first : AreNear (depth m.trees x - 1) o
    first = near_more (suc (depth m.trees z - 1)) (depth m.trees x - 1) o (let a = above.deep in let h = depth_there m.trees z v.there in omega arith) (near (depth m.trees z - 1) all)

-- ---- from the first tree

pub gone_first : (f : Forest) (at : Point) (t : ℕ) → first_tree f ≡ Some t → None ≡ live_tree f t → hit_of f at ≡ None
gone_first f at t e l =
    hit_is f at ∙ (ap (hits_hung (hits_from 8 (extent_holds f at) (hides f at) f)) e ∙ ap (hits_of (extent_holds f at) (hides f at) (hit_below 7 f at) t) (sym l))

pub root_first : (f : Forest) (at : Point) (t r : ℕ) (m : Tree) → first_tree f ≡ Some t → Some m ≡ live_tree f t → IsTree m.trees → root_of m.trees ≡ Some r → hit_of f at ≡ hit_from 7 f at t r (below m.trees r)
root_first f at t r m e l w root =
    hit_is f at
    ∙ (ap (hits_hung (hits_from 8 (extent_holds f at) (hides f at) f)) e
    ∙ (ap (hits_of (extent_holds f at) (hides f at) (hit_below 7 f at) t) (sym l) ∙ rooted (extent_holds f at) (hides f at) (hit_below 7 f at) t r m.trees w.one_root root))

pub bare_first : (f : Forest) (at : Point) (t : ℕ) (m : Tree) → first_tree f ≡ Some t → Some m ≡ live_tree f t → root_of m.trees ≡ None → hit_of f at ≡ None
bare_first f at t m e l root =
    hit_is f at
    ∙ (ap (hits_hung (hits_from 8 (extent_holds f at) (hides f at) f)) e
    ∙ (ap (hits_of (extent_holds f at) (hides f at) (hit_below 7 f at) t) (sym l) ∙ none m.trees root))
  where
    none : (w : Trees Look) → root_of w ≡ None → hits_in (extent_holds f at) (hides f at) (hit_below 7 f at) t w ≡ None
    none bare h = refl
    none (tree i x a b) h = absurd (cc)
