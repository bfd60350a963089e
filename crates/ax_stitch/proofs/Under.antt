-- What the list has at each place: the places above it, and what is known of its node.
use Rattle.std.proofs.Common.{ℕ, zero, suc, ◌<◌, ◌≡◌, true, false, ◌==◌, ◌⊎◌, inl, inr, eqb, find, List, [], ◌∷◌, ◌++◌, flat_map, Option, Some, None, refl, sym, ap, ◌∙◌, subst, arith, append-nil, option_to_list, option_map, option_and_then}
use Rattle.std.specs.Prelude.{IfSome}
use Rattle.std.specs.List.{list_any}
use Rattle.std.proofs.lemmas.Bool.Decides.{eqb_tells}
use Rattle.std.proofs.lemmas.Bool.{false≢true, false_from_ne_true}
use Rattle.ax_base.specs.declared.position.Place.{Place}
use Rattle.ax_node.specs.Look.{Look}
use Rattle.ax_trees.specs.Trees.{Trees, bare, tree, has, has_root, roots, IsDistinct}
use Rattle.ax_trees.specs.Nodes.{node_at, parent}
use Rattle.ax_trees.specs.Spots.{or_else}
use Rattle.ax_trees.proofs.Trees.{by_go, root_in}
use Rattle.ax_trees.proofs.PlacedParents.{parent_none}
use Rattle.ax_tree.specs.Tree.{Tree}
use Rattle.ax_tree.specs.Forest.{Forest, first_tree, live_tree, host_of, hosted_by}
use Rattle.ax_rules.specs.Sequences.{first_of}
use Rattle.ax_rules.specs.Stitched.{Placed, place_at, placed_in, placed_of, placed_from, placed_from_first, stitched, stands_at, find_placed, has_place, parent_of}
use Rattle.ax_views.proofs.Climbing.{root_from_none, child_no_root}
use Rattle.ax_stitch.specs.Levels.{AreFormed, line_in, line_of, line_over, line}
use Rattle.ax_stitch.proofs.Hosts.{AllOf, all_append, found_holds, found_passes, hung_host, first_hangs_nowhere}
use Rattle.ax_stitch.proofs.Climbs.{up, up_once}
use Rattle.ax_stitch.proofs.Around.{formed_distinct, formed_next}
use Rattle.ax_stitch.proofs.Places.{PlaceStands, stands, same_is, formed_less}

-- t and all trees above it are well formed
abbrev pub AllFormed : Forest → ℕ → Type 0
AllFormed f t = (n : ℕ) → AreFormed n f t

pub formed_up : (f : Forest) (t : ℕ) (q : Place) → host_of f t ≡ Some q → AllFormed f t → AllFormed f q.tree
formed_up f t q h w = λ n. formed_next n f q (host_of f t) h (w (suc n)).1

pub all_formed : (j : ℕ) (f : Forest) (t first : ℕ) → host_of f first ≡ None → up j f t ≡ Some first → AreFormed (suc j) f t → AllFormed f t
all_formed j f t first stop h w zero = tt
all_formed zero f t first stop h w (suc n) =
    let same : t ≡ first = cc in
    (w.0, subst (λ o. IfSome o (λ (host : Place). AreFormed n f host.tree)) (sym (ap (host_of f) same ∙ stop)) tt)
all_formed (suc j) f t first stop h w (suc n) = (w.0, go (λ q g v. all_formed j f q first stop g v n) (host_of f t) h w.1)
  where
    go : ((q : ℕ) → up j f q ≡ Some first → AreFormed (suc j) f q → AreFormed n f q) → (o : Option Place) → option_and_then (λ (host : Place). up j f host.tree) o ≡ Some first
        → IfSome o (λ (host : Place). AreFormed (suc j) f host.tree) → IfSome o (λ (host : Place). AreFormed n f host.tree)
    go ih None g v = absurd (cc)
    go ih (Some q) g v = ih q.tree g v

-- ---- a node among the trees of one tree

-- above a node stands its parent, or what its tree hangs below
pub line_first : {X : Type 0} (t : ℕ) (over : List Place) (w : Trees X) (z : ℕ) → IsDistinct w → has w z ≡ true → first_of (line_in t over w z) ≡ or_else (option_map (place_at t) (parent w z)) (first_of over)
line_first t over bare z d h = absurd (false≢true h)
line_first {X} t over (tree i x k r) z d h = by_go (i == z)
    (λ q. let a : has k z ≡ false = false_from_ne_true (has k z) (λ g. grind (arith, q, eqb_tells i z, g, d.0)) in
    let b : has_root k z ≡ false = false_from_ne_true (has_root k z) (λ g. false≢true (sym a ∙ root_in k z g)) in
    let c : has r z ≡ false = false_from_ne_true (has r z) (λ g. grind (arith, q, eqb_tells i z, g, d.1)) in
    let n : parent r z ≡ None = parent_none r z c in
    rw (q, b, a, n) refl)
    (λ q. by_go (has k z)
    (λ g. by_go (has_root k z)
    (λ b. rw (q, g, b) (line_first t (place_at t i ∷ over) k z d.3 g ∙ ap (λ o. or_else (option_map (place_at t) o) (Some (place_at t i))) (top k z d.3 b)))
    (λ b. rw (q, g, b) (line_first t (place_at t i ∷ over) k z d.3 g ∙ inner k z (place_at t i) (first_of over) (λ e. false≢true (sym b ∙ root_from_none k z d.3 g e)))))
    (λ g. let b : has_root k z ≡ false = false_from_ne_true (has_root k z) (λ e. false≢true (sym g ∙ root_in k z e)) in
    rw (q, g, b) (line_first t over r z d.4 (grind (arith, h, q, g)))))
  where
    top : (k : Trees X) (z : ℕ) → IsDistinct k → has_root k z ≡ true → parent k z ≡ None
    top k z d b = go (parent k z) refl
      where
        go : (o : Option ℕ) → parent k z ≡ o → o ≡ None
        go None e = refl
        go (Some y) e = absurd (false≢true (sym (child_no_root k z y d e) ∙ b))

    inner : (k : Trees X) (z : ℕ) (p : Place) (o : Option Place) → (parent k z ≡ None → ⊥) → or_else (option_map (place_at t) (parent k z)) (Some p) ≡ or_else (option_map (place_at t) (parent k z)) o
    inner k z p o n = go (parent k z) refl
      where
        go : (v : Option ℕ) → parent k z ≡ v → or_else (option_map (place_at t) v) (Some p) ≡ or_else (option_map (place_at t) v) o
        go None e = absurd (n e)
        go (Some y) e = refl

-- a node of one tree as the list has it
record Own (t : ℕ) (over : List Place) (w : Trees Look) (s : Placed) : Type 0 where
  tree : s.place.tree ≡ t
  there : has w s.place.node ≡ true
  edge : (s.above ≡ over) ⊎ ((y : ℕ) × (first_of s.above ≡ Some (place_at t y)))
  above : IsDistinct w → s.above ≡ line_in t over w s.place.node
  look : IsDistinct w → (js : List ℕ) × (node_at w s.place.node ≡ Some (record { id = s.place.node; known = s.look; children = js }))

own_inner : (t i : ℕ) (x : Look) (over : List Place) (k r : Trees Look) (s : Placed) → Own t (place_at t i ∷ over) k s → Own t over (tree i x k r) s
own_inner t i x over k r s o = record {
  tree = o.tree;
  there = let h = o.there in grind (arith, h);
  edge = inr (edged o.edge);
  above = λ d. let a : eqb i s.place.node ≡ false = other d in let h = o.there in o.above d.3 ∙ (rw (a, h) refl);
  look = λ d. let a : eqb i s.place.node ≡ false = other d in let h = o.there in let l = o.look d.3 in (l.0, rw (a, h) l.1);
}
  where
    other : IsDistinct (tree i x k r) → eqb i s.place.node ≡ false
    other d = let h = o.there in false_from_ne_true (eqb i s.place.node) (λ q. grind (arith, q, eqb_tells i s.place.node, h, d.0))

    edged : (s.above ≡ place_at t i ∷ over) ⊎ ((y : ℕ) × (first_of s.above ≡ Some (place_at t y))) → (y : ℕ) × (first_of s.above ≡ Some (place_at t y))
    edged (inl e) = (i, ap first_of e)
    edged (inr e) = e

own_later : (t i : ℕ) (x : Look) (over : List Place) (k r : Trees Look) (s : Placed) → Own t over r s → Own t over (tree i x k r) s
own_later t i x over k r s o = record {
  tree = o.tree;
  there = let h = o.there in grind (arith, h);
  edge = o.edge;
  above = λ d. let a : eqb i s.place.node ≡ false = other d in let b : has k s.place.node ≡ false = apart d in o.above d.4 ∙ (rw (a, b) refl);
  look = λ d. let a : eqb i s.place.node ≡ false = other d in let b : has k s.place.node ≡ false = apart d in let l = o.look d.4 in (l.0, rw (a, b) l.1);
}
  where
    other : IsDistinct (tree i x k r) → eqb i s.place.node ≡ false
    other d = let h = o.there in false_from_ne_true (eqb i s.place.node) (λ q. grind (arith, q, eqb_tells i s.place.node, h, d.1))

    apart : IsDistinct (tree i x k r) → has k s.place.node ≡ false
    apart d = false_from_ne_true (has k s.place.node) (λ q. false≢true (sym (d.2.apart s.place.node q) ∙ o.there))

own_here : (t i : ℕ) (x : Look) (over : List Place) (k r : Trees Look) → Own t over (tree i x k r) (record { place = place_at t i; above = over; look = x })
own_here t i x over k r = record {
  tree = refl;
  there = let q = self in grind (arith, q);
  edge = inl refl;
  above = λ d. let q = self in rw q refl;
  look = λ d. let q = self in (roots k, rw q refl);
}
  where
    self : eqb i i ≡ true
    self = grind (arith, eqb_tells i i)

-- P holds of all places from a tree on, where it holds of the tree's own and of those that hang in it
own_all : (P : Placed → Type 0) (hs : Place → List Place → List Placed) (t : ℕ) (over : List Place) (w : Trees Look) → ((s : Placed) → Own t over w s → P s)
    → ((s : Placed) → Own t over w s → AllOf P (hs s.place (s.place ∷ s.above))) → AllOf P (placed_in hs t over w)
own_all P hs t over bare e k = tt
own_all P hs t over (tree i x a b) e k = (
  e (record { place = place_at t i; above = over; look = x }) (own_here t i x over a b),
  all_append P (placed_in hs t (place_at t i ∷ over) a ++ hs (place_at t i) (place_at t i ∷ over)) (placed_in hs t over b)
      (all_append P (placed_in hs t (place_at t i ∷ over) a) (hs (place_at t i) (place_at t i ∷ over))
      (own_all P hs t (place_at t i ∷ over) a (λ s o. e s (own_inner t i x over a b s o)) (λ s o. k s (own_inner t i x over a b s o)))
      (k (record { place = place_at t i; above = over; look = x }) (own_here t i x over a b)))
      (own_all P hs t over b (λ s o. e s (own_later t i x over a b s o)) (λ s o. k s (own_later t i x over a b s o))),
)

-- ---- through the levels

pub record Known (f : Forest) (first : ℕ) (s : Placed) : Type 0 where
  pub tree : Tree
  pub live : live_tree f s.place.tree ≡ Some tree
  pub steps : ℕ
  pub climbs : up steps f s.place.tree ≡ Some first
  pub above : s.above ≡ line (suc steps) f s.place
  pub distinct : IsDistinct tree.trees
  pub children : List ℕ
  pub look : node_at tree.trees s.place.node ≡ Some (record { id = s.place.node; known = s.look; children = children })

pub record FirstTold (f : Forest) (first : ℕ) (s : Placed) : Type 0 where
  pub edge : (first_of s.above ≡ host_of f s.place.tree) ⊎ ((y : ℕ) × (first_of s.above ≡ Some (place_at s.place.tree y)))
  pub known : AllFormed f s.place.tree → Known f first s

-- how a tree stands below the places over it
record Below (f : Forest) (first t k : ℕ) (over : List Place) : Type 0 where
  climbs : up k f t ≡ Some first
  edge : first_of over ≡ host_of f t
  line : AllFormed f t → over ≡ line_over (line k f) (host_of f t)

own_told : (f : Forest) (first t k : ℕ) (over : List Place) (m : Tree) → live_tree f t ≡ Some m → Below f first t k over → (s : Placed) → Own t over m.trees s → FirstTold f first s
own_told f first t k over m l b s o = record {
  edge = edged o.edge;
  known = λ w.
      let v : AllFormed f t = subst (AllFormed f) o.tree w in
      let d : IsDistinct m.trees = formed_distinct m (live_tree f t) l (v 1).0 in
      let live : live_tree f s.place.tree ≡ Some m = ap (live_tree f) o.tree ∙ l in
      let look = o.look d in
      record {
        tree = m;
        live = live;
        steps = k;
        climbs = ap (up k f) o.tree ∙ b.climbs;
        above =
            o.above d ∙ (ap (λ v. line_in t v m.trees s.place.node) (b.line v)
            ∙ (ap (λ v. line_of t (line_over (line k f) (host_of f t)) v s.place.node) (sym l)
            ∙ ap (λ u. line_of u (line_over (line k f) (host_of f u)) (live_tree f u) s.place.node) (sym o.tree)));
        distinct = d;
        children = look.0;
        look = look.1;
      };
}
  where
    edged : (s.above ≡ over) ⊎ ((y : ℕ) × (first_of s.above ≡ Some (place_at t y))) → (first_of s.above ≡ host_of f s.place.tree) ⊎ ((y : ℕ) × (first_of s.above ≡ Some (place_at s.place.tree y)))
    edged (inl e) = inl (ap first_of e ∙ (b.edge ∙ ap (host_of f) (sym o.tree)))
    edged (inr e) = inr (e.0, e.1 ∙ ap (λ u. Some (place_at u e.0)) (sym o.tree))

own_line : (f : Forest) (first t k : ℕ) (over : List Place) (m : Tree) → live_tree f t ≡ Some m → Below f first t k over → (s : Placed) → Own t over m.trees s → AllFormed f t → s.above ≡ line (suc k) f s.place
own_line f first t k over m l b s o w =
    o.above (formed_distinct m (live_tree f t) l (w 1).0) ∙ (ap (λ v. line_in t v m.trees s.place.node) (b.line w)
    ∙ (ap (λ v. line_of t (line_over (line k f) (host_of f t)) v s.place.node) (sym l)
    ∙ ap (λ u. line_of u (line_over (line k f) (host_of f u)) (live_tree f u) s.place.node) (sym o.tree)))

-- the tree that hangs at a place stands below it
hung_below : (f : Forest) (first t k : ℕ) (over : List Place) (m : Tree) → live_tree f t ≡ Some m → Below f first t k over → (s : Placed) → Own t over m.trees s → (c : ℕ) → host_of f c ≡ Some s.place
    → Below f first c (suc k) (s.place ∷ s.above)
hung_below f first t k over m l b s o c h = record {
  climbs = ap (option_and_then (λ (host : Place). up k f host.tree)) h ∙ (ap (up k f) o.tree ∙ b.climbs);
  edge = sym h;
  line = λ w. ap (λ v. s.place ∷ v) (own_line f first t k over m l b s o (subst (AllFormed f) o.tree (formed_up f c s.place h w))) ∙ ap (line_over (line (suc k) f)) (sym h);
}

told_from : (n : ℕ) (f : Forest) (first t k : ℕ) (over : List Place) → Below f first t k over → AllOf (FirstTold f first) (placed_from n f t over)
told_from zero f first t k over b = tt
told_from (suc n) f first t k over b = own (λ c j v g. told_from n f first c j v g) (live_tree f t) refl
  where
    at : ((c j : ℕ) (v : List Place) → Below f first c j v → AllOf (FirstTold f first) (placed_from n f c v)) → (m : Tree) → live_tree f t ≡ Some m → (s : Placed) → Own t over m.trees s
        → (o : Option ℕ) → hosted_by f s.place ≡ o → AllOf (FirstTold f first) (flat_map (λ c. placed_from n f c (s.place ∷ s.above)) (option_to_list o))
    at ih m l s o None e = tt
    at ih m l s o (Some c) e =
        subst (AllOf (FirstTold f first)) (sym (append-nil (placed_from n f c (s.place ∷ s.above)))) (ih c (suc k) (s.place ∷ s.above) (hung_below f first t k over m l b s o c (hung_host f s.place c e)))

    own : ((c j : ℕ) (v : List Place) → Below f first c j v → AllOf (FirstTold f first) (placed_from n f c v)) → (o : Option Tree) → live_tree f t ≡ o
        → AllOf (FirstTold f first) (placed_of (λ p q. flat_map (λ c. placed_from n f c q) (option_to_list (hosted_by f p))) t over o)
    own ih None e = tt
    own ih (Some m) e =
        own_all (FirstTold f first) (λ p q. flat_map (λ c. placed_from n f c q) (option_to_list (hosted_by f p))) t over m.trees (own_told f first t k over m e b)
        (λ s o. at ih m e s o (hosted_by f s.place) refl)

told_first : (f : Forest) (first : ℕ) (o : Option ℕ) → first_tree f ≡ o → o ≡ Some first → AllOf (FirstTold f first) (placed_from_first f o)
told_first f first None e h = absurd (cc)
told_first f first (Some t) e h =
    let same : t ≡ first = cc in
    let none : host_of f t ≡ None = first_hangs_nowhere f t e in
    told_from 8 f first t 0 [] (record { climbs = ap Some same; edge = sym none; line = λ w. ap (line_over (line 0 f)) (sym none) })

pub told : (f : Forest) (first : ℕ) → first_tree f ≡ Some first → AllOf (FirstTold f first) (stitched f)
unfolding stitched
told f first e = told_first f first (first_tree f) refl e

-- ---- one line for each place

pub line_done : (j n : ℕ) (f : Forest) (p : Place) (first : ℕ) → host_of f first ≡ None → up j f p.tree ≡ Some first → j < n → line n f p ≡ line (suc j) f p
line_done j zero f p first stop h l = absurd (omega arith)
line_done zero (suc n) f p first stop h l =
    let same : p.tree ≡ first = cc in
    let none : host_of f p.tree ≡ None = ap (host_of f) same ∙ stop in
    ap (λ o. line_of p.tree (line_over (line n f) o) (live_tree f p.tree) p.node) none ∙ ap (λ o. line_of p.tree (line_over (line 0 f) o) (live_tree f p.tree) p.node) (sym none)
line_done (suc j) (suc n) f p first stop h l =
    ap (λ v. line_of p.tree v (live_tree f p.tree) p.node) (go (λ q g. line_done j n f q first stop g (omega arith)) (host_of f p.tree) h)
  where
    go : ((q : Place) → up j f q.tree ≡ Some first → line n f q ≡ line (suc j) f q) → (o : Option Place) → option_and_then (λ (host : Place). up j f host.tree) o ≡ Some first
        → line_over (line n f) o ≡ line_over (line (suc j) f) o
    go ih None g = absurd (cc)
    go ih (Some q) g = ap (λ v. q ∷ v) (ih q g)

-- a place of the list that is looked up
pub record IsPlaced (f : Forest) (p : Place) (s : Placed) : Type 0 where
  pub found : find_placed (stitched f) p ≡ Some s
  pub at : s.place ≡ p
  pub tree : Tree
  pub live : live_tree f p.tree ≡ Some tree
  pub distinct : IsDistinct tree.trees
  pub there : has tree.trees p.node ≡ true
  pub children : List ℕ
  pub look : node_at tree.trees p.node ≡ Some (record { id = p.node; known = s.look; children = children })
  pub above : s.above ≡ line 8 f p

found_any : (p : Place) (l : List Placed) → list_any (stands_at p) l ≡ true → (s : Placed) × (find (stands_at p) l ≡ Some s)
found_any p [] h = absurd (false≢true h)
found_any p (s ∷ l) h = by_go (stands_at p s) (λ q. rw q (s, refl)) (λ q. rw q (found_any p l (rw q at h)))

found_placed : (f : Forest) (p : Place) → has_place (stitched f) p ≡ true → (s : Placed) × (find (stands_at p) (stitched f) ≡ Some s)
unfolding has_place
found_placed f p h = found_any p (stitched f) h

pub placed : (f : Forest) (p : Place) → has_place (stitched f) p ≡ true → AreFormed 8 f p.tree → (s : Placed) × IsPlaced f p s
unfolding find_placed
placed f p h w =
    let there = stands f p h in
    let l = there.level in
    let stop : host_of f l.first ≡ None = first_hangs_nowhere f l.first l.is_first in
    let e = found_placed f p h in
    let at : e.0.place ≡ p = same_is e.0.place p (found_passes (stands_at p) (stitched f) e.0 e.1) in
    let t : FirstTold f l.first e.0 = found_holds (FirstTold f l.first) (stands_at p) (stitched f) e.0 (told f l.first l.is_first) e.1 in
    let n = t.known (subst (λ (q : Place). AllFormed f q.tree) (sym at) (formed f p w there)) in (
      e.0,
      record {
        found = e.1;
        at = at;
        tree = n.tree;
        live = ap (λ (q : Place). live_tree f q.tree) (sym at) ∙ n.live;
        distinct = n.distinct;
        there =
            let both : ◌≡◌ {A = Option Tree} (Some there.tree) (Some n.tree) = sym there.live ∙ (ap (λ (q : Place). live_tree f q.tree) (sym at) ∙ n.live) in
            let same : there.tree ≡ n.tree = cc in
            sym (ap (λ (v : Tree). has v.trees p.node) same) ∙ there.there;
        children = n.children;
        look = subst (λ (q : Place). node_at n.tree.trees q.node ≡ Some (record { id = q.node; known = e.0.look; children = n.children })) at n.look;
        above = n.above ∙ (sym (line_done n.steps 8 f e.0.place l.first stop n.climbs (few f e.0 there n at)) ∙ ap (line 8 f) at);
      },
    )
  where
    formed : (f : Forest) (p : Place) → AreFormed 8 f p.tree → (s : PlaceStands f p) → AllFormed f p.tree
    formed f p w s =
        all_formed s.level.steps f p.tree s.level.first (first_hangs_nowhere f s.level.first s.level.is_first) s.level.climbs (formed_less (suc s.level.steps) 8 f p.tree (let a = s.level.sum in omega arith) w)

    few : (f : Forest) (s : Placed) (there : PlaceStands f p) (n : Known f there.level.first s) → s.place ≡ p → n.steps < 8
    few f s there n at =
        let a = up_once f n.steps there.level.steps s.place.tree there.level.first (first_hangs_nowhere f there.level.first there.level.is_first) n.climbs (ap (λ (q : Place). up there.level.steps f q.tree) at ∙ there.level.climbs) in
        let b = there.level.sum in
        omega arith

pub first_over : (n : ℕ) (f : Forest) (o : Option Place) → first_of (line_over (line n f) o) ≡ o
first_over n f None = refl
first_over n f (Some q) = refl

-- above a place stands its parent in its tree, or the host of its tree
pub parent_told : (f : Forest) (p : Place) (m : Tree) → has_place (stitched f) p ≡ true → AreFormed 8 f p.tree → Some m ≡ live_tree f p.tree
    → option_and_then parent_of (find_placed (stitched f) p) ≡ or_else (option_map (place_at p.tree) (parent m.trees p.node)) (host_of f p.tree)
parent_told f p m h w l =
    let s = placed f p h w in
    let i = s.1 in
    let both : ◌≡◌ {A = Option Tree} (Some m) (Some i.tree) = l ∙ i.live in
    let same : m ≡ i.tree = cc in
    ap (option_and_then parent_of) i.found
    ∙ (ap first_of (i.above ∙ ap (λ o. line_of p.tree (line_over (line 7 f) (host_of f p.tree)) o p.node) i.live)
    ∙ (line_first p.tree (line_over (line 7 f) (host_of f p.tree)) i.tree.trees p.node i.distinct i.there
    ∙ (ap (or_else (option_map (place_at p.tree) (parent i.tree.trees p.node))) (first_over 7 f (host_of f p.tree))
    ∙ ap (λ (v : Tree). or_else (option_map (place_at p.tree) (parent v.trees p.node)) (host_of f p.tree)) (sym same))))

pub parent_some : (f : Forest) (p : Place) (m : Tree) (y : ℕ) → has_place (stitched f) p ≡ true → AreFormed 8 f p.tree → Some m ≡ live_tree f p.tree → parent m.trees p.node ≡ Some y
    → option_and_then parent_of (find_placed (stitched f) p) ≡ Some (place_at p.tree y)
parent_some f p m y h w l e = parent_told f p m h w l ∙ ap (λ o. or_else (option_map (place_at p.tree) o) (host_of f p.tree)) e

pub parent_host : (f : Forest) (p : Place) (m : Tree) → has_place (stitched f) p ≡ true → AreFormed 8 f p.tree → Some m ≡ live_tree f p.tree → parent m.trees p.node ≡ None
    → option_and_then parent_of (find_placed (stitched f) p) ≡ host_of f p.tree
parent_host f p m h w l e = parent_told f p m h w l ∙ ap (λ o. or_else (option_map (place_at p.tree) o) (host_of f p.tree)) e
