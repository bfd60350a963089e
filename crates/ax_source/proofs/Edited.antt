-- The entries and the marks after each edit.
use Rattle.std.proofs.Common.{ℕ, ◌≡◌, ◌≤◌, Bool, true, false, cond, not, ◌||◌, eqb, List, [], ◌∷◌, ◌++◌, length, Option, Some, None, refl, sym, ap, ◌∙◌, subst, arith}
use Rattle.std.specs.Prelude.{nat_eq, filter, option_map, is_some, unwrap_or, IfSome, IsTrue}
use Rattle.std.specs.HashMap.{get}
use Rattle.std.specs.Map.{lookup}
use Rattle.std.proofs.lemmas.Bool.Decides.{eqb_tells}
use Rattle.std.proofs.lemmas.Bool.{false_from_ne_true, false≢true, eqb-true}
use Rattle.ax_node.specs.Look.{Look, look_of}
use Rattle.ax_node.specs.declared.node.NodeData.{NodeData}
use Rattle.ax_trees.specs.Trees.{Trees, bare, tree, has, has_root, count, is_root, IsDistinct}
use Rattle.ax_trees.specs.Nodes.{Node, node_at, below, children, parent, parent_or, pre, tree_at}
use Rattle.ax_trees.specs.Changes.{with_below, with_known, planted, pruned}
use Rattle.ax_trees.specs.Lists.{contains}
use Rattle.ax_trees.specs.Spots.{Spot, spot, inserted, removed}
use Rattle.ax_trees.proofs.Trees.{by_go, root_in, below_in, not_below_self, below_trans}
use Rattle.ax_trees.proofs.Lists.{contains-push, filter_in, filter_kept}
use Rattle.ax_trees.proofs.Times.{has-spot, contains-ids}
use Rattle.ax_trees.proofs.Nodes.{has-tree_at}
use Rattle.ax_trees.proofs.Changed.{has-with_known, roots-with_known, height_known}
use Rattle.ax_trees.proofs.Moved.{height_pruned, pruned_gone, pruned_rest}
use Rattle.ax_trees.proofs.Parents.{listed_children, child_listed, parent_or-parent, parent_of_child, child_of_parent, node_children}
use Rattle.ax_trees.proofs.Placed.{removed_absent}
use Rattle.ax_trees.proofs.Sizes.{count_pruned}
use Rattle.ax_tree.specs.MarkRule.{add_mark, add_marks}
use Rattle.ax_views.specs.Kept.{Keeps}
use Rattle.ax_views.proofs.Climbing.{is_above}
use Rattle.ax_views.proofs.Spotting.{spot_children, spot_known, spot_alone, tree_alone, spot_planted, tree_planted, roots-with_below, spot_pruned, tree_pruned, roots_pruned, spot_changed, tree_changed, spot_after_move, spot_moved, tree_moved, stays_there}
use Rattle.ax_source.specs.declared.entries.Entry.{Entry}
use Rattle.ax_source.specs.Changes.{child_added, child_dropped, relinked, Plants, Relinks}
use Rattle.ax_source.specs.Kept.{SourceEntries, IsSource, entry_of}
use Rattle.ax_source.specs.Marking.{less}
use Rattle.ax_source.proofs.Allowed.{MayInsert, MayMove}
use Rattle.ax_source.proofs.Linked.{length-others}

-- ---- marks

contains-add_mark : (m : List ℕ) (y z : ℕ) → contains (add_mark m y) z ≡ true → (contains m z || eqb y z) ≡ true
contains-add_mark m y z h =
    by_go (contains m y)
    (λ q. let h' : contains m z ≡ true = rw q at h in grind (arith, h'))
    (λ q. let h' : contains (m ++ y ∷ []) z ≡ true = rw q at h in sym (contains-push m y z) ∙ h')

-- marks of nodes stay such with one more
pub marked_add : (q : ℕ → Bool) (m : List ℕ) (y : ℕ) → ((z : ℕ) → contains m z ≡ true → q z ≡ true) → q y ≡ true → (z : ℕ) → contains (add_mark m y) z ≡ true → q z ≡ true
marked_add q m y h t z c =
    by_go (contains m z)
    (λ s. h z s)
    (λ s. subst (λ v. q v ≡ true) (eqb-true y z (grind (arith, contains-add_mark m y z c, s))) t)

pub marked_add_all : (q : ℕ → Bool) (m ys : List ℕ) → ((z : ℕ) → contains m z ≡ true → q z ≡ true) → ((z : ℕ) → contains ys z ≡ true → q z ≡ true) → (z : ℕ) → contains (add_marks m ys) z ≡ true → q z ≡ true
marked_add_all q m [] h t z c = h z c
marked_add_all q m (y ∷ ys) h t z c =
    marked_add_all q (add_mark m y) ys (marked_add q m y h (t y (grind (arith, eqb_tells y y)))) (λ v g. t v (grind (arith, g))) z c

pub filter_all : (q : ℕ → Bool) (m : List ℕ) → ((z : ℕ) → contains m z ≡ true → q z ≡ true) → filter q m ≡ m
filter_all q [] h = refl
filter_all q (x ∷ m) h =
    let t : q x ≡ true = h x (grind (arith, eqb_tells x x)) in
    rw t (ap (λ xs. x ∷ xs) (filter_all q m (λ z g. h z (grind (arith, g)))))

filter_same : (p q : ℕ → Bool) (m : List ℕ) → ((z : ℕ) → contains m z ≡ true → p z ≡ q z) → filter p m ≡ filter q m
filter_same p q [] h = refl
filter_same p q (x ∷ m) h =
    let e : p x ≡ q x = h x (grind (arith, eqb_tells x x)) in
    let ih : filter p m ≡ filter q m = filter_same p q m (λ z g. h z (grind (arith, g))) in
    by_go (q x) (λ t. let s : p x ≡ true = e ∙ t in rw (s, t, ih) refl) (λ t. let s : p x ≡ false = e ∙ t in rw (s, t, ih) refl)

filter-push : (p : ℕ → Bool) (m : List ℕ) (y : ℕ) → p y ≡ true → filter p (m ++ y ∷ []) ≡ filter p m ++ y ∷ []
filter-push p [] y h = rw h refl
filter-push p (x ∷ m) y h = by_go (p x) (λ q. rw (q, filter-push p m y h) refl) (λ q. rw (q, filter-push p m y h) refl)

-- what is added may be added before others go
filter-add : (p : ℕ → Bool) (m : List ℕ) (y : ℕ) → p y ≡ true → filter p (add_mark m y) ≡ add_mark (filter p m) y
filter-add p m y h =
    by_go (contains m y)
    (λ q. let r : contains (filter p m) y ≡ true = filter_kept p m y q h in rw (q, r) refl)
    (λ q. let r : contains (filter p m) y ≡ false = false_from_ne_true (contains (filter p m) y) (λ g. false≢true (sym q ∙ (filter_in p m y g).0)) in rw (q, r) (filter-push p m y h))

-- ---- marks alone

pub mark_source : (e : SourceEntries) (root : Option ℕ) (m l : List ℕ) (f : Trees Look) (id : ℕ) → IsSource e root m f → has f id ≡ true → l ≡ add_mark m id → IsSource e root l f
mark_source e root m l f id s t q = record { keeps = s.keeps; few = s.few; marked = λ z c. marked_add (has f) m id s.marked t z (ap (λ k. contains k z) (sym q) ∙ c) }

pub mark_below_source : (e : SourceEntries) (root : Option ℕ) (m l : List ℕ) (f : Trees Look) (id : ℕ) → IsSource e root m f → has f id ≡ true → l ≡ add_marks m (pre f id) → IsSource e root l f
mark_below_source e root m l f id s t q = record {
  keeps = s.keeps;
  few = s.few;
  marked = λ z c. marked_add_all (has f) m (pre f id) s.marked (λ y u. inside y (sym (contains-ids (tree_at f id) y ∙ has-tree_at f id y t) ∙ u)) z (ap (λ k. contains k z) (sym q) ∙ c);
}
  where
    inside : (y : ℕ) → (eqb id y || has (below f id) y) ≡ true → has f y ≡ true
    inside y u = by_go (eqb id y) (λ v. subst (λ x. has f x ≡ true) (eqb-true id y v) t) (λ v. below_in f id y (grind (arith, u, v)))

-- ---- nothing, and the root

pub empty_source : (n : SourceEntries) (m : List ℕ) → n.entries ≡ [] → m ≡ [] → IsSource n None m bare
empty_source n m e q = record {
  keeps = record { at = λ z. ap (λ es. lookup (nat_eq z) es) e; is_tree = record { one_root = tt; distinct = tt }; tops = refl; low = omega arith };
  few = omega arith;
  marked = λ z c. absurd (false≢true (ap (λ k. contains k z) (sym q) ∙ c));
}

pub root_source : (n : SourceEntries) (i : ℕ) (node : NodeData) (m : List ℕ) → node.children ≡ [] → node.id ≡ i
    → ((z : ℕ) → get nat_eq n z ≡ cond (eqb i z) (Some (record { node = node; above = None })) None) → m ≡ i ∷ []
    → IsSource n (Some i) m (tree i (look_of node) bare bare)
root_source n i node m leaf is h e = record {
  keeps = record {
    at = λ z. h z ∙ (by_go (eqb i z)
        (λ q. ap (λ b. cond b (Some (record { node = node; above = None })) None) q
        ∙ (entry z q ∙ sym (ap (option_map (entry_of z)) (spot_alone i (look_of node) z ∙ ap (λ b. cond b (Some (record { above = None; known = look_of node; children = [] })) None) q))))
        (λ q. ap (λ b. cond b (Some (record { node = node; above = None })) None) q
        ∙ sym (ap (option_map (entry_of z)) (spot_alone i (look_of node) z ∙ ap (λ b. cond b (Some (record { above = None; known = look_of node; children = [] })) None) q))));
    is_tree = tree_alone i (look_of node);
    tops = refl;
    low = omega arith;
  };
  few = omega arith;
  marked = λ z c. let c' : contains (i ∷ []) z ≡ true = ap (λ k. contains k z) (sym e) ∙ c in grind (arith, c');
}
  where
    entry : (z : ℕ) → eqb i z ≡ true → ◌≡◌ {A = Option Entry} (Some (record { node = node; above = None })) (Some (entry_of z (record { above = None; known = look_of node; children = [] })))
    entry z q = subst (λ y. ◌≡◌ {A = Option Entry} (Some (record { node = node; above = None })) (Some (entry_of y (record { above = None; known = look_of node; children = [] })))) (is ∙ eqb-true i z q)
        (ap (λ js. Some (record { node = record node { children = js }; above = None })) leaf)

-- ---- a leaf

spot_of_add : (z i c : ℕ) (o : Option (Spot Look)) → option_map (child_added i c) (option_map (entry_of z) o) ≡ option_map (entry_of z) (option_map (spot_children (inserted i c)) o)
spot_of_add z i c None = refl
spot_of_add z i c (Some s) = refl

has_planted : (f : Trees Look) (p i c : ℕ) (x : Look) (z : ℕ) → IsDistinct f → has f p ≡ true → has f c ≡ false → (eqb c z || has f z) ≡ true → has (with_below (planted i (tree c x bare bare)) f p) z ≡ true
has_planted f p i c x z d h n g =
    has-spot (with_below (planted i (tree c x bare bare)) f p) z
    ∙ (ap is_some (spot_planted f p i c x z d h n)
    ∙ by_go (eqb c z) (λ q. rw q refl) (λ q. rw q (by_go (eqb p z) (λ t. rw t (same (spot f z) (sym (has-spot f z) ∙ grind (arith, g, q)))) (λ t. rw t (sym (has-spot f z) ∙ grind (arith, g, q))))))
  where
    same : (o : Option (Spot Look)) → is_some o ≡ true → is_some (option_map (spot_children (inserted i c)) o) ≡ true
    same None h = absurd (false≢true h)
    same (Some s) h = refl

pub insert_source : (e n : SourceEntries) (root : Option ℕ) (m k : List ℕ) (f : Trees Look) (p i : ℕ) (node : NodeData) → IsSource e root m f → node.children ≡ []
    → MayInsert p i node.id (look_of node) f → Plants (get nat_eq e) (get nat_eq n) p i node.id (record { node = node; above = Some p }) → k ≡ add_marks m (p ∷ (node.id ∷ []))
    → IsSource n root k (with_below (planted i (tree node.id (look_of node) bare bare)) f p)
insert_source e n root m k f p i node s leaf a h q =
    let c : ℕ = node.id in
    let x : Look = look_of node in
    let g : Trees Look = with_below (planted i (tree node.id (look_of node) bare bare)) f p in
    let d : IsDistinct f = s.keeps.is_tree.distinct in
    record {
      keeps = record {
        at = λ z. by_go (eqb c z)
            (λ t. let w : spot (with_below (planted i (tree node.id (look_of node) bare bare)) f p) z ≡ Some (record { above = Some p; known = look_of node; children = [] }) =
            spot_planted f p i c x z d a.there a.new ∙ rw t refl in
            h.at_leaf z t ∙ (ap Some (new z t) ∙ sym (ap (option_map (entry_of z)) w)))
            (λ t. by_go (eqb p z)
            (λ u. let w : spot (with_below (planted i (tree node.id (look_of node) bare bare)) f p) z ≡ option_map (spot_children (inserted i c)) (spot f z) =
            spot_planted f p i c x z d a.there a.new ∙ rw (t, u) refl in
            h.at_parent z t u ∙ (ap (option_map (child_added i c)) (s.keeps.at z) ∙ (spot_of_add z i c (spot f z) ∙ sym (ap (option_map (entry_of z)) w))))
            (λ u. let w : spot (with_below (planted i (tree node.id (look_of node) bare bare)) f p) z ≡ spot f z =
            spot_planted f p i c x z d a.there a.new ∙ rw (t, u) refl in
            h.others z t u ∙ (s.keeps.at z ∙ sym (ap (option_map (entry_of z)) w))));
        is_tree = tree_planted f p i c x s.keeps.is_tree a.there a.new;
        tops = roots-with_below (planted i (tree c x bare bare)) f p a.there ∙ s.keeps.tops;
        low = a.low;
      };
      few = a.few;
      marked = λ z g. marked_add_all (has (with_below (planted i (tree c x bare bare)) f p)) m (p ∷ (c ∷ []))
          (λ y u. has_planted f p i c x y d a.there a.new (grind (arith, s.marked y u)))
          (λ y u. has_planted f p i c x y d a.there a.new (ends y u a.there))
          z (ap (λ l. contains l z) (sym q) ∙ g);
    }
  where
    new : (z : ℕ) → eqb node.id z ≡ true → ◌≡◌ {A = Entry} (record { node = node; above = Some p }) (entry_of z (record { above = Some p; known = look_of node; children = [] }))
    new z t = subst (λ y. ◌≡◌ {A = Entry} (record { node = node; above = Some p }) (entry_of y (record { above = Some p; known = look_of node; children = [] }))) (eqb-true node.id z t)
        (ap (λ js. record { node = record node { children = js }; above = Some p }) leaf)

    ends : (y : ℕ) → contains (p ∷ (node.id ∷ [])) y ≡ true → has f p ≡ true → (eqb node.id y || has f y) ≡ true
    ends y u there = by_go (eqb p y) (λ t. let at : has f y ≡ true = subst (λ v. has f v ≡ true) (eqb-true p y t) there in grind (arith, at)) (λ t. grind (arith, u, t))

pub insert_marks : (e : SourceEntries) (root : Option ℕ) (m : List ℕ) (f : Trees Look) (p i c : ℕ) (x : Look) → IsSource e root m f → MayInsert p i c x f
    → filter (has (with_below (planted i (tree c x bare bare)) f p)) m ≡ m
insert_marks e root m f p i c x s a =
    filter_all (has (with_below (planted i (tree c x bare bare)) f p)) m (λ z g. has_planted f p i c x z s.keeps.is_tree.distinct a.there a.new (grind (arith, s.marked z g)))

-- ---- a removal

-- n stands in no other list than that of its parent
not_listed : (f : Trees Look) (n p z : ℕ) → IsDistinct f → parent f n ≡ Some p → eqb p z ≡ false → contains (listed_children (node_at f z)) n ≡ false
not_listed f n p z d up apart = false_from_ne_true (contains (listed_children (node_at f z)) n) (λ g.
    let other : parent f n ≡ Some z = parent_of_child f z n d (child_listed f z n ∙ g) in
    let same : ◌≡◌ {A = Option ℕ} (Some p) (Some z) = sym up ∙ other in
    let one : p ≡ z = cc in
    false≢true (sym apart ∙ grind (arith, one, eqb_tells p z)))

-- so that taking it out changes nothing there
drop_other : (f : Trees Look) (n z : ℕ) → contains (listed_children (node_at f z)) n ≡ false → option_map (spot_children (removed n)) (spot f z) ≡ spot f z
drop_other f n z h = go (node_at f z) h
  where
    go : (o : Option (Node Look)) → contains (listed_children o) n ≡ false
        → option_map (spot_children (removed n)) (option_map (λ (u : Node Look). record { above = parent f z; known = u.known; children = u.children }) o)
        ≡ option_map (λ (u : Node Look). record { above = parent f z; known = u.known; children = u.children }) o
    go None g = refl
    go (Some u) g = ap (λ js. Some (record { above = parent f z; known = u.known; children = js })) (removed_absent n u.children g)

spot_of_drop : (z n : ℕ) (o : Option (Spot Look)) → option_map (child_dropped n) (option_map (entry_of z) o) ≡ option_map (entry_of z) (option_map (spot_children (removed n)) o)
spot_of_drop z n None = refl
spot_of_drop z n (Some s) = refl

gone_is : (f : Trees Look) (n z : ℕ) (gone : List ℕ) → has f n ≡ true → gone ≡ pre f n → contains gone z ≡ (eqb n z || has (below f n) z)
gone_is f n z gone h e = ap (λ l. contains l z) e ∙ (contains-ids (tree_at f n) z ∙ has-tree_at f n z h)

kept_is : (f : Trees Look) (n z : ℕ) (gone : List ℕ) → IsDistinct f → has f n ≡ true → gone ≡ pre f n → has f z ≡ true → not (contains gone z) ≡ has (pruned f n) z
kept_is f n z gone d h e t =
    by_go (eqb n z || has (below f n) z)
    (λ q. ap not (gone_is f n z gone h e ∙ q) ∙ sym (pruned_gone f n z d h q))
    (λ q. ap not (gone_is f n z gone h e ∙ q) ∙ sym (grind (arith, pruned_rest f n z t, q)))

parent_stays : (f : Trees Look) (n p : ℕ) → IsDistinct f → parent f n ≡ Some p → has (pruned f n) p ≡ true
parent_stays f n p d up =
    let a = is_above f n p d up in
    stays_there f n p a.up (false_from_ne_true (eqb n p || has (below f n) p) (λ g. loops a.child g))
  where
    loops : has_root (below f p) n ≡ true → (eqb n p || has (below f n) p) ≡ true → ⊥
    loops t g =
        let under : has (below f p) n ≡ true = root_in (below f p) n t in
        by_go (eqb n p)
        (λ q. false≢true (sym (not_below_self f n d) ∙ subst (λ v. has (below f v) n ≡ true) (sym (eqb-true n p q)) under))
        (λ q. false≢true (sym (not_below_self f n d) ∙ below_trans f n p n d (grind (arith, g, q)) under))

pub remove_source : (e k n : SourceEntries) (root : Option ℕ) (m l : List ℕ) (f : Trees Look) (p id : ℕ) (gone : List ℕ) → IsSource e root m f → has f id ≡ true → is_root f id ≡ false → parent f id ≡ Some p → gone ≡ pre f id
    → ((z : ℕ) → get nat_eq k z ≡ cond (eqb p z) (option_map (child_dropped id) (get nat_eq e z)) (get nat_eq e z))
    → ((z : ℕ) → get nat_eq n z ≡ cond (contains gone z) None (get nat_eq k z)) → l ≡ less gone (add_mark m p)
    → IsSource n root l (pruned f id)
remove_source e k n root m l f p id gone s h r up listed drops takes q =
    let d : IsDistinct f = s.keeps.is_tree.distinct in
    record {
      keeps = record {
        at = λ z. takes z ∙ (ap (λ b. cond b None (get nat_eq k z)) (gone_is f id z gone h listed)
            ∙ (by_go (eqb id z || has (below f id) z)
            (λ t. ap (λ b. cond b None (get nat_eq k z)) t ∙ sym (ap (option_map (entry_of z)) (spot_pruned f id z d h ∙ ap (λ b. cond b None (option_map (spot_children (removed id)) (spot f z))) t)))
            (λ t. ap (λ b. cond b None (get nat_eq k z)) t ∙ (drops z ∙ (ap (λ o. cond (eqb p z) (option_map (child_dropped id) o) o) (s.keeps.at z)
            ∙ (by_go (eqb p z)
            (λ u. ap (λ b. cond b (option_map (child_dropped id) (option_map (entry_of z) (spot f z))) (option_map (entry_of z) (spot f z))) u ∙ spot_of_drop z id (spot f z))
            (λ u. ap (λ b. cond b (option_map (child_dropped id) (option_map (entry_of z) (spot f z))) (option_map (entry_of z) (spot f z))) u
            ∙ ap (option_map (entry_of z)) (sym (drop_other f id z (not_listed f id p z d up u))))
            ∙ sym (ap (option_map (entry_of z)) (spot_pruned f id z d h ∙ ap (λ b. cond b None (option_map (spot_children (removed id)) (spot f z))) t))))))));
        is_tree = tree_pruned f id s.keeps.is_tree r;
        tops = roots_pruned f id s.keeps.is_tree r ∙ s.keeps.tops;
        low = omega (arith, s.keeps.low, height_pruned f id);
      };
      few = omega (arith, s.few, count_pruned f id h);
      marked = λ z c. let in' = filter_in (λ y. not (contains gone y)) (add_mark m p) z (ap (λ v. contains v z) (sym q) ∙ c) in
          let there : has f z ≡ true = marked_add (has f) m p s.marked (is_above f id p d up).up z in'.0 in
          sym (kept_is f id z gone d h listed there) ∙ in'.1;
    }

pub remove_marks : (f : Trees Look) (m : List ℕ) (p id : ℕ) (gone : List ℕ) → IsDistinct f → ((z : ℕ) → contains m z ≡ true → has f z ≡ true) → has f id ≡ true → parent f id ≡ Some p → gone ≡ pre f id
    → less gone (add_mark m p) ≡ add_mark (filter (has (pruned f id)) m) (parent_or f id id)
remove_marks f m p id gone d marked h up listed =
    let above : has f p ≡ true = (is_above f id p d up).up in
    let stays : not (contains gone p) ≡ true = kept_is f id p gone d h listed above ∙ parent_stays f id p d up in
    let at : parent_or f id id ≡ p = parent_or-parent f id id ∙ ap (λ o. unwrap_or o id) up in
    filter-add (λ y. not (contains gone y)) m p stays
    ∙ (ap (λ l. add_mark l p) (filter_same (λ y. not (contains gone y)) (has (pruned f id)) m (λ z g. kept_is f id z gone d h listed (marked z g)))
    ∙ ap (add_mark (filter (has (pruned f id)) m)) (sym at))

-- ---- a move

relink_is : (f : Trees Look) (n old p i z : ℕ) → IsDistinct f → parent f n ≡ Some old
    → option_map (relinked n old p i z) (option_map (entry_of z) (spot f z)) ≡ option_map (entry_of z) (option_map (spot_after_move n p i z) (spot f z))
relink_is f n old p i z d up =
    by_go (eqb old z)
    (λ q. here q (spot f z))
    (λ q. other q (node_at f z) (not_listed f n old z d up q))
  where
    here : eqb old z ≡ true → (o : Option (Spot Look)) → option_map (relinked n old p i z) (option_map (entry_of z) o) ≡ option_map (entry_of z) (option_map (spot_after_move n p i z) o)
    here q None = refl
    here q (Some s) = by_go (eqb p z) (λ t. by_go (eqb n z) (λ u. rw (q, t, u) refl) (λ u. rw (q, t, u) refl)) (λ t. by_go (eqb n z) (λ u. rw (q, t, u) refl) (λ u. rw (q, t, u) refl))

    other : eqb old z ≡ false → (o : Option (Node Look)) → contains (listed_children o) n ≡ false
        → option_map (relinked n old p i z) (option_map (entry_of z) (option_map (λ (u : Node Look). record { above = parent f z; known = u.known; children = u.children }) o))
        ≡ option_map (entry_of z) (option_map (spot_after_move n p i z) (option_map (λ (u : Node Look). record { above = parent f z; known = u.known; children = u.children }) o))
    other q None c = refl
    other q (Some v) c =
        let same : removed n v.children ≡ v.children = removed_absent n v.children c in
        by_go (eqb p z)
        (λ t. by_go (eqb n z) (λ u. rw (q, t, u, same) refl) (λ u. rw (q, t, u, same) refl))
        (λ t. by_go (eqb n z) (λ u. rw (q, t, u, same) refl) (λ u. rw (q, t, u, same) refl))

has_moved : (f : Trees Look) (n p i z : ℕ) → IsDistinct f → MayMove n p i f → has (with_below (planted i (tree_at f n)) (pruned f n) p) z ≡ has f z
has_moved f n p i z d a =
    has-spot (with_below (planted i (tree_at f n)) (pruned f n) p) z ∙ (ap is_some (spot_moved f n p i z d a.there a.place a.outside) ∙ (same (spot f z) ∙ sym (has-spot f z)))
  where
    same : (o : Option (Spot Look)) → is_some (option_map (spot_after_move n p i z) o) ≡ is_some o
    same None = refl
    same (Some s) = refl

pub move_source : (e n : SourceEntries) (root : Option ℕ) (m k : List ℕ) (f : Trees Look) (old p i id : ℕ) → IsSource e root m f → MayMove id p i f → parent f id ≡ Some old
    → Relinks (get nat_eq e) (get nat_eq n) id old p i → k ≡ add_marks m (old ∷ (p ∷ []))
    → IsSource n root k (with_below (planted i (tree_at f id)) (pruned f id) p)
move_source e n root m k f old p i id s a up h q =
    let d : IsDistinct f = s.keeps.is_tree.distinct in
    record {
      keeps = record {
        at = λ z. h.at z ∙ (ap (option_map (relinked id old p i z)) (s.keeps.at z) ∙ (relink_is f id old p i z d up ∙ sym (ap (option_map (entry_of z)) (spot_moved f id p i z d a.there a.place a.outside))));
        is_tree = tree_moved f id p i s.keeps.is_tree a.there a.place a.outside a.no_root;
        tops = roots-with_below (planted i (tree_at f id)) (pruned f id) p (stays_there f id p a.place a.outside) ∙ (roots_pruned f id s.keeps.is_tree a.no_root ∙ s.keeps.tops);
        low = a.low;
      };
      few = a.few;
      marked = λ z g. has_moved f id p i z d a ∙ marked_add_all (has f) m (old ∷ (p ∷ [])) s.marked (λ y u. ends y u (is_above f id old d up).up) z (ap (λ l. contains l z) (sym q) ∙ g);
    }
  where
    ends : (y : ℕ) → contains (old ∷ (p ∷ [])) y ≡ true → has f old ≡ true → has f y ≡ true
    ends y u there = by_go (eqb old y) (λ t. subst (λ v. has f v ≡ true) (eqb-true old y t) there) (λ t. subst (λ v. has f v ≡ true) (eqb-true p y (grind (arith, u, t))) a.place)

pub move_marks : (e : SourceEntries) (root : Option ℕ) (m : List ℕ) (f : Trees Look) (old p i id : ℕ) → IsSource e root m f → MayMove id p i f → parent f id ≡ Some old
    → add_marks m (old ∷ (p ∷ [])) ≡ add_marks (filter (has (with_below (planted i (tree_at f id)) (pruned f id) p)) m) (parent_or f id id ∷ (p ∷ []))
move_marks e root m f old p i id s a up =
    let same : filter (has (with_below (planted i (tree_at f id)) (pruned f id) p)) m ≡ m = filter_all (has (with_below (planted i (tree_at f id)) (pruned f id) p)) m (λ z g. has_moved f id p i z s.keeps.is_tree.distinct a ∙ s.marked z g) in
    let at : parent_or f id id ≡ old = parent_or-parent f id id ∙ ap (λ o. unwrap_or o id) up in
    sym (ap (λ l. add_marks l (parent_or f id id ∷ (p ∷ []))) same ∙ ap (λ y. add_marks m (y ∷ (p ∷ []))) at)

-- ---- what the entries are asked for

pub listed_there : (e : SourceEntries) (root : Option ℕ) (f : Trees Look) (old id : ℕ) → Keeps entry_of (get nat_eq e) root f → parent f id ≡ Some old → IsDistinct f
    → IfSome (get nat_eq e old) (λ x. IsTrue (contains x.node.children id))
listed_there e root f old id k up d = subst (λ o. IfSome o (λ (x : Entry). IsTrue (contains x.node.children id))) (sym (k.at old)) (go (node_at f old) (sym (child_listed f old id) ∙ child_of_parent f old id d up))
  where
    go : (o : Option (Node Look)) → contains (listed_children o) id ≡ true
        → IfSome (option_map (entry_of old) (option_map (λ (u : Node Look). record { above = parent f old; known = u.known; children = u.children }) o)) (λ (x : Entry). IsTrue (contains x.node.children id))
    go None h = tt
    go (Some u) h = h

pub within_there : (e : SourceEntries) (root : Option ℕ) (f : Trees Look) (p i : ℕ) → Keeps entry_of (get nat_eq e) root f → i ≤ length (children f p) → IfSome (get nat_eq e p) (λ x. i ≤ length x.node.children)
within_there e root f p i k h = subst (λ o. IfSome o (λ (x : Entry). i ≤ length x.node.children)) (sym (k.at p)) (go (node_at f p) (node_children f p))
  where
    go : (o : Option (Node Look)) → children f p ≡ listed_children o
        → IfSome (option_map (entry_of p) (option_map (λ (u : Node Look). record { above = parent f p; known = u.known; children = u.children }) o)) (λ (x : Entry). i ≤ length x.node.children)
    go None e = tt
    go (Some u) e = omega (arith, h, ap length e)

pub place_there : (e : SourceEntries) (root : Option ℕ) (f : Trees Look) (p i id : ℕ) → Keeps entry_of (get nat_eq e) root f → i ≤ length (filter (λ c. not (eqb c id)) (children f p))
    → IfSome (get nat_eq e p) (λ x. i ≤ length (removed id x.node.children))
place_there e root f p i id k h = subst (λ o. IfSome o (λ (x : Entry). i ≤ length (removed id x.node.children))) (sym (k.at p)) (go (node_at f p) (node_children f p))
  where
    go : (o : Option (Node Look)) → children f p ≡ listed_children o
        → IfSome (option_map (entry_of p) (option_map (λ (u : Node Look). record { above = parent f p; known = u.known; children = u.children }) o)) (λ (x : Entry). i ≤ length (removed id x.node.children))
    go None e = tt
    go (Some u) e = omega (arith, h, length-others id u.children, ap (λ js. length (filter (λ c. not (eqb c id)) js)) e)

-- ---- a change

count_known : (g : Look → Look) (f : Trees Look) (n : ℕ) → count (with_known g f n) ≡ count f
count_known g bare n = refl
count_known g (tree i x k r) n = grind (arith, count_known g k n, count_known g r n)

pub change_source : (e n : SourceEntries) (root : Option ℕ) (m k : List ℕ) (f : Trees Look) (g : Look → Look) (h : Entry → Entry) (id : ℕ) → IsSource e root m f → has f id ≡ true
    → ((s : Spot Look) → spot f id ≡ Some s → h (entry_of id s) ≡ entry_of id (spot_known g s))
    → ((z : ℕ) → get nat_eq n z ≡ cond (eqb id z) (option_map h (get nat_eq e z)) (get nat_eq e z)) → k ≡ add_mark m id
    → IsSource n root k (with_known g f id)
change_source e n root m k f g h id s there ready puts q =
    let d : IsDistinct f = s.keeps.is_tree.distinct in
    record {
      keeps = record {
        at = λ z. puts z ∙ (ap (λ o. cond (eqb id z) (option_map h o) o) (s.keeps.at z) ∙ (by_go (eqb id z)
            (λ t. ap (λ b. cond b (option_map h (option_map (entry_of z) (spot f z))) (option_map (entry_of z) (spot f z))) t ∙ here z t)
            (λ t. ap (λ b. cond b (option_map h (option_map (entry_of z) (spot f z))) (option_map (entry_of z) (spot f z))) t
            ∙ ap (λ b. option_map (entry_of z) (cond b (option_map (spot_known g) (spot f z)) (spot f z))) (sym t))
            ∙ sym (ap (option_map (entry_of z)) (spot_changed g f id z d))));
        is_tree = tree_changed g f id s.keeps.is_tree there;
        tops = roots-with_known g f id ∙ s.keeps.tops;
        low = omega (arith, s.keeps.low, height_known g f id);
      };
      few = omega (arith, s.few, count_known g f id);
      marked = λ z c. has-with_known g f id z ∙ marked_add (has f) m id s.marked there z (ap (λ l. contains l z) (sym q) ∙ c);
    }
  where
    at_id : (o : Option (Spot Look)) → spot f id ≡ o → option_map h (option_map (entry_of id) o) ≡ option_map (entry_of id) (option_map (spot_known g) o)
    at_id None w = refl
    at_id (Some v) w = ap Some (ready v w)

    here : (z : ℕ) → eqb id z ≡ true → option_map h (option_map (entry_of z) (spot f z)) ≡ option_map (entry_of z) (cond (eqb id z) (option_map (spot_known g) (spot f z)) (spot f z))
    here z t =
        subst (λ y. option_map h (option_map (entry_of y) (spot f y)) ≡ option_map (entry_of y) (option_map (spot_known g) (spot f y))) (eqb-true id z t) (at_id (spot f id) refl)
        ∙ ap (λ b. option_map (entry_of z) (cond b (option_map (spot_known g) (spot f z)) (spot f z))) (sym t)

pub change_marks : (e : SourceEntries) (root : Option ℕ) (m : List ℕ) (f : Trees Look) (g : Look → Look) (id : ℕ) → IsSource e root m f → filter (has (with_known g f id)) m ≡ m
change_marks e root m f g id s = filter_all (has (with_known g f id)) m (λ z c. has-with_known g f id z ∙ s.marked z c)
