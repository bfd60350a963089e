-- What a map that holds a tree tells a reader.
use Rattle.std.proofs.Common.{◌≡◌, ℕ, ◌+◌, ◌≤◌, Bool, true, false, cond, eqb, ◌||◌, List, [], ◌∷◌, map, length, Option, Some, None, refl, sym, ap, subst, ◌∙◌, arith}
use Rattle.std.specs.Prelude.{option_map, option_to_list, option_and_then, is_some}
use Rattle.std.specs.Ordering.{nat_cmp, eq_by_cmp}
use Rattle.std.specs.List.{list_any}
use Rattle.std.specs.FinMap as fin
use Rattle.std.proofs.lemmas.Bool.{eqb-true, false≢true}
use Rattle.std.proofs.lemmas.Bool.Decides.{eqb_tells, nat_tests}
use Rattle.ax_node.specs.Look.{Look, look_of, node_of, blank_look}
use Rattle.ax_node.specs.declared.node.NodeData.{NodeData}
use Rattle.ax_trees.specs.Trees.{Trees, bare, tree, has, roots, root_of, ids, count, height, IsSingle, IsDistinct, IsTree}
use Rattle.ax_trees.specs.Nodes.{Node, node_at, parent}
use Rattle.ax_trees.specs.Lists.{contains, NoneTwice}
use Rattle.ax_trees.specs.Spots.{grown}
use Rattle.ax_trees.proofs.Trees.{by_go}
use Rattle.ax_trees.proofs.Lists.{contains-append, once_append}
use Rattle.ax_trees.proofs.Grown.{told}
use Rattle.ax_trees.proofs.PlacedParents.{parent_none}
use Rattle.ax_trees.proofs.Times.{contains-ids, length-ids, has-node}
use Rattle.ax_tree.specs.UpdateRule.{draft_of, draft_node, completed}
use Rattle.ax_tree.specs.Tree.{data_of}
use Rattle.ax_tree.proofs.Drafts.{has-draft, has_root-draft, roots-draft, height-draft, completed-draft}
use Rattle.ax_mirror.specs.declared.entries.Entry.{Entry}
use Rattle.ax_mirror.specs.Placed.{Nodes, look, place, told_node, told_place}
use Rattle.ax_mirror.specs.Kept.{HoldsTree, shown}
use Rattle.ax_mirror.proofs.Looks.{get_remove, len_remove, is_some-map}
use Rattle.ax_mirror.proofs.Hangs.{above_is_parent}

-- the map that holds trees shows them
pub shown_is : (m : Nodes) (root : Option ℕ) (f : Trees Look) → HoldsTree m root f → shown m root ≡ f
shown_is m root f h =
    let s : height (draft_of f) ≡ height f = height-draft f in
    let l : height f ≤ 256 = h.low in
    let low : height (draft_of f) ≤ 256 = omega arith in
    let g : grown (look m) 256 (roots (draft_of f)) ≡ draft_of f = told (look m) 256 (draft_of f) h.keeps.distinct low (λ z _. h.keeps.stands.at z) in
    ap (completed blank_look) (ap (grown (look m) 256) (sym h.keeps.tops) ∙ g) ∙ completed-draft blank_look f

pub holds_shown : (m : Nodes) (root : Option ℕ) (f : Trees Look) → HoldsTree m root f → HoldsTree m root (shown m root)
holds_shown m root f h = subst (λ v. HoldsTree m root v) (sym (shown_is m root f h)) h

-- an empty map holds no tree
pub holds_none : (m : Nodes) → m ≡ fin.empty → HoldsTree m None bare
holds_none m e = record {
  keeps = record {
    distinct = tt;
    tops = refl;
    stands = record { at = λ z. ap (option_map told_node) (ap (λ k. fin.get k z) e ∙ fin.get-empty nat_cmp z) };
    hung = tt;
  };
  low = omega arith;
}

module _ {X : Type 0} where
  pub distinct-undraft : (f : Trees X) → IsDistinct (draft_of f) → IsDistinct f
  distinct-undraft bare d = d
  distinct-undraft (tree i e k r) d =
      (sym (has-draft k i) ∙ d.0, sym (has-draft r i) ∙ d.1, record { apart = λ z h. sym (has-draft r z) ∙ d.2.apart z (has-draft k z ∙ h) }, distinct-undraft k d.3, distinct-undraft r d.4)

  pub single_roots : (f : Trees X) (o : Option ℕ) → roots f ≡ option_to_list o → IsSingle f
  single_roots bare o h = tt
  single_roots (tree i e k bare) o h = refl
  single_roots (tree i e k (tree j a l r)) None h = absurd (cc)
  single_roots (tree i e k (tree j a l r)) (Some x) h = absurd (cc)

  pub root_roots : (f : Trees X) (o : Option ℕ) → roots f ≡ option_to_list o → o ≡ root_of f
  root_roots bare None h = refl
  root_roots bare (Some x) h = absurd (cc)
  root_roots (tree i e k r) None h = absurd (cc)
  root_roots (tree i e k r) (Some x) h = let s : i ≡ x = cc in ap (λ y. Some y) (sym s)

  parent-draft : (f : Trees X) (z : ℕ) → parent (draft_of f) z ≡ parent f z
  parent-draft bare z = refl
  parent-draft (tree i e k r) z = grind (arith, parent-draft k z, parent-draft r z, has-draft k z, has_root-draft k z)

  node-draft : (f : Trees X) (z : ℕ) → node_at (draft_of f) z ≡ option_map draft_node (node_at f z)
  node-draft bare z = refl
  node-draft (tree i e k r) z =
      by_go (eqb i z)
      (λ q. rw q (ap (λ js. Some (record { id = i; known = Some e; children = js })) (roots-draft k)))
      (λ q. by_go (has k z)
      (λ p. let t : has (draft_of k) z ≡ true = has-draft k z ∙ p in rw (q, p, t) (node-draft k z))
      (λ p. let t : has (draft_of k) z ≡ false = has-draft k z ∙ p in rw (q, p, t) (node-draft r z)))

  ids_once : (f : Trees X) → IsDistinct f → NoneTwice (ids f)
  ids_once bare d = tt
  ids_once (tree i e k r) d = (
    contains-append (ids k) (ids r) i ∙ (let a : contains (ids k) i ≡ false = contains-ids k i ∙ d.0 in let b : contains (ids r) i ≡ false = contains-ids r i ∙ d.1 in rw (a, b) refl),
    once_append (ids k) (ids r) (ids_once k d.3) (ids_once r d.4) (λ z c. contains-ids r z ∙ d.2.apart z (sym (contains-ids k z) ∙ c)),
  )

-- ---- how many

no_entry : (m : Nodes) → ((z : ℕ) → is_some (fin.get m z) ≡ false) → fin.len m ≡ 0
no_entry m h = fin.len-entries m ∙ go (fin.entries m) refl
  where
    self : (x : ℕ) → eq_by_cmp nat_cmp x x ≡ true
    self x = grind (arith, nat_tests, eqb_tells x x)

    go : (es : List (ℕ × Entry)) → fin.entries m ≡ es → length es ≡ 0
    go [] e = refl
    go (x ∷ es) e =
        let t : fin.contains_key m x.0 ≡ true = fin.contains_key-keys m x.0 ∙ ap (λ (ys : List (ℕ × Entry)). list_any (eq_by_cmp nat_cmp x.0) (map (λ y. y.0) ys)) e ∙ (let s : eq_by_cmp nat_cmp x.0 x.0 ≡ true = self x.0 in rw s refl) in
        absurd (false≢true (sym (h x.0) ∙ t))

sized : (xs : List ℕ) (m : Nodes) → NoneTwice xs → ((z : ℕ) → contains xs z ≡ is_some (fin.get m z)) → length xs ≡ fin.len m
sized [] m o h = sym (no_entry m (λ z. sym (h z)))
sized (x ∷ xs) m o h =
    let there : fin.contains_key m x ≡ true = sym (h x) ∙ (let s : eqb x x ≡ true = grind (arith, eqb_tells x x) in rw s refl) in
    let l : fin.len (fin.remove m x) + 1 ≡ fin.len m = len_remove m x there in
    let ih : length xs ≡ fin.len (fin.remove m x) = sized xs (fin.remove m x) o.1 (λ z. rest z (eqb x z) refl (h z)) in
    omega arith
  where
    rest : (z : ℕ) (b : Bool) → eqb x z ≡ b → (eqb x z || contains xs z) ≡ is_some (fin.get m z) → contains xs z ≡ is_some (fin.get (fin.remove m x) z)
    rest z true q g =
        let gone : is_some (fin.get (fin.remove m x) z) ≡ false = ap is_some (get_remove m x z ∙ ap (λ b. cond b None (fin.get m z)) q) in
        ap (contains xs) (sym (eqb-true x z q)) ∙ o.0 ∙ sym gone
    rest z false q g =
        let same : is_some (fin.get (fin.remove m x) z) ≡ is_some (fin.get m z) = ap is_some (get_remove m x z ∙ ap (λ b. cond b None (fin.get m z)) q) in
        (rw q at g) ∙ sym same

pub there_same : (m : Nodes) (root : Option ℕ) (f : Trees Look) → HoldsTree m root f → (z : ℕ) → is_some (fin.get m z) ≡ has f z
there_same m root f h z = sym (is_some-map told_node (fin.get m z)) ∙ ap is_some (h.keeps.stands.at z) ∙ sym (has-node (draft_of f) z) ∙ has-draft f z

pub count_is : (m : Nodes) (root : Option ℕ) (f : Trees Look) → HoldsTree m root f → fin.len m ≡ count f
count_is m root f h = sym (sized (ids f) m (ids_once f (distinct-undraft f h.keeps.distinct)) (λ z. contains-ids f z ∙ sym (there_same m root f h z))) ∙ length-ids f

-- ---- one node

-- the data of an entry, and the id above
abbrev pub data_at : Nodes → ℕ → Option NodeData
data_at m z = option_map (λ (e : Entry). e.node) (fin.get m z)

abbrev pub above_at : Nodes → ℕ → Option ℕ
above_at m z = option_and_then (λ (e : Entry). e.above) (fin.get m z)

entry_data : (o : Option Entry) (p : Option (Node Look)) → option_map told_node o ≡ option_map draft_node p → option_map (λ (e : Entry). e.node) o ≡ option_map data_of p
entry_data None None h = refl
entry_data None (Some n) h = absurd (cc)
entry_data (Some e) None h = absurd (cc)
entry_data (Some e) (Some n) h = go e.pending n refl (cc)
  where
    go : (b : Bool) (n : Node Look) → e.pending ≡ b → ◌≡◌ {A = Node (Option Look)} (record { id = e.node.id; known = cond b None (Some (look_of e.node)); children = e.node.children }) (draft_node n) → ◌≡◌ {A = Option NodeData} (Some e.node) (Some (data_of n))
    go true n p g = absurd (let k : ◌≡◌ {A = Option Look} None (Some n.known) = ap (λ (x : Node (Option Look)). x.known) g in cc)
    go false n p g =
        let i : e.node.id ≡ n.id = ap (λ (x : Node (Option Look)). x.id) g in
        let k : ◌≡◌ {A = Option Look} (Some (look_of e.node)) (Some n.known) = ap (λ (x : Node (Option Look)). x.known) g in
        let l : look_of e.node ≡ n.known = cc in
        let c : e.node.children ≡ n.children = ap (λ (x : Node (Option Look)). x.children) g in
        λ t. Some (node_of (i t) (l t) (c t))

pub node_read : (m : Nodes) (root : Option ℕ) (f : Trees Look) (z : ℕ) → HoldsTree m root f → data_at m z ≡ option_map data_of (node_at f z)
node_read m root f z h = entry_data (fin.get m z) (node_at f z) (h.keeps.stands.at z ∙ node-draft f z)

above_told : (o : Option Entry) (p : Option ℕ) (l : ℕ) → option_map told_place o ≡ Some (p, l) → option_and_then (λ (e : Entry). e.above) o ≡ p
above_told None p l h = absurd (cc)
above_told (Some e) p l h = let s : ◌≡◌ {A = Option ℕ × ℕ} (e.above, e.level) (p, l) = cc in ap (λ (x : Option ℕ × ℕ). x.0) s

none_above : (o : Option Entry) → is_some o ≡ false → option_and_then (λ (e : Entry). e.above) o ≡ None
none_above None h = refl
none_above (Some e) h = absurd (false≢true (sym h))

pub parent_read : (m : Nodes) (root : Option ℕ) (f : Trees Look) (z : ℕ) → HoldsTree m root f → above_at m z ≡ parent f z
parent_read m root f z h =
    by_go (has f z)
    (λ q. let it : (l : ℕ) × (place m z ≡ Some (parent (draft_of f) z, l)) = above_is_parent (place m) 1 (draft_of f) z h.keeps.distinct h.keeps.hung (has-draft f z ∙ q) in
    above_told (fin.get m z) (parent (draft_of f) z) it.0 it.1 ∙ parent-draft f z)
    (λ q. none_above (fin.get m z) (there_same m root f h z ∙ q) ∙ sym (parent_none f z q))

pub is_tree : (m : Nodes) (root : Option ℕ) (f : Trees Look) → HoldsTree m root f → IsTree f
is_tree m root f h = record { one_root = single_roots f root (sym (roots-draft f) ∙ h.keeps.tops); distinct = distinct-undraft f h.keeps.distinct }

pub root_read : (m : Nodes) (root : Option ℕ) (f : Trees Look) → HoldsTree m root f → root ≡ root_of f
root_read m root f h = root_roots f root (sym (roots-draft f) ∙ h.keeps.tops)

-- what isn't touched has the same data in both trees
pub same_data : (m n : Nodes) (p q : Option ℕ) (f g : Trees Look) (z : ℕ) → HoldsTree m p f → HoldsTree n q g → fin.get n z ≡ fin.get m z → option_map data_of (node_at g z) ≡ option_map data_of (node_at f z)
same_data m n p q f g z h k e = sym (node_read n q g z k) ∙ ap (option_map (λ (x : Entry). x.node)) e ∙ node_read m p f z h
