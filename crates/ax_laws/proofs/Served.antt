-- Each update of the serialisation rule is accepted, with its result told id by id.
use Rattle.std.proofs.Common.{List, None, Ok, Option, Some, arith, eqb, false, not, refl, subst, sym, true, ℕ, ◌++◌, ◌||◌, ◌∙◌, ◌∷◌, ◌≡◌, ◌≤◌}
use Rattle.std.proofs.lemmas.List.{append-nil}
use Rattle.std.proofs.lemmas.Bool.{eqb-true, false_from_ne_true, false≢true}
use Rattle.std.proofs.lemmas.Bool.Decides.{eqb_tells}
use Rattle.ax_laws.specs.Merge.{ReachFits, RootsFit, merged}
use Rattle.ax_tree.specs.InStep.{lists}
use Rattle.ax_tree.specs.SerialRule.{all_of, common_chain, from_root, goes_on, is_closed, is_plain, last_common, last_held, listed, lowest_closed, partial_update, reached_fit, stand_under, trees_update}
use Rattle.ax_tree.specs.UpdateRule.{Update, missing, trees_after}
use Rattle.ax_trees.specs.Changes.{with_node}
use Rattle.ax_trees.specs.Lists.{common_prefix, contains}
use Rattle.ax_trees.specs.Nodes.{below, chain, depth, node_at, root_below, tree_at}
use Rattle.ax_trees.specs.Trees.{IsDistinct, IsTree, Trees, bare, has, has_root, height, is_root, root_of, roots, tree}
use Rattle.ax_laws.proofs.Accepted.{accept_cleared, accept_plain, accept_rooted}
use Rattle.ax_tree.proofs.Arranged.{distinct_arranged}
use Rattle.ax_laws.proofs.Listed.{listed_has, lists_all}
use Rattle.ax_laws.proofs.Merged.{distinct_merged, height_merged, listed_merged, merged_inside, merged_new, merged_old, roots-merged}
use Rattle.ax_laws.proofs.PlainFits.{reach_fits_from, roots_fit_from}
use Rattle.ax_trees.proofs.Chains.{chain_depths, chain_front, chain_head, chain_in, chain_root, common_depths}
use Rattle.ax_trees.proofs.Changed.{distinct_with_node, has_with_node_cases, height_with_node, node_with_node_inside, node_with_node_outside, node_with_node_same, outside, root_of-with_node, single_with_node, with_node_from}
use Rattle.ax_trees.proofs.Lists.{common_front, common_head, common_left, common_right, last_in, last_passes}
use Rattle.ax_trees.proofs.Nodes.{height_below, node_below, tree_at_is}
use Rattle.ax_trees.proofs.Trees.{all_ids_at, all_ids_from, below_absent, below_child, below_in, by_go, distinct_below, root_below_absent, root_in}

-- what the sender and the receiver want of an update u at a receiver's tree r, where the source is s
pub record Served {X : Type 0} (b : X) (u : Update X) (r s : Trees X) : Type 0 where
  pub made : Trees X
  pub accepted : trees_after b u r ≡ Ok made
  pub is_tree : IsTree made
  pub low : height made ≤ 256
  pub same_root : root_of made ≡ root_of s
  pub own : (z : ℕ) → has made z ≡ true → lists u.nodes z ≡ true → node_at made z ≡ node_at s z
  pub kept : (z : ℕ) → has made z ≡ true → lists u.nodes z ≡ false → (has r z ≡ true) × (node_at made z ≡ node_at r z)

-- children that fit are found among the siblings as in the whole
pub local_same : {X : Type 0} (c : Trees X) (y : ℕ) (w : Trees X) (z : ℕ) → IsDistinct c → RootsFit (has c) w (below c y) → has_root w z ≡ true → root_below (below c y) z ≡ below c z
local_same c y w z d fits t =
    by_go (has c z)
    (λ g. below_child c y z d (fits.stands z t g))
    (λ g. root_below_absent (below c y) z (false_from_ne_true (has_root (below c y) z) (λ q. grind (arith, root_in (below c y) z, below_in c y z))) ∙ sym (below_absent c z g))

-- a node at the same level in both, given the source's data and the merge
pub serve_plain : {X : Type 0} (b : X) (m : List ℕ) (r s : Trees X) (x : ℕ) → IsTree r → IsTree s → height r ≤ 256 → height s ≤ 256
    → has r x ≡ true → has s x ≡ true → depth s x ≡ depth r x → root_of r ≡ root_of s
    → stand_under r x (below s x) ≡ true → reached_fit r (goes_on r m) (below s x) ≡ true
    → Served b (record { clear = None; root = None; nodes = from_root (goes_on r m) (tree_at s x) }) r s
serve_plain {X} b m r s x tr ts lr ls hr hs same roots under fit =
    let d : X = (tree_at_is s x hs).0 in
    let w : Trees X = below s x in
    let is : tree_at s x ≡ tree x d (below s x) bare = (tree_at_is s x hs).1 in
    let dw : IsDistinct (below s x) = distinct_below s x ts.distinct in
    let fits : RootsFit (has r) (below s x) (below r x) = roots_fit_from r x (below s x) under in
    let deeper : ReachFits (goes_on r m) (has r) (below s x) (below r x) =
    reach_fits_from r (goes_on r m) (below s x) (below r x) tr.distinct fit (λ z t. local_same r x (below s x) z tr.distinct fits t) in
    let low : height (with_node r x d (merged d (goes_on r m) (below s x) (below r x))) ≤ 256 =
    omega (arith, height_with_node r x d (merged d (goes_on r m) (below s x) (below r x)) hr, height_merged d (goes_on r m) (below s x) (below r x), height_below r x hr, height_below s x hs) in
    let dm : IsDistinct (merged d (goes_on r m) (below s x) (below r x)) = distinct_merged d (goes_on r m) (has r) (below s x) (below r x) dw
    (distinct_arranged d (below s x) (below r x) dw (distinct_below r x tr.distinct) (λ z t h. fits.stands z t (below_in r x z h)))
    (λ z h. below_in r x z h) fits deeper in
    rw is record {
      made = with_node r x d (merged d (goes_on r m) (below s x) (below r x));
      accepted = accept_plain b (goes_on r m) r x d (below s x) tr.distinct dw hr fits deeper (λ z g. grind (arith, g)) low;
      is_tree = record {
        one_root = single_with_node r x d (merged d (goes_on r m) (below s x) (below r x)) tr.one_root;
        distinct = distinct_with_node r x d (merged d (goes_on r m) (below s x) (below r x)) tr.distinct hr
            dm
            (λ z h. merged_inside d (goes_on r m) r x d (below s x) z tr.distinct hr fits deeper h);
      };
      low = low;
      same_root = root_of-with_node r x d (merged d (goes_on r m) (below s x) (below r x)) ∙ roots;
      own = λ z h l. by_go (eqb x z)
          (λ q. let at : x ≡ z = eqb-true x z q in
          subst (λ y. node_at (with_node r x d (merged d (goes_on r m) (below s x) (below r x))) y ≡ node_at s y) at
          (node_with_node_same r x d (merged d (goes_on r m) (below s x) (below r x)) hr ∙ (rw (roots-merged d (goes_on r m) (below s x) (below r x)) (sym (tree_at_is s x hs).2))))
          (λ q. let l' : lists (listed (goes_on r m) (below s x)) z ≡ true = grind (arith, l, q) in
          let in' : has (merged d (goes_on r m) (below s x) (below r x)) z ≡ true = listed_merged d (goes_on r m) (below s x) (below r x) z l' in
          node_with_node_inside r x d (merged d (goes_on r m) (below s x) (below r x)) z hr q (merged_inside d (goes_on r m) r x d (below s x) z tr.distinct hr fits deeper in') in'
          ∙ (merged_new d (goes_on r m) (below s x) (below r x) z dw dm l' ∙ node_below s x z ts.distinct (listed_has (goes_on r m) (below s x) z l')));
      kept = λ z h l. let q : eqb x z ≡ false = grind (arith, l) in
          let l' : lists (listed (goes_on r m) (below s x)) z ≡ false = grind (arith, l, q) in
          by_go (has (merged d (goes_on r m) (below s x) (below r x)) z)
          (λ in'. let old : (has (below r x) z ≡ true) × (node_at (merged d (goes_on r m) (below s x) (below r x)) z ≡ node_at (below r x) z) =
          merged_old d (goes_on r m) (has r) (below s x) (below r x) z dw (distinct_below r x tr.distinct) dm (λ y g. grind (arith, g)) fits deeper in' l' in (
            below_in r x z old.0,
            node_with_node_inside r x d (merged d (goes_on r m) (below s x) (below r x)) z hr q (merged_inside d (goes_on r m) r x d (below s x) z tr.distinct hr fits deeper in') in'
                ∙ (old.1 ∙ node_below r x z tr.distinct old.0),
          ))
          (λ out. let o : has (with_node r x d bare) z ≡ true = grind (arith, has_with_node_cases r x d (merged d (goes_on r m) (below s x) (below r x)) z h, out) in (
            grind (arith, with_node_from r x d bare z o),
            node_with_node_outside r x d (merged d (goes_on r m) (below s x) (below r x)) z tr.distinct hr q o out,
          ));
    }

pub serve_cleared : {X : Type 0} (b : X) (r s : Trees X) (x : ℕ) → IsTree r → IsTree s → height r ≤ 256 → height s ≤ 256
    → has r x ≡ true → has s x ≡ true → depth s x ≡ depth r x → root_of r ≡ root_of s
    → is_closed r s x ≡ true
    → Served b (record { clear = Some x; root = None; nodes = all_of (tree_at s x) }) r s
serve_cleared {X} b r s x tr ts lr ls hr hs same roots shut =
    let d : X = (tree_at_is s x hs).0 in
    let is : tree_at s x ≡ tree x d (below s x) bare = (tree_at_is s x hs).1 in
    let dw : IsDistinct (below s x) = distinct_below s x ts.distinct in
    let apart : (z : ℕ) → has (below s x) z ≡ true → has (with_node r x d bare) z ≡ false =
    λ z h. false_from_ne_true (has (with_node r x d bare) z) (λ o.
    grind (arith, all_ids_at (λ y. not (has r y) || has (below r x) y) (below s x) z shut h, with_node_from r x d bare z o, outside r x d z tr.distinct hr)) in
    let low : height (with_node r x d (below s x)) ≤ 256 = omega (arith, height_with_node r x d (below s x) hr, height_below s x hs) in
    rw (is, append-nil (listed (λ _. true) (below s x))) record {
      made = with_node r x d (below s x);
      accepted = accept_cleared b r x d (below s x) tr.distinct dw hr apart low;
      is_tree = record { one_root = single_with_node r x d (below s x) tr.one_root; distinct = distinct_with_node r x d (below s x) tr.distinct hr dw apart };
      low = low;
      same_root = root_of-with_node r x d (below s x) ∙ roots;
      own = λ z h l. by_go (eqb x z)
          (λ q. let at : x ≡ z = eqb-true x z q in
          subst (λ y. node_at (with_node r x d (below s x)) y ≡ node_at s y) at (node_with_node_same r x d (below s x) hr ∙ sym (tree_at_is s x hs).2))
          (λ q. let in' : has (below s x) z ≡ true = grind (arith, l, q, lists_all (below s x) z) in
          node_with_node_inside r x d (below s x) z hr q (apart z in') in' ∙ node_below s x z ts.distinct in');
      kept = λ z h l. let q : eqb x z ≡ false = grind (arith, l) in
          let out : has (below s x) z ≡ false = grind (arith, l, q, lists_all (below s x) z) in
          let o : has (with_node r x d bare) z ≡ true = grind (arith, has_with_node_cases r x d (below s x) z h, out) in
          (grind (arith, with_node_from r x d bare z o), node_with_node_outside r x d (below s x) z tr.distinct hr q o out);
    }

-- a and the meeting point, for trees with the same root
pub last_held_held : {X : Type 0} (i : ℕ) (e e' : X) (k k' : Trees X) (d : ℕ) → has (tree i e k bare) (last_held (tree i e k bare) (tree i e' k' bare) i d) ≡ true
last_held_held i e e' k k' d = last_passes (has (tree i e k bare)) (chain (tree i e' k' bare) d) i (grind (arith, eqb_tells i i))

pub last_held_in : {X : Type 0} (c : Trees X) (i : ℕ) (e : X) (k : Trees X) (d : ℕ) → has (tree i e k bare) d ≡ true → has (tree i e k bare) (last_held c (tree i e k bare) i d) ≡ true
last_held_in c i e k d h =
    chain_in (tree i e k bare) d (last_held c (tree i e k bare) i d)
    (last_in (has c) (chain (tree i e k bare) d) (chain (tree i e k bare) d) i (λ z g. g) (chain_root i e k d h))

pub common_chain_head : {X : Type 0} (i : ℕ) (e e' : X) (k k' : Trees X) (a : ℕ) → has (tree i e k bare) a ≡ true → has (tree i e' k' bare) a ≡ true
    → (xs : List ℕ) × (common_chain (tree i e k bare) (tree i e' k' bare) a ≡ i ∷ xs)
common_chain_head i e e' k k' a h h' = (
  common_prefix (chain_head i e' k' a h').0 (chain_head i e k a h).0,
  common_head i (chain_head i e' k' a h').0 (chain_head i e k a h).0 (chain (tree i e' k' bare) a) (chain (tree i e k bare) a) (chain_head i e' k' a h').1 (chain_head i e k a h).1,
)

-- what holds of an id that the two chains have in common
pub record Both {X : Type 0} (r s : Trees X) (x : ℕ) : Type 0 where
  pub here : has r x ≡ true
  pub there : has s x ≡ true
  pub level_same : depth s x ≡ depth r x

pub common_chain_both : {X : Type 0} (r s : Trees X) (a x : ℕ) → IsDistinct r → IsDistinct s → contains (common_chain r s a) x ≡ true → Both r s x
common_chain_both r s a x dr ds h = record {
  here = chain_in r a x (common_right (chain s a) (chain r a) x h);
  there = chain_in s a x (common_left (chain s a) (chain r a) x h);
  level_same = common_depths (depth s) (depth r) 0 (chain s a) (chain r a) x (chain_depths s a ds) (chain_depths r a dr) h;
}

pub last_common_in : {X : Type 0} (r s : Trees X) (i a : ℕ) → contains (common_chain r s a) i ≡ true → contains (common_chain r s a) (last_common r s i a) ≡ true
last_common_in r s i a h = last_in (λ _. true) (common_chain r s a) (common_chain r s a) i (λ z g. g) h

-- the chain of the meeting point is what the two chains have in common
pub last_common_chain : {X : Type 0} (r s : Trees X) (i a : ℕ) (xs : List ℕ) → IsDistinct s → common_chain r s a ≡ i ∷ xs → chain s (last_common r s i a) ≡ common_chain r s a
last_common_chain r s i a xs ds h =
    let qs : List ℕ = (common_front (chain s a) (chain r a)).0 in
    let pruned : common_chain r s a ++ (common_front (chain s a) (chain r a)).0 ≡ chain s a = (common_front (chain s a) (chain r a)).1 in
    let whole : i ∷ (xs ++ (common_front (chain s a) (chain r a)).0) ≡ chain s a = rw h at pruned in
    rw h (chain_front s a i xs (common_front (chain s a) (chain r a)).0 ds whole)

pub root_closed : {X : Type 0} (i : ℕ) (e e' : X) (k k' : Trees X) → IsDistinct (tree i e' k' bare) → is_closed (tree i e k bare) (tree i e' k' bare) i ≡ true
root_closed i e e' k k' ds =
    all_ids_from (λ z. not (has (tree i e k bare) z) || has (below (tree i e k bare) i) z) (below (tree i e' k' bare) i)
    (λ z h. grind (arith, eqb_tells i i, eqb_tells i z, ds.0))

pub same_roots : {X : Type 0} (b : X) (m : List ℕ) (i : ℕ) (e e' : X) (k k' : Trees X) (d : ℕ) → IsTree (tree i e k bare) → IsTree (tree i e' k' bare)
    → height (tree i e k bare) ≤ 256 → height (tree i e' k' bare) ≤ 256 → has (tree i e' k' bare) d ≡ true
    → Served b (partial_update (tree i e k bare) (tree i e' k' bare) m i (last_held (tree i e k bare) (tree i e' k' bare) i d)) (tree i e k bare) (tree i e' k' bare)
same_roots {X} b m i e e' k k' d tr ts lr ls hd =
    let r : Trees X = tree i e k bare in
    let s : Trees X = tree i e' k' bare in
    let a : ℕ = last_held r s i d in
    let ra : has r a ≡ true = last_held_held i e e' k k' d in
    let sa : has s a ≡ true = last_held_in r i e' k' d hd in
    let head : common_chain r s a ≡ i ∷ (common_chain_head i e e' k k' a ra sa).0 = (common_chain_head i e e' k k' a ra sa).1 in
    let root_in : contains (common_chain r s a) i ≡ true = rw head (grind (arith, eqb_tells i i)) in
    let x : ℕ = lowest_closed r s i (last_common r s i a) in
    by_go (is_plain r s m i a)
    (λ p. let parts : (eqb (last_common r s i a) a ≡ true) × (stand_under r a (below s a) ≡ true) × (reached_fit r (goes_on r m) (below s a) ≡ true) = grind (arith, p) in
    let at : contains (common_chain r s a) a ≡ true = grind (arith, eqb_tells (last_common r s i a) a, parts.0, last_common_in r s i a root_in) in
    let both : Both r s a = common_chain_both r s a a tr.distinct ts.distinct at in
    rw p (serve_plain b m r s a tr ts lr ls both.here both.there both.level_same refl parts.1 parts.2))
    (λ p. let chained : chain s (last_common r s i a) ≡ common_chain r s a = last_common_chain r s i a (common_chain_head i e e' k k' a ra sa).0 ts.distinct head in
    let at : contains (common_chain r s a) (lowest_closed r s i (last_common r s i a)) ≡ true =
    last_in (is_closed r s) (chain s (last_common r s i a)) (common_chain r s a) i (λ z g. rw chained at g) root_in in
    let both : Both r s (lowest_closed r s i (last_common r s i a)) = common_chain_both r s a (lowest_closed r s i (last_common r s i a)) tr.distinct ts.distinct at in
    rw p (serve_cleared b r s (lowest_closed r s i (last_common r s i a)) tr ts lr ls both.here both.there both.level_same refl
    (last_passes (is_closed r s) (chain s (last_common r s i a)) i (root_closed i e e' k k' ts.distinct))))

pub same_roots_at : {X : Type 0} (b : X) (m : List ℕ) (i j : ℕ) (e e' : X) (k k' : Trees X) (d : ℕ) → i ≡ j → IsTree (tree i e k bare) → height (tree i e k bare) ≤ 256
    → IsTree (tree j e' k' bare) → height (tree j e' k' bare) ≤ 256 → has (tree j e' k' bare) d ≡ true
    → Served b (partial_update (tree i e k bare) (tree j e' k' bare) m i (last_held (tree i e k bare) (tree j e' k' bare) i d)) (tree i e k bare) (tree j e' k' bare)
same_roots_at b m i j e e' k k' d p tr lr =
    subst (λ y. IsTree (tree y e' k' bare) → height (tree y e' k' bare) ≤ 256 → has (tree y e' k' bare) d ≡ true
    → Served b (partial_update (tree i e k bare) (tree y e' k' bare) m i (last_held (tree i e k bare) (tree y e' k' bare) i d)) (tree i e k bare) (tree y e' k' bare))
    p (λ ts ls h. same_roots b m i e e' k k' d tr ts lr ls h)

pub serve_whole : {X : Type 0} (b : X) (r : Trees X) (c : Option ℕ) (j : ℕ) (e : X) (k : Trees X) → is_root r j ≡ false → missing r c ≡ None → IsTree (tree j e k bare) → height (tree j e k bare) ≤ 256
    → Served b (record { clear = c; root = Some j; nodes = all_of (tree j e k bare) }) r (tree j e k bare)
serve_whole b r c j e k other there ts ls = record {
  made = tree j e k bare;
  accepted = accept_rooted b r c j e k other there ts.distinct ls;
  is_tree = ts;
  low = ls;
  same_root = refl;
  own = λ z h l. refl;
  kept = λ z h l. absurd (false≢true (sym l ∙ (lists_all (tree j e k bare) z ∙ h)));
}

-- Each update of a serializer is accepted, and its result is a tree again.
pub serve : {X : Type 0} (b : X) (r s : Trees X) (m : List ℕ) (d : ℕ) → IsTree r → IsTree s → height r ≤ 256 → height s ≤ 256 → has s d ≡ true
    → Served b (trees_update r s m d) r s
serve b r bare m d tr ts lr ls h = absurd (false≢true h)
serve b r (tree j e' k' (tree x y z w)) m d tr ts lr ls h = absurd (cc ts.one_root)
serve b bare (tree j e' k' bare) m d tr ts lr ls h = serve_whole b bare None j e' k' refl refl ts ls
serve b (tree i e k (tree x y z w)) (tree j e' k' bare) m d tr ts lr ls h = absurd (cc tr.one_root)
serve b (tree i e k bare) (tree j e' k' bare) m d tr ts lr ls h =
    by_go (eqb j i)
    (λ q. rw q (same_roots_at b m i j e e' k k' d (sym (eqb-true j i q)) tr lr ts ls h))
    (λ q. rw q (serve_whole b (tree i e k bare) (Some i) j e' k' (grind (arith, eqb_tells i j, eqb_tells j i)) (grind (arith, eqb_tells i i)) ts ls))
