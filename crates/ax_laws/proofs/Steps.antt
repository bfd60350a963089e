-- An update keeps a receiver in step; in step with no mark is the source itself.
use Rattle.std.proofs.Common.{Bool, List, Ok, Some, [], ap, arith, eqb, false, not, refl, subst, sym, true, ℕ, ◌||◌, ◌∙◌, ◌∷◌, ◌≡◌}
use Rattle.std.proofs.lemmas.Bool.{eqb-true, false_from_ne_true, false≢true}
use Rattle.std.proofs.lemmas.Bool.Decides.{eqb_tells}
use Rattle.std.proofs.lemmas.Option.{same_Some}
use Rattle.ax_tree.specs.InStep.{TreesInStep, lists, marks_left}
use Rattle.ax_tree.specs.SerialRule.{all_of, common_chain, from_root, goes_on, is_closed, is_plain, last_common, last_held, listed, lowest_closed, partial_update, trees_update}
use Rattle.ax_tree.specs.UpdateRule.{Update, trees_after}
use Rattle.ax_trees.specs.Lists.{contains}
use Rattle.ax_trees.specs.Nodes.{below, chain, node_at, tree_at}
use Rattle.ax_trees.specs.Trees.{IsDistinct, IsSingle, IsTree, Trees, bare, has, root_of, roots, tree}
use Rattle.ax_laws.proofs.Listed.{chain_held, listed_has, lists_all}
use Rattle.ax_laws.proofs.Served.{Served, common_chain_head, last_common_chain, last_held_held, last_held_in, serve}
use Rattle.ax_trees.proofs.Chains.{chain_below, chain_head, chain_in}
use Rattle.ax_trees.proofs.Lists.{common_left, filter_in, filter_kept, has_any, last_in, once_filter, same_Ok}
use Rattle.ax_trees.proofs.Nodes.{tree_at_is}
use Rattle.ax_trees.proofs.Trees.{agree, below_trans, by_go}

pub lists_from : {X : Type 0} (go : ℕ → Bool) (s : Trees X) (a z : ℕ) → has s a ≡ true → (eqb a z || lists (listed go (below s a)) z) ≡ true → lists (from_root go (tree_at s a)) z ≡ true
lists_from go s a z h l = rw (tree_at_is s a h).1 l

pub lists_of : {X : Type 0} (s : Trees X) (x z : ℕ) → has s x ≡ true → (eqb x z || has (below s x) z) ≡ true → lists (all_of (tree_at s x)) z ≡ true
lists_of {X} s x z h l =
    let d : X = (tree_at_is s x h).0 in
    rw (tree_at_is s x h).1 (lists_all (tree x d (below s x) bare) z ∙ grind (arith, l))

pub lists_same : {X : Type 0} (m : List ℕ) (i : ℕ) (e e' : X) (k k' : Trees X) (d : ℕ) → IsTree (tree i e k bare) → IsTree (tree i e' k' bare) → has (tree i e' k' bare) d ≡ true
    → lists (partial_update (tree i e k bare) (tree i e' k' bare) m i (last_held (tree i e k bare) (tree i e' k' bare) i d)).nodes d ≡ true
lists_same {X} m i e e' k k' d tr ts h =
    let r : Trees X = tree i e k bare in
    let s : Trees X = tree i e' k' bare in
    let a : ℕ = last_held r s i d in
    let ra : has r a ≡ true = last_held_held i e e' k k' d in
    let sa : has s a ≡ true = last_held_in r i e' k' d h in
    let root_held : has r i ≡ true = grind (arith, eqb_tells i i) in
    let chained : (eqb a d || lists (listed (goes_on r m) (below s a)) d) ≡ true =
    chain_held (has r) (goes_on r m) s d i (λ y g. grind (arith, g)) ts.distinct h
    (has_any (has r) (chain s d) (chain_head i e' k' d h).0 i (chain_head i e' k' d h).1 root_held) in
    let head : common_chain r s a ≡ i ∷ (common_chain_head i e e' k k' a ra sa).0 = (common_chain_head i e e' k k' a ra sa).1 in
    let root_in : contains (common_chain r s a) i ≡ true = rw head (grind (arith, eqb_tells i i)) in
    by_go (is_plain r s m i a)
    (λ p. rw p (lists_from (goes_on r m) s a d sa chained))
    (λ p. rw p (lists_widened r s d a (lowest_closed r s i (last_common r s i a)) (goes_on r m) ts.distinct
    (common_left (chain s a) (chain r a) (lowest_closed r s i (last_common r s i a))
    (last_in (is_closed r s) (chain s (last_common r s i a)) (common_chain r s a) i
    (λ z g. rw (last_common_chain r s i a (common_chain_head i e e' k k' a ra sa).0 ts.distinct head) at g) root_in))
    chained))
  where
    lists_widened : {E : Type 0} (r s : Trees E) (d a x : ℕ) (go : ℕ → Bool) → IsDistinct s → contains (chain s a) x ≡ true → (eqb a d || lists (listed go (below s a)) d) ≡ true
        → lists (all_of (tree_at s x)) d ≡ true
    lists_widened r s d a x go ds on l =
        let xs : has s x ≡ true = chain_in s a x on in
        lists_of s x d xs (grind (arith, l, chain_below s a x ds on, eqb_tells a d, eqb_tells x a, eqb_tells x d, listed_has go (below s a) d, below_trans s x a d ds))

pub lists_at : {X : Type 0} (m : List ℕ) (i j : ℕ) (e e' : X) (k k' : Trees X) (d : ℕ) → i ≡ j → IsTree (tree i e k bare) → IsTree (tree j e' k' bare) → has (tree j e' k' bare) d ≡ true
    → lists (partial_update (tree i e k bare) (tree j e' k' bare) m i (last_held (tree i e k bare) (tree j e' k' bare) i d)).nodes d ≡ true
lists_at m i j e e' k k' d p tr = subst (λ y. IsTree (tree y e' k' bare) → has (tree y e' k' bare) d ≡ true
    → lists (partial_update (tree i e k bare) (tree y e' k' bare) m i (last_held (tree i e k bare) (tree y e' k' bare) i d)).nodes d ≡ true) p (λ ts h. lists_same m i e e' k k' d tr ts h)

-- the update at d lists d
pub lists_mark : {X : Type 0} (r s : Trees X) (m : List ℕ) (d : ℕ) → IsTree r → IsTree s → has s d ≡ true → lists (trees_update r s m d).nodes d ≡ true
lists_mark r bare m d tr ts h = absurd (false≢true h)
lists_mark r (tree j e' k' (tree x y z w)) m d tr ts h = absurd (cc ts.one_root)
lists_mark bare (tree j e' k' bare) m d tr ts h = lists_all (tree j e' k' bare) d ∙ h
lists_mark (tree i e k (tree x y z w)) (tree j e' k' bare) m d tr ts h = absurd (cc tr.one_root)
lists_mark (tree i e k bare) (tree j e' k' bare) m d tr ts h =
    by_go (eqb j i)
    (λ q. rw q (lists_at m i j e e' k k' d (sym (eqb-true j i q)) tr ts h))
    (λ q. rw q (lists_all (tree j e' k' bare) d ∙ h))

-- An update at a node of the source keeps the receiver in step, with the update's result in its place.
pub update_keeps : {X : Type 0} (b : X) (r s : Trees X) (m : List ℕ) (d : ℕ) → TreesInStep r s m → has s d ≡ true → (sv : Served b (trees_update r s m d) r s)
    → TreesInStep sv.made s (marks_left (trees_update r s m d) d m)
update_keeps {X} b r s m d st h sv =
    let u : Update X = trees_update r s m d in
    let p : ℕ → Bool = λ z. not (lists (trees_update r s m d).nodes z || eqb z d) in
    let mark : lists (trees_update r s m d).nodes d ≡ true = lists_mark r s m d st.receiver st.source h in
    record {
      receiver = sv.is_tree;
      source = st.source;
      receiver_low = sv.low;
      source_low = st.source_low;
      marks_in = λ z c. st.marks_in z (filter_in p m z c).0;
      once = once_filter p m st.once;
      root_fits = λ x e. (x, sym sv.same_root ∙ e, λ _. refl);
      same = λ z g g' n. by_go (lists (trees_update r s m d).nodes z)
          (λ l. sv.own z g l)
          (λ l. let old : (has r z ≡ true) × (node_at sv.made z ≡ node_at r z) = sv.kept z g l in
          let other : eqb z d ≡ false = grind (arith, eqb_tells z d, mark, l) in
          let passes : p z ≡ true = rw (l, other) refl in
          let unmarked : contains m z ≡ false = false_from_ne_true (contains m z) (λ c. absurd (false≢true (sym n ∙ filter_kept p m z c passes))) in
          old.1 ∙ st.same z old.0 g' unmarked);
    }

-- In step without a mark, a receiver that is not empty has the source.
pub done_is_source : {X : Type 0} (r s : Trees X) (x : ℕ) → TreesInStep r s [] → root_of r ≡ Some x → r ≡ s
done_is_source r s x st e =
    agree r s st.receiver.distinct st.source.distinct
    (same_tops r s st.receiver.one_root st.source.one_root x e ((st.root_fits x e).1 ∙ ap Some ((st.root_fits x e).2 refl)))
    (λ z g g'. st.same z g g' refl)
  where
    same_tops : {E : Type 0} (v w : Trees E) → IsSingle v → IsSingle w → (x : ℕ) → root_of v ≡ Some x → root_of w ≡ Some x → roots v ≡ roots w
    same_tops bare w sv sw x e e' = absurd (cc)
    same_tops (tree i a k r) bare sv sw x e e' = absurd (cc)
    same_tops (tree i a k r) (tree j c l q) sv sw x e e' = rw (sv, sw, same_Some i x e, same_Some j x e')

pub update_keeps_any : {X : Type 0} (b : X) (r s : Trees X) (m : List ℕ) (d : ℕ) (made : Trees X) → TreesInStep r s m → has s d ≡ true → trees_after b (trees_update r s m d) r ≡ Ok made
    → TreesInStep made s (marks_left (trees_update r s m d) d m)
update_keeps_any {X} b r s m d made st h e =
    let sv : Served b (trees_update r s m d) r s = serve b r s m d st.receiver st.source st.receiver_low st.source_low h in
    let same : sv.made ≡ made = same_Ok sv.made made (sym sv.accepted ∙ e) in
    subst (λ w. TreesInStep w s (marks_left (trees_update r s m d) d m)) same (update_keeps b r s m d st h sv)
