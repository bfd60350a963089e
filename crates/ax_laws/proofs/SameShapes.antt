-- An update depends on the roots and parents of the client alone.
use Rattle.std.proofs.Common.{Bool, List, Some, [], ap, arith, cond, false, length, refl, suc, sym, true, zero, ℕ, ◌++◌, ◌∙◌, ◌∷◌, ◌≡◌, ◌≤◌}
use Rattle.std.proofs.lemmas.Bool.{false_from_ne_true, false≢true}
use Rattle.std.proofs.Math.Path.{fun_ext}
use Rattle.std.proofs.lemmas.List.{length-append}
use Rattle.std.proofs.lemmas.Option.{same_Some}
use Rattle.ax_tree.specs.SerialRule.{all_of, goes_on, is_closed, is_plain, last_common, last_held, lowest_closed, partial_update, reached_fit, stand_under, trees_update}
use Rattle.ax_tree.specs.UpdateRule.{Update}
use Rattle.ax_tree.specs.UpdateShape.{SameShape}
use Rattle.ax_trees.specs.Lists.{common_prefix, last_that}
use Rattle.ax_trees.specs.Nodes.{below, chain, parent_or}
use Rattle.ax_trees.specs.Trees.{IsTree, Trees, bare, has, has_root, is_root, root_of, tree, all_ids, all_roots}
use Rattle.ax_trees.proofs.Chains.{below_one, chain_absent, chain_of_root, chain_step}
use Rattle.ax_trees.proofs.Lists.{same_bool}
use Rattle.ax_trees.proofs.Trees.{by_go, has_root_is_root, is_root_has_root, parent_has, parent_is}

-- the two chains of z, from those of its parent
pub next_chain : {X E : Type 0} (c : Trees X) (k : Trees E) (z : ℕ) → IsTree c → IsTree k → SameShape c k
    → ((y : ℕ) → suc (length (chain c y)) ≤ length (chain c z) → chain c y ≡ chain k y) → chain c z ≡ chain k z
next_chain c k z tc tk same ih =
    by_go (has c z)
    (λ h. by_go (has_root c z)
    (λ t. chain_of_root c z tc.distinct t ∙ sym (chain_of_root k z tk.distinct (has_root_is_root k z (sym same.root ∙ is_root_has_root c z tc.one_root t))))
    (λ t. let up : (has c (parent_or c z z) ≡ true) × (has_root (below c (parent_or c z z)) z ≡ true) = parent_has c z z tc.distinct h t in
    let tk' : has_root k z ≡ false = false_from_ne_true (has_root k z) (λ g. absurd (false≢true (sym t ∙ has_root_is_root c z (same.root ∙ is_root_has_root k z tk.one_root g)))) in
    let there : parent_or k z z ≡ parent_or c z z = parent_is k (parent_or c z z) z z tk.distinct (sym (same.under (parent_or c z z) z) ∙ up.1) in
    let cc' : chain c z ≡ chain c (parent_or c z z) ++ (z ∷ []) = chain_step c z z tc.distinct h t in
    let ck : chain k z ≡ chain k (parent_or c z z) ++ (z ∷ []) = chain_step k z z tk.distinct (sym (same.held z) ∙ h) tk' ∙ ap (λ v. chain k v ++ (z ∷ [])) there in
    cc' ∙ (ap (λ xs. xs ++ (z ∷ [])) (ih (parent_or c z z) (omega (arith, ap length cc', length-append (chain c (parent_or c z z)) (z ∷ [])))) ∙ sym ck)))
    (λ h. chain_absent c z h ∙ sym (chain_absent k z (sym (same.held z) ∙ h)))

pub chain_by : {X E : Type 0} (n : ℕ) (c : Trees X) (k : Trees E) (z : ℕ) → IsTree c → IsTree k → SameShape c k → length (chain c z) ≤ n → chain c z ≡ chain k z
chain_by zero c k z tc tk same l = next_chain c k z tc tk same (λ y h. absurd (omega arith))
chain_by (suc n) c k z tc tk same l = next_chain c k z tc tk same (λ y h. chain_by n c k y tc tk same (omega arith))

pub chain-same : {X E : Type 0} (c : Trees X) (k : Trees E) (z : ℕ) → IsTree c → IsTree k → SameShape c k → chain c z ≡ chain k z
chain-same c k z tc tk same = chain_by (length (chain c z)) c k z tc tk same (omega arith)

pub below-same : {X E : Type 0} (c : Trees X) (k : Trees E) (x z : ℕ) → IsTree c → IsTree k → SameShape c k → has (below c x) z ≡ has (below k x) z
below-same c k x z tc tk same =
    same_bool (has (below c x) z) (has (below k x) z) (below_one c k x z tc tk (chain-same c k z tc tk same)) (below_one k c x z tk tc (sym (chain-same c k z tc tk same)))

pub fit-same : {X E S : Type 0} (c : Trees X) (k : Trees E) (go : ℕ → Bool) (w : Trees S) → SameShape c k → ((y : ℕ) (v : Trees S) → stand_under c y v ≡ stand_under k y v) → reached_fit c go w ≡ reached_fit k go w
fit-same c k go bare same h = refl
fit-same c k go (tree i e l r) same h = rw (h i l, fit-same c k go l same h, fit-same c k go r same h) refl

pub partial_update-same : {X E S : Type 0} (c : Trees X) (k : Trees E) (s : Trees S) (m : List ℕ) (t a : ℕ) → IsTree c → IsTree k → SameShape c k → partial_update c s m t a ≡ partial_update k s m t a
partial_update-same {X} {E} {S} c k s m t a tc tk same =
    let stand : (y : ℕ) (v : Trees S) → stand_under c y v ≡ stand_under k y v =
    λ y v. ap (λ (p : ℕ → Bool). all_roots p v) (fun_ext (λ z. rw (same.held z, same.under y z) refl)) in
    let going : goes_on c m ≡ goes_on k m = fun_ext (λ z. rw (same.held z) refl) in
    let met : last_common c s t a ≡ last_common k s t a = ap (λ ys. last_that (λ _. true) (common_prefix (chain s a) ys) t) (chain-same c k a tc tk same) in
    let shut : is_closed c s ≡ is_closed k s = fun_ext (λ x. ap (λ (p : ℕ → Bool). all_ids p (below s x)) (fun_ext (λ z. rw (same.held z, below-same c k x z tc tk same) refl))) in
    let low : (x : ℕ) → lowest_closed c s t x ≡ lowest_closed k s t x = λ x. ap (λ (p : ℕ → Bool). last_that p (chain s x) t) shut in
    let fair : is_plain c s m t a ≡ is_plain k s m t a = rw (met, stand a (below s a), going, fit-same c k (goes_on k m) (below s a) same stand) refl in
    rw (fair, met, low (last_common k s t a), going) refl

-- Two clients with the same root and parents get the same update.
pub trees_update-same : {X E S : Type 0} (c : Trees X) (k : Trees E) (s : Trees S) (m : List ℕ) (d : ℕ) → IsTree c → IsTree k → SameShape c k → trees_update c s m d ≡ trees_update k s m d
trees_update-same bare bare s m d tc tk same = refl
trees_update-same bare (tree j a l q) s m d tc tk same = absurd (cc same.root)
trees_update-same (tree i e l r) bare s m d tc tk same = absurd (cc same.root)
trees_update-same {X} {E} {S} (tree i e l r) (tree j a o q) s m d tc tk same =
    let c : Trees X = tree i e l r in
    let k : Trees E = tree j a o q in
    let ij : i ≡ j = same_Some i j same.root in
    let begin : last_held c s i d ≡ last_held k s i d = ap (λ (p : ℕ → Bool). last_that p (chain s d) i) (fun_ext (λ z. same.held z)) in
    ap (λ (u : Update S). cond (is_root s i) u (record { clear = Some i; root = root_of s; nodes = all_of s }))
    (ap (λ v. partial_update c s m i v) begin ∙ partial_update-same c k s m i (last_held k s i d) tc tk same)
    ∙ ap (λ y. cond (is_root s y) (partial_update k s m y (last_held k s y d)) (record { clear = Some y; root = root_of s; nodes = all_of s })) ij
