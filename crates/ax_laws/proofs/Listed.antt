-- Listed nodes.
use Rattle.std.proofs.Common.{Bool, List, [], arith, cond, eqb, false, refl, true, ℕ, ◌++◌, ◌||◌, ◌∙◌, ◌∷◌, ◌≡◌}
use Rattle.std.proofs.lemmas.Bool.Decides.{eqb_tells}
use Rattle.std.proofs.lemmas.Bool.{false_from_ne_true, false≢true}
use Rattle.ax_tree.specs.InStep.{lists}
use Rattle.ax_tree.specs.SerialRule.{listed}
use Rattle.ax_trees.specs.Lists.{any_that, last_that}
use Rattle.ax_trees.specs.Nodes.{Node, below, chain}
use Rattle.ax_trees.specs.Trees.{IsDistinct, Trees, bare, has, tree}
use Rattle.ax_trees.proofs.Chains.{chain_in}
use Rattle.ax_trees.proofs.Lists.{last_none, last_some}
use Rattle.ax_trees.proofs.Trees.{by_go}

pub lists-append : {X : Type 0} (us vs : List (Node X)) (z : ℕ) → lists (us ++ vs) z ≡ (lists us z || lists vs z)
lists-append [] vs z = refl
lists-append (u ∷ us) vs z = grind (arith, lists-append us vs z)

pub listed_has : {X : Type 0} (go : ℕ → Bool) (w : Trees X) (z : ℕ) → lists (listed go w) z ≡ true → has w z ≡ true
listed_has go bare z h = h
listed_has go (tree c e k r) z h = grind (arith, listed_has go k z, listed_has go r z, lists-append (listed go k) (listed go r) z)

-- a node with no held id on its chain is listed
pub chain_unheld : {X : Type 0} (p go : ℕ → Bool) (w : Trees X) (d : ℕ) → ((y : ℕ) → p y ≡ false → go y ≡ true) → has w d ≡ true → any_that p (chain w d) ≡ false
    → lists (listed go w) d ≡ true
chain_unheld p go bare d new h n = h
chain_unheld p go (tree i e k r) d new h n =
    grind (arith, h, n, eqb_tells i d, new i, lists-append (listed go k) (listed go r) d, chain_unheld p go k d new, chain_unheld p go r d new)

-- a node is the last held id of its chain, or is listed below it
pub chain_held : {X : Type 0} (p go : ℕ → Bool) (w : Trees X) (d f : ℕ) → ((y : ℕ) → p y ≡ false → go y ≡ true) → IsDistinct w → has w d ≡ true → any_that p (chain w d) ≡ true
    → (eqb (last_that p (chain w d) f) d || lists (listed go (below w (last_that p (chain w d) f))) d) ≡ true
chain_held p go bare d f new dw h n = absurd (false≢true h)
chain_held p go (tree i e k r) d f new dw h n =
    by_go (eqb i d)
    (λ q. let pi : p i ≡ true = grind (arith, n, q) in rw (q, pi, q) refl)
    (λ q. by_go (has k d)
    (λ q'. by_go (any_that p (chain k d))
    (λ s. let in' : has k (last_that p (chain k d) (cond (p i) i f)) ≡ true = chain_in k d (last_that p (chain k d) (cond (p i) i f)) (last_some p (chain k d) (cond (p i) i f) s) in
    let no : eqb i (last_that p (chain k d) (cond (p i) i f)) ≡ false = grind (arith, in', dw.0, eqb_tells i (last_that p (chain k d) (cond (p i) i f))) in
    rw (q, q', no, in') (chain_held p go k d (cond (p i) i f) new dw.3 q' s))
    (λ s. let pi : p i ≡ true = grind (arith, n, q, q', s) in
    let e : last_that p (chain k d) (cond (p i) i f) ≡ i = last_none p (chain k d) (cond (p i) i f) s ∙ rw pi in
    rw (q, q', e) (grind (arith, eqb_tells i i, chain_unheld p go k d new q' s))))
    (λ q'. let s : any_that p (chain r d) ≡ true = grind (arith, n, q, q') in
    let in' : has r (last_that p (chain r d) f) ≡ true = chain_in r d (last_that p (chain r d) f) (last_some p (chain r d) f s) in
    let no : eqb i (last_that p (chain r d) f) ≡ false = grind (arith, in', dw.1, eqb_tells i (last_that p (chain r d) f)) in
    let no' : has k (last_that p (chain r d) f) ≡ false = false_from_ne_true (has k (last_that p (chain r d) f)) (λ g. grind (arith, dw.2.apart (last_that p (chain r d) f) g, in')) in
    rw (q, q', no, no') (chain_held p go r d f new dw.4 (grind (arith, h, q, q')) s)))

pub lists_all : {X : Type 0} (w : Trees X) (z : ℕ) → lists (listed (λ _. true) w) z ≡ has w z
lists_all bare z = refl
lists_all (tree i e k r) z = grind (arith, lists_all k z, lists_all r z, lists-append (listed (λ _. true) k) (listed (λ _. true) r) z)
