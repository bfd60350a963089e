-- Updates keep the id of the tree.
use Rattle.std.proofs.Common.{◌≡◌, ℕ, suc, Bool, true, false, List, [], ◌∷◌, Option, Some, None, Result, Ok, Err, refl, sym, ap, ◌∙◌}
use Rattle.std.specs.Prelude.{OnOk, OnErr}
use Rattle.ax_node.specs.Look.{Look, blank_look}
use Rattle.ax_node.specs.declared.tree_data.TreeData.{TreeData}
use Rattle.ax_trees.specs.Trees.{Trees}
use Rattle.ax_tree.specs.declared.update.BundleErr.{BundleErr}
use Rattle.ax_tree.specs.declared.update.Refusal.{Refusal}
use Rattle.ax_tree.specs.declared.update.TreeUpdate.{TreeUpdate}
use Rattle.ax_tree.specs.Tree.{Tree}
use Rattle.ax_tree.specs.UpdateRule.{and_then, trees_after}
use Rattle.ax_tree.specs.Updates.{applied, applied_from, applied_all, next_applied, nodes_part, told}
use Rattle.ax_mirror.specs.Mirrors.{base_of}

told_tree : (d : Option TreeData) (a : TreeData) → (told d a).tree ≡ a.tree
told_tree None a = refl
told_tree (Some x) a = refl

applied_tree : (u : TreeUpdate) (t s : Tree) → applied u t ≡ Ok s → s.about.tree ≡ t.about.tree
applied_tree u t s h = go (trees_after blank_look (nodes_part u) t.trees) h
  where
    go : (r : Result (Trees Look) Refusal) → and_then r (λ f. Ok (record { about = told u.tree_data t.about; trees = f })) ≡ Ok s → s.about.tree ≡ t.about.tree
    go (Err e) q = absurd (cc)
    go (Ok f) q =
        let same : ◌≡◌ {A = Tree} (record { about = told u.tree_data t.about; trees = f }) s = cc in
        sym (ap (λ (x : Tree). x.about.tree) same) ∙ told_tree u.tree_data t.about

next_tree : (n : ℕ) (rest : Tree → Result Tree BundleErr) (r : Result Tree Refusal) (t s : Tree) → ((v : Tree) → r ≡ Ok v → v.about.tree ≡ t.about.tree) → ((v : Tree) → rest v ≡ Ok s → s.about.tree ≡ v.about.tree) → next_applied n rest r ≡ Ok s
    → s.about.tree ≡ t.about.tree
next_tree n rest (Err e) t s one more h = absurd (cc)
next_tree n rest (Ok v) t s one more h = more v h ∙ one v refl

from_tree : (n : ℕ) (us : List TreeUpdate) (t s : Tree) → applied_from n us t ≡ Ok s → s.about.tree ≡ t.about.tree
from_tree n [] t s h = let same : t ≡ s = cc in sym (ap (λ (x : Tree). x.about.tree) same)
from_tree n (u ∷ us) t s h = next_tree n (applied_from (suc n) us) (applied u t) t s (applied_tree u t) (λ v. from_tree (suc n) us v s) h

bundle_tree : (us : List TreeUpdate) (fresh : Bool) (t s : Tree) → applied_all us (base_of fresh t) ≡ Ok s → s.about.tree ≡ t.about.tree
bundle_tree us true t s h = from_tree 0 us (base_of true t) s h
bundle_tree us false t s h = from_tree 0 us t s h

-- so a call that leaves the tree as it was where it refuses keeps the id
pub update_keeps : {A E : Type 0} (r : Result A E) (u : TreeUpdate) (t s : Tree) → OnOk r (applied u t ≡ Ok s) → OnErr r (s ≡ t) → s.about.tree ≡ t.about.tree
update_keeps (Ok x) u t s h k = applied_tree u t s h
update_keeps (Err e) u t s h k = ap (λ (x : Tree). x.about.tree) k

pub bundle_keeps : {A E : Type 0} (r : Result A E) (us : List TreeUpdate) (fresh : Bool) (t s : Tree) → OnOk r (applied_all us (base_of fresh t) ≡ Ok s) → OnErr r (s ≡ t) → s.about.tree ≡ t.about.tree
bundle_keeps (Ok x) us fresh t s h k = bundle_tree us fresh t s h
bundle_keeps (Err e) us fresh t s h k = ap (λ (x : Tree). x.about.tree) k
