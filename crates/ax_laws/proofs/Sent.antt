-- Bundles with tree data bring a receiver in step to the source.
use Rattle.std.proofs.Common.{ℕ, suc, ◌≡◌, ◌≤◌, Bool, true, false, ◌||◌, List, [], ◌∷◌, ◌++◌, map, refl, sym, ap, ◌∙◌, Option, None, Some, Result, Ok, Err}
use Rattle.ax_node.specs.declared.tree_data.TreeData.{TreeData}
use Rattle.ax_trees.specs.Trees.{Trees, bare, tree, is_bare, height}
use Rattle.ax_trees.specs.Nodes.{Node}
use Rattle.ax_trees.specs.Shape.{shape}
use Rattle.ax_tree.specs.declared.update.Refusal.{Refusal}
use Rattle.ax_tree.specs.declared.update.TreeUpdate.{TreeUpdate}
use Rattle.ax_tree.specs.declared.update.BundleErr.{BundleErr}
use Rattle.ax_tree.specs.UpdateRule.{Update, and_then, trees_after}
use Rattle.ax_tree.specs.Bundles.{trees_updates, trees_after_all}
use Rattle.ax_node.specs.Look.{Look, blank_look}
use Rattle.ax_tree.specs.Tree.{Tree, as_node, data_of}
use Rattle.ax_tree.specs.Updates.{nodes_part, with_data, told, applied, next_applied, applied_from, applied_all}
use Rattle.ax_tree.specs.Serialised.{riding, alone, with_tree_data, resumed_bundle, bundle_of, InStep}
use Rattle.ax_trees.proofs.Lists.{same_Ok}
use Rattle.ax_tree.proofs.Drafts.{passes}
use Rattle.ax_laws.proofs.BundlesReach.{updates_reach, resumed_reach}

-- node data of a node is that node
as_node-data : (ns : List (Node Look)) → map as_node (map data_of ns) ≡ ns
as_node-data [] = refl
as_node-data (n ∷ ns) = ap (λ l. n ∷ l) (as_node-data ns)

pub nodes_part-with : (u : Update Look) (d : Option TreeData) → nodes_part (with_data u d) ≡ u
nodes_part-with u d = ap (λ ns. record { clear = u.clear; root = u.root; nodes = ns }) (as_node-data u.nodes)

-- an update with tree data, by its nodes' part
abbrev pub then_told : Option TreeData → TreeData → Result (Trees Look) Refusal → Result Tree Refusal
then_told d old o = and_then o (λ f. Ok (record { about = told d old; trees = f }))

pub applied-with : (u : Update Look) (d : Option TreeData) (t : Tree) → applied (with_data u d) t ≡ then_told d t.about (trees_after blank_look u t.trees)
applied-with u d t = ap (λ v. then_told d t.about (trees_after blank_look v t.trees)) (nodes_part-with u d)

-- the first update, and what the rest makes of its result
through : (n : ℕ) (d : Option TreeData) (x : TreeData) (o : Result (Trees Look) Refusal) (h : Trees Look → Result (Trees Look) Refusal) (k : Tree → Result Tree BundleErr) (s : Trees Look) (t : Tree)
    → ((y : Trees Look) → h y ≡ Ok s → k (record { about = told d x; trees = y }) ≡ Ok t) → and_then o h ≡ Ok s
    → next_applied n k (then_told d x o) ≡ Ok t
through n d x (Ok y) h k s t e g = e y g
through n d x (Err z) h k s t e g = absurd (cc)

first_applied : (n : ℕ) (u : Update Look) (d : Option TreeData) (us : List TreeUpdate) (h : Trees Look → Result (Trees Look) Refusal) (r : Tree) (s : Trees Look) (t : Tree)
    → ((y : Trees Look) → h y ≡ Ok s → applied_from (suc n) us (record { about = told d r.about; trees = y }) ≡ Ok t)
    → and_then (trees_after blank_look u r.trees) h ≡ Ok s
    → applied_from n (with_data u d ∷ us) r ≡ Ok t
first_applied n u d us h r s t e g =
    ap (next_applied n (applied_from (suc n) us)) (applied-with u d r)
    ∙ through n d r.about (trees_after blank_look u r.trees) h (applied_from (suc n) us) s t e g

same_told : (x d : TreeData) → x.tree ≡ d.tree → told (Some x) d ≡ x
same_told x d e = ap (λ t. record x { tree = t }) (sym e)

same_tree : (x : TreeData) (v s : Trees Look) → ◌≡◌ {A = Result (Trees Look) Refusal} (Ok v) (Ok s)
    → ◌≡◌ {A = Result Tree BundleErr} (Ok (record { about = x; trees = v })) (Ok (record { about = x; trees = s }))
same_tree x v s h = ap (λ y. Ok (record { about = x; trees = y })) (same_Ok v s h)

-- updates one after the other, with tree data on the last
riding_more : (n : ℕ) (x : TreeData) (v : Update Look) (us : List (Update Look)) (r : Tree) (s : Trees Look) → x.tree ≡ r.about.tree → trees_after_all blank_look (v ∷ us) r.trees ≡ Ok s
    → applied_from n (riding x (v ∷ us)) r ≡ Ok (record { about = x; trees = s })
riding_more n x v [] r s e h =
    first_applied n v (Some x) [] (λ y. Ok y) r s (record { about = x; trees = s })
    (λ y g. ap (λ a. Ok (record { about = a; trees = y })) (same_told x r.about e) ∙ same_tree x y s g) h
riding_more n x v (u ∷ us) r s e h =
    first_applied n v None (riding x (u ∷ us)) (trees_after_all blank_look (u ∷ us)) r s (record { about = x; trees = s })
    (λ y g. riding_more (suc n) x u us (record { about = r.about; trees = y }) s e g) h

pub riding_reach : (x : TreeData) (us : List (Update Look)) (r : Tree) (s : Trees Look) → x.tree ≡ r.about.tree → height r.trees ≤ 256 → trees_after_all blank_look us r.trees ≡ Ok s
    → applied_all (riding x us) r ≡ Ok (record { about = x; trees = s })
riding_reach x [] r s e low h =
    first_applied 0 (record { clear = None; root = None; nodes = [] }) (Some x) [] (λ y. Ok y) r s (record { about = x; trees = s })
    (λ y g. ap (λ a. Ok (record { about = a; trees = y })) (same_told x r.about e) ∙ same_tree x y s g)
    (ap (λ o. and_then o (λ y. Ok y)) (passes blank_look r.trees low) ∙ h)
riding_reach x (u ∷ us) r s e low h = riding_more 0 x u us r s e h

alone_more : (n : ℕ) (us : List (Update Look)) (r : Tree) (s : Trees Look) → trees_after_all blank_look us r.trees ≡ Ok s
    → applied_from n (alone us) r ≡ Ok (record { about = r.about; trees = s })
alone_more n [] r s h = same_tree r.about r.trees s h
alone_more n (u ∷ us) r s h =
    first_applied n u None (alone us) (trees_after_all blank_look us) r s (record { about = r.about; trees = s })
    (λ y g. alone_more (suc n) us (record { about = r.about; trees = y }) s g) h

pub alone_reach : (us : List (Update Look)) (r : Tree) (s : Trees Look) → trees_after_all blank_look us r.trees ≡ Ok s
    → applied_all (alone us) r ≡ Ok (record { about = r.about; trees = s })
alone_reach us r s h = alone_more 0 us r s h

pub is_bare-shape : {X : Type 0} (f : Trees X) → is_bare (shape f) ≡ is_bare f
is_bare-shape bare = refl
is_bare-shape (tree i x k r) = refl

-- With tree data, updates that bring r's nodes to those of s bring r to s.
pub sent_reach : (rides : Bool) (us : List (Update Look)) (r s : Tree) → height r.trees ≤ 256 → r.about.tree ≡ s.about.tree → (rides ≡ false → r.about ≡ s.about)
    → trees_after_all blank_look us r.trees ≡ Ok s.trees
    → applied_all (with_tree_data rides s.about us) r ≡ Ok s
sent_reach true us r s low e same h = riding_reach s.about us r s.trees (sym e) low h
sent_reach false us r s low e same h = alone_reach us r s.trees h ∙ ap (λ x. Ok (record { about = x; trees = s.trees })) (same refl)

-- A bundle gives the source.
pub bundle_reach : (r s : Tree) (m : List ℕ) (flag : Bool) → InStep r s m flag (is_bare r.trees) → applied_all (bundle_of (shape r.trees) s m flag) r ≡ Ok s
bundle_reach r s m flag st =
    ap (λ b. applied_all (with_tree_data (flag || b) s.about (trees_updates (shape r.trees) s.trees m)) r) (is_bare-shape r.trees)
    ∙ sent_reach (flag || is_bare r.trees) (trees_updates (shape r.trees) s.trees m) r s st.trees.receiver_low st.same_tree st.same_data (updates_reach blank_look r.trees s.trees m st.trees)

-- A bundle that was broken off is completed: `from` is what the kept updates stand upon, and r what they make of it.
pub resumed_bundle_reach : (kept : List (Update Look)) (from r s : Tree) (m : List ℕ) (flag fresh : Bool) → height from.trees ≤ 256 → from.about ≡ r.about
    → trees_after_all blank_look kept from.trees ≡ Ok r.trees → InStep r s m flag fresh
    → applied_all (resumed_bundle kept (shape r.trees) s m flag fresh) from ≡ Ok s
resumed_bundle_reach kept from r s m flag fresh low e h st =
    sent_reach (flag || fresh) (kept ++ trees_updates (shape r.trees) s.trees m) from s low
    (ap (λ (d : TreeData). d.tree) e ∙ st.same_tree) (λ q. e ∙ st.same_data q)
    (resumed_reach blank_look kept from.trees r.trees s.trees m h st.trees)
