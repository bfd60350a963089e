-- The reply that tells a node's role is made of what the tree and the hanging rule say of the place.
use Rattle.std.proofs.Common.{ℕ, ◌+◌, ◌≡◌, true, Bor, List, length, map, ◌++◌, Option, Some, None, refl, sym, ap, ◌∙◌, option_to_list, length-append}
use Rattle.std.specs.Option.{option_copied}
use Rattle.std.proofs.lemmas.List.{length-map}
use Rattle.ax_base.specs.declared.position.Place.{Place}
use Rattle.ax_ask.specs.declared.reply.Reply.TheVariants as replies
use Rattle.ax_ask.specs.declared.query.Query.TheVariants as queries
use Rattle.ax_node.specs.Look.{Look}
use Rattle.ax_node.specs.declared.node.NodeData.{NodeData}
use Rattle.ax_trees.specs.Nodes.{Node, node_at}
use Rattle.ax_tree.specs.Tree.{Tree, node, as_node}
use Rattle.ax_tree.specs.Forest.{Forest, IsSound, live_tree}
use Rattle.ax_rules.specs.Stitched.{Placed, place_at, stitched, has_place, children_of}
use Rattle.ax_run_rules.specs.Replies.{answer_of}
use Rattle.ax_stitch.specs.Levels.{AreFormed, levels_below, hung_root}
use Rattle.ax_stitch.proofs.Views.{children_told}
use Rattle.ax_stitch.proofs.Corners.{node_of_told}
use Rattle.ax_stitch.proofs.Kids.{kids_told}
use Rattle.ax_stitch.proofs.Under.{IsPlaced, placed}
use Rattle.ax_stitch.proofs.Sound.{sound_formed, sound_hung}
use Rattle.ax_query.specs.Refusals.{refusal_at}
use Rattle.ax_query.proofs.Places.{listed, replied}

-- what stands in the list at p has the look of the node
same_look : (f : Forest) (p : Place) (m : Tree) (b : NodeData) (s : Placed) → IsPlaced f p s → Some m ≡ live_tree f p.tree → node_at m.trees p.node ≡ Some (as_node b) → (as_node b).known ≡ s.look
same_look f p m b s i l e =
    let both : ◌≡◌ {A = Option Tree} (Some m) (Some i.tree) = l ∙ i.live in
    let same : m ≡ i.tree = cc in
    let nodes : ◌≡◌ {A = Option (Node Look)} (Some (as_node b)) (Some (record { id = p.node; known = s.look; children = i.children })) =
    sym e ∙ (ap (λ (v : Tree). node_at v.trees p.node) same ∙ i.look) in
    let one : ◌≡◌ {A = Node Look} (as_node b) (record { id = p.node; known = s.look; children = i.children }) = cc in
    ap (λ (n : Node Look). n.known) one

counted : (p : Place) (xs : List ℕ) (hung : Option Place) (ps : List Place) → map (place_at p.tree) xs ++ option_to_list hung ≡ ps → length xs + length (option_to_list hung) ≡ length ps
counted p xs hung ps e = sym (length-append (map (place_at p.tree) xs) (option_to_list hung) ∙ ap (λ n. n + length (option_to_list hung)) (length-map xs (place_at p.tree))) ∙ ap length e

pub node_reply : (f : Forest) (p : Place) (m : Tree) (n : ℕ) (r : Option (Bor NodeData)) (b : Bor NodeData) (xs : List ℕ) (hung : Option Place) (count : ℕ) → refusal_at f p ≡ None → IsSound f
    → Some n ≡ levels_below 8 f p.tree → Some m ≡ live_tree f p.tree → option_copied r ≡ node m p.node → r ≡ Some b → xs ≡ b.now.children → hung ≡ hung_root n f p → count ≡ length xs + length (option_to_list hung)
    → replies.Node b.now.role count ≡ answer_of f (queries.Node p)
unfolding answer_of
node_reply f p m n r b xs hung count none sound level live told is own root c =
    let h : has_place (stitched f) p ≡ true = listed f p (sym none) in
    let w : AreFormed 8 f p.tree = sound_formed 8 f p.tree sound in
    let s = placed f p h w in
    let i = s.1 in
    let look = same_look f p m b.now s.0 i live (node_of_told m p.node r b told is) in
    let kids = kids_told f p m n xs (map (place_at p.tree) xs) hung level w h live (sound_hung f p sound) (children_told m p.node r b xs told is own) refl root in
    ap (λ k. replies.Node b.now.role k) (c ∙ counted p xs hung (children_of (stitched f) p) kids)
    ∙ (ap (λ (x : Look). replies.Node x.role (length (children_of (stitched f) p))) look
    ∙ replied f p (λ l q. replies.Node q.look.role (length (children_of l p))) s.0 (sym none) i.found)
