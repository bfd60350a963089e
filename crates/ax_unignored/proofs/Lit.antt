-- A place of the list is shown where its node is.
use Rattle.std.proofs.Common.{ℕ, ◌≡◌, Bor, Bool, true, false, not, ◌||◌, ◌&&◌, filter, List, [], ◌∷◌, Option, Some, None, refl, sym, ap, ◌∙◌, subst, option_and_then}
use Rattle.std.specs.List.{list_any}
use Rattle.std.specs.Option.{option_copied}
use Rattle.ax_base.specs.declared.position.Place.{Place}
use Rattle.ax_node.specs.Look.{look_of}
use Rattle.ax_node.specs.States.{has_state}
use Rattle.ax_node.specs.declared.node.NodeData.{NodeData}
use Rattle.ax_trees.specs.Nodes.{node_at}
use Rattle.ax_trees.proofs.Trees.{by_go}
use Rattle.ax_tree.specs.Tree.{Tree, node}
use Rattle.ax_tree.specs.Forest.{Forest, IsSound, first_tree, live_tree}
use Rattle.ax_rules.specs.Rows.{ignored_state}
use Rattle.ax_rules.specs.Stitched.{Placed, places, placed_from_first, stitched, stands_at, has_place}
use Rattle.ax_rules.specs.Unignored.{is_unignored, unignored, is_shown_place}
use Rattle.ax_stitch.proofs.Hosts.{AllOf, all_weaker}
use Rattle.ax_stitch.proofs.Places.{same_is}
use Rattle.ax_stitch.proofs.Under.{FirstTold, told}
use Rattle.ax_stitch.proofs.Corners.{node_of_told}
use Rattle.ax_stitch.proofs.Sound.{sound_formed}
use Rattle.ax_unignored.specs.Shows.{is_lit, shows_node, shows}

-- each entry of the list has the look of its place's node
pub lit_placed : (f : Forest) → IsSound f → AllOf (λ s. is_unignored s ≡ shows f s.place) (stitched f)
unfolding stitched is_unignored
lit_placed f s = go (first_tree f) refl
  where
    one : (t : ℕ) (p : Placed) → FirstTold f t p → not (has_state p.look.states ignored_state) ≡ shows f p.place
    one t p k =
        let n = k.known (λ n. sound_formed n f p.place.tree s) in
        sym (ap (λ o. shows_node (option_and_then (λ (m : Tree). node_at m.trees p.place.node) o)) n.live ∙ ap shows_node n.look)

    go : (o : Option ℕ) → first_tree f ≡ o → AllOf (λ (s : Placed). not (has_state s.look.states ignored_state) ≡ shows f s.place) (placed_from_first f o)
    go None e = tt
    go (Some t) e =
        all_weaker (FirstTold f t) (λ (s : Placed). not (has_state s.look.states ignored_state) ≡ shows f s.place) (placed_from_first f (Some t)) (one t)
        (subst (λ o. AllOf (FirstTold f t) (placed_from_first f o)) e (told f t e))

lit_filter : (p : Place → Bool) (l : List Placed) → AllOf (λ s. is_unignored s ≡ p s.place) l → places (filter is_unignored l) ≡ filter p (places l)
lit_filter p [] a = refl
lit_filter p (s ∷ l) a = by_go (p s.place)
    (λ q. let e : is_unignored s ≡ true = a.0 ∙ q in rw (e, q) (ap (λ v. s.place ∷ v) (lit_filter p l a.1)))
    (λ q. let e : is_unignored s ≡ false = a.0 ∙ q in rw (e, q) (lit_filter p l a.1))

-- the shown list
pub shown_places : (f : Forest) → IsSound f → places (unignored (stitched f)) ≡ filter (shows f) (places (stitched f))
unfolding unignored
shown_places f s = lit_filter (shows f) (stitched f) (lit_placed f s)

any_both : (p : Place) (u : Bool) (l : List Placed) → AllOf (λ s. stands_at p s ≡ true → is_unignored s ≡ u) l → list_any (λ (s : Placed). stands_at p s && is_unignored s) l ≡ (list_any (stands_at p) l && u)
any_both p u [] a = refl
any_both p u (s ∷ l) a = by_go (stands_at p s)
    (λ q. let e : is_unignored s ≡ u = a.0 q in rw (q, e) (both u (any_both p u l a.1)))
    (λ q. rw q (any_both p u l a.1))
  where
    both : (u : Bool) → list_any (λ (s : Placed). stands_at p s && is_unignored s) l ≡ (list_any (stands_at p) l && u) → (u || list_any (λ (s : Placed). stands_at p s && is_unignored s) l) ≡ u
    both true e = refl
    both false e = e ∙ never (list_any (stands_at p) l)
      where
        never : (b : Bool) → (b && false) ≡ false
        never true = refl
        never false = refl

pub shown_is : (f : Forest) (p : Place) → IsSound f → has_place (stitched f) p ≡ true → is_shown_place (stitched f) p ≡ shows f p
unfolding is_shown_place has_place
shown_is f p s h =
    any_both p (shows f p) (stitched f) (all_weaker (λ s. is_unignored s ≡ shows f s.place) (λ s. stands_at p s ≡ true → is_unignored s ≡ shows f p) (stitched f) (λ r e q. e ∙ ap (shows f) (same_is r.place p q)) (lit_placed f s))
    ∙ ap (λ b. b && shows f p) h

pub shows_told : (f : Forest) (p : Place) (m : Tree) (r : Option (Bor NodeData)) (b : Bor NodeData) → Some m ≡ live_tree f p.tree → option_copied r ≡ node m p.node → r ≡ Some b → shows f p ≡ is_lit (look_of b.now)
shows_told f p m r b l e s =
    ap (λ o. shows_node (option_and_then (λ (m : Tree). node_at m.trees p.node) o)) (sym l) ∙ ap shows_node (node_of_told m p.node r b e s)
