-- Climbs to the nearest live node.
use Rattle.std.proofs.Common.{ℕ, ◌≡◌, Bool, true, false, List, [], ◌∷◌, reverse, filter_map, Option, Some, None, refl, sym, ap, ◌∙◌}
use Rattle.std.specs.Prelude.{option_map, is_some}
use Rattle.std.specs.List.{find}
use Rattle.std.proofs.lemmas.List.{reverse-append}
use Rattle.std.proofs.lemmas.Option.{same_Some}
use Rattle.std.proofs.lemmas.Bool.{false≢true}
use Rattle.ax_node.specs.Look.{Look}
use Rattle.ax_trees.specs.Trees.{Trees, has, IsDistinct}
use Rattle.ax_trees.specs.Nodes.{Node, node_at, chain, parent}
use Rattle.ax_trees.proofs.Trees.{by_go}
use Rattle.ax_trees.proofs.Chains.{chain_absent}
use Rattle.ax_trees.proofs.Grown.{node_some}
use Rattle.ax_views.proofs.Climbing.{is_above, chain_top}
use Rattle.ax_tree.specs.Tree.{Tree}
use Rattle.ax_rules.specs.Looks.{attr, line_up}
use Rattle.ax_rules.specs.Rows.{live_key}
use Rattle.ax_rules.specs.Events.{region_of}
use Rattle.ax_events.specs.Regions.{is_live}
use Rattle.ax_order.proofs.Nodes.{node_there}
use Rattle.ax_trees.proofs.Parents.{node_named}

module _ (f : Trees Look) (z : ℕ) (d : IsDistinct f) where
  up_above : (y : ℕ) (n : Node Look) → parent f z ≡ Some y → node_at f z ≡ Some n → line_up f z ≡ n ∷ line_up f y
  up_above y n p e =
      let a = is_above f z y d p in
      ap (λ zs. filter_map (node_at f) (reverse zs)) a.on
      ∙ (ap (filter_map (node_at f)) (reverse-append (chain f y) (z ∷ [])) ∙ rw e refl)

  up_top : (n : Node Look) → parent f z ≡ None → node_at f z ≡ Some n → line_up f z ≡ n ∷ []
  up_top n p e = ap (λ zs. filter_map (node_at f) (reverse zs)) (chain_top f z d (node_there f z n e) p) ∙ rw e refl

  up_absent : has f z ≡ false → line_up f z ≡ []
  up_absent h = ap (λ zs. filter_map (node_at f) (reverse zs)) (chain_absent f z h)

abbrev pub has_live : Node Look → Bool
has_live n = is_some (attr n.known live_key)

abbrev nearest : List (Node Look) → Option ℕ
nearest ns = option_map (λ (n : Node Look). n.id) (find has_live ns)

near_first : (n : Node Look) (ns : List (Node Look)) → has_live n ≡ true → nearest (n ∷ ns) ≡ Some n.id
near_first n ns h = rw h refl

near_later : (n : Node Look) (ns : List (Node Look)) → has_live n ≡ false → nearest (n ∷ ns) ≡ nearest ns
near_later n ns h = rw h refl

module _ (t : Tree) (z : ℕ) (d : IsDistinct t.trees) where
  pub region_here : is_live (node_at t.trees z) ≡ true → region_of t z ≡ Some z
  region_here h = go (node_at t.trees z) (parent t.trees z) refl refl h
    where
      go : (o : Option (Node Look)) (p : Option ℕ) → node_at t.trees z ≡ o → parent t.trees z ≡ p → is_live o ≡ true → region_of t z ≡ Some z
      go None p e u l = absurd (false≢true l)
      go (Some n) None e u l = ap nearest (up_top t.trees z d n u e) ∙ (near_first n [] l ∙ ap Some (node_named t.trees z n e))
      go (Some n) (Some y) e u l = ap nearest (up_above t.trees z d y n u e) ∙ (near_first n (line_up t.trees y) l ∙ ap Some (node_named t.trees z n e))

  pub region_above : (y : ℕ) → is_live (node_at t.trees z) ≡ false → parent t.trees z ≡ Some y → region_of t z ≡ region_of t y
  region_above y h u =
      let a = is_above t.trees z y d u in
      let n = node_some t.trees z a.there in
      ap nearest (up_above t.trees z d y n.0 u n.1) ∙ near_later n.0 (line_up t.trees y) (sym (ap is_live n.1) ∙ h)

  pub region_none : is_live (node_at t.trees z) ≡ false → parent t.trees z ≡ None → region_of t z ≡ None
  region_none h u = go (node_at t.trees z) refl h
    where
      go : (o : Option (Node Look)) → node_at t.trees z ≡ o → is_live o ≡ false → region_of t z ≡ None
      go (Some n) e l = ap nearest (up_top t.trees z d n u e) ∙ near_later n [] l
      go None e l = by_go (has t.trees z)
          (λ q. absurd (let n = node_some t.trees z q in let no : ◌≡◌ {A = Option (Node Look)} None (Some n.0) = sym e ∙ n.1 in cc))
          (λ q. ap nearest (up_absent t.trees z d q))

-- a region is live
found_live : (f : Trees Look) (zs : List ℕ) (l : ℕ) → nearest (filter_map (node_at f) zs) ≡ Some l → is_live (node_at f l) ≡ true
found_live f [] l e = absurd (let no : ◌≡◌ {A = Option ℕ} None (Some l) = e in cc)
found_live f (z ∷ zs) l e = go (node_at f z) refl e (found_live f zs l)
  where
    go : (o : Option (Node Look)) → node_at f z ≡ o → nearest (filter_map (node_at f) (z ∷ zs)) ≡ Some l → (nearest (filter_map (node_at f) zs) ≡ Some l → is_live (node_at f l) ≡ true) → is_live (node_at f l) ≡ true
    go None w h ih = ih (rw w at h)
    go (Some n) w h ih =
        let h' : nearest (n ∷ filter_map (node_at f) zs) ≡ Some l = rw w at h in
        by_go (has_live n)
        (λ q. let same : n.id ≡ l = same_Some n.id l (sym (near_first n (filter_map (node_at f) zs) q) ∙ h') in
        ap (λ v. is_live (node_at f v)) (sym same ∙ node_named f z n w) ∙ (ap is_live w ∙ q))
        (λ q. ih (sym (near_later n (filter_map (node_at f) zs) q) ∙ h'))

pub region_live : (t : Tree) (z l : ℕ) → region_of t z ≡ Some l → is_live (node_at t.trees l) ≡ true
region_live t z l e = found_live t.trees (reverse (chain t.trees z)) l e
