-- The places above a place, step by step. Belongs in ax_stitch.
use Rattle.std.proofs.Common.{ℕ, zero, suc, ◌+◌, ◌≡◌, true, false, ◌==◌, eqb, List, [], ◌∷◌, Option, Some, None, refl, sym, ap, ◌∙◌, subst, arith, option_map, option_and_then}
use Rattle.std.proofs.lemmas.Bool.{false≢true, false_from_ne_true}
use Rattle.std.proofs.lemmas.Bool.Decides.{eqb_tells}
use Rattle.ax_base.specs.declared.position.Place.{Place}
use Rattle.ax_node.specs.Look.{Look}
use Rattle.ax_trees.specs.Trees.{Trees, bare, tree, has, has_root, IsDistinct}
use Rattle.ax_trees.specs.Nodes.{parent}
use Rattle.ax_trees.specs.Spots.{or_else}
use Rattle.ax_trees.proofs.Trees.{by_go, root_in}
use Rattle.ax_tree.specs.Forest.{Forest, first_tree, host_of}
use Rattle.ax_rules.specs.Sequences.{first_of}
use Rattle.ax_rules.specs.Stitched.{Placed, place_at, stitched, has_place, find_placed, parent_of}
use Rattle.ax_views.proofs.Climbing.{root_from_none}
use Rattle.ax_stitch.specs.Levels.{AreFormed, levels_below, line_in, line_of, line_over, line}
use Rattle.ax_stitch.proofs.Orders.{parent_in, child_in}
use Rattle.ax_stitch.proofs.Hosts.{host_is, first_hangs_nowhere}
use Rattle.ax_stitch.proofs.Climbs.{up}
use Rattle.ax_stitch.proofs.Places.{PlaceStands, stands, level_from, there_stands, host_listed, listed_node, formed_less}
use Rattle.ax_stitch.proofs.Under.{AllFormed, formed_up, all_formed, IsPlaced, placed, line_done, line_first, first_over}

line_root : {X : Type 0} (t : ℕ) (over : List Place) (w : Trees X) (z : ℕ) → IsDistinct w → has_root w z ≡ true → line_in t over w z ≡ over
line_root t over bare z e b = absurd (false≢true b)
line_root t over (tree j u a c) z e b = by_go (j == z) (λ q. rw q refl) (λ q.
    let b' : has_root c z ≡ true = grind (arith, b, q) in
    let no : has a z ≡ false = false_from_ne_true (has a z) (λ g. false≢true (sym (e.2.apart z g) ∙ root_in c z b')) in
    rw (q, no) (line_root t over c z e.4 b'))

-- in one tree
line_parent : {X : Type 0} (t : ℕ) (over : List Place) (w : Trees X) (z y : ℕ) → IsDistinct w → parent w z ≡ Some y → line_in t over w z ≡ place_at t y ∷ line_in t over w y
line_parent t over bare z y d h = absurd (cc)
line_parent t over (tree i x k r) z y d h = by_go (has_root k z)
    (λ b. at_root b) (λ b. by_go (has k z) (λ g. inside (line_parent t (place_at t i ∷ over) k z y d.3) b g) (λ g. after (line_parent t over r z y d.4) b g))
  where
    not_here : has k z ≡ true → eqb i z ≡ false
    not_here g = false_from_ne_true (eqb i z) (λ q. grind (arith, q, eqb_tells i z, g, d.0))

    top : has_root k z ≡ true → line_in t (place_at t i ∷ over) k z ≡ place_at t i ∷ over
    top b = line_root t (place_at t i ∷ over) k z d.3 b

    at_root : has_root k z ≡ true → line_in t over (tree i x k r) z ≡ place_at t y ∷ line_in t over (tree i x k r) y
    at_root b =
        let g : has k z ≡ true = root_in k z b in
        let q : eqb i z ≡ false = not_here g in
        let up : ◌≡◌ {A = Option ℕ} (Some i) (Some y) = rw b at h in
        let same : i ≡ y = cc in
        let self : eqb i y ≡ true = grind (arith, eqb_tells i y, same) in
        rw (q, g, self) (top b ∙ ap (λ j. place_at t j ∷ over) same)

    inside : (parent k z ≡ Some y → line_in t (place_at t i ∷ over) k z ≡ place_at t y ∷ line_in t (place_at t i ∷ over) k y) → has_root k z ≡ false → has k z ≡ true
        → line_in t over (tree i x k r) z ≡ place_at t y ∷ line_in t over (tree i x k r) y
    inside ih b g =
        let q : eqb i z ≡ false = not_here g in
        let up : parent k z ≡ Some y = rw (b, g) at h in
        let there : has k y ≡ true = parent_in k z y up in
        let other : eqb i y ≡ false = false_from_ne_true (eqb i y) (λ p. grind (arith, p, eqb_tells i y, there, d.0)) in
        rw (q, g, other, there) (ih up)

    after : (parent r z ≡ Some y → line_in t over r z ≡ place_at t y ∷ line_in t over r y) → has_root k z ≡ false → has k z ≡ false
        → line_in t over (tree i x k r) z ≡ place_at t y ∷ line_in t over (tree i x k r) y
    after ih b g =
        let up : parent r z ≡ Some y = rw (b, g) at h in
        let late : has r z ≡ true = child_in r z y up in
        let there : has r y ≡ true = parent_in r z y up in
        let q : eqb i z ≡ false = false_from_ne_true (eqb i z) (λ p. grind (arith, p, eqb_tells i z, late, d.1)) in
        let other : eqb i y ≡ false = false_from_ne_true (eqb i y) (λ p. grind (arith, p, eqb_tells i y, there, d.1)) in
        let no : has k y ≡ false = false_from_ne_true (has k y) (λ p. false≢true (sym (d.2.apart y p) ∙ there)) in
        rw (q, g, other, no) (ih up)

parent_line : (f : Forest) (p : Place) → has_place (stitched f) p ≡ true → AreFormed 8 f p.tree → option_and_then parent_of (find_placed (stitched f) p) ≡ first_of (line 8 f p)
parent_line f p h w = let s = placed f p h w in ap (option_and_then parent_of) s.1.found ∙ ap first_of s.1.above

-- above a place stand its parent and what is above that
pub record IsStep (f : Forest) (p q : Place) : Type 0 where
  pub there : has_place (stitched f) q ≡ true
  pub line : line 8 f p ≡ q ∷ line 8 f q

-- the host of a tree of the list
host_step : (f : Forest) (t : ℕ) (q : Place) (j n first : ℕ) → first_tree f ≡ Some first → 8 ≡ j + suc n → up j f t ≡ Some first → AreFormed 8 f t → host_of f t ≡ Some q
    → (has_place (stitched f) q ≡ true) × (line 7 f q ≡ line 8 f q)
host_step f t q zero n first e s h w b =
    let same : t ≡ first = cc in
    absurd (let no : ◌≡◌ {A = Option Place} None (Some q) = sym (ap (host_of f) same ∙ first_hangs_nowhere f first e) ∙ b in cc)
host_step f t q (suc j) n first e s h w b =
    let stop : host_of f first ≡ None = first_hangs_nowhere f first e in
    let climbs : up j f q.tree ≡ Some first = sym (ap (option_and_then (λ (host : Place). up j f host.tree)) b) ∙ h in
    let formed : AllFormed f t = all_formed (suc j) f t first stop h (formed_less (suc (suc j)) 8 f t (omega arith) w) in
    let host = host_is f t q b in
    let there : has host.over.trees q.node ≡ true = sym (listed_node f q host.over (sym host.over_live)) ∙ host_listed f t q b in (
      there_stands f q (suc n) host.over (level_from j 8 (suc n) f q.tree first e (omega arith) climbs) host.over_live there (formed_up f t q b formed 8),
      line_done j 7 f q first stop climbs (omega arith) ∙ sym (line_done j 8 f q first stop climbs (omega arith)),
    )

pub step_up : (f : Forest) (p q : Place) → has_place (stitched f) p ≡ true → AreFormed 8 f p.tree → Some q ≡ option_and_then parent_of (find_placed (stitched f) p) → IsStep f p q
step_up f p q h w e = go (placed f p h w) (stands f p h) (e ∙ parent_line f p h w)
  where
    go : (s : (s : Placed) × IsPlaced f p s) → PlaceStands f p → Some q ≡ first_of (line 8 f p) → IsStep f p q
    go s st k = cases (parent w' z) refl (host_of f p.tree) refl (k ∙ first)
      where
        w' : Trees Look
        w' = s.1.tree.trees

        z : ℕ
        z = p.node

        lined : line 8 f p ≡ line_in p.tree (line_over (line 7 f) (host_of f p.tree)) s.1.tree.trees p.node
        lined = ap (λ o. line_of p.tree (line_over (line 7 f) (host_of f p.tree)) o p.node) s.1.live

        first : first_of (line 8 f p) ≡ or_else (option_map (place_at p.tree) (parent s.1.tree.trees p.node)) (host_of f p.tree)
        first =
            ap first_of lined
            ∙ (line_first p.tree (line_over (line 7 f) (host_of f p.tree)) s.1.tree.trees p.node s.1.distinct s.1.there
            ∙ ap (or_else (option_map (place_at p.tree) (parent s.1.tree.trees p.node))) (first_over 7 f (host_of f p.tree)))

        cases : (o : Option ℕ) → parent s.1.tree.trees p.node ≡ o → (r : Option Place) → host_of f p.tree ≡ r → Some q ≡ or_else (option_map (place_at p.tree) o) r → IsStep f p q
        cases (Some y) a r b k =
            let same : q ≡ place_at p.tree y = cc in
            let there : has s.1.tree.trees y ≡ true = parent_in s.1.tree.trees p.node y a in
            let level : levels_below 8 f p.tree ≡ Some st.below = level_from st.level.steps 8 st.below f p.tree st.level.first st.level.is_first st.level.sum st.level.climbs in
            let next : line_in p.tree (line_over (line 7 f) (host_of f p.tree)) s.1.tree.trees y ≡ line 8 f (place_at p.tree y) =
            sym (ap (λ o. line_of p.tree (line_over (line 7 f) (host_of f p.tree)) o y) s.1.live) in
            subst (IsStep f p) (sym same) (record {
              there = there_stands f (place_at p.tree y) st.below s.1.tree level s.1.live there w;
              line = lined ∙ (line_parent p.tree (line_over (line 7 f) (host_of f p.tree)) s.1.tree.trees p.node y s.1.distinct a ∙ ap (λ l. place_at p.tree y ∷ l) next);
            })
        cases None a None b k = absurd (cc)
        cases None a (Some host) b k =
            let same : q ≡ host = cc in
            let root : has_root s.1.tree.trees p.node ≡ true = root_from_none s.1.tree.trees p.node s.1.distinct s.1.there a in
            let up = host_step f p.tree host st.level.steps st.below st.level.first st.level.is_first st.level.sum st.level.climbs w b in
            subst (IsStep f p) (sym same) (record {
              there = up.0;
              line = lined ∙ (line_root p.tree (line_over (line 7 f) (host_of f p.tree)) s.1.tree.trees p.node s.1.distinct root ∙ (ap (line_over (line 7 f)) b ∙ ap (λ l. host ∷ l) up.1));
            })

pub step_top : (f : Forest) (p : Place) → has_place (stitched f) p ≡ true → AreFormed 8 f p.tree → None ≡ option_and_then parent_of (find_placed (stitched f) p) → line 8 f p ≡ []
step_top f p h w e = go (line 8 f p) (e ∙ parent_line f p h w)
  where
    go : (l : List Place) → None ≡ first_of l → l ≡ []
    go [] k = refl
    go (x ∷ xs) k = absurd (cc)
