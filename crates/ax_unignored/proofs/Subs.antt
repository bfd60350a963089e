-- The tree of a place among the joined trees.
use Rattle.std.proofs.Common.{ℕ, zero, suc, ◌+◌, ◌≡◌, true, false, ◌==◌, ◌⊎◌, inl, inr, ◌++◌, Option, Some, None, refl, sym, ap, ◌∙◌, subst, arith, option_and_then}
use Rattle.std.specs.Prelude.{if◌then◌else◌}
use Rattle.std.proofs.lemmas.Bool.{false≢true, eqb-true}
use Rattle.ax_base.specs.declared.position.Place.{Place}
use Rattle.ax_node.specs.Look.{Look}
use Rattle.ax_trees.specs.Trees.{Trees, bare, tree, has}
use Rattle.ax_trees.specs.Nodes.{tree_at, below}
use Rattle.ax_trees.proofs.Trees.{by_go}
use Rattle.ax_trees.proofs.Nodes.{tree_at_is}
use Rattle.ax_tree.specs.Tree.{Tree}
use Rattle.ax_tree.specs.Forest.{Forest, IsSound, first_tree, live_tree, host_of}
use Rattle.ax_rules.specs.Looks.{same_place}
use Rattle.ax_rules.specs.Stitched.{place_at}
use Rattle.ax_rules.specs.StitchedTree.{PlacedLook, place_number, beside, joined_in, joined_of, joined_at, joined_from, stitched_tree, tree_places}
use Rattle.ax_stitch.specs.Levels.{levels_below}
use Rattle.ax_stitch.proofs.Hosts.{host_is, host_node, host_hung}
use Rattle.ax_stitch.proofs.Climbs.{up}
use Rattle.ax_stitch.proofs.Places.{level_is, same_self}
use Rattle.ax_stitch.proofs.Sound.{sound_tree}
use Rattle.ax_unignored.specs.Tops.{hung_tree, joint}
use Rattle.ax_unignored.proofs.Unique.{among, Unique, among-append, parted, not_both, other_place, unique_tree}

-- the tree of p alone
abbrev pub sub_at : Place → Trees PlacedLook → Trees PlacedLook
sub_at p bare = bare
sub_at p (tree i x a b) = if same_place x.place p then tree i x a bare else if among p (tree_places a) then sub_at p a else sub_at p b

-- u is one of the trees
abbrev Has : Trees PlacedLook → Trees PlacedLook → Type 0
Has u bare = ⊥
Has u (tree i x a b) = (tree i x a bare ≡ u) ⊎ (Has u a ⊎ Has u b)

has_left : (u a b : Trees PlacedLook) → Has u a → Has u (beside a b)
has_left u bare b h = absurd h
has_left u (tree i x k r) b (inl e) = inl e
has_left u (tree i x k r) b (inr (inl h)) = inr (inl h)
has_left u (tree i x k r) b (inr (inr h)) = inr (inr (has_left u r b h))

has_right : (u a b : Trees PlacedLook) → Has u b → Has u (beside a b)
has_right u bare b h = h
has_right u (tree i x k r) b h = inr (inr (has_right u r b h))

-- the tree of a node of t
has_node : (h : Place → Trees PlacedLook) (t : ℕ) (w : Trees Look) (z : ℕ) → has w z ≡ true → Has (joined_in h t (tree_at w z)) (joined_in h t w)
has_node h t bare z g = absurd (false≢true g)
has_node h t (tree i x k r) z g = by_go (i == z) (λ q. here q) (λ q. by_go (has k z) (λ b. within q b (has_node h t k z b)) (λ b. after q b (has_node h t r z (grind (arith, g, q, b)))))
  where
    here : i == z ≡ true → Has (joined_in h t (tree_at (tree i x k r) z)) (joined_in h t (tree i x k r))
    here q =
        let e : tree_at (tree i x k r) z ≡ tree i x k bare = rw q refl in
        subst (λ v. Has (joined_in h t v) (joined_in h t (tree i x k r))) (sym e) (inl refl)

    within : i == z ≡ false → has k z ≡ true → Has (joined_in h t (tree_at k z)) (joined_in h t k) → Has (joined_in h t (tree_at (tree i x k r) z)) (joined_in h t (tree i x k r))
    within q b ih =
        let e : tree_at (tree i x k r) z ≡ tree_at k z = rw (q, b) refl in
        subst (λ v. Has (joined_in h t v) (joined_in h t (tree i x k r))) (sym e) (inr (inl (has_left (joined_in h t (tree_at k z)) (joined_in h t k) (h (place_at t i)) ih)))

    after : i == z ≡ false → has k z ≡ false → Has (joined_in h t (tree_at r z)) (joined_in h t r) → Has (joined_in h t (tree_at (tree i x k r) z)) (joined_in h t (tree i x k r))
    after q b ih =
        let e : tree_at (tree i x k r) z ≡ tree_at r z = rw (q, b) refl in
        subst (λ v. Has (joined_in h t v) (joined_in h t (tree i x k r))) (sym e) (inr (inr ih))

-- a tree of what hangs at a node of t
has_hung : (h : Place → Trees PlacedLook) (t : ℕ) (w : Trees Look) (z : ℕ) (u : Trees PlacedLook) → has w z ≡ true → Has u (h (place_at t z)) → Has u (joined_in h t w)
has_hung h t bare z u g e = absurd (false≢true g)
has_hung h t (tree i x k r) z u g e = by_go (i == z)
    (λ q. inr (inl (has_right u (joined_in h t k) (h (place_at t i)) (subst (λ j. Has u (h (place_at t j))) (sym (eqb-true i z q)) e))))
    (λ q. by_go (has k z)
    (λ b. inr (inl (has_left u (joined_in h t k) (h (place_at t i)) (has_hung h t k z u b e))))
    (λ b. inr (inr (has_hung h t r z u (grind (arith, g, q, b)) e))))

-- a tree of those from t on is one of those from the first tree on
has_climbs : (j k n : ℕ) (f : Forest) (t first : ℕ) (u : Trees PlacedLook) → IsSound f → up j f t ≡ Some first → k ≡ j + suc n → Has u (joined_from (suc n) f t) → Has u (joined_from k f first)
has_climbs zero k n f t first u s h e g =
    let same : t ≡ first = cc in
    let level : suc n ≡ k = omega (arith, e) in
    subst (λ j. Has u (joined_from j f first)) level (subst (λ c. Has u (joined_from (suc n) f c)) same g)
has_climbs (suc j) k n f t first u s h e g = go (λ q v w. has_climbs j k (suc n) f q first u s v (omega (arith, e)) w) (host_of f t) refl h
  where
    go : ((q : ℕ) → up j f q ≡ Some first → Has u (joined_from (suc (suc n)) f q) → Has u (joined_from k f first)) → (o : Option Place) → host_of f t ≡ o
        → option_and_then (λ (host : Place). up j f host.tree) o ≡ Some first → Has u (joined_from k f first)
    go ih None r v = absurd (cc)
    go ih (Some q) r v =
        let host = host_is f t q r in
        let d = (sound_tree f q.tree host.over s host.over_live).distinct in
        let node = host_node f t q host d in
        let here : Has u (hung_tree (suc n) f q) = subst (λ o. Has u (joined_at (joined_from (suc n) f) o)) (sym (host_hung f t q host d r)) g in
        ih q.tree v (subst (λ o. Has u (joined_of (hung_tree (suc n) f) q.tree o)) (sym host.over_live) (has_hung (hung_tree (suc n) f) q.tree host.over.trees q.node u node.there here))

has_among : (i : ℕ) (x : PlacedLook) (a t : Trees PlacedLook) → Has (tree i x a bare) t → among x.place (tree_places t) ≡ true
has_among i x a bare h = absurd h
has_among i x a (tree j y b c) (inl e) =
    let same : y ≡ x = cc in
    let s : same_place y.place x.place ≡ true = ap (λ (v : PlacedLook). same_place v.place x.place) same ∙ same_self x.place in
    rw s refl
has_among i x a (tree j y b c) (inr (inl h)) =
    let g = has_among i x a b h in
    let m : among x.place (tree_places b ++ tree_places c) ≡ true = among-append x.place (tree_places b) (tree_places c) ∙ (rw g refl) in
    by_go (same_place y.place x.place) (λ q. rw q refl) (λ q. rw q m)
has_among i x a (tree j y b c) (inr (inr h)) =
    let g = has_among i x a c h in
    let m : among x.place (tree_places b ++ tree_places c) ≡ true =
    among-append x.place (tree_places b) (tree_places c) ∙ by_go (among x.place (tree_places b)) (λ q. rw q refl) (λ q. rw (q, g) refl) in
    by_go (same_place y.place x.place) (λ q. rw q refl) (λ q. rw q m)

sub_has : (i : ℕ) (x : PlacedLook) (a t : Trees PlacedLook) → Unique (tree_places t) → Has (tree i x a bare) t → sub_at x.place t ≡ tree i x a bare
sub_has i x a bare u h = absurd h
sub_has i x a (tree j y b c) u (inl e) =
    let same : y ≡ x = cc in
    let s : same_place y.place x.place ≡ true = ap (λ (v : PlacedLook). same_place v.place x.place) same ∙ same_self x.place in
    rw s e
sub_has i x a (tree j y b c) u (inr (inl h)) =
    let p = parted y.place (tree_places b) (tree_places c) u in
    let g = has_among i x a b h in
    let o = other_place y.place x.place (tree_places b) p.not_inner g in
    rw (o, g) (sub_has i x a b p.inner h)
sub_has i x a (tree j y b c) u (inr (inr h)) =
    let p = parted y.place (tree_places b) (tree_places c) u in
    let g = has_among i x a c h in
    let o = other_place y.place x.place (tree_places c) p.not_later g in
    let n = not_both y.place x.place (tree_places b) (tree_places c) p g in
    rw (o, n) (sub_has i x a c p.later h)

-- the tree of a place of the list is its node's with all below it
pub sub_is : (f : Forest) (p : Place) (n : ℕ) (m : Tree) → IsSound f → Some n ≡ levels_below 8 f p.tree → Some m ≡ live_tree f p.tree → has m.trees p.node ≡ true
    → sub_at p (stitched_tree f) ≡ joint n f p.tree m.trees p.node
unfolding stitched_tree
sub_is f p n m s e l h =
    let level = level_is 8 n f p.tree (sym e) in
    let a = tree_at_is m.trees p.node h in
    let form : joint n f p.tree m.trees p.node ≡ tree (place_number p) (record { place = p; look = a.0 }) (beside (joined_in (hung_tree n f) p.tree (below m.trees p.node)) (hung_tree n f p)) bare =
    ap (joined_in (hung_tree n f) p.tree) a.1 in
    let own : Has (joint n f p.tree m.trees p.node) (joined_from (suc n) f p.tree) =
    subst (λ o. Has (joint n f p.tree m.trees p.node) (joined_of (hung_tree n f) p.tree o)) l (has_node (hung_tree n f) p.tree m.trees p.node h) in
    let from_first = has_climbs level.steps 8 n f p.tree level.first (joint n f p.tree m.trees p.node) s level.climbs level.sum own in
    let whole : Has (joint n f p.tree m.trees p.node) (joined_at (joined_from 8 f) (first_tree f)) = subst (λ o. Has (joint n f p.tree m.trees p.node) (joined_at (joined_from 8 f) o)) (sym level.is_first) from_first in
    sub_has (place_number p) (record { place = p; look = a.0 }) (beside (joined_in (hung_tree n f) p.tree (below m.trees p.node)) (hung_tree n f p)) (joined_at (joined_from 8 f) (first_tree f)) (unique_tree f s)
    (subst (λ u. Has u (joined_at (joined_from 8 f) (first_tree f))) form whole)
    ∙ sym form
