-- The first bound above an offset.
use Rattle.std.proofs.Common.{ℕ, ◌+◌, ◌≤◌, ◌<◌, ◌≡◌, Bool, true, false, List, [], ◌∷◌, flat_map, find, length, refl, sym, ap, ◌∙◌, arith, Option, Some, None, is_some}
use Rattle.std.specs.Prelude.{nat_lt}
use Rattle.std.proofs.Math.Utf8.{scalars}
use Rattle.ax_base.specs.declared.position.Place.{Place}
use Rattle.ax_base.specs.declared.position.Unit as position
use Rattle.ax_trees.specs.Spots.{or_else}
use Rattle.ax_trees.proofs.Trees.{by_go}
use Rattle.ax_tree.specs.Forest.{Forest, IsSound}
use Rattle.ax_rules.specs.Sequences.{first_of}
use Rattle.ax_rules.specs.Looks.{name_text}
use Rattle.ax_rules.specs.Stitched.{Placed, places, stitched, is_leaf, is_within, leaves}
use Rattle.ax_rules.specs.Texts.{capped}
use Rattle.ax_rules.specs.Moves.{bounds_within, bounds_of, bound_after}
use Rattle.ax_place_laws.specs.Lists.{EachOf}
use Rattle.ax_place_laws.proofs.Starts.{begun_leaves, list_once}
use Rattle.ax_place_laws.proofs.Pieces.{bounds_are_within}
use Rattle.ax_place_laws.proofs.Bounds.{leaf_bounds, bounds_are}
use Rattle.ax_position.specs.Walks.{rows, folded, IsSettled}
use Rattle.ax_position.proofs.Descents.{folded_settled}
use Rattle.ax_position.proofs.StartLemmas.{rows_by}
use Rattle.ax_moves.specs.declared.above.Above.{Above}
use Rattle.ax_moves.specs.Bounds.{moved, bounds_from, searched_above}
use Rattle.ax_moves.proofs.ListLemmas.{find-append, find_none, find_first}

-- ---- the bounds of one text

each_moved : (P Q : ℕ → Type 0) (n : ℕ) (ws : List ℕ) → ((w : ℕ) → P w → Q (capped (n + w))) → EachOf P ws → EachOf Q (moved n ws)
each_moved P Q n [] h e = tt
each_moved P Q n (w ∷ ws) h e = (h w e.0, each_moved P Q n ws h e.1)

every : (ws : List ℕ) → EachOf (λ (w : ℕ). Unit {0}) ws
every [] = tt
every (w ∷ ws) = (tt, every ws)

above_is : (g b : ℕ) → g < b → nat_lt g b ≡ true
above_is g b h = grind (arith, h)

by_is : (g b : ℕ) → b ≤ g → nat_lt g b ≡ false
by_is g b h = grind (arith, h)

-- of a text that starts above the offset the first bound is the first above
pub first_behind : (u : position.Unit) (text : List ℕ) (start g : ℕ) → start ≤ 18446744073709551615 → g < start → first_of (bounds_from u start text) ≡ find (nat_lt g) (bounds_from u start text)
first_behind u text start g c h =
    sym (find_first (nat_lt g) (bounds_from u start text)
    (each_moved (λ (w : ℕ). Unit {0}) (λ b. nat_lt g b ≡ true) start (bounds_within u text) (λ w _. above_is g (capped (start + w)) (omega (arith, c, h))) (every (bounds_within u text))))

-- a text that ends by the offset has no bound above it
pub none_before : (u : position.Unit) (text : List ℕ) (start end g : ℕ) → end ≡ capped (start + length text) → scalars text ≡ true → end ≤ g → ◌≡◌ {A = Option ℕ} None (find (nat_lt g) (bounds_from u start text))
none_before u text start end g e s h =
    sym (find_none (nat_lt g) (bounds_from u start text)
    (each_moved (λ w. w ≤ length text) (λ b. nat_lt g b ≡ false) start (bounds_within u text) (λ w k. by_is g (capped (start + w)) (omega (arith, e, h, k))) (bounds_are_within u text s)))

-- ---- the walk

pub above_settled : (s : Above) → is_some s.found ≡ true → IsSettled searched_above s
above_settled s h = record { stays = λ r. rw h refl }

found_from : (leaf within : Placed → Bool) (u : position.Unit) (g : ℕ) (l : List Placed) (n : ℕ) (o : Option ℕ)
    → (folded searched_above (record { unit = u; offset = g; at = n; found = o }) (rows_by leaf within l)).found ≡ or_else o (find (nat_lt g) (flat_map (leaf_bounds u) (begun_leaves leaf n l)))
found_from leaf within u g [] n None = refl
found_from leaf within u g [] n (Some b) = refl
found_from leaf within u g (x ∷ l) n (Some b) =
    ap (λ (v : Above). v.found) (folded_settled searched_above (record { unit = u; offset = g; at = n; found = Some b }) (rows_by leaf within (x ∷ l)) (above_settled (record { unit = u; offset = g; at = n; found = Some b }) refl))
found_from leaf within u g (x ∷ l) n None =
    let t = name_text x.look in
    let next = capped (n + length t) in
    by_go (leaf x)
    (λ q. rw q (found_from leaf within u g l next (find (nat_lt g) (bounds_from u n t)) ∙ sym (find-append (nat_lt g) (bounds_from u n t) (flat_map (leaf_bounds u) (begun_leaves leaf next l)))))
    (λ q. rw q (found_from leaf within u g l n None))

pub after_told : (f : Forest) (p : Place) (u : position.Unit) (g : ℕ) (s : Above) → IsSound f → s ≡ folded searched_above (record { unit = u; offset = g; at = 0; found = None }) (rows (stitched f) p) → s.found ≡ bound_after (stitched f) u g
unfolding rows bound_after
after_told f p u g s w e =
    let l = stitched f in
    ap (λ (v : Above). v.found) e ∙ (found_from (is_leaf l) (is_within p) u g l 0 None ∙ ap (find (nat_lt g)) (sym (bounds_are l u (list_once f w))))

pub after_nothing : (l : List Placed) (u : position.Unit) (g : ℕ) → None ≡ first_of (places l) → ◌≡◌ {A = Option ℕ} None (bound_after l u g)
unfolding bound_after bounds_of leaves
after_nothing [] u g h = refl
after_nothing (x ∷ l) u g h = absurd (cc)
