-- The children of a numbered node are the numbers of the place's children.
use Rattle.std.proofs.Common.{ℕ, ◌+◌, ◌<◌, ◌≤◌, ◌≡◌, true, false, ◌||◌, eqb, List, [], ◌∷◌, ◌++◌, filter_map, Option, Some, None, refl, sym, ap, ◌∙◌, arith, append-nil}
use Rattle.std.proofs.lemmas.Bool.{false≢true, false_from_ne_true, eqb-true}
use Rattle.std.proofs.lemmas.Bool.Decides.{eqb_tells}
use Rattle.ax_base.specs.declared.position.Place.{Place}
use Rattle.ax_trees.specs.Trees.{Trees, bare, tree, has, roots, count}
use Rattle.ax_trees.specs.Nodes.{below, children}
use Rattle.ax_trees.proofs.Trees.{by_go, below_left, below_right, below_self}
use Rattle.ax_rules.specs.Looks.{same_place}
use Rattle.ax_rules.specs.StitchedTree.{PlacedLook}
use Rattle.ax_rules.specs.Combined.{number_of, numbered_look}
use Rattle.ax_stitch.proofs.Places.{same_is}
use Rattle.ax_place_laws.proofs.Joined.{is_in, entry, IsOnce, root_places, kids_at, kids_none}
use Rattle.ax_combine.proofs.Numbered.{numbered_from, Numbered, inside, outside}

same_number : (a b : ℕ) (o : Option ℕ) → o ≡ Some a → o ≡ Some b → a ≡ b
same_number a b o e h = let s : ◌≡◌ {A = Option ℕ} (Some a) (Some b) = sym e ∙ h in cc

number_there : (ps : List Place) (n : ℕ) (w : Trees PlacedLook) (p : Place) (z : ℕ) → Numbered ps n w → is_in p w ≡ true → number_of ps p ≡ Some z → has (numbered_from ps n w) z ≡ true
number_there ps n bare p z num h e = absurd (false≢true h)
number_there ps n (tree i x k r) p z num h e = by_go (same_place p x.place)
    (λ q. let s : n ≡ z = same_number n z (number_of ps x.place) num.0 (ap (number_of ps) (sym (same_is p x.place q)) ∙ e) in
    let self : eqb n z ≡ true = grind (arith, s, eqb_tells n z) in
    rw self refl)
    (λ q. by_go (is_in p k)
    (λ g. let a = number_there ps (n + 1) k p z num.1 g e in grind (arith, a))
    (λ g. let a = number_there ps (n + 1 + count k) r p z num.2 (rw (q, g) at h) e in grind (arith, a)))

pub numbered_roots : (ps : List Place) (n : ℕ) (w : Trees PlacedLook) → Numbered ps n w → filter_map (number_of ps) (root_places w) ≡ roots (numbered_from ps n w)
numbered_roots ps n bare num = refl
numbered_roots ps n (tree i x k r) num = let e = num.0 in rw e (ap (λ l. n ∷ l) (numbered_roots ps (n + 1 + count k) r num.2))

-- the numbers of the kids of p are the children of z
abbrev pub Agree : List Place → ℕ → Trees PlacedLook → Place → ℕ → Type 0
Agree ps n w p z = filter_map (number_of ps) (kids_at p w) ≡ children (numbered_from ps n w) z

own_kids : (ps : List Place) (n i : ℕ) (x : PlacedLook) (k r : Trees PlacedLook) (p : Place) (z : ℕ) → Numbered ps n (tree i x k r) → number_of ps p ≡ Some z → same_place p x.place ≡ true → Agree ps n (tree i x k r) p z
own_kids ps n i x k r p z num e q =
    let s : n ≡ z = same_number n z (number_of ps x.place) num.0 (ap (number_of ps) (sym (same_is p x.place q)) ∙ e) in
    let mine : kids_at p (tree i x k r) ≡ root_places k = rw q refl in
    ap (filter_map (number_of ps)) mine
    ∙ (numbered_roots ps (n + 1) k num.1
    ∙ (ap roots (sym (below_self n (numbered_look ps (entry [] x)) (numbered_from ps (n + 1) k) (numbered_from ps (n + 1 + count k) r)))
    ∙ ap (λ y. children (numbered_from ps n (tree i x k r)) y) s))

early_kids : (ps : List Place) (n i : ℕ) (x : PlacedLook) (k r : Trees PlacedLook) (p : Place) (z : ℕ) → IsOnce (tree i x k r) → Numbered ps n (tree i x k r) → number_of ps p ≡ Some z → same_place p x.place ≡ false
    → is_in p k ≡ true → Agree ps (n + 1) k p z → Agree ps n (tree i x k r) p z
early_kids ps n i x k r p z d num e q g ih =
    let none = kids_none p r (d.2.apart p g) in
    let mine : kids_at p (tree i x k r) ≡ kids_at p k = rw (q, none) (append-nil (kids_at p k)) in
    let t = number_there ps (n + 1) k p z num.1 g e in
    let low = (inside ps (n + 1) k z t).0 in
    let ne : eqb n z ≡ false = false_from_ne_true (eqb n z) (λ y. let s = eqb-true n z y in omega (arith, s, low)) in
    ap (filter_map (number_of ps)) mine ∙ (ih ∙ ap roots (sym (below_left n (numbered_look ps (entry [] x)) (numbered_from ps (n + 1) k) (numbered_from ps (n + 1 + count k) r) z ne t)))

late_kids : (ps : List Place) (n i : ℕ) (x : PlacedLook) (k r : Trees PlacedLook) (p : Place) (z : ℕ) → Numbered ps n (tree i x k r) → number_of ps p ≡ Some z → same_place p x.place ≡ false → is_in p k ≡ false
    → is_in p r ≡ true → Agree ps (n + 1 + count k) r p z → Agree ps n (tree i x k r) p z
late_kids ps n i x k r p z num e q g there ih =
    let none = kids_none p k g in
    let mine : kids_at p (tree i x k r) ≡ kids_at p r = rw (q, none) refl in
    let t = number_there ps (n + 1 + count k) r p z num.2 there e in
    let low = (inside ps (n + 1 + count k) r z t).0 in
    let ne : eqb n z ≡ false = false_from_ne_true (eqb n z) (λ y. let s = eqb-true n z y in omega (arith, s, low)) in
    let out : has (numbered_from ps (n + 1) k) z ≡ false = outside ps (n + 1) k z (λ a b. omega (arith, b, low)) in
    ap (filter_map (number_of ps)) mine ∙ (ih ∙ ap roots (sym (below_right n (numbered_look ps (entry [] x)) (numbered_from ps (n + 1) k) (numbered_from ps (n + 1 + count k) r) z ne out)))

pub numbered_kids : (ps : List Place) (n : ℕ) (w : Trees PlacedLook) (p : Place) (z : ℕ) → IsOnce w → Numbered ps n w → is_in p w ≡ true → number_of ps p ≡ Some z → Agree ps n w p z
numbered_kids ps n bare p z d num h e = absurd (false≢true h)
numbered_kids ps n (tree i x k r) p z d num h e = by_go (same_place p x.place)
    (own_kids ps n i x k r p z num e)
    (λ q. by_go (is_in p k)
    (λ g. early_kids ps n i x k r p z d num e q g (numbered_kids ps (n + 1) k p z d.3 num.1 g e))
    (λ g. let there : is_in p r ≡ true = rw (q, g) at h in late_kids ps n i x k r p z num e q g there (numbered_kids ps (n + 1 + count k) r p z d.4 num.2 there e)))
