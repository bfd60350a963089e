-- A hash map that keeps a tree has as many entries as the tree has nodes.
use Rattle.std.proofs.Common.{ℕ, suc, ◌≡◌, true, false, eqb, List, [], ◌∷◌, length, Option, Some, None, refl, sym, ap, ◌∙◌, subst, arith}
use Rattle.std.specs.Prelude.{option_map, is_some, nat_eq}
use Rattle.std.specs.List.{IsDistinct as AreDistinct, AllByRecursion}
use Rattle.std.specs.Map.{keys_of, lookup}
use Rattle.std.specs.HashMap.{HashMap, get, hash_map_len, IsUnique, keys}
use Rattle.std.proofs.lemmas.Bool.Decides.{eqb_tells}
use Rattle.std.proofs.lemmas.Bool.{false≢true, eqb-true}
use Rattle.ax_trees.specs.Trees.{Trees, bare, tree, ids, count, IsDistinct}
use Rattle.ax_trees.specs.Spots.{Spot, spot, removed}
use Rattle.ax_trees.specs.Lists.{contains, NoneTwice}
use Rattle.ax_trees.proofs.Trees.{by_go}
use Rattle.ax_trees.proofs.Lists.{contains-append, once_append}
use Rattle.ax_trees.proofs.Times.{contains-ids, length-ids, has-spot}
use Rattle.ax_views.specs.Kept.{Keeps}

-- ---- two lists without repeats and with the same ids are of one length

contains-removed_other : (z y : ℕ) (js : List ℕ) → eqb z y ≡ false → contains (removed z js) y ≡ contains js y
contains-removed_other z y [] h = refl
contains-removed_other z y (j ∷ js) h =
    by_go (eqb j z)
    (λ q. let no : eqb j y ≡ false = grind (arith, eqb_tells j z, eqb_tells z y, eqb_tells j y, q, h) in rw (q, no) refl)
    (λ q. rw (q, contains-removed_other z y js h) refl)

contains-removed_same : (z : ℕ) (js : List ℕ) → NoneTwice js → contains (removed z js) z ≡ false
contains-removed_same z [] o = refl
contains-removed_same z (j ∷ js) o =
    by_go (eqb j z)
    (λ q. rw q (subst (λ y. contains js y ≡ false) (eqb-true j z q) o.0))
    (λ q. rw (q, contains-removed_same z js o.1) (grind (arith, q)))

once_removed : (z : ℕ) (js : List ℕ) → NoneTwice js → NoneTwice (removed z js)
once_removed z [] o = tt
once_removed z (j ∷ js) o =
    by_go (eqb j z)
    (λ q. rw q o.1)
    (λ q. rw q (contains-removed_other z j js (grind (arith, eqb_tells z j, eqb_tells j z, q)) ∙ o.0, once_removed z js o.1))

length-removed : (z : ℕ) (js : List ℕ) → contains js z ≡ true → suc (length (removed z js)) ≡ length js
length-removed z [] h = absurd (false≢true h)
length-removed z (j ∷ js) h = by_go (eqb j z) (λ q. rw q refl) (λ q. rw q (ap suc (length-removed z js (grind (arith, h, q)))))

pub same_length : (xs ys : List ℕ) → NoneTwice xs → NoneTwice ys → ((z : ℕ) → contains xs z ≡ contains ys z) → length xs ≡ length ys
same_length [] [] o p h = refl
same_length [] (y ∷ ys) o p h = absurd (grind (arith, h y, eqb_tells y y))
same_length (x ∷ xs) ys o p h =
    let there : contains ys x ≡ true = grind (arith, h x, eqb_tells x x) in
    let rest : length xs ≡ length (removed x ys) = same_length xs (removed x ys) o.1 (once_removed x ys p) (λ z. by_go (eqb x z)
    (λ q. let at : x ≡ z = eqb-true x z q in subst (λ y. contains xs y ≡ contains (removed x ys) y) at (o.0 ∙ sym (contains-removed_same x ys p)))
    (λ q. grind (arith, h z, q, contains-removed_other x z ys q))) in
    ap suc rest ∙ length-removed x ys there

-- ---- the keys of a map

pub contains-keys : {E : Type 0} (es : List (ℕ × E)) (z : ℕ) → contains (keys_of es) z ≡ is_some (lookup (nat_eq z) es)
contains-keys [] z = refl
contains-keys ((k, e) ∷ es) z =
    by_go (eqb z k)
    (λ q. let other : eqb k z ≡ true = grind (arith, eqb_tells z k, eqb_tells k z, q) in rw (q, other) refl)
    (λ q. let other : eqb k z ≡ false = grind (arith, eqb_tells z k, eqb_tells k z, q) in rw (q, other) (contains-keys es z))

pub length-keys : {E : Type 0} (es : List (ℕ × E)) → length (keys_of es) ≡ length es
length-keys [] = refl
length-keys (e ∷ es) = ap suc (length-keys es)

-- ---- the ids of a tree

pub once_ids : {X : Type 0} (f : Trees X) → IsDistinct f → NoneTwice (ids f)
once_ids bare d = tt
once_ids (tree i x k r) d = (
  grind (arith, contains-append (ids k) (ids r) i, contains-ids k i, contains-ids r i, d.0, d.1),
  once_append (ids k) (ids r) (once_ids k d.3) (once_ids r d.4) (λ z g. contains-ids r z ∙ d.2.apart z (sym (contains-ids k z) ∙ g)),
)

pub is_some-map : {A B : Type 0} (f : A → B) (o : Option A) → is_some (option_map f o) ≡ is_some o
is_some-map f None = refl
is_some-map f (Some a) = refl

pub none_equal : (x : ℕ) (ks : List ℕ) → AllByRecursion (λ y. nat_eq x y ≡ false) ks → contains ks x ≡ false
none_equal x [] a = refl
none_equal x (k ∷ ks) a = grind (arith, eqb_tells x k, eqb_tells k x, a.0, none_equal x ks a.1)

pub once_distinct_keys : (ks : List ℕ) → AreDistinct nat_eq ks → NoneTwice ks
unfolding AreDistinct
once_distinct_keys [] d = tt
once_distinct_keys (k ∷ ks) d = (none_equal k ks d.0, once_distinct_keys ks d.1)

pub keeps_counted : {E X S : Type 0} (entry_of : ℕ → Spot X → E) (m : HashMap ℕ E S) (root : Option ℕ) (f : Trees X) → Keeps entry_of (get nat_eq m) root f → IsUnique nat_eq m → hash_map_len m ≡ count f
keeps_counted entry_of m root f k u =
    sym (length-keys m.entries) ∙ (same_length (keys m) (ids f) (once_distinct_keys (keys m) u) (once_ids f k.is_tree.distinct) (λ z.
    contains-keys m.entries z ∙ (ap is_some (k.at z) ∙ (is_some-map (entry_of z) (spot f z) ∙ (sym (has-spot f z) ∙ sym (contains-ids f z))))) ∙ length-ids f)
