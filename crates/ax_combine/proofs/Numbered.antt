-- The joined tree with the numbers of its places as ids.
use Rattle.std.proofs.Common.{ℕ, zero, suc, ◌+◌, ◌<◌, ◌≤◌, ◌≡◌, true, false, eqb, List, [], ◌∷◌, ◌++◌, length, Option, Some, None, refl, sym, ap, ◌∙◌, subst, arith, length-append, option_and_then}
use Rattle.std.proofs.lemmas.Bool.{false≢true, false_from_ne_true, eqb-true}
use Rattle.std.proofs.lemmas.Bool.Decides.{eqb_tells}
use Rattle.ax_base.specs.declared.position.Place.{Place}
use Rattle.ax_node.specs.Look.{Look}
use Rattle.ax_trees.specs.Trees.{Trees, bare, tree, has, has_root, roots, count, IsSingle, IsDistinct}
use Rattle.ax_trees.specs.Trees as trees
use Rattle.ax_trees.specs.Nodes.{Node, node_at, parent, parent_or}
use Rattle.ax_trees.specs.Spots.{or_else}
use Rattle.ax_trees.proofs.Trees.{by_go, root_in, not_both, parent_has}
use Rattle.ax_trees.proofs.Parents.{parent_of_child, child_of_parent}
use Rattle.ax_trees.proofs.Times.{has-node}
use Rattle.ax_rules.specs.Looks.{same_place}
use Rattle.ax_rules.specs.Stitched.{Placed, parent_of}
use Rattle.ax_rules.specs.StitchedTree.{PlacedLook, tree_placed}
use Rattle.ax_rules.specs.Combined.{number_of, numbered_look}
use Rattle.ax_rules.specs.Sequences.{first_of}
use Rattle.ax_stitch.proofs.Places.{same_self}
use Rattle.ax_place_laws.proofs.Joined.{is_in, entry}

-- ---- lists whose elements are numbered

abbrev pub AllFrom : {A : Type 0} → (ℕ → A → Type 0) → ℕ → List A → Type 0
AllFrom F n [] = Unit {0}
AllFrom F n (x ∷ xs) = F n x × AllFrom F (n + 1) xs

next_sum : (n k : ℕ) → n + suc k ≡ (n + 1) + k
next_sum n k = omega arith

pub all_from_append : {A : Type 0} (F : ℕ → A → Type 0) (n : ℕ) (xs ys : List A) → AllFrom F n xs → AllFrom F (n + length xs) ys → AllFrom F n (xs ++ ys)
all_from_append F n [] ys h k = let z : n + 0 ≡ n = omega arith in subst (λ i. AllFrom F i ys) z k
all_from_append F n (x ∷ xs) ys h k = (h.0, all_from_append F (n + 1) xs ys h.1 (subst (λ i. AllFrom F i ys) (next_sum n (length xs)) k))

pub all_from_weaker : {A : Type 0} (F G : ℕ → A → Type 0) (n : ℕ) (xs : List A) → ((z : ℕ) (x : A) → n ≤ z → z < n + length xs → F z x → G z x) → AllFrom F n xs → AllFrom G n xs
all_from_weaker F G n [] w h = tt
all_from_weaker F G n (x ∷ xs) w h = (
  w n x (omega arith) (omega arith) h.0,
  all_from_weaker F G (n + 1) xs (λ z y low high k. w z y (omega (arith, low)) (omega (arith, high)) k) h.1,
)

-- ---- the tree

same_look : (ps : List Place) (above : List Place) (x : PlacedLook) → numbered_look ps (entry [] x) ≡ numbered_look ps (entry above x)
unfolding numbered_look
same_look ps above x = refl

-- the ids n, n + 1 and so on, in pre-order
abbrev pub numbered_from : List Place → ℕ → Trees PlacedLook → Trees Look
numbered_from ps n bare = bare
numbered_from ps n (tree i x k r) = tree n (numbered_look ps (entry [] x)) (numbered_from ps (n + 1) k) (numbered_from ps (n + 1 + count k) r)

-- each place has its node's number
abbrev pub Numbered : List Place → ℕ → Trees PlacedLook → Type 0
Numbered ps n bare = Unit {0}
Numbered ps n (tree i x k r) = (number_of ps x.place ≡ Some n) × Numbered ps (n + 1) k × Numbered ps (n + 1 + count k) r

pub count_numbered : (ps : List Place) (n : ℕ) (w : Trees PlacedLook) → count (numbered_from ps n w) ≡ count w
count_numbered ps n bare = refl
count_numbered ps n (tree i x k r) =
    let a = count_numbered ps (n + 1) k in
    let b = count_numbered ps (n + 1 + count k) r in
    rw (a, b) refl

pub inside : (ps : List Place) (n : ℕ) (w : Trees PlacedLook) (z : ℕ) → has (numbered_from ps n w) z ≡ true → (n ≤ z) × (z < n + count w)
inside ps n bare z h = absurd (false≢true h)
inside ps n (tree i x k r) z h = by_go (eqb n z)
    (λ q. let e = eqb-true n z q in (omega (arith, e), omega (arith, e)))
    (λ q. by_go (has (numbered_from ps (n + 1) k) z)
    (λ g. let a = inside ps (n + 1) k z g in let b = a.0 in let c = a.1 in (omega (arith, b), omega (arith, c)))
    (λ g. let a = inside ps (n + 1 + count k) r z (rw (q, g) at h) in let b = a.0 in let c = a.1 in (omega (arith, b), omega (arith, c))))

pub outside : (ps : List Place) (n : ℕ) (w : Trees PlacedLook) (z : ℕ) → ((n ≤ z) → (z < n + count w) → ⊥) → has (numbered_from ps n w) z ≡ false
outside ps n w z never = false_from_ne_true (has (numbered_from ps n w) z) (λ h. let a = inside ps n w z h in never a.0 a.1)

pub numbers_differ : (ps : List Place) (n : ℕ) (w : Trees PlacedLook) → IsDistinct (numbered_from ps n w)
numbers_differ ps n bare = tt
numbers_differ ps n (tree i x k r) = (
  outside ps (n + 1) k n (λ a b. omega (arith, a)),
  outside ps (n + 1 + count k) r n (λ a b. omega (arith, a)),
  record { apart = λ z h. let g = inside ps (n + 1) k z h in let high = g.1 in outside ps (n + 1 + count k) r z (λ a b. omega (arith, a, high)) },
  numbers_differ ps (n + 1) k,
  numbers_differ ps (n + 1 + count k) r,
)

pub one_root : (ps : List Place) (n : ℕ) (w : Trees PlacedLook) → IsSingle w → IsSingle (numbered_from ps n w)
one_root ps n bare h = tt
one_root ps n (tree i x k r) h = ap (numbered_from ps (n + 1 + count k)) h

-- ---- parents

pub top_none : {X : Type 0} (w : Trees X) (z : ℕ) → IsDistinct w → has_root w z ≡ true → parent w z ≡ None
top_none w z d h = go (parent w z) refl
  where
    go : (o : Option ℕ) → parent w z ≡ o → o ≡ None
    go None e = refl
    go (Some y) e = absurd (false≢true (sym (not_both w y z d h) ∙ child_of_parent w y z d e))

pub parent_some : {X : Type 0} (w : Trees X) (z : ℕ) → IsDistinct w → has w z ≡ true → has_root w z ≡ false → (y : ℕ) × (parent w z ≡ Some y)
parent_some w z d h t = let p = parent_has w z 0 d h t in (parent_or w z 0, parent_of_child w (parent_or w z 0) z d p.1)

pub length_placed : (above : List Place) (w : Trees PlacedLook) → length (tree_placed above w) ≡ count w
length_placed above bare = refl
length_placed above (tree i x k r) =
    let a = length_placed (x.place ∷ above) k in
    let b = length_placed above r in
    let c = length-append (tree_placed (x.place ∷ above) k) (tree_placed above r) in
    rw (c, a, b) (omega arith)

-- what the tree has at the number z of an element of the list
pub record Fact (ps : List Place) (n : ℕ) (w : Trees PlacedLook) (o : Option ℕ) (z : ℕ) (s : Placed) : Type 0 where
  pub there : is_in s.place w ≡ true
  pub own : number_of ps s.place ≡ Some z
  pub kids : List ℕ
  pub node : node_at (numbered_from ps n w) z ≡ Some (record { id = z; known = numbered_look ps s; children = kids })
  pub up : or_else (parent (numbered_from ps n w) z) o ≡ option_and_then (number_of ps) (parent_of s)

known_there : {X : Type 0} (w : Trees X) (z : ℕ) (u : Node X) → node_at w z ≡ Some u → has w z ≡ true
known_there w z u e = has-node w z ∙ (rw e refl)

head_fact : (ps : List Place) (n : ℕ) (above : List Place) (o : Option ℕ) (i : ℕ) (x : PlacedLook) (k r : Trees PlacedLook) → Numbered ps n (tree i x k r) → o ≡ option_and_then (number_of ps) (first_of above)
    → Fact ps n (tree i x k r) o n (entry above x)
head_fact ps n above o i x k r num e =
    let self : eqb n n ≡ true = grind (arith, eqb_tells n n) in
    let same = same_self x.place in
    let d = numbers_differ ps n (tree i x k r) in
    let top : has_root (numbered_from ps n (tree i x k r)) n ≡ true = rw self refl in
    let none : parent (numbered_from ps n (tree i x k r)) n ≡ None = top_none (numbered_from ps n (tree i x k r)) n d top in
    record {
      there = rw same refl;
      own = num.0;
      kids = roots (numbered_from ps (n + 1) k);
      node = rw self (ap (λ (y : Look). Some (record { id = n; known = y; children = roots (numbered_from ps (n + 1) k) })) (same_look ps above x));
      up = ap (λ p. or_else p o) none ∙ e;
    }

inner_fact : (ps : List Place) (n : ℕ) (o : Option ℕ) (i : ℕ) (x : PlacedLook) (k r : Trees PlacedLook) (z : ℕ) (s : Placed) → n + 1 ≤ z → Fact ps (n + 1) k (Some n) z s → Fact ps n (tree i x k r) o z s
inner_fact ps n o i x k r z s low h =
    let t = numbered_from ps (n + 1) k in
    let q : eqb n z ≡ false = false_from_ne_true (eqb n z) (λ g. let e = eqb-true n z g in omega (arith, e, low)) in
    let in_t : has t z ≡ true = known_there t z _ h.node in
    let d = numbers_differ ps (n + 1) k in
    let a = h.there in
    record {
      there = grind (arith, a);
      own = h.own;
      kids = h.kids;
      node = rw (q, in_t) h.node;
      up = by_go (has_root t z)
          (λ g. let none = top_none t z d g in rw g (ap (λ p. or_else p (Some n)) (sym none) ∙ h.up))
          (λ g. let y = parent_some t z d in_t g in
          let e : parent t z ≡ Some y.0 = y.1 in
          rw (g, in_t) (ap (λ p. or_else p o) e ∙ (ap (λ p. or_else p (Some n)) (sym e) ∙ h.up)));
    }

later_fact : (ps : List Place) (n : ℕ) (o : Option ℕ) (i : ℕ) (x : PlacedLook) (k r : Trees PlacedLook) (z : ℕ) (s : Placed) → n + 1 + count k ≤ z → Fact ps (n + 1 + count k) r o z s → Fact ps n (tree i x k r) o z s
later_fact ps n o i x k r z s low h =
    let t = numbered_from ps (n + 1) k in
    let q : eqb n z ≡ false = false_from_ne_true (eqb n z) (λ g. let e = eqb-true n z g in omega (arith, e, low)) in
    let not_in : has t z ≡ false = outside ps (n + 1) k z (λ a b. omega (arith, b, low)) in
    let no_root : has_root t z ≡ false = false_from_ne_true (has_root t z) (λ g. false≢true (sym not_in ∙ root_in t z g)) in
    let a = h.there in
    record {
      there = grind (arith, a);
      own = h.own;
      kids = h.kids;
      node = rw (q, not_in) h.node;
      up = rw (no_root, not_in) h.up;
    }

pub facts : (ps : List Place) (n : ℕ) (above : List Place) (o : Option ℕ) (w : Trees PlacedLook) → Numbered ps n w → o ≡ option_and_then (number_of ps) (first_of above)
    → AllFrom (Fact ps n w o) n (tree_placed above w)
facts ps n above o bare num e = tt
facts ps n above o (tree i x k r) num e = (
  head_fact ps n above o i x k r num e,
  all_from_append (Fact ps n (tree i x k r) o) (n + 1) (tree_placed (x.place ∷ above) k) (tree_placed above r)
      (all_from_weaker (Fact ps (n + 1) k (Some n)) (Fact ps n (tree i x k r) o) (n + 1) (tree_placed (x.place ∷ above) k) (λ z s low high h. inner_fact ps n o i x k r z s low h)
      (facts ps (n + 1) (x.place ∷ above) (Some n) k num.1 (sym num.0)))
      (subst (λ m. AllFrom (Fact ps n (tree i x k r) o) (n + 1 + m) (tree_placed above r)) (sym (length_placed (x.place ∷ above) k))
      (all_from_weaker (Fact ps (n + 1 + count k) r o) (Fact ps n (tree i x k r) o) (n + 1 + count k) (tree_placed above r) (λ z s low high h. later_fact ps n o i x k r z s low h)
      (facts ps (n + 1 + count k) above o r num.2 e))),
)
