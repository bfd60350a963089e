-- The forest that a table shows: each tree by its id, and what is put or dropped. It is sound.
use Rattle.std.proofs.Common.{ℕ, ◌≤◌, ◌≡◌, true, false, cond, ◌||◌, ◌==◌, eqb, nat_eq, List, [], ◌∷◌, length, map, Option, Some, None, refl, sym, ap, ap₂, subst, ◌∙◌, arith}
use Rattle.std.specs.Ordering.{nat_cmp}
use Rattle.std.specs.FinMap as fin
use Rattle.std.proofs.lemmas.Bool.{eqb-true, false≢true}
use Rattle.std.proofs.lemmas.Bool.Decides.{eqb_tells}
use Rattle.ax_trees.proofs.Trees.{by_go}
use Rattle.ax_trees.specs.Lists.{contains, NoneTwice}
use Rattle.ax_tree.specs.Tree.{Tree, empty}
use Rattle.ax_tree.specs.Forest.{Forest, IsSound, IsSoundTree, live_tree, first_tree}
use Rattle.ax_managers.specs.Telling.{with_tree, empty_forest}
use Rattle.ax_forest.specs.Shown.{shown_tree, shown, IsTable, AreEmpty, ids_of}

-- two functions that agree on a list's members map it alike
map_on : {B : Type 0} (f g : ℕ → B) (ids : List ℕ) → ((u : ℕ) → contains ids u ≡ true → f u ≡ g u) → map f ids ≡ map g ids
map_on f g [] h = refl
map_on f g (x ∷ ids) h =
    ap₂ (λ y ys. y ∷ ys) (h x (let same : (x == x) ≡ true = grind arith in ap (λ b. b || contains ids x) same))
    (map_on f g ids (λ u c. h u (by_go (x == u) (λ q. rw q refl) (λ q. rw q c))))

map_twice : {B C : Type 0} (f : ℕ → B) (g : B → C) (xs : List ℕ) → map (λ x. g (f x)) xs ≡ map g (map f xs)
map_twice f g [] = refl
map_twice f g (x ∷ xs) = ap (λ ys. g (f x) ∷ ys) (map_twice f g xs)

pub ids_shown : (ids : List ℕ) (ms : fin.FinMap nat_cmp Tree) → ids_of (shown ids ms) ≡ ids
ids_shown [] ms = refl
ids_shown (x ∷ ids) ms = ap (λ ys. x ∷ ys) (ids_shown ids ms)

pub first_shown : (ids : List ℕ) (ms : fin.FinMap nat_cmp Tree) (x : ℕ) (rest : List ℕ) → ids ≡ x ∷ rest → first_tree (shown ids ms) ≡ Some x
first_shown ids ms x rest e = ap (λ xs. first_tree (shown xs ms)) e

pub shown_empty : (ids : List ℕ) (ms : fin.FinMap nat_cmp Tree) → AreEmpty ids ms → shown ids ms ≡ empty_forest ids
shown_empty ids ms i =
    map_on (shown_tree ms) (λ t. record { id = t; tree = Some (empty t) }) ids
    (λ u c. ap (λ o. record { id = u; tree = o }) (i u ∙ ap (λ b. cond b (Some (empty u)) None) c))

-- one empty tree more
pub empty_next : (ts us : List ℕ) (t : ℕ) (old new : fin.FinMap nat_cmp Tree) → ((z : ℕ) → contains us z ≡ cond (eqb t z) true (contains ts z))
    → ((u : ℕ) → fin.get new u ≡ cond (eqb t u) (Some (empty t)) (fin.get old u)) → AreEmpty ts old → AreEmpty us new
empty_next ts us t old new more puts h u = by_go (eqb t u)
    (λ q. puts u ∙ (ap (λ b. cond b (Some (empty t)) (fin.get old u)) q ∙ (ap (λ v. Some (empty v)) (eqb-true t u q) ∙ sym (ap (λ b. cond b (Some (empty u)) None) (more u ∙ ap (λ b. cond b true (contains ts u)) q)))))
    (λ q. puts u ∙ (ap (λ b. cond b (Some (empty t)) (fin.get old u)) q ∙ (h u ∙ sym (ap (λ b. cond b (Some (empty u)) None) (more u ∙ ap (λ b. cond b true (contains ts u)) q)))))

module _ (ids : List ℕ) (t : ℕ) (o : Option Tree) (old new : fin.FinMap nat_cmp Tree) (puts : (u : ℕ) → fin.get new u ≡ cond (nat_eq t u) o (fin.get old u)) where
  put_one : (u : ℕ) → shown_tree new u ≡ with_tree t o (shown_tree old u)
  put_one u = by_go (eqb u t)
      (λ q. let same : nat_eq t u ≡ true = grind (arith, eqb_tells u t, eqb_tells t u, q) in
      ap (λ x. record { id = u; tree = x }) (puts u ∙ ap (λ b. cond b o (fin.get old u)) same) ∙ sym (ap (λ b. cond b (record { id = u; tree = o }) (shown_tree old u)) q))
      (λ q. let other : nat_eq t u ≡ false = grind (arith, eqb_tells u t, eqb_tells t u, q) in
      ap (λ x. record { id = u; tree = x }) (puts u ∙ ap (λ b. cond b o (fin.get old u)) other) ∙ sym (ap (λ b. cond b (record { id = u; tree = o }) (shown_tree old u)) q))

  pub shown_put : shown ids new ≡ map (with_tree t o) (shown ids old)
  shown_put = map_on (shown_tree new) (λ u. with_tree t o (shown_tree old u)) ids (λ u c. put_one u) ∙ map_twice (shown_tree old) (with_tree t o) ids

-- ---- a tree by its id

at_shown : (ids : List ℕ) (ms : fin.FinMap nat_cmp Tree) (t : ℕ) → contains ids t ≡ true → live_tree (shown ids ms) t ≡ fin.get ms t
at_shown [] ms t c = absurd (false≢true c)
at_shown (x ∷ ids) ms t c =
    by_go (x == t) (λ q. rw q (ap (fin.get ms) (eqb-true x t q))) (λ q. rw q (at_shown ids ms t (ap (λ b. b || contains ids t) (sym q) ∙ c)))

none_shown : (ids : List ℕ) (ms : fin.FinMap nat_cmp Tree) (t : ℕ) → contains ids t ≡ false → live_tree (shown ids ms) t ≡ None
none_shown [] ms t c = refl
none_shown (x ∷ ids) ms t c =
    by_go (x == t) (λ q. absurd (false≢true (sym c ∙ ap (λ b. b || contains ids t) q))) (λ q. rw q (none_shown ids ms t (ap (λ b. b || contains ids t) (sym q) ∙ c)))

module _ (ids : List ℕ) (ms : fin.FinMap nat_cmp Tree) (i : IsTable ids ms) where
  absent : (t : ℕ) → contains ids t ≡ false → fin.get ms t ≡ None
  absent t q = go (fin.get ms t) refl
    where
      go : (o : Option Tree) → fin.get ms t ≡ o → fin.get ms t ≡ None
      go None e = e
      go (Some m) e = absurd (false≢true (sym q ∙ i.listed t m e))

  pub live_shown : (t : ℕ) → live_tree (shown ids ms) t ≡ fin.get ms t
  live_shown t = by_go (contains ids t) (λ q. at_shown ids ms t q) (λ q. none_shown ids ms t q ∙ sym (absent t q))

  pub is_sound : IsSound (shown ids ms)
  is_sound = record {
    once = subst NoneTwice (sym (ids_shown ids ms)) i.once;
    live = λ t m e. i.sound t m (sym (live_shown t) ∙ e);
  }

pub live_listed : (f : Forest) (t : ℕ) (m : Tree) → live_tree f t ≡ Some m → contains (ids_of f) t ≡ true
live_listed [] t m e = absurd (let no : ⊥ = cc in no)
live_listed (s ∷ f) t m e = by_go (s.id == t) (λ q. rw q refl) (λ q. rw q (live_listed f t m (rw q at e)))

-- ---- tables

empty_sound : (t : ℕ) → IsSoundTree t (empty t)
empty_sound t = record { well_formed = record { one_root = tt; distinct = tt }; low = omega arith; named = refl }

pub table_empty : (ids : List ℕ) (ms : fin.FinMap nat_cmp Tree) → 1 ≤ length ids → NoneTwice ids → AreEmpty ids ms → IsTable ids ms
table_empty ids ms some once i = record {
  some = some;
  once = once;
  listed = λ t m e. by_go (contains ids t) (λ q. q) (λ q. absurd (let no : None ≡ Some m = sym (i t ∙ ap (λ b. cond b (Some (empty t)) None) q) ∙ e in let bad : ⊥ = cc in bad));
  sound = λ t m e. by_go (contains ids t)
      (λ q. let is : Some (empty t) ≡ Some m = sym (i t ∙ ap (λ b. cond b (Some (empty t)) None) q) ∙ e in let same : empty t ≡ m = cc in subst (IsSoundTree t) same (empty_sound t))
      (λ q. absurd (let no : None ≡ Some m = sym (i t ∙ ap (λ b. cond b (Some (empty t)) None) q) ∙ e in let bad : ⊥ = cc in bad));
}

module _ (ids : List ℕ) (t : ℕ) (o : Option Tree) (old new : fin.FinMap nat_cmp Tree) (puts : (u : ℕ) → fin.get new u ≡ cond (nat_eq t u) o (fin.get old u))
    (fits : (m : Tree) → o ≡ Some m → (contains ids t ≡ true) × IsSoundTree t m) where
  pub table_put : IsTable ids old → IsTable ids new
  table_put i = record {
    some = i.some;
    once = i.once;
    listed = λ u m e. by_go (nat_eq t u)
        (λ q. subst (λ (v : ℕ). contains ids v ≡ true) (eqb-true t u q) (fits m (sym (puts u ∙ ap (λ b. cond b o (fin.get old u)) q) ∙ e)).0)
        (λ q. i.listed u m (sym (puts u ∙ ap (λ b. cond b o (fin.get old u)) q) ∙ e));
    sound = λ u m e. by_go (nat_eq t u)
        (λ q. subst (λ (v : ℕ). IsSoundTree v m) (eqb-true t u q) (fits m (sym (puts u ∙ ap (λ b. cond b o (fin.get old u)) q) ∙ e)).1)
        (λ q. i.sound u m (sym (puts u ∙ ap (λ b. cond b o (fin.get old u)) q) ∙ e));
  }
