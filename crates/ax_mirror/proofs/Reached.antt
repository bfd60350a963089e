-- What is touched, and how many steps are taken, where a part of an update stops.
use Rattle.std.proofs.Common.{◌≡◌, ℕ, zero, suc, ◌+◌, ◌<◌, ◌≤◌, Bool, true, false, cond, ◌||◌, eqb, List, [], ◌∷◌, length, take, get_or, Option, Some, None, Result, Ok, Err, refl, sym, ap, subst, ◌∙◌, arith}
use Rattle.std.specs.Prelude.{is_some, OnErr}
use Rattle.std.specs.FinMap as fin
use Rattle.std.specs.Ordering.{nat_cmp}
use Rattle.std.proofs.lemmas.Bool.{eqb-true, false≢true}
use Rattle.ax_node.specs.Look.{Look}
use Rattle.ax_node.specs.declared.node.NodeData.{NodeData}
use Rattle.ax_trees.specs.Trees.{Trees, has}
use Rattle.ax_trees.specs.Lists.{contains, NoneTwice}
use Rattle.ax_trees.proofs.Trees.{by_go}
use Rattle.ax_tree.specs.declared.update.TreeUpdate.{TreeUpdate}
use Rattle.ax_tree.specs.Touching.{with_id}
use Rattle.ax_tree.specs.Tree.{Tree}
use Rattle.ax_mirror.specs.declared.draft.Draft.{Draft}
use Rattle.ax_mirror.specs.Placed.{Nodes}
use Rattle.ax_mirror.specs.Kept.{HoldsTree, shown}
use Rattle.ax_mirror.specs.Begins.{Forgets, root_is}
use Rattle.ax_mirror.specs.Accounts.{Accounts, Reaches, StepsFor, all_names, is_id, list_names, lists_id, lists_child, names, no_id, node_names, start_names}
use Rattle.ax_mirror.proofs.Lists.{contains_with}
use Rattle.ax_mirror.proofs.Accounts.{or_left, or_right, acc_node, node_in, child_in, either, root_named}
use Rattle.ax_mirror.proofs.Shows.{there_same}

-- what a call says of its errors, where it hands one on
pub on_err : {A E P : Type 0} (r : Result A E) → P → OnErr r P
on_err (Ok x) p = tt
on_err (Err e) p = p

-- only entries of d and named ids come to e, and are touched there
pub record Grows (p : ℕ → Bool) (d e : Draft) : Type 0 where
  pub from : (z : ℕ) → contains e.touched z ≡ true → (contains d.touched z || (is_some (fin.get d.nodes z) || p z)) ≡ true
  pub come : (z : ℕ) → is_some (fin.get e.nodes z) ≡ true → (is_some (fin.get d.nodes z) || p z) ≡ true

pub grows : (p q : ℕ → Bool) (d e : Draft) → Accounts p q d e → Grows p d e
grows p q d e a = record { from = a.from; come = a.come }

wide2 : (a p r : Bool) → (p ≡ true → r ≡ true) → (a || p) ≡ true → (a || r) ≡ true
wide2 true p r h x = refl
wide2 false p r h x = h x

wide3 : (a b p r : Bool) → (p ≡ true → r ≡ true) → (a || (b || p)) ≡ true → (a || (b || r)) ≡ true
wide3 true b p r h x = refl
wide3 false true p r h x = refl
wide3 false false p r h x = h x

from_then : (et dt es ds n : Bool) → (et || (es || n)) ≡ true → (et ≡ true → (dt || (ds || n)) ≡ true) → (es ≡ true → (ds || n) ≡ true) → (dt || (ds || n)) ≡ true
from_then true dt es ds n x y z = y refl
from_then false true es ds n x y z = refl
from_then false false true ds n x y z = z refl
from_then false false false true n x y z = refl
from_then false false false false n x y z = x

come_then : (es ds n : Bool) → (es || n) ≡ true → (es ≡ true → (ds || n) ≡ true) → (ds || n) ≡ true
come_then true ds n x y = y refl
come_then false true n x y = refl
come_then false false n x y = x

pub grow_start : (p : ℕ → Bool) (d : Draft) → Grows p d d
grow_start p d = record { from = λ z h. or_left (contains d.touched z) (is_some (fin.get d.nodes z) || p z) h; come = λ z h. or_left (is_some (fin.get d.nodes z)) (p z) h }

pub grow_wide : (p r : ℕ → Bool) (d e : Draft) → ((z : ℕ) → p z ≡ true → r z ≡ true) → Grows p d e → Grows r d e
grow_wide p r d e w g = record {
  from = λ z h. wide3 (contains d.touched z) (is_some (fin.get d.nodes z)) (p z) (r z) (w z) (g.from z h);
  come = λ z h. wide2 (is_some (fin.get d.nodes z)) (p z) (r z) (w z) (g.come z h);
}

pub grow_then : (p : ℕ → Bool) (d e f : Draft) → Grows p d e → Grows p e f → Grows p d f
grow_then p d e f a b = record {
  from = λ z h. from_then (contains e.touched z) (contains d.touched z) (is_some (fin.get e.nodes z)) (is_some (fin.get d.nodes z)) (p z) (b.from z h) (a.from z) (a.come z);
  come = λ z h. come_then (is_some (fin.get e.nodes z)) (is_some (fin.get d.nodes z)) (p z) (b.come z h) (a.come z);
}

-- the parts of one node's data
pub grow_none : (p : ℕ → Bool) (d e : Draft) → Accounts no_id no_id d e → Grows p d e
grow_none p d e a = grow_wide no_id p d e (λ z h. absurd (false≢true h)) (grows no_id no_id d e a)

pub grow_children : (u : NodeData) (d e : Draft) → Accounts (contains u.children) no_id d e → Grows (node_names u) d e
grow_children u d e a = grow_wide (contains u.children) (node_names u) d e (λ z h. or_right (eqb u.id z) (contains u.children z) h) (grows (contains u.children) no_id d e a)

-- ---- where a part stops

-- nothing was touched
pub reach_here : (p : ℕ → Bool) (d e : Draft) (n : ℕ) → e.touched ≡ d.touched → Reaches p d e n n
reach_here p d e n s = record {
  from = λ z h. or_left (contains d.touched z) (is_some (fin.get d.nodes z) || p z) (ap (λ js. contains js z) (sym s) ∙ h);
  cost = let l : length e.touched ≡ length d.touched = ap (λ (js : List ℕ). length js) s in omega arith;
}

-- all before it was done
pub reach_done : (p : ℕ → Bool) (d e f : Draft) (n m : ℕ) → f.touched ≡ e.touched → Grows p d e → m + length d.touched ≤ n + length e.touched → Reaches p d f n m
reach_done p d e f n m s g k = record {
  from = λ z h. g.from z (ap (λ js. contains js z) (sym s) ∙ h);
  cost = let l : length f.touched ≡ length e.touched = ap (λ (js : List ℕ). length js) s in omega arith;
}

pub reach_then : (p : ℕ → Bool) (d e f : Draft) (n k m : ℕ) → Grows p d e → k + length d.touched ≤ n + length e.touched → Reaches p e f k m → Reaches p d f n m
reach_then p d e f n k m a c b = record {
  from = λ z h. from_then (contains e.touched z) (contains d.touched z) (is_some (fin.get e.nodes z)) (is_some (fin.get d.nodes z)) (p z) (b.from z h) (a.from z) (a.come z);
  cost = let x = b.cost in omega arith;
}

pub reach_wide : (p r : ℕ → Bool) (d e : Draft) (n m : ℕ) → ((z : ℕ) → p z ≡ true → r z ≡ true) → Reaches p d e n m → Reaches r d e n m
reach_wide p r d e n m w a = record {
  from = λ z h. wide3 (contains d.touched z) (is_some (fin.get d.nodes z)) (p z) (r z) (w z) (a.from z h);
  cost = a.cost;
}

pub reach_none : (r : ℕ → Bool) (d e : Draft) (n m : ℕ) → Reaches no_id d e n m → Reaches r d e n m
reach_none r d e n m a = reach_wide no_id r d e n m (λ z h. absurd (false≢true h)) a

-- where the part before it differs in other fields alone
pub reach_same : (p : ℕ → Bool) (d c e : Draft) (n m : ℕ) → c.nodes ≡ d.nodes → c.touched ≡ d.touched → Reaches p c e n m → Reaches p d e n m
reach_same p d c e n m s t a = record {
  from = λ z h. ap (λ (x : Nodes). contains d.touched z || (is_some (fin.get x z) || p z)) (sym s) ∙ ap (λ js. contains js z || (is_some (fin.get c.nodes z) || p z)) (sym t) ∙ a.from z h;
  cost = let x = a.cost in let l : length c.touched ≡ length d.touched = ap (λ (js : List ℕ). length js) t in omega arith;
}

-- no steps are counted
pub reach_still : (p : ℕ → Bool) (d e : Draft) (n : ℕ) → Reaches p d e 0 0 → Reaches p d e n n
reach_still p d e n a = record { from = a.from; cost = let x = a.cost in omega arith }

-- one id may have been touched, which is there or is named
pub reach_one : (p : ℕ → Bool) (d e : Draft) (i n m : ℕ) → ((z : ℕ) → contains e.touched z ≡ true → (contains d.touched z || eqb i z) ≡ true) → (is_some (fin.get d.nodes i) || p i) ≡ true
    → m + length d.touched ≤ n + length e.touched → Reaches p d e n m
reach_one p d e i n m h here k = record {
  from = λ z c. wide2 (contains d.touched z) (eqb i z) (is_some (fin.get d.nodes z) || p z) (λ s. subst (λ y. (is_some (fin.get d.nodes y) || p y) ≡ true) (eqb-true i z s) here) (h z c);
  cost = k;
}

pub at_most_same : (xs ys : List ℕ) (i : ℕ) → ys ≡ xs → (z : ℕ) → contains ys z ≡ true → (contains xs z || eqb i z) ≡ true
at_most_same xs ys i e z h = or_left (contains xs z) (eqb i z) (ap (λ js. contains js z) (sym e) ∙ h)

pub at_most_with : (xs ys : List ℕ) (i : ℕ) → ys ≡ with_id xs i → (z : ℕ) → contains ys z ≡ true → (contains xs z || eqb i z) ≡ true
at_most_with xs ys i e z h = by_go (eqb i z)
    (λ s. or_right (contains xs z) (eqb i z) s)
    (λ s. or_left (contains xs z) (eqb i z) (sym (ap (λ js. contains js z) e ∙ contains_with xs i z ∙ ap (λ b. cond b true (contains xs z)) s) ∙ h))

-- only ids of d were touched
pub reach_only : (d e : Draft) → length d.touched ≤ length e.touched → ((z : ℕ) → contains e.touched z ≡ true → (contains d.touched z || is_some (fin.get d.nodes z)) ≡ true) → Reaches no_id d e 0 0
reach_only d e l h = record {
  from = λ z c. wide2 (contains d.touched z) (is_some (fin.get d.nodes z)) (is_some (fin.get d.nodes z) || false) (λ s. or_left (is_some (fin.get d.nodes z)) false s) (h z c);
  cost = omega arith;
}

pub reach_only_same : (d e : Draft) (xs : List ℕ) → e.touched ≡ xs → length d.touched ≤ length xs → ((z : ℕ) → contains xs z ≡ true → (contains d.touched z || is_some (fin.get d.nodes z)) ≡ true) → Reaches no_id d e 0 0
reach_only_same d e xs q l h = reach_only d e (let k : length e.touched ≡ length xs = ap (λ (js : List ℕ). length js) q in omega arith) (λ z c. h z (ap (λ js. contains js z) (sym q) ∙ c))

-- what an update begins with
pub reach_root : (root clear : Option ℕ) (r : ℕ) (d e : Draft) (n m : ℕ) → root ≡ Some r → Reaches (is_id r) d e n m → Reaches (start_names root clear) d e n m
reach_root root clear r d e n m s a = reach_wide (is_id r) (start_names root clear) d e n m (λ z h. or_left (root_is root z) (root_is clear z) (root_named root r z s h)) a

pub reach_clear : (root clear : Option ℕ) (r : ℕ) (d e : Draft) (n m : ℕ) → clear ≡ Some r → Reaches (is_id r) d e n m → Reaches (start_names root clear) d e n m
reach_clear root clear r d e n m s a = reach_wide (is_id r) (start_names root clear) d e n m (λ z h. or_right (root_is root z) (root_is clear z) (root_named clear r z s h)) a

-- one node of many, and one update of many
pub named_here : (us : List NodeData) (i : ℕ) (u : NodeData) → i < length us → u ≡ get_or us i u → (z : ℕ) → node_names u z ≡ true → list_names us z ≡ true
named_here us i u l q z h = either (eqb u.id z) (contains u.children z) (list_names us z) h (λ x. or_left (lists_id us z) (lists_child us z) (node_in us i u z l q x)) (λ x. or_right (lists_id us z) (lists_child us z) (child_in us i u z l q x))

pub start_named : (u : TreeUpdate) (z : ℕ) → start_names u.root u.clear z ≡ true → names u z ≡ true
start_named u z h = or_left (start_names u.root u.clear z) (list_names u.nodes z) h

pub list_named : (u : TreeUpdate) (z : ℕ) → list_names u.nodes z ≡ true → names u z ≡ true
list_named u z h = or_right (start_names u.root u.clear z) (list_names u.nodes z) h

last_in : (us : List TreeUpdate) (i : ℕ) (u : TreeUpdate) → i < length us → u ≡ get_or us i u → (z : ℕ) → names u z ≡ true → all_names (take (suc i) us) z ≡ true
last_in [] i u l q z h = absurd (omega arith)
last_in (v ∷ us) zero u l q z h = let s : u ≡ v = q in or_left (names v z) (all_names (take 0 us) z) (ap (λ (x : TreeUpdate). names x z) (sym s) ∙ h)
last_in (v ∷ us) (suc i) u l q z h = or_right (names v z) (all_names (take (suc i) us) z) (last_in us i u (omega arith) q z h)

before_in : (us : List TreeUpdate) (i : ℕ) (z : ℕ) → all_names (take i us) z ≡ true → all_names (take (suc i) us) z ≡ true
before_in [] zero z h = absurd (false≢true h)
before_in [] (suc i) z h = absurd (false≢true h)
before_in (v ∷ us) zero z h = absurd (false≢true h)
before_in (v ∷ us) (suc i) z h = wide2 (names v z) (all_names (take i us) z) (all_names (take (suc i) us) z) (before_in us i z) h

next_one : (i : ℕ) → i + 1 ≡ suc i
next_one i = omega arith

pub named_last : (us : List TreeUpdate) (i : ℕ) (u : TreeUpdate) → i < length us → u ≡ get_or us i u → (z : ℕ) → names u z ≡ true → all_names (take (i + 1) us) z ≡ true
named_last us i u l q z h = ap (λ j. all_names (take j us) z) (next_one i) ∙ last_in us i u l q z h

pub named_before : (us : List TreeUpdate) (i : ℕ) (z : ℕ) → all_names (take i us) z ≡ true → all_names (take (i + 1) us) z ≡ true
named_before us i z h = ap (λ j. all_names (take j us) z) (next_one i) ∙ before_in us i z h

pub grow_next : (us : List TreeUpdate) (i : ℕ) (u : TreeUpdate) (d e f : Draft) → i < length us → u ≡ get_or us i u → Grows (all_names (take i us)) d e → Accounts (names u) (lists_id u.nodes) e f → Grows (all_names (take (i + 1) us)) d f
grow_next us i u d e f l q a b =
    grow_then (all_names (take (i + 1) us)) d e f
    (grow_wide (all_names (take i us)) (all_names (take (i + 1) us)) d e (named_before us i) a)
    (grow_wide (names u) (all_names (take (i + 1) us)) e f (named_last us i u l q) (grows (names u) (lists_id u.nodes) e f b))

pub reach_last : (us : List TreeUpdate) (i : ℕ) (u : TreeUpdate) (d e f : Draft) (n k m : ℕ) → i < length us → u ≡ get_or us i u → Grows (all_names (take i us)) d e → k + length d.touched ≤ n + length e.touched
    → Reaches (names u) e f k m → Reaches (all_names (take (i + 1) us)) d f n m
reach_last us i u d e f n k m l q a c b =
    reach_then (all_names (take (i + 1) us)) d e f n k m
    (grow_wide (all_names (take i us)) (all_names (take (i + 1) us)) d e (named_before us i) a) c
    (reach_wide (names u) (all_names (take (i + 1) us)) e f k m (named_last us i u l q) b)

-- ---- what it tells of a mirror

pub no_steps : (us : List TreeUpdate) (t : Tree) (n : ℕ) → StepsFor us t n n
no_steps us t n = record { ids = []; once = tt; meant = λ z h. absurd (false≢true h); cost = omega arith }

spent : (us : List TreeUpdate) (t : Tree) (d e : Draft) (n m : ℕ) → ((z : ℕ) → contains d.touched z ≡ true → has t.trees z ≡ true) → ((z : ℕ) → is_some (fin.get d.nodes z) ≡ true → has t.trees z ≡ true)
    → Reaches (all_names us) d e n m → NoneTwice e.touched → StepsFor us t n m
spent us t d e n m a b r o = record {
  ids = e.touched;
  once = o;
  meant = λ z h. go (contains d.touched z) (is_some (fin.get d.nodes z)) (has t.trees z) (all_names us z) (a z) (b z) (r.from z h);
  cost = let x = r.cost in omega arith;
}
  where
    go : (x y k q : Bool) → (x ≡ true → k ≡ true) → (y ≡ true → k ≡ true) → (x || (y || q)) ≡ true → (k || q) ≡ true
    go true y k q f g h = or_left k q (f refl)
    go false true k q f g h = or_left k q (g refl)
    go false false k q f g h = or_right k q h

pub spent_on : (us : List TreeUpdate) (t : Tree) (m : Nodes) (root : Option ℕ) (d e : Draft) (n k : ℕ) → HoldsTree m root (shown m root) → shown m root ≡ t.trees → d.nodes ≡ m → d.touched ≡ []
    → Reaches (all_names us) d e n k → NoneTwice e.touched → StepsFor us t n k
spent_on us t m root d e n k h s q none = spent us t d e n k
    (λ z c. absurd (false≢true (sym (ap (λ js. contains js z) none) ∙ c)))
    (λ z c. sym (there_same m root (shown m root) h z ∙ ap (λ f. has f z) s) ∙ sym (ap (λ (x : Nodes). is_some (fin.get x z)) q) ∙ c)

pub spent_anew : (us : List TreeUpdate) (t : Tree) (m : Nodes) (root : Option ℕ) (d e : Draft) (n k : ℕ) → HoldsTree m root (shown m root) → shown m root ≡ t.trees → Forgets m root d
    → Reaches (all_names us) d e n k → NoneTwice e.touched → StepsFor us t n k
spent_anew us t m root d e n k h s fg = spent us t d e n k
    (λ z c. sym (there_same m root (shown m root) h z ∙ ap (λ f. has f z) s) ∙ fg.only z c)
    (λ z c. absurd (false≢true (sym (ap is_some (ap (λ (x : Nodes). fin.get x z) fg.nodes ∙ fin.get-empty nat_cmp z)) ∙ c)))
