-- Each action comes to the frame of its tree.
use Rattle.std.proofs.Common.{ℕ, zero, suc, ◌+◌, ◌<◌, ◌≤◌, ◌≡◌, Bool, true, false, cond, ◌==◌, eqb, List, [], ◌∷◌, ◌++◌, map, filter, length, drop, take, get_or, Option, Some, None, refl, sym, ap, ◌∙◌, arith, append-nil, option_map, drop_of_length-le}
use Rattle.std.specs.Prelude.{slice_get, slice_set}
use Rattle.std.proofs.lemmas.Bool.{false≢true, false_from_ne_true, eqb-true}
use Rattle.std.proofs.lemmas.Bool.Decides.{eqb_tells}
use Rattle.std.proofs.lemmas.List.{take_more, take_all}
use Rattle.std.proofs.lemmas.List.Elements.{filter-append}
use Rattle.ax_trees.specs.Lists.{contains, NoneTwice}
use Rattle.ax_trees.proofs.Trees.{by_go}
use Rattle.ax_ask.specs.declared.action.Action.{Action}
use Rattle.ax_frame.specs.Frames.{Journaled}
use Rattle.ax_stitch.proofs.Lists.{step_back}
use Rattle.ax_actions.specs.declared.sharing.Share.{Share}
use Rattle.ax_actions.specs.Acting.{own_of, with_own, with_one_more, share_of, place_in, trees_in, Gives}

-- ---- places of trees, found from the end

abbrev pub place_since : List ℕ → ℕ → ℕ → Option ℕ
place_since ts n t = option_map (λ i. i + n) (place_in (drop n ts) t)

pub since_none : (ts : List ℕ) (n t : ℕ) → length ts ≤ n → place_since ts n t ≡ None
since_none ts n t l = ap (λ r. option_map (λ i. i + n) (place_in r t)) (drop_of_length-le ts l)

since_cons : (j : ℕ) (b : Bool) (o : Option ℕ) → cond b (Some j) (option_map (λ i. i + (j + 1)) o) ≡ option_map (λ i. i + j) (cond b (Some 0) (option_map suc o))
since_cons j true o = let e : j ≡ 0 + j = omega arith in ap Some e
since_cons j false None = refl
since_cons j false (Some i) = let e : i + (j + 1) ≡ suc i + j = omega arith in ap Some e

pub since_step : (ts : List ℕ) (i j k t : ℕ) (before after : Option ℕ) → i ≡ j + 1 → i ≤ length ts → k ≡ get_or ts j k → before ≡ place_since ts i t → after ≡ cond (eqb k t) (Some j) before → after ≡ place_since ts j t
since_step ts i j k t before after e l g b a =
    a ∙ (ap (cond (eqb k t) (Some j)) (b ∙ ap (λ y. option_map (λ z. z + y) (place_in (drop i ts) t)) e)
    ∙ (since_cons j (eqb k t) (place_in (drop i ts) t) ∙ ap (λ r. option_map (λ z. z + j) (place_in r t)) (sym (step_back ts i j k e l g))))

plus_none : (o : Option ℕ) → option_map (λ i. i + 0) o ≡ o
plus_none None = refl
plus_none (Some i) = let e : i + 0 ≡ i = omega arith in ap Some e

pub since_all : (ts : List ℕ) (n t : ℕ) (o : Option ℕ) → n ≤ 0 → o ≡ place_since ts n t → o ≡ place_in ts t
since_all ts n t o z h = let e : n ≡ 0 = omega (arith, z) in h ∙ (ap (λ i. place_since ts i t) e ∙ plus_none (place_in ts t))

below_suc : (ts : List ℕ) (t i : ℕ) (o : Option ℕ) → ((k : ℕ) → o ≡ Some k → k < length ts) → option_map suc o ≡ Some i → i < suc (length ts)
below_suc ts t i None h e = absurd (cc)
below_suc ts t i (Some k) h e = let z : suc k ≡ i = cc in let l = h k refl in omega (arith, z, l)

pub place_below : (ts : List ℕ) (t i : ℕ) → place_in ts t ≡ Some i → i < length ts
place_below [] t i e = absurd (cc)
place_below (x ∷ ts) t i e = by_go (eqb x t)
    (λ q. let f : ◌≡◌ {A = Option ℕ} (Some 0) (Some i) = rw q at e in let z : 0 ≡ i = cc in omega (arith, z))
    (λ q. below_suc ts t i (place_in ts t) (λ k h. place_below ts t k h) (rw q at e))

-- the tree of the share at a place
tree_at : (shares : List Share) (j : ℕ) (x : Share) → j < length shares → x ≡ get_or shares j x → x.frame.tree ≡ get_or (trees_in shares) j x.frame.tree
tree_at [] j x l e = absurd (omega (arith, l))
tree_at (s ∷ shares) zero x l e = ap (λ (y : Share). y.frame.tree) e
tree_at (s ∷ shares) (suc j) x l e = tree_at shares j x (omega (arith, l)) e

pub key_at : (shares : List Share) (j : ℕ) (x : Share) (k : ℕ) → j < length shares → x ≡ get_or shares j x → k ≡ (get_or shares j x).frame.tree → k ≡ get_or (trees_in shares) j k
key_at shares j x k l e h =
    let own : k ≡ x.frame.tree = h ∙ ap (λ (s : Share). s.frame.tree) (sym e) in
    own ∙ (tree_at shares j x l e ∙ ap (get_or (trees_in shares) j) (sym own))

pub length_trees : (shares : List Share) → length (trees_in shares) ≡ length shares
length_trees [] = refl
length_trees (s ∷ shares) = ap suc (length_trees shares)

-- ---- one action more

abbrev Js : Type 0
Js = List Journaled

abbrev pub trees : Js → List ℕ
trees js = map (λ (j : Journaled). j.tree) js

own_more : (az : List Action) (a : Action) (j : Journaled) → eqb a.tree j.tree ≡ true → own_of (az ++ a ∷ []) j ≡ own_of az j ++ a ∷ []
own_more az a j e = filter-append (λ (x : Action). x.tree == j.tree) az (a ∷ []) ∙ (rw e refl)

own_same : (az : List Action) (a : Action) (j : Journaled) → eqb a.tree j.tree ≡ false → own_of (az ++ a ∷ []) j ≡ own_of az j
own_same az a j e = filter-append (λ (x : Action). x.tree == j.tree) az (a ∷ []) ∙ (rw e (append-nil (own_of az j)))

turned : (x y : ℕ) → eqb x y ≡ true → eqb y x ≡ true
turned x y h = let e = eqb-true x y h in grind (arith, e, eqb_tells y x)

turned_off : (x y : ℕ) → eqb x y ≡ false → eqb y x ≡ false
turned_off x y h = false_from_ne_true (eqb y x) (λ q. false≢true (sym h ∙ turned y x q))

none_more : (az : List Action) (a : Action) (js : Js) → contains (trees js) a.tree ≡ false → map (share_of (az ++ a ∷ [])) js ≡ map (share_of az) js
none_more az a [] h = refl
none_more az a (j ∷ js) h =
    let x : eqb j.tree a.tree ≡ false = false_from_ne_true (eqb j.tree a.tree) (λ q. grind (arith, q, h)) in
    let y : contains (trees js) a.tree ≡ false = false_from_ne_true (contains (trees js) a.tree) (λ q. grind (arith, q, h)) in
    let own = own_same az a j (turned_off j.tree a.tree x) in
    let rest = none_more az a js y in
    rw (own, rest) refl

absent : (ts : List ℕ) (t : ℕ) → place_in ts t ≡ None → contains ts t ≡ false
absent [] t h = refl
absent (x ∷ ts) t h = by_go (eqb x t)
    (λ q. absurd (let f : ◌≡◌ {A = Option ℕ} (Some 0) None = rw q at h in cc))
    (λ q. rw q (absent ts t (no_suc (place_in ts t) (rw q at h))))
  where
    no_suc : (o : Option ℕ) → option_map suc o ≡ None → o ≡ None
    no_suc None e = refl
    no_suc (Some k) e = absurd (cc)

-- no frame has the action's tree
left_out : (az : List Action) (a : Action) (js : Js) → None ≡ place_in (trees js) a.tree → map (share_of az) js ≡ map (share_of (az ++ a ∷ [])) js
left_out az a js h = sym (none_more az a js (absent (trees js) a.tree (sym h)))

-- the frame at this place has it
put_in : (az : List Action) (a : Action) (js : Js) (at : ℕ) (s o : Share) → NoneTwice (trees js) → place_in (trees js) a.tree ≡ Some at → slice_get (map (share_of az) js) at ≡ Some o → s ≡ with_one_more a o
    → slice_set (map (share_of az) js) at s ≡ map (share_of (az ++ a ∷ [])) js
put_in az a [] at s o d e g h = absurd (cc)
put_in az a (j ∷ js) at s o d e g h = by_go (eqb j.tree a.tree)
    (λ q. let f : ◌≡◌ {A = Option ℕ} (Some 0) (Some at) = rw q at e in
    let z : at ≡ 0 = cc in
    here q z)
    (λ q. later q (place_in (trees js) a.tree) refl (rw q at e) (λ i k g'. put_in az a js i s o d.1 k g' h))
  where
    here : eqb j.tree a.tree ≡ true → at ≡ 0 → slice_set (map (share_of az) (j ∷ js)) at s ≡ map (share_of (az ++ a ∷ [])) (j ∷ js)
    here q z =
        let t = eqb-true j.tree a.tree q in
        let same : share_of az j ≡ o = let k : slice_get (map (share_of az) (j ∷ js)) 0 ≡ Some o = ap (slice_get (map (share_of az) (j ∷ js))) (sym z) ∙ g in cc in
        let own : own_of (az ++ a ∷ []) j ≡ own_of az j ++ a ∷ [] = own_more az a j (turned j.tree a.tree q) in
        let mine : s ≡ share_of (az ++ a ∷ []) j = h ∙ (ap (with_one_more a) (sym same) ∙ ap (λ l. with_own l j) (sym own)) in
        let rest = none_more az a js (ap (contains (trees js)) (sym t) ∙ d.0) in
        ap (λ i. slice_set (map (share_of az) (j ∷ js)) i s) z ∙ (ap (λ x. x ∷ map (share_of az) js) mine ∙ ap (λ l. share_of (az ++ a ∷ []) j ∷ l) (sym rest))

    step : eqb j.tree a.tree ≡ false → (k : ℕ) → at ≡ suc k → slice_set (map (share_of az) js) k s ≡ map (share_of (az ++ a ∷ [])) js → slice_set (map (share_of az) (j ∷ js)) at s ≡ map (share_of (az ++ a ∷ [])) (j ∷ js)
    step q k z ih =
        let own = own_same az a j (turned_off j.tree a.tree q) in
        ap (λ i. slice_set (map (share_of az) (j ∷ js)) i s) z ∙ (ap (λ l. share_of az j ∷ l) ih ∙ ap (λ l. with_own l j ∷ map (share_of (az ++ a ∷ [])) js) (sym own))

    later : eqb j.tree a.tree ≡ false → (p : Option ℕ) → place_in (trees js) a.tree ≡ p → option_map suc p ≡ Some at
        → ((i : ℕ) → place_in (trees js) a.tree ≡ Some i → slice_get (map (share_of az) js) i ≡ Some o → slice_set (map (share_of az) js) i s ≡ map (share_of (az ++ a ∷ [])) js) → slice_set (map (share_of az) (j ∷ js)) at s ≡ map (share_of (az ++ a ∷ [])) (j ∷ js)
    later q None k f ih = absurd (cc)
    later q (Some i) k f ih = let z : at ≡ suc i = cc in step q i z (ih i k (ap (slice_get (map (share_of az) (j ∷ js))) (sym z) ∙ g))

trees_shared : (az : List Action) (js : Js) → trees_in (map (share_of az) js) ≡ trees js
trees_shared az [] = refl
trees_shared az (j ∷ js) = ap (λ ts. j.tree ∷ ts) (trees_shared az js)

pub found_in : (az : List Action) (js : Js) (first shares : List Share) (t : ℕ) (o : Option ℕ) → first ≡ map (with_own []) js → shares ≡ map (share_of az) js → o ≡ place_in (trees_in first) t → o ≡ place_in (trees_in shares) t
found_in az js first shares t o e k h = h ∙ ap (λ ts. place_in ts t) (ap trees_in e ∙ (trees_shared [] js ∙ sym (ap trees_in k ∙ trees_shared az js)))

given_more : (az : List Action) (a : Action) (js : Js) (old new : List Share) (o : Option ℕ) → NoneTwice (trees js) → old ≡ map (share_of az) js → o ≡ place_in (trees_in old) a.tree → Gives a o old new → new ≡ map (share_of (az ++ a ∷ [])) js
given_more az a js old new None d e p g = g ∙ (e ∙ left_out az a js (p ∙ ap (λ ts. place_in ts a.tree) (ap trees_in e ∙ trees_shared az js)))
given_more az a js old new (Some at) d e p g =
    let q : place_in (trees js) a.tree ≡ Some at = sym (p ∙ ap (λ ts. place_in ts a.tree) (ap trees_in e ∙ trees_shared az js)) in
    let there : slice_get (map (share_of az) js) at ≡ Some g.0 = sym (ap (λ l. slice_get l at) e) ∙ g.1 in
    g.2 ∙ (ap (λ l. slice_set l at (with_one_more a g.0)) e ∙ put_in az a js at (with_one_more a g.0) g.0 d q there refl)

-- a turn of the loop over the actions
pub shared_more : (list : List Action) (i : ℕ) (a : Action) (js : Js) (old new : List Share) (o : Option ℕ) → NoneTwice (trees js) → i < length list → a ≡ get_or list i a → old ≡ map (share_of (take i list)) js
    → o ≡ place_in (trees_in old) a.tree → Gives a o old new → new ≡ map (share_of (take (i + 1) list)) js
shared_more list i a js old new o d l g e p h =
    given_more (take i list) a js old new o d e p h ∙ ap (λ az. map (share_of az) js) (sym (take_more list i a l ∙ ap (λ x. take i list ++ x ∷ []) (sym g)))

pub shared_all : (list az : List Action) (i : ℕ) (js : Js) (shares : List Share) → length list ≤ i → list ≡ az → shares ≡ map (share_of (take i list)) js → shares ≡ map (share_of az) js
shared_all list az i js shares l e h = h ∙ ap (λ v. map (share_of v) js) (take_all i list l ∙ e)
