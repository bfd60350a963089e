-- Lists, chains, and the ids that stand over another.
use Rattle.std.proofs.Common.{ℕ, ◌≡◌, ◌<◌, ◌≤◌, ◌+◌, Bool, true, false, cond, ◌||◌, eqb, List, [], ◌∷◌, ◌++◌, drop, length, get_or, Option, Some, None, refl, sym, ap, subst, ◌∙◌, append_assoc, arith}
use Rattle.std.specs.Prelude.{is_some, unwrap_or, nat_eq}
use Rattle.std.specs.List.{list_any}
use Rattle.std.proofs.lemmas.Bool.{eqb-true, false≢true}
use Rattle.std.proofs.lemmas.Bool.Decides.{eqb_tells}
use Rattle.std.proofs.lemmas.List.{append-nil, drop_all}
use Rattle.ax_trees.specs.Trees.{Trees, bare, tree, has, IsDistinct, IsTree}
use Rattle.ax_trees.specs.Nodes.{below, chain, parent}
use Rattle.ax_trees.specs.Lists.{contains, common_prefix, last_that}
use Rattle.ax_trees.proofs.Trees.{by_go, below_trans, not_below_self}
use Rattle.ax_trees.proofs.Chains.{chain_below, below_one, chain_front, chain_absent}
use Rattle.ax_views.proofs.Climbing.{IsAbove, is_above, chain_top}
use Rattle.ax_tree.specs.SerialRule.{last_common}
use Rattle.ax_lca.specs.Chains.{last_or}
use Rattle.ax_lca.specs.Closing.{is_one}
use Rattle.ax_client.proofs.Taking.{drop_at}

-- ---- lists

last_some : (xs : List ℕ) (x r : ℕ) → unwrap_or (last_or (Some x) xs) r ≡ last_that (λ _. true) xs x
last_some [] x r = refl
last_some (y ∷ xs) x r = last_some xs y r

pub last_or-that : (xs : List ℕ) (r : ℕ) → unwrap_or (last_or None xs) r ≡ last_that (λ _. true) xs r
last_or-that [] r = refl
last_or-that (x ∷ xs) r = last_some xs x r

pub last_that-push : (p : ℕ → Bool) (xs : List ℕ) (z d : ℕ) → last_that p (xs ++ z ∷ []) d ≡ cond (p z) z (last_that p xs d)
last_that-push p [] z d = refl
last_that-push p (x ∷ xs) z d = last_that-push p xs z (cond (p x) x d)

-- what a mark list has
pub mark-contains : (m : List ℕ) (z : ℕ) → list_any (λ other. nat_eq other z) m ≡ contains m z
mark-contains [] z = refl
mark-contains (x ∷ m) z = ap (λ b. eqb x z || b) (mark-contains m z)

-- ---- what two lists begin with

pub prefix_none : (xs : List ℕ) → common_prefix xs [] ≡ []
prefix_none [] = refl
prefix_none (x ∷ xs) = refl

-- the rest of both from i on goes on from the last that they have in common
pub prefix_out : (a b : List ℕ) (i : ℕ) (last : Option ℕ) → length b ≤ i → last_or None (common_prefix a b) ≡ last_or last (common_prefix (drop i a) (drop i b)) → last ≡ last_or None (common_prefix a b)
prefix_out a b i last low e = sym (e ∙ ap (λ xs. last_or last (common_prefix (drop i a) xs)) (drop_all i b low) ∙ ap (last_or last) (prefix_none (drop i a)))

pub prefix_end : (a b : List ℕ) (i : ℕ) (last : Option ℕ) → length a ≤ i → last_or None (common_prefix a b) ≡ last_or last (common_prefix (drop i a) (drop i b)) → last ≡ last_or None (common_prefix a b)
prefix_end a b i last low e = sym (e ∙ ap (λ xs. last_or last (common_prefix xs (drop i b))) (drop_all i a low))

pub prefix_differs : (a b : List ℕ) (i x y : ℕ) (last : Option ℕ) → i < length a → i < length b → x ≡ get_or a i x → y ≡ get_or b i y → eqb x y ≡ false
    → last_or None (common_prefix a b) ≡ last_or last (common_prefix (drop i a) (drop i b)) → last ≡ last_or None (common_prefix a b)
prefix_differs a b i x y last la lb ex ey n e = sym (e ∙ rw (drop_at a i x la ex, drop_at b i y lb ey, n) refl)

pub prefix_next : (a b : List ℕ) (i x y : ℕ) (last : Option ℕ) → i < length a → i < length b → x ≡ get_or a i x → y ≡ get_or b i y → eqb x y ≡ true
    → last_or None (common_prefix a b) ≡ last_or last (common_prefix (drop i a) (drop i b)) → last_or None (common_prefix a b) ≡ last_or (Some x) (common_prefix (drop (i + 1) a) (drop (i + 1) b))
prefix_next a b i x y last la lb ex ey n e = e ∙ rw (drop_at a i x la ex, drop_at b i y lb ey, n) refl

-- two reads of a place give the same
read_same : (a : List ℕ) (i x y : ℕ) → i < length a → x ≡ get_or a i x → y ≡ get_or a i y → x ≡ y
read_same a i x y h ex ey = let e : x ∷ drop (i + 1) a ≡ y ∷ drop (i + 1) a = sym (drop_at a i x h ex) ∙ drop_at a i y h ey in cc

pub prefix_same : (a b : List ℕ) (i x y : ℕ) → i < length a → x ≡ get_or a i x → y ≡ get_or a i y → last_or None (common_prefix a b) ≡ last_or (Some x) (common_prefix (drop (i + 1) a) (drop (i + 1) b))
    → last_or None (common_prefix a b) ≡ last_or (Some y) (common_prefix (drop (i + 1) a) (drop (i + 1) b))
prefix_same a b i x y h ex ey e = e ∙ ap (λ v. last_or (Some v) (common_prefix (drop (i + 1) a) (drop (i + 1) b))) (read_same a i x y h ex ey)

-- ---- chains

-- no two ids stand below each other
pub not_both_ways : {X : Type 0} (f : Trees X) (x y : ℕ) → IsDistinct f → has (below f x) y ≡ true → has (below f y) x ≡ true → ⊥
not_both_ways f x y d a b = false≢true (sym (not_below_self f x d) ∙ below_trans f x y x d a b)

-- ids with the same chain are the same
pub same_chain : {X : Type 0} (f : Trees X) (x y : ℕ) → IsDistinct f → has f x ≡ true → has f y ≡ true → chain f x ≡ chain f y → x ≡ y
same_chain f x y d hx hy e = by_go (eqb x y)
    (λ q. eqb-true x y q)
    (λ q. let self : (z : ℕ) → has f z ≡ true → contains (chain f z) z ≡ true = λ z h. own f z d h in
    let a : has (below f x) y ≡ true = grind (arith, chain_below f y x d (ap (λ zs. contains zs x) (sym e) ∙ self x hx), q) in
    let b : has (below f y) x ≡ true = grind (arith, chain_below f x y d (ap (λ zs. contains zs y) e ∙ self y hy), q, eqb_tells x y, eqb_tells y x) in
    absurd (not_both_ways f x y d a b))
  where
    own : {X : Type 0} (w : Trees X) (z : ℕ) → IsDistinct w → has w z ≡ true → contains (chain w z) z ≡ true
    own bare z d h = h
    own (tree i a k r) z d h = by_go (eqb i z)
        (λ q. rw q (grind (arith, q)))
        (λ q. by_go (has k z)
        (λ p. rw (q, p) (grind (arith, own k z d.3 p)))
        (λ p. rw (q, p) (own r z d.4 (grind (arith, h, q, p)))))

-- what stands over z in one stands over it in the other, where z has the same chain in both
pub over_same : {X E : Type 0} (c : Trees E) (f : Trees X) (x z : ℕ) → IsTree c → IsTree f → chain c z ≡ chain f z → has (below c x) z ≡ true → has (below f x) z ≡ true
over_same c f x z tc tf e h = below_one c f x z tc tf e h

-- where an id has the same chain in both, so has its parent, which is the same
pub chain_up : {X E : Type 0} (c : Trees E) (f : Trees X) (z p : ℕ) → IsTree c → IsTree f → chain c z ≡ chain f z → parent f z ≡ Some p → chain c p ≡ chain f p
chain_up {X} {E} c f z p tc tf e h =
    let a : IsAbove f z p = is_above f z p tf.distinct h in
    go (chain f p) refl a
  where
    go : (xs : List ℕ) → chain f p ≡ xs → IsAbove f z p → chain c p ≡ chain f p
    go [] q a = absurd (false≢true (ap (λ zs. contains zs p) (sym q) ∙ own f p tf.distinct a.up))
      where
        own : {Y : Type 0} (w : Trees Y) (y : ℕ) → IsDistinct w → has w y ≡ true → contains (chain w y) y ≡ true
        own bare y d g = g
        own (tree i b k r) y d g = by_go (eqb i y)
            (λ t. rw t (grind (arith, t)))
            (λ t. by_go (has k y)
            (λ u. rw (t, u) (grind (arith, own k y d.3 u)))
            (λ u. rw (t, u) (own r y d.4 (grind (arith, g, t, u)))))
    go (x ∷ xs) q a =
        let line : chain f z ≡ x ∷ (xs ++ z ∷ []) = a.on ∙ ap (λ ys. ys ++ z ∷ []) q in
        let last : ℕ = last_that (λ _. true) xs x in
        let there : chain f last ≡ x ∷ xs = chain_front f z x xs (z ∷ []) tf.distinct (sym line) in
        let here : chain c last ≡ x ∷ xs = chain_front c z x xs (z ∷ []) tc.distinct (sym (e ∙ line)) in
        let is : last ≡ p = same_chain f last p tf.distinct (held last there) a.up (there ∙ sym q) in
        subst (λ v. chain c v ≡ chain f p) is (here ∙ sym q)
      where
        held : (v : ℕ) → chain f v ≡ x ∷ xs → has f v ≡ true
        held v g = by_go (has f v) (λ t. t) (λ t. absurd (let none : chain f v ≡ [] = absent f v t in cc))
          where
            absent : {Y : Type 0} (w : Trees Y) (y : ℕ) → has w y ≡ false → chain w y ≡ []
            absent bare y t = refl
            absent (tree i b k r) y t = grind (arith, t, absent k y, absent r y)

-- no chain was given, since the id isn't held
pub chain_none : {X : Type 0} (f : Trees X) (z : ℕ) → ◌≡◌ {A = Option (List ℕ)} None (cond (has f z) (Some (chain f z)) None) → [] ≡ chain f z
chain_none f z e = by_go (has f z)
    (λ q. absurd (let no : ◌≡◌ {A = Option (List ℕ)} None (Some (chain f z)) = e ∙ ap (λ b. cond b (Some (chain f z)) None) q in cc))
    (λ q. sym (chain_absent f z q))

-- the last common id, or the root
pub common_from : {X E : Type 0} (c : Trees E) (f : Trees X) (r a root common : ℕ) (own there : List ℕ) (o : Option ℕ) → root ≡ r → own ≡ chain f a → there ≡ chain c a → o ≡ last_or None (common_prefix own there) → common ≡ unwrap_or o root
    → common ≡ last_common c f r a
common_from c f r a root common own there o er eo et el ec =
    ec ∙ ap (λ v. unwrap_or v root) el ∙ last_or-that (common_prefix own there) root ∙ ap (λ v. last_that (λ _. true) (common_prefix own there) v) er
    ∙ ap (λ xs. last_that (λ _. true) (common_prefix xs there) r) eo ∙ ap (λ xs. last_that (λ _. true) (common_prefix (chain f a) xs) r) et

pub root_from : (o : Option ℕ) (p : Option ℕ) (root d r : ℕ) → root ≡ unwrap_or o d → o ≡ p → p ≡ Some r → root ≡ r
root_from o p root d r e q h = e ∙ ap (λ v. unwrap_or v d) (q ∙ h)

-- ---- the climb to the last id of a chain that passes a test

pub held_over : {X : Type 0} (p : ℕ → Bool) (f : Trees X) (z y d : ℕ) → IsAbove f z y → p z ≡ false → last_that p (chain f z) d ≡ last_that p (chain f y) d
held_over p f z y d a fails = ap (λ xs. last_that p xs d) a.on ∙ last_that-push p (chain f y) z d ∙ (rw fails refl)

pub held_none : {X : Type 0} (p : ℕ → Bool) (f : Trees X) (z d : ℕ) → IsDistinct f → has f z ≡ true → parent f z ≡ None → p z ≡ false → last_that p (chain f z) d ≡ d
held_none p f z d di h n fails = ap (λ xs. last_that p xs d) (chain_top f z di h n) ∙ (rw fails refl)

pub held_here : {X : Type 0} (p : ℕ → Bool) (f : Trees X) (z d : ℕ) → has f z ≡ true → p z ≡ true → last_that p (chain f z) d ≡ z
held_here p bare z d h t = absurd (false≢true h)
held_here p (tree i x k r) z d h t =
    by_go (eqb i z)
    (λ q. let t' : p i ≡ true = subst (λ v. p v ≡ true) (sym (eqb-true i z q)) t in rw (q, t') (eqb-true i z q))
    (λ q. by_go (has k z)
    (λ u. rw (q, u) (held_here p k z (cond (p i) i d) u t))
    (λ u. rw (q, u) (held_here p r z d (grind (arith, h, q, u)) t)))

-- ---- chains that are the same in both

-- from y on, z has the same chain in both
pub record IsShared {X E : Type 0} (c : Trees E) (f : Trees X) (z y : ℕ) : Type 0 where
  pub there : has f y ≡ true
  pub held : has c y ≡ true
  pub rest : List ℕ
  pub own : chain f y ++ rest ≡ chain f z
  pub other : chain c y ++ rest ≡ chain c z

pub shared_begins : {X E : Type 0} (c : Trees E) (f : Trees X) (z : ℕ) → has f z ≡ true → has c z ≡ true → IsShared c f z z
shared_begins c f z a b = record { there = a; held = b; rest = []; own = append-nil (chain f z); other = append-nil (chain c z) }

pub shared_next : {X E : Type 0} (c : Trees E) (f : Trees X) (z y x : ℕ) → IsShared c f z y → IsAbove f y x → IsAbove c y x → IsShared c f z x
shared_next c f z y x s a b = record {
  there = a.up;
  held = b.up;
  rest = y ∷ s.rest;
  own = sym (append_assoc (chain f x) (y ∷ []) s.rest) ∙ ap (λ zs. zs ++ s.rest) (sym a.on) ∙ s.own;
  other = sym (append_assoc (chain c x) (y ∷ []) s.rest) ∙ ap (λ zs. zs ++ s.rest) (sym b.on) ∙ s.other;
}

pub shared_ends : {X E : Type 0} (c : Trees E) (f : Trees X) (z y : ℕ) → IsDistinct c → IsDistinct f → IsShared c f z y → parent f y ≡ None → parent c y ≡ None → chain f z ≡ chain c z
shared_ends c f z y dc df s a b =
    sym s.own ∙ ap (λ zs. zs ++ s.rest) (chain_top f y df s.there a ∙ sym (chain_top c y dc s.held b)) ∙ s.other

pub one_is : (o : Option ℕ) (y : ℕ) → is_one o y ≡ true → o ≡ Some y
one_is None y h = absurd (false≢true h)
one_is (Some x) y h = ap (λ v. Some v) (eqb-true x y h)

pub none_is : (o : Option ℕ) → is_some o ≡ false → o ≡ None
none_is None h = refl
none_is (Some x) h = absurd (false≢true (sym h))

prefix_self : (xs : List ℕ) → common_prefix xs xs ≡ xs
prefix_self [] = refl
prefix_self (x ∷ xs) = let self : eqb x x ≡ true = grind (arith, eqb_tells x x) in rw self (ap (λ ys. x ∷ ys) (prefix_self xs))

-- an id whose chain is the same in both is the last that they have in common
pub shared_self : {X E : Type 0} (c : Trees E) (f : Trees X) (r z : ℕ) → has f z ≡ true → chain f z ≡ chain c z → z ≡ last_common c f r z
shared_self c f r z h e =
    sym (ap (λ xs. last_that (λ _. true) (common_prefix (chain f z) xs) r) (sym e) ∙ ap (λ xs. last_that (λ _. true) xs r) (prefix_self (chain f z)) ∙ held_here (λ _. true) f z r h refl)
