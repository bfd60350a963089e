-- Entries whose children are exchanged: the parts of two lists make of them what the whole lists make.
use Rattle.std.proofs.Common.{ℕ, ◌≡◌, true, false, cond, not, eqb, List, ◌∷◌, Option, Some, None, refl, sym, ap, subst, ◌∙◌, arith}
use Rattle.std.specs.Prelude.{option_map}
use Rattle.std.proofs.lemmas.Bool.{eqb-true, false_from_ne_true, false≢true}
use Rattle.std.proofs.lemmas.Bool.Decides.{eqb_tells}
use Rattle.ax_trees.specs.Trees.{Trees, bare, tree, has, has_root, roots, IsDistinct}
use Rattle.ax_trees.specs.Nodes.{below}
use Rattle.ax_trees.specs.Lists.{NoneTwice, contains}
use Rattle.ax_trees.proofs.Trees.{by_go, root_in, contains_roots, below_right}
use Rattle.ax_trees.proofs.Parents.{roots_once}
use Rattle.ax_tree.specs.UpdateRule.{only}
use Rattle.ax_tree.specs.Bundles.{Client}
use Rattle.ax_tree.proofs.Arranged.{only_in}
use Rattle.ax_client.specs.declared.held.Held.{Held}
use Rattle.ax_client.specs.Parted.{AreParts, none, both, goes, comes}
use Rattle.ax_client.specs.Steps.{Splits, StandUnder, bound, is_tied, is_under, left, loosened, tied, unlisted, untied}
use Rattle.ax_client.proofs.Taking.{Map}
use Rattle.ax_client.proofs.Arranging.{distinct_only, root_of_only, unlisted_only}
use Rattle.ax_client.proofs.Parts.{come_new, gone_old, moved, new_come, old_gone}

-- ---- the trees of some of the roots

module _ {X : Type 0} where
  below_only : (k : Trees X) (cs : List ℕ) (z : ℕ) → IsDistinct k → has (only k cs) z ≡ true → below (only k cs) z ≡ below k z
  below_only bare cs z d h = refl
  below_only (tree i x k r) cs z d h =
      by_go (contains cs i)
      (λ q. let h' : has (tree i x k (only r cs)) z ≡ true = (sym (rw q refl)) ∙ h in
      rw q (by_go (eqb i z)
      (λ p. rw p refl)
      (λ p. by_go (has k z)
      (λ u. rw (p, u) refl)
      (λ u. rw (p, u) (below_only r cs z d.4 (grind (arith, h', p, u)))))))
      (λ q. let h' : has (only r cs) z ≡ true = (sym (rw q refl)) ∙ h in
      let there : has r z ≡ true = only_in r cs z h' in
      let no : eqb i z ≡ false = false_from_ne_true (eqb i z) (λ p. false≢true (sym d.1 ∙ subst (λ v. has r v ≡ true) (sym (eqb-true i z p)) there)) in
      let out : has k z ≡ false = false_from_ne_true (has k z) (λ u. false≢true (sym (d.2.apart z u) ∙ there)) in
      rw q (below_only r cs z d.4 h' ∙ sym (below_right i x k r z no out)))

  only_push : (k : Trees X) (x : ℕ) (cs : List ℕ) → has_root k x ≡ false → only k (x ∷ cs) ≡ only k cs
  only_push bare x cs h = refl
  only_push (tree i e k r) x cs h =
      let no : eqb x i ≡ false = grind (arith, h, eqb_tells x i, eqb_tells i x) in
      let rest : only r (x ∷ cs) ≡ only r cs = only_push r x cs (grind (arith, h)) in
      rw (no, rest) refl

  root_only : (k : Trees X) (cs : List ℕ) (z : ℕ) → has_root (only k cs) z ≡ true → (has_root k z ≡ true) × (contains cs z ≡ true)
  root_only bare cs z h = absurd (false≢true h)
  root_only (tree i e k r) cs z h =
      by_go (contains cs i)
      (λ q. let h' : has_root (tree i e k (only r cs)) z ≡ true = (sym (rw q refl)) ∙ h in
      by_go (eqb i z)
      (λ p. (grind (arith, p), subst (λ v. contains cs v ≡ true) (eqb-true i z p) q))
      (λ p. let more = root_only r cs z (grind (arith, h', p)) in (grind (arith, more.0), more.1)))
      (λ q. let h' : has_root (only r cs) z ≡ true = (sym (rw q refl)) ∙ h in let more = root_only r cs z h' in (grind (arith, more.0), more.1))

  -- the trees of those roots that are left
  roots-left : {o n g c : List ℕ} → AreParts o n g c → (k : Trees X) → roots k ≡ o → IsDistinct k → roots (only k g) ≡ g
  roots-left none bare e d = refl
  roots-left none (tree i x k r) e d = absurd (cc)
  roots-left (both x p) bare e d = absurd (cc)
  roots-left (both {old = o} {gone = g} x p) (tree i y k r) e d =
      let tops : roots r ≡ o = cc in
      let no : contains g i ≡ false = false_from_ne_true (contains g i) (λ q. false≢true (sym d.1 ∙ root_in r i (sym (contains_roots r i) ∙ ap (λ js. contains js i) tops ∙ gone_old i p q))) in
      rw no (roots-left p r tops d.4)
  roots-left (goes x p) bare e d = absurd (cc)
  roots-left (goes {old = o} {gone = g} x p) (tree i y k r) e d =
      let same : i ≡ x = cc in
      let tops : roots r ≡ o = cc in
      let yes : eqb x i ≡ true = grind (arith, eqb_tells x i, same) in
      let out : has_root r x ≡ false = false_from_ne_true (has_root r x) (λ q. false≢true (sym d.1 ∙ subst (λ v. has r v ≡ true) (sym same) (root_in r x q))) in
      rw (yes, only_push r x g out) (ap (λ js. i ∷ js) (roots-left p r tops d.4) ∙ ap (λ j. j ∷ g) same)
  roots-left (comes x p) k e d = roots-left p k e d

  unlisted-left : (k : Trees X) (listed g : List ℕ) → ((z : ℕ) → has_root k z ≡ true → contains listed z ≡ false → contains g z ≡ true) → unlisted (only k g) listed ≡ unlisted k listed
  unlisted-left bare listed g h = refl
  unlisted-left (tree i x k r) listed g h =
      let rest : unlisted (only r g) listed ≡ unlisted r listed = unlisted-left r listed g (λ z t a. h z (grind (arith, t)) a) in
      by_go (contains listed i)
      (λ q. by_go (contains g i)
      (λ p. rw (p, q) rest)
      (λ p. rw (p, q) rest))
      (λ q. let p : contains g i ≡ true = h i (grind (arith, eqb_tells i i)) q in rw (p, q) (ap (λ v. tree i x k v) rest))

-- ---- entries

loose_none : (p : ℕ) (o : Option Held) → is_tied p (option_map (untied p) o) ≡ false
loose_none p None = refl
loose_none p (Some e) = above e.above
  where
    above : (a : Option ℕ) → is_under p (cond (is_under p a) None a) ≡ false
    above None = refl
    above (Some q) = by_go (eqb q p) (λ t. rw t refl) (λ t. rw (t, t) refl)

retied : (p : ℕ) (o : Option Held) → is_tied p o ≡ true → ◌≡◌ {A = Option Held} (Some (tied p (option_map (untied p) o))) o
retied p None h = absurd (false≢true h)
retied p (Some e) h = ap (λ a. Some (record { above = a; children = e.children })) (above e.above h)
  where
    above : (a : Option ℕ) → is_under p a ≡ true → Some p ≡ a
    above None t = absurd (false≢true t)
    above (Some q) t = ap (λ v. Some v) (sym (eqb-true q p t))

same_list : (p : ℕ) (o : Option Held) → option_map (λ (e : Held). e.children) (option_map (untied p) o) ≡ option_map (λ (e : Held). e.children) o
same_list p None = refl
same_list p (Some e) = refl

-- ---- one after the other

splits_same : (m n : Map) (p : ℕ) (k : Client) (listed ids : List ℕ) → ((z : ℕ) → m z ≡ n z) → Splits n p k listed ids → Splits m p k listed ids
splits_same m n p k listed ids e s = record {
  tops = s.tops;
  distinct = s.distinct;
  lists = record { at = λ z h. ap (option_map (λ (x : Held). x.children)) (e z) ∙ s.lists.at z h };
  tie = λ z h. ap (is_tied p) (e z) ∙ s.tie z h;
}

pub in_turn : (m m1 m2 m3 : Map) (p : ℕ) (listed gone : List ℕ) → ((z : ℕ) → m1 z ≡ loosened p listed m z)
    → ((k : Client) (all : List ℕ) → Splits m1 p k all gone → (z : ℕ) → m2 z ≡ cond (has (unlisted k all) z) None (m1 z))
    → ((z : ℕ) → m3 z ≡ bound p listed m2 z) → (k : Client) (all : List ℕ) → Splits (loosened p listed m) p k all gone → (z : ℕ) → m3 z ≡ bound p listed (left k all (loosened p listed m)) z
in_turn m m1 m2 m3 p listed gone first out last k all s z =
    last z ∙ ap (λ (o : Option Held). cond (contains listed z) (Some (tied p o)) o)
    (out k all (splits_same m1 (loosened p listed m) p k all gone first s) z ∙ ap (λ (o : Option Held). cond (has (unlisted k all) z) None o) (first z))

-- ---- what the parts make

module _ (m : Map) (p : ℕ) {o n g c : List ℕ} (part : AreParts o n g c) (k : Client) (s : StandUnder m p k o) where
  once : NoneTwice o
  once = subst (λ js. NoneTwice js) s.tops (roots_once k s.distinct)

  root_old : (z : ℕ) → has_root k z ≡ contains o z
  root_old z = sym (contains_roots k z) ∙ ap (λ js. contains js z) s.tops

  outs : unlisted (only k g) n ≡ unlisted k n
  outs = unlisted-left k n g (λ z t a. old_gone z part (sym (root_old z) ∙ t) a)

  splits_left : Splits (loosened p c m) p (only k g) n g
  splits_left = record {
    tops = roots-left part k s.tops s.distinct;
    distinct = distinct_only k g s.distinct;
    lists = record {
      at = λ z h. either z ∙ s.lists.at z (only_in k g z h) ∙ ap (λ w. Some (roots w)) (sym (below_only k g z s.distinct h));
    };
    tie = λ z h. ties z (root_only k g z h).0 (root_only k g z h).1;
  }
    where
      either : (z : ℕ) → option_map (λ (e : Held). e.children) (loosened p c m z) ≡ option_map (λ (e : Held). e.children) (m z)
      either z = by_go (contains c z) (λ q. rw q (same_list p (m z))) (λ q. rw q refl)

      ties : (z : ℕ) → has_root k z ≡ true → contains g z ≡ true → is_tied p (loosened p c m z) ≡ not (contains n z)
      ties z t a = by_go (contains c z)
          (λ q. rw (q, come_new z part q) (loose_none p (m z)))
          (λ q. let no : contains n z ≡ false = false_from_ne_true (contains n z) (λ b. false≢true (sym q ∙ moved z part once a b)) in rw (q, no) (s.tie z t))

  same_bound : (z : ℕ) → bound p c (left (only k g) n (loosened p c m)) z ≡ bound p n (left k n (loosened p n m)) z
  same_bound z =
      ap (λ (w : Client). cond (contains c z) (Some (tied p (cond (has w z) None (loosened p c m z)))) (cond (has w z) None (loosened p c m z))) outs
      ∙ by_go (contains c z)
      (λ q. rw (q, come_new z part q) refl)
      (λ q. by_go (contains n z)
      (λ b. let old : contains o z ≡ true = by_go (contains o z) (λ u. u) (λ u. absurd (false≢true (sym q ∙ new_come z part b u))) in
      let t : has_root k z ≡ true = root_old z ∙ old in
      let stays : has (unlisted k n) z ≡ false = false_from_ne_true (has (unlisted k n) z) (λ u. false≢true (sym (unlisted_only k n z s.distinct u) ∙ root_in (only k n) z (root_of_only k n z b t))) in
      rw (q, b, stays) (sym (retied p (m z) (s.tie z t))))
      (λ b. rw (q, b) refl))

pub exchanged : (m m' : Map) (p : ℕ) (o n g c gs cs : List ℕ) → AreParts o n g c → gs ≡ g → cs ≡ c
    → ((k : Client) (all : List ℕ) → Splits (loosened p cs m) p k all gs → (z : ℕ) → m' z ≡ bound p cs (left k all (loosened p cs m)) z)
    → (k : Client) → StandUnder m p k o → (z : ℕ) → m' z ≡ bound p n (left k n (loosened p n m)) z
exchanged m m' p o n g c gs cs part eg ec at k s z =
    let q : AreParts o n gs cs = subst (λ js. AreParts o n js cs) (sym eg) (subst (λ js. AreParts o n g js) (sym ec) part) in
    at (only k gs) n (splits_left m p q k s) z ∙ same_bound m p q k s z
