-- Which ids are touched, one part of an update after the other.
use Rattle.std.proofs.Common.{◌≡◌, ◌⊎◌, ⊎_elim, inl, inr, ℕ, zero, suc, ◌<◌, Bool, true, false, cond, ◌||◌, eqb, List, [], ◌∷◌, length, get_or, Option, Some, None, Ok, Err, refl, sym, ap, subst, ◌∙◌, arith}
use Rattle.std.specs.Prelude.{is_some}
use Rattle.std.specs.FinMap as fin
use Rattle.std.specs.Ordering.{nat_cmp}
use Rattle.std.proofs.lemmas.Bool.{eqb-true, false≢true}
use Rattle.std.proofs.lemmas.Bool.Decides.{eqb_tells}
use Rattle.ax_node.specs.declared.node.NodeData.{NodeData}
use Rattle.ax_node.specs.Look.{Look}
use Rattle.ax_trees.specs.Trees.{Trees, has}
use Rattle.ax_trees.specs.Lists.{contains}
use Rattle.ax_tree.specs.declared.update.TreeUpdate.{TreeUpdate}
use Rattle.ax_tree.specs.declared.update.Refusal.TheVariants.{BadClear}
use Rattle.ax_tree.specs.UpdateRule.{missing}
use Rattle.ax_trees.proofs.Trees.{by_go}
use Rattle.ax_mirror.specs.declared.entries.Entry.{Entry}
use Rattle.ax_mirror.specs.declared.draft.Draft.{Draft}
use Rattle.ax_tree.specs.Touching.{with_id}
use Rattle.ax_mirror.specs.Placed.{Nodes}
use Rattle.ax_mirror.specs.Finishes.{is_pending}
use Rattle.ax_mirror.specs.Begins.{TouchesAll, root_is, anew_of}
use Rattle.ax_mirror.specs.Steps.{IsSettled, Updates, updated}
use Rattle.ax_mirror.specs.Kept.{HoldsTree}
use Rattle.ax_mirror.specs.Accounts.{Accounts, no_id, is_id, names, node_names, list_names, start_names, lists_id, lists_child, is_listed, is_named, MayBeTouched, TouchesOnly}
use Rattle.ax_mirror.proofs.Looks.{at_other}
use Rattle.ax_mirror.proofs.Lists.{contains_with}
use Rattle.ax_mirror.proofs.Updates.{all_settled, refused_clear}
use Rattle.ax_mirror.proofs.Shows.{there_same}
use Rattle.ax_trees.proofs.Lists.{IsAt}

module _ (p q : ℕ → Bool) where
  pub acc_start : (d : Draft) → Accounts p q d d
  acc_start d = record { from = λ z h. rw h refl; come = λ z h. rw h refl; now = λ z h. inr (inr (refl, λ g. g)) }

  pub acc_then : (d e f : Draft) → Accounts p q d e → Accounts p q e f → Accounts p q d f
  acc_then d e f a b = record {
    from = λ z h. from_then (contains f.touched z) (contains e.touched z) (contains d.touched z) (is_some (fin.get e.nodes z)) (is_some (fin.get d.nodes z)) (p z) h (b.from z h) (a.from z) (a.come z);
    come = λ z h. come_then (is_some (fin.get e.nodes z)) (is_some (fin.get d.nodes z)) (p z) (b.come z h) (a.come z);
    now = λ z h. ⊎_elim
        (λ x. inl x)
        (λ (y : (q z ≡ true) ⊎ ((fin.get f.nodes z ≡ fin.get e.nodes z) × (contains f.touched z ≡ true → contains e.touched z ≡ true))). ⊎_elim
        (λ x. inr (inl x))
        (λ (s : (fin.get f.nodes z ≡ fin.get e.nodes z) × (contains f.touched z ≡ true → contains e.touched z ≡ true)). earlier z s (a.now z (ap is_some (sym s.0) ∙ h)))
        y)
        (b.now z h);
  }
    where
      from_then : (ft et dt es ds n : Bool) → ft ≡ true → (et || (es || n)) ≡ true → (et ≡ true → (dt || (ds || n)) ≡ true) → (es ≡ true → (ds || n) ≡ true) → (dt || (ds || n)) ≡ true
      from_then ft true dt es ds n h x y z = y refl
      from_then ft false true es ds n h x y z = refl
      from_then ft false false true ds n h x y z = z refl
      from_then ft false false false true n h x y z = refl
      from_then ft false false false false n h x y z = x

      come_then : (es ds n : Bool) → (es || n) ≡ true → (es ≡ true → (ds || n) ≡ true) → (ds || n) ≡ true
      come_then true ds n x y = y refl
      come_then false true n x y = refl
      come_then false false n x y = x

      earlier : (z : ℕ) → (fin.get f.nodes z ≡ fin.get e.nodes z) × (contains f.touched z ≡ true → contains e.touched z ≡ true)
          → (is_pending (fin.get e.nodes z) ≡ true) ⊎ ((q z ≡ true) ⊎ ((fin.get e.nodes z ≡ fin.get d.nodes z) × (contains e.touched z ≡ true → contains d.touched z ≡ true)))
          → (is_pending (fin.get f.nodes z) ≡ true) ⊎ ((q z ≡ true) ⊎ ((fin.get f.nodes z ≡ fin.get d.nodes z) × (contains f.touched z ≡ true → contains d.touched z ≡ true)))
      earlier z s h = ⊎_elim
          (λ (x : is_pending (fin.get e.nodes z) ≡ true). inl (ap is_pending s.0 ∙ x))
          (λ (y : (q z ≡ true) ⊎ ((fin.get e.nodes z ≡ fin.get d.nodes z) × (contains e.touched z ≡ true → contains d.touched z ≡ true))). ⊎_elim
          (λ x. inr (inl x))
          (λ (t : (fin.get e.nodes z ≡ fin.get d.nodes z) × (contains e.touched z ≡ true → contains d.touched z ≡ true)). inr (inr (s.0 ∙ t.0, λ g. t.1 (s.1 g))))
          y)
          h

  -- one id is touched
  pub acc_touch : (d e : Draft) (i : ℕ) → ((z : ℕ) → eqb i z ≡ false → fin.get e.nodes z ≡ fin.get d.nodes z) → e.touched ≡ with_id d.touched i → (is_some (fin.get d.nodes i) || p i) ≡ true
      → (is_some (fin.get e.nodes i) ≡ true → (is_pending (fin.get e.nodes i) ≡ true) ⊎ (q i ≡ true)) → Accounts p q d e
  acc_touch d e i other t here new = record {
    from = λ z h. by_go (eqb i z)
        (λ s. right (contains d.touched z) (is_some (fin.get d.nodes z) || p z) (subst (λ y. (is_some (fin.get d.nodes y) || p y) ≡ true) (eqb-true i z s) here))
        (λ s. let c : contains d.touched z ≡ true = sym (touched z s) ∙ h in rw c refl);
    come = λ z h. by_go (eqb i z)
        (λ s. subst (λ y. (is_some (fin.get d.nodes y) || p y) ≡ true) (eqb-true i z s) here)
        (λ s. let c : is_some (fin.get d.nodes z) ≡ true = ap is_some (sym (other z s)) ∙ h in rw c refl);
    now = λ z h. by_go (eqb i z)
        (λ s. let v : i ≡ z = eqb-true i z s in
        ⊎_elim (λ (x : is_pending (fin.get e.nodes i) ≡ true). inl (subst (λ y. is_pending (fin.get e.nodes y) ≡ true) v x)) (λ (x : q i ≡ true). inr (inl (subst (λ y. q y ≡ true) v x))) (new (subst (λ y. is_some (fin.get e.nodes y) ≡ true) (sym v) h)))
        (λ s. inr (inr (other z s, λ g. sym (touched z s) ∙ g)));
  }
    where
      touched : (z : ℕ) → eqb i z ≡ false → contains e.touched z ≡ contains d.touched z
      touched z s = ap (λ js. contains js z) t ∙ contains_with d.touched i z ∙ ap (λ b. cond b true (contains d.touched z)) s

      right : (a b : Bool) → b ≡ true → (a || b) ≡ true
      right true b h = refl
      right false b h = h

pub acc_weaken : (p q r s : ℕ → Bool) (d e : Draft) → ((z : ℕ) → p z ≡ true → r z ≡ true) → ((z : ℕ) → q z ≡ true → s z ≡ true) → Accounts p q d e → Accounts r s d e
acc_weaken p q r s d e v w a = record {
  from = λ z h. wide3 (contains d.touched z) (is_some (fin.get d.nodes z)) (p z) (r z) (v z) (a.from z h);
  come = λ z h. wide2 (is_some (fin.get d.nodes z)) (p z) (r z) (v z) (a.come z h);
  now = λ z h. ⊎_elim
      (λ x. inl x)
      (λ (y : (q z ≡ true) ⊎ ((fin.get e.nodes z ≡ fin.get d.nodes z) × (contains e.touched z ≡ true → contains d.touched z ≡ true))). ⊎_elim (λ x. inr (inl (w z x))) (λ x. inr (inr x)) y)
      (a.now z h);
}
  where
    wide2 : (a p r : Bool) → (p ≡ true → r ≡ true) → (a || p) ≡ true → (a || r) ≡ true
    wide2 true p r h x = refl
    wide2 false p r h x = h x

    wide3 : (a b p r : Bool) → (p ≡ true → r ≡ true) → (a || (b || p)) ≡ true → (a || (b || r)) ≡ true
    wide3 true b p r h x = refl
    wide3 false true p r h x = refl
    wide3 false false p r h x = h x

-- the same where only other fields differ
pub acc_same : (p q : ℕ → Bool) (d c e : Draft) → c.nodes ≡ d.nodes → c.touched ≡ d.touched → Accounts p q c e → Accounts p q d e
acc_same p q d c e n t a = record {
  from = subst (λ js. (z : ℕ) → contains e.touched z ≡ true → (contains js z || (is_some (fin.get d.nodes z) || p z)) ≡ true) t
      (subst (λ m. (z : ℕ) → contains e.touched z ≡ true → (contains c.touched z || (is_some (fin.get m z) || p z)) ≡ true) n a.from);
  come = subst (λ m. (z : ℕ) → is_some (fin.get e.nodes z) ≡ true → (is_some (fin.get m z) || p z) ≡ true) n a.come;
  now = subst (λ js. (z : ℕ) → is_some (fin.get e.nodes z) ≡ true → (is_pending (fin.get e.nodes z) ≡ true) ⊎ ((q z ≡ true) ⊎ ((fin.get e.nodes z ≡ fin.get d.nodes z) × (contains e.touched z ≡ true → contains js z ≡ true)))) t
      (subst (λ m. (z : ℕ) → is_some (fin.get e.nodes z) ≡ true → (is_pending (fin.get e.nodes z) ≡ true) ⊎ ((q z ≡ true) ⊎ ((fin.get e.nodes z ≡ fin.get m z) × (contains e.touched z ≡ true → contains c.touched z ≡ true)))) n a.now);
}

pub or_left : (a b : Bool) → a ≡ true → (a || b) ≡ true
or_left true b h = refl
or_left false b h = absurd (false≢true h)

pub or_right : (a b : Bool) → b ≡ true → (a || b) ≡ true
or_right true b h = refl
or_right false b h = h

-- an entry that is there is taken out
pub acc_take : (d e : Draft) (i : ℕ) (x : Entry) → Some x ≡ fin.get d.nodes i → ((z : ℕ) → fin.get e.nodes z ≡ cond (eqb i z) None (fin.get d.nodes z)) → e.touched ≡ with_id d.touched i → Accounts no_id no_id d e
acc_take d e i x there gone t = acc_touch no_id no_id d e i (λ z h. at_other _ _ _ _ h (gone z)) t (let c : is_some (fin.get d.nodes i) ≡ true = ap is_some (sym there) in rw c refl)
    (λ h. let self : eqb i i ≡ true = grind (arith, eqb_tells i i) in
    let n : is_some (fin.get e.nodes i) ≡ false = ap is_some (gone i ∙ ap (λ b. cond b None (fin.get d.nodes i)) self) in
    absurd (false≢true (sym n ∙ h)))

-- an entry is put, which is pending or listed
pub acc_put : (p q : ℕ → Bool) (d e : Draft) (i : ℕ) (x : Entry) → ((z : ℕ) → fin.get e.nodes z ≡ cond (eqb i z) (Some x) (fin.get d.nodes z)) → e.touched ≡ with_id d.touched i → p i ≡ true → (x.pending ≡ true) ⊎ (q i ≡ true) → Accounts p q d e
acc_put p q d e i x put t n h = acc_touch p q d e i (λ z g. at_other _ _ _ _ g (put z)) t (or_right (is_some (fin.get d.nodes i)) (p i) n)
    (λ _. ⊎_elim (λ (k : x.pending ≡ true). inl (ap is_pending (put i ∙ (let self : eqb i i ≡ true = grind (arith, eqb_tells i i) in ap (λ b. cond b (Some x) (fin.get d.nodes i)) self)) ∙ k)) (λ k. inr k) h)

pub self_is : (i : ℕ) → eqb i i ≡ true
self_is i = grind (arith, eqb_tells i i)

pub is_in : (xs : List ℕ) (i x : ℕ) → IsAt xs i x → contains xs x ≡ true
is_in [] i x a = absurd (let l = a.low in omega arith)
is_in (y ∷ ys) zero x a = let e : x ≡ y = a.item in or_left (eqb y x) (contains ys x) (ap (λ v. eqb v x) (sym e) ∙ self_is x)
is_in (y ∷ ys) (suc i) x a = or_right (eqb y x) (contains ys x) (is_in ys i x (record { low = let l = a.low in omega arith; item = a.item }))

pub one_in : (xs : List ℕ) (x z : ℕ) → contains xs x ≡ true → eqb x z ≡ true → contains xs z ≡ true
one_in xs x z h q = ap (contains xs) (sym (eqb-true x z q)) ∙ h

pub node_in : (us : List NodeData) (i : ℕ) (u : NodeData) (z : ℕ) → i < length us → u ≡ get_or us i u → eqb u.id z ≡ true → lists_id us z ≡ true
node_in [] i u z l e h = absurd (omega arith)
node_in (v ∷ us) zero u z l e h = let s : u ≡ v = e in or_left (eqb v.id z) (lists_id us z) (ap (λ (x : NodeData). eqb x.id z) (sym s) ∙ h)
node_in (v ∷ us) (suc i) u z l e h = or_right (eqb v.id z) (lists_id us z) (node_in us i u z (omega arith) e h)

pub child_in : (us : List NodeData) (i : ℕ) (u : NodeData) (z : ℕ) → i < length us → u ≡ get_or us i u → contains u.children z ≡ true → lists_child us z ≡ true
child_in [] i u z l e h = absurd (omega arith)
child_in (v ∷ us) zero u z l e h = let s : u ≡ v = e in or_left (contains v.children z) (lists_child us z) (ap (λ (x : NodeData). contains x.children z) (sym s) ∙ h)
child_in (v ∷ us) (suc i) u z l e h = or_right (contains v.children z) (lists_child us z) (child_in us i u z (omega arith) e h)

-- of two tests, what passes either
pub either : (a b c : Bool) → (a || b) ≡ true → (a ≡ true → c ≡ true) → (b ≡ true → c ≡ true) → c ≡ true
either true b c h f g = f refl
either false b c h f g = g h

-- one node of many
pub acc_node : (d e : Draft) (us : List NodeData) (i : ℕ) (u : NodeData) → i < length us → u ≡ get_or us i u → Accounts (node_names u) (is_id u.id) d e → Accounts (list_names us) (lists_id us) d e
acc_node d e us i u l q a = acc_weaken (node_names u) (is_id u.id) (list_names us) (lists_id us) d e
    (λ z h. either (eqb u.id z) (contains u.children z) (list_names us z) h (λ x. or_left (lists_id us z) (lists_child us z) (node_in us i u z l q x)) (λ x. or_right (lists_id us z) (lists_child us z) (child_in us i u z l q x)))
    (λ z h. node_in us i u z l q h) a

-- all ids are touched, and no node is left
pub acc_forget : (p q : ℕ → Bool) (d t e : Draft) → TouchesAll d t → e.touched ≡ t.touched → e.nodes ≡ fin.empty → Accounts p q d e
acc_forget p q d t e all same empty = record {
  from = λ z h. old (contains d.touched z) (is_some (fin.get d.nodes z)) (p z) (all.only z (sym (ap (λ js. contains js z) same) ∙ h));
  come = λ z h. absurd (false≢true (sym (none z) ∙ h));
  now = λ z h. absurd (false≢true (sym (none z) ∙ h));
}
  where
    none : (z : ℕ) → is_some (fin.get e.nodes z) ≡ false
    none z = ap is_some (ap (λ m. fin.get m z) empty ∙ fin.get-empty nat_cmp z)

    old : (a b c : Bool) → (a || b) ≡ true → (a || (b || c)) ≡ true
    old true b c h = refl
    old false true c h = refl
    old false false c h = absurd (false≢true h)

pub only_with : (m : Nodes) (t xs ys : List ℕ) (i : ℕ) (x : Entry) → ys ≡ with_id xs i → Some x ≡ fin.get m i → ((z : ℕ) → contains xs z ≡ true → (contains t z || is_some (fin.get m z)) ≡ true)
    → (z : ℕ) → contains ys z ≡ true → (contains t z || is_some (fin.get m z)) ≡ true
only_with m t xs ys i x e there h z c = by_go (eqb i z)
    (λ s. or_right (contains t z) (is_some (fin.get m z)) (ap (λ y. is_some (fin.get m y)) (sym (eqb-true i z s)) ∙ ap is_some (sym there)))
    (λ s. h z (sym (ap (λ js. contains js z) e ∙ contains_with xs i z ∙ ap (λ b. cond b true (contains xs z)) s) ∙ c))

pub anew_some : (o n : Option ℕ) (r : ℕ) → anew_of o n ≡ Some r → n ≡ Some r
anew_some o None r h = absurd (cc)
anew_some o (Some x) r h = go (root_is o x) h
  where
    go : (b : Bool) → cond b None (Some x) ≡ Some r → Some x ≡ Some r
    go true e = absurd (cc)
    go false e = e

pub root_named : (n : Option ℕ) (r z : ℕ) → n ≡ Some r → eqb r z ≡ true → root_is n z ≡ true
root_named n r z e h = ap (λ o. root_is o z) e ∙ h

pub acc_update : (u : TreeUpdate) (d c e g : Draft) → c.nodes ≡ d.nodes → c.touched ≡ d.touched → Accounts (start_names u.root u.clear) no_id c e → Accounts (list_names u.nodes) (lists_id u.nodes) e g → Accounts (names u) (lists_id u.nodes) d g
acc_update u d c e g n t a b = acc_same (names u) (lists_id u.nodes) d c g n t
    (acc_then (names u) (lists_id u.nodes) c e g
    (acc_weaken (start_names u.root u.clear) no_id (names u) (lists_id u.nodes) c e (λ z h. or_left (start_names u.root u.clear z) (list_names u.nodes z) h) (λ z h. absurd (false≢true h)) a)
    (acc_weaken (list_names u.nodes) (lists_id u.nodes) (names u) (lists_id u.nodes) e g (λ z h. or_right (start_names u.root u.clear z) (list_names u.nodes z) h) (λ z h. h) b))

pub acc_start_root : (root clear : Option ℕ) (r : ℕ) (d e : Draft) → root ≡ Some r → Accounts (is_id r) no_id d e → Accounts (start_names root clear) no_id d e
acc_start_root root clear r d e s a = acc_weaken (is_id r) no_id (start_names root clear) no_id d e (λ z h. or_left (root_is root z) (root_is clear z) (root_named root r z s h)) (λ z h. h) a

pub acc_start_clear : (root clear : Option ℕ) (r : ℕ) (d e : Draft) → clear ≡ Some r → Accounts (is_id r) no_id d e → Accounts (start_names root clear) no_id d e
acc_start_clear root clear r d e s a = acc_weaken (is_id r) no_id (start_names root clear) no_id d e (λ z h. or_right (root_is root z) (root_is clear z) (root_named clear r z s h)) (λ z h. h) a

-- ---- what it tells of the trees

settled_now : (o : Option Entry) → IsSettled o → is_pending o ≡ false
settled_now None s = refl
settled_now (Some e) s = s.0

clear_known : (f : Trees Look) (o : Option ℕ) (z : ℕ) → missing f o ≡ None → root_is o z ≡ true → has f z ≡ true
clear_known f None z m h = absurd (false≢true h)
clear_known f (Some y) z m h = ap (has f) (sym (eqb-true y z h)) ∙ by (has f y) m
  where
    by : (b : Bool) → cond b None (Some y) ≡ None → b ≡ true
    by true e = refl
    by false e = absurd (cc)

-- an update that the rule accepts clears an id that is there
pub clear_there : (u : TreeUpdate) (f g : Trees Look) → updated u f ≡ Ok g → (z : ℕ) → root_is u.clear z ≡ true → has f z ≡ true
clear_there u f g h z r = go (missing f u.clear) refl
  where
    go : (o : Option ℕ) → missing f u.clear ≡ o → has f z ≡ true
    go None m = clear_known f u.clear z m r
    go (Some y) m = absurd (let e : updated u f ≡ Err (BadClear y) = refused_clear u f y m in cc)

module _ (u : TreeUpdate) (d e : Draft) (a : Accounts (names u) (lists_id u.nodes) d e) (f g : Trees Look) (h : HoldsTree d.nodes d.root f) (k : HoldsTree e.nodes e.root g) (clear : (z : ℕ) → root_is u.clear z ≡ true → has f z ≡ true) where
  was : (z : ℕ) → is_some (fin.get d.nodes z) ≡ has f z
  was z = there_same d.nodes d.root f h z

  is : (z : ℕ) → is_some (fin.get e.nodes z) ≡ has g z
  is z = there_same e.nodes e.root g k z

  settled : (z : ℕ) → is_pending (fin.get e.nodes z) ≡ false
  settled z = settled_now (fin.get e.nodes z) (all_settled e.nodes e.root g k z (fin.get e.nodes z) refl)

  came : (z : ℕ) → has g z ≡ true → (lists_id u.nodes z ≡ true) ⊎ ((fin.get e.nodes z ≡ fin.get d.nodes z) × (contains e.touched z ≡ true → contains d.touched z ≡ true))
  came z t = ⊎_elim (λ (p : is_pending (fin.get e.nodes z) ≡ true). absurd (false≢true (sym (settled z) ∙ p))) (λ s. s) (a.now z (is z ∙ t))

  pub one_come : (z : ℕ) → has g z ≡ true → (has f z ≡ true) ⊎ (is_listed (u ∷ []) z ≡ true)
  one_come z t = ⊎_elim
      (λ (l : lists_id u.nodes z ≡ true). inr (or_left (lists_id u.nodes z) false l))
      (λ (s : (fin.get e.nodes z ≡ fin.get d.nodes z) × (contains e.touched z ≡ true → contains d.touched z ≡ true)). inl (sym (was z) ∙ ap is_some (sym s.0) ∙ is z ∙ t))
      (came z t)

  pub one_only : (z : ℕ) → contains e.touched z ≡ true → (contains d.touched z ≡ true) ⊎ MayBeTouched (u ∷ []) f g z
  one_only z c = by_go (has g z)
      (λ t. ⊎_elim
      (λ (l : lists_id u.nodes z ≡ true). inr (inl (or_left (lists_id u.nodes z) false l)))
      (λ (s : (fin.get e.nodes z ≡ fin.get d.nodes z) × (contains e.touched z ≡ true → contains d.touched z ≡ true)). inl (s.1 c))
      (came z t))
      (λ t. gone t (contains d.touched z) (is_some (fin.get d.nodes z)) (root_is u.root z) (root_is u.clear z) (lists_id u.nodes z) (lists_child u.nodes z) refl refl refl refl refl refl (a.from z c))
    where
      gone : has g z ≡ false → (t s r q l k : Bool) → contains d.touched z ≡ t → is_some (fin.get d.nodes z) ≡ s → root_is u.root z ≡ r → root_is u.clear z ≡ q → lists_id u.nodes z ≡ l → lists_child u.nodes z ≡ k
          → (t || (s || ((r || q) || (l || k)))) ≡ true → (contains d.touched z ≡ true) ⊎ MayBeTouched (u ∷ []) f g z
      gone n true s r q l k et es er eq el ek x = inl et
      gone n false true r q l k et es er eq el ek x = inr (inr (n, or_left (has f z) (is_named (u ∷ []) z) (sym (was z) ∙ es)))
      gone n false false true q l k et es er eq el ek x = inr (inr (n, or_right (has f z) (is_named (u ∷ []) z) (or_left (root_is u.root z || lists_child u.nodes z) false (or_left (root_is u.root z) (lists_child u.nodes z) er))))
      gone n false false false true l k et es er eq el ek x = inr (inr (n, or_left (has f z) (is_named (u ∷ []) z) (clear z eq)))
      gone n false false false false true k et es er eq el ek x = inr (inl (or_left (lists_id u.nodes z) false el))
      gone n false false false false false true et es er eq el ek x = inr (inr (n, or_right (has f z) (is_named (u ∷ []) z) (or_left (root_is u.root z || lists_child u.nodes z) false (or_right (root_is u.root z) (lists_child u.nodes z) ek))))
      gone n false false false false false false et es er eq el ek x = absurd (false≢true x)

pub touches_one : (u : TreeUpdate) (d e : Draft) → Updates d e u → Accounts (names u) (lists_id u.nodes) d e → TouchesOnly (u ∷ []) d e
touches_one u d e up a = record {
  only = λ f g h k. one_only u d e a f g h k (λ z r. clear_there u f (up f h).next (up f h).is z r);
  come = λ f g h k. one_come u d e a f g h k (λ z r. clear_there u f (up f h).next (up f h).is z r);
}

-- ---- one update of many

listed_of : (us : List TreeUpdate) (i : ℕ) (u : TreeUpdate) (z : ℕ) → i < length us → u ≡ get_or us i u → lists_id u.nodes z ≡ true → is_listed us z ≡ true
listed_of [] i u z l e h = absurd (omega arith)
listed_of (v ∷ us) zero u z l e h = let s : u ≡ v = e in or_left (lists_id v.nodes z) (is_listed us z) (ap (λ (x : TreeUpdate). lists_id x.nodes z) (sym s) ∙ h)
listed_of (v ∷ us) (suc i) u z l e h = or_right (lists_id v.nodes z) (is_listed us z) (listed_of us i u z (omega arith) e h)

named_of : (us : List TreeUpdate) (i : ℕ) (u : TreeUpdate) (z : ℕ) → i < length us → u ≡ get_or us i u → (root_is u.root z || lists_child u.nodes z) ≡ true → is_named us z ≡ true
named_of [] i u z l e h = absurd (omega arith)
named_of (v ∷ us) zero u z l e h = let s : u ≡ v = e in or_left (root_is v.root z || lists_child v.nodes z) (is_named us z) (ap (λ (x : TreeUpdate). root_is x.root z || lists_child x.nodes z) (sym s) ∙ h)
named_of (v ∷ us) (suc i) u z l e h = or_right (root_is v.root z || lists_child v.nodes z) (is_named us z) (named_of us i u z (omega arith) e h)

or_false : (a : Bool) → (a || false) ≡ true → a ≡ true
or_false true h = refl
or_false false h = h

-- the rest of a bundle, one update later
pub only_next : (us : List TreeUpdate) (i : ℕ) (u : TreeUpdate) (d e g : Draft) (f now next : Trees Look) → i < length us → u ≡ get_or us i u → TouchesOnly (u ∷ []) e g → HoldsTree e.nodes e.root now → HoldsTree g.nodes g.root next
    → ((z : ℕ) → contains e.touched z ≡ true → (contains d.touched z ≡ true) ⊎ MayBeTouched us f now z) → ((z : ℕ) → has now z ≡ true → (has f z ≡ true) ⊎ (is_listed us z ≡ true))
    → (z : ℕ) → contains g.touched z ≡ true → (contains d.touched z ≡ true) ⊎ MayBeTouched us f next z
only_next us i u d e g f now next l q t hn hx only come z c =
    ⊎_elim
    (λ (x : contains e.touched z ≡ true). ⊎_elim (λ y. inl y) (λ (y : MayBeTouched us f now z). inr (⊎_elim (λ k. inl k) (λ (k : (has now z ≡ false) × ((has f z || is_named us z) ≡ true)). still k) y)) (only z x))
    (λ (x : MayBeTouched (u ∷ []) now next z). inr (⊎_elim
    (λ (k : is_listed (u ∷ []) z ≡ true). inl (listed_of us i u z l q (or_false (lists_id u.nodes z) k)))
    (λ (k : (has next z ≡ false) × ((has now z || is_named (u ∷ []) z) ≡ true)). gone k)
    x))
    (t.only now next hn hx z c)
  where
    later : (a b : Bool) → a ≡ false → (a || b) ≡ true → b ≡ true
    later true b n h = absurd (false≢true (sym n))
    later false b n h = h

    still : (has now z ≡ false) × ((has f z || is_named us z) ≡ true) → MayBeTouched us f next z
    still k = by_go (has next z)
        (λ n. ⊎_elim (λ (x : has now z ≡ true). absurd (false≢true (sym k.0 ∙ x))) (λ (x : is_listed (u ∷ []) z ≡ true). inl (listed_of us i u z l q (or_false (lists_id u.nodes z) x))) (t.come now next hn hx z n))
        (λ n. inr (n, k.1))

    gone : (has next z ≡ false) × ((has now z || is_named (u ∷ []) z) ≡ true) → MayBeTouched us f next z
    gone k = by_go (has now z)
        (λ n. ⊎_elim (λ (x : has f z ≡ true). inr (k.0, or_left (has f z) (is_named us z) x)) (λ x. inl x) (come z n))
        (λ n. inr (k.0, or_right (has f z) (is_named us z) (named_of us i u z l q (or_false (root_is u.root z || lists_child u.nodes z) (later (has now z) (is_named (u ∷ []) z) n k.1)))))

pub come_next : (us : List TreeUpdate) (i : ℕ) (u : TreeUpdate) (e g : Draft) (f now next : Trees Look) → i < length us → u ≡ get_or us i u → TouchesOnly (u ∷ []) e g → HoldsTree e.nodes e.root now → HoldsTree g.nodes g.root next
    → ((z : ℕ) → has now z ≡ true → (has f z ≡ true) ⊎ (is_listed us z ≡ true)) → (z : ℕ) → has next z ≡ true → (has f z ≡ true) ⊎ (is_listed us z ≡ true)
come_next us i u e g f now next l q t hn hx come z h =
    ⊎_elim
    (λ (x : has now z ≡ true). come z x)
    (λ (x : is_listed (u ∷ []) z ≡ true). inr (listed_of us i u z l q (or_false (lists_id u.nodes z) x)))
    (t.come now next hn hx z h)
