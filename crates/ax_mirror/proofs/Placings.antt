-- What a loop that places children has made.
use Rattle.std.proofs.Common.{◌≡◌, ℕ, ◌+◌, ◌≤◌, Bool, true, false, cond, not, ◌&&◌, eqb, List, [], ◌∷◌, ◌++◌, length, drop, take, Some, None, refl, sym, ap, subst, ◌∙◌, arith}
use Rattle.std.specs.Prelude.{is_some}
use Rattle.std.specs.FinMap as fin
use Rattle.std.proofs.lemmas.Bool.Decides.{eqb_tells}
use Rattle.std.proofs.lemmas.Bool.{eqb-true, false≢true}
use Rattle.ax_trees.specs.Lists.{contains, first_that}
use Rattle.ax_tree.specs.UpdateRule.{first_repeated}
use Rattle.ax_mirror.specs.declared.draft.Draft.{Draft}
use Rattle.ax_mirror.specs.Placed.{pending_entry}
use Rattle.ax_mirror.specs.Steps.{PutsPending, Places, is_elsewhere}
use Rattle.ax_mirror.proofs.Looks.{get_insert}
use Rattle.ax_mirror.proofs.Lists.{fresh_item, take_whole, drop_whole}
use Rattle.ax_trees.proofs.Lists.{drop_at, contains_push, contains_next, IsAt}

pub pushed_here : (xs ys : List ℕ) (x : ℕ) → ys ≡ xs ++ x ∷ [] → contains ys x ≡ true
pushed_here xs ys x e = ap (λ js. contains js x) e ∙ contains_push xs x x ∙ (let self : eqb x x ≡ true = grind (arith, eqb_tells x x) in rw self refl)

or_more : (b c : Bool) → c ≡ true → cond b true c ≡ true
or_more true c h = refl
or_more false c h = h

pub pushed_more : (xs ys : List ℕ) (x z : ℕ) → ys ≡ xs ++ x ∷ [] → contains xs z ≡ true → contains ys z ≡ true
pushed_more xs ys x z e h = ap (λ js. contains js z) e ∙ contains_push xs x z ∙ or_more (eqb x z) (contains xs z) h

-- the new ids before this index are pending
pub record Placed (d e : Draft) (above level : ℕ) (old : ℕ → Bool) (xs : List ℕ) (i : ℕ) : Type 0 where
  pub root : e.root ≡ d.root
  pub at : (z : ℕ) → fin.get e.nodes z ≡ cond (contains (take i xs) z && not (old z)) (Some (pending_entry (Some above) level z)) (fin.get d.nodes z)
  pub made : (z : ℕ) → (contains (take i xs) z && not (old z)) ≡ true → contains e.made z ≡ true
  pub grows : (z : ℕ) → contains d.made z ≡ true → contains e.made z ≡ true
  pub rest : first_that (is_elsewhere d.nodes old) xs ≡ first_that (is_elsewhere d.nodes old) (drop i xs)

pub placed_start : (d : Draft) (above level : ℕ) (old : ℕ → Bool) (xs : List ℕ) → Placed d d above level old xs 0
placed_start d above level old xs = record { root = refl; at = λ z. refl; made = λ z h. absurd (false≢true h); grows = λ z h. h; rest = refl }

-- an old child stays
pub placed_old : (d e : Draft) (above level : ℕ) (old : ℕ → Bool) (xs : List ℕ) (i x : ℕ) → Placed d e above level old xs i → IsAt xs i x → old x ≡ true → Placed d e above level old xs (i + 1)
placed_old d e above level old xs i x p a h = record {
  root = p.root;
  at = λ z. p.at z ∙ ap (λ b. cond b (Some (pending_entry (Some above) level z)) (fin.get d.nodes z)) (sym (same z));
  made = λ z g. p.made z (sym (same z) ∙ g);
  grows = p.grows;
  rest = p.rest ∙ ap (first_that (is_elsewhere d.nodes old)) (drop_at xs i x a) ∙ rw h refl;
}
  where
    by : (z : ℕ) (b : Bool) → eqb x z ≡ b → (cond b true (contains (take i xs) z) && not (old z)) ≡ (contains (take i xs) z && not (old z))
    by z true e = let w : old z ≡ true = ap old (sym (eqb-true x z e)) ∙ h in rw w (none (contains (take i xs) z))
      where
        none : (c : Bool) → false ≡ (c && false)
        none true = refl
        none false = refl
    by z false e = refl

    same : (z : ℕ) → (contains (take (i + 1) xs) z && not (old z)) ≡ (contains (take i xs) z && not (old z))
    same z = ap (λ b. b && not (old z)) (contains_next xs i x z a) ∙ by z (eqb x z) refl

-- what is read of an item that is no old child
read_item : (d e : Draft) (above level : ℕ) (old : ℕ → Bool) (xs : List ℕ) (i x : ℕ) → Placed d e above level old xs i → IsAt xs i x → first_repeated [] xs ≡ None → fin.get e.nodes x ≡ fin.get d.nodes x
read_item d e above level old xs i x p a o = let w = fresh_item xs i x o a in p.at x ∙ rw w refl

-- an id that is there and is no old child is the first of them
pub placed_bad : (d e : Draft) (above level : ℕ) (old : ℕ → Bool) (xs : List ℕ) (i x : ℕ) → Placed d e above level old xs i → IsAt xs i x → first_repeated [] xs ≡ None → old x ≡ false → is_some (fin.get e.nodes x) ≡ true
    → Some x ≡ first_that (is_elsewhere d.nodes old) xs
placed_bad d e above level old xs i x p a o h t =
    let w : is_some (fin.get d.nodes x) ≡ true = ap is_some (sym (read_item d e above level old xs i x p a o)) ∙ t in
    sym (p.rest ∙ ap (first_that (is_elsewhere d.nodes old)) (drop_at xs i x a) ∙ rw (h, w) refl)

-- a new id is made
pub placed_new : (d e f : Draft) (above level : ℕ) (old : ℕ → Bool) (xs : List ℕ) (i x : ℕ) → Placed d e above level old xs i → IsAt xs i x → first_repeated [] xs ≡ None → old x ≡ false → is_some (fin.get e.nodes x) ≡ false
    → PutsPending e f x (Some above) level → Placed d f above level old xs (i + 1)
placed_new d e f above level old xs i x p a o h t w = record {
  root = w.root ∙ p.root;
  at = λ z. ap (λ m. fin.get m z) w.nodes ∙ get_insert e.nodes x (pending_entry (Some above) level x) z ∙ ap (cond (eqb x z) (Some (pending_entry (Some above) level x))) (p.at z)
      ∙ by z (eqb x z) refl ∙ ap (λ b. cond (b && not (old z)) (Some (pending_entry (Some above) level z)) (fin.get d.nodes z)) (sym (contains_next xs i x z a));
  made = λ z g. here z (eqb x z) refl (sym (ap (λ b. b && not (old z)) (contains_next xs i x z a)) ∙ g);
  grows = λ z g. w.grows z (p.grows z g);
  rest = let v : is_some (fin.get d.nodes x) ≡ false = ap is_some (sym (read_item d e above level old xs i x p a o)) ∙ t in
      p.rest ∙ ap (first_that (is_elsewhere d.nodes old)) (drop_at xs i x a) ∙ rw (h, v) refl;
}
  where
    by : (z : ℕ) (b : Bool) → eqb x z ≡ b → cond b (Some (pending_entry (Some above) level x)) (cond (contains (take i xs) z && not (old z)) (Some (pending_entry (Some above) level z)) (fin.get d.nodes z))
        ≡ cond (cond b true (contains (take i xs) z) && not (old z)) (Some (pending_entry (Some above) level z)) (fin.get d.nodes z)
    by z true q = let v : old z ≡ false = ap old (sym (eqb-true x z q)) ∙ h in rw v (ap (λ j. Some (pending_entry (Some above) level j)) (eqb-true x z q))
    by z false q = refl

    here : (z : ℕ) (b : Bool) → eqb x z ≡ b → (cond b true (contains (take i xs) z) && not (old z)) ≡ true → contains f.made z ≡ true
    here z true q g = subst (λ j. contains f.made j ≡ true) (eqb-true x z q) w.made
    here z false q g = w.grows z (p.made z g)

pub placed_end : (d e : Draft) (above level : ℕ) (old : ℕ → Bool) (xs : List ℕ) (i : ℕ) → Placed d e above level old xs i → length xs ≤ i → Places d e above level old xs
placed_end d e above level old xs i p h = record {
  root = p.root;
  at = λ z. p.at z ∙ ap (λ js. cond (contains js z && not (old z)) (Some (pending_entry (Some above) level z)) (fin.get d.nodes z)) (take_whole xs i h);
  made = λ z g. p.made z (ap (λ js. contains js z && not (old z)) (take_whole xs i h) ∙ g);
  grows = p.grows;
}

pub placed_none : (d e : Draft) (above level : ℕ) (old : ℕ → Bool) (xs : List ℕ) (i : ℕ) → Placed d e above level old xs i → length xs ≤ i → None ≡ first_that (is_elsewhere d.nodes old) xs
placed_none d e above level old xs i p h = sym (p.rest ∙ ap (first_that (is_elsewhere d.nodes old)) (drop_whole xs i h))
