-- Good packets: a front of a good list is good, and so is the list with a good packet more.
use Rattle.std.proofs.Common.{ℕ, zero, suc, ◌≡◌, ◌≤◌, ◌<◌, ◌⊎◌, inl, inr, cond, eqb, List, [], ◌∷◌, ◌++◌, length, refl, sym, ap, ◌∙◌, subst, arith, Some, Ok}
use Rattle.std.specs.Prelude.{slice_get}
use Rattle.std.specs.List.{flat_map}
use Rattle.std.proofs.lemmas.List.{take-append-le}
use Rattle.ax_tree.specs.declared.edit.Edit.{Edit}
use Rattle.ax_tree.specs.declared.packet.Packet.{Packet}
use Rattle.ax_tree.specs.Tree.{Tree, empty}
use Rattle.ax_tree.specs.Updates.{applied_all}
use Rattle.ax_tree.specs.Journals.{edit_taken}
use Rattle.ax_tree.specs.Packets.{edited_all, source_at, GoodAt, IsGood}

-- ---- lists

pub slice_get-front : {A : Type 0} (xs ys : List A) (k : ℕ) → k < length xs → slice_get (xs ++ ys) k ≡ slice_get xs k
slice_get-front [] ys k h = absurd (omega arith)
slice_get-front (x ∷ xs) ys zero h = refl
slice_get-front (x ∷ xs) ys (suc k) h = slice_get-front xs ys k (omega arith)

slice_get-seam : {A : Type 0} (xs : List A) (x : A) (k : ℕ) (y : A) → slice_get (xs ++ (x ∷ [])) k ≡ Some y → (k < length xs) ⊎ ((k ≡ length xs) × (x ≡ y))
slice_get-seam [] x zero y h = inr (refl, cc)
slice_get-seam [] x (suc k) y h = absurd (cc)
slice_get-seam (z ∷ xs) x zero y h = inl (omega arith)
slice_get-seam (z ∷ xs) x (suc k) y h = go (slice_get-seam xs x k y h)
  where
    go : (k < length xs) ⊎ ((k ≡ length xs) × (x ≡ y)) → (suc k < suc (length xs)) ⊎ ((suc k ≡ suc (length xs)) × (x ≡ y))
    go (inl l) = inl (omega (arith, l))
    go (inr e) = inr (ap suc e.0, e.1)

slice_get_short : {A : Type 0} (xs : List A) (k : ℕ) (y : A) → slice_get xs k ≡ Some y → k < length xs
slice_get_short [] k y h = absurd (cc)
slice_get_short (x ∷ xs) zero y h = omega arith
slice_get_short (x ∷ xs) (suc k) y h = omega (arith, slice_get_short xs k y h)

pub edited_all-append : (xs ys : List Edit) (s : Tree) → edited_all (xs ++ ys) s ≡ edited_all ys (edited_all xs s)
edited_all-append [] ys s = refl
edited_all-append (x ∷ xs) ys s = edited_all-append xs ys (edit_taken x s)

abbrev pub slips : List Packet → List Edit
slips ps = flat_map (λ (p : Packet). p.slip) ps

-- ---- good packets

-- up to a front, more packets change no source
pub source_at-front : (t : ℕ) (xs ys : List Packet) (k : ℕ) → k ≤ length xs → source_at t (xs ++ ys) k ≡ source_at t xs k
source_at-front t xs ys k h = ap (λ ps. edited_all (slips ps) (empty t)) (take-append-le k xs ys h)

good_at-front : (t : ℕ) (xs ys : List Packet) (k : ℕ) (p : Packet) → k < length xs → GoodAt t xs k p → GoodAt t (xs ++ ys) k p
good_at-front t xs ys k p h g = record {
  of_tree = g.of_tree;
  pass = g.pass;
  base = g.base;
  gives = ap (λ s. applied_all p.bundle (cond (eqb p.base.0 0) (empty t) s)) (source_at-front t xs ys k (omega arith))
      ∙ (g.gives ∙ ap Ok (sym (source_at-front t xs ys (suc k) (omega arith))));
}

good_at-back : (t : ℕ) (xs ys : List Packet) (k : ℕ) (p : Packet) → k < length xs → GoodAt t (xs ++ ys) k p → GoodAt t xs k p
good_at-back t xs ys k p h g = record {
  of_tree = g.of_tree;
  pass = g.pass;
  base = g.base;
  gives = ap (λ s. applied_all p.bundle (cond (eqb p.base.0 0) (empty t) s)) (sym (source_at-front t xs ys k (omega arith)))
      ∙ (g.gives ∙ ap Ok (source_at-front t xs ys (suc k) (omega arith)));
}

-- A front of a good list is good.
pub good_front : (t : ℕ) (xs ys : List Packet) → IsGood t (xs ++ ys) → IsGood t xs
good_front t xs ys g = record {
  at = λ k p h. let l : k < length xs = slice_get_short xs k p h in
      good_at-back t xs ys k p l (g.at k p (slice_get-front xs ys k l ∙ h));
}

pub good_push : (t : ℕ) (xs : List Packet) (p : Packet) → IsGood t xs → GoodAt t (xs ++ (p ∷ [])) (length xs) p → IsGood t (xs ++ (p ∷ []))
good_push t xs p g last = record {
  at = λ k q h. go k q h (slice_get-seam xs p k q h);
}
  where
    go : (k : ℕ) (q : Packet) → slice_get (xs ++ (p ∷ [])) k ≡ Some q → (k < length xs) ⊎ ((k ≡ length xs) × (p ≡ q)) → GoodAt t (xs ++ (p ∷ [])) k q
    go k q h (inl l) = good_at-front t xs (p ∷ []) k q l (g.at k q (sym (slice_get-front xs (p ∷ []) k l) ∙ h))
    go k q h (inr e) = subst (λ (r : Packet). GoodAt t (xs ++ (p ∷ [])) k r) e.1 (subst (λ (j : ℕ). GoodAt t (xs ++ (p ∷ [])) j p) (sym e.0) last)

pub good_empty : (t : ℕ) → IsGood t []
good_empty t = record { at = λ k p there. absurd (cc) }
