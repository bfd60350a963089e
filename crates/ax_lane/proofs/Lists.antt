-- Lists of_tree packets.
use Rattle.std.proofs.Common.{◌≡◌, ◌≢◌, ◌⊎◌, ℕ, zero, suc, ◌+◌, arith, eqb, Bool, true, false, if◌then◌else◌, List, [], ◌∷◌, ◌++◌, length, inl, inr, sym, refl, ap, ◌∙◌, subst, ⊎_elim, eq-eqb, ne_eqb, append-nil}
use mathlib.Core.Option.{some, some-injective, some-ne-none}
use lib.ListN.{get_elem?}
use Rattle.ax_tree.specs.declared.packet.Packet.{Packet}
use Rattle.ax_lane.specs.Packets.{of_tree, places_of, Includes, AllOf}
use Rattle.ax_lane.specs.Lanes.{Back, IsBack, Backs}

pub of_tree-append : (t : ℕ) (ps qs : List Packet) → of_tree t (ps ++ qs) ≡ of_tree t ps ++ of_tree t qs
of_tree-append t [] qs = refl
of_tree-append t (p ∷ ps) qs = go (eqb p.tree t) (of_tree-append t ps qs)
  where
    go : (b : Bool) → of_tree t (ps ++ qs) ≡ of_tree t ps ++ of_tree t qs → (if b then p ∷ of_tree t (ps ++ qs) else of_tree t (ps ++ qs)) ≡ (if b then p ∷ of_tree t ps else of_tree t ps) ++ of_tree t qs
    go true e = ap (λ l. p ∷ l) e
    go false e = e

pub of_tree-own : (p : Packet) (t : ℕ) → p.tree ≡ t → of_tree t (p ∷ []) ≡ p ∷ []
of_tree-own p t e = ap (λ (b : Bool). if b then p ∷ [] else []) (eq-eqb p.tree t e)

pub of_tree-other : (p : Packet) (t : ℕ) → p.tree ≢ t → of_tree t (p ∷ []) ≡ []
of_tree-other p t n = ap (λ (b : Bool). if b then p ∷ [] else []) (ne_eqb p.tree t n)

pub of_tree-push : (t : ℕ) (ps : List Packet) (p : Packet) → p.tree ≡ t → of_tree t (ps ++ p ∷ []) ≡ of_tree t ps ++ p ∷ []
of_tree-push t ps p e = of_tree-append t ps (p ∷ []) ∙ ap (λ l. of_tree t ps ++ l) (of_tree-own p t e)

pub of_tree-push_other : (t : ℕ) (ps : List Packet) (p : Packet) → p.tree ≢ t → of_tree t (ps ++ p ∷ []) ≡ of_tree t ps
of_tree-push_other t ps p n = of_tree-append t ps (p ∷ []) ∙ (ap (λ l. of_tree t ps ++ l) (of_tree-other p t n) ∙ append-nil (of_tree t ps))

-- nothing is there of_tree a tree that is not known
pub of_tree-unknown : (t : ℕ) (trees : List ℕ) (ps : List Packet) → AllOf trees ps → ¬ (Includes trees t) → of_tree t ps ≡ []
of_tree-unknown t trees [] all not = refl
of_tree-unknown t trees (p ∷ ps) all not = ap (λ (b : Bool). if b then p ∷ of_tree t ps else of_tree t ps) (ne_eqb p.tree t (λ e. not (subst (Includes trees) e all.0))) ∙ of_tree-unknown t trees ps all.1 not

-- a packet more at the back, of the tree or of another
module _ (t : ℕ) (p : Packet) where
  pub places-push : (n : ℕ) (ps : List Packet) → p.tree ≡ t → places_of t n (ps ++ p ∷ []) ≡ places_of t n ps ++ (n + length ps) ∷ []
  places-push n [] e = ap (λ (b : Bool). if b then n ∷ [] else []) (eq-eqb p.tree t e) ∙ ap (λ k. k ∷ []) (omega arith)
  places-push n (q ∷ ps) e = go (eqb q.tree t) (places-push (suc n) ps e ∙ ap (λ k. places_of t (suc n) ps ++ k ∷ []) (omega arith))
    where
      go : (b : Bool) → places_of t (suc n) (ps ++ p ∷ []) ≡ places_of t (suc n) ps ++ (n + suc (length ps)) ∷ []
          → (if b then n ∷ places_of t (suc n) (ps ++ p ∷ []) else places_of t (suc n) (ps ++ p ∷ []))
          ≡ (if b then n ∷ places_of t (suc n) ps else places_of t (suc n) ps) ++ (n + suc (length ps)) ∷ []
      go true e = ap (λ l. n ∷ l) e
      go false e = e

  pub places-push_other : (n : ℕ) (ps : List Packet) → p.tree ≢ t → places_of t n (ps ++ p ∷ []) ≡ places_of t n ps
  places-push_other n [] ne = ap (λ (b : Bool). if b then n ∷ [] else []) (ne_eqb p.tree t ne)
  places-push_other n (q ∷ ps) ne = ap (λ l. if eqb q.tree t then n ∷ l else l) (places-push_other (suc n) ps ne)

pub places-unknown : (t n : ℕ) (trees : List ℕ) (ps : List Packet) → AllOf trees ps → ¬ (Includes trees t) → places_of t n ps ≡ []
places-unknown t n trees [] all not = refl
places-unknown t n trees (p ∷ ps) all not =
    ap (λ (b : Bool). if b then n ∷ places_of t (suc n) ps else places_of t (suc n) ps) (ne_eqb p.tree t (λ e. not (subst (Includes trees) e all.0)))
    ∙ places-unknown t (suc n) trees ps all.1 not

pub Includes-append : (xs ys : List ℕ) (t : ℕ) → Includes xs t → Includes (xs ++ ys) t
Includes-append [] ys t h = absurd h
Includes-append (x ∷ xs) ys t h = ⊎_elim (λ e. inl e) (λ r. inr (Includes-append xs ys t r)) h

pub Includes-last : (xs : List ℕ) (t : ℕ) → Includes (xs ++ t ∷ []) t
Includes-last [] t = inl refl
Includes-last (x ∷ xs) t = inr (Includes-last xs t)

pub AllOf-append : (ts : List ℕ) (ps qs : List Packet) → AllOf ts ps → AllOf ts qs → AllOf ts (ps ++ qs)
AllOf-append ts [] qs a b = b
AllOf-append ts (p ∷ ps) qs a b = (a.0, AllOf-append ts ps qs a.1 b)

pub AllOf-wider : (ts us : List ℕ) (ps : List Packet) → AllOf ts ps → AllOf (ts ++ us) ps
AllOf-wider ts us [] a = tt
AllOf-wider ts us (p ∷ ps) a = (Includes-append ts us p.tree a.0, AllOf-wider ts us ps a.1)

-- the packet in the middle is of_tree a known tree
pub AllOf-at : (ts : List ℕ) (ps qs : List Packet) (p : Packet) → AllOf ts (ps ++ p ∷ qs) → Includes ts p.tree
AllOf-at ts [] qs p a = a.0
AllOf-at ts (x ∷ xs) qs p a = AllOf-at ts xs qs p a.1

pub Backs-same : (log log' : List Packet) (trees trees' : List ℕ) (bs : List Back) → ((t : ℕ) → IsBack bs t → (of_tree t log' ≡ of_tree t log) × (places_of t 0 log' ≡ places_of t 0 log)) → ((t : ℕ) → Includes trees t → Includes trees' t) → Backs log trees bs → Backs log' trees' bs
Backs-same log log' trees trees' [] same more h = tt
Backs-same log log' trees trees' (b ∷ bs) same more h = let e = same b.0 (inl refl) in ((e.0 ∙ h.0.0, e.1 ∙ h.0.1), more b.0 h.1, Backs-same log log' trees trees' bs (λ t k. same t (inr k)) more h.2)

pub Backs-append : (log : List Packet) (trees : List ℕ) (bs cs : List Back) → Backs log trees bs → Backs log trees cs → Backs log trees (bs ++ cs)
Backs-append log trees [] cs h k = k
Backs-append log trees (b ∷ bs) cs h k = (h.0, h.1, Backs-append log trees bs cs h.2 k)

pub IsBack-known : (log : List Packet) (trees : List ℕ) (bs : List Back) (t : ℕ) → Backs log trees bs → IsBack bs t → Includes trees t
IsBack-known log trees [] t h k = absurd k
IsBack-known log trees (b ∷ bs) t h k = ⊎_elim (λ e. subst (Includes trees) e h.1) (λ r. IsBack-known log trees bs t h.2 r) k

pub IsBack-last : (bs : List Back) (b : Back) (t : ℕ) → IsBack (bs ++ b ∷ []) t → IsBack bs t ⊎ (b.0 ≡ t)
IsBack-last [] b t k = ⊎_elim (λ e. inr e) (λ r. absurd r) k
IsBack-last (x ∷ xs) b t k = ⊎_elim (λ e. inl (inl e)) (λ r. ⊎_elim (λ u. inl (inr u)) (λ e. inr e) (IsBack-last xs b t r)) k

module _ {A : Type 0} where
  pub at_snoc_or : (l : List A) (a b : A) (j : ℕ) → get_elem? (l ++ a ∷ []) j ≡ some b → (get_elem? l j ≡ some b) ⊎ ((j ≡ length l) × (a ≡ b))
  at_snoc_or [] a b zero e = inr (refl, some-injective a b e)
  at_snoc_or [] a b (suc j) e = absurd (some-ne-none b (sym e))
  at_snoc_or (x ∷ xs) a b zero e = inl e
  at_snoc_or (x ∷ xs) a b (suc j) e = ⊎_elim (λ t. inl t) (λ t. inr (ap suc t.0, t.1)) (at_snoc_or xs a b j e)
