-- Each move keeps the rule of_tree the lane.
use Rattle.std.proofs.Common.{◌≡◌, ◌≢◌, ℕ, zero, suc, ◌+◌, true, false, true≢false, List, [], ◌∷◌, ◌++◌, length, set, sym, refl, ap, ◌∙◌, subst, ⊎_elim, append_assoc}
use mathlib.Core.Logic.{dite}
use mathlib.Core.Option.{some, some-injective, some-ne-none}
use native.Mathlib.Decide.{ℕ_discrete}
use lib.ListN.{get_elem?}
use Rattle.crossbeam_queue.specs.Fifo.{Pushes, Pops, Forks, Merges, Learns}
use Rattle.crossbeam_queue.proofs.Lists.{at_set}
use Rattle.ax_tree.specs.declared.packet.Packet.{Packet}
use Rattle.ax_tree.specs.Packets.{IsGood}
use Rattle.ax_lane.specs.declared.holding.Holding.{Holding}
use Rattle.ax_lane.specs.Packets.{of_tree, places_of, Includes, AllOf}
use Rattle.ax_lane.specs.Lanes.{sender, taker, nobody, IsBack, IsInLog, Backs, EndFits, EndsApart, Lined, Sent, Taken, Left, hired, returned}
use Rattle.ax_tree.proofs.GoodFronts.{good_empty, good_front}
use Rattle.ax_lane.proofs.Lists.{of_tree-append, of_tree-push, of_tree-push_other, of_tree-unknown, places-push, places-push_other, places-unknown, Includes-append, Includes-last, AllOf-append, AllOf-wider, AllOf-at, Backs-same, Backs-append, IsBack-known, IsBack-last, at_snoc_or}

off : false ≡ true → ⊥
off e = true≢false (sym e)

apart_sym : (v w : Holding) → EndsApart v w → EndsApart w v
apart_sym v w a = ((λ p q e. a.0 q p (sym e)), a.2, a.1)

-- another view of_tree one pass
fits_set : (F : ℕ → Holding → Type 0) (views : List Holding) (port : ℕ) (w : Holding) → F port w → ((j : ℕ) (u : Holding) → j ≢ port → get_elem? views j ≡ some u → F j u)
    → (j : ℕ) (u : Holding) → get_elem? (set views port w) j ≡ some u → F j u
fits_set F views port w mine others j u e = ⊎_elim (λ (t : (j ≡ port) × (w ≡ u)). subst (λ (y : ℕ × Holding). F y.0 y.1) (λ i. (sym t.0 i, t.1 i)) mine)
    (λ (t : (j ≢ port) × (get_elem? views j ≡ some u)). others j u t.0 t.1) (at_set views port j w u e)

apart_set : (views : List Holding) (port : ℕ) (w : Holding) → ((i j : ℕ) (v u : Holding) → i ≢ j → get_elem? views i ≡ some v → get_elem? views j ≡ some u → EndsApart v u)
    → ((j : ℕ) (u : Holding) → j ≢ port → get_elem? views j ≡ some u → EndsApart w u)
    → (i j : ℕ) (v u : Holding) → i ≢ j → get_elem? (set views port w) i ≡ some v → get_elem? (set views port w) j ≡ some u → EndsApart v u
apart_set views port w old mine i j v u differ at_i at_j =
    ⊎_elim
    (λ (t : (i ≡ port) × (w ≡ v)).
    ⊎_elim
    (λ (q : (j ≡ port) × (w ≡ u)). absurd (differ (t.0 ∙ sym q.0)))
    (λ (q : (j ≢ port) × (get_elem? views j ≡ some u)). subst (λ (x : Holding). EndsApart x u) t.1 (mine j u q.0 q.1))
    (at_set views port j w u at_j))
    (λ (t : (i ≢ port) × (get_elem? views i ≡ some v)).
    ⊎_elim
    (λ (q : (j ≡ port) × (w ≡ u)). subst (λ (x : Holding). EndsApart v x) q.1 (apart_sym w v (mine i v t.0 t.1)))
    (λ (q : (j ≢ port) × (get_elem? views j ≡ some u)). old i j v u differ t.1 q.1)
    (at_set views port j w u at_j))
    (at_set views port i w v at_i)

pub begins : Lined [] (taker [] [] [] ∷ [])
begins = record { log = []; got = []; trees = []; seat = 0; whole = refl; good = good_empty; known = tt; each = only; apart = λ i j v w differ a b. absurd (differ (sole i v a ∙ sym (sole j w b))) }
  where
    sole : (i : ℕ) (v : Holding) → get_elem? (taker [] [] [] ∷ []) i ≡ some v → i ≡ 0
    sole zero v e = refl
    sole (suc i) v e = absurd (some-ne-none v (sym e))

    only : (i : ℕ) (v : Holding) → get_elem? (taker [] [] [] ∷ []) i ≡ some v → EndFits [] [] [] 0 i v
    only zero v e = subst (EndFits [] [] [] 0 0) (some-injective _ v e) record { sends = λ s. absurd (off s); takes = λ _. (refl, refl, refl, tt) }
    only (suc i) v e = absurd (some-ne-none v (sym e))

pub sends : (n port : ℕ) (v : Holding) (p : Packet) → v.sends ≡ true → p.tree ≡ v.tree → IsGood v.tree (v.sent ++ p ∷ []) → Pushes Lined n port v p (Sent v p)
sends n port v p may own good items views _ r at =
    let f = r.each port v at in
    let mine = f.sends may in
    let place : ℕ = 0 + length r.log in
    let w : Holding = sender v.tree (v.sent ++ p ∷ []) (v.places ++ place ∷ []) in
    let log : List Packet = r.log ++ p ∷ [] in
    let grown : of_tree v.tree log ≡ v.sent ++ p ∷ [] = of_tree-push v.tree r.log p own ∙ ap (λ l. l ++ p ∷ []) mine.0.0 in
    let placed : places_of v.tree 0 log ≡ v.places ++ place ∷ [] = places-push v.tree p 0 r.log own ∙ ap (λ l. l ++ place ∷ []) mine.0.1 in (
      w,
      record {
        log = log;
        got = r.got;
        trees = r.trees;
        seat = r.seat;
        whole = ap (λ l. l ++ p ∷ []) r.whole ∙ append_assoc r.got items (p ∷ []);
        good = λ t. dite (ℕ_discrete v.tree t) (λ e. subst (λ (k : ℕ). IsGood k (of_tree k log)) e (subst (IsGood v.tree) (sym grown) good)) (λ ne. subst (IsGood t) (sym (of_tree-push_other t r.log p (λ e. ne (sym own ∙ e)))) (r.good t));
        known = AllOf-append r.trees r.log (p ∷ []) r.known (subst (Includes r.trees) (sym own) mine.1, tt);
        each = fits_set (EndFits log r.got r.trees r.seat) views port w record { sends = λ _. ((grown, placed), mine.1, refl); takes = λ e. absurd (off e) }
            (λ j u other there.
            let g = r.each j u there in
            let a = r.apart port j v u (λ e. other (sym e)) at there in
            record {
              sends = λ s. let h = g.sends s in
                  let ne : p.tree ≢ u.tree = λ e. a.0 may s (sym own ∙ e) in
                  ((of_tree-push_other u.tree r.log p ne ∙ h.0.0, places-push_other u.tree p 0 r.log ne ∙ h.0.1), h.1, h.2);
              takes = λ t. let h = g.takes t in (
                h.0,
                h.1,
                h.2,
                Backs-same r.log log r.trees r.trees u.back
                    (λ k is. let ne : p.tree ≢ k = λ e. a.2 t may (subst (IsBack u.back) (sym e ∙ own) is) in (of_tree-push_other k r.log p ne, places-push_other k p 0 r.log ne)) (λ k x. x) h.3,
              );
            });
        apart = apart_set views port w r.apart (λ j u other there. let a = r.apart port j v u (λ e. other (sym e)) at there in ((λ _ s. a.0 may s), (λ t. absurd (off t)), (λ t _. a.2 t may)));
      },
      (place, refl),
    )

pub takes : (port : ℕ) (v : Holding) → v.takes ≡ true → v.sends ≡ false → Pops Lined port v (Taken v)
takes port v may idle x items views r at =
    let f = r.each port v at in
    let mine = f.takes may in
    let w : Holding = taker (v.got ++ x ∷ []) v.trees v.back in
    let got : List Packet = r.got ++ x ∷ [] in
    let whole : r.log ≡ got ++ items = r.whole ∙ sym (append_assoc r.got (x ∷ []) items) in
    let mine_got : v.got ++ x ∷ [] ≡ got = ap (λ l. l ++ x ∷ []) mine.1 in (
      w,
      record {
        log = r.log;
        got = got;
        trees = r.trees;
        seat = r.seat;
        whole = whole;
        good = r.good;
        known = r.known;
        each = fits_set (EndFits r.log got r.trees r.seat) views port w record { sends = λ e. absurd (off e); takes = λ _. (mine.0, mine_got, mine.2, mine.3) }
            (λ j u other there. let g = r.each j u there in record { sends = g.sends; takes = λ t. absurd (other ((g.takes t).0 ∙ sym mine.0)) });
        apart = apart_set views port w r.apart (λ j u other there. let a = r.apart port j v u (λ e. other (sym e)) at there in ((λ s. absurd (off s)), (λ _ s. a.1 may s), (λ t s. absurd (off s))));
      },
      (
        refl,
        subst (λ (l : List ℕ). Includes l x.tree) (sym mine.2) (AllOf-at r.trees r.got items x (subst (AllOf r.trees) r.whole r.known)),
        subst (λ (l : List Packet). IsGood x.tree (of_tree x.tree l)) (sym mine_got) (good_front x.tree (of_tree x.tree got) (of_tree x.tree items) (subst (IsGood x.tree) (ap (of_tree x.tree) whole ∙ of_tree-append x.tree got items) (r.good x.tree))),
      ),
    )

pub learns : (port : ℕ) (v : Holding) → v.takes ≡ true → Learns Lined port v (Left v)
learns port v may items views r at =
    let mine = (r.each port v at).takes may in
    let log : r.log ≡ v.got ++ items = r.whole ∙ ap (λ l. l ++ items) (sym mine.1) in
    (subst (λ (y : List Packet × List ℕ). Backs y.0 y.1 v.back) (λ i. (log i, sym mine.2 i)) mine.3, subst (λ (y : List Packet × List ℕ). AllOf y.1 y.0) (λ i. (log i, sym mine.2 i)) r.known, λ t. subst (λ (l : List Packet). IsGood t (of_tree t l)) log (r.good t))

pub hires : (port : ℕ) (v : Holding) (tree : ℕ) → v.takes ≡ true → v.sends ≡ false → ¬ (Includes v.trees tree) → Forks Lined port v (hired tree v) (sender tree [] [])
hires port v tree may idle new items views r at =
    let mine = (r.each port v at).takes may in
    let left : Holding = hired tree v in
    let right : Holding = sender tree [] [] in
    let trees : List ℕ = r.trees ++ tree ∷ [] in
    let vs : List Holding = set views port left in
    let fresh : ¬ (Includes r.trees tree) = λ h. new (subst (λ (l : List ℕ). Includes l tree) (sym mine.2) h) in
    let none : IsInLog r.log tree [] [] = (of_tree-unknown tree r.trees r.log r.known fresh, places-unknown tree 0 r.trees r.log r.known fresh) in
    let more : (t : ℕ) → Includes r.trees t → Includes trees t = λ t h. Includes-append r.trees (tree ∷ []) t h in
    let old : (j : ℕ) (u : Holding) → get_elem? vs j ≡ some u → EndFits r.log r.got trees r.seat j u =
    fits_set (EndFits r.log r.got trees r.seat) views port left
    record { sends = λ e. absurd (off e); takes = λ _. (mine.0, mine.1, ap (λ l. l ++ tree ∷ []) mine.2, Backs-same r.log r.log r.trees trees v.back (λ t _. (refl, refl)) more mine.3) }
    (λ j u other there. let g = r.each j u there in record { sends = λ s. let h = g.sends s in (h.0, more u.tree h.1, h.2); takes = λ t. absurd (other ((g.takes t).0 ∙ sym mine.0)) }) in
    let old_apart = apart_set views port left r.apart (λ j u other there. let a = r.apart port j v u (λ e. other (sym e)) at there in ((λ s. absurd (off s)), (λ _ s. a.1 may s), (λ t s. absurd (off s)))) in
    let new_apart : (j : ℕ) (u : Holding) → get_elem? vs j ≡ some u → EndsApart right u =
    fits_set (λ _ u. EndsApart right u) views port left ((λ _ s. absurd (off s)), (λ t. absurd (off t)), (λ _ _ is. fresh (IsBack-known r.log r.trees v.back tree mine.3 is)))
    (λ j u other there. let g = r.each j u there in ((λ _ s e. fresh (subst (Includes r.trees) (sym e) (g.sends s).1)), (λ t. absurd (off t)), (λ t. absurd (other ((g.takes t).0 ∙ sym mine.0))))) in
    record {
      log = r.log;
      got = r.got;
      trees = trees;
      seat = r.seat;
      whole = r.whole;
      good = r.good;
      known = AllOf-wider r.trees (tree ∷ []) r.log r.known;
      each = λ j u e. ⊎_elim (old j u) (λ (t : (j ≡ length vs) × (right ≡ u)). subst (EndFits r.log r.got trees r.seat j) t.1 record { sends = λ _. (none, Includes-last r.trees tree, refl); takes = λ e. absurd (off e) }) (at_snoc_or vs right u j e);
      apart = λ i j a b differ at_i at_j.
          ⊎_elim
          (λ (t : get_elem? vs i ≡ some a).
          ⊎_elim (λ (q : get_elem? vs j ≡ some b). old_apart i j a b differ t q) (λ (q : (j ≡ length vs) × (right ≡ b)). subst (λ (x : Holding). EndsApart a x) q.1 (apart_sym right a (new_apart i a t))) (at_snoc_or vs right b j at_j))
          (λ (t : (i ≡ length vs) × (right ≡ a)).
          ⊎_elim (λ (q : get_elem? vs j ≡ some b). subst (λ (x : Holding). EndsApart x b) t.1 (new_apart j b q)) (λ (q : (j ≡ length vs) × (right ≡ b)). absurd (differ (t.0 ∙ sym q.0))) (at_snoc_or vs right b j at_j))
          (at_snoc_or vs right a i at_i);
    }

pub returns : (port : ℕ) (v : Holding) (other : ℕ) (w : Holding) → v.takes ≡ true → v.sends ≡ false → w.sends ≡ true → Merges Lined port v other w (returned v w) nobody
returns port v other w may idle gives items views r at differ at' =
    let both : Holding = returned v w in
    let was : get_elem? views other ≡ some w = ⊎_elim (λ (t : (other ≡ port) × (both ≡ w)). absurd (differ t.0)) (λ (t : (other ≢ port) × (get_elem? views other ≡ some w)). t.1) (at_set views port other both w at') in
    let mine = (r.each port v at).takes may in
    let theirs = (r.each other w was).sends gives in
    let vs : List Holding = set views port both in
    let Fit : ℕ → Holding → Type 0 = EndFits r.log r.got r.trees r.seat in
    let first : (j : ℕ) (u : Holding) → get_elem? vs j ≡ some u → Fit j u =
    fits_set Fit views port both record { sends = λ e. absurd (off e); takes = λ _. (mine.0, mine.1, mine.2, Backs-append r.log r.trees v.back ((w.tree, w.sent, w.places) ∷ []) mine.3 (theirs.0, theirs.1, tt)) } (λ j u _ there. r.each j u there) in
    -- among all but the sender that was taken back
    let rest : (j : ℕ) (u : Holding) → j ≢ port → j ≢ other → get_elem? views j ≡ some u → EndsApart both u = λ j u apart apart' there.
    let a = r.apart port j v u (λ e. apart (sym e)) at there in
    let b = r.apart other j w u (λ e. apart' (sym e)) was there in
    ((λ s. absurd (off s)), (λ _ s is. ⊎_elim (a.1 may s) (b.0 gives s) (IsBack-last v.back (w.tree, w.sent, w.places) u.tree is)), (λ t s. absurd (off s))) in
    let none : (u : Holding) → EndsApart nobody u = λ u. ((λ s. absurd (off s)), (λ t. absurd (off t)), (λ _ s. absurd (off s))) in
    record {
      log = r.log;
      got = r.got;
      trees = r.trees;
      seat = r.seat;
      whole = r.whole;
      good = r.good;
      known = r.known;
      each = fits_set Fit vs other nobody record { sends = λ e. absurd (off e); takes = λ e. absurd (off e) } (λ j u _ there. first j u there);
      apart = λ i j a b far at_i at_j.
          ⊎_elim
          (λ (t : (i ≡ other) × (nobody ≡ a)). subst (λ (x : Holding). EndsApart x b) t.1 (none b))
          (λ (t : (i ≢ other) × (get_elem? vs i ≡ some a)).
          ⊎_elim
          (λ (q : (j ≡ other) × (nobody ≡ b)). subst (λ (x : Holding). EndsApart a x) q.1 (apart_sym nobody a (none a)))
          (λ (q : (j ≢ other) × (get_elem? vs j ≡ some b)).
          ⊎_elim
          (λ (x : (i ≡ port) × (both ≡ a)).
          ⊎_elim
          (λ (y : (j ≡ port) × (both ≡ b)). absurd (far (x.0 ∙ sym y.0)))
          (λ (y : (j ≢ port) × (get_elem? views j ≡ some b)). subst (λ (z : Holding). EndsApart z b) x.1 (rest j b y.0 q.0 y.1))
          (at_set views port j both b q.1))
          (λ (x : (i ≢ port) × (get_elem? views i ≡ some a)).
          ⊎_elim
          (λ (y : (j ≡ port) × (both ≡ b)). subst (λ (z : Holding). EndsApart a z) y.1 (apart_sym both a (rest i a x.0 t.0 x.1)))
          (λ (y : (j ≢ port) × (get_elem? views j ≡ some b)). r.apart i j a b far x.1 y.1)
          (at_set views port j both b q.1))
          (at_set views port i both a t.1))
          (at_set vs other j nobody b at_j))
          (at_set vs other i nobody a at_i);
    }
